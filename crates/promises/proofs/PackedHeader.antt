-- The answer words of the header calls lose nothing: a chunk or a file is refused at 0, and its header has twelve or eleven words.
-- Assumes nothing.
use mathlib.Core.Path.{◌≡◌}
use mathlib.Core.List.{List}
use Prim.Native.Nat.{ℕ, ◌^◌, ◌<◌}
use native.Mathlib.Omega.{arith}
use lib.Dec.{leb}
use lib.ListN.{length}
use Rattle.cursor.specs.Answer.{Answer, given, refused, Result, gives, refuses}
use Rattle.cursor.specs.Lent.{lent_answer}
use Rattle.cursor.proofs.Choice.{either}
use Rattle.record.specs.Chunk.{fields_at, header_words_on, header_words}
use Rattle.record.specs.declared.Fields.{Fields}
use Rattle.log_file.specs.Header.{file_at, file_words_on, file_words}
use Rattle.log_file.specs.declared.FileHeader.{FileHeader}
use Rattle.doortumble.specs.Calls.{packed_of}
use Rattle.promises.specs.Packed.{unpacked_of}
use Rattle.promises.proofs.Fits.{Fits}
use Rattle.promises.proofs.Packed.{InBits, answer_kept, small_bits, fields_fit}
use Rattle.promises.proofs.PackedFile.{file_fits}

-- words, or a refusal of the call's own
abbrev Short : Result (List ℕ) → Type 0
Short (gives words) = length words < 2 ^ 40
Short (refuses k p) = InBits (refuses k p)

lent_bits : (w : Result (List ℕ)) (lent : List ℕ) → Short w → InBits (lent_answer w lent)
lent_bits (gives words) lent h = either InBits (leb (length words) (length lent)) _ _ (λ e. h) (λ e. (omega arith, h))
lent_bits (refuses k p) lent h = h

chunk_short : (s : List ℕ) (a : Answer Fields) → Fits 65536 a → Short (header_words_on s a)
chunk_short s (given f n) h = omega arith
chunk_short s (refused k p) h = small_bits k p h

file_short : (s : List ℕ) (a : Answer FileHeader) → Fits 65536 a → Short (file_words_on s a)
file_short s (given f n) h = omega arith
file_short s (refused k p) h = small_bits k p h

pub chunk_header_kept : (s lent : List ℕ) → unpacked_of (packed_of (lent_answer (header_words s) lent)) ≡ lent_answer (header_words s) lent
chunk_header_kept s lent = answer_kept _ (lent_bits (header_words s) lent (chunk_short s (fields_at s) (fields_fit s)))

pub file_header_kept : (s lent : List ℕ) → unpacked_of (packed_of (lent_answer (file_words s) lent)) ≡ lent_answer (file_words s) lent
file_header_kept s lent = answer_kept _ (lent_bits (file_words s) lent (file_short s (file_at s) (file_fits s)))
