-- The answer word of the listing of a whole file loses nothing, where the file has fewer than 2^40 bytes. Assumes nothing.
use mathlib.Core.Path.{◌≡◌, sym, ap, subst, ◌∙◌}
use mathlib.Core.Bool.{Bool}
use mathlib.Core.List.{List}
use Prim.Native.Nat.{ℕ, ◌^◌, ◌<◌}
use native.Mathlib.Omega.{arith}
use lib.Dec.{leb}
use lib.ListN.{length}
use Rattle.cursor.specs.Answer.{Answer, given, refused, must, Result}
use Rattle.cursor.specs.Reads.{starts_with}
use Rattle.cursor.specs.Refusals.{wrong_file}
use Rattle.log_file.specs.Header.{file_header_end, file_magic, file_at}
use Rattle.log_file.specs.Listing.{file_rows, FileListsOn, FileLists}
use Rattle.log_file.specs.declared.FileHeader.{FileHeader}
use Rattle.log_file.proofs.Listed.{rows_length, most_rows}
use Rattle.doortumble.specs.Calls.{packed_of, ListFilePacked}
use Rattle.promises.specs.Packed.{unpacked_of}
use Rattle.promises.proofs.Fits.{Fits, on}
use Rattle.promises.proofs.Packed.{InBits, answer_kept, small_bits, must_fits, chosen_bits}

-- a file is refused at 0
pub file_fits : (s : List ℕ) → Fits 65536 (file_at s)
unfolding file_at
file_fits s =
    on 65536 (must (leb file_header_end (length s)) wrong_file 0) _ (must_fits (leb file_header_end (length s)) wrong_file (omega arith)) (λ x n h.
    on 65536 (must (starts_with s file_magic) wrong_file 0) _ (must_fits (starts_with s file_magic) wrong_file (omega arith)) (λ y m k. omega arith))

-- and has at most 4,645 rows of six words for each begun 65,536 bytes after its block size
file_bits : (s : List ℕ) (recovery : Bool) (lent left : List ℕ) (o : Result ℕ) (a : Answer FileHeader) → length s < 2 ^ 40 → Fits 65536 a
    → FileListsOn s recovery lent left o a → InBits o
file_bits s recovery lent left o (given h n) l f (lists, (r, x)) =
    let few = most_rows s h.block recovery lists r in
    chosen_bits (leb (length (file_rows h.block lists)) (length lent)) _ _ o _ _ (omega (arith, few, l))
    (omega arith, omega (arith, few, l, rows_length h.block 0 lists)) x
file_bits s recovery lent left o (refused k p) l f (x, y) = subst InBits (sym x) (small_bits k p f)

module _ (s : List ℕ) (short : length s < 2 ^ 40) (recovery : Bool) (lent left : List ℕ) where
  pub list_file_kept : (o : Result ℕ) → FileLists s recovery lent left o → unpacked_of (packed_of o) ≡ o
  list_file_kept o x = answer_kept o (file_bits s recovery lent left o (file_at s) short (file_fits s) x)

  -- what a caller takes from the call's word is the answer that the definition allows
  pub list_file_told : (word : ℕ) → ListFilePacked s recovery lent left word → FileLists s recovery lent left (unpacked_of word)
  list_file_told word (o, (e, x)) = subst (FileLists s recovery lent left) (sym (ap unpacked_of e ∙ list_file_kept o x)) x
