-- `log_file`: each public call allows one answer, and the listing one content of the lent rows. Nothing that happens in one chunk changes
-- another's listing. Assumes nothing.
use Rattle.std.specs.Prelude as Std
use Rattle.std.specs.Prelude.{Ok, Err}
use Rattle.cursor.specs.declared.Refusal.{Refusal}
use mathlib.Core.Path.{◌≡◌, refl, sym, subst, ◌∙◌}
use mathlib.Core.Bool.{Bool, true, false}
use mathlib.Core.List.{List}
use Prim.Native.Nat.{ℕ, ◌+◌, ◌*◌, ◌≤◌}
use contract.Lifetimes.{Lfts}
use borrow.Fn.Kinds.{Dens, res_t, ended_of}
use denote.Triple.Clauses.{AtExit}
use lib.Dec.{leb}
use lib.ListN.{length, take, drop}
use Rattle.cursor.specs.Answer.{Answer, given, refused, Result, gives, refuses, Maybe, just, nothing}
use Rattle.cursor.specs.Answers.{count_answer}
use Rattle.cursor.specs.declared.Part.{Part}
use Rattle.chunk.specs.Walk.{Reply}
use Rattle.chunk.specs.Whole.{most_answers}
use Rattle.log_file.specs.Header.{file_at}
use Rattle.log_file.specs.Chunks.{chunk_start, piece_count}
use Rattle.log_file.specs.Listing.{FileItems, FileRowsAnswer, FileListsOn, file_rows, chunk_rows, row_count}
use Rattle.log_file.specs.Answers.{file_answer, file_checksum_answer, piece_answer}
use Rattle.log_file.specs.declared.FileHeader.{FileHeader}
use Rattle.log_file.specs.declared.Piece.{Piece}
use Rattle.log_file.specs.declared.Piece.TheVariants as P
use Rattle.log_file.proofs.Listed.{items_one, most_rows}
use Rattle.log_file.proofs.Apart.{same_chunks, other_rows}
use Rattle.log_file.proofs.read_file_header.Kinds as headerK
use Rattle.log_file.proofs.read_file_header.Reads as headerR
use Rattle.log_file.proofs.check_file_header.Kinds as checkK
use Rattle.log_file.proofs.check_file_header.Reads as checkR
use Rattle.log_file.proofs.lay_file_header.Kinds as layK
use Rattle.log_file.proofs.lay_file_header.Reads as layR
use Rattle.log_file.proofs.piece_at.Kinds as pieceK
use Rattle.log_file.proofs.piece_at.Reads as pieceR
use Rattle.log_file.proofs.list_file.Kinds as listK
use Rattle.log_file.proofs.list_file.Reads as listR
use Rattle.promises.proofs.One.{Single, counted_one, read_back, value_of}
use Rattle.promises.proofs.OfChunk.{chosen_one}

pub file_one : (x y : Std.Result FileHeader Refusal) (b : Answer FileHeader) → file_answer x ≡ b → file_answer y ≡ b → x ≡ y
file_one = read_back file_answer value_of back
  where
    back : (x : Std.Result FileHeader Refusal) → value_of (file_answer x) ≡ x
    back (Ok h) = refl
    back (Err r) = refl

pub check_one : (x y : Std.Result Bool Refusal) (b : Answer Bool) → file_checksum_answer x ≡ b → file_checksum_answer y ≡ b → x ≡ y
check_one = read_back file_checksum_answer value_of back
  where
    back : (x : Std.Result Bool Refusal) → value_of (file_checksum_answer x) ≡ x
    back (Ok true) = refl
    back (Ok false) = refl
    back (Err r) = refl

abbrev standing_back : Part → Result Unit → Piece
standing_back p (gives u) = P.Chunk p
standing_back p (refuses k c) = P.Refused p (record { number = k; place = c })

abbrev piece_back : Result (Maybe (Part × Result Unit)) → Piece
piece_back (gives (just (p, o))) = standing_back p o
piece_back (gives nothing) = P.Nothing
piece_back (refuses k c) = P.NoFile (record { number = k; place = c })

pub piece_one : (x y : Piece) (b : Result (Maybe (Part × Result Unit))) → piece_answer x ≡ b → piece_answer y ≡ b → x ≡ y
piece_one = read_back piece_answer piece_back back
  where
    back : (x : Piece) → piece_back (piece_answer x) ≡ x
    back (P.Chunk p) = refl
    back (P.Refused p r) = refl
    back P.Nothing = refl
    back (P.NoFile r) = refl

pub read_file_header : Single 1 headerK.ps headerK.r headerR.Post
read_file_header κs a x y s t p q = file_one x y _ p q

pub check_file_header : Single 1 checkK.ps checkK.r checkR.Post
check_file_header κs a x y s t p q = check_one x y _ p q

-- answer and lent words
pub lay_file_header : (κs : Lfts 2) (a : Dens κs layK.ps) (x y : (res_t layK.r κs).Denot) (s t : AtExit (ended_of 2 layK.ps layK.r) κs)
    → layR.Post κs a x s → layR.Post κs a y t → (x ≡ y) × (s.1.0.now ≡ t.1.0.now)
lay_file_header κs a x y s t p q = (counted_one x y _ p.0 q.0, p.1 ∙ sym q.1)

pub piece_at : Single 1 pieceK.ps pieceK.r pieceR.Post
piece_at κs a x y s t p q = piece_one x y _ p q

pub file_lists_by : (s : List ℕ) (recover : Bool) (lent m n : List ℕ) (x y : Result ℕ) (f : Answer FileHeader) → FileListsOn s recover lent m x f
    → FileListsOn s recover lent n y f → (x ≡ y) × (m ≡ n)
file_lists_by s recover lent m n x y (given h k) (lists, (r, c)) (others, (q, d)) =
    let e = items_one s h.block recover 0 others lists q r in
    chosen_one (leb (length (file_rows h.block lists)) (length lent)) _ _ x y _ _ m n c
    (subst (λ (l : List (List Reply)). FileRowsAnswer h.block l lent n y) e d)
file_lists_by s recover lent m n x y (refused k p) (a, b) (c, d) = (a ∙ sym c, b ∙ sym d)

-- answer and lent rows
pub list_file : (κs : Lfts 2) (a : Dens κs listK.ps) (x y : (res_t listK.r κs).Denot) (s t : AtExit (ended_of 2 listK.ps listK.r) κs)
    → listR.Post κs a x s → listR.Post κs a y t → (x ≡ y) × (s.1.1.0.now ≡ t.1.1.0.now)
list_file κs a x y s t p q =
    let e = file_lists_by _ _ _ _ _ (count_answer x) (count_answer y) (file_at _) p q in
    (counted_one x y _ e.0 refl, e.1)

-- two files of the same length and header fields that differ inside chunk k alone: every other chunk has the same rows
pub damage_stays : (s t : List ℕ) (h : FileHeader) (n k : ℕ) (recover : Bool) → file_at s ≡ given h n → file_at t ≡ given h n → length s ≡ length t
    → take (chunk_start h.block k) s ≡ take (chunk_start h.block k) t
    → drop (chunk_start h.block (k + 1)) s ≡ drop (chunk_start h.block (k + 1)) t
    → (xs ys : List (List Reply)) → FileItems s h.block recover xs → FileItems t h.block recover ys
    → (j : ℕ) → (j ≡ k → ⊥) → chunk_rows h.block xs j ≡ chunk_rows h.block ys j
damage_stays s t h n k recover e f long before after xs ys p q j d =
    other_rows s t h.block recover k long (same_chunks s t h.block k before after) xs ys p q j d

-- at most 4,645 rows for each begun 65,536 bytes after the block size
pub rows_bound : (s : List ℕ) (block : ℕ) (recover : Bool) (lists : List (List Reply)) → FileItems s block recover lists
    → row_count lists ≤ most_answers * piece_count (length s) block
rows_bound s block recover lists p = most_rows s block recover lists p
