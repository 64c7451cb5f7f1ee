-- `chunk`: each public call allows one answer, and the listing one content of the lent rows. Where a contract says "the least", one is all
-- that "the least" allows. Assumes nothing.
use mathlib.Core.Path.{◌≡◌, refl, sym, subst, ◌∙◌}
use mathlib.Core.Bool.{Bool, true, false}
use mathlib.Core.List.{List}
use Prim.Native.Nat.{ℕ}
use contract.Lifetimes.{Lfts}
use borrow.Fn.Kinds.{Dens, res_t, ended_of}
use denote.Triple.Clauses.{AtExit}
use lib.Dec.{leb}
use lib.ListN.{length, get_or}
use Rattle.cursor.specs.Answer.{Answer, given, refused, Result}
use Rattle.cursor.specs.Answers.{count_answer}
use Rattle.record.specs.Chunk.{fields_at}
use Rattle.record.specs.declared.Fields.{Fields}
use Rattle.chunk.specs.Walk.{Choose, Reply}
use Rattle.chunk.specs.Listing.{RowsAnswer, ListsOn, rows_of, row_words}
use Rattle.chunk.specs.declared.Walk.{Walk}
use Rattle.chunk.specs.declared.Row.{Row}
use Rattle.chunk.proofs.OneStep.{stepped_one, resync_one}
use Rattle.chunk.proofs.Counting.{runs_one}
use Rattle.chunk.proofs.Walk.start.Kinds as startK
use Rattle.chunk.proofs.Walk.start.Reads as startR
use Rattle.chunk.proofs.Walk.step.Kinds as stepK
use Rattle.chunk.proofs.Walk.step.Reads as stepR
use Rattle.chunk.proofs.resync_after.Kinds as resyncK
use Rattle.chunk.proofs.resync_after.Reads as resyncR
use Rattle.chunk.proofs.Item.row.Kinds as rowK
use Rattle.chunk.proofs.Item.row.Reads as rowR
use Rattle.chunk.proofs.Row.of.Kinds as ofK
use Rattle.chunk.proofs.Row.of.Reads as ofR
use Rattle.chunk.proofs.list.Kinds as listK
use Rattle.chunk.proofs.list.Reads as listR
use Rattle.promises.proofs.One.{Single, counted_one, read_back}

pub start : Single 0 startK.ps startK.r startR.Post
start κs a x y s t p q = p ∙ sym q

pub step : Single 1 stepK.ps stepK.r stepR.Post
step κs a x y s t p q = stepped_one _ _ x y p q

pub resync_after : Single 1 resyncK.ps resyncK.r resyncR.Post
resync_after κs a x y s t p q = resync_one _ _ x y p q

-- of two claims that a test chooses from, each fixes the answer and the rows
pub chosen_one : (b : Bool) (c r x y : Result ℕ) (w v m n : List ℕ)
    → Choose b ((x ≡ c) × (m ≡ w)) ((x ≡ r) × (m ≡ v)) → Choose b ((y ≡ c) × (n ≡ w)) ((y ≡ r) × (n ≡ v)) → (x ≡ y) × (m ≡ n)
chosen_one true c r x y w v m n (p, q) (e, f) = (p ∙ sym e, q ∙ sym f)
chosen_one false c r x y w v m n (p, q) (e, f) = (p ∙ sym e, q ∙ sym f)

pub lists_by : (s : List ℕ) (w : Walk) (lent m n : List ℕ) (x y : Result ℕ) (f : Answer Fields) → ListsOn s w lent m x f → ListsOn s w lent n y f → (x ≡ y) × (m ≡ n)
lists_by s w lent m n x y (given h k) (items, (r, c)) (others, (q, d)) =
    let e = runs_one s w others items q r in
    chosen_one (leb (length (rows_of items)) (length lent)) _ _ x y _ _ m n c (subst (λ (l : List Reply). RowsAnswer l lent n y) e d)
lists_by s w lent m n x y (refused k p) (a, b) (c, d) = (a ∙ sym c, b ∙ sym d)

-- answer and lent rows
pub list : (κs : Lfts 2) (a : Dens κs listK.ps) (x y : (res_t listK.r κs).Denot) (s t : AtExit (ended_of 2 listK.ps listK.r) κs)
    → listR.Post κs a x s → listR.Post κs a y t → (x ≡ y) × (s.1.1.0.now ≡ t.1.1.0.now)
list κs a x y s t p q = let e = lists_by _ _ _ _ _ (count_answer x) (count_answer y) (fields_at _) p q in (counted_one x y _ e.0 refl, e.1)

-- a row is its five words
abbrev row_back : List ℕ → Row
row_back l = record { item = get_or l 0 0; place = get_or l 1 0; size = get_or l 2 0; id = get_or l 3 0; time = get_or l 4 0 }

row_one : (x y : Row) (b : List ℕ) → row_words x ≡ b → row_words y ≡ b → x ≡ y
row_one = read_back row_words row_back (λ x. refl)

pub row : Single 0 rowK.ps rowK.r rowR.Post
row κs a x y s t p q = row_one x y _ p q

pub of : Single 1 ofK.ps ofK.r ofR.Post
of κs a x y s t p q = row_one x y _ p q
