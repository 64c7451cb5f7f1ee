-- A sheet that was kept, beside its stream. Document 02, P3: "The mill has a year of one-word sheets on its archive disk."
use Rattle.std.specs.Prelude.{List, [], ◌∷◌, map, ℕ, suc, eqb, length}
use Rattle.cursor.specs.Answer.{Result, gives, refuses, Maybe, just, nothing, pick}
use Rattle.cursor.specs.Lent.{lent_answer, lent_left}
use Rattle.cursor.specs.Refusals.{wrong_sheet}
use Rattle.tokens.specs.Walk.{Walked, ok, bad}
use Rattle.tokens.specs.declared.Token.{Token}
use Rattle.sheet.specs.Sheet.{word_of, words_of}
use Rattle.sheet.specs.declared.Form.{Form}
use Rattle.sheet.specs.declared.Form.TheVariants as F

-- the words of the old sheet, one a token
abbrev pub old_words_of : List Token → List ℕ
old_words_of l = map word_of l

-- the words of a sheet of tokens, by its form: none is given, "the old sheet", or "the two-word sheet"
abbrev pub in_form : Form → List Token → List ℕ
in_form F.Nothing l = []
in_form F.Old l = old_words_of l
in_form F.New l = words_of l

-- one word further on
abbrev pub one_later : Maybe ℕ → Maybe ℕ
one_later (just n) = just (suc n)
one_later nothing = nothing

-- "The sheet given, old or new, must be exactly the sheet of that stream", and else it is told "at the first word wrong, missing or extra":
-- the number of that word, from 0, in the words given beside the right ones
abbrev pub differs_at : List ℕ → List ℕ → Maybe ℕ
differs_at [] [] = nothing
differs_at [] (g ∷ given) = just 0
differs_at (r ∷ right) [] = just 0
differs_at (r ∷ right) (g ∷ given) = pick (eqb r g) (one_later (differs_at right given)) (just 0)

-- what is given where the sheet is the stream's; else "19, not the stream's sheet"
abbrev pub unless : {A : Type 0} → Maybe ℕ → A → Result A
unless nothing a = gives a
unless (just n) a = refuses wrong_sheet n

-- how many tokens there are, beside a given sheet: the walk's refusal, then 19. "after the walk's own"
abbrev pub beside_answer : (List Token → List ℕ) → Walked → List ℕ → Result ℕ
beside_answer from (ok l) given = unless (differs_at (from l) given) (length l)
beside_answer from (bad k p) given = refuses k p

-- "Given the old sheet and its stream, make the two-word sheet; given the new one, give the old one back": from the one form to the other
abbrev pub kept_of : (List Token → List ℕ) → (List Token → List ℕ) → Walked → List ℕ → Result (List ℕ)
kept_of from to (ok l) given = unless (differs_at (from l) given) (to l)
kept_of from to (bad k p) given = refuses k p

-- the words' count is told as the tokens'
abbrev pub counted_in : Walked → Result ℕ → Result ℕ
counted_in (ok l) (gives n) = gives (length l)
counted_in (ok l) (refuses k p) = refuses k p
counted_in (bad k p) r = r

-- the answer, and what the lent words hold then: 19 comes "after the walk's own and before 16"
abbrev pub kept_answer : (List Token → List ℕ) → (List Token → List ℕ) → Walked → List ℕ → List ℕ → Result ℕ
kept_answer from to w given lent = counted_in w (lent_answer (kept_of from to w given) lent)

abbrev pub kept_words : (List Token → List ℕ) → (List Token → List ℕ) → Walked → List ℕ → List ℕ → List ℕ
kept_words from to w given lent = lent_left (kept_of from to w given) lent
