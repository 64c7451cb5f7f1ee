-- The merge's C call: its flag and its answer word. Document 02, P13; the answer word is document 01's.
use Rattle.std.specs.Prelude.{◌≡◌, List, ℕ, eqb}
use Rattle.cursor.specs.Answer.{Result, pick}
use Rattle.doortumble.specs.Calls.{packed_of}
use Rattle.merge.specs.Select.{Merges}
use Rattle.merge.specs.declared.Rule.{Rule}
use Rattle.merge.specs.declared.Rule.TheVariants as R

-- rule one where the flag is 0, else rule two
abbrev pub rule_in : ℕ → Rule
rule_in newest = pick (eqb newest 0) R.Primary R.Newest

-- the answer word is that of an answer that the merge's definition allows, with what is left in the result
abbrev pub MergePacked : List ℕ → List ℕ → Rule → List ℕ → List ℕ → ℕ → Type 0
MergePacked primary other rule lent left word = (o : Result ℕ) × ((word ≡ packed_of o) × Merges primary other rule lent left o)
