-- A rule as a flag. Assumes nothing.
use mathlib.Core.Path.{◌≡◌, refl}
use mathlib.Core.Bool.{Bool, true, false}
use mir.Val.{bool_byte}
use Rattle.merge_call.specs.Calls.{rule_in}
use Rattle.merge_answers.specs.Merged.{rule_by}

pub rule_back : (b : Bool) → rule_in (bool_byte b) ≡ rule_by b
rule_back true = refl
rule_back false = refl
