-- A flag as a number, and back. Assumes nothing.
use mathlib.Core.Path.{◌≡◌, refl}
use mathlib.Core.Bool.{Bool, true, false}
use Rattle.std.specs.Int.{from_bool}
use Rattle.doortumble.specs.Calls.{flag_of}

pub flag_back : (b : Bool) → flag_of (from_bool b) ≡ b
flag_back true = refl
flag_back false = refl
