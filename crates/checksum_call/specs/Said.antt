-- A checksum's answer as a number. Document 01: "The header checksum is a yes or no".
use Rattle.std.specs.Prelude.{Bool, true, false, ℕ}
use Rattle.cursor.specs.Answer.{Answer, given, refused}

abbrev pub said_of : Answer Bool → ℕ
said_of (given true next) = 1
said_of (given false next) = 0
said_of (refused k p) = 2
