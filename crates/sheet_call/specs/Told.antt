-- A sheet's answer as a number, for the benchmark.
use Rattle.std.specs.Prelude.{ℕ, ◌-◌, ◌^◌}
use Rattle.cursor.specs.Answer.{Result, gives, refuses}

abbrev pub told_of : Result ℕ → ℕ
told_of (gives n) = n
told_of (refuses k p) = 2 ^ 64 - 1
