-- `table`: after each descriptor the rest of the table is left. Assumes nothing.
use mathlib.Core.Path.{◌≡◌}
use Prim.Native.Nat.{◌-◌}
use Rattle.tokens.specs.Instance.{table_at}
use Rattle.tokens.proofs.template.table.Given as goal

abbrev pub invariant-loop : goal.invariant-loop
invariant-loop l = table_at l.s l.fn.c.at l.count ≡ table_at l.s l.at.at (l.count - l.counter)
