-- `is_item` meets its contract. Assumes nothing.
use mathlib.Core.Path.{ap, sym}
use mathlib.Core.Logic.{inl, inr, ⊎_elim}
use native.Mathlib.Omega.{arith}
use Rattle.body.specs.Reader.{is_item}
use Rattle.body.proofs.Walking.{no_item, late_item}
use Rattle.body.proofs.reader.is_item.Goals as goal

pub returns-in_default : goal.returns-in_default
returns-in_default c =
    let r = c.in_default.in_default-own.rest.1 in
    no_item c.args.k (λ e. r (inl e)) (λ e. r (inr e)) (λ e. omega (arith, c.in_default.if-k-lt12-own.true)) (λ e. omega (arith, c.in_default.if-k-lt12-own.true))

pub returns-in_default-2 : goal.returns-in_default-2
returns-in_default-2 c =
    let r = c.in_default.if-k-lt14-own.false in
    no_item c.args.k (λ e. omega arith) (λ e. omega arith) (λ e. omega arith) (λ e. omega arith)

pub returns-in-6 : goal.returns-in-6
returns-in-6 c = ⊎_elim (λ e. ap is_item (sym e)) (λ e. ap is_item (sym e)) c.in-6.is

pub returns-in-6-2 : goal.returns-in-6-2
returns-in-6-2 c = late_item c.args.k c.in-6.if-k-lt12-own.false (omega (arith, c.in-6.if-k-lt14-own.true))
