-- `Kind::known` meets its contract: each range of codes is computed. Assumes nothing.
use mathlib.Core.Path.{refl, sym, ap, ◌∙◌}
use mathlib.Core.Bool.{true, false}
use lib.Dec.{eqb}
use native.Mathlib.Omega.{arith}
use borrow.Author.Tests.{ne_eqb}
use Rattle.value.specs.Kinds.{among, known_code}
use Rattle.value.proofs.Codes.{same_test}
use Rattle.value.proofs.Kind.known.Goals as goal

pub returns-in_default : goal.returns-in_default
unfolding among known_code
returns-in_default c = sym (same_test known_code (λ k. false) 10 22 refl c.args.code (omega arith) (omega arith))

pub returns-in_default-2 : goal.returns-in_default-2
unfolding among known_code
returns-in_default-2 c =
    let k = c.args.code in
    sym (same_test known_code (λ i. eqb i 0x23) 95 34 refl k (omega arith) (omega arith) ∙ ne_eqb k 0x23 c.in_default.in_default-own.rest.1)

pub returns-in_default-3 : goal.returns-in_default-3
unfolding among known_code
returns-in_default-3 c = sym (same_test known_code (λ k. false) 1 142 refl c.args.code (omega arith) (omega arith))

pub returns-in_default-4 : goal.returns-in_default-4
unfolding among known_code
returns-in_default-4 c = sym (same_test known_code (λ k. false) 106 150 refl c.args.code (omega arith) (omega arith))

pub returns-in-0-to-21 : goal.returns-in-0-to-21
unfolding among known_code
returns-in-0-to-21 c = sym (ap known_code c.in-0-to-21.in-0-to-21-own.keys1)

pub returns-in-0-to-21-2 : goal.returns-in-0-to-21-2
unfolding among known_code
returns-in-0-to-21-2 c = sym (same_test known_code (λ k. true) 22 0 refl c.args.code (omega arith) (omega arith))

pub returns-in-0-to-21-3 : goal.returns-in-0-to-21-3
unfolding among known_code
returns-in-0-to-21-3 c = sym (same_test known_code (λ k. true) 2 32 refl c.args.code (omega arith) (omega arith))

pub returns-in-0-to-21-4 : goal.returns-in-0-to-21-4
unfolding among known_code
returns-in-0-to-21-4 c = sym (same_test known_code (λ k. true) 13 129 refl c.args.code (omega arith) (omega arith))

pub returns-in-0-to-21-5 : goal.returns-in-0-to-21-5
unfolding among known_code
returns-in-0-to-21-5 c = sym (same_test known_code (λ k. true) 7 143 refl c.args.code (omega arith) (omega arith))
