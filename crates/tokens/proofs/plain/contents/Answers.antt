-- `contents` meets its contract: each byte by its arm. Assumes nothing.
use mathlib.Core.Path.{◌≡◌}
use Rattle.cursor.specs.Answers.{read_answer}
use mathlib.Core.List.{[], ◌∷◌}
use mathlib.Core.Logic.{inl, inr}
use Rattle.value.proofs.Codes.{in_arm}
use borrow.Author.Tests.{ne_eqb}
use borrow.Author.Rules.{rules}
use Rattle.tokens.specs.Pieces.{table_from05}
use Rattle.tokens.proofs.plain.contents.Goals as goal

pub returns-in-5 : goal.returns-in-5
unfolding table_from05
returns-in-5 c =
    let a = c.args in
    in_arm (λ i. read_answer c.held_value.result ≡ table_from05 a.s.now i a.c.at) (0x05 ∷ 0x45 ∷ []) (c.held_value.ensures, (c.held_value.ensures, tt)) a.b c.in-5.is

pub returns-in-7 : goal.returns-in-7
unfolding table_from05
returns-in-7 c =
    let a = c.args in
    in_arm (λ i. read_answer c.text.result ≡ table_from05 a.s.now i a.c.at) (0x07 ∷ 0x47 ∷ []) (c.text.ensures, (c.text.ensures, tt)) a.b c.in-7.is

pub returns-in-8 : goal.returns-in-8
unfolding table_from05
returns-in-8 c =
    let a = c.args in
    in_arm (λ i. read_answer c.char_ref.result ≡ table_from05 a.s.now i a.c.at) (0x08 ∷ 0x48 ∷ []) (c.char_ref.ensures, (c.char_ref.ensures, tt)) a.b c.in-8.is

pub returns-in-11 : goal.returns-in-11
unfolding table_from05
returns-in-11 c = simp (c.in-11.is, c.text-in-11.ensures)

pub returns-in_default : goal.returns-in_default
unfolding table_from05
returns-in_default c =
    let k = c.args.b in
    let r = c.in_default.in_default-own.rest in
    simp (ne_eqb k 0x05 (λ e. r.0.0.0.1 (inl e)), ne_eqb k 0x45 (λ e. r.0.0.0.1 (inr e)), ne_eqb k 0x07 (λ e. r.0.0.1 (inl e)), ne_eqb k 0x47 (λ e. r.0.0.1 (inr e)), ne_eqb k 0x08 (λ e. r.0.1 (inl e)), ne_eqb k 0x48 (λ e. r.0.1 (inr e)), ne_eqb k 0x0B r.1, c.substitutions.ensures)
