-- `turn` meets its contract: a token ends after its byte. Assumes nothing.
use mathlib.Core.Path.{sym, ap, subst, ◌∙◌}
use native.Mathlib.Omega.{arith}
use lib.ListN.{length}
use Rattle.cursor.specs.Answers.{read_answer}
use Rattle.value.proofs.Bounds.{Between}
use Rattle.tokens.proofs.Reach.{Follows, byte_follows, gist_ends}
use Rattle.tokens.proofs.walking.turn.Goals as goal

pub token_of-requires : goal.token_of-requires
token_of-requires c =
    let a = c.args in
    let s = a.s.now in
    let here = c.in_ok-b.c.at in
    let f = subst (Follows a.at (length s)) (sym c.u8.ensures ∙ ap read_answer c.in_ok-b.was) (byte_follows s a.at) in
    let h = subst (Between here (length s)) (sym c.gist_at.ensures ∙ ap read_answer c.in_ok-g-in_default.was) (gist_ends s a.flags c.in_ok-b.b here f.1) in
    omega (arith, f.0, h.0)
