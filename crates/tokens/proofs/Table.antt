-- What holds of each line of the token table holds of the table. Assumes nothing.
use mathlib.Core.Bool.{Bool, true, false, ◌||◌}
use mathlib.Core.List.{List}
use Prim.Native.Nat.{ℕ, ◌≤◌}
use native.Mathlib.Omega.{arith}
use lib.Dec.{eqb}
use Rattle.cursor.specs.Answer.{Answer, refused}
use Rattle.cursor.specs.Refusals.{unknown_token}
use Rattle.cursor.proofs.Choice.{either}
use Rattle.tokens.specs.Token.{bare_at, char_ref_at, substitution_at, named_at, open_at, text_token_at, value_token_at}
use Rattle.tokens.specs.Instance.{instance_at}
use Rattle.tokens.specs.Table.{gist_at}
use Rattle.tokens.specs.declared.Flags.{Flags}
use Rattle.tokens.specs.declared.plain.Gist.{Gist}

-- the lines, by what their tokens hold; a kind is from 1 to 13
pub record Lines (P : Answer Gist → Type 0) (s : List ℕ) (f : Flags) (at : ℕ) : Type 0 where
  pub instance : P (instance_at s at)
  pub opened : (announced : Bool) → P (open_at s f announced at)
  pub bare : (kind : ℕ) → 1 ≤ kind → kind ≤ 13 → P (bare_at kind at)
  pub value : P (value_token_at s at)
  pub named : (kind : ℕ) → 1 ≤ kind → kind ≤ 13 → P (named_at s f.inline kind at)
  pub text : (kind : ℕ) → 1 ≤ kind → kind ≤ 13 → P (text_token_at s kind at)
  pub char : P (char_ref_at s at)
  pub substitution : (optional : Bool) → P (substitution_at s optional at)
  pub unknown : P (refused unknown_token at)

pub by_line : (P : Answer Gist → Type 0) (s : List ℕ) (f : Flags) (b at : ℕ) → Lines P s f at → P (gist_at s f b at)
unfolding gist_at
by_line P s f b at l =
    either P (eqb b 0x0C) _ _ (λ e. l.instance)
    (λ e. either P (eqb b 0x01) _ _ (λ e. l.opened false)
    (λ e. either P (eqb b 0x41) _ _ (λ e. l.opened true)
    (λ e. either P (eqb b 0x02) _ _ (λ e. l.bare 3 (omega arith) (omega arith))
    (λ e. either P (eqb b 0x03) _ _ (λ e. l.bare 4 (omega arith) (omega arith))
    (λ e. either P (eqb b 0x04) _ _ (λ e. l.bare 5 (omega arith) (omega arith))
    (λ e. either P (eqb b 0x05 || eqb b 0x45) _ _ (λ e. l.value)
    (λ e. either P (eqb b 0x06 || eqb b 0x46) _ _ (λ e. l.named 7 (omega arith) (omega arith))
    (λ e. either P (eqb b 0x07 || eqb b 0x47) _ _ (λ e. l.text 11 (omega arith) (omega arith))
    (λ e. either P (eqb b 0x08 || eqb b 0x48) _ _ (λ e. l.char)
    (λ e. either P (eqb b 0x09 || eqb b 0x49) _ _ (λ e. l.named 8 (omega arith) (omega arith))
    (λ e. either P (eqb b 0x0A) _ _ (λ e. l.named 9 (omega arith) (omega arith))
    (λ e. either P (eqb b 0x0B) _ _ (λ e. l.text 10 (omega arith) (omega arith))
    (λ e. either P (eqb b 0x0D) _ _ (λ e. l.substitution false)
    (λ e. either P (eqb b 0x0E) _ _ (λ e. l.substitution true)
    (λ e. l.unknown)))))))))))))))
