-- `tokens`: each public call allows one answer. Assumes nothing.
use Rattle.std.specs.Prelude as Std
use Rattle.std.specs.Prelude.{Ok, Err, Some, None, Option}
use Rattle.cursor.specs.declared.Cursor.{Cursor}
use Rattle.cursor.specs.declared.Refusal.{Refusal}
use mathlib.Core.Path.{◌≡◌, refl, sym, ◌∙◌}
use mathlib.Core.Bool.{Bool, true, false}
use Prim.Native.Nat.{ℕ}
use Rattle.cursor.specs.Answer.{Answer, given, refused, Result, gives, refuses, Maybe, just, nothing}
use Rattle.tokens.specs.Instance.{ValueNext, next_answer}
use Rattle.tokens.specs.Single.{single_answer, ends_answer}
use Rattle.tokens.specs.Sight.{Seen, begun, met, sight_answer}
use Rattle.tokens.specs.Walk.{Met, handed, header, over, step_answer, window_answer}
use Rattle.value.specs.declared.Value.{Value}
use Rattle.tokens.specs.declared.Sight.{Sight}
use Rattle.tokens.specs.declared.Sight.TheVariants as G
use Rattle.tokens.specs.declared.Token.{Token}
use Rattle.tokens.specs.declared.Values.{Values}
use Rattle.tokens.proofs.step.Kinds as stepK
use Rattle.tokens.proofs.step.Reads as stepR
use Rattle.tokens.proofs.look.Kinds as lookK
use Rattle.tokens.proofs.look.Reads as lookR
use Rattle.tokens.proofs.window_of.Kinds as windowK
use Rattle.tokens.proofs.window_of.Reads as windowR
use Rattle.tokens.proofs.Values.of.Kinds as ofK
use Rattle.tokens.proofs.Values.of.Reads as ofR
use Rattle.tokens.proofs.Values.next.Kinds as nextK
use Rattle.tokens.proofs.Values.next.Reads as nextR
use Rattle.tokens.proofs.single_instance_offset.Kinds as singleK
use Rattle.tokens.proofs.single_instance_offset.Reads as singleR
use Rattle.tokens.proofs.ends_stream.Kinds as endsK
use Rattle.tokens.proofs.ends_stream.Reads as endsR
use Rattle.promises.proofs.One.{Single, counted_of, option_of, read_back}

-- (a step meets no header that it hands on)
abbrev step_back : Answer Met → Std.Result (Option Token × Cursor) Refusal
step_back (given (handed t) n) = Ok (Some t, record { at = n })
step_back (given header n) = Ok (None, record { at = n })
step_back (given over n) = Ok (None, record { at = n })
step_back (refused k p) = Err (record { number = k; place = p })

pub step_one : (x y : Std.Result (Option Token × Cursor) Refusal) (b : Answer Met) → step_answer x ≡ b → step_answer y ≡ b → x ≡ y
step_one = read_back step_answer step_back back
  where
    back : (x : Std.Result (Option Token × Cursor) Refusal) → step_back (step_answer x) ≡ x
    back (Ok (Some t, c)) = refl
    back (Ok (None, c)) = refl
    back (Err r) = refl

pub step : Single 1 stepK.ps stepK.r stepR.Post
step κs a x y s t p q = step_one x y _ p q

abbrev sight_back : Answer Seen → Std.Result (Sight × Cursor) Refusal
sight_back (given (begun i) n) = Ok (G.Instance i, record { at = n })
sight_back (given (met (handed t)) n) = Ok (G.Token t, record { at = n })
sight_back (given (met header) n) = Ok (G.Header, record { at = n })
sight_back (given (met over) n) = Ok (G.Over, record { at = n })
sight_back (refused k p) = Err (record { number = k; place = p })

pub look : Single 1 lookK.ps lookK.r lookR.Post
look κs a x y s t p q = read_back sight_answer sight_back back x y _ p q
  where
    back : (x : Std.Result (Sight × Cursor) Refusal) → sight_back (sight_answer x) ≡ x
    back (Ok (G.Token t, c)) = refl
    back (Ok (G.Instance i, c)) = refl
    back (Ok (G.Header, c)) = refl
    back (Ok (G.Over, c)) = refl
    back (Err r) = refl

pub window_of : Single 1 windowK.ps windowK.r windowR.Post
window_of κs a x y s t p q = read_back window_answer counted_of back x y _ p q
  where
    back : (x : Std.Result (ℕ × ℕ) Refusal) → counted_of (window_answer x) ≡ x
    back (Ok (start, end)) = refl
    back (Err r) = refl

pub of : Single 0 ofK.ps ofK.r ofR.Post
of κs a x y s t p q = p ∙ sym q

abbrev next_back : Result (Maybe ValueNext) → Std.Result (Option (Value × ℕ × Values)) Refusal
next_back (gives (just x)) = Ok (Some (x.value, x.size, x.rest))
next_back (gives nothing) = Ok None
next_back (refuses k p) = Err (record { number = k; place = p })

pub next : Single 1 nextK.ps nextK.r nextR.Post
next κs a x y s t p q = read_back next_answer next_back back x y _ p q
  where
    back : (x : Std.Result (Option (Value × ℕ × Values)) Refusal) → next_back (next_answer x) ≡ x
    back (Ok (Some (v, size, rest))) = refl
    back (Ok None) = refl
    back (Err r) = refl

pub single_instance_offset : Single 1 singleK.ps singleK.r singleR.Post
single_instance_offset κs a x y s t p q = read_back single_answer option_of back x y _ p q
  where
    back : (x : Option ℕ) → option_of (single_answer x) ≡ x
    back (Some n) = refl
    back None = refl

pub ends_stream : Single 1 endsK.ps endsK.r endsR.Post
ends_stream κs a x y s t p q = read_back ends_answer option_of back x y _ p q
  where
    back : (x : Option Bool) → option_of (ends_answer x) ≡ x
    back (Some true) = refl
    back (Some false) = refl
    back None = refl
