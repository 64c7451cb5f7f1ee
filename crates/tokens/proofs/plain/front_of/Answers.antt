-- `front_of` meets its contract: each byte by its arm. Assumes nothing.
use Rattle.std.specs.Prelude.{Ok, Some}
use mathlib.Core.Path.{◌≡◌, refl}
use mathlib.Core.Bool.{false}
use mathlib.Core.List.{[], ◌∷◌}
use mathlib.Core.Logic.{inl, inr}
use Rattle.value.proofs.Codes.{in_arm}
use borrow.Author.Tests.{ne_eqb}
use borrow.Author.Rules.{rules}
use Rattle.tokens.specs.Token.{attribute_kind, entity_ref_kind, pi_target_kind}
use Rattle.tokens.specs.Table.{gist_at}
use Rattle.tokens.specs.Pieces.{lead, front_to, nameless_at, table_from02, table_from05, table_from0_d}
use Rattle.tokens.proofs.plain.front_of.Goals as goal

pub returns-in-1 : goal.returns-in-1
unfolding gist_at
returns-in-1 c =
    let a = c.args in
    let s = a.s.now in
    in_arm (λ i. front_to s a.flags.inline (nameless_at s i a.c.at) c.opened.result ≡ gist_at s a.flags i a.c.at) (0x01 ∷ []) (c.opened.ensures (nameless_at s 0x01 a.c.at), tt) a.b c.in-1.is

pub returns-in-65 : goal.returns-in-65
unfolding gist_at
returns-in-65 c =
    let a = c.args in
    let s = a.s.now in
    in_arm (λ i. front_to s a.flags.inline (nameless_at s i a.c.at) c.opened-in-65.result ≡ gist_at s a.flags i a.c.at) (0x41 ∷ []) (c.opened-in-65.ensures (nameless_at s 0x41 a.c.at), tt) a.b c.in-65.is

pub returns-in-6 : goal.returns-in-6
unfolding gist_at
returns-in-6 c =
    let a = c.args in
    let s = a.s.now in
    simp c.lead_of.ensures (in_arm (λ i. front_to s a.flags.inline (nameless_at s i a.c.at) (Ok (Some ((lead attribute_kind 0 false false), a.c))) ≡ gist_at s a.flags i a.c.at) (0x06 ∷ 0x46 ∷ []) (refl, (refl, tt)) a.b c.in-6.is)

pub returns-in-9 : goal.returns-in-9
unfolding gist_at
returns-in-9 c =
    let a = c.args in
    let s = a.s.now in
    simp c.lead_of-in-9.ensures (in_arm (λ i. front_to s a.flags.inline (nameless_at s i a.c.at) (Ok (Some ((lead entity_ref_kind 0 false false), a.c))) ≡ gist_at s a.flags i a.c.at) (0x09 ∷ 0x49 ∷ []) (refl, (refl, tt)) a.b c.in-9.is)

pub returns-in-10 : goal.returns-in-10
unfolding gist_at
returns-in-10 c =
    let a = c.args in
    let s = a.s.now in
    simp c.lead_of-in-10.ensures (in_arm (λ i. front_to s a.flags.inline (nameless_at s i a.c.at) (Ok (Some ((lead pi_target_kind 0 false false), a.c))) ≡ gist_at s a.flags i a.c.at) (0x0A ∷ []) (refl, tt) a.b c.in-10.is)

pub returns-in_default : goal.returns-in_default
unfolding gist_at nameless_at table_from02 table_from05 table_from0_d
returns-in_default c =
    let k = c.args.b in
    let r = c.in_default.in_default-own.rest in
    simp (ne_eqb k 0x01 r.0.0.0.0.1, ne_eqb k 0x41 r.0.0.0.1, ne_eqb k 0x06 (λ e. r.0.0.1 (inl e)), ne_eqb k 0x46 (λ e. r.0.0.1 (inr e)), ne_eqb k 0x09 (λ e. r.0.1 (inl e)), ne_eqb k 0x49 (λ e. r.0.1 (inr e)), ne_eqb k 0x0A r.1)
