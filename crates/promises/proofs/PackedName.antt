-- The answer word of the name's call loses nothing: a name has fewer than 2^16 units, and its refusals are as small as the reads'. Assumes nothing.
use mathlib.Core.Path.{◌≡◌, ap, ◌∙◌}
use mathlib.Core.Bool.{Bool, true}
use mathlib.Core.List.{List}
use Prim.Native.Nat.{ℕ, ◌+◌, ◌*◌, ◌^◌, ◌≤◌, ◌<◌}
use native.Mathlib.Omega.{arith}
use borrow.Author.Tests.{leb-true}
use contract.Lifetimes.{Lfts}
use borrow.Fn.Kinds.{Dens, GoodsP, res_t, ended_of}
use denote.Triple.Clauses.{AtExit}
use lib.Dec.{eqb, leb}
use lib.ListN.{length}
use Rattle.cursor.specs.Answer.{Answer, given, refused, Result, gives, refuses, ◌then◌}
use Rattle.cursor.specs.Reads.{within, number_of, number_at, take_at, part_of}
use Rattle.cursor.specs.Text.{units_of}
use Rattle.cursor.specs.declared.Part.{Part}
use Rattle.cursor.proofs.Choice.{either, tested}
use Rattle.name.specs.Hash.{hash_of}
use Rattle.name.specs.Name.{name_of, soundness_of, units_at, inline_name_at}
use Rattle.name.specs.Pieces as P
use Rattle.name.specs.Lookup.{found_of, inline_found, standing_at, found_at, looked_at, looked_up, found_answer}
use Rattle.name.specs.declared.Name.{Name}
use Rattle.name.specs.declared.lookup.Found.{Found}
use Rattle.doortumble.specs.Calls.{flag_of, packed_of}
use Rattle.event_call.proofs.doortumble_name.Kinds as nameK
use Rattle.event_call.proofs.doortumble_name.Reads as name_r
use Rattle.promises.specs.Packed.{unpacked_of, Bytes}
use Rattle.promises.proofs.Fits.{Small, Fits, number_below}
use Rattle.promises.proofs.FitsValue.{name_fits}
use Rattle.promises.proofs.Packed.{InBits, answer_kept, small_bits}

-- an inline name's units are so many
abbrev FewUnits : Answer Name → Type 0
FewUnits (given n next) = n.count < 2 ^ 40
FewUnits (refused k p) = Unit {0}

units_on : {A : Type 0} (a : Answer A) (f : A → ℕ → Answer Name) → ((x : A) (n : ℕ) → FewUnits (f x n)) → FewUnits (a then f)
units_on (given x n) f g = g x n
units_on (refused k p) f g = tt

-- what is found, or a small refusal
abbrev Few : Answer Found → Type 0
Few (given f next) = f.count < 2 ^ 40
Few (refused k p) = Small k p

of_name : (high : ℕ) (a : Answer Name) → Fits high a → FewUnits a → Few (a then λ n next. given (inline_found n) next)
of_name high (given n next) h k = k
of_name high (refused k p) h u = h

abbrev Looked : Result Found → Type 0
Looked (gives f) = f.count < 2 ^ 40
Looked (refuses k p) = Small k p

looked_at_lem : (a : Answer Found) → Few a → Looked (looked_at a)
looked_at_lem (given f next) h = h
looked_at_lem (refused k p) h = h

found_bits : (r : Result Found) (lent : List ℕ) → Looked r → InBits (found_answer r lent)
found_bits (gives f) lent h = either InBits (leb 1 (length lent)) _ _ (λ e. h) (λ e. (omega arith, omega arith))
found_bits (refuses k p) lent h = small_bits k p h

judged_few : (n : Name) (stored last hash next : ℕ) → n.count < 2 ^ 40 → FewUnits (P.judged n stored last hash next)
judged_few n stored last hash next h =
    tested FewUnits (eqb last 0) _ _ _ (λ p. tested FewUnits (eqb stored hash) _ _ _ (λ q. h) (λ q. tt)) (λ p. tt)

-- a name that stands there, from each read on
abbrev with_units : List ℕ → ℕ → ℕ → ℕ → Answer Found
with_units s hash n at = take_at s at (2 * n) then λ p next. given (found_of hash p.start n (units_of (part_of s p))) next

abbrev with_count : List ℕ → ℕ → ℕ → Answer Found
with_count s hash at = number_at s at 2 then with_units s hash

abbrev with_hash : List ℕ → ℕ → Answer Found
with_hash s at = number_at s at 2 then with_count s

module _ (s : List ℕ) (bytes : Bytes s) where
  inline_few : (at : ℕ) → FewUnits (inline_name_at s at)
  inline_few at =
      units_on (number_at s at 2) (P.after_hash s at) (λ stored n.
      either (λ (a : Answer ℕ). FewUnits (a then P.after_count s at stored)) (within s n 2) _ _
      (λ v.
      let count = number_of s n 2 in
      let b : count < 2 ^ 40 = omega (arith, number_below s n 2 bytes) in
      units_on (units_at s (n + 2) count) (P.after_units s at (n + 2) count stored) (λ us e.
      units_on (number_at s e 2) (λ last next. P.judged (name_of at (n + 2) count (soundness_of us)) stored last (hash_of us) next) (λ last next.
      judged_few (name_of at (n + 2) count (soundness_of us)) stored last (hash_of us) next b)))
      (λ v. tt))

  module _ (short : length s ≤ 65536) where
    -- a number, and then what comes after it
    number_few : (at w : ℕ) (f : ℕ → ℕ → Answer Found) → at ≤ length s → ((x n : ℕ) → x < 256 ^ w → n ≤ length s → Few (f x n))
        → Few (number_at s at w then f)
    number_few at w f h g =
        either (λ (a : Answer ℕ). Few (a then f)) (within s at w) _ _
        (λ v. g (number_of s at w) (at + w) (number_below s at w bytes) (leb-true (at + w) (length s) v))
        (λ v. (omega arith, omega arith))

    units_few : (hash n at : ℕ) → n < 256 ^ 2 → at ≤ length s → Few (with_units s hash n at)
    units_few hash n at b h =
        let few : n < 2 ^ 40 = omega (arith, b) in
        either (λ (a : Answer Part). Few (a then λ p next. given (found_of hash p.start n (units_of (part_of s p))) next)) (within s at (2 * n)) _ _
        (λ v. few) (λ v. (omega arith, omega arith))

    standing_few : (at : ℕ) → at ≤ length s → Few (standing_at s at)
    standing_few at h =
        number_few at 4 (λ _ next. with_hash s next) h (λ x n b i.
        number_few n 2 (with_count s) i (λ hash m c k.
        number_few m 2 (with_units s hash) k (λ count e d l.
        units_few hash count e d l)))

    found_few : (inline : Bool) (at : ℕ) → at ≤ length s → Few (found_at s inline at)
    found_few inline at h =
        either Few inline _ _ (λ e. of_name (length s) (inline_name_at s at) (name_fits s bytes short at true h) (inline_few at)) (λ e. standing_few at h)

  looked_small : (offset : ℕ) → offset < 2 ^ 32 → (inline : Bool) → Looked (looked_up s offset inline)
  looked_small offset u32 inline =
      either Looked (leb (length s) 65536) _ _
      (λ e.
      let short = leb-true (length s) 65536 e in
      either (λ (a : Answer Unit). Looked (looked_at (a then λ _ at. found_at s inline at))) (leb offset (length s)) _ _
      (λ v. looked_at_lem (found_at s inline offset) (found_few short inline offset (leb-true offset (length s) v)))
      (λ v. (omega arith, omega arith)))
      (λ e. (omega arith, omega arith))

  pub name_kept : (offset : ℕ) → offset < 2 ^ 32 → (inline : Bool) (lent : List ℕ)
      → unpacked_of (packed_of (found_answer (looked_up s offset inline) lent)) ≡ found_answer (looked_up s offset inline) lent
  name_kept offset u32 inline lent = answer_kept _ (found_bits (looked_up s offset inline) lent (looked_small offset u32 inline))

-- what a C caller takes from the call's word is the answer
pub name : (κs : Lfts 2) (a : Dens κs nameK.ps) (x : (res_t nameK.r κs).Denot) (s : AtExit (ended_of 2 nameK.ps nameK.r) κs)
    → GoodsP κs nameK.ps a → Bytes a.0.now → name_r.Post κs a x s
    → unpacked_of x ≡ found_answer (looked_up a.0.now a.1.0 (flag_of a.1.1.0)) a.1.1.1.0.now
name κs a x s g b p = ap unpacked_of p.0 ∙ name_kept a.0.now b a.1.0 g.1.0.1 (flag_of a.1.1.0) a.1.1.1.0.now
