-- The next value of an instance whose table stands in the stream. Assumes nothing.
use mathlib.Core.Path.{◌≡◌, refl, sym, ap, subst, ◌∙◌}
use mathlib.Core.List.{List}
use Prim.Native.Nat.{ℕ, zero, suc, ◌+◌, ◌-◌, ◌*◌, ◌^◌, ◌≤◌, ◌<◌}
use native.Mathlib.Omega.{arith}
use borrow.Author.Tests.{leb-true, eqb-true, eqb-false}
use lib.Dec.{eqb, leb, ltb}
use lib.ListN.{length, drop, length-drop}
use Rattle.cursor.specs.Answer.{Answer, given, refused, Result, gives, refuses, ◌then◌, pick, Maybe, just, nothing}
use Rattle.cursor.specs.Reads.{number_of}
use Rattle.cursor.proofs.Choice.{either}
use Rattle.value.specs.Pieces.{passed}
use Rattle.value.specs.Value.{moved, sized_in, sized_at}
use Rattle.value.specs.declared.Content.{Content}
use Rattle.value.specs.declared.Value.{Value}
use Rattle.value.proofs.Stands.{Stands, sized_stands}
use Rattle.tokens.specs.Instance.{ValueNext, value_in, value_step, next_given, next_of}
use Rattle.tokens.specs.declared.Values.{Values}
use Rattle.tokens.proofs.Runs.{step_reads}

-- what the next value is
abbrev pub NextIs : List ℕ → Values → Result (Maybe ValueNext) → Type 0
NextIs s v (gives (just x)) =
    (0 < v.left) × (value_in s v.table v.at ≡ given x.value x.rest.at) × (x.size ≡ number_of s v.table 2) × (x.rest.table ≡ v.table + 4)
    × (x.rest.left ≡ v.left - 1)
NextIs s v (gives nothing) = v.left ≡ 0
NextIs s v (refuses k p) = (0 < v.left) × (value_in s v.table v.at ≡ refused k p)

given_is : (s : List ℕ) (v : Values) (a : Answer Value) → 0 < v.left → value_in s v.table v.at ≡ a → NextIs s v (next_given v (number_of s v.table 2) a)
given_is s v (given x next) h e = (h, e, refl, refl, refl)
given_is s v (refused k p) h e = (h, e)

pub next_is : (s : List ℕ) (v : Values) → v.table + 4 * v.left ≤ length s → v.at ≤ length s → NextIs s v (next_of s v)
next_is s v h k =
    either (NextIs s v) (eqb v.left 0) _ _ (λ e. eqb-true v.left 0 e)
    (λ e.
    let l : 0 < v.left = omega (arith, eqb-false v.left 0 e) in
    subst (λ (a : Answer Value). NextIs s v (next_given v (number_of s v.table 2) a)) (sym (step_reads s v.table v.at (omega (arith, h, l)) k))
    (given_is s v (value_in s v.table v.at) l refl))

-- after a value fewer are left
abbrev Fewer : Values → Result (Maybe ValueNext) → Type 0
Fewer v (gives (just x)) = x.rest.left < v.left
Fewer v (gives nothing) = Unit {0}
Fewer v (refuses k p) = Unit {0}

given_fewer : (v : Values) (size : ℕ) (a : Answer Value) → 0 < v.left → Fewer v (next_given v size a)
given_fewer v size (given x next) h = omega arith
given_fewer v size (refused k p) h = tt {0}

next_fewer_in : (s : List ℕ) (v : Values) → Fewer v (next_of s v)
next_fewer_in s v =
    either (Fewer v) (eqb v.left 0) _ _ (λ e. tt {0})
    (λ e. given_fewer v (number_of s v.table 2) (value_step s v.table v.at) (omega (arith, eqb-false v.left 0 e)))

pub next_fewer : (s : List ℕ) (v : Values) (x : ValueNext) → next_of s v ≡ gives (just x) → x.rest.left < v.left
next_fewer s v x e = subst (Fewer v) e (next_fewer_in s v)

-- "Short read: on to start plus s": a value ends no earlier
abbrev Far : ℕ → Answer Value → Type 0
Far m (given v next) = m ≤ next
Far m (refused k p) = Unit {0}

skipped_far : (code start end m : ℕ) (a : Answer Content) → Far m (passed code start end m a)
skipped_far code start end m (given x next) =
    either (Far m) (leb m next) _ _ (λ w. leb-true m next w) (λ w. either (Far m) (leb m end) _ _ (λ u. omega arith) (λ u. tt {0}))
skipped_far code start end m (refused k p) = tt {0}

sized_far : (t : List ℕ) (start code size : ℕ) → Far (start + size) (sized_at t start code size)
unfolding sized_at
sized_far t start code size =
    either (Far (start + size)) (ltb (start + length t + size) (2 ^ 64)) _ _
    (λ w. skipped_far code start (start + length t) (start + size) (moved start (sized_in t code size))) (λ w. tt {0})

-- a value is of its descriptor's type
abbrev pub Coded : ℕ → Answer Value → Type 0
Coded code (given v next) = v.code ≡ code
Coded code (refused k p) = Unit {0}

passed_coded : (code start end m : ℕ) (a : Answer Content) → Coded code (passed code start end m a)
passed_coded code start end m (given x next) =
    either (Coded code) (leb m next) _ _ (λ w. refl) (λ w. either (Coded code) (leb m end) _ _ (λ u. refl) (λ u. tt {0}))
passed_coded code start end m (refused k p) = tt {0}

sized_coded : (t : List ℕ) (start code size : ℕ) → Coded code (sized_at t start code size)
unfolding sized_at
sized_coded t start code size =
    either (Coded code) (ltb (start + length t + size) (2 ^ 64)) _ _
    (λ w. passed_coded code start (start + length t) (start + size) (moved start (sized_in t code size))) (λ w. tt {0})

pub value_coded : (s : List ℕ) (table at : ℕ) → Coded (number_of s (table + 2) 1) (value_in s table at)
value_coded s table at = sized_coded _ at (number_of s (table + 2) 1) (number_of s table 2)

-- a value that was read starts where it is read, and ends after its size and within the stream
pub value_spans : (s : List ℕ) (table at : ℕ) (v : Value) (next : ℕ) → at ≤ length s → value_in s table at ≡ given v next
    → (v.start ≡ at) × (at + number_of s table 2 ≤ next) × (next ≤ length s)
value_spans s table at v next h e =
    let n : at + length (drop at s) ≡ length s = omega (arith, length-drop at s) in
    let x = subst (Stands at (at + length (drop at s))) e (sized_stands (drop at s) at (number_of s (table + 2) 1) (number_of s table 2)) in
    (x.0, subst (Far (at + number_of s table 2)) e (sized_far (drop at s) at (number_of s (table + 2) 1) (number_of s table 2)), omega (arith, x.2, n))
