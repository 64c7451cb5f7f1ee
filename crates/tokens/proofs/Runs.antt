-- A table or a run of values, one at a time. Assumes nothing.
use mathlib.Core.Path.{◌≡◌, refl, ap, ◌∙◌}
use mathlib.Core.List.{List}
use Prim.Native.Nat.{ℕ, zero, suc, ◌+◌, ◌-◌, ◌*◌, ◌≤◌, ◌<◌}
use native.Mathlib.Omega.{arith}
use borrow.Author.Tests.{leb-true, le-leb}
use lib.ListN.{length}
use Rattle.cursor.specs.Answer.{Answer, given, refused, ◌then◌, pick}
use Rattle.cursor.specs.Reads.{within, set_to, number_of, number_at}
use Rattle.cursor.specs.Refusals.{unknown_type}
use Rattle.cursor.proofs.Choice.{either}
use Rattle.value.specs.Kinds.{known_code}
use Rattle.value.specs.declared.Value.{Value}
use Rattle.tokens.specs.Instance.{definition_at, descriptor_at, table_at, instance_head_at, value_in, value_step, values_at}
use Rattle.tokens.specs.Pieces.{descriptor_after_size, descriptor_after_type, head_after_count}
use Rattle.tokens.specs.declared.Instance.{Instance}

-- a table of which i of n descriptors are read: the next one, and the rest
pub table_on : (s : List ℕ) (at n i : ℕ) (a : Answer Unit) → i < n → descriptor_at s at ≡ a
    → table_at s at (n - i) ≡ (a then λ _ next. table_at s next (n - (i + 1)))
unfolding table_at
table_on s at n i a h e =
    let m : n - i ≡ suc (n - (i + 1)) = omega arith in
    ap (table_at s at) m ∙ ap (λ (x : Answer Unit). x then λ _ next. table_at s next (n - (i + 1))) e

pub table_none : (s : List ℕ) (at n i : ℕ) → n ≤ i → table_at s at (n - i) ≡ given tt at
unfolding table_at
table_none s at n i h =
    let m : n - i ≡ 0 = omega arith in
    ap (table_at s at) m

-- values of which i of n are read: the next one, and the rest
pub values_on : (s : List ℕ) (first at n i : ℕ) (a : Answer Value) → i < n → value_in s (first + 4 * i) at ≡ a
    → values_at s (first + 4 * i) at (n - i) ≡ (a then λ _ next. values_at s (first + 4 * (i + 1)) next (n - (i + 1)))
unfolding values_at
values_on s first at n i a h e =
    let m : n - i ≡ suc (n - (i + 1)) = omega arith in
    let k : first + 4 * i + 4 ≡ first + 4 * (i + 1) = omega arith in
    ap (values_at s (first + 4 * i) at) m
    ∙ ap (λ (t : ℕ). value_in s (first + 4 * i) at then λ _ next. values_at s t next (n - (i + 1))) k
    ∙ ap (λ (x : Answer Value). x then λ _ next. values_at s (first + 4 * (i + 1)) next (n - (i + 1))) e

pub values_none : (s : List ℕ) (table at n i : ℕ) → n ≤ i → values_at s table at (n - i) ≡ given tt at
unfolding values_at
values_none s table at n i h =
    let m : n - i ≡ 0 = omega arith in
    ap (values_at s table at) m

-- where the value step gives a value its descriptor stands in the stream
abbrev pub Described : ℕ → ℕ → Answer Value → Type 0
Described table high (given v next) = table + 4 ≤ high
Described table high (refused k p) = Unit {0}

any : (table high : ℕ) (a : Answer Value) → table + 4 ≤ high → Described table high a
any table high (given v next) h = h
any table high (refused k p) h = tt {0}

pub described : (s : List ℕ) (table at : ℕ) → Described table (length s) (value_step s table at)
described s table at =
    either (Described table (length s)) (within s table 4) _ _
    (λ w. any table (length s) (set_to s at then λ _ start. value_in s table start) (leb-true (table + 4) (length s) w))
    (λ w. tt {0})

-- where both stand in the stream, the value step reads the value
pub step_reads : (s : List ℕ) (table at : ℕ) → table + 4 ≤ length s → at ≤ length s → value_step s table at ≡ value_in s table at
step_reads s table at h k = simp (le-leb (table + 4) (length s) h, le-leb at (length s) k)

-- a table of n descriptors has 4 bytes for each, and ends within the stream
abbrev pub Spans : ℕ → ℕ → ℕ → Answer Unit → Type 0
Spans at n high (given x next) = (next ≡ at + 4 * n) × (next ≤ high)
Spans at n high (refused k p) = Unit {0}

raise : (at m n high : ℕ) (a : Answer Unit) → m ≡ at + 4 * 1 → Spans m n high a → Spans at (suc n) high a
raise at m n high (given x next) e h = (omega (arith, h.0), h.1)
raise at m n high (refused k p) e h = tt {0}

spans_on_lem : (at n high : ℕ) (a : Answer Unit) (go : ℕ → Answer Unit) → Spans at 1 high a → ((m : ℕ) → m ≤ high → Spans m n high (go m))
    → Spans at (suc n) high (a then λ _ next. go next)
spans_on_lem at n high (given x m) go h g = raise at m n high (go m) h.0 (g m h.1)
spans_on_lem at n high (refused k p) go h g = tt {0}

descriptor_spans : (s : List ℕ) (at : ℕ) → Spans at 1 (length s) (descriptor_at s at)
descriptor_spans s at =
    let P = Spans at 1 (length s) in
    either (λ (a : Answer ℕ). P (a then λ _ next. descriptor_after_size s next)) (within s at 2) _ _
    (λ w. either (λ (a : Answer ℕ). P (a then (λ code next. pick (known_code code) (given code next) (refused unknown_type next)) then λ _ next. descriptor_after_type s next)) (within s (at + 2) 1) _ _
    (λ v. either (λ (a : Answer ℕ). P (a then λ _ next. descriptor_after_type s next)) (known_code (number_of s (at + 2) 1)) _ _
    (λ k. either (λ (a : Answer ℕ). P (a then λ _ next. given tt next)) (within s (at + 2 + 1) 1) _ _
    (λ u. (omega arith, leb-true (at + 2 + 1 + 1) (length s) u))
    (λ u. tt {0}))
    (λ k. tt {0}))
    (λ v. tt {0}))
    (λ w. tt {0})

pub table_spans : (s : List ℕ) (n at : ℕ) → at ≤ length s → Spans at n (length s) (table_at s at n)
unfolding table_at
table_spans s zero at h = (omega arith, h)
table_spans s (suc n) at h = spans_on_lem at n (length s) (descriptor_at s at) (λ m. table_at s m n) (descriptor_spans s at) (λ m k. table_spans s n m k)

-- the table of a head that was read stands in the stream, and the head ends there
abbrev pub TableStands : ℕ → Answer Instance → Type 0
TableStands high (given i next) = (i.table + 4 * i.count ≤ high) × (next ≤ high)
TableStands high (refused k p) = Unit {0}

after_any : {A : Type 0} (high : ℕ) (a : Answer A) (f : A → ℕ → Answer Instance) → ((x : A) (n : ℕ) → TableStands high (f x n))
    → TableStands high (a then f)
after_any high (given x n) f g = g x n
after_any high (refused k p) f g = tt {0}

after_table : (at n high : ℕ) (a : Answer Unit) (i : ℕ → Instance) → Spans at n high a → ((m : ℕ) → ((i m).table ≡ at) × ((i m).count ≡ n))
    → TableStands high (a then λ _ next. given (i next) next)
after_table at n high (given x m) i h g = (omega (arith, h.0, h.1, (g m).0, (g m).1), h.1)
after_table at n high (refused k p) i h g = tt {0}

pub head_stands : (s : List ℕ) (at : ℕ) → TableStands (length s) (instance_head_at s at)
head_stands s at =
    let high = length s in
    after_any high (number_at s at 1) _ (λ _ n.
    after_any high (number_at s n 4) _ (λ id m.
    after_any high (number_at s m 4) _ (λ offset e.
    after_any high (definition_at s offset e) _ (λ guid z.
    either (λ a. TableStands high (a then λ count table. head_after_count s id offset guid count table)) (within s z 4) _ _
    (λ w. after_table (z + 4) (number_of s z 4) high (table_at s (z + 4) (number_of s z 4)) _ (table_spans s (number_of s z 4) (z + 4) (leb-true (z + 4) (length s) w)) (λ _. (refl, refl)))
    (λ w. tt {0})))))
