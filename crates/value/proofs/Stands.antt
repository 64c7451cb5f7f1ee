-- What a value's read ends at: it never goes back, and ends within the stream. Assumes nothing.
use mathlib.Core.Path.{◌≡◌, refl, subst}
use mathlib.Core.Bool.{false}
use mathlib.Core.List.{List}
use Prim.Native.Nat.{ℕ, ◌+◌, ◌^◌, ◌≤◌}
use native.Mathlib.Omega.{arith}
use borrow.Author.Tests.{leb-true, leb-false}
use lib.Dec.{eqb, leb, ltb}
use lib.ListN.{length, drop, length-drop}
use Rattle.cursor.specs.Answer.{Answer, given, refused, ◌then◌, pick}
use Rattle.cursor.specs.Reads.{within, number_of}
use Rattle.cursor.specs.Text.{counted_at, prefixed_at}
use Rattle.cursor.specs.declared.View.{View}
use Rattle.cursor.proofs.Choice.{either}
use Rattle.value.specs.Value.{as_text, moved, tells_length, told_in, not_read, sized_in, sized_at, unsized_at}
use Rattle.value.specs.Pieces.{valued, passed, after_type}
use Rattle.value.specs.declared.Content.{Content}
use Rattle.value.specs.declared.Value.{Value}
use Rattle.value.proofs.Bounds.{Between, counted_between}
use Rattle.value.proofs.Inside.{told_inside, sized_inside, moved_between}

-- a value starts there, and ends between its start and the stream's end
abbrev pub Stands : ℕ → ℕ → Answer Value → Type 0
Stands start end (given v next) = (v.start ≡ start) × (start ≤ next) × (next ≤ end)
Stands start end (refused k p) = Unit {0}

stands : (code start end : ℕ) (a : Answer Content) → Between start end a → Stands start end (valued code start a)
stands code start end (given x next) h = (refl, h.0, h.1)
stands code start end (refused k p) h = h

skipped : (code start end target : ℕ) (a : Answer Content) → Between start end a → Stands start end (passed code start end target a)
skipped code start end target (given x next) h =
    either (Stands start end) (leb target next) _ _ (λ w. (refl, h.0, h.1))
    (λ w. either (Stands start end) (leb target end) _ _
    (λ u. (refl, omega (arith, leb-false target next w), leb-true target end u))
    (λ u. tt {0}))
skipped code start end target (refused k p) h = h

-- a value with a size
pub sized_stands : (t : List ℕ) (start code size : ℕ) → Stands start (start + length t) (sized_at t start code size)
unfolding sized_at
sized_stands t start code size =
    let end = start + length t in
    either (Stands start end) (ltb (start + length t + size) (2 ^ 64)) _ _
    (λ w. skipped code start end (start + size) (moved start (sized_in t code size)) (moved_between start (length t) (sized_in t code size) (sized_inside t code size)))
    (λ w. tt {0})

text_between : (low high : ℕ) (a : Answer View) → Between (low + 2) high a → Between low high (a then as_text)
text_between low high (given v next) h = (omega arith, h.1)
text_between low high (refused k p) h = h

string_between : (s : List ℕ) (at : ℕ) → Between at (length s) (prefixed_at s at false then as_text)
string_between s at =
    either (λ a. Between at (length s) (a then (λ n next. counted_at s next n) then as_text)) (within s at 2) _ _
    (λ w. text_between at (length s) (counted_at s (at + 2) (number_of s at 2)) (counted_between s (at + 2) (number_of s at 2)))
    (λ w. tt {0})

after_stands : (s : List ℕ) (code at : ℕ) → at ≤ length s → Stands at (length s) (after_type s code at)
after_stands s code at h =
    let end = length s in
    let P = Between at end in
    let t = drop at s in
    let e : at + length t ≡ end = simp length-drop (omega arith) in
    let a =
    pick (tells_length code) (moved at (told_in t code)) (pick (eqb code 0x01) (prefixed_at s at false then as_text) (refused (not_read code) at))
    in
    stands code at end a
    (either P (tells_length code) _ _
    (λ w. subst (λ (m : ℕ). Between at m (moved at (told_in t code))) e (moved_between at (length t) (told_in t code) (told_inside t code)))
    (λ w. either P (eqb code 0x01) _ _ (λ f. string_between s at) (λ f. tt {0})))

-- a value without a size: it starts after its type
pub unsized_stands : (s : List ℕ) (at : ℕ) → Stands (at + 1) (length s) (unsized_at s at)
unfolding unsized_at
unsized_stands s at =
    either (λ a. Stands (at + 1) (length s) (a then after_type s)) (within s at 1) _ _
    (λ w. after_stands s (number_of s at 1) (at + 1) (leb-true (at + 1) (length s) w))
    (λ w. tt {0})
