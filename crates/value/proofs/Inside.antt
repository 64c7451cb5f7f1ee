-- What is read of a part stands in it and ends in it, and so do the refusals. Assumes nothing.
use mathlib.Core.Path.{◌≡◌, refl}
use mathlib.Core.Bool.{◌||◌}
use mathlib.Core.List.{List}
use Prim.Native.Nat.{ℕ, ◌+◌, ◌*◌, ◌/◌, ◌%◌, ◌^◌, ◌≤◌, ◌<◌}
use native.Mathlib.Omega.{arith}
use borrow.Author.Tests.{leb-true}
use lib.Dec.{eqb, leb, ltb}
use lib.ListN.{length, get_or}
use Rattle.cursor.specs.Answer.{Answer, given, refused, ◌then◌}
use Rattle.cursor.specs.Reads.{within, bytes_of, take_at, sid_at, array_at}
use Rattle.cursor.specs.Refusals.{unknown_type, type_not_read}
use Rattle.cursor.specs.Text.{units_of, counted_at, view_of}
use Rattle.cursor.specs.declared.Part.{Part}
use Rattle.cursor.proofs.Choice.{either}
use Rattle.value.specs.Kinds.{known_code, width_of, element_width_of}
use Rattle.value.specs.Value.{as_bytes, as_number, as_text, moved, tells_length, told_in, takes_size, not_read, sized_in}
use Rattle.value.specs.Pieces.{place_of, Movable}
use Rattle.value.specs.declared.Content.{Content}
use Rattle.value.proofs.Bounds.{Between}

-- a content and where it ends, or a refusal's place; its number is one of document 01's
abbrev pub Inside : ℕ → Answer Content → Type 0
Inside high (given x next) = (place_of x ≤ high) × (next ≤ high)
Inside high (refused k p) = (k ≤ 17) × (p ≤ high)

-- the same of a part of bytes
abbrev pub Holds : ℕ → Answer Part → Type 0
Holds high (given p next) = (p.start ≤ high) × (next ≤ high)
Holds high (refused k p) = (k ≤ 17) × (p ≤ high)

pub as_bytes_lem : (high : ℕ) (a : Answer Part) → Holds high a → Inside high (a then as_bytes)
as_bytes_lem high (given p next) h = h
as_bytes_lem high (refused k p) h = h

pub as_number_lem : (high : ℕ) (a : Answer Part) → Holds high a → Inside high (a then as_number)
as_number_lem high (given p next) h = h
as_number_lem high (refused k p) h = h

module _ (t : List ℕ) where
  pub takes : (n : ℕ) → Holds (length t) (take_at t 0 n)
  takes n = either (Holds (length t)) (within t 0 n) _ _ (λ w. (omega arith, leb-true (0 + n) (length t) w)) (λ w. (omega arith, omega arith))

  pub a_sid : Holds (length t) (sid_at t 0)
  a_sid =
      either (λ a. Holds (length t) (a then λ groups _. take_at t 0 (8 + 4 * groups))) (within t 0 8) _ _
      (λ w. takes (8 + 4 * get_or t (0 + 1) 0))
      (λ w. (omega arith, omega arith))

  pub an_array : (width size : ℕ) → Holds (length t) (array_at t 0 width size)
  unfolding array_at
  an_array width size =
      either (Holds (length t)) (eqb size 0) _ _ (λ e. takes 0)
      (λ e. either (Holds (length t)) (eqb width 0) _ _ (λ z. (omega arith, omega arith))
      (λ z. either (Holds (length t)) (eqb (size % width) 0) _ _ (λ r. takes size) (λ r. (omega arith, omega arith))))

  pub a_text : (n : ℕ) → Inside (length t) (counted_at t 0 n then as_text)
  a_text n =
      either (λ a. Inside (length t) (a then (λ _ next. given (view_of 0 (units_of (bytes_of t 0 (2 * n)))) next) then as_text)) (within t 0 (2 * n)) _ _
      (λ w. (omega arith, leb-true (0 + 2 * n) (length t) w))
      (λ w. (omega arith, omega arith))

  pub told_inside : (code : ℕ) → Inside (length t) (told_in t code)
  told_inside code =
      let high = length t in
      let width = width_of code in
      either (Inside high) (ltb 0 width) _ _
      (λ w. either (Inside high) (eqb width 16) _ _
      (λ e. as_bytes_lem high (take_at t 0 width) (takes width))
      (λ e. as_number_lem high (take_at t 0 width) (takes width)))
      (λ w. either (Inside high) (eqb code 0x13) _ _ (λ e. as_bytes_lem high (sid_at t 0) a_sid) (λ e. (omega arith, omega arith)))

  pub not_read_lem : (code : ℕ) → not_read code ≤ 17
  not_read_lem code = either (λ k. k ≤ 17) (known_code code) type_not_read unknown_type (λ e. omega arith) (λ e. omega arith)

  pub sized_inside : (code size : ℕ) → Inside (length t) (sized_in t code size)
  sized_inside code size =
      let high = length t in
      let width = element_width_of code in
      either (Inside high) (tells_length code) _ _ (λ w. told_inside code)
      (λ w. either (Inside high) (eqb code 0x01) _ _ (λ e. a_text (size / 2))
      (λ e. either (Inside high) (takes_size code) _ _ (λ f. as_bytes_lem high (take_at t 0 size) (takes size))
      (λ f. either (Inside high) (eqb code 0x10) _ _
      (λ g. either (Inside high) (eqb size 4 || eqb size 8) _ _ (λ h. as_number_lem high (take_at t 0 size) (takes size)) (λ h. (omega arith, omega arith)))
      (λ g. either (Inside high) (ltb 0 width) _ _ (λ h. as_bytes_lem high (array_at t 0 width size) (an_array width size)) (λ h. (not_read_lem code, omega arith))))))

-- moved to where the part starts in the stream, it fits a number where the part's end does, and ends in the part there
pub movable : (start high : ℕ) (a : Answer Content) → Inside high a → start + high < 2 ^ 64 → Movable start a
movable start high (given x next) h l = (omega arith, omega arith)
movable start high (refused k p) h l = omega arith

pub moved_between : (start high : ℕ) (a : Answer Content) → Inside high a → Between start (start + high) (moved start a)
moved_between start high (given x next) h = (omega arith, omega arith)
moved_between start high (refused k p) h = tt {0}
