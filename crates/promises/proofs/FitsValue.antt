-- Names and values: what their definitions answer fits in an answer word. Assumes nothing.
use mathlib.Core.Bool.{Bool, false}
use mathlib.Core.List.{List}
use Prim.Native.Nat.{ℕ, zero, suc, ◌+◌, ◌*◌, ◌^◌, ◌≤◌, ◌<◌}
use native.Mathlib.Omega.{arith}
use borrow.Author.Tests.{leb-true}
use lib.Dec.{eqb, leb, ltb}
use lib.ListN.{length, drop, length-drop}
use Rattle.cursor.specs.Answer.{Answer, given, refused, ◌then◌, pick}
use Rattle.cursor.specs.Reads.{set_to, take_at}
use Rattle.cursor.specs.Text.{prefixed_at}
use Rattle.cursor.proofs.Choice.{either, tested}
use Rattle.name.specs.Hash.{hash_of}
use Rattle.name.specs.Name as N
use Rattle.name.specs.Pieces as P
use Rattle.value.specs.Value.{as_text, moved, tells_length, told_in, not_read, sized_in, sized_at, unsized_at}
use Rattle.value.specs.Pieces.{after_type}
use Rattle.value.specs.declared.Content.{Content}
use Rattle.value.proofs.Inside.{Inside, told_inside, not_read_lem, sized_inside}
use Rattle.promises.specs.Packed.{Bytes}
use Rattle.promises.proofs.Fits.{Fits, on, read_fits, number_then, set_fits}

-- what was read of a part t from `start` on, within the stream
module _ (t : List ℕ) (start high : ℕ) (inside : start + length t ≤ high) (short : high ≤ 65536) where
  moved_fits : (a : Answer Content) → Inside (length t) a → Fits high (moved start a)
  moved_fits (given x next) h = omega arith
  moved_fits (refused k p) h = (omega arith, omega arith)

  -- a value with a size: the position is set at most the size past its start
  sized_fits : (code size : ℕ) → size < 2 ^ 32 → Fits high (sized_at t start code size)
  unfolding sized_at
  sized_fits code size h =
      either (Fits high) (ltb (start + length t + size) (2 ^ 64)) _ _
      (λ w. on high (moved start (sized_in t code size)) _ (moved_fits (sized_in t code size) (sized_inside t code size)) (λ x n k.
      either (Fits high) (leb (start + size) n) _ _ (λ u. k)
      (λ u. either (Fits high) (leb (start + size) (start + length t)) _ _
      (λ e. omega (arith, leb-true (start + size) (start + length t) e))
      (λ e. (omega arith, omega arith)))))
      (λ w. (omega arith, omega arith))

module _ (s : List ℕ) (bytes : Bytes s) (short : length s ≤ 65536) where
  -- the stream's part from a position on
  rest : (at : ℕ) → at ≤ length s → at + length (drop at s) ≤ length s
  rest at h = simp length-drop (omega arith)

  -- a text
  pub text_fits : (at : ℕ) → at ≤ length s → Fits (length s) (prefixed_at s at false)
  text_fits at h =
      number_then s short bytes at 2 _ h (λ n m b k.
      on (length s) (take_at s m (2 * n)) _ (read_fits s short m (2 * n) (record { start = m; len = 2 * n }) k) (λ p e l. l))

  -- a value with a size, from the middle of the stream
  pub middle_fits : (at code size : ℕ) → at ≤ length s → size < 2 ^ 32 → Fits (length s) (sized_at (drop at s) at code size)
  middle_fits at code size h b = sized_fits (drop at s) at (length s) (rest at h) short code size b

  -- a value without a size
  pub unsized_fits : (at : ℕ) → at ≤ length s → Fits (length s) (unsized_at s at)
  unfolding unsized_at
  unsized_fits at h =
      number_then s short bytes at 1 (after_type s) h (λ code n b k.
      let t = drop n s in
      let a = pick (tells_length code) (moved n (told_in t code)) (pick (eqb code 0x01) (prefixed_at s n false then as_text) (refused (not_read code) n)) in
      on (length s) a _
      (either (Fits (length s)) (tells_length code) _ _
      (λ w. moved_fits t n (length s) (rest n k) short (told_in t code) (told_inside t code))
      (λ w. either (Fits (length s)) (eqb code 0x01) _ _
      (λ e. on (length s) (prefixed_at s n false) as_text (text_fits n k) (λ v m l. l))
      (λ e. (omega (arith, not_read_lem t code), omega arith))))
      (λ x m l. l))

  -- names
  in_place : (at : ℕ) → at ≤ length s → Fits (length s) (P.in_place_at s at)
  in_place at h =
      number_then s short bytes at 4 (λ _ second. P.after_next s at second) h (λ x second a i.
      number_then s short bytes second 2 (λ _ third. P.after_link s at third) i (λ y third c k.
      number_then s short bytes third 2 (P.skipped s at) k (λ n units b l.
      on (length s) (set_to s (at + 10 + 2 * n)) _ (set_fits s short (at + 10 + 2 * n) (omega arith)) (λ z e m. m))))

  offset_name : (at : ℕ) → at ≤ length s → Fits (length s) (N.offset_name_at s at)
  offset_name at h =
      number_then s short bytes at 4 (P.after_offset s) h (λ offset n b k.
      either (Fits (length s)) (eqb n offset) _ _ (λ e. in_place n k) (λ e. k))

  units : (n at : ℕ) → at ≤ length s → Fits (length s) (N.units_at s at n)
  unfolding N.units_at
  units zero at h = h
  units (suc n) at h = number_then s short bytes at 2 _ h (λ u m b k. on (length s) (N.units_at s m n) _ (units n m k) (λ us e l. l))

  inline_name : (at : ℕ) → at ≤ length s → Fits (length s) (N.inline_name_at s at)
  inline_name at h =
      number_then s short bytes at 2 (P.after_hash s at) h (λ stored n b k.
      number_then s short bytes n 2 (P.after_count s at stored) k (λ count m c l.
      on (length s) (N.units_at s m count) (P.after_units s at m count stored) (units count m l) (λ us e i.
      number_then s short bytes e 2 _ i (λ last z d j.
      tested (Fits (length s)) (eqb last 0) _ _ _
      (λ p. tested (Fits (length s)) (eqb stored (hash_of us)) _ _ _ (λ q. j) (λ q. (omega arith, omega arith)))
      (λ p. (omega arith, omega arith))))))

  pub name_fits : (at : ℕ) (inline : Bool) → at ≤ length s → Fits (length s) (N.name_at s at inline)
  name_fits at inline h = either (Fits (length s)) inline _ _ (λ e. inline_name at h) (λ e. offset_name at h)
