-- The text of a listing always has room in the program's buffer, so that the program cuts nothing. Assumes nothing.
use mathlib.Core.Path.{◌≡◌, refl, sym, ap, subst, ◌∙◌}
use mathlib.Core.Bool.{Bool, true, false}
use mathlib.Core.List.{List, [], ◌∷◌, ◌++◌}
use Prim.Native.Nat.{ℕ, zero, suc, ◌+◌, ◌*◌, ◌/◌, ◌%◌, ◌^◌, ◌≤◌, ◌<◌}
use native.Mathlib.Nat.{pow-suc}
use native.Mathlib.Numerals.{add-one}
use native.Mathlib.Omega.{arith}
use contract.Lifetimes.{Lfts}
use borrow.Author.Tests.{lt-ltb, ltb-true, ltb-false}
use borrow.Fn.Kinds.{Dens, res_t, ended_of}
use denote.Triple.Clauses.{AtExit}
use lib.Dec.{ltb}
use lib.ListN.{length, take, drop, set, length-append, length-set}
use lib.Seq.{sets, sets-eq}
use Rattle.cursor.specs.Answer.{Answer, given, refused}
use Rattle.cursor.proofs.Choice.{either}
use Rattle.record.specs.Chunk.{fields_at}
use Rattle.record.specs.declared.Fields.{Fields}
use Rattle.record.specs.declared.Record.{Record}
use Rattle.chunk.specs.Walk.{Reply, live, carved, refused_with}
use Rattle.chunk.specs.Whole.{Rising}
use Rattle.chunk.proofs.Whole.{apart, most_answers_lem}
use Rattle.print.specs.Text.{Page, page, put, put_byte, Puts, PutsSome, ascii, each, digit, decimal_in, decimal_of, spaced_number, line_of}
use Rattle.listing_text.specs.Listing.{listed_record, listed_item, listed_items, tally_of, done_line, listing_of, ItemsOn, Listed}
use Rattle.listing_text.specs.declared.Tally.{Tally}
use Rattle.listing_text.proofs.put.Kinds as listingK
use Rattle.listing_text.proofs.put.Reads as listingR
use Rattle.promises.specs.Room.{program_buffer, StandsWhole}

-- a number has no more digits than are asked for, and one below 10^d has at most d
digits_most : (k n : ℕ) → length (decimal_in k n) ≤ k
unfolding decimal_in
digits_most zero n = omega arith
digits_most (suc k) n =
    either (λ (l : List ℕ). length l ≤ suc k) (ltb n 10) _ _ (λ e. omega arith)
    (λ e. omega (arith, digits_most k (n / 10), length-append (decimal_in k (n / 10)) (digit (n % 10) ∷ [])))

pub digits_below : (k d n : ℕ) → n < 10 ^ suc d → length (decimal_in k n) ≤ suc d
unfolding decimal_in
digits_below zero d n h = omega arith
digits_below (suc k) zero n h =
    either (λ (l : List ℕ). length l ≤ 1) (ltb n 10) _ _ (λ e. omega arith) (λ e. absurd (omega (arith, ltb-false n 10 e)))
digits_below (suc k) (suc d) n h =
    let p = pow-suc 10 (suc d) in
    let m : n / 10 < 10 ^ suc d = omega (arith, p) in
    either (λ (l : List ℕ). length l ≤ suc (suc d)) (ltb n 10) _ _ (λ e. omega arith)
    (λ e. omega (arith, digits_below k d (n / 10) m, length-append (decimal_in k (n / 10)) (digit (n % 10) ∷ [])))

-- a line of three numbers
line_length : (word : List ℕ) (a b c : ℕ)
    → length (line_of word (a ∷ b ∷ c ∷ [])) ≡ length word + length (decimal_of a) + length (decimal_of b) + length (decimal_of c) + 4
unfolding each
line_length word a b c =
    let tail = spaced_number c ++ [] in
    let all = each spaced_number (a ∷ b ∷ c ∷ []) in
    let e : line_of word (a ∷ b ∷ c ∷ []) ≡ (word ++ all) ++ ascii "\n" = refl in
    let f : all ≡ spaced_number a ++ (spaced_number b ++ tail) = refl in
    let sa : length (spaced_number a) ≡ 1 + length (decimal_of a) = length-append (ascii " ") (decimal_of a) in
    let sb : length (spaced_number b) ≡ 1 + length (decimal_of b) = length-append (ascii " ") (decimal_of b) in
    let sc : length (spaced_number c) ≡ 1 + length (decimal_of c) = length-append (ascii " ") (decimal_of c) in
    let l1 : length (word ++ all) ≡ length word + length all = length-append word all in
    let l2 : length (spaced_number b ++ tail) ≡ length (spaced_number b) + length tail = length-append (spaced_number b) tail in
    let l3 : length tail ≡ length (spaced_number c) + 0 = length-append (spaced_number c) [] in
    let l4 : length all ≡ length (spaced_number a) + length (spaced_number b ++ tail) = ap length f ∙ length-append (spaced_number a) (spaced_number b ++ tail) in
    let l5 : length (line_of word (a ∷ b ∷ c ∷ [])) ≡ length (word ++ all) + 1 = ap length e ∙ length-append (word ++ all) (ascii "\n") in
    omega (arith, sa, sb, sc, l1, l2, l3, l4, l5)

record_length : (word : List ℕ) (r : Record) → length word ≤ 6 → r.offset ≤ 65536 → length (listed_record word r) ≤ 55
record_length word r w h =
    omega (
      arith,
      line_length word r.offset r.size r.id,
      digits_below 20 4 r.offset (omega arith),
      digits_most 20 r.size,
      digits_most 20 r.id,
    )

-- the lines of records that lie within a chunk, and of refusals
lines_length : (from : ℕ) (items : List Reply) → Rising from items → length (listed_items items) ≤ 55 * length items
unfolding each Rising
lines_length from [] h = omega arith
lines_length from (live r ∷ items) (a, b, c) =
    omega (
      arith,
      length-append (listed_item (live r)) (listed_items items),
      record_length (ascii "live") r (omega arith) (omega arith),
      lines_length (r.offset + r.size) items c,
    )
lines_length from (carved r ∷ items) (a, b, c) =
    omega (
      arith,
      length-append (listed_item (carved r)) (listed_items items),
      record_length (ascii "carved") r (omega arith) (omega arith),
      lines_length (r.offset + r.size) items c,
    )
lines_length from (refused_with number place ∷ items) h =
    omega (
      arith,
      length-append (listed_item (refused_with number place)) (listed_items items),
      line_length (ascii "refused") place number 0,
      digits_most 20 place,
      digits_most 20 number,
      digits_below 20 0 0 (omega arith),
      lines_length from items h,
    )

listing_length : (from : ℕ) (items : List Reply) → Rising from items → length items ≤ 4645 → length (listing_of items) ≤ program_buffer
listing_length from items h few =
    let t = tally_of items in
    omega (
      arith,
      length-append (ascii "item offset size id\n") (listed_items items ++ done_line t),
      length-append (listed_items items) (done_line t),
      lines_length from items h,
      line_length (ascii "done") t.live t.carved t.refused,
      digits_most 20 t.live,
      digits_most 20 t.carved,
      digits_most 20 t.refused,
    )

items_room : (s : List ℕ) (items : List Reply) (f : Answer Fields) → fields_at s ≡ f → ItemsOn s items f → length (listing_of items) ≤ program_buffer
unfolding Rising
items_room s items (given h n) e r = listing_length 512 items (apart s h n e true items r) (most_answers_lem s h n e true items r)
items_room s items (refused k p) e r =
    subst (λ (l : List Reply). length (listing_of l) ≤ program_buffer) (sym r) (listing_length 0 (refused_with k p ∷ []) (tt {0}) (omega arith))

-- the listing of anything has room
pub listing_room : (s text : List ℕ) → Listed s text → length text ≤ program_buffer
listing_room s text h =
    subst (λ (l : List ℕ). length l ≤ program_buffer) (sym h.is) (items_room s h.items (fields_at s) refl h.allowed)

-- a text that has room is put whole
sets_put : (t lent : List ℕ) (at : ℕ) → at + length t ≤ length lent → put t (page lent at) ≡ page (sets lent at t) (at + length t)
unfolding put
sets_put [] lent at h = let e : at ≡ at + 0 = omega arith in ap (page lent) e
sets_put (b ∷ t) lent at h =
    let e : at + 1 + length t ≡ at + suc (length t) = omega arith in
    let k : at + 1 + length t ≤ length (set lent at b) = omega (arith, length-set lent at b) in
    let r : put_byte b (page lent at) ≡ page (set lent at b) (at + 1) = rw (lt-ltb at (length lent) (omega arith)) refl in
    ap (put t) r ∙ sets_put t (set lent at b) (at + 1) k ∙ ap (λ (n : ℕ). page (sets (set lent at b) n t) (at + 1 + length t)) (add-one at)
    ∙ ap (page (sets (set lent at b) (suc at) t)) e

put_whole : (t lent : List ℕ) (at : ℕ) (left : List ℕ) (end : ℕ) → Puts t lent at left end → at + length t ≤ length lent
    → (end ≡ at + length t) × (left ≡ take at lent ++ t ++ drop (at + length t) lent)
put_whole t lent at left end p h =
    let e = p.is ∙ sets_put t lent at h in
    (ap (λ (x : Page). x.full) e, ap (λ (x : Page). x.bytes) e ∙ sets-eq t lent at h)

-- so where so much is lent the whole listing stands there
pub listing_whole : (κs : Lfts 2) (a : Dens κs listingK.ps) (x : (res_t listingK.r κs).Denot) (s : AtExit (ended_of 2 listingK.ps listingK.r) κs)
    → listingR.Post κs a x s → a.1.0 + program_buffer ≤ length a.0.now → StandsWhole a.1.1.0.now a.0.now a.1.0 s.0.now x
listing_whole κs a x s p h =
    let y = put_whole p.text a.0.now a.1.0 s.0.now x p.puts (omega (arith, listing_room _ p.text p.allowed)) in
    record { text = p.text; listed = p.allowed; ends = y.0; stands = y.1 }
