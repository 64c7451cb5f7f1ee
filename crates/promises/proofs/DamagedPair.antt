-- The walks of two chunks whose second record is damaged, computed; what they have in common, and what they have not. Assumes nothing.
use Rattle.std.specs.declared.option.Option.TheVariants as O
use mathlib.Core.Path.{◌≡◌, refl, sym, ap, subst, ◌∙◌}
use mathlib.Core.Bool.{Bool, true, false}
use mathlib.Core.List.{List, [], ◌∷◌}
use Prim.Native.Nat.{ℕ, zero, suc, ◌+◌, ◌-◌, ◌≤◌, ◌<◌, min}
use native.Mathlib.Decide.{dec_lt}
use native.Mathlib.Omega.{arith}
use borrow.Author.Tests.{lt-ltb}
use lib.Dec.{leb, eqb}
use lib.ListN.{length, drop, replicate, length-append, length-replicate}
use lib.Seq.{drop-drop, drop-nil, drop-append-add}
use Rattle.cursor.specs.Answer.{Answer, given, refused, gives, Maybe, just, nothing, ◌then◌, must}
use Rattle.cursor.specs.Reads.{little, starts_with}
use Rattle.cursor.specs.Refusals.{wrong_length, wrong_magic}
use Rattle.record.specs.Chunk.{chunk_size, chunk_magic, header_end, fields_of, fields_at}
use Rattle.record.specs.Record.{record_magic, plain_at, copied, strict_at}
use Rattle.record.specs.declared.Record.{Record}
use Rattle.search.specs.Least.{None, Least}
use Rattle.search.specs.Allowed.{is_live, reads, allowed, resyncable, carvable}
use Rattle.search.specs.Search.{magic_at}
use Rattle.search.proofs.Leasts.{join}
use Rattle.search.proofs.Magics.{never}
use Rattle.search.proofs.Suited.{none_allowed, none_past}
use Rattle.chunk.specs.Walk.{Reply, live, carved, refused_with, start_of, answered, going_on, Turns, answers, goes_on, Steps, StepsOn, ReadTurn, carved_at, ResyncOn, ResyncAfter}
use Rattle.chunk.specs.Listing.{Runs}
use Rattle.chunk.specs.declared.Walk.{Walk}
use Rattle.promises.specs.Damage.{Damaged, without_carved, SameRest}
use Rattle.promises.specs.DamagedPair.{three_records, its_fields, without_magic, with_late_time, first_record, inner_record, last_record, after_magic, after_late_time, magic_answers, late_time_answers}
use Rattle.promises.proofs.Forward.{plain_on, plain_on_lem}
use Rattle.promises.proofs.Damage.{damage_stays_in_its_range}

-- in the first n places no magic stands
unfoldable clean : ℕ → List ℕ → Bool
clean zero d = true
clean (suc n) d = elim (starts_with d record_magic) [ true ↦ false | false ↦ clean n (drop 1 d) ]

first_clean : (b : Bool) (n : ℕ) (d : List ℕ) → starts_with d record_magic ≡ b → clean (suc n) d ≡ true → (starts_with d record_magic ≡ false) × (clean n (drop 1 d) ≡ true)
unfolding clean
first_clean true n d e f = absurd (never (sym f ∙ ap (λ (b : Bool). elim b [ true ↦ false | false ↦ clean n (drop 1 d) ]) e))
first_clean false n d e f = (e, sym (ap (λ (b : Bool). elim b [ true ↦ false | false ↦ clean n (drop 1 d) ]) e) ∙ f)

clean_none : (s : List ℕ) (n p : ℕ) → clean n (drop p s) ≡ true → None (magic_at s) p (p + n)
clean_none s zero p e k a b f = absurd (omega arith)
clean_none s (suc n) p e k a b f =
    let x = first_clean (starts_with (drop p s) record_magic) n (drop p s) refl e in
    elim (dec_lt p k) [
      | yes l ↦ clean_none s n (p + 1) (ap (clean n) (sym (drop-drop 1 p s)) ∙ x.1) k (omega arith) (omega arith) f
      | no l ↦ let g : k ≡ p = omega arith in never (sym f ∙ ap (magic_at s) g ∙ x.0)
    ]

-- zeros hold no magic
zeros_none : (n j : ℕ) → starts_with (drop j (replicate n 0)) record_magic ≡ false
unfolding starts_with
zeros_none zero j = ap (λ (d : List ℕ). starts_with d record_magic) (drop-nil j)
zeros_none (suc n) zero = refl
zeros_none (suc n) (suc j) = zeros_none n j

-- of one offset
none_one : (t : ℕ → Bool) (p : ℕ) → t p ≡ false → None t p (p + 1)
none_one t p e k a b f = let g : k ≡ p = omega arith in never (sym f ∙ ap t g ∙ e)

-- a walk with recovery that stands at a place, or is over, and its range
abbrev at : ℕ → ℕ → ℕ → Walk
at place from to = record { place = O.Some place; from = from; to = to; recover = true }

abbrev over : ℕ → ℕ → Walk
over from to = record { place = O.None; from = from; to = to; recover = true }

-- what is asked of a record that is carved from a range
abbrev ends_by : ℕ → Record → ℕ → Bool
ends_by to r end = leb end to

-- `rest` stands for the zeros
module _ (rest : List ℕ) (zeros : (j : ℕ) → starts_with (drop j rest) record_magic ≡ false) (many : length rest ≡ 64912) where
  -- what holds of both chunks, whatever is damaged
  module _ (outer inner time : ℕ) where
    abbrev s : List ℕ
    s = three_records outer inner time rest

    long : length s ≡ 65536
    long = length-append (three_records outer inner time []) rest ∙ ap (λ (n : ℕ). 624 + n) many

    header : fields_at s ≡ given its_fields 512
    unfolding fields_at starts_with little
    header =
        ap (λ (n : ℕ). must (eqb n chunk_size) wrong_length 0 then λ _ _. must (starts_with s chunk_magic) wrong_magic 0 then λ _ _. given (fields_of s) header_end) long

    plain_is : (at : ℕ) → plain_at s at ≡ plain_on 65536 (drop at s) at
    plain_is at = plain_on_lem s at ∙ ap (λ (n : ℕ). plain_on n (drop at s) at) long

    strict_is : (at : ℕ) (r : Record) (n : ℕ) → plain_at s at ≡ given r n → copied s r n ≡ given r n → strict_at s at ≡ given r n
    unfolding strict_at
    strict_is at r n e f = ap (λ (a : Answer Record). a then copied s) e ∙ f

    first_read : plain_at s 512 ≡ given first_record 540
    unfolding starts_with little
    first_read = plain_is 512

    last_read : plain_at s 596 ≡ given last_record 624
    unfolding starts_with little
    last_read = plain_is 596

    last_strict : strict_at s 596 ≡ given last_record 624
    unfolding little
    last_strict = strict_is 596 last_record 624 last_read refl

    -- no magic in so many places from an offset on
    none_in : (limit : ℕ) (ask : Record → ℕ → Bool) (p n : ℕ) → clean n (drop p s) ≡ true → None (allowed s limit ask) p (p + n)
    none_in limit ask p n e = none_allowed s limit ask p (p + n) (clean_none s n p e)

    drop_rest : (k : ℕ) → 624 ≤ k → drop k s ≡ drop (k - 624) rest
    drop_rest k l =
        let e : 624 + (k - 624) ≡ k = omega arith in
        ap (λ (n : ℕ). drop n s) (sym e) ∙ drop-append-add (three_records outer inner time []) rest (k - 624)

    -- nothing is carved after the last record
    none_after : Least (carvable s 65536) 624 O.None
    none_after =
        none_past s 65536 (ends_by 65536) 624 65533 (ap (min 65536) (sym long))
        (none_allowed s 65536 (ends_by 65536) 624 65533
        (λ k a b f. never (sym f ∙ ap (λ (d : List ℕ). starts_with d record_magic) (drop_rest k a) ∙ zeros (k - 624))))

    -- the walk resumes at the last record
    resyncs_at : None (resyncable s its_fields) 541 596 → Least (resyncable s its_fields) 541 (O.Some 596)
    resyncs_at none = (omega arith, ap (reads (is_live its_fields)) last_strict, none)

    resync_at : None (resyncable s its_fields) 541 596 → ResyncAfter s 540 (gives (just 596))
    resync_at none = subst (ResyncOn s 540 (gives (just 596))) (sym header) (O.Some 596, (refl, resyncs_at none))

    -- steps of one turn and of two
    one_turn : (w : Walk) (x : Walk × Maybe Reply) → Turns s its_fields w (answered x) → Steps s w x
    one_turn w x t = subst (StepsOn s w x) (sym header) (answers t)

    two_turns : (w v : Walk) (x : Walk × Maybe Reply) → Turns s its_fields w (going_on v) → Turns s its_fields v (answered x) → Steps s w x
    two_turns w v x t u = subst (StepsOn s w x) (sym header) (goes_on t (answers u))

    read_first : Steps s (start_of true) (at 540 0 0, just (live first_record))
    read_first =
        one_turn (start_of true) (at 540 0 0, just (live first_record))
        (subst (λ (a : Answer Record). ReadTurn s its_fields (start_of true) 512 a (answered (at 540 0 0, just (live first_record)))) (sym first_read) refl)

    refuse_second : (number : ℕ) → plain_at s 540 ≡ refused number 540 → None (resyncable s its_fields) 541 596
        → Steps s (at 540 0 0) (at 596 540 596, just (refused_with number 540))
    refuse_second number e none =
        one_turn (at 540 0 0) (at 596 540 596, just (refused_with number 540))
        (subst (λ (a : Answer Record). ReadTurn s its_fields (at 540 0 0) 540 a (answered (at 596 540 596, just (refused_with number 540)))) (sym e)
        (record { found = O.Some 596; least = resyncs_at none; is = refl }))

    -- a range that holds none any more is used up
    range_used : (from : ℕ) → Least (carvable s 596) from O.None → from < 596 → Turns s its_fields (at 596 from 596) (going_on (at 596 596 596))
    range_used from none l = rw (lt-ltb from 596 l) (record { found = O.None; least = none; is = refl })

    none_left : (from : ℕ) → None (carvable s 596) from 593 → Least (carvable s 596) from O.None
    none_left from none = none_past s 596 (ends_by 596) from 593 (ap (min 596) (sym long)) none

    -- then the last record is read, and the walk is over
    read_last : (from : ℕ) → Turns s its_fields (at 596 from 596) (going_on (at 596 596 596)) → Runs s (at 596 from 596) (live last_record ∷ [])
    unfolding Runs
    read_last from t =
        let lived = subst (λ (a : Answer Record). ReadTurn s its_fields (at 596 596 596) 596 a (answered (over 624 65536, just (live last_record)))) (sym last_read) refl in
        let done : Turns s its_fields (over 624 65536) (going_on (over 65536 65536)) = record { found = O.None; least = none_after; is = refl } in (
          over 624 65536,
          (
            two_turns (at 596 from 596) (at 596 596 596) (over 624 65536, just (live last_record)) t lived,
            (over 65536 65536, two_turns (over 624 65536) (over 65536 65536) (over 65536 65536, nothing) done refl),
          ),
        )

  -- the chunk whose second record has no magic
  abbrev m : List ℕ
  m = three_records 0 0x2A 0 rest

  m_refused : plain_at m 540 ≡ refused 4 540
  unfolding starts_with
  m_refused = plain_is 0 0x2A 0 540

  inner_strict : strict_at m 564 ≡ given inner_record 592
  unfolding starts_with little
  inner_strict = strict_is 0 0x2A 0 564 inner_record 592 (plain_is 0 0x2A 0 564) refl

  -- the record in the second one has an ID that is not the chunk's
  m_none : None (resyncable m its_fields) 541 596
  unfolding clean starts_with
  m_none =
      let t = resyncable m its_fields in
      join t 541 564 596 (none_in 0 0x2A 0 600 (is_live its_fields) 541 23 refl)
      (join t 564 565 596 (none_one t 564 (ap (reads (is_live its_fields)) inner_strict)) (none_in 0 0x2A 0 600 (is_live its_fields) 565 31 refl))

  m_carve : Turns m its_fields (at 596 540 596) (answered (at 596 592 596, just (carved inner_record)))
  unfolding clean starts_with
  m_carve =
      record {
        found = O.Some 564;
        least = (omega arith, ap (reads (ends_by 596)) inner_strict, none_in 0 0x2A 0 596 (ends_by 596) 540 24 refl);
        is = ap (carved_at (at 596 540 596)) (sym inner_strict);
      }

  m_left : Least (carvable m 596) 592 O.None
  unfolding clean starts_with
  m_left = none_left 0 0x2A 0 592 (none_in 0 0x2A 0 596 (ends_by 596) 592 1 refl)

  m_runs : Runs m (start_of true) magic_answers
  unfolding Runs
  m_runs =
      let carving = one_turn 0 0x2A 0 (at 596 540 596) (at 596 592 596, just (carved inner_record)) m_carve in
      let last = read_last 0 0x2A 0 592 (range_used 0 0x2A 0 592 m_left (omega arith)) in
      (at 540 0 0, (read_first 0 0x2A 0, (at 596 540 596, (refuse_second 0 0x2A 0 4 m_refused m_none, (at 596 592 596, (carving, last))))))

  m_damaged : Damaged m true 540 596 after_magic
  m_damaged = record { before = live first_record ∷ []; number = 4; walk = m_runs; resync = resync_at 0 0x2A 0 m_none }

  -- the chunk whose second record has a late FILETIME, and no magic in the record in it
  abbrev l : List ℕ
  l = three_records 0x2A 0 0xFF rest

  l_refused : plain_at l 540 ≡ refused 6 540
  unfolding starts_with little
  l_refused = plain_is 0x2A 0 0xFF 540

  l_none : None (resyncable l its_fields) 541 596
  unfolding clean starts_with
  l_none = none_in 0x2A 0 0xFF 600 (is_live its_fields) 541 55 refl

  -- its strict read is refused as the plain one is
  l_not_strict : strict_at l 540 ≡ refused 6 540
  unfolding strict_at
  l_not_strict = ap (λ (a : Answer Record). a then copied l) l_refused

  l_left : Least (carvable l 596) 540 O.None
  unfolding clean starts_with
  l_left =
      none_left 0x2A 0 0xFF 540
      (join (carvable l 596) 540 541 593 (none_one (carvable l 596) 540 (ap (reads (ends_by 596)) l_not_strict)) (none_in 0x2A 0 0xFF 596 (ends_by 596) 541 52 refl))

  l_runs : Runs l (start_of true) late_time_answers
  unfolding Runs
  l_runs =
      let last = read_last 0x2A 0 0xFF 540 (range_used 0x2A 0 0xFF 540 l_left (omega arith)) in
      (at 540 0 0, (read_first 0x2A 0 0xFF, (at 596 540 596, (refuse_second 0x2A 0 0xFF 6 l_refused l_none, last))))

  l_damaged : Damaged l true 540 596 after_late_time
  l_damaged = record { before = live first_record ∷ []; number = 6; walk = l_runs; resync = resync_at 0x2A 0 0xFF l_none }

many_zeros : length (replicate {A = ℕ} 64912 0) ≡ 64912
many_zeros = length-replicate {A = ℕ} 64912 0

-- the walk of each, computed
pub magic_walk : Runs without_magic (start_of true) magic_answers
magic_walk = m_runs (replicate 64912 0) (zeros_none 64912) many_zeros

pub late_time_walk : Runs with_late_time (start_of true) late_time_answers
late_time_walk = l_runs (replicate 64912 0) (zeros_none 64912) many_zeros

-- and what the theorem says of the two
pub pair_stays : SameRest without_magic with_late_time 540 596 after_magic after_late_time
pair_stays =
    let z : List ℕ = replicate 64912 0 in
    damage_stays_in_its_range without_magic with_late_time its_fields 512 true 540 596 after_magic after_late_time
    (header z (zeros_none 64912) many_zeros 0 0x2A 0) (header z (zeros_none 64912) many_zeros 0x2A 0 0xFF)
    (m_damaged z (zeros_none 64912) many_zeros) (l_damaged z (zeros_none 64912) many_zeros) refl

-- it is not said of the refusal at p itself: with it, the live records and refusals of the two are not equal
pub another_number : without_carved magic_answers ≡ without_carved late_time_answers → ⊥
unfolding without_carved
another_number e = let z : ◌≡◌ {A = ℕ} 4 6 = cc in omega arith

-- and it is not said of the records carved from the range: with these, what comes after the refusal is not equal
pub another_carved : after_magic ≡ after_late_time → ⊥
another_carved e = let z : ◌≡◌ {A = ℕ} 0 1 = cc in omega arith
