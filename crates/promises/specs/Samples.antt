-- Document 01's sample streams that are to be proved (marked P there), as one list, their sheets restated with two words a token (document
-- 02, P2); an open byte 41, an inline name, and lent sheets; bodies with a pair around the root (document 02, P4), and with open bytes that
-- announce attributes and do not (P5). Offset names; start 0 and whole length unless said.
use Rattle.std.specs.Prelude.{◌≡◌, Bool, true, false, List, [], ◌∷◌, ℕ, length}
use Rattle.cursor.specs.Answer.{Answer, given, refused, Result, gives, refuses, Maybe, just, nothing}
use Rattle.cursor.specs.Text.{units_of}
use Rattle.name.specs.Hash.{hash_of}
use Rattle.value.specs.declared.Value.{Value}
use Rattle.tokens.specs.Instance.{value_step}
use Rattle.tokens.specs.Single.{single_of}
use Rattle.tokens.specs.Walk.{Walked, ok, bad, walk_of}
use Rattle.tokens.specs.declared.Held.{Held}
use Rattle.tokens.specs.declared.Held.TheVariants as H
use Rattle.tokens.specs.declared.Token.{Token}
use Rattle.sheet.specs.Sheet.{words_of, sheet_answer, sheet_words}
use Rattle.body.specs.Verdict.{Both, both, Answered}

-- a stream, and how it is read
pub record Stream : Type 0 where
  pub bytes : List ℕ
  pub start : ℕ
  pub len : ℕ
  pub dependencies : Bool
  pub inline : Bool

abbrev pub whole : List ℕ → Stream
whole s = record { bytes = s; start = 0; len = length s; dependencies = false; inline = false }

-- "With dependency"
abbrev pub with_dependency : List ℕ → Stream
with_dependency s = record { bytes = s; start = 0; len = length s; dependencies = true; inline = false }

-- names inline
abbrev pub with_inline : List ℕ → Stream
with_inline s = record { bytes = s; start = 0; len = length s; dependencies = false; inline = true }

abbrev pub walk_of_stream : Stream → Walked
walk_of_stream x = walk_of x.bytes x.start x.len (record { dependencies = x.dependencies; inline = x.inline })

-- what a walk gives: its sheet's words, or its refusal
pub data Given : Type 0 where
  words : List ℕ → Given
  stopped : ℕ → ℕ → Given

abbrev pub given_of : Walked → Given
given_of (ok l) = words (words_of l)
given_of (bad k p) = stopped k p

-- where the first value of the walk's first token starts, and where the next one would
abbrev pub value_start : Answer Value → Answer ℕ
value_start (given v next) = given v.start next
value_start (refused k p) = refused k p

abbrev pub held_value : List ℕ → Held → Answer ℕ
held_value s (H.Instance i) = value_start (value_step s i.table i.values)
held_value s H.Nothing = refused 0 0
held_value s (H.Name n) = refused 0 0
held_value s (H.Text v) = refused 0 0
held_value s (H.Value v) = given v.start 0

abbrev pub first_value : List ℕ → Walked → Answer ℕ
first_value s (ok []) = refused 0 0
first_value s (ok (t ∷ l)) = held_value s t.held
first_value s (bad k p) = refused k p

pub data Sample : Type 0 where
  -- read, with its sheet, or refused
  reads : Stream → Given → Sample
  -- a lent sheet, the answer, and what is left of the sheet
  sheets : Stream → List ℕ → Result ℕ → List ℕ → Sample
  -- "as a body": the lent sheet and table, the answer, and what is left of both
  bodies : Stream → Both → Result ℕ → Both → Sample
  -- "value at", "walk at"
  values : Stream → ℕ → ℕ → Sample
  -- "hash": of the units of these bytes
  hashes : List ℕ → ℕ → Sample
  -- "single instance offset"
  singles : List ℕ → Maybe ℕ → Sample

abbrev pub Holds : Sample → Type 0
Holds (reads x want) = given_of (walk_of_stream x) ≡ want
Holds (sheets x lent answer left) = (sheet_answer (walk_of_stream x) lent ≡ answer) × (sheet_words (walk_of_stream x) lent ≡ left)
Holds (bodies x lent answer left) = Answered lent left (walk_of_stream x) answer
Holds (values x at next) = first_value x.bytes (walk_of_stream x) ≡ given at next
Holds (hashes s h) = hash_of (units_of s) ≡ h
Holds (singles s r) = single_of s ≡ r

abbrev pub All : List Sample → Type 0
All [] = Unit {0}
All (x ∷ l) = Holds x × All l

-- `01 00000000 00020000 03 00`
abbrev pub empty_element : List ℕ
empty_element = 0x01 ∷ 0 ∷ 0 ∷ 0 ∷ 0 ∷ 0 ∷ 2 ∷ 0 ∷ 0 ∷ 0x03 ∷ 0 ∷ []

-- the same with an open byte 41, which has a u32 after its name
abbrev pub announced_element : List ℕ
announced_element = 0x41 ∷ 0 ∷ 0 ∷ 0 ∷ 0 ∷ 0 ∷ 2 ∷ 0 ∷ 0 ∷ 0 ∷ 0 ∷ 0 ∷ 0 ∷ 0x03 ∷ 0 ∷ []

-- `05 01 0200 4100 4200`
abbrev pub lone_value : List ℕ
lone_value = 0x05 ∷ 0x01 ∷ 2 ∷ 0 ∷ 0x41 ∷ 0 ∷ 0x42 ∷ 0 ∷ []

-- `0C 01 07000000 00020000 01000000 0200 0800 2A000000`, with another size and type, and so many bytes after them
abbrev pub an_instance : ℕ → ℕ → List ℕ → List ℕ
an_instance size code data' =
    0x0C ∷ 1 ∷ 7 ∷ 0 ∷ 0 ∷ 0 ∷ 0 ∷ 2 ∷ 0 ∷ 0 ∷ 1 ∷ 0 ∷ 0 ∷ 0 ∷ size ∷ 0 ∷ code ∷ 0 ∷ data'

-- `0A 00020000` and `0B 0000`: a PI target, and PI data without a unit
abbrev pub a_target : List ℕ → List ℕ
a_target rest = 0x0A ∷ 0 ∷ 2 ∷ 0 ∷ 0 ∷ rest

abbrev pub a_pair : List ℕ → List ℕ
a_pair rest = a_target (0x0B ∷ 0 ∷ 0 ∷ rest)

-- `01 00000000 00020000 03`, and what follows
abbrev pub an_element : List ℕ → List ℕ
an_element rest = 0x01 ∷ 0 ∷ 0 ∷ 0 ∷ 0 ∷ 0 ∷ 2 ∷ 0 ∷ 0 ∷ 0x03 ∷ rest

-- `01 00000000 00020000`, `41 00000000 00020000 00000000` and `06 00020000`: open tokens that announce nothing and attributes, and an
-- attribute
abbrev pub plain_open : List ℕ → List ℕ
plain_open rest = 0x01 ∷ 0 ∷ 0 ∷ 0 ∷ 0 ∷ 0 ∷ 2 ∷ 0 ∷ 0 ∷ rest

abbrev pub announced_open : List ℕ → List ℕ
announced_open rest = 0x41 ∷ 0 ∷ 0 ∷ 0 ∷ 0 ∷ 0 ∷ 2 ∷ 0 ∷ 0 ∷ 0 ∷ 0 ∷ 0 ∷ 0 ∷ rest

abbrev pub an_attribute : List ℕ → List ℕ
an_attribute rest = 0x06 ∷ 0 ∷ 2 ∷ 0 ∷ 0 ∷ rest

unfoldable pub samples : List Sample
samples =
    -- "empty, length 0: read; as a body 15 at 0"
    reads (whole []) (words []) ∷
    bodies (whole []) (both (9 ∷ []) (9 ∷ [])) (refuses 15 0) (both (9 ∷ []) (9 ∷ [])) ∷
    -- "empty, length 1: 3 at 0"
    reads (record { bytes = []; start = 0; len = 1; dependencies = false; inline = false }) (stopped 3 0) ∷
    bodies (record { bytes = []; start = 0; len = 1; dependencies = false; inline = false }) (both (9 ∷ []) (9 ∷ [])) (refuses 3 0) (both (9 ∷ []) (9 ∷ [])) ∷
    -- "empty, start 1: 2 at 1"
    reads (record { bytes = []; start = 1; len = 0; dependencies = false; inline = false }) (stopped 2 1) ∷
    -- "`10`: 9 at 1"
    reads (whole (0x10 ∷ [])) (stopped 9 1) ∷
    -- "sheet 2000000024000000, 4000480004000000; owners 0, 1": the name stands at 0x200, and the second token has none; a word past them
    -- stays; with one word lent for owners, 16 with two needed, and with three for the sheet, 16 with four needed, which comes first
    reads (whole empty_element) (words (0x2000000024000000 ∷ 0x0000020000000000 ∷ 0x4000480004000000 ∷ 0 ∷ [])) ∷
    sheets (whole empty_element) (9 ∷ 9 ∷ 9 ∷ 9 ∷ 9 ∷ []) (gives 2) (0x2000000024000000 ∷ 0x0000020000000000 ∷ 0x4000480004000000 ∷ 0 ∷ 9 ∷ []) ∷
    sheets (whole empty_element) (9 ∷ 9 ∷ 9 ∷ []) (refuses 16 4) (9 ∷ 9 ∷ 9 ∷ []) ∷
    bodies (whole empty_element) (both (9 ∷ 9 ∷ 9 ∷ 9 ∷ 9 ∷ []) (9 ∷ 9 ∷ 9 ∷ [])) (gives 2) (both (0x2000000024000000 ∷ 0x0000020000000000 ∷ 0x4000480004000000 ∷ 0 ∷ 9 ∷ []) (0 ∷ 1 ∷ 9 ∷ [])) ∷
    bodies (whole empty_element) (both (9 ∷ 9 ∷ 9 ∷ 9 ∷ []) (9 ∷ [])) (refuses 16 2) (both (9 ∷ 9 ∷ 9 ∷ 9 ∷ []) (9 ∷ [])) ∷
    bodies (whole empty_element) (both (9 ∷ 9 ∷ 9 ∷ []) (9 ∷ [])) (refuses 16 4) (both (9 ∷ 9 ∷ 9 ∷ []) (9 ∷ [])) ∷
    -- with 41: four bytes more, and the announced bit
    reads (whole announced_element) (words (0x2000000034000100 ∷ 0x0000020000000000 ∷ 0x4000680004000000 ∷ 0 ∷ [])) ∷
    -- "With dependency and `FFFF` after 01: flag 0, number 0; with `0000`: flag 1."
    reads (with_dependency (0x01 ∷ 0xFF ∷ 0xFF ∷ 0 ∷ 0 ∷ 0 ∷ 0 ∷ 0 ∷ 2 ∷ 0 ∷ 0 ∷ 0x03 ∷ 0 ∷ [])) (words (0x200000002C000000 ∷ 0x0000020000000000 ∷ 0x4000580004000000 ∷ 0 ∷ [])) ∷
    reads (with_dependency (0x01 ∷ 0 ∷ 0 ∷ 0 ∷ 0 ∷ 0 ∷ 0 ∷ 0 ∷ 2 ∷ 0 ∷ 0 ∷ 0x03 ∷ 0 ∷ [])) (words (0x200000002C000200 ∷ 0x0000020000000000 ∷ 0x4000580004000000 ∷ 0 ∷ [])) ∷
    -- "read; as a body 13 at 0"
    reads (whole lone_value) (words (0x6000000020000000 ∷ 0 ∷ [])) ∷
    bodies (whole lone_value) (both (9 ∷ []) (9 ∷ [])) (refuses 13 0) (both (9 ∷ []) (9 ∷ [])) ∷
    -- "inline `41 00` `42 00`: hash 1041"
    hashes (0x41 ∷ 0 ∷ 0x42 ∷ 0 ∷ []) 0x1041 ∷
    -- and the attribute that has this name: `06 4110 0200 4100 4200 0000`, read with names inline; it starts at 1
    reads (with_inline (0x06 ∷ 0x41 ∷ 0x10 ∷ 2 ∷ 0 ∷ 0x41 ∷ 0 ∷ 0x42 ∷ 0 ∷ 0 ∷ 0 ∷ [])) (words (0x700000002C000000 ∷ 0x0000000100000000 ∷ [])) ∷
    -- "value at 18, walk at 22"; as a body it has no owner
    reads (whole (an_instance 2 0x08 (0x2A ∷ 0 ∷ 0 ∷ 0 ∷ []))) (words (0x1000000058000000 ∷ 0 ∷ [])) ∷
    values (whole (an_instance 2 0x08 (0x2A ∷ 0 ∷ 0 ∷ 0 ∷ []))) 18 22 ∷
    bodies (whole (an_instance 2 0x08 (0x2A ∷ 0 ∷ 0 ∷ 0 ∷ []))) (both (9 ∷ 9 ∷ []) (9 ∷ [])) (gives 1) (both (0x1000000058000000 ∷ 0 ∷ []) (0 ∷ [])) ∷
    -- "Size 6: 24 bytes suffice; with 23, 2 at 24."
    reads (whole (an_instance 6 0x08 (0x2A ∷ 0 ∷ 0 ∷ 0 ∷ 0 ∷ 0 ∷ []))) (words (0x1000000060000000 ∷ 0 ∷ [])) ∷
    reads (whole (an_instance 6 0x08 (0x2A ∷ 0 ∷ 0 ∷ 0 ∷ 0 ∷ []))) (stopped 2 24) ∷
    -- "that with size 3, type 86: 10 at 18"
    reads (whole (an_instance 3 0x86 (0x2A ∷ 0 ∷ 0 ∷ 0 ∷ []))) (stopped 10 18) ∷
    -- "single instance offset: `0F 01 01 00 0C` none; a sixth byte: 5; `0C`: 1"
    singles (0x0F ∷ 1 ∷ 1 ∷ 0 ∷ 0x0C ∷ []) nothing ∷
    singles (0x0F ∷ 1 ∷ 1 ∷ 0 ∷ 0x0C ∷ 0 ∷ []) (just 5) ∷
    singles (0x0C ∷ []) (just 1) ∷
    -- P4: "a lone pair is unfinished", and a target alone; "two leading pairs are refused 13 at the second target"
    bodies (whole (a_pair [])) (both (9 ∷ []) (9 ∷ [])) (refuses 15 2) (both (9 ∷ []) (9 ∷ [])) ∷
    bodies (whole (a_target [])) (both (9 ∷ []) (9 ∷ [])) (refuses 15 1) (both (9 ∷ []) (9 ∷ [])) ∷
    bodies (whole (a_pair (a_pair (an_element [])))) (both (9 ∷ []) (9 ∷ [])) (refuses 13 2) (both (9 ∷ []) (9 ∷ [])) ∷
    -- a pair before, after and on both sides of an element and of an instance: "those outer tokens have no owner"
    bodies (whole (a_pair (an_element []))) (both (9 ∷ 9 ∷ 9 ∷ 9 ∷ 9 ∷ 9 ∷ 9 ∷ 9 ∷ 9 ∷ []) (9 ∷ 9 ∷ 9 ∷ 9 ∷ 9 ∷ [])) (gives 4) (both (0x9000000014000000 ∷ 0x0000020000000000 ∷ 0xA00028000C000000 ∷ 0 ∷ 0x2000400024000000 ∷ 0x0000020000000000 ∷ 0x4000880004000000 ∷ 0 ∷ 9 ∷ []) (0 ∷ 0 ∷ 0 ∷ 3 ∷ 9 ∷ [])) ∷
    bodies (whole (an_element (a_pair []))) (both (9 ∷ 9 ∷ 9 ∷ 9 ∷ 9 ∷ 9 ∷ 9 ∷ 9 ∷ 9 ∷ []) (9 ∷ 9 ∷ 9 ∷ 9 ∷ 9 ∷ [])) (gives 4) (both (0x2000000024000000 ∷ 0x0000020000000000 ∷ 0x4000480004000000 ∷ 0 ∷ 0x9000500014000000 ∷ 0x0000020000000000 ∷ 0xA00078000C000000 ∷ 0 ∷ 9 ∷ []) (0 ∷ 1 ∷ 0 ∷ 0 ∷ 9 ∷ [])) ∷
    bodies (whole (a_pair (an_element (a_pair [])))) (both (9 ∷ 9 ∷ 9 ∷ 9 ∷ 9 ∷ 9 ∷ 9 ∷ 9 ∷ 9 ∷ 9 ∷ 9 ∷ 9 ∷ []) (9 ∷ 9 ∷ 9 ∷ 9 ∷ 9 ∷ 9 ∷ [])) (gives 6) (both (0x9000000014000000 ∷ 0x0000020000000000 ∷ 0xA00028000C000000 ∷ 0 ∷ 0x2000400024000000 ∷ 0x0000020000000000 ∷ 0x4000880004000000 ∷ 0 ∷ 0x9000900014000000 ∷ 0x0000020000000000 ∷ 0xA000B8000C000000 ∷ 0 ∷ []) (0 ∷ 0 ∷ 0 ∷ 3 ∷ 0 ∷ 0 ∷ [])) ∷
    bodies (whole (a_pair (an_instance 2 0x08 (0x2A ∷ 0 ∷ 0 ∷ 0 ∷ a_pair [])))) (both (9 ∷ 9 ∷ 9 ∷ 9 ∷ 9 ∷ 9 ∷ 9 ∷ 9 ∷ 9 ∷ 9 ∷ []) (9 ∷ 9 ∷ 9 ∷ 9 ∷ 9 ∷ [])) (gives 5) (both (0x9000000014000000 ∷ 0x0000020000000000 ∷ 0xA00028000C000000 ∷ 0 ∷ 0x1000400058000000 ∷ 0 ∷ 0x9000F00014000000 ∷ 0x0000020000000000 ∷ 0xA00118000C000000 ∷ 0 ∷ []) (0 ∷ 0 ∷ 0 ∷ 0 ∷ 0 ∷ [])) ∷
    -- and nothing follows the second pair
    bodies (whole (an_element (a_pair (a_target [])))) (both (9 ∷ []) (9 ∷ [])) (refuses 13 4) (both (9 ∷ []) (9 ∷ [])) ∷
    -- P5: "An open byte of 01 followed by an attribute is refused at the attribute"; "41 followed by a close without any is refused at that
    -- close token", a close empty or a close start
    bodies (whole (plain_open (an_attribute (0x03 ∷ [])))) (both (9 ∷ []) (9 ∷ 9 ∷ 9 ∷ [])) (refuses 20 1) (both (9 ∷ []) (9 ∷ 9 ∷ 9 ∷ [])) ∷
    bodies (whole announced_element) (both (9 ∷ []) (9 ∷ 9 ∷ [])) (refuses 20 1) (both (9 ∷ []) (9 ∷ 9 ∷ [])) ∷
    bodies (whole (announced_open (0x02 ∷ 0x04 ∷ []))) (both (9 ∷ []) (9 ∷ 9 ∷ 9 ∷ [])) (refuses 20 1) (both (9 ∷ []) (9 ∷ 9 ∷ 9 ∷ [])) ∷
    -- announced and present, with a value: it is a body
    bodies (whole (announced_open (an_attribute (0x05 ∷ 0x01 ∷ 0 ∷ 0 ∷ 0x03 ∷ [])))) (both (9 ∷ 9 ∷ 9 ∷ 9 ∷ 9 ∷ 9 ∷ 9 ∷ 9 ∷ []) (9 ∷ 9 ∷ 9 ∷ 9 ∷ [])) (gives 4) (both (0x2000000034000100 ∷ 0x0000020000000000 ∷ 0x7000680014000000 ∷ 0x0000020000000000 ∷ 0x6000900010000000 ∷ 0 ∷ 0x4000B00004000000 ∷ 0 ∷ []) (0 ∷ 1 ∷ 2 ∷ 1 ∷ [])) ∷
    -- a close element right after 41 is in no body, whatever is announced; and after 41 alone, and after its attribute, more is to come
    bodies (whole (announced_open (0x04 ∷ []))) (both (9 ∷ []) (9 ∷ [])) (refuses 13 1) (both (9 ∷ []) (9 ∷ [])) ∷
    bodies (whole (announced_open [])) (both (9 ∷ []) (9 ∷ [])) (refuses 15 1) (both (9 ∷ []) (9 ∷ [])) ∷
    bodies (whole (announced_open (an_attribute []))) (both (9 ∷ []) (9 ∷ [])) (refuses 15 2) (both (9 ∷ []) (9 ∷ [])) ∷
    []
