-- What only the private functions of this crate cite: their answers, the pieces of the definitions of Value.antt that the code has, and
-- what they ask for.
use Rattle.std.specs.Prelude.{◌≡◌, false, List, ℕ, ◌+◌, ◌^◌, ◌<◌, eqb, leb, ltb, length, drop}
use Rattle.cursor.specs.Answer.{Answer, given, refused, ◌then◌, pick}
use Rattle.cursor.specs.Reads.{take_at, array_at}
use Rattle.cursor.specs.Text.{prefixed_at}
use Rattle.cursor.specs.Refusals.{past_end}
use Rattle.value.specs.Kinds.{element_width_of}
use Rattle.value.specs.Value.{value_of, as_bytes, as_number, as_text, moved, tells_length, told_in, takes_size, size_t_in, not_read, sized_in}
use Rattle.value.specs.declared.Content.{Content}
use Rattle.value.specs.declared.Content.TheVariants.{Nothing, Text, Number, Bytes}
use Rattle.value.specs.declared.Value.{Value}

abbrev pub fixed_in : List ℕ → ℕ → Answer Content
fixed_in t width = pick (eqb width 16) (take_at t 0 width then as_bytes) (take_at t 0 width then as_number)

-- what comes after the string
abbrev pub by_size_in : List ℕ → ℕ → ℕ → Answer Content
by_size_in t code size =
    pick (takes_size code) (take_at t 0 size then as_bytes)
    (pick (eqb code 0x10) (size_t_in t size)
    (pick (ltb 0 (element_width_of code)) (array_at t 0 (element_width_of code) size then as_bytes)
    (refused (not_read code) 0)))

-- the value of what was read
abbrev pub valued : ℕ → ℕ → Answer Content → Answer Value
valued code start a = a then λ x next. given (value_of code start x) next

-- the skip after a value
abbrev pub passed_to : ℕ → ℕ → Value → ℕ → Answer Value
passed_to end target v next =
    pick (leb target next) (given v next) (pick (leb target end) (given v target) (refused past_end target))

abbrev pub passed : ℕ → ℕ → ℕ → ℕ → Answer Content → Answer Value
passed code start end target a = a then λ x next. passed_to end target (value_of code start x) next

abbrev pub content_after_type : List ℕ → ℕ → ℕ → Answer Content
content_after_type s code start =
    pick (tells_length code) (moved start (told_in (drop start s) code))
    (pick (eqb code 0x01) (prefixed_at s start false then as_text)
    (refused (not_read code) start))

abbrev pub after_type : List ℕ → ℕ → ℕ → Answer Value
after_type s code start = valued code start (content_after_type s code start)

-- where a content stands
abbrev pub place_of : Content → ℕ
place_of Nothing = 0
place_of (Text v) = v.part.start
place_of (Number p) = p.start
place_of (Bytes p) = p.start

-- the sums of `moved` are numbers of 64 bits: what the functions ask for that move what was read
abbrev pub Movable : ℕ → Answer Content → Type 0
Movable start (given x next) = (start + place_of x < 2 ^ 64) × (start + next < 2 ^ 64)
Movable start (refused number place) = start + place < 2 ^ 64
