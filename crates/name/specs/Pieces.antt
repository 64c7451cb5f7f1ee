-- What only the private functions of this crate cite: the definitions of Name.antt in the pieces that the code has, the last first.
use Rattle.std.specs.Prelude.{ℕ, ◌+◌, ◌*◌, List, ◌==◌}
use Rattle.cursor.specs.Answer.{Answer, given, ◌then◌, must, pick}
use Rattle.cursor.specs.Reads.{number_at, set_to}
use Rattle.cursor.specs.Refusals.{name_not_ended, name_hash}
use Rattle.name.specs.Hash.{hash_of}
use Rattle.name.specs.Name.{name_of, soundness_of, units_at}
use Rattle.name.specs.declared.Name.{Name}
use Rattle.name.specs.declared.Soundness.TheVariants.{NotJudged}

-- an offset name that stands in place: after the u16 n, the u16 before it, the u32 before that
abbrev pub skipped : List ℕ → ℕ → ℕ → ℕ → Answer Name
skipped s here n units = set_to s (here + 10 + 2 * n) then λ _ next. given (name_of here units n NotJudged) next

abbrev pub after_link : List ℕ → ℕ → ℕ → Answer Name
after_link s here at = number_at s at 2 then skipped s here

abbrev pub after_next : List ℕ → ℕ → ℕ → Answer Name
after_next s here at = number_at s at 2 then λ _ next. after_link s here next

abbrev pub in_place_at : List ℕ → ℕ → Answer Name
in_place_at s here = number_at s here 4 then λ _ next. after_next s here next

abbrev pub after_offset : List ℕ → ℕ → ℕ → Answer Name
after_offset s offset here = pick (here == offset) (in_place_at s here) (given (name_of offset 0 0 NotJudged) here)

-- an inline name: after its zero unit, its units, its count, its hash
abbrev pub judged : Name → ℕ → ℕ → ℕ → ℕ → Answer Name
judged name stored last hash next =
    must (last == 0) name_not_ended name.offset then λ _ _.
    must (stored == hash) name_hash name.offset then λ _ _.
    given name next

abbrev pub after_units : List ℕ → ℕ → ℕ → ℕ → ℕ → List ℕ → ℕ → Answer Name
after_units s start at n stored units end =
    number_at s end 2 then λ last next.
    judged (name_of start at n (soundness_of units)) stored last (hash_of units) next

abbrev pub after_count : List ℕ → ℕ → ℕ → ℕ → ℕ → Answer Name
after_count s start stored n at = units_at s at n then after_units s start at n stored

abbrev pub after_hash : List ℕ → ℕ → ℕ → ℕ → Answer Name
after_hash s start stored at = number_at s at 2 then after_count s start stored
