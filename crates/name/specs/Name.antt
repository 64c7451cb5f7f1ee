-- Offset names and inline names. Document 01, "Token walk"; document 02, P7.
use Rattle.std.specs.Prelude.{ℕ, zero, suc, ◌+◌, ◌*◌, Bool, List, [], ◌∷◌, ◌==◌}
use Rattle.cursor.specs.Answer.{Answer, given, ◌then◌, must, pick}
use Rattle.cursor.specs.Reads.{number_at, set_to}
use Rattle.cursor.specs.Refusals.{name_not_ended, name_hash}
use Rattle.cursor.specs.Text.{well_formed}
use Rattle.name.specs.Hash.{hash_of}
use Rattle.name.specs.declared.Name.{Name}
use Rattle.name.specs.declared.Soundness.{Soundness}
use Rattle.name.specs.declared.Soundness.TheVariants.{Sound, Unsound, NotJudged}

-- a name: its offset, where its units stand, how many they are, and what is said of them. Every name is this one
abbrev pub name_of : ℕ → ℕ → ℕ → Soundness → Name
name_of offset units count soundness = record { offset = offset; units = units; count = count; soundness = soundness }

-- "An inline name is judged on all its counted units", zeros among them too
abbrev pub soundness_of : List ℕ → Soundness
soundness_of units = pick (well_formed units) Sound Unsound

-- "Offset name: u32; if it equals the position after it, a u32, a u16 and a u16 n follow, and the position is set 10 + 2n past that
-- point"; else only the offset was read: no units, at 0. "offset names aren't judged"
abbrev pub offset_name_at : List ℕ → ℕ → Answer Name
offset_name_at s at =
    number_at s at 4 then λ offset here.
    pick (here == offset)
    (number_at s here 4 then λ _ second.
    number_at s second 2 then λ _ third.
    number_at s third 2 then λ n units.
    set_to s (here + 10 + 2 * n) then λ _ next.
    given (name_of here units n NotJudged) next)
    (given (name_of offset 0 0 NotJudged) here)

-- n units, each a read of its own
unfoldable pub units_at : List ℕ → ℕ → ℕ → Answer (List ℕ)
units_at s at zero = given [] at
units_at s at (suc n) = number_at s at 2 then λ u next. units_at s next n then λ us end. given (u ∷ us) end

-- "Inline name: hash u16, count u16, units, zero unit"; "inline name without final zero unit" (11) and "inline name hash wrong" (12),
-- both at "name's start"; "11 comes before 12"
abbrev pub inline_name_at : List ℕ → ℕ → Answer Name
inline_name_at s at =
    number_at s at 2 then λ hash second.
    number_at s second 2 then λ n start.
    units_at s start n then λ units end.
    number_at s end 2 then λ last next.
    must (last == 0) name_not_ended at then λ _ _.
    must (hash == hash_of units) name_hash at then λ _ _.
    given (name_of at start n (soundness_of units)) next

-- a name of the one kind or the other
abbrev pub name_at : List ℕ → ℕ → Bool → Answer Name
name_at s at inline = pick inline (inline_name_at s at) (offset_name_at s at)
