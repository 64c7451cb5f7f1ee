-- The merge's two rules in the engineers' words, and where they give the same row. Document 02, P13.
use Rattle.std.specs.Prelude.{◌≡◌, ◌⊎◌, List, [], ◌∷◌, ℕ, ◌/◌, ◌≤◌, ◌<◌, length}
use Rattle.cursor.specs.Answer.{Result, gives, refuses}
use Rattle.cursor.specs.Lent.{laid}
use Rattle.merge.specs.Writes.{Write, write_words, IsAt, Lacks, Newest}
use Rattle.merge.specs.Rows.{write}

-- a row of a tag in a result
abbrev pub RowIn : List Write → ℕ → Write → Type 0
RowIn rows tag w = (i : ℕ) × (IsAt rows i w × (w.tag ≡ tag))

-- "the primary's newest write of the tag if it has any, else the other's newest"
abbrev pub RuleOne : List Write → List Write → ℕ → Write → Type 0
RuleOne primary other tag w = Newest primary tag w ⊎ (Lacks primary tag × Newest other tag w)

-- "the newest of both, the primary's at equal times": the primary's newest, and no write of the tag in the other list has a later time; or
-- the other's newest, and every write of the tag in the primary's list has an earlier time
abbrev pub RuleTwo : List Write → List Write → ℕ → Write → Type 0
RuleTwo primary other tag w =
    (Newest primary tag w × ((j : ℕ) (v : Write) → IsAt other j v → v.tag ≡ tag → v.time ≤ w.time))
    ⊎ (Newest other tag w × ((j : ℕ) (v : Write) → IsAt primary j v → v.tag ≡ tag → v.time < w.time))

-- one of the lists has none of the tag, or the primary's newest is at least as new as the other's
abbrev pub Agree : List Write → List Write → ℕ → Type 0
Agree primary other tag =
    Lacks primary tag
    ⊎ (Lacks other tag ⊎ ((x : Write) × ((y : Write) × (Newest primary tag x × (Newest other tag y × (y.time ≤ x.time))))))

-- one holds exactly where the other does
abbrev pub Exact : Type 0 → Type 0 → Type 0
Exact A B = (A → B) × (B → A)

-- when a merge is refused, and with what: "27, a list too long, at 0 for the primary's, else at 1, 28, result room short, with the rows
-- needed as place, in that order; the result stays as it was", over the writes of both lists and the rows of their selection
pub record Refusals (primary other rows : List Write) (lent left : List ℕ) (answer : Result ℕ) : Type 0 where
  pub primary_long : Exact (answer ≡ refuses 27 0) (4096 < length primary)
  pub other_long : Exact (answer ≡ refuses 27 1) ((length primary ≤ 4096) × (4096 < length other))
  pub no_room :
      Exact (answer ≡ refuses 28 (length rows)) ((length primary ≤ 4096) × ((length other ≤ 4096) × (length lent / 3 < length rows)))
  pub merged :
      Exact (answer ≡ gives (length rows)) ((length primary ≤ 4096) × ((length other ≤ 4096) × (length rows ≤ length lent / 3)))
  pub no_other : (k q : ℕ) → answer ≡ refuses k q
      → (answer ≡ refuses 27 0) ⊎ ((answer ≡ refuses 27 1) ⊎ (answer ≡ refuses 28 (length rows)))
  pub counts : (n : ℕ) → answer ≡ gives n → n ≡ length rows
  pub leaves : (k q : ℕ) → answer ≡ refuses k q → left ≡ lent
  pub writes : (n : ℕ) → answer ≡ gives n → left ≡ laid (write_words rows) lent

-- a sample: the primary's writes (5, 10, A), (3, 7, B), (5, 10, C), and the other's (5, 12, D), (9, 1, E), (3, 7, F)
abbrev pub sample_primary : List Write
sample_primary = write 5 10 0xA ∷ write 3 7 0xB ∷ write 5 10 0xC ∷ []

abbrev pub sample_other : List Write
sample_other = write 5 12 0xD ∷ write 9 1 0xE ∷ write 3 7 0xF ∷ []

-- by rule one B, C, E, and by rule two B, D, E
abbrev pub sample_one : List Write
sample_one = write 3 7 0xB ∷ write 5 10 0xC ∷ write 9 1 0xE ∷ []

abbrev pub sample_two : List Write
sample_two = write 3 7 0xB ∷ write 5 12 0xD ∷ write 9 1 0xE ∷ []
