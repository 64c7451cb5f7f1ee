-- None of the cases is empty: a body with its owners, and a sample of each refusal of the grammar. Assumes nothing.
use mathlib.Core.Path.{◌≡◌, refl, subst}
use mathlib.Core.Bool.{true}
use mathlib.Core.List.{List, [], ◌∷◌}
use Prim.Native.Nat.{ℕ, zero, suc}
use Rattle.body.specs.Grammar.{narrow, kind_of, Reading}
use Rattle.body.specs.Verdict.{Refuses}
use Rattle.body.specs.Reader.{begin, opening, turn, ended, outcome, words_from}
use Rattle.body.proofs.Agree.{read_body}
use Rattle.body.proofs.Refusing.{refuses_right}

-- an element with an attribute and its value, a text, an instruction and a child: 18 open with attributes announced, 7 attribute, 6 value,
-- 3 close start, 6 value, 9 and 10 PI target and data, 2 and 4 the child, 5 close element
pub an_element : Reading narrow 64 (18 ∷ 7 ∷ 6 ∷ 3 ∷ 6 ∷ 9 ∷ 10 ∷ 2 ∷ 4 ∷ 5 ∷ []) (0 ∷ 1 ∷ 2 ∷ 1 ∷ 1 ∷ 1 ∷ 1 ∷ 1 ∷ 8 ∷ 1 ∷ [])
unfolding kind_of turn opening ended outcome words_from
an_element = read_body true 64 (18 ∷ 7 ∷ 6 ∷ 3 ∷ 6 ∷ 9 ∷ 10 ∷ 2 ∷ 4 ∷ 5 ∷ []) refl

pub an_instance : Reading narrow 64 (1 ∷ []) (0 ∷ [])
unfolding kind_of turn ended outcome words_from
an_instance = read_body true 64 (1 ∷ []) refl

-- a pair before the root, after it, and both: 9 and 10 PI target and data. The outer tokens have no owner
pub pairs : Reading narrow 64 (9 ∷ 10 ∷ 1 ∷ []) (0 ∷ 0 ∷ 0 ∷ []) × Reading narrow 64 (1 ∷ 9 ∷ 10 ∷ []) (0 ∷ 0 ∷ 0 ∷ [])
    × Reading narrow 64 (9 ∷ 10 ∷ 1 ∷ 9 ∷ 10 ∷ []) (0 ∷ 0 ∷ 0 ∷ 0 ∷ 0 ∷ [])
    × Reading narrow 64 (9 ∷ 10 ∷ 2 ∷ 3 ∷ 9 ∷ 10 ∷ 5 ∷ 9 ∷ 10 ∷ []) (0 ∷ 0 ∷ 0 ∷ 3 ∷ 3 ∷ 3 ∷ 3 ∷ 0 ∷ 0 ∷ [])
unfolding kind_of turn opening ended outcome words_from
pairs = (
  read_body true 64 (9 ∷ 10 ∷ 1 ∷ []) refl,
  read_body true 64 (1 ∷ 9 ∷ 10 ∷ []) refl,
  read_body true 64 (9 ∷ 10 ∷ 1 ∷ 9 ∷ 10 ∷ []) refl,
  read_body true 64 (9 ∷ 10 ∷ 2 ∷ 3 ∷ 9 ∷ 10 ∷ 5 ∷ 9 ∷ 10 ∷ []) refl,
)

-- n elements, each in the one before: open, close start
unfoldable pub levels : ℕ → List ℕ → List ℕ
levels zero rest = rest
levels (suc n) rest = 2 ∷ 3 ∷ levels n rest

-- 13: an item before any attribute, a token after the body. 14: the 65th level. 15: nothing, and an element without its end
pub refusals : Refuses (2 ∷ 6 ∷ []) 13 1 × Refuses (1 ∷ 1 ∷ []) 13 1 × Refuses (levels 64 (2 ∷ [])) 14 128 × Refuses [] 15 0 × Refuses (2 ∷ 3 ∷ []) 15 2
unfolding kind_of turn opening ended outcome levels
refusals = (
  refuses_right (2 ∷ 6 ∷ []) 13 1 refl,
  refuses_right (1 ∷ 1 ∷ []) 13 1 refl,
  refuses_right (levels 64 (2 ∷ [])) 14 128 refl,
  refuses_right [] 15 0 refl,
  refuses_right (2 ∷ 3 ∷ []) 15 2 refl,
)

-- "a lone pair is unfinished", a lone target too, and a closing one; "two leading pairs are refused 13 at the second target"; 13 for what is no
-- data after a leading target, what is no root after a pair, and a token after the closing pair; a leading pair opens no level
pub pair_refusals : Refuses (9 ∷ 10 ∷ []) 15 2 × Refuses (9 ∷ []) 15 1 × Refuses (1 ∷ 9 ∷ []) 15 2 × Refuses (9 ∷ 10 ∷ 9 ∷ 10 ∷ 1 ∷ []) 13 2
    × Refuses (9 ∷ 1 ∷ []) 13 1 × Refuses (9 ∷ 10 ∷ 10 ∷ []) 13 2 × Refuses (1 ∷ 9 ∷ 10 ∷ 9 ∷ []) 13 3 × Refuses (9 ∷ 10 ∷ levels 64 (2 ∷ [])) 14 130
unfolding kind_of turn opening ended outcome levels
pair_refusals = (
  refuses_right (9 ∷ 10 ∷ []) 15 2 refl,
  refuses_right (9 ∷ []) 15 1 refl,
  refuses_right (1 ∷ 9 ∷ []) 15 2 refl,
  refuses_right (9 ∷ 10 ∷ 9 ∷ 10 ∷ 1 ∷ []) 13 2 refl,
  refuses_right (9 ∷ 1 ∷ []) 13 1 refl,
  refuses_right (9 ∷ 10 ∷ 10 ∷ []) 13 2 refl,
  refuses_right (1 ∷ 9 ∷ 10 ∷ 9 ∷ []) 13 3 refl,
  refuses_right (9 ∷ 10 ∷ levels 64 (2 ∷ [])) 14 130 refl,
)

-- 20: an attribute after an open token that announced none, and a close start or close empty right after one that announced some; a close
-- element or an item there is 13. In each pair of refusals that might meet, the first token decides, and 13 before 20 at the same token:
-- 13 and 20, 14 and 20, 20 and 15
pub disagreements : Refuses (2 ∷ 7 ∷ []) 20 1 × Refuses (18 ∷ 3 ∷ []) 20 1 × Refuses (18 ∷ 4 ∷ []) 20 1 × Refuses (18 ∷ 5 ∷ []) 13 1 × Refuses (18 ∷ 6 ∷ []) 13 1
    × Refuses (18 ∷ []) 15 1 × Refuses (18 ∷ 7 ∷ []) 15 2 × Refuses (levels 63 (18 ∷ 3 ∷ 2 ∷ [])) 20 127 × Refuses (levels 64 (18 ∷ 4 ∷ [])) 14 128
    × Refuses (levels 63 (2 ∷ 2 ∷ [])) 13 127
unfolding kind_of turn opening ended outcome levels
disagreements = (
  refuses_right (2 ∷ 7 ∷ []) 20 1 refl,
  refuses_right (18 ∷ 3 ∷ []) 20 1 refl,
  refuses_right (18 ∷ 4 ∷ []) 20 1 refl,
  refuses_right (18 ∷ 5 ∷ []) 13 1 refl,
  refuses_right (18 ∷ 6 ∷ []) 13 1 refl,
  refuses_right (18 ∷ []) 15 1 refl,
  refuses_right (18 ∷ 7 ∷ []) 15 2 refl,
  refuses_right (levels 63 (18 ∷ 3 ∷ 2 ∷ [])) 20 127 refl,
  refuses_right (levels 64 (18 ∷ 4 ∷ [])) 14 128 refl,
  refuses_right (levels 63 (2 ∷ 2 ∷ [])) 13 127 refl,
)
