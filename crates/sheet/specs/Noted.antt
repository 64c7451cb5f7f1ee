-- What private functions cite.
use Rattle.std.specs.Prelude.{◌≡◌, List, [], ◌∷◌, ℕ, suc, ◌+◌, ◌*◌, ◌≤◌, ◌<◌, eqb, length, take, drop}
use Rattle.cursor.specs.Answer.{Result, gives, refuses, pick}
use Rattle.cursor.specs.Refusals.{wrong_sheet}
use Rattle.tokens.specs.declared.Flags.{Flags}
use Rattle.tokens.specs.declared.Token.{Token}
use Rattle.sheet.specs.Sheet.{word_of, without_bit, words_of_token, words_of, words_per_token, read_at}
use Rattle.sheet.specs.declared.Form.{Form}
use Rattle.sheet.specs.declared.Form.TheVariants as F

-- where there is room for the words of n tokens they stand at the front
abbrev pub Noted : List ℕ → ℕ → Flags → ℕ → ℕ → List ℕ → Type 0
Noted s end f start n words = n * words_per_token ≤ length words → take (n * words_per_token) words ≡ words_of (read_at s end f start)

-- a token's words by the form of a given sheet
abbrev pub one_in_form : Form → Token → List ℕ
one_in_form F.Nothing t = []
one_in_form F.Old t = word_of t ∷ []
one_in_form F.New t = words_of_token t

-- the same out of its two words
abbrev pub two_in_form : Form → ℕ → ℕ → List ℕ
two_in_form F.Nothing first second = []
two_in_form F.Old first second = without_bit first ∷ []
two_in_form F.New first second = first ∷ second ∷ []

-- how many they are
abbrev pub form_width : Form → ℕ
form_width F.Nothing = 0
form_width F.Old = 1
form_width F.New = words_per_token

-- how many words at the front are equal
abbrev pub agreeing : List ℕ → List ℕ → ℕ
agreeing [] given = 0
agreeing (r ∷ right) [] = 0
agreeing (r ∷ right) (g ∷ given) = pick (eqb r g) (suc (agreeing right given)) 0

-- how many words of a given sheet are right after a token with these words, `all` words being those of the tokens before it: where all
-- were right, its own count; where one was not, the number stays
abbrev pub RightSoFar : ℕ → List ℕ → List ℕ → ℕ → ℕ → Type 0
RightSoFar all words given same next = (same ≡ all → next ≡ same + agreeing words (drop same given)) × (same < all → next ≡ same)

-- the walk has ended, with n tokens whose words in the given sheet's form are so many, and the sheet has `length` words
abbrev pub ended_with : ℕ → ℕ → ℕ → ℕ → Result ℕ
ended_with length all n same = pick (eqb same length) (pick (eqb same all) (gives n) (refuses wrong_sheet same)) (refuses wrong_sheet same)
