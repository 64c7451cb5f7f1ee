-- What each token holds after its byte. Document 01, "Token walk" and "Sheet and C calls" (the kinds).
use Rattle.std.specs.Prelude.{Bool, true, false, List, ℕ, eqb}
use Rattle.cursor.specs.Answer.{Answer, given, refused, ◌then◌, pick}
use Rattle.cursor.specs.Reads.{number_at}
use Rattle.cursor.specs.Text.{prefixed_at}
use Rattle.cursor.specs.Refusals.{unknown_type}
use Rattle.name.specs.Name.{name_at}
use Rattle.name.specs.declared.Name.{Name}
use Rattle.value.specs.Kinds.{known_code}
use Rattle.value.specs.Value.{unsized_at}
use Rattle.tokens.specs.declared.Flags.{Flags}
use Rattle.tokens.specs.declared.plain.Gist.{Gist}
use Rattle.tokens.specs.declared.Held.{Held}
use Rattle.tokens.specs.declared.Held.TheVariants as H

-- "kind 4 bits (1 to 13: instance, open, close start, close empty, close element, value, attribute, entity ref, PI target, PI data,
-- CDATA, char ref, substitution)"
abbrev pub instance_kind : ℕ
instance_kind = 1

abbrev pub open_kind : ℕ
open_kind = 2

abbrev pub close_start_kind : ℕ
close_start_kind = 3

abbrev pub close_empty_kind : ℕ
close_empty_kind = 4

abbrev pub close_element_kind : ℕ
close_element_kind = 5

abbrev pub value_kind : ℕ
value_kind = 6

abbrev pub attribute_kind : ℕ
attribute_kind = 7

abbrev pub entity_ref_kind : ℕ
entity_ref_kind = 8

abbrev pub pi_target_kind : ℕ
pi_target_kind = 9

abbrev pub pi_data_kind : ℕ
pi_data_kind = 10

abbrev pub cdata_kind : ℕ
cdata_kind = 11

abbrev pub char_ref_kind : ℕ
char_ref_kind = 12

abbrev pub substitution_kind : ℕ
substitution_kind = 13

-- What a token is, but for where it stands. Document 02, P2: only an open token announces attributes, and "tokens without a name have 0"
-- as their name's offset
abbrev pub gist : ℕ → ℕ → Bool → Held → Gist
gist kind number flag held = record { kind = kind; number = number; flag = flag; announced = false; name = 0; held = held }

-- a token with a name: document 02, P2, "where its name stands"
abbrev pub named_gist : ℕ → ℕ → Bool → Bool → Name → Gist
named_gist kind number flag announced name =
    record { kind = kind; number = number; flag = flag; announced = announced; name = name.offset; held = H.Name name }

-- "02 close start; 03 close empty; 04 close element": the byte alone
abbrev pub bare_at : ℕ → ℕ → Answer Gist
bare_at kind at = given (gist kind 0 false H.Nothing) at

-- "char ref (u16)"
abbrev pub char_ref_at : List ℕ → ℕ → Answer Gist
char_ref_at s at =
    number_at s at 2 then λ char at.
    given (gist char_ref_kind char false H.Nothing) at

-- a type code; "type code unknown": 7, "after the code"
abbrev pub type_at : List ℕ → ℕ → Answer ℕ
type_at s at =
    number_at s at 1 then λ code at.
    pick (known_code code) (given code at) (refused unknown_type at)

-- "0D, 0E substitution, optional for 0E (u16 number, known type code)"
abbrev pub substitution_at : List ℕ → Bool → ℕ → Answer Gist
substitution_at s optional at =
    number_at s at 2 then λ number at.
    type_at s at then λ _ at.
    given (gist substitution_kind number optional H.Nothing) at

-- "Attribute, entity ref and PI target hold a name and nothing else."
abbrev pub named_at : List ℕ → Bool → ℕ → ℕ → Answer Gist
named_at s inline kind at =
    name_at s at inline then λ name at.
    given (named_gist kind 0 false false name) at

-- "0xFFFF means none"; 0 is a dependency
abbrev pub open_of : ℕ → Bool → Name → Gist
open_of dependency announced name =
    pick (eqb dependency 0xFFFF) (named_gist open_kind 0 false announced name) (named_gist open_kind dependency true announced name)

-- "Open: dependency u16 if carried (0xFFFF means none), u32, name, and u32 for 41." Document 02, P2: the token says "if an open byte was 41
-- or 01" (41 announces attributes, and 01 none), "and where its name stands".
abbrev pub open_at : List ℕ → Flags → Bool → ℕ → Answer Gist
open_at s f announced at =
    pick f.dependencies (number_at s at 2) (given 0xFFFF at) then λ dependency at.
    number_at s at 4 then λ _ at.
    name_at s at f.inline then λ name at.
    pick announced (number_at s at 4) (given 0 at) then λ _ at.
    given (open_of dependency announced name) at

-- "CDATA and PI data: u16 n, then n units; the view stops before the first zero unit."
abbrev pub text_token_at : List ℕ → ℕ → ℕ → Answer Gist
text_token_at s kind at =
    prefixed_at s at false then λ view at.
    given (gist kind 0 false (H.Text view)) at

-- "Without a size (value token)"
abbrev pub value_token_at : List ℕ → ℕ → Answer Gist
value_token_at s at =
    unsized_at s at then λ value at.
    given (gist value_kind 0 false (H.Value value)) at
