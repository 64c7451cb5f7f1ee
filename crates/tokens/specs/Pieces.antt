-- What private functions answer, and pieces that proofs speak of: no public contract cites the definitions here. Each is a piece of a
-- definition of another file, from a read on, and the proofs show that the pieces make the whole.
use Rattle.std.specs.Prelude.{Ok, Err, Result, Some, None, Option}
use Rattle.cursor.specs.declared.Cursor.{Cursor}
use Rattle.cursor.specs.declared.Refusal.{Refusal}
use Rattle.std.specs.Prelude.{◌≡◌, Bool, true, false, ◌||◌, List, ℕ, eqb}
use Rattle.cursor.specs.Answer.{Answer, given, refused, ◌then◌, pick}
use Rattle.cursor.specs.Answers.{refusal}
use Rattle.cursor.specs.Reads.{number_at}
use Rattle.cursor.specs.Refusals.{unknown_token}
use Rattle.cursor.specs.declared.Part.{Part}
use Rattle.name.specs.Name.{name_at}
use Rattle.name.specs.declared.Name.{Name}
use Rattle.tokens.specs.Token.{open_kind, close_start_kind, close_empty_kind, close_element_kind, pi_data_kind, cdata_kind, named_gist, bare_at, char_ref_at, type_at, substitution_at, text_token_at, value_token_at}
use Rattle.tokens.specs.Instance.{definition_at, table_at, instance_at}
use Rattle.tokens.specs.Table.{gist_at}
use Rattle.tokens.specs.Sight.{Seen, begun, met}
use Rattle.tokens.specs.Walk.{Met, handed, header, over, token_of, header_at}
use Rattle.tokens.specs.declared.Flags.{Flags}
use Rattle.tokens.specs.declared.Instance.{Instance}
use Rattle.tokens.specs.declared.plain.Gist.{Gist}
use Rattle.tokens.specs.declared.plain.Lead.{Lead}
use Rattle.tokens.specs.declared.walking.Turned.{Turned}
use Rattle.tokens.specs.declared.walking.Turned.TheVariants as T

-- the private answer enums in document 01's terms
abbrev pub turn_answer : Result (Turned × Cursor) Refusal → Answer Met
turn_answer (Ok (T.Token t, c)) = given (handed t) c.at
turn_answer (Ok (T.Header, c)) = given header c.at
turn_answer (Ok (T.Over, c)) = given over c.at
turn_answer (Err r) = refusal r

-- a turn that leaves an instance's values: after the head, and after a turn
abbrev pub sight_of_head : Answer Instance → Answer Seen
sight_of_head a = a then λ i next. given (begun i) next

abbrev pub sight_of_turn : Answer Met → Answer Seen
sight_of_turn a = a then λ m next. given (met m) next

-- The token table in two parts: the tokens with a name, and the others. What is known of a token before its name
abbrev pub lead : ℕ → ℕ → Bool → Bool → Lead
lead kind number flag announced = record { kind = kind; number = number; flag = flag; announced = announced }

-- of an open token: "0xFFFF means none"; 0 is a dependency
abbrev pub open_lead : ℕ → Bool → Lead
open_lead dependency announced =
    pick (eqb dependency 0xFFFF) (lead open_kind 0 false announced) (lead open_kind dependency true announced)

-- a token with a name, by what is known before it; from its name on, and after it
abbrev pub named_of : Lead → Name → Gist
named_of l name = named_gist l.kind l.number l.flag l.announced name

abbrev pub list_size_at : List ℕ → Bool → ℕ → Answer ℕ
list_size_at s announced at = pick announced (number_at s at 4) (given 0 at)

abbrev pub named_after_lead : List ℕ → Bool → Lead → ℕ → Answer Gist
named_after_lead s inline l at =
    name_at s at inline then λ name at.
    list_size_at s l.announced at then λ _ at.
    given (named_of l name) at

-- what a front leads to, if a token without a name is what is said
abbrev pub front_to : List ℕ → Bool → Answer Gist → Result (Option (Lead × Cursor)) Refusal → Answer Gist
front_to s inline nameless (Ok (Some (l, c))) = named_after_lead s inline l c.at
front_to s inline nameless (Ok None) = nameless
front_to s inline nameless (Err r) = refusal r

abbrev pub LeadsTo : List ℕ → Bool → Result (Option (Lead × Cursor)) Refusal → Answer Gist → Type 0
LeadsTo s inline front a = (nameless : Answer Gist) → front_to s inline nameless front ≡ a

-- the token table without the tokens with a name; from "02 close start", "05/45 value" and "0D, 0E substitution" on
unfoldable pub table_from0_d : List ℕ → ℕ → ℕ → Answer Gist
table_from0_d s b at =
    pick (eqb b 0x0D) (substitution_at s false at)
    (pick (eqb b 0x0E) (substitution_at s true at)
    (refused unknown_token at))

unfoldable pub table_from05 : List ℕ → ℕ → ℕ → Answer Gist
table_from05 s b at =
    pick (eqb b 0x05 || eqb b 0x45) (value_token_at s at)
    (pick (eqb b 0x07 || eqb b 0x47) (text_token_at s cdata_kind at)
    (pick (eqb b 0x08 || eqb b 0x48) (char_ref_at s at)
    (pick (eqb b 0x0B) (text_token_at s pi_data_kind at)
    (table_from0_d s b at))))

unfoldable pub table_from02 : List ℕ → ℕ → ℕ → Answer Gist
table_from02 s b at =
    pick (eqb b 0x02) (bare_at close_start_kind at)
    (pick (eqb b 0x03) (bare_at close_empty_kind at)
    (pick (eqb b 0x04) (bare_at close_element_kind at)
    (table_from05 s b at)))

unfoldable pub nameless_at : List ℕ → ℕ → ℕ → Answer Gist
nameless_at s b at = pick (eqb b 0x0C) (instance_at s at) (table_from02 s b at)

-- an open token's numbers before its name: its dependency, which is handed on, and a u32
abbrev pub dependency_at : List ℕ → Bool → ℕ → Answer ℕ
dependency_at s carried at = pick carried (number_at s at 2) (given 0xFFFF at)

abbrev pub numbers_after_dependency : List ℕ → ℕ → ℕ → Answer ℕ
numbers_after_dependency s dependency at =
    number_at s at 4 then λ _ at.
    given dependency at

abbrev pub numbers_at : List ℕ → Bool → ℕ → Answer ℕ
numbers_at s carried at =
    dependency_at s carried at then λ dependency at.
    numbers_after_dependency s dependency at

-- a descriptor, after its size and after its type
abbrev pub descriptor_after_type : List ℕ → ℕ → Answer Unit
descriptor_after_type s at =
    number_at s at 1 then λ _ at.
    given tt at

abbrev pub descriptor_after_size : List ℕ → ℕ → Answer Unit
descriptor_after_size s at =
    type_at s at then λ _ at.
    descriptor_after_type s at

-- an instance's head, after its last reads
abbrev pub head_after_count : List ℕ → ℕ → ℕ → Part → ℕ → ℕ → Answer Instance
head_after_count s id offset guid count table =
    table_at s table count then λ _ values.
    given (record { id = id; offset = offset; guid = guid; table = table; count = count; values = values }) values

abbrev pub head_after_definition : List ℕ → ℕ → ℕ → Part → ℕ → Answer Instance
head_after_definition s id offset guid at =
    number_at s at 4 then λ count table.
    head_after_count s id offset guid count table

abbrev pub head_after_offset : List ℕ → ℕ → ℕ → ℕ → Answer Instance
head_after_offset s id offset at =
    definition_at s offset at then λ guid at.
    head_after_definition s id offset guid at

-- a turn after its byte: what it meets of a header, and of a token
abbrev pub met_header : Answer Unit → Answer Met
met_header a = a then λ _ at. given header at

abbrev pub met_token : ℕ → Answer Gist → Answer Met
met_token place a = a then λ g at. given (handed (token_of place g at)) at

abbrev pub turn_after_byte : List ℕ → Flags → ℕ → ℕ → ℕ → Answer Met
turn_after_byte s f place b at =
    pick (eqb b 0x00) (given over at)
    (pick (eqb b 0x0F) (met_header (header_at s at))
    (met_token place (gist_at s f b at)))
