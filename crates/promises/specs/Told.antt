-- What a token says of its byte and of its name, and its mark of the token. Document 02, P2 and P5.
use Rattle.std.specs.Prelude.{◌≡◌, ◌⊎◌, Bool, true, ◌||◌, List, ℕ, eqb}
use Rattle.cursor.specs.Reads.{number_of}
use Rattle.tokens.specs.Token.{open_kind, attribute_kind, entity_ref_kind, pi_target_kind}
use Rattle.tokens.specs.declared.Token.{Token}
use Rattle.sheet.specs.Sheet.{mark_of}
use Rattle.body.specs.Grammar.{announces, kind_of}

-- the kinds whose tokens hold a name
abbrev pub has_name : ℕ → Bool
has_name kind = eqb kind open_kind || (eqb kind attribute_kind || (eqb kind entity_ref_kind || eqb kind pi_target_kind))

-- "if an open byte was 41 or 01": announced exactly where the token's byte is 41; "tokens without a name have 0 there"
abbrev pub Told : List ℕ → Token → Type 0
Told s t = (t.announced ≡ eqb (number_of s t.place 1) 0x41) × ((t.name ≡ 0) ⊎ (has_name t.kind ≡ true))

-- what the grammar reads of a token, its mark, says its kind and whether it announces attributes
abbrev pub Marked : Token → Type 0
Marked t = (kind_of (mark_of t) ≡ t.kind) × (announces (mark_of t) ≡ t.announced)
