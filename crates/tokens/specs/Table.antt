-- The token table: what follows each token byte. Document 01, "Token walk".
use Rattle.std.specs.Prelude.{false, true, ◌||◌, List, ℕ, eqb}
use Rattle.cursor.specs.Answer.{Answer, refused, pick}
use Rattle.cursor.specs.Refusals.{unknown_token}
use Rattle.tokens.specs.Token.{close_start_kind, close_empty_kind, close_element_kind, attribute_kind, entity_ref_kind, pi_target_kind, pi_data_kind, cdata_kind, bare_at, char_ref_at, substitution_at, named_at, open_at, text_token_at, value_token_at}
use Rattle.tokens.specs.Instance.{instance_at}
use Rattle.tokens.specs.declared.Flags.{Flags}
use Rattle.tokens.specs.declared.plain.Gist.{Gist}

-- "Tokens: 0C instance; 01/41 open; 02 close start; 03 close empty; 04 close element; 05/45 value; 06/46 attribute; 07/47 CDATA;
-- 08/48 char ref (u16); 09/49 entity ref; 0A, 0B PI target and data; 0D, 0E substitution, optional for 0E (u16 number, known type
-- code)." "token byte unknown": 9, "after the byte"
unfoldable pub gist_at : List ℕ → Flags → ℕ → ℕ → Answer Gist
gist_at s f b at =
    pick (eqb b 0x0C) (instance_at s at)
    (pick (eqb b 0x01) (open_at s f false at)
    (pick (eqb b 0x41) (open_at s f true at)
    (pick (eqb b 0x02) (bare_at close_start_kind at)
    (pick (eqb b 0x03) (bare_at close_empty_kind at)
    (pick (eqb b 0x04) (bare_at close_element_kind at)
    (pick (eqb b 0x05 || eqb b 0x45) (value_token_at s at)
    (pick (eqb b 0x06 || eqb b 0x46) (named_at s f.inline attribute_kind at)
    (pick (eqb b 0x07 || eqb b 0x47) (text_token_at s cdata_kind at)
    (pick (eqb b 0x08 || eqb b 0x48) (char_ref_at s at)
    (pick (eqb b 0x09 || eqb b 0x49) (named_at s f.inline entity_ref_kind at)
    (pick (eqb b 0x0A) (named_at s f.inline pi_target_kind at)
    (pick (eqb b 0x0B) (text_token_at s pi_data_kind at)
    (pick (eqb b 0x0D) (substitution_at s false at)
    (pick (eqb b 0x0E) (substitution_at s true at)
    (refused unknown_token at)))))))))))))))
