-- A token's line: 'place length kind, then by kind'. docs/ANSWERS.md, mode T.
use Rattle.std.specs.Prelude.{List, [], ◌++◌, ℕ, zero, suc, ◌+◌, eqb}
use Rattle.cursor.specs.Answer.{pick, Result, gives, refuses, Maybe, just, nothing}
use Rattle.cursor.specs.Reads.{part_of}
use Rattle.tokens.specs.Token.{open_kind, char_ref_kind, substitution_kind}
use Rattle.tokens.specs.Instance.{values_of, ValueNext, next_of}
use Rattle.cursor.specs.declared.View.{View}
use Rattle.name.specs.declared.Name.{Name}
use Rattle.name.specs.declared.Soundness.{Soundness}
use Rattle.name.specs.declared.Soundness.TheVariants.{Sound, Unsound, NotJudged}
use Rattle.tokens.specs.declared.Held.{Held}
use Rattle.tokens.specs.declared.Held.TheVariants as H
use Rattle.tokens.specs.declared.Instance.{Instance}
use Rattle.tokens.specs.declared.Token.{Token}
use Rattle.tokens.specs.declared.Values.{Values}
use Rattle.sheet.specs.Sheet.{flag_bit}
use Rattle.print.specs.Text.{ascii, decimal_of, spaced_number}
use Rattle.stream_answers.specs.Content.{sized_text, sizeless_text, bytes_field}

-- 'for each value a field type:size:start:next:content'; the next value's place is where the value's read ends
abbrev pub next_text : List ℕ → Result (Maybe ValueNext) → (Values → List ℕ) → List ℕ
next_text s (gives (just x)) go = sized_text s x.value x.size x.rest.at ++ go x.rest
next_text s (gives nothing) go = []
next_text s (refuses k p) go = []

-- so many values are left
unfoldable pub values_from : ℕ → List ℕ → Values → List ℕ
values_from zero s v = []
values_from (suc left) s v = next_text s (next_of s v) (values_from left s)

-- 'id definition-offset guid-or-`-` count, then for each value a field'
abbrev pub instance_text : List ℕ → Instance → List ℕ
instance_text s i =
    spaced_number i.id ++ spaced_number i.offset ++ bytes_field (part_of s i.guid) ++ spaced_number i.count ++ values_from i.count s (values_of i)

-- '12 char ref: the number. 13 substitution: number, 1 or 0 (optional).' '3, 4, 5: nothing more.'
abbrev pub numbered_text : Token → List ℕ
numbered_text t =
    pick (eqb t.kind char_ref_kind) (spaced_number t.number)
    (pick (eqb t.kind substitution_kind) (spaced_number t.number ++ spaced_number (flag_bit t.flag)) [])

-- 'dependency or `-`'
abbrev pub dependency_text : Token → List ℕ
dependency_text t = pick t.flag (spaced_number t.number) (ascii " -")

-- '2 open: name-offset, dependency or `-`, announced (1 for the byte 41, 0 for 01)'; the others have no more of their own
abbrev pub opened_text : Token → List ℕ
opened_text t = pick (eqb t.kind open_kind) (dependency_text t ++ spaced_number (flag_bit t.announced)) []

-- 'one more field at the end, 1 or 0 for an inline name, `-` for an offset name'
abbrev pub soundness_text : Soundness → List ℕ
soundness_text Sound = ascii " 1"
soundness_text Unsound = ascii " 0"
soundness_text NotJudged = ascii " -"

abbrev pub named_text : Token → Name → List ℕ
named_text t n = spaced_number t.name ++ opened_text t ++ soundness_text n.soundness

-- 'the view's bytes, then 1 or 0'
abbrev pub view_text : List ℕ → View → List ℕ
view_text s v = bytes_field (part_of s v.part) ++ spaced_number (flag_bit v.sound)

-- by what the token holds: of 2, 7, 8 and 9 the name; of 10 and 11 the view; '6 value: a field type:-:start:next:content', the next place
-- being where the token ends
abbrev pub by_held : List ℕ → Token → Held → List ℕ
by_held s t H.Nothing = numbered_text t
by_held s t (H.Name n) = named_text t n
by_held s t (H.Text v) = view_text s v
by_held s t (H.Value v) = sizeless_text s v (t.place + t.len)
by_held s t (H.Instance i) = instance_text s i

abbrev pub held_text : List ℕ → Token → List ℕ
held_text s t = by_held s t t.held

abbrev pub token_text : List ℕ → Token → List ℕ
token_text s t = decimal_of t.place ++ spaced_number t.len ++ spaced_number t.kind ++ held_text s t ++ ascii "\n"
