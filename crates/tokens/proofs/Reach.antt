-- Where a token ends: after its byte, and within the stream. Assumes nothing.
use mathlib.Core.Path.{◌≡◌, refl, subst}
use mathlib.Core.Bool.{Bool, false}
use mathlib.Core.List.{List}
use Prim.Native.Nat.{ℕ, zero, suc, ◌+◌, ◌-◌, ◌*◌, ◌≤◌, ◌<◌}
use native.Mathlib.Omega.{arith}
use borrow.Author.Tests.{leb-true}
use lib.Dec.{eqb, leb, ltb}
use lib.ListN.{length, drop, length-drop}
use Rattle.cursor.specs.Answer.{Answer, given, refused, ◌then◌, pick}
use Rattle.cursor.specs.Reads.{within, number_of, number_at, take_at}
use Rattle.cursor.specs.Text.{prefixed_at}
use Rattle.cursor.proofs.Choice.{either, tested}
use Rattle.name.specs.Hash.{hash_of}
use Rattle.name.specs.Name as N
use Rattle.name.specs.Pieces as P
use Rattle.name.specs.declared.Name.{Name}
use Rattle.name.specs.declared.Soundness.TheVariants.{NotJudged}
use Rattle.value.specs.Kinds.{known_code}
use Rattle.value.specs.Value.{unsized_at}
use Rattle.value.specs.declared.Value.{Value}
use Rattle.value.proofs.Bounds.{Between, read_between, counted_between}
use Rattle.value.proofs.Stands.{Stands, sized_stands, unsized_stands}
use Rattle.tokens.specs.Token.{type_at, substitution_at, named_at, open_at, text_token_at, value_token_at}
use Rattle.tokens.specs.Instance as I
use Rattle.tokens.specs.Table.{gist_at}
use Rattle.tokens.specs.Walk.{Met, handed, header, over, header_at, turn_at}
use Rattle.tokens.specs.Pieces.{dependency_at, list_size_at, met_token, met_header, turn_after_byte}
use Rattle.tokens.specs.declared.Flags.{Flags}
use Rattle.tokens.specs.declared.plain.Gist.{Gist}
use Rattle.tokens.proofs.Table.{by_line}
use Rattle.tokens.proofs.Kinded.{Kinded, gist_kinded}

lower : {A : Type 0} (low n high : ℕ) (a : Answer A) → low ≤ n → Between n high a → Between low high a
lower low n high (given x m) l h = (omega arith, h.1)
lower low n high (refused k p) l h = tt {0}

-- what was read, and then what comes after it
pub on : {A B : Type 0} (low high : ℕ) (a : Answer A) (f : A → ℕ → Answer B) → Between low high a
    → ((x : A) (n : ℕ) → n ≤ high → Between n high (f x n)) → Between low high (a then f)
on low high (given x n) f h g = lower low n high (f x n) h.0 (g x n h.1)
on low high (refused k p) f h g = tt {0}

always : {A B : Type 0} (low high : ℕ) (a : Answer A) (f : A → ℕ → Answer B)
    → ((x : A) (n : ℕ) → Between low high (f x n)) → Between low high (a then f)
always low high (given x n) f g = g x n
always low high (refused k p) f g = tt {0}

stay : {A : Type 0} (x : A) (n high : ℕ) → n ≤ high → Between n high (given x n)
stay x n high h = (omega arith, h)

-- a read, and then what comes after it
module _ (s : List ℕ) where
  then_number : {B : Type 0} (at w : ℕ) (f : ℕ → ℕ → Answer B) → ((x : ℕ) (n : ℕ) → n ≤ length s → Between n (length s) (f x n))
      → Between at (length s) (number_at s at w then f)
  then_number at w f g = on at (length s) (number_at s at w) f (read_between s at w (number_of s at w)) g

  -- names
  in_place : (at : ℕ) → Between at (length s) (P.in_place_at s at)
  in_place at =
      always at (length s) (number_at s at 4) (λ _ second. P.after_next s at second) (λ _ second.
      always at (length s) (number_at s second 2) (λ _ third. P.after_link s at third) (λ _ third.
      always at (length s) (number_at s third 2) (P.skipped s at) (λ n units.
      either (λ a. Between {A = Name} at (length s) (a then λ _ next. given (N.name_of at units n NotJudged) next)) (leb (at + 10 + 2 * n) (length s)) _ _
      (λ w. (omega arith, leb-true (at + 10 + 2 * n) (length s) w))
      (λ w. tt {0}))))

  offset_name : (at : ℕ) → Between at (length s) (N.offset_name_at s at)
  offset_name at =
      then_number at 4 (P.after_offset s) (λ offset n h.
      either (Between n (length s)) (eqb n offset) _ _ (λ e. in_place n) (λ e. (omega arith, h)))

  units : (n at : ℕ) → at ≤ length s → Between at (length s) (N.units_at s at n)
  unfolding N.units_at
  units zero at h = (omega arith, h)
  units (suc n) at h =
      then_number at 2 _ (λ u m k. on m (length s) (N.units_at s m n) _ (units n m k) (λ us e l. (omega arith, l)))

  inline_name : (at : ℕ) → Between at (length s) (N.inline_name_at s at)
  inline_name at =
      then_number at 2 (P.after_hash s at) (λ stored n h.
      then_number n 2 (P.after_count s at stored) (λ count m k.
      on m (length s) (N.units_at s m count) (P.after_units s at m count stored) (units count m k) (λ us e l.
      then_number e 2 _ (λ last z i.
      tested (Between z (length s)) (eqb last 0) _ _ _
      (λ p. tested (Between z (length s)) (eqb stored (hash_of us)) _ _ _ (λ q. (omega arith, i)) (λ q. tt {0}))
      (λ p. tt {0})))))

  name : (at : ℕ) (inline : Bool) → Between at (length s) (N.name_at s at inline)
  name at inline = either (Between at (length s)) inline _ _ (λ e. inline_name at) (λ e. offset_name at)

  -- tokens but the instance
  type_ends : (at : ℕ) → Between at (length s) (type_at s at)
  type_ends at = then_number at 1 _ (λ code n h. either (Between n (length s)) (known_code code) _ _ (λ e. (omega arith, h)) (λ e. tt {0}))

  named : (inline : Bool) (kind at : ℕ) → Between at (length s) (named_at s inline kind at)
  named inline kind at = on at (length s) (N.name_at s at inline) _ (name at inline) (λ x n h. (omega arith, h))

  text : (kind at : ℕ) → Between at (length s) (text_token_at s kind at)
  text kind at =
      on at (length s) (prefixed_at s at false) _ (then_number at 2 _ (λ n m h. counted_between s m n)) (λ x n h. (omega arith, h))

  substitution : (optional : Bool) (at : ℕ) → Between at (length s) (substitution_at s optional at)
  substitution optional at =
      then_number at 2 _ (λ n m h. on m (length s) (type_at s m) _ (type_ends m) (λ x e l. (omega arith, l)))

  stands : (low high : ℕ) (a : Answer Value) → Stands (low + 1) high a → Between low high a
  stands low high (given v n) h = (omega (arith, h.1), h.2)
  stands low high (refused k p) h = tt {0}

  token_value : (at : ℕ) → Between at (length s) (value_token_at s at)
  token_value at =
      on at (length s) (unsized_at s at) _ (stands at (length s) (unsized_at s at) (unsized_stands s at)) (λ x n h. (omega arith, h))

  -- a number that stands there, or is not read
  if_number : (there : Bool) (w other at : ℕ) → at ≤ length s → Between at (length s) (pick there (number_at s at w) (given other at))
  if_number there w other at h =
      either (Between at (length s)) there _ _ (λ e. read_between s at w (number_of s at w)) (λ e. (omega arith, h))

  opened : (f : Flags) (announced : Bool) (at : ℕ) → at ≤ length s → Between at (length s) (open_at s f announced at)
  opened f announced at h =
      on at (length s) (dependency_at s f.dependencies at) _ (if_number f.dependencies 2 0xFFFF at h) (λ d n k.
      then_number n 4 _ (λ _ m l.
      on m (length s) (N.name_at s m f.inline) _ (name m f.inline) (λ x e i.
      on e (length s) (list_size_at s announced e) _ (if_number announced 4 0 e i) (λ y z j. (omega arith, j)))))

  -- the instance
  descriptor : (at : ℕ) → Between at (length s) (I.descriptor_at s at)
  descriptor at =
      then_number at 2 _ (λ x n h. on n (length s) (type_at s n) _ (type_ends n) (λ y m k. then_number m 1 _ (λ z e l. (omega arith, l))))

  pub table : (n at : ℕ) → at ≤ length s → Between at (length s) (I.table_at s at n)
  unfolding I.table_at
  table zero at h = (omega arith, h)
  table (suc n) at h = on at (length s) (I.descriptor_at s at) _ (descriptor at) (λ x m k. table n m k)

  value_between : (low high : ℕ) (a : Answer Value) → Stands low high a → Between low high a
  value_between low high (given v n) h = (h.1, h.2)
  value_between low high (refused k p) h = tt {0}

  pub value : (at_table at : ℕ) → at ≤ length s → Between at (length s) (I.value_in s at_table at)
  value at_table at h =
      let e : at + length (drop at s) ≡ length s = simp length-drop (omega arith) in
      let x = I.value_in s at_table at in
      value_between at (length s) x (subst (λ (m : ℕ). Stands at m x) e (sized_stands (drop at s) at (number_of s (at_table + 2) 1) (number_of s at_table 2)))

  pub values : (n at_table at : ℕ) → at ≤ length s → Between at (length s) (I.values_at s at_table at n)
  unfolding I.values_at
  values zero at_table at h = (omega arith, h)
  values (suc n) at_table at h = on at (length s) (I.value_in s at_table at) _ (value at_table at h) (λ x m k. values n (at_table + 4) m k)

  definition : (offset at : ℕ) → at ≤ length s → Between at (length s) (I.definition_at s offset at)
  definition offset at h =
      either (Between at (length s)) (eqb at offset) _ _
      (λ e. then_number at 4 _ (λ x n k.
      on n (length s) (take_at s n 16) _ (read_between s n 16 (record { start = n; len = 16 })) (λ g m l.
      then_number m 4 _ (λ size z i.
      either (λ a. Between z (length s) (a then λ _ next. given g next)) (leb (z + size) (length s)) _ _
      (λ w. (omega arith, leb-true (z + size) (length s) w))
      (λ w. tt {0})))))
      (λ e. (omega arith, h))

  pub head : (at : ℕ) → Between at (length s) (I.instance_head_at s at)
  head at =
      then_number at 1 _ (λ x n h.
      then_number n 4 _ (λ id m k.
      then_number m 4 _ (λ offset e l.
      on e (length s) (I.definition_at s offset e) _ (definition offset e l) (λ g z i.
      then_number z 4 _ (λ count t j.
      on t (length s) (I.table_at s t count) _ (table count t j) (λ y v p. (omega arith, p)))))))

  whole_instance : (at : ℕ) → Between at (length s) (I.instance_at s at)
  whole_instance at =
      on at (length s) (I.instance_head_at s at) _ (head at) (λ i n h.
      on n (length s) (I.values_at s i.table n i.count) _ (values i.count i.table n h) (λ y e l. (omega arith, l)))

  pub gist_ends : (f : Flags) (b at : ℕ) → at ≤ length s → Between at (length s) (gist_at s f b at)
  gist_ends f b at h =
      by_line (Between at (length s)) s f b at (record {
        instance = whole_instance at;
        opened = λ announced. opened f announced at h;
        bare = λ kind l k. (omega arith, h);
        value = token_value at;
        named = λ kind l k. named f.inline kind at;
        text = λ kind l k. text kind at;
        char = then_number at 2 _ (λ x n k. (omega arith, k));
        substitution = λ optional. substitution optional at;
        unknown = tt {0};
      })

  header_ends : (at : ℕ) → Between at (length s) (header_at s at)
  header_ends at = then_number at 1 _ (λ x n h. then_number n 1 _ (λ y m k. then_number m 1 _ (λ z e l. (omega arith, l))))

-- after a byte
abbrev pub Follows : ℕ → ℕ → Answer ℕ → Type 0
Follows at high (given x n) = (n ≡ at + 1) × (n ≤ high)
Follows at high (refused k p) = Unit {0}

pub byte_follows : (s : List ℕ) (at : ℕ) → Follows at (length s) (number_at s at 1)
byte_follows s at = either (Follows at (length s)) (within s at 1) _ _ (λ w. (refl, leb-true (at + 1) (length s) w)) (λ w. tt {0})

-- a turn or a step from a position: a token stands at it or after it, and it ends after its place, within the stream, where its length
-- says, and its kind is from 1 to 13; a header ends after the position
abbrev pub Grows : ℕ → ℕ → Answer Met → Type 0
Grows at high (given (handed t) n) = (at ≤ t.place) × (t.place < n) × (n ≤ high) × (t.place + t.len ≡ n) × (1 ≤ t.kind) × (t.kind ≤ 13)
Grows at high (given header n) = (at < n) × (n ≤ high)
Grows at high (given over n) = Unit {0}
Grows at high (refused k p) = Unit {0}

header_grows : (place high : ℕ) (a : Answer Unit) → Between (place + 1) high a → Grows place high (met_header a)
header_grows place high (given x n) h = (omega (arith, h.0), h.1)
header_grows place high (refused k p) h = tt {0}

placed_grows : (place high : ℕ) (a : Answer Gist) → Between (place + 1) high a → Kinded a → Grows place high (met_token place a)
placed_grows place high (given g n) h k = (omega arith, omega (arith, h.0), h.1, omega (arith, h.0), k.0, k.1)
placed_grows place high (refused k p) h i = tt {0}

byte_grows : (s : List ℕ) (f : Flags) (place b : ℕ) → place + 1 ≤ length s → Grows place (length s) (turn_after_byte s f place b (place + 1))
byte_grows s f place b h =
    let P = Grows place (length s) in
    either P (eqb b 0x00) _ _ (λ e. tt {0})
    (λ e. either P (eqb b 0x0F) _ _
    (λ e. header_grows place (length s) (header_at s (place + 1)) (header_ends s (place + 1)))
    (λ e. placed_grows place (length s) (gist_at s f b (place + 1)) (gist_ends s f b (place + 1) h) (gist_kinded s f b (place + 1))))

pub turn_grows : (s : List ℕ) (end : ℕ) (f : Flags) (at : ℕ) → Grows at (length s) (turn_at s end f at)
unfolding turn_at
turn_grows s end f at =
    either (Grows at (length s)) (ltb at end) _ _
    (λ w. either (λ a. Grows at (length s) (a then turn_after_byte s f at)) (within s at 1) _ _
    (λ v. byte_grows s f at (number_of s at 1) (leb-true (at + 1) (length s) v))
    (λ v. tt {0}))
    (λ w. tt {0})
