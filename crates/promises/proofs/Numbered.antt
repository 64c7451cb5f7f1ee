-- A token's number has 16 bits, and its name's offset 32. Assumes nothing.
use mathlib.Core.Bool.{Bool, false}
use mathlib.Core.List.{List}
use Prim.Native.Nat.{ℕ, ◌+◌, ◌*◌, ◌^◌, ◌≤◌, ◌<◌}
use native.Mathlib.Omega.{arith}
use borrow.Author.Tests.{leb-true, eqb-true}
use lib.Dec.{eqb}
use lib.ListN.{length}
use Rattle.cursor.specs.Answer.{Answer, given, refused, ◌then◌, must, pick}
use Rattle.cursor.specs.Reads.{within, number_of, number_at, set_to}
use Rattle.cursor.specs.Refusals.{name_not_ended, name_hash}
use Rattle.cursor.specs.Text.{prefixed_at}
use Rattle.cursor.proofs.Choice.{either}
use Rattle.name.specs.Hash.{hash_of}
use Rattle.name.specs.Name.{offset_name_at, units_at, inline_name_at, name_at}
use Rattle.name.specs.Pieces as P
use Rattle.name.specs.declared.Name.{Name}
use Rattle.value.specs.Value.{unsized_at}
use Rattle.tokens.specs.Token.{type_at, open_of, open_at}
use Rattle.tokens.specs.Table.{gist_at}
use Rattle.tokens.specs.Instance as I
use Rattle.tokens.specs.Walk.{walk_from}
use Rattle.tokens.specs.declared.Flags.{Flags}
use Rattle.tokens.specs.declared.plain.Gist.{Gist}
use Rattle.tokens.specs.declared.Token.{Token}
use Rattle.tokens.proofs.Table.{by_line}
use Rattle.promises.specs.Packed.{Bytes}
use Rattle.promises.proofs.Fits.{number_below}
use Rattle.promises.proofs.EachToken.{Of, of_later, OfToken, AllOf, walk_each}

-- what was read of a token and of a name
abbrev InGist : Gist → Type 0
InGist g = (g.number < 2 ^ 16) × (g.name < 2 ^ 32)

abbrev Numbered : Answer Gist → Type 0
Numbered = Of InGist

abbrev Named : Answer Name → Type 0
Named = Of (λ x. x.offset < 2 ^ 32)

-- whatever was read before
later : {A : Type 0} (a : Answer A) (f : A → ℕ → Answer Gist) → ((x : A) (n : ℕ) → Numbered (f x n)) → Numbered (a then f)
later = of_later InGist

-- after a name that was read
after_name : (a : Answer Name) (f : Name → ℕ → Answer Gist) → Named a → ((x : Name) (n : ℕ) → x.offset < 2 ^ 32 → Numbered (f x n)) → Numbered (a then f)
after_name (given x n) f h g = g x n h
after_name (refused k p) f h g = tt {0}

open_numbered : (d : ℕ) (announced : Bool) (name : Name) (n : ℕ) → d < 2 ^ 16 → name.offset < 2 ^ 32 → Numbered (given (open_of d announced name) n)
open_numbered d announced name n h k = either (λ (g : Gist). Numbered (given g n)) (eqb d 0xFFFF) _ _ (λ e. (omega arith, k)) (λ e. (h, k))

module _ (s : List ℕ) (bytes : Bytes s) (short : length s ≤ 65536) where
  -- an inline name starts in the stream
  inline_named : (at : ℕ) → Named (inline_name_at s at)
  inline_named at =
      let Q : Name → Type 0 = λ x. x.offset < 2 ^ 32 in
      either (λ a. Named (a then P.after_hash s at)) (within s at 2) _ _
      (λ w. let h = leb-true (at + 2) (length s) w in
      of_later Q (number_at s (at + 2) 2) (P.after_count s at (number_of s at 2)) (λ n start.
      of_later Q (units_at s start n) (P.after_units s at start n (number_of s at 2)) (λ units end.
      of_later Q (number_at s end 2) _ (λ last next.
      of_later Q (must (eqb last 0) name_not_ended at) _ (λ _ _.
      of_later Q (must (eqb (number_of s at 2) (hash_of units)) name_hash at) _ (λ _ _. omega (arith, h)))))))
      (λ w. tt {0})

  -- an offset is a number of four bytes, and a name in place stands where it says
  offset_named : (at : ℕ) → Named (offset_name_at s at)
  offset_named at =
      let Q : Name → Type 0 = λ x. x.offset < 2 ^ 32 in
      let b = number_below s at 4 bytes in
      either (λ a. Named (a then P.after_offset s)) (within s at 4) _ _
      (λ w. either Named (eqb (at + 4) (number_of s at 4)) _ _
      (λ e. let h : at + 4 < 2 ^ 32 = omega (arith, eqb-true (at + 4) (number_of s at 4) e, b) in
      of_later Q (number_at s (at + 4) 4) (λ _ next. P.after_next s (at + 4) next) (λ _ second.
      of_later Q (number_at s second 2) (λ _ next. P.after_link s (at + 4) next) (λ _ third.
      of_later Q (number_at s third 2) (P.skipped s (at + 4)) (λ n units.
      of_later Q (set_to s (at + 4 + 10 + 2 * n)) _ (λ _ next. h)))))
      (λ e. omega (arith, b)))
      (λ w. tt {0})

  named : (at : ℕ) (inline : Bool) → Named (name_at s at inline)
  named at inline = either Named inline _ _ (λ e. inline_named at) (λ e. offset_named at)

  u16 : (at : ℕ) (f : ℕ → ℕ → Answer Gist) → ((x n : ℕ) → x < 2 ^ 16 → Numbered (f x n)) → Numbered (number_at s at 2 then f)
  u16 at f g =
      either (λ a. Numbered (a then f)) (within s at 2) _ _
      (λ w. g (number_of s at 2) _ (omega (arith, number_below s at 2 bytes)))
      (λ w. tt {0})

  -- an open token behind its dependency
  abbrev after_dependency : Flags → Bool → ℕ → ℕ → Answer Gist
  after_dependency f announced dependency at =
      number_at s at 4 then λ _ at.
      name_at s at f.inline then λ name at.
      pick announced (number_at s at 4) (given 0 at) then λ _ at.
      given (open_of dependency announced name) at

  opened : (f : Flags) (announced : Bool) (at : ℕ) → Numbered (open_at s f announced at)
  opened f announced at =
      let rest : (d n : ℕ) → d < 2 ^ 16 → Numbered (after_dependency f announced d n) =
      λ d n h. later (number_at s n 4) _ (λ _ m. after_name (name_at s m f.inline) _ (named m f.inline) (λ name e k. later (pick announced (number_at s e 4) (given 0 e)) _ (λ _ z. open_numbered d announced name z h k))) in
      either (λ a. Numbered (a then after_dependency f announced)) f.dependencies _ _
      (λ e. u16 at (after_dependency f announced) rest)
      (λ e. rest 0xFFFF at (omega arith))

  gist_numbered : (f : Flags) (b at : ℕ) → Numbered (gist_at s f b at)
  gist_numbered f b at =
      by_line Numbered s f b at (record {
        instance = later (I.instance_head_at s at) _ (λ i n. later (I.values_at s i.table n i.count) _ (λ _ m. (omega arith, omega arith)));
        opened = λ announced. opened f announced at;
        bare = λ kind l k. (omega arith, omega arith);
        value = later (unsized_at s at) _ (λ v n. (omega arith, omega arith));
        named = λ kind l k. after_name (name_at s at f.inline) _ (named at f.inline) (λ x n h. (omega arith, h));
        text = λ kind l k. later (prefixed_at s at false) _ (λ v n. (omega arith, omega arith));
        char = u16 at _ (λ x n h. (h, omega arith));
        substitution = λ optional. u16 at _ (λ x n h. later (type_at s n) _ (λ _ m. (h, omega arith)));
        unknown = tt {0};
      })

-- so it is for every token of a walk over bytes
abbrev pub InToken : Token → Type 0
InToken t = (t.number < 2 ^ 16) × (t.name < 2 ^ 32)

placed_numbered : (place : ℕ) (a : Answer Gist) → Numbered a → OfToken InToken place a
placed_numbered place (given g n) h = h
placed_numbered place (refused k p) h = tt {0}

pub walk_numbered : (s : List ℕ) (bytes : Bytes s) (short : length s ≤ 65536) (end : ℕ) (f : Flags) (steps at : ℕ) → AllOf InToken (walk_from steps s end f at)
walk_numbered s bytes short end f =
    walk_each InToken s end f (λ place.
    placed_numbered place (gist_at s f (number_of s place 1) (place + 1)) (gist_numbered s bytes short f (number_of s place 1) (place + 1)))
