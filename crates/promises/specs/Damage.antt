-- What two walks have in common after a damage. Document 02, P14; the theorems are those of proofs/Damage.antt and proofs/Recovery.antt.
use Rattle.std.specs.Prelude.{◌≡◌, Bool, List, [], ◌∷◌, ◌++◌, ℕ, ◌+◌, ◌≤◌}
use Rattle.cursor.specs.Answer.{gives, just}
use Rattle.record.specs.Record.{payload_of}
use Rattle.chunk.specs.Walk.{Reply, live, carved, refused_with, start_of, ResyncAfter}
use Rattle.chunk.specs.Listing.{Runs}

-- "walks .. meet an unreadable record at the same offset and resume at the same resync offset": the walk of s from its start refuses a
-- record at p, the resync offset after it is q, and `after` is all that it answers after that refusal
pub record Damaged (s : List ℕ) (recover : Bool) (p q : ℕ) (after : List Reply) : Type 0 where
  pub before : List Reply
  pub number : ℕ
  pub walk : Runs s (start_of recover) (before ++ (refused_with number p ∷ after))
  pub resync : ResyncAfter s p (gives (just q))

-- "Carved records from the skipped range": these alone, each of them within p to q
unfoldable pub CarvedWithin : ℕ → ℕ → List Reply → Type 0
CarvedWithin p q [] = Unit {0}
CarvedWithin p q (carved r ∷ items) = (p ≤ r.offset) × (r.offset + r.size ≤ q) × CarvedWithin p q items
CarvedWithin p q (live r ∷ items) = ⊥
CarvedWithin p q (refused_with number place ∷ items) = ⊥

-- "with their payloads": each record has the same payload in both chunks
unfoldable pub SamePayloads : List ℕ → List ℕ → List Reply → Type 0
SamePayloads s t [] = Unit {0}
SamePayloads s t (live r ∷ items) = (payload_of s r ≡ payload_of t r) × SamePayloads s t items
SamePayloads s t (carved r ∷ items) = (payload_of s r ≡ payload_of t r) × SamePayloads s t items
SamePayloads s t (refused_with number place ∷ items) = SamePayloads s t items

-- "all live records .. and all refusals .. in the same order": the answers without the carved records
unfoldable pub without_carved : List Reply → List Reply
without_carved [] = []
without_carved (live r ∷ items) = live r ∷ without_carved items
without_carved (carved r ∷ items) = without_carved items
without_carved (refused_with number place ∷ items) = refused_with number place ∷ without_carved items

-- both are carved records within p to q, and then the same rest, carved records of later ranges included
pub record SameRest (s t : List ℕ) (p q : ℕ) (one other : List Reply) : Type 0 where
  pub one_carved : List Reply
  pub other_carved : List Reply
  pub rest : List Reply
  pub one_is : one ≡ one_carved ++ rest
  pub other_is : other ≡ other_carved ++ rest
  pub one_within : CarvedWithin p q one_carved
  pub other_within : CarvedWithin p q other_carved
  pub payloads : SamePayloads s t rest
