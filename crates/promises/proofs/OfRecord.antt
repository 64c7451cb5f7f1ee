-- `record`: each public call allows one answer. Assumes nothing.
use Rattle.std.specs.Prelude.{Ok, Err, Result}
use Rattle.cursor.specs.declared.Refusal.{Refusal}
use mathlib.Core.Path.{◌≡◌, refl, sym, ◌∙◌}
use mathlib.Core.Bool.{Bool, true, false}
use contract.Lifetimes.{Lfts}
use borrow.Fn.Kinds.{Dens, res_t, ended_of}
use denote.Triple.Clauses.{AtExit}
use Rattle.cursor.specs.Answer.{Answer}
use Rattle.record.specs.Answers.{fields_answer, checksum_answer, record_answer}
use Rattle.record.specs.declared.Fields.{Fields}
use Rattle.record.specs.declared.Record.{Record}
use Rattle.record.proofs.read_fields.Kinds as fieldsK
use Rattle.record.proofs.read_fields.Reads as fieldsR
use Rattle.record.proofs.read_header.Kinds as headerK
use Rattle.record.proofs.read_header.Reads as headerR
use Rattle.record.proofs.check_header.Kinds as checkK
use Rattle.record.proofs.check_header.Reads as checkR
use Rattle.record.proofs.check_events.Kinds as eventsK
use Rattle.record.proofs.check_events.Reads as eventsR
use Rattle.record.proofs.lay_header.Kinds as layK
use Rattle.record.proofs.lay_header.Reads as layR
use Rattle.record.proofs.read_record.Kinds as recordK
use Rattle.record.proofs.read_record.Reads as recordR
use Rattle.record.proofs.read_plain.Kinds as plainK
use Rattle.record.proofs.read_plain.Reads as plainR
use Rattle.record.proofs.read_strict.Kinds as strictK
use Rattle.record.proofs.read_strict.Reads as strictR
use Rattle.record.proofs.Record.payload.Kinds as payloadK
use Rattle.record.proofs.Record.payload.Reads as payloadR
use Rattle.promises.proofs.One.{Single, counted_one, read_back, value_of}

pub fields_one : (x y : Result Fields Refusal) (b : Answer Fields) → fields_answer x ≡ b → fields_answer y ≡ b → x ≡ y
fields_one = read_back fields_answer value_of back
  where
    back : (x : Result Fields Refusal) → value_of (fields_answer x) ≡ x
    back (Ok f) = refl
    back (Err r) = refl

pub checksum_one : (x y : Result Bool Refusal) (b : Answer Bool) → checksum_answer x ≡ b → checksum_answer y ≡ b → x ≡ y
checksum_one = read_back checksum_answer value_of back
  where
    back : (x : Result Bool Refusal) → value_of (checksum_answer x) ≡ x
    back (Ok true) = refl
    back (Ok false) = refl
    back (Err r) = refl

pub record_one : (x y : Result Record Refusal) (b : Answer Record) → record_answer x ≡ b → record_answer y ≡ b → x ≡ y
record_one = read_back record_answer value_of back
  where
    back : (x : Result Record Refusal) → value_of (record_answer x) ≡ x
    back (Ok r) = refl
    back (Err r) = refl

pub read_fields : Single 1 fieldsK.ps fieldsK.r fieldsR.Post
read_fields κs a x y s t p q = fields_one x y _ p q

pub read_header : Single 1 headerK.ps headerK.r headerR.Post
read_header κs a x y s t p q =
    λ i.
    record {
      fields = fields_one x.fields y.fields _ p.0 q.0 i;
      strings = (p.1.0 ∙ sym q.1.0) i;
      templates = (p.1.1 ∙ sym q.1.1) i;
    }

pub check_header : Single 1 checkK.ps checkK.r checkR.Post
check_header κs a x y s t p q = checksum_one x y _ p q

pub check_events : Single 1 eventsK.ps eventsK.r eventsR.Post
check_events κs a x y s t p q = checksum_one x y _ p q

-- answer and lent words
pub lay_header : (κs : Lfts 2) (a : Dens κs layK.ps) (x y : (res_t layK.r κs).Denot) (s t : AtExit (ended_of 2 layK.ps layK.r) κs)
    → layR.Post κs a x s → layR.Post κs a y t → (x ≡ y) × (s.1.0.now ≡ t.1.0.now)
lay_header κs a x y s t p q = (counted_one x y _ p.0 q.0, p.1 ∙ sym q.1)

pub read_record : Single 1 recordK.ps recordK.r recordR.Post
read_record κs a x y s t p q = record_one x y _ p q

pub read_plain : Single 1 plainK.ps plainK.r plainR.Post
read_plain κs a x y s t p q = record_one x y _ p q

pub read_strict : Single 1 strictK.ps strictK.r strictR.Post
read_strict κs a x y s t p q = record_one x y _ p q

-- of the payload that is handed back, its bytes
pub payload : (κs : Lfts 1) (a : Dens κs payloadK.ps) (x y : (res_t payloadK.r κs).Denot) (s t : AtExit (ended_of 1 payloadK.ps payloadK.r) κs)
    → payloadR.Post κs a x s → payloadR.Post κs a y t → x.now ≡ y.now
payload κs a x y s t p q = p ∙ sym q
