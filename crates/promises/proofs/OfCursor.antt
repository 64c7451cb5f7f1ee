-- `cursor`: each public call allows one answer. An answer can be read back from document 01's terms, so what the contract says in those
-- terms fixes the answer's value. Assumes nothing.
use Rattle.std.specs.Prelude.{Ok, Err, Result}
use Rattle.cursor.specs.declared.Cursor.{Cursor}
use Rattle.cursor.specs.declared.Refusal.{Refusal}
use mathlib.Core.Path.{◌≡◌, refl, sym, ◌∙◌}
use contract.Lifetimes.{Lfts}
use borrow.Fn.Kinds.{Dens, res_t, ended_of}
use denote.Triple.Clauses.{AtExit}
use Rattle.cursor.specs.Answer.{Answer, given, refused}
use Rattle.cursor.specs.Answers.{moved_answer}
use Rattle.cursor.proofs.Cursor.with_pos.Kinds as with_posK
use Rattle.cursor.proofs.Cursor.with_pos.Reads as with_posR
use Rattle.cursor.proofs.Cursor.set_pos.Kinds as set_posK
use Rattle.cursor.proofs.Cursor.set_pos.Reads as set_posR
use Rattle.cursor.proofs.Cursor.take_bytes.Kinds as take_bytesK
use Rattle.cursor.proofs.Cursor.take_bytes.Reads as take_bytesR
use Rattle.cursor.proofs.Cursor.u8.Kinds as u8K
use Rattle.cursor.proofs.Cursor.u8.Reads as u8R
use Rattle.cursor.proofs.Cursor.u16.Kinds as u16K
use Rattle.cursor.proofs.Cursor.u16.Reads as u16R
use Rattle.cursor.proofs.Cursor.u32.Kinds as u32K
use Rattle.cursor.proofs.Cursor.u32.Reads as u32R
use Rattle.cursor.proofs.Cursor.u64.Kinds as u64K
use Rattle.cursor.proofs.Cursor.u64.Reads as u64R
use Rattle.cursor.proofs.Cursor.read_sid.Kinds as read_sidK
use Rattle.cursor.proofs.Cursor.read_sid.Reads as read_sidR
use Rattle.cursor.proofs.Cursor.read_array.Kinds as read_arrayK
use Rattle.cursor.proofs.Cursor.read_array.Reads as read_arrayR
use Rattle.cursor.proofs.Cursor.utf16_by_char_count.Kinds as utf16_by_char_countK
use Rattle.cursor.proofs.Cursor.utf16_by_char_count.Reads as utf16_by_char_countR
use Rattle.cursor.proofs.Cursor.len_prefixed_utf16_string.Kinds as len_prefixed_utf16_stringK
use Rattle.cursor.proofs.Cursor.len_prefixed_utf16_string.Reads as len_prefixed_utf16_stringR
use Rattle.cursor.proofs.Cursor.null_terminated_utf16_string.Kinds as null_terminated_utf16_stringK
use Rattle.cursor.proofs.Cursor.null_terminated_utf16_string.Reads as null_terminated_utf16_stringR
use Rattle.cursor.proofs.u8_at.Kinds as u8_atK
use Rattle.cursor.proofs.u8_at.Reads as u8_atR
use Rattle.cursor.proofs.u16_at.Kinds as u16_atK
use Rattle.cursor.proofs.u16_at.Reads as u16_atR
use Rattle.cursor.proofs.u32_at.Kinds as u32_atK
use Rattle.cursor.proofs.u32_at.Reads as u32_atR
use Rattle.cursor.proofs.u64_at.Kinds as u64_atK
use Rattle.cursor.proofs.u64_at.Reads as u64_atR
use Rattle.cursor.proofs.begins.Kinds as beginsK
use Rattle.cursor.proofs.begins.Reads as beginsR
use Rattle.cursor.proofs.well_formed.Kinds as well_formedK
use Rattle.cursor.proofs.well_formed.Reads as well_formedR
use Rattle.cursor.proofs.bit.Kinds as bitK
use Rattle.cursor.proofs.bit.Reads as bitR
use Rattle.cursor.proofs.lay.Kinds as layK
use Rattle.cursor.proofs.lay.Reads as layR
use Rattle.cursor.proofs.unit_at.Kinds as unit_atK
use Rattle.cursor.proofs.unit_at.Reads as unit_atR
use Rattle.cursor.proofs.Part.of.Kinds as ofK
use Rattle.cursor.proofs.Part.of.Reads as ofR
use Rattle.cursor.proofs.refuse.Kinds as refuseK
use Rattle.cursor.proofs.refuse.Reads as refuseR
use denote.RattleType.{RattleType}
use denote.Param.Laws.{Laws}
use Rattle.promises.proofs.One.{Single, counted_one, read_back, read_one}

pub moved_one : (x y : Result Cursor Refusal) (b : Answer Unit) → moved_answer x ≡ b → moved_answer y ≡ b → x ≡ y
moved_one = read_back moved_answer moved_back back
  where
    moved_back : Answer Unit → Result Cursor Refusal
    moved_back (given v n) = Ok (record { at = n })
    moved_back (refused k p) = Err (record { number = k; place = p })

    back : (x : Result Cursor Refusal) → moved_back (moved_answer x) ≡ x
    back (Ok c) = refl
    back (Err r) = refl

-- whatever else would be answered
pub refuse : (T : RattleType) (l : Laws T) → Single 1 (refuseK.ps T l) (refuseK.r T l) (refuseR.Post T l)
refuse T l κs a x y s t p q = p ∙ sym q

pub with_pos : Single 1 with_posK.ps with_posK.r with_posR.Post
with_pos κs a x y s t p q = moved_one x y _ p q

pub set_pos : Single 1 set_posK.ps set_posK.r set_posR.Post
set_pos κs a x y s t p q = moved_one x y _ p q

pub take_bytes : Single 1 take_bytesK.ps take_bytesK.r take_bytesR.Post
take_bytes κs a x y s t p q = read_one x y _ p q

pub u8 : Single 1 u8K.ps u8K.r u8R.Post
u8 κs a x y s t p q = read_one x y _ p q

pub u16 : Single 1 u16K.ps u16K.r u16R.Post
u16 κs a x y s t p q = read_one x y _ p q

pub u32 : Single 1 u32K.ps u32K.r u32R.Post
u32 κs a x y s t p q = read_one x y _ p q

pub u64 : Single 1 u64K.ps u64K.r u64R.Post
u64 κs a x y s t p q = read_one x y _ p q

pub read_sid : Single 1 read_sidK.ps read_sidK.r read_sidR.Post
read_sid κs a x y s t p q = read_one x y _ p q

pub read_array : Single 1 read_arrayK.ps read_arrayK.r read_arrayR.Post
read_array κs a x y s t p q = read_one x y _ p q

pub utf16_by_char_count : Single 1 utf16_by_char_countK.ps utf16_by_char_countK.r utf16_by_char_countR.Post
utf16_by_char_count κs a x y s t p q = read_one x y _ p q

pub len_prefixed_utf16_string : Single 1 len_prefixed_utf16_stringK.ps len_prefixed_utf16_stringK.r len_prefixed_utf16_stringR.Post
len_prefixed_utf16_string κs a x y s t p q = read_one x y _ p q

pub null_terminated_utf16_string : Single 1 null_terminated_utf16_stringK.ps null_terminated_utf16_stringK.r null_terminated_utf16_stringR.Post
null_terminated_utf16_string κs a x y s t p q = read_one x y _ p q

pub u8_at : Single 1 u8_atK.ps u8_atK.r u8_atR.Post
u8_at κs a x y s t p q = p ∙ sym q

pub u16_at : Single 1 u16_atK.ps u16_atK.r u16_atR.Post
u16_at κs a x y s t p q = p ∙ sym q

pub u32_at : Single 1 u32_atK.ps u32_atK.r u32_atR.Post
u32_at κs a x y s t p q = p ∙ sym q

pub u64_at : Single 1 u64_atK.ps u64_atK.r u64_atR.Post
u64_at κs a x y s t p q = p ∙ sym q

pub begins : Single 2 beginsK.ps beginsK.r beginsR.Post
begins κs a x y s t p q = p ∙ sym q

pub unit_at : Single 1 unit_atK.ps unit_atK.r unit_atR.Post
unit_at κs a x y s t p q = p ∙ sym q

pub well_formed : Single 1 well_formedK.ps well_formedK.r well_formedR.Post
well_formed κs a x y s t p q = p ∙ sym q

-- of the part that is handed back, its bytes
pub of : (κs : Lfts 1) (a : Dens κs ofK.ps) (x y : (res_t ofK.r κs).Denot) (s t : AtExit (ended_of 1 ofK.ps ofK.r) κs)
    → ofR.Post κs a x s → ofR.Post κs a y t → x.now ≡ y.now
of κs a x y s t p q = p ∙ sym q

pub bit : Single 0 bitK.ps bitK.r bitR.Post
bit κs a x y s t p q = p ∙ sym q

-- answer and lent words
pub lay : (κs : Lfts 2) (a : Dens κs layK.ps) (x y : (res_t layK.r κs).Denot) (s t : AtExit (ended_of 2 layK.ps layK.r) κs)
    → layR.Post κs a x s → layR.Post κs a y t → (x ≡ y) × (s.1.0.now ≡ t.1.0.now)
lay κs a x y s t p q = (counted_one x y _ p.0 q.0, p.1 ∙ sym q.1)
