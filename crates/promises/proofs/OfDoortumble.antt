-- `doortumble`, `checksum_call` and `sheet_call`: each C call allows one answer word and one content of the lent words. Assumes nothing.
use mathlib.Core.Path.{◌≡◌, sym, ap, ◌∙◌}
use contract.Lifetimes.{Lfts}
use borrow.Fn.Kinds.{Dens, res_t, ended_of}
use denote.Triple.Clauses.{AtExit}
use Rattle.record.specs.Chunk.{fields_at}
use Rattle.log_file.specs.Header.{file_at}
use Rattle.body.specs.Verdict.{Both, both}
use Rattle.body.proofs.One.{one_answer}
use Rattle.doortumble.specs.Calls.{packed_of, flags_of}
use Rattle.doortumble.proofs.doortumble_body.Kinds as bodyK
use Rattle.doortumble.proofs.doortumble_body.Reads as bodyR
use Rattle.doortumble.proofs.flags.Kinds as flagsK
use Rattle.doortumble.proofs.flags.Reads as flagsR
use Rattle.doortumble.proofs.packed.Kinds as packedK
use Rattle.doortumble.proofs.packed.Reads as packedR
use Rattle.nest_call.proofs.doortumble_bodies.Kinds as bodiesK
use Rattle.nest_call.proofs.doortumble_bodies.Reads as bodiesR
use Rattle.doortumble.proofs.doortumble_widen.Kinds as widenK
use Rattle.doortumble.proofs.doortumble_widen.Reads as widenR
use Rattle.doortumble.proofs.doortumble_narrow.Kinds as narrowK
use Rattle.doortumble.proofs.doortumble_narrow.Reads as narrowR
use Rattle.doortumble.proofs.doortumble_list.Kinds as listK
use Rattle.doortumble.proofs.doortumble_list.Reads as listR
use Rattle.doortumble.proofs.doortumble_list_file.Kinds as fileK
use Rattle.doortumble.proofs.doortumble_list_file.Reads as fileR
use Rattle.doortumble.proofs.doortumble_chunk_header.Kinds as chunkHeaderK
use Rattle.doortumble.proofs.doortumble_chunk_header.Reads as chunkHeaderR
use Rattle.doortumble.proofs.doortumble_file_header.Kinds as fileHeaderK
use Rattle.doortumble.proofs.doortumble_file_header.Reads as fileHeaderR
use Rattle.checksum_call.proofs.doortumble_bench_checksum.Kinds as checksumK
use Rattle.checksum_call.proofs.doortumble_bench_checksum.Reads as checksumR
use Rattle.sheet_call.proofs.doortumble_bench_sheet.Kinds as sheetK
use Rattle.sheet_call.proofs.doortumble_bench_sheet.Reads as sheetR
use Rattle.promises.proofs.NestOne.{one_nested}
use Rattle.promises.proofs.OfChunk.{lists_by}
use Rattle.promises.proofs.OfLogFile.{file_lists_by}
use Rattle.promises.proofs.One.{Single}

pub body : (κs : Lfts 3) (a : Dens κs bodyK.ps) (x y : (res_t bodyK.r κs).Denot) (s t : AtExit (ended_of 3 bodyK.ps bodyK.r) κs)
    → bodyR.Post κs a x s → bodyR.Post κs a y t
    → (x ≡ y) × (s.1.1.1.1.1.0.now ≡ t.1.1.1.1.1.0.now) × (s.1.1.1.1.1.1.0.now ≡ t.1.1.1.1.1.1.0.now)
body κs a x y s t p q =
    let e = one_answer _ _ _ p.1.1 q.1.1 in
    (p.1.0 ∙ ap packed_of e.0 ∙ sym q.1.0, ap (λ (b : Both). b.sheet) e.1, ap (λ (b : Both). b.table) e.1)

pub flags : Single 0 flagsK.ps flagsK.r flagsR.Post
flags κs a x y s t p q = p ∙ sym q

pub packed : Single 0 packedK.ps packedK.r packedR.Post
packed κs a x y s t p q = p ∙ sym q

pub bodies : (κs : Lfts 3) (a : Dens κs bodiesK.ps) (x y : (res_t bodiesK.r κs).Denot) (s t : AtExit (ended_of 3 bodiesK.ps bodiesK.r) κs)
    → bodiesR.Post κs a x s → bodiesR.Post κs a y t
    → (x ≡ y) × (s.1.1.1.1.1.0.now ≡ t.1.1.1.1.1.0.now) × (s.1.1.1.1.1.1.0.now ≡ t.1.1.1.1.1.1.0.now)
bodies κs a x y s t p q =
    let f = flags_of a.1.1.1.0 a.1.1.1.1.0 in
    let lent = both a.1.1.1.1.1.0.now a.1.1.1.1.1.1.0.now in
    let left = both s.1.1.1.1.1.0.now s.1.1.1.1.1.1.0.now in
    let left' = both t.1.1.1.1.1.0.now t.1.1.1.1.1.1.0.now in
    let e = one_nested a.0.now a.1.0 a.1.1.0 f lent left left' p.0 q.0 p.1.1 q.1.1 in
    (p.1.0 ∙ ap packed_of e.0 ∙ sym q.1.0, ap (λ (b : Both). b.sheet) e.1, ap (λ (b : Both). b.table) e.1)

pub widen : (κs : Lfts 3) (a : Dens κs widenK.ps) (x y : (res_t widenK.r κs).Denot) (s t : AtExit (ended_of 3 widenK.ps widenK.r) κs)
    → widenR.Post κs a x s → widenR.Post κs a y t → (x ≡ y) × (s.1.1.1.1.1.1.0.now ≡ t.1.1.1.1.1.1.0.now)
widen κs a x y s t p q = (p.0 ∙ sym q.0, p.1 ∙ sym q.1)

pub narrow : (κs : Lfts 3) (a : Dens κs narrowK.ps) (x y : (res_t narrowK.r κs).Denot) (s t : AtExit (ended_of 3 narrowK.ps narrowK.r) κs)
    → narrowR.Post κs a x s → narrowR.Post κs a y t → (x ≡ y) × (s.1.1.1.1.1.1.0.now ≡ t.1.1.1.1.1.1.0.now)
narrow κs a x y s t p q = (p.0 ∙ sym q.0, p.1 ∙ sym q.1)

pub list : (κs : Lfts 2) (a : Dens κs listK.ps) (x y : (res_t listK.r κs).Denot) (s t : AtExit (ended_of 2 listK.ps listK.r) κs)
    → listR.Post κs a x s → listR.Post κs a y t → (x ≡ y) × (s.1.1.0.now ≡ t.1.1.0.now)
list κs a x y s t p q =
    let e = lists_by _ _ _ _ _ p.0 q.0 (fields_at _) p.1.1 q.1.1 in
    (p.1.0 ∙ ap packed_of e.0 ∙ sym q.1.0, e.1)

pub list_file : (κs : Lfts 2) (a : Dens κs fileK.ps) (x y : (res_t fileK.r κs).Denot) (s t : AtExit (ended_of 2 fileK.ps fileK.r) κs)
    → fileR.Post κs a x s → fileR.Post κs a y t → (x ≡ y) × (s.1.1.0.now ≡ t.1.1.0.now)
list_file κs a x y s t p q =
    let e = file_lists_by _ _ _ _ _ p.0 q.0 (file_at _) p.1.1 q.1.1 in
    (p.1.0 ∙ ap packed_of e.0 ∙ sym q.1.0, e.1)

pub chunk_header : (κs : Lfts 2) (a : Dens κs chunkHeaderK.ps) (x y : (res_t chunkHeaderK.r κs).Denot) (s t : AtExit (ended_of 2 chunkHeaderK.ps chunkHeaderK.r) κs)
    → chunkHeaderR.Post κs a x s → chunkHeaderR.Post κs a y t → (x ≡ y) × (s.1.0.now ≡ t.1.0.now)
chunk_header κs a x y s t p q = (p.0 ∙ sym q.0, p.1 ∙ sym q.1)

pub file_header : (κs : Lfts 2) (a : Dens κs fileHeaderK.ps) (x y : (res_t fileHeaderK.r κs).Denot) (s t : AtExit (ended_of 2 fileHeaderK.ps fileHeaderK.r) κs)
    → fileHeaderR.Post κs a x s → fileHeaderR.Post κs a y t → (x ≡ y) × (s.1.0.now ≡ t.1.0.now)
file_header κs a x y s t p q = (p.0 ∙ sym q.0, p.1 ∙ sym q.1)

pub checksum : Single 1 checksumK.ps checksumK.r checksumR.Post
checksum κs a x y s t p q = p ∙ sym q

pub bench_sheet : (κs : Lfts 2) (a : Dens κs sheetK.ps) (x y : (res_t sheetK.r κs).Denot) (s t : AtExit (ended_of 2 sheetK.ps sheetK.r) κs)
    → sheetR.Post κs a x s → sheetR.Post κs a y t → (x ≡ y) × (s.1.1.1.1.1.0.now ≡ t.1.1.1.1.1.0.now)
bench_sheet κs a x y s t p q = (p.0 ∙ sym q.0, p.1 ∙ sym q.1)
