-- What a C caller takes from the word of a call is the answer itself, by the call's contract. `GoodsP` is what the checker
-- knows of a call's arguments: here, that the start has 32 bits. Assumes nothing.
use mathlib.Core.Path.{◌≡◌, ap, ◌∙◌}
use Prim.Native.Nat.{◌^◌, ◌<◌}
use contract.Lifetimes.{Lfts}
use borrow.Fn.Kinds.{Dens, GoodsP, res_t, ended_of}
use denote.Triple.Clauses.{AtExit}
use lib.ListN.{length}
use Rattle.cursor.specs.Lent.{lent_answer}
use Rattle.record.specs.Chunk.{header_words}
use Rattle.tokens.specs.Walk.{walk_of}
use Rattle.sheet.specs.Sheet.{words_of}
use Rattle.sheet.specs.Kept.{old_words_of, kept_answer}
use Rattle.body.specs.Verdict.{both, Answered}
use Rattle.chunk.specs.Walk.{start_of}
use Rattle.chunk.specs.Listing.{Lists}
use Rattle.log_file.specs.Header.{file_words}
use Rattle.log_file.specs.Listing.{FileLists}
use Rattle.nest.specs.Nested.{Nested}
use Rattle.event.specs.Event.{Events, definition_at_place, definition_words}
use Rattle.doortumble.specs.Calls.{flag_of, flags_of}
use Rattle.doortumble.proofs.doortumble_body.Kinds as bodyK
use Rattle.doortumble.proofs.doortumble_body.Reads as bodyR
use Rattle.doortumble.proofs.doortumble_widen.Kinds as widenK
use Rattle.doortumble.proofs.doortumble_widen.Reads as widenR
use Rattle.doortumble.proofs.doortumble_narrow.Kinds as narrowK
use Rattle.doortumble.proofs.doortumble_narrow.Reads as narrowR
use Rattle.doortumble.proofs.doortumble_list.Kinds as listK
use Rattle.doortumble.proofs.doortumble_list.Reads as listR
use Rattle.doortumble.proofs.doortumble_list_file.Kinds as fileK
use Rattle.doortumble.proofs.doortumble_list_file.Reads as fileR
use Rattle.doortumble.proofs.doortumble_chunk_header.Kinds as chunkHeaderK
use Rattle.doortumble.proofs.doortumble_chunk_header.Reads as chunkHeaderR
use Rattle.doortumble.proofs.doortumble_file_header.Kinds as fileHeaderK
use Rattle.doortumble.proofs.doortumble_file_header.Reads as fileHeaderR
use Rattle.nest_call.proofs.doortumble_bodies.Kinds as bodiesK
use Rattle.nest_call.proofs.doortumble_bodies.Reads as bodiesR
use Rattle.event_call.proofs.doortumble_event.Kinds as eventK
use Rattle.event_call.proofs.doortumble_event.Reads as eventR
use Rattle.event_call.proofs.doortumble_definition.Kinds as definitionK
use Rattle.event_call.proofs.doortumble_definition.Reads as definitionR
use Rattle.promises.specs.Packed.{unpacked_of, Bytes}
use Rattle.promises.proofs.Packed.{body_told, list_told}
use Rattle.promises.proofs.PackedEvent.{event_told, definition_told}
use Rattle.promises.proofs.PackedFile.{list_file_told}
use Rattle.promises.proofs.PackedHeader.{chunk_header_kept, file_header_kept}
use Rattle.promises.proofs.PackedKept.{widen_kept, narrow_kept}
use Rattle.promises.proofs.PackedNest.{bodies_told}

pub body : (κs : Lfts 3) (a : Dens κs bodyK.ps) (x : (res_t bodyK.r κs).Denot) (s : AtExit (ended_of 3 bodyK.ps bodyK.r) κs)
    → GoodsP κs bodyK.ps a → Bytes a.0.now → bodyR.Post κs a x s
    → Answered (both a.1.1.1.1.1.0.now a.1.1.1.1.1.1.0.now) (both s.1.1.1.1.1.0.now s.1.1.1.1.1.1.0.now)
    (walk_of a.0.now a.1.0 a.1.1.0 (flags_of a.1.1.1.0 a.1.1.1.1.0)) (unpacked_of x)
body κs a x s g b p = body_told a.0.now b a.1.0 _ g.1.0.1 _ _ _ x p

-- and with the bodies in values
pub bodies : (κs : Lfts 3) (a : Dens κs bodiesK.ps) (x : (res_t bodiesK.r κs).Denot) (s : AtExit (ended_of 3 bodiesK.ps bodiesK.r) κs)
    → GoodsP κs bodiesK.ps a → Bytes a.0.now → bodiesR.Post κs a x s
    → Nested a.0.now a.1.0 a.1.1.0 (flags_of a.1.1.1.0 a.1.1.1.1.0) (both a.1.1.1.1.1.0.now a.1.1.1.1.1.1.0.now)
    (both s.1.1.1.1.1.0.now s.1.1.1.1.1.1.0.now) (unpacked_of x)
bodies κs a x s g b p = bodies_told a.0.now b a.1.0 _ g.1.0.1 _ _ _ x p

pub widen : (κs : Lfts 3) (a : Dens κs widenK.ps) (x : (res_t widenK.r κs).Denot) (s : AtExit (ended_of 3 widenK.ps widenK.r) κs)
    → GoodsP κs widenK.ps a → Bytes a.0.now → widenR.Post κs a x s
    → unpacked_of x
    ≡ kept_answer old_words_of words_of (walk_of a.0.now a.1.0 a.1.1.0 (flags_of a.1.1.1.0 a.1.1.1.1.0)) a.1.1.1.1.1.0.now a.1.1.1.1.1.1.0.now
widen κs a x s g b p = ap unpacked_of p.0 ∙ widen_kept a.0.now b a.1.0 _ g.1.0.1 _ _ _

pub narrow : (κs : Lfts 3) (a : Dens κs narrowK.ps) (x : (res_t narrowK.r κs).Denot) (s : AtExit (ended_of 3 narrowK.ps narrowK.r) κs)
    → GoodsP κs narrowK.ps a → Bytes a.0.now → narrowR.Post κs a x s
    → unpacked_of x
    ≡ kept_answer words_of old_words_of (walk_of a.0.now a.1.0 a.1.1.0 (flags_of a.1.1.1.0 a.1.1.1.1.0)) a.1.1.1.1.1.0.now a.1.1.1.1.1.1.0.now
narrow κs a x s g b p = ap unpacked_of p.0 ∙ narrow_kept a.0.now b a.1.0 _ g.1.0.1 _ _ _

pub list : (κs : Lfts 2) (a : Dens κs listK.ps) (x : (res_t listK.r κs).Denot) (s : AtExit (ended_of 2 listK.ps listK.r) κs)
    → listR.Post κs a x s → Lists a.0.now (start_of (flag_of a.1.0)) a.1.1.0.now s.1.1.0.now (unpacked_of x)
list κs a x s p = list_told _ _ _ _ x p

-- a file of fewer than 2^40 bytes
pub list_file : (κs : Lfts 2) (a : Dens κs fileK.ps) (x : (res_t fileK.r κs).Denot) (s : AtExit (ended_of 2 fileK.ps fileK.r) κs)
    → length a.0.now < 2 ^ 40 → fileR.Post κs a x s
    → FileLists a.0.now (flag_of a.1.0) a.1.1.0.now s.1.1.0.now (unpacked_of x)
list_file κs a x s l p = list_file_told _ l _ _ _ x p

pub chunk_header : (κs : Lfts 2) (a : Dens κs chunkHeaderK.ps) (x : (res_t chunkHeaderK.r κs).Denot) (s : AtExit (ended_of 2 chunkHeaderK.ps chunkHeaderK.r) κs)
    → chunkHeaderR.Post κs a x s → unpacked_of x ≡ lent_answer (header_words a.0.now) a.1.0.now
chunk_header κs a x s p = ap unpacked_of p.0 ∙ chunk_header_kept a.0.now a.1.0.now

pub file_header : (κs : Lfts 2) (a : Dens κs fileHeaderK.ps) (x : (res_t fileHeaderK.r κs).Denot) (s : AtExit (ended_of 2 fileHeaderK.ps fileHeaderK.r) κs)
    → fileHeaderR.Post κs a x s → unpacked_of x ≡ lent_answer (file_words a.0.now) a.1.0.now
file_header κs a x s p = ap unpacked_of p.0 ∙ file_header_kept a.0.now a.1.0.now

pub event : (κs : Lfts 2) (a : Dens κs eventK.ps) (x : (res_t eventK.r κs).Denot) (s : AtExit (ended_of 2 eventK.ps eventK.r) κs)
    → GoodsP κs eventK.ps a → Bytes a.0.now → eventR.Post κs a x s
    → Events a.0.now a.1.0 a.1.1.0 (flag_of a.1.1.1.0) a.1.1.1.1.0.now s.1.1.1.1.0.now (unpacked_of x)
event κs a x s g b p = event_told a.0.now b a.1.0 _ g.1.0.1 _ _ _ x p

pub definition : (κs : Lfts 2) (a : Dens κs definitionK.ps) (x : (res_t definitionK.r κs).Denot) (s : AtExit (ended_of 2 definitionK.ps definitionK.r) κs)
    → GoodsP κs definitionK.ps a → Bytes a.0.now → definitionR.Post κs a x s
    → unpacked_of x ≡ lent_answer (definition_words (definition_at_place a.0.now a.1.0)) a.1.1.0.now
definition κs a x s g b p = definition_told a.0.now b a.1.0 g.1.0.1 a.1.1.0.now x p.0
