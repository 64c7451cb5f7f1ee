-- `chunk_answers`, `stream_answers`, `listing_text` and `file_text`: each call allows one answer and one content of the lent buffer. Assumes nothing.
use mathlib.Core.Path.{◌≡◌, refl, sym, ap, ◌∙◌}
use mathlib.Core.List.{List, ◌++◌}
use Prim.Native.Nat.{ℕ}
use contract.Lifetimes.{Lfts}
use borrow.Fn.Kinds.{Dens, res_t, ended_of}
use denote.Triple.Clauses.{AtExit}
use Rattle.cursor.specs.Answer.{Result}
use Rattle.tokens.specs.Walk.{Walked}
use Rattle.body.specs.Verdict.{Both}
use Rattle.body.proofs.One.{one_answer}
use Rattle.doortumble.specs.Calls.{packed_of}
use Rattle.print.proofs.One.{puts_one, some_one}
use Rattle.chunk_answers.proofs.One.{record_one, walk_one, step_text_one}
use Rattle.stream_answers.specs.Modes.{OwnersSaid, owners_text, answer_text}
use Rattle.stream_answers.specs.Body.{body_stream, lent_both, BodyCalled, BodiesCalled, both_text}
use Rattle.stream_answers.specs.declared.Asked.{Asked}
use Rattle.listing_text.proofs.One.{listed_one}
use Rattle.file_text.proofs.One.{file_listing_one, file_answers_one}
use Rattle.chunk_answers.proofs.header.Kinds as headerK
use Rattle.chunk_answers.proofs.header.Reads as headerR
use Rattle.chunk_answers.proofs.events.Kinds as eventsK
use Rattle.chunk_answers.proofs.events.Reads as eventsR
use Rattle.chunk_answers.proofs.judged.Kinds as judgedK
use Rattle.chunk_answers.proofs.judged.Reads as judgedR
use Rattle.chunk_answers.proofs.record.Kinds as record_atK
use Rattle.chunk_answers.proofs.record.Reads as record_atR
use Rattle.chunk_answers.proofs.walk.Kinds as whole_walkK
use Rattle.chunk_answers.proofs.walk.Reads as whole_walkR
use Rattle.chunk_answers.proofs.step.Kinds as one_stepK
use Rattle.chunk_answers.proofs.step.Reads as one_stepR
use Rattle.stream_answers.proofs.walk.Kinds as tokensK
use Rattle.stream_answers.proofs.walk.Reads as tokensR
use Rattle.stream_answers.proofs.single.Kinds as singleK
use Rattle.stream_answers.proofs.single.Reads as singleR
use Rattle.stream_answers.proofs.owners.Kinds as ownersK
use Rattle.stream_answers.proofs.owners.Reads as ownersR
use Rattle.stream_answers.proofs.sheet_alone.Kinds as sheet_aloneK
use Rattle.stream_answers.proofs.sheet_alone.Reads as sheet_aloneR
use Rattle.stream_answers.proofs.kept_call.Kinds as kept_callK
use Rattle.stream_answers.proofs.kept_call.Reads as kept_callR
use Rattle.stream_answers.proofs.kept_front.Kinds as kept_frontK
use Rattle.stream_answers.proofs.kept_front.Reads as kept_frontR
use Rattle.stream_answers.proofs.body_call.Kinds as body_callK
use Rattle.stream_answers.proofs.body_call.Reads as body_callR
use Rattle.stream_answers.proofs.bodies_call.Kinds as bodies_callK
use Rattle.stream_answers.proofs.bodies_call.Reads as bodies_callR
use Rattle.listing_text.proofs.put.Kinds as listingK
use Rattle.listing_text.proofs.put.Reads as listingR
use Rattle.listing_text.proofs.refused.Kinds as refused_listingK
use Rattle.listing_text.proofs.refused.Reads as refused_listingR
use Rattle.file_text.proofs.listing.Kinds as file_listingK
use Rattle.file_text.proofs.listing.Reads as file_listingR
use Rattle.file_text.proofs.answers.Kinds as file_answersK
use Rattle.file_text.proofs.answers.Reads as file_answersR
use Rattle.promises.proofs.NestOne.{one_nested}
use Rattle.promises.proofs.One.{Single}

-- the owner table's text, and the text of the call for sheet and owner table: the tokens have one answer and leave one sheet and one table
said_one : (w : Walked) (t u : List ℕ) → OwnersSaid w t → OwnersSaid w u → t ≡ u
said_one w t u p q =
    let e = one_answer _ _ _ p.answered q.answered in
    p.is ∙ ap (λ (c : Result ℕ). owners_text c p.left.table) e.0 ∙ ap (λ (b : Both). owners_text q.answer b.table) e.1 ∙ sym q.is

called_one : (w : Walked) (lent : Both) (t u : List ℕ) → BodyCalled w lent t → BodyCalled w lent u → t ≡ u
called_one w lent t u p q =
    let e = one_answer _ _ _ p.packed.1.1 q.packed.1.1 in
    let word : p.word ≡ q.word = p.packed.1.0 ∙ ap packed_of e.0 ∙ sym q.packed.1.0 in
    p.is ∙ ap (λ (n : ℕ). answer_text n ++ both_text p.left) word ∙ ap (λ (b : Both). answer_text q.word ++ both_text b) e.1 ∙ sym q.is

bodies_called_one : (s : List ℕ) (asked : Asked) (lent : Both) (t u : List ℕ) → BodiesCalled s asked lent t → BodiesCalled s asked lent u → t ≡ u
bodies_called_one s asked lent t u p q =
    let f = asked.flags in
    let e = one_nested s asked.start asked.length f lent p.left q.left p.packed.0 q.packed.0 p.packed.1.1 q.packed.1.1 in
    let word : p.word ≡ q.word = p.packed.1.0 ∙ ap packed_of e.0 ∙ sym q.packed.1.0 in
    p.is ∙ ap (λ (n : ℕ). answer_text n ++ both_text p.left) word ∙ ap (λ (b : Both). answer_text q.word ++ both_text b) e.1 ∙ sym q.is

pub header : (κs : Lfts 2) (a : Dens κs headerK.ps) (x y : (res_t headerK.r κs).Denot) (s t : AtExit (ended_of 2 headerK.ps headerK.r) κs)
    → headerR.Post κs a x s → headerR.Post κs a y t → (s.0.now ≡ t.0.now) × (x ≡ y)
header κs a x y s t p q = puts_one _ _ _ _ _ _ _ _ refl p q

pub events : (κs : Lfts 2) (a : Dens κs eventsK.ps) (x y : (res_t eventsK.r κs).Denot) (s t : AtExit (ended_of 2 eventsK.ps eventsK.r) κs)
    → eventsR.Post κs a x s → eventsR.Post κs a y t → (s.0.now ≡ t.0.now) × (x ≡ y)
events κs a x y s t p q = puts_one _ _ _ _ _ _ _ _ refl p q

pub judged : (κs : Lfts 2) (a : Dens κs judgedK.ps) (x y : (res_t judgedK.r κs).Denot) (s t : AtExit (ended_of 2 judgedK.ps judgedK.r) κs)
    → judgedR.Post κs a x s → judgedR.Post κs a y t → (s.0.now ≡ t.0.now) × (x ≡ y)
judged κs a x y s t p q = puts_one _ _ _ _ _ _ _ _ refl p q

pub record_at : (κs : Lfts 2) (a : Dens κs record_atK.ps) (x y : (res_t record_atK.r κs).Denot) (s t : AtExit (ended_of 2 record_atK.ps record_atK.r) κs)
    → record_atR.Post κs a x s → record_atR.Post κs a y t → (s.0.now ≡ t.0.now) × (x ≡ y)
record_at κs a x y s t p q = some_one _ _ _ _ _ _ _ (λ t u. record_one _ _ _ t u) p q

pub whole_walk : (κs : Lfts 2) (a : Dens κs whole_walkK.ps) (x y : (res_t whole_walkK.r κs).Denot) (s t : AtExit (ended_of 2 whole_walkK.ps whole_walkK.r) κs)
    → whole_walkR.Post κs a x s → whole_walkR.Post κs a y t → (s.0.now ≡ t.0.now) × (x ≡ y)
whole_walk κs a x y s t p q = some_one _ _ _ _ _ _ _ (λ t u. walk_one _ _ t u) p q

pub one_step : (κs : Lfts 2) (a : Dens κs one_stepK.ps) (x y : (res_t one_stepK.r κs).Denot) (s t : AtExit (ended_of 2 one_stepK.ps one_stepK.r) κs)
    → one_stepR.Post κs a x s → one_stepR.Post κs a y t → (s.0.now ≡ t.0.now) × (x ≡ y)
one_step κs a x y s t p q = some_one _ _ _ _ _ _ _ (λ u v. step_text_one a.1.1.0.now u v) p q

pub tokens : (κs : Lfts 2) (a : Dens κs tokensK.ps) (x y : (res_t tokensK.r κs).Denot) (s t : AtExit (ended_of 2 tokensK.ps tokensK.r) κs)
    → tokensR.Post κs a x s → tokensR.Post κs a y t → (s.0.now ≡ t.0.now) × (x ≡ y)
tokens κs a x y s t p q = puts_one _ _ _ _ _ _ _ _ refl p q

pub single : (κs : Lfts 2) (a : Dens κs singleK.ps) (x y : (res_t singleK.r κs).Denot) (s t : AtExit (ended_of 2 singleK.ps singleK.r) κs)
    → singleR.Post κs a x s → singleR.Post κs a y t → (s.0.now ≡ t.0.now) × (x ≡ y)
single κs a x y s t p q = puts_one _ _ _ _ _ _ _ _ refl p q

pub owners : (κs : Lfts 2) (a : Dens κs ownersK.ps) (x y : (res_t ownersK.r κs).Denot) (s t : AtExit (ended_of 2 ownersK.ps ownersK.r) κs)
    → ownersR.Post κs a x s → ownersR.Post κs a y t → (s.0.now ≡ t.0.now) × (x ≡ y)
owners κs a x y s t p q = some_one _ _ _ _ _ _ _ (λ t u. said_one _ t u) p q

pub sheet_alone : (κs : Lfts 2) (a : Dens κs sheet_aloneK.ps) (x y : (res_t sheet_aloneK.r κs).Denot) (s t : AtExit (ended_of 2 sheet_aloneK.ps sheet_aloneK.r) κs)
    → sheet_aloneR.Post κs a x s → sheet_aloneR.Post κs a y t → (s.0.now ≡ t.0.now) × (x ≡ y)
sheet_alone κs a x y s t p q = puts_one _ _ _ _ _ _ _ _ refl p q

pub kept_call : (κs : Lfts 2) (a : Dens κs kept_callK.ps) (x y : (res_t kept_callK.r κs).Denot) (s t : AtExit (ended_of 2 kept_callK.ps kept_callK.r) κs)
    → kept_callR.Post κs a x s → kept_callR.Post κs a y t → (s.0.now ≡ t.0.now) × (x ≡ y)
kept_call κs a x y s t p q = puts_one _ _ _ _ _ _ _ _ refl p q

pub kept_front : Single 1 kept_frontK.ps kept_frontK.r kept_frontR.Post
kept_front κs a x y s t p q = p ∙ sym q

pub body_call : (κs : Lfts 2) (a : Dens κs body_callK.ps) (x y : (res_t body_callK.r κs).Denot) (s t : AtExit (ended_of 2 body_callK.ps body_callK.r) κs)
    → body_callR.Post κs a x s → body_callR.Post κs a y t → (s.0.now ≡ t.0.now) × (x ≡ y)
body_call κs a x y s t p q = some_one _ _ _ _ _ _ _ (λ t u. called_one _ _ t u) p q

pub bodies_call : (κs : Lfts 2) (a : Dens κs bodies_callK.ps) (x y : (res_t bodies_callK.r κs).Denot) (s t : AtExit (ended_of 2 bodies_callK.ps bodies_callK.r) κs)
    → bodies_callR.Post κs a x s → bodies_callR.Post κs a y t → (s.0.now ≡ t.0.now) × (x ≡ y)
bodies_call κs a x y s t p q = some_one _ _ _ _ _ _ _ (λ t u. bodies_called_one (body_stream a.1.1.0.now) a.1.1.1.0 (lent_both a.1.1.0.now) t u) p q

pub listing : (κs : Lfts 2) (a : Dens κs listingK.ps) (x y : (res_t listingK.r κs).Denot) (s t : AtExit (ended_of 2 listingK.ps listingK.r) κs)
    → listingR.Post κs a x s → listingR.Post κs a y t → (s.0.now ≡ t.0.now) × (x ≡ y)
listing κs a x y s t p q = some_one _ _ _ _ _ _ _ (λ t u. listed_one _ t u) p q

pub refused_listing : (κs : Lfts 1) (a : Dens κs refused_listingK.ps) (x y : (res_t refused_listingK.r κs).Denot) (s t : AtExit (ended_of 1 refused_listingK.ps refused_listingK.r) κs)
    → refused_listingR.Post κs a x s → refused_listingR.Post κs a y t → (s.0.now ≡ t.0.now) × (x ≡ y)
refused_listing κs a x y s t p q = puts_one _ _ _ _ _ _ _ _ refl p q

pub file_listing : (κs : Lfts 2) (a : Dens κs file_listingK.ps) (x y : (res_t file_listingK.r κs).Denot) (s t : AtExit (ended_of 2 file_listingK.ps file_listingK.r) κs)
    → file_listingR.Post κs a x s → file_listingR.Post κs a y t → (s.0.now ≡ t.0.now) × (x ≡ y)
file_listing κs a x y s t p q = some_one _ _ _ _ _ _ _ (λ t u. file_listing_one _ t u) p q

pub file_answers : (κs : Lfts 2) (a : Dens κs file_answersK.ps) (x y : (res_t file_answersK.r κs).Denot) (s t : AtExit (ended_of 2 file_answersK.ps file_answersK.r) κs)
    → file_answersR.Post κs a x s → file_answersR.Post κs a y t → (s.0.now ≡ t.0.now) × (x ≡ y)
file_answers κs a x y s t p q = some_one _ _ _ _ _ _ _ (λ t u. file_answers_one _ _ t u) p q
