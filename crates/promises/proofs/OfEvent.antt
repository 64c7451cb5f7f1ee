-- `event`, `event_call` and `event_answers`: each call allows one answer, and one content of the lent words. Assumes nothing.
use mathlib.Core.Path.{◌≡◌, refl, sym, ap, ◌∙◌}
use mathlib.Core.Bool.{Bool}
use mathlib.Core.List.{List, ◌++◌}
use Prim.Native.Nat.{ℕ}
use contract.Lifetimes.{Lfts}
use borrow.Fn.Kinds.{Dens, res_t, ended_of}
use denote.Triple.Clauses.{AtExit}
use Rattle.cursor.specs.Answers.{count_answer}
use Rattle.doortumble.specs.Calls.{flag_of, packed_of}
use Rattle.event.proofs.fill.Kinds as fillK
use Rattle.event.proofs.fill.Reads as fillR
use Rattle.event.proofs.definition_at.Kinds as atK
use Rattle.event.proofs.definition_at.Reads as atR
use Rattle.event_call.specs.Calls.{EventPacked}
use Rattle.event_call.proofs.doortumble_event.Kinds as eventK
use Rattle.event_call.proofs.doortumble_event.Reads as eventR
use Rattle.event_call.proofs.doortumble_name.Kinds as nameK
use Rattle.event_call.proofs.doortumble_name.Reads as name_r
use Rattle.event_call.proofs.doortumble_definition.Kinds as definitionK
use Rattle.event_call.proofs.doortumble_definition.Reads as definitionR
use Rattle.print.proofs.One.{puts_one, some_one}
use Rattle.stream_answers.specs.Modes.{answer_text, words_text}
use Rattle.event_answers.specs.Called.{EventCalled}
use Rattle.event_answers.proofs.event_rows.Kinds as rowsK
use Rattle.event_answers.proofs.event_rows.Reads as rowsR
use Rattle.event_answers.proofs.looked_up.Kinds as lookedK
use Rattle.event_answers.proofs.looked_up.Reads as lookedR
use Rattle.promises.proofs.EventOne.{one_event}
use Rattle.promises.proofs.One.{counted_one}

pub fill : (κs : Lfts 2) (a : Dens κs fillK.ps) (x y : (res_t fillK.r κs).Denot) (s t : AtExit (ended_of 2 fillK.ps fillK.r) κs)
    → fillR.Post κs a x s → fillR.Post κs a y t → (x ≡ y) × (s.1.1.1.1.0.now ≡ t.1.1.1.1.0.now)
fill κs a x y s t p q =
    let e = one_event a.0.now a.1.0 a.1.1.0 a.1.1.1.0 a.1.1.1.1.0.now s.1.1.1.1.0.now t.1.1.1.1.0.now (count_answer x) (count_answer y) p q in
    (counted_one x y _ e.0 refl, e.1)

pub definition_at : (κs : Lfts 2) (a : Dens κs atK.ps) (x y : (res_t atK.r κs).Denot) (s t : AtExit (ended_of 2 atK.ps atK.r) κs)
    → atR.Post κs a x s → atR.Post κs a y t → (x ≡ y) × (s.1.1.0.now ≡ t.1.1.0.now)
definition_at κs a x y s t p q = (counted_one x y _ p.0 q.0, p.1 ∙ sym q.1)

-- the C calls: answer word and lent words
packed_one : (s : List ℕ) (start len : ℕ) (inline : Bool) (lent left left' : List ℕ) (x y : ℕ) → EventPacked s start len inline lent left x
    → EventPacked s start len inline lent left' y → (x ≡ y) × (left ≡ left')
packed_one s start len inline lent left left' x y p q =
    let e = one_event s start len inline lent left left' p.0 q.0 p.1.1 q.1.1 in
    (p.1.0 ∙ ap packed_of e.0 ∙ sym q.1.0, e.1)

pub event : (κs : Lfts 2) (a : Dens κs eventK.ps) (x y : (res_t eventK.r κs).Denot) (s t : AtExit (ended_of 2 eventK.ps eventK.r) κs)
    → eventR.Post κs a x s → eventR.Post κs a y t → (x ≡ y) × (s.1.1.1.1.0.now ≡ t.1.1.1.1.0.now)
event κs a x y s t p q =
    packed_one a.0.now a.1.0 a.1.1.0 (flag_of a.1.1.1.0) a.1.1.1.1.0.now s.1.1.1.1.0.now t.1.1.1.1.0.now x y p q

pub name : (κs : Lfts 2) (a : Dens κs nameK.ps) (x y : (res_t nameK.r κs).Denot) (s t : AtExit (ended_of 2 nameK.ps nameK.r) κs)
    → name_r.Post κs a x s → name_r.Post κs a y t → (x ≡ y) × (s.1.1.1.0.now ≡ t.1.1.1.0.now)
name κs a x y s t p q = (p.0 ∙ sym q.0, p.1 ∙ sym q.1)

pub definition : (κs : Lfts 2) (a : Dens κs definitionK.ps) (x y : (res_t definitionK.r κs).Denot) (s t : AtExit (ended_of 2 definitionK.ps definitionK.r) κs)
    → definitionR.Post κs a x s → definitionR.Post κs a y t → (x ≡ y) × (s.1.1.0.now ≡ t.1.1.0.now)
definition κs a x y s t p q = (p.0 ∙ sym q.0, p.1 ∙ sym q.1)

-- the text of the batch's mode E: one word and one content of the lent words, so one text
text_one : (s : List ℕ) (start len : ℕ) (inline : Bool) (lent t u : List ℕ) → EventCalled s start len inline lent t → EventCalled s start len inline lent u → t ≡ u
text_one s start len inline lent t u p q =
    let e = packed_one s start len inline lent p.left q.left p.word q.word p.packed q.packed in
    p.is ∙ ap (λ (n : ℕ). answer_text n ++ words_text p.left) e.0 ∙ ap (λ (l : List ℕ). answer_text q.word ++ words_text l) e.1 ∙ sym q.is

pub event_rows : (κs : Lfts 2) (a : Dens κs rowsK.ps) (x y : (res_t rowsK.r κs).Denot) (s t : AtExit (ended_of 2 rowsK.ps rowsK.r) κs)
    → rowsR.Post κs a x s → rowsR.Post κs a y t → (s.0.now ≡ t.0.now) × (x ≡ y)
event_rows κs a x y s t p q = some_one _ _ _ _ _ _ _ (λ t u. text_one _ _ _ _ _ t u) p q

-- and of mode J
pub looked_up : (κs : Lfts 2) (a : Dens κs lookedK.ps) (x y : (res_t lookedK.r κs).Denot) (s t : AtExit (ended_of 2 lookedK.ps lookedK.r) κs)
    → lookedR.Post κs a x s → lookedR.Post κs a y t → (s.0.now ≡ t.0.now) × (x ≡ y)
looked_up κs a x y s t p q = puts_one _ _ _ _ _ _ _ _ refl p q
