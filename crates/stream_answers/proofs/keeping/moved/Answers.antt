-- `moved` meets its contract, whichever way. Assumes nothing.
use mathlib.Core.Path.{sym, ap, ◌∙◌}
use mathlib.Core.Bool.{Bool}
use borrow.Author.Rules.{rules}
use Rattle.tokens.specs.Walk.{Walked, walk_of}
use Rattle.tokens.specs.declared.Flags.{Flags}
use Rattle.sheet.specs.Sheet.{words_of}
use Rattle.sheet.specs.Kept.{old_words_of, kept_answer, kept_words}
use Rattle.doortumble.specs.Calls.{packed_of}
use Rattle.stream_answers.specs.Kept.{move_answer, move_words}
use Rattle.stream_answers.proofs.Lending.{flags_back}
use Rattle.stream_answers.proofs.keeping.moved.Goals as goal

pub returns-then-narrow : goal.returns-then-narrow
returns-then-narrow c =
    let a = c.args in
    let g = a.given.now in
    let l = a.words.now in
    let d = c.doortumble_narrow in
    let w : Flags → Walked = λ f. walk_of a.s.now a.asked.start a.asked.length f in
    let e = flags_back a.asked.flags in
    let v = w a.asked.flags in record { value = d.ensures.value ∙ ap (λ (f : Flags). packed_of (kept_answer words_of old_words_of (w f) g l)) e ∙ ap (λ (b : Bool). packed_of (move_answer b v g l)) (sym c.if-narrow.true); words_after = d.ensures.after ∙ ap (λ (f : Flags). kept_words words_of old_words_of (w f) g l) e ∙ ap (λ (b : Bool). move_words b v g l) (sym c.if-narrow.true) }

pub returns : goal.returns
returns c =
    let a = c.args in
    let g = a.given.now in
    let l = a.words.now in
    let d = c.doortumble_widen in
    let w : Flags → Walked = λ f. walk_of a.s.now a.asked.start a.asked.length f in
    let e = flags_back a.asked.flags in
    let v = w a.asked.flags in record { value = d.ensures.value ∙ ap (λ (f : Flags). packed_of (kept_answer old_words_of words_of (w f) g l)) e ∙ ap (λ (b : Bool). packed_of (move_answer b v g l)) (sym c.if-narrow.false); words_after = d.ensures.sheet_after ∙ ap (λ (f : Flags). kept_words old_words_of words_of (w f) g l) e ∙ ap (λ (b : Bool). move_words b v g l) (sym c.if-narrow.false) }
