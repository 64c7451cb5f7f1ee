-- `put_words` meets its contract: two stores, or one where there is room for one. Assumes nothing.
use mathlib.Core.Path.{refl}
use native.Mathlib.Omega.{arith}
use lib.ListN.{length-set}
use Rattle.sheet.proofs.Noting.{put_two, put_first}
use Rattle.sheet.proofs.put_words.Goals as goal

pub bounds-words-at-then-n-words : goal.bounds-words-at-then-n-words
bounds-words-at-then-n-words c = simp length-set (omega (arith, c.if-n-words.true))

pub returns-then-n-words : goal.returns-then-n-words
returns-then-n-words c =
    let a = c.args in
    put_two a.words.now _ _ _ _ _ _ refl refl refl

pub returns : goal.returns
returns c =
    let a = c.args in
    put_first a.words.now _ _ _ _ _ (omega (arith, c.if-n-words.false)) c.put.ensures refl
