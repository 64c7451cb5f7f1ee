-- The cycle of `content` and `element` meets its contracts: each call is of fewer tokens, or of as many and of `element`. Assumes nothing.
use mathlib.Core.Path.{refl, sym, ap, ◌∙◌}
use mathlib.Core.List.{[], ◌∷◌}
use Prim.Native.Nat.{◌-◌}
use native.Mathlib.Omega.{arith}
use Rattle.std.specs.Prelude.{Ok}
use Rattle.std.proofs.lemmas.Result.{err_from_is_err_and}
use Rattle.body.proofs.Walking as walking
use Rattle.body.proofs.reader.+content_element.Goals as goal

pub content-loop-i-init : goal.content-loop-i-init
content-loop-i-init t c = (omega arith, omega (arith, c.requires), refl, λ z. (refl, refl), λ st e. refl)

pub content-element-requires : goal.content-element-requires
content-element-requires t c = (omega arith, omega arith)

pub content-returns-then-level-eq0 : goal.content-returns-then-level-eq0
content-returns-then-level-eq0 t c =
    let l = c.loop-i in
    let h = c.loop-i-test.true in
    let q = c.requires.2 in
    let k = sym c.is_open.ensures ∙ c.if-is_open.true in
    let got = c.element in
    let n = c.in_ok-i.was in
    let f = walking.further_is _ _ got.result _ got.ensures.further n in record {
      further = (omega (arith, f.0), f.1);
      content_read = (
        λ z. walking.root_child _ _ _ h _ _ got.result _ k (q z).2 (got.ensures.element_read [] (sym z)) n ∙ walking.from_first _ _ _ _ _ (l.invariant.3 z).0 (l.invariant.3 z).1,
        λ st e. absurd (omega (arith, e, c.if-level-eq0.true)),
      );
    }

pub content-loop-i-preserved-else-level-eq0 : goal.content-loop-i-preserved-else-level-eq0
content-loop-i-preserved-else-level-eq0 t c =
    let l = c.loop-i in
    let h = c.loop-i-test.true in
    let k = sym c.is_open.ensures ∙ c.if-is_open.true in
    let got = c.element in
    let n = c.in_ok-i.was in
    let f = walking.further_is _ _ got.result _ got.ensures.further n in (
      omega (arith, f.0),
      f.1,
      omega arith,
      λ z. absurd (c.if-level-eq0.false z),
      λ st e. walking.inside_child _ _ _ h _ st _ _ _ k (got.ensures.element_read (_ ∷ st) (omega (arith, e))) n ∙ l.invariant.4 st e,
    )

pub content-returns-in_err-i : goal.content-returns-in_err-i
content-returns-in_err-i t c =
    let l = c.loop-i in
    let h = c.loop-i-test.true in
    let q = c.requires.2 in
    let k = sym c.is_open.ensures ∙ c.if-is_open.true in
    let got = c.element in
    let n = c.in_err-i.was in
    let p = err_from_is_err_and c.from_residual.result c.from_residual.ensures.1 in
    rw (p.1, p.2)
    (record {
      further = tt {0};
      content_read = (
        λ z. walking.root_child _ _ _ h _ _ got.result _ k (q z).2 (got.ensures.element_read [] (sym z)) n ∙ walking.from_first _ _ _ _ _ (l.invariant.3 z).0 (l.invariant.3 z).1,
        λ st e. walking.inside_child _ _ _ h _ st _ _ _ k (got.ensures.element_read (_ ∷ st) (omega (arith, e))) n ∙ l.invariant.4 st e,
      );
    })

pub content-returns-then-marks-i-eq-CLOSE_ELEMENT : goal.content-returns-then-marks-i-eq-CLOSE_ELEMENT
content-returns-then-marks-i-eq-CLOSE_ELEMENT t c =
    let l = c.loop-i in
    let h = c.loop-i-test.true in
    let q = c.requires.2 in
    let k = sym c.is_open.ensures ∙ c.if-is_open.false in
    let p = c.put in record {
      further = omega arith;
      content_read = (
        λ z. walking.open_there c.args.marks.now _ _ (l.invariant.3 z).0 (q z).1 k,
        λ st e. walking.inside_close _ _ _ h _ st _ c.if-marks-i-eq-CLOSE_ELEMENT.true p.ensures ∙ l.invariant.4 st e,
      );
    }

pub content-leaf-requires : goal.content-leaf-requires
content-leaf-requires t c = (c.loop-i-test.true, c.if-marks-i-eq-CLOSE_ELEMENT.false, sym c.is_open.ensures ∙ c.if-is_open.false)

pub content-loop-i-smaller : goal.content-loop-i-smaller
content-loop-i-smaller t c =
    let got = c.leaf in
    let f = walking.further_is _ _ got.result _ got.ensures.further c.in_ok-i-2.was in
    omega (arith, f.0, f.1)

pub content-loop-i-preserved : goal.content-loop-i-preserved
content-loop-i-preserved t c =
    let l = c.loop-i in
    let q = c.requires.2 in
    let k = sym c.is_open.ensures ∙ c.if-is_open.false in
    let got = c.leaf in
    let n = c.in_ok-i-2.was in
    let f = walking.further_is _ _ got.result _ got.ensures.further n in (
      omega (arith, f.0),
      f.1,
      omega arith,
      λ z. walking.open_there c.args.marks.now _ _ (l.invariant.3 z).0 (q z).1 k,
      λ st e. walking.resumed _ _ _ _ _ _ (got.ensures.leaf_read st) n ∙ l.invariant.4 st e,
    )

pub content-returns-in_err-i-2 : goal.content-returns-in_err-i-2
content-returns-in_err-i-2 t c =
    let l = c.loop-i in
    let q = c.requires.2 in
    let k = sym c.is_open.ensures ∙ c.if-is_open.false in
    let got = c.leaf in
    let p = err_from_is_err_and c.from_residual-in_err-i-2.result c.from_residual-in_err-i-2.ensures.1 in
    rw (p.1, p.2)
    (record {
      further = tt {0};
      content_read = (
        λ z. walking.open_there c.args.marks.now _ _ (l.invariant.3 z).0 (q z).1 k,
        λ st e. walking.resumed _ _ _ _ _ _ (got.ensures.leaf_read st) c.in_err-i-2.was ∙ l.invariant.4 st e,
      );
    })

pub content-returns : goal.content-returns
content-returns t c =
    let l = c.loop-i in
    let q = c.requires.2 in
    rw c.refuse.ensures
    (record {
      further = tt {0};
      content_read = (
        λ z. absurd (omega (arith, (q z).0, (l.invariant.3 z).0, c.loop-i-test.false)),
        λ st e. walking.inside_ended _ _ _ _ st c.loop-i-test.false ∙ l.invariant.4 st e,
      );
    })

pub element-returns-then-above-ge64 : goal.element-returns-then-above-ge64
element-returns-then-above-ge64 t c =
    let a = c.args in
    rw c.refuse.ensures (record { further = tt {0}; element_read = λ st e. walking.opened_deep a.marks.now a.at _ _ st (omega (arith, e, c.if-above-ge64.true)) })

pub element-content-requires : goal.element-content-requires
element-content-requires t c =
    let p = c.requires in
    let got = c.front in
    let f = walking.tag_further_is _ _ got.result _ got.ensures.tag_further (c.in_ok-next.was ∙ ap Ok c.in-Full.is) in
    (omega (arith, p, f.0, f.1), (f.1, p.1, λ z. absurd (omega (arith, z))))

pub element-returns-in-Empty : goal.element-returns-in-Empty
element-returns-in-Empty t c =
    let h = c.if-above-ge64.false in
    let p = c.put in
    let got = c.front in
    let n = c.in_ok-next.was ∙ ap Ok c.in-Empty.is in
    let f = walking.tag_further_is _ _ got.result _ got.ensures.tag_further n in record { further = (omega (arith, f.0), f.1); element_read = λ st e. walking.opened_tag _ _ _ _ st _ _ _ _ (omega (arith, e, h)) p.ensures (got.ensures.open_read st) n }

pub element-returns-in-Full : goal.element-returns-in-Full
element-returns-in-Full t c =
    let h = c.if-above-ge64.false in
    let p = c.put in
    let got = c.front in
    let n = c.in_ok-next.was ∙ ap Ok c.in-Full.is in
    let f = walking.tag_further_is _ _ got.result _ got.ensures.tag_further n in
    let r = c.content in record { further = walking.later _ _ _ r.result (omega (arith, f.0)) r.ensures.further; element_read = λ st e. r.ensures.content_read.1 st (omega (arith, e)) ∙ walking.opened_tag _ _ _ _ st _ _ _ _ (omega (arith, e, h)) p.ensures (got.ensures.open_read st) n }

pub element-returns-in_err-next : goal.element-returns-in_err-next
element-returns-in_err-next t c =
    let h = c.if-above-ge64.false in
    let p = c.put in
    let got = c.front in
    let x = err_from_is_err_and c.from_residual.result c.from_residual.ensures.1 in
    rw (x.1, x.2) (record { further = tt {0}; element_read = λ st e. walking.opened_tag _ _ _ _ st _ _ _ _ (omega (arith, e, h)) p.ensures (got.ensures.open_read st) c.in_err-next.was })
