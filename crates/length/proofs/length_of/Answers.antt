use Rattle.std.proofs.Common.{refl, sym, ap, ◌∙◌, ◌^◌, arith, eq-eqb}
use borrow.Author.Tests.{ne_eqb}
use lib.Dec.{eqb}
use Rattle.length.specs.Root.{is_square}
use Rattle.length.specs.declared.Root.{Root}
use Rattle.length.proofs.Roots.{rooted, root-pos}
use Rattle.length.proofs.Squares.{le-square, root-lt}
use Rattle.length.proofs.Loop.{small-casts, start, turn, grows, lengthen, root-casts, power-casts, finish}
use Rattle.length.proofs.Lengths.{zero-nearest, root-halved, is-length}
use Rattle.length.proofs.length_of.Goals as goal

pub returns-then-d-eq0 : goal.returns-then-d-eq0
unfolding is_square
returns-then-d-eq0 c = rw c.if-d-eq0.true (is-length 0 _ (omega arith) zero-nearest refl)

pub int_to_float-result : goal.int_to_float-result
int_to_float-result c =
    let r = c.root_of-r.result in
    small-casts r.root (omega (arith, le-square r.root, (rooted c.args.d r c.root_of-r.ensures).sum))

pub returns-then-r-eq0 : goal.returns-then-r-eq0
unfolding is_square
returns-then-r-eq0 c =
    let d = c.args.d in
    let found = c.root_of-r in
    let r = found.result in
    let w = rooted d r found.ensures in
    is-length d _ c.requires
    (root-halved d r.root (root-pos d r.root r.rem w (omega (arith, c.if-d-eq0.false))) c.requires (omega (arith, w.sum)))
    (sym (eq-eqb r.rem 0 (omega (arith, c.if-r-eq0.true))) ∙ ap (λ (x : Root). eqb x.rem 0) found.ensures)

pub loop-r-init : goal.loop-r-init
loop-r-init c =
    let r = c.root_of-r.result in
    let w = rooted c.args.d r c.root_of-r.ensures in
    (start c.args.d r.root r.rem (omega (arith, c.if-d-eq0.false)) c.requires w, root-lt {a = r.root} {b = 2 ^ 27} (omega (arith, w.sum)))

pub loop-r-smaller : goal.loop-r-smaller
loop-r-smaller c =
    let l = c.loop-r in
    omega (arith, grows _ _ _ _ _ _ l.invariant.0 c.digit-r.ensures)

pub loop-r-preserved : goal.loop-r-preserved
loop-r-preserved c =
    let l = c.loop-r in (
      turn _ _ _ _ _ _ l.invariant.0 (omega arith) c.digit-r.ensures,
      omega (arith, c.digit-r.ensures.most),
    )

pub int_to_float-value : goal.int_to_float-value
int_to_float-value c =
    let l = c.loop-r in
    let f = c.doubled-r in
    let g = lengthen _ _ _ _ _ _ l.invariant.0 l.invariant.1 f.ensures in
    root-casts _ _ _ _ _ g (omega (arith, f.ensures.least)) (omega arith) (omega arith)

pub int_to_float-value-2 : goal.int_to_float-value-2
int_to_float-value-2 c =
    let l = c.loop-r in
    let f = c.doubled-r in
    let g = lengthen _ _ _ _ _ _ l.invariant.0 l.invariant.1 f.ensures in
    power-casts _ _ _ _ g

pub returns : goal.returns
unfolding is_square
returns c =
    let l = c.loop-r in
    let f = c.doubled-r in
    let g = lengthen _ _ _ _ _ _ l.invariant.0 l.invariant.1 f.ensures in
    let found = c.root_of-r in
    is-length c.args.d _ c.requires
    (finish _ _ _ _ _ g (omega (arith, f.ensures.least)) (omega arith) (omega arith)
    c.requires)
    (sym (ne_eqb found.result.rem 0 (λ z. omega (arith, z, c.if-r-eq0.false))) ∙ ap (λ (x : Root). eqb x.rem 0) found.ensures)
