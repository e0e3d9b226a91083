use mathlib.Core.Path.{◌≡◌, refl}
use native.Mathlib.Omega.{arith}
use Rattle.serial_candidates.proofs.StepLaws.{joined, not-joined, own-bounded}
use Rattle.serial_candidates.proofs.gives.joins_two.Goals as goal

pub returns-then-count-ne2 : goal.returns-then-count-ne2
returns-then-count-ne2 c = not-joined _ _ _ _ _ _ _ {count = c.args.count} (λ e. omega (arith, e, c.if-count-ne2.true))

pub has_region-one-requires : goal.has_region-one-requires
has_region-one-requires c = let t = c.requires.2.both (omega (arith, c.if-count-ne2.false)) in omega (arith, t.0, c.requires.0)

pub has_region-other-requires : goal.has_region-other-requires
has_region-other-requires c = let t = c.requires.2.both (omega (arith, c.if-count-ne2.false)) in omega (arith, t.1, c.requires.0)

pub span_at-requires : goal.span_at-requires
span_at-requires c = let t = c.requires.2.both (omega (arith, c.if-count-ne2.false)) in omega (arith, t.0, c.requires.0)

pub span_at-requires-2 : goal.span_at-requires-2
span_at-requires-2 c = let t = c.requires.2.both (omega (arith, c.if-count-ne2.false)) in omega (arith, t.1, c.requires.0)

pub centres_differ-requires : goal.centres_differ-requires
centres_differ-requires c =
    let t = c.requires.2.both (omega (arith, c.if-count-ne2.false)) in
    let i : c.args.first ≡ c.args.first = refl in
    let j : c.args.second ≡ c.args.second = refl in
    (own-bounded c.requires.1 i t.0 c.span_at.ensures, own-bounded c.requires.1 j t.1 c.span_at-2.ensures)

pub returns : goal.returns
returns c =
    let i : c.args.first ≡ c.args.first = refl in
    let j : c.args.second ≡ c.args.second = refl in
    joined _ _ _ _ _ (omega (arith, c.if-count-ne2.false)) i j c.has_region-one.ensures c.has_region-other.ensures c.span_at.ensures
    c.span_at-2.ensures c.centres_differ.ensures
