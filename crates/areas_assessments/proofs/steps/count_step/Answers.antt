use mathlib.Core.Path.{refl}
use native.Mathlib.Omega.{arith}
use Rattle.areas_assessments.proofs.Advancing.{advance-same, advance-put, labels-alike, labels_apart, label-pair}
use Rattle.areas_assessments.proofs.steps.count_step.Goals as goal

pub returns-then-from-to : goal.returns-then-from-to
returns-then-from-to c = record {
  grown = record { from = omega arith; to = omega arith; removed = omega arith; separated = omega arith };
  by_index = λ n a b. advance-same _ _ (labels-alike _ a b c.read_u32-from.ensures c.read_u32-to.ensures c.if-from-to.true) refl refl refl;
}

pub returns : goal.returns
returns c =
    let next = c.insert_pair-next.ensures in
    record {
      grown = record {
        from = omega (arith, next.lower_bound);
        to = omega (arith, next.lower_bound);
        removed = omega arith;
        separated = omega arith;
      };
      by_index = λ n a b.
          let right = c.read_u32-to.ensures in
          let left = c.read_u32-from.ensures in
          advance-put _ _ _ (labels_apart _ a b left right c.if-from-to.false) (label-pair _ a b left right c.min.ensures c.max.ensures) refl refl
          next.late next.inserted;
    }
