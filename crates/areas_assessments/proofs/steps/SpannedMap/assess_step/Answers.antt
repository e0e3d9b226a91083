use mathlib.Core.Path.{sym, ◌∙◌}
use native.Mathlib.Omega.{arith}
use Rattle.areas_steps.proofs.Halves.{ends-bounded}
use Rattle.areas_assessments.proofs.Advancing.{advance-none, grown-none, advance-as}
use Rattle.areas_assessments.proofs.Stepping.{not-among, not_step, not-cut, is-step, arrives, fits-label-at, here_on, there-on, there-in, index-here}
use Rattle.areas_assessments.proofs.Stepping.{index-there, step_cut, on-map}
use Rattle.areas_assessments.proofs.steps.SpannedMap.assess_step.Goals as goal

pub returns-then-not-has_direction : goal.returns-then-not-has_direction
returns-then-not-has_direction c = record {
  grown = grown-none 1 c.requires.3;
  advances = advance-none _ (not-among _ _ _ _ _ (sym c.has_direction.ensures ∙ c.if-not-has_direction.true));
}

pub returns-then-not-step_at : goal.returns-then-not-step_at
returns-then-not-step_at c = record {
  grown = grown-none 1 c.requires.3;
  advances = advance-none _ (not_step _ _ _ _ _ (sym c.step_at.ensures ∙ c.if-not-step_at.true));
}

pub place_to-to-requires : goal.place_to-to-requires
place_to-to-requires c =
    let m = c.args.self.now.on_map in
    let p = c.requires in
    let a = arrives c.args.position m p.0 p.1 c.args.d (sym c.step_at.ensures ∙ c.if-not-step_at.false) in
    (omega arith, omega arith, omega arith, a.left, a.top)

pub cut_by-requires : goal.cut_by-requires
cut_by-requires c =
    let m = c.args.self.now.on_map in
    let p = c.requires in
    let b = ends-bounded m.sides m.span in
    let i = there-in c.args.position m p.0 p.1 c.args.d (sym c.step_at.ensures ∙ c.if-not-step_at.false) p.2 c.place_to-to.result c.place_to-to.ensures.0 in
    (b.0, b.1, m.span.ordered, omega arith, omega arith, i.0, i.1)

pub returns-then-not-cut_by : goal.returns-then-not-cut_by
returns-then-not-cut_by c =
    let m = c.args.self.now.on_map in
    let p = c.requires in
    let t = sym c.step_at.ensures ∙ c.if-not-step_at.false in
    let cut = step_cut c.args.position m p.0 p.1 c.args.d t p.2 c.place_to-to.result c.place_to-to.ensures.0 c.cut_by.ensures in
    record { grown = grown-none 1 p.3; advances = advance-none _ (not-cut _ _ _ _ _ t (sym cut ∙ c.if-not-cut_by.true)) }

pub count_step-requires : goal.count_step-requires
count_step-requires c =
    let position = c.args.position in
    let m = c.args.self.now.on_map in
    let p = c.requires in
    let t = sym c.step_at.ensures ∙ c.if-not-step_at.false in
    let i = index-here position m p.0 p.1 c.index-from.ensures in
    let j = index-there position m p.0 p.1 c.args.d t p.2 c.place_to-to.result c.place_to-to.ensures.0 c.index.ensures in (
      fits-label-at position m p.0 p.1 (here_on position m p.0 p.1) i,
      fits-label-at position m p.0 p.1 (there-on position m p.0 p.1 c.args.d t) j,
      p.3,
    )

pub returns : goal.returns
returns c =
    let position = c.args.position in
    let d = c.args.d in
    let m = c.args.self.now.on_map in
    let p = c.requires in
    let t = sym c.step_at.ensures ∙ c.if-not-step_at.false in
    let i = index-here position m p.0 p.1 c.index-from.ensures in
    let j = index-there position m p.0 p.1 d t p.2 c.place_to-to.result c.place_to-to.ensures.0 c.index.ensures in
    let e = sym (step_cut position m p.0 p.1 d t p.2 c.place_to-to.result c.place_to-to.ensures.0 c.cut_by.ensures) ∙ c.if-not-cut_by.false in
    record {
      grown = c.count_step.ensures.grown;
      advances =
          advance-as _ (is-step _ _ _ _ _ i j (sym c.has_direction.ensures ∙ c.if-not-has_direction.false) t e)
          (c.count_step.ensures.by_index _ (on-map m (here_on position m p.0 p.1) i) (on-map m (there-on position m p.0 p.1 d t) j));
    }
