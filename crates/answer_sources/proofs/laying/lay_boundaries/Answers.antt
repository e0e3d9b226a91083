use Rattle.std.proofs.Common.{ℕ, refl, ap, ◌∙◌, cond, eqb, get_or, arith}
use Rattle.format.specs.declared.records.BoundaryRecord.{BoundaryRecord}
use Rattle.answer_sources.proofs.Layouts.{layout-start, layout-next, layout-end, room_for, own-fits, places-fit}
use Rattle.answer_sources.proofs.laying.lay_boundaries.Goals as goal

pub loop-b-init : goal.loop-b-init
loop-b-init c = layout-start _ _ _ _ c.requires.1

pub overflow_cast-firsts : goal.overflow_cast-firsts
overflow_cast-firsts c = omega (arith, places-fit c.requires.0 c.loop-b.invariant (omega arith))

pub overflow_add-run : goal.overflow_add-run
overflow_add-run c =
    omega (
      arith,
      own-fits c.requires.0 c.loop-b.invariant (omega arith),
      ap (λ (r : BoundaryRecord). r.sources) c.read_boundary-x.ensures,
    )

pub lay_observations-run-requires : goal.lay_observations-run-requires
lay_observations-run-requires c =
    let read = c.read_boundary-x.ensures in
    room_for c.requires.0 c.loop-b.invariant (omega arith) (ap (λ (r : BoundaryRecord). r.sources) read) c.stood_with.ensures.1
    (ap (λ (r : BoundaryRecord). r.observations) read) refl

pub overflow_add-p : goal.overflow_add-p
overflow_add-p c =
    omega (
      arith,
      places-fit c.requires.0 c.loop-b.invariant (omega arith),
      ap (λ (r : BoundaryRecord). r.observations) c.read_boundary-x.ensures,
    )

pub loop-b-preserved : goal.loop-b-preserved
loop-b-preserved c =
    let read = c.read_boundary-x.ensures in
    let inv = c.loop-b.invariant in
    let sources = ap (λ (r : BoundaryRecord). r.sources) read in
    layout-next c.requires.0 inv (omega arith) sources
    (c.stood_with.ensures.0 ∙ ap (λ (k : ℕ). cond (eqb (get_or c.args.stands.now c.loop-b.b 0) 1) k 0) sources)
    (ap (λ (r : BoundaryRecord). r.observations) read) c.lay_observations-run.ensures

pub returns : goal.returns
returns c = layout-end c.requires.0 c.loop-b.invariant (omega arith) (omega arith)
