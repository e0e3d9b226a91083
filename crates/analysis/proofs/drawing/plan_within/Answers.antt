use mathlib.Core.Path.{◌∙◌}
use Prim.Native.Nat.{ℕ}
use native.Mathlib.Omega.{arith}
use lib.ListN.{length-replicate}
use Rattle.grid.specs.Directions.{directions_of}
use Rattle.analysis.proofs.Within.{zero-room, room_fits, parted-over, parted-then}
use Rattle.analysis.proofs.Matching.{some-told, stored}
use Rattle.analysis.proofs.drawing.plan_within.Goals as goal

pub part_by_rank-pairs-requires : goal.part_by_rank-pairs-requires
part_by_rank-pairs-requires g c =
    let p = c.requires.given in
    (p.0.job.headed, p.0.room, p.1, zero-room _ (room_fits c.requires.room), p.5)

pub returns-then-pairs : goal.returns-then-pairs
returns-then-pairs g c =
    let p = c.requires.given in
    record {
      drawn_within = λ ss e. parted-over (rw (length-replicate {A = ℕ} _ _) at (c.part_by_rank-pairs.ensures _ ss p.0.job.ranks e)) c.if-pairs.true;
      whole = p.3;
    }

pub plan_listing-requires : goal.plan_listing-requires
plan_listing-requires g c =
    let p = c.requires.given in
    let left = c.if-pairs.false in
    let long = c.part_by_rank-pairs.auto in (
      p.0.job,
      some-told left (λ ss e. rw (length-replicate {A = ℕ} _ _) at (c.part_by_rank-pairs.ensures _ ss p.0.job.ranks e)) p.2,
      stored left (room_fits c.requires.room) (long.owners ∙ length-replicate {A = ℕ} _ _) (long.lefts ∙ length-replicate {A = ℕ} _ _)
          (long.rights ∙ length-replicate {A = ℕ} _ _),
      p.3,
      p.4,
    )

pub returns : goal.returns
returns g c =
    let told = c.plan_listing.ensures in
    let dirs = directions_of c.args.directions in
    record {
      drawn_within = λ ss e.
          parted-then (rw (length-replicate {A = ℕ} _ _) at (c.part_by_rank-pairs.ensures _ ss c.requires.given.0.job.ranks e)) told.work
          (told.plan dirs ss);
      whole = told.whole;
    }
