-- The values that jobs and answers stand for (source document 003's five types, and the job).
use Rattle.std.specs.Prelude.{ℕ, List}
use Rattle.std.proofs.Math.Option.{Option}
use Rattle.position.specs.declared.WalkPosition.{WalkPosition}
use Rattle.position.specs.declared.Span.{Span}
use Rattle.format.specs.declared.records.Source.{Source}

-- A base and the cell that routes to it start from, if it has one.
pub record Base : Type 0 where
  pub id : ℕ
  pub anchor : Option WalkPosition

-- `end` is 0 for no ramp, 1 for its lower end, 2 for its upper.
pub record Ramp : Type 0 where
  pub end : ℕ
  pub lower : ℕ
  pub upper : ℕ
  pub id : ℕ

pub record Observation : Type 0 where
  pub ends : Span
  pub bits : ℕ
  pub sources : List Source

-- A boundary with its own sources and its observations.
pub record Boundary : Type 0 where
  pub ends : Span
  pub bits : ℕ
  pub ramp : Ramp
  pub sources : List Source
  pub observations : List Observation

-- A map in row order, a byte a cell, with its bases and boundaries.
pub record Job : Type 0 where
  pub width : ℕ
  pub height : ℕ
  pub cells : List ℕ
  pub bases : List Base
  pub boundaries : List Boundary
