-- The tables of a forest, as they stand in lent slices.
use Rattle.std.specs.Prelude.{◌≡◌}
use Rattle.marks_closing.specs.declared.forest.Forest.{Forest}
use Rattle.marks_closing.specs.Log.{ForestTables, forest_tables}

abbrev pub tables : Forest → ForestTables
tables f = forest_tables f.parents.now f.heights.now f.joined.now f.earlier.now

-- the fields still lend the same slices
pub record SameSlices (f g : Forest) : Type 0 where
  pub parents : g.parents.ghost_name ≡ f.parents.ghost_name
  pub heights : g.heights.ghost_name ≡ f.heights.ghost_name
  pub joined : g.joined.ghost_name ≡ f.joined.ghost_name
  pub earlier : g.earlier.ghost_name ≡ f.earlier.ghost_name
