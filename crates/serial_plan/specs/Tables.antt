-- What is said of the tables, and of the groups that are made of them.
use Rattle.std.specs.Prelude.{Bool, List, ℕ}
use Rattle.serial_links.specs.Limits.{Limits}
use Rattle.serial_plan.specs.declared.few.Few.{Few}
use Rattle.serial_plan.specs.declared.tables.Groups.{Groups}
use Rattle.serial_plan.specs.declared.tables.Tables.{Tables}
use Rattle.serial_plan.specs.Arrays.{LinkRanks, ranks_in, numbers_in}
use Rattle.serial_plan.specs.Fitting.{Links, RankedLinks, Safe}
use Rattle.serial_plan.specs.Into.{group_into}
use Rattle.serial_plan.specs.Planning.{SerialPlan, FlatPlan, PlanOf}
use Rattle.serial_plan.specs.Told.{serial_in, flat_in}

-- the links join ranks that the arrays have
abbrev pub LinkedTables : Tables → Type 0
LinkedTables t = LinkRanks 256 t.firsts.now t.seconds.now t.links

-- n ranks and their links
abbrev pub RankedTables : Tables → Type 0
RankedTables t = RankedLinks t.n t.own.now t.bits.now t.firsts.now t.seconds.now t.links

-- at least one of each
abbrev pub SafeTables : Tables → Type 0
SafeTables t = Safe t.n t.own.now t.bits.now t.firsts.now t.seconds.now t.links

-- each of the kept links is safe to look at
abbrev pub TableLinks : Tables → Few → Type 0
TableLinks t f = Links t.own.now t.firsts.now t.seconds.now f

-- the tests of a group's ranks and links
abbrev pub serial_by : Limits → Tables → List ℕ → List ℕ → List ℕ → Bool
serial_by limits t = serial_in limits t.own.now t.lowers.now t.highers.now t.regions.now t.firsts.now t.seconds.now

abbrev pub flat_by : Limits → Tables → List ℕ → List ℕ → Bool
flat_by limits t = flat_in limits t.own.now t.lowers.now t.highers.now t.regions.now t.firsts.now t.seconds.now

-- the ranks and the links of part c
abbrev pub part_ranks : Tables → Groups → ℕ → List ℕ
part_ranks t g c = ranks_in t.n g.joined.now g.parts.now c

abbrev pub part_links : Tables → Groups → ℕ → List ℕ
part_links t g c = numbers_in t.links g.chosen.now t.firsts.now g.parts.now c

-- which rank each rank goes into by the groups that a test accepts
abbrev pub into_by : (List ℕ → List ℕ → Bool) → Limits → Tables → Groups → ℕ → ℕ
into_by accepts limits t g = group_into accepts limits t.n t.own.now t.bits.now t.firsts.now t.links g.chosen.now g.joined.now g.parts.now

-- the plans by these tables
abbrev pub SerialPlanBy : Limits → Tables → List ℕ → List ℕ → List ℕ → Type 0
SerialPlanBy limits t = SerialPlan limits t.n t.own.now t.bits.now t.lowers.now t.highers.now t.regions.now t.firsts.now t.seconds.now t.links

abbrev pub FlatPlanBy : Limits → Tables → List ℕ → List ℕ → List ℕ → Type 0
FlatPlanBy limits t = FlatPlan limits t.n t.own.now t.bits.now t.lowers.now t.highers.now t.regions.now t.firsts.now t.seconds.now t.links

abbrev pub PlanBy : Limits → Tables → List ℕ → List ℕ → List ℕ → List ℕ → Type 0
PlanBy limits t = PlanOf limits t.n t.own.now t.bits.now t.lowers.now t.highers.now t.regions.now t.firsts.now t.seconds.now t.links
