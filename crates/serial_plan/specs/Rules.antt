-- A kind of groups, by the test that a group has to pass.
use Rattle.std.specs.Prelude.{◌≡◌, Bool, true, List, ℕ, ◌≤◌, length}
use Rattle.serial_links.specs.Limits.{Limits}
use Rattle.serial_plan.specs.declared.tables.Tables.{Tables}

-- the test of the ranks and the links of a group
abbrev pub Accepts : Type 0 → Type 0
Accepts S = S → Limits → Tables → List ℕ → List ℕ → Bool

abbrev pub SmallGroup : List ℕ → List ℕ → Type 0
SmallGroup rs js = (1 ≤ length rs) × (length rs ≤ 16) × (length js ≤ 16)

-- a group that passes has at least one rank, and at most sixteen ranks and links
abbrev pub AcceptsSmall : {S : Type 0} → Accepts S → Type 0
AcceptsSmall {S} accepted =
    (s : S) (limits : Limits) (t : Tables) → limits.most_spans ≤ 16 → (rs js : List ℕ) → accepted s limits t rs js ≡ true → SmallGroup rs js
