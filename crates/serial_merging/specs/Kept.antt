-- The boundaries that are kept, from the canonical copies in the order of the listing and the accepted groups.
use Rattle.std.specs.Prelude.{cond, List, [], ◌∷◌, map, ℕ, eqb, length, get_or}
use Rattle.order.specs.Lists.{gather, up_from, has}
use Rattle.format.specs.Values.{Boundary}
use Rattle.serial_merging.specs.Consolidation.{consolidate}
use Rattle.serial_merging.specs.Groups.{Group}

-- What `copy_at` gives past the last rank.
abbrev pub no_boundary : Boundary
no_boundary = record {
  ends = record { a = record { x = 0; y = 0 }; b = record { x = 0; y = 0 } };
  bits = 0;
  ramp = record { end = 0; lower = 0; upper = 0; id = 0 };
  sources = [];
  observations = [];
}

abbrev pub copy_at : List Boundary → ℕ → Boundary
copy_at copies i = get_or copies i no_boundary

unfoldable pub members_of : List Boundary → Group → List Boundary
members_of copies g = map (copy_at copies) g.ranks

unfoldable pub consolidated : List Boundary → Group → Boundary
consolidated copies g = consolidate (copy_at copies g.retained) (members_of copies g)

-- At a rank: "one consolidated boundary in its members' stead", "a merged one counting as its retained member"; another member leaves nothing, a
-- boundary of no group its copy.
unfoldable pub slot : List Boundary → List Group → ℕ → List Boundary
slot copies [] i = copy_at copies i ∷ []
slot copies (g ∷ gs) i = cond (eqb i g.retained) (consolidated copies g ∷ []) (cond (has i g.ranks) [] (slot copies gs i))

-- "Kept boundaries are ordered by canonical ends, equal ones by input order": as the copies are.
unfoldable pub kept : List Boundary → List Group → List Boundary
kept copies gs = gather (slot copies gs) (up_from 0 (length copies))
