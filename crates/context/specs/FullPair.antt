-- Regions that a boundary touches, and full pairs. Document 01: "A boundary touches the regions in its pairs. It has a full pair
-- if it removes at least one step, every removed step has different labels, and it has just one pair."
use Rattle.std.specs.Prelude.{Bool, false, cond, ◌&&◌, ◌||◌, List, [], ◌∷◌, ℕ, ltb, eqb, length, get_or}
use Rattle.areas.specs.Assessments.{RegionPair, Assessment}

-- the region is one of the pair
abbrev pub in_pair : ℕ → RegionPair → Bool
in_pair r p = eqb r p.lower || eqb r p.higher

-- it is in one of the pairs
unfoldable pub in_pairs : ℕ → List RegionPair → Bool
in_pairs r [] = false
in_pairs r (p ∷ ps) = in_pair r p || in_pairs r ps

unfoldable pub touches : Assessment → ℕ → Bool
unfolding in_pairs
touches a r = in_pairs r a.pairs

unfoldable pub has_full_pair : Assessment → Bool
has_full_pair a = (ltb 0 a.removed && eqb a.separated a.removed) && eqb (length a.pairs) 1

abbrev pub no_pair : RegionPair
no_pair = record { lower = 0; higher = 0 }

-- the full pair, where there is one
abbrev pub full_pair : Assessment → RegionPair
full_pair a = get_or a.pairs 0 no_pair

-- the pair's other region: 000's `exterior`
unfoldable pub other_region : RegionPair → ℕ → ℕ
other_region p r = cond (eqb p.lower r) p.higher p.lower
