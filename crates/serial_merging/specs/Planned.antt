-- The kept boundaries by a plan, which gives each rank the rank that it goes into.
use Rattle.std.specs.Prelude.{cond, List, [], ◌∷◌, map, ℕ, eqb, length}
use Rattle.order.specs.Lists.{keep, up_from, has}
use Rattle.format.specs.Values.{Boundary}
use Rattle.serial_merging.specs.Consolidation.{consolidate}
use Rattle.serial_merging.specs.Groups.{Group}
use Rattle.serial_merging.specs.Kept.{copy_at}

-- The plan of groups: a member goes into the rank that its group retains, every other rank stays.
unfoldable pub goes : List Group → ℕ → ℕ
unfolding has
goes [] i = i
goes (g ∷ gs) i = cond (has i g.ranks) g.retained (goes gs i)

-- Of n ranks, those that go into rank i.
unfoldable pub members : (ℕ → ℕ) → ℕ → ℕ → List ℕ
unfolding keep up_from
members plan n i = keep (λ j. eqb (plan j) i) (up_from 0 n)

-- The copy of a boundary that stays alone, or the consolidation of all that go into it.
unfoldable pub merged : List Boundary → List ℕ → ℕ → Boundary
unfolding consolidate
merged copies js i = cond (eqb (length js) 1) (copy_at copies i) (consolidate (copy_at copies i) (map (copy_at copies) js))

unfoldable pub planned : List Boundary → (ℕ → ℕ) → List Boundary
unfolding merged members keep up_from
planned copies plan = map (λ i. merged copies (members plan (length copies) i) i) (keep (λ i. eqb (plan i) i) (up_from 0 (length copies)))
