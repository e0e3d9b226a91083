-- The owners of the records that touch a region, and what is held of them.
use Rattle.std.specs.Prelude.{Bool, not, cond, ◌&&◌, ◌||◌, List, [], ◌∷◌, ◌++◌, ℕ, zero, suc, ◌+◌, ◌-◌, eqb, length, get_or}
use Rattle.graph.specs.Records.{Record}
use Rattle.serial_candidates.specs.Owners.{in_record}
use Rattle.serial_candidates.specs.declared.touching.Touching.{Touching}

abbrev pub no_owner : Touching
no_owner = record { count = 0; first = 0; second = 0; last = 0 }

-- one owner more
abbrev pub with_owner : Touching → ℕ → Touching
with_owner t o = record { count = t.count + 1; first = cond (eqb t.count 0) o t.first; second = cond (eqb t.count 1) o t.second; last = o }

-- one record more, by whether it touches the region: an owner that is the last one already is not added
abbrev pub touched : Touching → ℕ → Bool → Touching
touched t o hit = cond (hit && (eqb t.count 0 || not (eqb t.last o))) (with_owner t o) t

unfoldable pub touching_after : (ℕ → Record) → ℕ → ℕ → Touching
touching_after f r zero = no_owner
touching_after f r (suc k) = touched (touching_after f r k) (f k).owner (in_record r (f k))

-- the owners themselves
unfoldable pub touchers : (ℕ → Record) → ℕ → ℕ → List ℕ
touchers f r zero = []
touchers f r (suc k) =
    let l = touchers f r k in
    cond (in_record r (f k) && (eqb (length l) 0 || not (eqb (get_or l (length l - 1) 0) (f k).owner))) (l ++ ((f k).owner ∷ [])) l
