-- Which boundaries stand as observations. "A member without observations gives itself as one, with its own sources."
use Rattle.std.specs.Prelude.{◌≡◌, cond, not, ◌&&◌, List, ℕ, ◌≤◌, ◌<◌, eqb, length, get_or}
use Rattle.serial_merging.specs.Planned.{members}

-- 1 where the boundary of rank j observed nothing and isn't alone in the rank that it goes into, else 0.
unfoldable pub stands_at : (order plan : List ℕ) (seen : ℕ → ℕ) (n j : ℕ) → ℕ
unfolding members
stands_at order plan seen n j = cond (eqb (seen (get_or order j 0)) 0 && not (eqb (length (members (λ k. get_or plan k 0) n (get_or plan j 0))) 1)) 1 0

-- This by place, of all that go into one of n ranks.
pub record Standing (order plan : List ℕ) (seen : ℕ → ℕ) (n : ℕ) (stands : List ℕ) : Type 0 where
  pub there : (j : ℕ) → j < n → get_or plan j 0 < n → get_or stands (get_or order j 0) 0 ≡ stands_at order plan seen n j

-- How many of n ranks go into each.
pub record Sizes (plan : List ℕ) (n : ℕ) (sizes : List ℕ) : Type 0 where
  pub long : length sizes ≡ 256
  pub most : (i : ℕ) → get_or sizes i 0 ≤ n
  pub there : (i : ℕ) → i < 256 → get_or sizes i 0 ≡ length (members (λ k. get_or plan k 0) n i)
