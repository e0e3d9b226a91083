-- The ranks that can be linked.
use Rattle.std.specs.Prelude.{◌≡◌, Bool, not, cond, ◌&&◌, List, ℕ, ◌<◌, eqb, get_or}
use Rattle.position.specs.Order.{pos_same}
use Rattle.areas.specs.Spans.{span_in}
use Rattle.context.specs.Numbers.{is_full}

-- distinct ends, no ramp and a full pair, by what arrays say of the rank
unfoldable pub can_link : List ℕ → List ℕ → List ℕ → List ℕ → List ℕ → ℕ → Bool
unfolding pos_same span_in
can_link own ramps removed separated counts i =
    (not (pos_same (span_in own i).a (span_in own i).b) && eqb (get_or ramps i 0) 0) && is_full (get_or removed i 0) (get_or separated i 0) (get_or counts i 0)

-- 1 for each of the first n that passes, 0 for any other of them
pub record Flags (test : ℕ → Bool) (n : ℕ) (marks : List ℕ) : Type 0 where
  pub marks-are : (i : ℕ) → i < n → get_or marks i 0 ≡ cond (test i) 1 0
