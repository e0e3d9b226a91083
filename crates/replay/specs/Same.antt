-- What a call left is what was recorded.
use Rattle.std.specs.Prelude.{ℕ, ◌≡◌, List}

pub record Same (number detail : ℕ) (work out : List ℕ) (number' detail' : ℕ) (work' out' : List ℕ) : Type 0 where
  pub same_number : number ≡ number'
  pub same-detail : detail ≡ detail'
  pub same-work : work ≡ work'
  pub same_out : out ≡ out'
