-- Labels as words: how many, each, and one more.
use mathlib.Core.Path.{◌≡◌}
use mathlib.Core.List.{List, [], ◌∷◌, ◌++◌}
use Prim.Native.Nat.{ℕ, ◌+◌, ◌<◌}
use native.Mathlib.Numerals.{add-one}
use lib.ListN.{length}
use Rattle.lists.proofs.Rows.{length-rows, rows_at, rows_last, rows_same}
use Rattle.areas.specs.Areas.{label_at}
use Rattle.areas.specs.Words.{word, labels_in}

module _ (w : List ℕ) (n : ℕ) where
  pub labels-many : length (labels_in w n) ≡ n
  unfolding labels_in
  labels-many = length-rows n (word w)

  pub label-in : (i : ℕ) → i < n → label_at (labels_in w n) i ≡ word w i
  unfolding labels_in
  label-in i h = rows_at n (word w) i 0 h

  pub words_last : labels_in w (n + 1) ≡ labels_in w n ++ (word w n ∷ [])
  unfolding labels_in
  words_last = rw add-one (rows_last n (word w))

  -- by the same words
  pub labels-same : (v : List ℕ) → ((i : ℕ) → i < n → word w i ≡ word v i) → labels_in w n ≡ labels_in v n
  unfolding labels_in
  labels-same v h = rows_same n (word w) (word v) h
