-- Cases 5 to 8 of document 01's table, for boundaries of any number: bridges, and the marks of request 5.
use Rattle.std.specs.Prelude.{◌≡◌, true, false, [], ◌∷◌, ℕ}
use Rattle.graph.specs.Records.{Record}
use Rattle.graph.specs.Bridges.{is_bridge, mark_of}

-- the pair {l, r} of boundary b
abbrev pub boundary_pair : ℕ → ℕ → ℕ → Record
boundary_pair b l r = record { owner = b; left = l; right = r }

pub record BridgeCases : Type 0 where
  -- 5: {1,2}, {2,3} of two boundaries: both are bridges
  pub case5 : (b c : ℕ) → (is_bridge (boundary_pair b 1 2 ∷ boundary_pair c 2 3 ∷ []) b ≡ true)
      × (is_bridge (boundary_pair b 1 2 ∷ boundary_pair c 2 3 ∷ []) c ≡ true)
  -- 6: with {1,3} of a third: none is
  pub case6 : (b c d x : ℕ) → is_bridge (boundary_pair b 1 2 ∷ boundary_pair c 2 3 ∷ boundary_pair d 1 3 ∷ []) x ≡ false
  -- 7: {1,2} of two boundaries: none is
  pub case7 : (b c x : ℕ) → is_bridge (boundary_pair b 1 2 ∷ boundary_pair c 1 2 ∷ []) x ≡ false
  -- 8: one boundary with {1,2}, {2,3}, {1,3}: it is none, and no other is
  pub case8 : (b x : ℕ) → is_bridge (boundary_pair b 1 2 ∷ boundary_pair b 2 3 ∷ boundary_pair b 1 3 ∷ []) x ≡ false

-- the marks: in 6 and 7 the boundaries have to be different ones, for all records of one are taken away at once
pub record MarkCases : Type 0 where
  -- 5: both are marked
  pub case5 : (b c : ℕ) → (mark_of (boundary_pair b 1 2 ∷ boundary_pair c 2 3 ∷ []) b ≡ true)
      × (mark_of (boundary_pair b 1 2 ∷ boundary_pair c 2 3 ∷ []) c ≡ true)
  -- 6: none is
  pub case6 : (b c d x : ℕ) → (b ≡ c → ⊥) → (c ≡ d → ⊥) → (b ≡ d → ⊥)
      → mark_of (boundary_pair b 1 2 ∷ boundary_pair c 2 3 ∷ boundary_pair d 1 3 ∷ []) x ≡ false
  -- 7: none is
  pub case7 : (b c x : ℕ) → (b ≡ c → ⊥) → mark_of (boundary_pair b 1 2 ∷ boundary_pair c 1 2 ∷ []) x ≡ false
  -- 8: "Case 8's boundary gets mark 1", and no other does
  pub case8 : (b : ℕ) → mark_of (boundary_pair b 1 2 ∷ boundary_pair b 2 3 ∷ boundary_pair b 1 3 ∷ []) b ≡ true
  pub case8-others : (b x : ℕ) → (x ≡ b → ⊥) → mark_of (boundary_pair b 1 2 ∷ boundary_pair b 2 3 ∷ boundary_pair b 1 3 ∷ []) x ≡ false
