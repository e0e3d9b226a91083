-- Small graphs, by computing; cases 5 to 8 of the table.
use mathlib.Core.Path.{◌≡◌, refl, sym, ◌∙◌}
use mathlib.Core.Bool.{Bool, true, false, ◌&&◌, and-false, or-true}
use mathlib.Core.List.{List, [], ◌∷◌, map}
use Prim.Native.Nat.{ℕ}
use borrow.Author.Tests.{eq-eqb, ne_eqb, eqb-true}
use lib.Dec.{eqb}
use Rattle.order.specs.Lists.{up_from, has}
use Rattle.order.proofs.Bools.{by-test}
use Rattle.graph.specs.Path.{Edge}
use Rattle.graph.specs.Parts.{component_of, same_part}
use Rattle.graph.specs.Labels.{count, labels, label_count}
use Rattle.graph.specs.Records.{Record, edges, without, only, of_owner}
use Rattle.graph.specs.Bridges.{is_parted, is_bridge, mark_of}
use Rattle.graph.specs.Cases.{boundary_pair, BridgeCases, MarkCases}

abbrev edge : ℕ → ℕ → Edge
edge a b = record { left = a; right = b }

-- 1, 4 and 5 are one component_of, 2 and 3 another
abbrev some_edges : List Edge
some_edges = edge 1 5 ∷ edge 5 4 ∷ edge 2 3 ∷ edge 4 1 ∷ []

first-vertices : map (component_of some_edges) (up_from 0 7) ≡ 0 ∷ 1 ∷ 2 ∷ 2 ∷ 1 ∷ 1 ∷ 6 ∷ []
unfolding component_of up_from
first-vertices = refl

together : same_part some_edges 4 5 ≡ true
unfolding same_part
together = refl

apart : same_part some_edges 3 4 ≡ false
unfolding same_part
apart = refl

-- 0 is out
abbrev inside : ℕ → Bool
inside i = has i (1 ∷ 2 ∷ 3 ∷ 4 ∷ 5 ∷ 6 ∷ [])

labelled : labels 7 inside some_edges ≡ 0 ∷ 1 ∷ 2 ∷ 2 ∷ 1 ∷ 1 ∷ 3 ∷ []
unfolding labels count has up_from component_of
labelled = refl

three-parts : label_count 7 inside some_edges ≡ 3
unfolding label_count count has component_of
three-parts = refl

-- two records of boundary 4, and one of 5
abbrev ring : List Record
ring = boundary_pair 4 1 2 ∷ boundary_pair 4 2 3 ∷ boundary_pair 5 1 3 ∷ []

region-graph : edges ring ≡ edge 1 2 ∷ edge 2 3 ∷ edge 1 3 ∷ []
unfolding edges
region-graph = refl

closed-one : without (only 1) ring ≡ boundary_pair 4 1 2 ∷ boundary_pair 5 1 3 ∷ []
unfolding without
closed-one = refl

closed-owner : without (of_owner 4) ring ≡ boundary_pair 5 1 3 ∷ []
unfolding without
closed-owner = refl

-- closing both records of 4 parts their regions, though neither is a bridge by itself
closed-whole : (mark_of ring 4 ≡ true) × (is_bridge ring 4 ≡ false) × (mark_of ring 5 ≡ false)
unfolding is_bridge mark_of
closed-whole = (refl, refl, refl)

-- one parted record is enough: 4's regions 1 and 2 stay connected through 5, its regions 3 and 6 do not
one_of_two : mark_of (boundary_pair 4 1 2 ∷ boundary_pair 4 3 6 ∷ boundary_pair 5 1 2 ∷ []) 4 ≡ true
unfolding mark_of
one_of_two = refl

-- and where both stay connected, there is no mark
none_of_two : mark_of (boundary_pair 4 1 2 ∷ boundary_pair 4 2 3 ∷ boundary_pair 5 1 3 ∷ boundary_pair 6 2 3 ∷ []) 4 ≡ false
unfolding mark_of
none_of_two = refl

-- a boundary without records is none
lone : map (is_bridge (boundary_pair 4 1 2 ∷ [])) (4 ∷ 5 ∷ []) ≡ true ∷ false ∷ []
unfolding is_bridge
lone = refl

pub bridge-cases : BridgeCases
unfolding is_bridge
bridge-cases = record {
  case5 = λ b c. (rw (eq-eqb b b refl), rw (eq-eqb c c refl) (or-true (eqb b c && true)));
  case6 = λ b c d x. simp and-false;
  case7 = λ b c x. simp and-false;
  case8 = λ b x. simp and-false;
}

-- another boundary's number than x, where x is b
other : (b c x : ℕ) → (b ≡ c → ⊥) → eqb b x ≡ true → eqb c x ≡ false
other b c x n e = ne_eqb c x (λ q. n (eqb-true b x e ∙ sym q))

pub mark-cases : MarkCases
unfolding mark_of
mark-cases = record {
  case5 = λ b c. (
    by-test (eqb c b) (λ e. rw (eq-eqb b b refl, e)) (λ e. rw (eq-eqb b b refl, e)),
    by-test (eqb b c) (λ e. rw (eq-eqb c c refl, e)) (λ e. rw (eq-eqb c c refl, e)),
  );
  case6 = λ b c d x n m l.
      by-test (eqb b x) (λ e. rw (e, other b c x n e, other b d x l e))
      (λ e. by-test (eqb c x) (λ f. rw (e, f, other c d x m f)) (λ f. by-test (eqb d x) (λ g. rw (e, f, g)) (λ g. rw (e, f, g))));
  case7 = λ b c x n.
      by-test (eqb b x) (λ e. rw (e, other b c x n e)) (λ e. by-test (eqb c x) (λ f. rw (e, f)) (λ f. rw (e, f)));
  case8 = λ b. rw (eq-eqb b b refl);
  case8-others = λ b x n. rw (ne_eqb b x (λ q. n (sym q)));
}
