-- The arrays of parts and joined ranks give the groups of the chosen links.
use mathlib.Core.Path.{◌≡◌, refl, sym, ◌∙◌, ap}
use mathlib.Core.Bool.{Bool, true, false, cond, ◌&&◌}
use mathlib.Core.List.{List, [], ◌∷◌, map}
use Prim.Native.Nat.{ℕ, ◌≤◌, ◌<◌}
use native.Mathlib.Omega.{arith}
use lib.Dec.{eqb}
use Rattle.lists.specs.Rows.{at}
use Rattle.order.specs.Lists.{up_from}
use Rattle.order.proofs.Keep.{keep-ext, keep-keep, keep-map}
use Rattle.order.proofs.Numbers.{up_mem}
use Rattle.graph.specs.Path.{Edge}
use Rattle.graph.specs.Parts.{component_of}
use Rattle.order.specs.Tests.{any}
use Rattle.serial_groups.specs.Links.{LinkAt, joins}
use Rattle.serial_groups.specs.Groups.{LinkGroup, link_edges, is_joined, group_at}
use Rattle.serial_groups.specs.Tables.{link_row}
use Rattle.serial_plan.specs.Arrays.{is_on, edge_row, chosen_from, part_from, joins_at, joined_from, in_part, link_in_part, ranks_in, numbers_in, LinkRanks}
use Rattle.serial_plan.specs.Arrays.{FirstAre}
use Rattle.serial_plan.specs.Told.{group_by}

-- a mark is on just if what it marks holds
pub on-mark : (b : Bool) → eqb (cond b 1 0) 1 ≡ b
on-mark true = refl
on-mark false = refl

module _ (regions firsts seconds chosen : List ℕ) (links : ℕ) where
  -- the chosen links
  abbrev pub chosen_links : List LinkAt
  chosen_links = map (link_row regions firsts seconds) (chosen_from chosen 0 links)

  edges_by : (js : List ℕ) → link_edges (map (link_row regions firsts seconds) js) ≡ map (edge_row firsts seconds) js
  unfolding link_edges
  edges_by [] = refl
  edges_by (j ∷ js) = ap (λ (t : List Edge). edge_row firsts seconds j ∷ t) (edges_by js)

  pub part_by : (i : ℕ) → component_of (link_edges chosen_links) i ≡ part_from chosen firsts seconds 0 links i
  unfolding part_from
  part_by i = ap (λ (es : List Edge). component_of es i) (edges_by (chosen_from chosen 0 links))

  any-by : (i : ℕ) (js : List ℕ) → any (joins i) (map (link_row regions firsts seconds) js) ≡ any (joins_at firsts seconds i) js
  unfolding any
  any-by i [] = refl
  any-by i (j ∷ js) = let e : any (joins i) (map (link_row regions firsts seconds) js) ≡ any (joins_at firsts seconds i) js = any-by i js in rw e

  pub joined_by : (i : ℕ) → is_joined chosen_links i ≡ joined_from chosen firsts seconds 0 links i
  unfolding is_joined joined_from
  joined_by i = any-by i (chosen_from chosen 0 links)

  as-and : (a b : Bool) → cond a b false ≡ a && b
  as-and true b = refl
  as-and false b = refl

  module _ {n : ℕ} {parts joined : List ℕ} (few : n ≤ 256) (ranked : LinkRanks n firsts seconds links)
      (parted : FirstAre (part_from chosen firsts seconds 0 links) 256 parts)
      (marked : FirstAre (λ i. cond (joined_from chosen firsts seconds 0 links i) 1 0) 256 joined) where
    member-by : (c i : ℕ) → i < n → is_joined chosen_links i && eqb (component_of (link_edges chosen_links) i) c ≡ in_part joined parts c i
    member-by c i l =
        let e : at parts i ≡ component_of (link_edges chosen_links) i = parted.each i (omega arith) ∙ sym (part_by i) in
        let d : is_on joined i ≡ is_joined chosen_links i = ap (λ (x : ℕ). eqb x 1) (marked.each i (omega arith))
        ∙ (on-mark (joined_from chosen firsts seconds 0 links i) ∙ sym (joined_by i)) in
        ap (λ (t : Bool). t && eqb (component_of (link_edges chosen_links) i) c) (sym d) ∙ ap (λ (x : ℕ). is_on joined i && eqb x c) (sym e)

    ranks_by : (c : ℕ) → (group_at n chosen_links c).ranks ≡ ranks_in n joined parts c
    unfolding group_at
    ranks_by c = keep-ext (λ i. is_joined chosen_links i && eqb (component_of (link_edges chosen_links) i) c) (in_part joined parts c) (up_from 0 n)
        (λ i m. member-by c i (omega (arith, up_mem 0 n m)))

    links-by : (c : ℕ) → (group_at n chosen_links c).links ≡ map (link_row regions firsts seconds) (numbers_in links chosen firsts parts c)
    unfolding group_at chosen_from
    links-by c =
        keep-map (link_row regions firsts seconds) (λ (k : LinkAt). eqb (component_of (link_edges chosen_links) k.first) c)
        (λ k. eqb (component_of (link_edges chosen_links) (at firsts k)) c) (chosen_from chosen 0 links) (λ k m. refl)
        ∙ ap (map (link_row regions firsts seconds))
        (keep-keep (λ k. eqb (component_of (link_edges chosen_links) (at firsts k)) c) (is_on chosen) (link_in_part chosen firsts parts c) (up_from 0 links)
        (λ k m.
        let l : at firsts k < n = ranked.first-in k (omega (arith, up_mem 0 links m)) in
        let e : component_of (link_edges chosen_links) (at firsts k) ≡ at parts (at firsts k) = part_by (at firsts k)
        ∙ sym (parted.each (at firsts k) (omega arith)) in
        as-and (is_on chosen k) (eqb (component_of (link_edges chosen_links) (at firsts k)) c) ∙ ap (λ (x : ℕ). is_on chosen k && eqb x c) e))

    -- the group of component_of c
    pub group-by : (c : ℕ) → group_at n chosen_links c ≡ group_by regions firsts seconds (ranks_in n joined parts c) (numbers_in links chosen firsts parts c)
    group-by c =
        ap (λ (rs : List ℕ). group rs (group_at n chosen_links c).links) (ranks_by c) ∙ ap (group (ranks_in n joined parts c)) (links-by c)
      where
        group : List ℕ → List LinkAt → LinkGroup
        group rs ks = record { ranks = rs; links = ks }
