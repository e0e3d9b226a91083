-- The arrays say which rank each rank goes into by the groups of the chosen links.
use mathlib.Core.Path.{◌≡◌, refl, sym, ◌∙◌, ap}
use mathlib.Core.Bool.{Bool, true, false, cond, ◌&&◌}
use mathlib.Core.List.{List, ◌∷◌, map, Memᴰ}
use Prim.Native.Nat.{ℕ, zero, suc, ◌+◌, ◌≤◌, ◌<◌}
use native.Mathlib.Omega.{arith}
use lib.Dec.{eqb}
use Rattle.lists.specs.Rows.{at, rows}
use Rattle.order.specs.Lists.{keep, up_from}
use Rattle.order.proofs.Keep.{keep-mem, keep-map}
use Rattle.order.proofs.Numbers.{up_mem}
use Rattle.graph.specs.Parts.{component_of}
use Rattle.position.specs.declared.WalkPosition.{WalkPosition}
use Rattle.grid.specs.Cells.{Grid}
use Rattle.context.specs.Listing.{Item}
use Rattle.serial_links.specs.Limits.{Limits}
use Rattle.serial_groups.specs.Links.{LinkAt, links}
use Rattle.serial_groups.specs.Groups.{LinkGroup, link_edges, is_joined, group_at}
use Rattle.serial_groups.specs.Serial.{accepts_serial}
use Rattle.serial_groups.specs.Flat.{accepts_flat}
use Rattle.serial_groups.specs.Representative.{retained}
use Rattle.serial_groups.specs.Tables.{link_row, links_in, LinkTable}
use Rattle.serial_plan.specs.Arrays.{is_on, chosen_from, part_from, joined_from, in_part, link_in_part, ranks_in, numbers_in, LinkRanks, FirstAre}
use Rattle.serial_plan.specs.Shape.{retained_in}
use Rattle.serial_plan.specs.Told.{BoundaryTables, Passed, serial_in, flat_in}
use Rattle.serial_plan.specs.Into.{serial_into, flat_into}
use Rattle.serial_plan.proofs.GroupLaws.{retained-by, flat-is, serial-is}
use Rattle.serial_plan.proofs.WholeLaws.{chosen_links, part_by, joined_by, on-mark, group-by}
use Rattle.serial_plan.proofs.TakenLaws.{own_group, taken}

into-step : (a b : Bool) (x : ℕ) → cond a (cond b x 256) 256 ≡ cond (a && b) x 256
into-step true b x = refl
into-step false b x = refl

rows-up : {A : Type 0} (n a : ℕ) (h f : ℕ → A) → ((i : ℕ) → h i ≡ f (a + i)) → rows n h ≡ map f (up_from a n)
unfolding rows up_from
rows-up zero a h f e = refl
rows-up {A} (suc n) a h f e =
    let z : a + 0 ≡ a = omega arith in
    ap (λ (x : A). x ∷ rows n (λ i. h (suc i))) (e 0 ∙ ap f z)
    ∙ ap (λ (xs : List A). f a ∷ xs) (rows-up n (suc a) (λ i. h (suc i)) f (λ i. let s : a + suc i ≡ suc a + i = omega arith in e (suc i) ∙ ap f s))

-- the links that pass a test are the chosen ones
pub chosen-are : {dirs : List ℕ} {g : Grid} {anchors : List WalkPosition} {l : List Item} {regions firsts seconds : List ℕ} {n : ℕ} (chosen : List ℕ)
    (t : LinkAt → Bool) → LinkTable dirs g anchors l regions firsts seconds n →
    ((k : ℕ) → k < n → t (link_row regions firsts seconds k) ≡ is_on chosen k) → keep t (links dirs g anchors l) ≡ chosen_links regions firsts seconds chosen n
unfolding chosen_from links_in
chosen-are {regions = regions} {firsts} {seconds} {n} chosen t linked e =
    ap (keep t) (sym linked.all
    ∙ rows-up n 0 (link_row regions firsts seconds) (link_row regions firsts seconds)
    (λ i. let z : i ≡ 0 + i = omega arith in ap (link_row regions firsts seconds) z))
    ∙ keep-map (link_row regions firsts seconds) t (is_on chosen) (up_from 0 n) (λ k m. e k (omega (arith, up_mem 0 n m)))

module _ (limits : Limits) {dirs : List ℕ} {g : Grid} {l : List Item} {n : ℕ} {own bits lowers highers : List ℕ}
    (told : BoundaryTables dirs g l n own bits lowers highers)
    (regions firsts seconds chosen : List ℕ) (count : ℕ) (few : n ≤ 256) (ranked : LinkRanks n firsts seconds count) {parts joined : List ℕ}
    (parted : FirstAre (part_from chosen firsts seconds 0 count) 256 parts)
    (marked : FirstAre (λ i. cond (joined_from chosen firsts seconds 0 count i) 1 0) 256 joined) where
  abbrev ks : List LinkAt
  ks = chosen_links regions firsts seconds chosen count

  joined_at : (i : ℕ) → i < n → is_on joined i ≡ is_joined ks i
  joined_at i h =
      ap (λ (x : ℕ). eqb x 1) (marked.each i (omega arith))
      ∙ (on-mark (joined_from chosen firsts seconds 0 count i) ∙ sym (joined_by regions firsts seconds chosen count i))

  part_at : (i : ℕ) → i < n → at parts i ≡ component_of (link_edges ks) i
  part_at i h = parted.each i (omega arith) ∙ sym (part_by regions firsts seconds chosen count i)

  inside : (c i : ℕ) → Memᴰ i (ranks_in n joined parts c) → i < n
  inside c i m = omega (arith, up_mem 0 n (keep-mem (in_part joined parts c) (up_from 0 n) m).0)

  below : (c k : ℕ) → Memᴰ k (numbers_in count chosen firsts parts c) → k < count
  below c k m = omega (arith, up_mem 0 count (keep-mem (link_in_part chosen firsts parts c) (up_from 0 count) m).0)

  retained-at : (c : ℕ) → retained_in limits own bits (ranks_in n joined parts c) ≡ retained limits l (group_at n ks c).ranks
  retained-at c =
      sym (retained-by told (ranks_in n joined parts c) (inside c) limits)
      ∙ ap (λ (a : LinkGroup). retained limits l a.ranks) (sym (group-by regions firsts seconds chosen count few ranked parted marked c))

  into-by : (F G : ℕ → Bool) (R S : ℕ → ℕ) → ((c : ℕ) → F c ≡ G c) → ((c : ℕ) → R c ≡ S c) → (i : ℕ) → i < n →
      cond (is_on joined i) (cond (F (at parts i)) (R (at parts i)) 256) 256 ≡ cond (is_joined ks i && G (component_of (link_edges ks) i))
      (S (component_of (link_edges ks) i)) 256
  into-by F G R S f r i h =
      ap (λ (b : Bool). cond b (cond (F (at parts i)) (R (at parts i)) 256) 256) (joined_at i h)
      ∙ (ap (λ (c : ℕ). cond (is_joined ks i) (cond (F c) (R c) 256) 256) (part_at i h)
      ∙ (ap (λ (b : Bool). cond (is_joined ks i) (cond b (R (component_of (link_edges ks) i)) 256) 256) (f (component_of (link_edges ks) i))
      ∙ (ap (λ (x : ℕ). cond (is_joined ks i) (cond (G (component_of (link_edges ks) i)) x 256) 256) (r (component_of (link_edges ks) i))
      ∙ into-step (is_joined ks i) (G (component_of (link_edges ks) i)) (S (component_of (link_edges ks) i)))))

  pub serial-into : (passing : List ℕ) → Passed limits dirs g l regions firsts seconds passing count → 0 < n → (i : ℕ) → i < n →
      serial_into limits n own bits lowers highers regions firsts seconds count passing chosen joined parts i ≡ cond
      (taken n ks (accepts_serial limits dirs g l) i) (retained limits l (own_group n ks i).ranks) 256
  unfolding serial_into
  serial-into passing passed some i h =
      into-by (λ c. serial_in limits own lowers highers regions firsts seconds passing (ranks_in n joined parts c) (numbers_in count chosen firsts parts c))
      (λ c. accepts_serial limits dirs g l (group_at n ks c))
      (λ c. retained_in limits own bits (ranks_in n joined parts c)) (λ c. retained limits l (group_at n ks c).ranks)
      (λ c. sym (serial-is told (ranks_in n joined parts c) (inside c) regions firsts seconds (numbers_in count chosen firsts parts c) limits count some
      (below c)
      (λ k b. (ranked.first-in k b, ranked.second-in k b)) passing passed)
      ∙ ap (accepts_serial limits dirs g l) (sym (group-by regions firsts seconds chosen count few ranked parted marked c)))
      retained-at i h

  pub flat-into : (i : ℕ) → i < n →
      flat_into limits n own bits lowers highers regions firsts seconds count chosen joined parts i ≡ cond (taken n ks (accepts_flat limits dirs g l) i)
      (retained limits l (own_group n ks i).ranks) 256
  unfolding flat_into
  flat-into i h =
      into-by (λ c. flat_in limits own lowers highers regions firsts seconds (ranks_in n joined parts c) (numbers_in count chosen firsts parts c))
      (λ c. accepts_flat limits dirs g l (group_at n ks c))
      (λ c. retained_in limits own bits (ranks_in n joined parts c)) (λ c. retained limits l (group_at n ks c).ranks)
      (λ c. sym (flat-is told (ranks_in n joined parts c) (inside c) regions firsts seconds (numbers_in count chosen firsts parts c) limits)
      ∙ ap (accepts_flat limits dirs g l) (sym (group-by regions firsts seconds chosen count few ranked parted marked c)))
      retained-at i h
