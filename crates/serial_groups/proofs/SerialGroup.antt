-- The accepted serial groups are just those of document 01.
use mathlib.Core.Path.{◌≡◌, refl, sym, subst}
use mathlib.Core.Logic.{◌↔◌, ⊎_elim}
use mathlib.Core.Bool.{Bool, true, ◌&&◌}
use mathlib.Core.List.{List, Memᴰ}
use Prim.Native.Nat.{ℕ, ◌<◌}
use native.Mathlib.Omega.{arith}
use lib.Ieee.{Float, le}
use lib.ListN.{length}
use Rattle.order.specs.Lists.{keep}
use Rattle.order.proofs.Bools.{clash, and_parts, and_both}
use Rattle.order.proofs.Keep.{keep-mem, mem-keep, keep-pairs}
use Rattle.position.specs.declared.WalkPosition.{WalkPosition}
use Rattle.graph.proofs.Bridges.{bridge-iff}
use Rattle.grid.specs.Cells.{Grid}
use Rattle.areas.specs.Assessments.{records}
use Rattle.serial_links.specs.Limits.{Limits}
use Rattle.serial_links.specs.Measure.{Measured, empty, within, beyond, passing}
use Rattle.context.specs.Listing.{Item}
use Rattle.order.specs.Tests.{every}
use Rattle.serial_groups.specs.Listing.{spans_of}
use Rattle.serial_groups.specs.Regions.{assess_at, bridge_at}
use Rattle.serial_groups.specs.Links.{LinkAt, links}
use Rattle.serial_groups.specs.Measuring.{measured_at, passes}
use Rattle.serial_groups.specs.Groups.{LinkGroup, groups_of}
use Rattle.serial_groups.specs.SimplePath.{first_end, last_end, simple_path}
use Rattle.serial_groups.specs.Serial.{rank_distance, chain_sum, end_distance, accepts_serial, serial_links, serial_groups}
use Rattle.serial_groups.specs.LinkRule.{Touches, FullPair, Gives}
use Rattle.serial_groups.specs.ConnectedPart.{LinkJoins, LinkOf, ConnectedPart}
use Rattle.serial_groups.specs.Chain.{Chain}
use Rattle.serial_groups.specs.SerialGroup.{SerialLink, Passes, SerialGroup}
use Rattle.order.proofs.Tests.{every-mem, mem-every}
use Rattle.serial_groups.proofs.Links.{links-rising}
use Rattle.serial_groups.proofs.SimplePath.{simple-path-iff}
use Rattle.serial_groups.proofs.LinkRule.{gives-iff}
use Rattle.serial_groups.proofs.ConnectedPart.{part-link, parts-iff}
use Rattle.serial_groups.proofs.Chain.{path-chain, chain-ends, chain-path}

module _ (dirs : List ℕ) (g : Grid) (anchors : List WalkPosition) (l : List Item) where
  -- the ranks of a link have a full pair and touch its region
  gives-full : {k : LinkAt} → Gives dirs g anchors l k → (i : ℕ) → LinkJoins k i → FullPair (assess_at dirs g l i) × Touches (assess_at dirs g l i) k.region
  gives-full {k} w i e = (
    ⊎_elim (λ (f : i ≡ k.first). rw f w.first-linkable.full) (λ (f : i ≡ k.second). rw f w.second-linkable.full) e,
    ((w.touching i).1 e).1,
  )

  -- the groups of the links that a test chooses are the connected parts of those that it stands for
  pub chosen-parts : {L : LinkAt → Type 0} (t : LinkAt → Bool) → ((k : LinkAt) → Memᴰ k (keep t (links dirs g anchors l)) ↔ L k) →
      (a : LinkGroup) → Memᴰ a (groups_of (length l) (keep t (links dirs g anchors l))) ↔ ConnectedPart L a
  chosen-parts t is = parts-iff (length l) (keep t (links dirs g anchors l)) is inside (keep-pairs t (links-rising dirs g anchors l))
    where
      inside : (k : LinkAt) → Memᴰ k (keep t (links dirs g anchors l)) → (k.first < length l) × (k.second < length l)
      inside k m = let w = (gives-iff dirs g anchors l k).0 (keep-mem t (links dirs g anchors l) m).0 in (omega (arith, w.rising, w.below), w.below)

  -- a connected part of links is a simple path exactly if it is a chain, with the ends that are searched for
  module _ (limits : Limits) {L : LinkAt → Type 0} (gives : (k : LinkAt) → L k → Gives dirs g anchors l k) (least : ℕ) {a : LinkGroup}
      (p : ConnectedPart L a) where
    part-full : (k : LinkAt) → LinkOf a k → (i : ℕ) → LinkJoins k i → FullPair (assess_at dirs g l i) × Touches (assess_at dirs g l i) k.region
    part-full k h i e = gives-full (gives k (part-link p k h)) i e

    pub simple-chain : simple_path limits dirs g l least a ≡ true → Chain limits dirs g l least a
    simple-chain h = path-chain a p.by-region p.ascending limits dirs g l least part-full ((simple-path-iff limits dirs g l least a).0 h)

    pub chain-simple : Chain limits dirs g l least a → simple_path limits dirs g l least a ≡ true
    chain-simple c = (simple-path-iff limits dirs g l least a).1 (chain-path a p.by-region p.ascending limits dirs g l least part-full c)

    pub same_ends_lem : (c : Chain limits dirs g l least a) → (first_end a ≡ c.first) × (last_end a ≡ c.last)
    same_ends_lem c = chain-ends a p.by-region p.ascending limits dirs g l least part-full c

  abbrev two_bridges : LinkAt → Bool
  two_bridges k = bridge_at dirs g l k.first && bridge_at dirs g l k.second

  serial-link-iff : (k : LinkAt) → Memᴰ k (keep two_bridges (links dirs g anchors l)) ↔ SerialLink dirs g anchors l k
  unfolding bridge_at
  serial-link-iff k = (
    λ m.
        let p = keep-mem two_bridges (links dirs g anchors l) m in
        let b = and_parts (bridge_at dirs g l k.first) (bridge_at dirs g l k.second) p.1 in
        record {
          gives = (gives-iff dirs g anchors l k).0 p.0;
          first-bridge = (bridge-iff (records dirs g (spans_of l)) k.first).0 b.0;
          second-bridge = (bridge-iff (records dirs g (spans_of l)) k.second).0 b.1;
        },
    λ w.
        mem-keep two_bridges ((gives-iff dirs g anchors l k).1 w.gives)
        (and_both ((bridge-iff (records dirs g (spans_of l)) k.first).1 w.first-bridge)
        ((bridge-iff (records dirs g (spans_of l)) k.second).1 w.second-bridge)),
  )

  serial-parts : (a : LinkGroup) → Memᴰ a (groups_of (length l) (serial_links dirs g anchors l)) ↔ ConnectedPart (SerialLink dirs g anchors l) a
  unfolding serial_links
  serial-parts = chosen-parts two_bridges serial-link-iff

-- only `within` passes
passing-within : (m : Measured) → passing m ≡ true → (t : Float) × (e : Float) × (m ≡ within t e)
passing-within empty h = clash h refl
passing-within (within t e) h = (t, e, refl)
passing-within (beyond t e) h = clash h refl

-- equal ends are equally far apart
from-ends : (l : List Item) (most : Float) {i j x y : ℕ} → i ≡ x → j ≡ y → le (rank_distance l i j) most ≡ true → le (rank_distance l x y) most ≡ true
from-ends l most {j = j} {x = x} e f h =
    subst (λ (v : ℕ). le (rank_distance l x v) most ≡ true) f (subst (λ (v : ℕ). le (rank_distance l v j) most ≡ true) e h)

module _ (limits : Limits) (dirs : List ℕ) (g : Grid) (anchors : List WalkPosition) (l : List Item) where
  passes-iff : (k : LinkAt) → (passes limits dirs g l k ≡ true) ↔ Passes limits dirs g l k
  unfolding passes measured_at
  passes-iff k = (
    λ h. let w = passing-within (measured_at limits dirs g l k) h in record { transverse = w.0; longitudinal = w.1; is = w.2 },
    λ w. rw w.is refl,
  )

  -- an accepted serial group is just what document 01 calls one
  pub serial-iff : (a : LinkGroup) → Memᴰ a (serial_groups limits dirs g anchors l) ↔ SerialGroup limits dirs g anchors l a
  unfolding serial_groups accepts_serial chain_sum end_distance
  serial-iff a = (to, from)
    where
      tests : Bool
      tests = every (passes limits dirs g l) a.links

      path : Bool
      path = simple_path limits dirs g l limits.least_spans a

      sum : Bool
      sum = le (chain_sum l a) limits.chain

      ends : Bool
      ends = le (end_distance l a) limits.chain

      to : Memᴰ a (serial_groups limits dirs g anchors l) → SerialGroup limits dirs g anchors l a
      to m =
          let k = keep-mem (accepts_serial limits dirs g l) (groups_of (length l) (serial_links dirs g anchors l)) m in
          let p = (serial-parts dirs g anchors l a).0 k.0 in
          let q = and_parts (tests && path) (sum && ends) k.1 in
          let u = and_parts tests path q.0 in
          let v = and_parts sum ends q.1 in
          let c = simple-chain dirs g anchors l limits (λ (j : LinkAt) w. w.gives) limits.least_spans p u.1 in
          let e = same_ends_lem dirs g anchors l limits (λ (j : LinkAt) w. w.gives) limits.least_spans p c in
          record {
            part = p;
            passing = λ j h. (passes-iff j).0 (every-mem (passes limits dirs g l) h u.0);
            chain = c;
            sum = v.0;
            ends = from-ends l limits.chain e.0 e.1 v.1;
          }

      from : SerialGroup limits dirs g anchors l a → Memᴰ a (serial_groups limits dirs g anchors l)
      from w =
          let e = same_ends_lem dirs g anchors l limits (λ (j : LinkAt) v. v.gives) limits.least_spans w.part w.chain in
          let far : ends ≡ true = from-ends l limits.chain (sym e.0) (sym e.1) w.ends in
          mem-keep (accepts_serial limits dirs g l) ((serial-parts dirs g anchors l a).1 w.part)
          (and_both
          (and_both (mem-every (passes limits dirs g l) a.links (λ j h. (passes-iff j).1 (w.passing j h)))
          (chain-simple dirs g anchors l limits (λ (j : LinkAt) v. v.gives) limits.least_spans w.part w.chain))
          (and_both w.sum far))
