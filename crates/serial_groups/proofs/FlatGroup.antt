-- The accepted flat groups are just those of document 01.
use mathlib.Core.Path.{◌≡◌, refl, sym, ◌∙◌}
use mathlib.Core.Logic.{◌↔◌}
use mathlib.Core.Bool.{Bool, true, false, not, ◌&&◌}
use mathlib.Core.List.{List, [], ◌∷◌, Memᴰ}
use Prim.Native.Nat.{ℕ}
use borrow.Author.Tests.{eqb-true, eq-eqb, not-true}
use lib.Dec.{eqb}
use lib.Ieee.{Float, lt}
use lib.ListN.{length}
use Rattle.order.specs.Lists.{has}
use Rattle.order.proofs.Bools.{clash, is_false, and_parts, and_both}
use Rattle.order.proofs.Keep.{keep-mem, mem-keep}
use Rattle.order.proofs.Numbers.{has-mem, mem-has}
use Rattle.length.specs.Floats.{◌⊕◌, ◌⊖◌}
use Rattle.position.specs.declared.WalkPosition.{WalkPosition}
use Rattle.grid.specs.Cells.{Grid, ramp_cell}
use Rattle.serial_links.specs.Limits.{Limits}
use Rattle.serial_links.specs.Geometry.{Vector, cell_centre, dot}
use Rattle.serial_links.specs.Link.{Link, Bounds}
use Rattle.serial_links.specs.Flat.{along_tolerance, across_tolerance, cell_reach, inside_on, inside_both, inside_flat}
use Rattle.context.specs.RegionStats.{elevation_kinds}
use Rattle.context.specs.Listing.{Item}
use Rattle.context.proofs.RegionStats.{region-cells-iff, ramp-iff}
use Rattle.context.proofs.Elevations.{one-elevation-iff}
use Rattle.order.specs.Tests.{every}
use Rattle.serial_groups.specs.Regions.{region_labels, cells_of, stats_of}
use Rattle.serial_groups.specs.Links.{LinkAt, links}
use Rattle.serial_groups.specs.Measuring.{value_of, stays_inside}
use Rattle.serial_groups.specs.Groups.{LinkGroup, groups_of, in_any_link_group}
use Rattle.serial_groups.specs.SimplePath.{simple_path}
use Rattle.serial_groups.specs.Serial.{serial_groups}
use Rattle.serial_groups.specs.Flat.{alike, is_flat, accepts_flat, is_left, is_flat_link, flat_links, flat_groups}
use Rattle.serial_groups.specs.LinkRule.{LiesIn}
use Rattle.serial_groups.specs.ConnectedPart.{ConnectedPart}
use Rattle.serial_groups.specs.FlatGroup.{StaysOn, InEnvelope, FlatRegion, LeftBySerial, FlatLink, FlatGroup}
use Rattle.order.proofs.Tests.{every-mem, mem-every, mem-any, any-mem}
use Rattle.serial_groups.proofs.LinkRule.{gives-iff}
use Rattle.serial_groups.proofs.SerialGroup.{chosen-parts, simple-chain, chain-simple, serial-iff}

-- two tests that both fail
neither : (s t : Bool) → (not s && not t ≡ true) ↔ ((s ≡ false) × (t ≡ false))
neither s t = (λ h. let p = and_parts (not s) (not t) h in (not-true s p.0, not-true t p.1), λ p. rw (p.0, p.1) refl)

stays-iff : (v : Vector) (b : Bounds) (tolerance : Float) (p : Vector) → (inside_on v b tolerance p ≡ true) ↔ StaysOn v b tolerance p
stays-iff v b tolerance p =
    let n = neither (lt (dot p v ⊖ cell_reach v) (b.low ⊖ tolerance)) (lt (b.high ⊕ tolerance) (dot p v ⊕ cell_reach v)) in
    (λ h. let q = n.0 h in record { not-below = q.0; not-above = q.1 }, λ w. n.1 (w.not-below, w.not-above))

envelope-iff : (limits : Limits) (link : Link) (p : Vector) → (inside_both limits link p ≡ true) ↔ InEnvelope limits link p
envelope-iff limits link p = (
  λ h.
      let q = and_parts (inside_on link.span_unit link.along along p) (inside_on link.span_normal link.across across p) h in
      record { along = s.0 q.0; across = t.0 q.1 },
  λ w. and_both (s.1 w.along) (t.1 w.across),
)
  where
    along : Float
    along = along_tolerance limits link

    across : Float
    across = across_tolerance limits

    s : (inside_on link.span_unit link.along along p ≡ true) ↔ StaysOn link.span_unit link.along along p
    s = stays-iff link.span_unit link.along along p

    t : (inside_on link.span_normal link.across across p ≡ true) ↔ StaysOn link.span_normal link.across across p
    t = stays-iff link.span_normal link.across across p

-- the test of a list of cells is that of each
module _ (limits : Limits) (link : Link) (columns : ℕ) where
  abbrev cell_inside : ℕ → Bool
  cell_inside c = inside_both limits link (cell_centre columns c)

  each-inside : {c : ℕ} {cs : List ℕ} → Memᴰ c cs → inside_flat limits link columns cs ≡ true → cell_inside c ≡ true
  unfolding inside_flat
  each-inside (Memᴰ.head {x = x} {xs = xs} e) h = rw e (and_parts (cell_inside x) (inside_flat limits link columns xs) h).0
  each-inside (Memᴰ.tail {x = x} {xs = xs} m) h = each-inside m (and_parts (cell_inside x) (inside_flat limits link columns xs) h).1

  inside-each : (cs : List ℕ) → ((c : ℕ) → Memᴰ c cs → cell_inside c ≡ true) → inside_flat limits link columns cs ≡ true
  unfolding inside_flat
  inside-each [] f = refl
  inside-each (c ∷ cs) f = and_both (f c (Memᴰ.head refl)) (inside-each cs (λ d m. f d (Memᴰ.tail m)))

module _ (dirs : List ℕ) (g : Grid) (l : List Item) where
  cells-iff : (r c : ℕ) → Memᴰ c (cells_of dirs g l r) ↔ LiesIn dirs g l r c
  unfolding cells_of
  cells-iff r c =
      let w = region-cells-iff (region_labels dirs g l) r c in
      (λ m. let p = w.0 m in record { on-map = p.0; labelled = p.1 }, λ p. w.1 (p.on-map, p.labelled))

  flat-region-iff : (r : ℕ) → (is_flat dirs g l r ≡ true) ↔ FlatRegion dirs g l r
  unfolding is_flat stats_of cells_of
  flat-region-iff r = (to, from)
    where
      to : is_flat dirs g l r ≡ true → FlatRegion dirs g l r
      to h =
          let p = and_parts (not (stats_of dirs g l r).has_ramp) (eqb (elevation_kinds (stats_of dirs g l r)) 1) h in
          let n = not-true (stats_of dirs g l r).has_ramp p.0 in
          let o = (one-elevation-iff g (region_labels dirs g l) r).0 (eqb-true (elevation_kinds (stats_of dirs g l r)) 1 p.1) in
          record {
            no-ramp = λ c w. is_false (ramp_cell g c) (λ e. clash ((ramp-iff g (region_labels dirs g l) r).1 (c, (cells-iff r c).1 w, e)) n);
            cell = o.cell;
            lies = (cells-iff r o.cell).0 o.inside;
            level = λ c w. o.all c ((cells-iff r c).1 w) ∙ sym o.is;
          }

      none : FlatRegion dirs g l r → (stats_of dirs g l r).has_ramp ≡ false
      none w =
          is_false (stats_of dirs g l r).has_ramp
          (λ h. let p = (ramp-iff g (region_labels dirs g l) r).0 h in clash p.2 (w.no-ramp p.0 ((cells-iff r p.0).0 p.1)))

      from : FlatRegion dirs g l r → is_flat dirs g l r ≡ true
      from w =
          let plain : not (stats_of dirs g l r).has_ramp ≡ true = rw (none w) refl in
          let o = (one-elevation-iff g (region_labels dirs g l) r).1 (record {
            level = _;
            cell = w.cell;
            inside = (cells-iff r w.cell).1 w.lies;
            is = refl;
            all = λ c m. w.level c ((cells-iff r c).0 m);
          }) in
          and_both plain (eq-eqb (elevation_kinds (stats_of dirs g l r)) 1 o)

module _ (limits : Limits) (dirs : List ℕ) (g : Grid) (anchors : List WalkPosition) (l : List Item) where
  left-iff : (i : ℕ) → (is_left limits dirs g anchors l i ≡ true) ↔ LeftBySerial limits dirs g anchors l i
  unfolding in_any_link_group
  left-iff i = (
    λ h a s m.
        clash (mem-any (λ (b : LinkGroup). has i b.ranks) ((serial-iff limits dirs g anchors l a).1 s) (mem-has i a.ranks m))
        (not-true (in_any_link_group (serial_groups limits dirs g anchors l) i) h),
    λ f. let n = is_false (in_any_link_group (serial_groups limits dirs g anchors l) i) (none f) in rw n refl,
  )
    where
      none : LeftBySerial limits dirs g anchors l i → in_any_link_group (serial_groups limits dirs g anchors l) i ≡ true → ⊥
      none f h =
          let w = any-mem (λ (b : LinkGroup). has i b.ranks) (serial_groups limits dirs g anchors l) h in
          f w.0 ((serial-iff limits dirs g anchors l w.0).0 w.1) (has-mem i w.0.ranks w.2)

  inside-iff : (k : LinkAt) →
      (stays_inside limits dirs g l k ≡ true) ↔ ((c : ℕ) → LiesIn dirs g l k.region c → InEnvelope limits (value_of l k) (cell_centre g.width c))
  unfolding stays_inside
  inside-iff k = (
    λ h c w. (cell c).0 (each-inside limits (value_of l k) g.width ((cells-iff dirs g l k.region c).1 w) h),
    λ f. inside-each limits (value_of l k) g.width (cells_of dirs g l k.region) (λ c m. (cell c).1 (f c ((cells-iff dirs g l k.region c).0 m))),
  )
    where
      cell : (c : ℕ) → (inside_both limits (value_of l k) (cell_centre g.width c) ≡ true) ↔ InEnvelope limits (value_of l k) (cell_centre g.width c)
      cell c = envelope-iff limits (value_of l k) (cell_centre g.width c)

  test_iff : (k : LinkAt) → (is_flat_link limits dirs g anchors l k ≡ true) ↔
      ((stays_inside limits dirs g l k ≡ true) × (is_flat dirs g l k.region ≡ true) × (is_left limits dirs g anchors l k.first ≡ true)
      × (is_left limits dirs g anchors l k.second ≡ true) × (alike limits l k.first k.second ≡ true))
  unfolding is_flat_link
  test_iff k = (
    λ h.
        let p = and_parts (inside && flat) ((one && other) && like) h in
        let q = and_parts inside flat p.0 in
        let u = and_parts (one && other) like p.1 in
        let v = and_parts one other u.0 in
        (q.0, q.1, v.0, v.1, u.1),
    λ p. and_both (and_both p.0 p.1) (and_both (and_both p.2 p.3) p.4),
  )
    where
      inside : Bool
      inside = stays_inside limits dirs g l k

      flat : Bool
      flat = is_flat dirs g l k.region

      one : Bool
      one = is_left limits dirs g anchors l k.first

      other : Bool
      other = is_left limits dirs g anchors l k.second

      like : Bool
      like = alike limits l k.first k.second

  flat-link-iff : (k : LinkAt) → Memᴰ k (flat_links limits dirs g anchors l) ↔ FlatLink limits dirs g anchors l k
  unfolding flat_links
  flat-link-iff k = (
    λ m.
        let p = keep-mem (is_flat_link limits dirs g anchors l) (links dirs g anchors l) m in
        let t = (test_iff k).0 p.1 in
        record {
          gives = (gives-iff dirs g anchors l k).0 p.0;
          envelope = (inside-iff k).0 t.0;
          flat = (flat-region-iff dirs g l k.region).0 t.1;
          first-left = (left-iff k.first).0 t.2;
          second-left = (left-iff k.second).0 t.3;
          alike = t.4;
        },
    λ w.
        mem-keep (is_flat_link limits dirs g anchors l) ((gives-iff dirs g anchors l k).1 w.gives)
        ((test_iff k).1 (
          (inside-iff k).1 w.envelope,
          (flat-region-iff dirs g l k.region).1 w.flat,
          (left-iff k.first).1 w.first-left,
          (left-iff k.second).1 w.second-left,
          w.alike,
        )),
  )

  flat-parts : (a : LinkGroup) → Memᴰ a (groups_of (length l) (flat_links limits dirs g anchors l)) ↔ ConnectedPart (FlatLink limits dirs g anchors l) a
  unfolding flat_links
  flat-parts = chosen-parts dirs g anchors l (is_flat_link limits dirs g anchors l) flat-link-iff

  -- an accepted flat group is just what document 01 calls one
  pub flat-iff : (a : LinkGroup) → Memᴰ a (flat_groups limits dirs g anchors l) ↔ FlatGroup limits dirs g anchors l a
  unfolding flat_groups accepts_flat
  flat-iff a = (to, from)
    where
      path : Bool
      path = simple_path limits dirs g l 2 a

      to : Memᴰ a (flat_groups limits dirs g anchors l) → FlatGroup limits dirs g anchors l a
      to m =
          let k = keep-mem (accepts_flat limits dirs g l) (groups_of (length l) (flat_links limits dirs g anchors l)) m in
          let p = (flat-parts a).0 k.0 in
          let q = and_parts path (every (λ i. every (alike limits l i) a.ranks) a.ranks) k.1 in
          record {
            part = p;
            chain = simple-chain dirs g anchors l limits (λ (j : LinkAt) w. w.gives) 2 p q.0;
            alike = λ i j x y. every-mem (alike limits l i) y (every-mem (λ h. every (alike limits l h) a.ranks) x q.1);
          }

      from : FlatGroup limits dirs g anchors l a → Memᴰ a (flat_groups limits dirs g anchors l)
      from w =
          mem-keep (accepts_flat limits dirs g l) ((flat-parts a).1 w.part)
          (and_both (chain-simple dirs g anchors l limits (λ (j : LinkAt) v. v.gives) 2 w.part w.chain)
          (mem-every (λ i. every (alike limits l i) a.ranks) a.ranks (λ i x. mem-every (alike limits l i) a.ranks (λ j y. w.alike i j x y))))
