-- One kept rank after another.
use mathlib.Core.Path.{◌≡◌, refl, sym, ◌∙◌, ap, subst}
use mathlib.Core.Logic.{by_cases}
use mathlib.Core.Bool.{Bool, true, false, cond}
use mathlib.Core.List.{List, [], ◌∷◌, ◌++◌, map, append-nil, map-append}
use Prim.Native.Nat.{ℕ, ◌+◌, ◌-◌, ◌*◌, ◌≤◌, ◌<◌}
use native.Mathlib.Decide.{dec_lt}
use native.Mathlib.Omega.{arith}
use borrow.Author.Tests.{eq-eqb, ne_eqb}
use lib.Dec.{eqb}
use lib.ListN.{length, get_or, set, length-map, get_or-append}
use lib.Seq.{get_or-set_same, get_or-set_other, get_or_at}
use Rattle.lists.specs.Rows.{sum}
use Rattle.lists.proofs.Rows.{rows_same, sum-prefix}
use Rattle.order.specs.Lists.{keep, gather, up_from}
use Rattle.order.specs.Keys.{sort_by}
use Rattle.order.proofs.Gather.{gather-last}
use Rattle.wire.specs.Bytes.{AreBytes}
use Rattle.format.specs.Sizes.{source_size}
use Rattle.format.specs.Records.{source_at}
use Rattle.format.specs.declared.records.Source.{Source}
use Rattle.serial_merging.specs.Keys.{source_key}
use Rattle.answer_sorting.specs.Parts.{placed_sources}
use Rattle.answer_firsts.specs.Links.{Linked}
use Rattle.answer_firsts.proofs.Firsts.{linked-new, firsts-sorted}
use Rattle.answer_sources.specs.Laying.{sum_below, elements}
use Rattle.answer_sources.proofs.Lays.{below_next}
use Rattle.answer_sources.proofs.Layouts.{below_none}
use Rattle.answer_sources.proofs.Stands.{keep-last}
use Rattle.answer_gathering.specs.Runs.{Prefix, Appended, kept_ranks, own_run, seen_run, own_weight, seen_weight, into, FirstsBy, OwnsBy, SeensBy}
use Rattle.answer_gathering.specs.Runs.{seen_total}
use Rattle.answer_gathering.proofs.Fills.{filled-start, filled_is, filled_put, filled-then}
use Rattle.answer_gathering.proofs.Weights.{lower-next, lower-all}

ranks-none : (plan : List ℕ) → kept_ranks plan 0 ≡ []
unfolding kept_ranks keep up_from
ranks-none plan = refl

ranks-last : (plan : List ℕ) (i : ℕ) → kept_ranks plan (i + 1) ≡ kept_ranks plan i ++ cond (eqb (get_or plan i 0) i) (i ∷ []) []
unfolding kept_ranks
ranks-last plan i = keep-last (λ j. eqb (get_or plan j 0) j) i

module _ (plan : List ℕ) (i : ℕ) {z : ℕ} (e : z ≡ get_or plan i 0) where
  module _ (d : z ≡ i → ⊥) where
    test-off : eqb (get_or plan i 0) i ≡ false
    test-off = ne_eqb (get_or plan i 0) i (λ q. d (e ∙ q))

    ranks-off : kept_ranks plan (i + 1) ≡ kept_ranks plan i
    ranks-off = ranks-last plan i ∙ (ap (λ (b : Bool). kept_ranks plan i ++ cond b (i ∷ []) []) test-off ∙ append-nil (kept_ranks plan i))

    count-off : (k : ℕ) → k + cond (eqb (get_or plan i 0) i) 1 0 ≡ k
    count-off k = ap (λ (b : Bool). k + cond b 1 0) test-off ∙ omega arith

  module _ (d : z ≡ i) where
    test_on : eqb (get_or plan i 0) i ≡ true
    test_on = eq-eqb (get_or plan i 0) i (sym e ∙ d)

    ranks-on : kept_ranks plan (i + 1) ≡ kept_ranks plan i ++ (i ∷ [])
    ranks-on = ranks-last plan i ∙ ap (λ (b : Bool). kept_ranks plan i ++ cond b (i ∷ []) []) test_on

    count-on : (k : ℕ) → k + cond (eqb (get_or plan i 0) i) 1 0 ≡ k + 1
    count-on k = ap (λ (b : Bool). k + cond b 1 0) test_on

    put_on : {l : List ℕ} {k v : ℕ} (f : ℕ → ℕ) → Prefix l k (map f (kept_ranks plan i)) → k < length l → v ≡ f i
        → Prefix (set l k v) (k + cond (eqb (get_or plan i 0) i) 1 0) (map f (kept_ranks plan (i + 1)))
    put_on {l} {k} {v} f a h q =
        filled_is (filled_put v a h) (sym (count-on k))
        (ap (λ (y : ℕ). map f (kept_ranks plan i) ++ (y ∷ [])) q ∙ (sym (map-append f (kept_ranks plan i) (i ∷ [])) ∙ ap (map f) (sym ranks-on)))

    then-on : {l m : List ℕ} {a r : ℕ} (f : ℕ → List ℕ) → Prefix l a (gather f (kept_ranks plan i)) → Appended l a (f i) m r
        → Prefix m r (gather f (kept_ranks plan (i + 1)))
    then-on f a g = filled_is (filled-then a g) refl (sym (gather-last f (kept_ranks plan i) i) ∙ ap (gather f) (sym ranks-on))

-- The k kept ranks before rank i, and rank i itself, which goes where it stands.
module _ (plan : List ℕ) (i k : ℕ) {z : ℕ} (e : z ≡ get_or plan i 0) (d : z ≡ i) (many : k ≡ length (kept_ranks plan i)) where
  rank-before : (q : ℕ) → q < k → get_or (kept_ranks plan (i + 1)) q 0 ≡ get_or (kept_ranks plan i) q 0
  rank-before q h = ap (λ (l : List ℕ). get_or l q 0) (ranks-on plan i e d) ∙ get_or-append (kept_ranks plan i) (i ∷ []) 0 q (omega (arith, many))

  rank-here : get_or (kept_ranks plan (i + 1)) k 0 ≡ i
  rank-here = ap (λ (l : List ℕ). get_or l k 0) (ranks-on plan i e d) ∙ get_or_at (kept_ranks plan i) i [] 0 k (sym many)

-- The sum of what stands before a place that is written.
below_set : (l : List ℕ) (k v q : ℕ) → q ≤ k → sum_below (elements (set l k v)) q ≡ sum_below (elements l) q
below_set l k v q h = ap sum (rows_same q (elements (set l k v)) (elements l) (λ j c. get_or-set_other l k j v 0 (λ e. omega arith)))

-- Places that are as they were give the sources that they gave.
sources-same : (s : List ℕ) (from : ℕ) (owned owned' : List ℕ) (a : ℕ) → ((q : ℕ) → q < a → get_or owned' q 0 ≡ get_or owned q 0)
    → (b m : ℕ) → b + m ≤ a → placed_sources s from owned' b m ≡ placed_sources s from owned b m
sources-same s from owned owned' a old b m h =
    rows_same m (λ j. source_at s (from + get_or owned' (b + j) 0 * source_size)) (λ j. source_at s (from + get_or owned (b + j) 0 * source_size))
    (λ j c. ap (λ (p : ℕ). source_at s (from + p * source_size)) (old (b + j) (omega arith)))

module _ (s : List ℕ) (at from base : ℕ) (order plan starts : List ℕ) (heads n : ℕ) where
  abbrev run : ℕ → List Source
  run = own_run s at from base order plan starts n

  abbrev state : (i k a : ℕ) (kept owns links owned : List ℕ) → Type 0
  state = OwnsBy s at from base order plan starts heads n

  pub owns-start : (kept owns : List ℕ) {links owned : List ℕ} → Linked heads s from 0 0 links owned → state 0 0 0 kept owns links owned
  owns-start kept owns g = record {
    few = omega arith;
    kept_there = filled_is (filled-start kept) refl (sym (ap (map (λ j. get_or order j 0)) (ranks-none plan)));
    total = below_none (elements owns);
    owned-there = λ q h. absurd (omega arith);
    inside = λ q h. absurd (omega arith);
    linked = g;
    room = omega arith;
  }

  module _ {i k a : ℕ} {kept owns links owned : List ℕ} (t : state i k a kept owns links owned) {z : ℕ} (e : z ≡ get_or plan i 0) where
    pub owns-skip : (z ≡ i → ⊥) → state (i + 1) (k + cond (eqb (get_or plan i 0) i) 1 0) a kept owns links owned
    owns-skip d = subst (λ (y : ℕ). state (i + 1) y a kept owns links owned) (sym (count-off plan i e d k))
        (record {
          few = omega (arith, t.few);
          kept_there = filled_is t.kept_there refl (ap (map (λ j. get_or order j 0)) (sym (ranks-off plan i e d)));
          total = t.total;
          owned-there = λ q h. t.owned-there q h ∙ ap (λ (l : List ℕ). run (get_or l q 0)) (sym (ranks-off plan i e d));
          inside = t.inside;
          linked = t.linked;
          room = omega (arith, t.room, lower-next plan (own_weight s at order) i n);
        })

    module _ (d : z ≡ i) (bytes : AreBytes s) {p v r : ℕ} {links' owned' : List ℕ}
        (g : FirstsBy s at from base order plan starts heads a i n r owned links' owned')
        (h : k < length kept) (l : k < length owns) (x : p ≡ get_or order i 0) (y : v ≡ r - a) where
      many : k ≡ length (kept_ranks plan i)
      many = t.kept_there.many ∙ length-map (kept_ranks plan i) (λ j. get_or order j 0)

      abbrev sorted : ℕ → ℕ → List Source
      sorted b m = sort_by source_key (placed_sources s from owned' b m)

      -- those of the kept ranks before stay
      before-there : (q : ℕ) → q < k → sorted (sum_below (elements (set owns k v)) q) (get_or (set owns k v) q 0) ≡ run (get_or (kept_ranks plan (i + 1)) q 0)
      before-there q c =
          let end : sum_below (elements owns) q + get_or owns q 0 ≤ a
          = omega (arith, below_next (elements owns) q, sum-prefix (q + 1) k (elements owns) (omega arith), t.total) in
          ap (λ (b : ℕ). sorted b (get_or (set owns k v) q 0)) (below_set owns k v q (omega arith))
          ∙ (ap (sorted (sum_below (elements owns) q)) (get_or-set_other owns k q v 0 (λ f. omega arith))
          ∙ (ap (sort_by source_key) (sources-same s from owned owned' a g.old (sum_below (elements owns) q) (get_or owns q 0) end)
          ∙ (t.owned-there q c ∙ ap run (sym (rank-before plan i k e d many q c)))))

      -- those of rank i are the first of each kind
      here-there : sorted (sum_below (elements (set owns k v)) k) (get_or (set owns k v) k 0) ≡ run (get_or (kept_ranks plan (i + 1)) k 0)
      unfolding own_run
      here-there =
          ap (λ (b : ℕ). sorted b (get_or (set owns k v) k 0)) (below_set owns k v k (omega arith) ∙ t.total)
          ∙ (ap (sorted a) (get_or-set_same owns k v 0 l ∙ y) ∙ (firsts-sorted bytes g.firsts ∙ ap run (sym (rank-here plan i k e d many))))

      total_here : sum_below (elements (set owns k v)) (k + 1) ≡ r
      total_here = omega (
        arith,
        below_next (elements (set owns k v)) k,
        below_set owns k v k (omega arith),
        t.total,
        get_or-set_same owns k v 0 l,
        y,
        g.firsts.low,
      )

      pub owns-keep : state (i + 1) (k + cond (eqb (get_or plan i 0) i) 1 0) r (set kept k p) (set owns k v) links' owned'
      owns-keep = subst (λ (w : ℕ). state (i + 1) w r (set kept k p) (set owns k v) links' owned') (sym (count-on plan i e d k))
          (record {
            few = omega (arith, t.few);
            kept_there = filled_is (put_on plan i e d (λ j. get_or order j 0) t.kept_there h x) (count-on plan i e d k) refl;
            total = total_here;
            owned-there = λ q c. by_cases (dec_lt q k) (before-there q)
                (λ f. let w : k ≡ q = omega arith in
                subst (λ (b : ℕ). sorted (sum_below (elements (set owns k v)) b) (get_or (set owns k v) b 0) ≡ run (get_or (kept_ranks plan (i + 1)) b 0)) w
                here-there);
            inside = λ q c. by_cases (dec_lt q a) (λ f. rw (g.old q f) (t.inside q f))
                (λ f. omega (arith, g.firsts.linked.inside q (omega arith) c));
            linked = linked-new g.firsts.linked;
            room = omega (arith, t.room, g.room, lower-next plan (own_weight s at order) i n);
          })

  pub owns-end : {i k a : ℕ} {kept owns links owned : List ℕ} → state i k a kept owns links owned → i ≤ n → n ≤ i
      → state n k (sum_below (elements owns) k) kept owns links owned
  owns-end {i} {k} {a} {kept} {owns} {links} {owned} t h l =
      let e : i ≡ n = omega arith in
      subst (λ (y : ℕ). state n k y kept owns links owned) (sym t.total) (subst (λ (y : ℕ). state y k a kept owns links owned) e t)

-- What goes into rank i still fits.
pub owns-fit : {s order plan starts kept owns links owned : List ℕ} {at from base heads n i k a : ℕ}
    → OwnsBy s at from base order plan starts heads n i k a kept owns links owned
    → a + sum_below (into plan (own_weight s at order) i) n ≤ sum_below (own_weight s at order) n
owns-fit {s = s} {order = order} {plan = plan} {at = at} {n = n} {i = i} t =
    omega (arith, t.room, lower-next plan (own_weight s at order) i n, lower-all plan (own_weight s at order) (i + 1) n)

pub owns-counted : {s order plan starts kept owns links owned : List ℕ} {at from base heads n i v w a : ℕ} (k : ℕ) → w ≡ v
    → OwnsBy s at from base order plan starts heads n i (k + v) a kept owns links owned
    → OwnsBy s at from base order plan starts heads n i (k + w) a kept owns links owned
owns-counted k e t = rw e t

module _ (base : ℕ) (order plan firsts first second third starts counts keys : List ℕ) (count : ℕ → ℕ) (n : ℕ) where
  abbrev sights : ℕ → List ℕ
  sights = seen_run base order plan firsts first second third starts counts keys count n

  abbrev seen_state : ℕ → ℕ → ℕ → List ℕ → List ℕ → Type 0
  seen_state = SeensBy base order plan firsts first second third starts counts keys count n

  pub seens-start : (seens seen : List ℕ) → seen_state 0 0 0 seens seen
  unfolding gather
  seens-start seens seen = record {
    few = omega arith;
    seens-there = filled_is (filled-start seens) refl (sym (ap (map (λ j. length (sights j))) (ranks-none plan)));
    seen-there = filled_is (filled-start seen) refl (sym (ap (gather sights) (ranks-none plan)));
    room = omega arith;
  }

  module _ {i k a : ℕ} {seens seen : List ℕ} (s : seen_state i k a seens seen) {z : ℕ} (e : z ≡ get_or plan i 0) where
    pub seens-skip : (z ≡ i → ⊥) → seen_state (i + 1) (k + cond (eqb (get_or plan i 0) i) 1 0) a seens seen
    seens-skip d = record {
      few = omega (arith, count-off plan i e d k, s.few);
      seens-there = filled_is s.seens-there (sym (count-off plan i e d k)) (ap (map (λ j. length (sights j))) (sym (ranks-off plan i e d)));
      seen-there = filled_is s.seen-there refl (ap (gather sights) (sym (ranks-off plan i e d)));
      room = omega (arith, s.room, lower-next plan (seen_weight order count) i n);
    }

    pub seens-keep : z ≡ i → {v r : ℕ} {seen' : List ℕ} → Appended seen a (sights i) seen' r → r ≤ a + sum_below (into plan (seen_weight order count) i) n
        → k < length seens → v ≡ r - a → seen_state (i + 1) (k + cond (eqb (get_or plan i 0) i) 1 0) r (set seens k v) seen'
    seens-keep d g b l y = record {
      few = omega (arith, count-on plan i e d k, s.few);
      seens-there = put_on plan i e d (λ j. length (sights j)) s.seens-there l (omega (arith, y, g.ends));
      seen-there = then-on plan i e d sights s.seen-there g;
      room = omega (arith, s.room, b, lower-next plan (seen_weight order count) i n);
    }

  pub seens-end : {i k a : ℕ} {seens seen : List ℕ} → seen_state i k a seens seen → i ≤ n → n ≤ i
      → seen_state n k (seen_total base order plan firsts first second third starts counts keys count n) seens seen
  seens-end {i} {k} {a} {seens} {seen} s h l =
      let e : i ≡ n = omega arith in
      let d : a ≡ seen_total base order plan firsts first second third starts counts keys count n = s.seen-there.many
      ∙ ap (λ (y : ℕ). length (gather sights (kept_ranks plan y))) e in
      subst (λ (y : ℕ). seen_state n k y seens seen) d (subst (λ (y : ℕ). seen_state y k a seens seen) e s)

pub seens-fit : {base : ℕ} {order plan firsts first second third starts counts keys seens seen : List ℕ} {count : ℕ → ℕ} {n i k a : ℕ}
    → SeensBy base order plan firsts first second third starts counts keys count n i k a seens seen
    → a + sum_below (into plan (seen_weight order count) i) n ≤ sum_below (seen_weight order count) n
seens-fit {order = order} {plan = plan} {count = count} {n = n} {i = i} s =
    omega (arith, s.room, lower-next plan (seen_weight order count) i n, lower-all plan (seen_weight order count) (i + 1) n)

pub seens-counted : {base : ℕ} {order plan firsts first second third starts counts keys seens seen : List ℕ} {count : ℕ → ℕ} {n i v w a : ℕ} (k : ℕ) → w ≡ v
    → SeensBy base order plan firsts first second third starts counts keys count n i (k + v) a seens seen
    → SeensBy base order plan firsts first second third starts counts keys count n i (k + w) a seens seen
seens-counted k e s = rw e s
