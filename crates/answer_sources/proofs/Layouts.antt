-- The parts of one boundary more.
use mathlib.Core.Path.{◌≡◌, refl, sym, ◌∙◌, ap, subst}
use mathlib.Core.Logic.{◌≢◌, by_cases, inl}
use mathlib.Core.List.{List}
use Prim.Native.Nat.{ℕ, suc, ◌+◌, ◌*◌, ◌≤◌, ◌<◌}
use native.Mathlib.Decide.{ℕ_discrete}
use native.Mathlib.Omega.{arith}
use lib.ListN.{length, get_or, set, length-set, replicate}
use lib.Seq.{get_or-set_same, get_or-set_other}
use Rattle.lists.specs.Rows.{rows, sum}
use Rattle.lists.proofs.Rows.{sum-last, sum-prefix, zero-at}
use Rattle.answer_sources.specs.Laying.{sum_below, Apart, Lays, LayRoom, LaidOut, Layout, LaidAll, Countable, PlanRoom, own_count, seen_count}
use Rattle.answer_sources.specs.Laying.{cited_count, stood}
use Rattle.answer_sources.proofs.Lays.{below_next, apart_next}

pub below_none : (f : ℕ → ℕ) → sum_below f 0 ≡ 0
unfolding rows sum
below_none f = refl

below_suc : (f : ℕ → ℕ) (i : ℕ) → sum_below f (suc i) ≡ sum_below f i + f i
below_suc f i = sum-last i f

pub apart-wider : {starts counts : List ℕ} {r t : ℕ} → Apart starts counts r → r ≤ t → Apart starts counts t
apart-wider a h = record { ends = λ q. omega (arith, a.ends q); apart = a.apart }

pub layout-start : (stands s : List ℕ) (at ats : ℕ) {base n : ℕ} {firsts starts counts : List ℕ} → PlanRoom base n firsts starts counts
    → Layout stands (own_count s at) (seen_count s at) (cited_count s ats) base n firsts starts counts 0 0 0
layout-start stands s at ats g = record {
  place = sym (below_none (seen_count s at));
  running = omega (arith, below_none (own_count s at), below_none (cited_count s ats));
  laid = record {
    first-there = λ b h. absurd (omega arith);
    own-start = λ b h. absurd (omega arith);
    own-count = λ b h. absurd (omega arith);
    cited-start = λ b k h. absurd (omega arith);
    cited-count = λ b k h. absurd (omega arith);
  };
  clear = g.clear;
  firsts-room = g.firsts-room;
  starts-room = g.starts-room;
  counts-room = g.counts-room;
}

-- What the limits leave at boundary b.
module _ {stands s : List ℕ} {at n ats base : ℕ} (g : Countable s at n ats base) {firsts starts counts : List ℕ} {b p run : ℕ}
    (l : Layout stands (own_count s at) (seen_count s at) (cited_count s ats) base n firsts starts counts b p run) (h : b < n) where
  pub observations-below : p + seen_count s at b ≤ base
  observations-below =
      let m = sum-prefix (b + 1) n (seen_count s at) (omega arith) in
      omega (arith, below_next (seen_count s at) b, l.place, g.observations-fit)

  pub observations-inside : ats + (p + seen_count s at b) * 28 ≤ length s
  observations-inside =
      let m = sum-prefix (b + 1) n (seen_count s at) (omega arith) in
      omega (arith, below_next (seen_count s at) b, l.place, g.observations-in)

  pub sources-fit : run + own_count s at b + sum_below (cited_count s ats) (p + seen_count s at b) ≤ 4096 + sum_below (cited_count s ats) p
  sources-fit =
      let m = sum-prefix (b + 1) n (seen_count s at) (omega arith) in
      let o = sum-prefix (b + 1) n (own_count s at) (omega arith) in
      let e = below_next (seen_count s at) b in
      let f = below_next (own_count s at) b in
      let q = sum-prefix (p + seen_count s at b) (sum_below (seen_count s at) n) (cited_count s ats) (omega (arith, l.place)) in
      omega (arith, l.running, g.source-limit)

  pub own-fits : run + own_count s at b ≤ 4096
  own-fits =
      let q = sum-prefix p (p + seen_count s at b) (cited_count s ats) (omega arith) in
      omega (arith, sources-fit)

  pub places-fit : p ≤ 1024
  places-fit = omega (arith, observations-below, g.observation-limit)

  pub own-place : base + b < 1280
  own-place = omega (arith, g.boundary-limit, g.observation-limit)

  -- the room for its observations, once its own sources are laid: o of them, of which v are a part
  pub room_for : {o v w r : ℕ} → o ≡ own_count s at b → v ≤ o → w ≡ seen_count s at b → r ≡ run + o
      → LayRoom s ats p w r (set starts (base + b) run) (set counts (base + b) v)
  room_for {o} {v} {w} {r} x u y z = record {
    inside = rw y observations-inside;
    starts-room = simp length-set (omega (arith, l.starts-room, observations-below));
    counts-room = simp length-set (omega (arith, l.counts-room, observations-below));
    small = rw (z, x, y) sources-fit;
    clear = apart-wider (apart_next v l.clear (omega (arith, l.starts-room)) (omega (arith, l.counts-room))) (omega (arith, u, z));
  }

  module _ {o v w r : ℕ} {starts' counts' : List ℕ} (x : o ≡ own_count s at b) (u : v ≡ stood stands (own_count s at) b) (y : w ≡ seen_count s at b)
      (t : Lays (cited_count s ats) p w (run + o) (set starts (base + b) run) (set counts (base + b) v) starts' counts' r) where
    abbrev own : ℕ → ℕ
    own = own_count s at

    abbrev seen : ℕ → ℕ
    seen = seen_count s at

    abbrev cited : ℕ → ℕ
    cited = cited_count s ats

    fit : p + w ≤ base
    fit = rw y observations-below

    earlier : (c k : ℕ) → c < b → k < seen c → sum_below seen c + k < p
    earlier c k i j =
        let m = sum-prefix (c + 1) b seen (omega arith) in
        omega (arith, below_next seen c, l.place)

    own-kept : (c : ℕ) → c ≢ b → (get_or starts' (base + c) 0 ≡ get_or starts (base + c) 0) × (get_or counts' (base + c) 0 ≡ get_or counts (base + c) 0)
    own-kept c i = (
      t.start-after (base + c) (omega (arith, fit)) ∙ get_or-set_other starts (base + b) (base + c) run 0 (λ e. i (omega arith)),
      t.count-after (base + c) (omega (arith, fit)) ∙ get_or-set_other counts (base + b) (base + c) v 0 (λ e. i (omega arith)),
    )

    own_new : (get_or starts' (base + b) 0 ≡ run) × (get_or counts' (base + b) 0 ≡ v)
    own_new = (
      t.start-after (base + b) (omega (arith, fit)) ∙ get_or-set_same starts (base + b) run 0 (omega (arith, l.starts-room)),
      t.count-after (base + b) (omega (arith, fit)) ∙ get_or-set_same counts (base + b) v 0 (omega (arith, l.counts-room)),
    )

    cited-kept : (q : ℕ) → q < p → (get_or starts' q 0 ≡ get_or starts q 0) × (get_or counts' q 0 ≡ get_or counts q 0)
    cited-kept q i = (
      t.start-before q i ∙ get_or-set_other starts (base + b) q run 0 (λ e. omega (arith, observations-below)),
      t.count-before q i ∙ get_or-set_other counts (base + b) q v 0 (λ e. omega (arith, observations-below)),
    )

    cited-new : (k : ℕ) → k < seen b → (get_or starts' (p + k) 0 ≡ sum_below own (suc b) + sum_below cited (p + k)) × (get_or counts' (p + k) 0 ≡ cited (p + k))
    cited-new k i = (omega (arith, t.start-there k (rw y i), l.running, below_suc own b, x), t.count-there k (rw y i))

    laid_next : LaidOut stands own seen cited base (b + 1) (set firsts b p) starts' counts'
    laid_next = record {
      first-there = λ c i.
          by_cases (ℕ_discrete c b)
          (λ e. rw e (get_or-set_same firsts b p 0 (omega (arith, l.firsts-room)) ∙ l.place))
          (λ d. get_or-set_other firsts b c p 0 d ∙ l.laid.first-there c (omega arith));
      own-start = λ c i.
          by_cases (ℕ_discrete c b)
          (λ e. rw e (own_new.0 ∙ l.running ∙ ap (λ (z : ℕ). sum_below own b + sum_below cited z) l.place))
          (λ d. (own-kept c d).0 ∙ l.laid.own-start c (omega arith));
      own-count = λ c i.
          by_cases (ℕ_discrete c b)
          (λ e. rw e (own_new.1 ∙ u))
          (λ d. (own-kept c d).1 ∙ l.laid.own-count c (omega arith));
      cited-start = λ c k i j.
          by_cases (ℕ_discrete c b)
          (λ e. rw (e, ← l.place) (cited-new k (rw (← e) j)).0)
          (λ d. (cited-kept (sum_below seen c + k) (earlier c k (omega arith) j)).0 ∙ l.laid.cited-start c k (omega arith) j);
      cited-count = λ c k i j.
          by_cases (ℕ_discrete c b)
          (λ e. rw (e, ← l.place) (cited-new k (rw (← e) j)).1)
          (λ d. (cited-kept (sum_below seen c + k) (earlier c k (omega arith) j)).1 ∙ l.laid.cited-count c k (omega arith) j);
    }

    -- the layout of one more
    pub layout-next : Layout stands own seen cited base n (set firsts b p) starts' counts' (b + 1) (p + w) r
    layout-next = record {
      place = omega (arith, below_next seen b, l.place, y);
      running = omega (arith, t.end, l.running, below_next own b, x);
      laid = laid_next;
      clear = t.clear;
      firsts-room = simp length-set l.firsts-room;
      starts-room = rw t.starts-long (simp length-set l.starts-room);
      counts-room = rw t.counts-long (simp length-set l.counts-room);
    }

pub layout-end : {stands s : List ℕ} {at n ats base : ℕ} → Countable s at n ats base → {firsts starts counts : List ℕ} {b p run : ℕ}
    → Layout stands (own_count s at) (seen_count s at) (cited_count s ats) base n firsts starts counts b p run → b ≤ n → n ≤ b
    → LaidAll stands (own_count s at) (seen_count s at) (cited_count s ats) base n firsts starts counts
layout-end {stands} {s} {at} {n} {ats} {base} g {firsts} {starts} {counts} {b} {p} {run} l h k =
    let e : b ≡ n = omega arith in
    let d : run ≡ sum_below (own_count s at) n + sum_below (cited_count s ats) (sum_below (seen_count s at) n) = rw (← e, ← l.place) l.running in
    record {
      laid = subst (λ (z : ℕ). LaidOut stands (own_count s at) (seen_count s at) (cited_count s ats) base z firsts starts counts) e l.laid;
      clear = apart-wider l.clear (omega (arith, d));
    }

-- Nothing is laid yet.
pub apart_none : (n k : ℕ) → Apart (replicate n 0) (replicate k 0) 0
apart_none n k = record {
  ends = λ q. omega (arith, zero-at n q, zero-at k q);
  apart = λ q w d. inl (omega (arith, zero-at n q, zero-at k q));
}
