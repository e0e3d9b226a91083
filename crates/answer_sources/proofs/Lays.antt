-- Parts laid side by side.
use mathlib.Core.Path.{◌≡◌, refl, sym, ◌∙◌, subst}
use mathlib.Core.Logic.{◌≢◌, by_cases, inl, inr}
use mathlib.Core.List.{List}
use Prim.Native.Nat.{ℕ, ◌+◌, ◌≤◌, ◌<◌}
use native.Mathlib.Decide.{ℕ_discrete}
use native.Mathlib.Numerals.{add-one}
use native.Mathlib.Omega.{arith}
use lib.ListN.{length, get_or, set, length-set}
use lib.Seq.{get_or-set_same, get_or-set_other}
use Rattle.lists.proofs.Rows.{sum-last, sum-prefix}
use Rattle.answer_sources.specs.Laying.{sum_below, Apart, Lays, LayRoom, cited_count}

pub below_next : (f : ℕ → ℕ) (i : ℕ) → sum_below f (i + 1) ≡ sum_below f i + f i
below_next f i = rw add-one (sum-last i f)

-- One more part, from where all the others end.
pub apart_next : {s c : List ℕ} {run p : ℕ} (v : ℕ) → Apart s c run → p < length s → p < length c → Apart (set s p run) (set c p v) (run + v)
apart_next {s} {c} {run} {p} v a h l =
    let x : get_or (set s p run) p 0 ≡ run = get_or-set_same s p run 0 h in
    let y : get_or (set c p v) p 0 ≡ v = get_or-set_same c p v 0 l in
    record {
      ends = λ q.
          by_cases (ℕ_discrete q p)
          (λ e. rw e (omega arith))
          (λ n. rw (get_or-set_other s p q run 0 n, get_or-set_other c p q v 0 n) (omega (arith, a.ends q)));
      apart = λ q w d.
          by_cases (ℕ_discrete q p)
          (λ e.
          let m : w ≢ p = λ f. d (e ∙ sym f) in
          inr (rw (e, x, get_or-set_other s p w run 0 m, get_or-set_other c p w v 0 m) (a.ends w)))
          (λ n.
          by_cases (ℕ_discrete w p)
          (λ f. inl (rw (f, x, get_or-set_other s p q run 0 n, get_or-set_other c p q v 0 n) (a.ends q)))
          (λ m. rw (get_or-set_other s p q run 0 n, get_or-set_other c p q v 0 n, get_or-set_other s p w run 0 m, get_or-set_other c p w v 0 m)
          (a.apart q w d)));
    }

pub lays-start : {s : List ℕ} {at p n run : ℕ} {starts counts : List ℕ} → LayRoom s at p n run starts counts
    → Lays (cited_count s at) p 0 run starts counts starts counts run
lays-start {s} {at} {p} {n} {run} g =
    let e : p + 0 ≡ p = omega arith in
    record {
      starts-long = refl;
      counts-long = refl;
      start-there = λ k h. absurd (omega arith);
      count-there = λ k h. absurd (omega arith);
      start-before = λ q h. refl;
      count-before = λ q h. refl;
      start-after = λ q h. refl;
      count-after = λ q h. refl;
      end = rw e;
      clear = g.clear;
    }

module _ {cited : ℕ → ℕ} {p i run : ℕ} {s₀ c₀ s c : List ℕ} {r : ℕ} where
  pub lays-next : (v : ℕ) → Lays cited p i run s₀ c₀ s c r → p + i < length s → p + i < length c → v ≡ cited (p + i)
      → Lays cited p (i + 1) run s₀ c₀ (set s (p + i) r) (set c (p + i) v) (r + v)
  lays-next v a h l z =
      let x : get_or (set s (p + i) r) (p + i) 0 ≡ r = get_or-set_same s (p + i) r 0 h in
      let y : get_or (set c (p + i) v) (p + i) 0 ≡ v = get_or-set_same c (p + i) v 0 l in
      let t : p + (i + 1) ≡ p + i + 1 = omega arith in
      let u = below_next cited (p + i) in
      let other : (q : ℕ) → q ≢ p + i → get_or (set s (p + i) r) q 0 ≡ get_or s q 0 = λ q n. get_or-set_other s (p + i) q r 0 n in
      let others : (q : ℕ) → q ≢ p + i → get_or (set c (p + i) v) q 0 ≡ get_or c q 0 = λ q n. get_or-set_other c (p + i) q v 0 n in
      record {
        starts-long = length-set s (p + i) r ∙ a.starts-long;
        counts-long = length-set c (p + i) v ∙ a.counts-long;
        start-there = λ k b.
            by_cases (ℕ_discrete k i)
            (λ e. rw (e, x) a.end)
            (λ n. rw (other (p + k) (λ f. n (omega arith))) (a.start-there k (omega arith)));
        count-there = λ k b.
            by_cases (ℕ_discrete k i)
            (λ e. rw (e, y) z)
            (λ n. rw (others (p + k) (λ f. n (omega arith))) (a.count-there k (omega arith)));
        start-before = λ q b. other q (λ f. omega arith) ∙ a.start-before q b;
        count-before = λ q b. others q (λ f. omega arith) ∙ a.count-before q b;
        start-after = λ q b. other q (λ f. omega arith) ∙ a.start-after q (omega arith);
        count-after = λ q b. others q (λ f. omega arith) ∙ a.count-after q (omega arith);
        end = rw t (omega (arith, a.end, u, z));
        clear = apart_next v a.clear h l;
      }

-- The next part ends within the limit.
pub lays-small : {s : List ℕ} {at p n run i r : ℕ} {starts counts s₀ c₀ s' c' : List ℕ} → LayRoom s at p n run starts counts
    → Lays (cited_count s at) p i run s₀ c₀ s' c' r → i < n
    → r + cited_count s at (p + i) ≤ 4096
lays-small {s} {at} {p} {n} {run} {i} {r} g a h =
    let u = below_next (cited_count s at) (p + i) in
    let m = sum-prefix (p + i + 1) (p + n) (cited_count s at) (omega arith) in
    omega (arith, a.end, g.small, u, m)

pub lays-end : {cited : ℕ → ℕ} {p i n run : ℕ} {s₀ c₀ s c : List ℕ} {r : ℕ} → Lays cited p i run s₀ c₀ s c r → i ≤ n → n ≤ i → Lays cited p n run s₀ c₀ s c r
lays-end {cited} {p} {i} {n} {run} {s₀} {c₀} {s} {c} {r} a h l = let e : i ≡ n = omega arith in subst (λ (k : ℕ). Lays cited p k run s₀ c₀ s c r) e a
