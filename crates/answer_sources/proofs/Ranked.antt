-- The ends and the width of one record more.
use mathlib.Core.Path.{◌≡◌, refl, sym, ◌∙◌, ap, subst}
use mathlib.Core.Logic.{by_cases}
use mathlib.Core.List.{List}
use Prim.Native.Nat.{ℕ, ◌+◌, ◌≤◌, ◌<◌}
use native.Mathlib.Decide.{ℕ_discrete}
use native.Mathlib.Omega.{arith}
use lib.ListN.{set, length-set}
use lib.Seq.{get_or-set_same, get_or-set_other}
use Rattle.position.specs.Order.{canonical}
use Rattle.position.specs.declared.Span.{Span}
use Rattle.length.specs.Total.{total_key}
use Rattle.order.specs.Keys.{pack}
use Rattle.answer_sources.specs.Packed.{KeyAt}
use Rattle.answer_sources.specs.Ranked.{RankRoom, RankKeys}

pub ranked-start : (ends : ℕ → Span) (bits : ℕ → ℕ) (from : ℕ) (first second third : List ℕ) → RankKeys ends bits from 0 first second third first second third
ranked-start ends bits from first second third = record {
  first-long = refl;
  second-long = refl;
  third-long = refl;
  there = λ k h. absurd (omega arith);
  first-before = λ q h. refl;
  second-before = λ q h. refl;
  third-before = λ q h. refl;
}

pub ranks-room : {f g h : List ℕ} {n k : ℕ} → RankRoom f g h n → k ≤ n → RankRoom f g h k
ranks-room r l = record { first-room = omega (arith, r.first-room); second-room = omega (arith, r.second-room); third-room = omega (arith, r.third-room) }

-- One record, at place q.
pub ranked-one : (ends : Span) (bits : ℕ) {f g h : List ℕ} {q x y z : ℕ} (e : Span) → RankRoom f g h (q + 1) → e ≡ canonical ends
    → x ≡ pack e.a.x e.a.y → y ≡ pack e.b.x e.b.y → z ≡ total_key bits → e.a.y < 0x1_0000_0000 → e.b.y < 0x1_0000_0000
    → RankKeys (λ k. ends) (λ k. bits) q 1 f g h (set f q x) (set g q y) (set h q z)
ranked-one ends bits {f} {g} {h} {q} {x} {y} {z} e room u v w t m n =
    let this : KeyAt (set f q x) (set g q y) (set h q z) q (canonical ends) bits
    = record {
      first-is = get_or-set_same f q x 0 (omega (arith, room.first-room)) ∙ v ∙ ap (λ (s : Span). pack s.a.x s.a.y) u;
      second_is = get_or-set_same g q y 0 (omega (arith, room.second-room)) ∙ w ∙ ap (λ (s : Span). pack s.b.x s.b.y) u;
      third-is = get_or-set_same h q z 0 (omega (arith, room.third-room)) ∙ t;
      first_fits = subst (λ (s : Span). s.a.y < 0x1_0000_0000) u m;
      second_fits = subst (λ (s : Span). s.b.y < 0x1_0000_0000) u n;
    } in
    record {
      first-long = length-set f q x;
      second-long = length-set g q y;
      third-long = length-set h q z;
      there = λ k l. let i : q ≡ q + k = omega arith in subst (λ (p : ℕ). KeyAt (set f q x) (set g q y) (set h q z) p (canonical ends) bits) i this;
      first-before = λ p l. get_or-set_other f q p x 0 (λ d. omega arith);
      second-before = λ p l. get_or-set_other g q p y 0 (λ d. omega arith);
      third-before = λ p l. get_or-set_other h q p z 0 (λ d. omega arith);
    }

key-as : {f g h : List ℕ} {q p : ℕ} {e d : Span} {b c : ℕ} → KeyAt f g h q e b → q ≡ p → e ≡ d → b ≡ c → KeyAt f g h p d c
key-as k i j l = rw (← i, ← j, ← l) k

module _ {ends : ℕ → Span} {bits : ℕ → ℕ} {from i : ℕ} {f₀ g₀ h₀ f g h : List ℕ} (r : RankKeys ends bits from i f₀ g₀ h₀ f g h) where
  pub ranked-next : {q b : ℕ} {e : Span} {f' g' h' : List ℕ} → RankKeys (λ k. e) (λ k. b) q 1 f g h f' g' h' → q ≡ from + i → e ≡ ends i → b ≡ bits i
      → RankKeys ends bits from (i + 1) f₀ g₀ h₀ f' g' h'
  ranked-next {q} t p x y = record {
    first-long = t.first-long ∙ r.first-long;
    second-long = t.second-long ∙ r.second-long;
    third-long = t.third-long ∙ r.third-long;
    there = λ k l.
        by_cases (ℕ_discrete k i)
        (λ d. key-as (t.there 0 (omega arith)) (omega arith) (ap canonical (x ∙ ap ends (sym d))) (y ∙ ap bits (sym d)))
        (λ n.
        let o : from + k < q = omega arith in
        let s = r.there k (omega arith) in
        record {
          first-is = t.first-before (from + k) o ∙ s.first-is;
          second_is = t.second-before (from + k) o ∙ s.second_is;
          third-is = t.third-before (from + k) o ∙ s.third-is;
          first_fits = s.first_fits;
          second_fits = s.second_fits;
        });
    first-before = λ w l. t.first-before w (omega arith) ∙ r.first-before w l;
    second-before = λ w l. t.second-before w (omega arith) ∙ r.second-before w l;
    third-before = λ w l. t.third-before w (omega arith) ∙ r.third-before w l;
  }

  pub ranked-end : {n : ℕ} → i ≤ n → n ≤ i → RankKeys ends bits from n f₀ g₀ h₀ f g h
  ranked-end {n} a b = let e : i ≡ n = omega arith in subst (λ (k : ℕ). RankKeys ends bits from k f₀ g₀ h₀ f g h) e r
