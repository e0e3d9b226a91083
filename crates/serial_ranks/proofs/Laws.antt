-- What one more entry adds to each array.
use mathlib.Core.Path.{◌≡◌, refl, ◌∙◌, ap}
use mathlib.Core.Logic.{by_cases}
use mathlib.Core.List.{List}
use Prim.Native.Nat.{ℕ, ◌+◌, ◌*◌, ◌<◌, ◌≤◌}
use native.Mathlib.Omega.{arith}
use native.Mathlib.Decide.{ℕ_discrete}
use native.Mathlib.Nat.{mul-le-mul_right}
use lib.ListN.{length, get_or, set, length-set, replicate, length-replicate}
use lib.Seq.{get_or-set_same, get_or-set_other}
use Rattle.position.specs.Order.{canonical}
use Rattle.position.specs.declared.Span.{Span}
use Rattle.wire.specs.Bytes.{u64_at}
use Rattle.format.specs.Sizes.{boundary_size}
use Rattle.format.specs.Records.{span_at}
use Rattle.areas.specs.Spans.{span_in}
use Rattle.order.specs.Keys.{pack}
use Rattle.serial_ranks.specs.Tables.{record_place, Records, put_span, SpansOf, WidthsOf, RampsOf, KeysOf}
use Rattle.lists.proofs.Rows.{zero-at}

-- an array whose first i entries are those of f, with f i put at i
pub entry_next : (f : ℕ → ℕ) (l : List ℕ) (i : ℕ) {v : ℕ} → i < length l → v ≡ f i → ((k : ℕ) → k < i → get_or l k 0 ≡ f k) → (k : ℕ) → k < i + 1
    → get_or (set l i v) k 0 ≡ f k
entry_next f l i {v} b e h k m =
    by_cases (ℕ_discrete k i) (λ z. rw z (get_or-set_same l i v 0 b ∙ e))
    (λ n. get_or-set_other l i k v 0 n ∙ h k (omega arith))

-- the span put at i is there, and every other span is as it was
pub put-length : (ends : List ℕ) (i : ℕ) (s : Span) → length (put_span ends i s) ≡ length ends
unfolding put_span
put-length ends i s =
    length-set (set (set (set ends (4 * i) s.a.x) (4 * i + 1) s.a.y) (4 * i + 2) s.b.x) (4 * i + 3) s.b.y
    ∙ (length-set (set (set ends (4 * i) s.a.x) (4 * i + 1) s.a.y) (4 * i + 2) s.b.x
    ∙ (length-set (set ends (4 * i) s.a.x) (4 * i + 1) s.a.y ∙ length-set ends (4 * i) s.a.x))

module _ (ends : List ℕ) (i : ℕ) (s : Span) where
  abbrev one : List ℕ
  one = set ends (4 * i) s.a.x

  abbrev two : List ℕ
  two = set one (4 * i + 1) s.a.y

  abbrev three : List ℕ
  three = set two (4 * i + 2) s.b.x

  abbrev four : List ℕ
  four = set three (4 * i + 3) s.b.y

  put-at : (k : ℕ) → (k ≡ 4 * i → ⊥) → (k ≡ 4 * i + 1 → ⊥) → (k ≡ 4 * i + 2 → ⊥) → (k ≡ 4 * i + 3 → ⊥) → get_or four k 0 ≡ get_or ends k 0
  put-at k p q r t =
      get_or-set_other three (4 * i + 3) k s.b.y 0 t ∙ (get_or-set_other two (4 * i + 2) k s.b.x 0 r
      ∙ (get_or-set_other one (4 * i + 1) k s.a.y 0 q ∙ get_or-set_other ends (4 * i) k s.a.x 0 p))

  module _ (h : 4 * i + 3 < length ends) where
    len1 : length one ≡ length ends
    len1 = length-set ends (4 * i) s.a.x

    len2 : length two ≡ length ends
    len2 = length-set one (4 * i + 1) s.a.y ∙ len1

    len3 : length three ≡ length ends
    len3 = length-set two (4 * i + 2) s.b.x ∙ len2

    at0 : get_or four (4 * i) 0 ≡ s.a.x
    at0 =
        get_or-set_other three (4 * i + 3) (4 * i) s.b.y 0 (λ e. omega arith) ∙ (get_or-set_other two (4 * i + 2) (4 * i) s.b.x 0 (λ e. omega arith)
        ∙ (get_or-set_other one (4 * i + 1) (4 * i) s.a.y 0 (λ e. omega arith) ∙ get_or-set_same ends (4 * i) s.a.x 0 (omega arith)))

    at1 : get_or four (4 * i + 1) 0 ≡ s.a.y
    at1 =
        get_or-set_other three (4 * i + 3) (4 * i + 1) s.b.y 0 (λ e. omega arith) ∙ (get_or-set_other two (4 * i + 2) (4 * i + 1) s.b.x 0 (λ e. omega arith)
        ∙ get_or-set_same one (4 * i + 1) s.a.y 0 (let z = len1 in omega arith))

    at2 : get_or four (4 * i + 2) 0 ≡ s.b.x
    at2 = get_or-set_other three (4 * i + 3) (4 * i + 2) s.b.y 0 (λ e. omega arith) ∙ get_or-set_same two (4 * i + 2) s.b.x 0 (let z = len2 in omega arith)

    at3 : get_or four (4 * i + 3) 0 ≡ s.b.y
    at3 = get_or-set_same three (4 * i + 3) s.b.y 0 (let z = len3 in omega arith)

    pub put_same : span_in (put_span ends i s) i ≡ s
    unfolding span_in put_span
    put_same = rw (at0, at1, at2, at3) refl

  pub put_other : (k : ℕ) → (k ≡ i → ⊥) → span_in (put_span ends i s) k ≡ span_in ends k
  unfolding span_in put_span
  put_other k n =
      rw (
        put-at (4 * k) (λ e. n (omega arith)) (λ e. omega arith) (λ e. omega arith) (λ e. omega arith),
        put-at (4 * k + 1) (λ e. omega arith) (λ e. n (omega arith)) (λ e. omega arith) (λ e. omega arith),
        put-at (4 * k + 2) (λ e. omega arith) (λ e. omega arith) (λ e. n (omega arith)) (λ e. omega arith),
        put-at (4 * k + 3) (λ e. omega arith) (λ e. omega arith) (λ e. omega arith) (λ e. n (omega arith)),
      ) refl

  -- what is behind it is as it was
  pub put-behind : (k : ℕ) → 4 * (i + 1) ≤ k → get_or (put_span ends i s) k 0 ≡ get_or ends k 0
  unfolding put_span
  put-behind k h = put-at k (λ e. omega arith) (λ e. omega arith) (λ e. omega arith) (λ e. omega arith)

-- one more span
pub span-next : (f : ℕ → Span) (ends : List ℕ) (i : ℕ) {s : Span} → 4 * i + 3 < length ends → s ≡ f i → ((k : ℕ) → k < i → span_in ends k ≡ f k) → (k : ℕ)
    → k < i + 1 → span_in (put_span ends i s) k ≡ f k
span-next f ends i {s} b e h k m =
    by_cases (ℕ_discrete k i) (λ z. rw z (put_same ends i s b ∙ e)) (λ n. put_other ends i s k n ∙ h k (omega arith))

-- the record of a rank is within the slice
pub record Placed (s : List ℕ) (at stride : ℕ) (order : List ℕ) (i : ℕ) : Type 0 where
  pub small : get_or order i 0 * stride ≤ 10_240
  pub ends : at + get_or order i 0 * stride + stride ≤ length s

pub placed : {s : List ℕ} {at stride : ℕ} {order : List ℕ} {n : ℕ} → Records s at stride order n → (i : ℕ) → i < n → Placed s at stride order i
placed {s} {at} {stride} {order} {n} r i h =
    let a : (get_or order i 0 + 1) * stride ≤ n * stride = mul-le-mul_right stride (let z = r.named i h in omega arith) in
    let b : n * stride ≤ 256 * stride = mul-le-mul_right stride r.few in
    record { small = omega (arith, a, b, r.most); ends = omega (arith, a, r.inside) }

pub spans-start : {s : List ℕ} {at stride : ℕ} {order : List ℕ} → SpansOf s at stride order 0 (replicate 1024 0)
spans-start = record { whole = length-replicate {A = ℕ} 1024 0; each = λ i h. absurd (omega arith); rest = λ k h. zero-at 1024 k }

pub spans-next : {s : List ℕ} {at stride : ℕ} {order : List ℕ} {i : ℕ} {ends : List ℕ} {p : ℕ} {e : Span} → SpansOf s at stride order i ends → i < 256
    → p ≡ record_place at stride order i → e ≡ canonical (span_at s p) → SpansOf s at stride order (i + 1) (put_span ends i e)
spans-next {s} {at} {stride} {order} {i} {ends} {p} {e} v h a b = record {
  whole = put-length ends i e ∙ v.whole;
  each = span-next (λ k. canonical (span_at s (record_place at stride order k))) ends i (omega (arith, v.whole)) (b ∙ ap (λ q. canonical (span_at s q)) a)
      v.each;
  rest = λ k m. put-behind ends i e k m ∙ v.rest k (omega arith);
}

pub widths-start : {s : List ℕ} {at : ℕ} {order : List ℕ} → WidthsOf s at order 0 (replicate 256 0)
widths-start = record { whole = length-replicate {A = ℕ} 256 0; each = λ i h. absurd (omega arith); rest = λ k h. zero-at 256 k }

pub widths-next : {s : List ℕ} {at : ℕ} {order : List ℕ} {i : ℕ} {bits : List ℕ} {p v : ℕ} → WidthsOf s at order i bits → i < 256
    → p ≡ record_place at boundary_size order i → v ≡ u64_at s (p + 16) → WidthsOf s at order (i + 1) (set bits i v)
widths-next {s} {at} {order} {i} {bits} {p} {v} w h a b = record {
  whole = length-set bits i v ∙ w.whole;
  each = entry_next (λ k. u64_at s (record_place at boundary_size order k + 16)) bits i (omega (arith, w.whole)) (b ∙ ap (λ q. u64_at s (q + 16)) a) w.each;
  rest = λ k m. get_or-set_other bits i k v 0 (λ q. omega arith) ∙ w.rest k (omega arith);
}

pub ramps-start : {s : List ℕ} {at : ℕ} {order ramps : List ℕ} → length ramps ≡ 256 → RampsOf s at order 0 ramps
ramps-start e = record { whole = e; each = λ i h. absurd (omega arith) }

pub ramps-next : {s : List ℕ} {at : ℕ} {order : List ℕ} {i : ℕ} {ramps : List ℕ} {p : ℕ} → RampsOf s at order i ramps → i < 256
    → p ≡ record_place at boundary_size order i → RampsOf s at order (i + 1) (set ramps i (get_or s (p + 32) 0))
ramps-next {s} {at} {order} {i} {ramps} {p} w h a = record {
  whole = length-set ramps i (get_or s (p + 32) 0) ∙ w.whole;
  each = entry_next (λ k. get_or s (record_place at boundary_size order k + 32) 0) ramps i (omega (arith, w.whole)) (ap (λ q. get_or s (q + 32) 0) a) w.each;
}

pub keys-start : {s : List ℕ} {at stride : ℕ} {first second : List ℕ} → length first ≡ 256 → length second ≡ 256 → KeysOf s at stride 0 first second
keys-start e f = record { whole-first = e; whole-second = f; each_first = λ i h. absurd (omega arith); each-second = λ i h. absurd (omega arith) }

pub keys-next : {s : List ℕ} {at stride i : ℕ} {first second : List ℕ} {e : Span} {v w : ℕ} → KeysOf s at stride i first second → i < 256
    → e ≡ canonical (span_at s (at + i * stride)) → v ≡ pack e.a.x e.a.y → w ≡ pack e.b.x e.b.y
    → KeysOf s at stride (i + 1) (set first i v) (set second i w)
keys-next {s} {at} {stride} {i} {first} {second} {e} {v} {w} k h a b d = record {
  whole-first = length-set first i v ∙ k.whole-first;
  whole-second = length-set second i w ∙ k.whole-second;
  each_first = entry_next (λ j. pack (canonical (span_at s (at + j * stride))).a.x (canonical (span_at s (at + j * stride))).a.y) first i
      (omega (arith, k.whole-first)) (b ∙ ap (λ (z : Span). pack z.a.x z.a.y) a) k.each_first;
  each-second = entry_next (λ j. pack (canonical (span_at s (at + j * stride))).b.x (canonical (span_at s (at + j * stride))).b.y) second i
      (omega (arith, k.whole-second)) (d ∙ ap (λ (z : Span). pack z.b.x z.b.y) a) k.each-second;
}

pub identity-next : (i : ℕ) (order : List ℕ) → length order ≡ 256 → i < 256 → ((k : ℕ) → k < i → get_or order k 0 ≡ k) → (k : ℕ) → k < i + 1
    → get_or (set order i i) k 0 ≡ k
identity-next i order e h f = entry_next (λ k. k) order i (omega (arith, e)) refl f
