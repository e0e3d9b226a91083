-- The steps of the search for what touches a region, of the marks and of the search for the next region.
use mathlib.Core.Path.{◌≡◌, refl, ◌∙◌, ap}
use mathlib.Core.Logic.{by_cases}
use mathlib.Core.Bool.{Bool, true, false, cond, not, ◌&&◌, ◌||◌}
use mathlib.Core.List.{List}
use Prim.Native.Nat.{ℕ, suc, ◌+◌, ◌<◌, ◌≤◌}
use native.Mathlib.Numerals.{add-one}
use native.Mathlib.Omega.{arith}
use native.Mathlib.Decide.{ℕ_discrete}
use lib.Dec.{eqb}
use lib.ListN.{length, get_or, set}
use lib.Seq.{get_or-set_same, get_or-set_other}
use mir.Val.{bool_byte}
use Rattle.graph.specs.Records.{Record}
use Rattle.serial_candidates.specs.Owners.{in_record}
use Rattle.serial_candidates.specs.Touchers.{with_owner, touched, touching_after}
use borrow.Author.Tests.{ne_eqb}
use Rattle.position.specs.Order.{pos_same}
use Rattle.position.specs.declared.Span.{Span}
use Rattle.areas.specs.Spans.{span_in}
use Rattle.context.specs.Numbers.{is_full}
use Rattle.serial_links.specs.Geometry.{squares, doubled_centre}
use Rattle.serial_links.specs.Held.{SpanBounded}
use Rattle.serial_candidates.specs.Gives.{has_region, OwnBounded, joins_two}
use Rattle.serial_candidates.specs.Linkable.{can_link, Flags}
use Rattle.serial_candidates.specs.Next.{considered, next_after}
use Rattle.serial_candidates.specs.declared.touching.Touching.{Touching}

more-count : (t : Touching) (o k : ℕ) (b : Bool) → t.count ≤ k → (cond b (with_owner t o) t).count ≤ k + 1
more-count t o k true h = omega arith
more-count t o k false h = omega arith

pub touch-next : (f : ℕ → Record) (r k : ℕ) {t u : Touching} → t ≡ touching_after f r k → t.count ≤ k → u ≡ touched t (f k).owner (in_record r (f k))
    → (u ≡ touching_after f r (k + 1)) × (u.count ≤ k + 1)
unfolding touching_after
touch-next f r k {t} {u} e h g = (
  let s : suc k ≡ k + 1 = omega arith in
      g ∙ (ap (λ (s : Touching). touched s (f k).owner (in_record r (f k))) e ∙ ap (touching_after f r) s),
  rw g (more-count t (f k).owner k (in_record r (f k) && (eqb t.count 0 || not (eqb t.last (f k).owner))) h),
)

pub touch-end : (f : ℕ → Record) (r : ℕ) {k n : ℕ} {t : Touching} → k ≡ n → t ≡ touching_after f r k → t ≡ touching_after f r n
touch-end f r e h = rw (← e) h

pub region-next : (marks lowers highers : List ℕ) (after k : ℕ) {b c : ℕ} → b ≡ next_after marks lowers highers after k
    → c ≡ considered after b (get_or marks k 0) (get_or lowers k 0) (get_or highers k 0) → c ≡ next_after marks lowers highers after (k + 1)
unfolding next_after
region-next marks lowers highers after k {b} {c} e g = g
    ∙ rw add-one (ap (λ (z : ℕ). considered after z (get_or marks k 0) (get_or lowers k 0) (get_or highers k 0)) e)

pub region-end : (marks lowers highers : List ℕ) (after : ℕ) {k n b : ℕ} → k ≡ n → b ≡ next_after marks lowers highers after k
    → b ≡ next_after marks lowers highers after n
region-end marks lowers highers after e h = rw (← e) h

pub marked_next : (test : ℕ → Bool) (marks : List ℕ) (i v : ℕ) → i < length marks → Flags test i marks → v ≡ cond (test i) 1 0
    → Flags test (i + 1) (set marks i v)
marked_next test marks i v r h e = record {
  marks-are = λ j l. by_cases (ℕ_discrete j i) (λ q. rw q (get_or-set_same marks i v 0 r ∙ e))
      (λ q. get_or-set_other marks i j v 0 q ∙ h.marks-are j (omega arith));
}

pub marked-end : {test : ℕ → Bool} {k n : ℕ} {marks : List ℕ} → k ≡ n → Flags test k marks → Flags test n marks
marked-end e h = rw (← e) h

-- a mark as a number
pub as_number : (b : Bool) → bool_byte b ≡ cond b 1 0
as_number true = refl
as_number false = refl

-- a rank's mark, by what is read of it
pub can-link : (own ramps removed separated counts : List ℕ) (i : ℕ) {s : Span} {coincides full : Bool} → s ≡ span_in own i → coincides ≡ pos_same s.a s.b
    → full ≡ is_full (get_or removed i 0) (get_or separated i 0) (get_or counts i 0)
    → ((not coincides && eqb (get_or ramps i 0) 0) && full) ≡ can_link own ramps removed separated counts i
unfolding can_link
can-link own ramps removed separated counts i {s} e f g =
    rw (f, g) (ap (λ (s : Span). (not (pos_same s.a s.b) && eqb (get_or ramps i 0) 0)
    && is_full (get_or removed i 0) (get_or separated i 0) (get_or counts i 0)) e)

pub joined : (own marks lowers highers : List ℕ) (r : ℕ) {count first second i j : ℕ} {p q d : Bool} {s u : Span} → count ≡ 2 → i ≡ first → j ≡ second
    → p ≡ has_region marks lowers highers r i → q ≡ has_region marks lowers highers r j
    → s ≡ span_in own i → u ≡ span_in own j → d ≡ not (eqb (squares (doubled_centre s) (doubled_centre u)) 0)
    → ((p && q) && d) ≡ joins_two own marks lowers highers r count first second
unfolding joins_two
joined own marks lowers highers r {count} z ei ej ep eq es eu ed = rw (ep, eq, ed, es, eu, ei, ej, z)

pub not-joined : (own marks lowers highers : List ℕ) (r first second : ℕ) {count : ℕ} → (count ≡ 2 → ⊥)
    → false ≡ joins_two own marks lowers highers r count first second
unfolding joins_two
not-joined own marks lowers highers r first second {count} z = rw (ne_eqb count 2 z)

pub own-bounded : {own : List ℕ} {n i first : ℕ} {s : Span} → OwnBounded own n → i ≡ first → first < n → s ≡ span_in own i → SpanBounded s
own-bounded {own} {n} {i} h e l f = rw f (h.each i (omega arith))
