-- A group that is kept by its first sixteen ranks is judged as a whole.
use mathlib.Core.Path.{◌≡◌, sym, ◌∙◌, ap}
use mathlib.Core.Bool.{Bool, true, false, cond, not}
use mathlib.Core.List.{List}
use Prim.Native.Nat.{ℕ, ◌≤◌, ◌<◌}
use native.Mathlib.Omega.{arith}
use borrow.Author.Tests.{not-true, not-false}
use lib.ListN.{length}
use Rattle.lists.specs.Rows.{at}
use Rattle.order.specs.Lists.{keep, up_from}
use Rattle.order.proofs.Bools.{by-test, clash}
use Rattle.order.proofs.Keep.{keep-mem, keep-length}
use Rattle.order.proofs.Numbers.{up_mem, up-length}
use Rattle.serial_plan.specs.declared.few.Few.{Few}
use Rattle.serial_plan.specs.Few.{few_of, few_list}
use Rattle.serial_plan.specs.Arrays.{LinkRanks}
use Rattle.serial_plan.specs.Rules.{SmallGroup}
use Rattle.serial_plan.specs.Fitting.{RankFits, LinkFits, WidthFits, RanksFit, Links, Widths, Safe}
use Rattle.serial_plan.proofs.FewLaws.{listed-held}
use Rattle.serial_plan.proofs.ShapeLaws.{listed-length, held-count, held-slots}

-- a test says of the ranks and links that are few_of what it says of all: it passes only small groups, and these are few_of whole
pub record Whole (F : List ℕ → List ℕ → Bool) (rs js : List ℕ) (f g : Few) : Type 0 where
  pub small : F (few_list f) (few_list g) ≡ true → (1 ≤ f.count) × (f.count ≤ 16)
  pub ranks : F (few_list f) (few_list g) ≡ true → few_list f ≡ rs
  pub same : F (few_list f) (few_list g) ≡ F rs js

module _ {F : List ℕ → List ℕ → Bool} (small : (rs js : List ℕ) → F rs js ≡ true → SmallGroup rs js) {f g : Few} (rs js : List ℕ) (ef : f ≡ few_of rs)
    (eg : g ≡ few_of js) where
  ranks-long : length (few_list f) ≡ length rs
  ranks-long = listed-length f ∙ held-count rs ef

  links-long : length (few_list g) ≡ length js
  links-long = listed-length g ∙ held-count js eg

  all_held : SmallGroup (few_list f) (few_list g) → (few_list f ≡ rs) × (few_list g ≡ js)
  all_held s = (ap few_list ef ∙ listed-held rs (omega (arith, s.1, ranks-long)), ap few_list eg ∙ listed-held js (omega (arith, s.2, links-long)))

  same_test : F (few_list f) (few_list g) ≡ F rs js
  same_test =
      by-test (F (few_list f) (few_list g))
      (λ h. let w = all_held (small (few_list f) (few_list g) h) in ap (λ (x : List ℕ). F x (few_list g)) w.0 ∙ ap (F rs) w.1)
      (λ h. h ∙ sym (by-test (F rs js)
      (λ k.
      let s = small rs js k in
      let a : few_list f ≡ rs = ap few_list ef ∙ listed-held rs s.1 in
      let b : few_list g ≡ js = ap few_list eg ∙ listed-held js s.2 in
      clash (ap (λ (x : List ℕ). F x (few_list g)) a ∙ (ap (F rs) b ∙ k)) h)
      (λ k. k)))

  pub whole : Whole F rs js f g
  whole = record {
    small = λ h. let s = small (few_list f) (few_list g) h in (omega (arith, s.0, listed-length f), omega (arith, s.1, listed-length f));
    ranks = λ h. (all_held (small (few_list f) (few_list g) h)).0;
    same = same_test;
  }

module _ {F : List ℕ → List ℕ → Bool} {rs js : List ℕ} {f g : Few} (W : Whole F rs js f g) {b : Bool} (e : b ≡ F (few_list f) (few_list g)) where
  pub judged-sizes : not b ≡ false → (1 ≤ f.count) × (f.count ≤ 16)
  judged-sizes n = W.small (sym e ∙ not-false b n)

  pub judged-no : (R : List ℕ → ℕ) → not b ≡ true → 256 ≡ cond (F rs js) (R rs) 256
  judged-no R n = ap (λ (t : Bool). cond t (R rs) 256) (sym (not-true b n) ∙ (e ∙ W.same))

  pub judged-yes : (R : List ℕ → ℕ) {r : ℕ} → not b ≡ false → r ≡ R (few_list f) → r ≡ cond (F rs js) (R rs) 256
  judged-yes R n q =
      let h : F (few_list f) (few_list g) ≡ true = sym e ∙ not-false b n in
      q ∙ (ap R (W.ranks h) ∙ ap (λ (t : Bool). cond t (R rs) 256) (sym h ∙ W.same))

few-kept : (t : ℕ → Bool) (n : ℕ) {f : Few} → f ≡ few_of (keep t (up_from 0 n)) → n ≤ 256 → f.count ≤ 256
few-kept t n e l = omega (arith, held-count (keep t (up_from 0 n)) e, keep-length t (up_from 0 n), up-length 0 n)

-- the ranks and links that are few_of of a part: few, and safe to look at
pub record Kept (own bits firsts seconds : List ℕ) (f g : Few) : Type 0 where
  pub few-ranks : f.count ≤ 256
  pub few-links : g.count ≤ 256
  pub ranks : RanksFit own f
  pub widths : Widths bits f
  pub links : Links own firsts seconds g
  pub zero : RankFits own 0

module _ {n : ℕ} {own bits firsts seconds : List ℕ} {links : ℕ} (safe : Safe n own bits firsts seconds links) where
  rank-fits : (i : ℕ) → i < n → RankFits own i
  rank-fits i l = record { below = omega (arith, safe.fit.few); bounded = safe.fit.spans i l }

  zero-fits : RankFits own 0
  zero-fits = rank-fits 0 safe.some

  pub link_fits : (k : ℕ) → k < links → LinkFits own firsts seconds k
  link_fits k l = record {
    below = omega (arith, safe.fit.ranked.few);
    first = rank-fits (at firsts k) (safe.fit.ranked.first-in k l);
    second = rank-fits (at seconds k) (safe.fit.ranked.second-in k l);
  }

  ranks-fit : (t : ℕ → Bool) {f : Few} → f ≡ few_of (keep t (up_from 0 n)) → RanksFit own f
  ranks-fit t e = held-slots (RankFits own) (keep t (up_from 0 n)) e (λ x m. rank-fits x (omega (arith, up_mem 0 n (keep-mem t (up_from 0 n) m).0))) zero-fits

  widths-fit : (t : ℕ → Bool) {f : Few} → f ≡ few_of (keep t (up_from 0 n)) → Widths bits f
  widths-fit t e =
      held-slots (WidthFits bits) (keep t (up_from 0 n)) e
      (λ x m. let l : x < n = omega (arith, up_mem 0 n (keep-mem t (up_from 0 n) m).0)
      in record { below = omega (arith, safe.fit.few); fits = safe.fit.widths x l })
      (record { below = omega arith; fits = safe.fit.widths 0 safe.some })

  links-fit : (t : ℕ → Bool) {f : Few} → f ≡ few_of (keep t (up_from 0 links)) → Links own firsts seconds f
  links-fit t e = held-slots (LinkFits own firsts seconds) (keep t (up_from 0 links)) e
      (λ x m. link_fits x (omega (arith, up_mem 0 links (keep-mem t (up_from 0 links) m).0))) (link_fits 0 safe.linked)

  pub wider-ranked : LinkRanks 256 firsts seconds links
  wider-ranked = record {
    few = safe.fit.ranked.few;
    first-in = λ k l. omega (arith, safe.fit.ranked.first-in k l, safe.fit.few);
    second-in = λ k l. omega (arith, safe.fit.ranked.second-in k l, safe.fit.few);
  }

  pub kept : (t u : ℕ → Bool) {f g : Few} → f ≡ few_of (keep t (up_from 0 n)) → g ≡ few_of (keep u (up_from 0 links)) → Kept own bits firsts seconds f g
  kept t u ef eg = record {
    few-ranks = few-kept t n ef safe.fit.few;
    few-links = few-kept u links eg safe.fit.ranked.few;
    ranks = ranks-fit t ef;
    widths = widths-fit t ef;
    links = links-fit u eg;
    zero = zero-fits;
  }
