-- The first refusal is r exactly if the first check that holds gives r; there is none exactly if no check holds.
use mathlib.Core.Path.{◌≡◌, refl, sym, ◌∙◌, ap}
use mathlib.Core.Bool.{Bool, true, false, cond}
use mathlib.Core.List.{List, [], ◌∷◌, ◌++◌}
use mathlib.Core.Logic.{◌↔◌}
use mathlib.Core.Option.{none, some}
use Rattle.lists.specs.Rows.{All, more}
use Rattle.lists.specs.Rows as Rows
use Rattle.checks.specs.Checks.{Refusal, Check, first_refusal}
use Rattle.checks.specs.First.{Silent, FirstIs}
use Rattle.checks.proofs.Firsts.{never, same-refusal}

silent-none : (cs : List Check) → All Silent cs → first_refusal cs ≡ none
unfolding first_refusal
silent-none [] a = refl
silent-none (c ∷ cs) (more e a) = rw e (silent-none cs a)

none-silent : (cs : List Check) → first_refusal cs ≡ none → All Silent cs
unfolding first_refusal
none-silent [] e = Rows.none
none-silent (c ∷ cs) e = go c.holds refl (none-silent cs) e
  where
    go : (t : Bool) → c.holds ≡ t → (first_refusal cs ≡ none → All Silent cs) → cond t (some c.refusal) (first_refusal cs) ≡ none → All Silent (c ∷ cs)
    go true f ih g = never (sym g)
    go false f ih g = more f (ih g)

pub none-exactly : (cs : List Check) → (first_refusal cs ≡ none) ↔ All Silent cs
none-exactly cs = (none-silent cs, silent-none cs)

found : (cs : List Check) (r : Refusal) → first_refusal cs ≡ some r → FirstIs cs r
unfolding first_refusal
found [] r e = never e
found (c ∷ cs) r e = go c.holds refl (found cs r) e
  where
    go : (t : Bool) → c.holds ≡ t → (first_refusal cs ≡ some r → FirstIs cs r) → cond t (some c.refusal) (first_refusal cs) ≡ some r → FirstIs (c ∷ cs) r
    go true f ih g = record { before = []; found = c; after = cs; place = refl; holds = f; gives = same-refusal g; silent = Rows.none }
    go false f ih g =
        let w = ih g in
        record {
          before = c ∷ w.before;
          found = w.found;
          after = w.after;
          place = ap (λ (l : List Check). c ∷ l) w.place;
          holds = w.holds;
          gives = w.gives;
          silent = more f w.silent;
        }

decides : (a b : List Check) (c : Check) → All Silent a → c.holds ≡ true → first_refusal (a ++ (c ∷ b)) ≡ some c.refusal
unfolding first_refusal
decides [] b c s e = rw e
decides (d ∷ a) b c (more f s) e = rw f (decides a b c s e)

pub first-exactly : (cs : List Check) (r : Refusal) → (first_refusal cs ≡ some r) ↔ FirstIs cs r
first-exactly cs r = (found cs r, λ w. ap first_refusal w.place ∙ decides w.before w.after w.found w.silent w.holds ∙ ap some w.gives)
