use Rattle.std.proofs.Common.{◌∙◌, refl, sym}
use Rattle.grid.proofs.Reach.{leads-told, nowhere, blocked, straight, slanting}
use Rattle.grid.proofs.neighbors.step_at.Goals as goal

pub returns-then-not-leads_on : goal.returns-then-not-leads_on
returns-then-not-leads_on c = nowhere _ _ _ (leads-told _ c.requires.0 c.leads_on.ensures ∙ c.if-not-leads_on.true)

pub ends_walkable-requires : goal.ends_walkable-requires
ends_walkable-requires c = (c.requires.0, c.requires.1, leads-told _ c.requires.0 c.leads_on.ensures ∙ c.if-not-leads_on.false)

pub returns-then-not-ends_walkable : goal.returns-then-not-ends_walkable
returns-then-not-ends_walkable c =
    blocked _ _ _ (leads-told _ c.requires.0 c.leads_on.ensures ∙ c.if-not-leads_on.false)
    (sym (c.ends_walkable.ensures _ _ refl refl) ∙ c.if-not-ends_walkable.true)

pub returns-then-not-is_diagonal : goal.returns-then-not-is_diagonal
returns-then-not-is_diagonal c =
    straight _ _ _ (leads-told _ c.requires.0 c.leads_on.ensures ∙ c.if-not-leads_on.false)
    (sym (c.ends_walkable.ensures _ _ refl refl) ∙ c.if-not-ends_walkable.false)
    (sym c.is_diagonal.ensures ∙ c.if-not-is_diagonal.true)

pub sides_walkable-requires : goal.sides_walkable-requires
sides_walkable-requires c = (c.requires.0, c.requires.1, leads-told _ c.requires.0 c.leads_on.ensures ∙ c.if-not-leads_on.false)

pub returns : goal.returns
returns c =
    slanting _ _ _ (leads-told _ c.requires.0 c.leads_on.ensures ∙ c.if-not-leads_on.false)
    (sym (c.ends_walkable.ensures _ _ refl refl) ∙ c.if-not-ends_walkable.false)
    (sym c.is_diagonal.ensures ∙ c.if-not-is_diagonal.false) (c.sides_walkable.ensures _ _ refl refl)
