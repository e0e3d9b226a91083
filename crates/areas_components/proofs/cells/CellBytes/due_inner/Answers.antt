use mathlib.Core.Path.{◌≡◌, ◌∙◌, ap}
use Prim.Native.Nat.{ℕ, ◌+◌, ◌-◌}
use native.Mathlib.Omega.{arith}
use lib.ListN.{get_or}
use Rattle.areas_components.proofs.DueBytes.{at_on, before_on, due-from}
use Rattle.areas_components.proofs.cells.CellBytes.due_inner.Goals as goal

pub returns : goal.returns
returns c =
    let args = c.args in
    let w = args.work.now in
    let at = args.self.base + args.i in
    let on = at_on w args.self.base args.self.n c.requires.0 in
    let before = before_on w args.self.base args.self.n c.requires.0 in
    let further : at + args.self.width ≡ args.self.base + (args.i + args.self.width) = omega arith in
    let under = ap (λ (x : ℕ). get_or w (x - 1) 0) further ∙ before (args.i + args.self.width) (omega arith) (omega arith) in
    let below = ap (λ (x : ℕ). get_or w x 0) further ∙ on (args.i + args.self.width) c.requires.2 in
    due-from _ _ _ _ _ _ _ _ c.due_of.ensures (on args.i (omega arith)) (before args.i c.requires.1 (omega arith)) under below
