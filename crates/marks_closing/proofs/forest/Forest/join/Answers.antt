use native.Mathlib.Omega.{arith}
use Rattle.marks_closing.proofs.Grows.{grown-near, grown-left, grown-right}
use Rattle.marks_closing.proofs.forest.Forest.join.Goals as goal

pub returns-then-a-b-clause-grown : goal.returns-then-a-b-clause-grown
returns-then-a-b-clause-grown c =
    grown-near c.requires.0 c.find-a.ensures c.find-b.ensures c.if-a-b.true

pub returns-then-self-a-clause-grown : goal.returns-then-self-a-clause-grown
returns-then-self-a-clause-grown c =
    grown-left c.requires.0 c.find-a.ensures c.find-b.ensures c.if-a-b.false
    (omega (arith, c.if-self-a.true)) c.hang.ensures.hung

pub returns-clause-grown : goal.returns-clause-grown
returns-clause-grown c =
    grown-right c.requires.0 c.find-a.ensures c.find-b.ensures c.if-a-b.false
    (λ l. omega (arith, l, c.if-self-a.false)) c.hang-2.ensures.hung
