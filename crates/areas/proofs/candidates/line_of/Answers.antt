use mathlib.Core.Path.{sym, ◌∙◌}
use borrow.Author.Tests.{le-leb, lt-leb}
use Rattle.areas.specs.Strip.{line_of}
use Rattle.areas.proofs.candidates.line_of.Goals as goal

pub returns-then-not-is_tall : goal.returns-then-not-is_tall
unfolding line_of
returns-then-not-is_tall c = let e = sym c.is_tall.ensures ∙ c.if-not-is_tall.true in rw e

pub returns-then-a-b : goal.returns-then-a-b
unfolding line_of
returns-then-a-b c =
    let e = sym c.is_tall.ensures ∙ c.if-not-is_tall.false in
    let k = le-leb _ _ c.if-a-b.true in
    rw (e, k)

pub returns : goal.returns
unfolding line_of
returns c =
    let e = sym c.is_tall.ensures ∙ c.if-not-is_tall.false in
    let k = lt-leb _ _ c.if-a-b.false in
    rw (e, k)
