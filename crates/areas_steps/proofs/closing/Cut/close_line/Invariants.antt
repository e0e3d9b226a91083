use Rattle.std.proofs.Common.{◌+◌, ◌*◌, min}
use Rattle.areas_steps.specs.Marks.{Closes}
use Rattle.areas_steps.proofs.closing.Cut.close_line.Given as goal

abbrev pub invariant-loop-cm : goal.invariant-loop-cm
invariant-loop-cm l =
    Closes l.self.width l.self.height l.base l.self.span (l.c * 1024) (l.c * 1024 + min l.cm 1024) l.initial.work l.work
