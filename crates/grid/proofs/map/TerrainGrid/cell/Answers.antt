use Rattle.std.proofs.Common.{◌∙◌, sym, ap, arith}
use Rattle.grid.specs.Index.{byte_of}
use Rattle.grid.proofs.OnMap.{byte-on, byte-got}
use Rattle.grid.proofs.map.TerrainGrid.cell.Goals as goal

pub returns-in_err-index : goal.returns-in_err-index
returns-in_err-index c =
    λ g w h e.
    let cs = c.args.cells.now in
    c.from_residual.ensures ∙ ap (byte_of cs) (sym c.in_err-index.was) ∙ byte-on g c.args.position cs c.index.result e (c.index.ensures g w h)

pub returns : goal.returns
returns c =
    λ g w h e.
    let cs = c.args.cells.now in
    let l = c.get.ensures.lookup in
    c.copied.ensures ∙ byte-got cs c.in_ok-index.field-0 c.get.result l.0 (l.4 (omega arith) 0)
    ∙ ap (byte_of cs) (sym c.in_ok-index.was) ∙ byte-on g c.args.position cs c.index.result e (c.index.ensures g w h)
