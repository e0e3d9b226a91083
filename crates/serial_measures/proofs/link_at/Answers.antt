use mathlib.Core.Path.{◌≡◌, refl, ◌∙◌}
use Rattle.serial_measures.proofs.Reading.{span-bounded, same-value}
use Rattle.serial_measures.proofs.link_at.Goals as goal

pub link_of-requires : goal.link_of-requires
link_of-requires c =
    let p = c.requires in (
      span-bounded p.0 c.args.first p.1 c.span_at.ensures,
      span-bounded p.0 c.args.second p.2 c.span_at-2.ensures,
      p.0.width c.args.first p.1,
      p.0.width c.args.second p.2,
    )

pub returns : goal.returns
returns c =
    let a = c.args in
    let i : a.first ≡ a.first = refl in
    let j : a.second ≡ a.second = refl in
    c.link_of.ensures ∙ same-value a.own.now a.bits.now c.span_at.ensures c.span_at-2.ensures i j
