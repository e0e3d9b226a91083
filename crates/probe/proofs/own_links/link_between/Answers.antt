use mathlib.Core.Path.{refl, ◌∙◌}
use Rattle.probe.proofs.LinkLaws.{record-there, ends-bounded, bits-bounded, linked}
use Rattle.probe.proofs.own_links.link_between.Goals as goal

pub read_boundary-a-requires : goal.read_boundary-a-requires
read_boundary-a-requires c =
    record-there c.requires.0 _ _ refl c.requires.1

pub read_boundary-b-requires : goal.read_boundary-b-requires
read_boundary-b-requires c =
    record-there c.requires.0 _ _ refl c.requires.2

pub link_of-requires : goal.link_of-requires
link_of-requires c =
    let pre = c.requires in
    let a = c.read_boundary-a.ensures in
    let b = c.read_boundary-b.ensures in (
      ends-bounded pre.0 _ _ refl pre.1 a c.canonical.ensures,
      ends-bounded pre.0 _ _ refl pre.2 b c.canonical-2.ensures,
      bits-bounded pre.0 _ _ refl pre.1 a,
      bits-bounded pre.0 _ _ refl pre.2 b,
    )

pub returns : goal.returns
returns c =
    let pre = c.requires in
    c.link_of.ensures ∙ linked pre.0 _ _ _ refl pre.1 pre.2 c.read_boundary-a.ensures
    c.read_boundary-b.ensures c.canonical.ensures c.canonical-2.ensures
