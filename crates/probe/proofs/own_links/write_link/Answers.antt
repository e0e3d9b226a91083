use Rattle.probe.proofs.LinkLaws.{four-writes}
use Rattle.probe.proofs.own_links.write_link.Goals as goal

pub returns : goal.returns
returns c =
    four-writes c.args.out.now _ _ _ _ c.requires c.write_u32.ensures c.write_u64.ensures c.write_u64-2.ensures
    c.write_u32-2.ensures
