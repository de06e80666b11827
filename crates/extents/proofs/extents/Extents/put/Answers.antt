-- What fills the hole of one namespace fills the range.
use Rattle.extents.proofs.Regions.{put_here}
use Rattle.extents.proofs.extents.Extents.put.Goals as goal

pub returns : goal.returns
returns c =
    put_here c.args.self.now c.put_of.new.self c.args.range.now c.space.result c.start.result c.args.bytes.items c.space.ensures c.start.ensures.value c.requires.length c.put_of.ensures.others c.put_of.ensures.put
