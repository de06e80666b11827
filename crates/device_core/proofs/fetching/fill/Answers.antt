use Rattle.std.proofs.Common.{rules, ◌≡◌, ◌<◌, get_or, length}
use Rattle.device_core.proofs.Fetched.{filled-set}
use Rattle.device_core.proofs.fetching.fill.Goals as goal

pub returns : goal.returns
returns c =
    let below : c.args.index < length c.args.pieces.now.items = search rules in
    let item : get_or c.args.pieces.now.items c.args.index c.index_mut.result.now ≡ c.index_mut.result.now = search rules in
    filled-set c.args.pieces.now.items c.args.index c.args.bytes c.index_mut.result.now below item
