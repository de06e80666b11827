use Rattle.parts_bench.proofs.Home.{exchanged}
use Rattle.parts_bench.proofs.exchanges.exchange.Goals as goal

pub returns-clause-same : goal.returns-clause-same
returns-clause-same c =
    exchanged c.args.extents.now c.take.new.self c.put.new.self c.args.range.now c.in_ok-bytes.bytes.items c.in_ok-bytes.ensures.bytes c.in_ok-bytes.ensures.taken c.put.ensures
