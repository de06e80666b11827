use Rattle.bpf_bench.proofs.Ones.{described}
use Rattle.bpf_bench.specs.Range.{one_range, ones}
use Rattle.bpf_bench.proofs.executed.Goals as goal

pub returns : goal.returns
returns c = λ program code.
    c.run.ensures.ending program (one_range c.args.len) ones
    (described program c.args.code.now c.args.len c.in_ok-view.view code c.in_ok-view.ensures.windows c.in_ok-view.ensures.writable)
