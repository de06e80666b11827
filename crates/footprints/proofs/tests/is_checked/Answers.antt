-- A command whose checks pass is let through by the opening state.
use Rattle.std.proofs.Common.{rules}
use Rattle.device_model.specs.State.{opening}
use Rattle.footprints.proofs.Passing.{passed}
use Rattle.footprints.proofs.tests.is_checked.Goals as goal

pub returns-in-Reads : goal.returns-in-Reads
returns-in-Reads c =
    let s = opening c.args.config.now in
    λ ok. passed c.args.config.now s c.args.command.now c.check_touched.result c.is_ok.result (search rules) c.is_ok.ensures.value ok (c.check_touched.ensures.checked s)
