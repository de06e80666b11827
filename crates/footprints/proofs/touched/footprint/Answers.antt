-- The checks of a command that some state lets through pass.
use Rattle.footprints.proofs.Passing.{checks_pass, good_where_none}
use Rattle.footprints.proofs.touched.footprint.Goals as goal

pub unwrap-requires : goal.unwrap-requires
unwrap-requires c =
    let s = c.requires.passes.0 in
    good_where_none _ c.check_touched.result (c.check_touched.ensures.checked s) (checks_pass c.args.config.now s c.args.command.now c.requires.passes.1)
