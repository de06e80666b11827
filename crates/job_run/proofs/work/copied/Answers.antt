use Rattle.std.proofs.Common.{[], ap}
use Rattle.cp_base.specs.Checks.{destination_of}
use Rattle.trail_model.specs.Pieces.{carried, gathered_joined}
use Rattle.job_run.specs.Works.{pieces_with, region_bytes}
use Rattle.job_run.specs.private.Kinds.{source_regions}
use Rattle.job_run.proofs.Working.{answer_with, leaves-so}
use Rattle.job_run.proofs.work.copied.Goals as goal

pub copy-requires : goal.copy-requires
copy-requires c = record { alone = c.requires.alone; whole = c.requires.whole; held = c.requires.held; beside = c.requires.beside }

pub returns : goal.returns
returns c =
    leaves-so c.leave.result (answer_with c.args.reply.items) (answer_with []) (region_bytes c.copy.new.pieces.items)
    (pieces_with (record {
      region = destination_of c.args.space c.args.start (source_regions c.args.block c.args.from.now);
      bytes = gathered_joined (carried (region_bytes c.args.pieces.items)) (source_regions c.args.block c.args.from.now);
    }) (region_bytes c.args.pieces.items)) c.leave.ensures (ap answer_with c.requires.empty) c.copy.ensures
