use Rattle.std.proofs.Common.{[], map, replicate, ap}
use Rattle.job_run.specs.Works.{piece_holding, region_bytes}
use Rattle.job_run.proofs.Working.{answer_with, leaves-so}
use Rattle.job_run.proofs.work.filled.Goals as goal

pub fill-requires : goal.fill-requires
fill-requires c = c.requires.1.one

pub returns : goal.returns
returns c len counts =
    leaves-so c.leave.result (answer_with c.args.reply.items) (answer_with []) (region_bytes c.fill.new.pieces.items)
    (map (piece_holding (replicate len c.args.value)) (region_bytes c.args.pieces.items)) c.leave.ensures (ap answer_with c.requires.1.empty) (c.fill.ensures len counts)
