use Rattle.std.proofs.Common.{[], map, ap}
use Rattle.job_run.specs.Works.{piece_holding, region_bytes}
use Rattle.job_run.proofs.Working.{answer_with, leaves-so}
use Rattle.job_run.proofs.work.written.Goals as goal

pub returns : goal.returns
returns c =
    leaves-so c.leave.result (answer_with c.args.reply.items) (answer_with []) (region_bytes c.write.new.pieces.items)
    (map (piece_holding c.args.bytes.now) (region_bytes c.args.pieces.items)) c.leave.ensures (ap answer_with c.requires.empty) c.write.ensures
