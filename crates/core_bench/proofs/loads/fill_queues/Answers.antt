use Rattle.std.proofs.Common.{◌∙◌, refl}
use Rattle.core_bench.specs.Loads.{IsInTurn, sent_in_turn}
use Rattle.core_bench.specs.Progress.{sent_on}
use Rattle.core_bench.proofs.Sending.{one-more}
use Rattle.core_bench.proofs.loads.fill_queues.Goals as goal

pub loop-number-preserved : goal.loop-number-preserved
loop-number-preserved c =
    let so_far = c.loop-number.invariant in
    record {
      later = record {
        config = c.send.ensures.later.config ∙ so_far.later.config;
        commands = c.send.ensures.later.commands ∙ so_far.later.commands;
      };
      sent = one-more (IsInTurn c.args.apart) c.loop-number.number (sent_on c.loop-number.device) (sent_on c.send.new.device) (sent_in_turn c.args.apart c.loop-number.number) so_far.sent refl
          c.in_ok-send.ensures.sent;
      claims = c.send.ensures.open ∙ so_far.claims;
      over = c.send.ensures.over ∙ so_far.over;
    }
