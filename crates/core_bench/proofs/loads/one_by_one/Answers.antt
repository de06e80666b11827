use Rattle.std.proofs.Common.{◌≡◌, ◌∙◌, ℕ, ◌+◌, ap, subst}
use Rattle.std.specs.Arc.{arc_value}
use Rattle.cp_base.specs.declared.commands.Command.{Command}
use Rattle.cp_base.specs.declared.limits.TheConstants.{MAX_NAMESPACE}
use Rattle.core_bench.specs.Loads.{IsByOne, plain_config}
use Rattle.core_bench.specs.Progress.{AreSent, sent_as, sent_on}
use Rattle.core_bench.proofs.Sending.{at-end, comes-to, one-more}
use Rattle.core_bench.proofs.loads.one_by_one.Goals as goal

pub loop-number-preserved : goal.loop-number-preserved
loop-number-preserved c =
    let so_far = c.loop-number.invariant in
    record {
      config = c.carry_out.ensures.later.config ∙ so_far.config;
      commands = c.carry_out.ensures.later.commands ∙ so_far.commands;
      sent = one-more (IsByOne c.args.places) c.loop-number.number (sent_on c.loop-number.device) (sent_on c.carry_out.new.device) (sent_as 1 1 (arc_value c.in_ok-command.field-0)) so_far.sent
          (record { word = c.next_word-word.result; same = ap (λ (cmd : Command). sent_as 1 1 cmd) c.in_ok-command.ensures })
          c.in_ok-carry_out.ensures.sent;
      claims = c.in_ok-carry_out.ensures.open ∙ so_far.claims;
      over = c.in_ok-carry_out.ensures.over ∙ ap (λ (n : ℕ). n + 1) so_far.over;
    }

pub returns-clause-done : goal.returns-clause-done
returns-clause-done c =
    let so_far = c.loop-number.invariant in
    let end : c.loop-number.number ≡ c.args.rounds = at-end c.loop-number.number c.args.rounds c.loop-number-test.false c.loop-number.auto.number-end in
    comes-to c.loop-number.device (plain_config MAX_NAMESPACE) c.args.rounds 0 c.args.rounds (IsByOne c.args.places) so_far.config so_far.commands c.over.ensures.lawful
    (subst (λ (n : ℕ). AreSent (IsByOne c.args.places) n (sent_on c.loop-number.device)) end so_far.sent) so_far.claims (so_far.over ∙ end)
