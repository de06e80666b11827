use Rattle.std.proofs.Common.{◌≡◌, ◌∙◌, ℕ, ◌+◌, Bool, List, ap, arith, refl, subst}
use Rattle.cp_base.specs.declared.limits.TheConstants.{MAX_NAMESPACE}
use Rattle.core_bench.specs.Loads.{IsInTurn, claims_where, plain_config, sent_in_turn}
use Rattle.core_bench.specs.Progress.{AreSent, SentCommand, sent_on}
use Rattle.core_bench.proofs.Sending.{at-end, comes-to, one-more}
use Rattle.core_bench.proofs.loads.deep.Goals as goal

next : (number : ℕ) (apart : Bool) (sent : List SentCommand) → AreSent (IsInTurn apart) (number + 4096 + 1) sent → AreSent (IsInTurn apart) (number + 1 + 4096) sent
next number apart sent are = subst (λ (n : ℕ). AreSent (IsInTurn apart) n sent) (let same : number + 4096 + 1 ≡ number + 1 + 4096 = omega arith in same) are

pub loop-number-preserved : goal.loop-number-preserved
loop-number-preserved c =
    let so_far = c.loop-number.invariant in
    record {
      config = c.go_on.ensures.later.config ∙ so_far.config;
      commands = c.go_on.ensures.later.commands ∙ so_far.commands;
      sent = next c.loop-number.number c.args.apart (sent_on c.go_on.new.device)
          (one-more (IsInTurn c.args.apart) (c.loop-number.number + 4096) (sent_on c.loop-number.device) (sent_on c.go_on.new.device) (sent_in_turn c.args.apart (c.loop-number.number + 4096)) so_far.sent refl
          c.in_ok-go_on.ensures.sent);
      claims = c.in_ok-go_on.ensures.open ∙ so_far.claims;
      over = c.in_ok-go_on.ensures.over ∙ ap (λ (n : ℕ). n + 1) so_far.over;
    }

pub returns-clause-done : goal.returns-clause-done
returns-clause-done c =
    let so_far = c.loop-number.invariant in
    let end : c.loop-number.number ≡ c.args.rounds = at-end c.loop-number.number c.args.rounds c.loop-number-test.false c.loop-number.auto.number-end in
    comes-to c.loop-number.device (plain_config MAX_NAMESPACE) (c.args.rounds + 4096) (claims_where c.args.apart) c.args.rounds (IsInTurn c.args.apart) so_far.config so_far.commands c.over.ensures.lawful
    (subst (λ (n : ℕ). AreSent (IsInTurn c.args.apart) (n + 4096) (sent_on c.loop-number.device)) end so_far.sent) so_far.claims (so_far.over ∙ end)
