use Rattle.std.proofs.Common.{◌≡◌, ℕ, List, false, inr, sym, ap, ◌∙◌}
use Rattle.std.proofs.lemmas.Bool.{both_ways}
use Rattle.history_check.specs.Standing.{TellsNoMemory, TellsWithdrawal}
use Rattle.history_check.specs.declared.checker.Checker.{Checker}
use Rattle.history_check.proofs.SameLook.{answer-as, withdrawal-as}
use Rattle.history_check.proofs.checker.Checker.tells_reply.Goals as goal
use Rattle.history_check.proofs.checker.Checker.tells_reply.Goals.{then-branch, else-branch+in_ok-tells_withdrawal}

-- neither want of memory nor a withdrawal was told, and nothing has changed
record IsNeither (old mid : Checker) (place k : ℕ) (line : List ℕ) : Type 0 where
  device : mid.device ≡ old.device
  awaiting : mid.awaiting ≡ old.awaiting
  withdrawn : mid.withdrawn ≡ old.withdrawn
  memory : TellsNoMemory old place k line → ⊥
  withdrawal : (named : ℕ) → TellsWithdrawal old place named k line → ⊥

neither : (c : goal.In_ok-tells_answer) → IsNeither c.args.self.now c.if-branch.self c.args.place c.args.k c.args.line.now
neither c = elim c.if-branch.branch [
  | then-branch w ↦ absurd (both_ways c.if-branch.value c.if-branch-2.false (w.value-is ∙ w.if-branch.true))
  | else-branch+in_ok-tells_withdrawal w ↦
      (let old = c.args.self.now in
      let first = c.in_ok-tells_no_memory.ensures.same in
      let second = w.in_ok-tells_withdrawal.ensures.same in
      let off : w.in_ok-tells_withdrawal.field-0 ≡ false = sym w.value-is ∙ c.if-branch-2.false in
      let none = w.in_ok-tells_withdrawal.ensures.no off in
      record {
        device = ap (λ (s : Checker). s.device) w.self-is ∙ (second.0 ∙ first.0);
        awaiting = ap (λ (s : Checker). s.awaiting) w.self-is ∙ (second.1 ∙ first.1);
        withdrawn = ap (λ (s : Checker). s.withdrawn) w.self-is ∙ (none.0 ∙ first.2);
        memory = c.in_ok-tells_no_memory.ensures.no w.if-branch.false;
        withdrawal = λ named t. none.1 named (withdrawal-as old c.tells_no_memory.new.self c.args.place named c.args.k c.args.line.now (sym first.1) t);
      })
]

pub returns-in_ok-tells_answer-clause-yes : goal.returns-in_ok-tells_answer-clause-yes
returns-in_ok-tells_answer-clause-yes c on =
    let n = neither c in
    inr (inr (
      answer-as c.if-branch.self c.args.self.now c.args.place c.args.k c.args.line.now c.tells_answer.new.self.device n.device n.awaiting (c.in_ok-tells_answer.ensures.yes on),
      c.in_ok-tells_answer.ensures.same.1 ∙ n.withdrawn,
    ))

pub returns-in_ok-tells_answer-clause-no : goal.returns-in_ok-tells_answer-clause-no
returns-in_ok-tells_answer-clause-no c off =
    let n = neither c in
    record {
      memory = n.memory;
      withdrawal = n.withdrawal;
      answer = λ after t. c.in_ok-tells_answer.ensures.no off after (answer-as c.args.self.now c.if-branch.self c.args.place c.args.k c.args.line.now after (sym n.device) (sym n.awaiting) t);
    }
