use Rattle.std.proofs.Common.{◌≤◌, ◌+◌, ◌∙◌, arith, sym, ap, subst, if◌then◌else◌}
use Rattle.cp_base.specs.declared.limits.TheConstants.{MAX_COMMANDS}
use Rattle.device_core.specs.Recorded.{told_event}
use Rattle.device_lock.proofs.Coming.{few-events}
use Rattle.device_lock.proofs.Keeping.{rest-counted, same-commands}
use Rattle.device_lock.proofs.kept.Kept.rest.Goals as goal

pub overflow_add-self : goal.overflow_add-self
overflow_add-self c = let few = few-events c.args.self.now in let count = c.args.self.now.counted in omega arith

pub invariant_of-self : goal.invariant_of-self
invariant_of-self c =
    let k = c.args.self.now in
    let grown = rest-counted k.core c.rest.new.self c.args.by k.events told_event c.event.result c.is_some.result c.rest.ensures.rested k.counted c.event.ensures c.is_some.ensures in
    record {
      lawful = c.rest.ensures.lawful;
      few = subst (λ n. n ≤ MAX_COMMANDS) (sym (same-commands k.core c.rest.new.self c.args.by c.rest.ensures.rested)) k.few;
      counted = sym (grown ∙ ap (λ b. if b then k.events + 1 else k.events) c.if-is_some.true);
    }

pub invariant_of-self-else-is_some : goal.invariant_of-self-else-is_some
invariant_of-self-else-is_some c =
    let k = c.args.self.now in
    let grown = rest-counted k.core c.rest.new.self c.args.by k.events told_event c.event.result c.is_some.result c.rest.ensures.rested k.counted c.event.ensures c.is_some.ensures in
    record {
      lawful = c.rest.ensures.lawful;
      few = subst (λ n. n ≤ MAX_COMMANDS) (sym (same-commands k.core c.rest.new.self c.args.by c.rest.ensures.rested)) k.few;
      counted = sym (grown ∙ ap (λ b. if b then k.events + 1 else k.events) c.if-is_some.false);
    }
