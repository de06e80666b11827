use Rattle.bpf_exec.proofs.Windows.{update_done, update_unread, update_unwritten}
use Rattle.bpf_exec.proofs.processor.Processor.update.Goals as goal

pub returns-in_default-clause-effect : goal.returns-in_default-clause-effect
returns-in_default-clause-effect c = λ fetch.
    update_unread c.args.self.now c.args.view.now c.args.op c.args.address c.args.size c.args.source fetch c.in_default.ensures.number

pub returns-clause-effect : goal.returns-clause-effect
returns-clause-effect c = λ fetch.
    update_done c.args.self.now c.args.view.now c.args.op c.args.address c.args.size c.args.source fetch c.store.new.self c.in-Some.old c.atomic_new-new.result
    c.in-Some.ensures.number c.atomic_new-new.ensures.value c.in-Some-store.ensures.stored

pub returns-in_default-store-clause-effect : goal.returns-in_default-store-clause-effect
returns-in_default-store-clause-effect c = λ fetch.
    update_unwritten c.args.self.now c.args.view.now c.args.op c.args.address c.args.size c.args.source fetch c.in-Some.old c.atomic_new-new.result
    c.in-Some.ensures.number c.atomic_new-new.ensures.value c.in_default-store.ensures.stored.0
