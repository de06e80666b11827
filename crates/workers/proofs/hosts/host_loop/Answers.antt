use Rattle.std.proofs.Common.{◌≡◌, ◌≤◌, ◌∙◌, ℕ, List, [], ◌∷◌, ap, arith, length, subst, sym}
use Rattle.cp_base.specs.declared.limits.TheConstants.{MAX_HOSTS}
use Rattle.std.specs.Vec.Iter.{into_iter_items}
use Rattle.script_cmds.specs.declared.item.Item.{Item}
use Rattle.script_cmds.specs.declared.item.Item.TheVariants as item
use Rattle.seat_lock.specs.Passes.{party_of}
use Rattle.workers.proofs.Doing.{HasLeft, all-left, host-still, left-first, left-sent, left-taken, no-items, none-left}
use Rattle.workers.proofs.hosts.host_loop.Goals as goal

pub loop-item-init : goal.loop-item-init
loop-item-init g c =
    let d = c.args.device.now in
    let gives = c.into_iter-item-iterator.ensures.into_iter_gives in
    let all : into_iter_items c.into_iter-item-iterator.result ≡ c.args.part.items = gives.0 ∙ c.into_vec-item-items.ensures in
    let items = ap length gives.0 in
    let len = gives.1 in
    record {
      left = subst (λ (left : List Item). HasLeft d c.args.pass c.args.pass c.args.part.items left) (sym all)
          (all-left d c.args.pass c.args.part.items c.requires.pass c.requires.idle c.requires.none c.requires.queue);
      count = omega (arith, items, len);
    }

pub returns-clause-further : goal.returns-clause-further
returns-clause-further g c =
    let none : into_iter_items c.loop-item.item-iterator ≡ [] = no-items (into_iter_items c.loop-item.item-iterator) (sym c.loop-item.invariant.count ∙ c.in-None.ensures.steps.0) in
    (none-left c.args.device.now c.args.pass c.loop-item.pass c.args.part.items
    (subst (λ (left : List Item). HasLeft c.args.device.now c.args.pass c.loop-item.pass c.args.part.items left) none c.loop-item.invariant.left)).0

pub returns-clause-none : goal.returns-clause-none
returns-clause-none g c =
    let none : into_iter_items c.loop-item.item-iterator ≡ [] = no-items (into_iter_items c.loop-item.item-iterator) (sym c.loop-item.invariant.count ∙ c.in-None.ensures.steps.0) in
    (none-left c.args.device.now c.args.pass c.loop-item.pass c.args.part.items
    (subst (λ (left : List Item). HasLeft c.args.device.now c.args.pass c.loop-item.pass c.args.part.items left) none c.loop-item.invariant.left)).1

pub send-requires-clause-pass : goal.send-requires-clause-pass
send-requires-clause-pass g c =
    let d = c.args.device.now in
    let rest = into_iter_items c.next.new.self in
    let has : HasLeft d c.args.pass c.loop-item.pass c.args.part.items (item.Send c.in-Send.cid c.in-Send.command ∷ rest) =
    left-first d c.args.pass c.loop-item.pass c.args.part.items (into_iter_items c.loop-item.item-iterator) rest c.in-Some.item (item.Send c.in-Send.cid c.in-Send.command)
    c.loop-item.invariant.left c.in-Some.ensures.steps.0 c.in-Send.is in
    has.further.back.of_device

pub send-requires-clause-idle : goal.send-requires-clause-idle
send-requires-clause-idle g c =
    let d = c.args.device.now in
    let rest = into_iter_items c.next.new.self in
    let has : HasLeft d c.args.pass c.loop-item.pass c.args.part.items (item.Send c.in-Send.cid c.in-Send.command ∷ rest) =
    left-first d c.args.pass c.loop-item.pass c.args.part.items (into_iter_items c.loop-item.item-iterator) rest c.in-Some.item (item.Send c.in-Send.cid c.in-Send.command)
    c.loop-item.invariant.left c.in-Some.ensures.steps.0 c.in-Send.is in
    has.further.idle

pub send-requires-clause-host : goal.send-requires-clause-host
send-requires-clause-host g c =
    let d = c.args.device.now in
    let rest = into_iter_items c.next.new.self in
    let has : HasLeft d c.args.pass c.loop-item.pass c.args.part.items (item.Send c.in-Send.cid c.in-Send.command ∷ rest) =
    left-first d c.args.pass c.loop-item.pass c.args.part.items (into_iter_items c.loop-item.item-iterator) rest c.in-Some.item (item.Send c.in-Send.cid c.in-Send.command)
    c.loop-item.invariant.left c.in-Some.ensures.steps.0 c.in-Send.is in
    let low : party_of c.args.pass ≤ MAX_HOSTS = subst (λ (n : ℕ). n ≤ MAX_HOSTS) (sym c.requires.host.0) c.requires.host.1 in
    host-still 0 d c.args.pass c.loop-item.pass has.done has.further low

pub send-requires-clause-room : goal.send-requires-clause-room
send-requires-clause-room g c =
    let d = c.args.device.now in
    let rest = into_iter_items c.next.new.self in
    let has : HasLeft d c.args.pass c.loop-item.pass c.args.part.items (item.Send c.in-Send.cid c.in-Send.command ∷ rest) =
    left-first d c.args.pass c.loop-item.pass c.args.part.items (into_iter_items c.loop-item.item-iterator) rest c.in-Some.item (item.Send c.in-Send.cid c.in-Send.command)
    c.loop-item.invariant.left c.in-Some.ensures.steps.0 c.in-Send.is in
    has.queue.0

pub send-requires-clause-free : goal.send-requires-clause-free
send-requires-clause-free g c =
    let d = c.args.device.now in
    let rest = into_iter_items c.next.new.self in
    let has : HasLeft d c.args.pass c.loop-item.pass c.args.part.items (item.Send c.in-Send.cid c.in-Send.command ∷ rest) =
    left-first d c.args.pass c.loop-item.pass c.args.part.items (into_iter_items c.loop-item.item-iterator) rest c.in-Some.item (item.Send c.in-Send.cid c.in-Send.command)
    c.loop-item.invariant.left c.in-Some.ensures.steps.0 c.in-Send.is in
    has.queue.1

pub take-requires-clause-pass : goal.take-requires-clause-pass
take-requires-clause-pass g c κs within =
    let d = c.args.device.now in
    let rest = into_iter_items c.next.new.self in
    let has : HasLeft d c.args.pass c.loop-item.pass c.args.part.items (item.Take c.in-Take.cid ∷ rest) =
    left-first d c.args.pass c.loop-item.pass c.args.part.items (into_iter_items c.loop-item.item-iterator) rest c.in-Some.item (item.Take c.in-Take.cid)
    c.loop-item.invariant.left c.in-Some.ensures.steps.0 c.in-Take.is in
    has.further.back.of_device

pub take-requires-clause-idle : goal.take-requires-clause-idle
take-requires-clause-idle g c κs within =
    let d = c.args.device.now in
    let rest = into_iter_items c.next.new.self in
    let has : HasLeft d c.args.pass c.loop-item.pass c.args.part.items (item.Take c.in-Take.cid ∷ rest) =
    left-first d c.args.pass c.loop-item.pass c.args.part.items (into_iter_items c.loop-item.item-iterator) rest c.in-Some.item (item.Take c.in-Take.cid)
    c.loop-item.invariant.left c.in-Some.ensures.steps.0 c.in-Take.is in
    has.further.idle

pub take-requires-clause-host : goal.take-requires-clause-host
take-requires-clause-host g c κs within =
    let d = c.args.device.now in
    let rest = into_iter_items c.next.new.self in
    let has : HasLeft d c.args.pass c.loop-item.pass c.args.part.items (item.Take c.in-Take.cid ∷ rest) =
    left-first d c.args.pass c.loop-item.pass c.args.part.items (into_iter_items c.loop-item.item-iterator) rest c.in-Some.item (item.Take c.in-Take.cid)
    c.loop-item.invariant.left c.in-Some.ensures.steps.0 c.in-Take.is in
    let low : party_of c.args.pass ≤ MAX_HOSTS = subst (λ (n : ℕ). n ≤ MAX_HOSTS) (sym c.requires.host.0) c.requires.host.1 in
    host-still 0 d c.args.pass c.loop-item.pass has.done has.further low

pub take-requires-clause-outstanding : goal.take-requires-clause-outstanding
take-requires-clause-outstanding g c κs within =
    let d = c.args.device.now in
    let rest = into_iter_items c.next.new.self in
    let has : HasLeft d c.args.pass c.loop-item.pass c.args.part.items (item.Take c.in-Take.cid ∷ rest) =
    left-first d c.args.pass c.loop-item.pass c.args.part.items (into_iter_items c.loop-item.item-iterator) rest c.in-Some.item (item.Take c.in-Take.cid)
    c.loop-item.invariant.left c.in-Some.ensures.steps.0 c.in-Take.is in
    has.queue.0

pub loop-item-preserved-in-Send : goal.loop-item-preserved-in-Send
loop-item-preserved-in-Send g c =
    let d = c.args.device.now in
    let rest = into_iter_items c.next.new.self in
    let has : HasLeft d c.args.pass c.loop-item.pass c.args.part.items (item.Send c.in-Send.cid c.in-Send.command ∷ rest) =
    left-first d c.args.pass c.loop-item.pass c.args.part.items (into_iter_items c.loop-item.item-iterator) rest c.in-Some.item (item.Send c.in-Send.cid c.in-Send.command)
    c.loop-item.invariant.left c.in-Some.ensures.steps.0 c.in-Send.is in
    let gone = c.in-Some.ensures.steps.1 in
    let short = ap length c.in-Some.ensures.steps.0 in
    let was = c.loop-item.invariant.count in
    record { left = left-sent d c.args.pass c.loop-item.pass c.send.result c.args.part.items rest c.in-Send.cid c.in-Send.command has c.send.ensures; count = omega (arith, gone, short, was) }

pub loop-item-preserved : goal.loop-item-preserved
loop-item-preserved g c =
    let d = c.args.device.now in
    let rest = into_iter_items c.next.new.self in
    let has : HasLeft d c.args.pass c.loop-item.pass c.args.part.items (item.Take c.in-Take.cid ∷ rest) =
    left-first d c.args.pass c.loop-item.pass c.args.part.items (into_iter_items c.loop-item.item-iterator) rest c.in-Some.item (item.Take c.in-Take.cid)
    c.loop-item.invariant.left c.in-Some.ensures.steps.0 c.in-Take.is in
    let gone = c.in-Some.ensures.steps.1 in
    let short = ap length c.in-Some.ensures.steps.0 in
    let was = c.loop-item.invariant.count in
    record { left = left-taken d c.args.pass c.loop-item.pass c.take.result c.args.part.items rest c.in-Take.cid has c.take.ensures; count = omega (arith, gone, short, was) }
