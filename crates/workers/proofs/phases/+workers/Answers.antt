use denote.Param.Send.{sendable}
use Rattle.std.proofs.Common.{◌≡◌, ◌≢◌, ◌≤◌, ◌+◌, ◌-◌, ◌∙◌, [], ℕ, arith, rules, refl, subst, sym}
use Rattle.std.proofs.Crossing.{crosses}
use Rattle.atomic_table.proofs.badge.Badge.TheSendSync.{the_send as badge_send}
use Rattle.cp_base.specs.declared.limits.TheConstants.{MAX_HOSTS}
use Rattle.history_model.specs.Plain.{plain_parts}
use Rattle.seat_lock.specs.Passes.{party_of}
use Rattle.device_lock.proofs.Crossing.{device-sync}
use Rattle.device_lock.specs.Passes.{IsIdle, IsOfDevice}
use Rattle.workers.specs.Phases.{AreFurther, AreReady}
use Rattle.workers.proofs.Running.{IsGiven, IsLent, place-empty, place-there, worker-done, workers-left}
use Rattle.workers.proofs.phases.+workers.Goals as goal

pub run_and_rest-requires-clause-ready : goal.run_and_rest-requires-clause-ready
run_and_rest-requires-clause-ready g t c κs within = subst (λ (n : ℕ). AreReady c.args.device.now n c.args.parts.items c.args.passes) c.if-worker-eq-MAX_HOSTS.true c.requires.ready

pub lend-pass-requires : goal.lend-pass-requires
lend-pass-requires g t c =
    let most = c.requires.workers in
    let some : 1 ≤ c.args.worker = omega (arith, most) in
    let all : c.args.worker ≤ c.args.worker = omega arith in
    c.requires.ready.homes c.args.worker some all

pub join-pass-requires : goal.join-pass-requires
join-pass-requires g t c κs = (
  (let shared = device-sync in search (sendable, crosses, badge_send) depth 40 fits 100000),
  (
    search (sendable, crosses, badge_send) depth 40 fits 100000,
    (let d = c.args.device.now in
        let most = c.requires.workers in
        let other : c.args.worker ≢ MAX_HOSTS = c.if-worker-eq-MAX_HOSTS.false in
        let high : MAX_HOSTS + 1 ≤ c.args.worker = omega (arith, most, other) in
        let one : c.args.worker - 1 + 1 ≡ c.args.worker = omega (arith, most) in
        let lent : IsLent c.args.passes c.lend-pass.new.self c.args.worker c.lend-pass.result =
        record { home = c.lend-pass.ensures.pass; empty = c.lend-pass.ensures.empty; others = c.lend-pass.ensures.others; seats = c.lend-pass.ensures.seats } in
        let is = c.requires.ready.idle c.args.worker c.lend-pass.result c.lend-pass.ensures.pass in
        let of_device : IsOfDevice d c.lend-pass.result = is.0 in
        let idle : IsIdle c.lend-pass.result = is.1 in
        let others : AreReady d (c.args.worker - 1) c.args.parts.items c.lend-pass.new.self =
        workers-left d c.args.worker (c.args.worker - 1) c.args.parts.items c.args.passes c.lend-pass.new.self c.lend-pass.result high one c.requires.ready lent in
        (search rules, search rules)),
  ),
)

pub give-requires-clause-seat : goal.give-requires-clause-seat
give-requires-clause-seat g t c =
    let d = c.args.device.now in
    let lent : IsLent c.args.passes c.lend-pass.new.self c.args.worker c.lend-pass.result =
    record { home = c.lend-pass.ensures.pass; empty = c.lend-pass.ensures.empty; others = c.lend-pass.ensures.others; seats = c.lend-pass.ensures.seats } in
    place-there 1 d (plain_parts c.args.parts.items) c.args.passes c.lend-pass.new.self c.join-pass.result.1 c.args.worker c.lend-pass.result c.join-pass.result.0 lent c.join-pass.ensures.second
    (c.join-pass.ensures.first.back.party ∙ c.lend-pass.ensures.party)

pub give-requires-clause-empty : goal.give-requires-clause-empty
give-requires-clause-empty g t c =
    let d = c.args.device.now in
    let lent : IsLent c.args.passes c.lend-pass.new.self c.args.worker c.lend-pass.result =
    record { home = c.lend-pass.ensures.pass; empty = c.lend-pass.ensures.empty; others = c.lend-pass.ensures.others; seats = c.lend-pass.ensures.seats } in
    place-empty 1 d (plain_parts c.args.parts.items) c.args.passes c.lend-pass.new.self c.join-pass.result.1 c.args.worker c.lend-pass.result c.join-pass.result.0 lent c.join-pass.ensures.second
    (c.join-pass.ensures.first.back.party ∙ c.lend-pass.ensures.party)

pub returns : goal.returns
returns g t c =
    let d = c.args.device.now in
    let most = c.requires.workers in
    let other : c.args.worker ≢ MAX_HOSTS = c.if-worker-eq-MAX_HOSTS.false in
    let high : MAX_HOSTS + 1 ≤ c.args.worker = omega (arith, most, other) in
    let mid = c.lend-pass.new.self in
    let back = c.join-pass.result.1 in
    let lent : IsLent c.args.passes mid c.args.worker c.lend-pass.result =
    record { home = c.lend-pass.ensures.pass; empty = c.lend-pass.ensures.empty; others = c.lend-pass.ensures.others; seats = c.lend-pass.ensures.seats } in
    let further = c.join-pass.ensures.first in
    let party : party_of c.join-pass.result.0 ≡ c.args.worker = further.back.party ∙ c.lend-pass.ensures.party in
    let given : IsGiven back c.give.new.self c.args.worker c.join-pass.result.0 =
    subst (λ (n : ℕ). IsGiven back c.give.new.self n c.join-pass.result.0) party (record { home = c.give.ensures.pass; others = c.give.ensures.others; seats = c.give.ensures.seats }) in
    worker-done d c.args.worker c.args.parts.items c.args.passes mid back c.give.new.self c.lend-pass.result c.join-pass.result.0 high c.requires.ready lent c.join-pass.ensures.second given further
