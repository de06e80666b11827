use Rattle.std.proofs.Common.{◌≡◌, ◌≤◌, ◌∙◌, None, ℕ, arith, subst, sym}
use Rattle.cp_base.specs.declared.limits.TheConstants.{MAX_HOSTS}
use Rattle.history_model.specs.Plain.{plain_parts}
use Rattle.seat_lock.specs.Passes.{at_home, party_of, seats_in}
use Rattle.workers.proofs.Running.{IsFirstBack, IsGiven, IsLent, first-back, first-lent, home-seat, ready-hosts, rest-done, rested, some-home}
use Rattle.workers.proofs.phases.run_and_rest.Goals as goal

pub run_hosts-passes-requires-clause-ready : goal.run_hosts-passes-requires-clause-ready
run_hosts-passes-requires-clause-ready g c κs within = ready-hosts c.args.device.now MAX_HOSTS c.args.parts.items c.args.passes c.requires.ready

pub lend-first-requires : goal.lend-first-requires
lend-first-requires g c =
    let d = c.args.device.now in
    let back = c.run_hosts-passes.result in
    let first : IsFirstBack d back = first-back 0 d MAX_HOSTS c.args.parts.items (plain_parts c.args.parts.items) c.args.passes back (omega arith) c.requires.ready c.run_hosts-passes.ensures in
    some-home back 1 first.pass first.home

pub rest-requires : goal.rest-requires
rest-requires g c =
    let d = c.args.device.now in
    let back = c.run_hosts-passes.result in
    (first-lent d back c.lend-first.result
    (first-back 0 d MAX_HOSTS c.args.parts.items (plain_parts c.args.parts.items) c.args.passes back (omega arith) c.requires.ready c.run_hosts-passes.ensures) c.lend-first.ensures.pass).0

pub give-requires-clause-seat : goal.give-requires-clause-seat
give-requires-clause-seat g c =
    let d = c.args.device.now in
    let back = c.run_hosts-passes.result in
    let lent = first-lent d back c.lend-first.result
    (first-back 0 d MAX_HOSTS c.args.parts.items (plain_parts c.args.parts.items) c.args.passes back (omega arith) c.requires.ready c.run_hosts-passes.ensures) c.lend-first.ensures.pass in
    let party : party_of c.rest.result ≡ 1 = (rested d c.lend-first.result c.rest.result lent.1 c.rest.ensures).back.party ∙ c.lend-first.ensures.party in
    let within = home-seat back 1 c.lend-first.result c.lend-first.ensures.pass in
    let seats : seats_in c.lend-first.new.self ≡ seats_in back = c.lend-first.ensures.seats in
    omega (arith, party, within, seats)

pub give-requires-clause-empty : goal.give-requires-clause-empty
give-requires-clause-empty g c =
    let d = c.args.device.now in
    let back = c.run_hosts-passes.result in
    let lent = first-lent d back c.lend-first.result
    (first-back 0 d MAX_HOSTS c.args.parts.items (plain_parts c.args.parts.items) c.args.passes back (omega arith) c.requires.ready c.run_hosts-passes.ensures) c.lend-first.ensures.pass in
    let party : party_of c.rest.result ≡ 1 = (rested d c.lend-first.result c.rest.result lent.1 c.rest.ensures).back.party ∙ c.lend-first.ensures.party in
    subst (λ (n : ℕ). at_home c.lend-first.new.self n ≡ None) (sym party) c.lend-first.ensures.empty

pub returns : goal.returns
returns g c =
    let d = c.args.device.now in
    let back = c.run_hosts-passes.result in
    let first = c.lend-first.result in
    let lent = first-lent d back first
    (first-back 0 d MAX_HOSTS c.args.parts.items (plain_parts c.args.parts.items) c.args.passes back (omega arith) c.requires.ready c.run_hosts-passes.ensures) c.lend-first.ensures.pass in
    let further = rested d first c.rest.result lent.1 c.rest.ensures in
    let party : party_of c.rest.result ≡ 1 = further.back.party ∙ c.lend-first.ensures.party in
    let out : IsLent back c.lend-first.new.self 1 first =
    record { home = c.lend-first.ensures.pass; empty = c.lend-first.ensures.empty; others = c.lend-first.ensures.others; seats = c.lend-first.ensures.seats } in
    let given : IsGiven c.lend-first.new.self c.give.new.self 1 c.rest.result = subst (λ (n : ℕ). IsGiven c.lend-first.new.self c.give.new.self n c.rest.result) party
    (record { home = c.give.ensures.pass; others = c.give.ensures.others; seats = c.give.ensures.seats }) in
    rest-done d (plain_parts c.args.parts.items) c.args.passes back c.lend-first.new.self c.give.new.self first c.rest.result c.run_hosts-passes.ensures out given further
