use denote.Param.Send.{sendable}
use Rattle.std.proofs.Common.{◌≡◌, ◌∙◌, ◌∷◌, [], ◌++◌, List, arith, refl, rules, subst, sym}
use Rattle.std.proofs.Crossing.{crosses}
use Rattle.atomic_table.proofs.badge.Badge.TheSendSync.{the_send as badge_send}
use Rattle.device_lock.proofs.Crossing.{device-sync}
use Rattle.script_cmds.specs.declared.item.HostPart.{HostPart}
use Rattle.history_model.specs.Plain.{plain_parts}
use Rattle.device_lock.specs.Passes.{DevicePasses}
use Rattle.seat_lock.specs.Passes.{party_of}
use Rattle.workers.specs.Phases.{AreFurther, AreReady, IsHostReady}
use Rattle.workers.proofs.Crossing.{part-field-send, part-send}
use Rattle.workers.proofs.Running.{IsGiven, IsLent, host-ready, hosts-done, no-elements, no-parts, part-last, parts-front, place-empty, place-there, some-home}
use Rattle.workers.proofs.phases.+hosts.Goals as goal

pub lend-pass-requires : goal.lend-pass-requires
lend-pass-requires g t c =
    let d = c.args.device.now in
    let ready : AreReady d 0 (c.pop.new.self.items ++ c.in-Some.part ∷ []) c.args.passes = subst (λ (xs : List HostPart). AreReady d 0 xs c.args.passes) c.in-Some.ensures.items c.requires.ready in
    let may = part-last d 0 c.pop.new.self.items c.in-Some.part c.args.passes ready in
    some-home c.args.passes c.in-Some.part.host may.pass may.home

pub join-pass-requires : goal.join-pass-requires
join-pass-requires g t c κs = (
  (let shared = device-sync in let sent = part-send in let held = part-field-send in search (sendable, crosses, badge_send) depth 40 fits 100000),
  (
    search (sendable, crosses, badge_send) depth 40 fits 100000,
    (let d = c.args.device.now in
        let front = c.pop.new.self.items in
        let part = c.in-Some.part in
        let ready : AreReady d 0 (front ++ part ∷ []) c.args.passes = subst (λ (xs : List HostPart). AreReady d 0 xs c.args.passes) c.in-Some.ensures.items c.requires.ready in
        let lent : IsLent c.args.passes c.lend-pass.new.self part.host c.lend-pass.result =
        record { home = c.lend-pass.ensures.pass; empty = c.lend-pass.ensures.empty; others = c.lend-pass.ensures.others; seats = c.lend-pass.ensures.seats } in
        let party : party_of c.lend-pass.result ≡ part.host = c.lend-pass.ensures.party in
        let host : IsHostReady d part c.lend-pass.result = host-ready d 0 front part c.args.passes c.lend-pass.result ready c.lend-pass.ensures.pass party in
        let others : AreReady d 0 front c.lend-pass.new.self = parts-front d 0 front part c.args.passes c.lend-pass.new.self c.lend-pass.result ready lent in
        let shorter = c.in-Some.ensures.cases in (search rules, search rules)),
  ),
)

pub give-requires-clause-seat : goal.give-requires-clause-seat
give-requires-clause-seat g t c =
    let d = c.args.device.now in
    let front = c.pop.new.self.items in
    let part = c.in-Some.part in
    let lent : IsLent c.args.passes c.lend-pass.new.self part.host c.lend-pass.result =
    record { home = c.lend-pass.ensures.pass; empty = c.lend-pass.ensures.empty; others = c.lend-pass.ensures.others; seats = c.lend-pass.ensures.seats } in
    let further = c.join-pass.ensures.first in
    place-there 0 d (plain_parts front) c.args.passes c.lend-pass.new.self c.join-pass.result.1 part.host c.lend-pass.result c.join-pass.result.0 lent c.join-pass.ensures.second
    (further.back.party ∙ c.lend-pass.ensures.party)

pub give-requires-clause-empty : goal.give-requires-clause-empty
give-requires-clause-empty g t c =
    let d = c.args.device.now in
    let front = c.pop.new.self.items in
    let part = c.in-Some.part in
    let lent : IsLent c.args.passes c.lend-pass.new.self part.host c.lend-pass.result =
    record { home = c.lend-pass.ensures.pass; empty = c.lend-pass.ensures.empty; others = c.lend-pass.ensures.others; seats = c.lend-pass.ensures.seats } in
    let further = c.join-pass.ensures.first in
    place-empty 0 d (plain_parts front) c.args.passes c.lend-pass.new.self c.join-pass.result.1 part.host c.lend-pass.result c.join-pass.result.0 lent c.join-pass.ensures.second
    (further.back.party ∙ c.lend-pass.ensures.party)

pub returns : goal.returns
returns g t c =
    let d = c.args.device.now in
    let front = c.pop.new.self.items in
    let part = c.in-Some.part in
    let ps = c.args.passes in
    let mid = c.lend-pass.new.self in
    let p = c.lend-pass.result in
    let q = c.join-pass.result.0 in
    let back = c.join-pass.result.1 in
    let items = c.in-Some.ensures.items in
    let ready : AreReady d 0 (front ++ part ∷ []) ps = subst (λ (xs : List HostPart). AreReady d 0 xs ps) items c.requires.ready in
    let lent : IsLent ps mid part.host p = record { home = c.lend-pass.ensures.pass; empty = c.lend-pass.ensures.empty; others = c.lend-pass.ensures.others; seats = c.lend-pass.ensures.seats } in
    let further = c.join-pass.ensures.first in
    let party : party_of q ≡ part.host = further.back.party ∙ c.lend-pass.ensures.party in
    let given : IsGiven back c.give.new.self part.host q =
    subst (λ n. IsGiven back c.give.new.self n q) party (record { home = c.give.ensures.pass; others = c.give.ensures.others; seats = c.give.ensures.seats }) in
    subst (λ (xs : List HostPart). AreFurther 0 d (plain_parts xs) ps c.give.new.self) (sym items)
    (hosts-done d 0 front part ps mid back c.give.new.self p q ready lent c.join-pass.ensures.second given further)

pub returns-in_default : goal.returns-in_default
returns-in_default g t c =
    let none : c.args.parts.items ≡ [] = no-elements c.args.parts.items (omega (arith, c.args.parts.ok.0, (rw c.in_default.is at c.pop.ensures.cases).0)) in
    no-parts 0 c.args.device.now 0 c.args.parts.items c.args.passes none c.requires.ready
