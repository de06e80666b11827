use Rattle.std.proofs.Common.{◌≡◌, ◌∙◌, sym, ap, arith}
use Rattle.seat_lock.specs.Passes.{at_home, party_of}
use Rattle.device_lock.specs.Passes.{DevicePass}
use Rattle.device_lock.proofs.Gathered.{all-with-two}
use Rattle.device_lock.proofs.tests.run_both.Goals as goal

pub returns : goal.returns
returns g c =
    let first : DevicePass = c.drain-first.result in let second : DevicePass = c.drain-second.result in
    let two = c.two_hosts-first.ensures in let worked = c.work_both-first.ensures in
    let one_is : party_of first ≡ 1 = c.drain-first.ensures.party ∙ (worked.first.2 ∙ two.first.2) in
    let two_is : party_of second ≡ 2 = c.drain-second.ensures.party ∙ (worked.second.2 ∙ two.second.2) in
    all-with-two c.args.device.now c.args.passes.now c.give-2.new.self 1 2 first second c.requires.all (c.give-2.ensures.seats ∙ (c.give.ensures.seats ∙ two.seats))
    (λ n not_one not_two. c.give-2.ensures.others n (λ e. not_two (e ∙ two_is)) ∙ (c.give.ensures.others n (λ e. not_one (e ∙ one_is)) ∙ two.others n not_one not_two))
    (c.give-2.ensures.others 1 (λ e. omega arith) ∙ (ap (at_home c.give.new.self) (sym one_is) ∙ c.give.ensures.pass)) one_is c.drain-first.ensures.pass
    (ap (at_home c.give-2.new.self) (sym two_is) ∙ c.give-2.ensures.pass) two_is c.drain-second.ensures.pass
