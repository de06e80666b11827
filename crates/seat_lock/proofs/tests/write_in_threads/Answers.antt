use Rattle.std.proofs.Common.{◌≡◌, ◌∙◌, sym, ap, arith}
use Rattle.seat_lock.specs.Passes.{party_of, at_home}
use Rattle.seat_lock.proofs.PlaceLemmas.{all_with_two}
use Rattle.seat_lock.proofs.tests.write_in_threads.Goals as goal

pub returns : goal.returns
returns g c = let first = c.write_both-first.result.0 in let second = c.write_both-first.result.1 in let two = c.two_passes-first.ensures in let wrote = c.write_both-first.ensures in
    let one_is : party_of first ≡ 1 = wrote.parties.0 ∙ two.parties.0 in let two_is : party_of second ≡ 2 = wrote.parties.1 ∙ two.parties.1 in
    all_with_two _ _ c.args.passes.now c.give-2.new.self 1 2 first second c.requires.all (c.give-2.ensures.seats ∙ (c.give.ensures.seats ∙ two.seats))
    (λ n not_one not_two. c.give-2.ensures.others n (λ e. not_two (e ∙ two_is)) ∙ (c.give.ensures.others n (λ e. not_one (e ∙ one_is)) ∙ two.others n not_one not_two))
    (c.give-2.ensures.others 1 (λ e. omega arith) ∙ (ap (at_home c.give.new.self) (sym one_is) ∙ c.give.ensures.pass)) one_is wrote.first
    (ap (at_home c.give-2.new.self) (sym two_is) ∙ c.give-2.ensures.pass) two_is wrote.second
