use Rattle.std.proofs.Common.{◌≡◌, ◌∙◌, ◌∷◌, [], Ok, subst, sym, ap}
use Rattle.seat_lock.specs.Passes.{party_of, seen_in}
use Rattle.trail_model.specs.declared.events.Event.TheVariants as event
use Rattle.core_model.specs.Causes.{take_answer}
use Rattle.device_core.specs.Gives.{world_in}
use Rattle.device_core.specs.Recorded.{with_event}
use Rattle.device_lock.specs.declared.kept.Kept.{Kept}
use Rattle.device_lock.proofs.Coming.{kept-short, lawful-before}
use Rattle.device_lock.proofs.Turning.{answer-before, ended-there, replied}
use Rattle.device_lock.proofs.turns.take_in.Goals as goal

pub leave-pass-requires-clause-short : goal.leave-pass-requires-clause-short
leave-pass-requires-clause-short c = kept-short c.take-taken.new.self

pub returns-in-Ok : goal.returns-in-Ok
returns-in-Ok c = λ d p turn.
    let t = c.args.turn in
    let k = c.take-taken.new.self in
    let own : c.args.by ≡ party_of p = c.requires.host.0 ∙ turn.party in
    let is = c.in-Ok.ensures.answer ∙ ap (λ (k : Kept). take_answer (world_in k.core) c.args.by c.args.cid) c.value.ensures.value in
    replied d p c.leave-pass.result t k turn c.args.by c.args.cid c.in-Ok.place own is
    (c.in-Ok.ensures.taken ∙ ap (λ (k : Kept). with_event k.core (event.Take c.args.by c.args.cid c.in-Ok.place)) c.value.ensures.value)
    (record { pass = c.leave-pass.ensures.pass; party = c.leave-pass.ensures.party; seen = c.leave-pass.ensures.seen; made = c.leave-pass.ensures.made; lost = c.leave-pass.ensures.lost })
    (λ trail seen. ended-there d.config d.commands (seen_in t) trail (event.Take (party_of p) c.args.cid c.in-Ok.place ∷ []) (party_of p) c.args.cid c.in-Ok.place
    (lawful-before d p t turn) seen (answer-before d p c.leave-pass.result t k turn c.args.by c.args.cid (Ok c.in-Ok.place) own is))
