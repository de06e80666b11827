use Rattle.std.proofs.Common.{◌≡◌, ◌∙◌, refl, subst, sym, ap, IsTrue}
use Rattle.seat_lock.specs.Passes.{party_of, seen_in, value_in}
use Rattle.trail_model.specs.Lawful.{is_idle}
use Rattle.device_core.specs.Gives.{world_in}
use Rattle.device_core.specs.Recorded.{Recorded}
use Rattle.device_lock.specs.Given.{GivesFirst}
use Rattle.device_lock.specs.declared.kept.Given.TheVariants as given
use Rattle.device_lock.specs.declared.kept.Kept.{Kept}
use Rattle.device_lock.proofs.Coming.{kept-short, lawful-before}
use Rattle.device_lock.proofs.Knowing.{idle-there}
use Rattle.device_lock.proofs.Turning.{claimed, did, given-adds, idle-now}
use Rattle.device_lock.proofs.turns.claim_in.Goals as goal

pub claim-given-requires-clause-idle : goal.claim-given-requires-clause-idle
claim-given-requires-clause-idle c =
    subst (λ (k : Kept). IsTrue (is_idle (world_in k.core) c.args.by)) (sym c.value.ensures.value)
    (idle-now c.requires.turn.0 c.requires.turn.1 c.requires.turn.1 c.args.turn (value_in c.args.turn) c.requires.turn.2 c.args.by (c.requires.party ∙ c.requires.turn.2.party) c.requires.turn.3)

pub leave-pass-requires-clause-trail : goal.leave-pass-requires-clause-trail
leave-pass-requires-clause-trail c =
    given-adds c.requires.turn.0 c.requires.turn.1 c.requires.turn.1 c.args.turn c.claim-given.new.self c.requires.turn.2 c.args.by c.claim-given.result (c.requires.party ∙ c.requires.turn.2.party)
    (subst (λ (k : Kept). GivesFirst k.core c.args.by c.claim-given.result c.claim-given.new.self.core) c.value.ensures.value c.claim-given.ensures)

pub leave-pass-requires-clause-short : goal.leave-pass-requires-clause-short
leave-pass-requires-clause-short c = kept-short c.claim-given.new.self

pub returns-in-Claimed : goal.returns-in-Claimed
returns-in-Claimed c = λ d p turn idle.
    claimed d p c.leave-pass.result c.args.turn c.claim-given.new.self turn c.args.by c.in-Claimed.work c.in-Claimed.claim c.in-Claimed.host c.in-Claimed.ordinal _ (c.requires.party ∙ turn.party)
    (subst (λ (k : Kept). GivesFirst k.core c.args.by (given.Claimed c.in-Claimed.work c.in-Claimed.claim c.in-Claimed.host c.in-Claimed.ordinal) c.claim-given.new.self.core) c.value.ensures.value c.in-Claimed.ensures)
    (record { pass = c.leave-pass.ensures.pass; party = c.leave-pass.ensures.party; seen = c.leave-pass.ensures.seen; made = c.leave-pass.ensures.made; lost = c.leave-pass.ensures.lost })
    refl refl refl refl idle

pub returns-in-Did : goal.returns-in-Did
returns-in-Did c = λ d p turn idle.
    did d p c.leave-pass.result c.args.turn c.claim-given.new.self turn c.args.by (c.requires.party ∙ turn.party)
    (subst (λ (k : Kept). GivesFirst k.core c.args.by given.Did c.claim-given.new.self.core) c.value.ensures.value c.in-Did.ensures)
    (record { pass = c.leave-pass.ensures.pass; party = c.leave-pass.ensures.party; seen = c.leave-pass.ensures.seen; made = c.leave-pass.ensures.made; lost = c.leave-pass.ensures.lost })
