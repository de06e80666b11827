-- A party turns to a command.
use Rattle.std.proofs.Common.{◌≡◌, ◌∙◌, [], List, ap, arith, length, refl, slice_get, sym}
use Rattle.std.proofs.lemmas.Bool.{true≢false}
use Rattle.core_model.specs.Asked.{asked_at}
use Rattle.core_model.specs.declared.places.WaitingSubmit.{WaitingSubmit}
use Rattle.device_core.specs.Keep.{parts_of}
use Rattle.device_core.specs.Recorded.{trail_of}
use Rattle.device_core.proofs.Claimed.{still-held, still-pickable, still-waiting}
use Rattle.device_core.proofs.Turned.{kept-fits, picked-waits}
use Rattle.device_core.proofs.Turning.{did-number, few-pickable, none-left, none-queued, none-waits, of-number, still-room}
use Rattle.device_core.proofs.claiming.turn.Goals.{else-keep-via-then-keep+else-is_empty, else-keep-via-else-keep}
use Rattle.device_core.proofs.claiming.turn.Goals as goal

pub nth_pickable-requires : goal.nth_pickable-requires
nth_pickable-requires c = kept-fits c.args.config.now c.args.commands c.args.trail.now c.requires.held.0 c.args.keep.now c.requires.held.1

pub returns-in_default-clause-turns : goal.returns-in_default-clause-turns
returns-in_default-clause-turns c =
    let p = parts_of (length c.args.trail.now) c.args.keep.now in
    let t = trail_of c.args.trail.now in
    let stands = c.requires.held.1.stands in (
      refl,
      few-pickable c.args.config.now c.args.commands p t c.args.skip stands (sym c.in_default.ensures),
      λ rests none.
          let empty : c.args.keep.now.waiting.items ≡ [] = none-waits c.args.config.now c.args.commands p t stands none in
          let len : length c.args.keep.now.waiting.items ≡ 0 = ap length empty in
          elim c.else-keep.branch [
            | else-keep-via-then-keep+else-is_empty w ↦ absurd (grind (arith, len, w.is_empty.ensures, w.if-is_empty.false))
            | else-keep-via-else-keep w ↦ absurd (true≢false (sym (stands.ties.at_rest ∙ rests) ∙ w.if-keep.false))
          ],
    )

pub claim_now-requires-clause-waits : goal.claim_now-requires-clause-waits
claim_now-requires-clause-waits c =
    let at = picked-waits c.args.config.now c.args.trail.now (length c.args.trail.now) c.args.skip c.in-Some.x c.args.keep.now (sym c.in-Some.ensures) in
    (at.0, at.1)

pub claim_now-requires-clause-may : goal.claim_now-requires-clause-may
claim_now-requires-clause-may c =
    (picked-waits c.args.config.now c.args.trail.now (length c.args.trail.now) c.args.skip c.in-Some.x c.args.keep.now (sym c.in-Some.ensures)).2

pub do_now-requires-clause-waits : goal.do_now-requires-clause-waits
do_now-requires-clause-waits c =
    let at = picked-waits c.args.config.now c.args.trail.now (length c.args.trail.now) c.args.skip c.in-Some.x c.args.keep.now (sym c.in-Some.ensures) in
    (at.0, ap (λ (xs : List WaitingSubmit). slice_get xs at.0) (still-waiting c.args.keep.now c.claim_now.new.keep c.in-None.ensures.unchanged) ∙ at.1)

pub do_now-requires-clause-may : goal.do_now-requires-clause-may
do_now-requires-clause-may c =
    let n = length c.args.trail.now in
    let at = picked-waits c.args.config.now c.args.trail.now n c.args.skip c.in-Some.x c.args.keep.now (sym c.in-Some.ensures) in
    still-pickable c.args.config.now n c.args.keep.now c.claim_now.new.keep (asked_at (trail_of c.args.trail.now) c.in-Some.x.sent) c.in-None.ensures.unchanged ∙ at.2

pub returns-in-Some-claim_now-clause-turns : goal.returns-in-Some-claim_now-clause-turns
returns-in-Some-claim_now-clause-turns c =
    let claims = c.in-Some-claim_now.ensures.claims in (
      claims.stands,
      of-number c.args.config.now c.args.commands (parts_of (length c.args.trail.now) c.args.keep.now) (trail_of c.args.trail.now) c.args.skip c.in-Some.x _
          c.requires.held.1.stands (sym c.in-Some.ensures) claims.claim,
    )

pub returns-in-None-clause-turns : goal.returns-in-None-clause-turns
returns-in-None-clause-turns c = (
  c.do_now.ensures.stands,
  did-number c.args.config.now c.args.commands c.args.trail.now c.requires.held.0 c.args.by c.args.skip c.in-Some.x
      c.args.keep.now c.claim_now.new.keep _ c.requires.held.1 (sym c.in-Some.ensures)
      (still-waiting c.args.keep.now c.claim_now.new.keep c.in-None.ensures.unchanged) c.do_now.ensures.does,
)

pub returns-in-None-clause-room : goal.returns-in-None-clause-room
returns-in-None-clause-room c depth commands room =
    c.do_now.ensures.room depth commands (still-room c.args.keep.now c.claim_now.new.keep c.in-None.ensures.unchanged depth commands room)

pub do_now-requires-clause-held : goal.do_now-requires-clause-held
do_now-requires-clause-held c =
    let keep = c.args.keep.now in
    (c.requires.held.0, still-held c.args.config.now c.args.commands c.args.trail.now c.requires.held.0 keep c.claim_now.new.keep c.requires.held.1 c.in-None.ensures.unchanged)

pub returns-then-is_empty-clause-turns : goal.returns-then-is_empty-clause-turns
returns-then-is_empty-clause-turns c =
    let p = parts_of (length c.args.trail.now) c.args.keep.now in
    let stands = c.requires.held.1.stands in
    let len : length c.args.keep.now.waiting.items ≡ 0 = grind (arith, c.is_empty.ensures, c.if-is_empty.true) in (
      refl,
      sym stands.ties.at_rest ∙ c.if-keep.true,
      none-queued c.args.config.now c.args.commands p (trail_of c.args.trail.now) stands (none-left c.args.keep.now.waiting.items len),
    )
