use Rattle.std.proofs.Common.{◌≡◌, ◌∙◌, ◌<◌, Bool, Option, Some, if◌then◌else◌, length, refl, slice_get, ap, subst, sym, arith, IsSomeAnd}
use Rattle.std.proofs.lemmas.Option.{slice_get_read}
use Rattle.history_model.specs.Plain.{PlainPart}
use Rattle.device_core.specs.Gives.{world_in}
use Rattle.schedule_model.specs.Schedule.{action_of_host}
use Rattle.step_driver.proofs.Acting.{count-split}
use Rattle.step_driver.proofs.turns.ready_at.Goals as goal

pub returns-then-count-number-clause-found : goal.returns-then-count-number-clause-found
returns-then-count-number-clause-found c =
    let w = world_in c.args.core.now in
    let parts = c.args.parts.now in
    let part = c.index-parts-index.result in
    let split = count-split w parts c.loop-index.index in
    let found : slice_get parts c.loop-index.index ≡ Some part = slice_get_read parts (length parts) c.loop-index.index part refl c.loop-index-test.true c.index-parts-index.is in
    let one : length (action_of_host w part.host part.items) ≡ 1 = c.is_ready.ensures ∙ ap (λ (b : Bool). if b then 1 else 0) c.if-is_ready.true in
    record {
      before = omega (arith, split, c.loop-index.invariant.count, c.if-count-number.true);
      ready = subst (λ (o : Option PlainPart). IsSomeAnd o (λ (p : PlainPart). 0 < length (action_of_host w p.host p.items))) (sym found) (omega arith);
    }
