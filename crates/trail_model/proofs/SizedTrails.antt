-- Where the commands of a lawful trail are sized, so is every answer of its history.
use Rattle.std.proofs.Common.{◌≡◌, ℕ, zero, suc, ◌*◌, ◌<◌, Bool, true, false, List, [], ◌∷◌, ◌++◌, replicate, slice_index, Option, Some, None, option_map, is_some, sym, ap, subst, ◌∙◌, arith, if◌then◌else◌}
use Rattle.std.specs.List.{AllByRecursion}
use Rattle.std.specs.Prelude.{option_and_then}
use Rattle.cp_base.specs.Answer.{Answer, only_status}
use Rattle.cp_base.specs.Configuration.{Configuration, IsWithinLimits}
use Rattle.cp_base.specs.Contents.{zeros}
use Rattle.cp_base.specs.declared.commands.Command.{Command}
use Rattle.cp_base.specs.declared.limits.TheConstants.{SLOTS}
use Rattle.cp_base.specs.declared.region.SpaceId.{SpaceId}
use Rattle.cp_base.specs.declared.region.SpaceId.TheVariants.{Nvm, Mem}
use Rattle.cp_base.specs.declared.replies.Status.TheVariants as status
use Rattle.device_model.specs.Effect.{effect_of}
use Rattle.device_model.specs.Execution.{tells}
use Rattle.device_model.specs.State.{Empty, State, opening}
use Rattle.device_model.specs.Step.{outcome_of}
use Rattle.trail_model.specs.Claims.{FindsItself}
use Rattle.trail_model.specs.Footprints.{Execution, cut_for}
use Rattle.trail_model.specs.Lawful.{IsAllowedIn, IsLawful, IsLawfulFrom, MayAnswer, MayDo, MayFinish, Trail, history_of, is_abort, world_from}
use Rattle.trail_model.specs.Linked.{ClaimLinked, IsLinked, requests_of}
use Rattle.trail_model.specs.LocalEffects.{local_effect, put_back}
use Rattle.trail_model.specs.Pieces.{RegionBytes, all_bytes}
use Rattle.trail_model.specs.Sized.{AnswerSized, CommandSized, EventSized}
use Rattle.trail_model.specs.World.{Completion, OpenClaim, Request, Submission, World, brought_home, claim_at, completion_of, completions_by, effect_of_claim, first_world, is_no_memory, outstanding_under, request_at, state_after, submit_at, with_claim, with_done, with_finish, with_take, world_after}
use Rattle.trail_model.specs.declared.events.Event.{Event}
use Rattle.trail_model.specs.declared.events.Event.TheVariants as event
use Rattle.trail_model.proofs.Bytes.{item}
use Rattle.trail_model.proofs.Carrying.{effect-local}
use Rattle.trail_model.proofs.Counts.{asked_by, requests-after}
use Rattle.trail_model.proofs.Linked.{Works, each-request}
use Rattle.trail_model.proofs.Moving.{linked-first, linked-step}
use Rattle.trail_model.proofs.SizedBytes.{byte-at, replicate-bytes}
use Rattle.trail_model.proofs.SizedStates.{EffectSized, SlotSized, StateSized, effect-sized, outcome-sized}
use Rattle.trail_model.proofs.Sound.{SoundWorld, some-and, sound-first, sound-step}
use Rattle.trail_model.proofs.Submits.{each-append, found-each}

-- everything in a world is sized
pub record WorldSized (w : World) : Type 0 where
  pub state : StateSized w.state
  pub requests : AllByRecursion (λ (r : Request). CommandSized r.command) (requests_of w.submits)
  pub history : AllByRecursion (λ (done : Completion). AnswerSized done.answer) w.history

status-sized : (st : _) → AnswerSized (only_status st)
status-sized st = record { result = omega arith; few = omega arith; bytes = tt }

asked-sized : (w : World) (e : Event) → EventSized e → AllByRecursion (λ (r : Request). CommandSized r.command) (asked_by w e)
asked-sized w (event.Submit by cid ordinal cmd) sized = (sized, tt)
asked-sized w (event.Claim by host ordinal sent) sized = tt
asked-sized w (event.Finish by claim answer) sized = tt
asked-sized w (event.Do by host ordinal sent answer aborts) sized = tt
asked-sized w (event.Take by cid posted) sized = tt
asked-sized w (event.Rest by) sized = tt

requests-sized : (c : Configuration) (w : World) (e : Event) → WorldSized w → EventSized e → AllByRecursion (λ (r : Request). CommandSized r.command) (requests_of (world_after c w e).submits)
requests-sized c w e sized small =
    subst (λ (rs : List Request). AllByRecursion (λ (r : Request). CommandSized r.command) rs) (sym (requests-after c w e))
    (each-append (λ (r : Request). CommandSized r.command) (requests_of w.submits) (asked_by w e) sized.requests (asked-sized w e small))

found-sized : (w : World) (place : ℕ) (s : Submission) → WorldSized w → submit_at w.submits place ≡ Some s → CommandSized s.request.command
found-sized w place s sized found =
    found-each (λ (x : Submission). CommandSized x.request.command) _ w.submits s (each-request (λ (r : Request). CommandSized r.command) w.submits sized.requests) found

-- what an event does to the state, and what it tells
pub record StepSized (next : State) (told : List Completion) : Type 0 where
  pub state : StateSized next
  pub done : AllByRecursion (λ (x : Completion). AnswerSized x.answer) told

finish-sized : (c : Configuration) (w : World) (claim : OpenClaim) (answer : Answer) → IsWithinLimits c → SoundWorld c w → FindsItself c w.state claim → WorldSized w
    → CommandSized claim.request.command → answer ≡ (effect_of_claim c claim).answer
    → StepSized (brought_home c w.state claim) ((let d : Completion = record { request = claim.request; answer = answer } in d) ∷ [])
finish-sized c w claim answer limits sound finds sized small told =
    let cmd : Command = claim.request.command in
    let same : effect_of c w.state cmd ≡ put_back w.state (effect_of_claim c claim) =
    effect-local c w.state cmd sound.fits finds.passes finds.moves
    ∙ (ap (λ (x : Execution). put_back w.state (local_effect c x (cut_for c w.state cmd) cmd)) finds.execution
    ∙ ap (λ (ps : List RegionBytes). put_back w.state (local_effect c claim.execution ps cmd)) finds.pieces) in
    let h : EffectSized (put_back w.state (effect_of_claim c claim)) = subst EffectSized same (effect-sized c w.state cmd limits sound.fits sized.state small finds.passes) in
    record { state = h.next; done = (subst AnswerSized (sym told) h.answer, tt) }

withdrawn-sized : (o : Option Request) → AllByRecursion (λ (x : Completion). AnswerSized x.answer) (completion_of (only_status status.Aborted) o)
withdrawn-sized None = tt
withdrawn-sized (Some request) = (status-sized status.Aborted, tt)

do-sized : (c : Configuration) (w : World) (by host ordinal : ℕ) (answer : Answer) (aborts : Option ℕ) (s : Submission) → IsWithinLimits c → SoundWorld c w → WorldSized w
    → CommandSized s.request.command → MayDo c w by host ordinal answer aborts s
    → StepSized (state_after c w.state s.request.command answer)
    ((let d : Completion = record { request = s.request; answer = answer } in d) ∷ [] ++ completion_of (only_status status.Aborted) (option_and_then (λ place. request_at w.submits place) aborts))
do-sized c w by host ordinal answer aborts s limits sound sized small may = by_memory (is_no_memory answer.status) may.told
  where
    told-small : (b : Bool) → answer ≡ (if b then tells status.Ok (if is_some aborts then 0 else 1) else (outcome_of c w.state s.request.command).answer) → AnswerSized answer
    told-small true told = subst AnswerSized (sym told) (abort-answer (is_some aborts))
      where
        abort-answer : (b : Bool) → AnswerSized (tells status.Ok (if b then 0 else 1))
        abort-answer true = record { result = omega arith; few = omega arith; bytes = tt }
        abort-answer false = record { result = omega arith; few = omega arith; bytes = tt }
    told-small false told = subst AnswerSized (sym told) (outcome-sized c w.state s.request.command limits sound.fits sized.state small).answer

    by_memory : (b : Bool) → MayAnswer b c w s.request.command aborts answer
        → StepSized (if b then w.state else (outcome_of c w.state s.request.command).next)
        ((let d : Completion = record { request = s.request; answer = answer } in d) ∷ [] ++ completion_of (only_status status.Aborted) (option_and_then (λ place. request_at w.submits place) aborts))
    by_memory true told = record {
      state = sized.state;
      done = (subst AnswerSized (sym told.0) (status-sized status.NoMemory), withdrawn-sized (option_and_then (λ place. request_at w.submits place) aborts));
    }
    by_memory false told = record {
      state = (outcome-sized c w.state s.request.command limits sound.fits sized.state small).next;
      done = (told-small (is_abort s.request.command) told.0, withdrawn-sized (option_and_then (λ place. request_at w.submits place) aborts));
    }

step-sized : (c : Configuration) (commands : ℕ) (w : World) (e : Event) → IsWithinLimits c → SoundWorld c w → IsLinked w → WorldSized w → IsAllowedIn c commands w e
    → StepSized (world_after c w e).state (completions_by w e)
step-sized c commands w (event.Submit by cid ordinal cmd) limits sound linked sized allowed = record { state = sized.state; done = tt }
step-sized c commands w (event.Claim by host ordinal sent) limits sound linked sized allowed = record { state = by_found (submit_at w.submits sent); done = tt }
  where
    by_found : (o : Option Submission) → StateSized (with_claim c w by o).state
    by_found None = sized.state
    by_found (Some s) = sized.state
step-sized c commands w (event.Finish by place answer) limits sound linked sized allowed =
    let found = some-and (λ (x : OpenClaim). MayFinish c by answer x) (claim_at w.claims place) allowed in
    let claim : OpenClaim = found.0 in
    let finds : FindsItself c w.state claim = found-each (FindsItself c w.state) _ w.claims claim sound.own found.1 in
    let works : ClaimLinked w claim = found-each (ClaimLinked w) _ w.claims claim linked.claims found.1 in
    subst (λ (o : Option OpenClaim). StepSized (with_finish c w o).state (completion_of answer (option_map (λ (x : OpenClaim). x.request) o))) (sym found.1)
    (finish-sized c w claim answer limits sound finds sized (found-sized w claim.request.place (Works claim.request) sized works.submit) found.2.told)
step-sized c commands w (event.Do by host ordinal sent answer aborts) limits sound linked sized allowed =
    let found = some-and (λ (s : Submission). MayDo c w by host ordinal answer aborts s) (submit_at w.submits sent) allowed in
    subst (λ (o : Option Submission). StepSized (with_done c w answer aborts o).state (completion_of answer (option_map (λ (s : Submission). s.request) o)
    ++ completion_of (only_status status.Aborted) (option_and_then (λ place. request_at w.submits place) aborts))) (sym found.1)
    (do-sized c w by host ordinal answer aborts found.0 limits sound sized (found-sized w sent found.0 sized found.1) found.2)
step-sized c commands w (event.Take by cid posted) limits sound linked sized allowed = record { state = by_found (outstanding_under w.submits by cid); done = tt }
  where
    by_found : (o : Option Submission) → StateSized (with_take w o).state
    by_found None = sized.state
    by_found (Some s) = sized.state
step-sized c commands w (event.Rest by) limits sound linked sized allowed = record { state = sized.state; done = tt }

sized-from : (c : Configuration) (commands : ℕ) (w : World) (trail : Trail) → IsWithinLimits c → SoundWorld c w → IsLinked w → WorldSized w → IsLawfulFrom c commands w trail
    → AllByRecursion EventSized trail → WorldSized (world_from c w trail)
sized-from c commands w [] limits sound linked sized lawful small = sized
sized-from c commands w (e ∷ trail) limits sound linked sized lawful small =
    let h = step-sized c commands w e limits sound linked sized lawful.0 in
    sized-from c commands (world_after c w e) trail limits (sound-step c commands w e sound lawful.0) (linked-step c commands w e linked lawful.0)
    (record {
      state = h.state;
      requests = requests-sized c w e sized small.0;
      history = each-append (λ (x : Completion). AnswerSized x.answer) w.history (completions_by w e) sized.history h.done;
    }) lawful.1 small.1

-- ---- the first world

zero-item : (unit : ℕ) (sizes : List ℕ) (n k : ℕ) → slice_index (item (zeros unit sizes) n) k < 256
zero-item unit [] zero k = byte-at [] k tt
zero-item unit [] (suc n) k = byte-at [] k tt
zero-item unit (size ∷ sizes) zero k = byte-at [] k tt
zero-item unit (size ∷ sizes) (suc zero) k = byte-at (replicate (size * unit) 0) k (replicate-bytes (size * unit) 0 (omega arith))
zero-item unit (size ∷ sizes) (suc (suc n)) k = zero-item unit sizes (suc n) k

opening-bytes : (c : Configuration) (t : SpaceId) (k : ℕ) → all_bytes (opening c).contents t k < 256
opening-bytes c (Nvm n) k = zero-item c.block c.nvm n k
opening-bytes c (Mem n) k = zero-item 1 c.mem n k

empty-slots : (n : ℕ) → AllByRecursion SlotSized (replicate n Empty)
empty-slots zero = tt
empty-slots (suc n) = (tt, empty-slots n)

sized-first : (c : Configuration) → WorldSized (first_world c)
sized-first c = record { state = record { bytes = opening-bytes c; slots = empty-slots SLOTS; sets = tt }; requests = tt; history = tt }

pub sized-world : (c : Configuration) (commands : ℕ) (trail : Trail) → IsWithinLimits c → IsLawful c commands trail → AllByRecursion EventSized trail
    → AllByRecursion (λ (done : Completion). AnswerSized done.answer) (history_of c trail)
sized-world c commands trail limits lawful small =
    (sized-from c commands (first_world c) trail limits (sound-first c) (linked-first c) (sized-first c) lawful small).history
