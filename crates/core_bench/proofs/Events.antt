-- What one event more adds to how far a device has come.
use Rattle.std.proofs.Common.{◌≡◌, ◌∙◌, ℕ, ◌+◌, List, [], ◌∷◌, ◌++◌, length, length-append, append_assoc, Option, Some, None, option_map, refl, sym, ap, arith, IsSomeAnd}
use Rattle.cp_base.specs.Answer.{Answer}
use Rattle.trail_model.specs.Lawful.{Trail}
use Rattle.trail_model.specs.World.{Completion, OpenClaim, World, claim_at, completion_of, completions_by}
use Rattle.trail_model.specs.declared.events.Event.{Event}
use Rattle.trail_model.specs.declared.events.Event.TheVariants as event
use Rattle.job_run.specs.declared.work.Worked.{Worked}
use Rattle.device_core.specs.Gives.{HasWorked, world_in}
use Rattle.device_core.specs.Recorded.{Appends, Recorded}
use Rattle.step_driver.specs.Held.{HoldsWorks}
use Rattle.step_driver.specs.declared.running.Held.{Held}
use Rattle.step_driver.proofs.Holding.{held-count, world-then}
use Rattle.core_bench.specs.Progress.{IsLater, SentCommand, open_on, over_on, sent_by, sent_commands, sent_on}

pub later-then : (old new : Recorded) (e : Event) → Appends old new e → IsLater old new
later-then old new e appended = record {
  config = ap (λ (d : Recorded). d.config) appended;
  commands = ap (λ (d : Recorded). d.commands) appended;
}

pub later-same : (old new : Recorded) → new ≡ old → IsLater old new
later-same old new same = record {
  config = ap (λ (d : Recorded). d.config) same;
  commands = ap (λ (d : Recorded). d.commands) same;
}

sent-append : (trail : Trail) (e : Event) → sent_commands (trail ++ e ∷ []) ≡ sent_commands trail ++ sent_by e
sent-append [] e = append-nil (sent_by e)
  where
    append-nil : (sent : List SentCommand) → sent ++ [] ≡ sent
    append-nil [] = refl
    append-nil (x ∷ sent) = ap (λ (xs : List SentCommand). x ∷ xs) (append-nil sent)
sent-append (x ∷ trail) e = ap (λ (xs : List SentCommand). sent_by x ++ xs) (sent-append trail e) ∙ sym (append_assoc (sent_by x) (sent_commands trail) (sent_by e))

-- the commands that were sent, with that of the event
pub sent-then : (old new : Recorded) (e : Event) → Appends old new e → sent_on new ≡ sent_on old ++ sent_by e
sent-then old new e appended = ap sent_on appended ∙ sent-append old.trail e

-- an event that sends none leaves them
pub sent-still : (old new : Recorded) (e : Event) → Appends old new e → sent_by e ≡ [] → sent_on new ≡ sent_on old
sent-still old new e appended none =
    sent-then old new e appended ∙ (ap (λ (xs : List SentCommand). sent_on old ++ xs) none ∙ append-nil (sent_on old))
  where
    append-nil : (sent : List SentCommand) → sent ++ [] ≡ sent
    append-nil [] = refl
    append-nil (x ∷ sent) = ap (λ (xs : List SentCommand). x ∷ xs) (append-nil sent)

-- how many commands are over, with those that the event tells
pub over-then : (old new : Recorded) (e : Event) → Appends old new e → over_on new ≡ over_on old + length (completions_by (world_in old) e)
over-then old new e appended =
    ap over_on appended
    ∙ (ap (λ (w : World). length w.history) (world-then old.config old.trail e) ∙ length-append (world_in old).history (completions_by (world_in old) e))

-- an event that tells none leaves the number
pub over-still : (old new : Recorded) (e : Event) → Appends old new e → completions_by (world_in old) e ≡ [] → over_on new ≡ over_on old
over-still old new e appended none =
    let more = over-then old new e appended in
    let no : length (completions_by (world_in old) e) ≡ 0 = ap (λ (xs : List Completion). length xs) none in
    omega arith

-- the end of an open claim tells one
pub over-finished : (old new : Recorded) (by claim : ℕ) (answer : Answer) (done : Worked) → Appends old new (event.Finish by claim answer)
    → IsSomeAnd (claim_at (world_in old).claims claim) (λ (opened : OpenClaim). HasWorked old by done opened) → over_on new ≡ over_on old + 1
over-finished old new by claim answer done appended found =
    let more = over-then old new (event.Finish by claim answer) appended in
    let one : length (completions_by (world_in old) (event.Finish by claim answer)) ≡ 1 = by_found (claim_at (world_in old).claims claim) found in
    omega arith
  where
    by_found : (o : Option OpenClaim) → IsSomeAnd o (λ (opened : OpenClaim). HasWorked old by done opened)
        → length (completion_of answer (option_map (λ (claimed : OpenClaim). claimed.request) o)) ≡ 1
    by_found None h = absurd h
    by_found (Some opened) h = refl

-- as many claims are open as works are held
pub open-held : (d : Recorded) (held : List Held) → HoldsWorks d held → open_on d ≡ length held
open-held d held holds = sym (held-count d.config (world_in d).claims held holds.works)
