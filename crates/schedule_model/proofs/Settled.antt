-- The schedule settles its trail, where memory is found.
use Rattle.std.proofs.Common.{◌≡◌, ℕ, Bool, true, false, not, ◌||◌, ◌%◌, ◌/◌, List, [], ◌∷◌, length, inl, inr, Option, Some, None, is_none, is_some, refl, sym, ap, ap₂, subst, ◌∙◌, IsSomeAnd, slice_get}
use Rattle.std.specs.List.{AllByRecursion}
use Rattle.std.proofs.lemmas.Bool.{true≢false}
use Rattle.cp_base.specs.Answer.{Answer}
use Rattle.cp_base.specs.Configuration.{Configuration}
use Rattle.history_model.specs.Plain.{PlainPart}
use Rattle.device_model.specs.Checks.{refusal_of}
use Rattle.device_model.specs.Memory.{moves_bytes}
use Rattle.trail_model.specs.Lawful.{IsAllowedIn, MayAnswer, MayClaim, MayDo, Trail, done_answer}
use Rattle.trail_model.specs.World.{Request, Submission, World, is_no_memory, submit_at, withdrawn_place, world_after}
use Rattle.trail_model.specs.declared.events.Event.{Event}
use Rattle.trail_model.specs.declared.events.Event.TheVariants as event
use Rattle.trail_model.proofs.Sound.{some-and}
use Rattle.trail_model.proofs.Submits.{some-same}
use Rattle.schedule_model.specs.Deeds.{Phases}
use Rattle.schedule_model.specs.Schedule.{Action, Performs, Ending, GoesBy, GoesOn, HasMemory, Runs, Sending, Taking, Turning, TurnsTo, actions, all_done, left_after, not_over}

-- what a command that is done at once is told, where there is memory
with-memory : (c : Configuration) (w : World) (by host ordinal : ℕ) (answer : Answer) (aborts : Option ℕ) (s : Submission)
    → MayDo c w by host ordinal answer aborts s → is_no_memory answer.status ≡ false → MayAnswer false c w s.request.command aborts answer
with-memory c w by host ordinal answer aborts s may memory = subst (λ (b : Bool). MayAnswer b c w s.request.command aborts answer) memory may.told

not-both : (moves : Bool) (refused : Option Answer) → moves ≡ true → is_none refused ≡ true → (not moves || is_some refused) ≡ true → ⊥
not-both false refused moves passes or = true≢false (sym moves)
not-both true None moves passes or = true≢false (sym or)
not-both true (Some told) moves passes or = true≢false (sym passes)

-- a command is not both claimed and done
claim-or-do : (c : Configuration) (w : World) (by : ℕ) (r : Request) (answer : Answer) → IsAllowedIn c 0 w (event.Claim by r.host r.ordinal r.place)
    → IsAllowedIn c 0 w (event.Do by r.host r.ordinal r.place answer (withdrawn_place w.submits r)) → is_no_memory answer.status ≡ false → ⊥
claim-or-do c w by r answer claims does memory =
    let found = some-and (λ (s : Submission). MayClaim c w by r.host r.ordinal s) (submit_at w.submits r.place) claims in
    let other = some-and (λ (s : Submission). MayDo c w by r.host r.ordinal answer (withdrawn_place w.submits r) s) (submit_at w.submits r.place) does in
    let same : found.0 ≡ other.0 = some-same found.0 other.0 (sym found.1 ∙ other.1) in
    let may : MayClaim c w by r.host r.ordinal other.0 = subst (λ (s : Submission). MayClaim c w by r.host r.ordinal s) same found.2 in
    let told = with-memory c w by r.host r.ordinal answer (withdrawn_place w.submits r) other.0 other.2 memory in
    not-both (moves_bytes other.0.request.command) (refusal_of c w.state other.0.request.command) may.moves may.passes told.1

one-answer : (c : Configuration) (w : World) (by : ℕ) (r : Request) (answer other : Answer)
    → IsAllowedIn c 0 w (event.Do by r.host r.ordinal r.place answer (withdrawn_place w.submits r))
    → IsAllowedIn c 0 w (event.Do by r.host r.ordinal r.place other (withdrawn_place w.submits r))
    → is_no_memory answer.status ≡ false → is_no_memory other.status ≡ false → answer ≡ other
one-answer c w by r answer other does does' memory memory' =
    let aborts : Option ℕ = withdrawn_place w.submits r in
    let a = some-and (λ (s : Submission). MayDo c w by r.host r.ordinal answer aborts s) (submit_at w.submits r.place) does in
    let b = some-and (λ (s : Submission). MayDo c w by r.host r.ordinal other aborts s) (submit_at w.submits r.place) does' in
    let same : a.0 ≡ b.0 = some-same a.0 b.0 (sym a.1 ∙ b.1) in
    (with-memory c w by r.host r.ordinal answer aborts a.0 a.2 memory).0
    ∙ (ap (λ (s : Submission). done_answer c w s.request.command aborts) same
    ∙ sym (with-memory c w by r.host r.ordinal other aborts b.0 b.2 memory').0)

same-turn : (c : Configuration) (w : World) (worker : ℕ) (r : Request) (e e' : Event) → TurnsTo w worker r e → TurnsTo w worker r e'
    → IsAllowedIn c 0 w e → IsAllowedIn c 0 w e' → HasMemory e → HasMemory e' → e ≡ e'
same-turn c w worker r e e' (inl is) (inl is') allowed allowed' memory memory' = is ∙ sym is'
same-turn c w worker r e e' (inl is) (inr (answer, is')) allowed allowed' memory memory' =
    absurd (claim-or-do c w worker r answer (subst (λ (x : Event). IsAllowedIn c 0 w x) is allowed) (subst (λ (x : Event). IsAllowedIn c 0 w x) is' allowed') (subst HasMemory is' memory'))
same-turn c w worker r e e' (inr (answer, is)) (inl is') allowed allowed' memory memory' =
    absurd (claim-or-do c w worker r answer (subst (λ (x : Event). IsAllowedIn c 0 w x) is' allowed') (subst (λ (x : Event). IsAllowedIn c 0 w x) is allowed) (subst HasMemory is memory))
same-turn c w worker r e e' (inr (answer, is)) (inr (other, is')) allowed allowed' memory memory' =
    let same = one-answer c w worker r answer other (subst (λ (x : Event). IsAllowedIn c 0 w x) is allowed) (subst (λ (x : Event). IsAllowedIn c 0 w x) is' allowed')
    (subst HasMemory is memory) (subst HasMemory is' memory') in
    is ∙ (ap (λ (a : Answer). event.Do worker r.host r.ordinal r.place a (withdrawn_place w.submits r)) same ∙ sym is')

-- an action settles its event
same-event : (c : Configuration) (w : World) (a : Action) (e e' : Event) → Performs c w a e → Performs c w a e' → HasMemory e → HasMemory e' → e ≡ e'
same-event c w (Sending host cid cmd) e e' is is' memory memory' = is ∙ sym is'
same-event c w (Taking host cid posted) e e' is is' memory memory' = is ∙ sym is'
same-event c w (Ending claim) e e' is is' memory memory' = is ∙ sym is'
same-event c w (Turning worker s) e e' (turns, allowed) (turns', allowed') memory memory' = same-turn c w worker s.request e e' turns turns' allowed allowed' memory memory'

none-goes : (c : Configuration) (workers : ℕ) (w : World) (phases : Phases) (choices : ℕ) (e : Event) (Then : Phases → ℕ → Type 0) → phases ≡ [] → GoesOn c workers w phases choices e Then → ⊥
none-goes c workers w [] choices e Then is goes = goes
none-goes c workers w (phase ∷ phases) choices e Then is goes = cc

pub settled : (c : Configuration) (workers : ℕ) (w : World) (phases : Phases) (choices : ℕ) (one other : Trail) → Runs c workers w phases choices one
    → Runs c workers w phases choices other → AllByRecursion HasMemory one → AllByRecursion HasMemory other → one ≡ other
settled c workers w phases choices [] [] runs runs' memory memory' = refl
settled c workers w phases choices [] (e ∷ trail) runs runs' memory memory' =
    absurd (none-goes c workers w (not_over w.at_rest phases) choices e (λ left rest. Runs c workers (world_after c w e) left rest trail) runs runs')
settled c workers w phases choices (e ∷ trail) [] runs runs' memory memory' =
    absurd (none-goes c workers w (not_over w.at_rest phases) choices e (λ left rest. Runs c workers (world_after c w e) left rest trail) runs' runs)
settled c workers w phases choices (e ∷ trail) (e' ∷ trail') runs runs' memory memory' =
    by_phases (not_over w.at_rest phases) (λ left rest run run'. settled c workers (world_after c w e) left rest trail trail' run run' memory.1 memory'.1) runs runs'
  where
    joined : (left : Phases) (rest : ℕ) → e ≡ e'
        → (Runs c workers (world_after c w e) left rest trail → Runs c workers (world_after c w e) left rest trail' → trail ≡ trail')
        → Runs c workers (world_after c w e) left rest trail → Runs c workers (world_after c w e') left rest trail' → e ∷ trail ≡ e' ∷ trail'
    joined left rest same later run run' =
        ap₂ (λ (x : Event) (xs : Trail). x ∷ xs) same (later run (subst (λ (x : Event). Runs c workers (world_after c w x) left rest trail') (sym same) run'))

    by_action : (o : Option Action) (phase : List PlainPart) (more : Phases) (rest : ℕ)
        → ((left : Phases) (rest : ℕ) → Runs c workers (world_after c w e) left rest trail → Runs c workers (world_after c w e) left rest trail' → trail ≡ trail')
        → IsSomeAnd o (λ action. Performs c w action e × Runs c workers (world_after c w e) (left_after action phase ∷ more) rest trail)
        → IsSomeAnd o (λ action. Performs c w action e' × Runs c workers (world_after c w e') (left_after action phase ∷ more) rest trail')
        → e ∷ trail ≡ e' ∷ trail'
    by_action None phase more rest later a b = absurd a
    by_action (Some action) phase more rest later (carries, run) (carries', run') =
        joined (left_after action phase ∷ more) rest (same-event c w action e e' carries carries' memory.0 memory'.0) (later (left_after action phase ∷ more) rest) run run'

    by_done : (b : Bool) (phase : List PlainPart) (more : Phases)
        → ((left : Phases) (rest : ℕ) → Runs c workers (world_after c w e) left rest trail → Runs c workers (world_after c w e) left rest trail' → trail ≡ trail')
        → GoesBy b c workers w phase more choices e (λ left rest. Runs c workers (world_after c w e) left rest trail)
        → GoesBy b c workers w phase more choices e' (λ left rest. Runs c workers (world_after c w e') left rest trail')
        → e ∷ trail ≡ e' ∷ trail'
    by_done true phase more later (is, run) (is', run') = joined more choices (is ∙ sym is') (later more choices) run run'
    by_done false phase more later a b =
        by_action (slice_get (actions c workers w phase) (choices % length (actions c workers w phase))) phase more (choices / length (actions c workers w phase)) later a b

    by_phases : (ps : Phases)
        → ((left : Phases) (rest : ℕ) → Runs c workers (world_after c w e) left rest trail → Runs c workers (world_after c w e) left rest trail' → trail ≡ trail')
        → GoesOn c workers w ps choices e (λ left rest. Runs c workers (world_after c w e) left rest trail)
        → GoesOn c workers w ps choices e' (λ left rest. Runs c workers (world_after c w e') left rest trail')
        → e ∷ trail ≡ e' ∷ trail'
    by_phases [] later a b = absurd a
    by_phases (phase ∷ more) later a b = by_done (all_done phase) phase more later a b
