-- How long a lawful trail is, and that its beginnings are lawful; that nothing waits where no claim is open.
use Rattle.std.proofs.Common.{◌≡◌, ℕ, ◌+◌, ◌*◌, ◌≤◌, Bool, true, false, not, ◌||◌, cond, List, [], ◌∷◌, ◌++◌, append-nil, length, length-append, filter, Option, Some, None, is_some, refl, sym, ap, ◌∙◌, arith, if◌then◌else◌}
use Rattle.std.proofs.lemmas.List.{length-map}
use Rattle.cp_base.specs.Configuration.{Configuration}
use Rattle.cp_base.specs.declared.commands.Command.{Command}
use Rattle.cp_base.specs.declared.commands.Command.TheVariants as command
use Rattle.device_model.specs.Checks.{refusal_of}
use Rattle.device_model.specs.Memory.{moves_bytes}
use Rattle.trail_model.specs.Lawful.{IsAllowedIn, IsLawful, IsLawfulFrom, Trail, world_from, world_of}
use Rattle.trail_model.specs.Linked.{most_events, most_events_of, requests_of, rest_events}
use Rattle.std.specs.List.{list_any}
use Rattle.cp_base.specs.Touching.{meets}
use Rattle.trail_model.specs.Footprints.{execution_of, footprint_of}
use Rattle.trail_model.specs.World.{OpenClaim, Posted, Queued, Request, Stage, Submission, Taken, Working, World, changes_held, claimed_footprint, claim_at, first_world, is_pickable, outstanding_under, pickable_among, queued_among, request_of, submit_at, with_claim, with_done, with_finish, with_take, world_after}
use Rattle.trail_model.specs.declared.events.Event.{Event}
use Rattle.trail_model.specs.declared.events.Event.TheVariants as event
use Rattle.trail_model.proofs.Linked.{requests-push}
use Rattle.trail_model.proofs.Moving.{linked-world}
use Rattle.trail_model.proofs.Submits.{staged-requests, staged_if-requests}

-- ---- beginnings

pub beginning-from : (c : Configuration) (commands : ℕ) (w : World) (seen more : Trail) → IsLawfulFrom c commands w (seen ++ more) → IsLawfulFrom c commands w seen
beginning-from c commands w [] more lawful = tt
beginning-from c commands w (e ∷ seen) more lawful = (lawful.0, beginning-from c commands (world_after c w e) seen more lawful.1)

pub rest-from : (c : Configuration) (commands : ℕ) (w : World) (seen more : Trail) → IsLawfulFrom c commands w (seen ++ more) → IsLawfulFrom c commands (world_from c w seen) more
rest-from c commands w [] more lawful = lawful
rest-from c commands w (e ∷ seen) more lawful = rest-from c commands (world_after c w e) seen more lawful.1

pub world-append : (c : Configuration) (w : World) (seen more : Trail) → world_from c w (seen ++ more) ≡ world_from c (world_from c w seen) more
world-append c w [] more = refl
world-append c w (e ∷ seen) more = world-append c (world_after c w e) seen more

pub lawful-append : (c : Configuration) (commands : ℕ) (w : World) (seen more : Trail) → IsLawfulFrom c commands w seen → IsLawfulFrom c commands (world_from c w seen) more
    → IsLawfulFrom c commands w (seen ++ more)
lawful-append c commands w [] more first rest = rest
lawful-append c commands w (e ∷ seen) more first rest = (first.0, lawful-append c commands (world_after c w e) seen more first.1 rest)

-- ---- what was asked

-- what an event asks for
abbrev pub asked_by : World → Event → List Request
asked_by w (event.Submit by cid ordinal cmd) = request_of w by cid ordinal cmd ∷ []
asked_by w (event.Claim by host ordinal sent) = []
asked_by w (event.Finish by claim answer) = []
asked_by w (event.Do by host ordinal sent answer aborts) = []
asked_by w (event.Take by cid posted) = []
asked_by w (event.Rest by) = []

pub requests-after : (c : Configuration) (w : World) (e : Event) → requests_of (world_after c w e).submits ≡ requests_of w.submits ++ asked_by w e
requests-after c w (event.Submit by cid ordinal cmd) = requests-push w.submits (let s : Submission = record { request = request_of w by cid ordinal cmd; stage = Queued } in s)
requests-after c w (event.Claim by host ordinal sent) = by_found (submit_at w.submits sent) ∙ sym (append-nil (requests_of w.submits))
  where
    by_found : (o : Option Submission) → requests_of (with_claim c w by o).submits ≡ requests_of w.submits
    by_found None = refl
    by_found (Some s) = staged-requests s.request.place Working w.submits
requests-after c w (event.Finish by claim answer) = by_found (claim_at w.claims claim) ∙ sym (append-nil (requests_of w.submits))
  where
    by_found : (o : Option OpenClaim) → requests_of (with_finish c w o).submits ≡ requests_of w.submits
    by_found None = refl
    by_found (Some x) = staged-requests x.request.place (Posted w.count) w.submits
requests-after c w (event.Do by host ordinal sent answer aborts) = by_found (submit_at w.submits sent) ∙ sym (append-nil (requests_of w.submits))
  where
    by_found : (o : Option Submission) → requests_of (with_done c w answer aborts o).submits ≡ requests_of w.submits
    by_found None = refl
    by_found (Some s) = staged_if-requests aborts (Posted w.count) _ ∙ staged-requests s.request.place (Posted w.count) w.submits
requests-after c w (event.Take by cid posted) = by_found (outstanding_under w.submits by cid) ∙ sym (append-nil (requests_of w.submits))
  where
    by_found : (o : Option Submission) → requests_of (with_take w o).submits ≡ requests_of w.submits
    by_found None = refl
    by_found (Some s) = staged-requests s.request.place Taken w.submits
requests-after c w (event.Rest by) = sym (append-nil (requests_of w.submits))

length-requests : (submits : List Submission) → length (requests_of submits) ≡ length submits
length-requests submits = length-map submits (λ (s : Submission). s.request)

few-step : (c : Configuration) (commands : ℕ) (w : World) (e : Event) → length (requests_of w.submits) ≤ commands → IsAllowedIn c commands w e
    → length (requests_of (world_after c w e).submits) ≤ commands
few-step c commands w e few allowed =
    let a : length (requests_of (world_after c w e).submits) ≡ length (requests_of w.submits) + length (asked_by w e) =
    ap length (requests-after c w e) ∙ length-append (requests_of w.submits) (asked_by w e) in
    by_event e few allowed a
  where
    by_event : (e : Event) → length (requests_of w.submits) ≤ commands → IsAllowedIn c commands w e
        → length (requests_of (world_after c w e).submits) ≡ length (requests_of w.submits) + length (asked_by w e) → length (requests_of (world_after c w e).submits) ≤ commands
    by_event (event.Submit by cid ordinal cmd) few allowed a = let b = allowed.not_spent in let d = length-requests w.submits in omega arith
    by_event (event.Claim by host ordinal sent) few allowed a = omega arith
    by_event (event.Finish by claim answer) few allowed a = omega arith
    by_event (event.Do by host ordinal sent answer aborts) few allowed a = omega arith
    by_event (event.Take by cid posted) few allowed a = omega arith
    by_event (event.Rest by) few allowed a = omega arith

few-from : (c : Configuration) (commands : ℕ) (w : World) (trail : Trail) → length (requests_of w.submits) ≤ commands → IsLawfulFrom c commands w trail
    → length (requests_of (world_from c w trail).submits) ≤ commands
few-from c commands w [] few lawful = few
few-from c commands w (e ∷ trail) few lawful = few-from c commands (world_after c w e) trail (few-step c commands w e few lawful.0) lawful.1

pub few-submits : (c : Configuration) (commands : ℕ) (trail : Trail) → IsLawful c commands trail → length (world_of c trail).submits ≤ commands
few-submits c commands trail lawful =
    let a = few-from c commands (first_world c) trail (omega arith) lawful in
    let b = length-requests (world_of c trail).submits in
    omega arith

-- ---- lengths

count-step : (c : Configuration) (w : World) (e : Event) → (world_after c w e).count ≡ w.count + 1
count-step c w e = refl

count-from : (c : Configuration) (w : World) (trail : Trail) → (world_from c w trail).count ≡ w.count + length trail
count-from c w [] = omega arith
count-from c w (e ∷ trail) = let h = count-from c (world_after c w e) trail in omega arith

pub count-world : (c : Configuration) (trail : Trail) → (world_of c trail).count ≡ length trail
count-world c trail = let h = count-from c (first_world c) trail in omega arith

most-five : (stage : Stage) → most_events stage ≤ 5
most-five Queued = omega arith
most-five Working = omega arith
most-five (Posted p) = omega arith
most-five Taken = omega arith

most-of : (submits : List Submission) → most_events_of submits ≤ 5 * length submits
most-of [] = omega arith
most-of (s ∷ submits) = let a = most-five s.stage in let b = most-of submits in omega arith

most-rest : (b : Bool) → rest_events b ≤ 1
most-rest true = omega arith
most-rest false = omega arith

pub bounded : (c : Configuration) (commands : ℕ) (trail : Trail) → IsLawful c commands trail → length trail ≤ 5 * commands + 1
bounded c commands trail lawful =
    let w : World = world_of c trail in
    let a = (linked-world c commands trail lawful).events in
    let b = most-of w.submits in
    let d = most-rest w.at_rest in
    let e = few-submits c commands trail lawful in
    let f = count-world c trail in
    omega arith

-- ---- never stuck

none-held : (claims : List OpenClaim) (cmd : Command) → claims ≡ [] → changes_held claims cmd ≡ false
none-held claims cmd e = ap (λ (cs : List OpenClaim). changes_held cs cmd) e ∙ nothing cmd
  where
    nothing : (cmd : Command) → changes_held [] cmd ≡ false
    nothing (command.SetDelete set) = refl
    nothing (command.Deactivate slot) = refl
    nothing cmd = refl

pub pickable-alone : (c : Configuration) (w : World) (cmd : Command) → w.claims ≡ [] → is_pickable c w cmd ≡ true
pickable-alone c w cmd none =
    by_refusal (is_some (refusal_of c w.state cmd)) (moves_bytes cmd)
    (ap (λ (cs : List OpenClaim). not (any_meets cs)) none) (ap not (none-held w.claims cmd none))
  where
    any_meets : List OpenClaim → Bool
    any_meets claims = list_any (λ (claim : OpenClaim). meets (footprint_of c (execution_of w.state cmd).ranges cmd) (claimed_footprint c claim)) claims

    by_refusal : (r m : Bool) {free kept : Bool} → free ≡ true → kept ≡ true → (r || (if m then free else kept)) ≡ true
    by_refusal true m e h = refl
    by_refusal false true e h = e
    by_refusal false false e h = h

all-pass : {A : Type 0} (test : A → Bool) (xs : List A) → ((x : A) → test x ≡ true) → filter test xs ≡ xs
all-pass test [] pass = refl
all-pass test (x ∷ xs) pass = ap (λ (b : Bool). cond b (x ∷ filter test xs) (filter test xs)) (pass x) ∙ ap (λ ys. x ∷ ys) (all-pass test xs pass)

pub all-pickable : (c : Configuration) (w : World) → w.claims ≡ [] → pickable_among c w ≡ queued_among w.submits
all-pickable c w none = all-pass (λ (s : Submission). is_pickable c w s.request.command) (queued_among w.submits) (λ s. pickable-alone c w s.request.command none)
