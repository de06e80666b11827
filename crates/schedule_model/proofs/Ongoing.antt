-- A run of the schedule goes on event by event, and is never stuck.
use Rattle.std.proofs.Common.{◌≡◌, ◌≢◌, ℕ, zero, suc, ◌+◌, ◌<◌, ◌≤◌, ◌==◌, ◌%◌, ◌/◌, Bool, true, false, ◌&&◌, ◌⊎◌, cond, if◌then◌else◌, List, [], ◌∷◌, ◌++◌, length, length-append, map, find, Option, Some, None, is_none, is_some, refl, sym, ap, subst, ◌∙◌, inl, inr, ⊎_elim, arith, slice_get, IsSomeAnd}
use Rattle.std.specs.List.{AllByRecursion, Contains}
use Rattle.std.proofs.lemmas.Bool.{true≢false}
use Rattle.std.proofs.lemmas.List.{length-map}
use Rattle.cp_base.specs.Configuration.{Configuration}
use Rattle.cp_base.specs.declared.commands.Command.{Command}
use Rattle.cp_base.specs.declared.limits.TheConstants.{MAX_HOSTS}
use Rattle.history_model.specs.Plain.{PlainItem, PlainPart, Sends, Takes}
use Rattle.history_model.proofs.Every.{Pairwise}
use Rattle.trail_model.specs.Lawful.{IsAllowedIn, Trail, world_from, world_of}
use Rattle.trail_model.specs.Linked.{IsLinked, claim_for}
use Rattle.trail_model.specs.World.{OpenClaim, Posted, Queued, Stage, Submission, Taken, Working, World, claim_by, is_queued, is_taken_off, is_working, ordinal_after, outstanding_of, outstanding_under, pickable_among, queued_among, submit_at, world_after}
use Rattle.trail_model.specs.declared.events.Event.{Event}
use Rattle.trail_model.specs.declared.events.Event.TheVariants as event
use Rattle.trail_model.proofs.Counts.{all-pickable}
use Rattle.trail_model.proofs.Linked.{found-under, self-found, under-each}
use Rattle.trail_model.proofs.Moving.{linked-world}
use Rattle.trail_model.proofs.Submits.{none-some, other-eqb, same-eqb, some-same}
use Rattle.schedule_model.specs.Deeds.{Phases, items_in_phase}
use Rattle.schedule_model.specs.Schedule.{Action, Ending, GoesBy, GoesOn, Performs, Runs, RunsTo, Sending, Turning, action_of_host, actions, actions_of_hosts, all_done, has_none, idle_from, idle_worker, left_after, not_over, taking_of, taking_under, turning}
use Rattle.schedule_model.proofs.Items.{Standing}
use Rattle.schedule_model.proofs.Listing.{IsListed, all-listed, hosts_in}
use Rattle.schedule_model.proofs.Running.{KeepsPlain, Reached, Ready, allowed-action, cids_of, not-over-ready, world-cids}
use Rattle.schedule_model.proofs.Standings.{Stands, each-contains}

-- ---- one event more

goes-weaker : (c : Configuration) (workers : ℕ) (w : World) (phases : Phases) (choices : ℕ) (e : Event) (P Q : Phases → ℕ → Type 0) → ((ps : Phases) (n : ℕ) → P ps n → Q ps n)
    → GoesOn c workers w phases choices e P → GoesOn c workers w phases choices e Q
goes-weaker c workers w [] choices e P Q weaker goes = goes
goes-weaker c workers w (phase ∷ later) choices e P Q weaker goes = by_done (all_done phase) goes
  where
    by_found : (o : Option Action) (n : ℕ) → IsSomeAnd o (λ action. Performs c w action e × P (left_after action phase ∷ later) n)
        → IsSomeAnd o (λ action. Performs c w action e × Q (left_after action phase ∷ later) n)
    by_found None n goes = goes
    by_found (Some action) n goes = (goes.0, weaker (left_after action phase ∷ later) n goes.1)

    by_done : (b : Bool) → GoesBy b c workers w phase later choices e P → GoesBy b c workers w phase later choices e Q
    by_done true goes = (goes.0, weaker later choices goes.1)
    by_done false goes =
        by_found (slice_get (actions c workers w phase) (choices % length (actions c workers w phase))) (choices / length (actions c workers w phase)) goes

pub goes-on : (c : Configuration) (workers : ℕ) (w : World) (phases : Phases) (choices : ℕ) (trail : Trail) (left : Phases) (rest : ℕ) (e : Event) (next : Phases) (more : ℕ)
    → RunsTo c workers w phases choices trail left rest
    → GoesOn c workers (world_from c w trail) (not_over (world_from c w trail).at_rest left) rest e (λ ps n. (next ≡ ps) × (more ≡ n))
    → RunsTo c workers w phases choices (trail ++ e ∷ []) next more
goes-on c workers w phases choices [] left rest e next more runs goes =
    subst (λ (ps : Phases). GoesOn c workers w (not_over w.at_rest ps) choices e (λ ps n. (next ≡ ps) × (more ≡ n))) runs.0
    (subst (λ (k : ℕ). GoesOn c workers w (not_over w.at_rest left) k e (λ ps n. (next ≡ ps) × (more ≡ n))) runs.1 goes)
goes-on c workers w phases choices (x ∷ trail) left rest e next more runs goes =
    goes-weaker c workers w (not_over w.at_rest phases) choices x (λ ps n. RunsTo c workers (world_after c w x) ps n trail left rest)
    (λ ps n. RunsTo c workers (world_after c w x) ps n (trail ++ e ∷ []) next more)
    (λ ps n run. goes-on c workers (world_after c w x) ps n trail left rest e next more run goes) runs

pub run-ends : (c : Configuration) (workers : ℕ) (w : World) (phases : Phases) (choices : ℕ) (trail : Trail) (left : Phases) (rest : ℕ)
    → RunsTo c workers w phases choices trail left rest → not_over (world_from c w trail).at_rest left ≡ [] → Runs c workers w phases choices trail
run-ends c workers w phases choices [] left rest runs over = subst (λ (ps : Phases). not_over w.at_rest ps ≡ []) runs.0 over
run-ends c workers w phases choices (x ∷ trail) left rest runs over =
    goes-weaker c workers w (not_over w.at_rest phases) choices x (λ ps n. RunsTo c workers (world_after c w x) ps n trail left rest)
    (λ ps n. Runs c workers (world_after c w x) ps n trail)
    (λ ps n run. run-ends c workers (world_after c w x) ps n trail left rest run over) runs

-- ---- what a listed send finds

pub send-allowed : (c : Configuration) (commands workers : ℕ) (seen : Trail) (left : Phases) (phase : List PlainPart) (later : Phases) (host cid : ℕ) (cmd : Command) → Reached c commands seen left
    → not_over (world_of c seen).at_rest left ≡ phase ∷ later → Contains (actions c workers (world_of c seen) phase) (Sending host cid cmd)
    → IsAllowedIn c commands (world_of c seen) (event.Submit host cid (ordinal_after (world_of c seen).submits host) cmd)
send-allowed c commands workers seen left phase later host cid cmd h is found =
    let w : World = world_of c seen in
    let ready : Ready c commands w h.standings (phase ∷ later) =
    subst (λ (ps : Phases). Ready c commands w h.standings ps) is (not-over-ready c commands w h.standings w.at_rest left h.ready) in
    let listed = all-listed c workers w phase (linked-world c commands seen h.lawful).different ready.hosts.0.0 ready.hosts.0.1 in
    allowed-action c commands w h.standings phase later (Sending host cid cmd) (event.Submit host cid (ordinal_after w.submits host) cmd) ready
    (each-contains (IsListed w phase) (actions c workers w phase) (Sending host cid cmd) listed found) refl

-- ---- never stuck

some-queued : (submits : List Submission) (place : ℕ) (s : Submission) → submit_at submits place ≡ Some s → is_queued s.stage ≡ true → 0 < length (queued_among submits)
some-queued [] place s found queued = absurd (none-some s found)
some-queued (x ∷ submits) place s found queued = by_queued (is_queued x.stage) refl (λ later. some-queued submits place s later queued)
  where
    by_place : (b : Bool) → is_queued x.stage ≡ false → cond b (Some x) (submit_at submits place) ≡ Some s → (submit_at submits place ≡ Some s → 0 < length (queued_among submits)) → 0 < length (queued_among submits)
    by_place true idle found later = absurd (true≢false (sym queued ∙ (sym (ap (λ (y : Submission). is_queued y.stage) (some-same x s found)) ∙ idle)))
    by_place false idle found later = later found

    by_queued : (b : Bool) → is_queued x.stage ≡ b → (submit_at submits place ≡ Some s → 0 < length (queued_among submits)) → 0 < length (cond b (x ∷ queued_among submits) (queued_among submits))
    by_queued true e later = omega arith
    by_queued false e later = by_place (x.request.place == place) e found later

none-under : (xs : List Submission) (cid : ℕ) → find (λ (s : Submission). s.request.cid == cid) xs ≡ None → AllByRecursion (λ n. n ≢ cid) (map (λ (s : Submission). s.request.cid) xs)
none-under [] cid e = tt
none-under (x ∷ xs) cid e = by_test (x.request.cid == cid) refl e (none-under xs cid)
  where
    by_test : (b : Bool) → (x.request.cid == cid) ≡ b → cond b (Some x) (find (λ (s : Submission). s.request.cid == cid) xs) ≡ None
        → (find (λ (s : Submission). s.request.cid == cid) xs ≡ None → AllByRecursion (λ n. n ≢ cid) (map (λ (s : Submission). s.request.cid) xs))
        → (x.request.cid ≢ cid) × AllByRecursion (λ n. n ≢ cid) (map (λ (s : Submission). s.request.cid) xs)
    by_test true h e later = absurd (none-some x (sym e))
    by_test false h e later = ((λ same. true≢false (sym (same-eqb x.request.cid cid same) ∙ h)), later e)

-- an outstanding command is taken, or is queued, where no claim is open
take-or-queued : (w : World) (host cid : ℕ) → IsLinked w → w.claims ≡ [] → Contains (map (λ (s : Submission). s.request.cid) (outstanding_of w.submits host)) cid
    → (0 < length (taking_under host cid (outstanding_under w.submits host cid))) ⊎ (0 < length (queued_among w.submits))
take-or-queued w host cid linked none there = by_found (outstanding_under w.submits host cid) refl
  where
    by_stage : (s : Submission) (stage : Stage) → s.stage ≡ stage → outstanding_under w.submits host cid ≡ Some s
        → (0 < length (taking_of host cid stage)) ⊎ (0 < length (queued_among w.submits))
    by_stage s Queued e found =
        inr (some-queued w.submits s.request.place s
        (under-each (λ (x : Submission). submit_at w.submits x.request.place ≡ Some x) w.submits host cid s (self-found w linked) found) (ap is_queued e))
    by_stage s Working e found =
        let here : submit_at w.submits s.request.place ≡ Some s = under-each (λ (x : Submission). submit_at w.submits x.request.place ≡ Some x) w.submits host cid s (self-found w linked) found in
        let claimed : is_some (claim_for w.claims s.request.place) ≡ true = linked.working s.request.place s here (ap is_working e) in
        absurd (true≢false (sym claimed ∙ ap (λ (cs : List OpenClaim). is_some (claim_for cs s.request.place)) none))
    by_stage s (Posted place) e found = inl (omega arith)
    by_stage s Taken e found = absurd (true≢false (sym (ap is_taken_off e) ∙ (found-under w.submits host cid s found).outstanding))

    by_found : (o : Option Submission) → outstanding_under w.submits host cid ≡ o → (0 < length (taking_under host cid o)) ⊎ (0 < length (queued_among w.submits))
    by_found None e =
        absurd (each-contains (λ n. n ≢ cid) (map (λ (s : Submission). s.request.cid) (outstanding_of w.submits host)) cid (none-under (outstanding_of w.submits host) cid e) there refl)
    by_found (Some s) e = by_stage s s.stage refl e

-- what is left of the hosts behind the first part
behind-keeps : (depth : ℕ) (A : ℕ → Standing) (part : PlainPart) (parts : List PlainPart) (hosts : List ℕ) → AllByRecursion (λ h. part.host ≢ h) hosts
    → AllByRecursion (λ (host : ℕ). KeepsPlain depth (cids_of A host) (items_in_phase host (part ∷ parts))) hosts
    → AllByRecursion (λ (host : ℕ). KeepsPlain depth (cids_of A host) (items_in_phase host parts)) hosts
behind-keeps depth A part parts [] differ keeps = tt
behind-keeps depth A part parts (h ∷ hosts) differ keeps = (
  subst (λ (b : Bool). KeepsPlain depth (cids_of A h) ((if b then part.items else []) ++ items_in_phase h parts)) (other-eqb part.host h differ.0) keeps.0,
  behind-keeps depth A part parts hosts differ.1 keeps.1,
)

and-false : (a b : Bool) → (a && b) ≡ false → a ≡ true → b ≡ false
and-false true b e h = e
and-false false b e h = absurd (true≢false (sym h))

-- a host that has something left may do it, or a command is queued
waits-or-acts : (c : Configuration) (w : World) (A : ℕ → Standing) (parts : List PlainPart) → IsLinked w → w.claims ≡ [] → Stands w A
    → Pairwise (λ a b. a ≢ b) (hosts_in parts) → AllByRecursion (λ (host : ℕ). KeepsPlain c.depth (cids_of A host) (items_in_phase host parts)) (hosts_in parts) → all_done parts ≡ false
    → (0 < length (actions_of_hosts w parts)) ⊎ (0 < length (queued_among w.submits))
waits-or-acts c w A [] linked none stands differ keeps unfinished = absurd (true≢false unfinished)
waits-or-acts c w A (part ∷ parts) linked none stands differ keeps unfinished =
    own part.items refl (λ more. waits-or-acts c w A parts linked none stands differ.1 (behind-keeps c.depth A part parts (hosts_in parts) differ.0 keeps.1) more)
  where
    first : (0 < length (action_of_host w part.host part.items)) → 0 < length (actions_of_hosts w (part ∷ parts))
    first some = (let a = length-append (action_of_host w part.host part.items) (actions_of_hosts w parts) in omega arith)

    behind : (0 < length (actions_of_hosts w parts)) → 0 < length (actions_of_hosts w (part ∷ parts))
    behind some = (let a = length-append (action_of_host w part.host part.items) (actions_of_hosts w parts) in omega arith)

    either_behind : (0 < length (actions_of_hosts w parts)) ⊎ (0 < length (queued_among w.submits)) → (0 < length (actions_of_hosts w (part ∷ parts))) ⊎ (0 < length (queued_among w.submits))
    either_behind (inl some) = inl (behind some)
    either_behind (inr some) = inr some

    taken : (cid : ℕ) (items : List PlainItem) → part.items ≡ Takes cid ∷ items
        → (0 < length (taking_under part.host cid (outstanding_under w.submits part.host cid))) ⊎ (0 < length (queued_among w.submits))
        → (0 < length (actions_of_hosts w (part ∷ parts))) ⊎ (0 < length (queued_among w.submits))
    taken cid items is (inl some) = inl (first (subst (λ (xs : List PlainItem). 0 < length (action_of_host w part.host xs)) (sym is) some))
    taken cid items is (inr some) = inr some

    own : (items : List PlainItem) → part.items ≡ items → (all_done parts ≡ false → (0 < length (actions_of_hosts w parts)) ⊎ (0 < length (queued_among w.submits)))
        → (0 < length (actions_of_hosts w (part ∷ parts))) ⊎ (0 < length (queued_among w.submits))
    own [] is later = either_behind (later (and-false (has_none part.items) (all_done parts) unfinished (ap has_none is)))
    own (Sends cid cmd ∷ items) is later = inl (first (subst (λ (xs : List PlainItem). 0 < length (action_of_host w part.host xs)) (sym is) (omega arith)))
    own (Takes cid ∷ items) is later =
        let here : KeepsPlain c.depth (cids_of A part.host) (part.items ++ items_in_phase part.host parts) =
        subst (λ (b : Bool). KeepsPlain c.depth (cids_of A part.host) ((if b then part.items else []) ++ items_in_phase part.host parts)) (same-eqb part.host part.host refl) keeps.0 in
        let takes = subst (λ (xs : List PlainItem). KeepsPlain c.depth (cids_of A part.host) (xs ++ items_in_phase part.host parts)) is here in
        taken cid items is (take-or-queued w part.host cid linked none
        (subst (λ (xs : List ℕ). Contains xs cid) (sym (world-cids w A part.host stands)) takes.0))

each-host : (P : ℕ → Type 0) → ((h : ℕ) → P h) → (hosts : List ℕ) → AllByRecursion P hosts
each-host P all [] = tt
each-host P all (h ∷ hosts) = (all h, each-host P all hosts)

first-idle : (w : World) (workers : ℕ) → w.claims ≡ [] → 1 ≤ workers → idle_worker w workers ≡ Some (MAX_HOSTS + 1)
first-idle w zero none some = absurd (omega arith)
first-idle w (suc workers) none some =
    ap (λ (cs : List OpenClaim). if is_none (claim_by cs (MAX_HOSTS + 1)) then Some (MAX_HOSTS + 1) else idle_from w (MAX_HOSTS + 1 + 1) workers) none

pub never-stuck : (c : Configuration) (commands workers : ℕ) (seen : Trail) (left : Phases) (phase : List PlainPart) (later : Phases) → Reached c commands seen left → 1 ≤ workers
    → not_over (world_of c seen).at_rest left ≡ phase ∷ later → all_done phase ≡ false → 0 < length (actions c workers (world_of c seen) phase)
never-stuck c commands workers seen left phase later h some is unfinished = by_claims (world_of c seen).claims refl
  where
    by_claims : (claims : List OpenClaim) → (world_of c seen).claims ≡ claims → 0 < length (actions c workers (world_of c seen) phase)
    by_claims (claim ∷ claims) e =
        let w : World = world_of c seen in
        let endings : List Action = map (λ claim. Ending claim) w.claims in
        let turns : List Action = turning (idle_worker w workers) (pickable_among c w) in
        let a = length-append (actions_of_hosts w phase ++ endings) turns in
        let b = length-append (actions_of_hosts w phase) endings in
        let d : length endings ≡ length w.claims = length-map w.claims (λ claim. Ending claim) in
        let g : length w.claims ≡ suc (length claims) = ap length e in
        omega arith
    by_claims [] e =
        let w : World = world_of c seen in
        let linked : IsLinked w = linked-world c commands seen h.lawful in
        let ready : Ready c commands w h.standings (phase ∷ later) =
        subst (λ (ps : Phases). Ready c commands w h.standings ps) is (not-over-ready c commands w h.standings w.at_rest left h.ready) in
        let endings : List Action = map (λ claim. Ending claim) w.claims in
        let turns : List Action = turning (idle_worker w workers) (pickable_among c w) in
        let a = length-append (actions_of_hosts w phase ++ endings) turns in
        let b = length-append (actions_of_hosts w phase) endings in
        let picks : length turns ≡ length (queued_among w.submits) =
        ap (λ (o : Option ℕ). length (turning o (pickable_among c w))) (first-idle w workers e some)
        ∙ (length-map (pickable_among c w) (λ s. Turning (MAX_HOSTS + 1) s) ∙ ap length (all-pickable c w e)) in
        ⊎_elim {C = 0 < length (actions c workers w phase)}
        (λ (acts : 0 < length (actions_of_hosts w phase)). omega arith)
        (λ (queued : 0 < length (queued_among w.submits)). omega arith)
        (waits-or-acts c w h.standings phase linked e h.ready.stands ready.hosts.0.0
        (each-host (λ (host : ℕ). KeepsPlain c.depth (cids_of h.standings host) (items_in_phase host phase)) ready.keeps.0 (hosts_in phase)) unfinished)
