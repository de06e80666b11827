-- A run of a plan goes on.
use Rattle.std.proofs.Common.{◌≡◌, ◌≢◌, ◌∙◌, ℕ, zero, suc, ◌+◌, ◌-◌, ◌<◌, ◌≤◌, ◌==◌, ◌%◌, ◌/◌, nat_le, Bool, true, false, ◌&&◌, if◌then◌else◌, List, [], ◌∷◌, ◌++◌, append_assoc, ◌*◌, length, length-append, map, Option, Some, None, is_none, is_some, refl, sym, ap, subst, arith, slice_get, IsSomeAnd}
use Rattle.std.specs.List.{All, AllByRecursion, Contains}
use Rattle.std.proofs.lemmas.Bool.{lt-leb}
use Rattle.cp_base.specs.Configuration.{Configuration}
use Rattle.cp_base.specs.declared.commands.Command.{Command}
use Rattle.queue_pairs.specs.declared.causes.SendCause.TheVariants as send
use Rattle.script_cmds.specs.declared.item.Phase.{Phase}
use Rattle.history_model.specs.Plain.{PlainPart, plain_phases}
use Rattle.history_model.specs.Rules.{KeepsRules}
use Rattle.history_model.specs.Sent.{sends_of}
use Rattle.history_model.proofs.Every.{Pairwise}
use Rattle.trail_model.specs.Each.{EachTwo}
use Rattle.trail_model.specs.Lawful.{IsLawful, MaySubmit, world_of}
use Rattle.trail_model.specs.World.{World, first_world, pickable_among, ordinal_after, outstanding_of, outstanding_under}
use Rattle.trail_model.specs.declared.events.Event.{Event}
use Rattle.trail_model.specs.declared.events.Event.TheVariants as event
use Rattle.trail_model.proofs.Counts.{bounded}
use Rattle.core_model.specs.Causes.{submit_cause}
use Rattle.device_core.specs.Gives.{world_in}
use Rattle.device_core.specs.Recorded.{Recorded, with_event}
use Rattle.schedule_model.specs.Deeds.{IsHost, Phases}
use Rattle.schedule_model.specs.Schedule.{Action, Ending, GoesBy, GoesOn, IsScheduled, Performs, RunsTo, Sending, Taking, Turning, actions, actions_of_hosts, all_done, left_after, not_over, turning, idle_worker}
use Rattle.schedule_model.proofs.Listing.{hosts_in}
use Rattle.schedule_model.proofs.Ongoing.{goes-on, never-stuck, run-ends, send-allowed}
use Rattle.schedule_model.proofs.Running.{Reached, Ready, not-over-ready}
use Rattle.schedule_model.specs.Told.{TellsPlan}
use Rattle.schedule_model.proofs.Beginnings.{hosts-did}
use Rattle.schedule_model.proofs.Scheduling.{scheduled, so-far}
use Rattle.schedule_model.proofs.Telling.{tells-plan}
use Rattle.step_driver.specs.Plans.{Follows}
use Rattle.step_driver.specs.Turns.{FindsPlace, IsActionDone, IsDoneBy, MayAct, actions_of_workers, listed}
use Rattle.step_driver.proofs.Getting.{each-contained}

-- what has a host that is not done is not over
not-over-here : (at_rest : Bool) (parts : List PlainPart) (later : Phases) → all_done parts ≡ false → not_over at_rest (parts ∷ later) ≡ parts ∷ later
not-over-here at_rest parts later unfinished = ap (λ (b : Bool). if b && at_rest then not_over at_rest later else parts ∷ later) unfinished

-- the trail so far is lawful, and the schedule is ready to go on
pub reached-so : (plan : List Phase) (workers first : ℕ) (d : Recorded) (left : Phases) (rest : ℕ) (follows : Follows plan workers first d left rest)
    → Reached d.config (length (sends_of plan)) d.trail follows.phases
reached-so plan workers first d left rest follows = so-far d.config plan workers first d.trail follows.phases rest follows.rules follows.runs

-- a device follows its plan from the start
pub follows-first : (plan : List Phase) (workers first : ℕ) (d : Recorded) → d.trail ≡ [] → All (KeepsRules d.config.depth) plan → d.commands ≡ length (sends_of plan)
    → Follows plan workers first d (plain_phases plan) first
follows-first plan workers first d empty rules commands = record {
  rules = rules;
  commands = commands;
  phases = plain_phases plan;
  runs = subst (λ trail. RunsTo d.config workers (first_world d.config) (plain_phases plan) first trail (plain_phases plan) first) (sym empty) (refl, refl);
  same = refl;
}

-- a device that has followed its plan to the end has its schedule's trail
pub follows-last : (plan : List Phase) (workers first : ℕ) (d : Recorded) (rest : ℕ) → Follows plan workers first d [] rest → IsScheduled d.config (plain_phases plan) workers first d.trail
follows-last plan workers first d rest follows =
    run-ends d.config workers (first_world d.config) (plain_phases plan) first d.trail follows.phases rest follows.runs follows.same

-- ---- one event more

-- one event that goes on from what is left
pub follows-on : (plan : List Phase) (workers first : ℕ) (d : Recorded) (left : Phases) (rest : ℕ) (e : Event) (next : Phases) (more : ℕ) → Follows plan workers first d left rest
    → GoesOn d.config workers (world_in d) (not_over (world_in d).at_rest left) rest e (λ ps n. (next ≡ ps) × (more ≡ n)) → Follows plan workers first (with_event d e) next more
follows-on plan workers first d left rest e next more follows goes = record {
  rules = follows.rules;
  commands = follows.commands;
  phases = next;
  runs = goes-on d.config workers (first_world d.config) (plain_phases plan) first d.trail follows.phases rest e next more follows.runs
      (subst (λ (ps : Phases). GoesOn d.config workers (world_in d) ps rest e (λ ps n. (next ≡ ps) × (more ≡ n))) (sym follows.same) goes);
  same = refl;
}

done-by : (c : Configuration) (workers : ℕ) (old new : Recorded) (parts after : List PlainPart) (later : Phases) (rest more : ℕ) (o : Option Action) → more ≡ rest → IsSomeAnd o (λ action. IsActionDone old new parts after action)
    → (e : Event) × (new ≡ with_event old e) × IsSomeAnd o (λ action. Performs old.config (world_in old) action e × (((after ∷ later) ≡ left_after action parts ∷ later) × (more ≡ rest)))
done-by c workers old new parts after later rest more None same h = absurd h
done-by c workers old new parts after later rest more (Some action) same h =
    (h.does.event, h.does.appended, (h.does.performs, (ap (λ (ps : List PlainPart). ps ∷ later) h.left, same)))

-- after a turn
pub follows-turn : (plan : List Phase) (workers first : ℕ) (old new : Recorded) (parts after : List PlainPart) (later : Phases) (rest more : ℕ) → Follows plan workers first old (parts ∷ later) rest
    → all_done parts ≡ false → IsDoneBy (rest % length (listed workers old parts)) workers old new parts after → more ≡ rest / length (listed workers old parts)
    → Follows plan workers first new (after ∷ later) more
follows-turn plan workers first old new parts after later rest more follows unfinished done same =
    let did = done-by old.config workers old new parts after later (rest / length (listed workers old parts)) more (slice_get (listed workers old parts) (rest % length (listed workers old parts))) same done in
    subst (λ (d : Recorded). Follows plan workers first d (after ∷ later) more) (sym did.1)
    (follows-on plan workers first old (parts ∷ later) rest did.0 (after ∷ later) more follows
    (subst (λ (ps : Phases). GoesOn old.config workers (world_in old) ps rest did.0 (λ ps n. ((after ∷ later) ≡ ps) × (more ≡ n))) (sym (not-over-here (world_in old).at_rest parts later unfinished))
    (subst (λ (b : Bool). GoesBy b old.config workers (world_in old) parts later rest did.0 (λ ps n. ((after ∷ later) ≡ ps) × (more ≡ n))) (sym unfinished) did.2)))

-- after the rest at the end of a phase
pub follows-rest : (plan : List Phase) (workers first : ℕ) (old new : Recorded) (parts : List PlainPart) (later : Phases) (rest : ℕ) → Follows plan workers first old (parts ∷ later) rest
    → all_done parts ≡ true → new ≡ (if (world_in old).at_rest then old else with_event old (event.Rest 1)) → Follows plan workers first new later rest
follows-rest plan workers first old new parts later rest follows done is = by_rest (world_in old).at_rest refl
  where
    by_rest : (b : Bool) → (world_in old).at_rest ≡ b → Follows plan workers first new later rest
    by_rest true h =
        let same : new ≡ old = is ∙ ap (λ (b : Bool). if b then old else with_event old (event.Rest 1)) h in
        let over : not_over true (parts ∷ later) ≡ not_over true later = ap (λ (b : Bool). if b && true then not_over true later else parts ∷ later) done in
        subst (λ (d : Recorded). Follows plan workers first d later rest) (sym same) (record {
          rules = follows.rules;
          commands = follows.commands;
          phases = follows.phases;
          runs = follows.runs;
          same = follows.same ∙ (ap (λ (b : Bool). not_over b (parts ∷ later)) h ∙ (over ∙ sym (ap (λ (b : Bool). not_over b later) h)));
        })
    by_rest false h =
        let same : new ≡ with_event old (event.Rest 1) = is ∙ ap (λ (b : Bool). if b then old else with_event old (event.Rest 1)) h in
        let here : not_over (world_in old).at_rest (parts ∷ later) ≡ parts ∷ later =
        ap (λ (b : Bool). not_over b (parts ∷ later)) h ∙ ap (λ (b : Bool). if b && false then not_over false later else parts ∷ later) done in
        subst (λ (d : Recorded). Follows plan workers first d later rest) (sym same)
        (follows-on plan workers first old (parts ∷ later) rest (event.Rest 1) later rest follows
        (subst (λ (ps : Phases). GoesOn old.config workers (world_in old) ps rest (event.Rest 1) (λ ps n. (later ≡ ps) × (rest ≡ n))) (sym here)
        (subst (λ (b : Bool). GoesBy b old.config workers (world_in old) parts later rest (event.Rest 1) (λ ps n. (later ≡ ps) × (rest ≡ n))) (sym done) (refl, (refl, refl)))))

-- ---- what may be done

-- the listed actions are those of the hosts and then all others
pub in-two : (workers : ℕ) (d : Recorded) (parts : List PlainPart) → listed workers d parts ≡ actions_of_hosts (world_in d) parts ++ actions_of_workers workers d
in-two workers d parts =
    append_assoc (actions_of_hosts (world_in d) parts) (map (λ claim. Ending claim) (world_in d).claims) (turning (idle_worker (world_in d) workers) (pickable_among d.config (world_in d)))

each-host : (parts : List PlainPart) → AllByRecursion IsHost (hosts_in parts) → AllByRecursion (λ (part : PlainPart). IsHost part.host) parts
each-host [] h = tt
each-host (part ∷ parts) h = (h.0, each-host parts h.1)

each-other : (host : ℕ) (parts : List PlainPart) → AllByRecursion (λ (n : ℕ). host ≢ n) (hosts_in parts) → AllByRecursion (λ (b : PlainPart). host ≢ b.host) parts
each-other host [] h = tt
each-other host (part ∷ parts) h = (h.0, each-other host parts h.1)

each-differ : (parts : List PlainPart) → Pairwise (λ a b. a ≢ b) (hosts_in parts) → EachTwo (λ (a b : PlainPart). a.host ≢ b.host) parts
each-differ [] h = tt
each-differ (part ∷ parts) h = (each-other part.host parts h.0, each-differ parts h.1)

no-cause : (c : Configuration) (commands : ℕ) (w : World) (host cid ordinal : ℕ) → MaySubmit c commands w host cid ordinal → submit_cause c commands w host cid ≡ None
no-cause c commands w host cid ordinal may =
    ap (λ (b : Bool). if b then Some send.Spent else if nat_le c.depth (length (outstanding_of w.submits host)) then Some send.QueueFull
    else if is_some (outstanding_under w.submits host cid) then Some send.CidBusy else None) (lt-leb commands (length w.submits) may.not_spent)
    ∙ (ap (λ (b : Bool). if b then Some send.QueueFull else if is_some (outstanding_under w.submits host cid) then Some send.CidBusy else None)
    (lt-leb c.depth (length (outstanding_of w.submits host)) may.not_full)
    ∙ by_found (outstanding_under w.submits host cid) may.not_busy)
  where
    by_found : (o : Option Rattle.trail_model.specs.World.Submission) → is_none o ≡ true → (if is_some o then Some send.CidBusy else None) ≡ None
    by_found None e = refl
    by_found (Some s) e = absurd (let no : false ≡ true = e in cc)

-- where a host has something left, the hosts may act
pub may-act : (plan : List Phase) (workers first : ℕ) (d : Recorded) (parts : List PlainPart) (later : Phases) (rest : ℕ) → Follows plan workers first d (parts ∷ later) rest
    → all_done parts ≡ false → MayAct d parts
may-act plan workers first d parts later rest follows unfinished =
    let reached : Reached d.config (length (sends_of plan)) d.trail follows.phases = reached-so plan workers first d (parts ∷ later) rest follows in
    let is : not_over (world_in d).at_rest follows.phases ≡ parts ∷ later = follows.same ∙ not-over-here (world_in d).at_rest parts later unfinished in
    let ready : Ready d.config (length (sends_of plan)) (world_in d) reached.standings (parts ∷ later) =
    subst (λ (ps : Phases). Ready d.config (length (sends_of plan)) (world_in d) reached.standings ps) is
    (not-over-ready d.config (length (sends_of plan)) (world_in d) reached.standings (world_in d).at_rest follows.phases reached.ready) in
    record {
      hosts = each-host parts ready.hosts.0.1;
      differ = each-differ parts ready.hosts.0.0;
      sends = each-contained (FindsPlace d) (actions_of_hosts (world_in d) parts) (actions_of_workers workers d) (by_action reached is);
    }
  where
    by_action : Reached d.config (length (sends_of plan)) d.trail follows.phases → not_over (world_in d).at_rest follows.phases ≡ parts ∷ later
        → (a : Action) → Contains (actions_of_hosts (world_in d) parts ++ actions_of_workers workers d) a → FindsPlace d a
    by_action reached is (Sending host cid cmd) found =
        subst (λ (n : ℕ). submit_cause d.config n (world_in d) host cid ≡ None) (sym follows.commands)
        (no-cause d.config (length (sends_of plan)) (world_in d) host cid (ordinal_after (world_in d).submits host)
        (send-allowed d.config (length (sends_of plan)) workers d.trail follows.phases parts later host cid cmd reached is
        (subst (λ (list : List Action). Contains list (Sending host cid cmd)) (sym (in-two workers d parts)) found)))
    by_action reached is (Taking host cid posted) found = tt
    by_action reached is (Ending claim) found = tt
    by_action reached is (Turning worker s) found = tt

-- some action is listed
pub may-go-on : (plan : List Phase) (workers first : ℕ) (d : Recorded) (parts : List PlainPart) (later : Phases) (rest : ℕ) → Follows plan workers first d (parts ∷ later) rest
    → 1 ≤ workers → all_done parts ≡ false → 0 < length (listed workers d parts)
may-go-on plan workers first d parts later rest follows some unfinished =
    never-stuck d.config (length (sends_of plan)) workers d.trail follows.phases parts later (reached-so plan workers first d (parts ∷ later) rest follows) some
    (follows.same ∙ not-over-here (world_in d).at_rest parts later unfinished) unfinished

-- the trail has at most five events for each command, and one more
pub follows-bounded : (plan : List Phase) (workers first : ℕ) (d : Recorded) (left : Phases) (rest : ℕ) → Follows plan workers first d left rest → length d.trail ≤ 5 * d.commands + 1
follows-bounded plan workers first d left rest follows =
    bounded d.config d.commands d.trail
    (subst (λ (n : ℕ). IsLawful d.config n d.trail) (sym follows.commands) (reached-so plan workers first d left rest follows).lawful)

-- ---- how far a turn comes

-- one event has happened to a device
pub record OneMore (old new : Recorded) : Type 0 where
  pub config : new.config ≡ old.config
  pub commands : new.commands ≡ old.commands
  pub trail : length new.trail ≡ length old.trail + 1

pub one-more : (workers number : ℕ) (old new : Recorded) (parts after : List PlainPart) → IsDoneBy number workers old new parts after → OneMore old new
one-more workers number old new parts after done = by_item (slice_get (listed workers old parts) number) done
  where
    by_item : (o : Option Action) → IsSomeAnd o (λ (action : Action). IsActionDone old new parts after action) → OneMore old new
    by_item None h = absurd h
    by_item (Some action) h = record {
      config = ap (λ (d : Recorded). d.config) h.does.appended;
      commands = ap (λ (d : Recorded). d.commands) h.does.appended;
      trail = ap (λ (d : Recorded). length d.trail) h.does.appended ∙ length-append old.trail (h.does.event ∷ []);
    }

-- a turn brings a device nearer to the most events
pub turns-end : (plan : List Phase) (workers first number : ℕ) (old new : Recorded) (parts after : List PlainPart) (left : Phases) (rest : ℕ) → Follows plan workers first new left rest
    → IsDoneBy number workers old new parts after → 5 * new.commands + 1 - length new.trail < 5 * old.commands + 1 - length old.trail
turns-end plan workers first number old new parts after left rest follows done =
    let more : OneMore old new = one-more workers number old new parts after done in
    let a = more.commands in
    let b = more.trail in
    let most = follows-bounded plan workers first new left rest follows in
    omega arith

-- a device that has followed its plan to the end tells a legal history of it
pub tells-last : (plan : List Phase) (workers first : ℕ) (d : Recorded) (rest : ℕ) → Follows plan workers first d [] rest → TellsPlan d.config plan (world_in d)
tells-last plan workers first d rest follows =
    let runs : IsScheduled d.config (plain_phases plan) workers first d.trail = follows-last plan workers first d rest follows in
    let found = scheduled d.config plan workers first d.trail follows.rules runs in
    tells-plan d.config (length (sends_of plan)) plan d.trail follows.rules found.lawful (hosts-did (plain_phases plan) d.trail found.did)
