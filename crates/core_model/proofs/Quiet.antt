-- The events that leave claims, bytes and tables as they are: a submit, a take and a rest.
use Rattle.std.proofs.Common.{◌≡◌, ℕ, ◌+◌, ◌==◌, Bool, true, false, cond, ◌&&◌, List, [], ◌∷◌, ◌++◌, append-nil, length, length-append, map, Option, Some, option_map, refl, sym, ap, subst, ◌∙◌, if◌then◌else◌}
use Rattle.std.proofs.lemmas.Bool.{true≢false}
use Rattle.cp_base.specs.Configuration.{Configuration}
use Rattle.cp_base.specs.declared.commands.Command.{Command}
use Rattle.queue_pairs.specs.Outstanding.{under, with_sent}
use Rattle.queue_pairs.specs.Places.{without_sent}
use Rattle.queue_pairs.specs.declared.command.Outstanding.{Outstanding as Waiting}
use Rattle.trail_model.specs.Lawful.{IsAllowedIn, Trail, world_of}
use Rattle.trail_model.specs.Linked.{requests_of}
use Rattle.trail_model.specs.World.{Posted, Queued, Stage, Submission, Taken, Working, World, is_posted_at, is_queued, ordinal_after, outstanding_of, outstanding_under, request_of, staged, submit_at, submits_of, with_take}
use Rattle.trail_model.specs.declared.events.Event.TheVariants as event
use Rattle.trail_model.proofs.Linked.{found-under, self-found, under-each}
use Rattle.trail_model.proofs.Moving.{linked-world}
use Rattle.trail_model.proofs.Naming.{submits-append}
use Rattle.trail_model.proofs.Sound.{some-and}
use Rattle.trail_model.proofs.Submits.{eqb-same, other-eqb, same-eqb, some-same, staged-requests}
use Rattle.core_model.specs.Moves.{RestMoves, SubmitMoves, TakeMoves, names_in_queue}
use Rattle.core_model.specs.Parts.{Parts, WaitingSubmit}
use Rattle.core_model.specs.Ties.{AreTied, StandFor, as_waiting, queue_among, waiting_among}
use Rattle.core_model.proofs.Shown.{shown, shown-append}
use Rattle.core_model.proofs.Steps.{at_host, find-map, named-same, queue-append, queue-shown, queues-taken, same-length, same-ordinal, stand-after, waiting-same}
use Rattle.core_model.specs.Ties.{as_outstanding}

-- a list that an event does not make longer
pub none-told : {A : Type 0} (old new : List A) → new ≡ old → new ≡ old ++ []
none-told old new e = e ∙ sym (append-nil old)

-- ---- a rest

pub rest-stands : (c : Configuration) (commands : ℕ) (old new : Parts) (trail : Trail) (by : ℕ) → StandFor c commands old trail
    → IsAllowedIn c commands (world_of c trail) (event.Rest by) → RestMoves old new → StandFor c commands new (trail ++ event.Rest by ∷ [])
rest-stands c commands old new trail by stand allowed moves =
    let t = stand.ties in
    stand-after c commands old new trail (event.Rest by) stand allowed (record {
      count = moves.count ∙ ap (λ (n : ℕ). n + 1) t.count;
      submitted = moves.submitted ∙ t.submitted;
      at_rest = moves.at_rest;
      waiting = moves.waiting ∙ t.waiting;
      queues = λ host. moves.queues host ∙ t.queues host;
      ordinals = λ host. moves.ordinals host ∙ t.ordinals host;
      kept = moves.kept ∙ t.kept;
      claims = moves.claims ∙ t.claims;
      store = λ space offset. moves.store space offset ∙ t.store space offset;
      out = λ region some. moves.out region some ∙ t.out region some;
      slots = moves.slots ∙ t.slots;
      sets = moves.sets ∙ t.sets;
    }) (none-told old.entries new.entries moves.entries)

-- ---- a submit

eqb-swap : (a b : ℕ) → (a == b) ≡ (b == a)
eqb-swap a b = by_test (b == a) refl
  where
    by_test : (t : Bool) → (b == a) ≡ t → (a == b) ≡ t
    by_test true e = same-eqb a b (sym (eqb-same b a e))
    by_test false e = other-eqb a b (λ same. true≢false (sym (same-eqb b a (sym same)) ∙ e))

-- a new submit, as the world has it
abbrev new_submit : World → ℕ → ℕ → ℕ → Command → Submission
new_submit w by cid ordinal cmd = record { request = request_of w by cid ordinal cmd; stage = Queued }

module _ (w : World) (by cid ordinal : ℕ) (cmd : Command) where
  new-queue : (host : ℕ) → queue_among (w.submits ++ new_submit w by cid ordinal cmd ∷ []) host
      ≡ (if host == by then with_sent (queue_among w.submits by) cid w.count else queue_among w.submits host)
  new-queue host =
      queue-append w.submits (new_submit w by cid ordinal cmd ∷ []) host
      ∙ (ap (λ (xs : List Waiting). queue_among w.submits host ++ xs) (queue-shown (new_submit w by cid ordinal cmd ∷ []) host)
      ∙ by_test (host == by) refl (eqb-swap by host))
    where
      by_test : (b : Bool) → (host == by) ≡ b → (by == host) ≡ (host == by)
          → queue_among w.submits host ++ shown (at_host host) as_outstanding (new_submit w by cid ordinal cmd ∷ [])
          ≡ (if b then with_sent (queue_among w.submits by) cid w.count else queue_among w.submits host)
      by_test true e same =
          ap (λ (b : Bool). queue_among w.submits host ++ map as_outstanding (cond (b && true) (new_submit w by cid ordinal cmd ∷ []) [])) (same ∙ e)
          ∙ ap (λ (h : ℕ). with_sent (queue_among w.submits h) cid w.count) (eqb-same host by e)
      by_test false e same =
          ap (λ (b : Bool). queue_among w.submits host ++ map as_outstanding (cond (b && true) (new_submit w by cid ordinal cmd ∷ []) [])) (same ∙ e)
          ∙ append-nil (queue_among w.submits host)

  new-waiting : waiting_among (w.submits ++ new_submit w by cid ordinal cmd ∷ []) ≡ waiting_among w.submits ++ as_waiting (new_submit w by cid ordinal cmd) ∷ []
  new-waiting = shown-append (λ (s : Submission). is_queued s.stage) as_waiting w.submits (new_submit w by cid ordinal cmd ∷ [])

  new-ordinal : (host : ℕ) → ordinal_after (w.submits ++ new_submit w by cid ordinal cmd ∷ []) host
      ≡ (if host == by then ordinal_after w.submits by + 1 else ordinal_after w.submits host)
  new-ordinal host =
      ap (λ (xs : List Submission). length xs + 1) (submits-append w.submits (new_submit w by cid ordinal cmd ∷ []) host)
      ∙ by_test (host == by) refl (eqb-swap by host)
    where
      by_test : (b : Bool) → (host == by) ≡ b → (by == host) ≡ (host == by)
          → length (submits_of w.submits host ++ submits_of (new_submit w by cid ordinal cmd ∷ []) host) + 1
          ≡ (if b then ordinal_after w.submits by + 1 else ordinal_after w.submits host)
      by_test true e same =
          ap (λ (b : Bool). length (submits_of w.submits host ++ cond b (new_submit w by cid ordinal cmd ∷ []) []) + 1) (same ∙ e)
          ∙ (ap (λ (n : ℕ). n + 1) (length-append (submits_of w.submits host) (new_submit w by cid ordinal cmd ∷ []))
          ∙ ap (λ (h : ℕ). ordinal_after w.submits h + 1) (eqb-same host by e))
      by_test false e same =
          ap (λ (b : Bool). length (submits_of w.submits host ++ cond b (new_submit w by cid ordinal cmd ∷ []) []) + 1) (same ∙ e)
          ∙ ap (λ (xs : List Submission). length xs + 1) (append-nil (submits_of w.submits host))

pub submit-stands : (c : Configuration) (commands : ℕ) (old new : Parts) (trail : Trail) (by cid ordinal : ℕ) (cmd : Command) → StandFor c commands old trail
    → IsAllowedIn c commands (world_of c trail) (event.Submit by cid ordinal cmd) → SubmitMoves old new by cid cmd
    → StandFor c commands new (trail ++ event.Submit by cid ordinal cmd ∷ [])
submit-stands c commands old new trail by cid ordinal cmd stand allowed moves =
    let t = stand.ties in
    let w : World = world_of c trail in
    let s : Submission = new_submit w by cid ordinal cmd in
    let names : names_in_queue (old.queues by) cmd ≡ s.request.names =
    ap (λ (q : List Waiting). names_in_queue q cmd) (t.queues by) ∙ named-same w.submits by cmd in
    let longer = length-append w.submits (s ∷ []) in
    stand-after c commands old new trail (event.Submit by cid ordinal cmd) stand allowed (record {
      count = moves.count ∙ ap (λ (n : ℕ). n + 1) t.count;
      submitted = moves.submitted ∙ (ap (λ (n : ℕ). n + 1) t.submitted ∙ sym longer);
      at_rest = moves.at_rest;
      waiting = moves.waiting
          ∙ (ap (λ (xs : List WaitingSubmit). xs ++ (let x : WaitingSubmit = record { sent = old.count; names = names_in_queue (old.queues by) cmd } in x) ∷ []) t.waiting
          ∙ (ap (λ (n : ℕ). waiting_among w.submits ++ (let x : WaitingSubmit = record { sent = n; names = names_in_queue (old.queues by) cmd } in x) ∷ []) t.count
          ∙ (ap (λ (o : Option ℕ). waiting_among w.submits ++ (let x : WaitingSubmit = record { sent = w.count; names = o } in x) ∷ []) names
          ∙ sym (new-waiting w by cid ordinal cmd))));
      queues = λ host. moves.queues host
          ∙ (ap (λ (q : List Waiting). if host == by then with_sent q cid old.count else old.queues host) (t.queues by)
          ∙ (ap (λ (n : ℕ). if host == by then with_sent (queue_among w.submits by) cid n else old.queues host) t.count
          ∙ (ap (λ (q : List Waiting). if host == by then with_sent (queue_among w.submits by) cid w.count else q) (t.queues host)
          ∙ sym (new-queue w by cid ordinal cmd host))));
      ordinals = λ host. moves.ordinals host
          ∙ (ap (λ (n : ℕ). if host == by then n + 1 else old.ordinals host) (t.ordinals by)
          ∙ (ap (λ (n : ℕ). if host == by then ordinal_after w.submits by + 1 else n) (t.ordinals host)
          ∙ sym (new-ordinal w by cid ordinal cmd host)));
      kept = moves.kept ∙ t.kept;
      claims = moves.claims ∙ t.claims;
      store = λ space offset. moves.store space offset ∙ t.store space offset;
      out = λ region some. moves.out region some ∙ t.out region some;
      slots = moves.slots ∙ t.slots;
      sets = moves.sets ∙ t.sets;
    }) (none-told old.entries new.entries moves.entries)

-- ---- a take

posted-waits : (posted : ℕ) (stage : Stage) → is_posted_at posted stage ≡ true → is_queued stage ≡ false
posted-waits posted Queued e = absurd (true≢false (sym e))
posted-waits posted Working e = absurd (true≢false (sym e))
posted-waits posted (Posted place) e = refl
posted-waits posted Taken e = absurd (true≢false (sym e))

take-moved : (c : Configuration) (commands : ℕ) (old new : Parts) (trail : Trail) (by cid posted : ℕ) (s : Submission) → StandFor c commands old trail
    → IsAllowedIn c commands (world_of c trail) (event.Take by cid posted) → outstanding_under (world_of c trail).submits by cid ≡ Some s
    → TakeMoves old new by s.request.place → StandFor c commands new (trail ++ event.Take by cid posted ∷ [])
take-moved c commands old new trail by cid posted s stand allowed under moves =
    let t = stand.ties in
    let w : World = world_of c trail in
    let linked = linked-world c commands trail stand.lawful in
    let order = linked.places.ascending in
    let found : submit_at w.submits s.request.place ≡ Some s =
    under-each (λ (x : Submission). submit_at w.submits x.request.place ≡ Some x) w.submits by cid s (self-found w linked) under in
    let host_is : s.request.host ≡ by = (found-under w.submits by cid s under).same_host in
    let posts : is_posted_at posted s.stage ≡ true =
    (let there = some-and (λ (x : Submission). is_posted_at posted x.stage ≡ true) (outstanding_under w.submits by cid) allowed in
    subst (λ (x : Submission). is_posted_at posted x.stage ≡ true) (some-same there.0 s (sym there.1 ∙ under)) there.2) in
    let xs : List Submission = staged s.request.place Taken w.submits in
    let same : requests_of xs ≡ requests_of w.submits = staged-requests s.request.place Taken w.submits in
    let next : World = (let v : World = record w { submits = xs; history = w.history ++ []; count = w.count + 1 } in v) in
    let tied : AreTied c new next = record {
      count = moves.count ∙ ap (λ (n : ℕ). n + 1) t.count;
      submitted = moves.still.submitted ∙ (t.submitted ∙ sym (same-length w.submits xs same));
      at_rest = moves.still.at_rest ∙ t.at_rest;
      waiting = moves.waiting ∙ (t.waiting ∙ sym (waiting-same w.submits s Taken order found (posted-waits posted s.stage posts) refl));
      queues = λ host. moves.queues host
          ∙ (ap (λ (q : List Waiting). if host == by then without_sent q s.request.place else old.queues host) (t.queues by)
          ∙ (ap (λ (q : List Waiting). if host == by then without_sent (queue_among w.submits by) s.request.place else q) (t.queues host)
          ∙ (ap (λ (h : ℕ). if host == h then without_sent (queue_among w.submits h) s.request.place else queue_among w.submits host) (sym host_is)
          ∙ sym (queues-taken w.submits s order found host))));
      ordinals = λ host. moves.still.ordinals host ∙ (t.ordinals host ∙ sym (same-ordinal w.submits xs host same));
      kept = moves.kept ∙ t.kept;
      claims = moves.claims ∙ t.claims;
      store = λ space offset. moves.store space offset ∙ t.store space offset;
      out = λ region some. moves.out region some ∙ t.out region some;
      slots = moves.slots ∙ t.slots;
      sets = moves.sets ∙ t.sets;
    } in
    stand-after c commands old new trail (event.Take by cid posted) stand allowed
    (subst (λ (o : Option Submission). AreTied c new (let v : World = record (with_take w o) { history = w.history ++ []; count = w.count + 1 } in v)) (sym under) tied)
    (none-told old.entries new.entries moves.entries)

-- what a host's queue has under an identifier is what the world has
pub under-same : (p : Parts) (c : Configuration) (w : World) (by cid : ℕ) → AreTied c p w
    → under (p.queues by) cid ≡ option_map as_outstanding (outstanding_under w.submits by cid)
under-same p c w by cid t =
    ap (λ (q : List Waiting). under q cid) (t.queues by) ∙ find-map as_outstanding (λ (x : Waiting). x.cid == cid) (outstanding_of w.submits by)

pub take-stands : (c : Configuration) (commands : ℕ) (old new : Parts) (trail : Trail) (by cid posted : ℕ) (x : Waiting) → StandFor c commands old trail
    → IsAllowedIn c commands (world_of c trail) (event.Take by cid posted) → under (old.queues by) cid ≡ Some x
    → TakeMoves old new by x.sent → StandFor c commands new (trail ++ event.Take by cid posted ∷ [])
take-stands c commands old new trail by cid posted x stand allowed there moves =
    let w : World = world_of c trail in
    let found = some-and (λ (s : Submission). is_posted_at posted s.stage ≡ true) (outstanding_under w.submits by cid) allowed in
    let same : as_outstanding found.0 ≡ x = some-same (as_outstanding found.0) x
    (sym (ap (λ (o : Option Submission). option_map as_outstanding o) found.1) ∙ (sym (under-same old c w by cid stand.ties) ∙ there)) in
    take-moved c commands old new trail by cid posted found.0 stand allowed found.1
    (subst (λ (y : Waiting). TakeMoves old new by y.sent) (sym same) moves)
