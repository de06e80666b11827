-- A claim: the parts have the command picked, its footprint kept, its claim open and the bytes that it may write out.
use Rattle.std.proofs.Common.{◌≡◌, ℕ, ◌+◌, ◌<◌, ◌==◌, Bool, true, false, ◌||◌, List, [], ◌∷◌, ◌++◌, Option, Some, None, refl, sym, ap, subst, ◌∙◌, if◌then◌else◌, slice_get}
use Rattle.std.proofs.lemmas.Bool.{true≢false}
use Rattle.std.proofs.lemmas.List.{map-append}
use Rattle.std.proofs.lemmas.List.Folds.{list_any-append}
use Rattle.cp_base.specs.Configuration.{Configuration}
use Rattle.cp_base.specs.Contents.{bytes_of}
use Rattle.cp_base.specs.Region.{Region}
use Rattle.cp_base.specs.Sets.{RangeSet}
use Rattle.cp_base.specs.declared.commands.Command.{Command}
use Rattle.cp_base.specs.declared.spans.Footprint.{Footprint}
use Rattle.device_model.specs.State.{Slot}
use Rattle.queue_pairs.specs.Places.{restaged}
use Rattle.queue_pairs.specs.declared.command.Outstanding.{Outstanding as Waiting}
use Rattle.queue_pairs.specs.declared.command.Stage.{Stage as QueueStage}
use Rattle.queue_pairs.specs.declared.command.Stage.TheVariants as queue
use Rattle.trail_model.specs.Each.{EachTwo}
use Rattle.trail_model.specs.Footprints.{Execution, execution_of, footprint_of, writes_of}
use Rattle.trail_model.specs.Lawful.{IsAllowedIn, MayClaim, Trail, world_of}
use Rattle.trail_model.specs.Linked.{requests_of}
use Rattle.trail_model.specs.Pieces.{any_has_byte}
use Rattle.trail_model.specs.World.{Completion, OpenClaim, Posted, Queued, Request, Stage, Submission, Taken, Working, World, claim_of, claimed_footprint, is_out, is_queued, is_taken_off, staged, submit_at, with_claim}
use Rattle.trail_model.specs.declared.events.Event.TheVariants as event
use Rattle.trail_model.proofs.Moving.{linked-world}
use Rattle.trail_model.proofs.Sound.{some-and}
use Rattle.trail_model.proofs.Submits.{staged-requests, submit-place}
use Rattle.core_model.specs.Asked.{Asked, asked_at, asked_by_request}
use Rattle.core_model.specs.Moves.{ClaimMoves, without_waiting}
use Rattle.core_model.specs.Parts.{ClaimPlaces, KeptFootprint, Parts, WaitingSubmit, tables_in, tables_of}
use Rattle.core_model.specs.Ties.{AreTied, StandFor, as_kept, as_places, is_lent, is_one_of, queue_among, queue_stage}
use Rattle.core_model.proofs.Quiet.{none-told}
use Rattle.core_model.proofs.Reading.{asked-same}
use Rattle.core_model.proofs.Steps.{queues-restaged, same-length, same-ordinal, stand-after, waiting-less}
use Rattle.core_model.proofs.Tabling.{same-execution}

-- what a command touches by the tables of the parts is what it touches in the state
pub same-touched : (c : Configuration) (p : Parts) (w : World) (cmd : Command) → AreTied c p w
    → footprint_of c (execution_of (tables_in p) cmd).ranges cmd ≡ footprint_of c (execution_of w.state cmd).ranges cmd
same-touched c p w cmd t =
    ap (λ (slots : List Slot). footprint_of c (execution_of (tables_of slots p.sets) cmd).ranges cmd) t.slots
    ∙ (ap (λ (sets : List RangeSet). footprint_of c (execution_of (tables_of w.state.slots sets) cmd).ranges cmd) t.sets
    ∙ sym (ap (λ (x : Execution). footprint_of c x.ranges cmd) (same-execution w.state cmd)))

pub same-taken : (c : Configuration) (p : Parts) (w : World) (cmd : Command) → AreTied c p w
    → writes_of c (execution_of (tables_in p) cmd).ranges cmd ≡ writes_of c (execution_of w.state cmd).ranges cmd
same-taken c p w cmd t =
    ap (λ (slots : List Slot). writes_of c (execution_of (tables_of slots p.sets) cmd).ranges cmd) t.slots
    ∙ (ap (λ (sets : List RangeSet). writes_of c (execution_of (tables_of w.state.slots sets) cmd).ranges cmd) t.sets
    ∙ sym (ap (λ (x : Execution). writes_of c x.ranges cmd) (same-execution w.state cmd)))

-- a stage that is queued is no taken one
pub queued-there : (stage : Stage) → is_queued stage ≡ true → is_taken_off stage ≡ false
queued-there Queued e = refl
queued-there Working e = refl
queued-there (Posted place) e = refl
queued-there Taken e = absurd (true≢false (sym e))

-- the queues where one host's command has come further
pub queues-moved : (c : Configuration) (old new : Parts) (w : World) (s : Submission) (stage : Stage) (shown_stage : QueueStage) → AreTied c old w
    → EachTwo (λ (a b : Request). a.place < b.place) (requests_of w.submits) → submit_at w.submits s.request.place ≡ Some s → is_taken_off s.stage ≡ false
    → is_taken_off stage ≡ false → queue_stage stage ≡ shown_stage
    → ((host : ℕ) → new.queues host ≡ (if host == s.request.host then restaged (old.queues s.request.host) s.request.place shown_stage else old.queues host))
    → (host : ℕ) → new.queues host ≡ queue_among (staged s.request.place stage w.submits) host
queues-moved c old new w s stage shown_stage t order found before after same moves host =
    moves host
    ∙ (ap (λ (q : List Waiting). if host == s.request.host then restaged q s.request.place shown_stage else old.queues host) (t.queues s.request.host)
    ∙ (ap (λ (q : List Waiting). if host == s.request.host then restaged (queue_among w.submits s.request.host) s.request.place shown_stage else q) (t.queues host)
    ∙ (ap (λ (g : QueueStage). if host == s.request.host then restaged (queue_among w.submits s.request.host) s.request.place g else queue_among w.submits host) (sym same)
    ∙ sym (queues-restaged w.submits s stage order found before after host))))

claim-tied : (c : Configuration) (old new : Parts) (w : World) (by : ℕ) (s : Submission) (history : List Completion) → AreTied c old w
    → EachTwo (λ (a b : Request). a.place < b.place) (requests_of w.submits) → submit_at w.submits s.request.place ≡ Some s → is_queued s.stage ≡ true
    → ClaimMoves old new by s.request.host s.request.place (footprint_of c (execution_of (tables_in old) s.request.command).ranges s.request.command) (writes_of c (execution_of (tables_in old) s.request.command).ranges s.request.command)
    → AreTied c new (let v : World = record (with_claim c w by (Some s)) { history = history; count = w.count + 1 } in v)
claim-tied c old new w by s history t order found queued moves =
    let xs : List Submission = staged s.request.place Working w.submits in
    let same : requests_of xs ≡ requests_of w.submits = staged-requests s.request.place Working w.submits in
    let claim : OpenClaim = claim_of c w by s.request in
    let touched : footprint_of c (execution_of (tables_in old) s.request.command).ranges s.request.command ≡ claimed_footprint c claim =
    same-touched c old w s.request.command t in
    record {
      count = moves.count ∙ ap (λ (n : ℕ). n + 1) t.count;
      submitted = moves.still.submitted ∙ (t.submitted ∙ sym (same-length w.submits xs same));
      at_rest = moves.still.at_rest ∙ t.at_rest;
      waiting = moves.waiting ∙ (ap (λ (ws : List WaitingSubmit). without_waiting ws s.request.place) t.waiting
          ∙ sym (waiting-less w.submits s Working order found refl));
      queues = queues-moved c old new w s Working queue.Picked t order found (queued-there s.stage queued) refl refl moves.queues;
      ordinals = λ host. moves.still.ordinals host ∙ (t.ordinals host ∙ sym (same-ordinal w.submits xs host same));
      kept = moves.kept
          ∙ (ap (λ (n : ℕ). old.kept ++ (let x : KeptFootprint = record { key = n; footprint = footprint_of c (execution_of (tables_in old) s.request.command).ranges s.request.command } in x) ∷ []) t.count
          ∙ (ap (λ (f : Footprint). old.kept ++ (let x : KeptFootprint = record { key = w.count; footprint = f } in x) ∷ []) touched
          ∙ (ap (λ (ks : List KeptFootprint). ks ++ as_kept c claim ∷ []) t.kept
          ∙ sym (map-append (as_kept c) w.claims (claim ∷ [])))));
      claims = moves.claims
          ∙ (ap (λ (n : ℕ). old.claims ++ (let x : ClaimPlaces = record { claim = n; party = by; host = s.request.host; sent = s.request.place } in x) ∷ []) t.count
          ∙ (ap (λ (ks : List ClaimPlaces). ks ++ as_places claim ∷ []) t.claims
          ∙ sym (map-append as_places w.claims (claim ∷ []))));
      store = λ space offset. moves.store space offset
          ∙ (ap (λ (f : Footprint). if any_has_byte f.writes space offset then None else old.store space offset) touched
          ∙ (ap (λ (o : Option ℕ). if any_has_byte (claimed_footprint c claim).writes space offset then None else o) (t.store space offset)
          ∙ (by_tests (is_out c w.claims space offset) (any_has_byte (claimed_footprint c claim).writes space offset) (slice_get (bytes_of w.state.contents space) offset)
          ∙ sym (ap (λ (b : Bool). if b then None else slice_get (bytes_of w.state.contents space) offset)
          (list_any-append (λ (x : OpenClaim). any_has_byte (claimed_footprint c x).writes space offset) w.claims (claim ∷ []))))));
      out = λ region some. moves.out region some
          ∙ (ap (λ (b : Bool). b || is_one_of (writes_of c (execution_of (tables_in old) s.request.command).ranges s.request.command) region) (t.out region some)
          ∙ (ap (λ (rs : List Region). is_lent c w.claims region || is_one_of rs region) (same-taken c old w s.request.command t)
          ∙ (or-false (is_lent c w.claims region) (is_one_of (writes_of c claim.execution.ranges claim.request.command) region)
          ∙ sym (list_any-append (λ (x : OpenClaim). is_one_of (writes_of c x.execution.ranges x.request.command) region) w.claims (claim ∷ [])))));
      slots = moves.slots ∙ t.slots;
      sets = moves.sets ∙ t.sets;
    }
  where
    or-false : (a b : Bool) → (a || b) ≡ (a || (b || false))
    or-false a true = refl
    or-false a false = refl

    by_tests : (out writes : Bool) (o : Option ℕ) → (if writes then None else (if out then None else o)) ≡ (if out || (writes || false) then None else o)
    by_tests true true o = refl
    by_tests true false o = refl
    by_tests false true o = refl
    by_tests false false o = refl

pub claim-stands : (c : Configuration) (commands : ℕ) (old new : Parts) (trail : Trail) (by host ordinal sent : ℕ) (asked : Asked) → StandFor c commands old trail
    → IsAllowedIn c commands (world_of c trail) (event.Claim by host ordinal sent) → asked_at trail sent ≡ Some asked
    → ClaimMoves old new by asked.host sent (footprint_of c (execution_of (tables_in old) asked.command).ranges asked.command) (writes_of c (execution_of (tables_in old) asked.command).ranges asked.command)
    → StandFor c commands new (trail ++ event.Claim by host ordinal sent ∷ [])
claim-stands c commands old new trail by host ordinal sent asked stand allowed read moves =
    let w : World = world_of c trail in
    let found = some-and (λ (s : Submission). MayClaim c w by host ordinal s) (submit_at w.submits sent) allowed in
    let s : Submission = found.0 in
    let place : s.request.place ≡ sent = submit-place w.submits sent s found.1 in
    let here : submit_at w.submits s.request.place ≡ Some s = subst (λ (p : ℕ). submit_at w.submits p ≡ Some s) (sym place) found.1 in
    let same : asked_by_request s.request ≡ asked = asked-same c commands trail sent s asked stand.lawful found.1 read in
    let moved : ClaimMoves old new by s.request.host s.request.place (footprint_of c (execution_of (tables_in old) s.request.command).ranges s.request.command) (writes_of c (execution_of (tables_in old) s.request.command).ranges s.request.command) =
    subst (λ (a : Asked). ClaimMoves old new by a.host s.request.place (footprint_of c (execution_of (tables_in old) a.command).ranges a.command) (writes_of c (execution_of (tables_in old) a.command).ranges a.command)) (sym same)
    (subst (λ (p : ℕ). ClaimMoves old new by asked.host p (footprint_of c (execution_of (tables_in old) asked.command).ranges asked.command) (writes_of c (execution_of (tables_in old) asked.command).ranges asked.command)) (sym place) moves) in
    stand-after c commands old new trail (event.Claim by host ordinal sent) stand allowed
    (subst (λ (o : Option Submission). AreTied c new (let v : World = record (with_claim c w by o) { history = w.history ++ []; count = w.count + 1 } in v)) (sym found.1)
    (claim-tied c old new w by s (w.history ++ []) stand.ties (linked-world c commands trail stand.lawful).places.ascending here found.2.turn.queued moved))
    (none-told old.entries new.entries moves.entries)
