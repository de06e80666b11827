-- What is kept goes on to stand for the trail.
use Rattle.std.proofs.Common.{◌≡◌, ℕ, ◌+◌, ◌*◌, ◌<◌, ◌≤◌, List, [], ◌∷◌, ◌++◌, length, length-append, Option, Some, None, Result, Ok, false, refl, sym, subst, ◌∙◌, arith}
use Rattle.std.proofs.lemmas.Bool.{le-leb, lt-leb}
use Rattle.std.proofs.lemmas.List.{length-map, map-append}
use Rattle.std.specs.Vec.{vec_capacity}
use Rattle.cp_base.specs.Configuration.{Configuration}
use Rattle.cp_base.specs.declared.commands.Command.{Command}
use Rattle.cp_base.specs.declared.limits.TheConstants.{MAX_COMMANDS, MAX_HOSTS}
use Rattle.queue_pairs.specs.Outstanding.{send_cause, taken, under}
use Rattle.queue_pairs.specs.declared.causes.SendCause.{SendCause}
use Rattle.queue_pairs.specs.declared.causes.SendCause.TheVariants as send
use Rattle.queue_pairs.specs.Places.{PlacesDiffer}
use Rattle.queue_pairs.specs.declared.causes.TakeCause.{TakeCause}
use Rattle.queue_pairs.specs.declared.command.Outstanding.{Outstanding}
use Rattle.trail_model.specs.Lawful.{IsLawful, IsParty, Trail, world_of}
use Rattle.trail_model.specs.declared.events.Event.{Event}
use Rattle.trail_model.specs.declared.events.Event.TheVariants as event
use Rattle.trail_model.proofs.Counts.{bounded}
use Rattle.core_model.specs.Causes.{submit_cause, take_answer}
use Rattle.core_model.specs.Moves.{RestMoves, SubmitMoves, TakeMoves}
use Rattle.core_model.specs.Parts.{Parts}
use Rattle.core_model.specs.Ties.{StandFor}
use Rattle.core_model.proofs.Allowing.{submit-allowed, submit-cause, take-allowed, take-answer}
use Rattle.core_model.proofs.Numbers.{all-submits, ordinals-below}
use Rattle.core_model.proofs.Queueing.{places-differ}
use Rattle.core_model.proofs.Quiet.{rest-stands, submit-stands, take-stands}
use Rattle.device_core.specs.Keep.{Holds, KeepsRoom, next_of, pair_of, parts_of, queue_of}
use Rattle.device_core.specs.Recorded.{told_event, trail_of}
use Rattle.device_core.specs.declared.events.Event.{Event as KeptEvent}
use Rattle.device_core.specs.declared.keep.Keep.{Keep}

-- the trail with one more event
pub one-more : (events : List KeptEvent) (e : KeptEvent) → trail_of (events ++ e ∷ []) ≡ trail_of events ++ told_event e ∷ []
one-more events e = map-append told_event events (e ∷ [])

pub held-after : (c : Configuration) (commands : ℕ) (events : List KeptEvent) (e : KeptEvent) (spots : ℕ) (old new : Keep) → Holds c commands events spots old
    → StandFor c commands (parts_of (length events + 1) new) (trail_of events ++ told_event e ∷ []) → KeepsRoom old new
    → Holds c commands (events ++ e ∷ []) spots new
held-after c commands events e spots old new held stands keeps = record {
  few = held.few;
  stands = (
      let longer : length events + 1 ≡ length (events ++ e ∷ []) = omega (arith, length-append events (e ∷ [])) in
      subst (λ (n : ℕ). StandFor c commands (parts_of n new) (trail_of (events ++ e ∷ []))) longer
      (subst (λ (t : Trail). StandFor c commands (parts_of (length events + 1) new) t) (sym (one-more events e)) stands)
      );
  room = keeps c.depth commands held.room;
  places = held.places;
}

-- the same of what the list of events is then
pub held-now : (c : Configuration) (commands : ℕ) (events : List KeptEvent) (e : KeptEvent) (spots : ℕ) (old new : Keep) (now : List KeptEvent) (room : ℕ)
    → Holds c commands events spots old → StandFor c commands (parts_of (length events + 1) new) (trail_of events ++ told_event e ∷ []) → KeepsRoom old new
    → now ≡ events ++ e ∷ [] → room ≡ spots → Holds c commands now room new
held-now c commands events e spots old new now room held stands keeps longer same =
    subst (λ (es : List KeptEvent). Holds c commands es room new) (sym longer)
    (subst (λ (n : ℕ). Holds c commands (events ++ e ∷ []) n new) (sym same) (held-after c commands events e spots old new held stands keeps))

pub lawful-now : (c : Configuration) (commands : ℕ) (events : List KeptEvent) (e : KeptEvent) (new : Keep) (now : List KeptEvent)
    → StandFor c commands (parts_of (length events + 1) new) (trail_of events ++ told_event e ∷ []) → now ≡ events ++ e ∷ [] → IsLawful c commands (trail_of now)
lawful-now c commands events e new now stands longer =
    subst (λ (es : List KeptEvent). IsLawful c commands (trail_of es)) (sym longer)
    (subst (λ (t : Trail). IsLawful c commands t) (sym (one-more events e)) stands.lawful)

-- what is kept is the same
pub held-same : (c : Configuration) (commands : ℕ) (events : List KeptEvent) (spots : ℕ) (old new : Keep) → Holds c commands events spots old
    → ((count : ℕ) → parts_of count new ≡ parts_of count old) → KeepsRoom old new → Holds c commands events spots new
held-same c commands events spots old new held same keeps = record {
  few = held.few;
  stands = subst (λ (p : Parts). StandFor c commands p (trail_of events)) (sym (same (length events))) held.stands;
  room = keeps c.depth commands held.room;
  places = held.places;
}

-- there is room for one more event
pub spot-left : (c : Configuration) (commands : ℕ) (events : List KeptEvent) (e : Event) (spots : ℕ) (old : Keep) → Holds c commands events spots old
    → IsLawful c commands (trail_of events ++ e ∷ []) → length events < spots
spot-left c commands events e spots old held lawful =
    let most = bounded c commands (trail_of events ++ e ∷ []) lawful in
    let both = length-append (trail_of events) (e ∷ []) in
    let same = length-map events told_event in
    let room = held.places in
    omega arith

-- a place in the trail is a number of 32 bits
pub few-events : (c : Configuration) (commands : ℕ) (events : List KeptEvent) (spots : ℕ) (k : Keep) → Holds c commands events spots k
    → length events ≤ 5 * MAX_COMMANDS + 1
few-events c commands events spots k held =
    let most = bounded c commands (trail_of events) held.stands.lawful in
    let same = length-map events told_event in
    let few = held.few in
    omega arith

-- ---- a rest

pub rested : (c : Configuration) (commands : ℕ) (events : List KeptEvent) (spots by : ℕ) (old new : Keep) → Holds c commands events spots old
    → IsParty by → old.at_rest ≡ false → ((count : ℕ) → RestMoves (parts_of count old) (parts_of (count + 1) new))
    → StandFor c commands (parts_of (length events + 1) new) (trail_of events ++ event.Rest by ∷ [])
rested c commands events spots by old new held party quiet moves =
    rest-stands c commands (parts_of (length events) old) (parts_of (length events + 1) new) (trail_of events) by
    held.stands (party, sym held.stands.ties.at_rest ∙ quiet) (moves (length events))

-- ---- a submit

-- there is room for one more command that waits, and its ordinal is a number of 32 bits
pub waiting-left : (c : Configuration) (commands : ℕ) (events : List KeptEvent) (spots : ℕ) (k : Keep) → Holds c commands events spots k
    → k.submitted < commands → length k.waiting.items < vec_capacity k.waiting
waiting-left c commands events spots k held left =
    let most = (all-submits c commands (parts_of (length events) k) (trail_of events) held.stands).0 in
    let room = held.room.waiting in
    omega arith

pub next-few : (c : Configuration) (commands : ℕ) (events : List KeptEvent) (spots by : ℕ) (k : Keep) → Holds c commands events spots k
    → k.submitted < commands → next_of k.ordinals.items by ≤ MAX_COMMANDS
next-few c commands events spots by k held left =
    let most = ordinals-below c commands (parts_of (length events) k) (trail_of events) by held.stands in
    let few = held.few in
    omega arith

-- why a host may not submit, by what is kept
pub spent : (c : Configuration) (commands : ℕ) (events : List KeptEvent) (spots by cid : ℕ) (k : Keep) → Holds c commands events spots k
    → commands ≤ k.submitted → submit_cause c commands (world_of c (trail_of events)) by cid ≡ Some send.Spent
spent c commands events spots by cid k held full =
    sym (submit-cause c commands (parts_of (length events) k) (world_of c (trail_of events)) by cid held.stands.ties)
    ∙ (rw (le-leb commands k.submitted full) refl)

pub cause-kept : (c : Configuration) (commands : ℕ) (events : List KeptEvent) (spots by cid : ℕ) (k : Keep) (cause : Option SendCause) → Holds c commands events spots k
    → k.submitted < commands → send_cause (pair_of c.depth (queue_of k.queues.items by)) cid ≡ cause
    → submit_cause c commands (world_of c (trail_of events)) by cid ≡ cause
cause-kept c commands events spots by cid k cause held left sent =
    sym (submit-cause c commands (parts_of (length events) k) (world_of c (trail_of events)) by cid held.stands.ties)
    ∙ (rw (lt-leb commands k.submitted left) sent)

pub submitted : (c : Configuration) (commands : ℕ) (events : List KeptEvent) (spots by cid sent ordinal : ℕ) (cmd read : Command) (old new : Keep) → Holds c commands events spots old
    → (1 ≤ by) × (by ≤ MAX_HOSTS) → old.submitted < commands → send_cause (pair_of c.depth (queue_of old.queues.items by)) cid ≡ None
    → sent ≡ length events → read ≡ cmd → ordinal ≡ next_of old.ordinals.items by → SubmitMoves (parts_of sent old) (parts_of (sent + 1) new) by cid read
    → StandFor c commands (parts_of (length events + 1) new) (trail_of events ++ event.Submit by cid ordinal cmd ∷ [])
submitted c commands events spots by cid sent ordinal cmd read old new held host left none here same number moves =
    let p = parts_of (length events) old in
    subst (λ (k : ℕ). StandFor c commands (parts_of (length events + 1) new) (trail_of events ++ event.Submit by cid k cmd ∷ [])) (sym number) (submit-stands c commands p (parts_of (length events + 1) new) (trail_of events) by cid (next_of old.ordinals.items by) cmd held.stands
    (submit-allowed c commands p (trail_of events) by cid cmd held.stands host.0 host.1 (rw (lt-leb commands old.submitted left) none))
    (subst (λ (n : ℕ). SubmitMoves (parts_of n old) (parts_of (n + 1) new) by cid cmd) here
    (subst (λ (asked : Command). SubmitMoves (parts_of sent old) (parts_of (sent + 1) new) by cid asked) same moves)))

-- ---- a take

-- where the reply to a command is posted, the command is outstanding
record Found (o : Option Outstanding) : Type 0 where
  pub command : Outstanding
  pub found : o ≡ Some command

posted-found : (o : Option Outstanding) (posted : ℕ) → taken o ≡ Ok posted → Found o
posted-found None posted h = absurd (ok-err posted h)
  where
    ok-err : (posted : ℕ) → taken None ≡ Ok posted → ⊥
    ok-err posted h = cc
posted-found (Some x) posted h = record { command = x; found = refl }

pub taken-kept : (c : Configuration) (commands : ℕ) (events : List KeptEvent) (spots by cid : ℕ) (old new : Keep) (posted : ℕ) → Holds c commands events spots old
    → taken (under (queue_of old.queues.items by) cid) ≡ Ok posted
    → ((count : ℕ) (x : Outstanding) → under (queue_of old.queues.items by) cid ≡ Some x → PlacesDiffer (queue_of old.queues.items by)
    → TakeMoves (parts_of count old) (parts_of (count + 1) new) by x.sent)
    → StandFor c commands (parts_of (length events + 1) new) (trail_of events ++ event.Take by cid posted ∷ [])
taken-kept c commands events spots by cid old new posted held answer moves =
    let p = parts_of (length events) old in
    let there = posted-found (under (queue_of old.queues.items by) cid) posted answer in
    take-stands c commands p (parts_of (length events + 1) new) (trail_of events) by cid posted there.command held.stands
    (take-allowed c commands p (trail_of events) by cid posted held.stands answer) there.found
    (moves (length events) there.command there.found (places-differ c commands p (trail_of events) by held.stands))

-- the answer to a take, by what is kept
pub answer-kept : (c : Configuration) (commands : ℕ) (events : List KeptEvent) (spots by cid : ℕ) (k : Keep) (answer : Result ℕ TakeCause) → Holds c commands events spots k
    → answer ≡ taken (under (queue_of k.queues.items by) cid) → answer ≡ take_answer (world_of c (trail_of events)) by cid
answer-kept c commands events spots by cid k answer held told =
    told ∙ take-answer c (parts_of (length events) k) (world_of c (trail_of events)) by cid held.stands.ties
