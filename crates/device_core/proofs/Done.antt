-- A command that is done at once: what its posting needs, and how the parts move.
use Rattle.std.proofs.Common.{◌≡◌, ℕ, zero, suc, ◌+◌, ◌<◌, ◌≤◌, ◌==◌, Bool, true, false, if◌then◌else◌, List, [], ◌∷◌, ◌++◌, length, length-append, Option, Some, None, IsSome, IsSomeAnd, IfSome, slice_get, refl, sym, ap, subst, ◌∙◌, arith}
use Rattle.std.specs.List.{AllByRecursion}
use Rattle.std.specs.Vec.{vec_capacity, vec_len}
use Rattle.std.proofs.lemmas.Bool.{true≢false}
use Rattle.std.proofs.lemmas.Option.{same_Some, slice_get_within}
use Rattle.cp_base.specs.Answer.{Answer}
use Rattle.cp_base.specs.Configuration.{Configuration}
use Rattle.cp_base.specs.Sets.{RangeSet}
use Rattle.cp_base.specs.declared.commands.Command.{Command}
use Rattle.queue_pairs.specs.Outstanding.{CidsDiffer, QueuePair, under}
use Rattle.queue_pairs.specs.Places.{PlacesDiffer, restaged}
use Rattle.queue_pairs.specs.declared.command.Outstanding.{Outstanding}
use Rattle.queue_pairs.specs.declared.command.Stage.TheVariants.{Posted, Queued}
use Rattle.device_model.specs.State.{Slot, State}
use Rattle.device_model.specs.Step.{outcome_of}
use Rattle.trail_model.specs.Lawful.{IsAllowedIn, IsParty, Trail, is_idle, world_of}
use Rattle.trail_model.specs.World.{is_no_memory, state_after}
use Rattle.trail_model.specs.declared.events.Event.TheVariants as event
use Rattle.core_model.specs.Asked.{Asked, asked_at}
use Rattle.core_model.specs.Causes.{MayTell}
use Rattle.core_model.specs.Moves.{PostMoves, WithdrawMoves}
use Rattle.core_model.specs.Parts.{Parts, tables_in, tables_of}
use Rattle.core_model.specs.declared.places.EntryPlaces.{EntryPlaces}
use Rattle.core_model.specs.declared.places.WaitingSubmit.{WaitingSubmit}
use Rattle.core_model.specs.Picking.{may_pick, withdrawn_waiting}
use Rattle.core_model.specs.Ties.{StandFor}
use Rattle.core_model.proofs.Allowing.{do-allowed, waits-asked}
use Rattle.core_model.proofs.Doing.{do-stands}
use Rattle.core_model.proofs.Numbers.{all-submits, asked-host}
use Rattle.core_model.proofs.Queueing.{places-differ, post-under, restaged-differ, waiting-under, withdrawn-named}
use Rattle.trail_model.proofs.Submits.{none-some}
use Rattle.device_core.specs.AtOnce.{IsDoneAtOnce}
use Rattle.device_core.specs.Keep.{CanPost, HasRoom, Holds, IsQueue, commands_in, parts_of, queue_of}
use Rattle.device_core.specs.Recorded.{trail_of}
use Rattle.device_core.specs.declared.events.Event.{Event as KeptEvent}
use Rattle.device_core.specs.declared.keep.Keep.{Keep}

-- ---- what is posted

cids-at : (depth : ℕ) (queues : List QueuePair) (i : ℕ) → AllByRecursion (IsQueue depth) queues → CidsDiffer (commands_in (slice_get queues i))
cids-at depth [] i all = tt
cids-at depth (q ∷ queues) zero all = all.0.cids
cids-at depth (q ∷ queues) (suc i) all = cids-at depth queues i all.1

cids-in : (depth : ℕ) (queues : List QueuePair) (host : ℕ) → AllByRecursion (IsQueue depth) queues → CidsDiffer (queue_of queues host)
cids-in depth queues zero all = tt
cids-in depth queues (suc i) all = cids-at depth queues i all

-- a command that waits can be posted
pub first-post : (c : Configuration) (commands : ℕ) (events : List KeptEvent) (spots i : ℕ) (x : WaitingSubmit) (asked : Asked) (k : Keep) → Holds c commands events spots k
    → slice_get k.waiting.items i ≡ Some x → asked_at (trail_of events) x.sent ≡ Some asked → CanPost k asked x.sent
first-post c commands events spots i x asked k held found read =
    let p = parts_of (length events) k in
    let t = trail_of events in
    let host = asked-host c commands t x.sent asked held.stands.lawful read in
    let hosts = held.room.queues.hosts in
    let most = all-submits c commands p t held.stands in
    let inside = slice_get_within k.waiting.items i x found in
    let room = held.room.entries in
    record {
      host = (host.0, omega arith);
      waits = waiting-under c commands p t i x asked held.stands found read (cids-in c.depth k.queues.items asked.host held.room.queues.each);
      apart = places-differ c commands p t asked.host held.stands;
      room = omega arith;
    }

-- ---- what it is told

pub may-tell : (b : Bool) (c : Configuration) (p : Parts) (cmd : Command) (aborts : Option ℕ) (answer : Answer) (next : State)
    → IsDoneAtOnce b c (tables_in p) cmd aborts answer next → MayTell b c p cmd aborts answer
may-tell true c p cmd aborts answer next h = (h.0, h.1)
may-tell false c p cmd aborts answer next h = (h.0, h.1)

told-state : (b : Bool) (c : Configuration) (s : State) (cmd : Command) (aborts : Option ℕ) (answer : Answer) (next : State)
    → IsDoneAtOnce b c s cmd aborts answer next → (if b then s else (outcome_of c s cmd).next) ≡ next
told-state true c s cmd aborts answer next h = sym h.2
told-state false c s cmd aborts answer next h = sym h.2

-- ---- how the parts move

-- the parts with other tables
abbrev pub with_tables : Parts → List Slot → List RangeSet → Parts
with_tables p slots sets = record p { slots = slots; sets = sets }

retabled : (old new : Parts) (slots : List Slot) (sets : List RangeSet) (host sent posted : ℕ) (tables : State) → tables ≡ tables_of slots sets
    → PostMoves (with_tables old slots sets) new host sent posted (tables_of slots sets) → PostMoves old new host sent posted tables
retabled old new slots sets host sent posted tables same moves =
    let own : PostMoves old new host sent posted (tables_of slots sets) = record {
      count = moves.count;
      still = record { submitted = moves.still.submitted; ordinals = moves.still.ordinals; at_rest = moves.still.at_rest };
      waiting = moves.waiting;
      queues = moves.queues;
      kept = moves.kept;
      claims = moves.claims;
      store = moves.store;
      out = moves.out;
      slots = moves.slots;
      sets = moves.sets;
      entries = moves.entries;
    } in
    subst (λ (t : State). PostMoves old new host sent posted t) (sym same) own

-- with other tables there is the same room
pub other-tables-room : (depth commands : ℕ) (k : Keep) (slots : List Slot) (sets : List RangeSet) → HasRoom depth commands k
    → HasRoom depth commands (let other : Keep = record k { slots = slots; sets = sets } in other)
other-tables-room depth commands k slots sets room = record {
  waiting = room.waiting;
  entries = room.entries;
  kept = room.kept;
  claims = room.claims;
  queues = room.queues;
  ordinals = room.ordinals;
}

-- a command that is done stands in the trail
pub did-stand : (c : Configuration) (commands : ℕ) (events : List KeptEvent) (spots by i posted : ℕ) (x : WaitingSubmit) (asked : Asked) (old mid new : Keep)
    (slots : List Slot) (sets : List RangeSet) (aborts : Option ℕ) (answer : Answer) → Holds c commands events spots old
    → IsParty by → is_idle (world_of c (trail_of events)) by ≡ true → slice_get old.waiting.items i ≡ Some x → asked_at (trail_of events) x.sent ≡ Some asked
    → may_pick c (parts_of (length events) old) asked.command ≡ true → posted ≡ length events → aborts ≡ withdrawn_waiting old.waiting.items x.names
    → IsDoneAtOnce (is_no_memory answer.status) c (tables_of old.slots old.sets) asked.command aborts answer (tables_of slots sets)
    → PostMoves (with_tables (parts_of (length events) old) slots sets) (parts_of (posted + 1) mid) asked.host x.sent posted (tables_of slots sets)
    → WithdrawMoves (trail_of events) (parts_of (posted + 1) mid) (parts_of (posted + 1) new) posted aborts
    → StandFor c commands (parts_of (length events + 1) new) (trail_of events ++ event.Do by asked.host asked.ordinal x.sent answer aborts ∷ [])
did-stand c commands events spots by i posted x asked old mid new slots sets aborts answer held party idle found read may here names told first second =
    let n = length events in
    let p = parts_of n old in
    let t = trail_of events in
    let after = tables_of slots sets in
    let full = is_no_memory answer.status in
    let first-here : PostMoves (with_tables p slots sets) (parts_of (n + 1) mid) asked.host x.sent n after =
    subst (λ (k : ℕ). PostMoves (with_tables p slots sets) (parts_of (k + 1) mid) asked.host x.sent k (tables_of slots sets)) here first in
    let second-here : WithdrawMoves t (parts_of (n + 1) mid) (parts_of (n + 1) new) n aborts =
    subst (λ (k : ℕ). WithdrawMoves t (parts_of (k + 1) mid) (parts_of (k + 1) new) k aborts) here second in
    let state : state_after c (tables_in p) asked.command answer ≡ after = told-state full c (tables_in p) asked.command aborts answer after told in
    let moved : PostMoves p (parts_of (n + 1) mid) asked.host x.sent n (state_after c (tables_in p) asked.command answer) =
    retabled p (parts_of (n + 1) mid) slots sets asked.host x.sent n (state_after c (tables_in p) asked.command answer) state first-here in
    let tells : MayTell full c p asked.command (withdrawn_waiting old.waiting.items x.names) answer =
    subst (λ (a : Option ℕ). MayTell full c p asked.command a answer) names (may-tell full c p asked.command aborts answer after told) in
    let allowed : IsAllowedIn c commands (world_of c t) (event.Do by asked.host asked.ordinal x.sent answer aborts) =
    subst (λ (a : Option ℕ). IsAllowedIn c commands (world_of c t) (event.Do by asked.host asked.ordinal x.sent answer a)) (sym names)
    (do-allowed c commands p t by i x asked answer held.stands party idle found read may tells) in
    do-stands c commands p (parts_of (n + 1) mid) (parts_of (n + 1) new) t by asked.host asked.ordinal x.sent answer aborts asked held.stands allowed read moved second-here

-- ---- what an Abort withdraws

-- two commands that wait, one of which was submitted before the other, are two
two-wait : (xs : List WaitingSubmit) (i j : ℕ) (x y : WaitingSubmit) → slice_get xs i ≡ Some x → slice_get xs j ≡ Some y → y.sent < x.sent → 2 ≤ length xs
two-wait [] i j x y e f earlier = absurd (none-some x e)
two-wait (z ∷ []) zero zero x y e f earlier =
    let sents : x.sent ≡ y.sent = ap (λ (w : WaitingSubmit). w.sent) (same_Some x y (sym e ∙ f)) in
    absurd (omega (arith, earlier, sents))
two-wait (z ∷ []) zero (suc j) x y e f earlier = absurd (none-some y f)
two-wait (z ∷ []) (suc i) j x y e f earlier = absurd (none-some x e)
two-wait (z ∷ w ∷ xs) i j x y e f earlier = omega arith

some-with : {A : Type 0} (P : A → Type 0) (o : Option A) → IsSome o → ((a : A) → o ≡ Some a → P a) → IsSomeAnd o P
some-with P None h f = absurd (true≢false (sym h))
some-with P (Some a) h f = f a refl

-- the command that an Abort withdraws can be posted once the Abort is
pub second-post : (c : Configuration) (commands : ℕ) (events : List KeptEvent) (spots i posted : ℕ) (x : WaitingSubmit) (asked : Asked) (old mid : Keep)
    (slots : List Slot) (sets : List RangeSet) (aborts : Option ℕ) → Holds c commands events spots old
    → slice_get old.waiting.items i ≡ Some x → aborts ≡ withdrawn_waiting old.waiting.items x.names
    → PostMoves (with_tables (parts_of (length events) old) slots sets) (parts_of (posted + 1) mid) asked.host x.sent posted (tables_of slots sets)
    → HasRoom c.depth commands mid → IfSome aborts (λ place. IsSomeAnd (asked_at (trail_of events) place) (λ (a : Asked). CanPost mid a place))
second-post c commands events spots i posted x asked old mid slots sets None held found names moves room = tt
second-post c commands events spots i posted x asked old mid slots sets (Some place) held found names moves room =
    some-with (λ (a : Asked). CanPost mid a place) (asked_at t place) (subst (λ (k : ℕ). IsSome (asked_at t k)) same (waits-asked c commands p t j y held.stands there)) can
  where
    p : Parts
    p = parts_of (length events) old

    t : Trail
    t = trail_of events

    named : (place < x.sent) × (k : ℕ) × (z : WaitingSubmit) × (slice_get old.waiting.items k ≡ Some z) × (z.sent ≡ place)
    named = withdrawn-named c commands p t i place x held.stands found (sym names)

    j : ℕ
    j = named.1

    y : WaitingSubmit
    y = named.2

    there : slice_get old.waiting.items j ≡ Some y
    there = named.3

    same : y.sent ≡ place
    same = named.4

    earlier : y.sent < x.sent
    earlier = (let before = named.0 in let at = named.4 in omega arith)

    moved : PostMoves p (parts_of (posted + 1) mid) asked.host x.sent posted (tables_of slots sets)
    moved = retabled p (parts_of (posted + 1) mid) slots sets asked.host x.sent posted (tables_of slots sets) refl moves

    spot : vec_len mid.entries < vec_capacity mid.entries
    spot =
        let e : EntryPlaces = record { sent = x.sent; posted = posted } in
        let longer : length mid.entries.items ≡ length old.entries.items + 1 =
        ap (λ (es : List EntryPlaces). length es) moved.entries ∙ length-append old.entries.items (e ∷ []) in
        let two = two-wait old.waiting.items i j x y found there earlier in
        let most = all-submits c commands p t held.stands in
        let left = room.entries in
        omega arith

    differ : (a : Asked) (b : Bool) → PlacesDiffer (if b then restaged (queue_of old.queues.items asked.host) x.sent (Posted posted) else queue_of old.queues.items a.host)
    differ a true = restaged-differ (queue_of old.queues.items asked.host) x.sent (Posted posted) (places-differ c commands p t asked.host held.stands)
    differ a false = places-differ c commands p t a.host held.stands

    can : (a : Asked) → asked_at t place ≡ Some a → CanPost mid a place
    can a got =
        let first : CanPost old a y.sent = first-post c commands events spots j y a old held there (subst (λ (k : ℕ). asked_at t k ≡ Some a) (sym same) got) in
        let o : Outstanding = record { cid = a.cid; sent = y.sent; stage = Queued } in
        let waits : under (queue_of mid.queues.items a.host) a.cid ≡ Some o =
        post-under p (parts_of (posted + 1) mid) asked.host x.sent posted (tables_of slots sets) a.host a.cid o moved first.waits (λ equal. let less = earlier in omega arith) in
        let host = asked-host c commands t place a held.stands.lawful got in
        let hosts = room.queues.hosts in
        record {
          host = (host.0, omega arith);
          waits = subst (λ (k : ℕ). under (queue_of mid.queues.items a.host) a.cid ≡ Some (let z : Outstanding = record { cid = a.cid; sent = k; stage = Queued } in z)) same waits;
          apart = subst PlacesDiffer (sym (moved.queues a.host)) (differ a (a.host == asked.host));
          room = spot;
        }
