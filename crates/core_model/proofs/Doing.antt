-- A command done at once: its reply is posted, and directly behind it that of what it withdraws.
use Rattle.std.proofs.Common.{◌≡◌, ℕ, ◌+◌, ◌<◌, Bool, true, false, not, ◌||◌, List, [], ◌∷◌, ◌++◌, append_assoc, length, map, Option, Some, None, is_some, refl, sym, ap, subst, ◌∙◌, arith, if◌then◌else◌, slice_get}
use Rattle.std.proofs.lemmas.Bool.{true≢false}
use Rattle.cp_base.specs.Answer.{Answer}
use Rattle.cp_base.specs.Configuration.{Configuration}
use Rattle.cp_base.specs.Contents.{Contents, bytes_of}
use Rattle.device_model.specs.Checks.{refusal_of}
use Rattle.device_model.specs.Memory.{moves_bytes}
use Rattle.device_model.specs.State.{State}
use Rattle.queue_pairs.specs.declared.command.Stage.TheVariants as queue
use Rattle.trail_model.specs.Each.{EachTwo}
use Rattle.trail_model.specs.Lawful.{IsAllowedIn, MayAnswer, MayDo, Trail, world_of}
use Rattle.trail_model.specs.Linked.{IsLinked, NamesEarlier, requests_of}
use Rattle.trail_model.specs.World.{Completion, OpenClaim, Posted, Request, Submission, World, completions_by, is_no_memory, is_out, is_queued, ordinal_after, staged, staged_if, state_after, submit_at, with_done}
use Rattle.trail_model.specs.declared.events.Event.TheVariants as event
use Rattle.trail_model.proofs.Linked.{each-request}
use Rattle.trail_model.proofs.Moving.{linked-world, withdrawn-queued}
use Rattle.trail_model.proofs.Sound.{some-and}
use Rattle.trail_model.proofs.Submits.{found-each, staged-other, staged-requests, submit-place}
use Rattle.core_model.specs.Asked.{Asked, asked_at, asked_by_request}
use Rattle.core_model.specs.Moves.{PostMoves, WithdrawMoves, without_waiting}
use Rattle.core_model.specs.Parts.{EntryPlaces, Parts, WaitingSubmit, tables_in, tables_of}
use Rattle.core_model.specs.Ties.{AreTied, StandFor, as_kept, as_places, entry_if, entry_of, is_lent, queue_among, waiting_among}
use Rattle.core_model.proofs.Claiming.{queued-there, queues-moved}
use Rattle.core_model.proofs.Reading.{asked-same}
use Rattle.core_model.proofs.Steps.{same-length, same-ordinal, stand-after, waiting-less}
use Rattle.core_model.proofs.Tabling.{AfterSame, after-same}

-- a world in which the reply to one more queued command is posted, and no byte and no claim has changed
pub record PostedIn (old new : World) (place posted : ℕ) (tables : State) : Type 0 where
  pub submits : new.submits ≡ staged place (Posted posted) old.submits
  pub claims : new.claims ≡ old.claims
  pub at_rest : new.at_rest ≡ old.at_rest
  pub count : new.count ≡ posted + 1
  pub contents : new.state.contents ≡ old.state.contents
  pub slots : tables.slots ≡ new.state.slots
  pub sets : tables.sets ≡ new.state.sets

post-tied : (c : Configuration) (old new : Parts) (w v : World) (s : Submission) (posted : ℕ) (tables : State) → AreTied c old w
    → EachTwo (λ (a b : Request). a.place < b.place) (requests_of w.submits) → submit_at w.submits s.request.place ≡ Some s → is_queued s.stage ≡ true
    → PostMoves old new s.request.host s.request.place posted tables → PostedIn w v s.request.place posted tables → AreTied c new v
post-tied c old new w v s posted tables t order found queued moves into =
    let xs : List Submission = staged s.request.place (Posted posted) w.submits in
    let same : requests_of xs ≡ requests_of w.submits = staged-requests s.request.place (Posted posted) w.submits in
    record {
      count = moves.count ∙ sym into.count;
      submitted = moves.still.submitted ∙ (t.submitted ∙ (sym (same-length w.submits xs same) ∙ sym (ap (λ (ys : List Submission). length ys) into.submits)));
      at_rest = moves.still.at_rest ∙ (t.at_rest ∙ sym into.at_rest);
      waiting = moves.waiting ∙ (ap (λ (ws : List WaitingSubmit). without_waiting ws s.request.place) t.waiting
          ∙ (sym (waiting-less w.submits s (Posted posted) order found refl) ∙ sym (ap waiting_among into.submits)));
      queues = λ host. queues-moved c old new w s (Posted posted) (queue.Posted posted) t order found (queued-there s.stage queued) refl refl moves.queues host
          ∙ sym (ap (λ (ys : List Submission). queue_among ys host) into.submits);
      ordinals = λ host. moves.still.ordinals host
          ∙ (t.ordinals host ∙ (sym (same-ordinal w.submits xs host same) ∙ sym (ap (λ (ys : List Submission). ordinal_after ys host) into.submits)));
      kept = moves.kept ∙ (t.kept ∙ sym (ap (λ (cs : List OpenClaim). map (as_kept c) cs) into.claims));
      claims = moves.claims ∙ (t.claims ∙ sym (ap (λ (cs : List OpenClaim). map as_places cs) into.claims));
      store = λ space offset. moves.store space offset
          ∙ (t.store space offset
          ∙ (sym (ap (λ (cs : List OpenClaim). if is_out c cs space offset then None else slice_get (bytes_of w.state.contents space) offset) into.claims)
          ∙ sym (ap (λ (bytes : Contents). if is_out c v.claims space offset then None else slice_get (bytes_of bytes space) offset) into.contents)));
      out = λ region some. moves.out region some ∙ (t.out region some ∙ sym (ap (λ (cs : List OpenClaim). is_lent c cs region) into.claims));
      slots = moves.slots ∙ into.slots;
      sets = moves.sets ∙ into.sets;
    }

-- what the tables of the parts are after the command is what they are in the state
after-tables : (c : Configuration) (old : Parts) (w : World) (s : Submission) (answer : Answer) → AreTied c old w → AfterSame c w.state s.request.command answer
    → ((state_after c (tables_in old) s.request.command answer).slots ≡ (state_after c w.state s.request.command answer).slots)
    × ((state_after c (tables_in old) s.request.command answer).sets ≡ (state_after c w.state s.request.command answer).sets)
after-tables c old w s answer t same =
    let tables : tables_in old ≡ tables_of w.state.slots w.state.sets = (λ i. tables_of (t.slots i) (t.sets i)) in (
      ap (λ (x : State). (state_after c x s.request.command answer).slots) tables ∙ sym same.tables.slots,
      ap (λ (x : State). (state_after c x s.request.command answer).sets) tables ∙ sym same.tables.sets,
    )

told-at-once : (c : Configuration) (w : World) (s : Submission) (aborts : Option ℕ) (answer : Answer) (b : Bool) → MayAnswer b c w s.request.command aborts answer
    → b ≡ false → (not (moves_bytes s.request.command) || is_some (refusal_of c w.state s.request.command)) ≡ true
told-at-once c w s aborts answer true told e = absurd (true≢false e)
told-at-once c w s aborts answer false told e = told.1

module _ (c : Configuration) (commands : ℕ) (old mid new : Parts) (trail : Trail) (by host ordinal : ℕ) (answer : Answer) (aborts : Option ℕ) (s : Submission)
    (stand : StandFor c commands old trail) (here : submit_at (world_of c trail).submits s.request.place ≡ Some s)
    (may : MayDo c (world_of c trail) by host ordinal answer aborts s)
    (first : PostMoves old mid s.request.host s.request.place old.count (state_after c (tables_in old) s.request.command answer)) where
  linked : IsLinked (world_of c trail)
  linked = linked-world c commands trail stand.lawful

  -- the world after the command by itself
  abbrev alone : World
  alone = record (world_of c trail) {
    state = state_after c (world_of c trail).state s.request.command answer;
    submits = staged s.request.place (Posted (world_of c trail).count) (world_of c trail).submits;
    count = (world_of c trail).count + 1;
  }

  alone-tied : AreTied c mid alone
  alone-tied =
      let w : World = world_of c trail in
      let t = stand.ties in
      let after = after-same c w.state s.request.command answer (told-at-once c w s aborts answer (is_no_memory answer.status) may.told) in
      let tables = after-tables c old w s answer t after in
      let posts : PostMoves old mid s.request.host s.request.place w.count (state_after c (tables_in old) s.request.command answer) =
      subst (λ (n : ℕ). PostMoves old mid s.request.host s.request.place n (state_after c (tables_in old) s.request.command answer)) t.count first in
      post-tied c old mid w alone s w.count (state_after c (tables_in old) s.request.command answer) t linked.places.ascending here may.turn.queued posts
      (record { submits = refl; claims = refl; at_rest = refl; count = refl; contents = after.contents; slots = tables.0; sets = tables.1 })

  pub done-tied : WithdrawMoves trail mid new old.count aborts
      → AreTied c new (let v : World = record alone { submits = staged_if aborts (Posted (world_of c trail).count) alone.submits } in v)
      × (new.entries ≡ old.entries ++ (entry_of (world_of c trail).count s.request.place ∷ entry_if (world_of c trail).count aborts))
  done-tied second = by_aborts aborts refl second
    where
      w : World
      w = world_of c trail

      entries_one : mid.entries ≡ old.entries ++ entry_of (world_of c trail).count s.request.place ∷ []
      entries_one = first.entries ∙ ap (λ (n : ℕ). old.entries ++ entry_of n s.request.place ∷ []) stand.ties.count

      by_aborts : (o : Option ℕ) → aborts ≡ o → WithdrawMoves trail mid new old.count o
          → AreTied c new (let v : World = record alone { submits = staged_if o (Posted (world_of c trail).count) alone.submits } in v)
          × (new.entries ≡ old.entries ++ (entry_of (world_of c trail).count s.request.place ∷ entry_if (world_of c trail).count o))
      by_aborts None e same = (
        subst (λ (p : Parts). AreTied c p alone) (sym same) alone-tied,
        ap (λ (p : Parts). p.entries) same ∙ entries_one,
      )
      by_aborts (Some sent) e withdraws =
          let w : World = world_of c trail in
          let other = withdrawn-queued w.submits s.request sent (sym may.withdraws ∙ e) in
          let x : Submission = other.0 in
          let earlier : sent < s.request.place =
          found-each (λ (y : Submission). NamesEarlier y.request) _ w.submits s (each-request NamesEarlier w.submits linked.names) here sent other.3 in
          let place : x.request.place ≡ sent = submit-place w.submits sent x other.1 in
          let there : submit_at alone.submits x.request.place ≡ Some x =
          ap (λ (p : ℕ). submit_at alone.submits p) place
          ∙ (staged-other s.request.place (Posted w.count) w.submits sent (λ same. omega arith) ∙ other.1) in
          let read = some-and (λ (asked : Asked). PostMoves mid new asked.host sent old.count (tables_in mid)) (asked_at trail sent) withdraws in
          let same : asked_by_request x.request ≡ read.0 = asked-same c commands trail sent x read.0 stand.lawful other.1 read.1 in
          let posts : PostMoves mid new x.request.host x.request.place w.count (tables_in mid) =
          subst (λ (n : ℕ). PostMoves mid new x.request.host x.request.place n (tables_in mid)) stand.ties.count
          (subst (λ (p : ℕ). PostMoves mid new x.request.host p old.count (tables_in mid)) (sym place)
          (subst (λ (a : Asked). PostMoves mid new a.host sent old.count (tables_in mid)) (sym same) read.2)) in
          let order : EachTwo (λ (a b : Request). a.place < b.place) (requests_of alone.submits) =
          subst (λ (rs : List Request). EachTwo (λ (a b : Request). a.place < b.place) rs) (sym (staged-requests s.request.place (Posted w.count) w.submits)) linked.places.ascending in
          let v : World = record alone { submits = staged sent (Posted w.count) alone.submits } in (
            post-tied c mid new alone v x w.count (tables_in mid) alone-tied order there other.2 posts (record {
              submits = ap (λ (p : ℕ). staged p (Posted w.count) alone.submits) (sym place);
              claims = refl;
              at_rest = refl;
              count = refl;
              contents = refl;
              slots = alone-tied.slots;
              sets = alone-tied.sets;
            }),
            posts.entries
                ∙ (ap (λ (p : ℕ). mid.entries ++ entry_of w.count p ∷ []) place
                ∙ (ap (λ (es : List EntryPlaces). es ++ entry_of w.count sent ∷ []) entries_one
                ∙ append_assoc old.entries (entry_of w.count s.request.place ∷ []) (entry_of w.count sent ∷ []))),
          )

-- ties do not see the history
history-free : (c : Configuration) (p : Parts) (w : World) (history : List Completion) → AreTied c p w → AreTied c p (let v : World = record w { history = history } in v)
history-free c p w history t = record {
  count = t.count;
  submitted = t.submitted;
  at_rest = t.at_rest;
  waiting = t.waiting;
  queues = t.queues;
  ordinals = t.ordinals;
  kept = t.kept;
  claims = t.claims;
  store = t.store;
  out = t.out;
  slots = t.slots;
  sets = t.sets;
}

pub do-stands : (c : Configuration) (commands : ℕ) (old mid new : Parts) (trail : Trail) (by host ordinal sent : ℕ) (answer : Answer) (aborts : Option ℕ) (asked : Asked)
    → StandFor c commands old trail → IsAllowedIn c commands (world_of c trail) (event.Do by host ordinal sent answer aborts) → asked_at trail sent ≡ Some asked
    → PostMoves old mid asked.host sent old.count (state_after c (tables_in old) asked.command answer) → WithdrawMoves trail mid new old.count aborts
    → StandFor c commands new (trail ++ event.Do by host ordinal sent answer aborts ∷ [])
do-stands c commands old mid new trail by host ordinal sent answer aborts asked stand allowed read first second =
    let w : World = world_of c trail in
    let found = some-and (λ (s : Submission). MayDo c w by host ordinal answer aborts s) (submit_at w.submits sent) allowed in
    let s : Submission = found.0 in
    let place : s.request.place ≡ sent = submit-place w.submits sent s found.1 in
    let here : submit_at w.submits s.request.place ≡ Some s = subst (λ (p : ℕ). submit_at w.submits p ≡ Some s) (sym place) found.1 in
    let same : asked_by_request s.request ≡ asked = asked-same c commands trail sent s asked stand.lawful found.1 read in
    let moved : PostMoves old mid s.request.host s.request.place old.count (state_after c (tables_in old) s.request.command answer) =
    subst (λ (a : Asked). PostMoves old mid a.host s.request.place old.count (state_after c (tables_in old) a.command answer)) (sym same)
    (subst (λ (p : ℕ). PostMoves old mid asked.host p old.count (state_after c (tables_in old) asked.command answer)) (sym place) first) in
    let tied = done-tied c commands old mid new trail by host ordinal answer aborts s stand here found.2 moved second in
    stand-after c commands old new trail (event.Do by host ordinal sent answer aborts) stand allowed
    (subst (λ (o : Option Submission). AreTied c new (let v : World = record (with_done c w answer aborts o) {
      history = w.history ++ completions_by w (event.Do by host ordinal sent answer aborts);
      count = w.count + 1;
    } in v)) (sym found.1)
    (history-free c new (let v : World = record w { state = state_after c w.state s.request.command answer; submits = staged_if aborts (Posted w.count) (staged s.request.place (Posted w.count) w.submits); count = w.count + 1 } in v) (w.history ++ completions_by w (event.Do by host ordinal sent answer aborts)) tied.0))
    (tied.1 ∙ ap (λ (p : ℕ). old.entries ++ (entry_of w.count p ∷ entry_if w.count aborts)) place)
