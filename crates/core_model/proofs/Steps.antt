-- The parts of a device at one event more: what every event has in common.
use Rattle.std.proofs.Common.{◌≡◌, ℕ, suc, ◌+◌, ◌<◌, ◌==◌, Bool, true, false, not, cond, ◌&&◌, List, [], ◌∷◌, ◌++◌, append_assoc, append-nil, find, length, map, Option, Some, None, option_map, refl, sym, ap, subst, ◌∙◌, arith, if◌then◌else◌, IsSomeAnd}
use Rattle.std.proofs.lemmas.Bool.{true≢false}
use Rattle.cp_base.specs.Configuration.{Configuration}
use Rattle.cp_base.specs.declared.commands.Command.{Command}
use Rattle.cp_base.specs.declared.commands.Command.TheVariants as command
use Rattle.queue_pairs.specs.Places.{restaged, without_sent}
use Rattle.queue_pairs.specs.declared.command.Outstanding.{Outstanding as Waiting}
use Rattle.trail_model.specs.Each.{EachTwo}
use Rattle.trail_model.specs.Lawful.{IsAllowedIn, Trail, world_from, world_of}
use Rattle.trail_model.specs.Linked.{requests_of}
use Rattle.trail_model.specs.World.{Request, Stage, Submission, Taken, World, first_world, is_queued, is_taken_off, named_place, ordinal_after, outstanding_of, outstanding_under, staged, submit_at, world_after}
use Rattle.trail_model.specs.declared.events.Event.{Event}
use Rattle.trail_model.proofs.Counts.{lawful-append, world-append}
use Rattle.trail_model.proofs.Naming.{count-stays}
use Rattle.trail_model.proofs.Submits.{eqb-same, other-eqb, same-eqb}
use Rattle.core_model.specs.Moves.{names_in_queue, without_waiting}
use Rattle.core_model.specs.Parts.{EntryPlaces, Parts, WaitingSubmit}
use Rattle.core_model.specs.Ties.{AreTied, StandFor, as_outstanding, as_waiting, entries_by, entries_from, entries_of, queue_among, queue_stage, waiting_among}
use Rattle.core_model.proofs.Shown.{filter-both, filter-splits, map-splits, same-splits, shown, shown-append, shown-staged}

-- ---- one event more

entries-append : (c : Configuration) (w : World) (seen more : Trail) → entries_from c w (seen ++ more) ≡ entries_from c w seen ++ entries_from c (world_from c w seen) more
entries-append c w [] more = refl
entries-append c w (e ∷ seen) more =
    ap (λ (es : List EntryPlaces). entries_by w e ++ es) (entries-append c (world_after c w e) seen more)
    ∙ sym (append_assoc (entries_by w e) (entries_from c (world_after c w e) seen) (entries_from c (world_from c (world_after c w e) seen) more))

pub entries-after : (c : Configuration) (trail : Trail) (e : Event) → entries_of c (trail ++ e ∷ []) ≡ entries_of c trail ++ entries_by (world_of c trail) e
entries-after c trail e =
    entries-append c (first_world c) trail (e ∷ [])
    ∙ ap (λ (es : List EntryPlaces). entries_of c trail ++ es) (append-nil (entries_by (world_of c trail) e))

-- parts that are tied to the world after an allowed event, and have its entries, stand for the trail with the event
pub stand-after : (c : Configuration) (commands : ℕ) (old new : Parts) (trail : Trail) (e : Event) → StandFor c commands old trail → IsAllowedIn c commands (world_of c trail) e
    → AreTied c new (world_after c (world_of c trail) e) → new.entries ≡ old.entries ++ entries_by (world_of c trail) e → StandFor c commands new (trail ++ e ∷ [])
stand-after c commands old new trail e stand allowed ties entries = record {
  lawful = lawful-append c commands (first_world c) trail (e ∷ []) stand.lawful (allowed, tt);
  ties = subst (λ (w : World). AreTied c new w) (sym (world-append c (first_world c) trail (e ∷ []))) ties;
  entries = entries ∙ (ap (λ (es : List EntryPlaces). es ++ entries_by (world_of c trail) e) stand.entries ∙ sym (entries-after c trail e));
}

-- ---- queues

-- whether a submit is an outstanding one of a host
abbrev pub at_host : ℕ → Submission → Bool
at_host host s = (s.request.host == host) && not (is_taken_off s.stage)

pub queue-shown : (submits : List Submission) (host : ℕ) → queue_among submits host ≡ shown (at_host host) as_outstanding submits
queue-shown submits host = ap (λ (xs : List Submission). map as_outstanding xs)
    (filter-both (λ (s : Submission). not (is_taken_off s.stage)) (λ (s : Submission). s.request.host == host) submits)

pub queue-append : (xs ys : List Submission) (host : ℕ) → queue_among (xs ++ ys) host ≡ queue_among xs host ++ queue_among ys host
queue-append xs ys host =
    queue-shown (xs ++ ys) host
    ∙ (shown-append (at_host host) as_outstanding xs ys
    ∙ (ap (λ (zs : List Waiting). zs ++ shown (at_host host) as_outstanding ys) (sym (queue-shown xs host))
    ∙ ap (λ (zs : List Waiting). queue_among xs host ++ zs) (sym (queue-shown ys host))))

-- the commands with one that was submitted at this place at another stage, or gone
stays-put : (host place : ℕ) (y : Submission) → (y.request.place ≡ place → ⊥) → (stage : _)
    → shown (at_host host) as_outstanding (y ∷ []) ≡ restaged (shown (at_host host) as_outstanding (y ∷ [])) place stage
stays-put host place y other stage = by_test (at_host host y)
  where
    by_test : (b : Bool) → map as_outstanding (cond b (y ∷ []) []) ≡ restaged (map as_outstanding (cond b (y ∷ []) [])) place stage
    by_test false = refl
    by_test true = sym (ap (λ (b : Bool). (let w : Waiting = if b then record (as_outstanding y) { stage = stage } else as_outstanding y in w) ∷ []) (other-eqb y.request.place place other))

stays-there : (host place : ℕ) (y : Submission) → (y.request.place ≡ place → ⊥)
    → shown (at_host host) as_outstanding (y ∷ []) ≡ without_sent (shown (at_host host) as_outstanding (y ∷ [])) place
stays-there host place y other = by_test (at_host host y)
  where
    by_test : (b : Bool) → map as_outstanding (cond b (y ∷ []) []) ≡ without_sent (map as_outstanding (cond b (y ∷ []) [])) place
    by_test false = refl
    by_test true = sym (ap (λ (b : Bool). cond (not b) (as_outstanding y ∷ []) []) (other-eqb y.request.place place other))

module _ (submits : List Submission) (s : Submission) (stage : Stage) (order : EachTwo (λ (a b : Request). a.place < b.place) (requests_of submits))
    (found : submit_at submits s.request.place ≡ Some s) where
  -- another host's queue stays
  queue-stays : (host : ℕ) → (s.request.host == host) ≡ false → queue_among (staged s.request.place stage submits) host ≡ queue_among submits host
  queue-stays host other =
      let t : Submission = record s { stage = stage } in
      queue-shown (staged s.request.place stage submits) host
      ∙ (shown-staged (at_host host) as_outstanding (λ (xs : List Waiting). xs) same-splits s.request.place (λ y differs. refl) stage submits s order found
      (ap (λ (b : Bool). map as_outstanding (cond (b && not (is_taken_off stage)) (t ∷ []) [])) other
      ∙ sym (ap (λ (b : Bool). map as_outstanding (cond (b && not (is_taken_off s.stage)) (s ∷ []) [])) other))
      ∙ sym (queue-shown submits host))

  queue-restaged : is_taken_off s.stage ≡ false → is_taken_off stage ≡ false
      → queue_among (staged s.request.place stage submits) s.request.host ≡ restaged (queue_among submits s.request.host) s.request.place (queue_stage stage)
  queue-restaged before after =
      let host : ℕ = s.request.host in
      let t : Submission = record s { stage = stage } in
      let mine : (s.request.host == s.request.host) ≡ true = same-eqb s.request.host s.request.host refl in
      let here : (s.request.place == s.request.place) ≡ true = same-eqb s.request.place s.request.place refl in
      queue-shown (staged s.request.place stage submits) host
      ∙ (shown-staged (at_host host) as_outstanding (λ (xs : List Waiting). restaged xs s.request.place (queue_stage stage))
      (map-splits (λ (w : Waiting). if w.sent == s.request.place then record w { stage = queue_stage stage } else w))
      s.request.place (λ y differs. stays-put host s.request.place y differs (queue_stage stage)) stage submits s order found
      (ap (λ (b : Bool). map as_outstanding (cond (b && not (is_taken_off stage)) (t ∷ []) [])) mine
      ∙ (ap (λ (b : Bool). map as_outstanding (cond (not b) (t ∷ []) [])) after
      ∙ (sym (ap (λ (b : Bool). (let w : Waiting = if b then record (as_outstanding s) { stage = queue_stage stage } else as_outstanding s in w) ∷ []) here)
      ∙ (sym (ap (λ (b : Bool). restaged (map as_outstanding (cond (not b) (s ∷ []) [])) s.request.place (queue_stage stage)) before)
      ∙ sym (ap (λ (b : Bool). restaged (map as_outstanding (cond (b && not (is_taken_off s.stage)) (s ∷ []) [])) s.request.place (queue_stage stage)) mine)))))
      ∙ ap (λ (xs : List Waiting). restaged xs s.request.place (queue_stage stage)) (sym (queue-shown submits host)))

  -- one host's queue has its command at the new stage, all others stay
  pub queues-restaged : is_taken_off s.stage ≡ false → is_taken_off stage ≡ false → (host : ℕ)
      → queue_among (staged s.request.place stage submits) host
      ≡ (if host == s.request.host then restaged (queue_among submits s.request.host) s.request.place (queue_stage stage) else queue_among submits host)
  queues-restaged before after host = by_test (host == s.request.host) refl
    where
      by_test : (b : Bool) → (host == s.request.host) ≡ b → queue_among (staged s.request.place stage submits) host
          ≡ (if b then restaged (queue_among submits s.request.host) s.request.place (queue_stage stage) else queue_among submits host)
      by_test true e =
          ap (λ (h : ℕ). queue_among (staged s.request.place stage submits) h) (eqb-same host s.request.host e) ∙ queue-restaged before after
      by_test false e = queue-stays host (other-eqb s.request.host host (λ same. true≢false (sym (same-eqb host s.request.host (sym same)) ∙ e)))

  -- those that wait are without what is queued no more
  pub waiting-less : is_queued stage ≡ false → waiting_among (staged s.request.place stage submits) ≡ without_waiting (waiting_among submits) s.request.place
  waiting-less after =
      let t : Submission = record s { stage = stage } in
      shown-staged (λ (y : Submission). is_queued y.stage) as_waiting (λ (xs : List WaitingSubmit). without_waiting xs s.request.place)
      (filter-splits (λ (x : WaitingSubmit). not (x.sent == s.request.place))) s.request.place
      (λ y differs. kept y differs (is_queued y.stage)) stage submits s order found
      (ap (λ (b : Bool). map as_waiting (cond b (t ∷ []) [])) after ∙ sym (gone (is_queued s.stage)))
    where
      kept : (y : Submission) → (y.request.place ≡ s.request.place → ⊥) → (b : Bool)
          → map as_waiting (cond b (y ∷ []) []) ≡ without_waiting (map as_waiting (cond b (y ∷ []) [])) s.request.place
      kept y differs false = refl
      kept y differs true = sym (ap (λ (b : Bool). cond (not b) (as_waiting y ∷ []) []) (other-eqb y.request.place s.request.place differs))

      gone : (b : Bool) → without_waiting (map as_waiting (cond b (s ∷ []) [])) s.request.place ≡ []
      gone false = refl
      gone true = ap (λ (b : Bool). cond (not b) (as_waiting s ∷ []) []) (same-eqb s.request.place s.request.place refl)

  -- those that wait stay
  pub waiting-same : is_queued s.stage ≡ false → is_queued stage ≡ false → waiting_among (staged s.request.place stage submits) ≡ waiting_among submits
  waiting-same before after =
      let t : Submission = record s { stage = stage } in
      shown-staged (λ (y : Submission). is_queued y.stage) as_waiting (λ (xs : List WaitingSubmit). xs) same-splits s.request.place (λ y differs. refl) stage submits s order found
      (ap (λ (b : Bool). map as_waiting (cond b (t ∷ []) [])) after ∙ sym (ap (λ (b : Bool). map as_waiting (cond b (s ∷ []) [])) before))

-- a queue without the command whose reply is taken
queue-taken : (submits : List Submission) (s : Submission) → EachTwo (λ (a b : Request). a.place < b.place) (requests_of submits) → submit_at submits s.request.place ≡ Some s
    → queue_among (staged s.request.place Taken submits) s.request.host ≡ without_sent (queue_among submits s.request.host) s.request.place
queue-taken submits s order found =
    let host : ℕ = s.request.host in
    let t : Submission = record s { stage = Taken } in
    queue-shown (staged s.request.place Taken submits) host
    ∙ (shown-staged (at_host host) as_outstanding (λ (xs : List Waiting). without_sent xs s.request.place)
    (filter-splits (λ (w : Waiting). not (w.sent == s.request.place))) s.request.place (λ y differs. stays-there host s.request.place y differs) Taken submits s order found
    (none (s.request.host == host) ∙ sym (gone (at_host host s)))
    ∙ ap (λ (xs : List Waiting). without_sent xs s.request.place) (sym (queue-shown submits host)))
  where
    none : (b : Bool) → map as_outstanding (cond (b && false) ((let t : Submission = record s { stage = Taken } in t) ∷ []) []) ≡ []
    none true = refl
    none false = refl

    gone : (b : Bool) → without_sent (map as_outstanding (cond b (s ∷ []) [])) s.request.place ≡ []
    gone false = refl
    gone true = ap (λ (b : Bool). cond (not b) (as_outstanding s ∷ []) []) (same-eqb s.request.place s.request.place refl)

pub queues-taken : (submits : List Submission) (s : Submission) → EachTwo (λ (a b : Request). a.place < b.place) (requests_of submits) → submit_at submits s.request.place ≡ Some s
    → (host : ℕ) → queue_among (staged s.request.place Taken submits) host
    ≡ (if host == s.request.host then without_sent (queue_among submits s.request.host) s.request.place else queue_among submits host)
queues-taken submits s order found host = by_test (host == s.request.host) refl
  where
    by_test : (b : Bool) → (host == s.request.host) ≡ b → queue_among (staged s.request.place Taken submits) host
        ≡ (if b then without_sent (queue_among submits s.request.host) s.request.place else queue_among submits host)
    by_test true e = ap (λ (h : ℕ). queue_among (staged s.request.place Taken submits) h) (eqb-same host s.request.host e) ∙ queue-taken submits s order found
    by_test false e =
        queue-stays submits s Taken order found host (other-eqb s.request.host host (λ same. true≢false (sym (same-eqb host s.request.host (sym same)) ∙ e)))

-- ---- what was asked

requests-length : (submits : List Submission) → length (requests_of submits) ≡ length submits
requests-length [] = refl
requests-length (s ∷ submits) = let h = requests-length submits in omega arith

pub same-length : (old new : List Submission) → requests_of new ≡ requests_of old → length new ≡ length old
same-length old new e = sym (requests-length new) ∙ (ap length e ∙ requests-length old)

pub same-ordinal : (old new : List Submission) (host : ℕ) → requests_of new ≡ requests_of old → ordinal_after new host ≡ ordinal_after old host
same-ordinal old new host e = ap (λ (n : ℕ). n + 1) (count-stays old new host e)

pub length-shown : {A B : Type 0} (f : A → B) (xs : List A) → length (map f xs) ≡ length xs
length-shown f [] = refl
length-shown f (x ∷ xs) = ap suc (length-shown f xs)

pub some-so : {A : Type 0} (P : A → Type 0) (o : Option A) (x : A) → o ≡ Some x → P x → IsSomeAnd o P
some-so P o x e h = subst (λ (z : Option _). IsSomeAnd z P) (sym e) h

pub find-map : {A B : Type 0} (f : A → B) (test : B → Bool) (xs : List A) → find test (map f xs) ≡ option_map f (find (λ x. test (f x)) xs)
find-map f test [] = refl
find-map f test (x ∷ xs) = by_test (test (f x)) (find-map f test xs)
  where
    by_test : (b : Bool) → find test (map f xs) ≡ option_map f (find (λ y. test (f y)) xs)
        → cond b (Some (f x)) (find test (map f xs)) ≡ option_map f (cond b (Some x) (find (λ y. test (f y)) xs))
    by_test true later = refl
    by_test false later = later

-- what a new command names is the same by the queue
pub named-same : (submits : List Submission) (host : ℕ) (cmd : Command) → names_in_queue (queue_among submits host) cmd ≡ named_place submits host cmd
named-same submits host (command.Abort cid) =
    ap (λ (o : Option Waiting). option_map (λ (w : Waiting). w.sent) o) (find-map as_outstanding (λ (w : Waiting). w.cid == cid) (outstanding_of submits host))
    ∙ by_found (outstanding_under submits host cid)
  where
    by_found : (o : Option Submission) → option_map (λ (w : Waiting). w.sent) (option_map as_outstanding o) ≡ option_map (λ (s : Submission). s.request.place) o
    by_found None = refl
    by_found (Some s) = refl
named-same submits host cmd = refl
