-- A trail of the schedule of a plan that keeps the rules is lawful, and the hosts did the plan in it.
use Rattle.std.proofs.Common.{◌≡◌, ◌≢◌, ℕ, suc, ◌+◌, ◌<◌, ◌==◌, ◌%◌, ◌/◌, Bool, true, false, ◌&&◌, cond, if◌then◌else◌, List, [], ◌∷◌, ◌++◌, append-nil, append_assoc, length, length-append, map, find, Option, Some, None, is_none, refl, sym, ap, subst, ◌∙◌, inl, inr, arith, slice_get, IsSomeAnd}
use Rattle.std.specs.List.{AllByRecursion, Contains}
use Rattle.std.proofs.lemmas.Bool.{true≢false}
use Rattle.std.proofs.lemmas.List.{length-map}
use Rattle.cp_base.specs.Configuration.{Configuration}
use Rattle.history_model.specs.Plain.{PlainItem, PlainPart, Sends, Takes}
use Rattle.history_model.specs.Rules.{without}
use Rattle.history_model.specs.Sent.{Waiting}
use Rattle.history_model.proofs.Every.{Pairwise}
use Rattle.trail_model.specs.Accounts.{Outstanding}
use Rattle.trail_model.specs.Lawful.{IsAllowedIn, IsLawful, IsLawfulFrom, MayFinish, Trail, world_of}
use Rattle.trail_model.specs.Linked.{requests_of}
use Rattle.trail_model.specs.World.{OpenClaim, Submission, World, effect_of_claim, first_world, is_posted_at, outstanding_of, world_after}
use Rattle.trail_model.specs.declared.events.Event.{Event}
use Rattle.trail_model.specs.declared.events.Event.TheVariants as event
use Rattle.trail_model.proofs.Counts.{asked_by, lawful-append, requests-after, world-append}
use Rattle.trail_model.proofs.Moving.{linked-world}
use Rattle.trail_model.proofs.Sound.{some-and}
use Rattle.trail_model.proofs.Submits.{eqb-same, same-eqb}
use Rattle.schedule_model.specs.Deeds.{IsHost, Phases, item_by, items_in_phase}
use Rattle.schedule_model.specs.Schedule.{Action, Performs, Ending, GoesBy, GoesOn, Runs, RunsTo, Sending, Taking, Turning, actions, all_done, has_none, left_after, not_over, one_done}
use Rattle.schedule_model.proofs.Items.{Standing, after_item, after_items, cids-append, cids-without, next_standings}
use Rattle.schedule_model.proofs.Listing.{IsListed, all-listed, chosen, hosts-stay, hosts_in, others-stay, sends_among, sends_left}
use Rattle.schedule_model.proofs.Standings.{Stands, as_waiting, stands-step}
use Rattle.schedule_model.proofs.WholePlans.{DidEach}

-- ---- the rules, on plain items

abbrev pub KeepsPlain : ℕ → List ℕ → List PlainItem → Type 0
KeepsPlain depth outstanding [] = outstanding ≡ []
KeepsPlain depth outstanding (Sends cid cmd ∷ items) =
    (length outstanding < depth) × (Contains outstanding cid → ⊥) × KeepsPlain depth (outstanding ++ cid ∷ []) items
KeepsPlain depth outstanding (Takes cid ∷ items) = Contains outstanding cid × KeepsPlain depth (without cid outstanding) items

-- a phase keeps the rules, where these are outstanding
abbrev pub PhaseKeeps : ℕ → (ℕ → List ℕ) → List PlainPart → Type 0
PhaseKeeps depth outstanding phase = (host : ℕ) → KeepsPlain depth (outstanding host) (items_in_phase host phase)

abbrev pub NoneYet : ℕ → List PlainPart → Type 0
NoneYet depth phase = (host : ℕ) → KeepsPlain depth [] (items_in_phase host phase)

abbrev pub FirstKeeps : ℕ → (ℕ → List ℕ) → Phases → Type 0
FirstKeeps depth outstanding [] = Unit {0}
FirstKeeps depth outstanding (phase ∷ later) = PhaseKeeps depth outstanding phase × AllByRecursion (NoneYet depth) later

abbrev pub GoodHosts : List PlainPart → Type 0
GoodHosts phase = Pairwise (λ a b. a ≢ b) (hosts_in phase) × AllByRecursion IsHost (hosts_in phase)

abbrev pub all_sends : Phases → ℕ
all_sends [] = 0
all_sends (phase ∷ phases) = sends_left phase + all_sends phases

abbrev pub cids_of : (ℕ → Standing) → ℕ → List ℕ
cids_of A host = map (λ (w : Waiting). w.cid) (A host).waiting

-- what holds of a world and what is left of the phases
pub record Ready (c : Configuration) (commands : ℕ) (w : World) (A : ℕ → Standing) (phases : Phases) : Type 0 where
  pub count : length w.submits + all_sends phases ≡ commands
  pub keeps : FirstKeeps c.depth (cids_of A) phases
  pub hosts : AllByRecursion GoodHosts phases
  pub stands : Stands w A

-- ---- phases that are over

and-true : (a b : Bool) → (a && b) ≡ true → (a ≡ true) × (b ≡ true)
and-true true b e = (refl, e)
and-true false b e = absurd (true≢false (sym e))

none-left : (items : List PlainItem) → has_none items ≡ true → items ≡ []
none-left [] e = refl
none-left (i ∷ items) e = absurd (true≢false (sym e))

done-items : (parts : List PlainPart) → all_done parts ≡ true → (host : ℕ) → items_in_phase host parts ≡ []
done-items [] e host = refl
done-items (part ∷ parts) e host =
    let both = and-true (has_none part.items) (all_done parts) e in
    ap (λ (items : List PlainItem). (if part.host == host then items else []) ++ items_in_phase host parts) (none-left part.items both.0)
    ∙ (by_host (part.host == host) ∙ done-items parts both.1 host)
  where
    by_host : (b : Bool) → (if b then [] else []) ++ items_in_phase host parts ≡ items_in_phase host parts
    by_host true = refl
    by_host false = refl

done-sends : (parts : List PlainPart) → all_done parts ≡ true → sends_left parts ≡ 0
done-sends [] e = refl
done-sends (part ∷ parts) e =
    let both = and-true (has_none part.items) (all_done parts) e in
    ap (λ (items : List PlainItem). sends_among items + sends_left parts) (none-left part.items both.0) ∙ (let h = done-sends parts both.1 in omega arith)

next-keeps : (depth : ℕ) (outstanding : ℕ → List ℕ) (phase : List PlainPart) (later : Phases) → all_done phase ≡ true → FirstKeeps depth outstanding (phase ∷ later) → FirstKeeps depth outstanding later
next-keeps depth outstanding phase [] done keeps = tt
next-keeps depth outstanding phase (next ∷ later) done keeps =
    ((λ host. subst (λ (xs : List ℕ). KeepsPlain depth xs (items_in_phase host next)) (sym (empty host)) (keeps.1.0 host)), keeps.1.1)
  where
    empty : (host : ℕ) → outstanding host ≡ []
    empty host = subst (λ (items : List PlainItem). KeepsPlain depth (outstanding host) items) (done-items phase done host) (keeps.0 host)

next-ready : (c : Configuration) (commands : ℕ) (w : World) (A : ℕ → Standing) (phase : List PlainPart) (later : Phases) → all_done phase ≡ true → Ready c commands w A (phase ∷ later) → Ready c commands w A later
next-ready c commands w A phase later done h = record {
  count = (let a = h.count in let b = done-sends phase done in omega arith);
  keeps = next-keeps c.depth (cids_of A) phase later done h.keeps;
  hosts = h.hosts.1;
  stands = h.stands;
}

pub not-over-ready : (c : Configuration) (commands : ℕ) (w : World) (A : ℕ → Standing) (rest : Bool) (phases : Phases) → Ready c commands w A phases → Ready c commands w A (not_over rest phases)
not-over-ready c commands w A rest [] h = h
not-over-ready c commands w A rest (phase ∷ phases) h =
    by_over (all_done phase && rest) refl (λ ready. not-over-ready c commands w A rest phases ready)
  where
    by_over : (b : Bool) → (all_done phase && rest) ≡ b → (Ready c commands w A phases → Ready c commands w A (not_over rest phases))
        → Ready c commands w A (if b then not_over rest phases else phase ∷ phases)
    by_over true e later = later (next-ready c commands w A phase phases (and-true (all_done phase) rest e).0 h)
    by_over false e later = h

-- what the hosts did in what is not over they did in all
not-over-did : (rest : Bool) (phases : Phases) (trail : Trail) → DidEach (not_over rest phases) trail → DidEach phases trail
not-over-did rest [] trail did = did
not-over-did rest (phase ∷ phases) trail did = by_over (all_done phase && rest) refl did (λ d. not-over-did rest phases trail d)
  where
    by_over : (b : Bool) → (all_done phase && rest) ≡ b → DidEach (if b then not_over rest phases else phase ∷ phases) trail
        → (DidEach (not_over rest phases) trail → DidEach phases trail) → DidEach (phase ∷ phases) trail
    by_over true e did later = ([], trail, refl, (λ host is. sym (done-items phase (and-true (all_done phase) rest e).0 host)), later did)
    by_over false e did later = did

-- the first phase that is not over has something left, or the device is not at rest
first-open : (rest : Bool) (phases : Phases) (phase : List PlainPart) (later : Phases) → not_over rest phases ≡ phase ∷ later → all_done phase ≡ true → rest ≡ false
first-open rest [] phase later e done = absurd (nothing e)
  where
    nothing : [] ≡ phase ∷ later → ⊥
    nothing e = cc
first-open rest (p ∷ phases) phase later e done = by_over (all_done p && rest) refl e (λ d. first-open rest phases phase later d done)
  where
    same : p ∷ phases ≡ phase ∷ later → p ≡ phase
    same e = cc

    idle : (a b : Bool) → (a && b) ≡ false → a ≡ true → b ≡ false
    idle true b e h = e
    idle false b e h = absurd (true≢false (sym h))

    by_over : (b : Bool) → (all_done p && rest) ≡ b → (if b then not_over rest phases else p ∷ phases) ≡ phase ∷ later → (not_over rest phases ≡ phase ∷ later → rest ≡ false) → rest ≡ false
    by_over true h e later = later e
    by_over false h e later = idle (all_done p) rest h (ap all_done (same e) ∙ done)

-- ---- the deeds of an action

-- the items of a host before an action are its deed and those after it
deed : (c : Configuration) (w : World) (phase : List PlainPart) (a : Action) (e : Event) → IsListed w phase a → Performs c w a e
    → (host : ℕ) → items_in_phase host phase ≡ item_by host e ++ items_in_phase host (left_after a phase)
deed c w phase (Sending by cid cmd) e listed is host =
    by_host (by == host) refl ∙ sym (ap (λ (x : Event). item_by host x ++ items_in_phase host (one_done by phase)) is)
  where
    by_host : (b : Bool) → (by == host) ≡ b → items_in_phase host phase ≡ (if b then Sends cid cmd ∷ [] else []) ++ items_in_phase host (one_done by phase)
    by_host true h = subst (λ (n : ℕ). items_in_phase n phase ≡ Sends cid cmd ∷ items_in_phase n (one_done by phase)) (eqb-same by host h) listed.first
    by_host false h = sym (others-stay by host phase (λ e. true≢false (sym (same-eqb by host (sym e)) ∙ h)))
deed c w phase (Taking by cid posted) e listed is host =
    by_host (by == host) refl ∙ sym (ap (λ (x : Event). item_by host x ++ items_in_phase host (one_done by phase)) is)
  where
    by_host : (b : Bool) → (by == host) ≡ b → items_in_phase host phase ≡ (if b then Takes cid ∷ [] else []) ++ items_in_phase host (one_done by phase)
    by_host true h = subst (λ (n : ℕ). items_in_phase n phase ≡ Takes cid ∷ items_in_phase n (one_done by phase)) (eqb-same by host h) listed.0.first
    by_host false h = sym (others-stay by host phase (λ e. true≢false (sym (same-eqb by host (sym e)) ∙ h)))
deed c w phase (Ending claim) e listed is host = sym (ap (λ (x : Event). item_by host x ++ items_in_phase host phase) is)
deed c w phase (Turning worker s) e listed (inl is, allowed) host = sym (ap (λ (x : Event). item_by host x ++ items_in_phase host phase) is)
deed c w phase (Turning worker s) e listed (inr (answer, is), allowed) host = sym (ap (λ (x : Event). item_by host x ++ items_in_phase host phase) is)

-- ---- an action is allowed

not-found : (xs : List Submission) (cid : ℕ) → (Contains (map (λ (s : Submission). s.request.cid) xs) cid → ⊥) → find (λ (s : Submission). s.request.cid == cid) xs ≡ None
not-found [] cid never = refl
not-found (x ∷ xs) cid never = by_test (x.request.cid == cid) refl (not-found xs cid (λ found. never (suc found.0, (let b = found.1 in omega arith), found.2)))
  where
    by_test : (b : Bool) → (x.request.cid == cid) ≡ b → find (λ (s : Submission). s.request.cid == cid) xs ≡ None → cond b (Some x) (find (λ (s : Submission). s.request.cid == cid) xs) ≡ None
    by_test true h later = absurd (never (0, omega arith, eqb-same x.request.cid cid h))
    by_test false h later = later

cids-same : (xs : List Submission)
    → map (λ (w : Waiting). w.cid) (map as_waiting (map (λ (s : Submission). let o : Outstanding = record { cid = s.request.cid; ordinal = s.request.ordinal } in o) xs)) ≡ map (λ (s : Submission). s.request.cid) xs
cids-same [] = refl
cids-same (x ∷ xs) = ap (λ (ns : List ℕ). x.request.cid ∷ ns) (cids-same xs)

-- the identifiers of the outstanding commands
pub world-cids : (w : World) (A : ℕ → Standing) (host : ℕ) → Stands w A → map (λ (s : Submission). s.request.cid) (outstanding_of w.submits host) ≡ cids_of A host
world-cids w A host h = sym (cids-same (outstanding_of w.submits host)) ∙ ap (map (λ (v : Waiting). v.cid)) (h.waits host)

posted-there : (n : ℕ) → (n == n) ≡ true
posted-there n = same-eqb n n refl

pub allowed-action : (c : Configuration) (commands : ℕ) (w : World) (A : ℕ → Standing) (phase : List PlainPart) (later : Phases) (a : Action) (e : Event) → Ready c commands w A (phase ∷ later)
    → IsListed w phase a → Performs c w a e → IsAllowedIn c commands w e
allowed-action c commands w A phase later (Sending host cid cmd) e h listed is =
    let keeps = subst (λ (items : List PlainItem). KeepsPlain c.depth (cids_of A host) items) listed.first (h.keeps.0 host) in
    let same = world-cids w A host h.stands in
    subst (λ (x : Event). IsAllowedIn c commands w x) (sym is) (record {
      host = listed.is;
      not_spent = (let a = h.count in let b = listed.counts in omega arith);
      not_full = (let a = keeps.0 in let b : length (cids_of A host) ≡ length (outstanding_of w.submits host) =
          sym (ap length same) ∙ length-map (outstanding_of w.submits host) (λ (s : Submission). s.request.cid) in omega arith);
      not_busy = ap is_none (not-found (outstanding_of w.submits host) cid (λ found. keeps.1 (subst (λ (xs : List ℕ). Contains xs cid) same found)));
      next = refl;
    })
allowed-action c commands w A phase later (Taking host cid posted) e h listed is =
    let s = listed.1.0 in
    subst (λ (x : Event). IsAllowedIn c commands w x) (sym is)
    (subst (λ (o : Option Submission). IsSomeAnd o (λ (x : Submission). is_posted_at posted x.stage ≡ true)) (sym listed.1.1)
    (ap (is_posted_at posted) listed.1.2 ∙ posted-there posted))
allowed-action c commands w A phase later (Ending claim) e h listed is =
    subst (λ (x : Event). IsAllowedIn c commands w x) (sym is)
    (subst (λ (o : Option OpenClaim). IsSomeAnd o (λ (x : OpenClaim). MayFinish c claim.party (effect_of_claim c claim).answer x)) (sym listed)
    (record { own = refl; told = refl }))
allowed-action c commands w A phase later (Turning worker s) e h listed (inl is, allowed) =
    subst (λ (x : Event). IsAllowedIn c commands w x) (sym is) (subst (λ (x : Event). IsAllowedIn c 0 w x) is allowed)
allowed-action c commands w A phase later (Turning worker s) e h listed (inr (answer, is), allowed) =
    subst (λ (x : Event). IsAllowedIn c commands w x) (sym is) (subst (λ (x : Event). IsAllowedIn c 0 w x) is allowed)

-- ---- what holds after an action

keeps-item : (depth : ℕ) (a : Standing) (item : PlainItem) (items : List PlainItem) → KeepsPlain depth (map (λ (w : Waiting). w.cid) a.waiting) (item ∷ items)
    → KeepsPlain depth (map (λ (w : Waiting). w.cid) (after_item a item).waiting) items
keeps-item depth a (Sends cid cmd) items keeps =
    subst (λ (xs : List ℕ). KeepsPlain depth xs items) (sym (cids-append a.waiting ((let w : Waiting = record { cid = cid; ordinal = a.ordinal } in w) ∷ []))) keeps.2
keeps-item depth a (Takes cid) items keeps = subst (λ (xs : List ℕ). KeepsPlain depth xs items) (sym (cids-without cid a.waiting)) keeps.1

keeps-items : (depth : ℕ) (a : Standing) (items more : List PlainItem) → KeepsPlain depth (map (λ (w : Waiting). w.cid) a.waiting) (items ++ more)
    → KeepsPlain depth (map (λ (w : Waiting). w.cid) (after_items a items).waiting) more
keeps-items depth a [] more keeps = keeps
keeps-items depth a (item ∷ items) more keeps = keeps-items depth (after_item a item) items more (keeps-item depth a item (items ++ more) keeps)

good-after : (a : Action) (phase : List PlainPart) → GoodHosts phase → GoodHosts (left_after a phase)
good-after (Sending host cid cmd) phase good = subst (λ (hs : List ℕ). Pairwise (λ a b. a ≢ b) hs × AllByRecursion IsHost hs) (sym (hosts-stay host phase)) good
good-after (Taking host cid posted) phase good = subst (λ (hs : List ℕ). Pairwise (λ a b. a ≢ b) hs × AllByRecursion IsHost hs) (sym (hosts-stay host phase)) good
good-after (Ending claim) phase good = good
good-after (Turning worker s) phase good = good

submits-count : (c : Configuration) (w : World) (e : Event) → length (world_after c w e).submits ≡ length w.submits + length (asked_by w e)
submits-count c w e =
    sym (length-map (world_after c w e).submits (λ (s : Submission). s.request))
    ∙ (ap length (requests-after c w e) ∙ (length-append (requests_of w.submits) (asked_by w e)
    ∙ ap (λ (n : ℕ). n + length (asked_by w e)) (length-map w.submits (λ (s : Submission). s.request))))

count-after : (c : Configuration) (w : World) (phase : List PlainPart) (a : Action) (e : Event) → IsListed w phase a → Performs c w a e
    → length (asked_by w e) + sends_left (left_after a phase) ≡ sends_left phase
count-after c w phase (Sending host cid cmd) e listed is =
    ap (λ (x : Event). length (asked_by w x) + sends_left (one_done host phase)) is ∙ (let n = listed.counts in omega arith)
count-after c w phase (Taking host cid posted) e listed is =
    ap (λ (x : Event). length (asked_by w x) + sends_left (one_done host phase)) is ∙ (let n = listed.0.counts in omega arith)
count-after c w phase (Ending claim) e listed is = ap (λ (x : Event). length (asked_by w x) + sends_left phase) is ∙ omega arith
count-after c w phase (Turning worker s) e listed (inl is, allowed) = ap (λ (x : Event). length (asked_by w x) + sends_left phase) is ∙ omega arith
count-after c w phase (Turning worker s) e listed (inr (answer, is), allowed) = ap (λ (x : Event). length (asked_by w x) + sends_left phase) is ∙ omega arith

ready-after : (c : Configuration) (commands : ℕ) (w : World) (A : ℕ → Standing) (phase : List PlainPart) (later : Phases) (a : Action) (e : Event) → Ready c commands w A (phase ∷ later)
    → IsListed w phase a → Performs c w a e → Stands (world_after c w e) (next_standings A e) → Ready c commands (world_after c w e) (next_standings A e) (left_after a phase ∷ later)
ready-after c commands w A phase later a e h listed carries stands = record {
  count = (let x = h.count in let y = submits-count c w e in let z = count-after c w phase a e listed carries in omega arith);
  keeps = (
    (λ host. keeps-items c.depth (A host) (item_by host e) (items_in_phase host (left_after a phase))
        (subst (λ (items : List PlainItem). KeepsPlain c.depth (cids_of A host) items) (deed c w phase a e listed carries host) (h.keeps.0 host))),
    h.keeps.1,
  );
  hosts = (good-after a phase h.hosts.0, h.hosts.1);
  stands = stands;
}

ready-rest : (c : Configuration) (commands : ℕ) (w : World) (A : ℕ → Standing) (phase : List PlainPart) (later : Phases) → all_done phase ≡ true → Ready c commands w A (phase ∷ later)
    → Stands (world_after c w (event.Rest 1)) A → Ready c commands (world_after c w (event.Rest 1)) A later
ready-rest c commands w A phase later done h stands =
    let n = next-ready c commands w A phase later done h in
    record { count = n.count; keeps = n.keeps; hosts = n.hosts; stands = stands }

-- ---- the whole trail

-- what a run is found to be
pub record Found (c : Configuration) (commands : ℕ) (w : World) (phases : Phases) (trail : Trail) : Type 0 where
  pub lawful : IsLawfulFrom c commands w trail
  pub did : DidEach phases trail

none-did : (phases : Phases) → phases ≡ [] → DidEach phases []
none-did [] e = λ host is. refl
none-did (p ∷ ps) e = absurd (nothing e)
  where
    nothing : p ∷ ps ≡ [] → ⊥
    nothing e = cc

more-did : (c : Configuration) (w : World) (phase : List PlainPart) (later : Phases) (a : Action) (e : Event) (trail : Trail) → IsListed w phase a → Performs c w a e
    → DidEach (left_after a phase ∷ later) trail → DidEach (phase ∷ later) (e ∷ trail)
more-did c w phase later a e trail listed carries did = (
  e ∷ did.0,
  did.1,
  ap (λ (xs : Trail). e ∷ xs) did.2,
  (λ host is. ap (λ (items : List PlainItem). item_by host e ++ items) (did.3 host is) ∙ sym (deed c w phase a e listed carries host)),
  did.4,
)

lawful-push : (c : Configuration) (commands : ℕ) (seen : Trail) (e : Event) → IsLawful c commands seen → IsAllowedIn c commands (world_of c seen) e → IsLawful c commands (seen ++ e ∷ [])
lawful-push c commands seen e lawful allowed = lawful-append c commands (first_world c) seen (e ∷ []) lawful (allowed, tt)

-- what one event of the schedule comes to
pub record Stepped (c : Configuration) (commands : ℕ) (seen : Trail) (phases : Phases) (e : Event) (Then : Phases → ℕ → Type 0) : Type 0 where
  pub standings : ℕ → Standing
  pub left : Phases
  pub rest : ℕ
  pub allowed : IsAllowedIn c commands (world_of c seen) e
  pub ready : Ready c commands (world_after c (world_of c seen) e) standings left
  pub onwards : Then left rest
  pub did : (trail : Trail) → DidEach left trail → DidEach phases (e ∷ trail)

one-step : (c : Configuration) (workers commands : ℕ) (seen : Trail) (A : ℕ → Standing) (phases : Phases) (choices : ℕ) (e : Event) (Then : Phases → ℕ → Type 0) → IsLawful c commands seen
    → Ready c commands (world_of c seen) A phases → GoesOn c workers (world_of c seen) (not_over (world_of c seen).at_rest phases) choices e Then → Stepped c commands seen phases e Then
one-step c workers commands seen A phases choices e Then lawful h goes =
    by_phases (not_over (world_of c seen).at_rest phases) refl (not-over-ready c commands (world_of c seen) A (world_of c seen).at_rest phases h) goes
  where
    by_phases : (ps : Phases) → not_over (world_of c seen).at_rest phases ≡ ps → Ready c commands (world_of c seen) A ps → GoesOn c workers (world_of c seen) ps choices e Then
        → Stepped c commands seen phases e Then
    by_phases [] is ready goes = absurd goes
    by_phases (phase ∷ more) is ready goes = by_done (all_done phase) refl goes
      where
        whole : (trail : Trail) → DidEach (phase ∷ more) (e ∷ trail) → DidEach phases (e ∷ trail)
        whole trail did = not-over-did (world_of c seen).at_rest phases (e ∷ trail) (subst (λ (ps : Phases). DidEach ps (e ∷ trail)) (sym is) did)

        listed : AllByRecursion (IsListed (world_of c seen) phase) (actions c workers (world_of c seen) phase)
        listed = all-listed c workers (world_of c seen) phase (linked-world c commands seen lawful).different ready.hosts.0.0 ready.hosts.0.1

        by_done : (b : Bool) → all_done phase ≡ b → GoesBy b c workers (world_of c seen) phase more choices e Then → Stepped c commands seen phases e Then
        by_done true done goes =
            let rest : (world_of c seen).at_rest ≡ false = first-open (world_of c seen).at_rest phases phase more is done in
            let allowed : IsAllowedIn c commands (world_of c seen) e =
            subst (λ (x : Event). IsAllowedIn c commands (world_of c seen) x) (sym goes.0) ((omega arith, omega arith), rest) in
            let stands : Stands (world_after c (world_of c seen) e) (next_standings A e) =
            stands-step c commands seen A e ready.stands (lawful-push c commands seen e lawful allowed) in
            record {
              standings = A;
              left = more;
              rest = choices;
              allowed = allowed;
              ready = subst (λ (x : Event). Ready c commands (world_after c (world_of c seen) x) A more) (sym goes.0)
                  (ready-rest c commands (world_of c seen) A phase more done ready
                  (subst (λ (x : Event). Stands (world_after c (world_of c seen) x) (next_standings A x)) goes.0 stands));
              onwards = goes.1;
              did = λ trail did. whole trail (
                e ∷ [],
                trail,
                refl,
                (λ host is. ap (λ (x : Event). item_by host x ++ []) goes.0 ∙ sym (done-items phase done host)),
                did,
              );
            }
        by_done false done goes =
            let list : List Action = actions c workers (world_of c seen) phase in
            let one = some-and (λ (action : Action). Performs c (world_of c seen) action e × Then (left_after action phase ∷ more) (choices / length list)) (slice_get list (choices % length list)) goes in
            let a : Action = one.0 in
            let l : IsListed (world_of c seen) phase a = chosen (IsListed (world_of c seen) phase) list (choices % length list) a listed one.1 in
            let allowed : IsAllowedIn c commands (world_of c seen) e = allowed-action c commands (world_of c seen) A phase more a e ready l one.2.0 in
            let stands : Stands (world_after c (world_of c seen) e) (next_standings A e) =
            stands-step c commands seen A e ready.stands (lawful-push c commands seen e lawful allowed) in
            record {
              standings = next_standings A e;
              left = left_after a phase ∷ more;
              rest = choices / length list;
              allowed = allowed;
              ready = ready-after c commands (world_of c seen) A phase more a e ready l one.2.0 stands;
              onwards = one.2.1;
              did = λ trail did. whole trail (more-did c (world_of c seen) phase more a e trail l one.2.0 did);
            }

world-push : (c : Configuration) (seen : Trail) (e : Event) → world_after c (world_of c seen) e ≡ world_of c (seen ++ e ∷ [])
world-push c seen e = sym (world-append c (first_world c) seen (e ∷ []))

pub found : (c : Configuration) (workers commands : ℕ) (seen : Trail) (A : ℕ → Standing) (phases : Phases) (choices : ℕ) (trail : Trail) → IsLawful c commands seen
    → Ready c commands (world_of c seen) A phases → Runs c workers (world_of c seen) phases choices trail → Found c commands (world_of c seen) phases trail
found c workers commands seen A phases choices [] lawful h runs =
    record { lawful = tt; did = not-over-did (world_of c seen).at_rest phases [] (none-did (not_over (world_of c seen).at_rest phases) runs) }
found c workers commands seen A phases choices (e ∷ trail) lawful h runs =
    let w : World = world_of c seen in
    let s = one-step c workers commands seen A phases choices e (λ left rest. Runs c workers (world_after c w e) left rest trail) lawful h runs in
    let f : Found c commands (world_of c (seen ++ e ∷ [])) s.left trail =
    found c workers commands (seen ++ e ∷ []) s.standings s.left s.rest trail (lawful-push c commands seen e lawful s.allowed)
    (subst (λ (x : World). Ready c commands x s.standings s.left) (world-push c seen e) s.ready)
    (subst (λ (x : World). Runs c workers x s.left s.rest trail) (world-push c seen e) s.onwards) in
    record {
      lawful = (s.allowed, subst (λ (x : World). IsLawfulFrom c commands x trail) (sym (world-push c seen e)) f.lawful);
      did = s.did trail f.did;
    }

-- ---- a part of a run

-- what a run so far is found to be
pub record Reached (c : Configuration) (commands : ℕ) (seen : Trail) (left : Phases) : Type 0 where
  pub lawful : IsLawful c commands seen
  pub standings : ℕ → Standing
  pub ready : Ready c commands (world_of c seen) standings left

pub reached : (c : Configuration) (workers commands : ℕ) (seen : Trail) (A : ℕ → Standing) (phases : Phases) (choices : ℕ) (trail : Trail) (left : Phases) (rest : ℕ) → IsLawful c commands seen
    → Ready c commands (world_of c seen) A phases → RunsTo c workers (world_of c seen) phases choices trail left rest → Reached c commands (seen ++ trail) left
reached c workers commands seen A phases choices [] left rest lawful h runs =
    subst (λ (xs : Trail). Reached c commands xs left) (sym (append-nil seen))
    (record { lawful = lawful; standings = A; ready = subst (λ (ps : Phases). Ready c commands (world_of c seen) A ps) (sym runs.0) h })
reached c workers commands seen A phases choices (e ∷ trail) left rest lawful h runs =
    let w : World = world_of c seen in
    let s = one-step c workers commands seen A phases choices e (λ ps n. RunsTo c workers (world_after c w e) ps n trail left rest) lawful h runs in
    subst (λ (xs : Trail). Reached c commands xs left) (append_assoc seen (e ∷ []) trail)
    (reached c workers commands (seen ++ e ∷ []) s.standings s.left s.rest trail left rest (lawful-push c commands seen e lawful s.allowed)
    (subst (λ (x : World). Ready c commands x s.standings s.left) (world-push c seen e) s.ready)
    (subst (λ (x : World). RunsTo c workers x s.left s.rest trail left rest) (world-push c seen e) s.onwards))
