-- Picking by the parts of a device is picking in the world.
use Rattle.std.proofs.Common.{◌≡◌, ℕ, zero, suc, ◌<◌, ◌==◌, Bool, true, false, not, ◌||◌, cond, List, [], ◌∷◌, filter, find, map, Option, Some, None, is_some, option_map, refl, sym, ap, subst, ◌∙◌, arith, if◌then◌else◌, slice_get}
use Rattle.std.specs.List.{AllByRecursion, list_any}
use Rattle.std.specs.Prelude.{option_and_then, IsSomeAnd}
use Rattle.cp_base.specs.Answer.{Answer}
use Rattle.cp_base.specs.Configuration.{Configuration}
use Rattle.cp_base.specs.Touching.{meets}
use Rattle.cp_base.specs.declared.commands.Command.{Command}
use Rattle.cp_base.specs.declared.commands.Command.TheVariants as command
use Rattle.cp_base.specs.declared.spans.Footprint.{Footprint}
use Rattle.device_model.specs.Checks.{refusal_of}
use Rattle.device_model.specs.Memory.{moves_bytes}
use Rattle.device_model.specs.State.{State}
use Rattle.trail_model.specs.Each.{EachTwo}
use Rattle.trail_model.specs.Footprints.{execution_of, footprint_of}
use Rattle.trail_model.specs.Lawful.{IsLawful, Trail, world_of}
use Rattle.trail_model.specs.Linked.{ClaimLinked, requests_of}
use Rattle.trail_model.specs.Traced.{SubmitsIt}
use Rattle.trail_model.specs.World.{OpenClaim, Request, Submission, World, changes_held, claim_at, is_free, is_number, is_pickable, is_queued, pickable_among, queued_among, submit_at, withdrawn_place}
use Rattle.trail_model.specs.declared.events.Event.{Event}
use Rattle.trail_model.proofs.Linked.{filter-each, self-found}
use Rattle.trail_model.proofs.Moving.{linked-world}
use Rattle.trail_model.proofs.NewSets.{each-filter}
use Rattle.trail_model.proofs.Sound.{some-and}
use Rattle.trail_model.proofs.Submits.{each-both, each-weaker, eqb-same, none-some, other-eqb, some-same}
use Rattle.trail_model.proofs.Traced.{traced-world}
use Rattle.core_model.specs.Asked.{Asked, asked_at, asked_by_request, asked_in}
use Rattle.core_model.specs.Parts.{ClaimPlaces, KeptFootprint, Parts, WaitingSubmit, tables_in, tables_of}
use Rattle.core_model.specs.Picking.{changes_kept, is_clear_of, is_waiting, may_pick, may_pick_asked, pickable_waiting, touched_by, withdrawn_waiting}
use Rattle.core_model.specs.Ties.{AreTied, StandFor, as_kept, as_places, as_waiting, waiting_among}
use Rattle.core_model.proofs.Claiming.{same-touched}
use Rattle.core_model.proofs.Shown.{later-places}
use Rattle.core_model.proofs.Steps.{find-map}
use Rattle.core_model.proofs.Tabling.{same-refusal}

-- ---- lists

pub any-map : {A B : Type 0} (f : A → B) (test : B → Bool) (xs : List A) → list_any test (map f xs) ≡ list_any (λ x. test (f x)) xs
any-map f test [] = refl
any-map f test (x ∷ xs) = ap (λ (b : Bool). test (f x) || b) (any-map f test xs)

filter-map : {A B : Type 0} (f : A → B) (P : A → Bool) (Q : B → Bool) (xs : List A) → AllByRecursion (λ x. Q (f x) ≡ P x) xs → filter Q (map f xs) ≡ map f (filter P xs)
filter-map f P Q [] all = refl
filter-map f P Q (x ∷ xs) all =
    ap (λ (b : Bool). cond b (f x ∷ filter Q (map f xs)) (filter Q (map f xs))) all.0 ∙ by_test (P x) (filter-map f P Q xs all.1)
  where
    by_test : (b : Bool) → filter Q (map f xs) ≡ map f (filter P xs) → cond b (f x ∷ filter Q (map f xs)) (filter Q (map f xs)) ≡ map f (cond b (x ∷ filter P xs) (filter P xs))
    by_test true later = ap (λ ys. f x ∷ ys) later
    by_test false later = later

pub each-map : {A B : Type 0} (f : A → B) (P : B → Type 0) (xs : List A) → AllByRecursion (λ x. P (f x)) xs → AllByRecursion P (map f xs)
each-map f P [] all = tt
each-map f P (x ∷ xs) all = (all.0, each-map f P xs all.1)

pub got-each : {A : Type 0} (P : A → Type 0) (xs : List A) (i : ℕ) (x : A) → AllByRecursion P xs → slice_get xs i ≡ Some x → P x
got-each P [] i x all e = absurd (none-some x e)
got-each P (y ∷ ys) zero x all e = subst P (some-same y x e) all.0
got-each P (y ∷ ys) (suc i) x all e = got-each P ys i x all.1 e

-- ---- a command

pub same-tables : (c : Configuration) (p : Parts) (w : World) → AreTied c p w → tables_in p ≡ tables_of w.state.slots w.state.sets
same-tables c p w t i = tables_of (t.slots i) (t.sets i)

pub refusal-in : (c : Configuration) (p : Parts) (w : World) (cmd : Command) → AreTied c p w → refusal_of c (tables_in p) cmd ≡ refusal_of c w.state cmd
refusal-in c p w cmd t = ap (λ (s : State). refusal_of c s cmd) (same-tables c p w t) ∙ sym (same-refusal c w.state cmd)

pub clear-in : (c : Configuration) (p : Parts) (w : World) (cmd : Command) → AreTied c p w → is_clear_of p.kept (touched_by c p cmd) ≡ is_free c w cmd
clear-in c p w cmd t =
    let touched : Footprint = footprint_of c (execution_of w.state cmd).ranges cmd in
    ap (λ (f : Footprint). is_clear_of p.kept f) (same-touched c p w cmd t)
    ∙ (ap (λ (ks : List KeptFootprint). is_clear_of ks touched) t.kept
    ∙ ap (λ (b : Bool). not b) (any-map (as_kept c) (λ (x : KeptFootprint). meets touched x.footprint) w.claims))

changes-in : (c : Configuration) (claims : List OpenClaim) (cmd : Command) → changes_kept (map (as_kept c) claims) cmd ≡ changes_held claims cmd
changes-in c claims (command.SetDelete set) = any-map (as_kept c) (λ (x : KeptFootprint). is_number set x.footprint.set) claims
changes-in c claims (command.Deactivate slot) = any-map (as_kept c) (λ (x : KeptFootprint). is_number slot x.footprint.slot) claims
changes-in c claims cmd = refl

pub may-in : (c : Configuration) (p : Parts) (w : World) (cmd : Command) → AreTied c p w → may_pick c p cmd ≡ is_pickable c w cmd
may-in c p w cmd t =
    ap (λ (o : Option Answer). is_some o || (if moves_bytes cmd then is_clear_of p.kept (touched_by c p cmd) else not (changes_kept p.kept cmd))) (refusal-in c p w cmd t)
    ∙ (ap (λ (b : Bool). is_some (refusal_of c w.state cmd) || (if moves_bytes cmd then b else not (changes_kept p.kept cmd))) (clear-in c p w cmd t)
    ∙ ap (λ (b : Bool). is_some (refusal_of c w.state cmd) || (if moves_bytes cmd then is_free c w cmd else not b))
    (ap (λ (ks : List KeptFootprint). changes_kept ks cmd) t.kept ∙ changes-in c w.claims cmd))

-- ---- all commands

each-asked : (c : Configuration) (commands : ℕ) (trail : Trail) → IsLawful c commands trail
    → AllByRecursion (λ (s : Submission). asked_at trail s.request.place ≡ Some (asked_by_request s.request)) (world_of c trail).submits
each-asked c commands trail lawful =
    each-weaker (λ (s : Submission). IsSomeAnd (slice_get trail s.request.place) (SubmitsIt s.request))
    (λ (s : Submission). asked_at trail s.request.place ≡ Some (asked_by_request s.request))
    (λ s h. (let there = some-and (SubmitsIt s.request) (slice_get trail s.request.place) h in
    ap (λ (o : Option Event). option_and_then asked_in o) there.1 ∙ ap asked_in there.2.event))
    (world_of c trail).submits (traced-world c commands trail lawful).submits

pub pickable-in : (c : Configuration) (commands : ℕ) (p : Parts) (trail : Trail) → StandFor c commands p trail
    → pickable_waiting c p trail ≡ map as_waiting (pickable_among c (world_of c trail))
pickable-in c commands p trail stand =
    let w : World = world_of c trail in
    let t = stand.ties in
    let P : Submission → Bool = (λ s. is_pickable c w s.request.command) in
    let Q : WaitingSubmit → Bool = (λ x. may_pick_asked c p (asked_at trail x.sent)) in
    ap (λ (xs : List WaitingSubmit). filter Q xs) t.waiting
    ∙ filter-map as_waiting P Q (queued_among w.submits)
    (each-filter (λ (s : Submission). Q (as_waiting s) ≡ P s) (λ (s : Submission). is_queued s.stage) w.submits
    (each-weaker (λ (s : Submission). asked_at trail s.request.place ≡ Some (asked_by_request s.request)) (λ (s : Submission). Q (as_waiting s) ≡ P s)
    (λ s h. ap (λ (o : Option Asked). may_pick_asked c p o) h ∙ may-in c p w s.request.command t) w.submits (each-asked c commands trail stand.lawful)))

-- ---- what is withdrawn

abbrev queued_there : Option Submission → Bool
queued_there None = false
queued_there (Some s) = is_queued s.stage

none-later : (place : ℕ) (submits : List Submission) → AllByRecursion (λ (y : Submission). y.request.place ≡ place → ⊥) submits
    → is_waiting (waiting_among submits) place ≡ false
none-later place [] all = refl
none-later place (y ∷ submits) all = by_test (is_queued y.stage) (none-later place submits all.1)
  where
    by_test : (b : Bool) → is_waiting (waiting_among submits) place ≡ false → is_waiting (map as_waiting (cond b (y ∷ queued_among submits) (queued_among submits))) place ≡ false
    by_test true later = ap (λ (b : Bool). b || is_waiting (waiting_among submits) place) (other-eqb y.request.place place all.0) ∙ later
    by_test false later = later

pub waits-there : (place : ℕ) (submits : List Submission) → EachTwo (λ (a b : Request). a.place < b.place) (requests_of submits)
    → is_waiting (waiting_among submits) place ≡ queued_there (submit_at submits place)
waits-there place [] order = refl
waits-there place (x ∷ submits) order = by_tests (x.request.place == place) (is_queued x.stage) refl refl (waits-there place submits order.1)
  where
    by_tests : (b q : Bool) → (x.request.place == place) ≡ b → is_queued x.stage ≡ q → is_waiting (waiting_among submits) place ≡ queued_there (submit_at submits place)
        → is_waiting (map as_waiting (cond q (x ∷ queued_among submits) (queued_among submits))) place ≡ queued_there (cond b (Some x) (submit_at submits place))
    by_tests true true e f later = ap (λ (b : Bool). b || is_waiting (waiting_among submits) place) e ∙ sym f
    by_tests true false e f later = none-later place submits (later-places x place submits (eqb-same x.request.place place e) order.0) ∙ sym f
    by_tests false true e f later = ap (λ (b : Bool). b || is_waiting (waiting_among submits) place) e ∙ later
    by_tests false false e f later = later

pub withdrawn-in : (c : Configuration) (commands : ℕ) (p : Parts) (trail : Trail) (request : Request) → StandFor c commands p trail
    → withdrawn_waiting p.waiting request.names ≡ withdrawn_place (world_of c trail).submits request
withdrawn-in c commands p trail request stand =
    ap (λ (ws : List WaitingSubmit). withdrawn_waiting ws request.names) stand.ties.waiting ∙ by_names request.names
  where
    by_found : (place : ℕ) (o : Option Submission) → (if queued_there o then Some place else None)
        ≡ option_and_then (λ (s : Submission). if is_queued s.stage then Some place else None) o
    by_found place None = refl
    by_found place (Some s) = refl

    by_names : (o : Option ℕ) → withdrawn_waiting (waiting_among (world_of c trail).submits) o
        ≡ option_and_then (λ place. option_and_then (λ (s : Submission). if is_queued s.stage then Some place else None) (submit_at (world_of c trail).submits place)) o
    by_names None = refl
    by_names (Some place) =
        ap (λ (b : Bool). if b then Some place else None) (waits-there place (world_of c trail).submits (linked-world c commands trail stand.lawful).places.ascending)
        ∙ by_found place (submit_at (world_of c trail).submits place)

-- ---- open claims

pub places-in : (c : Configuration) (commands : ℕ) (p : Parts) (trail : Trail) (place : ℕ) → StandFor c commands p trail
    → find (λ (x : ClaimPlaces). x.claim == place) p.claims ≡ option_map as_places (claim_at (world_of c trail).claims place)
places-in c commands p trail place stand =
    ap (λ (xs : List ClaimPlaces). find (λ (x : ClaimPlaces). x.claim == place) xs) stand.ties.claims
    ∙ find-map as_places (λ (x : ClaimPlaces). x.claim == place) (world_of c trail).claims

pub kept-in : (c : Configuration) (commands : ℕ) (p : Parts) (trail : Trail) (place : ℕ) → StandFor c commands p trail
    → find (λ (x : KeptFootprint). x.key == place) p.kept ≡ option_map (as_kept c) (claim_at (world_of c trail).claims place)
kept-in c commands p trail place stand =
    ap (λ (xs : List KeptFootprint). find (λ (x : KeptFootprint). x.key == place) xs) stand.ties.kept
    ∙ find-map (as_kept c) (λ (x : KeptFootprint). x.key == place) (world_of c trail).claims

none-new : (n : ℕ) (claims : List OpenClaim) → AllByRecursion (λ (claim : OpenClaim). claim.place < n) claims → claim_at claims n ≡ None
none-new n [] all = refl
none-new n (x ∷ claims) all =
    ap (λ (b : Bool). cond b (Some x) (claim_at claims n)) (other-eqb x.place n (λ same. let less = all.0 in omega arith)) ∙ none-new n claims all.1

pub key-fresh : (c : Configuration) (commands : ℕ) (p : Parts) (trail : Trail) → StandFor c commands p trail → find (λ (x : KeptFootprint). x.key == p.count) p.kept ≡ None
key-fresh c commands p trail stand =
    let w : World = world_of c trail in
    kept-in c commands p trail p.count stand
    ∙ (ap (λ (n : ℕ). option_map (as_kept c) (claim_at w.claims n)) stand.ties.count
    ∙ ap (λ (o : Option OpenClaim). option_map (as_kept c) o)
    (none-new w.count w.claims (each-weaker (ClaimLinked w) (λ (claim : OpenClaim). claim.place < w.count) (λ claim h. h.place) w.claims
    (linked-world c commands trail stand.lawful).claims)))

-- ---- what waits

-- a waiting submit is a queued one of the world
pub record WaitsIn (submits : List Submission) (x : WaitingSubmit) : Type 0 where
  pub submit : Submission
  pub found : submit_at submits x.sent ≡ Some submit
  pub queued : is_queued submit.stage ≡ true
  pub names : x.names ≡ submit.request.names

pub waits-in : (c : Configuration) (commands : ℕ) (p : Parts) (trail : Trail) (i : ℕ) (x : WaitingSubmit) → StandFor c commands p trail
    → slice_get p.waiting i ≡ Some x → WaitsIn (world_of c trail).submits x
waits-in c commands p trail i x stand e =
    let submits : List Submission = (world_of c trail).submits in
    let found : AllByRecursion (λ (s : Submission). submit_at submits s.request.place ≡ Some s) (queued_among submits) =
    each-filter (λ (s : Submission). submit_at submits s.request.place ≡ Some s) (λ (s : Submission). is_queued s.stage) submits
    (self-found (world_of c trail) (linked-world c commands trail stand.lawful)) in
    let queued : AllByRecursion (λ (s : Submission). is_queued s.stage ≡ true) (queued_among submits) = filter-each (λ (s : Submission). is_queued s.stage) submits in
    let all : AllByRecursion (WaitsIn submits) (waiting_among submits) =
    each-map as_waiting (WaitsIn submits) (queued_among submits)
    (each-weaker (λ (s : Submission). (submit_at submits s.request.place ≡ Some s) × (is_queued s.stage ≡ true)) (λ (s : Submission). WaitsIn submits (as_waiting s))
    (λ s both. record { submit = s; found = both.0; queued = both.1; names = refl }) (queued_among submits)
    (each-both (λ (s : Submission). submit_at submits s.request.place ≡ Some s) (λ (s : Submission). is_queued s.stage ≡ true) (queued_among submits) found queued)) in
    got-each (WaitsIn submits) (waiting_among submits) i x all (ap (λ (xs : List WaitingSubmit). slice_get xs i) (sym stand.ties.waiting) ∙ e)
