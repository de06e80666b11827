-- What holds of each action that is listed.
use Rattle.std.proofs.Common.{◌≡◌, ◌≢◌, ℕ, zero, suc, ◌+◌, ◌==◌, Bool, true, false, cond, if◌then◌else◌, List, [], ◌∷◌, ◌++◌, map, Option, Some, None, refl, sym, ap, subst, ◌∙◌, arith, slice_get}
use Rattle.std.specs.List.{AllByRecursion}
use Rattle.cp_base.specs.Configuration.{Configuration}
use Rattle.history_model.specs.Plain.{PlainItem, PlainPart, Sends, Takes}
use Rattle.history_model.proofs.Every.{Pairwise}
use Rattle.trail_model.specs.Each.{EachTwo}
use Rattle.trail_model.specs.Linked.{AreDifferent}
use Rattle.trail_model.specs.World.{OpenClaim, Posted, Queued, Stage, Submission, Taken, Working, World, claim_at, outstanding_under, pickable_among}
use Rattle.trail_model.proofs.Submits.{each-append, eqb-same, none-some, other-eqb, same-eqb, some-same}
use Rattle.schedule_model.specs.Deeds.{IsHost, items_in_phase}
use Rattle.schedule_model.specs.Schedule.{Action, Ending, Sending, Taking, Turning, action_of_host, actions, actions_of_hosts, behind_first, idle_worker, one_done, taking_of, taking_under, turning}

-- the hosts of what is left of a phase
abbrev pub hosts_in : List PlainPart → List ℕ
hosts_in parts = map (λ (part : PlainPart). part.host) parts

-- how many commands items and parts send
abbrev pub sends_among : List PlainItem → ℕ
sends_among [] = 0
sends_among (Sends cid cmd ∷ items) = suc (sends_among items)
sends_among (Takes cid ∷ items) = sends_among items

abbrev pub sends_left : List PlainPart → ℕ
sends_left [] = 0
sends_left (part ∷ parts) = sends_among part.items + sends_left parts

-- a host's next item, and what is left without it
pub record IsNext (host : ℕ) (item : PlainItem) (parts : List PlainPart) : Type 0 where
  pub is : IsHost host
  pub first : items_in_phase host parts ≡ item ∷ items_in_phase host (one_done host parts)
  pub counts : sends_left parts ≡ sends_among (item ∷ []) + sends_left (one_done host parts)

abbrev pub IsListed : World → List PlainPart → Action → Type 0
IsListed w parts (Sending host cid cmd) = IsNext host (Sends cid cmd) parts
IsListed w parts (Taking host cid posted) =
    IsNext host (Takes cid) parts × ((s : Submission) × (outstanding_under w.submits host cid ≡ Some s) × (s.stage ≡ Posted posted))
IsListed w parts (Ending claim) = claim_at w.claims claim.place ≡ Some claim
IsListed w parts (Turning worker s) = Unit {0}

-- ---- one item done

pub hosts-stay : (host : ℕ) (parts : List PlainPart) → hosts_in (one_done host parts) ≡ hosts_in parts
hosts-stay host [] = refl
hosts-stay host (part ∷ parts) = by_host (part.host == host) (hosts-stay host parts)
  where
    by_host : (b : Bool) → hosts_in (one_done host parts) ≡ hosts_in parts
        → hosts_in (if b then record { host = part.host; items = behind_first part.items } ∷ parts else part ∷ one_done host parts) ≡ hosts_in (part ∷ parts)
    by_host true later = refl
    by_host false later = ap (λ (hs : List ℕ). part.host ∷ hs) later

pub others-stay : (host other : ℕ) (parts : List PlainPart) → (other ≡ host → ⊥) → items_in_phase other (one_done host parts) ≡ items_in_phase other parts
others-stay host other [] differ = refl
others-stay host other (part ∷ parts) differ = by_host (part.host == host) refl (others-stay host other parts differ)
  where
    by_host : (b : Bool) → (part.host == host) ≡ b → items_in_phase other (one_done host parts) ≡ items_in_phase other parts
        → items_in_phase other (if b then record { host = part.host; items = behind_first part.items } ∷ parts else part ∷ one_done host parts)
        ≡ items_in_phase other (part ∷ parts)
    by_host true h later =
        let no_one : (part.host == other) ≡ false = other-eqb part.host other (λ e. differ (sym e ∙ eqb-same part.host host h)) in
        ap (λ (b : Bool). (if b then behind_first part.items else []) ++ items_in_phase other parts) no_one
        ∙ sym (ap (λ (b : Bool). (if b then part.items else []) ++ items_in_phase other parts) no_one)
    by_host false h later = ap (λ (items : List PlainItem). (if part.host == other then part.items else []) ++ items) later

-- the first part of a host
next-here : (part : PlainPart) (item : PlainItem) (items : List PlainItem) (parts : List PlainPart) → IsHost part.host → part.items ≡ item ∷ items → IsNext part.host item (part ∷ parts)
next-here part item items parts is same =
    let own : (part.host == part.host) ≡ true = same-eqb part.host part.host refl in
    let done : PlainPart = record { host = part.host; items = items } in
    let left : one_done part.host (part ∷ parts) ≡ done ∷ parts =
    ap (λ (b : Bool). if b then (let d : PlainPart = record { host = part.host; items = behind_first part.items } in d) ∷ parts else part ∷ one_done part.host parts) own
    ∙ ap (λ (xs : List PlainItem). (let d : PlainPart = record { host = part.host; items = behind_first xs } in d) ∷ parts) same in
    record {
      is = is;
      first = ap (λ (b : Bool). (if b then part.items else []) ++ items_in_phase part.host parts) own
          ∙ (ap (λ (xs : List PlainItem). xs ++ items_in_phase part.host parts) same
          ∙ sym (ap (λ (ps : List PlainPart). item ∷ items_in_phase part.host ps) left
          ∙ ap (λ (b : Bool). item ∷ ((if b then items else []) ++ items_in_phase part.host parts)) own));
      counts = ap (λ (xs : List PlainItem). sends_among xs + sends_left parts) same
          ∙ (ap (λ (n : ℕ). n + sends_left parts) (one item) ∙ (let e = ap sends_left left in omega arith));
    }
  where
    one : (i : PlainItem) → sends_among (i ∷ items) ≡ sends_among (i ∷ []) + sends_among items
    one (Sends cid cmd) = omega arith
    one (Takes cid) = omega arith

next-behind : (part : PlainPart) (host : ℕ) (item : PlainItem) (parts : List PlainPart) → part.host ≢ host → IsNext host item parts → IsNext host item (part ∷ parts)
next-behind part host item parts differ h =
    let other : (part.host == host) ≡ false = other-eqb part.host host differ in
    let left : one_done host (part ∷ parts) ≡ part ∷ one_done host parts =
    ap (λ (b : Bool). if b then (let d : PlainPart = record { host = part.host; items = behind_first part.items } in d) ∷ parts else part ∷ one_done host parts) other in
    record {
      is = h.is;
      first = ap (λ (b : Bool). (if b then part.items else []) ++ items_in_phase host parts) other
          ∙ (h.first
          ∙ sym (ap (λ (ps : List PlainPart). item ∷ items_in_phase host ps) left
          ∙ ap (λ (b : Bool). item ∷ ((if b then part.items else []) ++ items_in_phase host (one_done host parts))) other));
      counts = (let e = ap sends_left left in let n = h.counts in omega arith);
    }

listed-taking : (w : World) (part : PlainPart) (cid : ℕ) (items : List PlainItem) (parts : List PlainPart) → IsHost part.host → part.items ≡ Takes cid ∷ items → (o : Option Submission)
    → outstanding_under w.submits part.host cid ≡ o → AllByRecursion (IsListed w (part ∷ parts)) (taking_under part.host cid o)
listed-taking w part cid items parts is same None found = tt
listed-taking w part cid items parts is same (Some s) found = by_stage s.stage refl
  where
    by_stage : (stage : Stage) → s.stage ≡ stage → AllByRecursion (IsListed w (part ∷ parts)) (taking_of part.host cid stage)
    by_stage Queued e = tt
    by_stage Working e = tt
    by_stage (Posted place) e = ((next-here part (Takes cid) items parts is same, (s, found, e)), tt)
    by_stage Taken e = tt

listed-first : (w : World) (part : PlainPart) (items : List PlainItem) (parts : List PlainPart) → IsHost part.host → part.items ≡ items
    → AllByRecursion (IsListed w (part ∷ parts)) (action_of_host w part.host items)
listed-first w part [] parts is same = tt
listed-first w part (Sends cid cmd ∷ items) parts is same = (next-here part (Sends cid cmd) items parts is same, tt)
listed-first w part (Takes cid ∷ items) parts is same = listed-taking w part cid items parts is same (outstanding_under w.submits part.host cid) refl

abbrev ActsFor : ℕ → Action → Type 0
ActsFor host (Sending h cid cmd) = host ≢ h
ActsFor host (Taking h cid posted) = host ≢ h
ActsFor host (Ending claim) = Unit {0}
ActsFor host (Turning worker s) = Unit {0}

of-others : (w : World) (host : ℕ) (parts : List PlainPart) → AllByRecursion (λ h. host ≢ h) (hosts_in parts) → AllByRecursion (ActsFor host) (actions_of_hosts w parts)
of-others w host [] differ = tt
of-others w host (part ∷ parts) differ = each-append (ActsFor host) (action_of_host w part.host part.items) (actions_of_hosts w parts) (own part.items) (of-others w host parts differ.1)
  where
    by_stage : (cid : ℕ) (stage : Stage) → AllByRecursion (ActsFor host) (taking_of part.host cid stage)
    by_stage cid Queued = tt
    by_stage cid Working = tt
    by_stage cid (Posted place) = (differ.0, tt)
    by_stage cid Taken = tt

    by_found : (cid : ℕ) (o : Option Submission) → AllByRecursion (ActsFor host) (taking_under part.host cid o)
    by_found cid None = tt
    by_found cid (Some s) = by_stage cid s.stage

    own : (items : List PlainItem) → AllByRecursion (ActsFor host) (action_of_host w part.host items)
    own [] = tt
    own (Sends cid cmd ∷ items) = (differ.0, tt)
    own (Takes cid ∷ items) = by_found cid (outstanding_under w.submits part.host cid)

both-weaker : (P Q R : Action → Type 0) → ((a : Action) → P a → Q a → R a) → (list : List Action) → AllByRecursion P list → AllByRecursion Q list → AllByRecursion R list
both-weaker P Q R f [] p q = tt
both-weaker P Q R f (a ∷ list) p q = (f a p.0 q.0, both-weaker P Q R f list p.1 q.1)

listed-hosts : (w : World) (parts : List PlainPart) → Pairwise (λ a b. a ≢ b) (hosts_in parts) → AllByRecursion IsHost (hosts_in parts)
    → AllByRecursion (IsListed w parts) (actions_of_hosts w parts)
listed-hosts w [] differ hosts = tt
listed-hosts w (part ∷ parts) differ hosts =
    each-append (IsListed w (part ∷ parts)) (action_of_host w part.host part.items) (actions_of_hosts w parts)
    (listed-first w part part.items parts hosts.0 refl)
    (both-weaker (IsListed w parts) (ActsFor part.host) (IsListed w (part ∷ parts)) behind (actions_of_hosts w parts)
    (listed-hosts w parts differ.1 hosts.1) (of-others w part.host parts differ.0))
  where
    behind : (a : Action) → IsListed w parts a → ActsFor part.host a → IsListed w (part ∷ parts) a
    behind (Sending host cid cmd) h other = next-behind part host (Sends cid cmd) parts other h
    behind (Taking host cid posted) h other = (next-behind part host (Takes cid) parts other h.0, h.1)
    behind (Ending claim) h other = h
    behind (Turning worker s) h other = h

-- each open claim is found at its place
claims-found : (claims : List OpenClaim) → EachTwo AreDifferent claims → AllByRecursion (λ (claim : OpenClaim). claim_at claims claim.place ≡ Some claim) claims
claims-found [] differ = tt
claims-found (x ∷ claims) differ = (
  ap (λ (b : Bool). cond b (Some x) (claim_at claims x.place)) (same-eqb x.place x.place refl),
  behind claims differ.0 (claims-found claims differ.1),
)
  where
    behind : (ys : List OpenClaim) → AllByRecursion (AreDifferent x) ys → AllByRecursion (λ (claim : OpenClaim). claim_at claims claim.place ≡ Some claim) ys
        → AllByRecursion (λ (claim : OpenClaim). claim_at (x ∷ claims) claim.place ≡ Some claim) ys
    behind [] differ found = tt
    behind (y ∷ ys) differ found = (
      ap (λ (b : Bool). cond b (Some x) (claim_at claims y.place)) (other-eqb x.place y.place differ.0.places) ∙ found.0,
      behind ys differ.1 found.1,
    )

listed-claims : (w : World) (parts : List PlainPart) (claims : List OpenClaim) → AllByRecursion (λ (claim : OpenClaim). claim_at w.claims claim.place ≡ Some claim) claims
    → AllByRecursion (IsListed w parts) (map (λ claim. Ending claim) claims)
listed-claims w parts [] found = tt
listed-claims w parts (claim ∷ claims) found = (found.0, listed-claims w parts claims found.1)

listed-turns : (w : World) (parts : List PlainPart) (worker : Option ℕ) (submits : List Submission) → AllByRecursion (IsListed w parts) (turning worker submits)
listed-turns w parts None submits = tt
listed-turns w parts (Some worker) [] = tt
listed-turns w parts (Some worker) (s ∷ submits) = (tt, listed-turns w parts (Some worker) submits)

pub all-listed : (c : Configuration) (workers : ℕ) (w : World) (parts : List PlainPart) → EachTwo AreDifferent w.claims → Pairwise (λ a b. a ≢ b) (hosts_in parts) → AllByRecursion IsHost (hosts_in parts)
    → AllByRecursion (IsListed w parts) (actions c workers w parts)
all-listed c workers w parts claims differ hosts =
    each-append (IsListed w parts) (actions_of_hosts w parts ++ map (λ claim. Ending claim) w.claims) (turning (idle_worker w workers) (pickable_among c w))
    (each-append (IsListed w parts) (actions_of_hosts w parts) (map (λ claim. Ending claim) w.claims)
    (listed-hosts w parts differ hosts) (listed-claims w parts w.claims (claims-found w.claims claims)))
    (listed-turns w parts (idle_worker w workers) (pickable_among c w))

-- the chosen one is one of the list
pub chosen : {A : Type 0} (P : A → Type 0) (xs : List A) (k : ℕ) (x : A) → AllByRecursion P xs → slice_get xs k ≡ Some x → P x
chosen P [] k x all e = absurd (none-some x e)
chosen P (y ∷ ys) zero x all e = subst P (some-same y x e) all.0
chosen P (y ∷ ys) (suc k) x all e = chosen P ys k x all.1 e
