-- The standings of the hosts are those of the world: what waits is outstanding, and what was taken never waits again.
use Rattle.std.proofs.Common.{◌≡◌, ◌≢◌, ℕ, ◌+◌, ◌<◌, ◌==◌, Bool, true, false, not, cond, if◌then◌else◌, List, [], ◌∷◌, ◌++◌, map, filter, find, Some, None, refl, sym, ap, ap₂, subst, ◌∙◌, inl, inr, ◌⊎◌, ⊎_elim, arith}
use Rattle.std.specs.List.{AllByRecursion, Contains}
use Rattle.std.proofs.lemmas.Bool.{true≢false}
use Rattle.std.proofs.lemmas.List.Elements.{Contains-append_cases, Contains-append_left, Contains-append_right, filter-append}
use Rattle.cp_base.specs.Configuration.{Configuration}
use Rattle.cp_base.specs.declared.commands.Command.{Command}
use Rattle.history_model.specs.Plain.{Sends, Takes}
use Rattle.history_model.specs.Sent.{Waiting, ordinals_of}
use Rattle.history_model.proofs.Every.{every-All}
use Rattle.trail_model.specs.Accounts.{Account, Outstanding, account_after, account_from, account_in, events_of, first_account, outstanding_in}
use Rattle.trail_model.specs.Each.{EachTwo}
use Rattle.trail_model.specs.Lawful.{IsAllowedIn, IsLawful, Trail, party_of_event, world_of}
use Rattle.trail_model.specs.World.{Submission, World, first_world, ordinal_after, outstanding_of, outstanding_under, world_after}
use Rattle.trail_model.specs.declared.events.Event.{Event}
use Rattle.trail_model.specs.declared.events.Event.TheVariants as event
use Rattle.trail_model.proofs.Accounts.{own-account}
use Rattle.trail_model.proofs.Counts.{beginning-from, rest-from, world-append}
use Rattle.trail_model.proofs.NewSets.{each-filter}
use Rattle.trail_model.proofs.Sound.{is-none}
use Rattle.trail_model.proofs.Submits.{each-append, each-weaker, eqb-same, none-some, other-eqb, same-eqb, some-same, two-push}
use Rattle.schedule_model.proofs.Items.{Standing, after_item, after_items, next_standings}

-- ---- standings by themselves

pub each-contains : {A : Type 0} (P : A → Type 0) (xs : List A) (x : A) → AllByRecursion P xs → Contains xs x → P x
each-contains P xs x all found = subst P found.2 (every-All P xs all found.0 x found.1)

two-filter : {A : Type 0} (R : A → A → Type 0) (test : A → Bool) (xs : List A) → EachTwo R xs → EachTwo R (filter test xs)
two-filter R test [] all = tt
two-filter R test (x ∷ xs) all = by_test (test x) (two-filter R test xs all.1)
  where
    by_test : (b : Bool) → EachTwo R (filter test xs) → EachTwo R (cond b (x ∷ filter test xs) (filter test xs))
    by_test true later = (each-filter (R x) test xs all.0, later)
    by_test false later = later

-- what waits and what was taken are different commands
pub record Apart (a : Standing) : Type 0 where
  pub low : AllByRecursion (λ (w : Waiting). w.ordinal < a.ordinal) a.waiting
  pub below : (t : ℕ) → Contains a.ever t → t < a.ordinal
  pub differ : EachTwo (λ (v w : Waiting). v.ordinal ≢ w.ordinal) a.waiting
  pub cids : EachTwo (λ (v w : Waiting). v.cid ≢ w.cid) a.waiting
  pub untaken : (t : ℕ) → Contains a.ever t → AllByRecursion (λ (w : Waiting). w.ordinal ≢ t) a.waiting
  pub within : (t : ℕ) → Contains a.taken t → Contains a.ever t

apart-sends : (a : Standing) (cid : ℕ) (cmd : Command) → Apart a → AllByRecursion (λ (w : Waiting). w.cid ≢ cid) a.waiting → Apart (after_item a (Sends cid cmd))
apart-sends a cid cmd h free =
    let new : Waiting = record { cid = cid; ordinal = a.ordinal } in
    record {
      low = each-append (λ (w : Waiting). w.ordinal < a.ordinal + 1) a.waiting (new ∷ [])
          (each-weaker (λ (w : Waiting). w.ordinal < a.ordinal) (λ (w : Waiting). w.ordinal < a.ordinal + 1) (λ w less. omega arith) a.waiting h.low) (omega arith, tt);
      below = λ t found. (let less = h.below t found in omega arith);
      differ = two-push (λ (v w : Waiting). v.ordinal ≢ w.ordinal) a.waiting new h.differ
          (each-weaker (λ (w : Waiting). w.ordinal < a.ordinal) (λ (w : Waiting). w.ordinal ≢ a.ordinal) (λ w less same. omega arith) a.waiting h.low);
      cids = two-push (λ (v w : Waiting). v.cid ≢ w.cid) a.waiting new h.cids free;
      untaken = λ t found. each-append (λ (w : Waiting). w.ordinal ≢ t) a.waiting (new ∷ []) (h.untaken t found)
          ((λ same. (let less = h.below t found in omega arith)), tt);
      within = h.within;
    }

ordinals-each : (P : ℕ → Type 0) (cid : ℕ) (waiting : List Waiting) → AllByRecursion (λ (w : Waiting). P w.ordinal) waiting → AllByRecursion P (ordinals_of cid waiting)
ordinals-each P cid [] all = tt
ordinals-each P cid (w ∷ waiting) all = by_test (w.cid == cid) (ordinals-each P cid waiting all.1)
  where
    by_test : (b : Bool) → AllByRecursion P (ordinals_of cid waiting)
        → AllByRecursion P (map (λ (x : Waiting). x.ordinal) (cond b (w ∷ filter (λ (x : Waiting). x.cid == cid) waiting) (filter (λ (x : Waiting). x.cid == cid) waiting)))
    by_test true later = (all.0, later)
    by_test false later = later

taken-apart : (cid : ℕ) (waiting : List Waiting) (t : ℕ) → EachTwo (λ (v w : Waiting). v.ordinal ≢ w.ordinal) waiting → Contains (ordinals_of cid waiting) t
    → AllByRecursion (λ (w : Waiting). w.ordinal ≢ t) (filter (λ (w : Waiting). not (w.cid == cid)) waiting)
taken-apart cid [] t differ found = tt
taken-apart cid (w ∷ waiting) t differ found = by_test (w.cid == cid) found (λ later. taken-apart cid waiting t differ.1 later)
  where
    kept : List Waiting
    kept = filter (λ (x : Waiting). not (x.cid == cid)) waiting

    by_first : (Contains (ordinals_of cid waiting) t → AllByRecursion (λ (x : Waiting). x.ordinal ≢ t) (filter (λ (x : Waiting). not (x.cid == cid)) waiting))
        → (w.ordinal ≡ t) ⊎ Contains (ordinals_of cid waiting) t → AllByRecursion (λ (x : Waiting). x.ordinal ≢ t) (filter (λ (x : Waiting). not (x.cid == cid)) waiting)
    by_first later (inl same) =
        each-filter (λ (x : Waiting). x.ordinal ≢ t) (λ (x : Waiting). not (x.cid == cid)) waiting
        (each-weaker (λ (x : Waiting). w.ordinal ≢ x.ordinal) (λ (x : Waiting). x.ordinal ≢ t) (λ x other e. other (same ∙ sym e)) waiting differ.0)
    by_first later (inr found) = later found

    by_test : (b : Bool) → Contains (map (λ (x : Waiting). x.ordinal) (cond b (w ∷ filter (λ (x : Waiting). x.cid == cid) waiting) (filter (λ (x : Waiting). x.cid == cid) waiting))) t
        → (Contains (ordinals_of cid waiting) t → AllByRecursion (λ (x : Waiting). x.ordinal ≢ t) (filter (λ (x : Waiting). not (x.cid == cid)) waiting))
        → AllByRecursion (λ (x : Waiting). x.ordinal ≢ t) (cond (not b) (w ∷ filter (λ (x : Waiting). not (x.cid == cid)) waiting) (filter (λ (x : Waiting). not (x.cid == cid)) waiting))
    by_test true found later = by_first later (⊎_elim (λ (one : Contains (w.ordinal ∷ []) t). inl (each-contains (λ n. n ≡ t → w.ordinal ≡ t) (w.ordinal ∷ []) t ((λ e. e), tt) one refl)) (λ (more : Contains (ordinals_of cid waiting) t). inr more)
        (Contains-append_cases (w.ordinal ∷ []) (ordinals_of cid waiting) t found))
    by_test false found later =
        (each-contains (λ n. w.ordinal ≢ n) (ordinals_of cid waiting) t (ordinals-each (λ n. w.ordinal ≢ n) cid waiting differ.0) found, later found)

apart-takes : (a : Standing) (cid : ℕ) → Apart a → Apart (after_item a (Takes cid))
apart-takes a cid h =
    let keeps : Waiting → Bool = λ w. not (w.cid == cid) in
    record {
      low = each-filter (λ (w : Waiting). w.ordinal < a.ordinal) keeps a.waiting h.low;
      below = λ t found. ⊎_elim (λ (old : Contains a.ever t). h.below t old)
          (λ (new : Contains (ordinals_of cid a.waiting) t).
          each-contains (λ n. n < a.ordinal) (ordinals_of cid a.waiting) t (ordinals-each (λ n. n < a.ordinal) cid a.waiting h.low) new)
          (Contains-append_cases a.ever (ordinals_of cid a.waiting) t found);
      differ = two-filter (λ (v w : Waiting). v.ordinal ≢ w.ordinal) keeps a.waiting h.differ;
      cids = two-filter (λ (v w : Waiting). v.cid ≢ w.cid) keeps a.waiting h.cids;
      untaken = λ t found. ⊎_elim {C = AllByRecursion (λ (w : Waiting). w.ordinal ≢ t) (filter keeps a.waiting)}
          (λ (old : Contains a.ever t). each-filter (λ (w : Waiting). w.ordinal ≢ t) keeps a.waiting (h.untaken t old))
          (λ (new : Contains (ordinals_of cid a.waiting) t). taken-apart cid a.waiting t h.differ new)
          (Contains-append_cases a.ever (ordinals_of cid a.waiting) t found);
      within = λ t found. ⊎_elim {C = Contains (a.ever ++ ordinals_of cid a.waiting) t}
          (λ (old : Contains a.taken t). Contains-append_left a.ever (ordinals_of cid a.waiting) t (h.within t old))
          (λ (new : Contains (ordinals_of cid a.waiting) t). Contains-append_right a.ever (ordinals_of cid a.waiting) t new)
          (Contains-append_cases a.taken (ordinals_of cid a.waiting) t found);
    }

-- ---- standings and the world

abbrev pub as_waiting : Outstanding → Waiting
as_waiting o = record { cid = o.cid; ordinal = o.ordinal }

pub record Stands (w : World) (A : ℕ → Standing) : Type 0 where
  pub waits : (host : ℕ) → map as_waiting (outstanding_in w.submits host) ≡ (A host).waiting
  pub next : (host : ℕ) → ordinal_after w.submits host ≡ (A host).ordinal
  pub apart : (host : ℕ) → Apart (A host)

from-append : (a : Account) (xs ys : Trail) → account_from a (xs ++ ys) ≡ account_from (account_from a xs) ys
from-append a [] ys = refl
from-append a (x ∷ xs) ys = from-append (account_after a x) xs ys

-- what one event changes in an account
account-step : (c : Configuration) (commands : ℕ) (seen : Trail) (e : Event) (host : ℕ) → IsLawful c commands (seen ++ e ∷ [])
    → account_in (world_after c (world_of c seen) e) host ≡ account_from (account_in (world_of c seen) host) (events_of host (e ∷ []))
account-step c commands seen e host lawful =
    sym (ap (λ (w : World). account_in w host) (world-append c (first_world c) seen (e ∷ [])))
    ∙ (sym (own-account c commands (seen ++ e ∷ []) host lawful)
    ∙ (ap (λ (xs : Trail). account_from first_account xs) (filter-append (λ (x : Event). party_of_event x == host) seen (e ∷ []))
    ∙ (from-append first_account (events_of host seen) (events_of host (e ∷ []))
    ∙ ap (λ (a : Account). account_from a (events_of host (e ∷ []))) (own-account c commands seen host (beginning-from c commands (first_world c) seen (e ∷ []) lawful)))))

map-push : (xs ys : List Outstanding) → map as_waiting (xs ++ ys) ≡ map as_waiting xs ++ map as_waiting ys
map-push [] ys = refl
map-push (x ∷ xs) ys = ap (λ (ws : List Waiting). as_waiting x ∷ ws) (map-push xs ys)

map-without : (cid : ℕ) (xs : List Outstanding) → map as_waiting (filter (λ (o : Outstanding). not (o.cid == cid)) xs) ≡ filter (λ (w : Waiting). not (w.cid == cid)) (map as_waiting xs)
map-without cid [] = refl
map-without cid (x ∷ xs) = by_test (not (x.cid == cid)) (map-without cid xs)
  where
    by_test : (b : Bool) → map as_waiting (filter (λ (o : Outstanding). not (o.cid == cid)) xs) ≡ filter (λ (w : Waiting). not (w.cid == cid)) (map as_waiting xs)
        → map as_waiting (cond b (x ∷ filter (λ (o : Outstanding). not (o.cid == cid)) xs) (filter (λ (o : Outstanding). not (o.cid == cid)) xs))
        ≡ cond b (as_waiting x ∷ filter (λ (w : Waiting). not (w.cid == cid)) (map as_waiting xs)) (filter (λ (w : Waiting). not (w.cid == cid)) (map as_waiting xs))
    by_test true later = ap (λ (ws : List Waiting). as_waiting x ∷ ws) later
    by_test false later = later

abbrev own : Submission → Outstanding
own s = record { cid = s.request.cid; ordinal = s.request.ordinal }

not-busy : (xs : List Submission) (cid : ℕ) → find (λ (s : Submission). s.request.cid == cid) xs ≡ None → AllByRecursion (λ (w : Waiting). w.cid ≢ cid) (map as_waiting (map own xs))
not-busy [] cid e = tt
not-busy (x ∷ xs) cid e = by_test (x.request.cid == cid) refl e (not-busy xs cid)
  where
    by_test : (b : Bool) → (x.request.cid == cid) ≡ b → cond b (Some x) (find (λ (s : Submission). s.request.cid == cid) xs) ≡ None
        → (find (λ (s : Submission). s.request.cid == cid) xs ≡ None → AllByRecursion (λ (w : Waiting). w.cid ≢ cid) (map as_waiting (map own xs)))
        → (x.request.cid ≢ cid) × AllByRecursion (λ (w : Waiting). w.cid ≢ cid) (map as_waiting (map own xs))
    by_test true h e later = absurd (none-some x (sym e))
    by_test false h e later = ((λ same. true≢false (sym (same-eqb x.request.cid cid same) ∙ h)), later e)

-- the standing of a host in a world by an account
pub record StandsBy (a : Account) (s : Standing) : Type 0 where
  pub waits : map as_waiting a.outstanding ≡ s.waiting
  pub next : a.next ≡ s.ordinal
  pub apart : Apart s

one-stands : (c : Configuration) (commands : ℕ) (w : World) (A : ℕ → Standing) (e : Event) (host : ℕ) → Stands w A → IsAllowedIn c commands w e
    → StandsBy (account_from (account_in w host) (events_of host (e ∷ []))) (next_standings A e host)
one-stands c commands w A (event.Submit by cid ordinal cmd) host h allowed = by_host (by == host) refl
  where
    by_host : (b : Bool) → (by == host) ≡ b
        → StandsBy (account_from (account_in w host) (cond b (event.Submit by cid ordinal cmd ∷ []) [])) (after_items (A host) (if b then Sends cid cmd ∷ [] else []))
    by_host true same =
        let here : by ≡ host = eqb-same by host same in
        let number : ordinal ≡ (A host).ordinal = allowed.next ∙ (ap (λ (n : ℕ). ordinal_after w.submits n) here ∙ h.next host) in
        let new : Outstanding = record { cid = cid; ordinal = ordinal } in
        record {
          waits = map-push (outstanding_in w.submits host) (new ∷ [])
              ∙ ap₂ (λ (xs : List Waiting) (n : ℕ). xs ++ (let v : Waiting = record { cid = cid; ordinal = n } in v) ∷ []) (h.waits host) number;
          next = ap (λ (n : ℕ). n + 1) (h.next host);
          apart = apart-sends (A host) cid cmd (h.apart host)
              (subst (λ (ws : List Waiting). AllByRecursion (λ (v : Waiting). v.cid ≢ cid) ws) (h.waits host)
              (not-busy (outstanding_of w.submits host) cid
              (subst (λ (n : ℕ). outstanding_under w.submits n cid ≡ None) here (is-none (outstanding_under w.submits by cid) allowed.not_busy))));
        }
    by_host false other = record { waits = h.waits host; next = h.next host; apart = h.apart host }
one-stands c commands w A (event.Claim by other ordinal sent) host h allowed = by_host (by == host)
  where
    by_host : (b : Bool) → StandsBy (account_from (account_in w host) (cond b (event.Claim by other ordinal sent ∷ []) [])) (A host)
    by_host true = record { waits = h.waits host; next = h.next host; apart = h.apart host }
    by_host false = record { waits = h.waits host; next = h.next host; apart = h.apart host }
one-stands c commands w A (event.Finish by claim answer) host h allowed = by_host (by == host)
  where
    by_host : (b : Bool) → StandsBy (account_from (account_in w host) (cond b (event.Finish by claim answer ∷ []) [])) (A host)
    by_host true = record { waits = h.waits host; next = h.next host; apart = h.apart host }
    by_host false = record { waits = h.waits host; next = h.next host; apart = h.apart host }
one-stands c commands w A (event.Do by other ordinal sent answer aborts) host h allowed = by_host (by == host)
  where
    by_host : (b : Bool) → StandsBy (account_from (account_in w host) (cond b (event.Do by other ordinal sent answer aborts ∷ []) [])) (A host)
    by_host true = record { waits = h.waits host; next = h.next host; apart = h.apart host }
    by_host false = record { waits = h.waits host; next = h.next host; apart = h.apart host }
one-stands c commands w A (event.Take by cid posted) host h allowed = by_host (by == host)
  where
    by_host : (b : Bool) → StandsBy (account_from (account_in w host) (cond b (event.Take by cid posted ∷ []) [])) (after_items (A host) (if b then Takes cid ∷ [] else []))
    by_host true = record {
      waits = map-without cid (outstanding_in w.submits host) ∙ ap (λ (ws : List Waiting). filter (λ (v : Waiting). not (v.cid == cid)) ws) (h.waits host);
      next = h.next host;
      apart = apart-takes (A host) cid (h.apart host);
    }
    by_host false = record { waits = h.waits host; next = h.next host; apart = h.apart host }
one-stands c commands w A (event.Rest by) host h allowed = by_host (by == host)
  where
    by_host : (b : Bool) → StandsBy (account_from (account_in w host) (cond b (event.Rest by ∷ []) [])) (A host)
    by_host true = record { waits = h.waits host; next = h.next host; apart = h.apart host }
    by_host false = record { waits = h.waits host; next = h.next host; apart = h.apart host }

pub stands-step : (c : Configuration) (commands : ℕ) (seen : Trail) (A : ℕ → Standing) (e : Event) → Stands (world_of c seen) A → IsLawful c commands (seen ++ e ∷ [])
    → Stands (world_after c (world_of c seen) e) (next_standings A e)
stands-step c commands seen A e h lawful =
    let allowed = (rest-from c commands (first_world c) seen (e ∷ []) lawful).0 in
    let one : (host : ℕ) → StandsBy (account_in (world_after c (world_of c seen) e) host) (next_standings A e host) =
    λ host. subst (λ (a : Account). StandsBy a (next_standings A e host)) (sym (account-step c commands seen e host lawful)) (one-stands c commands (world_of c seen) A e host h allowed) in
    record { waits = λ host. (one host).waits; next = λ host. (one host).next; apart = λ host. (one host).apart }

-- ---- what is found under an identifier is the only one there

no-ordinals : (cid : ℕ) (waiting : List Waiting) → AllByRecursion (λ (w : Waiting). cid ≢ w.cid) waiting → ordinals_of cid waiting ≡ []
no-ordinals cid [] all = refl
no-ordinals cid (w ∷ waiting) all =
    ap (λ (b : Bool). map (λ (x : Waiting). x.ordinal) (cond b (w ∷ filter (λ (x : Waiting). x.cid == cid) waiting) (filter (λ (x : Waiting). x.cid == cid) waiting)))
    (other-eqb w.cid cid (λ e. all.0 (sym e))) ∙ no-ordinals cid waiting all.1

pub one-under : (xs : List Submission) (cid : ℕ) (s : Submission) → EachTwo (λ (v w : Waiting). v.cid ≢ w.cid) (map as_waiting (map own xs))
    → find (λ (x : Submission). x.request.cid == cid) xs ≡ Some s → ordinals_of cid (map as_waiting (map own xs)) ≡ s.request.ordinal ∷ []
one-under [] cid s differ e = absurd (none-some s e)
one-under (x ∷ xs) cid s differ e = by_test (x.request.cid == cid) refl e (one-under xs cid s differ.1)
  where
    by_test : (b : Bool) → (x.request.cid == cid) ≡ b → cond b (Some x) (find (λ (y : Submission). y.request.cid == cid) xs) ≡ Some s
        → (find (λ (y : Submission). y.request.cid == cid) xs ≡ Some s → ordinals_of cid (map as_waiting (map own xs)) ≡ s.request.ordinal ∷ [])
        → map (λ (w : Waiting). w.ordinal) (cond b (as_waiting (own x) ∷ filter (λ (w : Waiting). w.cid == cid) (map as_waiting (map own xs))) (filter (λ (w : Waiting). w.cid == cid) (map as_waiting (map own xs))))
        ≡ s.request.ordinal ∷ []
    by_test true h e later =
        let here : x.request.cid ≡ cid = eqb-same x.request.cid cid h in
        ap (λ (ns : List ℕ). x.request.ordinal ∷ ns) (no-ordinals cid (map as_waiting (map own xs))
        (each-weaker (λ (w : Waiting). x.request.cid ≢ w.cid) (λ (w : Waiting). cid ≢ w.cid) (λ w other same. other (here ∙ same)) (map as_waiting (map own xs)) differ.0))
        ∙ ap (λ (y : Submission). y.request.ordinal ∷ []) (some-same x s e)
    by_test false h e later = later e
