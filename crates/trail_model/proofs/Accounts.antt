-- A party's own events tell its next ordinal, its outstanding commands, what its Aborts name, and its open claim.
use Rattle.std.proofs.Common.{◌≡◌, ◌≢◌, ℕ, ◌+◌, ◌<◌, ◌==◌, Bool, true, false, not, cond, List, [], ◌∷◌, ◌++◌, append-nil, length, length-append, map, filter, find, Option, Some, None, option_map, is_none, refl, sym, ap, subst, ◌∙◌, inl, inr, ◌⊎◌, ⊎_elim, arith, if◌then◌else◌}
use Rattle.std.specs.List.{AllByRecursion}
use Rattle.std.proofs.lemmas.Bool.{true≢false}
use Rattle.cp_base.specs.Answer.{Answer}
use Rattle.cp_base.specs.Configuration.{Configuration}
use Rattle.cp_base.specs.declared.commands.Command.{Command}
use Rattle.trail_model.specs.Accounts.{Account, ClaimedCommand, Naming, Outstanding, account_after, account_from, account_in, account_of, events_of, names_in, naming_of, outstanding_in}
use Rattle.trail_model.specs.Each.{EachTwo}
use Rattle.trail_model.specs.Lawful.{IsAllowedIn, IsLawful, IsLawfulFrom, MayClaim, MayDo, MayFinish, Trail, party_of_event, world_from, world_of}
use Rattle.trail_model.specs.Linked.{AreDifferent, ClaimLinked, IsLinked, requests_of}
use Rattle.trail_model.specs.World.{OpenClaim, Posted, Queued, Request, Stage, Submission, Taken, Working, World, claim_at, claim_by, claim_of, first_world, is_posted_at, is_queued, is_taken_off, ordinal_after, outstanding_of, outstanding_under, request_of, staged, staged_if, submit_at, submits_of, with_claim, with_done, with_finish, with_take, withdrawn_place, without_claim, world_after}
use Rattle.trail_model.specs.declared.events.Event.{Event}
use Rattle.trail_model.specs.declared.events.Event.TheVariants as event
use Rattle.trail_model.proofs.Counts.{asked_by, requests-after}
use Rattle.trail_model.proofs.Linked.{Works, found-under, same-cases, self-found, under-each}
use Rattle.trail_model.proofs.Moving.{linked-first, linked-step, withdrawn-queued}
use Rattle.trail_model.proofs.Naming.{count-stays, names-stay, names-submit, submits-append}
use Rattle.trail_model.proofs.NewSets.{each-filter}
use Rattle.trail_model.proofs.Sound.{is-none, some-and}
use Rattle.trail_model.proofs.Staying.{claim_by-without}
use Rattle.trail_model.proofs.Submits.{claim-place, each-weaker, eqb-same, find-new, found-each, none-some, other-eqb, restaged, same-eqb, some-same, staged-at, staged-other, submit-place, two-push}

-- ---- outstanding commands

abbrev own : Submission → Outstanding
own s = record { cid = s.request.cid; ordinal = s.request.ordinal }

outstanding-append : (xs ys : List Submission) (host : ℕ) → outstanding_in (xs ++ ys) host ≡ outstanding_in xs host ++ outstanding_in ys host
outstanding-append [] ys host = refl
outstanding-append (x ∷ xs) ys host = by_tests (x.request.host == host) (not (is_taken_off x.stage)) (outstanding-append xs ys host)
  where
    by_tests : (b b' : Bool) → outstanding_in (xs ++ ys) host ≡ outstanding_in xs host ++ outstanding_in ys host
        → map own (filter (λ (s : Submission). not (is_taken_off s.stage)) (cond b (x ∷ submits_of (xs ++ ys) host) (submits_of (xs ++ ys) host)))
        ≡ map own (filter (λ (s : Submission). not (is_taken_off s.stage)) (cond b (x ∷ submits_of xs host) (submits_of xs host))) ++ outstanding_in ys host
    by_tests false b' later = later
    by_tests true b' later = by_stage (not (is_taken_off x.stage)) later
      where
        by_stage : (b : Bool) → outstanding_in (xs ++ ys) host ≡ outstanding_in xs host ++ outstanding_in ys host
            → map own (cond b (x ∷ outstanding_of (xs ++ ys) host) (outstanding_of (xs ++ ys) host))
            ≡ map own (cond b (x ∷ outstanding_of xs host) (outstanding_of xs host)) ++ outstanding_in ys host
        by_stage true later = ap (λ (os : List Outstanding). own x ∷ os) later
        by_stage false later = later

-- a submit that comes further changes no list of outstanding commands, where it is another host's or is not taken
one-outstanding : (s : Submission) (stage : Stage) (host : ℕ) → (s.request.host ≡ host → ⊥) ⊎ ((is_taken_off s.stage ≡ false) × (is_taken_off stage ≡ false))
    → outstanding_in ((let t : Submission = record s { stage = stage } in t) ∷ []) host ≡ outstanding_in (s ∷ []) host
one-outstanding s stage host (inl other) =
    let no : (s.request.host == host) ≡ false = other-eqb s.request.host host other in
    let t : Submission = record s { stage = stage } in
    ap (λ (b : Bool). map own (filter (λ (x : Submission). not (is_taken_off x.stage)) (cond b (t ∷ []) []))) no
    ∙ sym (ap (λ (b : Bool). map own (filter (λ (x : Submission). not (is_taken_off x.stage)) (cond b (s ∷ []) []))) no)
one-outstanding s stage host (inr (before, after)) = by_host (s.request.host == host)
  where
    t : Submission
    t = record s { stage = stage }

    by_host : (b : Bool) → map own (filter (λ (x : Submission). not (is_taken_off x.stage)) (cond b ((let t : Submission = record s { stage = stage } in t) ∷ []) []))
        ≡ map own (filter (λ (x : Submission). not (is_taken_off x.stage)) (cond b (s ∷ []) []))
    by_host false = refl
    by_host true =
        ap (λ (b : Bool). map own (cond (not b) ((let t : Submission = record s { stage = stage } in t) ∷ []) [])) after
        ∙ sym (ap (λ (b : Bool). map own (cond (not b) (s ∷ []) [])) before)

outstanding-staged : (submits : List Submission) (place : ℕ) (stage : Stage) (s : Submission) (host : ℕ) → submit_at submits place ≡ Some s
    → (s.request.host ≡ host → ⊥) ⊎ ((is_taken_off s.stage ≡ false) × (is_taken_off stage ≡ false)) → outstanding_in (staged place stage submits) host ≡ outstanding_in submits host
outstanding-staged submits place stage s host found why =
    let h = restaged place stage submits s found in
    let t : Submission = record s { stage = stage } in
    ap (λ (xs : List Submission). outstanding_in xs host) h.after
    ∙ (outstanding-append h.front (t ∷ h.back) host
    ∙ (ap (λ (os : List Outstanding). outstanding_in h.front host ++ os) (outstanding-append (t ∷ []) h.back host)
    ∙ (ap (λ (os : List Outstanding). outstanding_in h.front host ++ (os ++ outstanding_in h.back host)) (one-outstanding s stage host why)
    ∙ (sym (ap (λ (os : List Outstanding). outstanding_in h.front host ++ os) (outstanding-append (s ∷ []) h.back host))
    ∙ (sym (outstanding-append h.front (s ∷ h.back) host)
    ∙ sym (ap (λ (xs : List Submission). outstanding_in xs host) h.before))))))

-- ---- a take

filter-all : {A : Type 0} (test : A → Bool) (xs : List A) → AllByRecursion (λ x. test x ≡ true) xs → filter test xs ≡ xs
filter-all test [] all = refl
filter-all test (x ∷ xs) all = ap (λ (b : Bool). cond b (x ∷ filter test xs) (filter test xs)) all.0 ∙ ap (λ ys. x ∷ ys) (filter-all test xs all.1)

-- outstanding identifiers differ
abbrev pub DifferByCid : Outstanding → Outstanding → Type 0
DifferByCid a b = a.cid ≢ b.cid

abbrev keeps : ℕ → Outstanding → Bool
keeps cid o = not (o.cid == cid)

taken-outstanding : (submits : List Submission) (host cid : ℕ) (s : Submission) → EachTwo (λ (a b : Request). a.place < b.place) (requests_of submits)
    → EachTwo DifferByCid (outstanding_in submits host) → outstanding_under submits host cid ≡ Some s
    → outstanding_in (staged s.request.place Taken submits) host ≡ filter (keeps cid) (outstanding_in submits host)
taken-outstanding [] host cid s order differ e = absurd (none-some s e)
taken-outstanding (x ∷ submits) host cid s order differ e =
    by_host (x.request.host == host) refl differ e (λ d f. taken-outstanding submits host cid s order.1 d f)
  where
    -- a later submit has another place
    behind : outstanding_under submits host cid ≡ Some s → (x.request.place == s.request.place) ≡ false
    behind found = other-eqb x.request.place s.request.place
        (λ same. let less = under-each (λ (y : Submission). x.request.place < y.request.place) submits host cid s (each-place submits order.0) found in omega arith)
      where
        each-place : (ys : List Submission) → AllByRecursion (λ (r : Request). x.request.place < r.place) (requests_of ys)
            → AllByRecursion (λ (y : Submission). x.request.place < y.request.place) ys
        each-place [] all = tt
        each-place (y ∷ ys) all = (all.0, each-place ys all.1)

    skipped : (x.request.place == s.request.place) ≡ false
        → outstanding_in (staged s.request.place Taken (x ∷ submits)) host ≡ outstanding_in (x ∷ staged s.request.place Taken submits) host
    skipped differs = ap (λ (b : Bool). outstanding_in (if b then (let t : Submission = record x { stage = Taken } in t) ∷ submits else x ∷ staged s.request.place Taken submits) host) differs

    gone : (x.request.place == s.request.place) ≡ true → outstanding_in (staged s.request.place Taken (x ∷ submits)) host ≡ outstanding_in submits host
    gone agrees =
        ap (λ (b : Bool). outstanding_in (if b then (let t : Submission = record x { stage = Taken } in t) ∷ submits else x ∷ staged s.request.place Taken submits) host) agrees
        ∙ dropped (x.request.host == host)
      where
        dropped : (b : Bool)
            → map own (filter (λ (y : Submission). not (is_taken_off y.stage)) (cond b ((let t : Submission = record x { stage = Taken } in t) ∷ submits_of submits host) (submits_of submits host)))
            ≡ outstanding_in submits host
        dropped true = refl
        dropped false = refl

    by_cid : (b : Bool) → (x.request.cid == cid) ≡ b → AllByRecursion (DifferByCid (own x)) (outstanding_in submits host) → EachTwo DifferByCid (outstanding_in submits host)
        → cond b (Some x) (outstanding_under submits host cid) ≡ Some s
        → (outstanding_under submits host cid ≡ Some s → outstanding_in (staged s.request.place Taken submits) host ≡ filter (keeps cid) (outstanding_in submits host))
        → (outstanding_in (x ∷ staged s.request.place Taken submits) host ≡ own x ∷ outstanding_in (staged s.request.place Taken submits) host)
        → outstanding_in (staged s.request.place Taken (x ∷ submits)) host ≡ cond (not b) (own x ∷ filter (keeps cid) (outstanding_in submits host)) (filter (keeps cid) (outstanding_in submits host))
    by_cid true h first two e later shown =
        let same : x ≡ s = some-same x s e in
        let cids : x.request.cid ≡ cid = eqb-same x.request.cid cid h in
        gone (same-eqb x.request.place s.request.place (ap (λ (y : Submission). y.request.place) same))
        ∙ sym (filter-all (keeps cid) (outstanding_in submits host)
        (each-weaker (DifferByCid (own x)) (λ (o : Outstanding). keeps cid o ≡ true)
        (λ o other. ap not (other-eqb o.cid cid (λ f. other (cids ∙ sym f)))) (outstanding_in submits host) first))
    by_cid false h first two e later shown =
        skipped (behind e) ∙ (shown ∙ ap (λ (os : List Outstanding). own x ∷ os) (later e))

    by_stage : (b : Bool) → not (is_taken_off x.stage) ≡ b → (x.request.host == host) ≡ true
        → EachTwo DifferByCid (map own (cond b (x ∷ outstanding_of submits host) (outstanding_of submits host)))
        → find (λ (y : Submission). y.request.cid == cid) (cond b (x ∷ outstanding_of submits host) (outstanding_of submits host)) ≡ Some s
        → (EachTwo DifferByCid (outstanding_in submits host) → outstanding_under submits host cid ≡ Some s
        → outstanding_in (staged s.request.place Taken submits) host ≡ filter (keeps cid) (outstanding_in submits host))
        → outstanding_in (staged s.request.place Taken (x ∷ submits)) host ≡ filter (keeps cid) (map own (cond b (x ∷ outstanding_of submits host) (outstanding_of submits host)))
    by_stage true k hosts differ e later =
        by_cid (x.request.cid == cid) refl differ.0 differ.1 e (later differ.1)
        (ap (λ (b : Bool). map own (filter (λ (y : Submission). not (is_taken_off y.stage)) (cond b (x ∷ submits_of (staged s.request.place Taken submits) host) (submits_of (staged s.request.place Taken submits) host)))) hosts
        ∙ ap (λ (b : Bool). map own (cond b (x ∷ outstanding_of (staged s.request.place Taken submits) host) (outstanding_of (staged s.request.place Taken submits) host))) k)
    by_stage false k hosts differ e later =
        skipped (behind e)
        ∙ (ap (λ (b : Bool). map own (filter (λ (y : Submission). not (is_taken_off y.stage)) (cond b (x ∷ submits_of (staged s.request.place Taken submits) host) (submits_of (staged s.request.place Taken submits) host)))) hosts
        ∙ (ap (λ (b : Bool). map own (cond b (x ∷ outstanding_of (staged s.request.place Taken submits) host) (outstanding_of (staged s.request.place Taken submits) host))) k
        ∙ later differ e))

    by_host : (b : Bool) → (x.request.host == host) ≡ b
        → EachTwo DifferByCid (map own (filter (λ (y : Submission). not (is_taken_off y.stage)) (cond b (x ∷ submits_of submits host) (submits_of submits host))))
        → find (λ (y : Submission). y.request.cid == cid) (filter (λ (y : Submission). not (is_taken_off y.stage)) (cond b (x ∷ submits_of submits host) (submits_of submits host))) ≡ Some s
        → (EachTwo DifferByCid (outstanding_in submits host) → outstanding_under submits host cid ≡ Some s
        → outstanding_in (staged s.request.place Taken submits) host ≡ filter (keeps cid) (outstanding_in submits host))
        → outstanding_in (staged s.request.place Taken (x ∷ submits)) host
        ≡ filter (keeps cid) (map own (filter (λ (y : Submission). not (is_taken_off y.stage)) (cond b (x ∷ submits_of submits host) (submits_of submits host))))
    by_host true h differ e later = by_stage (not (is_taken_off x.stage)) refl h differ e later
    by_host false h differ e later =
        skipped (behind e)
        ∙ (ap (λ (b : Bool). map own (filter (λ (y : Submission). not (is_taken_off y.stage)) (cond b (x ∷ submits_of (staged s.request.place Taken submits) host) (submits_of (staged s.request.place Taken submits) host)))) h
        ∙ later differ e)

-- ---- the account after each event

-- the claim of a party by its name
abbrev name_of : OpenClaim → ClaimedCommand
name_of claim = record { host = claim.request.host; ordinal = claim.request.ordinal; sent = claim.request.place }

-- an account from its parts
abbrev made : ℕ → List Outstanding → List Naming → Option ClaimedCommand → Account
made next outstanding names claim = record { next = next; outstanding = outstanding; names = names; claim = claim }

-- the account of a party in a world whose submits ask for the same
same-account : (old new : World) (party : ℕ) → requests_of new.submits ≡ requests_of old.submits → outstanding_in new.submits party ≡ outstanding_in old.submits party
    → claim_by new.claims party ≡ claim_by old.claims party → account_in new party ≡ account_in old party
same-account old new party requests outstanding claims =
    let n : ordinal_after new.submits party ≡ ordinal_after old.submits party = ap (λ (k : ℕ). k + 1) (count-stays old.submits new.submits party requests) in
    let m : names_in new.submits party new.submits ≡ names_in old.submits party old.submits = names-stay old.submits new.submits party requests in
    let d : option_map name_of (claim_by new.claims party) ≡ option_map name_of (claim_by old.claims party) = ap (λ (o : Option OpenClaim). option_map name_of o) claims in
    λ i. record { next = n i; outstanding = outstanding i; names = m i; claim = d i }

-- whose event it is
abbrev Accounted : Configuration → World → Event → ℕ → Type 0
Accounted c w e party =
    account_in (world_after c w e) party ≡ (if party_of_event e == party then account_after (account_in w party) e else account_in w party)

no-requests : (c : Configuration) (w : World) (e : Event) → asked_by w e ≡ [] → requests_of (world_after c w e).submits ≡ requests_of w.submits
no-requests c w e none = requests-after c w e ∙ (ap (λ (rs : List Request). requests_of w.submits ++ rs) none ∙ append-nil (requests_of w.submits))

-- ---- a submit

submit-accounted : (c : Configuration) (w : World) (by cid ordinal : ℕ) (cmd : Command) (party : ℕ) → IsLinked w → Accounted c w (event.Submit by cid ordinal cmd) party
submit-accounted c w by cid ordinal cmd party linked = by_party (by == party) refl
  where
    by_party : (b : Bool) → (by == party) ≡ b
        → account_in (world_after c w (event.Submit by cid ordinal cmd)) party ≡ (if b then account_after (account_in w party) (event.Submit by cid ordinal cmd) else account_in w party)
    by_party true h =
        let same : by ≡ party = eqb-same by party h in
        let t : Submission = record { request = request_of w by cid ordinal cmd; stage = Queued } in
        let one : submits_of (t ∷ []) party ≡ t ∷ [] = ap (λ (b : Bool). cond b (t ∷ []) []) h in
        let count : length (submits_of (w.submits ++ t ∷ []) party) ≡ length (submits_of w.submits party) + 1 =
        ap length (submits-append w.submits (t ∷ []) party) ∙ (length-append (submits_of w.submits party) (submits_of (t ∷ []) party)
        ∙ ap (λ (xs : List Submission). length (submits_of w.submits party) + length xs) one) in
        let n : ordinal_after (w.submits ++ t ∷ []) party ≡ ordinal_after w.submits party + 1 = ap (λ (k : ℕ). k + 1) count in
        let o : outstanding_in (w.submits ++ t ∷ []) party ≡ outstanding_in w.submits party ++ own t ∷ [] =
        outstanding-append w.submits (t ∷ []) party
        ∙ ap (λ (b : Bool). outstanding_in w.submits party ++ map own (filter (λ (s : Submission). not (is_taken_off s.stage)) (cond b (t ∷ []) []))) h in
        let m : names_in (w.submits ++ t ∷ []) party (w.submits ++ t ∷ []) ≡ names_in w.submits party w.submits ++ naming_of (outstanding_in w.submits party) ordinal cmd =
        names-submit w by cid ordinal cmd party linked
        ∙ (ap (λ (b : Bool). names_in w.submits party w.submits ++ (if b then naming_of (outstanding_in w.submits by) ordinal cmd else [])) h
        ∙ ap (λ (p : ℕ). names_in w.submits party w.submits ++ naming_of (outstanding_in w.submits p) ordinal cmd) same) in
        λ i. record { next = n i; outstanding = o i; names = m i; claim = option_map name_of (claim_by w.claims party) }
    by_party false h =
        let t : Submission = record { request = request_of w by cid ordinal cmd; stage = Queued } in
        let none : submits_of (t ∷ []) party ≡ [] = ap (λ (b : Bool). cond b (t ∷ []) []) h in
        let count : length (submits_of (w.submits ++ t ∷ []) party) ≡ length (submits_of w.submits party) =
        ap length (submits-append w.submits (t ∷ []) party ∙ (ap (λ (xs : List Submission). submits_of w.submits party ++ xs) none ∙ append-nil (submits_of w.submits party))) in
        let n : ordinal_after (w.submits ++ t ∷ []) party ≡ ordinal_after w.submits party = ap (λ (k : ℕ). k + 1) count in
        let o : outstanding_in (w.submits ++ t ∷ []) party ≡ outstanding_in w.submits party =
        outstanding-append w.submits (t ∷ []) party
        ∙ (ap (λ (b : Bool). outstanding_in w.submits party ++ map own (filter (λ (s : Submission). not (is_taken_off s.stage)) (cond b (t ∷ []) []))) h
        ∙ append-nil (outstanding_in w.submits party)) in
        let m : names_in (w.submits ++ t ∷ []) party (w.submits ++ t ∷ []) ≡ names_in w.submits party w.submits =
        names-submit w by cid ordinal cmd party linked
        ∙ (ap (λ (b : Bool). names_in w.submits party w.submits ++ (if b then naming_of (outstanding_in w.submits by) ordinal cmd else [])) h
        ∙ append-nil (names_in w.submits party w.submits)) in
        λ i. record { next = n i; outstanding = o i; names = m i; claim = option_map name_of (claim_by w.claims party) }

-- ---- stages

queued-untaken : (stage : Stage) → is_queued stage ≡ true → is_taken_off stage ≡ false
queued-untaken Queued e = refl
queued-untaken Working e = refl
queued-untaken (Posted p) e = refl
queued-untaken Taken e = absurd (true≢false (sym e))

if-same : {A : Type 0} (b : Bool) (x y z : A) → x ≡ z → y ≡ z → (if b then x else y) ≡ z
if-same true x y z e f = e
if-same false x y z e f = f

-- ---- a claim

claim-accounted : (c : Configuration) (w : World) (by host ordinal sent : ℕ) (party : ℕ) → IsAllowedIn c 0 w (event.Claim by host ordinal sent) → Accounted c w (event.Claim by host ordinal sent) party
claim-accounted c w by host ordinal sent party allowed =
    by_found (some-and (λ (s : Submission). MayClaim c w by host ordinal s) (submit_at w.submits sent) allowed)
  where
    by_found : (s : Submission) × (submit_at w.submits sent ≡ Some s) × MayClaim c w by host ordinal s → Accounted c w (event.Claim by host ordinal sent) party
    by_found (s, found, may) =
        let new : OpenClaim = claim_of c w by s.request in
        let at : s.request.place ≡ sent = submit-place w.submits sent s found in
        let here : submit_at w.submits s.request.place ≡ Some s = subst (λ (p : ℕ). submit_at w.submits p ≡ Some s) (sym at) found in
        let requests = no-requests c w (event.Claim by host ordinal sent) refl in
        let outstanding : outstanding_in (world_after c w (event.Claim by host ordinal sent)).submits party ≡ outstanding_in w.submits party =
        ap (λ (o : Option Submission). outstanding_in (with_claim c w by o).submits party) found
        ∙ outstanding-staged w.submits s.request.place Working s party here (inr (queued-untaken s.stage may.turn.queued, refl)) in
        let claims : (world_after c w (event.Claim by host ordinal sent)).claims ≡ w.claims ++ new ∷ [] = ap (λ (o : Option Submission). (with_claim c w by o).claims) found in
        by_party (by == party) refl new requests outstanding claims (named s may at) may.turn.idle
      where
        named : (s : Submission) → MayClaim c w by host ordinal s → s.request.place ≡ sent
            → name_of (claim_of c w by s.request) ≡ (let n : ClaimedCommand = record { host = host; ordinal = ordinal; sent = sent } in n)
        named s may at = λ i. record { host = may.turn.same_host i; ordinal = may.turn.same_ordinal i; sent = at i }

        by_party : (b : Bool) → (by == party) ≡ b → (new : OpenClaim)
            → requests_of (world_after c w (event.Claim by host ordinal sent)).submits ≡ requests_of w.submits
            → outstanding_in (world_after c w (event.Claim by host ordinal sent)).submits party ≡ outstanding_in w.submits party
            → (world_after c w (event.Claim by host ordinal sent)).claims ≡ w.claims ++ claim_of c w by s.request ∷ []
            → name_of (claim_of c w by s.request) ≡ (let n : ClaimedCommand = record { host = host; ordinal = ordinal; sent = sent } in n)
            → is_none (claim_by w.claims by) ≡ true
            → account_in (world_after c w (event.Claim by host ordinal sent)) party
            ≡ (if b then account_after (account_in w party) (event.Claim by host ordinal sent) else account_in w party)
        by_party true h new requests outstanding claims named idle =
            let same : by ≡ party = eqb-same by party h in
            let free : claim_by w.claims party ≡ None = subst (λ (p : ℕ). claim_by w.claims p ≡ None) same (is-none (claim_by w.claims by) idle) in
            let n : ordinal_after (world_after c w (event.Claim by host ordinal sent)).submits party ≡ ordinal_after w.submits party =
            ap (λ (k : ℕ). k + 1) (count-stays w.submits (world_after c w (event.Claim by host ordinal sent)).submits party requests) in
            let m = names-stay w.submits (world_after c w (event.Claim by host ordinal sent)).submits party requests in
            let d : option_map name_of (claim_by (world_after c w (event.Claim by host ordinal sent)).claims party) ≡ Some (let x : ClaimedCommand = record { host = host; ordinal = ordinal; sent = sent } in x) =
            ap (λ (cs : List OpenClaim). option_map name_of (claim_by cs party)) claims
            ∙ (ap (λ (o : Option OpenClaim). option_map name_of o) (find-new (λ (x : OpenClaim). x.party == party) w.claims (claim_of c w by s.request) free h)
            ∙ ap (λ (x : ClaimedCommand). Some x) named) in
            λ i. record { next = n i; outstanding = outstanding i; names = m i; claim = d i }
        by_party false h new requests outstanding claims named idle =
            same-account w (world_after c w (event.Claim by host ordinal sent)) party requests outstanding
            (ap (λ (cs : List OpenClaim). claim_by cs party) claims ∙ find-other w.claims)
          where
            find-other : (cs : List OpenClaim) → claim_by (cs ++ claim_of c w by s.request ∷ []) party ≡ claim_by cs party
            find-other [] = ap (λ (b : Bool). cond b (Some (claim_of c w by s.request)) None) h
            find-other (x ∷ cs) = ap (λ (o : Option OpenClaim). cond (x.party == party) (Some x) o) (find-other cs)

-- ---- a finish

-- the party of a claim that is over has none
over-none : (claims : List OpenClaim) (place : ℕ) (claim : OpenClaim) → EachTwo AreDifferent claims → claim_at claims place ≡ Some claim
    → claim_by (without_claim place claims) claim.party ≡ None
over-none [] place claim two found = refl
over-none (x ∷ claims) place claim two found = by_test (x.place == place) found (over-none claims place claim two.1)
  where
    none-of : (cs : List OpenClaim) (party : ℕ) → AllByRecursion (λ (y : OpenClaim). y.party ≢ party) cs → claim_by cs party ≡ None
    none-of [] party all = refl
    none-of (y ∷ cs) party all = ap (λ (b : Bool). cond b (Some y) (claim_by cs party)) (other-eqb y.party party all.0) ∙ none-of cs party all.1

    by_test : (b : Bool) → cond b (Some x) (claim_at claims place) ≡ Some claim → (claim_at claims place ≡ Some claim → claim_by (without_claim place claims) claim.party ≡ None)
        → claim_by (if b then claims else x ∷ without_claim place claims) claim.party ≡ None
    by_test true found later =
        subst (λ (y : OpenClaim). claim_by claims y.party ≡ None) (some-same x claim found)
        (none-of claims x.party (each-weaker (AreDifferent x) (λ (y : OpenClaim). y.party ≢ x.party) (λ y h e. h.parties (sym e)) claims two.0))
    by_test false found later =
        let differ : x.party ≢ claim.party = found-each (λ (y : OpenClaim). x.party ≢ y.party) _ claims claim
        (each-weaker (AreDifferent x) (λ (y : OpenClaim). x.party ≢ y.party) (λ y h. h.parties) claims two.0) found in
        ap (λ (b : Bool). cond b (Some x) (claim_by (without_claim place claims) claim.party)) (other-eqb x.party claim.party differ) ∙ later found

finish-accounted : (c : Configuration) (w : World) (by place : ℕ) (answer : Answer) (party : ℕ) → IsLinked w → IsAllowedIn c 0 w (event.Finish by place answer)
    → Accounted c w (event.Finish by place answer) party
finish-accounted c w by place answer party linked allowed =
    by_found (some-and (λ (x : OpenClaim). MayFinish c by answer x) (claim_at w.claims place) allowed)
  where
    by_found : (x : OpenClaim) × (claim_at w.claims place ≡ Some x) × MayFinish c by answer x → Accounted c w (event.Finish by place answer) party
    by_found (claim, found, may) =
        let at : claim.place ≡ place = claim-place w.claims place claim found in
        let here : claim_at w.claims claim.place ≡ Some claim = subst (λ (p : ℕ). claim_at w.claims p ≡ Some claim) (sym at) found in
        let works : ClaimLinked w claim = found-each (ClaimLinked w) _ w.claims claim linked.claims found in
        let requests = no-requests c w (event.Finish by place answer) refl in
        let outstanding : outstanding_in (world_after c w (event.Finish by place answer)).submits party ≡ outstanding_in w.submits party =
        ap (λ (o : Option OpenClaim). outstanding_in (with_finish c w o).submits party) found
        ∙ outstanding-staged w.submits claim.request.place (Posted w.count) (Works claim.request) party works.submit (inr (refl, refl)) in
        let claims : (world_after c w (event.Finish by place answer)).claims ≡ without_claim claim.place w.claims = ap (λ (o : Option OpenClaim). (with_finish c w o).claims) found in
        by_party (by == party) refl requests outstanding claims here
      where
        by_party : (b : Bool) → (by == party) ≡ b
            → requests_of (world_after c w (event.Finish by place answer)).submits ≡ requests_of w.submits
            → outstanding_in (world_after c w (event.Finish by place answer)).submits party ≡ outstanding_in w.submits party
            → (world_after c w (event.Finish by place answer)).claims ≡ without_claim claim.place w.claims
            → claim_at w.claims claim.place ≡ Some claim
            → account_in (world_after c w (event.Finish by place answer)) party ≡ (if b then account_after (account_in w party) (event.Finish by place answer) else account_in w party)
        by_party true h requests outstanding claims here =
            let same : claim.party ≡ party = may.own ∙ eqb-same by party h in
            let n : ordinal_after (world_after c w (event.Finish by place answer)).submits party ≡ ordinal_after w.submits party =
            ap (λ (k : ℕ). k + 1) (count-stays w.submits (world_after c w (event.Finish by place answer)).submits party requests) in
            let m = names-stay w.submits (world_after c w (event.Finish by place answer)).submits party requests in
            let d : option_map name_of (claim_by (world_after c w (event.Finish by place answer)).claims party) ≡ None =
            ap (λ (cs : List OpenClaim). option_map name_of (claim_by cs party)) claims
            ∙ ap (λ (o : Option OpenClaim). option_map name_of o)
            (subst (λ (p : ℕ). claim_by (without_claim claim.place w.claims) p ≡ None) same (over-none w.claims claim.place claim linked.different here)) in
            λ i. record { next = n i; outstanding = outstanding i; names = m i; claim = d i }
        by_party false h requests outstanding claims here =
            same-account w (world_after c w (event.Finish by place answer)) party requests outstanding
            (ap (λ (cs : List OpenClaim). claim_by cs party) claims
            ∙ claim_by-without w.claims claim.place party claim here (λ same. true≢false (sym (same-eqb by party (sym may.own ∙ same)) ∙ h)))

-- ---- a command done at once

do-accounted : (c : Configuration) (w : World) (by host ordinal sent : ℕ) (answer : Answer) (aborts : Option ℕ) (party : ℕ)
    → IsAllowedIn c 0 w (event.Do by host ordinal sent answer aborts) → Accounted c w (event.Do by host ordinal sent answer aborts) party
do-accounted c w by host ordinal sent answer aborts party allowed =
    by_found (some-and (λ (s : Submission). MayDo c w by host ordinal answer aborts s) (submit_at w.submits sent) allowed)
  where
    by_found : (s : Submission) × (submit_at w.submits sent ≡ Some s) × MayDo c w by host ordinal answer aborts s → Accounted c w (event.Do by host ordinal sent answer aborts) party
    by_found (s, found, may) =
        let at : s.request.place ≡ sent = submit-place w.submits sent s found in
        let here : submit_at w.submits s.request.place ≡ Some s = subst (λ (p : ℕ). submit_at w.submits p ≡ Some s) (sym at) found in
        let first : outstanding_in (staged s.request.place (Posted w.count) w.submits) party ≡ outstanding_in w.submits party =
        outstanding-staged w.submits s.request.place (Posted w.count) s party here (inr (queued-untaken s.stage may.turn.queued, refl)) in
        let kept : account_in (world_after c w (event.Do by host ordinal sent answer aborts)) party ≡ account_in w party =
        same-account w (world_after c w (event.Do by host ordinal sent answer aborts)) party (no-requests c w (event.Do by host ordinal sent answer aborts) refl)
        (ap (λ (o : Option Submission). outstanding_in (with_done c w answer aborts o).submits party) found ∙ (withdrawn aborts may.withdraws here ∙ first))
        (ap (λ (o : Option Submission). claim_by (with_done c w answer aborts o).claims party) found) in
        kept ∙ sym (if-same (by == party) (account_in w party) (account_in w party) (account_in w party) refl refl)
      where
        withdrawn : (o : Option ℕ) → o ≡ withdrawn_place w.submits s.request → submit_at w.submits s.request.place ≡ Some s
            → outstanding_in (staged_if o (Posted w.count) (staged s.request.place (Posted w.count) w.submits)) party
            ≡ outstanding_in (staged s.request.place (Posted w.count) w.submits) party
        withdrawn None e here = refl
        withdrawn (Some aborted) e here =
            let h = withdrawn-queued w.submits s.request aborted (sym e) in
            ⊎_elim {C = outstanding_in (staged aborted (Posted w.count) (staged s.request.place (Posted w.count) w.submits)) party
            ≡ outstanding_in (staged s.request.place (Posted w.count) w.submits) party}
            (λ (same : aborted ≡ s.request.place).
            outstanding-staged (staged s.request.place (Posted w.count) w.submits) aborted (Posted w.count) (let t : Submission = record s { stage = Posted w.count } in t) party
            (ap (λ (p : ℕ). submit_at (staged s.request.place (Posted w.count) w.submits) p) same ∙ staged-at s.request.place (Posted w.count) w.submits s here) (inr (refl, refl)))
            (λ (other : aborted ≡ s.request.place → ⊥).
            outstanding-staged (staged s.request.place (Posted w.count) w.submits) aborted (Posted w.count) h.0 party
            (staged-other s.request.place (Posted w.count) w.submits aborted other ∙ h.1) (inr (queued-untaken h.0.stage h.2, refl)))
            (same-cases aborted s.request.place)

-- ---- a take

take-accounted : (c : Configuration) (w : World) (by cid posted : ℕ) (party : ℕ) → IsLinked w → EachTwo DifferByCid (outstanding_in w.submits by)
    → IsAllowedIn c 0 w (event.Take by cid posted) → Accounted c w (event.Take by cid posted) party
take-accounted c w by cid posted party linked differ allowed =
    by_found (some-and (λ (s : Submission). is_posted_at posted s.stage ≡ true) (outstanding_under w.submits by cid) allowed)
  where
    by_found : (s : Submission) × (outstanding_under w.submits by cid ≡ Some s) × (is_posted_at posted s.stage ≡ true) → Accounted c w (event.Take by cid posted) party
    by_found (s, found, over) =
        let here : submit_at w.submits s.request.place ≡ Some s =
        under-each (λ (x : Submission). submit_at w.submits x.request.place ≡ Some x) w.submits by cid s (self-found w linked) found in
        let submits : (world_after c w (event.Take by cid posted)).submits ≡ staged s.request.place Taken w.submits = ap (λ (o : Option Submission). (with_take w o).submits) found in
        let claims : (world_after c w (event.Take by cid posted)).claims ≡ w.claims = ap (λ (o : Option Submission). (with_take w o).claims) found in
        by_party (by == party) refl (no-requests c w (event.Take by cid posted) refl) here submits claims
      where
        by_party : (b : Bool) → (by == party) ≡ b
            → requests_of (world_after c w (event.Take by cid posted)).submits ≡ requests_of w.submits
            → submit_at w.submits s.request.place ≡ Some s
            → (world_after c w (event.Take by cid posted)).submits ≡ staged s.request.place Taken w.submits
            → (world_after c w (event.Take by cid posted)).claims ≡ w.claims
            → account_in (world_after c w (event.Take by cid posted)) party ≡ (if b then account_after (account_in w party) (event.Take by cid posted) else account_in w party)
        by_party true h requests here submits claims =
            let same : by ≡ party = eqb-same by party h in
            let n : ordinal_after (world_after c w (event.Take by cid posted)).submits party ≡ ordinal_after w.submits party =
            ap (λ (k : ℕ). k + 1) (count-stays w.submits (world_after c w (event.Take by cid posted)).submits party requests) in
            let m = names-stay w.submits (world_after c w (event.Take by cid posted)).submits party requests in
            let o : outstanding_in (world_after c w (event.Take by cid posted)).submits party ≡ filter (keeps cid) (outstanding_in w.submits party) =
            ap (λ (xs : List Submission). outstanding_in xs party) submits
            ∙ subst (λ (p : ℕ). outstanding_in (staged s.request.place Taken w.submits) p ≡ filter (keeps cid) (outstanding_in w.submits p)) same
            (taken-outstanding w.submits by cid s linked.places.ascending differ found) in
            let d : option_map name_of (claim_by (world_after c w (event.Take by cid posted)).claims party) ≡ option_map name_of (claim_by w.claims party) =
            ap (λ (cs : List OpenClaim). option_map name_of (claim_by cs party)) claims in
            λ i. record { next = n i; outstanding = o i; names = m i; claim = d i }
        by_party false h requests here submits claims =
            same-account w (world_after c w (event.Take by cid posted)) party requests
            (ap (λ (xs : List Submission). outstanding_in xs party) submits
            ∙ outstanding-staged w.submits s.request.place Taken s party here
            (inl (λ same. true≢false (sym (same-eqb by party (sym (found-under w.submits by cid s found).same_host ∙ same)) ∙ h))))
            (ap (λ (cs : List OpenClaim). claim_by cs party) claims)

-- ---- every event

-- outstanding identifiers of every host differ
abbrev pub HaveOwnCids : World → Type 0
HaveOwnCids w = (host : ℕ) → EachTwo DifferByCid (outstanding_in w.submits host)

account-step : (c : Configuration) (commands : ℕ) (w : World) (e : Event) (party : ℕ) → IsLinked w → HaveOwnCids w → IsAllowedIn c commands w e → Accounted c w e party
account-step c commands w (event.Submit by cid ordinal cmd) party linked cids allowed = submit-accounted c w by cid ordinal cmd party linked
account-step c commands w (event.Claim by host ordinal sent) party linked cids allowed = claim-accounted c w by host ordinal sent party allowed
account-step c commands w (event.Finish by claim answer) party linked cids allowed = finish-accounted c w by claim answer party linked allowed
account-step c commands w (event.Do by host ordinal sent answer aborts) party linked cids allowed = do-accounted c w by host ordinal sent answer aborts party allowed
account-step c commands w (event.Take by cid posted) party linked cids allowed = take-accounted c w by cid posted party linked (cids by) allowed
account-step c commands w (event.Rest by) party linked cids allowed =
    sym (if-same (by == party) (account_in w party) (account_in w party) (account_in w party) refl refl)

two-filter : {A : Type 0} (R : A → A → Type 0) (test : A → Bool) (xs : List A) → EachTwo R xs → EachTwo R (filter test xs)
two-filter R test [] all = tt
two-filter R test (x ∷ xs) all = by_test (test x) (two-filter R test xs all.1)
  where
    by_test : (b : Bool) → EachTwo R (filter test xs) → EachTwo R (cond b (x ∷ filter test xs) (filter test xs))
    by_test true later = (each-filter (R x) test xs all.0, later)
    by_test false later = later

-- an identifier that is not busy differs from all outstanding ones
free-cid : (xs : List Submission) (cid : ℕ) → find (λ (s : Submission). s.request.cid == cid) xs ≡ None → AllByRecursion (λ (o : Outstanding). o.cid ≢ cid) (map own xs)
free-cid [] cid e = tt
free-cid (x ∷ xs) cid e = by_test (x.request.cid == cid) refl e (free-cid xs cid)
  where
    by_test : (b : Bool) → (x.request.cid == cid) ≡ b → cond b (Some x) (find (λ (s : Submission). s.request.cid == cid) xs) ≡ None
        → (find (λ (s : Submission). s.request.cid == cid) xs ≡ None → AllByRecursion (λ (o : Outstanding). o.cid ≢ cid) (map own xs))
        → (x.request.cid ≢ cid) × AllByRecursion (λ (o : Outstanding). o.cid ≢ cid) (map own xs)
    by_test true h e later = absurd (none-some x (sym e))
    by_test false h e later = ((λ same. true≢false (sym (same-eqb x.request.cid cid same) ∙ h)), later e)

cids-step : (c : Configuration) (commands : ℕ) (w : World) (e : Event) → IsLinked w → HaveOwnCids w → IsAllowedIn c commands w e → HaveOwnCids (world_after c w e)
cids-step c commands w e linked cids allowed host =
    subst (λ (os : List Outstanding). EachTwo DifferByCid os) (sym (ap (λ (a : Account). a.outstanding) (account-step c commands w e host linked cids allowed)))
    (by_party (party_of_event e == host) refl)
  where
    own_event : (e : Event) → IsAllowedIn c commands w e → party_of_event e ≡ host → EachTwo DifferByCid (account_after (account_in w host) e).outstanding
    own_event (event.Submit by cid ordinal cmd) allowed same =
        two-push DifferByCid (outstanding_in w.submits host) _ (cids host)
        (free-cid (outstanding_of w.submits host) cid (subst (λ (h : ℕ). outstanding_under w.submits h cid ≡ None) same (is-none (outstanding_under w.submits by cid) allowed.not_busy)))
    own_event (event.Claim by h ordinal sent) allowed same = cids host
    own_event (event.Finish by claim answer) allowed same = cids host
    own_event (event.Do by h ordinal sent answer aborts) allowed same = cids host
    own_event (event.Take by cid posted) allowed same = two-filter DifferByCid (keeps cid) (outstanding_in w.submits host) (cids host)
    own_event (event.Rest by) allowed same = cids host

    by_party : (b : Bool) → (party_of_event e == host) ≡ b → EachTwo DifferByCid (if b then account_after (account_in w host) e else account_in w host).outstanding
    by_party true h = own_event e allowed (eqb-same (party_of_event e) host h)
    by_party false h = cids host

pub account-from-world : (c : Configuration) (commands : ℕ) (w : World) (trail : Trail) (party : ℕ) → IsLinked w → HaveOwnCids w → IsLawfulFrom c commands w trail
    → account_from (account_in w party) (events_of party trail) ≡ account_in (world_from c w trail) party
account-from-world c commands w [] party linked cids lawful = refl
account-from-world c commands w (e ∷ trail) party linked cids lawful =
    by_party (party_of_event e == party) (account-step c commands w e party linked cids lawful.0)
    ∙ account-from-world c commands (world_after c w e) trail party (linked-step c commands w e linked lawful.0) (cids-step c commands w e linked cids lawful.0) lawful.1
  where
    by_party : (b : Bool) → account_in (world_after c w e) party ≡ (if b then account_after (account_in w party) e else account_in w party)
        → account_from (account_in w party) (cond b (e ∷ events_of party trail) (events_of party trail)) ≡ account_from (account_in (world_after c w e) party) (events_of party trail)
    by_party true step = ap (λ (a : Account). account_from a (events_of party trail)) (sym step)
    by_party false step = ap (λ (a : Account). account_from a (events_of party trail)) (sym step)

pub own-account : (c : Configuration) (commands : ℕ) (trail : Trail) (party : ℕ) → IsLawful c commands trail → account_of (events_of party trail) ≡ account_in (world_of c trail) party
own-account c commands trail party lawful = account-from-world c commands (first_world c) trail party (linked-first c) (λ host. tt) lawful
