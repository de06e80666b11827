-- What holds in a phase goes on over each event of a lawful trail.
use Rattle.std.proofs.Common.{◌≡◌, ◌≢◌, ℕ, ◌<◌, ◌==◌, Bool, true, false, not, cond, if◌then◌else◌, List, [], ◌∷◌, ◌++◌, append-nil, append_assoc, map, filter, Option, Some, None, option_map, refl, sym, ap, subst, ◌∙◌, arith}
use Rattle.std.specs.List.{AllByRecursion, Contains, last_or}
use Rattle.std.specs.Prelude.{option_and_then}
use Rattle.std.proofs.lemmas.Bool.{true≢false}
use Rattle.std.proofs.lemmas.List.Elements.{Contains-append_left}
use Rattle.cp_base.specs.Answer.{Answer, only_status}
use Rattle.cp_base.specs.Configuration.{Configuration}
use Rattle.cp_base.specs.declared.commands.Command.{Command}
use Rattle.cp_base.specs.declared.commands.Command.TheVariants as command
use Rattle.cp_base.specs.declared.replies.Status.TheVariants as status
use Rattle.history_model.specs.Plain.{Sends, Takes}
use Rattle.history_model.specs.Sent.{Sent, Waiting, named_in, ordinals_of}
use Rattle.trail_model.specs.Accounts.{Outstanding, outstanding_in}
use Rattle.trail_model.specs.Each.{EachTwo}
use Rattle.trail_model.specs.Lawful.{IsAllowedIn, IsLawful, MayClaim, MayDo, MayFinish, Trail, world_of}
use Rattle.trail_model.specs.Linked.{ClaimLinked, IsLinked, NamesEarlier, requests_of}
use Rattle.trail_model.specs.World.{Completion, OpenClaim, Posted, Queued, Request, Stage, Submission, Taken, Working, World, claim_at, completion_of, first_world, is_posted_at, is_queued, is_taken_off, named_place, outstanding_of, outstanding_under, request_at, request_of, staged, staged_if, submit_at, submits_of, with_claim, with_done, with_finish, with_take, withdrawn_place, world_after}
use Rattle.trail_model.specs.declared.events.Event.{Event}
use Rattle.trail_model.specs.declared.events.Event.TheVariants as event
use Rattle.trail_model.proofs.Counts.{asked_by, beginning-from, requests-after, rest-from, world-append}
use Rattle.trail_model.proofs.Linked.{Works, each-request, found-under, self-found, under-each}
use Rattle.trail_model.proofs.Moving.{linked-world, withdrawn-queued}
use Rattle.trail_model.proofs.Sound.{some-and}
use Rattle.trail_model.proofs.Submits.{found-each, find-new, none-some, other-eqb, same-eqb, some-same, staged-other, submit-place}
use Rattle.schedule_model.specs.Deeds.{item_by, items_by}
use Rattle.schedule_model.proofs.Items.{Standing, after-append, after_items, next_standings, sent_along, sent_by, sent_in, standings_after}
use Rattle.schedule_model.proofs.Notes.{Keeps, is_over, keeps-added, keeps-ended, keeps-later, keeps-staged, look, look-more}
use Rattle.schedule_model.proofs.Standings.{Stands, as_waiting, one-under, stands-step}

-- ---- an outstanding command was not taken

each-unmap : {A B : Type 0} (P : B → Type 0) (f : A → B) (xs : List A) → AllByRecursion P (map f xs) → AllByRecursion (λ x. P (f x)) xs
each-unmap P f [] all = tt
each-unmap P f (x ∷ xs) all = (all.0, each-unmap P f xs all.1)

pub each-held : {A : Type 0} (P : A → Type 0) (test : A → Bool) (xs : List A) → AllByRecursion P (filter test xs) → AllByRecursion (λ x. test x ≡ true → P x) xs
each-held P test [] all = tt
each-held P test (x ∷ xs) all = by_test (test x) refl all (each-held P test xs)
  where
    by_test : (b : Bool) → test x ≡ b → AllByRecursion P (cond b (x ∷ filter test xs) (filter test xs))
        → (AllByRecursion P (filter test xs) → AllByRecursion (λ y. test y ≡ true → P y) xs) → (test x ≡ true → P x) × AllByRecursion (λ y. test y ≡ true → P y) xs
    by_test true e all later = ((λ h. all.0), later all.1)
    by_test false e all later = ((λ h. absurd (true≢false (sym h ∙ e))), later all)

abbrev own : Submission → Outstanding
own s = record { cid = s.request.cid; ordinal = s.request.ordinal }

not-ever : (w : World) (A : ℕ → Standing) (place : ℕ) (s : Submission) → Stands w A → submit_at w.submits place ≡ Some s → is_taken_off s.stage ≡ false
    → (t : ℕ) → Contains (A s.request.host).ever t → s.request.ordinal ≢ t
not-ever w A place s h found untaken t taken =
    let host = s.request.host in
    let all : AllByRecursion (λ (v : Waiting). v.ordinal ≢ t) (map as_waiting (outstanding_in w.submits host)) =
    subst (λ (ws : List Waiting). AllByRecursion (λ (v : Waiting). v.ordinal ≢ t) ws) (sym (h.waits host)) ((h.apart host).untaken t taken) in
    let outstanding : AllByRecursion (λ (x : Submission). x.request.ordinal ≢ t) (outstanding_of w.submits host) =
    each-unmap (λ (o : Outstanding). o.ordinal ≢ t) own (outstanding_of w.submits host) (each-unmap (λ (v : Waiting). v.ordinal ≢ t) as_waiting (outstanding_in w.submits host) all) in
    let each = each-held (λ (x : Submission). not (is_taken_off x.stage) ≡ true → x.request.ordinal ≢ t) (λ (x : Submission). x.request.host == host) w.submits
    (each-held (λ (x : Submission). x.request.ordinal ≢ t) (λ (x : Submission). not (is_taken_off x.stage)) (submits_of w.submits host) outstanding) in
    found-each (λ (x : Submission). (x.request.host == host) ≡ true → not (is_taken_off x.stage) ≡ true → x.request.ordinal ≢ t) _ w.submits s each found
    (same-eqb host host refl) (ap not untaken)

-- ---- stages

queued-unover : (stage : Stage) → is_queued stage ≡ true → is_over stage ≡ false
queued-unover Queued e = refl
queued-unover Working e = absurd (true≢false (sym e))
queued-unover (Posted p) e = absurd (true≢false (sym e))
queued-unover Taken e = absurd (true≢false (sym e))

queued-untaken : (stage : Stage) → is_queued stage ≡ true → is_taken_off stage ≡ false
queued-untaken Queued e = refl
queued-untaken Working e = refl
queued-untaken (Posted p) e = refl
queued-untaken Taken e = absurd (true≢false (sym e))

posted-over : (posted : ℕ) (stage : Stage) → is_posted_at posted stage ≡ true → is_over stage ≡ true
posted-over posted Queued e = absurd (true≢false (sym e))
posted-over posted Working e = absurd (true≢false (sym e))
posted-over posted (Posted p) e = refl
posted-over posted Taken e = refl

-- ---- each event

keeps-same : (p : ℕ) (A : ℕ → Standing) (notes notes' : List Sent) (requests requests' : List Request) (submits : List Submission) (history history' : List Completion)
    → notes ≡ notes' → requests ≡ requests' → history ≡ history' → Keeps p A notes requests submits history → Keeps p A notes' requests' submits history'
keeps-same p A notes notes' requests requests' submits history history' a b d h =
    subst (λ (ns : List Sent). Keeps p A ns requests' submits history') a
    (subst (λ (rs : List Request). Keeps p A notes rs submits history') b
    (subst (λ (ds : List Completion). Keeps p A notes requests submits ds) d h))

no-requests : (c : Configuration) (w : World) (e : Event) → asked_by w e ≡ [] → requests_of w.submits ≡ requests_of (world_after c w e).submits
no-requests c w e none = sym (requests-after c w e ∙ (ap (λ (rs : List Request). requests_of w.submits ++ rs) none ∙ append-nil (requests_of w.submits)))

abbrev pub KeepsIn : ℕ → (ℕ → Standing) → List Sent → World → Type 0
KeepsIn p A notes w = Keeps p A notes (requests_of w.submits) w.submits w.history

look-none : (requests : List Request) (n : ℕ) → AllByRecursion (λ (r : Request). r.place < n) requests → look requests n ≡ None
look-none [] n all = refl
look-none (r ∷ requests) n all =
    ap (λ (b : Bool). cond b (Some r) (look requests n)) (other-eqb r.place n (λ e. (let less = all.0 in omega arith))) ∙ look-none requests n all.1

look-same : (submits : List Submission) (place : ℕ) (s : Submission) → submit_at submits place ≡ Some s → look (requests_of submits) place ≡ Some s.request
look-same [] place s e = absurd (none-some s e)
look-same (x ∷ submits) place s e = by_test (x.request.place == place) e (look-same submits place s)
  where
    by_test : (b : Bool) → cond b (Some x) (submit_at submits place) ≡ Some s → (submit_at submits place ≡ Some s → look (requests_of submits) place ≡ Some s.request)
        → cond b (Some x.request) (look (requests_of submits) place) ≡ Some s.request
    by_test true e later = ap (λ (y : Submission). Some y.request) (some-same x s e)
    by_test false e later = later e

-- what a new command names
new-names : (w : World) (A : ℕ → Standing) (by cid ordinal p : ℕ) (cmd : Command) → Stands w A → IsLinked w → (place : ℕ) → named_place w.submits by cmd ≡ Some place
    → (o : Request) × (look (requests_of w.submits ++ request_of w by cid ordinal cmd ∷ []) place ≡ Some o) × (o.host ≡ by) × (named_in (A by).waiting cmd ≡ Some o.ordinal)
new-names w A by cid ordinal p (command.Abort other) h linked place e = by_found (outstanding_under w.submits by other) refl e
  where
    r : Request
    r = request_of w by cid ordinal (command.Abort other)

    by_found : (o : Option Submission) → outstanding_under w.submits by other ≡ o → option_map (λ (s : Submission). s.request.place) o ≡ Some place
        → (o : Request) × (look (requests_of w.submits ++ request_of w by cid ordinal (command.Abort other) ∷ []) place ≡ Some o) × (o.host ≡ by) × (named_in (A by).waiting (command.Abort other) ≡ Some o.ordinal)
    by_found None found e = absurd (none-some place e)
    by_found (Some s) found e =
        let at : s.request.place ≡ place = some-same s.request.place place e in
        let here : submit_at w.submits place ≡ Some s =
        subst (λ (q : ℕ). submit_at w.submits q ≡ Some s) at (under-each (λ (x : Submission). submit_at w.submits x.request.place ≡ Some x) w.submits by other s (self-found w linked) found) in
        let differ : EachTwo (λ (v u : Waiting). v.cid ≢ u.cid) (map as_waiting (outstanding_in w.submits by)) =
        subst (λ (ws : List Waiting). EachTwo (λ (v u : Waiting). v.cid ≢ u.cid) ws) (sym (h.waits by)) (h.apart by).cids in
        let one : ordinals_of other (A by).waiting ≡ s.request.ordinal ∷ [] =
        sym (ap (λ (ws : List Waiting). ordinals_of other ws) (h.waits by)) ∙ one-under (outstanding_of w.submits by) other s differ found in (
          s.request,
          look-more (requests_of w.submits) (request_of w by cid ordinal (command.Abort other) ∷ []) place s.request (look-same w.submits place s here),
          (found-under w.submits by other s found).same_host,
          ap (λ (ns : List ℕ). last_or None ns) one,
        )
new-names w A by cid ordinal p cmd h linked place e = absurd (none-some place e)

submit-keeps : (c : Configuration) (commands : ℕ) (w : World) (A : ℕ → Standing) (by cid ordinal p : ℕ) (cmd : Command) (notes : List Sent) → KeepsIn p A notes w → Stands w A → IsLinked w
    → IsAllowedIn c commands w (event.Submit by cid ordinal cmd)
    → KeepsIn p (next_standings A (event.Submit by cid ordinal cmd)) (notes ++ sent_by by p (A by) cid cmd ∷ []) (world_after c w (event.Submit by cid ordinal cmd))
submit-keeps c commands w A by cid ordinal p cmd notes h stands linked allowed =
    let B : ℕ → Standing = next_standings A (event.Submit by cid ordinal cmd) in
    let r : Request = request_of w by cid ordinal cmd in
    let sent : Sent = sent_by by p (A by) cid cmd in
    let grown : Keeps p B notes (requests_of w.submits) w.submits w.history =
    keeps-later p p A B notes (requests_of w.submits) w.submits w.history h (omega arith) (λ host t found. ever (by == host) host t found) (λ zs is current. current) in
    keeps-same p B (notes ++ sent ∷ []) (notes ++ sent ∷ []) (requests_of w.submits ++ r ∷ []) (requests_of (world_after c w (event.Submit by cid ordinal cmd)).submits)
    (world_after c w (event.Submit by cid ordinal cmd)).submits w.history (w.history ++ []) refl (sym (requests-after c w (event.Submit by cid ordinal cmd))) (sym (append-nil w.history))
    (keeps-added p B notes (requests_of w.submits) w.submits w.history r sent grown
    (record {
      host = refl;
      ordinal = sym (allowed.next ∙ stands.next by);
      cid = refl;
      command = refl;
      found = find-new (λ (x : Request). x.place == w.count) (requests_of w.submits) r (look-none (requests_of w.submits) w.count linked.places.below) (same-eqb w.count w.count refl);
      names = λ place e. new-names w A by cid ordinal p cmd stands linked place e;
    })
    (record { phase = omega arith; taken = λ t found. ever (by == by) by t ((stands.apart by).within t found) }) refl allowed.host)
  where
    ever : (b : Bool) (host t : ℕ) → Contains (A host).ever t → Contains (after_items (A host) (if b then Sends cid cmd ∷ [] else [])).ever t
    ever true host t found = found
    ever false host t found = found

claim-keeps : (c : Configuration) (commands : ℕ) (w : World) (A : ℕ → Standing) (by host ordinal sent p : ℕ) (notes : List Sent) → KeepsIn p A notes w
    → IsAllowedIn c commands w (event.Claim by host ordinal sent) → KeepsIn p A (notes ++ []) (world_after c w (event.Claim by host ordinal sent))
claim-keeps c commands w A by host ordinal sent p notes h allowed =
    let e : Event = event.Claim by host ordinal sent in
    let found = some-and (λ (s : Submission). MayClaim c w by host ordinal s) (submit_at w.submits sent) allowed in
    let s : Submission = found.0 in
    let at : s.request.place ≡ sent = submit-place w.submits sent s found.1 in
    let here : submit_at w.submits s.request.place ≡ Some s = subst (λ (q : ℕ). submit_at w.submits q ≡ Some s) (sym at) found.1 in
    keeps-same p A notes (notes ++ []) (requests_of w.submits) (requests_of (world_after c w e).submits) (world_after c w e).submits w.history (w.history ++ [])
    (sym (append-nil notes)) (no-requests c w e refl) (sym (append-nil w.history))
    (subst (λ (o : Option Submission). Keeps p A notes (requests_of w.submits) (with_claim c w by o).submits w.history) (sym found.1)
    (keeps-staged p A notes (requests_of w.submits) w.submits w.history s.request.place Working s h here (queued-unover s.stage found.2.turn.queued) (λ k. queued-untaken s.stage found.2.turn.queued)))

finish-keeps : (c : Configuration) (commands : ℕ) (w : World) (A : ℕ → Standing) (by claim p : ℕ) (answer : Answer) (notes : List Sent) → KeepsIn p A notes w → Stands w A → IsLinked w
    → IsAllowedIn c commands w (event.Finish by claim answer) → KeepsIn p A (notes ++ []) (world_after c w (event.Finish by claim answer))
finish-keeps c commands w A by claim p answer notes h stands linked allowed =
    let e : Event = event.Finish by claim answer in
    let found = some-and (λ (x : OpenClaim). MayFinish c by answer x) (claim_at w.claims claim) allowed in
    let x : OpenClaim = found.0 in
    let link : ClaimLinked w x = found-each (ClaimLinked w) _ w.claims x linked.claims found.1 in
    keeps-same p A notes (notes ++ []) (requests_of w.submits) (requests_of (world_after c w e).submits) (world_after c w e).submits (world_after c w e).history (world_after c w e).history
    (sym (append-nil notes)) (no-requests c w e refl) refl
    (subst (λ (o : Option OpenClaim). Keeps p A notes (requests_of w.submits) (with_finish c w o).submits (w.history ++ completion_of answer (option_map (λ (y : OpenClaim). y.request) o))) (sym found.1)
    (keeps-ended p A notes (requests_of w.submits) w.submits w.history x.request.place w.count (Works x.request) answer h link.submit refl
    (not-ever w A x.request.place (Works x.request) stands link.submit refl)))

do-keeps : (c : Configuration) (commands : ℕ) (w : World) (A : ℕ → Standing) (by host ordinal sent p : ℕ) (answer : Answer) (aborts : Option ℕ) (notes : List Sent) → KeepsIn p A notes w → Stands w A → IsLinked w
    → IsAllowedIn c commands w (event.Do by host ordinal sent answer aborts) → KeepsIn p A (notes ++ []) (world_after c w (event.Do by host ordinal sent answer aborts))
do-keeps c commands w A by host ordinal sent p answer aborts notes h stands linked allowed =
    let found = some-and (λ (s : Submission). MayDo c w by host ordinal answer aborts s) (submit_at w.submits sent) allowed in
    let s : Submission = found.0 in
    let at : s.request.place ≡ sent = submit-place w.submits sent s found.1 in
    let here : submit_at w.submits s.request.place ≡ Some s = subst (λ (q : ℕ). submit_at w.submits q ≡ Some s) (sym at) found.1 in
    let e : Event = event.Do by host ordinal sent answer aborts in
    keeps-same p A notes (notes ++ []) (requests_of w.submits) (requests_of (world_after c w e).submits) (world_after c w e).submits (world_after c w e).history (world_after c w e).history
    (sym (append-nil notes)) (no-requests c w e refl) refl
    (subst (λ (o : Option Submission). Keeps p A notes (requests_of w.submits) (with_done c w answer aborts o).submits
    (w.history ++ (completion_of answer (option_map (λ (x : Submission). x.request) o) ++ completion_of (only_status status.Aborted) (option_and_then (λ place. request_at w.submits place) aborts)))) (sym found.1)
    (by_aborts s here found.2.turn.queued aborts found.2.withdraws))
  where
    by_aborts : (s : Submission) → submit_at w.submits s.request.place ≡ Some s → is_queued s.stage ≡ true → (o : Option ℕ) → o ≡ withdrawn_place w.submits s.request
        → Keeps p A notes (requests_of w.submits) (staged_if o (Posted w.count) (staged s.request.place (Posted w.count) w.submits))
        (w.history ++ ((let d : Completion = record { request = s.request; answer = answer } in d) ∷ completion_of (only_status status.Aborted) (option_and_then (λ place. request_at w.submits place) o)))
    by_aborts s here queued None withdraws =
        keeps-ended p A notes (requests_of w.submits) w.submits w.history s.request.place w.count s answer h here (queued-unover s.stage queued)
        (not-ever w A s.request.place s stands here (queued-untaken s.stage queued))
    by_aborts s here queued (Some aborted) withdraws =
        let q = withdrawn-queued w.submits s.request aborted (sym withdraws) in
        let t : Submission = q.0 in
        let earlier : aborted < s.request.place =
        found-each (λ (x : Submission). NamesEarlier x.request) _ w.submits s (each-request NamesEarlier w.submits linked.names) here aborted q.3 in
        let there : submit_at (staged s.request.place (Posted w.count) w.submits) aborted ≡ Some t =
        staged-other s.request.place (Posted w.count) w.submits aborted (λ same. omega arith) ∙ q.1 in
        let d : Completion = record { request = s.request; answer = answer } in
        let first = keeps-ended p A notes (requests_of w.submits) w.submits w.history s.request.place w.count s answer h here (queued-unover s.stage queued)
        (not-ever w A s.request.place s stands here (queued-untaken s.stage queued)) in
        let second = keeps-ended p A notes (requests_of w.submits) (staged s.request.place (Posted w.count) w.submits) (w.history ++ d ∷ []) aborted w.count t (only_status status.Aborted) first there
        (queued-unover t.stage q.2) (not-ever w A aborted t stands q.1 (queued-untaken t.stage q.2)) in
        let f : Completion = record { request = t.request; answer = only_status status.Aborted } in
        subst (λ (ds : List Completion). Keeps p A notes (requests_of w.submits) (staged aborted (Posted w.count) (staged s.request.place (Posted w.count) w.submits)) ds)
        (append_assoc w.history (d ∷ []) (f ∷ [])
        ∙ ap (λ (o : Option Submission). w.history ++ (d ∷ completion_of (only_status status.Aborted) (option_map (λ (x : Submission). x.request) o))) (sym q.1)) second

take-keeps : (c : Configuration) (commands : ℕ) (w : World) (A : ℕ → Standing) (by cid posted p : ℕ) (notes : List Sent) → KeepsIn p A notes w → IsLinked w
    → IsAllowedIn c commands w (event.Take by cid posted) → KeepsIn p (next_standings A (event.Take by cid posted)) (notes ++ []) (world_after c w (event.Take by cid posted))
take-keeps c commands w A by cid posted p notes h linked allowed =
    let e : Event = event.Take by cid posted in
    let B : ℕ → Standing = next_standings A e in
    let found = some-and (λ (s : Submission). is_posted_at posted s.stage ≡ true) (outstanding_under w.submits by cid) allowed in
    let s : Submission = found.0 in
    let here : submit_at w.submits s.request.place ≡ Some s = under-each (λ (x : Submission). submit_at w.submits x.request.place ≡ Some x) w.submits by cid s (self-found w linked) found.1 in
    let grown : Keeps p B notes (requests_of w.submits) w.submits w.history =
    keeps-later p p A B notes (requests_of w.submits) w.submits w.history h (omega arith) (λ host t f. ever (by == host) host t f) (λ zs is current. current) in
    keeps-same p B notes (notes ++ []) (requests_of w.submits) (requests_of (world_after c w e).submits) (world_after c w e).submits w.history (w.history ++ [])
    (sym (append-nil notes)) (no-requests c w e refl) (sym (append-nil w.history))
    (subst (λ (o : Option Submission). Keeps p B notes (requests_of w.submits) (with_take w o).submits w.history) (sym found.1)
    (keeps-staged p B notes (requests_of w.submits) w.submits w.history s.request.place Taken s grown here (posted-over posted s.stage found.2) (λ k. absurd (true≢false k))))
  where
    ever : (b : Bool) (host t : ℕ) → Contains (A host).ever t → Contains (after_items (A host) (if b then Takes cid ∷ [] else [])).ever t
    ever true host t found = Contains-append_left (A host).ever (ordinals_of cid (A host).waiting) t found
    ever false host t found = found

keeps-step : (c : Configuration) (commands : ℕ) (w : World) (A : ℕ → Standing) (e : Event) (p : ℕ) (notes : List Sent) → KeepsIn p A notes w → Stands w A → IsLinked w
    → IsAllowedIn c commands w e → KeepsIn p (next_standings A e) (notes ++ sent_in p A e) (world_after c w e)
keeps-step c commands w A (event.Submit by cid ordinal cmd) p notes h stands linked allowed = submit-keeps c commands w A by cid ordinal p cmd notes h stands linked allowed
keeps-step c commands w A (event.Claim by host ordinal sent) p notes h stands linked allowed = claim-keeps c commands w A by host ordinal sent p notes h allowed
keeps-step c commands w A (event.Finish by claim answer) p notes h stands linked allowed = finish-keeps c commands w A by claim p answer notes h stands linked allowed
keeps-step c commands w A (event.Do by host ordinal sent answer aborts) p notes h stands linked allowed = do-keeps c commands w A by host ordinal sent p answer aborts notes h stands linked allowed
keeps-step c commands w A (event.Take by cid posted) p notes h stands linked allowed = take-keeps c commands w A by cid posted p notes h linked allowed
keeps-step c commands w A (event.Rest by) p notes h stands linked allowed =
    keeps-same p A notes (notes ++ []) (requests_of w.submits) (requests_of w.submits) w.submits w.history (w.history ++ []) (sym (append-nil notes)) refl (sym (append-nil w.history)) h

-- ---- over a trail

pub record Held (p : ℕ) (A : ℕ → Standing) (notes : List Sent) (w : World) : Type 0 where
  pub keeps : KeepsIn p A notes w
  pub stands : Stands w A

pub walk : (c : Configuration) (commands p : ℕ) (A : ℕ → Standing) (notes : List Sent) (seen trail : Trail) → IsLawful c commands (seen ++ trail) → Held p A notes (world_of c seen)
    → Held p (standings_after A trail) (notes ++ sent_along p A trail) (world_of c (seen ++ trail))
walk c commands p A notes seen [] lawful h =
    subst (λ (xs : Trail). Held p A (notes ++ []) (world_of c xs)) (sym (append-nil seen)) (subst (λ (ns : List Sent). Held p A ns (world_of c seen)) (sym (append-nil notes)) h)
walk c commands p A notes seen (e ∷ trail) lawful h =
    let joined : (seen ++ e ∷ []) ++ trail ≡ seen ++ e ∷ trail = append_assoc seen (e ∷ []) trail in
    let whole : IsLawful c commands ((seen ++ e ∷ []) ++ trail) = subst (λ (xs : Trail). IsLawful c commands xs) (sym joined) lawful in
    let start : IsLawful c commands (seen ++ e ∷ []) = beginning-from c commands (first_world c) (seen ++ e ∷ []) trail whole in
    let w : World = world_of c seen in
    let A1 : ℕ → Standing = next_standings A e in
    let linked : IsLinked w = linked-world c commands seen (beginning-from c commands (first_world c) seen (e ∷ []) start) in
    let allowed : IsAllowedIn c commands w e = (rest-from c commands (first_world c) seen (e ∷ []) start).0 in
    let next : Held p A1 (notes ++ sent_in p A e) (world_after c w e) =
    record { keeps = keeps-step c commands w A e p notes h.keeps h.stands linked allowed; stands = stands-step c commands seen A e h.stands start } in
    let here : Held p A1 (notes ++ sent_in p A e) (world_of c (seen ++ e ∷ [])) =
    subst (λ (x : World). Held p A1 (notes ++ sent_in p A e) x) (sym (world-append c (first_world c) seen (e ∷ []))) next in
    let done = walk c commands p A1 (notes ++ sent_in p A e) (seen ++ e ∷ []) trail whole here in
    let standings : standings_after A1 trail ≡ standings_after A (e ∷ trail) = λ i host. sym (after-append (A host) (item_by host e) (items_by host trail)) i in
    subst (λ (B : ℕ → Standing). Held p B (notes ++ sent_along p A (e ∷ trail)) (world_of c (seen ++ e ∷ trail))) standings
    (subst (λ (ns : List Sent). Held p (standings_after A1 trail) ns (world_of c (seen ++ e ∷ trail))) (append_assoc notes (sent_in p A e) (sent_along p A1 trail))
    (subst (λ (xs : Trail). Held p (standings_after A1 trail) ((notes ++ sent_in p A e) ++ sent_along p A1 trail) (world_of c xs)) joined done))
