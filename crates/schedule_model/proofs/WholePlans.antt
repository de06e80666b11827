-- A lawful trail in which the hosts did a plan, phase by phase.
use Rattle.std.proofs.Common.{◌≡◌, ◌≢◌, ℕ, suc, ◌+◌, ◌==◌, Bool, true, false, not, cond, List, [], ◌∷◌, ◌++◌, append-nil, append_assoc, length, map, filter, refl, sym, ap, subst, ◌∙◌, arith}
use Rattle.std.specs.List.{AllByRecursion, AllPairs, Contains}
use Rattle.std.specs.Prelude.{IsPermutation, count_by}
use Rattle.std.proofs.lemmas.Bool.{true≢false}
use Rattle.std.proofs.lemmas.List.Sorted.{IsPermutation-append, sum_by-IsPermutation}
use Rattle.std.proofs.lemmas.List.Sums.{sum_by-append, sum_by-cons}
use Rattle.cp_base.specs.Configuration.{Configuration}
use Rattle.script_cmds.specs.declared.item.HostPart.{HostPart}
use Rattle.script_cmds.specs.declared.item.Phase.{Phase}
use Rattle.script_cmds.specs.Hosts.{hosts_of}
use Rattle.history_model.specs.Plain.{PlainItem, plain_parts, plain_phase, plain_phases}
use Rattle.history_model.specs.Rules.{KeepsQueue, KeepsRules}
use Rattle.history_model.specs.Sent.{Sent, Waiting, next_ordinal, sends_of_parts, sends_of_phases}
use Rattle.history_model.proofs.Every.{Pairwise, every-of-All}
use Rattle.history_model.proofs.Hosts.{ascend-differ, ascend-within}
use Rattle.trail_model.specs.Accounts.{Outstanding, outstanding_in}
use Rattle.trail_model.specs.Lawful.{IsLawful, Trail, world_of}
use Rattle.trail_model.specs.Linked.{requests_of}
use Rattle.trail_model.specs.World.{Submission, World, first_world, is_taken_off, outstanding_of, submits_of}
use Rattle.trail_model.proofs.Counts.{beginning-from}
use Rattle.trail_model.proofs.Submits.{each-weaker, same-eqb}
use Rattle.schedule_model.specs.Deeds.{IsHost, Phases, items_by, items_in_phase}
use Rattle.schedule_model.proofs.Items.{Standing, after_items, of_host, ordinal-counts, sends_by, sent-of-host, sent_along, standings_after}
use Rattle.schedule_model.proofs.Notes.{Follows, Noted, keeps-later, sents}
use Rattle.schedule_model.proofs.PlanSends.{Begins, host-by-host, phase-ends-empty, sends-of-parts, sends_in_parts}
use Rattle.schedule_model.proofs.Standings.{as_waiting}
use Rattle.schedule_model.proofs.Walk.{Held, KeepsIn, walk}

-- the hosts did the phases one behind the other, and then nothing more
abbrev pub DidEach : Phases → Trail → Type 0
DidEach [] trail = (host : ℕ) → IsHost host → items_by host trail ≡ []
DidEach (phase ∷ phases) trail =
    (front : Trail) × (back : Trail) × (trail ≡ front ++ back) × ((host : ℕ) → IsHost host → items_by host front ≡ items_in_phase host phase) × DidEach phases back

-- ---- all are taken where nothing is outstanding

abbrev own : Submission → Outstanding
own s = record { cid = s.request.cid; ordinal = s.request.ordinal }

abbrev AllTaken : List Submission → Type 0
AllTaken submits = AllByRecursion (λ (s : Submission). is_taken_off s.stage ≡ true) submits

pub all-taken : (submits : List Submission) → AllByRecursion (λ (s : Submission). IsHost s.request.host) submits
    → ((host : ℕ) → IsHost host → map as_waiting (outstanding_in submits host) ≡ []) → AllTaken submits
all-taken [] hosts none = tt
all-taken (s ∷ submits) hosts none =
    (first (is_taken_off s.stage) refl, all-taken submits hosts.1 (λ host is. later host (s.request.host == host) (not (is_taken_off s.stage)) (none host is)))
  where
    nonempty : (x : Waiting) (xs : List Waiting) → x ∷ xs ≡ [] → ⊥
    nonempty x xs e = cc

    first : (b : Bool) → is_taken_off s.stage ≡ b → is_taken_off s.stage ≡ true
    first true e = e
    first false e =
        let here : map as_waiting (outstanding_in (s ∷ submits) s.request.host) ≡ as_waiting (own s) ∷ map as_waiting (outstanding_in submits s.request.host) =
        ap (λ (b : Bool). map as_waiting (map own (filter (λ (x : Submission). not (is_taken_off x.stage)) (cond b (s ∷ submits_of submits s.request.host) (submits_of submits s.request.host)))))
        (same-eqb s.request.host s.request.host refl)
        ∙ ap (λ (b : Bool). map as_waiting (map own (cond (not b) (s ∷ outstanding_of submits s.request.host) (outstanding_of submits s.request.host)))) e in
        absurd (nonempty (as_waiting (own s)) (map as_waiting (outstanding_in submits s.request.host)) (sym here ∙ none s.request.host hosts.0))

    later : (host : ℕ) (b d : Bool)
        → map as_waiting (map own (filter (λ (x : Submission). not (is_taken_off x.stage)) (cond b (s ∷ submits_of submits host) (submits_of submits host)))) ≡ []
        → map as_waiting (outstanding_in submits host) ≡ []
    later host false d e = e
    later host true d e = by_stage (not (is_taken_off s.stage)) e
      where
        by_stage : (b : Bool) → map as_waiting (map own (cond b (s ∷ outstanding_of submits host) (outstanding_of submits host))) ≡ [] → map as_waiting (outstanding_in submits host) ≡ []
        by_stage false e = e
        by_stage true e = absurd (nonempty (as_waiting (own s)) (map as_waiting (outstanding_in submits host)) e)

each-map : {A B : Type 0} (P : B → Type 0) (f : A → B) (xs : List A) → AllByRecursion (λ x. P (f x)) xs → AllByRecursion P (map f xs)
each-map P f [] all = tt
each-map P f (x ∷ xs) all = (all.0, each-map P f xs all.1)

each-unmap : {A B : Type 0} (P : B → Type 0) (f : A → B) (xs : List A) → AllByRecursion P (map f xs) → AllByRecursion (λ x. P (f x)) xs
each-unmap P f [] all = tt
each-unmap P f (x ∷ xs) all = (all.0, each-unmap P f xs all.1)

each-behind : (P : Sent → Type 0) (xs ys : List Sent) → AllByRecursion P (xs ++ ys) → AllByRecursion P ys
each-behind P [] ys all = all
each-behind P (x ∷ xs) ys all = each-behind P xs ys all.1

-- the submits of what is held are those of hosts
pub submits-of-hosts : (p : ℕ) (A : ℕ → Standing) (notes : List Sent) (w : World) → KeepsIn p A notes w → AllByRecursion (λ (s : Submission). IsHost s.request.host) w.submits
submits-of-hosts p A notes w h =
    subst (λ (xs : List Submission). AllByRecursion (λ (s : Submission). IsHost s.request.host) xs) h.submitted
    (each-map (λ (s : Submission). IsHost s.request.host) (λ (z : Noted). z.submission) h.zs (both h.zs h.hosts h.agree))
  where
    both : (zs : List Noted) → AllByRecursion (λ (z : Noted). IsHost z.sent.host) zs → AllByRecursion (λ (z : Noted). Follows (requests_of w.submits) z.submission.request z.sent) zs
        → AllByRecursion (λ (z : Noted). IsHost z.submission.request.host) zs
    both [] hosts agree = tt
    both (z ∷ zs) hosts agree = (subst IsHost agree.0.host hosts.0, both zs hosts.1 agree.1)

notes-of-hosts : (p : ℕ) (A : ℕ → Standing) (notes : List Sent) (w : World) → KeepsIn p A notes w → AllByRecursion (λ (s : Sent). IsHost s.host) notes
notes-of-hosts p A notes w h =
    subst (λ (xs : List Sent). AllByRecursion (λ (s : Sent). IsHost s.host) xs) h.noted (each-map (λ (s : Sent). IsHost s.host) (λ (z : Noted). z.sent) h.zs h.hosts)

-- ---- from a phase to the next

abbrev reset : (ℕ → Standing) → ℕ → Standing
reset A host = record { ordinal = (A host).ordinal; waiting = (A host).waiting; taken = []; ever = (A host).ever }

none-there : (t : ℕ) → Contains [] t → ⊥
none-there t found = (let low = found.1 in omega arith)

held-reset : (p : ℕ) (A : ℕ → Standing) (notes : List Sent) (w : World) → Held p A notes w → ((host : ℕ) → IsHost host → (A host).waiting ≡ []) → Held (p + 1) (reset A) notes w
held-reset p A notes w h none =
    let taken : AllTaken w.submits = all-taken w.submits (submits-of-hosts p A notes w h.keeps) (λ host is. h.stands.waits host ∙ none host is) in
    record {
      keeps = keeps-later p (p + 1) A (reset A) notes (requests_of w.submits) w.submits w.history h.keeps (omega arith) (λ host t found. found)
          (λ zs is current. still zs (each-unmap (λ (s : Submission). is_taken_off s.stage ≡ true) (λ (z : Noted). z.submission) zs
          (subst (λ (xs : List Submission). AllTaken xs) (sym is) taken)));
      stands = record {
        waits = h.stands.waits;
        next = h.stands.next;
        apart = λ host. (let a = h.stands.apart host in
            record { low = a.low; below = a.below; differ = a.differ; cids = a.cids; untaken = a.untaken; within = λ t found. absurd (none-there t found) });
      };
    }
  where
    still : (zs : List Noted) → AllByRecursion (λ (z : Noted). is_taken_off z.submission.stage ≡ true) zs
        → AllByRecursion (λ (z : Noted). is_taken_off z.submission.stage ≡ false → z.sent.phase ≡ p + 1) zs
    still [] all = tt
    still (z ∷ zs) all = ((λ e. absurd (true≢false (sym all.0 ∙ e))), still zs all.1)

abbrev counted : ℕ → List Sent → ℕ
counted host sents = count_by (λ (s : Sent). s.host == host) sents

counted-length : (host : ℕ) (xs : List Sent) → counted host xs ≡ length (of_host host xs)
counted-length host [] = refl
counted-length host (x ∷ xs) = sum_by-cons (λ (s : Sent). cond (s.host == host) 1 0) x xs ∙ by_test (x.host == host) (counted-length host xs)
  where
    by_test : (b : Bool) → counted host xs ≡ length (of_host host xs) → cond {A = ℕ} b 1 0 + counted host xs ≡ length (cond b (x ∷ of_host host xs) (of_host host xs))
    by_test true e = omega arith
    by_test false e = omega arith

pub pairwise-of : (xs : List ℕ) → AllPairs (λ a b. a ≢ b) xs → Pairwise (λ a b. a ≢ b) xs
pairwise-of [] all = tt
pairwise-of (x ∷ xs) all =
    (every-of-All (λ b. x ≢ b) xs (λ k d below. all 0 (suc k) d (omega arith) (omega arith)), pairwise-of xs (λ i j d before below. all (suc i) (suc j) d (omega arith) (omega arith)))

each-part : (P : ℕ → Type 0) (parts : List HostPart) → AllByRecursion P (hosts_of parts) → AllByRecursion (λ (part : HostPart). P part.host) parts
each-part P [] all = tt
each-part P (part ∷ parts) all = (all.0, each-part P parts all.1)

-- what holds at the begin of a phase
pub record AtPhase (p : ℕ) (A : ℕ → Standing) (notes earlier : List Sent) (w : World) : Type 0 where
  pub held : Held p A notes w
  pub begins : (host : ℕ) → IsHost host → Begins earlier host (A host)
  pub same : IsPermutation notes earlier

one-phase : (c : Configuration) (commands depth p : ℕ) (A : ℕ → Standing) (notes earlier : List Sent) (seen front : Trail) (phase : Phase) → KeepsRules depth phase → IsLawful c commands (seen ++ front)
    → ((host : ℕ) → IsHost host → items_by host front ≡ items_in_phase host (plain_phase phase)) → AtPhase p A notes earlier (world_of c seen)
    → AtPhase (p + 1) (reset (standings_after A front)) (notes ++ sent_along p A front) (sends_of_parts p earlier phase.hosts) (world_of c (seen ++ front))
one-phase c commands depth p A notes earlier seen front phase rules lawful did h =
    let parts : List HostPart = phase.hosts in
    let X : List Sent = sent_along p A front in
    let A1 : ℕ → Standing = standings_after A front in
    let w : World = world_of c (seen ++ front) in
    let over : Held p A1 (notes ++ X) w = walk c commands p A notes seen front lawful h.held in
    let differ : Pairwise (λ a b. a ≢ b) (hosts_of parts) = pairwise-of (hosts_of parts) (ascend-differ 0 (hosts_of parts) rules.ascend) in
    let numbers : AllByRecursion IsHost (hosts_of parts) = every-of-All IsHost (hosts_of parts) (ascend-within 16 (hosts_of parts) rules.ascend rules.numbers) in
    let queues : AllByRecursion (λ (part : HostPart). KeepsQueue depth [] part.items) parts = every-of-All (λ (part : HostPart). KeepsQueue depth [] part.items) parts rules.queues.queues in
    let hosts : AllByRecursion (λ (s : Sent). IsHost s.host) X = each-behind (λ (s : Sent). IsHost s.host) notes X (notes-of-hosts p A1 (notes ++ X) w over.keeps) in
    let by_host : (host : ℕ) → IsHost host → of_host host X ≡ sends_by host p (A host) (items_in_phase host (plain_parts parts)) =
    λ host is. sent-of-host host p A front ∙ ap (λ (items : List PlainItem). sends_by host p (A host) items) (did host is) in
    let new : IsPermutation X (sends_in_parts p A parts) = host-by-host p A parts X differ numbers hosts by_host in
    let plan : sends_of_parts p earlier parts ≡ earlier ++ sends_in_parts p A parts =
    sends-of-parts p earlier A parts differ (each-part (λ host. Begins earlier host (A host)) parts (each-weaker IsHost (λ host. Begins earlier host (A host)) h.begins (hosts_of parts) numbers)) in
    let same : IsPermutation (notes ++ X) (sends_of_parts p earlier parts) =
    subst (λ (xs : List Sent). IsPermutation (notes ++ X) xs) (sym plan) (IsPermutation-append notes earlier X (sends_in_parts p A parts) h.same new) in
    let empty : (host : ℕ) → IsHost host → (A1 host).waiting ≡ [] = λ host is.
    ap (λ (items : List PlainItem). (after_items (A host) items).waiting) (did host is) ∙ phase-ends-empty depth host (A host) parts queues (h.begins host is).waiting in
    record {
      held = held-reset p A1 (notes ++ X) w over empty;
      begins = λ host is. record {
        ordinal = counts host X (items_by host front) (sent-of-host host p A front) (h.begins host is).ordinal same;
        waiting = empty host is;
        taken = refl;
      };
      same = same;
    }
  where
    counts : (host : ℕ) (X : List Sent) (items : List PlainItem) → of_host host X ≡ sends_by host p (A host) items → (A host).ordinal ≡ next_ordinal host earlier
        → IsPermutation (notes ++ X) (sends_of_parts p earlier phase.hosts) → (after_items (A host) items).ordinal ≡ next_ordinal host (sends_of_parts p earlier phase.hosts)
    counts host X items sent start same =
        let f : Sent → ℕ = λ s. cond (s.host == host) 1 0 in
        let a : counted host (sends_of_parts p earlier phase.hosts) ≡ counted host (notes ++ X) = sum_by-IsPermutation f (notes ++ X) (sends_of_parts p earlier phase.hosts) same in
        let b : counted host (notes ++ X) ≡ counted host notes + counted host X = sum_by-append f notes X in
        let d : counted host earlier ≡ counted host notes = sum_by-IsPermutation f notes earlier h.same in
        let e : counted host X ≡ length (sends_by host p (A host) items) = counted-length host X ∙ ap length sent in
        let g = ordinal-counts host p (A host) items in
        omega arith

-- what holds at the end of a plan
pub record AtEnd (plan : List Sent) (w : World) : Type 0 where
  pub p : ℕ
  pub A : ℕ → Standing
  pub notes : List Sent
  pub held : Held p A notes w
  pub empty : (host : ℕ) → IsHost host → (A host).waiting ≡ []
  pub same : IsPermutation notes plan

pub all-phases : (c : Configuration) (commands depth p : ℕ) (A : ℕ → Standing) (notes earlier : List Sent) (seen trail : Trail) (plan : List Phase) → AllByRecursion (KeepsRules depth) plan
    → IsLawful c commands (seen ++ trail) → DidEach (plain_phases plan) trail → AtPhase p A notes earlier (world_of c seen)
    → AtEnd (sends_of_phases p earlier plan) (world_of c (seen ++ trail))
all-phases c commands depth p A notes earlier seen trail [] rules lawful did h =
    let X : List Sent = sent_along p A trail in
    let over = walk c commands p A notes seen trail lawful h.held in
    let hosts : AllByRecursion (λ (s : Sent). IsHost s.host) X =
    each-behind (λ (s : Sent). IsHost s.host) notes X (notes-of-hosts p (standings_after A trail) (notes ++ X) (world_of c (seen ++ trail)) over.keeps) in
    let none : IsPermutation X [] = host-by-host p A [] X tt tt hosts
    (λ host is. sent-of-host host p A trail ∙ ap (λ (items : List PlainItem). sends_by host p (A host) items) (did host is)) in
    record {
      p = p;
      A = standings_after A trail;
      notes = notes ++ X;
      held = over;
      empty = λ host is. ap (λ (items : List PlainItem). (after_items (A host) items).waiting) (did host is) ∙ (h.begins host is).waiting;
      same = subst (λ (xs : List Sent). IsPermutation (notes ++ X) xs) (append-nil earlier) (IsPermutation-append notes earlier X [] h.same none);
    }
all-phases c commands depth p A notes earlier seen trail (phase ∷ plan) rules lawful did h =
    let front : Trail = did.0 in
    let back : Trail = did.1 in
    let joined : (seen ++ front) ++ back ≡ seen ++ trail = append_assoc seen front back ∙ ap (λ (xs : Trail). seen ++ xs) (sym did.2) in
    let whole : IsLawful c commands ((seen ++ front) ++ back) = subst (λ (xs : Trail). IsLawful c commands xs) (sym joined) lawful in
    let next = one-phase c commands depth p A notes earlier seen front phase rules.0 (beginning-from c commands (first_world c) (seen ++ front) back whole) did.3 h in
    subst (λ (xs : Trail). AtEnd (sends_of_phases p earlier (phase ∷ plan)) (world_of c xs)) joined
    (all-phases c commands depth (p + 1) (reset (standings_after A front)) (notes ++ sent_along p A front) (sends_of_parts p earlier phase.hosts) (seen ++ front) back plan rules.1 whole did.4 next)
