-- A lawful trail in which the hosts did a plan tells a legal history of it.
use Rattle.std.proofs.Common.{◌≡◌, ℕ, suc, ◌+◌, ◌<◌, ◌≤◌, ◌==◌, Bool, true, false, not, cond, List, [], ◌∷◌, ◌++◌, append-nil, append_assoc, length, take, map, filter, None, refl, sym, ap, subst, ◌∙◌, arith, slice_get}
use Rattle.std.specs.List.{AllByRecursion, All, Contains}
use Rattle.std.specs.Prelude.{IsPermutation}
use Rattle.std.proofs.lemmas.Bool.{true≢false}
use Rattle.std.proofs.lemmas.List.Sorted.{IsPermutation-refl, IsPermutation-trans}
use Rattle.cp_base.specs.Configuration.{Configuration}
use Rattle.cp_base.specs.Contents.{bytes_of}
use Rattle.script_cmds.specs.declared.item.Phase.{Phase}
use Rattle.device_model.specs.State.{State, opening}
use Rattle.history_model.specs.Entry.{Entry}
use Rattle.history_model.specs.Plain.{PlainItem, plain_phases}
use Rattle.history_model.specs.Rules.{KeepsRules}
use Rattle.history_model.specs.Sent.{Sent, sends_of}
use Rattle.history_model.proofs.Every.{every-of-All, pairwise-AllPairs}
use Rattle.trail_model.specs.Lawful.{IsLawful, Trail, world_of}
use Rattle.trail_model.specs.Linked.{ClaimLinked, requests_of}
use Rattle.trail_model.specs.World.{Completion, OpenClaim, Posted, Queued, Request, Stage, Submission, Taken, Working, World, first_world, is_out, is_taken_off, outstanding_of, submits_of}
use Rattle.trail_model.proofs.Aborts.{paired-world}
use Rattle.trail_model.proofs.Linked.{Works}
use Rattle.trail_model.proofs.Moving.{linked-world}
use Rattle.trail_model.proofs.Sound.{sound-world}
use Rattle.trail_model.proofs.Submits.{found-each}
use Rattle.schedule_model.specs.Deeds.{BeginsWith, HaveDone, HostsDid, IsHost, Phases, item_by, items_by, items_in, items_in_phase}
use Rattle.schedule_model.specs.Told.{AreTold, TellsPlan}
use Rattle.schedule_model.proofs.Items.{Standing}
use Rattle.schedule_model.proofs.Notes.{AllSay, MayStand, Noted, is_over, not_ended, sents, submissions}
use Rattle.schedule_model.proofs.Pairs.{entries-paired, entries-replay}
use Rattle.schedule_model.proofs.Standings.{Apart}
use Rattle.schedule_model.proofs.WholePlans.{AtEnd, AtPhase, DidEach, all-phases, all-taken, submits-of-hosts}

-- ---- beginnings become parts

pub items-append : (host : ℕ) (xs ys : Trail) → items_by host (xs ++ ys) ≡ items_by host xs ++ items_by host ys
items-append host [] ys = refl
items-append host (x ∷ xs) ys = ap (λ (items : List PlainItem). item_by host x ++ items) (items-append host xs ys)
    ∙ sym (append_assoc (item_by host x) (items_by host xs) (items_by host ys))

pub planned-append : (host : ℕ) (xs ys : Phases) → items_in host (xs ++ ys) ≡ items_in host xs ++ items_in host ys
planned-append host [] ys = refl
planned-append host (x ∷ xs) ys = ap (λ (items : List PlainItem). items_in_phase host x ++ items) (planned-append host xs ys)
    ∙ sym (append_assoc (items_in_phase host x) (items_in host xs) (items_in host ys))

pub cancel : (xs ys zs : List PlainItem) → xs ++ ys ≡ xs ++ zs → ys ≡ zs
cancel [] ys zs e = e
cancel (x ∷ xs) ys zs e = cancel xs ys zs (tails x (xs ++ ys) (xs ++ zs) e)
  where
    tails : (x : PlainItem) (us vs : List PlainItem) → x ∷ us ≡ x ∷ vs → us ≡ vs
    tails x us vs e = cc

-- from one beginning on, with the phases done before it
each-part : (before phases : Phases) (beginning : ℕ → Trail) (whole : Trail)
    → ((k : ℕ) → k < length phases → BeginsWith (beginning (suc k)) (beginning k)) → ((k : ℕ) → k ≤ length phases → HaveDone (before ++ take k phases) (beginning k))
    → BeginsWith whole (beginning (length phases)) → HaveDone (before ++ phases) whole → (s : BeginsWith whole (beginning 0)) × DidEach phases s.rest
each-part before [] beginning whole grows did within all = (
  within,
  λ host is. cancel (items_by host (beginning 0)) (items_by host within.rest) []
      (sym (items-append host (beginning 0) within.rest)
      ∙ (sym (ap (items_by host) within.whole)
      ∙ (all host is ∙ (sym (did 0 (omega arith) host is) ∙ sym (append-nil (items_by host (beginning 0))))))),
)
each-part before (phase ∷ phases) beginning whole grows did within all =
    let more = each-part (before ++ phase ∷ []) phases (λ k. beginning (suc k)) whole
    (λ k below. grows (suc k) (omega arith))
    (λ k below host is. did (suc k) (omega arith) host is ∙ ap (items_in host) (sym (append_assoc before (phase ∷ []) (take k phases))))
    within (λ host is. all host is ∙ ap (items_in host) (sym (append_assoc before (phase ∷ []) phases))) in
    let g : BeginsWith (beginning 1) (beginning 0) = grows 0 (omega arith) in (
      record {
        rest = g.rest ++ more.0.rest;
        whole = more.0.whole ∙ (ap (λ (xs : Trail). xs ++ more.0.rest) g.whole ∙ append_assoc (beginning 0) g.rest more.0.rest);
      },
      (g.rest, more.0.rest, refl, (λ host is. one host is g), more.1),
    )
  where
    one : (host : ℕ) → IsHost host → (g : BeginsWith (beginning 1) (beginning 0)) → items_by host g.rest ≡ items_in_phase host phase
    one host is g =
        let start : items_by host (beginning 0) ≡ items_in host before = did 0 (omega arith) host is ∙ ap (items_in host) (append-nil before) in
        cancel (items_in host before) (items_by host g.rest) (items_in_phase host phase)
        (sym (ap (λ (items : List PlainItem). items ++ items_by host g.rest) start)
        ∙ (sym (items-append host (beginning 0) g.rest)
        ∙ (sym (ap (items_by host) g.whole)
        ∙ (did 1 (omega arith) host is
        ∙ (planned-append host before (phase ∷ [])
        ∙ ap (λ (items : List PlainItem). items_in host before ++ items) (append-nil (items_in_phase host phase)))))))

did-each : (phases : Phases) (trail : Trail) → HostsDid phases trail → (start : Trail) × (back : Trail) × (trail ≡ start ++ back) × HaveDone [] start × DidEach phases back
did-each phases trail h =
    let more = each-part [] phases h.beginning trail (λ k below. subst (λ (n : ℕ). BeginsWith (h.beginning n) (h.beginning k)) (let e : k + 1 ≡ suc k = omega arith in e) (h.grows k below)) h.did h.within h.all in
    (h.beginning 0, more.0.rest, more.0.whole, h.did 0 (omega arith), more.1)

-- a beginning in which the hosts did nothing belongs to the first part
pub did-before : (phases : Phases) (start back : Trail) → HaveDone [] start → DidEach phases back → DidEach phases (start ++ back)
did-before [] start back none did = λ host is. items-append host start back ∙ (ap (λ (items : List PlainItem). items ++ items_by host back) (none host is) ∙ did host is)
did-before (phase ∷ phases) start back none did = (
  start ++ did.0,
  did.1,
  ap (λ (xs : Trail). start ++ xs) did.2 ∙ sym (append_assoc start did.0 did.1),
  (λ host is. items-append host start did.0 ∙ (ap (λ (items : List PlainItem). items ++ items_by host did.0) (none host is) ∙ did.3 host is)),
  did.4,
)

pub parts-done : (phases : Phases) (trail : Trail) → HostsDid phases trail → DidEach phases trail
parts-done phases trail h =
    let d = did-each phases trail h in
    subst (λ (xs : Trail). DidEach phases xs) (sym d.2) (did-before phases d.0 d.1 d.3 d.4)

-- ---- the begin

abbrev pub first_standing : Standing
first_standing = record { ordinal = 1; waiting = []; taken = []; ever = [] }

none-there : (t : ℕ) → Contains [] t → ⊥
none-there t found = (let low = found.1 in omega arith)

first-apart : Apart first_standing
first-apart = record {
  low = tt;
  below = λ t found. absurd (none-there t found);
  differ = tt;
  cids = tt;
  untaken = λ t found. tt;
  within = λ t found. found;
}

pub at-first : (c : Configuration) → AtPhase 1 (λ host. first_standing) [] [] (first_world c)
at-first c = record {
  held = record {
    keeps = record {
      zs = [];
      noted = refl;
      submitted = refl;
      agree = tt;
      known = tt;
      current = tt;
      hosts = tt;
      entries = [];
      say = tt;
      each = IsPermutation-refl [];
      order = tt;
      entries_known = tt;
    };
    stands = record { waits = λ host. refl; next = λ host. refl; apart = λ host. first-apart };
  };
  begins = λ host is. record { ordinal = refl; waiting = refl; taken = refl };
  same = IsPermutation-refl [];
}

-- ---- the end

abbrev AllTaken : List Submission → Type 0
AllTaken submits = AllByRecursion (λ (s : Submission). is_taken_off s.stage ≡ true) submits

none-outstanding : (submits : List Submission) (host : ℕ) → AllTaken submits → outstanding_of submits host ≡ []
none-outstanding [] host taken = refl
none-outstanding (s ∷ submits) host taken = by_host (s.request.host == host) (none-outstanding submits host taken.1)
  where
    by_host : (b : Bool) → outstanding_of submits host ≡ []
        → filter (λ (x : Submission). not (is_taken_off x.stage)) (cond b (s ∷ submits_of submits host) (submits_of submits host)) ≡ []
    by_host true later = ap (λ (b : Bool). cond (not b) (s ∷ outstanding_of submits host) (outstanding_of submits host)) taken.0 ∙ later
    by_host false later = later

none-open : (w : World) (claims : List OpenClaim) → AllTaken w.submits → AllByRecursion (ClaimLinked w) claims → claims ≡ []
none-open w [] taken linked = refl
none-open w (claim ∷ claims) taken linked =
    absurd (true≢false (sym (found-each (λ (s : Submission). is_taken_off s.stage ≡ true) _ w.submits (Works claim.request) taken linked.0.submit)))

taken-over : (s : Submission) → is_taken_off s.stage ≡ true → is_over s.stage ≡ true
taken-over s e = stage s.stage e
  where
    stage : (x : Stage) → is_taken_off x ≡ true → is_over x ≡ true
    stage Queued e = absurd (true≢false (sym e))
    stage Working e = absurd (true≢false (sym e))
    stage (Posted p) e = refl
    stage Taken e = refl

all-ended : (zs : List Noted) → AllTaken (submissions zs) → not_ended zs ≡ []
all-ended [] taken = refl
all-ended (z ∷ zs) taken = ap (λ (b : Bool). cond (not b) (z ∷ not_ended zs) (not_ended zs)) (taken-over z.submission taken.0) ∙ all-ended zs taken.1

are-told : (requests : List Request) (history : List Completion) (entries : List Entry) → AllSay requests history entries → AreTold history entries
are-told requests [] [] say = tt
are-told requests [] (entry ∷ entries) say = say
are-told requests (done ∷ history) [] say = say
are-told requests (done ∷ history) (entry ∷ entries) say = (
  record {
    host = say.0.follows.host;
    ordinal = say.0.follows.ordinal;
    cid = say.0.follows.cid;
    command = say.0.follows.command;
    answer = say.0.answer;
  },
  are-told requests history entries say.1,
)

pub tells-plan : (c : Configuration) (commands : ℕ) (plan : List Phase) (trail : Trail) → All (KeepsRules c.depth) plan → IsLawful c commands trail → HostsDid (plain_phases plan) trail
    → TellsPlan c plan (world_of c trail)
tells-plan c commands plan trail rules lawful did =
    let w : World = world_of c trail in
    let e : AtEnd (sends_of plan) w =
    all-phases c commands c.depth 1 (λ host. first_standing) [] [] [] trail plan (every-of-All (KeepsRules c.depth) plan rules) lawful (parts-done (plain_phases plan) trail did) (at-first c) in
    let k = e.held.keeps in
    let requests : List Request = requests_of w.submits in
    let taken : AllTaken w.submits = all-taken w.submits (submits-of-hosts e.p e.A e.notes w k) (λ host is. e.held.stands.waits host ∙ e.empty host is) in
    let ended : not_ended k.zs ≡ [] = all-ended k.zs (subst (λ (xs : List Submission). AllTaken xs) (sym k.submitted) taken) in
    let sent : List Sent = map (λ (entry : Entry). entry.sent) k.entries in
    let each : IsPermutation sent e.notes =
    subst (λ (xs : List Sent). IsPermutation xs e.notes) (ap (λ (zs : List Noted). sent ++ sents zs) ended ∙ append-nil sent) k.each in
    let open_none : w.claims ≡ [] = none-open w w.claims taken (linked-world c commands trail lawful).claims in
    let replay = entries-replay c requests (opening c) w.state w.history k.entries (sound-world c commands trail lawful).replays k.say in
    record {
      history = k.entries;
      told = are-told requests w.history k.entries k.say;
      legal = record {
        each_once = IsPermutation-trans sent e.notes (sends_of plan) each e.same;
        in_order = pairwise-AllPairs MayStand k.entries k.order;
        replays = replay.0;
        paired = entries-paired requests w.history k.entries (paired-world c commands trail lawful) k.say;
      };
      last = replay.1;
      none_outstanding = λ host. none-outstanding w.submits host taken;
      none_open = open_none;
      at_home = λ space offset.
          ap (λ (claims : List OpenClaim). cond (is_out c claims space offset) None (slice_get (bytes_of w.state.contents space) offset)) open_none
          ∙ ap (λ (s : State). slice_get (bytes_of s.contents space) offset) (sym replay.1);
    }
