-- The submits of a world, each with the command of the plan that it is; and what an event changes among them.
use Rattle.std.proofs.Common.{◌≡◌, ◌≢◌, ℕ, ◌≤◌, ◌==◌, Bool, true, false, not, cond, if◌then◌else◌, List, [], ◌∷◌, ◌++◌, append_assoc, map, filter, find, Option, Some, refl, sym, ap, ap₂, subst, ◌∙◌, inl, inr, arith}
use Rattle.std.specs.List.{AllByRecursion, Contains}
use Rattle.std.specs.Prelude.{IsPermutation}
use Rattle.std.proofs.lemmas.Bool.{true≢false}
use Rattle.std.proofs.lemmas.List.Sorted.{IsPermutation-refl, IsPermutation-trans, IsPermutation-cons, IsPermutation-append_left, IsPermutation-append_right, IsPermutation-middle}
use Rattle.cp_base.specs.Answer.{Answer}
use Rattle.history_model.specs.Entry.{Entry}
use Rattle.history_model.specs.Sent.{Sent, TakenBefore}
use Rattle.history_model.proofs.Every.{Pairwise, pairwise-append}
use Rattle.trail_model.specs.World.{Completion, Posted, Queued, Request, Stage, Submission, Taken, Working, is_taken_off, staged, submit_at}
use Rattle.trail_model.proofs.Submits.{each-append, each-weaker, found-each, none-some, some-same}
use Rattle.schedule_model.specs.Deeds.{IsHost}
use Rattle.schedule_model.proofs.Items.{Standing}

pub record Noted : Type 0 where
  pub sent : Sent
  pub submission : Submission

-- whether a command is over
abbrev pub is_over : Stage → Bool
is_over Queued = false
is_over Working = false
is_over (Posted place) = true
is_over Taken = true

abbrev pub sents : List Noted → List Sent
sents zs = map (λ (z : Noted). z.sent) zs

abbrev pub submissions : List Noted → List Submission
submissions zs = map (λ (z : Noted). z.submission) zs

abbrev pub not_ended : List Noted → List Noted
not_ended zs = filter (λ (z : Noted). not (is_over z.submission.stage)) zs

abbrev pub come : Stage → Noted → Noted
come stage z = let s : Submission = record { request = z.submission.request; stage = stage } in record { sent = z.sent; submission = s }

abbrev pub notes_staged : ℕ → Stage → List Noted → List Noted
notes_staged place stage [] = []
notes_staged place stage (z ∷ zs) = if z.submission.request.place == place then come stage z ∷ zs else z ∷ notes_staged place stage zs

abbrev pub note_at : List Noted → ℕ → Option Noted
note_at zs place = find (λ (z : Noted). z.submission.request.place == place) zs

pub staged-submissions : (place : ℕ) (stage : Stage) (zs : List Noted) → submissions (notes_staged place stage zs) ≡ staged place stage (submissions zs)
staged-submissions place stage [] = refl
staged-submissions place stage (z ∷ zs) = by_test (z.submission.request.place == place) (staged-submissions place stage zs)
  where
    by_test : (b : Bool) → submissions (notes_staged place stage zs) ≡ staged place stage (submissions zs)
        → submissions (if b then come stage z ∷ zs else z ∷ notes_staged place stage zs)
        ≡ (if b then (let t : Submission = record { request = z.submission.request; stage = stage } in t) ∷ submissions zs else z.submission ∷ staged place stage (submissions zs))
    by_test true later = refl
    by_test false later = ap (λ (xs : List Submission). z.submission ∷ xs) later

pub staged-sents : (place : ℕ) (stage : Stage) (zs : List Noted) → sents (notes_staged place stage zs) ≡ sents zs
staged-sents place stage [] = refl
staged-sents place stage (z ∷ zs) = by_test (z.submission.request.place == place) (staged-sents place stage zs)
  where
    by_test : (b : Bool) → sents (notes_staged place stage zs) ≡ sents zs → sents (if b then come stage z ∷ zs else z ∷ notes_staged place stage zs) ≡ z.sent ∷ sents zs
    by_test true later = refl
    by_test false later = ap (λ (xs : List Sent). z.sent ∷ xs) later

-- the note of a submit
pub note-found : (zs : List Noted) (place : ℕ) (s : Submission) → submit_at (submissions zs) place ≡ Some s → (z : Noted) × (note_at zs place ≡ Some z) × (z.submission ≡ s)
note-found [] place s e = absurd (none-some s e)
note-found (z ∷ zs) place s e = by_test (z.submission.request.place == place) e (note-found zs place s)
  where
    by_test : (b : Bool) → cond b (Some z.submission) (submit_at (submissions zs) place) ≡ Some s
        → (submit_at (submissions zs) place ≡ Some s → (y : Noted) × (note_at zs place ≡ Some y) × (y.submission ≡ s))
        → (y : Noted) × (cond b (Some z) (note_at zs place) ≡ Some y) × (y.submission ≡ s)
    by_test true e later = (z, refl, some-same z.submission s e)
    by_test false e later = later e

pub staged-each : (P : Noted → Type 0) (place : ℕ) (stage : Stage) (zs : List Noted) (z : Noted) → note_at zs place ≡ Some z → P (come stage z) → AllByRecursion P zs
    → AllByRecursion P (notes_staged place stage zs)
staged-each P place stage [] z e here all = tt
staged-each P place stage (x ∷ zs) z e here all = by_test (x.submission.request.place == place) e (λ later. staged-each P place stage zs z later here all.1)
  where
    by_test : (b : Bool) → cond b (Some x) (note_at zs place) ≡ Some z → (note_at zs place ≡ Some z → AllByRecursion P (notes_staged place stage zs))
        → AllByRecursion P (if b then come stage x ∷ zs else x ∷ notes_staged place stage zs)
    by_test true e later = (subst (λ (y : Noted). P (come stage y)) (sym (some-same x z e)) here, all.1)
    by_test false e later = (all.0, later e)

-- the notes that have not ended, where a stage changes that does not end one
pub not-ended-same : (place : ℕ) (stage : Stage) (zs : List Noted) (z : Noted) → note_at zs place ≡ Some z → is_over z.submission.stage ≡ is_over stage
    → sents (not_ended (notes_staged place stage zs)) ≡ sents (not_ended zs)
not-ended-same place stage [] z e same = refl
not-ended-same place stage (x ∷ zs) z e same = by_test (x.submission.request.place == place) e (λ later. not-ended-same place stage zs z later same)
  where
    by_test : (b : Bool) → cond b (Some x) (note_at zs place) ≡ Some z → (note_at zs place ≡ Some z → sents (not_ended (notes_staged place stage zs)) ≡ sents (not_ended zs))
        → sents (not_ended (if b then come stage x ∷ zs else x ∷ notes_staged place stage zs)) ≡ sents (not_ended (x ∷ zs))
    by_test true e later =
        let over : is_over x.submission.stage ≡ is_over stage = ap (λ (y : Noted). is_over y.submission.stage) (some-same x z e) ∙ same in
        by_over (is_over stage) (is_over x.submission.stage) over
      where
        by_over : (b b' : Bool) → b' ≡ b → sents (cond (not b) (come stage x ∷ not_ended zs) (not_ended zs)) ≡ sents (cond (not b') (x ∷ not_ended zs) (not_ended zs))
        by_over true true e = refl
        by_over true false e = absurd (true≢false (sym e))
        by_over false true e = absurd (true≢false e)
        by_over false false e = refl
    by_test false e later = by_over (not (is_over x.submission.stage)) (later e)
      where
        by_over : (b : Bool) → sents (not_ended (notes_staged place stage zs)) ≡ sents (not_ended zs)
            → sents (cond b (x ∷ not_ended (notes_staged place stage zs)) (not_ended (notes_staged place stage zs))) ≡ sents (cond b (x ∷ not_ended zs) (not_ended zs))
        by_over true same = ap (λ (xs : List Sent). x.sent ∷ xs) same
        by_over false same = same

swapped : (a b : Sent) (xs : List Sent) → IsPermutation (a ∷ b ∷ xs) (b ∷ a ∷ xs)
swapped a b xs = IsPermutation-middle (a ∷ []) b xs

-- the notes that have not ended, where one ends
pub one-ends : (place : ℕ) (stage : Stage) (zs : List Noted) (z : Noted) → note_at zs place ≡ Some z → is_over z.submission.stage ≡ false → is_over stage ≡ true
    → IsPermutation (z.sent ∷ sents (not_ended (notes_staged place stage zs))) (sents (not_ended zs))
one-ends place stage [] z e unover over = absurd (none-some z e)
one-ends place stage (x ∷ zs) z e unover over = by_test (x.submission.request.place == place) e (λ later. one-ends place stage zs z later unover over)
  where
    by_test : (b : Bool) → cond b (Some x) (note_at zs place) ≡ Some z
        → (note_at zs place ≡ Some z → IsPermutation (z.sent ∷ sents (not_ended (notes_staged place stage zs))) (sents (not_ended zs)))
        → IsPermutation (z.sent ∷ sents (not_ended (if b then come stage x ∷ zs else x ∷ notes_staged place stage zs))) (sents (not_ended (x ∷ zs)))
    by_test true e later =
        let same : x ≡ z = some-same x z e in
        let here : is_over x.submission.stage ≡ false = ap (λ (y : Noted). is_over y.submission.stage) same ∙ unover in
        let a : sents (not_ended (come stage x ∷ zs)) ≡ sents (not_ended zs) = ap (λ (b : Bool). sents (cond (not b) (come stage x ∷ not_ended zs) (not_ended zs))) over in
        let b : sents (not_ended (x ∷ zs)) ≡ x.sent ∷ sents (not_ended zs) = ap (λ (b : Bool). sents (cond (not b) (x ∷ not_ended zs) (not_ended zs))) here in
        subst (λ (xs : List Sent). IsPermutation (z.sent ∷ sents (not_ended (come stage x ∷ zs))) xs)
        (ap₂ (λ (y : Noted) (xs : List Sent). y.sent ∷ xs) (sym same) a ∙ sym b)
        (IsPermutation-refl (z.sent ∷ sents (not_ended (come stage x ∷ zs))))
    by_test false e later = by_over (not (is_over x.submission.stage)) (later e)
      where
        by_over : (b : Bool) → IsPermutation (z.sent ∷ sents (not_ended (notes_staged place stage zs))) (sents (not_ended zs))
            → IsPermutation (z.sent ∷ sents (cond b (x ∷ not_ended (notes_staged place stage zs)) (not_ended (notes_staged place stage zs)))) (sents (cond b (x ∷ not_ended zs) (not_ended zs)))
        by_over true h =
            IsPermutation-trans (z.sent ∷ x.sent ∷ sents (not_ended (notes_staged place stage zs))) (x.sent ∷ z.sent ∷ sents (not_ended (notes_staged place stage zs))) (x.sent ∷ sents (not_ended zs))
            (swapped z.sent x.sent (sents (not_ended (notes_staged place stage zs))))
            (IsPermutation-cons x.sent (z.sent ∷ sents (not_ended (notes_staged place stage zs))) (sents (not_ended zs)) h)
        by_over false h = h

-- ---- what was asked is the plan's

abbrev pub look : List Request → ℕ → Option Request
look requests place = find (λ (r : Request). r.place == place) requests

-- what was asked is this command of the plan, and what it names is what the command names
pub record Follows (requests : List Request) (r : Request) (sent : Sent) : Type 0 where
  pub host : sent.host ≡ r.host
  pub ordinal : sent.ordinal ≡ r.ordinal
  pub cid : sent.cid ≡ r.cid
  pub command : sent.command ≡ r.command
  pub found : look requests r.place ≡ Some r
  pub names : (place : ℕ) → r.names ≡ Some place → (o : Request) × (look requests place ≡ Some o) × (o.host ≡ sent.host) × (sent.named ≡ Some o.ordinal)

pub look-more : (requests more : List Request) (place : ℕ) (r : Request) → look requests place ≡ Some r → look (requests ++ more) place ≡ Some r
look-more [] more place r e = absurd (none-some r e)
look-more (x ∷ requests) more place r e = by_test (x.place == place) e (look-more requests more place r)
  where
    by_test : (b : Bool) → cond b (Some x) (look requests place) ≡ Some r → (look requests place ≡ Some r → look (requests ++ more) place ≡ Some r)
        → cond b (Some x) (look (requests ++ more) place) ≡ Some r
    by_test true e later = e
    by_test false e later = later e

pub follows-more : (requests more : List Request) (r : Request) (sent : Sent) → Follows requests r sent → Follows (requests ++ more) r sent
follows-more requests more r sent h = record {
  host = h.host;
  ordinal = h.ordinal;
  cid = h.cid;
  command = h.command;
  found = look-more requests more r.place r h.found;
  names = λ place e. (let n = h.names place e in (n.0, look-more requests more place n.0 n.1, n.2, n.3));
}

-- an entry tells a completion
pub record Says (requests : List Request) (done : Completion) (entry : Entry) : Type 0 where
  pub follows : Follows requests done.request entry.sent
  pub answer : entry.answer ≡ done.answer

abbrev pub AllSay : List Request → List Completion → List Entry → Type 0
AllSay requests [] [] = Unit {0}
AllSay requests [] (entry ∷ entries) = ⊥
AllSay requests (done ∷ history) [] = ⊥
AllSay requests (done ∷ history) (entry ∷ entries) = Says requests done entry × AllSay requests history entries

pub say-more : (requests more : List Request) (history : List Completion) (entries : List Entry) → AllSay requests history entries → AllSay (requests ++ more) history entries
say-more requests more [] [] all = tt
say-more requests more [] (entry ∷ entries) all = absurd all
say-more requests more (done ∷ history) [] all = absurd all
say-more requests more (done ∷ history) (entry ∷ entries) all =
    (record { follows = follows-more requests more done.request entry.sent all.0.follows; answer = all.0.answer }, say-more requests more history entries all.1)

pub say-push : (requests : List Request) (history : List Completion) (entries : List Entry) (done : Completion) (entry : Entry) → AllSay requests history entries
    → Says requests done entry → AllSay requests (history ++ done ∷ []) (entries ++ entry ∷ [])
say-push requests [] [] done entry all one = (one, tt)
say-push requests [] (x ∷ entries) done entry all one = absurd all
say-push requests (d ∷ history) [] done entry all one = absurd all
say-push requests (d ∷ history) (x ∷ entries) done entry all one = (all.0, say-push requests history entries done entry all.1 one)

-- a command of the plan up to a phase, whose host has taken before what it took
pub record Known (p : ℕ) (A : ℕ → Standing) (s : Sent) : Type 0 where
  pub phase : s.phase ≤ p
  pub taken : (t : ℕ) → Contains s.taken t → Contains (A s.host).ever t

-- the later does not have to be over before the earlier
abbrev pub MayStand : Entry → Entry → Type 0
MayStand earlier later = TakenBefore later.sent earlier.sent → ⊥

-- What holds of submits and history in a phase, where the plan's commands up to now are these.
pub record Keeps (p : ℕ) (A : ℕ → Standing) (notes : List Sent) (requests : List Request) (submits : List Submission) (history : List Completion) : Type 0 where
  pub zs : List Noted
  pub noted : sents zs ≡ notes
  pub submitted : submissions zs ≡ submits
  pub agree : AllByRecursion (λ (z : Noted). Follows requests z.submission.request z.sent) zs
  pub known : AllByRecursion (λ (z : Noted). Known p A z.sent) zs
  pub current : AllByRecursion (λ (z : Noted). is_taken_off z.submission.stage ≡ false → z.sent.phase ≡ p) zs
  pub hosts : AllByRecursion (λ (z : Noted). IsHost z.sent.host) zs
  pub entries : List Entry
  pub say : AllSay requests history entries
  pub each : IsPermutation (map (λ (entry : Entry). entry.sent) entries ++ sents (not_ended zs)) notes
  pub order : Pairwise MayStand entries
  pub entries_known : AllByRecursion (λ (entry : Entry). Known p A entry.sent) entries

untaken-unover : (stage : Stage) → is_over stage ≡ false → is_taken_off stage ≡ false
untaken-unover Queued e = refl
untaken-unover Working e = refl
untaken-unover (Posted place) e = refl
untaken-unover Taken e = absurd (true≢false e)

sents-append : (xs ys : List Entry) → map (λ (entry : Entry). entry.sent) (xs ++ ys) ≡ map (λ (entry : Entry). entry.sent) xs ++ map (λ (entry : Entry). entry.sent) ys
sents-append [] ys = refl
sents-append (x ∷ xs) ys = ap (λ (ss : List Sent). x.sent ∷ ss) (sents-append xs ys)

-- a command begins to be worked on, or its reply is taken
pub keeps-staged : (p : ℕ) (A : ℕ → Standing) (notes : List Sent) (requests : List Request) (submits : List Submission) (history : List Completion) (place : ℕ) (stage : Stage) (s : Submission)
    → Keeps p A notes requests submits history → submit_at submits place ≡ Some s → is_over s.stage ≡ is_over stage → (is_taken_off stage ≡ false → is_taken_off s.stage ≡ false)
    → Keeps p A notes requests (staged place stage submits) history
keeps-staged p A notes requests submits history place stage s h found over untaken =
    let zs = h.zs in
    let n = note-found zs place s (ap (λ (xs : List Submission). submit_at xs place) h.submitted ∙ found) in
    let z = n.0 in
    let stages : is_over z.submission.stage ≡ is_over stage = ap (λ (x : Submission). is_over x.stage) n.2 ∙ over in
    record {
      zs = notes_staged place stage zs;
      noted = staged-sents place stage zs ∙ h.noted;
      submitted = staged-submissions place stage zs ∙ ap (λ (xs : List Submission). staged place stage xs) h.submitted;
      agree = staged-each (λ (x : Noted). Follows requests x.submission.request x.sent) place stage zs z n.1
          (found-each (λ (x : Noted). Follows requests x.submission.request x.sent) _ zs z h.agree n.1) h.agree;
      known = staged-each (λ (x : Noted). Known p A x.sent) place stage zs z n.1 (found-each (λ (x : Noted). Known p A x.sent) _ zs z h.known n.1) h.known;
      current = staged-each (λ (x : Noted). is_taken_off x.submission.stage ≡ false → x.sent.phase ≡ p) place stage zs z n.1
          (λ e. found-each (λ (x : Noted). is_taken_off x.submission.stage ≡ false → x.sent.phase ≡ p) _ zs z h.current n.1 (ap (λ (x : Submission). is_taken_off x.stage) n.2 ∙ untaken e)) h.current;
      hosts = staged-each (λ (x : Noted). IsHost x.sent.host) place stage zs z n.1 (found-each (λ (x : Noted). IsHost x.sent.host) _ zs z h.hosts n.1) h.hosts;
      entries = h.entries;
      say = h.say;
      each = subst (λ (xs : List Sent). IsPermutation (map (λ (entry : Entry). entry.sent) h.entries ++ xs) notes) (sym (not-ended-same place stage zs z n.1 stages)) h.each;
      order = h.order;
      entries_known = h.entries_known;
    }

-- a command ends, and its entry stands last
pub keeps-ended : (p : ℕ) (A : ℕ → Standing) (notes : List Sent) (requests : List Request) (submits : List Submission) (history : List Completion) (place count : ℕ) (s : Submission) (answer : Answer)
    → Keeps p A notes requests submits history → submit_at submits place ≡ Some s → is_over s.stage ≡ false
    → ((t : ℕ) → Contains (A s.request.host).ever t → s.request.ordinal ≢ t)
    → Keeps p A notes requests (staged place (Posted count) submits) (history ++ (let d : Completion = record { request = s.request; answer = answer } in d) ∷ [])
keeps-ended p A notes requests submits history place count s answer h found unover untaken =
    let zs = h.zs in
    let stage : Stage = Posted count in
    let n = note-found zs place s (ap (λ (xs : List Submission). submit_at xs place) h.submitted ∙ found) in
    let z = n.0 in
    let z_open : is_over z.submission.stage ≡ false = ap (λ (x : Submission). is_over x.stage) n.2 ∙ unover in
    let follows : Follows requests z.submission.request z.sent = found-each (λ (x : Noted). Follows requests x.submission.request x.sent) _ zs z h.agree n.1 in
    let known : Known p A z.sent = found-each (λ (x : Noted). Known p A x.sent) _ zs z h.known n.1 in
    let phase : z.sent.phase ≡ p = found-each (λ (x : Noted). is_taken_off x.submission.stage ≡ false → x.sent.phase ≡ p) _ zs z h.current n.1 (untaken-unover z.submission.stage z_open) in
    let entry : Entry = record { sent = z.sent; answer = answer } in
    let rest : List Sent = sents (not_ended (notes_staged place stage zs)) in
    let front : List Sent = map (λ (e : Entry). e.sent) h.entries in
    let same : map (λ (e : Entry). e.sent) (h.entries ++ entry ∷ []) ++ rest ≡ front ++ z.sent ∷ rest =
    ap (λ (xs : List Sent). xs ++ rest) (sents-append h.entries (entry ∷ [])) ∙ append_assoc front (z.sent ∷ []) rest in
    let last : (e : Entry) → Known p A e.sent → MayStand e entry = λ e k before. not_before z.sent e.sent before phase k.phase
    (λ hosts taken. untaken z.sent.ordinal
    (subst (λ (n : ℕ). Contains (A n).ever z.sent.ordinal) (sym hosts ∙ (follows.host ∙ ap (λ (x : Submission). x.request.host) n.2)) (k.taken z.sent.ordinal taken))
    (sym (follows.ordinal ∙ ap (λ (x : Submission). x.request.ordinal) n.2))) in
    record {
      zs = notes_staged place stage zs;
      noted = staged-sents place stage zs ∙ h.noted;
      submitted = staged-submissions place stage zs ∙ ap (λ (xs : List Submission). staged place stage xs) h.submitted;
      agree = staged-each (λ (x : Noted). Follows requests x.submission.request x.sent) place stage zs z n.1 follows h.agree;
      known = staged-each (λ (x : Noted). Known p A x.sent) place stage zs z n.1 known h.known;
      current = staged-each (λ (x : Noted). is_taken_off x.submission.stage ≡ false → x.sent.phase ≡ p) place stage zs z n.1 (λ e. phase) h.current;
      hosts = staged-each (λ (x : Noted). IsHost x.sent.host) place stage zs z n.1 (found-each (λ (x : Noted). IsHost x.sent.host) _ zs z h.hosts n.1) h.hosts;
      entries = h.entries ++ entry ∷ [];
      say = say-push requests history h.entries (let d : Completion = record { request = s.request; answer = answer } in d) entry h.say
          (record { follows = subst (λ (x : Submission). Follows requests x.request z.sent) n.2 follows; answer = refl });
      each = subst (λ (xs : List Sent). IsPermutation xs notes) (sym same)
          (IsPermutation-trans (front ++ z.sent ∷ rest) (front ++ sents (not_ended zs)) notes
          (IsPermutation-append_right front (z.sent ∷ rest) (sents (not_ended zs)) (one-ends place stage zs z n.1 z_open refl)) h.each);
      order = pairwise-append MayStand h.entries (entry ∷ []) h.order (tt, tt)
          (each-weaker (λ (e : Entry). Known p A e.sent) (λ (e : Entry). AllByRecursion (MayStand e) (entry ∷ [])) (λ e k. (last e k, tt)) h.entries h.entries_known);
      entries_known = each-append (λ (e : Entry). Known p A e.sent) h.entries (entry ∷ []) h.entries_known (known, tt);
    }
  where
    not_before : (late early : Sent) → TakenBefore late early → late.phase ≡ p → early.phase ≤ p → (late.host ≡ early.host → Contains early.taken late.ordinal → ⊥) → ⊥
    not_before late early (inl phases) here low never = omega (arith, phases, here, low)
    not_before late early (inr (hosts, taken)) here low never = never hosts taken

-- ---- a new command

submissions-push : (zs : List Noted) (z : Noted) → submissions (zs ++ z ∷ []) ≡ submissions zs ++ z.submission ∷ []
submissions-push [] z = refl
submissions-push (x ∷ zs) z = ap (λ (xs : List Submission). x.submission ∷ xs) (submissions-push zs z)

sents-push : (zs : List Noted) (z : Noted) → sents (zs ++ z ∷ []) ≡ sents zs ++ z.sent ∷ []
sents-push [] z = refl
sents-push (x ∷ zs) z = ap (λ (xs : List Sent). x.sent ∷ xs) (sents-push zs z)

not-ended-push : (zs : List Noted) (z : Noted) → is_over z.submission.stage ≡ false → sents (not_ended (zs ++ z ∷ [])) ≡ sents (not_ended zs) ++ z.sent ∷ []
not-ended-push [] z unover = ap (λ (b : Bool). sents (cond (not b) (z ∷ []) [])) unover
not-ended-push (x ∷ zs) z unover = by_over (not (is_over x.submission.stage)) (not-ended-push zs z unover)
  where
    by_over : (b : Bool) → sents (not_ended (zs ++ z ∷ [])) ≡ sents (not_ended zs) ++ z.sent ∷ []
        → sents (cond b (x ∷ not_ended (zs ++ z ∷ [])) (not_ended (zs ++ z ∷ []))) ≡ sents (cond b (x ∷ not_ended zs) (not_ended zs)) ++ z.sent ∷ []
    by_over true same = ap (λ (xs : List Sent). x.sent ∷ xs) same
    by_over false same = same

pub keeps-added : (p : ℕ) (A : ℕ → Standing) (notes : List Sent) (requests : List Request) (submits : List Submission) (history : List Completion) (r : Request) (sent : Sent)
    → Keeps p A notes requests submits history → Follows (requests ++ r ∷ []) r sent → Known p A sent → sent.phase ≡ p → IsHost sent.host
    → Keeps p A (notes ++ sent ∷ []) (requests ++ r ∷ []) (submits ++ (let s : Submission = record { request = r; stage = Queued } in s) ∷ []) history
keeps-added p A notes requests submits history r sent h follows known phase host =
    let zs = h.zs in
    let s : Submission = record { request = r; stage = Queued } in
    let z : Noted = record { sent = sent; submission = s } in
    let front : List Sent = map (λ (e : Entry). e.sent) h.entries in
    record {
      zs = zs ++ z ∷ [];
      noted = sents-push zs z ∙ ap (λ (xs : List Sent). xs ++ sent ∷ []) h.noted;
      submitted = submissions-push zs z ∙ ap (λ (xs : List Submission). xs ++ s ∷ []) h.submitted;
      agree = each-append (λ (x : Noted). Follows (requests ++ r ∷ []) x.submission.request x.sent) zs (z ∷ [])
          (each-weaker (λ (x : Noted). Follows requests x.submission.request x.sent) (λ (x : Noted). Follows (requests ++ r ∷ []) x.submission.request x.sent)
          (λ x f. follows-more requests (r ∷ []) x.submission.request x.sent f) zs h.agree) (follows, tt);
      known = each-append (λ (x : Noted). Known p A x.sent) zs (z ∷ []) h.known (known, tt);
      current = each-append (λ (x : Noted). is_taken_off x.submission.stage ≡ false → x.sent.phase ≡ p) zs (z ∷ []) h.current ((λ e. phase), tt);
      hosts = each-append (λ (x : Noted). IsHost x.sent.host) zs (z ∷ []) h.hosts (host, tt);
      entries = h.entries;
      say = say-more requests (r ∷ []) history h.entries h.say;
      each = subst (λ (xs : List Sent). IsPermutation (front ++ xs) (notes ++ sent ∷ [])) (sym (not-ended-push zs z refl))
          (subst (λ (xs : List Sent). IsPermutation xs (notes ++ sent ∷ [])) (append_assoc front (sents (not_ended zs)) (sent ∷ []))
          (IsPermutation-append_left (sent ∷ []) (front ++ sents (not_ended zs)) notes h.each));
      order = h.order;
      entries_known = h.entries_known;
    }

-- ---- what was taken stays taken

pub keeps-later : (p q : ℕ) (A B : ℕ → Standing) (notes : List Sent) (requests : List Request) (submits : List Submission) (history : List Completion) → Keeps p A notes requests submits history
    → p ≤ q → ((host t : ℕ) → Contains (A host).ever t → Contains (B host).ever t)
    → ((zs : List Noted) → submissions zs ≡ submits → AllByRecursion (λ (z : Noted). is_taken_off z.submission.stage ≡ false → z.sent.phase ≡ p) zs
    → AllByRecursion (λ (z : Noted). is_taken_off z.submission.stage ≡ false → z.sent.phase ≡ q) zs)
    → Keeps q B notes requests submits history
keeps-later p q A B notes requests submits history h upto more still =
    let weaker : (s : Sent) → Known p A s → Known q B s = λ s k. record { phase = (let low = k.phase in omega arith); taken = λ t found. more s.host t (k.taken t found) } in
    record {
      zs = h.zs;
      noted = h.noted;
      submitted = h.submitted;
      agree = h.agree;
      known = each-weaker (λ (z : Noted). Known p A z.sent) (λ (z : Noted). Known q B z.sent) (λ z k. weaker z.sent k) h.zs h.known;
      current = still h.zs h.submitted h.current;
      hosts = h.hosts;
      entries = h.entries;
      say = h.say;
      each = h.each;
      order = h.order;
      entries_known = each-weaker (λ (e : Entry). Known p A e.sent) (λ (e : Entry). Known q B e.sent) (λ e k. weaker e.sent k) h.entries h.entries_known;
    }
