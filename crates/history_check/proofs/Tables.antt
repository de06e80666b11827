-- A table to which commands and takes are added.
use Rattle.std.proofs.Common.{◌≡◌, ℕ, ◌+◌, ◌<◌, ◌≤◌, ◌==◌, Bool, true, false, not, cond, ◌⊎◌, inl, inr, List, [], ◌∷◌, ◌++◌, length, map, drop, take, filter, get_or, Option, Some, None, refl, sym, ap, subst, ◌∙◌, arith, append_assoc}
use Rattle.std.specs.Prelude.{count_by, option_map, slice_get, unwrap_or, IsSome}
use Rattle.std.proofs.lemmas.Option.{slice_get-map, slice_get_read}
use Rattle.std.specs.BTreeMap.{BTreeMap, Updates, get}
use Rattle.std.specs.List.{All, AllByRecursion}
use Rattle.std.specs.Ordering.{nat_cmp}
use Rattle.std.specs.declared.alloc.Global.{Global}
use Rattle.std.specs.declared.sync.Arc.{Arc}
use Rattle.std.proofs.lemmas.Bool.{cases_eq, eq-eqb, false≢true, ne_eqb}
use Rattle.std.proofs.lemmas.List.{drop-append-le, length-append, map-append, take-append-le, take_all}
use Rattle.std.proofs.lemmas.List.Sums.{sum_by-append, sum_by-cons}
use Rattle.cp_base.specs.declared.commands.Command.{Command}
use Rattle.script_cmds.specs.declared.item.Item.{Item}
use Rattle.script_cmds.specs.declared.item.Item.TheVariants as item
use Rattle.script_cmds.specs.declared.item.HostPart.{HostPart}
use Rattle.script_cmds.specs.declared.item.Phase.{Phase}
use Rattle.history_model.specs.Sent.{Sent, Waiting, named_in, next_ordinal, ordinals_of, sends_of_items, sends_of_parts, sends_of_phases}
use Rattle.history_model.proofs.Every.{every-All, every-append, every-of-All, every-weaker}
use Rattle.history_check.specs.Table.{HasCounts, HasGoneOn, HasPlaces, IsAt, IsTable, going_on, pair_cmp, sends_by, sends_in, sent_in, waiting, waiting_of}
use Rattle.history_check.specs.declared.table.Awaited.{Awaited}
use Rattle.history_check.specs.declared.table.Outstanding.{Outstanding}
use Rattle.history_check.specs.declared.table.Sender.{Sender}
use Rattle.history_check.specs.declared.table.Table.{Table}
use Rattle.history_check.proofs.Keyed.{number-updated, pair-updated}
use Rattle.history_check.proofs.Places.{pushed-cases, pushed-last, pushed-left, some-is}

-- ---- what is found

-- the place of one more command
pub place-pushed : (sends : List Sent) (m n : BTreeMap (ℕ × ℕ) ℕ) (s : Sent) → HasPlaces sends m → Updates pair_cmp m n (s.host, s.ordinal) (Some (length sends))
    → HasPlaces (sends ++ s ∷ []) n
place-pushed sends m n s has u = record {
  right = λ h o place is. by_key h o place is (pair-updated m n (s.host, s.ordinal) (length sends) u (h, o));
  each = λ place t at. by_place t (pushed-cases sends s place t at) (pair-updated m n (s.host, s.ordinal) (length sends) u (t.host, t.ordinal));
}
  where
    by_key : (h o place : ℕ) → get pair_cmp n (h, o) ≡ Some place → (Path (ℕ × ℕ) (s.host, s.ordinal) (h, o) × (get pair_cmp n (h, o) ≡ Some (length sends))) ⊎ (get pair_cmp n (h, o) ≡ get pair_cmp m (h, o))
        → IsAt (sends ++ s ∷ []) h o place
    by_key h o place is (inl here) =
        let at : length sends ≡ place = some-is (length sends) place (sym here.1 ∙ is) in
        record {
          s = s;
          at = subst (λ (k : ℕ). slice_get (sends ++ s ∷ []) k ≡ Some s) at (pushed-last sends s);
          host = ap (λ (k : ℕ × ℕ). k.0) here.0;
          ordinal = ap (λ (k : ℕ × ℕ). k.1) here.0;
        }
    by_key h o place is (inr same) =
        let old = has.right h o place (sym same ∙ is) in
        record { s = old.s; at = pushed-left sends s place old.s old.at; host = old.host; ordinal = old.ordinal }

    some : {A : Type 0} (o p : Option A) → o ≡ p → IsSome p → IsSome o
    some o p e is = subst (λ q. IsSome q) (sym e) is

    by_place : {k : ℕ} (t : Sent) → (slice_get sends k ≡ Some t) ⊎ ((k ≡ length sends) × (s ≡ t))
        → (Path (ℕ × ℕ) (s.host, s.ordinal) (t.host, t.ordinal) × (get pair_cmp n (t.host, t.ordinal) ≡ Some (length sends))) ⊎ (get pair_cmp n (t.host, t.ordinal) ≡ get pair_cmp m (t.host, t.ordinal))
        → IsSome (get pair_cmp n (t.host, t.ordinal))
    by_place t old (inl here) = some (get pair_cmp n (t.host, t.ordinal)) (Some (length sends)) here.1 refl
    by_place {k = k} t (inl old) (inr same) = some (get pair_cmp n (t.host, t.ordinal)) (get pair_cmp m (t.host, t.ordinal)) same (has.each k t old)
    by_place t (inr new) (inr same) =
        some (get pair_cmp n (t.host, t.ordinal)) (Some (length sends)) (ap (λ (x : Sent). get pair_cmp n (x.host, x.ordinal)) (sym new.1) ∙ u.1) refl

pub counted-append : (host : ℕ) (xs ys : List Sent) → sends_by host (xs ++ ys) ≡ sends_by host xs + sends_by host ys
counted-append host xs ys = sum_by-append (λ (s : Sent). cond (s.host == host) 1 0) xs ys

one-counted : (s : Sent) (host : ℕ) → s.host ≡ host → sends_by host (s ∷ []) ≡ 1
one-counted s host is =
    let one : cond {A = ℕ} (s.host == host) 1 0 ≡ 1 = rw (eq-eqb s.host host is) refl in
    sum_by-cons (λ (s : Sent). cond (s.host == host) 1 0) s [] ∙ ap (λ n. n + 0) one

none-counted : (s : Sent) (host : ℕ) → (s.host ≡ host → ⊥) → sends_by host (s ∷ []) ≡ 0
none-counted s host apart =
    let none : cond {A = ℕ} (s.host == host) 1 0 ≡ 0 = rw (ne_eqb s.host host apart) refl in
    sum_by-cons (λ (s : Sent). cond (s.host == host) 1 0) s [] ∙ ap (λ n. n + 0) none

-- the next ordinal behind one more command of the host
pub next-pushed : (sends : List Sent) (s : Sent) (host : ℕ) → s.host ≡ host → next_ordinal host (sends ++ s ∷ []) ≡ next_ordinal host sends + 1
next-pushed sends s host is =
    let count = counted-append host sends (s ∷ []) in
    let one = one-counted s host is in
    omega (arith, count, one)

-- how many commands of a host, with one more
pub count-pushed : (sends : List Sent) (m n : BTreeMap ℕ ℕ) (s : Sent) → HasCounts sends m → Updates nat_cmp m n s.host (Some (sends_by s.host sends + 1)) → HasCounts (sends ++ s ∷ []) n
count-pushed sends m n s has u host = by_host (cases_eq s.host host) (number-updated m n s.host (sends_by s.host sends + 1) u host)
  where
    by_host : (s.host ≡ host) ⊎ (s.host ≡ host → ⊥) → ((s.host ≡ host) × (get nat_cmp n host ≡ Some (sends_by s.host sends + 1))) ⊎ (get nat_cmp n host ≡ get nat_cmp m host)
        → unwrap_or (get nat_cmp n host) 0 ≡ sends_by host (sends ++ s ∷ [])
    by_host (inl is) found =
        let value : get nat_cmp n host ≡ Some (sends_by s.host sends + 1) = subst (λ (h : ℕ). get nat_cmp n h ≡ Some (sends_by s.host sends + 1)) is u.1 in
        let count = counted-append host sends (s ∷ []) in
        let one = one-counted s host is in
        let same : sends_by s.host sends ≡ sends_by host sends = ap (λ (h : ℕ). sends_by h sends) is in
        let more : sends_by s.host sends + 1 ≡ sends_by host (sends ++ s ∷ []) = omega (arith, count, one, same) in
        ap (λ (o : Option ℕ). unwrap_or o 0) value ∙ more
    by_host (inr apart) (inl here) = absurd (apart here.0)
    by_host (inr apart) (inr same) =
        let count = counted-append host sends (s ∷ []) in
        let none = none-counted s host apart in
        let old = has host in
        let kept : sends_by host sends ≡ sends_by host (sends ++ s ∷ []) = omega (arith, count, none) in
        ap (λ (o : Option ℕ). unwrap_or o 0) same ∙ (old ∙ kept)

-- ---- takes are added

sent-longer : (takes more : List ℕ) (a : Awaited) → a.end ≤ length takes → sent_in (takes ++ more) a ≡ sent_in takes a
sent-longer takes more a below =
    let made : List ℕ → Sent = λ ts. record { host = a.host; ordinal = a.ordinal; cid = a.cid; phase = a.phase; command = a.command.value; taken = drop a.begin ts; named = a.named } in
    ap made (take-append-le a.end takes more below)

pub sends-longer : (takes more : List ℕ) (those : List Awaited) → AllByRecursion (λ (a : Awaited). a.end ≤ length takes) those → map (sent_in (takes ++ more)) those ≡ map (sent_in takes) those
sends-longer takes more [] all = refl
sends-longer takes more (a ∷ those) all = ap (λ (s : Sent). s ∷ map (sent_in (takes ++ more)) those) (sent-longer takes more a all.0) ∙ ap (λ (ss : List Sent). sent_in takes a ∷ ss) (sends-longer takes more those all.1)

-- ---- a command is added

-- the table with one more command
pub pushed : (t t' : Table) (a : Awaited) → IsTable t → t'.commands.items ≡ t.commands.items ++ a ∷ [] → t'.takes.items ≡ t.takes.items → a.end ≤ length t.takes.items
    → Updates pair_cmp t.places t'.places (a.host, a.ordinal) (Some (length (sends_in t))) → Updates nat_cmp t.counts t'.counts a.host (Some (sends_by a.host (sends_in t) + 1))
    → (sends_in t' ≡ sends_in t ++ sent_in t.takes.items a ∷ []) × IsTable t'
pushed t t' a is more same ends places counts = (
  sends,
  record {
    ends = subst (λ (those : List Awaited). All (λ (b : Awaited). b.end ≤ length t'.takes.items) those) (sym more)
        (subst (λ (ts : List ℕ). All (λ (b : Awaited). b.end ≤ length ts) (t.commands.items ++ a ∷ [])) (sym same)
        (every-All (λ (b : Awaited). b.end ≤ length t.takes.items) (t.commands.items ++ a ∷ [])
        (every-append (λ (b : Awaited). b.end ≤ length t.takes.items) t.commands.items (a ∷ []) (every-of-All (λ (b : Awaited). b.end ≤ length t.takes.items) t.commands.items is.ends) (ends, tt))));
    places = subst (λ (ss : List Sent). HasPlaces ss t'.places) (sym sends) (place-pushed (sends_in t) t.places t'.places (sent_in t.takes.items a) is.places places);
    counts = subst (λ (ss : List Sent). HasCounts ss t'.counts) (sym sends) (count-pushed (sends_in t) t.counts t'.counts (sent_in t.takes.items a) is.counts counts);
  },
)
  where
    sends : sends_in t' ≡ sends_in t ++ sent_in t.takes.items a ∷ []
    sends = ap (λ (ts : List ℕ). map (sent_in ts) t'.commands.items) same ∙ (ap (map (sent_in t.takes.items)) more ∙ map-append (sent_in t.takes.items) t.commands.items (a ∷ []))

-- the table with more takes
pub lengthened : (t t' : Table) (more : List ℕ) → IsTable t → t'.commands.items ≡ t.commands.items → t'.takes.items ≡ t.takes.items ++ more → t'.places ≡ t.places → t'.counts ≡ t.counts
    → (sends_in t' ≡ sends_in t) × IsTable t'
lengthened t t' more is commands takes places counts = (
  sends,
  record {
    ends = subst (λ (those : List Awaited). All (λ (b : Awaited). b.end ≤ length t'.takes.items) those) (sym commands)
        (every-All (λ (b : Awaited). b.end ≤ length t'.takes.items) t.commands.items
        (every-weaker (λ (b : Awaited). b.end ≤ length t.takes.items) (λ (b : Awaited). b.end ≤ length t'.takes.items) (λ b below. omega (arith, below, longer)) t.commands.items each));
    places = subst (λ (m : BTreeMap (ℕ × ℕ) ℕ). HasPlaces (sends_in t') m) (sym places) (subst (λ (ss : List Sent). HasPlaces ss t.places) (sym sends) is.places);
    counts = subst (λ (m : BTreeMap ℕ ℕ). HasCounts (sends_in t') m) (sym counts) (subst (λ (ss : List Sent). HasCounts ss t.counts) (sym sends) is.counts);
  },
)
  where
    each : AllByRecursion (λ (b : Awaited). b.end ≤ length t.takes.items) t.commands.items
    each = every-of-All (λ (b : Awaited). b.end ≤ length t.takes.items) t.commands.items is.ends

    longer : length t'.takes.items ≡ length t.takes.items + length more
    longer = ap (λ (ts : List ℕ). length ts) takes ∙ length-append t.takes.items more

    sends : sends_in t' ≡ sends_in t
    sends = ap (map (sent_in t'.takes.items)) commands ∙ (ap (λ (ts : List ℕ). map (sent_in ts) t.commands.items) takes ∙ sends-longer t.takes.items more t.commands.items each)

-- ---- a host goes on

-- a command of a host behind others
pub sent-on : (sends : List Sent) (host phase cid : ℕ) (waiting : List Waiting) (taken : List ℕ) (shared : Arc Command Global) (rest : List Item) (s : Sent)
    → s ≡ record { host = host; ordinal = next_ordinal host sends; cid = cid; phase = phase; command = shared.value; taken = taken; named = named_in waiting shared.value }
    → (sends ++ s ∷ []) ++ sends_of_items host phase (next_ordinal host (sends ++ s ∷ [])) (waiting ++ record { cid = cid; ordinal = next_ordinal host sends } ∷ []) taken rest
    ≡ sends ++ sends_of_items host phase (next_ordinal host sends) waiting taken (item.Send cid shared ∷ rest)
sent-on sends host phase cid waiting taken shared rest s is =
    let here : Waiting = record { cid = cid; ordinal = next_ordinal host sends } in
    let tail : ℕ → List Sent = λ n. sends_of_items host phase n (waiting ++ here ∷ []) taken rest in
    let next : next_ordinal host (sends ++ s ∷ []) ≡ next_ordinal host sends + 1 = next-pushed sends s host (ap (λ (x : Sent). x.host) is) in
    append_assoc sends (s ∷ []) (tail (next_ordinal host (sends ++ s ∷ [])))
    ∙ (ap (λ (n : ℕ). sends ++ s ∷ tail n) next ∙ ap (λ (x : Sent). sends ++ x ∷ tail (next_ordinal host sends + 1)) is)

pub waiting-without : (cid : ℕ) (os : List Outstanding) → waiting_of (filter (λ (o : Outstanding). not (o.cid == cid)) os) ≡ filter (λ (w : Waiting). not (w.cid == cid)) (waiting_of os)
waiting-without cid [] = refl
waiting-without cid (o ∷ os) = by_test (not (o.cid == cid)) (waiting-without cid os)
  where
    by_test : (b : Bool) → waiting_of (filter (λ (o : Outstanding). not (o.cid == cid)) os) ≡ filter (λ (w : Waiting). not (w.cid == cid)) (waiting_of os)
        → waiting_of (cond b (o ∷ filter (λ (o : Outstanding). not (o.cid == cid)) os) (filter (λ (o : Outstanding). not (o.cid == cid)) os))
        ≡ cond b (waiting o ∷ filter (λ (w : Waiting). not (w.cid == cid)) (waiting_of os)) (filter (λ (w : Waiting). not (w.cid == cid)) (waiting_of os))
    by_test true e = ap (λ (ws : List Waiting). waiting o ∷ ws) e
    by_test false e = e

-- ---- how many commands there are at least

pub items-more : (xs ys : List Sent) → length xs ≤ length (xs ++ ys)
items-more xs ys = omega (arith, length-append xs ys)

pub parts-more : (phase : ℕ) (earlier : List Sent) (parts : List HostPart) → length earlier ≤ length (sends_of_parts phase earlier parts)
parts-more phase earlier [] = omega arith
parts-more phase earlier (part ∷ parts) =
    let new = sends_of_items part.host phase (next_ordinal part.host earlier) [] [] part.items in
    omega (arith, items-more earlier new, parts-more phase (earlier ++ new) parts)

pub phases-more : (phase : ℕ) (earlier : List Sent) (phases : List Phase) → length earlier ≤ length (sends_of_phases phase earlier phases)
phases-more phase earlier [] = omega arith
phases-more phase earlier (p ∷ phases) = omega (arith, parts-more phase earlier p.hosts, phases-more (phase + 1) (sends_of_parts phase earlier p.hosts) phases)

-- ---- what is looked up

pub found-none : (sends : List Sent) (m : BTreeMap (ℕ × ℕ) ℕ) (h n : ℕ) → HasPlaces sends m → get pair_cmp m (h, n) ≡ None → (place : ℕ) → IsAt sends h n place → ⊥
found-none sends m h n has none place is =
    no-value (get pair_cmp m (h, n)) none
    (subst (λ (k : ℕ × ℕ). IsSome (get pair_cmp m k)) (pairs is.s.host h is.s.ordinal n is.host is.ordinal) (has.each place is.s is.at))
  where
    no-value : (o : Option ℕ) → o ≡ None → IsSome o → ⊥
    no-value (Some v) e some = cc
    no-value None e some = absurd (false≢true some)

    pairs : (a b x y : ℕ) → a ≡ b → x ≡ y → Path (ℕ × ℕ) (a, x) (b, y)
    pairs a b x y e f = λ i. (e i, f i)

-- the command at a place
pub command-at : (t : Table) (place : ℕ) (a : Awaited) → place < length t.commands.items → a ≡ get_or t.commands.items place a → slice_get (sends_in t) place ≡ Some (sent_in t.takes.items a)
command-at t place a below is =
    slice_get-map (sent_in t.takes.items) t.commands.items place
    ∙ ap (option_map (sent_in t.takes.items)) (slice_get_read t.commands.items (length t.commands.items) place a refl below is)

-- the takes of a command are there
pub ends-at : (t : Table) (place : ℕ) (a : Awaited) → IsTable t → place < length t.commands.items → a ≡ get_or t.commands.items place a → a.end ≤ length t.takes.items
ends-at t place a is below at = subst (λ (b : Awaited). b.end ≤ length t.takes.items) (sym at) (is.ends place a below)

-- ---- what an item adds

pub updates-as : (m n : BTreeMap (ℕ × ℕ) ℕ) (h h' o o' v v' : ℕ) → h ≡ h' → o ≡ o' → v ≡ v' → Updates pair_cmp m n (h, o) (Some v) → Updates pair_cmp m n (h', o') (Some v')
updates-as m n h h' o o' v v' eh eo ev u =
    subst (λ (x : ℕ). Updates pair_cmp m n (h', o') (Some x)) ev (subst (λ (x : ℕ). Updates pair_cmp m n (h', x) (Some v)) eo (subst (λ (x : ℕ). Updates pair_cmp m n (x, o) (Some v)) eh u))

pub counts-as : (m n : BTreeMap ℕ ℕ) (h v v' : ℕ) → v ≡ v' → Updates nat_cmp m n h (Some v) → Updates nat_cmp m n h (Some v')
counts-as m n h v v' ev u = subst (λ (x : ℕ). Updates nat_cmp m n h (Some x)) ev u

-- the parts of a command that is added
pub record IsAdded (sends : List Sent) (sender : Sender) (takes : List ℕ) (under : ℕ) (shared : Arc Command Global) (a : Awaited) : Type 0 where
  pub host : a.host ≡ sender.host
  pub ordinal : a.ordinal ≡ next_ordinal sender.host sends
  pub cid : a.cid ≡ under
  pub phase : a.phase ≡ sender.phase
  pub command : a.command.value ≡ shared.value
  pub begin : a.begin ≡ sender.begin
  pub end : a.end ≡ length takes
  pub named : a.named ≡ named_in (waiting_of sender.outstanding.items) shared.value

added-sent : (sends : List Sent) (sender : Sender) (takes : List ℕ) (cid : ℕ) (shared : Arc Command Global) (a : Awaited) → IsAdded sends sender takes cid shared a
    → sent_in takes a ≡ record { host = sender.host; ordinal = next_ordinal sender.host sends; cid = cid; phase = sender.phase; command = shared.value; taken = drop sender.begin takes; named = named_in (waiting_of sender.outstanding.items) shared.value }
added-sent sends sender takes cid shared a is =
    let end : take a.end takes ≡ takes = take_all a.end takes (omega (arith, is.end)) in
    λ i. record { host = is.host i; ordinal = is.ordinal i; cid = is.cid i; phase = is.phase i; command = is.command i; taken = drop (is.begin i) (end i); named = is.named i }

pub went-send : (t t' : Table) (sender sender' : Sender) (cid : ℕ) (shared : Arc Command Global) (a : Awaited) → IsAdded (sends_in t) sender t.takes.items cid shared a
    → sends_in t' ≡ sends_in t ++ sent_in t.takes.items a ∷ [] → t'.takes.items ≡ t.takes.items → sender'.host ≡ sender.host → sender'.phase ≡ sender.phase → sender'.begin ≡ sender.begin
    → sender'.outstanding.items ≡ sender.outstanding.items ++ record { cid = cid; ordinal = a.ordinal } ∷ [] → sender.begin ≤ length t.takes.items → HasGoneOn t sender (item.Send cid shared) t' sender'
went-send t t' sender sender' cid shared a is sends takes host phase begin outstanding begun = record {
  host = host;
  phase = phase;
  begin = begin;
  begun = omega (arith, begun, ap (λ (ts : List ℕ). length ts) takes);
  sends = λ rest. all rest;
}
  where
    all : (rest : List Item) → going_on t' sender' rest ≡ going_on t sender (item.Send cid shared ∷ rest)
    all rest =
        let os : sender'.outstanding.items ≡ sender.outstanding.items ++ record { cid = cid; ordinal = next_ordinal sender.host (sends_in t) } ∷ [] =
        outstanding ∙ ap (λ (n : ℕ). sender.outstanding.items ++ record { cid = cid; ordinal = n } ∷ []) is.ordinal in
        let ws : waiting_of sender'.outstanding.items ≡ waiting_of sender.outstanding.items ++ record { cid = cid; ordinal = next_ordinal sender.host (sends_in t) } ∷ [] =
        ap waiting_of os ∙ map-append waiting sender.outstanding.items (record { cid = cid; ordinal = next_ordinal sender.host (sends_in t) } ∷ []) in
        let first : going_on t' sender' rest
        ≡ (sends_in t ++ sent_in t.takes.items a ∷ []) ++ sends_of_items sender.host sender.phase (next_ordinal sender.host (sends_in t ++ sent_in t.takes.items a ∷ []))
        (waiting_of sender.outstanding.items ++ record { cid = cid; ordinal = next_ordinal sender.host (sends_in t) } ∷ []) (drop sender.begin t.takes.items) rest =
        λ i. sends i ++ sends_of_items (host i) (phase i) (next_ordinal (host i) (sends i)) (ws i) (drop (begin i) (takes i)) rest in
        first
        ∙ sent-on (sends_in t) sender.host sender.phase cid (waiting_of sender.outstanding.items) (drop sender.begin t.takes.items) shared rest (sent_in t.takes.items a)
        (added-sent (sends_in t) sender t.takes.items cid shared a is)

pub went-take : (t t' : Table) (sender sender' : Sender) (cid : ℕ) → sends_in t' ≡ sends_in t → t'.takes.items ≡ t.takes.items ++ ordinals_of cid (waiting_of sender.outstanding.items)
    → sender'.host ≡ sender.host → sender'.phase ≡ sender.phase → sender'.begin ≡ sender.begin → sender'.outstanding.items ≡ filter (λ (o : Outstanding). not (o.cid == cid)) sender.outstanding.items
    → sender.begin ≤ length t.takes.items → HasGoneOn t sender (item.Take cid) t' sender'
went-take t t' sender sender' cid sends takes host phase begin outstanding begun = record {
  host = host;
  phase = phase;
  begin = begin;
  begun = omega (arith, begun, ap (λ (ts : List ℕ). length ts) takes, length-append t.takes.items (ordinals_of cid (waiting_of sender.outstanding.items)));
  sends = λ rest. all rest;
}
  where
    all : (rest : List Item) → going_on t' sender' rest ≡ going_on t sender (item.Take cid ∷ rest)
    all rest =
        let ws : waiting_of sender'.outstanding.items ≡ filter (λ (w : Waiting). not (w.cid == cid)) (waiting_of sender.outstanding.items) = ap waiting_of outstanding ∙ waiting-without cid sender.outstanding.items in
        let ts : drop sender'.begin t'.takes.items ≡ drop sender.begin t.takes.items ++ ordinals_of cid (waiting_of sender.outstanding.items) =
        (λ i. drop (begin i) (takes i)) ∙ drop-append-le sender.begin t.takes.items (ordinals_of cid (waiting_of sender.outstanding.items)) begun in
        λ i. sends i ++ sends_of_items (host i) (phase i) (next_ordinal (host i) (sends i)) (ws i) (ts i) rest
