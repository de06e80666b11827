-- What the definition of plans accepts keeps the rules of queues, and sends what the script sends.
use Rattle.std.proofs.Common.{ap, filter, ◌≡◌, ℕ, ◌+◌, ◌<◌, ◌==◌, nat_eq, nat_le, Bool, true, false, not, ◌||◌, List, [], ◌∷◌, ◌++◌, cond, map, length, get_or, Result, Ok, Err, refl, sym, ◌∙◌, subst, arith}
use Rattle.std.specs.List.{AllByRecursion, Contains}
use Rattle.std.specs.Prelude.{if◌then◌else◌}
use Rattle.std.proofs.lemmas.Bool.{eq-eqb, eqb-true, leb-false}
use Rattle.std.proofs.lemmas.Map.Views.{Contains-from_any}
use Rattle.script_cmds.specs.declared.item.Item.{Item}
use Rattle.script_cmds.specs.declared.item.Item.TheVariants as item
use Rattle.script_cmds.specs.declared.item.HostPart.{HostPart}
use Rattle.script_cmds.specs.declared.item.Phase.{Phase}
use Rattle.script_cmds.specs.Queues.{queue_of_cid}
use Rattle.history_model.specs.Plan.{PlanFault, QueueFull, CidBusy, NotOutstanding, in_queue, is_outstanding, planned_items, planned_parts, planned_hosts, planned_phases, lines_of_parts, then_plan, both_planned}
use Rattle.history_model.specs.Plain.{hosts_by_phase}
use Rattle.history_model.specs.Sent.{Sent, named_in, Waiting, ordinals_of, next_ordinal, sends_of_items, sends_of_parts, sends_of_phases}
use Rattle.history_model.specs.Rules.{KeepsEachQueue, without}
use Rattle.history_model.proofs.Every.{every-All, every-weaker, every-filter, Pairwise, pairwise-append}
use Rattle.script_plan.proofs.Alike.{KeepsPart}
use Rattle.script_plan.proofs.Queue.{any-swap, without-absent}
use Rattle.script_plan.proofs.ToQueues.{PartSendsTo, PhaseSendsTo, items-to}

-- two identifiers are not the same
abbrev pub Differs : ℕ → ℕ → Type 0
Differs a b = nat_eq a b ≡ false

differs-first : (b : Bool) (x cid : ℕ) (xs : List ℕ) → nat_eq x cid ≡ b → (b || is_outstanding cid xs) ≡ false
    → (is_outstanding cid xs ≡ false → AllByRecursion (λ other. Differs other cid) xs) → Differs x cid × AllByRecursion (λ other. Differs other cid) xs
differs-first true x cid xs is none more = cc
differs-first false x cid xs is none more = (is, more none)

-- no outstanding command has the identifier
pub others-differ : (cid : ℕ) (outstanding : List ℕ) → is_outstanding cid outstanding ≡ false → AllByRecursion (λ other. Differs other cid) outstanding
others-differ cid [] none = tt
others-differ cid (x ∷ xs) none = differs-first (nat_eq x cid) x cid xs refl none (others-differ cid xs)

pub not-contained : (cid : ℕ) (outstanding : List ℕ) → is_outstanding cid outstanding ≡ false → Contains outstanding cid → ⊥
not-contained cid outstanding none found =
    let differs = every-All (λ other. Differs other cid) outstanding (others-differ cid outstanding none) found.0 cid found.1 in
    let same : nat_eq (get_or outstanding found.0 cid) cid ≡ true = eq-eqb (get_or outstanding found.0 cid) cid found.2 in
    cc

pub contained : (cid : ℕ) (outstanding : List ℕ) → is_outstanding cid outstanding ≡ true → Contains outstanding cid
contained cid outstanding found = Contains-from_any {eq = nat_eq} eqb-true cid outstanding (any-swap cid outstanding ∙ found)

-- one more that differs from all
distinct-more : (cid : ℕ) (outstanding : List ℕ) → Pairwise Differs outstanding → is_outstanding cid outstanding ≡ false → Pairwise Differs (outstanding ++ cid ∷ [])
distinct-more cid outstanding distinct none =
    pairwise-append Differs outstanding (cid ∷ []) distinct (tt, tt)
    (every-weaker (λ other. Differs other cid) (λ other. AllByRecursion (Differs other) (cid ∷ [])) (λ other differs. (differs, tt)) outstanding (others-differ cid outstanding none))

distinct-kept : (test : Bool) (x : ℕ) (xs kept : List ℕ) → AllByRecursion (Differs x) kept → Pairwise Differs kept → Pairwise Differs (cond test (x ∷ kept) kept)
distinct-kept true x xs kept first rest = (first, rest)
distinct-kept false x xs kept first rest = rest

distinct-less : (cid : ℕ) (outstanding : List ℕ) → Pairwise Differs outstanding → Pairwise Differs (without cid outstanding)
distinct-less cid [] distinct = tt
distinct-less cid (x ∷ xs) distinct =
    distinct-kept (not (x == cid)) x xs (without cid xs) (every-filter (Differs x) (λ other. not (other == cid)) xs distinct.0) (distinct-less cid xs distinct.1)

-- what is outstanding at the end is taken one by one
takes-keep : (depth : ℕ) (outstanding : List ℕ) → Pairwise Differs outstanding → KeepsEachQueue depth outstanding (map (λ cid. item.Take cid) outstanding)
takes-keep depth [] distinct = refl
takes-keep depth (cid ∷ rest) distinct =
    let gone : without cid (cid ∷ rest) ≡ rest = rw (eq-eqb cid cid refl) (without-absent cid rest distinct.0) in
    let P : List ℕ → Type 0 = λ out. KeepsEachQueue depth out (map (λ c. item.Take c) rest) in
    ((0, omega arith, refl), subst P (sym gone) (takes-keep depth rest distinct.1))

-- an item in front of a plan of the rest
front-of : (x : Item) (r : Result (List Item) PlanFault) (xs : List Item) → then_plan (λ rest. x ∷ rest) r ≡ Ok xs
    → (rest : List Item) × (r ≡ Ok rest) × (x ∷ rest ≡ xs)
front-of x (Ok rest) xs is = (rest, refl, cc)
front-of x (Err f) xs is = cc

-- items that send the same commands
abbrev pub SendsSame : List Item → List Item → Type 0
SendsSame xs ys = (host phase ordinal : ℕ) (waiting : List Waiting) (taken : List ℕ)
    → sends_of_items host phase ordinal waiting taken xs ≡ sends_of_items host phase ordinal waiting taken ys

takes-send-none : (cids : List ℕ) → SendsSame (map (λ cid. item.Take cid) cids) []
takes-send-none [] = λ host phase ordinal waiting taken. refl
takes-send-none (cid ∷ cids) = λ host phase ordinal waiting taken.
    takes-send-none cids host phase ordinal (filter (λ (w : Waiting). not (w.cid == cid)) waiting) (taken ++ ordinals_of cid waiting)

-- what is planned for a host keeps the rules of its queues, and sends what its items send
pub items-keep : (depth line : ℕ) (outstanding : List ℕ) (items xs : List Item) → Pairwise Differs outstanding → planned_items depth line outstanding items ≡ Ok xs
    → KeepsEachQueue depth outstanding xs × SendsSame xs items
items-keep depth line outstanding [] xs distinct is =
    let P : List Item → Type 0 = λ ys. KeepsEachQueue depth outstanding ys × SendsSame ys [] in
    let same : map (λ cid. item.Take cid) outstanding ≡ xs = cc in
    subst P same (takes-keep depth outstanding distinct, takes-send-none outstanding)
items-keep depth line outstanding (item.Send cid command ∷ items) xs distinct is =
    go (nat_le depth (in_queue (queue_of_cid cid) outstanding)) (is_outstanding cid outstanding) refl refl is (λ rest none. items-keep depth (line + 1) (outstanding ++ cid ∷ []) items rest (distinct-more cid outstanding distinct none))
  where
    go : (full busy : Bool) → nat_le depth (in_queue (queue_of_cid cid) outstanding) ≡ full → is_outstanding cid outstanding ≡ busy
        → (if full then Err (record { line = line; breach = QueueFull }) else if busy then Err (record { line = line; breach = CidBusy }) else then_plan (λ rest. item.Send cid command ∷ rest) (planned_items depth (line + 1) (outstanding ++ cid ∷ []) items)) ≡ Ok xs
        → ((rest : List Item) → is_outstanding cid outstanding ≡ false → planned_items depth (line + 1) (outstanding ++ cid ∷ []) items ≡ Ok rest
        → KeepsEachQueue depth (outstanding ++ cid ∷ []) rest × SendsSame rest items)
        → KeepsEachQueue depth outstanding xs × SendsSame xs (item.Send cid command ∷ items)
    go true busy room free h more = cc
    go false true room free h more = cc
    go false false room free h more =
        let front = front-of (item.Send cid command) (planned_items depth (line + 1) (outstanding ++ cid ∷ []) items) xs h in
        let rest = more front.0 free front.1 in
        let below : in_queue (queue_of_cid cid) outstanding < depth = leb-false depth (in_queue (queue_of_cid cid) outstanding) room in
        let P : List Item → Type 0 = λ ys. KeepsEachQueue depth outstanding ys × SendsSame ys (item.Send cid command ∷ items) in
        subst P front.2 (
          (below, not-contained cid outstanding free, rest.0),
          (λ host phase ordinal waiting taken.
              let first : Sent = record { host = host; ordinal = ordinal; cid = cid; phase = phase; command = command.value; taken = taken; named = named_in waiting command.value } in
              let here : Waiting = record { cid = cid; ordinal = ordinal } in
              ap (λ l. first ∷ l) (rest.1 host phase (ordinal + 1) (waiting ++ here ∷ []) taken)),
        )
items-keep depth line outstanding (item.Take cid ∷ items) xs distinct is =
    go (is_outstanding cid outstanding) refl is (λ rest. items-keep depth (line + 1) (without cid outstanding) items rest (distinct-less cid outstanding distinct))
  where
    go : (found : Bool) → is_outstanding cid outstanding ≡ found
        → (if found then then_plan (λ rest. item.Take cid ∷ rest) (planned_items depth (line + 1) (without cid outstanding) items) else Err (record { line = line; breach = NotOutstanding })) ≡ Ok xs
        → ((rest : List Item) → planned_items depth (line + 1) (without cid outstanding) items ≡ Ok rest
        → KeepsEachQueue depth (without cid outstanding) rest × SendsSame rest items)
        → KeepsEachQueue depth outstanding xs × SendsSame xs (item.Take cid ∷ items)
    go true found h more =
        let front = front-of (item.Take cid) (planned_items depth (line + 1) (without cid outstanding) items) xs h in
        let rest = more front.0 front.1 in
        let P : List Item → Type 0 = λ ys. KeepsEachQueue depth outstanding ys × SendsSame ys (item.Take cid ∷ items) in
        subst P front.2 (
          (contained cid outstanding found, rest.0),
          (λ host phase ordinal waiting taken. rest.1 host phase ordinal (filter (λ (w : Waiting). not (w.cid == cid)) waiting) (taken ++ ordinals_of cid waiting)),
        )
    go false found h more = cc

-- two plans, joined
joined : {A B C : Type 0} (join : A → B → C) (r : Result A PlanFault) (s : Result B PlanFault) (c : C) → both_planned join r s ≡ Ok c
    → (a : A) × (b : B) × (r ≡ Ok a) × (s ≡ Ok b) × (join a b ≡ c)
joined join (Ok a) (Ok b) c is = (a, b, refl, refl, cc)
joined join (Ok a) (Err f) c is = cc
joined join (Err e) s c is = cc

abbrev pub part_hosts : List HostPart → List ℕ
part_hosts parts = map (λ (part : HostPart). part.host) parts

-- parts that keep the rules, of the same hosts, which send the same commands
pub record PartsKept (depth : ℕ) (xs parts : List HostPart) : Type 0 where
  pub queues : AllByRecursion (KeepsPart depth) xs
  pub hosts : part_hosts xs ≡ part_hosts parts
  pub sends : (phase : ℕ) (earlier : List Sent) → sends_of_parts phase earlier xs ≡ sends_of_parts phase earlier parts
  pub to : (queues : ℕ) → AllByRecursion (PartSendsTo queues) parts → AllByRecursion (PartSendsTo queues) xs

pub parts-keep : (depth line : ℕ) (parts xs : List HostPart) → planned_parts depth line parts ≡ Ok xs → PartsKept depth xs parts
parts-keep depth line [] xs is =
    let P : List HostPart → Type 0 = λ ys. PartsKept depth ys [] in
    let same : [] ≡ xs = cc in
    subst P same (record { queues = tt; hosts = refl; sends = λ phase earlier. refl; to = λ queues all. all })
parts-keep depth line (part ∷ parts) xs is =
    let join : List Item → List HostPart → List HostPart = λ items rest. record { host = part.host; items = items } ∷ rest in
    let split = joined join (planned_items depth (line + 1) [] part.items) (planned_parts depth (line + 1 + length part.items) parts) xs is in
    let first = items-keep depth (line + 1) [] part.items split.0 tt split.2 in
    let rest = parts-keep depth (line + 1 + length part.items) parts split.1 split.3 in
    let P : List HostPart → Type 0 = λ ys. PartsKept depth ys (part ∷ parts) in
    subst P split.4 (record {
      queues = (first.0, rest.queues);
      hosts = ap (λ l. part.host ∷ l) rest.hosts;
      sends = λ phase earlier.
          ap (λ s. sends_of_parts phase (earlier ++ s) split.1) (first.1 part.host phase (next_ordinal part.host earlier) [] [])
          ∙ rest.sends phase (earlier ++ sends_of_items part.host phase (next_ordinal part.host earlier) [] [] part.items);
      to = λ queues all. (items-to queues split.0 part.items (first.1 0 0 0 [] []) all.0, rest.to queues all.1);
    })

-- a phase with a host, each of whose parts keeps the rules
pub record IsKeptPhase (depth : ℕ) (phase : Phase) : Type 0 where
  pub acted : 0 < length phase.hosts
  pub queues : AllByRecursion (KeepsPart depth) phase.hosts

some-planned : (depth line : ℕ) (part : HostPart) (parts xs : List HostPart) → planned_parts depth line (part ∷ parts) ≡ Ok xs → 0 < length xs
some-planned depth line part parts xs is =
    let join : List Item → List HostPart → List HostPart = λ items rest. record { host = part.host; items = items } ∷ rest in
    let split = joined join (planned_items depth (line + 1) [] part.items) (planned_parts depth (line + 1 + length part.items) parts) xs is in
    let P : List HostPart → Type 0 = λ ys. 0 < length ys in
    subst P split.4 (omega arith)

hosts-keep : (depth line : ℕ) (parts xs : List HostPart) → planned_hosts depth line parts ≡ Ok xs → (0 < length xs) × PartsKept depth xs parts
hosts-keep depth line [] xs is = cc
hosts-keep depth line (part ∷ parts) xs is = (some-planned depth (line + 1) part parts xs is, parts-keep depth (line + 1) (part ∷ parts) xs is)

-- phases that keep the rules, of the same hosts, which send the same commands
pub record PhasesKept (depth : ℕ) (xs phases : List Phase) : Type 0 where
  pub rules : AllByRecursion (IsKeptPhase depth) xs
  pub hosts : hosts_by_phase xs ≡ hosts_by_phase phases
  pub sends : (phase : ℕ) (earlier : List Sent) → sends_of_phases phase earlier xs ≡ sends_of_phases phase earlier phases
  pub to : (queues : ℕ) → AllByRecursion (PhaseSendsTo queues) phases → AllByRecursion (PhaseSendsTo queues) xs

-- every plan keeps the rules, and sends what the script sends
pub phases-keep : (depth line : ℕ) (phases xs : List Phase) → planned_phases depth line phases ≡ Ok xs → PhasesKept depth xs phases
phases-keep depth line [] xs is =
    let P : List Phase → Type 0 = λ ys. PhasesKept depth ys [] in
    let same : [] ≡ xs = cc in
    subst P same (record { rules = tt; hosts = refl; sends = λ phase earlier. refl; to = λ queues all. all })
phases-keep depth line (phase ∷ phases) xs is =
    let join : List HostPart → List Phase → List Phase = λ hosts rest. record { hosts = hosts } ∷ rest in
    let split = joined join (planned_hosts depth line phase.hosts) (planned_phases depth (line + 1 + lines_of_parts phase.hosts) phases) xs is in
    let first = hosts-keep depth line phase.hosts split.0 split.2 in
    let rest = phases-keep depth (line + 1 + lines_of_parts phase.hosts) phases split.1 split.3 in
    let P : List Phase → Type 0 = λ ys. PhasesKept depth ys (phase ∷ phases) in
    subst P split.4 (record {
      rules = (record { acted = first.0; queues = first.1.queues }, rest.rules);
      hosts = ap (λ l. l ∷ hosts_by_phase split.1) first.1.hosts ∙ ap (λ l. part_hosts phase.hosts ∷ l) rest.hosts;
      sends = λ number earlier.
          ap (λ s. sends_of_phases (number + 1) s split.1) (first.1.sends number earlier)
          ∙ rest.sends (number + 1) (sends_of_parts number earlier phase.hosts);
      to = λ queues all. (first.1.to queues all.0, rest.to queues all.1);
    })
