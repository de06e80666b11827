-- The schedule of a plan that keeps the rules.
use Rattle.std.proofs.Common.{◌≡◌, ◌≢◌, ℕ, suc, ◌+◌, Bool, true, false, if◌then◌else◌, ◌==◌, List, [], ◌∷◌, ◌++◌, length, length-append, not, filter, refl, sym, ap, subst, arith}
use Rattle.std.specs.List.{AllByRecursion, All}
use Rattle.cp_base.specs.Configuration.{Configuration}
use Rattle.script_cmds.specs.declared.item.HostPart.{HostPart}
use Rattle.script_cmds.specs.declared.item.Item.{Item}
use Rattle.script_cmds.specs.declared.item.Item.TheVariants as item
use Rattle.script_cmds.specs.declared.item.Phase.{Phase}
use Rattle.script_cmds.specs.Hosts.{hosts_of}
use Rattle.history_model.specs.Plain.{PlainItem, plain_items, plain_parts, plain_phase, plain_phases}
use Rattle.history_model.specs.Rules.{KeepsQueue, KeepsRules, without}
use Rattle.history_model.specs.Sent.{Sent, Waiting, next_ordinal, ordinals_of, sends_of, sends_of_items, sends_of_parts, sends_of_phases}
use Rattle.history_model.proofs.Every.{Pairwise, every-of-All}
use Rattle.history_model.proofs.Hosts.{ascend-differ, ascend-within}
use Rattle.trail_model.specs.Lawful.{Trail}
use Rattle.trail_model.specs.World.{first_world}
use Rattle.schedule_model.specs.Deeds.{IsHost, Phases, items_in_phase}
use Rattle.schedule_model.specs.Schedule.{IsScheduled, RunsTo}
use Rattle.schedule_model.proofs.Listing.{hosts_in, sends_among, sends_left}
use Rattle.schedule_model.proofs.Running.{FirstKeeps, Found, GoodHosts, KeepsPlain, NoneYet, Reached, Ready, all_sends, found, reached}
use Rattle.schedule_model.proofs.Telling.{at-first, first_standing}
use Rattle.schedule_model.proofs.WholePlans.{pairwise-of}

-- ---- the rules on plain items

plain-keeps : (depth : ℕ) (outstanding : List ℕ) (items : List Item) → KeepsQueue depth outstanding items → KeepsPlain depth outstanding (plain_items items)
plain-keeps depth outstanding [] keeps = keeps
plain-keeps depth outstanding (item.Send cid sent ∷ items) keeps = (keeps.0, keeps.1, plain-keeps depth (outstanding ++ cid ∷ []) items keeps.2)
plain-keeps depth outstanding (item.Take cid ∷ items) keeps = (keeps.0, plain-keeps depth (without cid outstanding) items keeps.1)

one-behind-other : (depth : ℕ) (outstanding : List ℕ) (xs ys : List PlainItem) → KeepsPlain depth outstanding xs → KeepsPlain depth [] ys → KeepsPlain depth outstanding (xs ++ ys)
one-behind-other depth outstanding [] ys keeps more = subst (λ (os : List ℕ). KeepsPlain depth os ys) (sym keeps) more
one-behind-other depth outstanding (Rattle.history_model.specs.Plain.Sends cid cmd ∷ xs) ys keeps more = (keeps.0, keeps.1, one-behind-other depth (outstanding ++ cid ∷ []) xs ys keeps.2 more)
one-behind-other depth outstanding (Rattle.history_model.specs.Plain.Takes cid ∷ xs) ys keeps more = (keeps.0, one-behind-other depth (without cid outstanding) xs ys keeps.1 more)

none-yet : (depth : ℕ) (parts : List HostPart) → AllByRecursion (λ (part : HostPart). KeepsQueue depth [] part.items) parts → NoneYet depth (plain_parts parts)
none-yet depth [] keeps host = refl
none-yet depth (part ∷ parts) keeps host = by_host (part.host == host) (none-yet depth parts keeps.1 host)
  where
    by_host : (b : Bool) → KeepsPlain depth [] (items_in_phase host (plain_parts parts))
        → KeepsPlain depth [] ((if b then plain_items part.items else []) ++ items_in_phase host (plain_parts parts))
    by_host true later = one-behind-other depth [] (plain_items part.items) (items_in_phase host (plain_parts parts)) (plain-keeps depth [] part.items keeps.0) later
    by_host false later = later

same-hosts : (parts : List HostPart) → hosts_in (plain_parts parts) ≡ hosts_of parts
same-hosts [] = refl
same-hosts (part ∷ parts) = ap (λ (hs : List ℕ). part.host ∷ hs) (same-hosts parts)

good-hosts : (depth : ℕ) (phase : Phase) → KeepsRules depth phase → GoodHosts (plain_phase phase)
good-hosts depth phase rules =
    subst (λ (hs : List ℕ). Pairwise (λ a b. a ≢ b) hs × AllByRecursion IsHost hs) (sym (same-hosts phase.hosts)) (
      pairwise-of (hosts_of phase.hosts) (ascend-differ 0 (hosts_of phase.hosts) rules.ascend),
      every-of-All IsHost (hosts_of phase.hosts) (ascend-within 16 (hosts_of phase.hosts) rules.ascend rules.numbers),
    )

each-good : (depth : ℕ) (plan : List Phase) → AllByRecursion (KeepsRules depth) plan → AllByRecursion GoodHosts (plain_phases plan)
each-good depth [] rules = tt
each-good depth (phase ∷ plan) rules = (good-hosts depth phase rules.0, each-good depth plan rules.1)

each-none : (depth : ℕ) (plan : List Phase) → AllByRecursion (KeepsRules depth) plan → AllByRecursion (NoneYet depth) (plain_phases plan)
each-none depth [] rules = tt
each-none depth (phase ∷ plan) rules =
    (none-yet depth phase.hosts (every-of-All (λ (part : HostPart). KeepsQueue depth [] part.items) phase.hosts rules.0.queues.queues), each-none depth plan rules.1)

first-keeps : (depth : ℕ) (phases : Phases) → AllByRecursion (NoneYet depth) phases → FirstKeeps depth (λ host. []) phases
first-keeps depth [] all = tt
first-keeps depth (phase ∷ phases) all = (all.0, all.1)

-- ---- how many commands a plan sends

items-count : (host phase ordinal : ℕ) (waiting : List Waiting) (taken : List ℕ) (items : List Item)
    → length (sends_of_items host phase ordinal waiting taken items) ≡ sends_among (plain_items items)
items-count host phase ordinal waiting taken [] = refl
items-count host phase ordinal waiting taken (item.Send cid sent ∷ items) =
    ap suc (items-count host phase (ordinal + 1) (waiting ++ (let w : Waiting = record { cid = cid; ordinal = ordinal } in w) ∷ []) taken items)
items-count host phase ordinal waiting taken (item.Take cid ∷ items) =
    items-count host phase ordinal (filter (λ (w : Waiting). not (w.cid == cid)) waiting) (taken ++ ordinals_of cid waiting) items

parts-count : (phase : ℕ) (earlier : List Sent) (parts : List HostPart) → length (sends_of_parts phase earlier parts) ≡ length earlier + sends_left (plain_parts parts)
parts-count phase earlier [] = omega arith
parts-count phase earlier (part ∷ parts) =
    let new : List Sent = sends_of_items part.host phase (next_ordinal part.host earlier) [] [] part.items in
    let a = parts-count phase (earlier ++ new) parts in
    let b = length-append earlier new in
    let d = items-count part.host phase (next_ordinal part.host earlier) [] [] part.items in
    omega arith

phases-count : (phase : ℕ) (earlier : List Sent) (plan : List Phase) → length (sends_of_phases phase earlier plan) ≡ length earlier + all_sends (plain_phases plan)
phases-count phase earlier [] = omega arith
phases-count phase earlier (p ∷ plan) =
    let a = phases-count (phase + 1) (sends_of_parts phase earlier p.hosts) plan in
    let b = parts-count phase earlier p.hosts in
    omega arith

-- what holds before the first event
pub first-ready : (c : Configuration) (plan : List Phase) → All (KeepsRules c.depth) plan → Ready c (length (sends_of plan)) (first_world c) (λ host. first_standing) (plain_phases plan)
first-ready c plan rules =
    let each = every-of-All (KeepsRules c.depth) plan rules in
    let count = phases-count 1 [] plan in
    record {
      count = omega arith;
      keeps = first-keeps c.depth (plain_phases plan) (each-none c.depth plan each);
      hosts = each-good c.depth plan each;
      stands = (at-first c).held.stands;
    }

pub scheduled : (c : Configuration) (plan : List Phase) (workers choices : ℕ) (trail : Trail) → All (KeepsRules c.depth) plan → IsScheduled c (plain_phases plan) workers choices trail
    → Found c (length (sends_of plan)) (first_world c) (plain_phases plan) trail
scheduled c plan workers choices trail rules runs =
    found c workers (length (sends_of plan)) [] (λ host. first_standing) (plain_phases plan) choices trail tt (first-ready c plan rules) runs

pub so-far : (c : Configuration) (plan : List Phase) (workers choices : ℕ) (seen : Trail) (left : Phases) (rest : ℕ) → All (KeepsRules c.depth) plan
    → RunsTo c workers (first_world c) (plain_phases plan) choices seen left rest → Reached c (length (sends_of plan)) seen left
so-far c plan workers choices seen left rest rules runs =
    reached c workers (length (sends_of plan)) [] (λ host. first_standing) (plain_phases plan) choices seen left rest tt (first-ready c plan rules) runs
