-- A whole plan, from what its meaning is.
use Rattle.std.proofs.Common.{◌≡◌, ℕ, ◌*◌, ◌≤◌, List, [], ◌∷◌, map, length, Result, Ok, Err, refl, sym, ◌∙◌, ap, subst, arith}
use Rattle.std.specs.List.{AllByRecursion, All}
use Rattle.std.proofs.lemmas.List.{length-map}
use Rattle.script_cmds.specs.declared.item.HostPart.{HostPart}
use Rattle.script_cmds.specs.declared.item.Phase.{Phase}
use Rattle.history_model.specs.Plain.{PlainPart, hosts_by_phase, plain_part, plain_parts, plain_phase, plain_phases}
use Rattle.history_model.specs.Plan.{PlanFault, planned_phases}
use Rattle.cp_base.specs.declared.limits.TheConstants.{MAX_HOSTS}
use Rattle.script_cmds.specs.Hosts.{AscendFrom, HaveHosts, hosts_of}
use Rattle.script_cmds.specs.Queues.{PartsSendToQueues, PhasesSendToQueues}
use Rattle.history_model.specs.Rules.{KeepEachQueue, KeepsQueue, KeepsQueues, KeepsRules}
use Rattle.history_model.specs.Sent.{sends_of}
use Rattle.history_model.proofs.Every.{every-All, every-of-All, every-weaker}
use Rattle.script_cmds.specs.Counts.{sends_in_phases}
use Rattle.script_plan.specs.Meant.{meant}
use Rattle.script_plan.proofs.Alike.{KeepsPart, same-sends, parts-keep-same}
use Rattle.script_plan.proofs.Counting.{length-sends_of}
use Rattle.script_plan.proofs.Keeping.{IsKeptPhase, phases-keep}
use Rattle.script_plan.proofs.ToQueues.{PartSendsTo, PhaseSendsTo, phases-to-same}
use Rattle.script_plan.proofs.Together.{keeps-deeper, keeps-together}

-- the hosts of a phase
abbrev HasHosts : List ℕ → Type 0
HasHosts hosts = AscendFrom 0 hosts × All (λ host. host ≤ MAX_HOSTS) hosts

as-long : (xs ys : List HostPart) → plain_parts xs ≡ plain_parts ys → length xs ≡ length ys
as-long xs ys same = sym (length-map xs plain_part) ∙ ap length same ∙ length-map ys plain_part

-- a plan that says the same keeps the rules too
phases-keep-same : (depth : ℕ) (xs ys : List Phase) → plain_phases xs ≡ plain_phases ys → AllByRecursion (IsKeptPhase depth) xs → AllByRecursion (KeepEachQueue depth) ys
phases-keep-same depth [] [] same keeps = tt
phases-keep-same depth [] (y ∷ ys) same keeps = cc
phases-keep-same depth (x ∷ xs) [] same keeps = cc
phases-keep-same depth (x ∷ xs) (y ∷ ys) same keeps =
    let rest : plain_phases xs ≡ plain_phases ys = cc in
    let first : plain_parts x.hosts ≡ plain_parts y.hosts = cc in (
      record {
        acted = omega (arith, keeps.0.acted, as-long x.hosts y.hosts first);
        queues = every-All (KeepsPart depth) y.hosts (parts-keep-same depth x.hosts y.hosts first keeps.0.queues);
      },
      phases-keep-same depth xs ys rest keeps.1,
    )

-- a plan that means what the definition gives
pub record Means (depth line : ℕ) (phases plan : List Phase) : Type 0 where
  pub meaning : meant plain_phase (planned_phases depth line phases) ≡ Ok (plain_phases plan)

-- the definition's plan, which says the same
pub record IsGiven (depth line : ℕ) (phases plan : List Phase) : Type 0 where
  pub given : List Phase
  pub is : planned_phases depth line phases ≡ Ok given
  pub same : plain_phases given ≡ plain_phases plan

given-of : (depth line : ℕ) (phases plan : List Phase) → Means depth line phases plan → IsGiven depth line phases plan
given-of depth line phases plan means = go (planned_phases depth line phases) refl means.meaning
  where
    go : (r : Result (List Phase) PlanFault) → planned_phases depth line phases ≡ r → meant plain_phase r ≡ Ok (plain_phases plan) → IsGiven depth line phases plan
    go (Ok xs) is same = record { given = xs; is = is; same = cc }
    go (Err f) is same = cc

pub keeps-queues : (depth line : ℕ) (phases plan : List Phase) → Means depth line phases plan → All (KeepEachQueue depth) plan
keeps-queues depth line phases plan means =
    let g = given-of depth line phases plan means in
    every-All (KeepEachQueue depth) plan (phases-keep-same depth g.given plan g.same (phases-keep depth line phases g.given g.is).rules)

-- it sends what the script sends
pub sends-same : (depth line : ℕ) (phases plan : List Phase) → Means depth line phases plan → sends_of plan ≡ sends_of phases
sends-same depth line phases plan means =
    let g = given-of depth line phases plan means in
    sym (same-sends g.given plan g.same) ∙ (phases-keep depth line phases g.given g.is).sends 1 []

-- which is what the definition's plan sends
pub sends-given : (depth line : ℕ) (phases plan : List Phase) → Means depth line phases plan → (xs : List Phase) → planned_phases depth line phases ≡ Ok xs
    → sends_of xs ≡ sends_of plan
sends-given depth line phases plan means xs is = (phases-keep depth line phases xs is).sends 1 [] ∙ sym (sends-same depth line phases plan means)

-- and as many commands as the script
pub sends-counted : (depth line : ℕ) (phases plan : List Phase) → Means depth line phases plan → sends_in_phases phases ≡ length (sends_of plan)
sends-counted depth line phases plan means = sym (length-sends_of phases) ∙ ap length (sym (sends-same depth line phases plan means))

plain_hosts : List (List PlainPart) → List (List ℕ)
plain_hosts phases = map (λ parts. map (λ (part : PlainPart). part.host) parts) phases

hosts-plain : (phases : List Phase) → hosts_by_phase phases ≡ plain_hosts (plain_phases phases)
unfolding plain_hosts
hosts-plain [] = refl
hosts-plain (phase ∷ phases) = ap (λ l. l ∷ hosts_by_phase phases) (parts-plain phase.hosts) ∙ ap (λ l. map (λ (part : PlainPart). part.host) (plain_parts phase.hosts) ∷ l) (hosts-plain phases)
  where
    parts-plain : (parts : List HostPart) → map (λ (part : HostPart). part.host) parts ≡ map (λ (part : PlainPart). part.host) (plain_parts parts)
    parts-plain [] = refl
    parts-plain (part ∷ parts) = ap (λ l. part.host ∷ l) (parts-plain parts)

-- the same hosts act in it
pub hosts-same : (depth line : ℕ) (phases plan : List Phase) → Means depth line phases plan → hosts_by_phase plan ≡ hosts_by_phase phases
hosts-same depth line phases plan means =
    let g = given-of depth line phases plan means in
    hosts-plain plan ∙ ap plain_hosts (sym g.same) ∙ sym (hosts-plain g.given) ∙ (phases-keep depth line phases g.given g.is).hosts

-- hosts that are those of other phases, and queues that are kept, keep the rules
with-hosts : (depth : ℕ) (xs ys : List Phase) → hosts_by_phase ys ≡ hosts_by_phase xs → AllByRecursion (λ (phase : Phase). HasHosts (hosts_of phase.hosts)) xs
    → AllByRecursion (KeepsQueues depth) ys → AllByRecursion (KeepsRules depth) ys
with-hosts depth xs [] same hosts queues = tt
with-hosts depth [] (y ∷ ys) same hosts queues = cc
with-hosts depth (x ∷ xs) (y ∷ ys) same hosts queues =
    let first : hosts_of y.hosts ≡ hosts_of x.hosts = cc in
    let rest : hosts_by_phase ys ≡ hosts_by_phase xs = cc in
    let here : HasHosts (hosts_of y.hosts) = subst HasHosts (sym first) hosts.0 in
    (record { queues = queues.0; ascend = here.0; numbers = here.1 }, with-hosts depth xs ys rest hosts.1 queues.1)

-- ---- all queues of a host together

abbrev KeepsWhole : ℕ → HostPart → Type 0
KeepsWhole depth part = KeepsQueue depth [] part.items

parts-together : (queues depth more : ℕ) (parts : List HostPart) → queues * depth ≤ more → AllByRecursion (PartSendsTo queues) parts → AllByRecursion (KeepsPart depth) parts
    → AllByRecursion (KeepsWhole more) parts
parts-together queues depth more [] le to keeps = tt
parts-together queues depth more (part ∷ parts) le to keeps = (
  keeps-deeper (queues * depth) more [] part.items le (keeps-together queues depth [] part.items tt (λ queue. omega arith) to.0 keeps.0),
  parts-together queues depth more parts le to.1 keeps.1,
)

phases-together : (queues depth more : ℕ) (phases : List Phase) → queues * depth ≤ more → AllByRecursion (PhaseSendsTo queues) phases → AllByRecursion (KeepEachQueue depth) phases
    → AllByRecursion (KeepsQueues more) phases
phases-together queues depth more [] le to keeps = tt
phases-together queues depth more (phase ∷ phases) le to keeps = (
  record {
    acted = keeps.0.acted;
    queues =
        every-All (KeepsWhole more) phase.hosts
        (parts-together queues depth more phase.hosts le to.0 (every-of-All (KeepsPart depth) phase.hosts keeps.0.queues));
  },
  phases-together queues depth more phases le to.1 keeps.1,
)

each_phase_to : (queues : ℕ) (phases : List Phase) → PhasesSendToQueues queues phases → AllByRecursion (PhaseSendsTo queues) phases
each_phase_to queues phases to =
    every-weaker (λ (phase : Phase). PartsSendToQueues queues phase.hosts) (PhaseSendsTo queues) (λ phase parts. every-of-All (PartSendsTo queues) phase.hosts parts) phases
    (every-of-All (λ (phase : Phase). PartsSendToQueues queues phase.hosts) phases to)

-- the plan of phases whose hosts ascend within their numbers, and which send to queues that together have the
-- device's depth, keeps the rules
pub keeps-rules : (queues depth more line : ℕ) (phases plan : List Phase) → Means depth line phases plan → HaveHosts phases → PhasesSendToQueues queues phases → queues * depth ≤ more
    → All (KeepsRules more) plan
keeps-rules queues depth more line phases plan means hosts to le =
    let g = given-of depth line phases plan means in
    let each = every-of-All (KeepEachQueue depth) plan (keeps-queues depth line phases plan means) in
    let goes = phases-to-same queues g.given plan g.same ((phases-keep depth line phases g.given g.is).to queues (each_phase_to queues phases to)) in
    every-All (KeepsRules more) plan
    (with-hosts more phases plan (hosts-same depth line phases plan means) (every-of-All (λ (phase : Phase). HasHosts (hosts_of phase.hosts)) phases hosts)
    (phases-together queues depth more plan le goes each))
