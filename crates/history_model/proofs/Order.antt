-- The commands of a plan in the order of the text: phases do not fall, and each host counts on.
use Rattle.std.proofs.Common.{◌≡◌, ℕ, ◌+◌, ◌<◌, ◌≤◌, ◌==◌, not, inl, inr, List, [], ◌∷◌, ◌++◌, cond, filter, length, arith, refl, sym, ◌∙◌, ap}
use Rattle.std.specs.List.{AllByRecursion, Contains}
use Rattle.std.specs.Prelude.{count_by}
use Rattle.std.proofs.lemmas.Bool.{eq-eqb}
use Rattle.std.proofs.lemmas.List.Sums.{count_by-le-length, sum_by-append, sum_by-cons}
use Rattle.script_cmds.specs.declared.item.Item.{Item}
use Rattle.script_cmds.specs.declared.item.Item.TheVariants as item
use Rattle.script_cmds.specs.declared.item.HostPart.{HostPart}
use Rattle.script_cmds.specs.declared.item.Phase.{Phase}
use Rattle.history_model.specs.Sent.{Sent, Waiting, TakenBefore, named_in, ordinals_of, sends_of_items, sends_of_parts, sends_of_phases, sends_of, next_ordinal}
use Rattle.history_model.proofs.Every.{every-weaker, every-append, every-map, every-filter, every-All, Pairwise, pairwise-append}

-- one command stands before another in the text
pub record Precedes (a b : Sent) : Type 0 where
  pub phases : a.phase ≤ b.phase
  pub ordinals : a.host ≡ b.host → a.ordinal < b.ordinal
  pub taken : AllByRecursion (λ t. t < a.ordinal) a.taken

-- a command of a part whose first ordinal this is
pub record IsFrom (h p first : ℕ) (s : Sent) : Type 0 where
  pub host : s.host ≡ h
  pub phase : s.phase ≡ p
  pub ordinal : first ≤ s.ordinal
  pub taken : AllByRecursion (λ t. t < s.ordinal) s.taken

later-too : (host phase ordinal : ℕ) (s : Sent) → IsFrom host phase (ordinal + 1) s → IsFrom host phase ordinal s
later-too host phase ordinal s from = record { host = from.host; phase = from.phase; ordinal = omega (arith, from.ordinal); taken = from.taken }

next-below : (ordinal : ℕ) (waiting : List Waiting) → AllByRecursion (λ (w : Waiting). w.ordinal < ordinal) waiting
    → AllByRecursion (λ (w : Waiting). w.ordinal < ordinal + 1) waiting
next-below ordinal waiting all =
    every-weaker (λ (w : Waiting). w.ordinal < ordinal) (λ (w : Waiting). w.ordinal < ordinal + 1) (λ w below. omega (arith, below)) waiting all

next-taken : (ordinal : ℕ) (taken : List ℕ) → AllByRecursion (λ t. t < ordinal) taken → AllByRecursion (λ t. t < ordinal + 1) taken
next-taken ordinal taken all = every-weaker (λ t. t < ordinal) (λ t. t < ordinal + 1) (λ t below. omega (arith, below)) taken all

-- what is taken has been sent
ordinals-below : (ordinal cid : ℕ) (waiting : List Waiting) → AllByRecursion (λ (w : Waiting). w.ordinal < ordinal) waiting
    → AllByRecursion (λ t. t < ordinal) (ordinals_of cid waiting)
ordinals-below ordinal cid waiting all =
    every-map (λ t. t < ordinal) (λ (w : Waiting). w.ordinal) (filter (λ (w : Waiting). w.cid == cid) waiting)
    (every-filter (λ (w : Waiting). w.ordinal < ordinal) (λ (w : Waiting). w.cid == cid) waiting all)

-- the commands of a part are from it
pub items-from : (host phase ordinal : ℕ) (waiting : List Waiting) (taken : List ℕ) (items : List Item)
    → AllByRecursion (λ (w : Waiting). w.ordinal < ordinal) waiting → AllByRecursion (λ t. t < ordinal) taken
    → AllByRecursion (IsFrom host phase ordinal) (sends_of_items host phase ordinal waiting taken items)
items-from host phase ordinal waiting taken [] ws ts = tt
items-from host phase ordinal waiting taken (item.Send cid sent ∷ items) ws ts =
    let here : Waiting = record { cid = cid; ordinal = ordinal } in (
      record { host = refl; phase = refl; ordinal = omega arith; taken = ts },
      every-weaker (IsFrom host phase (ordinal + 1)) (IsFrom host phase ordinal) (later-too host phase ordinal)
          (sends_of_items host phase (ordinal + 1) (waiting ++ here ∷ []) taken items)
          (items-from host phase (ordinal + 1) (waiting ++ here ∷ []) taken items
          (every-append (λ (w : Waiting). w.ordinal < ordinal + 1) waiting (here ∷ []) (next-below ordinal waiting ws) (omega arith, tt))
          (next-taken ordinal taken ts)),
    )
items-from host phase ordinal waiting taken (item.Take cid ∷ items) ws ts =
    items-from host phase ordinal (filter (λ (w : Waiting). not (w.cid == cid)) waiting) (taken ++ ordinals_of cid waiting) items
    (every-filter (λ (w : Waiting). w.ordinal < ordinal) (λ (w : Waiting). not (w.cid == cid)) waiting ws)
    (every-append (λ t. t < ordinal) taken (ordinals_of cid waiting) ts (ordinals-below ordinal cid waiting ws))

-- a part's commands stand in order
pub items-order : (host phase ordinal : ℕ) (waiting : List Waiting) (taken : List ℕ) (items : List Item)
    → AllByRecursion (λ (w : Waiting). w.ordinal < ordinal) waiting → AllByRecursion (λ t. t < ordinal) taken
    → Pairwise Precedes (sends_of_items host phase ordinal waiting taken items)
items-order host phase ordinal waiting taken [] ws ts = tt
items-order host phase ordinal waiting taken (item.Send cid sent ∷ items) ws ts =
    let here : Waiting = record { cid = cid; ordinal = ordinal } in
    let first : Sent = record { host = host; ordinal = ordinal; cid = cid; phase = phase; command = sent.value; taken = taken; named = named_in waiting sent.value } in
    let rest = sends_of_items host phase (ordinal + 1) (waiting ++ here ∷ []) taken items in
    let ws' = every-append (λ (w : Waiting). w.ordinal < ordinal + 1) waiting (here ∷ []) (next-below ordinal waiting ws) (omega arith, tt) in
    let ts' = next-taken ordinal taken ts in (
      every-weaker (IsFrom host phase (ordinal + 1)) (Precedes first)
          (λ s from. record { phases = omega (arith, from.phase); ordinals = λ same. omega (arith, from.ordinal); taken = ts })
          rest (items-from host phase (ordinal + 1) (waiting ++ here ∷ []) taken items ws' ts'),
      items-order host phase (ordinal + 1) (waiting ++ here ∷ []) taken items ws' ts',
    )
items-order host phase ordinal waiting taken (item.Take cid ∷ items) ws ts =
    items-order host phase ordinal (filter (λ (w : Waiting). not (w.cid == cid)) waiting) (taken ++ ordinals_of cid waiting) items
    (every-filter (λ (w : Waiting). w.ordinal < ordinal) (λ (w : Waiting). not (w.cid == cid)) waiting ws)
    (every-append (λ t. t < ordinal) taken (ordinals_of cid waiting) ts (ordinals-below ordinal cid waiting ws))

-- how many of these commands a host sends
abbrev pub sends_by : ℕ → List Sent → ℕ
sends_by host all = count_by (λ (s : Sent). s.host == host) all

-- the last ordinals of a part are not above what its host has sent
items-counted : (host phase ordinal : ℕ) (waiting : List Waiting) (taken : List ℕ) (items : List Item)
    → AllByRecursion (λ (s : Sent). s.ordinal < ordinal + sends_by host (sends_of_items host phase ordinal waiting taken items)) (sends_of_items host phase ordinal waiting taken items)
items-counted host phase ordinal waiting taken [] = tt
items-counted host phase ordinal waiting taken (item.Send cid sent ∷ items) =
    let here : Waiting = record { cid = cid; ordinal = ordinal } in
    let first : Sent = record { host = host; ordinal = ordinal; cid = cid; phase = phase; command = sent.value; taken = taken; named = named_in waiting sent.value } in
    let rest = sends_of_items host phase (ordinal + 1) (waiting ++ here ∷ []) taken items in
    let more = sum_by-cons (λ (s : Sent). cond (s.host == host) 1 0) first rest in
    let one : cond {A = ℕ} (host == host) 1 0 ≡ 1 = rw (eq-eqb host host refl) refl in
    let count : sends_by host (first ∷ rest) ≡ 1 + sends_by host rest = more ∙ ap (λ n. n + sends_by host rest) one in (
      omega (arith, count),
      every-weaker (λ (s : Sent). s.ordinal < ordinal + 1 + sends_by host rest) (λ (s : Sent). s.ordinal < ordinal + sends_by host (first ∷ rest))
          (λ s below. omega (arith, below, count)) rest (items-counted host phase (ordinal + 1) (waiting ++ here ∷ []) taken items),
    )
items-counted host phase ordinal waiting taken (item.Take cid ∷ items) =
    items-counted host phase ordinal (filter (λ (w : Waiting). not (w.cid == cid)) waiting) (taken ++ ordinals_of cid waiting) items

-- a command among earlier ones, up to a phase
pub record IsAmongEarlier (p : ℕ) (all : List Sent) (s : Sent) : Type 0 where
  pub phase : s.phase ≤ p
  pub ordinal : s.ordinal ≤ sends_by s.host all
  pub taken : AllByRecursion (λ t. t < s.ordinal) s.taken

-- earlier commands in order
pub record InOrder (phase : ℕ) (all : List Sent) : Type 0 where
  pub each : AllByRecursion (IsAmongEarlier phase all) all
  pub pairs : Pairwise Precedes all

pub none-in-order : (phase : ℕ) → InOrder phase []
none-in-order phase = record { each = tt; pairs = tt }

counted-append : (host : ℕ) (xs ys : List Sent) → sends_by host (xs ++ ys) ≡ sends_by host xs + sends_by host ys
counted-append host xs ys = sum_by-append (λ (s : Sent). cond (s.host == host) 1 0) xs ys

-- the commands of one more part
part-in-order : (phase host : ℕ) (earlier : List Sent) (items : List Item) → InOrder phase earlier
    → InOrder phase (earlier ++ sends_of_items host phase (next_ordinal host earlier) [] [] items)
part-in-order phase host earlier items order =
    let start = next_ordinal host earlier in
    let new = sends_of_items host phase start [] [] items in
    let all = earlier ++ new in
    let from = items-from host phase start [] [] items tt tt in
    let few = items-counted host phase start [] [] items in
    record {
      each = every-append (IsAmongEarlier phase all) earlier new
          (every-weaker (IsAmongEarlier phase earlier) (IsAmongEarlier phase all)
          (λ s among. record { phase = among.phase; ordinal = omega (arith, among.ordinal, counted-append s.host earlier new); taken = among.taken })
          earlier order.each)
          (new-among phase host start earlier new refl new from few);
      pairs = pairwise-append Precedes earlier new order.pairs (items-order host phase start [] [] items tt tt)
          (every-weaker (IsAmongEarlier phase earlier) (λ a. AllByRecursion (Precedes a) new)
          (λ a among. every-weaker (IsFrom host phase start) (Precedes a)
          (λ b from. record {
            phases = omega (arith, among.phase, from.phase);
            ordinals = λ same. before-start host earlier a b same from.host among.ordinal from.ordinal;
            taken = among.taken;
          })
          new from)
          earlier order.each);
    }
  where
    before-start : (host : ℕ) (earlier : List Sent) (a b : Sent) → a.host ≡ b.host → b.host ≡ host → a.ordinal ≤ sends_by a.host earlier
        → sends_by host earlier + 1 ≤ b.ordinal → a.ordinal < b.ordinal
    before-start host earlier a b same is upto from =
        let count : sends_by a.host earlier ≡ sends_by host earlier = ap (λ h. sends_by h earlier) (same ∙ is) in
        omega (arith, count, upto, from)

    new-among : (phase host start : ℕ) (earlier new : List Sent) → start ≡ sends_by host earlier + 1 → (some : List Sent)
        → AllByRecursion (IsFrom host phase start) some → AllByRecursion (λ (s : Sent). s.ordinal < start + sends_by host new) some
        → AllByRecursion (IsAmongEarlier phase (earlier ++ new)) some
    new-among phase host start earlier new is [] from few = tt
    new-among phase host start earlier new is (s ∷ some) from few =
        let count : sends_by s.host (earlier ++ new) ≡ sends_by host earlier + sends_by host new = ap (λ h. sends_by h (earlier ++ new)) from.0.host ∙ counted-append host earlier new in (
          record { phase = omega (arith, from.0.phase); ordinal = omega (arith, few.0, count, is); taken = from.0.taken },
          new-among phase host start earlier new is some from.1 few.1,
        )

parts-in-order : (phase : ℕ) (earlier : List Sent) (parts : List HostPart) → InOrder phase earlier → InOrder phase (sends_of_parts phase earlier parts)
parts-in-order phase earlier [] order = order
parts-in-order phase earlier (part ∷ parts) order =
    parts-in-order phase (earlier ++ sends_of_items part.host phase (next_ordinal part.host earlier) [] [] part.items) parts
    (part-in-order phase part.host earlier part.items order)

next-phase : (phase : ℕ) (all : List Sent) → InOrder phase all → InOrder (phase + 1) all
next-phase phase all order = record {
  each = every-weaker (IsAmongEarlier phase all) (IsAmongEarlier (phase + 1) all)
      (λ s among. record { phase = omega (arith, among.phase); ordinal = among.ordinal; taken = among.taken }) all order.each;
  pairs = order.pairs;
}

pub phases-in-order : (phase : ℕ) (earlier : List Sent) (phases : List Phase) → InOrder phase earlier
    → (last : ℕ) × InOrder last (sends_of_phases phase earlier phases)
phases-in-order phase earlier [] order = (phase, order)
phases-in-order phase earlier (p ∷ phases) order =
    phases-in-order (phase + 1) (sends_of_parts phase earlier p.hosts) phases
    (next-phase phase (sends_of_parts phase earlier p.hosts) (parts-in-order phase earlier p.hosts order))

-- the commands of a plan stand in order
pub sends-in-order : (plan : List Phase) → Pairwise Precedes (sends_of plan)
sends-in-order plan = (phases-in-order 1 [] plan (none-in-order 1)).1.pairs

-- no ordinal is above the number of commands
pub ordinals-few : (plan : List Phase) → AllByRecursion (λ (s : Sent). s.ordinal ≤ length (sends_of plan)) (sends_of plan)
ordinals-few plan =
    let order = phases-in-order 1 [] plan (none-in-order 1) in
    every-weaker (IsAmongEarlier order.0 (sends_of plan)) (λ (s : Sent). s.ordinal ≤ length (sends_of plan))
    (λ s among. omega (arith, among.ordinal, count_by-le-length (λ (other : Sent). other.host == s.host) (sends_of plan))) (sends_of plan) order.1.each

-- what is below a number is not that number or above
not-above : (n : ℕ) (taken : List ℕ) (t : ℕ) → AllByRecursion (λ x. x < n) taken → Contains taken t → t < n
not-above n taken t all found =
    let here = every-All (λ x. x < n) taken all found.0 t found.1 in
    omega (arith, here, found.2)

-- of two commands in order the later is not taken before the earlier is sent
pub not-taken-before : (a b : Sent) → Precedes a b → TakenBefore b a → ⊥
not-taken-before a b order (inl phases) = omega (arith, order.phases, phases)
not-taken-before a b order (inr (same, found)) =
    omega (arith, order.ordinals (sym same), not-above a.ordinal a.taken b.ordinal order.taken found)
