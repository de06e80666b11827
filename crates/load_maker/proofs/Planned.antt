-- A load breaks no rule of queues.
use Rattle.std.proofs.Common.{◌≡◌, ℕ, zero, suc, ◌+◌, ◌*◌, ◌/◌, ◌%◌, ◌<◌, ◌≤◌, ◌==◌, Bool, true, false, ◌&&◌, List, [], ◌∷◌, ◌++◌, length, take, drop, filter, not, Result, Ok, Err, inl, inr, refl, sym, ap, subst, ◌∙◌, arith, append_assoc}
use Rattle.std.specs.Prelude.{if◌then◌else◌, is_ok, nat_le, nat_lt}
use Rattle.std.specs.Str.{bytes_eq}
use Rattle.std.proofs.lemmas.Bool.{and_parts, cases_lt, eqb-true}
use Rattle.std.proofs.lemmas.List.{append-nil}
use Rattle.std.proofs.lemmas.Slice.Eq.{bytes_eq-Decides}
use Rattle.cp_base.specs.declared.commands.Command.{Command}
use Rattle.script_cmds.specs.declared.item.Item.{Item}
use Rattle.script_cmds.specs.declared.item.Item.TheVariants as item
use Rattle.script_cmds.specs.declared.item.HostPart.{HostPart}
use Rattle.script_cmds.specs.declared.item.Phase as declared
use Rattle.script_cmds.specs.declared.script.Script.{Script}
use Rattle.script_cmds.specs.Queues.{queue_of_cid}
use Rattle.script_cmds.specs.Text.{lines_of, script_text}
use Rattle.script_line.specs.Sized.{AreSized}
use Rattle.history_model.specs.Plan.{PlanFault, both_planned, in_queue, is_outstanding, plan_of, lines_of_parts, planned_items, planned_parts, planned_phases, then_plan}
use Rattle.script_plan.proofs.FaultLines.{plan_or_fault}
use Rattle.load_maker.specs.Load.{load_text, seed_word, word_command}
use Rattle.load_maker.proofs.Script.{host_items, load_script, load_script-lines, own_items, part_of, phase_of, ready_items, same_lines, sending, turn_items, work_parts}

-- ---- plans that are there

abbrev IsPlanned : {A : Type 0} → Result A PlanFault → Type 0
IsPlanned r = is_ok r ≡ true

then_planned : {A B : Type 0} (front : A → B) (r : Result A PlanFault) → IsPlanned r → IsPlanned (then_plan front r)
then_planned front (Ok x) h = refl
then_planned front (Err f) h = absurd cc

joined_planned : {A B C : Type 0} (join : A → B → C) (r : Result A PlanFault) (s : Result B PlanFault) → IsPlanned r → IsPlanned s → IsPlanned (both_planned join r s)
joined_planned join (Ok x) s h k = then_planned (join x) s k
joined_planned join (Err f) s h k = absurd cc

-- ---- items that a queue lets pass

-- from these outstanding commands the items lead to those, and what is planned from there is planned behind them
abbrev Passes : List ℕ → List Item → List ℕ → Type 0
Passes before items after =
    (line : ℕ) (rest : List Item) → ((number : ℕ) → IsPlanned (planned_items 16 number after rest)) → IsPlanned (planned_items 16 line before (items ++ rest))

pass_both : (a b c : List ℕ) (xs ys : List Item) → Passes a xs b → Passes b ys c → Passes a (xs ++ ys) c
pass_both a b c xs ys p q line rest h =
    subst (λ (zs : List Item). IsPlanned (planned_items 16 line a zs)) (sym (append_assoc xs ys rest)) (p line (ys ++ rest) (λ number. q number rest h))

send_passes : (out : List ℕ) (cid : ℕ) (sent : Command) → nat_le 16 (in_queue (queue_of_cid cid) out) ≡ false → is_outstanding cid out ≡ false
    → Passes out (sending cid sent ∷ []) (out ++ cid ∷ [])
send_passes out cid sent room free line rest h =
    rw (room, free) (then_planned (λ more. sending cid sent ∷ more) (planned_items 16 (line + 1) (out ++ cid ∷ []) rest) (h (line + 1)))

abbrev left : ℕ → List ℕ → List ℕ
left cid out = filter (λ other. not (other == cid)) out

take_passes : (out : List ℕ) (cid : ℕ) → is_outstanding cid out ≡ true → Passes out (item.Take cid ∷ []) (left cid out)
take_passes out cid there line rest h =
    rw there (then_planned (λ more. item.Take cid ∷ more) (planned_items 16 (line + 1) (left cid out) rest) (h (line + 1)))

-- ---- a host's queue

identifiers : List ℕ
identifiers = 0 ∷ 1 ∷ 2 ∷ 3 ∷ 4 ∷ 5 ∷ 6 ∷ 7 ∷ 8 ∷ 9 ∷ 10 ∷ 11 ∷ 12 ∷ 13 ∷ 14 ∷ 15 ∷ []

-- all identifiers, of which this is the oldest
full_queue : ℕ → List ℕ
full_queue oldest = drop oldest identifiers ++ take oldest identifiers

-- the outstanding commands after so many sends
queue : ℕ → List ℕ
queue sends = if nat_lt sends 16 then take sends identifiers else full_queue (sends % 16)

check_below : (ℕ → Bool) → ℕ → Bool
check_below test zero = true
check_below test (suc n) = test n && check_below test n

all_below : (test : ℕ → Bool) (n : ℕ) → check_below test n ≡ true → (k : ℕ) → k < n → test k ≡ true
unfolding check_below
all_below test zero h k low = absurd (omega arith)
all_below test (suc n) h k low =
    let parts = and_parts (test n) (check_below test n) h in
    elim (cases_lt k n) [
      | inl less ↦ all_below test n parts.1 k less
      | inr more ↦ let e : n ≡ k = omega arith in subst (λ (j : ℕ). test j ≡ true) e parts.0
    ]

-- whether a send passes before the identifiers are used up
passes_early : ℕ → Bool
passes_early k =
    not (nat_le 16 (in_queue (queue_of_cid k) (take k identifiers)))
    && (not (is_outstanding k (take k identifiers)) && bytes_eq (take k identifiers ++ k ∷ []) (queue (k + 1)))

-- whether a take and a send pass afterwards
passes_late : ℕ → Bool
passes_late r =
    is_outstanding r (full_queue r)
    && (not (nat_le 16 (in_queue (queue_of_cid r) (left r (full_queue r))))
    && (not (is_outstanding r (left r (full_queue r))) && bytes_eq (left r (full_queue r) ++ r ∷ []) (full_queue ((r + 1) % 16))))

all_early : check_below passes_early 16 ≡ true
unfolding check_below passes_early queue full_queue identifiers
all_early = refl

all_late : check_below passes_late 16 ≡ true
unfolding check_below passes_late full_queue identifiers
all_late = refl

pub not_true : (b : Bool) → not b ≡ true → b ≡ false
not_true true h = absurd cc
not_true false h = refl

same_bytes_are : (xs ys : List ℕ) → bytes_eq xs ys ≡ true → xs ≡ ys
same_bytes_are xs ys h = (bytes_eq-Decides xs ys).0 h

early_passes : (k : ℕ) (sent : Command) → k < 16 → Passes (take k identifiers) (sending k sent ∷ []) (queue (k + 1))
unfolding passes_early
early_passes k sent low =
    let held = all_below passes_early 16 all_early k low in
    let first = and_parts (not (nat_le 16 (in_queue (queue_of_cid k) (take k identifiers)))) _ held in
    let second = and_parts (not (is_outstanding k (take k identifiers))) _ first.1 in
    subst (λ (after : List ℕ). Passes (take k identifiers) (sending k sent ∷ []) after) (same_bytes_are _ _ second.1)
    (send_passes (take k identifiers) k sent (not_true _ first.0) (not_true _ second.0))

late_passes : (r : ℕ) (sent : Command) → r < 16 → Passes (full_queue r) (item.Take r ∷ sending r sent ∷ []) (full_queue ((r + 1) % 16))
unfolding passes_late
late_passes r sent low =
    let held = all_below passes_late 16 all_late r low in
    let out = full_queue r in
    let first = and_parts (is_outstanding r out) _ held in
    let second = and_parts (not (nat_le 16 (in_queue (queue_of_cid r) (left r out)))) _ first.1 in
    let third = and_parts (not (is_outstanding r (left r out))) _ second.1 in
    pass_both out (left r out) (full_queue ((r + 1) % 16)) (item.Take r ∷ []) (sending r sent ∷ []) (take_passes out r first.0)
    (subst (λ (after : List ℕ). Passes (left r out) (sending r sent ∷ []) after) (same_bytes_are _ _ third.1)
    (send_passes (left r out) r sent (not_true _ second.0) (not_true _ third.0)))

early_queue : (k : ℕ) → nat_lt k 16 ≡ true → queue k ≡ take k identifiers
unfolding queue
early_queue k is = rw is refl

late_queue : (k : ℕ) → nat_lt k 16 ≡ false → queue k ≡ full_queue (k % 16)
unfolding queue
late_queue k is = rw is refl

turn_passes_by : (k : ℕ) (sent : Command) (test : Bool) → nat_lt k 16 ≡ test
    → Passes (queue k) ((if test then [] else item.Take (k % 16) ∷ []) ++ sending (k % 16) sent ∷ []) (queue (k + 1))
turn_passes_by k sent true is =
    let low : k < 16 = grind (arith, is) in
    let same : k % 16 ≡ k = omega arith in
    let now : queue k ≡ take k identifiers = early_queue k is in
    subst (λ (out : List ℕ). Passes out (sending (k % 16) sent ∷ []) (queue (k + 1))) (sym now)
    (subst (λ (cid : ℕ). Passes (take k identifiers) (sending cid sent ∷ []) (queue (k + 1))) (sym same) (early_passes k sent low))
turn_passes_by k sent false is =
    let high : 16 ≤ k = grind (arith, is) in
    let after : queue (k + 1) ≡ full_queue ((k % 16 + 1) % 16) = late_queue (k + 1) (grind (arith, high)) ∙ ap full_queue (omega arith) in
    let now : queue k ≡ full_queue (k % 16) = late_queue k is in
    subst (λ (out : List ℕ). Passes out (item.Take (k % 16) ∷ sending (k % 16) sent ∷ []) (queue (k + 1))) (sym now)
    (subst (λ (out : List ℕ). Passes (full_queue (k % 16)) (item.Take (k % 16) ∷ sending (k % 16) sent ∷ []) out) (sym after)
    (late_passes (k % 16) sent (omega arith)))

-- ---- a host

-- after the first commands, of which so many are the host's
record Sent (seed host n : ℕ) : Type 0 where
  own : ℕ
  low : 4 * own + host ≤ n + 3
  high : n ≤ 4 * own + host
  passes : Passes [] (host_items seed host n) (queue own)

nothing_passes : (out : List ℕ) → Passes out [] out
nothing_passes out line rest h = h line

start_queue : queue 0 ≡ []
unfolding queue identifiers
start_queue = refl

sent_more : (seed host n : ℕ) (test : Bool) → (n % 4 == host) ≡ test → host < 4 → Sent seed host n → Sent seed host (suc n)
sent_more seed host n true is bound s =
    let mine : n % 4 ≡ host = eqb-true _ _ is in
    let number : n / 4 ≡ s.own = omega (arith, s.low, s.high, mine) in
    let sent = word_command (seed_word seed n) in
    record {
      own = s.own + 1;
      low = omega (arith, s.low, s.high, mine);
      high = omega (arith, s.low, s.high, mine);
      passes =
          pass_both [] (queue s.own) (queue (s.own + 1)) (host_items seed host n) (own_items seed host n) s.passes
          (rw (is, number) (turn_passes_by s.own sent (nat_lt s.own 16) refl));
    }
sent_more seed host n false is bound s =
    let other : n % 4 ≡ host → ⊥ = λ e. grind (arith, is, e) in
    record {
      own = s.own;
      low = omega (arith, s.low);
      high = omega (arith, s.low, s.high, other);
      passes =
          pass_both [] (queue s.own) (queue s.own) (host_items seed host n) (own_items seed host n) s.passes
          (rw is (nothing_passes (queue s.own)));
    }

sent_first : (seed host n : ℕ) → host < 4 → Sent seed host n
sent_first seed host zero bound = record {
  own = 0;
  low = omega arith;
  high = omega arith;
  passes = subst (λ (out : List ℕ). Passes [] [] out) (sym start_queue) (nothing_passes []);
}
sent_first seed host (suc n) bound = sent_more seed host n (n % 4 == host) refl bound (sent_first seed host n bound)

host_planned : (seed host n line : ℕ) → host < 4 → IsPlanned (planned_items 16 line [] (host_items seed host n))
host_planned seed host n line bound =
    subst (λ (items : List Item). IsPlanned (planned_items 16 line [] items)) (append-nil (host_items seed host n))
    ((sent_first seed host n bound).passes line [] (λ number. refl))

-- ---- the whole script

part_planned : (line : ℕ) (part : HostPart) (parts : List HostPart) → IsPlanned (planned_items 16 (line + 1) [] part.items)
    → ((number : ℕ) → IsPlanned (planned_parts 16 number parts)) → IsPlanned (planned_parts 16 line (part ∷ parts))
part_planned line part parts p q =
    joined_planned (λ (items : List Item) (rest : List HostPart). record { host = part.host; items = items } ∷ rest)
    (planned_items 16 (line + 1) [] part.items) (planned_parts 16 (line + 1 + length part.items) parts) p (q (line + 1 + length part.items))

work_planned : (seed n line : ℕ) → IsPlanned (planned_parts 16 line (work_parts seed n))
work_planned seed n line =
    let two = part_of 2 (host_items seed 1 n) in
    let three = part_of 3 (host_items seed 2 n) in
    let four = part_of 4 (host_items seed 3 n) in
    part_planned line (part_of 1 (host_items seed 0 n)) (two ∷ three ∷ four ∷ []) (host_planned seed 0 n (line + 1) (omega arith)) (λ a.
    part_planned a two (three ∷ four ∷ []) (host_planned seed 1 n (a + 1) (omega arith)) (λ b.
    part_planned b three (four ∷ []) (host_planned seed 2 n (b + 1) (omega arith)) (λ c.
    part_planned c four [] (host_planned seed 3 n (c + 1) (omega arith)) (λ d. refl))))

phase_planned : (line : ℕ) (part : HostPart) (parts : List HostPart) (phases : List declared.Phase) → IsPlanned (planned_parts 16 (line + 1) (part ∷ parts))
    → ((number : ℕ) → IsPlanned (planned_phases 16 number phases)) → IsPlanned (planned_phases 16 line (phase_of (part ∷ parts) ∷ phases))
phase_planned line part parts phases p q =
    joined_planned (λ (hosts : List HostPart) (rest : List declared.Phase). record { hosts = hosts } ∷ rest) (planned_parts 16 (line + 1) (part ∷ parts))
    (planned_phases 16 (line + 1 + lines_of_parts (part ∷ parts)) phases) p (q (line + 1 + lines_of_parts (part ∷ parts)))

script_planned : (seed n : ℕ) → IsPlanned (plan_of (load_script seed n))
script_planned seed n =
    let two = part_of 2 (host_items seed 1 n) in
    let three = part_of 3 (host_items seed 2 n) in
    let four = part_of 4 (host_items seed 3 n) in
    phase_planned 4 (part_of 1 ready_items) [] (phase_of (work_parts seed n) ∷ []) refl (λ number.
    phase_planned number (part_of 1 (host_items seed 0 n)) (two ∷ three ∷ four ∷ []) [] (work_planned seed n (number + 1)) (λ last. refl))

the_plan : {A : Type 0} (r : Result A PlanFault) → IsPlanned r → (x : A) × (r ≡ Ok x)
the_plan (Ok x) h = (x, refl)
the_plan (Err f) h = absurd cc

pub load_planned : (seed n : ℕ) (script : Script) (fault : PlanFault) → AreSized (lines_of script) → script_text script ≡ load_text seed n
    → plan_of script ≡ Err fault → ⊥
load_planned seed n script fault sized same breaks =
    let plan = the_plan (plan_of (load_script seed n)) (script_planned seed n) in
    let lines : lines_of (load_script seed n) ≡ lines_of script = load_script-lines seed n ∙ sym (same_lines seed n script sized same) in
    plan_or_fault (load_script seed n) script plan.0 fault lines plan.1 breaks
