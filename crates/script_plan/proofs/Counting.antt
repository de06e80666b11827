-- Lines and commands, counted.
use Rattle.std.proofs.Common.{◌≡◌, ℕ, ◌+◌, ◌≤◌, ◌==◌, not, Bool, true, false, List, [], ◌∷◌, ◌++◌, suc, cond, filter, length, arith, refl, sym, ◌∙◌, ap, length-append}
use Rattle.std.specs.Prelude.{count_by, if◌then◌else◌}
use Rattle.std.proofs.lemmas.List.Sums.{count_by-le-length, sum_by-cons}
use Rattle.script_line.specs.declared.kind.LineKind.{LineKind}
use Rattle.script_cmds.specs.Text.{numbers_line, size_lines, configuration_lines, part_lines, item_lines, phase_lines, show_lines, lines_of}
use Rattle.script_cmds.specs.declared.form.Form.{Form}
use Rattle.script_cmds.specs.declared.item.Item.{Item}
use Rattle.script_cmds.specs.declared.item.HostPart.{HostPart}
use Rattle.script_cmds.specs.declared.item.Phase.{Phase}
use Rattle.script_cmds.specs.declared.script.Script.{Script}
use Rattle.script_cmds.specs.declared.item.Item.TheVariants as item
use Rattle.history_model.specs.Plan.{lines_of_parts}
use Rattle.history_model.specs.Sent.{Sent, Waiting, ordinals_of, next_ordinal, sends_of_items, sends_of_parts, sends_of_phases, sends_of}
use Rattle.script_plan.specs.Counted.{lines_of_phases}
use Rattle.script_cmds.specs.Counts.{sends_in_items, sends_in_parts, sends_in_phases, is_send}

-- one size more
size-step : (kind : LineKind) (number size : ℕ) (sizes : List ℕ) (none : Bool) (count : ℕ) → length (size_lines kind (number + 1) sizes) ≡ count
    → length (if none then size_lines kind (number + 1) sizes else numbers_line kind (number ∷ size ∷ []) ∷ size_lines kind (number + 1) sizes) ≡ cond {A = ℕ} (not none) 1 0 + count
size-step kind number size sizes true count more = omega (arith, more)
size-step kind number size sizes false count more = omega (arith, more)

-- each size that is not 0 has a line
pub length-size_lines : (kind : LineKind) (number : ℕ) (sizes : List ℕ) → length (size_lines kind number sizes) ≡ count_by (λ size. not (size == 0)) sizes
length-size_lines kind number [] = refl
length-size_lines kind number (size ∷ sizes) =
    size-step kind number size sizes (size == 0) (count_by (λ n. not (n == 0)) sizes) (length-size_lines kind (number + 1) sizes)
    ∙ sym (sum_by-cons (λ n. cond {A = ℕ} (not (n == 0)) 1 0) size sizes)

pub length-item_lines : (form : Form) (items : List Item) → length (item_lines form items) ≡ length items
length-item_lines form [] = refl
length-item_lines form (item ∷ items) = ap (λ n. suc n) (length-item_lines form items)

pub length-part_lines : (form : Form) (parts : List HostPart) → length (part_lines form parts) ≡ lines_of_parts parts
length-part_lines form [] = refl
length-part_lines form (part ∷ parts) =
    omega (arith, length-append (item_lines form part.items) (part_lines form parts), length-item_lines form part.items, length-part_lines form parts)

-- a phase has its own line and those of its parts
pub length-phase_lines : (form : Form) (phases : List Phase) → length (phase_lines form phases) ≡ lines_of_phases phases
length-phase_lines form [] = refl
length-phase_lines form (phase ∷ phases) =
    omega (arith, length-append (part_lines form phase.hosts) (phase_lines form phases), length-part_lines form phase.hosts, length-phase_lines form phases)

pub lines_of_phases-cons : (phase : Phase) (phases : List Phase) → lines_of_phases (phase ∷ phases) ≡ 1 + lines_of_parts phase.hosts + lines_of_phases phases
lines_of_phases-cons phase phases = refl

pub sends_in_parts-cons : (part : HostPart) (parts : List HostPart) → sends_in_parts (part ∷ parts) ≡ sends_in_items part.items + sends_in_parts parts
sends_in_parts-cons part parts = sum_by-cons (λ (p : HostPart). sends_in_items p.items) part parts

pub sends_in_phases-cons : (phase : Phase) (phases : List Phase) → sends_in_phases (phase ∷ phases) ≡ sends_in_parts phase.hosts + sends_in_phases phases
sends_in_phases-cons phase phases = sum_by-cons (λ (p : Phase). sends_in_parts p.hosts) phase phases

-- each send has a line
pub sends-parts : (parts : List HostPart) → sends_in_parts parts ≤ lines_of_parts parts
sends-parts [] = omega arith
sends-parts (part ∷ parts) = omega (arith, sends_in_parts-cons part parts, sends-parts parts, count_by-le-length is_send part.items)

pub sends-phases : (phases : List Phase) → sends_in_phases phases ≤ lines_of_phases phases
sends-phases [] = omega arith
sends-phases (phase ∷ phases) = omega (arith, sends_in_phases-cons phase phases, sends-phases phases, sends-parts phase.hosts)

-- the sends of items are the commands sent by them
pub length-items : (host phase ordinal : ℕ) (waiting : List Waiting) (taken : List ℕ) (items : List Item)
    → length (sends_of_items host phase ordinal waiting taken items) ≡ sends_in_items items
length-items host phase ordinal waiting taken [] = refl
length-items host phase ordinal waiting taken (item.Send cid command ∷ items) =
    let here : Waiting = record { cid = cid; ordinal = ordinal } in
    omega (arith, length-items host phase (ordinal + 1) (waiting ++ here ∷ []) taken items, sum_by-cons (λ (x : Item). cond {A = ℕ} (is_send x) 1 0) (item.Send cid command) items)
length-items host phase ordinal waiting taken (item.Take cid ∷ items) =
    omega (
      arith,
      length-items host phase ordinal (filter (λ (w : Waiting). not (w.cid == cid)) waiting) (taken ++ ordinals_of cid waiting) items,
      sum_by-cons (λ (x : Item). cond {A = ℕ} (is_send x) 1 0) (item.Take cid) items,
    )

length-parts : (phase : ℕ) (earlier : List Sent) (parts : List HostPart) → length (sends_of_parts phase earlier parts) ≡ length earlier + sends_in_parts parts
length-parts phase earlier [] = omega arith
length-parts phase earlier (part ∷ parts) =
    let new = sends_of_items part.host phase (next_ordinal part.host earlier) [] [] part.items in
    omega (
      arith,
      length-parts phase (earlier ++ new) parts,
      length-append earlier new,
      length-items part.host phase (next_ordinal part.host earlier) [] [] part.items,
      sends_in_parts-cons part parts,
    )

length-phases : (phase : ℕ) (earlier : List Sent) (phases : List Phase) → length (sends_of_phases phase earlier phases) ≡ length earlier + sends_in_phases phases
length-phases phase earlier [] = omega arith
length-phases phase earlier (p ∷ phases) =
    omega (arith, length-phases (phase + 1) (sends_of_parts phase earlier p.hosts) phases, length-parts phase earlier p.hosts, sends_in_phases-cons p phases)

-- a plan sends as many commands as it has sends
pub length-sends_of : (phases : List Phase) → length (sends_of phases) ≡ sends_in_phases phases
length-sends_of phases = omega (arith, length-phases 1 [] phases)

-- the phases of a script are among its lines
pub phases-fit : (script : Script) → length (configuration_lines script.form script.config) + lines_of_phases script.phases ≤ length (lines_of script)
phases-fit script =
    let front = configuration_lines script.form script.config in
    let middle = phase_lines script.form script.phases in
    omega (arith, length-append (front ++ middle) (show_lines script.shows), length-append front middle, length-phase_lines script.form script.phases)

-- a script of one phase and no shows is short where its parts are
pub one-phase-fits : (script : Script) (phase : Phase) → script.phases ≡ phase ∷ [] → script.shows ≡ [] → lines_of_parts phase.hosts ≤ 3000
    → length (configuration_lines script.form script.config) ≤ 17 → length (lines_of script) ≤ 4294967294
one-phase-fits script phase phases shows parts few =
    let front = configuration_lines script.form script.config in
    let middle = phase_lines script.form script.phases in
    omega (
      arith,
      length-append (front ++ middle) (show_lines script.shows),
      length-append front middle,
      length-phase_lines script.form script.phases,
      ap lines_of_phases phases,
      ap (λ s. length (show_lines s)) shows,
    )
