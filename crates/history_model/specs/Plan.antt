-- The plan of a script: its phases with the takes that the end of each host's part adds, or the first
-- line that breaks a rule of queues. This project's own; that two outstanding commands of one queue have two
-- identifiers is NVMe's (Base Specification, submission queue entries).
use Rattle.std.specs.Prelude.{ℕ, ◌+◌, ◌==◌, nat_le, Bool, not, List, [], ◌∷◌, ◌++◌, Result, Ok, Err, if◌then◌else◌, length, map, filter, count_by}
use Rattle.std.specs.List.{list_any}
use Rattle.script_cmds.specs.declared.item.Item.{Item}
use Rattle.script_cmds.specs.declared.item.Item.TheVariants as item
use Rattle.script_cmds.specs.declared.item.HostPart.{HostPart}
use Rattle.script_cmds.specs.declared.item.Phase.{Phase}
use Rattle.script_cmds.specs.declared.script.Script.{Script}
use Rattle.script_cmds.specs.Queues.{queue_depth, queue_of_cid}
use Rattle.script_cmds.specs.Text.{configuration_lines}

-- the rules of queues, each by its breach
pub data Breach : Type 0 where
  -- as many commands of the queue as its depth are outstanding
  QueueFull : Breach
  -- the identifier is that of an outstanding command
  CidBusy : Breach
  -- no outstanding command has the identifier
  NotOutstanding : Breach
  -- no host acts in the phase
  NoHosts : Breach

-- a line of the script's text, counted from 1, and the rule that it breaks
pub record PlanFault : Type 0 where
  pub line : ℕ
  pub breach : Breach

abbrev pub breaks : {A : Type 0} → ℕ → Breach → Result A PlanFault
breaks line breach = Err (record { line = line; breach = breach })

-- something in front of what is planned after it
abbrev pub then_plan : {A B : Type 0} → (A → B) → Result A PlanFault → Result B PlanFault
then_plan front (Ok rest) = Ok (front rest)
then_plan front (Err fault) = Err fault

-- whether an outstanding command has the identifier
abbrev pub is_outstanding : ℕ → List ℕ → Bool
is_outstanding cid outstanding = list_any (λ other. other == cid) outstanding

-- how many outstanding commands are those of a queue
abbrev pub in_queue : ℕ → List ℕ → ℕ
in_queue queue outstanding = count_by (λ cid. queue_of_cid cid == queue) outstanding

-- A host's items from a line on, where commands of these identifiers are outstanding, in order of
-- sending, and each of its queues has this depth. Those that are outstanding at the end are taken in that order.
abbrev pub planned_items : ℕ → ℕ → List ℕ → List Item → Result (List Item) PlanFault
planned_items depth line outstanding [] = Ok (map (λ cid. item.Take cid) outstanding)
planned_items depth line outstanding (item.Send cid command ∷ items) =
    if nat_le depth (in_queue (queue_of_cid cid) outstanding) then breaks line QueueFull
    else if is_outstanding cid outstanding then breaks line CidBusy
    else then_plan (λ rest. item.Send cid command ∷ rest) (planned_items depth (line + 1) (outstanding ++ cid ∷ []) items)
planned_items depth line outstanding (item.Take cid ∷ items) =
    if is_outstanding cid outstanding
    then then_plan (λ rest. item.Take cid ∷ rest) (planned_items depth (line + 1) (filter (λ other. not (other == cid)) outstanding) items)
    else breaks line NotOutstanding

-- the first fault of two, in their order, or both plans joined
abbrev pub both_planned : {A B C : Type 0} → (A → B → C) → Result A PlanFault → Result B PlanFault → Result C PlanFault
both_planned join (Err fault) rest = Err fault
both_planned join (Ok a) rest = then_plan (join a) rest

-- the parts of a phase, of which the first host line has this number
abbrev pub planned_parts : ℕ → ℕ → List HostPart → Result (List HostPart) PlanFault
planned_parts depth line [] = Ok []
planned_parts depth line (part ∷ parts) =
    both_planned (λ items rest. record { host = part.host; items = items } ∷ rest) (planned_items depth (line + 1) [] part.items)
    (planned_parts depth (line + 1 + length part.items) parts)

-- how many lines the parts of a phase have
abbrev pub lines_of_parts : List HostPart → ℕ
lines_of_parts [] = 0
lines_of_parts (part ∷ parts) = 1 + length part.items + lines_of_parts parts

-- the parts of a phase, which has to have one
abbrev pub planned_hosts : ℕ → ℕ → List HostPart → Result (List HostPart) PlanFault
planned_hosts depth line [] = breaks line NoHosts
planned_hosts depth line (part ∷ parts) = planned_parts depth (line + 1) (part ∷ parts)

-- phases, of which the first phase line has this number
abbrev pub planned_phases : ℕ → ℕ → List Phase → Result (List Phase) PlanFault
planned_phases depth line [] = Ok []
planned_phases depth line (phase ∷ phases) =
    both_planned (λ hosts rest. record { hosts = hosts } ∷ rest) (planned_hosts depth line phase.hosts)
    (planned_phases depth (line + 1 + lines_of_parts phase.hosts) phases)

-- the plan of a script, or the first line that breaks a rule
abbrev pub plan_of : Script → Result (List Phase) PlanFault
plan_of script =
    planned_phases (queue_depth script.form script.config.depth) (length (configuration_lines script.form script.config) + 1) script.phases
