-- The first line that breaks a rule of queues, found on the lines of a script themselves: scripts with the same
-- lines have the same fault.
use Rattle.std.proofs.Common.{◌≡◌, ℕ, suc, ◌+◌, ◌/◌, ◌==◌, nat_le, Bool, true, false, not, List, [], ◌∷◌, ◌++◌, length, filter, Option, Some, None, Result, Ok, Err, if◌then◌else◌, refl, sym, ap, ◌∙◌, arith, append_assoc, length-append}
use Rattle.std.specs.Option.{option_or}
use Rattle.std.proofs.Math.Nat.{div-one}
use Rattle.cp_base.specs.Configuration.{Configuration}
use Rattle.cp_base.specs.declared.region.SpaceId.{SpaceId}
use Rattle.cp_base.specs.declared.region.SpaceId.TheVariants as space
use Rattle.script_line.specs.declared.kind.LineKind.{LineKind}
use Rattle.script_line.specs.declared.kind.LineKind.TheVariants as line
use Rattle.script_line.specs.declared.kind.SpaceKind.{SpaceKind}
use Rattle.script_line.specs.declared.kind.SpaceKind.TheVariants as space_kind
use Rattle.script_line.specs.Field.{Value}
use Rattle.script_line.specs.Line.{Line, counts, identifier_value}
use Rattle.script_line.specs.Values.{identifier_at, identifier_in}
use Rattle.script_line.specs.declared.version.Version.{Version}
use Rattle.script_line.specs.declared.version.Version.TheVariants as version
use Rattle.script_cmds.specs.declared.form.Form.{Form}
use Rattle.script_cmds.specs.Progress.{header_depth}
use Rattle.script_cmds.specs.Queues.{queue_depth, queue_of_cid, queues_in}
use Rattle.script_cmds.specs.declared.item.Item.{Item}
use Rattle.script_cmds.specs.declared.item.Item.TheVariants as item
use Rattle.script_cmds.specs.declared.item.HostPart.{HostPart}
use Rattle.script_cmds.specs.declared.item.Phase.{Phase}
use Rattle.script_cmds.specs.declared.item.Show.{Show}
use Rattle.script_cmds.specs.declared.script.Script.{Script}
use Rattle.script_cmds.specs.Text.{configuration_lines, header_numbers, item_lines, lines_of, numbers_line, part_lines, phase_lines, region_line, show_lines, size_lines}
use Rattle.history_model.specs.Plan.{Breach, PlanFault, QueueFull, CidBusy, NotOutstanding, NoHosts, both_planned, breaks, in_queue, is_outstanding, lines_of_parts, plan_of, planned_hosts, planned_items, planned_parts, planned_phases, then_plan}

abbrev fault_of : {A : Type 0} → Result A PlanFault → Option PlanFault
fault_of (Ok planned) = None
fault_of (Err fault) = Some fault

abbrev told_at : ℕ → Breach → Option PlanFault
told_at number breach = Some (record { line = number; breach = breach })

-- whether the first line is that of a host
abbrev is_host : LineKind → Bool
is_host line.Host = true
is_host _ = false

abbrev host_first : List Line → Bool
host_first [] = false
host_first (l ∷ ls) = is_host l.kind

-- a send and a take at a line, and what comes after them
abbrev at_send : ℕ → ℕ → List ℕ → ℕ → (List ℕ → Option PlanFault) → Option PlanFault
at_send depth number outstanding cid go =
    if nat_le depth (in_queue (queue_of_cid cid) outstanding) then told_at number QueueFull else if is_outstanding cid outstanding then told_at number CidBusy else go (outstanding ++ cid ∷ [])

abbrev at_take : ℕ → List ℕ → ℕ → (List ℕ → Option PlanFault) → Option PlanFault
at_take number outstanding cid go = if is_outstanding cid outstanding then go (filter (λ other. not (other == cid)) outstanding) else told_at number NotOutstanding

-- a line by its kind: whether a host comes next, and what comes after it
abbrev at_line : ℕ → ℕ → List ℕ → LineKind → List Value → Bool → (List ℕ → Option PlanFault) → Option PlanFault
at_line depth number outstanding (line.Header v) values host go = go []
at_line depth number outstanding (line.Namespace kind) values host go = go []
at_line depth number outstanding line.Phase values host go = if host then go [] else told_at number NoHosts
at_line depth number outstanding line.Host values host go = go []
at_line depth number outstanding (line.Send v word) values host go = at_send depth number outstanding (identifier_at values 0) go
at_line depth number outstanding (line.Take v) values host go = at_take number outstanding (identifier_at values 0) go
at_line depth number outstanding (line.Show kind) values host go = go []

-- the first fault of lines, of which the first has this number
abbrev scan : ℕ → ℕ → List ℕ → List Line → Option PlanFault
scan depth number outstanding [] = None
scan depth number outstanding (l ∷ ls) = at_line depth number outstanding l.kind l.values (host_first ls) (λ more. scan depth (number + 1) more ls)

-- lines in front of which it does not matter what is outstanding
abbrev IsFree : List Line → Type 0
IsFree rest = (depth number : ℕ) (outstanding : List ℕ) → scan depth number outstanding rest ≡ scan depth number [] rest

-- ---- items

then_fault : {A B : Type 0} (front : A → B) (r : Result A PlanFault) → fault_of (then_plan front r) ≡ fault_of r
then_fault front (Ok x) = refl
then_fault front (Err f) = refl

both_fault : {A B C : Type 0} (join : A → B → C) (r : Result A PlanFault) (s : Result B PlanFault) → fault_of (both_planned join r s) ≡ option_or (fault_of r) (fault_of s)
both_fault join (Err f) s = refl
both_fault join (Ok x) s = then_fault (join x) s

or_assoc : (a b c : Option PlanFault) → option_or a (option_or b c) ≡ option_or (option_or a b) c
or_assoc None b c = refl
or_assoc (Some f) b c = refl

-- what an identifier says is the identifier
said_again : (v : Version) (cid : ℕ) → identifier_in (Some (identifier_value v cid)) ≡ cid
said_again version.One cid = refl
said_again version.Two cid = omega arith

send_fault : {A : Type 0} (number : ℕ) (full busy : Bool) (r : Result A PlanFault) (front : A → A) (more next : Option PlanFault)
    → more ≡ option_or (fault_of r) next
    → (if full then told_at number QueueFull else if busy then told_at number CidBusy else more)
    ≡ option_or (fault_of (if full then breaks number QueueFull else if busy then breaks number CidBusy else then_plan front r)) next
send_fault number true busy r front more next e = refl
send_fault number false true r front more next e = refl
send_fault number false false r front more next e = e ∙ ap (λ o. option_or o next) (sym (then_fault front r))

take_fault : {A : Type 0} (number : ℕ) (found : Bool) (r : Result A PlanFault) (front : A → A) (more next : Option PlanFault)
    → more ≡ option_or (fault_of r) next
    → (if found then more else told_at number NotOutstanding) ≡ option_or (fault_of (if found then then_plan front r else breaks number NotOutstanding)) next
take_fault number true r front more next e = e ∙ ap (λ o. option_or o next) (sym (then_fault front r))
take_fault number false r front more next e = refl

none_more : (number : ℕ) → number ≡ number + 0
none_more number = omega arith

one_more : (number count : ℕ) → number + 1 + count ≡ number + suc count
one_more number count = omega arith

scan_items : (f : Form) (depth number : ℕ) (outstanding : List ℕ) (items : List Item) (rest : List Line) → IsFree rest
    → scan depth number outstanding (item_lines f items ++ rest) ≡ option_or (fault_of (planned_items depth number outstanding items)) (scan depth (number + length items) [] rest)
scan_items f depth number outstanding [] rest free = free depth number outstanding ∙ ap (λ n. scan depth n [] rest) (none_more number)
scan_items f depth number outstanding (item.Send cid sent ∷ items) rest free =
    let more = scan_items f depth (number + 1) (outstanding ++ cid ∷ []) items rest free in
    let next : Option PlanFault = scan depth (number + suc (length items)) [] rest in
    ap (λ n. at_send depth number outstanding n (λ left. scan depth (number + 1) left (item_lines f items ++ rest))) (said_again f.version cid)
    ∙ send_fault number (nat_le depth (in_queue (queue_of_cid cid) outstanding)) (is_outstanding cid outstanding) (planned_items depth (number + 1) (outstanding ++ cid ∷ []) items) (λ xs. item.Send cid sent ∷ xs)
    (scan depth (number + 1) (outstanding ++ cid ∷ []) (item_lines f items ++ rest)) next
    (more ∙ ap (λ n. option_or (fault_of (planned_items depth (number + 1) (outstanding ++ cid ∷ []) items)) (scan depth n [] rest)) (one_more number (length items)))
scan_items f depth number outstanding (item.Take cid ∷ items) rest free =
    let left : List ℕ = filter (λ other. not (other == cid)) outstanding in
    let more = scan_items f depth (number + 1) left items rest free in
    let next : Option PlanFault = scan depth (number + suc (length items)) [] rest in
    ap (λ n. at_take number outstanding n (λ kept. scan depth (number + 1) kept (item_lines f items ++ rest))) (said_again f.version cid)
    ∙ take_fault number (is_outstanding cid outstanding) (planned_items depth (number + 1) left items) (λ xs. item.Take cid ∷ xs)
    (scan depth (number + 1) left (item_lines f items ++ rest)) next
    (more ∙ ap (λ n. option_or (fault_of (planned_items depth (number + 1) left items)) (scan depth n [] rest)) (one_more number (length items)))

-- ---- parts and phases

free_parts : (f : Form) (parts : List HostPart) (rest : List Line) → IsFree rest → IsFree (part_lines f parts ++ rest)
free_parts f [] rest free depth number outstanding = free depth number outstanding
free_parts f (part ∷ parts) rest free depth number outstanding = refl

scan_parts : (f : Form) (depth number : ℕ) (parts : List HostPart) (rest : List Line) → IsFree rest
    → scan depth number [] (part_lines f parts ++ rest) ≡ option_or (fault_of (planned_parts depth number parts)) (scan depth (number + lines_of_parts parts) [] rest)
scan_parts f depth number [] rest free = ap (λ n. scan depth n [] rest) (none_more number)
scan_parts f depth number (part ∷ parts) rest free =
    let joined = append_assoc (item_lines f part.items) (part_lines f parts) rest in
    let items = scan_items f depth (number + 1) [] part.items (part_lines f parts ++ rest) (free_parts f parts rest free) in
    let more = scan_parts f depth (number + 1 + length part.items) parts rest free in
    let here = planned_items depth (number + 1) [] part.items in
    let there = planned_parts depth (number + 1 + length part.items) parts in
    let place : number + 1 + length part.items + lines_of_parts parts ≡ number + (1 + length part.items + lines_of_parts parts) = omega arith in
    ap (λ ls. scan depth (number + 1) [] ls) joined ∙ items ∙ ap (λ o. option_or (fault_of here) o) more
    ∙ or_assoc (fault_of here) (fault_of there) (scan depth (number + 1 + length part.items + lines_of_parts parts) [] rest)
    ∙ ap (λ o. option_or o (scan depth (number + 1 + length part.items + lines_of_parts parts) [] rest)) (sym (both_fault (λ items rest. record { host = part.host; items = items } ∷ rest) here there))
    ∙ ap (λ n. option_or (fault_of (planned_parts depth number (part ∷ parts))) (scan depth n [] rest)) place

-- what stands behind the parts of a phase begins with no host
record IsBehind (rest : List Line) : Type 0 where
  free : IsFree rest
  host : host_first rest ≡ false

shows_behind : (shows : List Show) → IsBehind (show_lines shows)
shows_behind [] = record { free = λ depth number outstanding. refl; host = refl }
shows_behind (show ∷ shows) = by show.range.space show.range.start show.range.len (show_lines shows)
  where
    by : (s : _) (start len : ℕ) (rest : List Line) → IsBehind (region_line s start len ∷ rest)
    by (space.Nvm n) start len rest = record { free = λ depth number outstanding. refl; host = refl }
    by (space.Mem n) start len rest = record { free = λ depth number outstanding. refl; host = refl }

phases_behind : (f : Form) (phases : List Phase) (shows : List Show) → IsBehind (phase_lines f phases ++ show_lines shows)
phases_behind f [] shows = shows_behind shows
phases_behind f (phase ∷ phases) shows = record { free = λ depth number outstanding. refl; host = refl }

scan_show : (depth number : ℕ) (s : SpaceId) (start len : ℕ) (rest : List Line) → scan depth number [] (region_line s start len ∷ rest) ≡ scan depth (number + 1) [] rest
scan_show depth number (space.Nvm n) start len rest = refl
scan_show depth number (space.Mem n) start len rest = refl

scan_shows : (depth number : ℕ) (shows : List Show) → scan depth number [] (show_lines shows) ≡ None
scan_shows depth number [] = refl
scan_shows depth number (show ∷ shows) = scan_show depth number show.range.space show.range.start show.range.len (show_lines shows) ∙ scan_shows depth (number + 1) shows

phase_fault : (f : Form) (depth number : ℕ) (hosts : List HostPart) (rest : List Line) → IsBehind rest
    → at_line depth number [] line.Phase [] (host_first (part_lines f hosts ++ rest)) (λ more. scan depth (number + 1) more (part_lines f hosts ++ rest))
    ≡ option_or (fault_of (planned_hosts depth number hosts)) (scan depth (number + 1 + lines_of_parts hosts) [] rest)
phase_fault f depth number [] rest behind = ap (λ (b : Bool). if b then scan depth (number + 1) [] rest else told_at number NoHosts) behind.host
phase_fault f depth number (part ∷ parts) rest behind = scan_parts f depth (number + 1) (part ∷ parts) rest behind.free

scan_phases : (f : Form) (depth number : ℕ) (phases : List Phase) (shows : List Show)
    → scan depth number [] (phase_lines f phases ++ show_lines shows) ≡ fault_of (planned_phases depth number phases)
scan_phases f depth number [] shows = scan_shows depth number shows
scan_phases f depth number (phase ∷ phases) shows =
    let rest : List Line = phase_lines f phases ++ show_lines shows in
    let head : Line = numbers_line line.Phase [] in
    let joined = append_assoc (part_lines f phase.hosts) (phase_lines f phases) (show_lines shows) in
    let here = planned_hosts depth number phase.hosts in
    let there = planned_phases depth (number + 1 + lines_of_parts phase.hosts) phases in
    ap (λ (ls : List Line). scan depth number [] (head ∷ ls)) joined ∙ phase_fault f depth number phase.hosts rest (phases_behind f phases shows)
    ∙ ap (λ o. option_or (fault_of here) o) (scan_phases f depth (number + 1 + lines_of_parts phase.hosts) phases shows)
    ∙ sym (both_fault (λ hosts rest. record { hosts = hosts } ∷ rest) here there)

-- ---- whole scripts

sizes_by : (depth number : ℕ) (here : Line) (more rest : List Line) (kind : SpaceKind) (none : Bool) → here.kind ≡ line.Namespace kind
    → ((n : ℕ) → scan depth n [] (more ++ rest) ≡ scan depth (n + length more) [] rest)
    → scan depth number [] ((if none then more else here ∷ more) ++ rest) ≡ scan depth (number + length (if none then more else here ∷ more)) [] rest
sizes_by depth number here more rest kind true is later = later number
sizes_by depth number here more rest kind false is later =
    ap (λ (k : LineKind). at_line depth number [] k here.values (host_first (more ++ rest)) (λ left. scan depth (number + 1) left (more ++ rest))) is
    ∙ later (number + 1) ∙ ap (λ n. scan depth n [] rest) (one_more number (length more))

scan_sizes : (depth : ℕ) (kind : SpaceKind) (first : ℕ) (sizes : List ℕ) (number : ℕ) (rest : List Line)
    → scan depth number [] (size_lines (line.Namespace kind) first sizes ++ rest) ≡ scan depth (number + length (size_lines (line.Namespace kind) first sizes)) [] rest
scan_sizes depth kind first [] number rest = ap (λ n. scan depth n [] rest) (none_more number)
scan_sizes depth kind first (size ∷ sizes) number rest =
    sizes_by depth number (numbers_line (line.Namespace kind) (first ∷ size ∷ [])) (size_lines (line.Namespace kind) (first + 1) sizes) rest kind (size == 0) refl
    (λ n. scan_sizes depth kind (first + 1) sizes n rest)

-- the depth of a queue that the first line says
abbrev depth_by : LineKind → List Value → ℕ
depth_by (line.Header v) values = header_depth v values
depth_by _ values = 0

abbrev depth_in : List Line → ℕ
depth_in [] = 0
depth_in (l ∷ ls) = depth_by l.kind l.values

depth_said : (v : Version) (queues : ℕ) (c : Configuration) → header_depth v (counts (header_numbers v queues c)) ≡ c.depth / queues_in v queues
depth_said version.One queues c = sym (div-one c.depth)
depth_said version.Two queues c = refl

-- the fault of a script is found on its lines
scanned : (script : Script) → scan (depth_in (lines_of script)) 1 [] (lines_of script) ≡ fault_of (plan_of script)
scanned script =
    let f : Form = script.form in
    let c : Configuration = script.config in
    let depth : ℕ = queue_depth f c.depth in
    let nvm : List Line = size_lines (line.Namespace space_kind.Nvm) 1 c.nvm in
    let mem : List Line = size_lines (line.Namespace space_kind.Mem) 1 c.mem in
    let phases : List Line = phase_lines f script.phases in
    let shows : List Line = show_lines script.shows in
    let joined : ((nvm ++ mem) ++ phases) ++ shows ≡ nvm ++ (mem ++ (phases ++ shows)) = append_assoc (nvm ++ mem) phases shows ∙ append_assoc nvm mem (phases ++ shows) in
    let place : 1 + 1 + length nvm + length mem ≡ length (configuration_lines f c) + 1 = let both = length-append nvm mem in omega (arith, both) in
    ap (λ (d : ℕ). scan d (1 + 1) [] (((nvm ++ mem) ++ phases) ++ shows)) (depth_said f.version f.queues c)
    ∙ ap (λ (ls : List Line). scan depth (1 + 1) [] ls) joined
    ∙ scan_sizes depth space_kind.Nvm 1 c.nvm (1 + 1) (mem ++ (phases ++ shows))
    ∙ scan_sizes depth space_kind.Mem 1 c.mem (1 + 1 + length nvm) (phases ++ shows)
    ∙ scan_phases f depth (1 + 1 + length nvm + length mem) script.phases script.shows
    ∙ ap (λ n. fault_of (planned_phases depth n script.phases)) place

same_faults : (a b : Script) → lines_of a ≡ lines_of b → fault_of (plan_of a) ≡ fault_of (plan_of b)
same_faults a b same = sym (scanned a) ∙ ap (λ ls. scan (depth_in ls) 1 [] ls) same ∙ scanned b

pub one_fault : (a b : Script) (f g : PlanFault) → lines_of a ≡ lines_of b → plan_of a ≡ Err f → plan_of b ≡ Err g → f ≡ g
one_fault a b f g same p q =
    let e = same_faults a b same in
    let all : Some f ≡ Some g = sym (ap (λ r. fault_of r) p) ∙ e ∙ ap (λ r. fault_of r) q in
    cc

pub plan_or_fault : (a b : Script) (plan : List Phase) (f : PlanFault) → lines_of a ≡ lines_of b → plan_of a ≡ Ok plan → plan_of b ≡ Err f → ⊥
plan_or_fault a b plan f same p q =
    let e = same_faults a b same in
    let all : None ≡ Some f = sym (ap (λ r. fault_of r) p) ∙ e ∙ ap (λ r. fault_of r) q in
    cc
