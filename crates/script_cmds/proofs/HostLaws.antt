-- The hosts of a script's phases ascend, and it sends no more commands than its version allows, each to one of its queues.
use Rattle.std.proofs.Common.{◌≡◌, ℕ, ◌+◌, ◌/◌, ◌<◌, ◌≤◌, Bool, true, false, cond, eqb, leb, List, [], ◌∷◌, ◌++◌, Result, Ok, Err, refl, sym, ap, subst, ◌∙◌, arith}
use Rattle.std.specs.Prelude.{All, is_ok}
use Rattle.std.proofs.lemmas.Bool.{leb-true, ltb-true}
use Rattle.std.proofs.lemmas.List.Elements.{All-cons, All-nil}
use Rattle.std.proofs.lemmas.List.Sums.{sum_by-cons}
use Rattle.cp_base.specs.Configuration.{Configuration}
use Rattle.cp_base.specs.declared.commands.Command.{Command}
use Rattle.cp_base.specs.declared.limits.TheConstants.{MAX_HOSTS}
use Rattle.script_line.specs.declared.fault.TextCause.{TextCause}
use Rattle.script_line.specs.declared.kind.LineKind.{LineKind}
use Rattle.script_line.specs.declared.kind.LineKind.TheVariants as line
use Rattle.script_line.specs.declared.kind.SpaceKind.TheVariants as space_kind
use Rattle.script_line.specs.declared.kind.SpaceKind.{SpaceKind}
use Rattle.script_line.specs.Versions.{limits_of}
use Rattle.script_line.specs.declared.limits.TheConstants.{MAX_CID}
use Rattle.script_line.specs.declared.version.Version.{Version}
use Rattle.script_line.specs.declared.version.Version.TheVariants as version
use Rattle.script_line.specs.Field.{Value}
use Rattle.script_line.specs.Fits.{is_within, line_fits}
use Rattle.script_line.specs.Line.{Line, counts, send_line}
use Rattle.script_line.specs.Reading.{◌>>=◌}
use Rattle.script_line.proofs.Said.{bind_ok}
use Rattle.script_cmds.specs.declared.form.Form.{Form}
use Rattle.script_cmds.specs.declared.item.Item.{Item}
use Rattle.script_cmds.specs.declared.item.Item.TheVariants as item
use Rattle.script_cmds.specs.declared.item.HostPart.{HostPart}
use Rattle.script_cmds.specs.declared.item.Phase.{Phase}
use Rattle.script_cmds.specs.declared.progress.Progress.{Progress}
use Rattle.script_cmds.specs.declared.progress.Stage.{Stage}
use Rattle.script_cmds.specs.declared.progress.Stage.TheVariants.{AtStart, AfterHeader, AfterNamespace, InPhase, InPart, AfterShow}
use Rattle.script_cmds.specs.declared.script.Script.{Script}
use Rattle.script_cmds.specs.Counts.{is_send, sends_in_items, sends_in_parts, sends_in_phases}
use Rattle.script_cmds.specs.Fault.{after_lines, judged}
use Rattle.script_cmds.specs.Hosts.{AscendFrom, HasHosts, HaveHosts, hosts_of}
use Rattle.script_cmds.specs.Kept.{KeepsOrderAndLimits}
use Rattle.script_cmds.specs.Progress.{advanced, has_room, header_queues, host_follows, is_in_order, is_start, names_queues, start}
use Rattle.script_cmds.specs.Queues.{PartsSendToQueues, PhasesSendToQueues, SendToQueues, queue_of_cid, queues_in, queues_of}
use Rattle.script_cmds.specs.Text.{configuration_lines, header_line, header_numbers, item_line, item_lines, lines_of, numbers_line, part_lines, phase_lines, show_lines, size_lines}
use Rattle.script_cmds.proofs.Keeping.{both_true}
use Rattle.script_cmds.proofs.Meanings.{host_says, within_means}
use Rattle.script_cmds.proofs.OneText.{begun}
use Rattle.script_cmds.proofs.Puts.{passed}

pub after_both : (xs ys : List Line) (p q : Progress) → after_lines p (xs ++ ys) ≡ Ok q → (m : Progress) × (after_lines p xs ≡ Ok m) × (after_lines m ys ≡ Ok q)
after_both [] ys p q e = (p, refl, e)
after_both (x ∷ xs) ys p q e =
    let s = bind_ok (judged p x) (λ m. after_lines m (xs ++ ys)) q e in
    let r = after_both xs ys s.0 q s.2 in
    (r.0, ap (λ (t : Result Progress TextCause). t >>= λ m. after_lines m xs) s.1 ∙ r.1, r.2)

pub ok_is_some : (r : Result Progress TextCause) → is_ok r ≡ true → (q : Progress) × (r ≡ Ok q)
ok_is_some (Ok q) e = (q, refl)
ok_is_some (Err c) e = absurd cc

pub ok_same : (p q : Progress) → ◌≡◌ {A = Result Progress TextCause} (Ok p) (Ok q) → p ≡ q
ok_same p q e = cc

-- ---- hosts

item_stays : (f : Form) (x : Item) (p q : Progress) → judged p (item_line f x) ≡ Ok q → q.stage ≡ p.stage
item_stays f (item.Send cid c) p q e = ap (λ (m : Progress). m.stage) (passed p (item_line f (item.Send cid c)) q e).after
item_stays f (item.Take cid) p q e = ap (λ (m : Progress). m.stage) (passed p (item_line f (item.Take cid)) q e).after

items_stay : (f : Form) (xs : List Item) (p q : Progress) → after_lines p (item_lines f xs) ≡ Ok q → q.stage ≡ p.stage
items_stay f [] p q e = ap (λ (m : Progress). m.stage) (sym (ok_same p q e))
items_stay f (x ∷ xs) p q e =
    let s = bind_ok (judged p (item_line f x)) (λ m. after_lines m (item_lines f xs)) q e in
    items_stay f xs s.0 q s.2 ∙ item_stays f x p s.0 s.1

-- the host before, 0 where there is none
abbrev Before : Stage → ℕ → Type 0
Before InPhase before = before ≡ 0
Before (InPart host) before = before ≡ host
Before _ before = ⊥

above : (s : Stage) (before n : ℕ) → Before s before → host_follows s n ≡ true → 1 ≤ n → before < n
above InPhase before n b o some = omega arith
above (InPart host) before n b o some = omega (arith, ltb-true host n o)
above AtStart before n b o some = absurd b
above AfterHeader before n b o some = absurd b
above (AfterNamespace kind m) before n b o some = absurd b
above AfterShow before n b o some = absurd b

parts_have : (f : Form) (parts : List HostPart) (p q : Progress) (before : ℕ) → Before p.stage before → after_lines p (part_lines f parts) ≡ Ok q → AscendFrom before (hosts_of parts) × All (λ host. host ≤ MAX_HOSTS) (hosts_of parts)
parts_have f [] p q before b e = (tt, All-nil (λ host. host ≤ MAX_HOSTS))
parts_have f (part ∷ parts) p q before b e =
    let l : Line = numbers_line line.Host (part.host ∷ []) in
    let s = bind_ok (judged p l) (λ m. after_lines m (item_lines f part.items ++ part_lines f parts)) q e in
    let h = passed p l s.0 s.1 in
    let says = host_says (counts (part.host ∷ [])) tt (both_true (line_fits l) (has_room p line.Host (counts (part.host ∷ []))) h.limits).0 in
    let r = after_both (item_lines f part.items) (part_lines f parts) s.0 q s.2 in
    let stage : r.0.stage ≡ InPart part.host = items_stay f part.items s.0 r.0 r.1 ∙ ap (λ (m : Progress). m.stage) h.after in
    let more = parts_have f parts r.0 q part.host (subst (λ (x : Stage). Before x part.host) (sym stage) refl) r.2 in
    ((above p.stage before part.host b h.order says.number.0, more.0), All-cons (λ host. host ≤ MAX_HOSTS) part.host (hosts_of parts) says.number.1 more.1)

phases_have : (f : Form) (phases : List Phase) (p q : Progress) → after_lines p (phase_lines f phases) ≡ Ok q → HaveHosts phases
phases_have f [] p q e = All-nil HasHosts
phases_have f (phase ∷ phases) p q e =
    let l : Line = numbers_line line.Phase [] in
    let s = bind_ok (judged p l) (λ m. after_lines m (part_lines f phase.hosts ++ phase_lines f phases)) q e in
    let h = passed p l s.0 s.1 in
    let r = after_both (part_lines f phase.hosts) (phase_lines f phases) s.0 q s.2 in
    let here = parts_have f phase.hosts s.0 r.0 0 (subst (λ (m : Progress). Before m.stage 0) (sym h.after) refl) r.1 in
    All-cons HasHosts phase phases here (phases_have f phases r.0 q r.2)

pub hosts_ascend : (script : Script) → KeepsOrderAndLimits script → HaveHosts script.phases
hosts_ascend script kept =
    let w = ok_is_some (after_lines start (lines_of script)) kept in
    let a = after_both (configuration_lines script.form script.config ++ phase_lines script.form script.phases) (show_lines script.shows) start w.0 w.1 in
    let b = after_both (configuration_lines script.form script.config) (phase_lines script.form script.phases) start a.0 a.1 in
    phases_have script.form script.phases b.0 a.0 b.2

-- ---- sends

abbrev sent_by : LineKind → ℕ
sent_by (line.Send v w) = 1
sent_by _ = 0

abbrev sends_in_lines : List Line → ℕ
sends_in_lines [] = 0
sends_in_lines (l ∷ ls) = sent_by l.kind + sends_in_lines ls

-- so many commands are sent from one place to another, and there was room for them
record Sent (p q : Progress) (number : ℕ) : Type 0 where
  sends : q.sends ≡ p.sends + number
  form : q.form ≡ p.form
  room : p.sends ≤ (limits_of p.form.version).sends → q.sends ≤ (limits_of q.form.version).sends

advance : (kind : LineKind) (p : Progress) (vs : List Value) → is_start p.stage ≡ false → is_in_order p.form.version p.stage kind vs ≡ true → has_room p kind vs ≡ true → Sent p (advanced p kind vs) (sent_by kind)
advance (line.Header v) p vs b o r = absurd (cc)
advance (line.Namespace kind) p vs b o r = record { sends = omega arith; form = refl; room = λ h. h }
advance line.Phase p vs b o r = record { sends = omega arith; form = refl; room = λ h. h }
advance line.Host p vs b o r = record { sends = omega arith; form = refl; room = λ h. h }
advance (line.Send v w) p vs b o r = record { sends = refl; form = refl; room = λ h. let lt = ltb-true p.sends (limits_of p.form.version).sends (both_true _ _ r).0 in omega (arith, lt) }
advance (line.Take v) p vs b o r = record { sends = omega arith; form = refl; room = λ h. h }
advance (line.Show kind) p vs b o r = record { sends = omega arith; form = refl; room = λ h. h }

sent_both : (p m q : Progress) (a b : ℕ) → Sent p m a → Sent m q b → Sent p q (a + b)
sent_both p m q a b s t = record { sends = omega (arith, s.sends, t.sends); form = t.form ∙ s.form; room = λ h. t.room (s.room h) }

lines_sent : (ls : List Line) (p q : Progress) → is_start p.stage ≡ false → after_lines p ls ≡ Ok q → Sent p q (sends_in_lines ls)
lines_sent [] p q b e = subst (λ (m : Progress). Sent p m 0) (ok_same p q e) (record { sends = omega arith; form = refl; room = λ h. h })
lines_sent (l ∷ ls) p q b e =
    let s = bind_ok (judged p l) (λ m. after_lines m ls) q e in
    let h = passed p l s.0 s.1 in
    let room = (both_true (line_fits l) (has_room p l.kind l.values) h.limits).1 in
    let one : Sent p s.0 (sent_by l.kind) = subst (λ (m : Progress). Sent p m (sent_by l.kind)) (sym h.after) (advance l.kind p l.values b h.order room) in
    let on : is_start s.0.stage ≡ false = ap (λ (m : Progress). is_start m.stage) h.after ∙ begun p l.kind l.values h.order in
    sent_both p s.0 q (sent_by l.kind) (sends_in_lines ls) one (lines_sent ls s.0 q on s.2)

still_begun : (ls : List Line) (p q : Progress) → is_start p.stage ≡ false → after_lines p ls ≡ Ok q → is_start q.stage ≡ false
still_begun [] p q b e = ap (λ (m : Progress). is_start m.stage) (sym (ok_same p q e)) ∙ b
still_begun (l ∷ ls) p q b e =
    let s = bind_ok (judged p l) (λ m. after_lines m ls) q e in
    let h = passed p l s.0 s.1 in
    still_begun ls s.0 q (ap (λ (m : Progress). is_start m.stage) h.after ∙ begun p l.kind l.values h.order) s.2

sends_both : (xs ys : List Line) → sends_in_lines (xs ++ ys) ≡ sends_in_lines xs + sends_in_lines ys
sends_both [] ys = omega arith
sends_both (x ∷ xs) ys = omega (arith, sends_both xs ys)

item_sends : (f : Form) (x : Item) → sent_by (item_line f x).kind ≡ cond (is_send x) 1 0
item_sends f (item.Send cid c) = refl
item_sends f (item.Take cid) = refl

items_send : (f : Form) (xs : List Item) → sends_in_lines (item_lines f xs) ≡ sends_in_items xs
items_send f [] = refl
items_send f (x ∷ xs) =
    let more : sends_in_items (x ∷ xs) ≡ cond (is_send x) 1 0 + sends_in_items xs = sum_by-cons (λ (y : Item). cond (is_send y) 1 0) x xs in
    omega (arith, item_sends f x, items_send f xs)

parts_send : (f : Form) (parts : List HostPart) → sends_in_lines (part_lines f parts) ≡ sends_in_parts parts
parts_send f [] = refl
parts_send f (part ∷ parts) =
    let more : sends_in_parts (part ∷ parts) ≡ sends_in_items part.items + sends_in_parts parts = sum_by-cons (λ (x : HostPart). sends_in_items x.items) part parts in
    omega (arith, sends_both (item_lines f part.items) (part_lines f parts), items_send f part.items, parts_send f parts)

phases_send : (f : Form) (phases : List Phase) → sends_in_lines (phase_lines f phases) ≡ sends_in_phases phases
phases_send f [] = refl
phases_send f (phase ∷ phases) =
    let more : sends_in_phases (phase ∷ phases) ≡ sends_in_parts phase.hosts + sends_in_phases phases = sum_by-cons (λ (x : Phase). sends_in_parts x.hosts) phase phases in
    omega (arith, sends_both (part_lines f phase.hosts) (phase_lines f phases), parts_send f phase.hosts, phases_send f phases)

size_by : (b : Bool) (l : Line) (ls : List Line) → sent_by l.kind ≡ 0 → sends_in_lines ls ≡ 0 → sends_in_lines (cond b ls (l ∷ ls)) ≡ 0
size_by true l ls e h = h
size_by false l ls e h = rw (e, h) refl

size_sends : (kind : SpaceKind) (number : ℕ) (sizes : List ℕ) → sends_in_lines (size_lines (line.Namespace kind) number sizes) ≡ 0
size_sends kind number [] = refl
size_sends kind number (size ∷ sizes) = size_by (eqb size 0) (numbers_line (line.Namespace kind) (number ∷ size ∷ [])) (size_lines (line.Namespace kind) (number + 1) sizes) refl (size_sends kind (number + 1) sizes)

config_sends : (script : Script) → sends_in_lines (configuration_lines script.form script.config) ≡ 0
config_sends script =
    let both = sends_both (size_lines (line.Namespace space_kind.Nvm) 1 script.config.nvm) (size_lines (line.Namespace space_kind.Mem) 1 script.config.mem) in
    omega (arith, both, size_sends space_kind.Nvm 1 script.config.nvm, size_sends space_kind.Mem 1 script.config.mem)

-- the lines of the configuration send nothing, and behind them the form is the script's
record Configured (script : Script) (q : Progress) : Type 0 where
  on : is_start q.stage ≡ false
  sends : q.sends ≡ sends_in_lines (configuration_lines script.form script.config)
  version : q.form.version ≡ script.form.version

config_sent : (script : Script) (q : Progress) → after_lines start (configuration_lines script.form script.config) ≡ Ok q → Configured script q
config_sent script q e =
    let config = script.config in
    let l : Line = header_line script.form config in
    let ls : List Line = size_lines (line.Namespace space_kind.Nvm) 1 config.nvm ++ size_lines (line.Namespace space_kind.Mem) 1 config.mem in
    let s = bind_ok (judged start l) (λ m. after_lines m ls) q e in
    let h = passed start l s.0 s.1 in
    let on : is_start s.0.stage ≡ false = ap (λ (m : Progress). is_start m.stage) h.after in
    let first : s.0.sends ≡ 0 = ap (λ (m : Progress). m.sends) h.after in
    let version : s.0.form.version ≡ script.form.version = ap (λ (m : Progress). m.form.version) h.after in
    let more = lines_sent ls s.0 q on s.2 in
    record {
      on = still_begun ls s.0 q on s.2;
      sends = omega (arith, more.sends, first);
      version = ap (λ (form : Form). form.version) more.form ∙ version;
    }

pub few_sends : (script : Script) → KeepsOrderAndLimits script → sends_in_phases script.phases ≤ (limits_of script.form.version).sends
few_sends script kept =
    let f = script.form in
    let w = ok_is_some (after_lines start (lines_of script)) kept in
    let a = after_both (configuration_lines f script.config ++ phase_lines f script.phases) (show_lines script.shows) start w.0 w.1 in
    let b = after_both (configuration_lines f script.config) (phase_lines f script.phases) start a.0 a.1 in
    let c = config_sent script b.0 b.1 in
    let none : sends_in_lines (configuration_lines f script.config) ≡ 0 = config_sends script in
    let s = lines_sent (phase_lines f script.phases) b.0 a.0 c.on b.2 in
    let room : a.0.sends ≤ (limits_of a.0.form.version).sends = s.room (omega (arith, c.sends, none)) in
    let there : (limits_of a.0.form.version).sends ≡ (limits_of f.version).sends = ap (λ (v : Version). (limits_of v).sends) (ap (λ (form : Form). form.version) s.form ∙ c.version) in
    omega (arith, s.sends, c.sends, none, phases_send f script.phases, room, there)

-- ---- queues

-- the identifier of a send line, which keeps its limits, is one of the queues
send_to : (v : Version) (queues cid : ℕ) (c : Command) → line_fits (send_line v cid c) ≡ true → names_queues (queues_in v queues) (send_line v cid c).values ≡ true → queue_of_cid cid < queues_in v queues
send_to version.One queues cid c fits names =
    let few = (within_means 0 MAX_CID cid (both_true (is_within 0 MAX_CID cid) _ fits).0).1 in
    omega (arith, few)
send_to version.Two queues cid c fits names =
    let few = leb-true (cid / 65536 + 1) queues (both_true (leb (cid / 65536 + 1) queues) _ names).0 in
    omega (arith, few)

-- where a script of this form stands that has begun
record Begun (f : Form) (p : Progress) : Type 0 where
  on : is_start p.stage ≡ false
  queues : p.form.queues ≡ queues_of f

begun_on : (f : Form) (ls : List Line) (p q : Progress) → Begun f p → after_lines p ls ≡ Ok q → Begun f q
begun_on f ls p q b e = record { on = still_begun ls p q b.on e; queues = ap (λ (form : Form). form.queues) (lines_sent ls p q b.on e).form ∙ b.queues }

one_on : (f : Form) (l : Line) (p q : Progress) → Begun f p → judged p l ≡ Ok q → Begun f q
one_on f l p q b e = begun_on f (l ∷ []) p q b (ap (λ (r : Result Progress TextCause). r >>= λ m. Ok m) e)

items_to : (f : Form) (xs : List Item) (p q : Progress) → Begun f p → after_lines p (item_lines f xs) ≡ Ok q → SendToQueues (queues_of f) xs
items_to f [] p q b e = tt
items_to f (item.Send cid c ∷ xs) p q b e =
    let l : Line = item_line f (item.Send cid c) in
    let s = bind_ok (judged p l) (λ m. after_lines m (item_lines f xs)) q e in
    let h = passed p l s.0 s.1 in
    let parts = both_true (line_fits l) (has_room p l.kind l.values) h.limits in
    let named : names_queues p.form.queues l.values ≡ true = (both_true _ _ parts.1).1 in
    let names : names_queues (queues_of f) l.values ≡ true = subst (λ (queues : ℕ). names_queues queues l.values ≡ true) b.queues named in
    (send_to f.version f.queues cid c.value parts.0 names, items_to f xs s.0 q (one_on f l p s.0 b s.1) s.2)
items_to f (item.Take cid ∷ xs) p q b e =
    let l : Line = item_line f (item.Take cid) in
    let s = bind_ok (judged p l) (λ m. after_lines m (item_lines f xs)) q e in
    items_to f xs s.0 q (one_on f l p s.0 b s.1) s.2

parts_to : (f : Form) (parts : List HostPart) (p q : Progress) → Begun f p → after_lines p (part_lines f parts) ≡ Ok q → PartsSendToQueues (queues_of f) parts
parts_to f [] p q b e = All-nil (λ (part : HostPart). SendToQueues (queues_of f) part.items)
parts_to f (part ∷ parts) p q b e =
    let l : Line = numbers_line line.Host (part.host ∷ []) in
    let s = bind_ok (judged p l) (λ m. after_lines m (item_lines f part.items ++ part_lines f parts)) q e in
    let on = one_on f l p s.0 b s.1 in
    let r = after_both (item_lines f part.items) (part_lines f parts) s.0 q s.2 in
    All-cons (λ (x : HostPart). SendToQueues (queues_of f) x.items) part parts (items_to f part.items s.0 r.0 on r.1)
    (parts_to f parts r.0 q (begun_on f (item_lines f part.items) s.0 r.0 on r.1) r.2)

phases_to : (f : Form) (phases : List Phase) (p q : Progress) → Begun f p → after_lines p (phase_lines f phases) ≡ Ok q → PhasesSendToQueues (queues_of f) phases
phases_to f [] p q b e = All-nil (λ (phase : Phase). PartsSendToQueues (queues_of f) phase.hosts)
phases_to f (phase ∷ phases) p q b e =
    let l : Line = numbers_line line.Phase [] in
    let s = bind_ok (judged p l) (λ m. after_lines m (part_lines f phase.hosts ++ phase_lines f phases)) q e in
    let on = one_on f l p s.0 b s.1 in
    let r = after_both (part_lines f phase.hosts) (phase_lines f phases) s.0 q s.2 in
    All-cons (λ (x : Phase). PartsSendToQueues (queues_of f) x.hosts) phase phases (parts_to f phase.hosts s.0 r.0 on r.1)
    (phases_to f phases r.0 q (begun_on f (part_lines f phase.hosts) s.0 r.0 on r.1) r.2)

header_queues_said : (v : Version) (queues : ℕ) (c : Configuration) → header_queues v (counts (header_numbers v queues c)) ≡ queues_in v queues
header_queues_said version.One queues c = refl
header_queues_said version.Two queues c = refl

pub to_queues : (script : Script) → KeepsOrderAndLimits script → PhasesSendToQueues (queues_of script.form) script.phases
to_queues script kept =
    let f = script.form in
    let config = script.config in
    let w = ok_is_some (after_lines start (lines_of script)) kept in
    let a = after_both (configuration_lines f config ++ phase_lines f script.phases) (show_lines script.shows) start w.0 w.1 in
    let b = after_both (configuration_lines f config) (phase_lines f script.phases) start a.0 a.1 in
    let l : Line = header_line f config in
    let ls : List Line = size_lines (line.Namespace space_kind.Nvm) 1 config.nvm ++ size_lines (line.Namespace space_kind.Mem) 1 config.mem in
    let s = bind_ok (judged start l) (λ m. after_lines m ls) b.0 b.1 in
    let h = passed start l s.0 s.1 in
    let first : Begun f s.0 = record {
      on = ap (λ (m : Progress). is_start m.stage) h.after;
      queues = ap (λ (m : Progress). m.form.queues) h.after ∙ header_queues_said f.version f.queues config;
    } in
    phases_to f script.phases b.0 a.0 (begun_on f ls s.0 b.0 first s.2) b.2
