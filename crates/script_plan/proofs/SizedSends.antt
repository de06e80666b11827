-- What a script sends is sized, where its lines are sized and keep their limits.
use Rattle.std.proofs.Common.{◌≡◌, ℕ, ◌+◌, ◌/◌, ◌%◌, ◌^◌, ◌<◌, ◌≤◌, nat_le, Bool, true, false, ◌&&◌, List, [], ◌∷◌, ◌++◌, length, Ok, Err, is_ok, if◌then◌else◌, refl, sym, ap, subst, arith}
use Rattle.std.specs.List.{All, AllByRecursion}
use Rattle.std.proofs.lemmas.Bool.{false≢true}
use Rattle.std.proofs.lemmas.Bool.Decides.{nat_tests}
use Rattle.std.proofs.lemmas.List.Elements.{All-weaker}
use Rattle.cp_base.specs.Commands.{word_of, word_text}
use Rattle.cp_base.specs.declared.commands.Command.{Command}
use Rattle.cp_base.specs.declared.commands.Command.TheVariants as command
use Rattle.cp_base.specs.declared.limits.TheConstants.{MAX_BUDGET, MAX_ITEMS}
use Rattle.cp_base.specs.declared.lists.MemRange.{MemRange}
use Rattle.device_model.specs.Sized.{AreSizedRanges, IsSizedCommand}
use Rattle.script_line.specs.declared.fault.TextCause.TheVariants as cause
use Rattle.script_line.specs.declared.kind.LineKind.TheVariants as line
use Rattle.script_line.specs.Field.{Count, Covered, Field, Value, Word}
use Rattle.script_line.specs.Fits.{is_within, line_fits, ranges_fit, values_fit}
use Rattle.script_line.specs.Line.{Line, command_fields, command_values, identifier_field, identifier_value, send_line}
use Rattle.script_line.specs.Reading.{◌>>=◌}
use Rattle.script_line.specs.declared.version.Version.{Version}
use Rattle.script_line.specs.declared.version.Version.TheVariants as version
use Rattle.script_line.specs.Versions.{limits_of}
use Rattle.script_line.specs.Sized.{AreSized, IsSized, IsSizedLine, IsSizedRange}
use Rattle.cp_base.specs.Configuration.{Configuration}
use Rattle.script_cmds.specs.Queues.{queue_depth}
use Rattle.script_cmds.specs.declared.form.Form.{Form}
use Rattle.script_cmds.specs.declared.item.Item.{Item}
use Rattle.script_cmds.specs.declared.item.Item.TheVariants as item
use Rattle.script_cmds.specs.declared.item.HostPart.{HostPart}
use Rattle.script_cmds.specs.declared.item.Phase.{Phase}
use Rattle.script_cmds.specs.declared.progress.Progress.{Progress}
use Rattle.script_cmds.specs.declared.script.Script.{Script}
use Rattle.script_cmds.specs.Fault.{after_lines}
use Rattle.script_cmds.specs.Kept.{KeepsOrderAndLimits}
use Rattle.script_cmds.specs.Progress.{advanced, has_room, is_in_order, is_within_limits, start}
use Rattle.script_cmds.specs.Text.{configuration_lines, header_numbers, item_lines, lines_of, numbers_line, part_lines, phase_lines, show_lines}
use Rattle.script_cmds.proofs.HostLaws.{few_sends}
use Rattle.history_model.specs.Entry.{Entry}
use Rattle.history_model.specs.Legal.{IsLegal}
use Rattle.history_model.specs.Plan.{plan_of}
use Rattle.history_model.specs.Sent.{Sent, Waiting, next_ordinal, sends_of, sends_of_items, sends_of_parts, sends_of_phases}
use Rattle.history_model.specs.Sized.{IsSizedEntry, IsSizedSend}
use Rattle.history_model.specs.Text.{history_text}
use Rattle.history_model.proofs.Every.{every-All, every-append, every-of-All}
use Rattle.history_model.proofs.OneHistory.{one-history}
use Rattle.history_model.proofs.SizedHistories.{history_sized}
use Rattle.script_plan.proofs.Counting.{length-sends_of}
use Rattle.script_plan.proofs.Keeping.{phases-keep}

both_true : (a b : Bool) → (a && b) ≡ true → (a ≡ true) × (b ≡ true)
both_true true b e = (refl, e)
both_true false b e = absurd (false≢true e)

-- ---- each line is sized and keeps the limits of its fields

-- a line that is sized and whose fields keep their limits
record IsFit (l : Line) : Type 0 where
  sized : IsSizedLine l
  fits : line_fits l ≡ true

-- a line that keeps its limits, and what comes after it
record GoesOn (p : Progress) (l : Line) (lines : List Line) : Type 0 where
  fits : line_fits l ≡ true
  rest : is_ok (after_lines (advanced p l.kind l.values) lines) ≡ true

goes_by : (p : Progress) (l : Line) (lines : List Line) (order limits : Bool) → is_within_limits p l ≡ limits
    → is_ok ((if order then if limits then Ok (advanced p l.kind l.values) else Err cause.Limit else Err cause.Order) >>= λ q. after_lines q lines) ≡ true
    → GoesOn p l lines
goes_by p l lines true true e h = record { fits = (both_true (line_fits l) (has_room p l.kind l.values) e).0; rest = h }
goes_by p l lines true false e h = absurd (false≢true h)
goes_by p l lines false limits e h = absurd (false≢true h)

fit_lines : (p : Progress) (lines : List Line) → is_ok (after_lines p lines) ≡ true → AllByRecursion IsSizedLine lines → AllByRecursion IsFit lines
fit_lines p [] h sized = tt
fit_lines p (l ∷ lines) h sized =
    let on = goes_by p l lines (is_in_order p.form.version p.stage l.kind l.values) (is_within_limits p l) refl h in
    (record { sized = sized.0; fits = on.fits }, fit_lines (advanced p l.kind l.values) lines on.rest sized.1)

front : (xs ys : List Line) → AllByRecursion IsFit (xs ++ ys) → AllByRecursion IsFit xs
front [] ys all = tt
front (x ∷ xs) ys all = (all.0, front xs ys all.1)

back : (xs ys : List Line) → AllByRecursion IsFit (xs ++ ys) → AllByRecursion IsFit ys
back [] ys all = all
back (x ∷ xs) ys all = back xs ys all.1

-- ---- commands

not_above : (most n : ℕ) → nat_le n most ≡ true → n ≤ most
not_above most n e = grind (arith, nat_tests, e)

ranges_sized : (ranges : List MemRange) → ranges_fit ranges ≡ true → All IsSizedRange ranges → AreSizedRanges ranges
ranges_sized ranges fits all = record {
  few = not_above MAX_ITEMS (length ranges) (both_true (nat_le (length ranges) MAX_ITEMS) _ fits).0;
  lengths = All-weaker IsSizedRange (λ (range : MemRange). range.len < 2 ^ 64) (λ range h. h.2) ranges all;
}

-- behind the identifier, whose queue is one of 16
behind : (v : Version) (cid : ℕ) (fields : List Field) (values : List Value) → values_fit (identifier_field v [] ∷ fields) (identifier_value v cid ∷ values) ≡ true
    → (values_fit fields values ≡ true) × (cid < 1048576)
behind version.One cid fields values e =
    let one = both_true (is_within 0 65535 cid) (values_fit fields values) e in
    let two = both_true (nat_le 0 cid) (nat_le cid 65535) one.0 in
    let most = not_above 65535 cid two.1 in
    (one.1, omega (arith, most))
behind version.Two cid fields values e =
    let queue : ℕ = cid / 65536 + 1 in
    let one = both_true (is_within 1 16 queue && nat_le (cid % 65536) 65535) (values_fit fields values) e in
    let two = both_true (is_within 1 16 queue) (nat_le (cid % 65536) 65535) one.0 in
    let three = both_true (nat_le 1 queue) (nat_le queue 16) two.0 in
    let most = not_above 16 queue three.1 in
    (one.1, omega (arith, most))

command_sized : (v : Version) (cid : ℕ) (cmd : Command) → IsFit (send_line v cid cmd) → IsSizedCommand cmd
command_sized v cid (command.NvmRead ns lba count) fit = tt
command_sized v cid (command.NvmWrite ns lba bytes) fit = fit.sized 3 (Count 0) (omega arith)
command_sized v cid (command.NvmZeroes ns lba count) fit = tt
command_sized v cid (command.NvmCopy ns lba from) fit = tt
command_sized v cid (command.MemRead ns at len) fit = tt
command_sized v cid (command.MemWrite ns at bytes) fit = fit.sized 3 (Count 0) (omega arith)
command_sized v cid (command.MemFill ns at len value) fit =
    let one = behind v cid _ _ fit.fits in
    let two = both_true (is_within 0 4294967295 ns) _ one.0 in
    let three = both_true (is_within 0 18446744073709551615 at) _ two.1 in
    let four = both_true (is_within 0 18446744073709551615 len) _ three.1 in
    let five = both_true (is_within 0 255 value) true four.1 in
    let six = both_true (nat_le 0 value) (nat_le value 255) five.0 in
    let most = not_above 255 value six.1 in
    omega (arith, most)
command_sized v cid (command.MemCopy ns at from) fit = tt
command_sized v cid (command.SetCreate ranges) fit =
    let one = behind v cid _ _ fit.fits in
    let two = both_true (ranges_fit ranges) true one.0 in
    let said : IsSized (Covered ranges) = fit.sized 1 (Count 0) (omega arith) in
    ranges_sized ranges two.0 said.1
command_sized v cid (command.SetDelete set) fit = tt
command_sized v cid (command.Load slot size at bytes) fit = fit.sized 4 (Count 0) (omega arith)
command_sized v cid (command.Unload slot) fit = tt
command_sized v cid (command.Activate slot) fit = tt
command_sized v cid (command.Deactivate slot) fit = tt
command_sized v cid (command.Execute slot set p1 p2 budget) fit = (fit.sized 3 (Count 0) (omega arith), fit.sized 4 (Count 0) (omega arith))
command_sized v cid (command.Abort other) fit = tt

-- the identifier of a send line has 64 bits
cid_sized : (v : Version) (cid : ℕ) (cmd : Command) → IsFit (send_line v cid cmd) → cid < 2 ^ 64
cid_sized v cid cmd fit =
    let small = (behind v cid (Word (word_text (word_of cmd)) ∷ command_fields v (word_of cmd)) (command_values v cmd) fit.fits).1 in
    omega (arith, small)

-- ---- sends

items_sized : (f : Form) (host phase ordinal : ℕ) (waiting : List Waiting) (taken : List ℕ) (items : List Item) → host < 2 ^ 64 → AllByRecursion IsFit (item_lines f items)
    → AllByRecursion IsSizedSend (sends_of_items host phase ordinal waiting taken items)
items_sized f host phase ordinal waiting taken [] few all = tt
items_sized f host phase ordinal waiting taken (item.Send cid sent ∷ items) few all = (
  record { host = few; cid = cid_sized f.version cid sent.value all.0; command = command_sized f.version cid sent.value all.0 },
  items_sized f host phase (ordinal + 1) _ taken items few all.1,
)
items_sized f host phase ordinal waiting taken (item.Take cid ∷ items) few all = items_sized f host phase ordinal _ _ items few all.1

host_small : (host : ℕ) → IsFit (numbers_line line.Host (host ∷ [])) → host < 2 ^ 64
host_small host fit = fit.sized 0 (Count 0) (omega arith)

parts_sized : (f : Form) (phase : ℕ) (earlier : List Sent) (parts : List HostPart) → AllByRecursion IsSizedSend earlier → AllByRecursion IsFit (part_lines f parts)
    → AllByRecursion IsSizedSend (sends_of_parts phase earlier parts)
parts_sized f phase earlier [] before all = before
parts_sized f phase earlier (part ∷ parts) before all =
    let new : List Sent = sends_of_items part.host phase (next_ordinal part.host earlier) [] [] part.items in
    let here = items_sized f part.host phase (next_ordinal part.host earlier) [] [] part.items (host_small part.host all.0) (front (item_lines f part.items) (part_lines f parts) all.1) in
    parts_sized f phase (earlier ++ new) parts (every-append IsSizedSend earlier new before here) (back (item_lines f part.items) (part_lines f parts) all.1)

phases_sized : (f : Form) (phase : ℕ) (earlier : List Sent) (phases : List Phase) → AllByRecursion IsSizedSend earlier → AllByRecursion IsFit (phase_lines f phases)
    → AllByRecursion IsSizedSend (sends_of_phases phase earlier phases)
phases_sized f phase earlier [] before all = before
phases_sized f phase earlier (p ∷ phases) before all =
    phases_sized f (phase + 1) (sends_of_parts phase earlier p.hosts) phases
    (parts_sized f phase earlier p.hosts before (front (part_lines f p.hosts) (phase_lines f phases) all.1)) (back (part_lines f p.hosts) (phase_lines f phases) all.1)

-- ---- scripts

all_fit : (script : Script) → AreSized (lines_of script) → KeepsOrderAndLimits script → AllByRecursion IsFit (lines_of script)
all_fit script sized kept = fit_lines start (lines_of script) kept (every-of-All IsSizedLine (lines_of script) sized)

-- what a script sends
pub sends_sized : (script : Script) → AreSized (lines_of script) → KeepsOrderAndLimits script → AllByRecursion IsSizedSend (sends_of script.phases)
sends_sized script sized kept =
    let all = all_fit script sized kept in
    let most = front (configuration_lines script.form script.config ++ phase_lines script.form script.phases) (show_lines script.shows) all in
    phases_sized script.form 1 [] script.phases tt (back (configuration_lines script.form script.config) (phase_lines script.form script.phases) most)

-- the budget of a header
budget_by : (v : Version) (queues : ℕ) (c : Configuration) → line_fits (numbers_line (line.Header v) (header_numbers v queues c)) ≡ true → c.budget ≤ MAX_BUDGET
budget_by version.One queues c fits =
    let one = both_true (is_within 0 18446744073709551615 c.block) _ fits in
    let two = both_true (is_within 1 256 c.depth) _ one.1 in
    let three = both_true (is_within 1 10000000 c.budget) true two.1 in
    let four = both_true (nat_le 1 c.budget) (nat_le c.budget 10000000) three.0 in
    let most = not_above 10000000 c.budget four.1 in
    omega (arith, most)
budget_by version.Two queues c fits =
    let one = both_true (is_within 0 18446744073709551615 c.block) _ fits in
    let two = both_true (is_within 1 16 queues) _ one.1 in
    let three = both_true (is_within 1 1024 (c.depth / queues)) _ two.1 in
    let four = both_true (is_within 1 100000000 c.budget) true three.1 in
    let five = both_true (nat_le 1 c.budget) (nat_le c.budget 100000000) four.0 in
    let most = not_above 100000000 c.budget five.1 in
    omega (arith, most)

-- the budget of a script's device
pub budget_few : (script : Script) → AreSized (lines_of script) → KeepsOrderAndLimits script → script.config.budget ≤ MAX_BUDGET
budget_few script sized kept = budget_by script.form.version script.form.queues script.config (all_fit script sized kept).0.fits

-- how many commands a version allows
pub few_of : (v : Version) → (limits_of v).sends ≤ 65536
few_of version.One = omega arith
few_of version.Two = omega arith

-- the histories of a script
pub script_sized : (script : Script) (plan : List Phase) (history : List Entry) → AreSized (lines_of script) → KeepsOrderAndLimits script → plan_of script ≡ Ok plan
    → IsLegal script.config plan history → All IsSizedEntry history
script_sized script plan history sized kept planned legal =
    let same : sends_of plan ≡ sends_of script.phases = (phases-keep (queue_depth script.form script.config.depth) (length (configuration_lines script.form script.config) + 1) script.phases plan planned).sends 1 [] in
    let sends = every-All IsSizedSend (sends_of script.phases) (sends_sized script sized kept) in
    let few = few_sends script kept in
    let count : length (sends_of plan) ≡ length (sends_of script.phases) = ap length same in
    history_sized script.config plan history (budget_few script sized kept) (omega (arith, count, few, few_of script.form.version, length-sends_of script.phases))
    (subst (λ (xs : List Sent). All IsSizedSend xs) (sym same) sends) legal

-- the text tells the history
pub script_told : (script : Script) (plan : List Phase) (one other : List Entry) → AreSized (lines_of script) → KeepsOrderAndLimits script → plan_of script ≡ Ok plan
    → IsLegal script.config plan one → IsLegal script.config plan other → history_text script.config script.shows one ≡ history_text script.config script.shows other → one ≡ other
script_told script plan one other sized kept planned a b same =
    one-history script.config plan script.shows one other a b (script_sized script plan one sized kept planned a) (script_sized script plan other sized kept planned b) same
