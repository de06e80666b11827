use Rattle.std.proofs.Common.{rules, ◌≡◌, ℕ, ◌+◌, ◌<◌, ◌^◌, List, [], ◌++◌, length, refl, ap, subst, ◌∙◌, arith}
use Rattle.history_model.specs.Sent.{sends_of}
use Rattle.history_model.specs.Text.{shows_text}
use Rattle.seq_device.specs.Standing.{Standing}
use Rattle.history_check.proofs.ReadLines.{is-legal, rest-breaks, shows-break}
use Rattle.history_check.proofs.Verdicts.{entries-break, entries-left, no-length, shows-left, shows-stop}
use Rattle.history_check.proofs.checking.check.Goals as goal

pub returns-in-Breaks : goal.returns-in-Breaks
returns-in-Breaks c =
    entries-break c.args.config.now c.in_ok-checker.checker.device.config c.args.plan.now.phases c.args.shows.now c.args.history.now c.read_entries.new.checker c.in_ok-behind.field-0 c.in-Breaks.line
    (ap (λ (d : Standing). d.config) c.in_ok-checker.ensures.device) c.in-Breaks.is c.in_ok-behind.ensures

pub returns-in-Breaks-2 : goal.returns-in-Breaks-2
returns-in-Breaks-2 c =
    let plan = c.args.plan.now.phases in
    let shows = c.args.shows.now in
    let checker = c.read_entries.new.checker in
    let commands : c.args.plan.now.commands ≡ length (sends_of plan) = c.requires.commands in
    let most = c.requires.few in
    let few : length (sends_of plan) + 1 < 2 ^ 64 = omega (arith, commands, most) in
    shows-break c.args.config.now plan shows c.args.history.now c.in-Left.behind.now checker
    (entries-left c.args.config.now c.in_ok-checker.checker.device.config plan c.args.history.now checker c.in_ok-behind.field-0 c.in-Left.behind (ap (λ (d : Standing). d.config) c.in_ok-checker.ensures.device)
    c.in-Left.is c.in_ok-behind.ensures)
    c.requires.sized few c.requires.shown (c.args.plan.now.commands + 1) c.in-Breaks-2.line (omega (arith, commands))
    (shows-stop checker.device.state.contents shows (c.args.plan.now.commands + 1) c.in-Left.behind.now c.in_ok-rest.field-0 c.in-Breaks-2.line c.in-Breaks-2.is c.in_ok-rest.ensures)

pub returns-then-is_empty : goal.returns-then-is_empty
returns-then-is_empty c =
    let plan = c.args.plan.now.phases in
    let shows = c.args.shows.now in
    let checker = c.read_entries.new.checker in
    let commands : c.args.plan.now.commands ≡ length (sends_of plan) = c.requires.commands in
    let most = c.requires.few in
    let few : length (sends_of plan) + 1 < 2 ^ 64 = omega (arith, commands, most) in
    let count : length c.in-Left-2.rest.now ≡ 0 = search rules in
    let none : c.in-Left-2.rest.now ≡ [] = no-length c.in-Left-2.rest.now count in
    is-legal c.args.config.now plan shows c.args.history.now c.in-Left.behind.now checker
    (entries-left c.args.config.now c.in_ok-checker.checker.device.config plan c.args.history.now checker c.in_ok-behind.field-0 c.in-Left.behind (ap (λ (d : Standing). d.config) c.in_ok-checker.ensures.device)
    c.in-Left.is c.in_ok-behind.ensures)
    c.requires.sized few c.requires.shown
    (subst (λ (rest : List ℕ). c.in-Left.behind.now ≡ shows_text checker.device.state.contents shows ++ rest) none
    (shows-left checker.device.state.contents shows (c.args.plan.now.commands + 1) c.in-Left.behind.now c.in_ok-rest.field-0 c.in-Left-2.rest c.in-Left-2.is c.in_ok-rest.ensures))

pub returns : goal.returns
returns c =
    let plan = c.args.plan.now.phases in
    let shows = c.args.shows.now in
    let checker = c.read_entries.new.checker in
    let commands : c.args.plan.now.commands ≡ length (sends_of plan) = c.requires.commands in
    let most = c.requires.few in
    let few : length (sends_of plan) + 1 < 2 ^ 64 = omega (arith, commands, most) in
    let some : 0 < length c.in-Left-2.rest.now = search rules in
    rest-breaks c.args.config.now plan shows c.args.history.now c.in-Left.behind.now checker
    (entries-left c.args.config.now c.in_ok-checker.checker.device.config plan c.args.history.now checker c.in_ok-behind.field-0 c.in-Left.behind (ap (λ (d : Standing). d.config) c.in_ok-checker.ensures.device)
    c.in-Left.is c.in_ok-behind.ensures)
    c.requires.sized few c.requires.shown c.in-Left-2.rest.now (c.args.plan.now.commands + 1 + length shows)
    (shows-left checker.device.state.contents shows (c.args.plan.now.commands + 1) c.in-Left.behind.now c.in_ok-rest.field-0 c.in-Left-2.rest c.in-Left-2.is c.in_ok-rest.ensures)
    some (omega (arith, commands))
