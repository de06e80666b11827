use Rattle.std.proofs.Common.{rules, ◌≡◌, ℕ, ◌+◌, ◌<◌, Bool, true, ◌∷◌, ◌++◌, length, refl, sym, ap, subst, arith}
use Rattle.cp_text.specs.Parts.{lacks}
use Rattle.history_model.specs.Sent.{sends_of}
use Rattle.history_check.specs.Standing.{Judges}
use Rattle.history_check.proofs.ReadLines.{line-accepted, line-missing, line-refused}
use Rattle.history_check.proofs.checking.read_entries.Goals as goal

pub returns-in_default : goal.returns-in_default
returns-in_default c shows =
    let plan = c.args.plan.now.phases in
    let short : c.loop-count.count < length (sends_of plan) = let test = c.loop-count-test.true in let commands = c.requires.commands in omega (arith, test, commands) in
    line-missing c.args.checker.now.device.config plan c.args.history.now c.loop-count.rest.now c.loop-count.count c.loop-count.checker c.loop-count.invariant c.requires.sized (c.loop-count.count + 1) short refl
    c.in_default.ensures.whole shows

pub returns-then-not-branch : goal.returns-then-not-branch
returns-then-not-branch c shows =
    let config = c.args.checker.now.device.config in
    let plan = c.args.plan.now.phases in
    let read = c.loop-count.invariant in
    let short : c.loop-count.count < length (sends_of plan) = let test = c.loop-count-test.true in let commands = c.requires.commands in omega (arith, test, commands) in
    let cut : c.loop-count.rest.now ≡ c.in-Some.text.now ++ 10 ∷ c.in-Some.behind.now = search rules in
    let plain : lacks 10 c.in-Some.text.now ≡ true = search rules in
    line-refused config plan c.args.history.now c.loop-count.rest.now c.loop-count.count c.loop-count.checker read c.requires.sized c.in-Some.text.now c.in-Some.behind.now (c.loop-count.count + 1) short refl cut plain
    (subst (λ (accepted : Bool). Judges config plan read.entries c.in-Some.text.now c.accepts.new.self accepted) c.if-not-branch.true
    (c.in_ok-accepts.ensures config plan read.entries c.requires.sized read.stands (ap (λ (n : ℕ). n + 1) (sym read.number)))) shows

pub loop-count-preserved : goal.loop-count-preserved
loop-count-preserved c =
    let config = c.args.checker.now.device.config in
    let plan = c.args.plan.now.phases in
    let read = c.loop-count.invariant in
    let cut : c.loop-count.rest.now ≡ c.in-Some.text.now ++ 10 ∷ c.in-Some.behind.now = search rules in
    line-accepted config plan c.args.history.now c.loop-count.rest.now c.loop-count.count c.loop-count.checker read c.requires.sized c.in-Some.text.now c.in-Some.behind.now c.accepts.new.self cut
    (subst (λ (accepted : Bool). Judges config plan read.entries c.in-Some.text.now c.accepts.new.self accepted) c.if-not-branch.false
    (c.in_ok-accepts.ensures config plan read.entries c.requires.sized read.stands (ap (λ (n : ℕ). n + 1) (sym read.number))))
