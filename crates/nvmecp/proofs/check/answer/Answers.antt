use Rattle.std.proofs.Common.{◌≡◌, ℕ, ◌+◌, ◌-◌, List, length, take, drop, refl, subst}
use Rattle.nvmecp.specs.Check.{HasNoEmptyLine, IsIllegalFor, IsLegalFor, IsParted, NoHistory, TellsNone, check_task, no_history_line}
use Rattle.nvmecp.proofs.Endings.{refused_on}
use Rattle.nvmecp.proofs.Parted.{ends_here, holds_here, parted_at, rejected_here}
use Rattle.nvmecp.proofs.check.answer.Goals as goal

pub returns-in_default-clause-ends : goal.returns-in_default-clause-ends
returns-in_default-clause-ends g c =
    let input = c.args.input.now.items in
    refused_on (check_task.Answers input) (TellsNone input) (check_task.Denies input) no_history_line g.K.Sink.held g.K.Sink.faults c.args.sink.now c.refuse.new.sink c.refuse.result
    (NoHistory (subst (λ (xs : List ℕ). HasNoEmptyLine xs) c.as_slice-bytes.ensures (c.in_default.ensures.none refl)) refl) c.refuse.ensures.ends

pub returns-in-Ok-clause-ends : goal.returns-in-Ok-clause-ends
returns-in-Ok-clause-ends g c =
    let bytes = c.as_slice-bytes.result.now in
    let history : List ℕ = take (length bytes - (c.in-Some.place + 1)) (drop (c.in-Some.place + 1) bytes) in
    let parted : IsParted c.args.input.now.items c.in-Ok.text.items history = parted_at c.args.input.now.items bytes c.in-Ok.text.items c.in-Some.place c.as_slice-bytes.ensures c.in-Some.ensures.first c.in-Ok.ensures.items in
    ends_here c.args.input.now.items c.in-Ok.text.items history parted g.K.Sink.held g.K.Sink.faults c.args.sink.now c.check_script.new.sink c.check_script.result c.check_script.ensures.ends

pub returns-in-Ok-clause-accepted : goal.returns-in-Ok-clause-accepted
returns-in-Ok-clause-accepted g c legal =
    let bytes = c.as_slice-bytes.result.now in
    let history : List ℕ = take (length bytes - (c.in-Some.place + 1)) (drop (c.in-Some.place + 1) bytes) in
    let parted : IsParted c.args.input.now.items c.in-Ok.text.items history = parted_at c.args.input.now.items bytes c.in-Ok.text.items c.in-Some.place c.as_slice-bytes.ensures c.in-Some.ensures.first c.in-Ok.ensures.items in
    c.check_script.ensures.accepted (holds_here c.args.input.now.items c.in-Ok.text.items history parted IsLegalFor legal)

pub returns-in-Ok-clause-rejected : goal.returns-in-Ok-clause-rejected
returns-in-Ok-clause-rejected g c none =
    let bytes = c.as_slice-bytes.result.now in
    let history : List ℕ = take (length bytes - (c.in-Some.place + 1)) (drop (c.in-Some.place + 1) bytes) in
    let parted : IsParted c.args.input.now.items c.in-Ok.text.items history = parted_at c.args.input.now.items bytes c.in-Ok.text.items c.in-Some.place c.as_slice-bytes.ensures c.in-Some.ensures.first c.in-Ok.ensures.items in
    c.check_script.ensures.rejected (rejected_here c.args.input.now.items c.in-Ok.text.items history parted none)

pub returns-in-Ok-clause-belied : goal.returns-in-Ok-clause-belied
returns-in-Ok-clause-belied g c illegal =
    let bytes = c.as_slice-bytes.result.now in
    let history : List ℕ = take (length bytes - (c.in-Some.place + 1)) (drop (c.in-Some.place + 1) bytes) in
    let parted : IsParted c.args.input.now.items c.in-Ok.text.items history = parted_at c.args.input.now.items bytes c.in-Ok.text.items c.in-Some.place c.as_slice-bytes.ensures c.in-Some.ensures.first c.in-Ok.ensures.items in
    c.check_script.ensures.belied (holds_here c.args.input.now.items c.in-Ok.text.items history parted IsIllegalFor illegal)
