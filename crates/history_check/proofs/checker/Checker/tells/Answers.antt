use Rattle.std.proofs.Common.{◌≡◌, Bool, Result, Ok, Err}
use Rattle.std.specs.Prelude.{IfOk}
use Rattle.history_check.specs.Table.{sent_in}
use Rattle.history_check.proofs.checker.Checker.tells.Goals as goal

if-ok : {A E : Type 0} (P Q : A → Type 0) (r : Result A E) → ((x : A) → P x → Q x) → IfOk r P → IfOk r Q
if-ok P Q (Ok x) more is = more x is
if-ok P Q (Err e) more is = tt

pub returns-clause-no : goal.returns-clause-no
returns-clause-no c =
    if-ok _ _ c.is_entry.result (λ told none off telling. none off (telling (sent_in c.args.self.now.awaiting.table.takes.items c.get-sent.result.now) c.get-sent.ensures.sent)) c.is_entry.ensures.no
