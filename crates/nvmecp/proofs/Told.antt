-- The lines of completions are the text of the history that tells them.
use Rattle.std.proofs.Common.{◌≡◌, ℕ, ◌+◌, ◌≤◌, List, [], ◌∷◌, ◌++◌, length, sym, refl, ap, subst, ◌∙◌}
use Rattle.std.specs.List.{AllByRecursion, concat}
use Rattle.cp_base.specs.Answer.{Answer}
use Rattle.cp_base.specs.Configuration.{Configuration}
use Rattle.cp_base.specs.Contents.{Contents, bytes_in}
use Rattle.cp_base.specs.Commands.{word_of}
use Rattle.cp_base.specs.declared.commands.Command.{Command}
use Rattle.cp_base.specs.declared.limits.TheConstants.{MAX_TRANSFER}
use Rattle.device_model.specs.State.{State}
use Rattle.script_cmds.specs.declared.item.Phase.{Phase}
use Rattle.script_cmds.specs.declared.item.Show.{Show}
use Rattle.history_model.specs.Entry.{Entry}
use Rattle.history_model.specs.Legal.{last_state}
use Rattle.history_model.specs.Text.{entries_text, entry_text, history_text, line_of_entry, shown_text, shows_text}
use Rattle.trail_model.specs.World.{Completion, World}
use Rattle.device_core.specs.Gives.{ended_by}
use Rattle.schedule_model.specs.Told.{AreTold, EntryTells, TellsPlan}
use Rattle.nvmecp.specs.Lines.{ended_line, ended_lines, shown_lines}
use Rattle.nvmecp.specs.Shown.{AreShort}

-- the line of a completion is that of its entry
line_is : (k : ℕ) (done : Completion) (entry : Entry) → EntryTells done entry → ended_line k (ended_by done) ≡ entry_text k entry
line_is k done entry t =
    let line : ℕ → ℕ → ℕ → Command → Answer → List ℕ =
    λ host ordinal cid command answer. line_of_entry k host ordinal cid (word_of command) answer.status answer.result answer.bytes in
    let r = done.request in
    let s = entry.sent in
    ap (λ (host : ℕ). line host r.ordinal r.cid r.command done.answer) (sym t.host)
    ∙ ap (λ (ordinal : ℕ). line s.host ordinal r.cid r.command done.answer) (sym t.ordinal)
    ∙ ap (λ (cid : ℕ). line s.host s.ordinal cid r.command done.answer) (sym t.cid)
    ∙ ap (λ (command : Command). line s.host s.ordinal s.cid command done.answer) (sym t.command)
    ∙ ap (λ (answer : Answer). line s.host s.ordinal s.cid s.command answer) (sym t.answer)

pub lines_are : (k : ℕ) (history : List Completion) (entries : List Entry) → AreTold history entries → concat (ended_lines k history) ≡ entries_text k entries
lines_are k [] [] told = refl
lines_are k [] (entry ∷ entries) told = absurd told
lines_are k (done ∷ history) [] told = absurd told
lines_are k (done ∷ history) (entry ∷ entries) told =
    ap (λ (line : List ℕ). line ++ concat (ended_lines (k + 1) history)) (line_is k done entry told.0)
    ∙ ap (λ (rest : List ℕ). entry_text k entry ++ rest) (lines_are (k + 1) history entries told.1)

pub shows_are : (contents : Contents) (shows : List Show) → concat (shown_lines contents shows) ≡ shows_text contents shows
shows_are contents [] = refl
shows_are contents (show ∷ shows) = ap (λ (rest : List ℕ). shown_text show (bytes_in contents show.range) ++ rest) (shows_are contents shows)

-- the text of a history that a world tells, by the world
pub printed_of : (c : Configuration) (shows : List Show) (plan : List Phase) (w : World) (t : TellsPlan c plan w)
    → history_text c shows t.history ≡ concat (ended_lines 1 w.history) ++ concat (shown_lines w.state.contents shows)
printed_of c shows plan w t =
    ap (λ (text : List ℕ). text ++ shows_text (last_state c t.history).contents shows) (sym (lines_are 1 w.history t.history t.told))
    ∙ ap (λ (s : State). concat (ended_lines 1 w.history) ++ shows_text s.contents shows) t.last
    ∙ ap (λ (text : List ℕ). concat (ended_lines 1 w.history) ++ text) (sym (shows_are w.state.contents shows))

-- what is short in the history is short where it is told
pub short_told : (history : List Completion) (entries : List Entry) → AreTold history entries
    → AllByRecursion (λ (entry : Entry). length entry.answer.bytes ≤ MAX_TRANSFER) entries → AreShort history
short_told [] [] told all = tt
short_told [] (entry ∷ entries) told all = absurd told
short_told (done ∷ history) [] told all = absurd told
short_told (done ∷ history) (entry ∷ entries) told all =
    (subst (λ (answer : Answer). length answer.bytes ≤ MAX_TRANSFER) told.0.answer all.0, short_told history entries told.1 all.1)
