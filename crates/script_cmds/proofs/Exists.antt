-- A text without a faulty line is the text of a script.
use Rattle.std.proofs.Common.{◌≡◌, ℕ, ◌+◌, Bool, true, false, cond, List, [], ◌∷◌, ◌++◌, Option, Some, None, Result, Ok, Err, Global, refl, sym, ap, subst, ◌∙◌, append_assoc, arith}
use Rattle.std.specs.Prelude.{is_ok}
use Rattle.std.specs.declared.sync.Arc.{Arc}
use Rattle.std.proofs.lemmas.List.{append-nil}
use Rattle.std.proofs.lemmas.List.Elements.{All-nil}
use denote.RawPtr.{null_ptr}
use Rattle.cp_base.specs.Commands.{word_of, word_text}
use Rattle.cp_base.specs.declared.commands.Command.{Command}
use Rattle.cp_base.specs.declared.commands.Command.TheVariants as command
use Rattle.cp_base.specs.declared.commands.CommandWord.{CommandWord}
use Rattle.cp_base.specs.declared.commands.CommandWord.TheVariants as word
use Rattle.cp_text.specs.Parts.{joined_by}
use Rattle.cp_text.proofs.Cuts.{some_part}
use Rattle.cp_text.proofs.Joined.{joined_again}
use Rattle.script_line.specs.declared.fault.TextCause.{TextCause}
use Rattle.script_line.specs.declared.kind.LineKind.{LineKind}
use Rattle.script_line.specs.declared.kind.LineKind.TheVariants as line
use Rattle.script_line.specs.declared.kind.SpaceKind.{SpaceKind}
use Rattle.script_line.specs.declared.kind.SpaceKind.TheVariants as space_kind
use Rattle.script_line.specs.Field.{IsShaped, Value, Count, Data, Copied, Covered, Word}
use Rattle.script_line.specs.Fits.{values_fit}
use Rattle.script_line.specs.Line.{Line, command_fields, command_values, fields_of, send_line, identifier_value}
use Rattle.script_line.specs.Reading.{line_of}
use Rattle.script_line.specs.Sized.{AreSized, IsSizedLine}
use Rattle.script_line.specs.Values.{identifier_at, identifier_in, number_at}
use Rattle.script_line.specs.Versions.{IsOfVersion}
use Rattle.script_line.specs.declared.version.Version.{Version}
use Rattle.script_line.proofs.Shapes.{abort_names, identifier_said}
use Rattle.script_line.proofs.Said.{bind_ok, line_says}
use Rattle.script_cmds.specs.declared.form.Form.{Form}
use Rattle.script_cmds.specs.declared.item.Item.{Item}
use Rattle.script_cmds.specs.declared.item.Item.TheVariants as item
use Rattle.script_cmds.specs.declared.item.HostPart.{HostPart}
use Rattle.script_cmds.specs.declared.item.Phase as declared
use Rattle.script_cmds.specs.declared.item.Show.{Show}
use Rattle.script_cmds.specs.declared.progress.Progress.{Progress}
use Rattle.script_cmds.specs.declared.progress.Stage.{Stage}
use Rattle.script_cmds.specs.declared.progress.Stage.TheVariants.{AtStart, AfterHeader, AfterNamespace, InPhase, InPart, AfterShow}
use Rattle.script_cmds.specs.declared.script.Script.{Script}
use Rattle.script_cmds.specs.declared.fault.ScriptFault.{ScriptFault}
use Rattle.script_cmds.specs.Fault.{after_lines, fault_at, fault_from, fault_or, first_fault, judged, read_line}
use Rattle.script_cmds.specs.Kept.{IsScriptText}
use Rattle.script_cmds.specs.Progress.{is_start, space_of, start}
use Rattle.script_cmds.specs.Queues.{AreExact}
use Rattle.script_cmds.specs.Text.{configuration_lines, item_line, item_lines, lines_of, lines_text, numbers_line, part_lines, phase_lines, show_line, show_lines}
use Rattle.script_cmds.specs.private.Drafts.{Drafted, IsDraft, draft_lines, open_lines, open_part_lines}
use Rattle.script_cmds.specs.private.Stored.{Stored}
use Rattle.script_cmds.proofs.Exact.{draft_exact}
use Rattle.script_cmds.proofs.Keeping.{header_keeps}
use Rattle.script_cmds.proofs.OneMore.{item_one_more, part_one_more, phase_one_more, show_one_more, text_one_more}
use Rattle.script_cmds.proofs.Meanings.{take_says}
use Rattle.script_cmds.proofs.Puts.{adds, finished, fits_of, passed}
use Rattle.script_cmds.proofs.WholeTexts.{fault_two}

-- ---- the command of a send line

record Sends (v : Version) (w : CommandWord) (vs : List Value) : Type 0 where
  sent : Command
  line : send_line v (identifier_at vs 0) sent ≡ record { kind = line.Send v w; values = vs }

-- the command of what a send line says behind the identifier
record Behind (v : Version) (w : CommandWord) (vs : List Value) : Type 0 where
  sent : Command
  word : word_of sent ≡ w
  values : command_values v sent ≡ vs

command_behind : (v : Version) (w : CommandWord) (vs : List Value) → IsShaped (command_fields v w) vs → values_fit (command_fields v w) vs ≡ true → Behind v w vs
command_behind v word.NvmRead (Count b ∷ Count c ∷ Count d ∷ []) h e = record { sent = command.NvmRead b c d; word = refl; values = refl }
command_behind v word.NvmWrite (Count b ∷ Count c ∷ Data d ∷ []) h e = record { sent = command.NvmWrite b c (record { items = d; spare = 0 }); word = refl; values = refl }
command_behind v word.NvmZeroes (Count b ∷ Count c ∷ Count d ∷ []) h e = record { sent = command.NvmZeroes b c d; word = refl; values = refl }
command_behind v word.NvmCopy (Count b ∷ Count c ∷ Copied d ∷ []) h e = record { sent = command.NvmCopy b c d; word = refl; values = refl }
command_behind v word.MemRead (Count b ∷ Count c ∷ Count d ∷ []) h e = record { sent = command.MemRead b c d; word = refl; values = refl }
command_behind v word.MemWrite (Count b ∷ Count c ∷ Data d ∷ []) h e = record { sent = command.MemWrite b c (record { items = d; spare = 0 }); word = refl; values = refl }
command_behind v word.MemFill (Count b ∷ Count c ∷ Count d ∷ Count x ∷ []) h e = record { sent = command.MemFill b c d x; word = refl; values = refl }
command_behind v word.MemCopy (Count b ∷ Count c ∷ Copied d ∷ []) h e = record { sent = command.MemCopy b c d; word = refl; values = refl }
command_behind v word.SetCreate (Covered b ∷ []) h e = record { sent = command.SetCreate b; word = refl; values = refl }
command_behind v word.SetDelete (Count b ∷ []) h e = record { sent = command.SetDelete b; word = refl; values = refl }
command_behind v word.Load (Count b ∷ Count c ∷ Count d ∷ Data x ∷ []) h e = record { sent = command.Load b c d (record { items = x; spare = 0 }); word = refl; values = refl }
command_behind v word.Unload (Count b ∷ []) h e = record { sent = command.Unload b; word = refl; values = refl }
command_behind v word.Activate (Count b ∷ []) h e = record { sent = command.Activate b; word = refl; values = refl }
command_behind v word.Deactivate (Count b ∷ []) h e = record { sent = command.Deactivate b; word = refl; values = refl }
command_behind v word.Execute (Count b ∷ Count c ∷ Count d ∷ Count x ∷ Count y ∷ []) h e = record { sent = command.Execute b c d x y; word = refl; values = refl }
command_behind v word.Abort vs h e = record { sent = command.Abort (identifier_at vs 0); word = refl; values = sym (abort_names v vs h e).all }
command_behind v w _ h e = absurd h

command_of : (v : Version) (w : CommandWord) (vs : List Value) → IsShaped (fields_of (line.Send v w)) vs → values_fit (fields_of (line.Send v w)) vs ≡ true → Sends v w vs
command_of v w vs h e =
    let first = identifier_said v [] (Word (word_text w) ∷ command_fields v w) vs h e in
    let behind = command_behind v w first.rest first.shape first.fits in
    let id : identifier_at vs 0 ≡ identifier_in (Some first.first) = ap (λ (ws : List Value). identifier_at ws 0) first.all in
    let with : List Value → Line = λ ws. record { kind = line.Send v w; values = ws } in
    let values : identifier_value v (identifier_at vs 0) ∷ command_values v behind.sent ≡ vs =
    ap (λ (n : ℕ). identifier_value v n ∷ command_values v behind.sent) id ∙ ap (λ (ws : List Value). identifier_value v (identifier_in (Some first.first)) ∷ ws) behind.values
    ∙ ap (λ (x : Value). x ∷ first.rest) (sym first.is) ∙ sym first.all in
    let word : send_line v (identifier_at vs 0) behind.sent ≡ with (identifier_value v (identifier_at vs 0) ∷ command_values v behind.sent) =
    ap (λ (x : CommandWord). record { kind = line.Send v x; values = identifier_value v (identifier_at vs 0) ∷ command_values v behind.sent }) behind.word in
    record {
      sent = behind.sent;
      line = word ∙ ap with values;
    }

-- ---- a draft that keeps a line

record Keeps (kind : LineKind) (vs : List Value) (d : Drafted) : Type 0 where
  kept : Drafted
  stored : Stored kind vs d kept

-- the part that is open, ended
abbrev ended_parts : Stage → List HostPart → List Item → List HostPart
ended_parts (InPart host) hosts items = hosts ++ record { host = host; items = items } ∷ []
ended_parts _ hosts items = hosts

parts_ended : (f : Form) (s : Stage) (hosts : List HostPart) (items : List Item) → part_lines f (ended_parts s hosts items) ≡ part_lines f hosts ++ open_part_lines f s items
parts_ended f (InPart host) hosts items = part_one_more f hosts (record { host = host; items = items })
parts_ended f AtStart hosts items = sym (append-nil (part_lines f hosts))
parts_ended f AfterHeader hosts items = sym (append-nil (part_lines f hosts))
parts_ended f (AfterNamespace kind n) hosts items = sym (append-nil (part_lines f hosts))
parts_ended f InPhase hosts items = sym (append-nil (part_lines f hosts))
parts_ended f AfterShow hosts items = sym (append-nil (part_lines f hosts))

abbrev phase_line : Line
phase_line = numbers_line line.Phase []

-- the phase that is open, ended
abbrev ended_phases : Stage → List declared.Phase → List HostPart → List Item → List declared.Phase
ended_phases (InPart host) phases hosts items = phases ++ record { hosts = ended_parts (InPart host) hosts items } ∷ []
ended_phases InPhase phases hosts items = phases ++ record { hosts = ended_parts InPhase hosts items } ∷ []
ended_phases _ phases hosts items = phases

phases_ended : (f : Form) (s : Stage) (phases : List declared.Phase) (hosts : List HostPart) (items : List Item) → phase_lines f (ended_phases s phases hosts items) ≡ phase_lines f phases ++ open_lines f s hosts items
phases_ended f (InPart host) phases hosts items =
    phase_one_more f phases (record { hosts = ended_parts (InPart host) hosts items }) ∙ ap (λ (ls : List Line). phase_lines f phases ++ phase_line ∷ ls) (parts_ended f (InPart host) hosts items)
phases_ended f InPhase phases hosts items =
    phase_one_more f phases (record { hosts = ended_parts InPhase hosts items }) ∙ ap (λ (ls : List Line). phase_lines f phases ++ phase_line ∷ ls) (parts_ended f InPhase hosts items)
phases_ended f AtStart phases hosts items = sym (append-nil (phase_lines f phases))
phases_ended f AfterHeader phases hosts items = sym (append-nil (phase_lines f phases))
phases_ended f (AfterNamespace kind n) phases hosts items = sym (append-nil (phase_lines f phases))
phases_ended f AfterShow phases hosts items = sym (append-nil (phase_lines f phases))

shared : Command → Arc Command Global
shared c = record { ptr = null_ptr; value = c }

sent_line : (f : Form) (cid : ℕ) (c : Command) → item_line f (item.Send cid (shared c)) ≡ send_line f.version cid c
unfolding shared
sent_line f cid c = refl

show_of : SpaceKind → List Value → Show
show_of kind vs = record { range = record { space = space_of kind (number_at vs 0); start = number_at vs 1; len = number_at vs 2 } }

shown : (kind : SpaceKind) (vs : List Value) → IsShaped (fields_of (line.Show kind)) vs → show_line (show_of kind vs) ≡ record { kind = line.Show kind; values = vs }
unfolding show_of
shown space_kind.Nvm (Count a ∷ Count b ∷ Count c ∷ []) h = refl
shown space_kind.Nvm _ h = absurd h
shown space_kind.Mem (Count a ∷ Count b ∷ Count c ∷ []) h = refl
shown space_kind.Mem _ h = absurd h

taken : (f : Form) (vs : List Value) → IsShaped (fields_of (line.Take f.version)) vs → values_fit (fields_of (line.Take f.version)) vs ≡ true
    → item_line f (item.Take (identifier_at vs 0)) ≡ record { kind = line.Take f.version; values = vs }
taken f vs h e = ap (λ (ws : List Value). record { kind = line.Take f.version; values = ws }) (sym (take_says f.version vs h e).all)

keep : (kind : LineKind) (vs : List Value) (d : Drafted) → IsOfVersion d.progress.form.version kind → IsShaped (fields_of kind) vs → values_fit (fields_of kind) vs ≡ true → Keeps kind vs d
keep (line.Header v) vs d is h e = record { kept = d; stored = refl }
keep (line.Namespace kind) vs d is h e = record { kept = d; stored = refl }
keep line.Phase vs d is h e = record {
  kept = record d { phases = ended_phases d.progress.stage d.phases d.hosts d.items; hosts = []; items = [] };
  stored = record { phases = phases_ended d.progress.form d.progress.stage d.phases d.hosts d.items; hosts = refl; items = refl; shows = refl };
}
keep line.Host vs d is h e = record {
  kept = record d { hosts = ended_parts d.progress.stage d.hosts d.items; items = [] };
  stored = record { hosts = parts_ended d.progress.form d.progress.stage d.hosts d.items; items = refl; phases = refl; shows = refl };
}
keep (line.Send v w) vs d is h e =
    let s = command_of v w vs h e in
    let f = d.progress.form in
    let same : item_line f (item.Send (identifier_at vs 0) (shared s.sent)) ≡ record { kind = line.Send v w; values = vs } =
    sent_line f (identifier_at vs 0) s.sent ∙ ap (λ (x : Version). send_line x (identifier_at vs 0) s.sent) (sym is) ∙ s.line in
    record {
      kept = record d { items = d.items ++ item.Send (identifier_at vs 0) (shared s.sent) ∷ [] };
      stored = record { items = item_one_more f d.items (item.Send (identifier_at vs 0) (shared s.sent)) ∙ ap (λ (l : Line). item_lines f d.items ++ l ∷ []) same; hosts = refl; phases = refl; shows = refl };
    }
keep (line.Take v) vs d is h e =
    let f = d.progress.form in
    let same : item_line f (item.Take (identifier_at vs 0)) ≡ record { kind = line.Take v; values = vs } =
    taken f vs (subst (λ (x : Version). IsShaped (fields_of (line.Take x)) vs) is h) (subst (λ (x : Version). values_fit (fields_of (line.Take x)) vs ≡ true) is e)
    ∙ ap (λ (x : Version). record { kind = line.Take x; values = vs }) (sym is) in
    record {
      kept = record d { items = d.items ++ item.Take (identifier_at vs 0) ∷ [] };
      stored = record { items = item_one_more f d.items (item.Take (identifier_at vs 0)) ∙ ap (λ (l : Line). item_lines f d.items ++ l ∷ []) same; hosts = refl; phases = refl; shows = refl };
    }
keep (line.Show kind) vs d is h e = record {
  kept = record d { phases = ended_phases d.progress.stage d.phases d.hosts d.items; hosts = []; items = []; shows = d.shows ++ show_of kind vs ∷ [] };
  stored = record { phases = phases_ended d.progress.form d.progress.stage d.phases d.hosts d.items; hosts = refl; items = refl; shows = show_one_more d.shows (show_of kind vs) ∙ ap (λ (l : Line). show_lines d.shows ++ l ∷ []) (shown kind vs h) };
}

-- ---- line by line

record Drafts (d : Drafted) (texts : List (List ℕ)) : Type 0 where
  whole : Drafted
  draft : IsDraft whole
  begun : is_start whole.progress.stage ≡ false
  text : lines_text (draft_lines whole) ≡ lines_text (draft_lines d) ++ joined_by 10 texts

none_at : (n : ℕ) (c : TextCause) → fault_at n c ≡ None → ⊥
none_at n c e = absurd cc

read_on : (n : ℕ) (r : Result Progress TextCause) (more : Progress → Option ScriptFault) → fault_or n r more ≡ None → (p : Progress) × (r ≡ Ok p) × (more p ≡ None)
read_on n (Ok p) more e = (p, refl, e)
read_on n (Err c) more e = absurd (none_at n c e)

at_end : (b : Bool) (n : ℕ) (c : TextCause) → cond b (fault_at n c) None ≡ None → b ≡ false
at_end true n c e = absurd (none_at n c e)
at_end false n c e = refl

drafts : (d : Drafted) (n : ℕ) (text : List ℕ) (texts : List (List ℕ)) → IsDraft d → fault_from d.progress n (text ∷ texts) ≡ None → Drafts d (text ∷ texts)
drafts d n [] [] h e = record { whole = d; draft = h; begun = at_end (is_start d.progress.stage) n _ e; text = sym (append-nil (lines_text (draft_lines d))) }
drafts d n (b ∷ bs) [] h e = absurd (none_at n _ e)
drafts d n text (next ∷ texts) h e =
    let r = read_on n (read_line d.progress text) (λ q. fault_from q (n + 1) (next ∷ texts)) (sym (fault_two d.progress n text next texts) ∙ e) in
    let l = bind_ok (line_of d.progress.form.version text) (judged d.progress) r.0 r.1 in
    let s = line_says d.progress.form.version text l.0 l.1 in
    let k = keep l.0.kind l.0.values d s.version s.line.shape (fits_of d.progress l.0 (passed d.progress l.0 r.0 l.2).limits) in
    let a = adds d k.kept l.0 r.0 h l.2 s.line k.stored in
    let on = drafts (record k.kept { progress = r.0 }) (n + 1) next texts a.draft r.2 in
    record {
      whole = on.whole;
      draft = on.draft;
      begun = on.begun;
      text = on.text ∙ ap (λ (t : List ℕ). t ++ joined_by 10 (next ∷ texts)) (ap lines_text a.lines ∙ text_one_more (draft_lines d) l.0 ∙ ap (λ (t : List ℕ). lines_text (draft_lines d) ++ (t ++ 10 ∷ [])) s.spelled)
          ∙ append_assoc (lines_text (draft_lines d)) (text ++ 10 ∷ []) (joined_by 10 (next ∷ texts)) ∙ ap (λ (t : List ℕ). lines_text (draft_lines d) ++ t) (append_assoc text (10 ∷ []) (joined_by 10 (next ∷ texts)));
    }

-- no line yet
nothing : Drafted
nothing = record { progress = start; phases = []; hosts = []; items = []; shows = [] }

nothing_yet : IsDraft nothing
unfolding nothing
nothing_yet = record { tidy = (refl, refl, refl, refl); limits = header_keeps 512 1 1 refl (omega arith) (omega arith) (omega arith) (omega arith); counted = refl; sized = All-nil IsSizedLine }

script_of : Drafted → Script
script_of d = record { form = d.progress.form; config = d.progress.config; phases = ended_phases d.progress.stage d.phases d.hosts d.items; shows = d.shows }

whole_lines : (d : Drafted) → is_start d.progress.stage ≡ false → lines_of (script_of d) ≡ draft_lines d
unfolding script_of
whole_lines d b =
    ap (λ (ls : List Line). (configuration_lines d.progress.form d.progress.config ++ ls) ++ show_lines d.shows) (phases_ended d.progress.form d.progress.stage d.phases d.hosts d.items)
    ∙ finished d.progress.form d.progress.stage d.progress.config (phase_lines d.progress.form d.phases) (open_lines d.progress.form d.progress.stage d.hosts d.items) (show_lines d.shows) b

-- what the script says of its queues is what its lines say
exact : (d : Drafted) → IsDraft d → AreExact (script_of d).form (script_of d).config.depth
unfolding script_of
exact d h = draft_exact d h

pub some_script : (text : List ℕ) → first_fault text ≡ None → IsScriptText text
unfolding nothing
some_script text e =
    let p = some_part 10 text in
    let r = drafts nothing 1 p.0 p.1 nothing_yet (ap (fault_from start 1) (sym p.2) ∙ e) in
    let same = whole_lines r.whole r.begun in
    record {
      script = script_of r.whole;
      spelled = ap lines_text same ∙ r.text ∙ ap (joined_by 10) (sym p.2) ∙ joined_again 10 text;
      sized = subst AreSized (sym same) r.draft.sized;
      kept = ap (λ (ls : List Line). is_ok (after_lines start ls)) same ∙ ap is_ok r.draft.counted;
      queues = exact r.whole r.draft;
    }
