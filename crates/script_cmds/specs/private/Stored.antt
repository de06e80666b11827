-- What is kept of a line of each kind, in a script that is being read. Private contracts speak of these.
use Rattle.std.specs.Prelude.{◌≡◌, List, [], ◌∷◌, ◌++◌}
use Rattle.script_line.specs.declared.kind.LineKind.{LineKind}
use Rattle.script_line.specs.declared.kind.LineKind.TheVariants.{Header, Namespace, Phase, Host, Send, Take, Show}
use Rattle.script_line.specs.Field.{Value}
use Rattle.script_line.specs.Line.{Line}
use Rattle.script_cmds.specs.private.Drafts.{Drafted, open_lines, open_part_lines}
use Rattle.script_cmds.specs.Text.{item_lines, part_lines, phase_lines, show_lines}

-- the part that was open has ended
pub record EndsPart (old new : Drafted) : Type 0 where
  pub hosts : part_lines old.progress.form new.hosts
      ≡ part_lines old.progress.form old.hosts ++ open_part_lines old.progress.form old.progress.stage old.items
  pub items : new.items ≡ []
  pub phases : new.phases ≡ old.phases
  pub shows : new.shows ≡ old.shows

-- the phase that was open has ended
pub record EndsPhase (old new : Drafted) : Type 0 where
  pub phases : phase_lines old.progress.form new.phases
      ≡ phase_lines old.progress.form old.phases ++ open_lines old.progress.form old.progress.stage old.hosts old.items
  pub hosts : new.hosts ≡ []
  pub items : new.items ≡ []
  pub shows : new.shows ≡ old.shows

-- the part that is open has one more item
pub record AddsItem (line : Line) (old new : Drafted) : Type 0 where
  pub items : item_lines old.progress.form new.items ≡ item_lines old.progress.form old.items ++ line ∷ []
  pub hosts : new.hosts ≡ old.hosts
  pub phases : new.phases ≡ old.phases
  pub shows : new.shows ≡ old.shows

-- the phase that was open has ended, and one more thing is shown
pub record AddsShow (line : Line) (old new : Drafted) : Type 0 where
  pub phases : phase_lines old.progress.form new.phases
      ≡ phase_lines old.progress.form old.phases ++ open_lines old.progress.form old.progress.stage old.hosts old.items
  pub hosts : new.hosts ≡ []
  pub items : new.items ≡ []
  pub shows : show_lines new.shows ≡ show_lines old.shows ++ line ∷ []

-- what is kept of a line; where the script stands is not looked at
abbrev pub Stored : LineKind → List Value → Drafted → Drafted → Type 0
Stored (Header version) values old new = new ≡ old
Stored (Namespace kind) values old new = new ≡ old
Stored Phase values old new = EndsPhase old new
Stored Host values old new = EndsPart old new
Stored (Send version word) values old new = AddsItem (record { kind = Send version word; values = values }) old new
Stored (Take version) values old new = AddsItem (record { kind = Take version; values = values }) old new
Stored (Show kind) values old new = AddsShow (record { kind = Show kind; values = values }) old new
