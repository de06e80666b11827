-- What a script that is being read says so far. Private contracts speak of these.
use Rattle.std.specs.Prelude.{◌≡◌, ℕ, zero, suc, List, [], ◌∷◌, ◌++◌, Ok}
use Rattle.cp_base.specs.Configuration.{Configuration, IsWithinLimits}
use Rattle.script_line.specs.declared.kind.LineKind.TheVariants as line
use Rattle.script_line.specs.declared.kind.SpaceKind.{SpaceKind}
use Rattle.script_line.specs.declared.kind.SpaceKind.TheVariants.{Nvm, Mem}
use Rattle.script_line.specs.Line.{Line}
use Rattle.script_line.specs.Sized.{AreSized}
use Rattle.script_cmds.specs.declared.form.Form.{Form}
use Rattle.script_cmds.specs.declared.item.Item.{Item}
use Rattle.script_cmds.specs.declared.item.HostPart.{HostPart}
use Rattle.script_cmds.specs.declared.item.Phase as declared
use Rattle.script_cmds.specs.declared.item.Show.{Show}
use Rattle.script_cmds.specs.declared.progress.Progress.{Progress}
use Rattle.script_cmds.specs.declared.progress.Stage.{Stage}
use Rattle.script_cmds.specs.declared.progress.Stage.TheVariants.{AtStart, AfterHeader, AfterNamespace, InPhase, InPart, AfterShow}
use Rattle.script_cmds.specs.Fault.{after_lines}
use Rattle.script_cmds.specs.Progress.{start}
use Rattle.script_cmds.specs.Text.{configuration_lines, numbers_line, item_lines, part_lines, phase_lines, show_lines}

-- where a script stands that is being read, and what it says so far: the phases that have ended, the hosts'
-- parts that have ended in the phase that is open, the items of the part that is open, and what is shown
pub record Drafted : Type 0 where
  pub progress : Progress
  pub phases : List declared.Phase
  pub hosts : List HostPart
  pub items : List Item
  pub shows : List Show

-- the lines of the part that is open
abbrev pub open_part_lines : Form → Stage → List Item → List Line
open_part_lines form (InPart host) items = numbers_line line.Host (host ∷ []) ∷ item_lines form items
open_part_lines form _ items = []

-- the lines of the phase that is open
abbrev pub open_lines : Form → Stage → List HostPart → List Item → List Line
open_lines form InPhase hosts items =
    numbers_line line.Phase [] ∷ part_lines form hosts ++ open_part_lines form InPhase items
open_lines form (InPart host) hosts items =
    numbers_line line.Phase [] ∷ part_lines form hosts ++ open_part_lines form (InPart host) items
open_lines form _ hosts items = []

-- the lines of the configuration, where there is one
abbrev pub header_lines : Form → Stage → Configuration → List Line
header_lines form AtStart config = []
header_lines form _ config = configuration_lines form config

-- the lines so far
abbrev pub lines_so_far : Progress → List declared.Phase → List HostPart → List Item → List Show → List Line
lines_so_far p phases hosts items shows =
    header_lines p.form p.stage p.config ++ phase_lines p.form phases ++ open_lines p.form p.stage hosts items ++ show_lines shows

abbrev pub draft_lines : Drafted → List Line
draft_lines draft = lines_so_far draft.progress draft.phases draft.hosts draft.items draft.shows

-- each size from a place on is 0
abbrev pub IsZeroFrom : ℕ → List ℕ → Type 0
IsZeroFrom place [] = Unit {0}
IsZeroFrom zero (size ∷ sizes) = (size ≡ 0) × IsZeroFrom zero sizes
IsZeroFrom (suc place) (size ∷ sizes) = IsZeroFrom place sizes

-- no namespace stands behind the last one
abbrev pub HasNoneBehind : SpaceKind → ℕ → Configuration → Type 0
HasNoneBehind Nvm last c = IsZeroFrom last c.nvm × IsZeroFrom 0 c.mem
HasNoneBehind Mem last c = IsZeroFrom last c.mem

-- nothing stands behind the namespaces
abbrev pub HasNothing : List declared.Phase → List HostPart → List Item → List Show → Type 0
HasNothing phases hosts items shows = (phases ≡ []) × (hosts ≡ []) × (items ≡ []) × (shows ≡ [])

-- what there is not, by the stage
abbrev pub IsTidy : Stage → Configuration → List declared.Phase → List HostPart → List Item → List Show → Type 0
IsTidy AtStart c phases hosts items shows = HasNothing phases hosts items shows
IsTidy AfterHeader c phases hosts items shows = HasNothing phases hosts items shows × HasNoneBehind Nvm 0 c
IsTidy (AfterNamespace kind last) c phases hosts items shows =
    HasNothing phases hosts items shows × HasNoneBehind kind last c
IsTidy InPhase c phases hosts items shows = (hosts ≡ []) × (items ≡ []) × (shows ≡ [])
IsTidy (InPart host) c phases hosts items shows = shows ≡ []
IsTidy AfterShow c phases hosts items shows = (hosts ≡ []) × (items ≡ [])

-- a draft says what its lines say, and no more
pub record IsDraft (draft : Drafted) : Type 0 where
  pub tidy : IsTidy draft.progress.stage draft.progress.config draft.phases draft.hosts draft.items draft.shows
  pub limits : IsWithinLimits draft.progress.config
  pub counted : after_lines start (draft_lines draft) ≡ Ok draft.progress
  pub sized : AreSized (draft_lines draft)
