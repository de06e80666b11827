-- The one text of a script. This project's own.
use Rattle.std.specs.Prelude.{ℕ, ◌+◌, ◌/◌, ◌==◌, List, [], ◌∷◌, ◌++◌, if◌then◌else◌}
use Rattle.cp_base.specs.Configuration.{Configuration}
use Rattle.cp_base.specs.declared.region.SpaceId.{SpaceId}
use Rattle.cp_base.specs.declared.region.SpaceId.TheVariants as space
use Rattle.script_cmds.specs.declared.form.Form.{Form}
use Rattle.script_cmds.specs.declared.item.Item.{Item}
use Rattle.script_cmds.specs.declared.item.Item.TheVariants as item
use Rattle.script_cmds.specs.declared.item.HostPart.{HostPart}
use Rattle.script_cmds.specs.declared.item.Phase.{Phase}
use Rattle.script_cmds.specs.declared.item.Show.{Show}
use Rattle.script_cmds.specs.declared.script.Script.{Script}
use Rattle.script_line.specs.declared.kind.LineKind.{LineKind}
use Rattle.script_line.specs.declared.kind.LineKind.TheVariants as line
use Rattle.script_line.specs.declared.kind.SpaceKind.TheVariants as space_kind
use Rattle.script_line.specs.declared.version.Version.{Version}
use Rattle.script_line.specs.declared.version.Version.TheVariants as version
use Rattle.script_line.specs.Line.{Line, counts, send_line, take_line, line_text}

-- a line of numbers
abbrev pub numbers_line : LineKind → List ℕ → Line
numbers_line kind numbers = record { kind = kind; values = counts numbers }

-- a line for each size that is not 0, the first of them under this number
abbrev pub size_lines : LineKind → ℕ → List ℕ → List Line
size_lines kind number [] = []
size_lines kind number (size ∷ sizes) =
    if size == 0 then size_lines kind (number + 1) sizes else numbers_line kind (number ∷ size ∷ []) ∷ size_lines kind (number + 1) sizes

-- what the header says: in version 2 the number of queues, and the depth of one of them
abbrev pub header_numbers : Version → ℕ → Configuration → List ℕ
header_numbers version.One queues c = c.block ∷ c.depth ∷ c.budget ∷ []
header_numbers version.Two queues c = c.block ∷ queues ∷ c.depth / queues ∷ c.budget ∷ []

-- the header
abbrev pub header_line : Form → Configuration → Line
header_line form c = numbers_line (line.Header form.version) (header_numbers form.version form.queues c)

-- the header, and the lines of the namespaces in order of their numbers, NVM before memory
abbrev pub configuration_lines : Form → Configuration → List Line
configuration_lines form c =
    header_line form c ∷ size_lines (line.Namespace space_kind.Nvm) 1 c.nvm ++ size_lines (line.Namespace space_kind.Mem) 1 c.mem

abbrev pub item_line : Form → Item → Line
item_line form (item.Send cid command) = send_line form.version cid command.value
item_line form (item.Take cid) = take_line form.version cid

abbrev pub item_lines : Form → List Item → List Line
item_lines form [] = []
item_lines form (item ∷ items) = item_line form item ∷ item_lines form items

abbrev pub part_lines : Form → List HostPart → List Line
part_lines form [] = []
part_lines form (part ∷ parts) =
    numbers_line line.Host (part.host ∷ []) ∷ item_lines form part.items ++ part_lines form parts

abbrev pub phase_lines : Form → List Phase → List Line
phase_lines form [] = []
phase_lines form (phase ∷ phases) = numbers_line line.Phase [] ∷ part_lines form phase.hosts ++ phase_lines form phases

abbrev pub region_line : SpaceId → ℕ → ℕ → Line
region_line (space.Nvm n) start len = numbers_line (line.Show space_kind.Nvm) (n ∷ start ∷ len ∷ [])
region_line (space.Mem n) start len = numbers_line (line.Show space_kind.Mem) (n ∷ start ∷ len ∷ [])

abbrev pub show_line : Show → Line
show_line show = region_line show.range.space show.range.start show.range.len

abbrev pub show_lines : List Show → List Line
show_lines [] = []
show_lines (show ∷ shows) = show_line show ∷ show_lines shows

-- the lines of a script
abbrev pub lines_of : Script → List Line
lines_of script =
    configuration_lines script.form script.config ++ phase_lines script.form script.phases ++ show_lines script.shows

-- lines, each ended by a newline
abbrev pub lines_text : List Line → List ℕ
lines_text [] = []
lines_text (line ∷ lines) = line_text line ++ 10 ∷ lines_text lines

-- the one text of a script
abbrev pub script_text : Script → List ℕ
script_text script = lines_text (lines_of script)
