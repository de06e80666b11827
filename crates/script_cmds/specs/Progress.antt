-- What a reader of a script has to know of the lines so far: which line may follow, and how much has
-- been used of each limit. This project's own.
use Rattle.std.specs.Prelude.{ℕ, ◌+◌, ◌*◌, ◌==◌, nat_lt, nat_le, Bool, true, false, not, ◌&&◌, ◌||◌, sum, unwrap_or, List, Some}
use Rattle.std.specs.List.{list_all}
use Rattle.cp_base.specs.Configuration.{Configuration, bare, size_of, with_size}
use Rattle.cp_base.specs.declared.limits.TheConstants.{MAX_NAMESPACE, MAX_TOTAL}
use Rattle.cp_base.specs.declared.region.SpaceId.{SpaceId}
use Rattle.cp_base.specs.declared.region.SpaceId.TheVariants as space
use Rattle.script_line.specs.declared.kind.LineKind.{LineKind}
use Rattle.script_line.specs.declared.kind.LineKind.TheVariants.{Header, Namespace, Phase, Host, Send, Take, Show}
use Rattle.script_line.specs.declared.kind.SpaceKind.{SpaceKind}
use Rattle.script_line.specs.declared.kind.SpaceKind.TheVariants.{Nvm, Mem}
use Rattle.script_line.specs.declared.version.Version.{Version}
use Rattle.script_line.specs.declared.version.Version.TheVariants.{One, Two}
use Rattle.script_line.specs.Field.{Value}
use Rattle.script_line.specs.Fits.{line_fits}
use Rattle.script_line.specs.Line.{Line}
use Rattle.script_line.specs.Values.{number_at, queue_in}
use Rattle.script_line.specs.Versions.{limits_of}
use Rattle.script_cmds.specs.declared.form.Form.{Form}
use Rattle.script_cmds.specs.declared.progress.Stage.{Stage}
use Rattle.script_cmds.specs.declared.progress.Stage.TheVariants.{AtStart, AfterHeader, AfterNamespace, InPhase, InPart, AfterShow}
use Rattle.script_cmds.specs.declared.progress.Progress.{Progress}

-- before the first line: without a header a line is looked at as in version 1
abbrev pub start : Progress
start = record { stage = AtStart; form = record { version = One; queues = 1 }; config = bare 512 1 1; sends = 0; phases = 0; shows = 0 }

-- whether a namespace of this kind and number may follow one, NVM namespaces first
abbrev pub follows : SpaceKind → ℕ → SpaceKind → ℕ → Bool
follows Nvm before Nvm number = nat_lt before number
follows Nvm before Mem number = true
follows Mem before Nvm number = false
follows Mem before Mem number = nat_lt before number

-- whether the line of a namespace may follow
abbrev pub namespace_follows : Stage → SpaceKind → ℕ → Bool
namespace_follows AfterHeader kind number = true
namespace_follows (AfterNamespace last before) kind number = follows last before kind number
namespace_follows _ kind number = false

-- whether a host line of this number may follow
abbrev pub host_follows : Stage → ℕ → Bool
host_follows InPhase host = true
host_follows (InPart before) host = nat_lt before host
host_follows _ host = false

abbrev pub is_start : Stage → Bool
is_start AtStart = true
is_start _ = false

abbrev pub is_after_show : Stage → Bool
is_after_show AfterShow = true
is_after_show _ = false

abbrev pub is_in_part : Stage → Bool
is_in_part (InPart host) = true
is_in_part _ = false

abbrev pub same_version : Version → Version → Bool
same_version One One = true
same_version Two Two = true
same_version _ _ = false

-- whether a line may stand where the script of a version is; its identifiers have to be of this version
abbrev pub is_in_order : Version → Stage → LineKind → List Value → Bool
is_in_order version stage (Header own) values = is_start stage
is_in_order version stage (Namespace kind) values = namespace_follows stage kind (number_at values 0)
is_in_order version stage Phase values = not (is_start stage) && not (is_after_show stage)
is_in_order version stage Host values = host_follows stage (number_at values 0)
is_in_order version stage (Send own word) values = is_in_part stage && same_version own version
is_in_order version stage (Take own) values = is_in_part stage && same_version own version
is_in_order version stage (Show kind) values = not (is_start stage)

-- the namespace of a kind and a number
abbrev pub space_of : SpaceKind → ℕ → SpaceId
space_of Nvm number = space.Nvm number
space_of Mem number = space.Mem number

-- the bytes of a namespace of so many blocks, for NVM, or bytes
abbrev pub size_in_bytes : Configuration → SpaceKind → ℕ → ℕ
size_in_bytes c Nvm size = size * c.block
size_in_bytes c Mem size = size

-- the bytes of all namespaces together
abbrev pub total_bytes : Configuration → ℕ
total_bytes c = sum c.nvm * c.block + sum c.mem

-- whether a namespace of so many bytes may join, which makes the configuration this one
abbrev pub namespace_fits : ℕ → Configuration → Bool
namespace_fits bytes joined = nat_le bytes MAX_NAMESPACE && nat_le (total_bytes joined) MAX_TOTAL

-- whether the size of a block is one
abbrev pub is_block : ℕ → Bool
is_block block = (block == 512) || (block == 4096)

-- what a header says: its queues, the depth of each, and its budget
abbrev pub header_queues : Version → List Value → ℕ
header_queues One values = 1
header_queues Two values = number_at values 1

abbrev pub header_depth : Version → List Value → ℕ
header_depth One values = number_at values 1
header_depth Two values = number_at values 2

abbrev pub header_budget : Version → List Value → ℕ
header_budget One values = number_at values 2
header_budget Two values = number_at values 3

-- whether each queue that a line names is one of these
abbrev pub names_queues : ℕ → List Value → Bool
names_queues queues values = list_all (λ value. nat_le (queue_in (Some value)) queues) values

-- whether there is room for a line, whose fields keep their limits
abbrev pub has_room : Progress → LineKind → List Value → Bool
has_room p (Header version) values =
    is_block (number_at values 0) && nat_le (header_queues version values * header_depth version values) (limits_of version).outstanding
has_room p (Namespace kind) values =
    namespace_fits (size_in_bytes p.config kind (number_at values 1)) (with_size p.config (space_of kind (number_at values 0)) (number_at values 1))
has_room p Phase values = nat_lt p.phases (limits_of p.form.version).phases
has_room p Host values = true
has_room p (Send version word) values =
    nat_lt p.sends (limits_of p.form.version).sends && names_queues p.form.queues values
has_room p (Take version) values = names_queues p.form.queues values
has_room p (Show kind) values =
    nat_lt p.shows (limits_of p.form.version).shows && nat_le (number_at values 1 + number_at values 2) (unwrap_or (size_of p.config (space_of kind (number_at values 0))) 0)

-- whether a line keeps its limits: those of its fields, and those of the script
abbrev pub is_within_limits : Progress → Line → Bool
is_within_limits p line = line_fits line && has_room p line.kind line.values

-- after one more line
abbrev pub advanced : Progress → LineKind → List Value → Progress
advanced p (Header version) values = record p {
  stage = AfterHeader;
  form = record { version = version; queues = header_queues version values };
  config = bare (number_at values 0) (header_queues version values * header_depth version values) (header_budget version values);
}
advanced p (Namespace kind) values =
    record p { stage = AfterNamespace kind (number_at values 0); config = with_size p.config (space_of kind (number_at values 0)) (number_at values 1) }
advanced p Phase values = record p { stage = InPhase; phases = p.phases + 1 }
advanced p Host values = record p { stage = InPart (number_at values 0) }
advanced p (Send version word) values = record p { sends = p.sends + 1 }
advanced p (Take version) values = p
advanced p (Show kind) values = record p { stage = AfterShow; shows = p.shows + 1 }
