-- The versions of scripts, their limits and their lines. This project's own.
use Rattle.std.specs.Prelude.{◌≡◌}
use Rattle.script_line.specs.declared.kind.LineKind.{LineKind}
use Rattle.script_line.specs.declared.kind.LineKind.TheVariants.{Header, Namespace, Phase, Host, Send, Take, Show}
use Rattle.script_line.specs.declared.limits.ScriptLimits.{ScriptLimits}
use Rattle.script_line.specs.declared.limits.TheConstants.{VERSION_1, VERSION_2}
use Rattle.script_line.specs.declared.version.Version.{Version}
use Rattle.script_line.specs.declared.version.Version.TheVariants.{One, Two}

-- the limits of scripts of a version
abbrev pub limits_of : Version → ScriptLimits
limits_of One = VERSION_1
limits_of Two = VERSION_2

-- a line that sends or takes a command does so under an identifier of this version; any other line has none
abbrev pub IsOfVersion : Version → LineKind → Type 0
IsOfVersion version (Header own) = Unit {0}
IsOfVersion version (Namespace kind) = Unit {0}
IsOfVersion version Phase = Unit {0}
IsOfVersion version Host = Unit {0}
IsOfVersion version (Send own word) = own ≡ version
IsOfVersion version (Take own) = own ≡ version
IsOfVersion version (Show kind) = Unit {0}
