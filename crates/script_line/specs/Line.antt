-- The lines of a script: the kinds of line and the one table of their fields. This project's own.
use Rattle.std.specs.Prelude.{ℕ, ◌+◌, ◌/◌, ◌%◌, List, [], ◌∷◌, ◌++◌, map, codes}
use Rattle.cp_text.specs.Parts.{joined_by}
use Rattle.cp_base.specs.Commands.{word_of, word_text}
use Rattle.cp_base.specs.declared.commands.Command.{Command}
use Rattle.cp_base.specs.declared.commands.Command.TheVariants as command
use Rattle.cp_base.specs.declared.limits.TheConstants.{NAMESPACES, MAX_NAMESPACE, MAX_TRANSFER, MAX_HOSTS}
use Rattle.cp_base.specs.declared.commands.CommandWord.{CommandWord}
use Rattle.cp_base.specs.declared.commands.CommandWord.TheVariants as word
use Rattle.script_line.specs.declared.kind.LineKind.{LineKind}
use Rattle.script_line.specs.declared.kind.LineKind.TheVariants.{Header, Namespace, Phase, Host, Send, Take, Show}
use Rattle.script_line.specs.declared.kind.SpaceKind.{SpaceKind}
use Rattle.script_line.specs.declared.kind.SpaceKind.TheVariants.{Nvm, Mem}
use Rattle.script_line.specs.declared.limits.TheConstants.{MAX_CID, MAX_32, MAX_64, MAX_VALUE, QUEUE_CIDS, VERSION_1, VERSION_2}
use Rattle.script_line.specs.declared.version.Version.{Version}
use Rattle.script_line.specs.declared.version.Version.TheVariants.{One, Two}
use Rattle.script_line.specs.Field.{Field, Word, Number, Identifier, Hex, Sources, Ranges, Value, Count, Queued, Data, Copied, Covered, field_texts}

-- a line: its kind and what its fields say
pub record Line : Type 0 where
  pub kind : LineKind
  pub values : List Value

-- a number of 32 bits, and one of 64 bits
abbrev pub narrow : List ℕ → Field
narrow name = Number name 0 MAX_32

abbrev pub wide : List ℕ → Field
wide name = Number name 0 MAX_64

-- the identifier of a command behind a name: in version 1 a number, in version 2 that of a queue before it
abbrev pub identifier_field : Version → List ℕ → Field
identifier_field One name = Number name 0 MAX_CID
identifier_field Two name = Identifier name

-- the fields of a command, in their order
abbrev pub command_fields : Version → CommandWord → List Field
command_fields version word.NvmRead = narrow (codes "ns=") ∷ wide (codes "lba=") ∷ wide (codes "count=") ∷ []
command_fields version word.NvmWrite = narrow (codes "ns=") ∷ wide (codes "lba=") ∷ Hex (codes "data=") ∷ []
command_fields version word.NvmZeroes = narrow (codes "ns=") ∷ wide (codes "lba=") ∷ wide (codes "count=") ∷ []
command_fields version word.NvmCopy = narrow (codes "ns=") ∷ wide (codes "lba=") ∷ Sources (codes "from=") ∷ []
command_fields version word.MemRead = narrow (codes "ns=") ∷ wide (codes "at=") ∷ wide (codes "len=") ∷ []
command_fields version word.MemWrite = narrow (codes "ns=") ∷ wide (codes "at=") ∷ Hex (codes "data=") ∷ []
command_fields version word.MemFill =
    narrow (codes "ns=") ∷ wide (codes "at=") ∷ wide (codes "len=") ∷ Number (codes "value=") 0 MAX_VALUE ∷ []
command_fields version word.MemCopy = narrow (codes "ns=") ∷ wide (codes "at=") ∷ Sources (codes "from=") ∷ []
command_fields version word.SetCreate = Ranges (codes "ranges=") ∷ []
command_fields version word.SetDelete = narrow (codes "set=") ∷ []
command_fields version word.Load =
    narrow (codes "slot=") ∷ wide (codes "size=") ∷ wide (codes "at=") ∷ Hex (codes "data=") ∷ []
command_fields version word.Unload = narrow (codes "slot=") ∷ []
command_fields version word.Activate = narrow (codes "slot=") ∷ []
command_fields version word.Deactivate = narrow (codes "slot=") ∷ []
command_fields version word.Execute =
    narrow (codes "slot=") ∷ narrow (codes "set=") ∷ wide (codes "p1=") ∷ wide (codes "p2=") ∷ wide (codes "budget=") ∷ []
command_fields version word.Abort = identifier_field version (codes "cid=") ∷ []

-- the word of a kind of namespace
abbrev pub space_text : SpaceKind → List ℕ
space_text Nvm = codes "nvm"
space_text Mem = codes "mem"

-- the name of the size of a namespace: an NVM namespace has blocks, a memory namespace bytes
abbrev pub size_name : SpaceKind → List ℕ
size_name Nvm = codes "blocks="
size_name Mem = codes "bytes="

-- the number of a namespace
abbrev pub space_number : Field
space_number = Number [] 1 NAMESPACES

-- the fields of a header behind its first: the version, and in version 2 a number of queues among the limits
abbrev pub header_fields : Version → List Field
header_fields One =
    Word (codes "1") ∷ wide (codes "block=") ∷ Number (codes "depth=") 1 VERSION_1.depth
    ∷ Number (codes "budget=") 1 VERSION_1.budget ∷ []
header_fields Two =
    Word (codes "2") ∷ wide (codes "block=") ∷ Number (codes "queues=") 1 VERSION_2.queues
    ∷ Number (codes "depth=") 1 VERSION_2.depth ∷ Number (codes "budget=") 1 VERSION_2.budget ∷ []

-- all fields of a line, its words among them
abbrev pub fields_of : LineKind → List Field
fields_of (Header version) = Word (codes "nvmecp") ∷ header_fields version
fields_of (Namespace kind) = Word (space_text kind) ∷ space_number ∷ Number (size_name kind) 1 MAX_NAMESPACE ∷ []
fields_of Phase = Word (codes "phase") ∷ []
fields_of Host = Word (codes "host") ∷ Number [] 1 MAX_HOSTS ∷ []
fields_of (Send version word) =
    Word (codes "send") ∷ identifier_field version [] ∷ Word (word_text word) ∷ command_fields version word
fields_of (Take version) = Word (codes "take") ∷ identifier_field version [] ∷ []
fields_of (Show kind) =
    Word (codes "show") ∷ Word (space_text kind) ∷ space_number ∷ wide (codes "at=") ∷ Number (codes "len=") 1 MAX_TRANSFER ∷ []

-- the one text of a line, without its newline: its fields with one space between two
abbrev pub line_text : Line → List ℕ
line_text line = joined_by 32 (field_texts (fields_of line.kind) line.values)

-- numbers as what fields say
abbrev pub counts : List ℕ → List Value
counts numbers = map (λ n. Count n) numbers

-- what the identifier of a command says, which the device counts over all queues
abbrev pub identifier_value : Version → ℕ → Value
identifier_value One id = Count id
identifier_value Two id = Queued (id / QUEUE_CIDS + 1) (id % QUEUE_CIDS)

-- what the fields of a send line say behind the identifier
abbrev pub command_values : Version → Command → List Value
command_values version (command.NvmRead ns lba count) = counts (ns ∷ lba ∷ count ∷ [])
command_values version (command.NvmWrite ns lba bytes) = counts (ns ∷ lba ∷ []) ++ Data bytes.items ∷ []
command_values version (command.NvmZeroes ns lba count) = counts (ns ∷ lba ∷ count ∷ [])
command_values version (command.NvmCopy ns lba from) = counts (ns ∷ lba ∷ []) ++ Copied from ∷ []
command_values version (command.MemRead ns at len) = counts (ns ∷ at ∷ len ∷ [])
command_values version (command.MemWrite ns at bytes) = counts (ns ∷ at ∷ []) ++ Data bytes.items ∷ []
command_values version (command.MemFill ns at len value) = counts (ns ∷ at ∷ len ∷ value ∷ [])
command_values version (command.MemCopy ns at from) = counts (ns ∷ at ∷ []) ++ Copied from ∷ []
command_values version (command.SetCreate ranges) = Covered ranges ∷ []
command_values version (command.SetDelete set) = counts (set ∷ [])
command_values version (command.Load slot size at bytes) = counts (slot ∷ size ∷ at ∷ []) ++ Data bytes.items ∷ []
command_values version (command.Unload slot) = counts (slot ∷ [])
command_values version (command.Activate slot) = counts (slot ∷ [])
command_values version (command.Deactivate slot) = counts (slot ∷ [])
command_values version (command.Execute slot set p1 p2 budget) = counts (slot ∷ set ∷ p1 ∷ p2 ∷ budget ∷ [])
command_values version (command.Abort id) = identifier_value version id ∷ []

-- what the fields of a send line say
abbrev pub send_values : Version → ℕ → Command → List Value
send_values version id command = identifier_value version id ∷ command_values version command

-- the line of a command that is sent under an identifier of the device
abbrev pub send_line : Version → ℕ → Command → Line
send_line version id command = record { kind = Send version (word_of command); values = send_values version id command }

-- the line of a reply that is taken
abbrev pub take_line : Version → ℕ → Line
take_line version id = record { kind = Take version; values = identifier_value version id ∷ [] }
