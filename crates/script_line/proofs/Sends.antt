-- What the line of a command says.
use Rattle.std.proofs.Common.{ℕ, List, [], ◌∷◌}
use Rattle.cp_base.specs.Commands.{word_of}
use Rattle.cp_base.specs.declared.commands.Command.{Command}
use Rattle.cp_base.specs.declared.commands.Command.TheVariants as command
use Rattle.script_line.specs.declared.version.Version.{Version}
use Rattle.script_line.specs.declared.version.Version.TheVariants as version
use Rattle.script_line.specs.Field.{Field, IsShaped, Value}
use Rattle.script_line.specs.Line.{command_fields, command_values, fields_of, identifier_field, identifier_value, send_line, take_line}

-- an identifier says what is of its kind
identifier_shape : (v : Version) (name : List ℕ) (id : ℕ) (fields : List Field) (values : List Value) → IsShaped fields values → IsShaped (identifier_field v name ∷ fields) (identifier_value v id ∷ values)
identifier_shape version.One name id fields values s = s
identifier_shape version.Two name id fields values s = s

-- each field of a command has a value of its kind
command_shape : (v : Version) (c : Command) → IsShaped (command_fields v (word_of c)) (command_values v c)
command_shape v (command.NvmRead ns lba count) = tt
command_shape v (command.NvmWrite ns lba bytes) = tt
command_shape v (command.NvmZeroes ns lba count) = tt
command_shape v (command.NvmCopy ns lba from) = tt
command_shape v (command.MemRead ns at len) = tt
command_shape v (command.MemWrite ns at bytes) = tt
command_shape v (command.MemFill ns at len value) = tt
command_shape v (command.MemCopy ns at from) = tt
command_shape v (command.SetCreate ranges) = tt
command_shape v (command.SetDelete set) = tt
command_shape v (command.Load slot size at bytes) = tt
command_shape v (command.Unload slot) = tt
command_shape v (command.Activate slot) = tt
command_shape v (command.Deactivate slot) = tt
command_shape v (command.Execute slot set p1 p2 budget) = tt
command_shape v (command.Abort other) = identifier_shape v _ other [] [] tt

-- the line of a command has a value of its kind for each field
pub send_shape : (v : Version) (cid : ℕ) (c : Command) → IsShaped (fields_of (send_line v cid c).kind) (send_line v cid c).values
send_shape v cid c = identifier_shape v [] cid _ _ (command_shape v c)

-- and so has that of a reply
pub take_shape : (v : Version) (cid : ℕ) → IsShaped (fields_of (take_line v cid).kind) (take_line v cid).values
take_shape v cid = identifier_shape v [] cid [] [] tt
