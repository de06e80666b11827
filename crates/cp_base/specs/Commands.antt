-- The words of commands, and what each command is to those that carry it out. This project's own.
use Rattle.std.specs.Prelude.{ℕ, Bool, true, false, List, [], ◌∷◌, Option, None, Some, codes, find}
use Rattle.std.specs.Str.{bytes_eq}
use Rattle.cp_base.specs.declared.commands.Command.{Command}
use Rattle.cp_base.specs.declared.commands.Command.TheVariants as command
use Rattle.cp_base.specs.declared.commands.CommandWord.{CommandWord}
use Rattle.cp_base.specs.declared.commands.CommandWord.TheVariants as word
use Rattle.cp_base.specs.declared.commands.Nature.{Nature}
use Rattle.cp_base.specs.declared.commands.Nature.TheVariants as nature

-- the text of a word
abbrev pub word_text : CommandWord → List ℕ
word_text word.NvmRead = codes "nvmread"
word_text word.NvmWrite = codes "nvmwrite"
word_text word.NvmZeroes = codes "nvmzeroes"
word_text word.NvmCopy = codes "nvmcopy"
word_text word.MemRead = codes "memread"
word_text word.MemWrite = codes "memwrite"
word_text word.MemFill = codes "memfill"
word_text word.MemCopy = codes "memcopy"
word_text word.SetCreate = codes "setcreate"
word_text word.SetDelete = codes "setdelete"
word_text word.Load = codes "load"
word_text word.Unload = codes "unload"
word_text word.Activate = codes "activate"
word_text word.Deactivate = codes "deactivate"
word_text word.Execute = codes "execute"
word_text word.Abort = codes "abort"

-- all words of commands
abbrev pub all_words : List CommandWord
all_words =
    word.NvmRead ∷ word.NvmWrite ∷ word.NvmZeroes ∷ word.NvmCopy ∷ word.MemRead ∷ word.MemWrite ∷ word.MemFill ∷ word.MemCopy
    ∷ word.SetCreate ∷ word.SetDelete ∷ word.Load ∷ word.Unload ∷ word.Activate ∷ word.Deactivate ∷ word.Execute
    ∷ word.Abort ∷ []

-- the word of a text, where it is one
abbrev pub command_word : List ℕ → Option CommandWord
command_word text = find (λ word. bytes_eq text (word_text word)) all_words

-- the word of a command
abbrev pub word_of : Command → CommandWord
word_of (command.NvmRead ns lba count) = word.NvmRead
word_of (command.NvmWrite ns lba bytes) = word.NvmWrite
word_of (command.NvmZeroes ns lba count) = word.NvmZeroes
word_of (command.NvmCopy ns lba from) = word.NvmCopy
word_of (command.MemRead ns at len) = word.MemRead
word_of (command.MemWrite ns at bytes) = word.MemWrite
word_of (command.MemFill ns at len value) = word.MemFill
word_of (command.MemCopy ns at from) = word.MemCopy
word_of (command.SetCreate ranges) = word.SetCreate
word_of (command.SetDelete set) = word.SetDelete
word_of (command.Load slot size at bytes) = word.Load
word_of (command.Unload slot) = word.Unload
word_of (command.Activate slot) = word.Activate
word_of (command.Deactivate slot) = word.Deactivate
word_of (command.Execute slot set p1 p2 budget) = word.Execute
word_of (command.Abort cid) = word.Abort

-- what a command is to those that carry it out
abbrev pub nature_of : Command → Nature
nature_of (command.NvmRead ns lba count) = nature.Reads
nature_of (command.NvmWrite ns lba bytes) = nature.Writes
nature_of (command.NvmZeroes ns lba count) = nature.Writes
nature_of (command.NvmCopy ns lba from) = nature.Copies
nature_of (command.MemRead ns at len) = nature.Reads
nature_of (command.MemWrite ns at bytes) = nature.Writes
nature_of (command.MemFill ns at len value) = nature.Writes
nature_of (command.MemCopy ns at from) = nature.Copies
nature_of (command.SetCreate ranges) = nature.Arranges
nature_of (command.SetDelete set) = nature.Deletes set
nature_of (command.Load slot size at bytes) = nature.Builds
nature_of (command.Unload slot) = nature.Arranges
nature_of (command.Activate slot) = nature.Builds
nature_of (command.Deactivate slot) = nature.Stops slot
nature_of (command.Execute slot set p1 p2 budget) = nature.Executes slot set
nature_of (command.Abort cid) = nature.Withdraws cid

-- whether a command of this nature reads or writes bytes of namespaces
abbrev pub is_moving : Nature → Bool
is_moving nature.Reads = true
is_moving nature.Writes = true
is_moving nature.Copies = true
is_moving (nature.Executes slot set) = true
is_moving nature.Builds = false
is_moving nature.Arranges = false
is_moving (nature.Deletes set) = false
is_moving (nature.Stops slot) = false
is_moving (nature.Withdraws cid) = false

-- whether a command of this nature is an execution
abbrev pub is_executing : Nature → Bool
is_executing nature.Reads = false
is_executing nature.Writes = false
is_executing nature.Copies = false
is_executing (nature.Executes slot set) = true
is_executing nature.Builds = false
is_executing nature.Arranges = false
is_executing (nature.Deletes set) = false
is_executing (nature.Stops slot) = false
is_executing (nature.Withdraws cid) = false

-- whether a command of this nature that passes its checks takes memory
abbrev pub is_taking : Nature → Bool
is_taking nature.Reads = true
is_taking nature.Writes = true
is_taking nature.Copies = true
is_taking (nature.Executes slot set) = true
is_taking nature.Builds = true
is_taking nature.Arranges = false
is_taking (nature.Deletes set) = false
is_taking (nature.Stops slot) = false
is_taking (nature.Withdraws cid) = false

-- the identifier of the command that a command of this nature withdraws
abbrev pub withdrawn_by : Nature → Option ℕ
withdrawn_by nature.Reads = None
withdrawn_by nature.Writes = None
withdrawn_by nature.Copies = None
withdrawn_by (nature.Executes slot set) = None
withdrawn_by nature.Builds = None
withdrawn_by nature.Arranges = None
withdrawn_by (nature.Deletes set) = None
withdrawn_by (nature.Stops slot) = None
withdrawn_by (nature.Withdraws cid) = Some cid

-- the identifier that an Abort names; none for any other command
abbrev pub aborted_cid : Command → Option ℕ
aborted_cid cmd = withdrawn_by (nature_of cmd)
