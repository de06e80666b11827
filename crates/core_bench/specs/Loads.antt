-- What the loads are made of. This project's own.
use Rattle.std.specs.Prelude.{◌≡◌, ℕ, ◌+◌, ◌-◌, ◌*◌, ◌/◌, ◌%◌, Bool, true, false, if◌then◌else◌, replicate}
use Rattle.cp_base.specs.Configuration.{Configuration, bare, with_size}
use Rattle.cp_base.specs.declared.commands.Command.{Command}
use Rattle.cp_base.specs.declared.commands.Command.TheVariants as command
use Rattle.cp_base.specs.declared.limits.TheConstants.{MAX_NAMESPACE, MAX_SPAN, MAX_TRANSFER}
use Rattle.cp_base.specs.declared.region.SpaceId.TheVariants.{Mem}
use Rattle.core_bench.specs.Progress.{ComesTo, SentCommand, sent_as}
use Rattle.core_bench.specs.declared.workload.Places.{Places}
use Rattle.core_bench.specs.declared.workload.Places.TheVariants.{One, Random, Ascending, Span, Read}
use Rattle.core_bench.specs.declared.workload.Workload.{Workload}
use Rattle.core_bench.specs.declared.workload.Workload.TheVariants.{OneByOne, Deep, DeepOnOne, FillAlone}

-- one memory namespace of a size, and queues of 256
abbrev pub plain_config : ℕ → Configuration
plain_config size = with_size (bare 512 256 1000) (Mem 1) size

-- a write of 16 bytes at a place
abbrev pub command_at : ℕ → Command
command_at at = command.MemWrite 1 at (record { items = replicate 16 7; spare = 0 })

-- a fill of the first bytes with a value
abbrev pub fill_at : ℕ → Command
fill_at value = command.MemFill 1 0 MAX_SPAN value

-- a read of the first bytes, as many as one read gives
abbrev pub read_first : Command
read_first = command.MemRead 1 0 MAX_TRANSFER

-- the command of a number, or of a word where places are random
abbrev pub command_of : Places → ℕ → ℕ → Command
command_of One number word = command_at 0
command_of Random number word = command_at (word % (MAX_NAMESPACE - 16))
command_of Ascending number word = command_at (number * 64 % MAX_NAMESPACE)
command_of Span number word = fill_at (number % 256)
command_of Read number word = read_first

-- host 1 sends the command of a number under identifier 1
pub record IsByOne (places : Places) (number : ℕ) (sent : SentCommand) : Type 0 where
  pub word : ℕ
  pub same : sent ≡ sent_as 1 1 (command_of places number word)

-- where the command of a number writes in a deep queue: apart from those of 4,096 numbers, or all at one place
abbrev pub place_of : Bool → ℕ → ℕ
place_of apart number = if apart then 64 * (number % 4096) else 0

-- the command of a number where 16 hosts send in turn, each under its 256 identifiers in turn
abbrev pub sent_in_turn : Bool → ℕ → SentCommand
sent_in_turn apart number = sent_as (1 + number % 16) (number / 16 % 256) (command_at (place_of apart number))

-- what was sent is this command
abbrev pub IsInTurn : Bool → ℕ → SentCommand → Type 0
IsInTurn apart number sent = sent ≡ sent_in_turn apart number

-- how many claims are open: one for each host where the writes are apart, else one
abbrev pub claims_where : Bool → ℕ
claims_where apart = if apart then 16 else 1

-- what so many rounds of a workload come to on its device, where it has one
abbrev pub HasDone : Workload → ℕ → Type 0
HasDone (OneByOne places) rounds = ComesTo (plain_config MAX_NAMESPACE) rounds 0 rounds (IsByOne places)
HasDone Deep rounds = ComesTo (plain_config MAX_NAMESPACE) (rounds + 4096) 16 rounds (IsInTurn true)
HasDone DeepOnOne rounds = ComesTo (plain_config MAX_NAMESPACE) (rounds + 4096) 1 rounds (IsInTurn false)
HasDone FillAlone rounds = Unit {0}
