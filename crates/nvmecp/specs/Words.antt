-- The words of the command line. This project's own.
use Rattle.std.specs.Prelude.{ℕ, ◌≤◌, Bool, false, List, [], ◌∷◌, Option, Some, None, codes, option_and_then}
use Rattle.std.specs.Str.{bytes_eq}
use Rattle.cp_base.specs.declared.limits.TheConstants.{MAX_HOSTS}
use Rattle.cp_line.specs.Orders.{order_of}
use Rattle.cp_line.specs.declared.limits.TheConstants.{MAX_MADE}
use Rattle.cp_line.specs.declared.order.Order.{Order}
use Rattle.cp_line.specs.declared.order.Order.TheVariants as order
use Rattle.nvmecp.specs.Asm.{asm_task}
use Rattle.nvmecp.specs.Check.{check_task}
use Rattle.nvmecp.specs.Dis.{dis_task}
use Rattle.nvmecp.specs.Step.{step_task}
use Rattle.nvmecp.specs.Task.{Task}
use Rattle.nvmecp.specs.Upgrade.{upgrade_task}
use Rattle.nvmecp.specs.declared.words.Asked.{Asked}
use Rattle.nvmecp.specs.declared.words.Asked.TheVariants as asked
use Rattle.nvmecp.specs.declared.words.Errand.{Errand}
use Rattle.nvmecp.specs.declared.words.Errand.TheVariants as errand
use Rattle.nvmecp.specs.declared.words.Load.{Load}

-- what `run` does on an order; None for threads, which are of `serve`
abbrev pub errand_by : Order → Option Errand
errand_by (order.Step workers choices) = Some (errand.Answer (asked.Step workers choices))
errand_by (order.Serve workers) = None
errand_by (order.Make seed commands) = Some (errand.Make (record { seed = seed; commands = commands }))
errand_by order.Asm = Some (errand.Answer asked.Asm)
errand_by order.Dis = Some (errand.Answer asked.Dis)
errand_by order.Upgrade = Some (errand.Answer asked.Upgrade)
errand_by order.Check = Some (errand.Answer asked.Check)

-- what `run` does on words; None where they are no order, or one for threads
abbrev pub errand_of : List (List ℕ) → Option Errand
errand_of words = option_and_then errand_by (order_of words)

-- what is asked of an input
abbrev pub question_in : Errand → Option Asked
question_in (errand.Answer question) = Some question
question_in (errand.Make load) = None

-- the load that is to be made
abbrev pub load_in : Errand → Option Load
load_in (errand.Answer question) = None
load_in (errand.Make load) = Some load

-- what the words ask of an input; None where they are wrong, or want none
abbrev pub asked_of : List (List ℕ) → Option Asked
asked_of words = option_and_then question_in (errand_of words)

-- the load that the words ask for; None where they are wrong, or want an input
abbrev pub load_of : List (List ℕ) → Option Load
load_of words = option_and_then load_in (errand_of words)

-- the workers of an order for threads
abbrev pub workers_in : Order → Option ℕ
workers_in (order.Step workers choices) = None
workers_in (order.Serve workers) = Some workers
workers_in (order.Make seed commands) = None
workers_in order.Asm = None
workers_in order.Dis = None
workers_in order.Upgrade = None
workers_in order.Check = None

-- the workers that words ask for, which are an order for threads; None for all other words
abbrev pub workers_of_words : List (List ℕ) → Option ℕ
workers_of_words words = option_and_then workers_in (order_of words)

-- workers that words ask for are 1 to 16
abbrev pub AreInRange : ℕ → Type 0
AreInRange workers = (1 ≤ workers) × (workers ≤ MAX_HOSTS)

-- whether the first word is that of threads
abbrev pub begins_with_serve : List (List ℕ) → Bool
begins_with_serve [] = false
begins_with_serve (word ∷ words) = bytes_eq word (codes "serve")

-- workers that are asked for are 1 to 16
abbrev pub HasWorkers : Asked → Type 0
HasWorkers (asked.Step workers choices) = (1 ≤ workers) × (workers ≤ MAX_HOSTS)
HasWorkers asked.Asm = Unit {0}
HasWorkers asked.Dis = Unit {0}
HasWorkers asked.Upgrade = Unit {0}
HasWorkers asked.Check = Unit {0}

-- the numbers of an errand are in their ranges: workers are 1 to 16, and a load has at most 8,192 commands
abbrev pub IsInRange : Errand → Type 0
IsInRange (errand.Answer question) = HasWorkers question
IsInRange (errand.Make load) = load.commands ≤ MAX_MADE

-- what is done with the input
abbrev pub task_of : Asked → Task
task_of (asked.Step workers choices) = step_task workers choices
task_of asked.Asm = asm_task
task_of asked.Dis = dis_task
task_of asked.Upgrade = upgrade_task
task_of asked.Check = check_task
