-- The words of the command line: the table of the orders, and which order words are. This project's own.
use Rattle.std.specs.Prelude.{ℕ, ◌^◌, ◌<◌, ◌≤◌, nat_le, ◌&&◌, List, [], ◌∷◌, Option, Some, None, if◌then◌else◌, codes, decimal}
use Rattle.std.specs.Str.{bytes_eq}
use Rattle.cp_base.specs.declared.limits.TheConstants.{MAX_HOSTS}
use Rattle.cp_text.specs.Number.{spelled_number}
use Rattle.cp_line.specs.declared.limits.TheConstants.{MAX_MADE}
use Rattle.cp_line.specs.declared.order.Order.{Order}
use Rattle.cp_line.specs.declared.order.Order.TheVariants as order

-- the words of an order: the table
abbrev pub words_of : Order → List (List ℕ)
words_of (order.Step workers choices) = codes "step" ∷ decimal workers ∷ decimal choices ∷ []
words_of (order.Serve workers) = codes "serve" ∷ decimal workers ∷ []
words_of (order.Make seed commands) = codes "make" ∷ decimal seed ∷ decimal commands ∷ []
words_of order.Asm = codes "asm" ∷ []
words_of order.Dis = codes "dis" ∷ []
words_of order.Upgrade = codes "upgrade" ∷ []
words_of order.Check = codes "check" ∷ []

-- the numbers of an order are in the table's ranges: 1 to 16 workers, choices and a seed of 64 bits, and no
-- more commands than a load has
abbrev pub IsInTable : Order → Type 0
IsInTable (order.Step workers choices) = (1 ≤ workers) × (workers ≤ MAX_HOSTS) × (choices < 2 ^ 64)
IsInTable (order.Serve workers) = (1 ≤ workers) × (workers ≤ MAX_HOSTS)
IsInTable (order.Make seed commands) = (seed < 2 ^ 64) × (commands ≤ MAX_MADE)
IsInTable order.Asm = Unit {0}
IsInTable order.Dis = Unit {0}
IsInTable order.Upgrade = Unit {0}
IsInTable order.Check = Unit {0}

-- a number that may be missing, where it is at least and at most this
abbrev pub within : ℕ → ℕ → Option ℕ → Option ℕ
within least most None = None
within least most (Some n) = if nat_le least n && nat_le n most then Some n else None

-- the number of workers that a text spells
abbrev pub workers_of : List ℕ → Option ℕ
workers_of text = within 1 MAX_HOSTS (spelled_number text)

-- the number of a load's commands that a text spells
abbrev pub made_of : List ℕ → Option ℕ
made_of text = within 0 MAX_MADE (spelled_number text)

-- two numbers that may be missing, made an order
abbrev pub with_two : (ℕ → ℕ → Order) → Option ℕ → Option ℕ → Option Order
with_two make None second = None
with_two make (Some a) None = None
with_two make (Some a) (Some b) = Some (make a b)

-- one number that may be missing, made an order
abbrev pub with_one : (ℕ → Order) → Option ℕ → Option Order
with_one make None = None
with_one make (Some a) = Some (make a)

-- what a word alone orders
abbrev pub order_of_word : List ℕ → Option Order
order_of_word word =
    if bytes_eq word (codes "asm") then Some order.Asm
    else if bytes_eq word (codes "dis") then Some order.Dis
    else if bytes_eq word (codes "upgrade") then Some order.Upgrade
    else if bytes_eq word (codes "check") then Some order.Check
    else None

-- what a word and another order
abbrev pub order_of_two : List ℕ → List ℕ → Option Order
order_of_two word first =
    if bytes_eq word (codes "serve") then with_one (λ workers. order.Serve workers) (workers_of first) else None

-- what a word and two others order
abbrev pub order_of_three : List ℕ → List ℕ → List ℕ → Option Order
order_of_three word first second =
    if bytes_eq word (codes "step") then with_two (λ workers choices. order.Step workers choices) (workers_of first) (spelled_number second)
    else if bytes_eq word (codes "make") then with_two (λ seed commands. order.Make seed commands) (spelled_number first) (made_of second)
    else None

-- the order that words are; None where they are those of none
abbrev pub order_of : List (List ℕ) → Option Order
order_of (word ∷ []) = order_of_word word
order_of (word ∷ first ∷ []) = order_of_two word first
order_of (word ∷ first ∷ second ∷ []) = order_of_three word first second
order_of _ = None
