-- What names another command is an Abort, and names an earlier one.
use Rattle.std.proofs.Common.{◌≡◌, ℕ, ◌+◌, ◌<◌, ◌==◌, not, List, [], ◌∷◌, ◌++◌, Option, Some, None, filter, refl, arith}
use Rattle.std.specs.List.{AllByRecursion}
use Rattle.cp_base.specs.declared.commands.Command.{Command}
use Rattle.cp_base.specs.declared.commands.Command.TheVariants as command
use Rattle.script_cmds.specs.declared.item.Item.{Item}
use Rattle.script_cmds.specs.declared.item.Item.TheVariants as item
use Rattle.script_cmds.specs.declared.item.HostPart.{HostPart}
use Rattle.script_cmds.specs.declared.item.Phase.{Phase}
use Rattle.history_model.specs.Sent.{Sent, Waiting, named_in, next_ordinal, ordinals_of, sends_of, sends_of_items, sends_of_parts, sends_of_phases}
use Rattle.history_model.proofs.Every.{every-append, every-filter, every-weaker}
use Rattle.history_check.proofs.Naming.{named-waits}

-- an Abort that names an earlier command, where it names one
pub record NamesEarlier (s : Sent) (n : ℕ) : Type 0 where
  pub earlier : n < s.ordinal
  pub cid : ℕ
  pub abort : s.command ≡ command.Abort cid

abbrev pub MayName : Sent → Type 0
MayName s = (n : ℕ) → s.named ≡ Some n → NamesEarlier s n

not-named : {A : Type 0} (n : ℕ) → None ≡ Some n → A
not-named n e = absurd (differ e)
  where
    differ : None ≡ Some n → ⊥
    differ e = cc

is-abort : (waiting : List Waiting) (cmd : Command) (n : ℕ) → named_in waiting cmd ≡ Some n → (cid : ℕ) × (cmd ≡ command.Abort cid)
is-abort waiting (command.Abort cid) n e = (cid, refl)
is-abort waiting (command.NvmRead ns lba count) n e = not-named n e
is-abort waiting (command.NvmWrite ns lba bytes) n e = not-named n e
is-abort waiting (command.NvmZeroes ns lba count) n e = not-named n e
is-abort waiting (command.NvmCopy ns lba from) n e = not-named n e
is-abort waiting (command.MemRead ns at len) n e = not-named n e
is-abort waiting (command.MemWrite ns at bytes) n e = not-named n e
is-abort waiting (command.MemFill ns at len value) n e = not-named n e
is-abort waiting (command.MemCopy ns at from) n e = not-named n e
is-abort waiting (command.SetCreate ranges) n e = not-named n e
is-abort waiting (command.SetDelete set) n e = not-named n e
is-abort waiting (command.Load slot size at bytes) n e = not-named n e
is-abort waiting (command.Unload slot) n e = not-named n e
is-abort waiting (command.Activate slot) n e = not-named n e
is-abort waiting (command.Deactivate slot) n e = not-named n e
is-abort waiting (command.Execute slot set p1 p2 budget) n e = not-named n e

abbrev AllBelow : ℕ → List Waiting → Type 0
AllBelow ordinal waiting = AllByRecursion (λ (w : Waiting). w.ordinal < ordinal) waiting

items-name : (host phase ordinal : ℕ) (waiting : List Waiting) (taken : List ℕ) (items : List Item) → AllBelow ordinal waiting
    → AllByRecursion MayName (sends_of_items host phase ordinal waiting taken items)
items-name host phase ordinal waiting taken [] below = tt
items-name host phase ordinal waiting taken (item.Send cid cmd ∷ items) below =
    let here : Waiting = record { cid = cid; ordinal = ordinal } in
    let wider : AllBelow (ordinal + 1) waiting =
    every-weaker (λ (w : Waiting). w.ordinal < ordinal) (λ (w : Waiting). w.ordinal < ordinal + 1) (λ w lt. omega (arith, lt)) waiting below in (
      (λ n e. (let a = is-abort waiting cmd.value n e in record { earlier = named-waits (λ k. k < ordinal) waiting cmd.value n below e; cid = a.0; abort = a.1 })),
      items-name host phase (ordinal + 1) (waiting ++ here ∷ []) taken items (every-append (λ (w : Waiting). w.ordinal < ordinal + 1) waiting (here ∷ []) wider (omega arith, tt)),
    )
items-name host phase ordinal waiting taken (item.Take cid ∷ items) below =
    items-name host phase ordinal (filter (λ (w : Waiting). not (w.cid == cid)) waiting) (taken ++ ordinals_of cid waiting) items
    (every-filter (λ (w : Waiting). w.ordinal < ordinal) (λ (w : Waiting). not (w.cid == cid)) waiting below)

parts-name : (phase : ℕ) (earlier : List Sent) (parts : List HostPart) → AllByRecursion MayName earlier → AllByRecursion MayName (sends_of_parts phase earlier parts)
parts-name phase earlier [] all = all
parts-name phase earlier (part ∷ parts) all =
    let new : List Sent = sends_of_items part.host phase (next_ordinal part.host earlier) [] [] part.items in
    parts-name phase (earlier ++ new) parts (every-append MayName earlier new all (items-name part.host phase (next_ordinal part.host earlier) [] [] part.items tt))

phases-name : (phase : ℕ) (earlier : List Sent) (phases : List Phase) → AllByRecursion MayName earlier → AllByRecursion MayName (sends_of_phases phase earlier phases)
phases-name phase earlier [] all = all
phases-name phase earlier (p ∷ phases) all = phases-name (phase + 1) (sends_of_parts phase earlier p.hosts) phases (parts-name phase earlier p.hosts all)

pub sends-name : (plan : List Phase) → AllByRecursion MayName (sends_of plan)
sends-name plan = phases-name 1 [] plan tt
