-- The history that a trail tells of a plan. This project's own.
use Rattle.std.specs.Prelude.{◌≡◌, ℕ, List, [], ◌∷◌, slice_get}
use Rattle.cp_base.specs.Configuration.{Configuration}
use Rattle.cp_base.specs.Contents.{bytes_of}
use Rattle.cp_base.specs.declared.region.SpaceId.{SpaceId}
use Rattle.script_cmds.specs.declared.item.Phase.{Phase}
use Rattle.history_model.specs.Entry.{Entry}
use Rattle.history_model.specs.Legal.{IsLegal, last_state}
use Rattle.trail_model.specs.World.{Completion, World, home, outstanding_of}

-- an entry tells a completion: the command of this host and ordinal, with its identifier, and the answer
pub record EntryTells (done : Completion) (entry : Entry) : Type 0 where
  pub host : entry.sent.host ≡ done.request.host
  pub ordinal : entry.sent.ordinal ≡ done.request.ordinal
  pub cid : entry.sent.cid ≡ done.request.cid
  pub command : entry.sent.command ≡ done.request.command
  pub answer : entry.answer ≡ done.answer

-- each completion by its entry, in order
abbrev pub AreTold : List Completion → List Entry → Type 0
AreTold [] [] = Unit {0}
AreTold [] (entry ∷ entries) = ⊥
AreTold (done ∷ history) [] = ⊥
AreTold (done ∷ history) (entry ∷ entries) = EntryTells done entry × AreTold history entries

-- A world tells a plan: its completions are a legal history of the plan, which leads to its state. No command is
-- outstanding, no claim is open, and each byte is at home.
pub record TellsPlan (c : Configuration) (plan : List Phase) (w : World) : Type 0 where
  pub history : List Entry
  pub told : AreTold w.history history
  pub legal : IsLegal c plan history
  pub last : last_state c history ≡ w.state
  pub none_outstanding : (host : ℕ) → outstanding_of w.submits host ≡ []
  pub none_open : w.claims ≡ []
  pub at_home : (space : SpaceId) (offset : ℕ)
      → home c w space offset ≡ slice_get (bytes_of (last_state c history).contents space) offset
