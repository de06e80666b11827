-- What the pass of a party knows, by its place, and what it may have learned since.
use Rattle.std.specs.Prelude.{◌≡◌, ℕ, List, [], Option, Some, None}
use Rattle.seat_lock.specs.Trails.{BeginsWith}
use Rattle.seat_lock.specs.Views.{note}
use Rattle.seat_lock.specs.Passes.{view_of, at_home}
use Rattle.seat_lock.specs.declared.types.View.{View}
use Rattle.seat_lock.specs.declared.types.Pass.{Pass}
use Rattle.seat_lock.specs.declared.types.Passes.{Passes}

module _ {E F : Type 0} where
  -- what a pass knows, or nothing where there is none
  abbrev pub view_in : Option (Pass E F) → View E F
  view_in None = note []
  view_in (Some p) = view_of p

  -- what the pass of this party knows, if it is at home
  abbrev pub view_at : Passes E F → ℕ → View E F
  view_at ps n = view_in (at_home ps n)

  -- what the pass of this party has seen, if it is at home
  abbrev pub seen_at : Passes E F → ℕ → List E
  seen_at ps n = (view_at ps n).seen

  -- the second view is a later one of the same party, which has made nothing in between
  pub record HasLearned (v w : View E F) : Type 0 where
    pub seen : BeginsWith w.seen v.seen
    pub made : w.mine ≡ v.mine
    pub lost : BeginsWith w.lost v.lost
