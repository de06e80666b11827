-- What party 1 keeps of the other passes when a lock ends.
use Rattle.std.specs.Prelude.{◌≡◌, ℕ, ◌≤◌, Some, false}
use mathlib.Core.Option.{some}
use lib.ListN.{get_elem?}
use Rattle.seat_lock.specs.Passes.{LockName, at_home, seen_by, made_by}
use Rattle.seat_lock.specs.declared.types.View.{View}
use Rattle.seat_lock.specs.declared.types.Account.{Account}
use Rattle.seat_lock.specs.declared.types.Pass.{Pass}
use Rattle.seat_lock.specs.declared.types.Passes.{Passes}

module _ {E F : Type 0} where
  -- the account of a pass
  abbrev pub account_for : ℕ → Pass E F → Account E
  account_for n p = record { number = n; seen = seen_by p; mine = made_by p }

  -- the view is that of party 1, and keeps an account of each of the parties up to this one
  pub record HasKept (lock : LockName F) (ps : Passes E F) (count : ℕ) (v : View E F) : Type 0 where
    pub one : v.number ≡ 1
    pub rests : v.has_turn ≡ false
    pub counts : v.made ≡ lock.seats
    pub first : (p : Pass E F) → at_home ps 1 ≡ Some p → (v.seen ≡ seen_by p) × (v.mine ≡ made_by p)
    pub kept : (n : ℕ) (p : Pass E F) → 2 ≤ n → n ≤ count → at_home ps n ≡ Some p
        → (k : ℕ) × (get_elem? v.kept k ≡ some (account_for n p))
