-- Views, as they begin and as they end.
use Rattle.std.specs.Prelude.{ℕ, List, [], ◌∷◌, Option, None, Some, false}
use Rattle.seat_lock.specs.declared.types.View.{View}
use Rattle.seat_lock.specs.declared.types.Account.{Account}

module _ {E F : Type 0} where
  -- the view of a party that has seen and made nothing
  abbrev pub new_party : ℕ → Option F → View E F
  new_party number fixed = record { number = number; fixed = fixed; seen = []; mine = []; lost = []; has_turn = false; kept = []; made = 0 }

  -- the view of party 1, the only one that was made
  abbrev pub first_view : F → View E F
  first_view fixed = record { number = 1; fixed = Some fixed; seen = []; mine = []; lost = []; has_turn = false; kept = []; made = 1 }

  -- a note of what was seen; with nothing seen, what a joined view leaves
  abbrev pub note : List E → View E F
  note seen = record { number = 0; fixed = None; seen = seen; mine = []; lost = []; has_turn = false; kept = []; made = 0 }

  abbrev pub account_of : View E F → Account E
  account_of v = record { number = v.number; seen = v.seen; mine = v.mine }

  -- the one view of a list
  abbrev pub lone : List (View E F) → View E F
  lone [] = note []
  lone (v ∷ vs) = v
