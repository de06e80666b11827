-- How a turn lends its value.
use mir.Syntax.{named}
use denote.RattleType.{RattleType}
use Rattle.std.specs.Prelude.{[]}
use Rattle.std.specs.Borrow.{Lends, MutBor, Fml}
use Rattle.seat_lock.specs.declared.trailed.Trailed.{Ghosts}
use Rattle.seat_lock.specs.declared.types.Turn.{Turn}
use Rattle.seat_lock.specs.contracts.types.Turn.{the_row}

-- the turn with this value
abbrev pub turn_with : {V E F : Type 0} → Turn V E F → V → Turn V E F
turn_with t x = record t { value = x }

module _ (V E F : RattleType) (g : Ghosts V.Denot E.Denot F.Denot) where
  -- once the borrow r ends, the turn has the value that was last written through r
  abbrev pub LendsValue : MutBor (Turn V.Denot E.Denot F.Denot) → MutBor V.Denot → Fml
  LendsValue t r = Lends (the_row (record { mir = named 1; lft = [] }) V E F g) V t r (turn_with t.now)
