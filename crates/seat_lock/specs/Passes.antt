-- What contracts say of locks, passes and turns. The crates above speak of them through these words alone.
use Rattle.std.specs.Prelude.{◌≡◌, ℕ, zero, suc, ◌^◌, ◌<◌, ◌≤◌, ◌⊎◌, List, [], ◌∷◌, ◌++◌, Option, Some, None, length, slice_get}
use Rattle.std.specs.Prelude.{option_and_then}
use Rattle.atomic_table.specs.Seated.{TableId}
use Rattle.seat_lock.specs.Trails.{entries_by}
use Rattle.seat_lock.specs.Views.{lone}
use Rattle.seat_lock.specs.declared.types.View.{View}
use Rattle.seat_lock.specs.declared.types.SeatLock.{SeatLock}
use Rattle.seat_lock.specs.declared.types.Pass.{Pass}
use Rattle.seat_lock.specs.declared.types.Turn.{Turn}
use Rattle.seat_lock.specs.declared.types.Passes.{Passes}

module _ {E : Type 0} where
  -- this party adds one entry to the trail or none
  abbrev pub AddsAtMostOne : (E → ℕ) → ℕ → List E → List E → Type 0
  AddsAtMostOne party number old new = (new ≡ old) ⊎ ((e : E) × (new ≡ old ++ e ∷ []) × (party e ≡ number))

  -- what was made is as before where the trail is, and where the trail has one entry more, that entry is the last that was made
  pub record MadeInTurn (old new made made' : List E) : Type 0 where
    pub none : new ≡ old → made' ≡ made
    pub one : (e : E) → new ≡ old ++ e ∷ [] → made' ≡ made ++ e ∷ []

-- Which lock it is: its table, the fixed part of the value that it was made with, and its number of seats
pub record LockName (F : Type 0) : Type 0 where
  pub table : TableId
  pub fixed : Option F
  pub seats : ℕ

module _ {E F : Type 0} where
  -- all that a pass knows
  abbrev pub view_of : Pass E F → View E F
  view_of p = lone p.badge.views

  -- the number of its party
  abbrev pub party_of : Pass E F → ℕ
  party_of p = p.number

  -- what it has seen of the trail
  abbrev pub seen_by : Pass E F → List E
  seen_by p = (view_of p).seen

  -- the entries that it made
  abbrev pub made_by : Pass E F → List E
  made_by p = (view_of p).mine

  -- the word that each of its tries found which did not get the turn, in order
  abbrev pub lost_by : Pass E F → List ℕ
  lost_by p = (view_of p).lost

  -- it is a pass of this lock, and the entries of its party in what it has seen are those that it made
  pub record IsPassOf (party : E → ℕ) (lock : LockName F) (p : Pass E F) : Type 0 where
    pub table : p.badge.table_id ≡ lock.table
    pub fixed : (view_of p).fixed ≡ lock.fixed
    pub counts : p.number ≡ 1 → (view_of p).made ≡ lock.seats
    pub own : entries_by party p.number (view_of p).seen ≡ (view_of p).mine

module _ {V E F : Type 0} where
  -- which lock it is, where `fixed` gives the fixed part of a value
  abbrev pub lock_of : (V → F) → SeatLock V E F → LockName F
  lock_of fixed l = record { table = l.table.shared.table_id; fixed = Some (fixed l.table.shared.key.first.value); seats = l.table.shared.key.seats }

  -- the trail is that of a value with the fixed part of this lock
  pub record IsTrailOf (entries : V → List E) (fixed : V → F) (lock : LockName F) (trail : List E) : Type 0 where
    pub value : V
    pub entries_are : entries value ≡ trail
    pub fixed_is : Some (fixed value) ≡ lock.fixed
    pub short : length trail < 2 ^ 32

  -- which lock a turn is of
  abbrev pub lock_in : Turn V E F → LockName F
  lock_in t = record { table = t.shared.now.table_id; fixed = t.seat.me.0.fixed; seats = t.shared.now.key.seats }

  -- the number of the party that has the turn
  abbrev pub party_in : Turn V E F → ℕ
  party_in t = t.number

  -- the value, as it is now
  abbrev pub value_in : Turn V E F → V
  value_in t = t.value

  -- the trail that the value had when the turn began
  abbrev pub seen_in : Turn V E F → List E
  seen_in t = t.seat.me.0.seen

  -- the entries that the party made before this turn
  abbrev pub made_in : Turn V E F → List E
  made_in t = t.seat.me.0.mine

  -- the words that the party's lost tries read
  abbrev pub lost_in : Turn V E F → List ℕ
  lost_in t = t.seat.me.0.lost

module _ {E F : Type 0} where
  -- the pass in a place, if it is there
  abbrev pub in_place : List (Option (Pass E F)) → ℕ → Option (Pass E F)
  in_place places k = option_and_then (λ o. o) (slice_get places k)

  -- the number of parties, from 1
  abbrev pub seats_in : Passes E F → ℕ
  seats_in ps = length ps.places.items

  -- the pass of the party in its place, where the places are those of the parties from 1 on
  abbrev pub home_in : List (Option (Pass E F)) → ℕ → Option (Pass E F)
  home_in places zero = None
  home_in places (suc k) = in_place places k

  -- the pass of this party, if it is at home
  abbrev pub at_home : Passes E F → ℕ → Option (Pass E F)
  at_home ps n = home_in ps.places.items n

  -- the pass of this party is at home, and it is of this lock
  pub record IsHomeOf (party : E → ℕ) (lock : LockName F) (ps : Passes E F) (n : ℕ) (p : Pass E F) : Type 0 where
    pub home : at_home ps n ≡ Some p
    pub party_is : party_of p ≡ n
    pub of_lock : IsPassOf party lock p

  -- these passes are all of this lock, and all are at home
  pub record AreAllOf (party : E → ℕ) (lock : LockName F) (ps : Passes E F) : Type 0 where
    pub seats : seats_in ps ≡ lock.seats
    pub each : (n : ℕ) → 1 ≤ n → n ≤ seats_in ps → (p : Pass E F) × IsHomeOf party lock ps n p

  -- the pass of a party that has seen nothing, made nothing and lost no try. Party 1 has counted this many parties
  pub record IsNewPass (lock : LockName F) (counted n : ℕ) (p : Pass E F) : Type 0 where
    pub table : p.badge.table_id ≡ lock.table
    pub fixed : (view_of p).fixed ≡ lock.fixed
    pub party_is : p.number ≡ n
    pub counts : n ≡ 1 → (view_of p).made ≡ counted
    pub seen : seen_by p ≡ []
    pub made : made_by p ≡ []
    pub lost : lost_by p ≡ []

  -- all passes of the lock are at home, and new
  pub record AreAllNew (lock : LockName F) (ps : Passes E F) : Type 0 where
    pub seats : seats_in ps ≡ lock.seats
    pub each : (n : ℕ) → 1 ≤ n → n ≤ seats_in ps
        → (p : Pass E F) × (at_home ps n ≡ Some p) × IsNewPass lock lock.seats n p

  -- the passes have met: all that are at home have seen the same trail
  abbrev pub HaveMet : Passes E F → Type 0
  HaveMet ps = (n m : ℕ) (p q : Pass E F) → at_home ps n ≡ Some p → at_home ps m ≡ Some q → seen_by p ≡ seen_by q
