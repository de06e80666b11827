-- The rule of the lock: what holds between any two steps.
use Rattle.std.specs.Prelude.{◌≡◌, ◌≢◌, ℕ, ◌^◌, ◌<◌, ◌≤◌, List, [], ◌∷◌, length, All, Option, Some, true}
use mathlib.Core.Option.{none, some}
use lib.ListN.{get_elem?}
use Rattle.atomic_table.specs.Table.{State}
use Rattle.seat_lock.specs.Trails.{BeginsWith, entries_by}
use Rattle.seat_lock.specs.declared.types.View.{View}
use Rattle.seat_lock.specs.declared.types.Account.{Account}
use Rattle.seat_lock.specs.declared.types.About.{About}

module _ {E : Type 0} (party : E → ℕ) where
  -- what holds of an account that the view of the seat keeps. seat_of tells the seat that has a party's number
  pub record AccountFits (trail : List E) (made : ℕ) (seat_of : ℕ → ℕ) (seat own : ℕ) (a : Account E) : Type 0 where
    pub seen : BeginsWith trail a.seen
    pub mine : a.number ≢ 0 → entries_by party a.number trail ≡ a.mine
    pub place : a.number ≢ 0 → (seat_of a.number ≡ seat) × (a.number ≢ own) × (a.number ≤ made)

  -- the number of the party that made the entry is one that was given out
  abbrev pub IsMade : ℕ → E → Type 0
  IsMade made e = (party e ≢ 0) × (party e ≤ made)

  -- what holds of the view of the seat
  pub record ViewFits {F : Type 0} (first : F) (trail : List E) (turn made : ℕ) (seat_of : ℕ → ℕ) (seat : ℕ) (v : View E F) : Type 0 where
    pub seen : BeginsWith trail v.seen
    pub mine : v.number ≢ 0 → (entries_by party v.number trail ≡ v.mine) × (entries_by party v.number v.seen ≡ v.mine)
    pub place : v.number ≢ 0 → (seat_of v.number ≡ seat) × (v.number ≤ made)
    pub fixed : (f : F) → v.fixed ≡ Some f → f ≡ first
    pub turn_is : v.has_turn ≡ true → (v.number ≡ turn) × (turn ≢ 0) × (v.seen ≡ trail)
    pub turn_has : turn ≢ 0 → v.number ≡ turn → v.has_turn ≡ true
    pub counts : v.number ≡ 1 → v.made ≡ made
    pub kept : (k : ℕ) (a : Account E) → get_elem? v.kept k ≡ some a → AccountFits trail made seat_of seat v.number a

  -- There is one whole trail, as long as word 1 says, which each view fits. The slot is at home exactly where no party has the turn
  pub record Ruled {V F : Type 0} (entries : V → List E) (fixed : V → F) (about : About V) (s : State (Option V) (View E F)) : Type 0 where
    pub trail : List E
    pub turn : ℕ
    pub made : ℕ
    pub seat_of : ℕ → ℕ
    pub words : s.words ≡ turn ∷ length trail ∷ []
    pub short : length trail < 2 ^ 32
    pub enough : made ≤ about.seats
    pub makers : All (IsMade made) trail
    pub each : (seat : ℕ) (v : View E F) → get_elem? s.views seat ≡ some v
        → ViewFits (fixed about.first.value) trail turn made seat_of seat v
    pub holder : turn ≢ 0 → (v : View E F) × (get_elem? s.views (seat_of turn) ≡ some v) × (v.number ≡ turn)
    pub home : turn ≡ 0
        → (x : V) × (s.homes ≡ some (Some x) ∷ []) × (entries x ≡ trail) × (fixed x ≡ fixed about.first.value)
    pub out : turn ≢ 0 → s.homes ≡ none ∷ []
