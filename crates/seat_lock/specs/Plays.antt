-- What each step on the table tells, and how views are cut and joined.
use Rattle.std.specs.Prelude.{◌≡◌, ◌≢◌, ℕ, ◌+◌, ◌^◌, ◌<◌, List, [], ◌∷◌, ◌++◌, length, Option, Some, true, false}
use mathlib.Core.Option.{some}
use lib.ListN.{get_elem?}
use Rattle.atomic_table.specs.Table.{Me, Step}
use Rattle.seat_lock.specs.Trails.{BeginsWith, entries_by, longer}
use Rattle.seat_lock.specs.Views.{new_party, account_of}
use Rattle.seat_lock.specs.declared.types.View.{View}
use Rattle.seat_lock.specs.declared.types.Account.{Account}

module _ {E F : Type 0} where
  -- the view once it has the turn, and with it has seen this trail
  abbrev pub with_turn : List E → View E F → View E F
  with_turn trail v = record v { seen = trail; has_turn = true }

  abbrev pub with_lost : ℕ → View E F → View E F
  with_lost word v = record v { lost = v.lost ++ word ∷ [] }

  -- the view once this trail is counted: what it made is all that the trail has of it
  abbrev pub with_trail : (E → ℕ) → List E → View E F → View E F
  with_trail party trail v = record v { seen = trail; mine = entries_by party v.number trail }

  -- the view once it gave the turn back. It forgets what it kept of others
  abbrev pub at_rest : View E F → View E F
  at_rest v = record v { has_turn = false; kept = [] }

  -- party 1 counts one party more
  abbrev pub with_party_made : View E F → View E F
  with_party_made v = record v { made = v.made + 1 }

  abbrev pub next_party : View E F → View E F
  next_party v = new_party (v.made + 1) v.fixed

  -- the view keeps an account of the other
  abbrev pub keeping : View E F → View E F → View E F
  keeping v w = record v { kept = account_of w ∷ v.kept }

  -- the view once it has seen this trail. It forgets what it kept of others
  abbrev pub with_seen : List E → View E F → View E F
  with_seen trail v = record v { seen = trail; kept = [] }

module _ {V E F : Type 0} (party : E → ℕ) (entries : V → List E) (fixed : V → F) where
  abbrev Sat : Type 0
  Sat = Me (Option V) (View E F)

  abbrev At : Type 0
  At = Step (Option V)

  -- what the value of a turn that is won shows of the view, of what it keeps, and of its own fixed part
  pub record Wins (v : View E F) (x : V) : Type 0 where
    pub short : length (entries x) < 2 ^ 32
    pub seen : BeginsWith (entries x) v.seen
    pub mine : v.number ≢ 0
        → (entries_by party v.number (entries x) ≡ v.mine) × (entries_by party v.number v.seen ≡ v.mine)
    pub same : (f : F) → v.fixed ≡ Some f → fixed x ≡ f
    pub kept : (k : ℕ) (a : Account E) → get_elem? v.kept k ≡ some a
        → BeginsWith (entries x) a.seen × (a.number ≢ 0 → entries_by party a.number (entries x) ≡ a.mine)

  -- a try for the turn, which read this word
  abbrev pub tried : At → Sat → ℕ → Sat → Type 0
  tried st m word m' =
      (word ≡ 0 → (x : V) × (m' ≡ (with_turn (entries x) m.0, (0, Some x) ∷ m.1)) × Wins m.0 x)
      × (word ≢ 0 → (m' ≡ (with_lost word m.0, m.1)) × (word ≢ m.0.number))

  -- the trail of the value in hand is counted
  abbrev pub counted : At → Sat → ℕ → Sat → Type 0
  counted st m word m' = ((x : V) → m.1 ≡ (0, Some x) ∷ [] → m' ≡ (with_trail party (entries x) m.0, m.1)) × (entries_by party m.0.number m.0.seen ≡ m.0.mine)

  -- the turn is given back
  abbrev pub released : At → Sat → ℕ → Sat → Type 0
  released st m word m' = m' ≡ (at_rest m.0, [])

  -- of what a view has seen and another trail the longer begins with both, and its entries of the view's party are those that the view made
  pub record Learns (v : View E F) (other : List E) : Type 0 where
    pub own : BeginsWith (longer v.seen other) v.seen
    pub told : BeginsWith (longer v.seen other) other
    pub mine : v.number ≢ 0 → entries_by party v.number (longer v.seen other) ≡ v.mine

  -- a look at the table, by which a view learns what the one account that it keeps has seen, if that is more
  abbrev pub learned : At → Sat → ℕ → Sat → Type 0
  learned st m word m' = (a : Account E) → m.0.kept ≡ a ∷ [] → (m' ≡ (with_seen (longer m.0.seen a.seen) m.0, m.1)) × Learns m.0 a.seen
