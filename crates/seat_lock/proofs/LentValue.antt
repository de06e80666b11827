-- A turn with another value, whatever shows that its facts hold.
use Rattle.std.proofs.Common.{◌≡◌, ◌≢◌, [], ◌∷◌, None, true}
use Rattle.std.proofs.Props.{props}
use Rattle.std.specs.Coded.{Coded-set, coded_option, coded_ℕ, coded_list, coded×}
use denote.RattleType.{RattleType}
use Rattle.atomic_table.specs.Seated.{table_id_coded}
use Rattle.seat_lock.specs.declared.types.Turn.{Turn}
use Rattle.seat_lock.specs.Lending.{turn_with}

module _ (V E F : RattleType) (t : Turn V.Denot E.Denot F.Denot) where
  abbrev Sized : Type 0
  Sized = (t.shared.now.table_id.words ≡ 2) × (t.shared.now.table_id.slots ≡ 1) × (t.seat.table_id ≡ t.shared.now.table_id)

  abbrev Out : Type 0
  Out = t.seat.me.1 ≡ (0, None) ∷ []

  abbrev Numbered : Type 0
  Numbered = (t.seat.me.0.number ≡ t.number) × (t.number ≢ 0)

  abbrev Holds : Type 0
  Holds = t.seat.me.0.has_turn ≡ true

  abbrev Counts : Type 0
  Counts = t.number ≡ 1 → t.seat.me.0.made ≡ t.shared.now.key.seats

  sized_prop : IsProp Sized
  sized_prop = let same = Coded-set table_id_coded in hlevel (props, same)

  out_prop : IsProp Out
  out_prop = Coded-set (coded_list (coded× coded_ℕ (coded_option V.coded))) t.seat.me.1 ((0, None) ∷ [])

  numbered_prop : IsProp Numbered
  numbered_prop = hlevel props

  holds_prop : IsProp Holds
  holds_prop = hlevel props

  counts_prop : IsProp Counts
  counts_prop = hlevel props

  pub same_turn : (w : V.Denot) (s : Sized) (o : Out) (n : Numbered) (h : Holds) (c : Counts)
      → ◌≡◌ {A = Turn V.Denot E.Denot F.Denot} record { shared = t.shared; seat = t.seat; number = t.number; value = w; sized = s; out = o; numbered = n; holds = h; counts = c } (turn_with t w)
  same_turn w s o n h c = λ i. record {
    shared = t.shared;
    seat = t.seat;
    number = t.number;
    value = w;
    sized = sized_prop s t.sized i;
    out = out_prop o t.out i;
    numbered = numbered_prop n t.numbered i;
    holds = holds_prop h t.holds i;
    counts = counts_prop c t.counts i;
  }
