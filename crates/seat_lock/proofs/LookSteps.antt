-- A look at the table, by which a view learns what it was told, keeps the rule.
use Rattle.std.proofs.Common.{◌≡◌, ℕ, List, [], ◌∷◌, Option, false, true≢false, refl, sym, ap, ◌∙◌, subst}
use Rattle.std.specs.Prelude.{slice_index, slice_set}
use mathlib.Core.Option.{none, some}
use lib.ListN.{get_elem?}
use Rattle.atomic_table.specs.Table.{State, Me, step, keeps, Allows}
use Rattle.seat_lock.specs.Trails.{longer}
use Rattle.seat_lock.specs.Rule.{Ruled, ViewFits}
use Rattle.seat_lock.specs.Plays.{Learns, learned, with_seen}
use Rattle.seat_lock.specs.declared.types.View.{View}
use Rattle.seat_lock.specs.declared.types.Account.{Account}
use Rattle.seat_lock.specs.declared.types.About.{About}
use Rattle.seat_lock.proofs.LongerLemmas.{longer_begins, begins_own, begins_told, entries_between}
use Rattle.seat_lock.proofs.Seats.{each_set}
use Rattle.seat_lock.proofs.SeatSteps.{held}

only_one : {A : Type 0} (a b : A) → a ∷ [] ≡ b ∷ [] → a ≡ b
only_one a b e = cc

module _ {V E F : Type 0} (party : E → ℕ) (entries : V → List E) (fixed : V → F) (about : About V) where
  abbrev D : Type 0
  D = View E F

  abbrev M : Type 0
  M = Me (Option V) D

  abbrev Rule : State (Option V) D → Type 0
  Rule = Ruled party entries fixed about

  abbrev Fits : List E → ℕ → ℕ → (ℕ → ℕ) → ℕ → D → Type 0
  Fits = ViewFits party (fixed about.first.value)

  -- the facts that the rule has of the view and of the account
  taught : (s : State (Option V) D) (r : Rule s) (id : ℕ) (v : D) (a : Account E) → get_elem? s.views id ≡ some v → v.kept ≡ a ∷ [] → Learns party entries fixed v a.seen
  taught s r id v a at kept = let old = r.each id v at in let theirs = old.kept 0 a (ap (λ l. get_elem? l 0) kept) in
      let own = begins_own party r.trail v.seen a.seen old.seen theirs.seen in record {
        own = own;
        told = begins_told party r.trail v.seen a.seen old.seen theirs.seen;
        mine = λ p. let m = old.mine p in entries_between party v.number v.seen (longer v.seen a.seen) r.trail v.mine own (longer_begins party r.trail v.seen a.seen old.seen theirs.seen) m.1 m.0;
      }

  -- the table as it is, but for the view
  looked : (s : State (Option V) D) (r : Rule s) (id : ℕ) (v : D) (a : Account E) → get_elem? s.views id ≡ some v → v.has_turn ≡ false → v.kept ≡ a ∷ []
      → Rule record { words = slice_set s.words 0 (slice_index s.words 0); homes = s.homes; views = slice_set s.views id (with_seen (longer v.seen a.seen) v) }
  looked s r id v a at rests kept = let old = r.each id v at in let theirs = old.kept 0 a (ap (λ l. get_elem? l 0) kept) in let w : D = with_seen (longer v.seen a.seen) v in record {
    trail = r.trail;
    turn = r.turn;
    made = r.made;
    seat_of = r.seat_of;
    words = ap (λ l. slice_set l 0 (slice_index l 0)) r.words;
    short = r.short;
    enough = r.enough;
    makers = r.makers;
    each = each_set (Fits r.trail r.turn r.made r.seat_of) s.views id w
        record {
          seen = longer_begins party r.trail v.seen a.seen old.seen theirs.seen;
          mine = λ p. ((old.mine p).0, (taught s r id v a at kept).mine p);
          place = old.place;
          fixed = old.fixed;
          turn_is = λ h. absurd (true≢false (sym h ∙ rests));
          turn_has = old.turn_has;
          counts = old.counts;
          kept = λ k b there. absurd (cc);
        }
        (λ j u _ there. r.each j u there);
    holder = λ p. let h = r.holder p in let t = held party entries fixed about s.views id (r.seat_of r.turn) r.turn v w h.0 at refl h.1 h.2 in t;
    home = r.home;
    out = r.out;
  }

  pub learns : (slots id : ℕ) (me : M) (a : Account E) → me.0.has_turn ≡ false → me.0.kept ≡ a ∷ [] → Allows Rule slots id me 0 (λ n. n) (learned party entries fixed (step slots 0 0 0 none) me)
  learns slots id me a rests kept s r _ at _ = let v : D = me.0 in (
    with_seen (longer v.seen a.seen) v,
    keeps,
    tt,
    looked s r id v a at rests kept,
    λ b is. subst (λ (c : Account E). (◌≡◌ {A = M} (with_seen (longer v.seen a.seen) v, me.1) (with_seen (longer v.seen c.seen) v, me.1)) × Learns party entries fixed v c.seen) (only_one a b (sym kept ∙ is)) (refl, taught s r id v a at kept),
  )
