-- Joining two views keeps the rule.
use Rattle.std.proofs.Common.{◌≡◌, ◌≢◌, ℕ, zero, suc, ◌^◌, ◌<◌, ◌≤◌, List, [], ◌∷◌, length, set, Option, Some, false, true≢false, refl, sym, ap, ◌∙◌, subst, inl, inr, le_refl, arith}
use Rattle.std.specs.Prelude.{All}
use mathlib.Core.Option.{some, some-injective}
use mathlib.Core.Logic.{dite}
use native.Mathlib.Decide.{ℕ_discrete}
use lib.ListN.{get_elem?}
use Rattle.atomic_table.specs.Table.{State, Joins, Final, Seen}
use Rattle.atomic_table.proofs.Lists.{set_else}
use Rattle.seat_lock.specs.Trails.{FitsTrail, entries_by}
use Rattle.seat_lock.specs.Views.{note, account_of}
use Rattle.seat_lock.specs.Rule.{Ruled, ViewFits, AccountFits, IsMade}
use Rattle.seat_lock.specs.Plays.{keeping}
use Rattle.seat_lock.specs.declared.types.View.{View}
use Rattle.seat_lock.specs.declared.types.Account.{Account}
use Rattle.seat_lock.specs.declared.types.About.{About}
use Rattle.seat_lock.proofs.Seats.{each_set, put, put_here, put_else, put_stays}
use Rattle.seat_lock.proofs.SeatSteps.{note_fits, held, account_stays}

module _ {A : Type 0} where
  -- what holds of the first and of each other holds of each
  each_cons : (K : A → Type 0) (x : A) (l : List A) → K x → ((k : ℕ) (a : A) → get_elem? l k ≡ some a → K a) → (k : ℕ) (a : A) → get_elem? (x ∷ l) k ≡ some a → K a
  each_cons K x l first others zero a e = subst K (some-injective x a e) first
  each_cons K x l first others (suc k) a e = others k a e

module _ {V E F : Type 0} (party : E → ℕ) (entries : V → List E) (fixed : V → F) (about : About V) where
  abbrev D : Type 0
  D = View E F

  abbrev Rule : State (Option V) D → Type 0
  Rule = Ruled party entries fixed about

  abbrev Fits : List E → ℕ → ℕ → (ℕ → ℕ) → ℕ → D → Type 0
  Fits = ViewFits party (fixed about.first.value)

  -- the first view keeps an account of the second, which is spent
  pub keeps_account : (id other : ℕ) (v w : D) → w.has_turn ≡ false → Joins Rule id v other w (keeping v w) (note [])
  keeps_account id other v w rests s r at distinct there =
      let was : get_elem? s.views other ≡ some w = sym (set_else s.views id other (keeping v w) distinct) ∙ there in
      let old = r.each id v at in let theirs = r.each other w was in let q : ℕ = w.number in let seat_of : ℕ → ℕ = put r.seat_of q id in
      let mine : Fits r.trail r.turn r.made seat_of id (keeping v w) = record {
        seen = old.seen;
        mine = old.mine;
        place = λ p. let t = old.place p in (put_stays r.seat_of q id v.number t.0, t.1);
        fixed = old.fixed;
        turn_is = old.turn_is;
        turn_has = old.turn_has;
        counts = old.counts;
        kept = each_cons (AccountFits party r.trail r.made seat_of id v.number) (account_of w) v.kept
            record {
              seen = theirs.seen;
              mine = λ p. (theirs.mine p).0;
              place = λ p. (put_here r.seat_of q id q refl, (λ e. distinct (sym (theirs.place p).0 ∙ (ap r.seat_of e ∙ (old.place (λ z. p (e ∙ z))).0))), (theirs.place p).1);
            }
            (λ k a here. account_stays party entries fixed about r.trail r.made r.made r.seat_of q id id v.number a (le_refl r.made) (λ _ _. inr refl) (old.kept k a here));
      } in
      let others = each_set (λ j u. j ≢ other → Fits r.trail r.turn r.made seat_of j u) s.views id (keeping v w) (λ _. mine)
      (λ j u not_id here not_other. let f = r.each j u here in record {
        seen = f.seen;
        mine = f.mine;
        place = λ p. let t = f.place p in (put_else r.seat_of q id u.number (λ e. not_other (sym t.0 ∙ (ap r.seat_of e ∙ (theirs.place (λ z. p (e ∙ z))).0))) ∙ t.0, t.1);
        fixed = f.fixed;
        turn_is = f.turn_is;
        turn_has = f.turn_has;
        counts = f.counts;
        kept = λ k a here'. account_stays party entries fixed about r.trail r.made r.made r.seat_of q id j u.number a (le_refl r.made)
            (λ p t. inl (λ e. not_other (sym t ∙ (ap r.seat_of e ∙ (theirs.place (λ z. p (e ∙ z))).0)))) (f.kept k a here');
      }) in record {
        trail = r.trail;
        turn = r.turn;
        made = r.made;
        seat_of = seat_of;
        words = r.words;
        short = r.short;
        enough = r.enough;
        makers = r.makers;
        each = each_set (Fits r.trail r.turn r.made seat_of) (set s.views id (keeping v w)) other (note []) (note_fits party entries fixed about r.trail r.turn r.made seat_of other [] (r.trail, refl))
            (λ j u not_other here. others j u here not_other);
        holder = λ p. let h = r.holder p in
            let not_theirs : r.seat_of r.turn ≢ other = (λ e. let same : h.0 ≡ w = some-injective h.0 w (sym h.1 ∙ (ap (get_elem? s.views) e ∙ was)) in true≢false (sym (theirs.turn_has p (ap (λ (d : D). d.number) (sym same) ∙ h.2)) ∙ rests)) in
            let ne : r.turn ≢ q = (λ e. not_theirs (ap r.seat_of e ∙ (theirs.place (λ z. p (e ∙ z))).0)) in
            let t = held party entries fixed about s.views id (r.seat_of r.turn) r.turn v (keeping v w) h.0 at refl h.1 h.2 in
            (t.0, ap (get_elem? (set (set s.views id (keeping v w)) other (note []))) (put_else r.seat_of q id r.turn ne) ∙ (set_else (set s.views id (keeping v w)) other (r.seat_of r.turn) (note []) not_theirs ∙ t.1), t.2);
        home = r.home;
        out = r.out;
      }

  -- the lock at its end, as party 1 finds it once it keeps the account of every other party
  pub record Ends (v : D) (slots : List (Option V)) (x : V) : Type 0 where
    pub there : get_elem? slots 0 ≡ some (Some x)
    pub short : length (entries x) < 2 ^ 32
    pub same : fixed x ≡ fixed about.first.value
    pub makers : All (IsMade party v.made) (entries x)
    pub first : FitsTrail party v.number v.seen v.mine (entries x)
    pub kept : (k : ℕ) (a : Account E) → get_elem? v.kept k ≡ some a → a.number ≢ 0 → FitsTrail party a.number a.seen a.mine (entries x)

  pub ends : (id : ℕ) (v : D) (ws : List ℕ) (slots : List (Option V)) → v.number ≡ 1 → v.has_turn ≡ false → ((n : ℕ) → 2 ≤ n → n ≤ v.made → (k : ℕ) × (a : Account E) × (get_elem? v.kept k ≡ some a) × (a.number ≡ n))
      → Final (Seen Rule id v) ws slots → (x : V) × Ends v slots x
  ends id v ws slots one rests all final = let s = final.0 in let r = final.1.0 in let at = final.1.1 in let old = r.each id v at in let count : v.made ≡ r.made = old.counts one in let pos : v.number ≢ 0 = (λ z. omega arith) in
      let free : r.turn ≡ 0 = dite (ℕ_discrete r.turn 0) (λ z. z) (λ p. absurd (let h = r.holder p in let f = r.each (r.seat_of r.turn) h.0 h.1 in let below : h.0.number ≤ r.made = (f.place (λ z. p (sym h.2 ∙ z))).1 in
      dite (ℕ_discrete r.turn 1)
      (λ e. true≢false (sym (old.turn_has p (one ∙ sym e)) ∙ rests))
      (λ other. let k = all r.turn (omega arith) (omega (arith, h.2)) in let a = old.kept k.0 k.1 k.2 in let a_pos : k.1.number ≢ 0 = (λ z. p (sym k.3 ∙ z)) in
      let here : r.seat_of r.turn ≡ id = ap r.seat_of (sym k.3) ∙ (a.place a_pos).0 in let same : h.0 ≡ v = some-injective h.0 v (sym h.1 ∙ (ap (get_elem? s.views) here ∙ at)) in
      other (sym h.2 ∙ (ap (λ (d : D). d.number) same ∙ one))))) in
      let home = r.home free in let x : V = home.0 in (
        x,
        record {
          there = final.4 0 (Some x) (ap (λ hs. get_elem? hs 0) home.1);
          short = subst (λ t. length t < 2 ^ 32) (sym home.2) r.short;
          same = home.3;
          makers = subst (λ (p : ℕ × List E). All (IsMade party p.0) p.1) (λ i. (sym count i, sym home.2 i)) r.makers;
          first = ((old.seen.0, home.2 ∙ old.seen.1), ap (entries_by party v.number) home.2 ∙ (old.mine pos).0);
          kept = λ k a there p. let f = old.kept k a there in ((f.seen.0, home.2 ∙ f.seen.1), ap (entries_by party a.number) home.2 ∙ f.mine p);
        },
      )
