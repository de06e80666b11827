-- Cutting a view in two and joining two keep the rule.
use Rattle.std.proofs.Common.{◌≡◌, ◌≢◌, ◌⊎◌, ℕ, zero, suc, ◌+◌, ◌<◌, ◌≤◌, List, [], ◌∷◌, ◌++◌, length, set, Option, Some, true≢false, refl, sym, ap, ◌∙◌, subst, inl, ⊎_elim, ne_eqb, le_refl, arith, length-set}
use Rattle.std.specs.Prelude.{All, cond, nat_lt, slice_index, slice_set, slice_index_or}
use Rattle.std.proofs.lemmas.List.Elements.{All-weaker, All-head, All-tail}
use mathlib.Core.Option.{some, some-injective, some-ne-none}
use mathlib.Core.Logic.{dite}
use native.Mathlib.Decide.{ℕ_discrete}
use lib.ListN.{get_elem?}
use Rattle.atomic_table.specs.Table.{State, Splits, opening}
use Rattle.atomic_table.proofs.Lists.{set_else, set_again, at_longer}
use Rattle.seat_lock.specs.Trails.{BeginsWith, entries_by}
use Rattle.seat_lock.specs.Views.{first_view, note}
use Rattle.seat_lock.specs.Rule.{Ruled, ViewFits, AccountFits, IsMade}
use Rattle.seat_lock.specs.Plays.{with_party_made, next_party}
use Rattle.seat_lock.specs.declared.types.View.{View}
use Rattle.seat_lock.specs.declared.types.Account.{Account}
use Rattle.seat_lock.specs.declared.types.About.{About}
use Rattle.seat_lock.proofs.Seats.{set_at, each_set, each_push, put, put_here, put_else, put_stays}

-- no entry has the number of a party that was not made
pub none_by : {E : Type 0} (party : E → ℕ) (made n : ℕ) (trail : List E) → All (IsMade party made) trail → made < n → entries_by party n trail ≡ []
none_by party made n [] all less = refl
none_by party made n (e ∷ es) all less =
    let mine : party e ≤ made = (All-head (IsMade party made) e es all).1 in let other : party e ≢ n = (λ h. omega arith) in
    ap (λ b. cond b (e ∷ entries_by party n es) (entries_by party n es)) (ne_eqb (party e) n other) ∙ none_by party made n es (All-tail (IsMade party made) e es all) less

module _ {V E F : Type 0} (party : E → ℕ) (entries : V → List E) (fixed : V → F) (about : About V) where
  abbrev D : Type 0
  D = View E F

  abbrev St : Type 0
  St = State (Option V) D

  abbrev Rule : St → Type 0
  Rule = Ruled party entries fixed about

  abbrev Fits : List E → ℕ → ℕ → (ℕ → ℕ) → ℕ → D → Type 0
  Fits = ViewFits party (fixed about.first.value)

  -- a note of a beginning of the trail fits any seat
  pub note_fits : (trail : List E) (turn made : ℕ) (seat_of : ℕ → ℕ) (seat : ℕ) (seen : List E) → BeginsWith trail seen → Fits trail turn made seat_of seat (note seen)
  note_fits trail turn made seat_of seat seen b = record {
    seen = b;
    mine = λ z. absurd (z refl);
    place = λ z. absurd (z refl);
    fixed = λ f e. absurd (cc);
    turn_is = λ h. absurd (true≢false (sym h));
    turn_has = λ pos e. absurd (pos (sym e));
    counts = λ e. absurd (omega arith);
    kept = λ k a there. absurd (some-ne-none a (sym there));
  }

  pub opens : (x : V) → about.first.value ≡ x → entries x ≡ [] → 1 ≤ about.seats → Rule (opening (0 ∷ 0 ∷ []) (Some x ∷ []) (first_view (fixed about.first.value)))
  opens x is empty some_seat = record {
    trail = [];
    turn = 0;
    made = 1;
    seat_of = λ n. 0;
    words = refl;
    short = omega arith;
    enough = some_seat;
    makers = λ k d l. absurd (omega arith);
    each = one;
    holder = λ pos. absurd (pos refl);
    home = λ _. (x, refl, empty, ap fixed (sym is));
    out = λ pos. absurd (pos refl);
  }
    where
      first_fits : Fits [] 0 1 (λ n. 0) 0 (first_view (fixed about.first.value))
      first_fits = record {
        seen = ([], refl);
        mine = λ _. (refl, refl);
        place = λ _. (refl, omega arith);
        fixed = λ f e. ap (λ o. Rattle.std.specs.Prelude.unwrap_or o f) (sym e);
        turn_is = λ h. absurd (true≢false (sym h));
        turn_has = λ pos _. absurd (pos refl);
        counts = λ _. refl;
        kept = λ k a there. absurd (some-ne-none a (sym there));
      }

      one : (seat : ℕ) (v : D) → get_elem? (first_view (fixed about.first.value) ∷ []) seat ≡ some v → Fits [] 0 1 (λ n. 0) seat v
      one zero v e = subst (Fits [] 0 1 (λ n. 0) 0) (some-injective _ _ e) first_fits
      one (suc k) v e = absurd (some-ne-none v (sym e))

  -- the view of the seat that has the turn, after one other change
  pub held : (l : List D) (id seat turn : ℕ) (v w u : D) → get_elem? l id ≡ some v → w.number ≡ v.number → get_elem? l seat ≡ some u → u.number ≡ turn
      → (x : D) × (get_elem? (set l id w) seat ≡ some x) × (x.number ≡ turn)
  held l id seat turn v w u at same there is = dite (ℕ_discrete seat id)
      (λ e. let u_is : v ≡ u = some-injective v u (sym at ∙ (ap (get_elem? l) (sym e) ∙ there)) in (w, ap (get_elem? (set l id w)) e ∙ set_at l id v w at, same ∙ (ap (λ (d : D). d.number) u_is ∙ is)))
      (λ other. (u, set_else l id seat w other ∙ there, is))

  -- an account keeps its place where its party is not the one that moves
  pub account_stays : (trail : List E) (made made' : ℕ) (seat_of : ℕ → ℕ) (q seat' seat own : ℕ) (a : Account E) → made ≤ made' → (a.number ≢ 0 → seat_of a.number ≡ seat → (a.number ≢ q) ⊎ (seat ≡ seat'))
      → AccountFits party trail made seat_of seat own a → AccountFits party trail made' (put seat_of q seat') seat own a
  account_stays trail made made' seat_of q seat' seat own a le apart f = record {
    seen = f.seen;
    mine = f.mine;
    place = λ p. let t = f.place p in (
      ⊎_elim (λ (ne : a.number ≢ q). put_else seat_of q seat' a.number ne ∙ t.0) (λ (e : seat ≡ seat'). put_stays seat_of q seat' a.number (t.0 ∙ e) ∙ sym e) (apart p t.0),
      t.1,
      omega (arith, t.2),
    );
  }

  -- party 1 makes the next party
  pub makes : (id : ℕ) (v : D) → v.number ≡ 1 → v.made + 1 ≤ about.seats → Splits Rule id v (with_party_made v) (next_party v)
  makes id v is room s r at = let old = r.each id v at in let q : ℕ = v.made + 1 in let count : v.made ≡ r.made = old.counts is in let j : ℕ = length s.views in let l : List D = set s.views id (with_party_made v) in
      let len : length l ≡ j = length-set s.views id (with_party_made v) in let pos : v.number ≢ 0 = (λ z. omega arith) in let some_made : 1 ≤ r.made = omega (arith, (old.place pos).1) in
      let seat_of : ℕ → ℕ = put r.seat_of q j in record {
        trail = r.trail;
        turn = r.turn;
        made = q;
        seat_of = seat_of;
        words = r.words;
        short = r.short;
        enough = room;
        makers = All-weaker (IsMade party r.made) (IsMade party q) (λ e m. (m.0, omega (arith, m.1))) r.trail r.makers;
        each = each_push (Fits r.trail r.turn q seat_of) l (next_party v)
            (subst (λ (k : ℕ). Fits r.trail r.turn q seat_of k (next_party v)) (sym len) record {
              seen = (r.trail, refl);
              mine = λ _. (none_by party r.made q r.trail r.makers (omega arith), refl);
              place = λ _. (put_here r.seat_of q j q refl, le_refl q);
              fixed = old.fixed;
              turn_is = λ h. absurd (true≢false (sym h));
              turn_has = λ p e. let h = r.holder p in let f = r.each (r.seat_of r.turn) h.0 h.1 in let below : h.0.number ≤ r.made = (f.place (λ z. p (sym h.2 ∙ z))).1 in absurd (omega (arith, h.2));
              counts = λ e. absurd (omega arith);
              kept = λ k a there. absurd (some-ne-none a (sym there));
            })
            (each_set (Fits r.trail r.turn q seat_of) s.views id (with_party_made v)
            record {
              seen = old.seen;
              mine = old.mine;
              place = λ p. let t = old.place p in (put_else r.seat_of q j v.number (λ e. omega (arith, t.1)) ∙ t.0, omega (arith, t.1));
              fixed = old.fixed;
              turn_is = old.turn_is;
              turn_has = old.turn_has;
              counts = λ _. refl;
              kept = λ k a there. let f = old.kept k a there in account_stays r.trail r.made q r.seat_of q j id v.number a (omega arith) (λ p _. inl (λ e. omega (arith, (f.place p).2))) f;
            }
            (λ k u other there. let f = r.each k u there in record {
              seen = f.seen;
              mine = f.mine;
              place = λ p. let t = f.place p in (put_else r.seat_of q j u.number (λ e. omega (arith, t.1)) ∙ t.0, omega (arith, t.1));
              fixed = f.fixed;
              turn_is = f.turn_is;
              turn_has = f.turn_has;
              counts = λ e. absurd (other (sym (f.place (λ z. omega arith)).0 ∙ (ap r.seat_of (e ∙ sym is) ∙ (old.place pos).0)));
              kept = λ i a there'. let b = f.kept i a there' in account_stays r.trail r.made q r.seat_of q j k u.number a (omega arith) (λ p _. inl (λ e. omega (arith, (b.place p).2))) b;
            }));
        holder = λ p. let h = r.holder p in let f = r.each (r.seat_of r.turn) h.0 h.1 in let below : h.0.number ≤ r.made = (f.place (λ z. p (sym h.2 ∙ z))).1 in let t = held s.views id (r.seat_of r.turn) r.turn v (with_party_made v) h.0 at refl h.1 h.2 in
            (t.0, ap (get_elem? (l ++ next_party v ∷ [])) (put_else r.seat_of q j r.turn (λ e. omega (arith, h.2))) ∙ at_longer l (next_party v ∷ []) (r.seat_of r.turn) t.0 t.1, t.2);
        home = r.home;
        out = r.out;
      }

  -- a note of what a view has seen
  pub notes : (id : ℕ) (v : D) → Splits Rule id v v (note v.seen)
  notes id v s r at = record {
    trail = r.trail;
    turn = r.turn;
    made = r.made;
    seat_of = r.seat_of;
    words = r.words;
    short = r.short;
    enough = r.enough;
    makers = r.makers;
    each = each_push (Fits r.trail r.turn r.made r.seat_of) (set s.views id v) (note v.seen) (note_fits r.trail r.turn r.made r.seat_of (length (set s.views id v)) v.seen (r.each id v at).seen)
        (λ j u there. r.each j u (subst (λ l. get_elem? l j ≡ some u) (set_again s.views id v at) there));
    holder = λ p. let h = r.holder p in (h.0, at_longer (set s.views id v) (note v.seen ∷ []) (r.seat_of r.turn) h.0 (subst (λ l. get_elem? l (r.seat_of r.turn) ≡ some h.0) (sym (set_again s.views id v at)) h.1), h.2);
    home = r.home;
    out = r.out;
  }
