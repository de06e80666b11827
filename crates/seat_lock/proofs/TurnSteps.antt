-- The steps of a turn keep the rule: a try for the turn, the count, and the release.
use Rattle.std.proofs.Common.{◌≡◌, ◌≢◌, ℕ, ◌^◌, ◌<◌, eqb, List, [], ◌∷◌, ◌++◌, length, set, Option, Some, true, false, true≢false, refl, sym, ap, ◌∙◌, subst, eq-eqb, ne_eqb}
use Rattle.std.specs.Prelude.{All, slice_index, slice_set, unwrap_or}
use Rattle.std.proofs.lemmas.List.Elements.{All-append}
use mathlib.Core.Option.{none, some, some-injective, some-ne-none}
use mathlib.Core.Logic.{dite}
use native.Mathlib.Decide.{ℕ_discrete}
use prog.Atomic.{either}
use lib.ListN.{get_elem?}
use Rattle.atomic_table.specs.Table.{State, Me, step, keeps, takes, gives, put_back, rest, Allows}
use Rattle.seat_lock.specs.Trails.{entries_by}
use Rattle.seat_lock.specs.Rule.{Ruled, ViewFits, IsMade}
use Rattle.seat_lock.specs.Plays.{Wins, tried, counted, released, with_turn, with_lost, with_trail, at_rest}
use Rattle.seat_lock.specs.Passes.{AddsAtMostOne}
use Rattle.seat_lock.specs.declared.types.View.{View}
use Rattle.seat_lock.specs.declared.types.About.{About}
use Rattle.seat_lock.proofs.TrailLemmas.{grows, begins_longer, begins_same, begins_all, entries_longer}
use Rattle.atomic_table.proofs.Lists.{set_else}
use Rattle.seat_lock.proofs.Seats.{set_at, each_set}

module _ {V : Type 0} where
  -- the value of the slot in hand
  abbrev value_or : V → List (ℕ × Option V) → V
  value_or d [] = d
  value_or d (c ∷ cs) = unwrap_or c.1 d

module _ {V E F : Type 0} (party : E → ℕ) (entries : V → List E) (fixed : V → F) (about : About V) where
  abbrev D : Type 0
  D = View E F

  abbrev St : Type 0
  St = State (Option V) D

  abbrev M : Type 0
  M = Me (Option V) D

  abbrev Rule : St → Type 0
  Rule = Ruled party entries fixed about

  abbrev Fits : List E → ℕ → ℕ → (ℕ → ℕ) → ℕ → D → Type 0
  Fits = ViewFits party (fixed about.first.value)

  -- two seats have no one party
  apart : (trail trail' : List E) (turn turn' made made' : ℕ) (seat_of : ℕ → ℕ) (j id : ℕ) (v w : D) → Fits trail turn made seat_of j v → Fits trail' turn' made' seat_of id w → j ≢ id → w.number ≢ 0 → v.number ≢ w.number
  apart trail trail' turn turn' made made' seat_of j id v w fv fw other pos same =
      other (sym (fv.place (λ z. pos (sym same ∙ z))).0 ∙ (ap seat_of same ∙ (fw.place pos).0))

  -- the try that reads 0 takes the turn and the value
  won : (s : St) (r : Rule s) (id num : ℕ) (v : D) → get_elem? s.views id ≡ some v → v.number ≡ num → num ≢ 0 → (none_has : r.turn ≡ 0)
      → Rule record { words = slice_set s.words 0 num; homes = slice_set s.homes 0 none; views = slice_set s.views id (with_turn (entries (r.home none_has).0) v) }
  won s r id num v at is pos none_has = let home = r.home none_has in let x : V = home.0 in let w : D = with_turn (entries x) v in let old = r.each id v at in
      let v_pos : v.number ≢ 0 = λ z. pos (sym is ∙ z) in record {
        trail = r.trail;
        turn = num;
        made = r.made;
        seat_of = r.seat_of;
        words = ap (λ l. slice_set l 0 num) r.words;
        short = r.short;
        enough = r.enough;
        makers = r.makers;
        each = each_set (Fits r.trail num r.made r.seat_of) s.views id w
            record {
              seen = begins_same party (entries x) (entries x) r.trail (sym home.2) (begins_all party (entries x));
              mine = λ p. ((old.mine p).0, ap (entries_by party v.number) home.2 ∙ (old.mine p).0);
              place = old.place;
              fixed = old.fixed;
              turn_is = λ _. (is, pos, home.2);
              turn_has = λ _ _. refl;
              counts = old.counts;
              kept = old.kept;
            }
            (λ j u other there. let f = r.each j u there in record {
              seen = f.seen;
              mine = f.mine;
              place = f.place;
              fixed = f.fixed;
              turn_is = λ h. absurd ((f.turn_is h).1 none_has);
              turn_has = λ _ e. absurd (apart r.trail r.trail r.turn r.turn r.made r.made r.seat_of j id u v f old other v_pos (e ∙ sym is));
              counts = f.counts;
              kept = f.kept;
            });
        holder = λ _. (w, ap (get_elem? (set s.views id w)) (ap r.seat_of (sym is) ∙ (old.place v_pos).0) ∙ set_at s.views id v w at, is);
        home = λ z. absurd (pos z);
        out = λ _. ap (λ h. slice_set h 0 none) home.1;
      }

  wins : (s : St) (r : Rule s) (id : ℕ) (v : D) → get_elem? s.views id ≡ some v → (none_has : r.turn ≡ 0) → Wins party entries fixed v (r.home none_has).0
  wins s r id v at none_has = let home = r.home none_has in let x : V = home.0 in let old = r.each id v at in let same = home.2 in record {
    short = subst (λ t. length t < 2 ^ 32) (sym same) r.short;
    seen = begins_same party v.seen r.trail (entries x) same old.seen;
    mine = λ p. (ap (entries_by party v.number) same ∙ (old.mine p).0, (old.mine p).1);
    same = λ f e. home.3 ∙ sym (old.fixed f e);
    kept = λ k a there. let f = old.kept k a there in (begins_same party a.seen r.trail (entries x) same f.seen, λ p. ap (entries_by party a.number) same ∙ f.mine p);
  }

  -- the try that reads a party's number keeps it
  lost : (s : St) (r : Rule s) (id word : ℕ) (v : D) → get_elem? s.views id ≡ some v → word ≡ r.turn
      → Rule record { words = slice_set s.words 0 word; homes = s.homes; views = slice_set s.views id (with_lost word v) }
  lost s r id word v at is = let old = r.each id v at in record {
    trail = r.trail;
    turn = r.turn;
    made = r.made;
    seat_of = r.seat_of;
    words = ap (λ l. slice_set l 0 word) r.words ∙ ap (λ (n : ℕ). n ∷ length r.trail ∷ []) is;
    short = r.short;
    enough = r.enough;
    makers = r.makers;
    each = each_set (Fits r.trail r.turn r.made r.seat_of) s.views id (with_lost word v)
        record { seen = old.seen; mine = old.mine; place = old.place; fixed = old.fixed; turn_is = old.turn_is; turn_has = old.turn_has; counts = old.counts; kept = old.kept }
        (λ j u _ there. r.each j u there);
    holder = λ p. let h = r.holder p in dite (ℕ_discrete (r.seat_of r.turn) id)
        (λ e. (with_lost word v, ap (get_elem? (set s.views id (with_lost word v))) e ∙ set_at s.views id v (with_lost word v) at, held_by s id (r.seat_of r.turn) r.turn v h.0 at h.1 e h.2))
        (λ other. (h.0, set_else s.views id (r.seat_of r.turn) (with_lost word v) other ∙ h.1, h.2));
    home = r.home;
    out = r.out;
  }
    where
      held_by : (s : St) (id seat turn : ℕ) (v u : D) → get_elem? s.views id ≡ some v → get_elem? s.views seat ≡ some u → seat ≡ id → u.number ≡ turn → v.number ≡ turn
      held_by s id seat turn v u at there e is = ap (λ (d : D). d.number) (some-injective v u (sym at ∙ (ap (get_elem? s.views) (sym e) ∙ there))) ∙ is

  pub tries : (slots id num : ℕ) (me : M) → me.0.has_turn ≡ false → me.0.number ≡ num → num ≢ 0
      → Allows Rule slots id me 0 (λ n. either (eqb n 0) num n) (tried party entries fixed (step slots 0 0 num none) me)
  tries slots id num me rests is pos s r _ at _ = let word : ℕ = slice_index s.words 0 in let v : D = me.0 in let found : word ≡ r.turn = ap (λ l. slice_index l 0) r.words in dite (ℕ_discrete word 0)
      (λ hit. let none_has : r.turn ≡ 0 = sym found ∙ hit in let home = r.home none_has in let w : D = with_turn (entries home.0) v in (
        w,
        takes 0 (Some home.0),
        ap (λ h. get_elem? h 0) home.1,
        subst (λ b. Rule record { words = slice_set s.words 0 (either b num word); homes = slice_set s.homes 0 none; views = slice_set s.views id w }) (sym (eq-eqb word 0 hit)) (won s r id num v at is pos none_has),
        ((λ _. (home.0, refl, wins s r id v at none_has)), λ miss. absurd (miss hit)),
      ))
      (λ miss. (
        with_lost word v,
        keeps,
        tt,
        subst (λ b. Rule record { words = slice_set s.words 0 (either b num word); homes = s.homes; views = slice_set s.views id (with_lost word v) }) (sym (ne_eqb word 0 miss)) (lost s r id word v at found),
        ((λ hit. absurd (miss hit)), λ _. (refl, λ own. true≢false (sym ((r.each id v at).turn_has (λ z. miss (found ∙ z)) (sym own ∙ found)) ∙ rests))),
      ))

  -- the count of the value in hand
  pub counts : (slots id new : ℕ) (me : M) (y : V) → me.0.has_turn ≡ true → me.1 ≡ (0, Some y) ∷ [] → AddsAtMostOne party me.0.number me.0.seen (entries y) → length (entries y) < 2 ^ 32 → new ≡ length (entries y)
      → Allows Rule slots id me 1 (λ _. new) (λ _. counted party entries fixed (step slots 1 new 0 none) me new)
  counts slots id new me y has hand adds short is s r _ at _ = let v : D = me.0 in let old = r.each id v at in let turn = old.turn_is has in let pos : v.number ≢ 0 = λ z. turn.1 (sym turn.0 ∙ z) in
      let g = grows party v.number v.seen (entries y) adds in let longer : entries y ≡ r.trail ++ g.more = g.is ∙ ap (λ t. t ++ g.more) turn.2 in let w : D = with_trail party (entries y) v in (
        w,
        keeps,
        tt,
        record {
          trail = entries y;
          turn = r.turn;
          made = r.made;
          seat_of = r.seat_of;
          words = ap (λ l. slice_set l 1 new) r.words ∙ ap (λ (n : ℕ). r.turn ∷ n ∷ []) is;
          short = short;
          enough = r.enough;
          makers = subst (All (IsMade party r.made)) (sym longer) (All-append (IsMade party r.made) r.trail g.more r.makers (g.makers r.made pos (old.place pos).1));
          each = each_set (Fits (entries y) r.turn r.made r.seat_of) s.views id w
              record {
                seen = begins_all party (entries y);
                mine = λ _. (refl, refl);
                place = old.place;
                fixed = old.fixed;
                turn_is = λ _. (turn.0, turn.1, refl);
                turn_has = λ _ _. has;
                counts = old.counts;
                kept = λ k a there. let f = old.kept k a there in record {
                  seen = begins_longer party a.seen r.trail (entries y) g.more longer f.seen;
                  mine = λ p. entries_longer party a.number r.trail (entries y) g.more longer (g.others a.number (f.place p).1) ∙ f.mine p;
                  place = f.place;
                };
              }
              (λ j u other there. let f = r.each j u there in record {
                seen = begins_longer party u.seen r.trail (entries y) g.more longer f.seen;
                mine = λ p. (entries_longer party u.number r.trail (entries y) g.more longer (g.others u.number (apart r.trail r.trail r.turn r.turn r.made r.made r.seat_of j id u v f old other pos)) ∙ (f.mine p).0, (f.mine p).1);
                place = f.place;
                fixed = f.fixed;
                turn_is = λ h. absurd (apart r.trail r.trail r.turn r.turn r.made r.made r.seat_of j id u v f old other pos ((f.turn_is h).0 ∙ sym turn.0));
                turn_has = f.turn_has;
                counts = f.counts;
                kept = λ k a there'. let b = f.kept k a there' in record {
                  seen = begins_longer party a.seen r.trail (entries y) g.more longer b.seen;
                  mine = λ p. entries_longer party a.number r.trail (entries y) g.more longer (g.others a.number (λ e. other (sym (b.place p).0 ∙ (ap r.seat_of e ∙ (old.place pos).0)))) ∙ b.mine p;
                  place = b.place;
                };
              });
          holder = λ _. (w, ap (get_elem? (set s.views id w)) (ap r.seat_of (sym turn.0) ∙ (old.place pos).0) ∙ set_at s.views id v w at, turn.0);
          home = λ z. absurd (turn.1 z);
          out = r.out;
        },
        ((λ x e. let same : x ≡ y = ap (value_or y) (sym e ∙ hand) in ap (λ (z : V). let m : M = (with_trail party (entries z) v, me.1) in m) (sym same)), (old.mine pos).1),
      )

  -- the release
  pub releases : (slots id : ℕ) (me : M) (y : V) → me.0.has_turn ≡ true → me.1 ≡ (0, Some y) ∷ [] → entries y ≡ me.0.seen → Some (fixed y) ≡ me.0.fixed
      → Allows Rule slots id me 0 (λ _. 0) (λ _. released party entries fixed (step slots 0 0 0 none) me 0)
  releases slots id me y has hand seen same s r _ at _ = let v : D = me.0 in let old = r.each id v at in let turn = old.turn_is has in let pos : v.number ≢ 0 = λ z. turn.1 (sym turn.0 ∙ z) in let w : D = at_rest v in (
    w,
    gives,
    tt,
    record {
      trail = r.trail;
      turn = 0;
      made = r.made;
      seat_of = r.seat_of;
      words = ap (λ l. slice_set l 0 0) r.words;
      short = r.short;
      enough = r.enough;
      makers = r.makers;
      each = each_set (Fits r.trail 0 r.made r.seat_of) s.views id w
          record {
            seen = old.seen;
            mine = old.mine;
            place = old.place;
            fixed = old.fixed;
            turn_is = λ h. absurd (true≢false (sym h));
            turn_has = λ z. absurd (z refl);
            counts = old.counts;
            kept = λ k a there. absurd (some-ne-none a (sym there));
          }
          (λ j u other there. let f = r.each j u there in record {
            seen = f.seen;
            mine = f.mine;
            place = f.place;
            fixed = f.fixed;
            turn_is = λ h. absurd (apart r.trail r.trail r.turn r.turn r.made r.made r.seat_of j id u v f old other pos ((f.turn_is h).0 ∙ sym turn.0));
            turn_has = λ z. absurd (z refl);
            counts = f.counts;
            kept = f.kept;
          });
      holder = λ z. absurd (z refl);
      home = λ _. (y, ap (put_back s.homes) hand ∙ ap (λ h. slice_set h 0 (some (Some y))) (r.out turn.1), seen ∙ turn.2, old.fixed (fixed y) (sym same));
      out = λ z. absurd (z refl);
    },
    ap (λ c. let m : M = (w, rest c) in m) hand,
  )
