-- What passes know before and after a step of a meeting.
use Rattle.std.proofs.Common.{◌≡◌, ◌≢◌, ℕ, ◌+◌, ◌<◌, ◌≤◌, List, [], ◌∷◌, Option, Some, false, refl, sym, ap, ◌∙◌, subst, arith, append-nil}
use mathlib.Core.Logic.{dite}
use native.Mathlib.Decide.{ℕ_discrete}
use Rattle.atomic_table.specs.Table.{Me}
use Rattle.seat_lock.specs.Trails.{BeginsWith, entries_by, longer}
use Rattle.seat_lock.specs.Views.{account_of, lone}
use Rattle.seat_lock.specs.Plays.{Learns, with_seen, keeping}
use Rattle.seat_lock.specs.Passes.{LockName, IsPassOf, AreAllOf, HaveMet, at_home, seats_in, view_of, party_of, seen_by, made_by}
use Rattle.seat_lock.specs.Meeting.{HasLearned, view_in, view_at, seen_at}
use Rattle.seat_lock.specs.declared.types.View.{View}
use Rattle.seat_lock.specs.declared.types.Account.{Account}
use Rattle.seat_lock.specs.declared.types.Pass.{Pass}
use Rattle.seat_lock.specs.declared.types.Passes.{Passes}
use Rattle.seat_lock.proofs.TrailLemmas.{begins_all}
use Rattle.seat_lock.proofs.LongerLemmas.{begins_trans, longer_second}
use Rattle.seat_lock.proofs.PlaceLemmas.{all_with, some_same}
use Rattle.seat_lock.proofs.ClosingLemmas.{in_range}

module _ {E F : Type 0} where
  -- the view at the place of a pass that is at home
  pub view_is : (ps : Passes E F) (n : ℕ) (p : Pass E F) → at_home ps n ≡ Some p → view_at ps n ≡ view_of p
  view_is ps n p e = ap view_in e

  -- the pass of the party n was lent, and another of this party came back
  pub back_home : (party : E → ℕ) (lock : LockName F) (ps mid qs : Passes E F) (n : ℕ) (q : Pass E F) → AreAllOf party lock ps
      → ((m : ℕ) → m ≢ n → at_home mid m ≡ at_home ps m) → seats_in mid ≡ seats_in ps → at_home qs (party_of q) ≡ Some q → ((m : ℕ) → m ≢ party_of q → at_home qs m ≡ at_home mid m) → seats_in qs ≡ seats_in mid
      → party_of q ≡ n → IsPassOf party lock q → AreAllOf party lock qs
  back_home party lock ps mid qs n q all lent lent_seats home others seats is of =
      all_with party lock ps qs n q all (seats ∙ lent_seats) (λ m ne. others m (λ e. ne (e ∙ is)) ∙ lent m ne) (ap (at_home qs) (sym is) ∙ home) is of

  -- a pass that knows the same is of the lock too
  pub of_same : (party : E → ℕ) (lock : LockName F) (p q : Pass E F) → IsPassOf party lock p → q.badge.table_id ≡ lock.table → q.number ≡ p.number → view_of q ≡ view_of p → IsPassOf party lock q
  of_same party lock p q of table number same = record {
    table = table;
    fixed = ap (λ (u : View E F). u.fixed) same ∙ of.fixed;
    counts = λ one. ap (λ (u : View E F). u.made) same ∙ of.counts (sym number ∙ one);
    own = subst (λ (t : ℕ × View E F). entries_by party t.0 t.1.seen ≡ t.1.mine) (λ i. (sym number i, sym same i)) of.own;
  }

  -- the view u after v learned what w has seen
  pub record Taught (party : E → ℕ) (v w u : View E F) : Type 0 where
    pub is : u ≡ with_seen (longer v.seen w.seen) v
    pub own : BeginsWith (longer v.seen w.seen) v.seen
    pub told : BeginsWith (longer v.seen w.seen) w.seen
    pub mine : v.number ≢ 0 → entries_by party v.number (longer v.seen w.seen) ≡ v.mine

  -- the pass with the new view is of the lock too
  pub of_taught : (party : E → ℕ) (lock : LockName F) (p q : Pass E F) (w : View E F) → IsPassOf party lock p → q.badge.table_id ≡ lock.table → q.number ≡ p.number → Taught party (view_of p) w (view_of q) → IsPassOf party lock q
  of_taught party lock p q w of table number t = let n : ℕ = (view_of p).number in let same : n ≡ q.number = p.numbered.0 ∙ sym number in let pos : n ≢ 0 = (λ z. p.numbered.1 (sym p.numbered.0 ∙ z)) in record {
    table = table;
    fixed = ap (λ (u : View E F). u.fixed) t.is ∙ of.fixed;
    counts = λ one. ap (λ (u : View E F). u.made) t.is ∙ of.counts (sym number ∙ one);
    own = subst (λ (d : ℕ × View E F). entries_by party d.0 d.1.seen ≡ d.1.mine) (λ i. (same i, sym t.is i)) (t.mine pos);
  }

  pub learned_nothing : (v : View E F) → HasLearned v v
  learned_nothing v = record { seen = ([], sym (append-nil v.seen)); made = refl; lost = ([], sym (append-nil v.lost)) }

  pub learned_same : (v w : View E F) → w ≡ v → HasLearned v w
  learned_same v w e = subst (HasLearned v) (sym e) (learned_nothing v)

  pub learned_both : (party : E → ℕ) (u v w : View E F) → HasLearned u v → HasLearned v w → HasLearned u w
  learned_both party u v w a b = record { seen = begins_trans party w.seen v.seen u.seen b.seen a.seen; made = b.made ∙ a.made; lost = begins_trans (λ (n : ℕ). n) w.lost v.lost u.lost b.lost a.lost }

  -- a view that has only seen more
  pub learned_more : (v w : View E F) (trail : List E) → w ≡ with_seen trail v → BeginsWith w.seen v.seen → HasLearned v w
  learned_more v w trail is more = record { seen = more; made = ap (λ (u : View E F). u.mine) is; lost = ([], ap (λ (u : View E F). u.lost) is ∙ sym (append-nil v.lost)) }

  -- what the pass of the party n has learned from w, by its place
  pub record LearnedAt (ps qs : Passes E F) (n : ℕ) (w : View E F) : Type 0 where
    pub learned : view_at qs n ≡ with_seen (longer (seen_at ps n) w.seen) (view_at ps n)
    pub own : BeginsWith (seen_at qs n) (seen_at ps n)
    pub told : BeginsWith (seen_at qs n) w.seen

  pub learned_at : (party : E → ℕ) (ps qs : Passes E F) (n : ℕ) (p q : Pass E F) (w : View E F) → at_home ps n ≡ Some p → at_home qs n ≡ Some q → Taught party (view_of p) w (view_of q) → LearnedAt ps qs n w
  learned_at party ps qs n p q w before after t = let was : view_of p ≡ view_at ps n = sym (view_is ps n p before) in let now : with_seen (longer (seen_by p) w.seen) (view_of p) ≡ view_at qs n = sym (view_is qs n q after ∙ t.is) in record {
    learned = sym now ∙ ap (λ (u : View E F). with_seen (longer u.seen w.seen) u) was;
    own = subst (λ (d : View E F × View E F). BeginsWith d.0.seen d.1.seen) (λ i. (now i, was i)) t.own;
    told = subst (λ (d : View E F). BeginsWith d.seen w.seen) now t.told;
  }

  -- the facts of a pass with the new view
  pub of_fields : (party : E → ℕ) (p : Pass E F) (w u : View E F) (views : List (View E F)) → views ≡ u ∷ [] → Taught party (view_of p) w u
      → (views ≡ lone views ∷ []) × (((lone views).number ≡ p.number) × (p.number ≢ 0)) × (((lone views).has_turn ≡ false) × ((lone views).kept ≡ []))
  of_fields party p w u views e t = (
    e ∙ sym (ap (λ (vs : List (View E F)). lone vs ∷ []) e),
    (ap (λ (vs : List (View E F)). (lone vs).number) e ∙ (ap (λ (d : View E F). d.number) t.is ∙ p.numbered.0), p.numbered.1),
    (ap (λ (vs : List (View E F)). (lone vs).has_turn) e ∙ (ap (λ (d : View E F). d.has_turn) t.is ∙ p.resting.0), ap (λ (vs : List (View E F)). (lone vs).kept) e ∙ ap (λ (d : View E F). d.kept) t.is),
  )

  -- once they have met, each pass has seen all that each other made
  pub all_seen : (party : E → ℕ) (lock : LockName F) (ps : Passes E F) → AreAllOf party lock ps → HaveMet ps → (n m : ℕ) (p q : Pass E F) → at_home ps n ≡ Some p → at_home ps m ≡ Some q → entries_by party m (seen_by p) ≡ made_by q
  all_seen party lock ps all met n m p q here there = let range = in_range ps m q there in let t = all.each m range.0 range.1 in let same : t.0 ≡ q = some_same t.0 q (sym t.1.home ∙ there) in
      let own = subst (λ (r : Pass E F). entries_by party m (seen_by r) ≡ made_by r) same (subst (λ (k : ℕ). entries_by party k (seen_by t.0) ≡ made_by t.0) t.1.party_is t.1.of_lock.own) in
      ap (entries_by party m) (met n m p q here there) ∙ own

  -- of the passes ps, that of `to` learned what that of `from` has seen, which makes them qs
  pub record Tells (ps qs : Passes E F) (from to : ℕ) : Type 0 where
    pub others : (n : ℕ) → n ≢ to → view_at qs n ≡ view_at ps n
    pub learned : view_at qs to ≡ with_seen (longer (seen_at ps to) (seen_at ps from)) (view_at ps to)
    pub own : BeginsWith (seen_at qs to) (seen_at ps to)
    pub told : BeginsWith (seen_at qs to) (seen_at ps from)

  seen_same : (ps qs : Passes E F) (n : ℕ) → view_at qs n ≡ view_at ps n → seen_at qs n ≡ seen_at ps n
  seen_same ps qs n e = ap (λ (u : View E F). u.seen) e

  begins_where : (trail : List E) (ps qs : Passes E F) (n : ℕ) → view_at qs n ≡ view_at ps n → BeginsWith trail (seen_at ps n) → BeginsWith trail (seen_at qs n)
  begins_where trail ps qs n e b = subst (BeginsWith trail) (sym (seen_same ps qs n e)) b

  pub tell_learns : (ps qs : Passes E F) (from to : ℕ) → Tells ps qs from to → (n : ℕ) → HasLearned (view_at ps n) (view_at qs n)
  tell_learns ps qs from to t n = dite (ℕ_discrete n to)
      (λ e. subst (λ (m : ℕ). HasLearned (view_at ps m) (view_at qs m)) (sym e) (learned_more (view_at ps to) (view_at qs to) (longer (seen_at ps to) (seen_at ps from)) t.learned t.own))
      (λ ne. learned_same (view_at ps n) (view_at qs n) (t.others n ne))

  -- party 1 has been told by one party more
  pub first_told : (party : E → ℕ) (ps qs : Passes E F) (k : ℕ) → Tells ps qs (k + 1) 1 → ((n : ℕ) → 1 ≤ n → n ≤ k → BeginsWith (seen_at ps 1) (seen_at ps n)) → (n : ℕ) → 1 ≤ n → n ≤ k + 1 → BeginsWith (seen_at qs 1) (seen_at qs n)
  first_told party ps qs k t before n some to = dite (ℕ_discrete n 1)
      (λ e. subst (λ (m : ℕ). BeginsWith (seen_at qs 1) (seen_at qs m)) (sym e) (begins_all party (seen_at qs 1)))
      (λ ne. begins_where (seen_at qs 1) ps qs n (t.others n ne) (dite (ℕ_discrete n (k + 1))
      (λ e. subst (λ (m : ℕ). BeginsWith (seen_at qs 1) (seen_at ps m)) (sym e) t.told)
      (λ less. begins_trans party (seen_at qs 1) (seen_at ps 1) (seen_at ps n) t.own (before n some (omega arith)))))

  -- one party more has been told by party 1, which has seen this trail and no less than the other
  pub others_told : (ps qs : Passes E F) (k : ℕ) (trail : List E) → 1 ≤ k → Tells ps qs 1 (k + 1) → BeginsWith (seen_at ps 1) (seen_at ps (k + 1)) → ((n : ℕ) → 1 ≤ n → n ≤ k → seen_at ps n ≡ trail) → (n : ℕ) → 1 ≤ n → n ≤ k + 1 → seen_at qs n ≡ trail
  others_told ps qs k trail from t less before n some to = dite (ℕ_discrete n (k + 1))
      (λ e. ap (seen_at qs) e ∙ (ap (λ (u : View E F). u.seen) t.learned ∙ (longer_second (seen_at ps (k + 1)) (seen_at ps 1) less ∙ before 1 (omega arith) from)))
      (λ ne. seen_same ps qs n (t.others n ne) ∙ before n some (omega arith))

  -- party 1 has seen no less than those that are not told yet
  pub still_less : (ps qs : Passes E F) (k n : ℕ) → 1 ≤ k → Tells ps qs 1 (k + 1) → k + 1 < n → BeginsWith (seen_at ps 1) (seen_at ps n) → BeginsWith (seen_at qs 1) (seen_at qs n)
  still_less ps qs k n some t more less = begins_where (seen_at qs 1) ps qs n (t.others n (λ e. omega arith)) (subst (λ l. BeginsWith l (seen_at ps n)) (sym (seen_same ps qs 1 (t.others 1 (λ e. omega arith)))) less)

  -- after its turn party 1 has seen no less than any other
  pub first_begins : (party : E → ℕ) (ps qs : Passes E F) (n : ℕ) → HasLearned (view_at ps 1) (view_at qs 1) → (n ≢ 1 → view_at qs n ≡ view_at ps n) → BeginsWith (seen_at ps 1) (seen_at ps n) → BeginsWith (seen_at qs 1) (seen_at qs n)
  first_begins party ps qs n first others less = dite (ℕ_discrete n 1)
      (λ e. subst (λ (m : ℕ). BeginsWith (seen_at qs 1) (seen_at qs m)) (sym e) (begins_all party (seen_at qs 1)))
      (λ ne. begins_where (seen_at qs 1) ps qs n (others ne) (begins_trans party (seen_at qs 1) (seen_at ps 1) (seen_at ps n) first.seen less))

  -- what each pass at home has seen
  pub home_seen : (ps : Passes E F) (trail : List E) → ((n : ℕ) → 1 ≤ n → n ≤ seats_in ps → seen_at ps n ≡ trail) → (n : ℕ) (p : Pass E F) → at_home ps n ≡ Some p → seen_by p ≡ trail
  home_seen ps trail all n p here = let range = in_range ps n p here in sym (ap (λ (u : View E F). u.seen) (view_is ps n p here)) ∙ all n range.0 range.1

  pub have_met : (ps : Passes E F) (trail : List E) → ((n : ℕ) → 1 ≤ n → n ≤ seats_in ps → seen_at ps n ≡ trail) → HaveMet ps
  have_met ps trail all n m p q here there = home_seen ps trail all n p here ∙ sym (home_seen ps trail all m q there)

module _ {V E F : Type 0} (party : E → ℕ) (entries : V → List E) (fixed : V → F) where
  abbrev M : Type 0
  M = Me (Option V) (View E F)

  -- the view of a pass that has joined w and then looks at the table
  pub after_look : (p : Pass E F) (v w : View E F) (m m' : M) → p.badge.views ≡ v ∷ [] → m.0 ≡ keeping v w → ((a : Account E) → m.0.kept ≡ a ∷ [] → (m' ≡ (with_seen (longer m.0.seen a.seen) m.0, m.1)) × Learns party entries fixed m.0 a.seen) → Taught party (view_of p) w m'.0 × (m'.1 ≡ m.1)
  after_look p v w m m' views is look = let view : v ≡ view_of p = sym (ap lone views) in let joined : m.0 ≡ keeping (view_of p) w = is ∙ ap (λ (u : View E F). keeping u w) view in
      let kept : m.0.kept ≡ account_of w ∷ [] = ap (λ (u : View E F). u.kept) joined ∙ ap (λ (k : List (Account E)). account_of w ∷ k) p.resting.1 in let t = look (account_of w) kept in
      let facts = subst (λ (u : View E F). Learns party entries fixed u w.seen) joined t.1 in (
        record {
          is = ap (λ (n : M). n.0) t.0 ∙ ap (λ (u : View E F). with_seen (longer u.seen w.seen) u) joined;
          own = facts.own;
          told = facts.told;
          mine = facts.mine;
        },
        ap (λ (n : M). n.1) t.0,
      )
