-- Which commands are known to be over, and which is ready.
use Rattle.std.proofs.Common.{◌≡◌, ℕ, ◌+◌, ◌<◌, ◌≤◌, Bool, true, false, ◌⊎◌, inl, inr, List, [], ◌∷◌, length, drop, take, Option, Some, None, refl, sym, ap, subst, ◌∙◌, arith}
use Rattle.std.specs.Prelude.{IfSome, slice_get, slice_set}
use Rattle.std.specs.BTreeMap.{BTreeMap, Updates, get, is_at}
use Rattle.std.specs.Map.{lookup}
use Rattle.std.specs.List.{All, AllByRecursion, AllPairs}
use Rattle.std.proofs.lemmas.Bool.{cases_eq, cases_lt, cases_order}
use Rattle.script_cmds.specs.declared.item.Phase.{Phase}
use Rattle.history_model.specs.Sent.{Sent, sends_of}
use Rattle.history_model.proofs.Every.{Pairwise, every-All, every-of-All, every-weaker, pairwise-AllPairs}
use Rattle.history_model.proofs.Order.{Precedes, sends-in-order}
use Rattle.history_check.specs.Readiness.{AreEarlierOver, AreOverBetween, AreTakenOver, IsBefore, IsKept, IsReady, IsTakeOver}
use Rattle.history_check.specs.Table.{IsAt, IsTable, pair_cmp, sends_in, sent_in}
use Rattle.history_check.specs.declared.awaiting.Awaiting.{Awaiting}
use Rattle.history_check.specs.declared.table.Awaited.{Awaited}
use Rattle.history_check.specs.declared.table.Table.{Table}
use Rattle.history_check.proofs.Keyed.{pair-updated}
use Rattle.history_check.proofs.Lists.{pairwise-of-AllPairs}
use Rattle.history_check.proofs.Places.{between-every, every-between, has-place, pair-places, set-length, set-true, some-is, within}

-- ---- the order of the text

before-each : (xs : List Sent) → Pairwise Precedes xs → Pairwise IsBefore xs
before-each [] pairs = tt
before-each (x ∷ xs) pairs = (
  every-weaker (Precedes x) (IsBefore x) (λ y p. record { phases = p.phases; names = λ host ordinal. (let lt = p.ordinals host in omega (arith, lt, ordinal)) }) xs pairs.0,
  before-each xs pairs.1,
)

pub sends-before : (plan : List Phase) → AllPairs IsBefore (sends_of plan)
sends-before plan = pairwise-AllPairs IsBefore (sends_of plan) (before-each (sends_of plan) (sends-in-order plan))

pub before-at : (sends : List Sent) (i j : ℕ) (x y : Sent) → AllPairs IsBefore sends → slice_get sends i ≡ Some x → slice_get sends j ≡ Some y → i < j → IsBefore x y
before-at sends i j x y order e f before = pair-places IsBefore sends i j x y (pairwise-of-AllPairs IsBefore sends order) e f before

-- a name has one place
pub named-once : (sends : List Sent) (i j : ℕ) (x y : Sent) → AllPairs IsBefore sends → slice_get sends i ≡ Some x → slice_get sends j ≡ Some y → x.host ≡ y.host → x.ordinal ≡ y.ordinal → i ≡ j
named-once sends i j x y order e f host ordinal = by_order (cases_order i j)
  where
    by_order : (i ≡ j) ⊎ ((i < j) ⊎ (j < i)) → i ≡ j
    by_order (inl is) = is
    by_order (inr (inl before)) = absurd ((before-at sends i j x y order e f before).names host ordinal)
    by_order (inr (inr before)) = absurd ((before-at sends j i y x order f e before).names (sym host) (sym ordinal))

-- ---- the front

not-both : (o : Option Bool) → o ≡ Some true → o ≡ Some false → ⊥
not-both o on off = differ (some-is true false (sym on ∙ off))
  where
    differ : true ≡ false → ⊥
    differ e = cc

-- the first command of the text that is not over is of no earlier phase
pub earlier-over : (sends : List Sent) (over : List Bool) (front place : ℕ) (s : Sent) → AllPairs IsBefore sends → length over ≡ length sends
    → ((k : ℕ) → k < front → slice_get over k ≡ Some true) → slice_get sends place ≡ Some s
    → (front ≡ length over) ⊎ ((f : Sent) × (slice_get sends front ≡ Some f) × (s.phase ≤ f.phase)) → AreEarlierOver sends over place
earlier-over sends over front place s order count upto at what before first t there here less = by_front what (cases_lt before front)
  where
    same : t ≡ s
    same = some-is t s (sym here ∙ at)

    less-s : first.phase < s.phase
    less-s = subst (λ (x : Sent). first.phase < x.phase) same less

    by_front : (front ≡ length over) ⊎ ((f : Sent) × (slice_get sends front ≡ Some f) × (s.phase ≤ f.phase)) → (before < front) ⊎ (front ≤ before) → slice_get over before ≡ Some true
    by_front w (inl below) = upto before below
    by_front (inl end) (inr above) = let below = within sends before first there in absurd (omega (arith, below, end, above, count))
    by_front (inr f) (inr above) = by_place f (cases_eq front before)
      where
        by_place : (f : Sent) × (slice_get sends front ≡ Some f) × (s.phase ≤ f.phase) → (front ≡ before) ⊎ (front ≡ before → ⊥) → slice_get over before ≡ Some true
        by_place f (inl is) =
            let one : f.0 ≡ first = some-is f.0 first (sym f.1 ∙ ap (λ k. slice_get sends k) is ∙ there) in
            let phase : f.0.phase ≡ first.phase = ap (λ (x : Sent). x.phase) one in
            let low = f.2 in
            absurd (omega (arith, low, phase, less-s))
        by_place f (inr apart) =
            let b = before-at sends front before f.0 first order f.1 there (omega (arith, above, apart)) in
            let low = f.2 in
            let up = b.phases in
            absurd (omega (arith, low, up, less-s))

pub earlier-left : (sends : List Sent) (over : List Bool) (front place : ℕ) (f s : Sent) → slice_get over front ≡ Some false → slice_get sends front ≡ Some f → slice_get sends place ≡ Some s
    → f.phase < s.phase → AreEarlierOver sends over place → ⊥
earlier-left sends over front place f s left there here less all = not-both (slice_get over front) (all front f s there here less) left

-- ---- what is taken

pub take-over : (sends : List Sent) (over : List Bool) (host ordinal place : ℕ) → AllPairs IsBefore sends → IsAt sends host ordinal place → slice_get over place ≡ Some true → IsTakeOver sends over host ordinal
take-over sends over host ordinal place order is on p s at h n =
    let same : place ≡ p = named-once sends place p is.s s order is.at at (is.host ∙ sym h) (is.ordinal ∙ sym n) in
    subst (λ (k : ℕ). slice_get over k ≡ Some true) same on

pub take-left : (sends : List Sent) (over : List Bool) (host ordinal place : ℕ) → IsAt sends host ordinal place → slice_get over place ≡ Some false → IsTakeOver sends over host ordinal → ⊥
take-left sends over host ordinal place is off all = not-both (slice_get over place) (all place is.s is.at is.host is.ordinal) off

pub take-none : (sends : List Sent) (over : List Bool) (host ordinal : ℕ) → ((place : ℕ) → IsAt sends host ordinal place → ⊥) → IsTakeOver sends over host ordinal
take-none sends over host ordinal none p s at h n = absurd (none p (record { s = s; at = at; host = h; ordinal = n }))

-- from one place on to another, and from there on
pub over-joined : (t : Table) (over : List Bool) (host from mid to : ℕ) → AreOverBetween t over host from mid → AreOverBetween t over host mid to → AreOverBetween t over host from to
over-joined t over host from mid to first second at ordinal low high e = by_place (cases_lt at mid)
  where
    by_place : (at < mid) ⊎ (mid ≤ at) → IsTakeOver (sends_in t) over host ordinal
    by_place (inl below) = first at ordinal low below e
    by_place (inr above) = second at ordinal above high e

pub taken-over : (t : Table) (over : List Bool) (place : ℕ) (a : Awaited) → slice_get (sends_in t) place ≡ Some (sent_in t.takes.items a) → AreOverBetween t over a.host a.begin a.end → AreTakenOver (sends_in t) over place
taken-over t over place a at all s here =
    let same : sent_in t.takes.items a ≡ s = some-is (sent_in t.takes.items a) s (sym at ∙ here) in
    subst (λ (x : Sent). All (λ ordinal. IsTakeOver (sends_in t) over x.host ordinal) x.taken) same
    (every-All (λ ordinal. IsTakeOver (sends_in t) over a.host ordinal) (drop a.begin (take a.end t.takes.items))
    (every-between (λ ordinal. IsTakeOver (sends_in t) over a.host ordinal) t.takes.items a.begin a.end (λ k ordinal low high e. all k ordinal low high e)))

pub taken-left : (t : Table) (over : List Bool) (place from : ℕ) (a : Awaited) → slice_get (sends_in t) place ≡ Some (sent_in t.takes.items a) → a.begin ≤ from
    → (AreOverBetween t over a.host from a.end → ⊥) → AreTakenOver (sends_in t) over place → ⊥
taken-left t over place from a at behind none all =
    none (λ k ordinal low high e. between-every (λ ordinal. IsTakeOver (sends_in t) over a.host ordinal) t.takes.items a.begin a.end
    (every-of-All (λ ordinal. IsTakeOver (sends_in t) over a.host ordinal) (drop a.begin (take a.end t.takes.items)) (all (sent_in t.takes.items a) at)) k ordinal (omega (arith, behind, low)) high e)

-- ---- what is kept

-- what is over stays over
pub between-more : (t : Table) (over : List Bool) (place host from to : ℕ) → AreOverBetween t over host from to → AreOverBetween t (slice_set over place true) host from to
between-more t over place host from to all at ordinal low high e p s here h n = set-true over place p (all at ordinal low high e p s here h n)

pub kept-ended : (a a' : Awaiting) (place : ℕ) → IsKept a → a'.table ≡ a.table → a'.over.items ≡ slice_set a.over.items place true → a'.front ≡ a.front → a'.reached ≡ a.reached → IsKept a'
kept-ended a a' place k table over front reached = record {
  table = subst (λ (t : Table). IsTable t) (sym table) k.table;
  order = subst (λ (t : Table). AllPairs IsBefore (sends_in t)) (sym table) k.order;
  count = ap (λ (bs : List Bool). length bs) over ∙ (set-length a.over.items place true ∙ (k.count ∙ ap (λ (t : Table). length (sends_in t)) (sym table)));
  bound = let b = k.bound in omega (arith, b, front, ap (λ (bs : List Bool). length bs) over, set-length a.over.items place true);
  front = λ p below. subst (λ (bs : List Bool). slice_get bs p ≡ Some true) (sym over) (set-true a.over.items place p (k.front p (subst (λ (n : ℕ). p < n) front below)));
  reached = λ host begin end is.
      let old = k.reached host begin end (subst (λ (m : BTreeMap (ℕ × ℕ) ℕ). get pair_cmp m (host, begin) ≡ Some end) reached is) in (
        old.0,
        subst (λ (t : Table). AreOverBetween t a'.over.items host begin end) (sym table)
            (subst (λ (bs : List Bool). AreOverBetween a.table bs host begin end) (sym over) (between-more a.table a.over.items place host begin end old.1)),
      );
}

pub kept-front : (a a' : Awaiting) → IsKept a → a'.table ≡ a.table → a'.over.items ≡ a.over.items → a'.reached ≡ a.reached → a'.front ≤ length a.over.items → ((p : ℕ) → p < a'.front → slice_get a.over.items p ≡ Some true) → IsKept a'
kept-front a a' k table over reached bound front = record {
  bound = omega (arith, bound, ap (λ (bs : List Bool). length bs) over);
  table = subst (λ (t : Table). IsTable t) (sym table) k.table;
  order = subst (λ (t : Table). AllPairs IsBefore (sends_in t)) (sym table) k.order;
  count = ap (λ (bs : List Bool). length bs) over ∙ (k.count ∙ ap (λ (t : Table). length (sends_in t)) (sym table));
  front = λ p below. subst (λ (bs : List Bool). slice_get bs p ≡ Some true) (sym over) (front p below);
  reached = λ host begin end is.
      let old = k.reached host begin end (subst (λ (m : BTreeMap (ℕ × ℕ) ℕ). get pair_cmp m (host, begin) ≡ Some end) reached is) in (
        old.0,
        subst (λ (t : Table). AreOverBetween t a'.over.items host begin end) (sym table)
            (subst (λ (bs : List Bool). AreOverBetween a.table bs host begin end) (sym over) old.1),
      );
}

pub kept-reached : (a a' : Awaiting) (host begin end : ℕ) → IsKept a → a'.table ≡ a.table → a'.over.items ≡ a.over.items → a'.front ≡ a.front → Updates pair_cmp a.reached a'.reached (host, begin) (Some end)
    → begin ≤ end → AreOverBetween a.table a.over.items host begin end → IsKept a'
kept-reached a a' host begin end k table over front u low all = record {
  bound = let b = k.bound in omega (arith, b, front, ap (λ (bs : List Bool). length bs) over);
  table = subst (λ (t : Table). IsTable t) (sym table) k.table;
  order = subst (λ (t : Table). AllPairs IsBefore (sends_in t)) (sym table) k.order;
  count = ap (λ (bs : List Bool). length bs) over ∙ (k.count ∙ ap (λ (t : Table). length (sends_in t)) (sym table));
  front = λ p below. subst (λ (bs : List Bool). slice_get bs p ≡ Some true) (sym over) (k.front p (subst (λ (n : ℕ). p < n) front below));
  reached = λ h b e is. moved h b e (by_key h b e is (pair-updated a.reached a'.reached (host, begin) end u (h, b)));
}
  where
    moved : (h b e : ℕ) → (b ≤ e) × AreOverBetween a.table a.over.items h b e → (b ≤ e) × AreOverBetween a'.table a'.over.items h b e
    moved h b e old = (
      old.0,
      subst (λ (t : Table). AreOverBetween t a'.over.items h b e) (sym table) (subst (λ (bs : List Bool). AreOverBetween a.table bs h b e) (sym over) old.1),
    )

    by_key : (h b e : ℕ) → get pair_cmp a'.reached (h, b) ≡ Some e → (Path (ℕ × ℕ) (host, begin) (h, b) × (get pair_cmp a'.reached (h, b) ≡ Some end)) ⊎ (get pair_cmp a'.reached (h, b) ≡ get pair_cmp a.reached (h, b))
        → (b ≤ e) × AreOverBetween a.table a.over.items h b e
    by_key h b e is (inl here) =
        let at : end ≡ e = some-is end e (sym here.1 ∙ is) in
        subst (λ (k : ℕ × ℕ). (k.1 ≤ e) × AreOverBetween a.table a.over.items k.0 k.1 e) here.0 (subst (λ (n : ℕ). (begin ≤ n) × AreOverBetween a.table a.over.items host begin n) at (low, all))
    by_key h b e is (inr same) = k.reached h b e (sym same ∙ is)

-- ---- as the calls have it

pub is-at-as : (sends : List Sent) (h h' n n' place : ℕ) → h ≡ h' → n ≡ n' → IsAt sends h n place → IsAt sends h' n' place
is-at-as sends h h' n n' place eh en is = record { s = is.s; at = is.at; host = is.host ∙ eh; ordinal = is.ordinal ∙ en }

-- one more take is over
pub between-step : (t : Table) (over : List Bool) (host from here o : ℕ) → AreOverBetween t over host from here → slice_get t.takes.items here ≡ Some o → IsTakeOver (sends_in t) over host o
    → AreOverBetween t over host from (here + 1)
between-step t over host from here o all there is at ordinal low high e = by_place (cases_eq at here)
  where
    by_place : (at ≡ here) ⊎ (at ≡ here → ⊥) → IsTakeOver (sends_in t) over host ordinal
    by_place (inl same) =
        let one : o ≡ ordinal = some-is o ordinal (sym there ∙ (ap (λ (k : ℕ). slice_get t.takes.items k) (sym same) ∙ e)) in
        subst (λ (n : ℕ). IsTakeOver (sends_in t) over host n) one is
    by_place (inr apart) = all at ordinal low (omega (arith, high, apart)) e

pub earlier-yes : (a a' : Awaiting) (place : ℕ) (f s : Awaited) → IsKept a' → a'.table ≡ a.table → a'.over.items ≡ a.over.items → slice_get (sends_in a'.table) a'.front ≡ Some (sent_in a'.table.takes.items f)
    → slice_get (sends_in a'.table) place ≡ Some (sent_in a'.table.takes.items s) → s.phase ≤ f.phase → AreEarlierOver (sends_in a.table) a.over.items place
earlier-yes a a' place f s k table over there here low =
    subst (λ (t : Table). AreEarlierOver (sends_in t) a.over.items place) table
    (subst (λ (bs : List Bool). AreEarlierOver (sends_in a'.table) bs place) over
    (earlier-over (sends_in a'.table) a'.over.items a'.front place (sent_in a'.table.takes.items s) k.order k.count k.front here (inr (sent_in a'.table.takes.items f, there, low))))

pub earlier-no : (a a' : Awaiting) (place : ℕ) (f s : Awaited) → a'.table ≡ a.table → slice_get a.over.items a'.front ≡ Some false → slice_get (sends_in a'.table) a'.front ≡ Some (sent_in a'.table.takes.items f)
    → slice_get (sends_in a'.table) place ≡ Some (sent_in a'.table.takes.items s) → f.phase < s.phase → AreEarlierOver (sends_in a.table) a.over.items place → ⊥
earlier-no a a' place f s table left there here less all =
    earlier-left (sends_in a'.table) a.over.items a'.front place (sent_in a'.table.takes.items f) (sent_in a'.table.takes.items s) left there here less
    (subst (λ (t : Table). AreEarlierOver (sends_in t) a.over.items place) (sym table) all)

-- what is kept at first
pub kept-new : (a : Awaiting) (plan : List Phase) → IsTable a.table → sends_in a.table ≡ sends_of plan → length a.over.items ≡ length (sends_in a.table) → a.front ≡ 0 → a.reached.entries ≡ [] → IsKept a
kept-new a plan table sends count front none = record {
  table = table;
  order = subst (λ (ss : List Sent). AllPairs IsBefore ss) (sym sends) (sends-before plan);
  count = count;
  bound = omega (arith, front);
  front = λ place below. absurd (omega (arith, front, below));
  reached = λ host begin end is. absurd (no-value end (sym (ap (λ es. lookup (is_at (pair_cmp (host, begin))) es) none) ∙ is));
}
  where
    no-value : (n : ℕ) → None ≡ Some n → ⊥
    no-value n e = cc

pub place-within : (sends : List Sent) (h n : ℕ) (o : Option ℕ) → IfSome o (IsAt sends h n) → IfSome o (λ place. place < length sends)
place-within sends h n (Some place) is = within sends place is.s is.at
place-within sends h n None is = tt
