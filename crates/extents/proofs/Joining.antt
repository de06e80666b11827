-- Extents that are joined to one, and those that are taken away between two places.
use Rattle.std.proofs.Common.{◌≡◌, ℕ, zero, suc, ◌+◌, ◌-◌, ◌<◌, ◌≤◌, Bool, true, false, cond, not, ◌&&◌, List, [], ◌∷◌, ◌++◌, Option, Some, None, length, take, drop, map, replicate, sym, refl, ap, ◌∙◌, subst, ⊎_elim, arith}
use Rattle.std.specs.BTreeMap.{BTreeMap, insert_entry, is_at}
use Rattle.std.specs.BTreeMap.Range.{IsEntryInRange, entries_between, range_contains}
use Rattle.std.specs.List.{slice_get}
use Rattle.std.specs.Option.{IfSome}
use Rattle.std.specs.Result.{IsOk, OnErr}
use Rattle.std.specs.declared.result.Result.{Result}
use Rattle.std.specs.declared.result.Result.TheVariants.{Err, Ok}
use Rattle.std.specs.declared.cmp.Ordering.TheVariants.{Less}
use Rattle.std.specs.Map.{lookup, remove_entry}
use Rattle.std.specs.Ordering.{is_lt, nat_cmp}
use Rattle.std.specs.declared.ops.Bound.TheVariants.{Excluded, Included}
use Rattle.std.proofs.lemmas.Bool.{cases_Bool, cases_eq, cases_lt, eq-eqb, le-ltb, lt-ltb, ne_eqb}
use Rattle.std.proofs.lemmas.List.{drop-map, drop_at, length-map, take_at}
use Rattle.std.proofs.lemmas.List.Elements.{filter-append}
use Rattle.cp_base.specs.Buffer.{Buffer}
use Rattle.cp_base.specs.Pieces.{piece}
use Rattle.extents.specs.declared.tiles.Extent.{Extent}
use Rattle.extents.specs.declared.tiles.Extent.TheVariants.{Home, Out}
use Rattle.extents.specs.Tiles.{AreBetween, AreTiles, HasExtent, IsEdge, IsOneExtent, IsRecut, all_holes, all_shown, extent_len, without_between}
use Rattle.extents.proofs.Tiling.{holes-append, insert_there, long, long-append, long-cons, lookup_there, parted, shown-append, tiles-append, tiles_split, up_to_bound}

-- whether an extent begins between two places
abbrev between : ℕ → ℕ → ℕ → Bool
between from to k = range_contains nat_cmp (Included from) (Excluded to) k

begins_between : (from to k : ℕ) → from ≤ k → k < to → between from to k ≡ true
begins_between from to k low high =
    ⊎_elim (λ (less : from < k). rw (lt-ltb from k less, le-ltb to k (omega arith), ne_eqb to k (λ same. omega arith)) refl)
    (λ (more : k ≤ from). rw (le-ltb from k more, eq-eqb from k (omega arith), le-ltb to k (omega arith), ne_eqb to k (λ same. omega arith)) refl) (cases_lt from k)

begins_before : (from to k : ℕ) → k < from → between from to k ≡ false
begins_before from to k low = rw (le-ltb from k (omega arith), ne_eqb from k (λ same. omega arith)) refl

and_false : (b : Bool) → (b && false) ≡ false
and_false true = refl
and_false false = refl

begins_behind : (from to k : ℕ) → to ≤ k → between from to k ≡ false
begins_behind from to k high =
    ⊎_elim (λ (less : to < k). rw (lt-ltb to k less) (and_false _))
    (λ (more : k ≤ to). rw (le-ltb to k more, eq-eqb to k (omega arith)) (and_false _)) (cases_lt to k)

-- taking away one of the extents that are left out changes nothing
pub without_removed : (from to k : ℕ) (es : List (ℕ × Extent)) → from ≤ k → k < to → without_between from to (remove_entry (is_at (nat_cmp k)) es) ≡ without_between from to es
without_removed from to k [] low high = refl
without_removed from to k (e ∷ es) low high =
    ⊎_elim
    (λ (same : k ≡ e.0).
    let passes : is_at (nat_cmp k) e.0 ≡ true = rw (le-ltb k e.0 (omega arith), eq-eqb k e.0 same) refl in
    let out : between from to e.0 ≡ true = begins_between from to e.0 (omega arith) (omega arith) in
    ap (λ (b : Bool). without_between from to (cond b es (e ∷ remove_entry (is_at (nat_cmp k)) es))) passes
    ∙ sym (ap (λ (b : Bool). cond (not b) (e ∷ without_between from to es) (without_between from to es)) out))
    (λ (other : k ≡ e.0 → ⊥).
    let fails : is_at (nat_cmp k) e.0 ≡ false = not_at k e.0 other in
    ap (λ (b : Bool). without_between from to (cond b es (e ∷ remove_entry (is_at (nat_cmp k)) es))) fails
    ∙ ap (λ (zs : List (ℕ × Extent)). cond (not (between from to e.0)) (e ∷ zs) zs) (without_removed from to k es low high))
    (cases_eq k e.0)
  where
    not_at : (m n : ℕ) → (m ≡ n → ⊥) → is_at (nat_cmp m) n ≡ false
    not_at m n other = ⊎_elim (λ (less : m < n). rw (lt-ltb m n less) refl) (λ (more : n ≤ m). rw (le-ltb m n more, ne_eqb m n other) refl) (cases_lt m n)

-- where none begins between the places, none is left out
pub without_none : (from to : ℕ) (es : List (ℕ × Extent)) → entries_between nat_cmp (Included from) (Excluded to) es ≡ [] → without_between from to es ≡ es
without_none from to [] none = refl
without_none from to (e ∷ es) none =
    ⊎_elim
    (λ (here : between from to e.0 ≡ true).
    let some : e ∷ entries_between nat_cmp (Included from) (Excluded to) es ≡ [] =
    subst (λ (b : Bool). cond b (e ∷ entries_between nat_cmp (Included from) (Excluded to) es) (entries_between nat_cmp (Included from) (Excluded to) es) ≡ []) here none in
    absurd (cc))
    (λ (out : between from to e.0 ≡ false).
    let rest : entries_between nat_cmp (Included from) (Excluded to) es ≡ [] =
    subst (λ (b : Bool). cond b (e ∷ entries_between nat_cmp (Included from) (Excluded to) es) (entries_between nat_cmp (Included from) (Excluded to) es) ≡ []) out none in
    ap (λ (b : Bool). cond (not b) (e ∷ without_between from to es) (without_between from to es)) out ∙ ap (λ (zs : List (ℕ × Extent)). e ∷ zs) (without_none from to es rest))
    (cases_Bool (between from to e.0))

kept_one : (from to : ℕ) (e : ℕ × Extent) (es : List (ℕ × Extent)) → between from to e.0 ≡ false → without_between from to (e ∷ es) ≡ e ∷ without_between from to es
kept_one from to e es out = ap (λ (b : Bool). cond (not b) (e ∷ without_between from to es) (without_between from to es)) out

left_one : (from to : ℕ) (e : ℕ × Extent) (es : List (ℕ × Extent)) → between from to e.0 ≡ true → without_between from to (e ∷ es) ≡ without_between from to es
left_one from to e es out = ap (λ (b : Bool). cond (not b) (e ∷ without_between from to es) (without_between from to es)) out

kept_before : (from to a : ℕ) (es : List (ℕ × Extent)) → AreTiles a es → a + long es ≤ from → without_between from to es ≡ es
kept_before from to a [] tiles low = refl
kept_before from to a (e ∷ es) tiles low =
    let more = kept_before from to (a + extent_len e.1) es tiles.2 (omega (arith, long-cons e es)) in
    kept_one from to e es (begins_before from to e.0 (omega (arith, tiles.0, tiles.1, long-cons e es))) ∙ ap (λ (zs : List (ℕ × Extent)). e ∷ zs) more

kept_behind : (from to a : ℕ) (es : List (ℕ × Extent)) → AreTiles a es → to ≤ a → without_between from to es ≡ es
kept_behind from to a [] tiles high = refl
kept_behind from to a (e ∷ es) tiles high =
    let more = kept_behind from to (a + extent_len e.1) es tiles.2 (omega arith) in
    kept_one from to e es (begins_behind from to e.0 (omega (arith, tiles.0))) ∙ ap (λ (zs : List (ℕ × Extent)). e ∷ zs) more

left_between : (from to a : ℕ) (es : List (ℕ × Extent)) → AreTiles a es → from ≤ a → a + long es ≤ to → without_between from to es ≡ []
left_between from to a [] tiles low high = refl
left_between from to a (e ∷ es) tiles low high =
    let more = left_between from to (a + extent_len e.1) es tiles.2 (omega arith) (omega (arith, long-cons e es)) in
    left_one from to e es (begins_between from to e.0 (omega (arith, tiles.0)) (omega (arith, tiles.0, tiles.1, long-cons e es))) ∙ more

-- extents all of whose bytes are at home have no hole
no_holes : (a : ℕ) (es : List (ℕ × Extent)) (js : List ℕ) → AreTiles a es → all_shown es ≡ map (λ byte. Some byte) js → all_holes es ≡ []
no_holes a [] js tiles shown = refl
no_holes a ((k, Home b) ∷ es) js tiles shown =
    let rest : all_shown es ≡ map (λ byte. Some byte) (drop (length b.items) js) =
    sym (drop_at (map (λ byte. Some byte) b.items) (all_shown es) (length b.items) (length-map b.items (λ byte. Some byte)))
    ∙ ap (drop (length b.items)) shown ∙ drop-map (λ byte. Some byte) (length b.items) js in
    no_holes (a + length b.items) es (drop (length b.items) js) tiles.2 rest
no_holes a ((k, Out n) ∷ es) js tiles shown = absurd (hole_shows n (all_shown es) js tiles.1 shown)
  where
    hole_shows : (n : ℕ) (xs : List (Option ℕ)) (js : List ℕ) → 0 < n → replicate n None ++ xs ≡ map (λ byte. Some byte) js → ⊥
    hole_shows zero xs js some e = absurd (omega arith)
    hole_shows (suc n) xs [] some e = cc
    hole_shows (suc n) xs (j ∷ js) some e = cc

-- extents that are joined: those before, those that are joined, and those behind
record Parts (es : List (ℕ × Extent)) (from to : ℕ) (joined : Buffer) : Type 0 where
  before : List (ℕ × Extent)
  x : Extent
  middle : List (ℕ × Extent)
  behind : List (ℕ × Extent)
  parts : es ≡ before ++ (from, x) ∷ (middle ++ behind)
  front : AreTiles 0 before
  place : long before ≡ from
  inner : AreTiles from ((from, x) ∷ middle)
  size : from + long ((from, x) ∷ middle) ≡ to
  rest : AreTiles to behind
  shown : map (λ byte. Some byte) joined.items ≡ all_shown ((from, x) ∷ middle)

-- the bytes of the ones that are joined
middle_shown : (es before middle behind : List (ℕ × Extent)) (from n : ℕ) → es ≡ before ++ (middle ++ behind) → long before ≡ from → long middle ≡ n → piece (all_shown es) from n ≡ all_shown middle
middle_shown es before middle behind from n parts place size =
    ap (λ (xs : List (Option ℕ)). take n (drop from xs)) (ap all_shown parts ∙ shown-append before (middle ++ behind))
    ∙ ap (take n) (drop_at (all_shown before) (all_shown (middle ++ behind)) from place ∙ shown-append middle behind)
    ∙ take_at (all_shown middle) (all_shown behind) n size

some_parts : (es : List (ℕ × Extent)) (from to : ℕ) (joined : Buffer) (before middle behind : List (ℕ × Extent)) → from < to → AreTiles 0 es → es ≡ before ++ (middle ++ behind) → long before ≡ from
    → from + long middle ≡ to → AreBetween es from to joined.items → Parts es from to joined
some_parts es from to joined before [] behind order tiles parts place size bytes = absurd (omega arith)
some_parts es from to joined before ((k, x) ∷ middle) behind order tiles parts place size bytes =
    let split = tiles_split 0 before (((k, x) ∷ middle) ++ behind) (subst (AreTiles 0) parts tiles) in
    let n : 0 + long before ≡ from = omega arith in
    let rest : AreTiles from (((k, x) ∷ middle) ++ behind) = subst (λ (m : ℕ). AreTiles m (((k, x) ∷ middle) ++ behind)) n split.1 in
    let inner = tiles_split from ((k, x) ∷ middle) behind rest in
    let key : k ≡ from = rest.0 in
    record {
      before = before;
      x = x;
      middle = middle;
      behind = behind;
      parts = parts ∙ ap (λ (j : ℕ). before ++ (j, x) ∷ (middle ++ behind)) key;
      front = split.0;
      place = place;
      inner = (refl, inner.0.1, inner.0.2);
      size = size;
      rest = subst (λ (m : ℕ). AreTiles m behind) size inner.1;
      shown = bytes ∙ middle_shown es before ((k, x) ∷ middle) behind from (to - from) parts place (omega arith);
    }

parts_of : (es : List (ℕ × Extent)) (from to : ℕ) (joined : Buffer) → from < to → AreTiles 0 es → IsEdge es from → IsEdge es to → AreBetween es from to joined.items → Parts es from to joined
parts_of es from to joined order tiles first last bytes =
    let fronts : AreTiles 0 first.before = (tiles_split 0 first.before first.behind (subst (AreTiles 0) first.parts tiles)).0 in
    let m = parted 0 first.before first.behind last.before last.behind (sym first.parts ∙ last.parts) fronts (omega (arith, first.place, last.place)) in
    let size : from + long m.middle ≡ to = omega (arith, first.place, last.place, ap long m.front, long-append first.before m.middle) in
    some_parts es from to joined first.before m.middle last.behind order tiles (first.parts ∙ ap (λ (zs : List (ℕ × Extent)). first.before ++ zs) m.rest) first.place size bytes

-- what the extents become
pub record Joined (es new : List (ℕ × Extent)) (from to : ℕ) : Type 0 where
  pub same : IsRecut es new
  pub one : IsOneExtent new from to

pub joined_to_one : (es made new : List (ℕ × Extent)) (from to : ℕ) (joined : Buffer) → from < to → AreTiles 0 es → IsEdge es from → IsEdge es to → AreBetween es from to joined.items
    → made ≡ insert_entry nat_cmp es from (Home joined) → new ≡ without_between (from + 1) to made → Joined es new from to
joined_to_one es made new from to joined order tiles first last bytes inserted removed =
    let p = parts_of es from to joined order tiles first last bytes in
    let sizes : long ((from, p.x) ∷ p.middle) ≡ extent_len p.x + long p.middle = long-cons (from, p.x) p.middle in
    let long_joined : length joined.items ≡ to - from = omega (arith, p.size, ap length p.shown, length-map joined.items (λ byte. Some byte)) in
    let some : 0 < extent_len p.x = p.inner.1 in
    let there : made ≡ p.before ++ (from, Home joined) ∷ (p.middle ++ p.behind) =
    inserted ∙ ap (λ (zs : List (ℕ × Extent)). insert_entry nat_cmp zs from (Home joined)) p.parts ∙ insert_there from p.x (Home joined) 0 p.before (p.middle ++ p.behind) p.front (omega (arith, p.place)) in
    let fore : without_between (from + 1) to p.before ≡ p.before = kept_before (from + 1) to 0 p.before p.front (omega (arith, p.place)) in
    let gone : without_between (from + 1) to p.middle ≡ [] = left_between (from + 1) to (from + extent_len p.x) p.middle p.inner.2 (omega (arith, some)) (omega (arith, p.size, sizes)) in
    let back : without_between (from + 1) to p.behind ≡ p.behind = kept_behind (from + 1) to to p.behind p.rest (omega arith) in
    let here : without_between (from + 1) to ((from, Home joined) ∷ (p.middle ++ p.behind)) ≡ (from, Home joined) ∷ p.behind =
    kept_one (from + 1) to (from, Home joined) (p.middle ++ p.behind) (begins_before (from + 1) to from (omega arith))
    ∙ ap (λ (zs : List (ℕ × Extent)). (from, Home joined) ∷ zs)
    (filter-append (λ (e : ℕ × Extent). not (between (from + 1) to e.0)) p.middle p.behind
    ∙ ap (λ (zs : List (ℕ × Extent)). zs ++ without_between (from + 1) to p.behind) gone ∙ back) in
    let entries : new ≡ p.before ++ (from, Home joined) ∷ p.behind =
    removed ∙ ap (without_between (from + 1) to) there ∙ filter-append (λ (e : ℕ × Extent). not (between (from + 1) to e.0)) p.before ((from, Home joined) ∷ (p.middle ++ p.behind))
    ∙ ap (λ (zs : List (ℕ × Extent)). zs ++ without_between (from + 1) to ((from, Home joined) ∷ (p.middle ++ p.behind))) fore
    ∙ ap (λ (zs : List (ℕ × Extent)). p.before ++ zs) here in
    let end : to ≡ from + length joined.items = omega (arith, long_joined) in
    let positive : 0 < length joined.items = omega (arith, long_joined) in
    let all : AreTiles from ((from, Home joined) ∷ p.behind) = (refl, positive, subst (λ (m : ℕ). AreTiles m p.behind) end p.rest) in
    let start : from ≡ 0 + long p.before = omega (arith, p.place) in
    let grouped : es ≡ p.before ++ (((from, p.x) ∷ p.middle) ++ p.behind) = p.parts in
    record {
      same = record {
        tiles = subst (AreTiles 0) (sym entries) (tiles-append 0 p.before ((from, Home joined) ∷ p.behind) p.front (subst (λ (m : ℕ). AreTiles m ((from, Home joined) ∷ p.behind)) start all));
        shown = ap all_shown entries ∙ shown-append p.before ((from, Home joined) ∷ p.behind)
            ∙ ap (λ (xs : List (Option ℕ)). all_shown p.before ++ (xs ++ all_shown p.behind)) p.shown
            ∙ ap (λ (xs : List (Option ℕ)). all_shown p.before ++ xs) (sym (shown-append ((from, p.x) ∷ p.middle) p.behind))
            ∙ sym (shown-append p.before (((from, p.x) ∷ p.middle) ++ p.behind)) ∙ ap all_shown (sym grouped);
        holes = ap all_holes entries ∙ holes-append p.before ((from, Home joined) ∷ p.behind)
            ∙ sym (ap (λ (hs : List (ℕ × ℕ)). all_holes p.before ++ (hs ++ all_holes p.behind)) (no_holes from ((from, p.x) ∷ p.middle) joined.items p.inner (sym p.shown)))
            ∙ ap (λ (hs : List (ℕ × ℕ)). all_holes p.before ++ hs) (sym (holes-append ((from, p.x) ∷ p.middle) p.behind))
            ∙ sym (holes-append p.before (((from, p.x) ∷ p.middle) ++ p.behind)) ∙ ap all_holes (sym grouped);
      };
      one = record {
        bytes = joined;
        entry = subst (λ (zs : List (ℕ × Extent)). HasExtent zs from (Home joined)) (sym entries) (lookup_there from (Home joined) 0 p.before p.behind p.front (sym start));
        long = long_joined;
      };
    }

-- the extent that is replaced is there
pub joins_there : (es : List (ℕ × Extent)) (from to : ℕ) (joined : Buffer) {A E : Type 0} (r : Result A E) → from < to → AreTiles 0 es → IsEdge es from → IsEdge es to → AreBetween es from to joined.items
    → OnErr r (lookup (is_at (nat_cmp from)) es ≡ None) → IsOk r
joins_there es from to joined r order tiles first last bytes absent = go r absent
  where
    p : Parts es from to joined
    p = parts_of es from to joined order tiles first last bytes

    there : HasExtent es from p.x
    there = subst (λ (zs : List (ℕ × Extent)). HasExtent zs from p.x) (sym p.parts) (lookup_there from p.x 0 p.before (p.middle ++ p.behind) p.front (omega (arith, p.place)))

    go : {A E : Type 0} (r : Result A E) → OnErr r (lookup (is_at (nat_cmp from)) es ≡ None) → IsOk r
    go (Ok v) absent = refl
    go (Err e) absent = let both : Some p.x ≡ None = sym there ∙ absent in absurd (cc)

-- where the first extent of a range begins
below_bound : (s to : ℕ) → nat_cmp s to ≡ Less → s < to
below_bound s to h =
    ⊎_elim (λ (less : s < to). less)
    (λ (more : to ≤ s).
    let less : is_lt (nat_cmp s to) ≡ true = ap is_lt h in
    let not_less : is_lt (nat_cmp s to) ≡ false =
    ⊎_elim (λ (same : s ≡ to). rw (le-ltb s to more, eq-eqb s to same) refl) (λ (other : s ≡ to → ⊥). rw (le-ltb s to more, ne_eqb s to other) refl) (cases_eq s to) in
    absurd (cc)) (cases_lt s to)

pub first_in_range : (m : BTreeMap ℕ Extent) (r t : List (ℕ × Extent)) (s : ℕ) (x : Extent) (from to : ℕ) → r ≡ (s, x) ∷ t
    → IfSome (slice_get r 0) (IsEntryInRange nat_cmp (Included from) (Excluded to) m) → (from ≤ s) × (s < to)
first_in_range m r t s x from to parts inside =
    let here = subst (λ (zs : List (ℕ × Extent)). IfSome (slice_get zs 0) (IsEntryInRange nat_cmp (Included from) (Excluded to) m)) parts inside in
    (up_to_bound from s here.0.0, below_bound s to here.0.1)
