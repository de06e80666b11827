-- An extent in place of another that is as long.
use Rattle.std.proofs.Common.{◌≡◌, ℕ, ◌+◌, ◌-◌, ◌<◌, ◌≤◌, Bool, true, false, not, eqb, ◌||◌, ◌&&◌, List, [], ◌∷◌, ◌++◌, Option, length, drop, sym, refl, ap, ◌∙◌, subst, ◌⊎◌, ⊎_elim, inl, inr, arith}
use Rattle.std.specs.BTreeMap.{insert_entry}
use Rattle.std.specs.Ordering.{nat_cmp}
use Rattle.std.proofs.lemmas.Bool.{and_parts, cases_Bool, eqb-true, ne_eqb}
use Rattle.std.proofs.lemmas.List.{append_assoc, drop_at, length-append, take_at}
use Rattle.std.proofs.lemmas.List.Folds.{list_any-append}
use Rattle.cp_base.specs.Buffer.{Buffer}
use Rattle.cp_base.specs.Pieces.{patched}
use Rattle.extents.specs.declared.tiles.Extent.{Extent}
use Rattle.extents.specs.declared.tiles.Extent.TheVariants.{Home, Out}
use Rattle.extents.specs.Homes.{has_hole, same_hole}
use Rattle.extents.specs.Tiles.{AreTiles, HasExtent, IsTakenOut, all_holes, all_shown, extent_len, hole_at, shown_by}
use Rattle.extents.proofs.Tiling.{Stands, holes-append, insert_there, length-shown, long, long-append, long-cons, lookup_there, shown-append, stands_behind, tiles-append}

-- items in place of as many others
patched_there : {A : Type 0} (front old back new : List A) (s : ℕ) → length front ≡ s → length new ≡ length old → patched (front ++ (old ++ back)) s new ≡ front ++ (new ++ back)
patched_there front old back new s place size =
    let n : length (front ++ old) ≡ s + length new = omega (arith, length-append front old) in
    ap (λ zs. zs ++ new ++ drop (s + length new) (front ++ (old ++ back))) (take_at front (old ++ back) s place)
    ∙ ap (λ zs. front ++ new ++ drop (s + length new) zs) (sym (append_assoc front old back))
    ∙ ap (λ zs. front ++ new ++ zs) (drop_at (front ++ old) back (s + length new) n)
    ∙ append_assoc front new back

pub replaced_entries : (es new : List (ℕ × Extent)) (s : ℕ) (x y : Extent) (st : Stands 0 es s x) → new ≡ insert_entry nat_cmp es s y → new ≡ st.before ++ (s, y) ∷ st.behind
replaced_entries es new s x y st made =
    made ∙ ap (λ (zs : List (ℕ × Extent)). insert_entry nat_cmp zs s y) st.parts ∙ insert_there s x y 0 st.before st.behind st.front st.place

pub replaced_tiles : (es new : List (ℕ × Extent)) (s : ℕ) (x y : Extent) → Stands 0 es s x → new ≡ insert_entry nat_cmp es s y → extent_len y ≡ extent_len x → AreTiles 0 new
replaced_tiles es new s x y st made size =
    let some : 0 < extent_len y = omega (arith, st.some) in
    let rest : AreTiles (s + extent_len y) st.behind = subst (λ (n : ℕ). AreTiles (s + n) st.behind) (sym size) st.rest in
    let all : AreTiles s ((s, y) ∷ st.behind) = (refl, some, rest) in
    subst (AreTiles 0) (sym (replaced_entries es new s x y st made))
    (tiles-append 0 st.before ((s, y) ∷ st.behind) st.front (subst (λ (n : ℕ). AreTiles n ((s, y) ∷ st.behind)) (sym st.place) all))

pub replaced_shown : (es new : List (ℕ × Extent)) (s : ℕ) (x y : Extent) → Stands 0 es s x → new ≡ insert_entry nat_cmp es s y → extent_len y ≡ extent_len x
    → all_shown new ≡ patched (all_shown es) s (shown_by y)
replaced_shown es new s x y st made size =
    let place : length (all_shown st.before) ≡ s = omega (arith, st.place) in
    let sizes : length (shown_by y) ≡ length (shown_by x) = length-shown y ∙ size ∙ sym (length-shown x) in
    ap all_shown (replaced_entries es new s x y st made) ∙ shown-append st.before ((s, y) ∷ st.behind)
    ∙ sym (patched_there (all_shown st.before) (shown_by x) (all_shown st.behind) (shown_by y) s place sizes)
    ∙ ap (λ (xs : List (Option ℕ)). patched xs s (shown_by y)) (sym (ap all_shown st.parts ∙ shown-append st.before ((s, x) ∷ st.behind)))

pub replaced_size : (es new : List (ℕ × Extent)) (s : ℕ) (x y : Extent) → Stands 0 es s x → new ≡ insert_entry nat_cmp es s y → extent_len y ≡ extent_len x → long new ≡ long es
replaced_size es new s x y st made size =
    ap long (replaced_entries es new s x y st made) ∙ long-append st.before ((s, y) ∷ st.behind)
    ∙ (let e : long st.before + long ((s, y) ∷ st.behind) ≡ long st.before + long ((s, x) ∷ st.behind) = omega (arith, size, long-cons (s, y) st.behind, long-cons (s, x) st.behind) in e)
    ∙ sym (long-append st.before ((s, x) ∷ st.behind)) ∙ ap long (sym st.parts)

-- the holes around an extent
holes_around : (es before behind : List (ℕ × Extent)) (s : ℕ) (x : Extent) (start len : ℕ) → es ≡ before ++ (s, x) ∷ behind
    → has_hole (all_holes es) start len ≡ (has_hole (all_holes before) start len || (has_hole (hole_at s x) start len || has_hole (all_holes behind) start len))
holes_around es before behind s x start len parts =
    ap (λ (hs : List (ℕ × ℕ)). has_hole hs start len) (ap all_holes parts ∙ holes-append before ((s, x) ∷ behind))
    ∙ list_any-append (λ (hole : ℕ × ℕ). same_hole hole.0 hole.1 start len) (all_holes before) (hole_at s x ++ all_holes behind)
    ∙ ap (λ (b : Bool). has_hole (all_holes before) start len || b) (list_any-append (λ (hole : ℕ × ℕ). same_hole hole.0 hole.1 start len) (hole_at s x) (all_holes behind))

mix_taken : (b here c : Bool) → (b || ((here || false) || c)) ≡ (here || (b || (false || c)))
mix_taken true true c = refl
mix_taken true false c = refl
mix_taken false true c = refl
mix_taken false false c = refl

pub taken_out : (es new : List (ℕ × Extent)) (from to : ℕ) (b : Buffer) → Stands 0 es from (Home b) → length b.items ≡ to - from → new ≡ insert_entry nat_cmp es from (Out (to - from)) → IsTakenOut es new from to
taken_out es new from to b st size made = record {
  tiles = replaced_tiles es new from (Home b) (Out (to - from)) st made (sym size);
  size = replaced_size es new from (Home b) (Out (to - from)) st made (sym size);
  shown = replaced_shown es new from (Home b) (Out (to - from)) st made (sym size);
  holes = λ start len.
      holes_around new st.before st.behind from (Out (to - from)) start len (replaced_entries es new from (Home b) (Out (to - from)) st made)
      ∙ mix_taken (has_hole (all_holes st.before) start len) (same_hole from (to - from) start len) (has_hole (all_holes st.behind) start len)
      ∙ ap (λ (b : Bool). same_hole from (to - from) start len || b) (sym (holes_around es st.before st.behind from (Home b) start len st.parts));
}

-- no hole of extents begins outside of them
none_apart : (a : ℕ) (es : List (ℕ × Extent)) (start len : ℕ) → AreTiles a es → (start < a) ⊎ (a + long es ≤ start) → has_hole (all_holes es) start len ≡ false
none_apart a [] start len tiles apart = refl
none_apart a ((k, Home b) ∷ es) start len tiles apart =
    none_apart (a + length b.items) es start len tiles.2
    (⊎_elim (λ (before : start < a). inl (omega arith)) (λ (behind : a + long ((k, Home b) ∷ es) ≤ start). inr (omega (arith, long-cons (k, Home b) es))) apart)
none_apart a ((k, Out n) ∷ es) start len tiles apart =
    let more = none_apart (a + n) es start len tiles.2
    (⊎_elim (λ (before : start < a). inl (omega arith)) (λ (behind : a + long ((k, Out n) ∷ es) ≤ start). inr (omega (arith, long-cons (k, Out n) es))) apart) in
    let other : k ≡ start → ⊥ =
    λ same. ⊎_elim (λ (before : start < a). absurd (omega (arith, tiles.0))) (λ (behind : a + long ((k, Out n) ∷ es) ≤ start). absurd (omega (arith, tiles.0, tiles.1, long-cons (k, Out n) es))) apart in
    rw (ne_eqb k start other) more

mix_put : (b here c : Bool) → (here ≡ true → b ≡ false) → (here ≡ true → c ≡ false) → (b || (false || c)) ≡ ((b || ((here || false) || c)) && not here)
mix_put true true c nb nc = let e : true ≡ false = nb refl in absurd (cc)
mix_put false true c nb nc = nc refl
mix_put true false c nb nc = refl
mix_put false false true nb nc = refl
mix_put false false false nb nc = refl

same_start : (s n start len : ℕ) → same_hole s n start len ≡ true → s ≡ start
same_start s n start len h = eqb-true s start (and_parts (eqb s start) (eqb n len) h).0

pub put_holes : (es new : List (ℕ × Extent)) (s n : ℕ) (b : Buffer) → Stands 0 es s (Out n) → length b.items ≡ n → new ≡ insert_entry nat_cmp es s (Home b) → (start len : ℕ)
    → has_hole (all_holes new) start len ≡ (has_hole (all_holes es) start len && not (same_hole s n start len))
put_holes es new s n b st size made start len =
    let before : same_hole s n start len ≡ true → has_hole (all_holes st.before) start len ≡ false =
    λ here. none_apart 0 st.before start len st.front (inr (omega (arith, st.place, same_start s n start len here))) in
    let behind : same_hole s n start len ≡ true → has_hole (all_holes st.behind) start len ≡ false =
    λ here. none_apart (s + n) st.behind start len st.rest (inl (omega (arith, st.some, same_start s n start len here))) in
    holes_around new st.before st.behind s (Home b) start len (replaced_entries es new s (Out n) (Home b) st made)
    ∙ mix_put (has_hole (all_holes st.before) start len) (same_hole s n start len) (has_hole (all_holes st.behind) start len) before behind
    ∙ ap (λ (c : Bool). c && not (same_hole s n start len)) (sym (holes_around es st.before st.behind s (Out n) start len st.parts))

-- a hole in the list is one of the extents
pub hole_stands : (a : ℕ) (es : List (ℕ × Extent)) (from len : ℕ) → AreTiles a es → has_hole (all_holes es) from len ≡ true → Stands a es from (Out len)
hole_stands a [] from len tiles h = absurd (cc)
hole_stands a ((k, Home b) ∷ es) from len tiles h = stands_behind a (k, Home b) es from (Out len) tiles.0 tiles.1 (hole_stands (a + length b.items) es from len tiles.2 h)
hole_stands a ((k, Out n) ∷ es) from len tiles h =
    ⊎_elim
    (λ (here : same_hole k n from len ≡ true).
    let first : k ≡ from = same_start k n from len here in
    let size : n ≡ len = same_len k n from len here in
    record {
      before = [];
      behind = es;
      parts = ap (λ (j : ℕ). (j, Out n) ∷ es) first ∙ ap (λ (j : ℕ). (from, Out j) ∷ es) size;
      front = tt;
      place = omega (arith, tiles.0);
      some = omega (arith, tiles.1);
      rest = subst (λ (m : ℕ). AreTiles m es) (let e : a + n ≡ from + len = omega (arith, tiles.0) in e) tiles.2;
    })
    (λ (other : same_hole k n from len ≡ false).
    let rest : has_hole (all_holes es) from len ≡ true = subst (λ (b : Bool). (b || has_hole (all_holes es) from len) ≡ true) other h in
    stands_behind a (k, Out n) es from (Out len) tiles.0 tiles.1 (hole_stands (a + n) es from len tiles.2 rest))
    (cases_Bool (same_hole k n from len))
  where
    same_len : (s n start len : ℕ) → same_hole s n start len ≡ true → n ≡ len
    same_len s n start len h = eqb-true n len (and_parts (eqb s start) (eqb n len) h).1

pub hole_has : (es : List (ℕ × Extent)) (from len : ℕ) → AreTiles 0 es → has_hole (all_holes es) from len ≡ true → HasExtent es from (Out len)
hole_has es from len tiles h =
    let st = hole_stands 0 es from len tiles h in
    subst (λ (zs : List (ℕ × Extent)). HasExtent zs from (Out len)) (sym st.parts) (lookup_there from (Out len) 0 st.before st.behind st.front st.place)
