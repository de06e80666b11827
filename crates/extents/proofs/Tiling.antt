-- Extents that lie one after the other: their parts, and what stands at a place.
use Rattle.std.proofs.Common.{◌≡◌, ℕ, ◌+◌, ◌-◌, ◌<◌, ◌≤◌, Bool, true, false, cond, List, [], ◌∷◌, ◌++◌, Option, Some, None, length, map, replicate, get_or, sym, refl, ap, ◌∙◌, subst, ◌⊎◌, ⊎_elim, inl, inr, arith}
use Rattle.std.specs.BTreeMap.{BTreeMap, get, insert_entry, is_at}
use Rattle.std.specs.BTreeMap.Range.{IsInRange}
use Rattle.std.specs.Map.{lookup}
use Rattle.std.specs.List.{slice_get}
use Rattle.std.specs.Option.{IsSome}
use Rattle.std.specs.Ordering.{is_gt, is_lt, nat_cmp}
use Rattle.std.specs.declared.ops.Bound.TheVariants.{Included, Unbounded}
use Rattle.std.proofs.lemmas.Bool.{cases_eq, cases_lt, eq-eqb, le-ltb, lt-ltb, ne_eqb}
use Rattle.std.proofs.lemmas.Option.{slice_get-get_or}
use Rattle.std.proofs.lemmas.List.{append_assoc, get_or-append_right, get_or-map, get_or-replicate, get_or_append_left, get_or_past, length-append, length-map, length-replicate}
use Rattle.extents.specs.declared.tiles.Extent.{Extent}
use Rattle.extents.specs.declared.tiles.Extent.TheVariants.{Home, Out}
use Rattle.cp_base.specs.Buffer.{Buffer}
use Rattle.extents.specs.Tiles.{AreTiles, HasExtent, IsBesideHome, IsEdge, LiesAround, all_holes, all_shown, extent_len, hole_at, shown_by}

pub length-shown : (x : Extent) → length (shown_by x) ≡ extent_len x
length-shown (Home bytes) = length-map bytes.items (λ byte. Some byte)
length-shown (Out len) = length-replicate len None

pub shown-append : (xs ys : List (ℕ × Extent)) → all_shown (xs ++ ys) ≡ all_shown xs ++ all_shown ys
shown-append [] ys = refl
shown-append (e ∷ xs) ys =
    ap (λ (zs : List (Option ℕ)). shown_by e.1 ++ zs) (shown-append xs ys) ∙ sym (append_assoc (shown_by e.1) (all_shown xs) (all_shown ys))

pub holes-append : (xs ys : List (ℕ × Extent)) → all_holes (xs ++ ys) ≡ all_holes xs ++ all_holes ys
holes-append [] ys = refl
holes-append (e ∷ xs) ys =
    ap (λ (zs : List (ℕ × ℕ)). hole_at e.0 e.1 ++ zs) (holes-append xs ys) ∙ sym (append_assoc (hole_at e.0 e.1) (all_holes xs) (all_holes ys))

-- how many bytes extents have together
abbrev pub long : List (ℕ × Extent) → ℕ
long es = length (all_shown es)

pub long-cons : (e : ℕ × Extent) (es : List (ℕ × Extent)) → long (e ∷ es) ≡ extent_len e.1 + long es
long-cons e es = omega (arith, length-append (shown_by e.1) (all_shown es), length-shown e.1)

pub long-append : (xs ys : List (ℕ × Extent)) → long (xs ++ ys) ≡ long xs + long ys
long-append xs ys = ap length (shown-append xs ys) ∙ length-append (all_shown xs) (all_shown ys)

pub tiles-append : (a : ℕ) (xs ys : List (ℕ × Extent)) → AreTiles a xs → AreTiles (a + long xs) ys → AreTiles a (xs ++ ys)
tiles-append a [] ys front rest = subst (λ (n : ℕ). AreTiles n ys) (let e : a + 0 ≡ a = omega arith in e) rest
tiles-append a (e ∷ xs) ys front rest =
    let n : a + long (e ∷ xs) ≡ a + extent_len e.1 + long xs = omega (arith, long-cons e xs) in
    (front.0, front.1, tiles-append (a + extent_len e.1) xs ys front.2 (subst (λ (n : ℕ). AreTiles n ys) n rest))

pub tiles_split : (a : ℕ) (xs ys : List (ℕ × Extent)) → AreTiles a (xs ++ ys) → AreTiles a xs × AreTiles (a + long xs) ys
tiles_split a [] ys all = (tt, subst (λ (n : ℕ). AreTiles n ys) (let e : a ≡ a + 0 = omega arith in e) all)
tiles_split a (e ∷ xs) ys all =
    let more = tiles_split (a + extent_len e.1) xs ys all.2 in
    let n : a + extent_len e.1 + long xs ≡ a + long (e ∷ xs) = omega (arith, long-cons e xs) in
    ((all.0, all.1, more.0), subst (λ (n : ℕ). AreTiles n ys) n more.1)

-- ---- the map at a place

insert_front : (k : ℕ) (v : Extent) (b : ℕ) (ys : List (ℕ × Extent)) → AreTiles b ys → k < b → insert_entry nat_cmp ys k v ≡ (k, v) ∷ ys
insert_front k v b [] tiles h = refl
insert_front k v b (y ∷ ys) tiles h = rw (lt-ltb k y.0 (omega (arith, tiles.0))) refl

-- an extent at a place where none begins, behind one that begins before
pub insert_behind : (k : ℕ) (v : Extent) (s : ℕ) (x : Extent) (a b : ℕ) (xs ys : List (ℕ × Extent)) → AreTiles a xs → a + long xs ≡ s → s < k → AreTiles b ys → k < b
    → insert_entry nat_cmp (xs ++ (s, x) ∷ ys) k v ≡ xs ++ (s, x) ∷ (k, v) ∷ ys
insert_behind k v s x a b [] ys front place low rest high =
    rw (le-ltb k s (omega arith), ne_eqb k s (λ same. omega arith)) (ap (λ (zs : List (ℕ × Extent)). (s, x) ∷ zs) (insert_front k v b ys rest high))
insert_behind k v s x a b (e ∷ xs) ys front place low rest high =
    let size = long-cons e xs in
    let more = insert_behind k v s x (a + extent_len e.1) b xs ys front.2 (omega arith) low rest high in
    rw (le-ltb k e.0 (omega (arith, front.0)), ne_eqb k e.0 (λ same. omega (arith, front.0, front.1))) (ap (λ (zs : List (ℕ × Extent)). e ∷ zs) more)

-- an extent behind all others
pub insert_last : (k : ℕ) (v : Extent) (a : ℕ) (xs : List (ℕ × Extent)) → AreTiles a xs → a + long xs ≤ k → insert_entry nat_cmp xs k v ≡ xs ++ (k, v) ∷ []
insert_last k v a [] front low = refl
insert_last k v a (e ∷ xs) front low =
    let size = long-cons e xs in
    let more = insert_last k v (a + extent_len e.1) xs front.2 (omega arith) in
    rw (le-ltb k e.0 (omega (arith, front.0)), ne_eqb k e.0 (λ same. omega (arith, front.0, front.1))) (ap (λ (zs : List (ℕ × Extent)). e ∷ zs) more)

-- an extent in place of another
pub insert_there : (k : ℕ) (x v : Extent) (a : ℕ) (xs ys : List (ℕ × Extent)) → AreTiles a xs → a + long xs ≡ k
    → insert_entry nat_cmp (xs ++ (k, x) ∷ ys) k v ≡ xs ++ (k, v) ∷ ys
insert_there k x v a [] ys front place = rw (le-ltb k k (omega arith), eq-eqb k k refl) refl
insert_there k x v a (e ∷ xs) ys front place =
    let size = long-cons e xs in
    let more = insert_there k x v (a + extent_len e.1) xs ys front.2 (omega arith) in
    rw (le-ltb k e.0 (omega (arith, front.0)), ne_eqb k e.0 (λ same. omega (arith, front.0, front.1))) (ap (λ (zs : List (ℕ × Extent)). e ∷ zs) more)

pub lookup_there : (k : ℕ) (x : Extent) (a : ℕ) (xs ys : List (ℕ × Extent)) → AreTiles a xs → a + long xs ≡ k → HasExtent (xs ++ (k, x) ∷ ys) k x
lookup_there k x a [] ys front place = rw (le-ltb k k (omega arith), eq-eqb k k refl) refl
lookup_there k x a (e ∷ xs) ys front place =
    let size = long-cons e xs in
    rw (le-ltb k e.0 (omega (arith, front.0)), ne_eqb k e.0 (λ same. omega (arith, front.0, front.1))) (lookup_there k x (a + extent_len e.1) xs ys front.2 (omega arith))

-- extents with one of them set apart
pub record Stands (a : ℕ) (es : List (ℕ × Extent)) (s : ℕ) (x : Extent) : Type 0 where
  pub before : List (ℕ × Extent)
  pub behind : List (ℕ × Extent)
  pub parts : es ≡ before ++ (s, x) ∷ behind
  pub front : AreTiles a before
  pub place : a + long before ≡ s
  pub some : 0 < extent_len x
  pub rest : AreTiles (s + extent_len x) behind

pub stands_behind : (a : ℕ) (e : ℕ × Extent) (es : List (ℕ × Extent)) (s : ℕ) (x : Extent) → e.0 ≡ a → 0 < extent_len e.1 → Stands (a + extent_len e.1) es s x → Stands a (e ∷ es) s x
stands_behind a e es s x first some st = record {
  before = e ∷ st.before;
  behind = st.behind;
  parts = ap (λ (zs : List (ℕ × Extent)). e ∷ zs) st.parts;
  front = (first, some, st.front);
  place = omega (arith, long-cons e st.before, st.place);
  some = st.some;
  rest = st.rest;
}

pub stands : (a : ℕ) (es : List (ℕ × Extent)) (s : ℕ) (x : Extent) → AreTiles a es → HasExtent es s x → Stands a es s x
stands a [] s x tiles here = absurd (cc)
stands a (e ∷ es) s x tiles here =
    ⊎_elim
    (λ (same : s ≡ e.0).
    let passes : is_at (nat_cmp s) e.0 ≡ true = rw (le-ltb s e.0 (omega arith), eq-eqb s e.0 same) refl in
    let found : Some e.1 ≡ Some x = subst (λ (b : Bool). cond b (Some e.1) (lookup (is_at (nat_cmp s)) es) ≡ Some x) passes here in
    let value : e.1 ≡ x = cc in
    let both : e ≡ (s, x) = ap (λ (n : ℕ). (n, e.1)) (sym same) ∙ ap (λ (y : Extent). (s, y)) value in
    let n : a + extent_len e.1 ≡ s + extent_len x = omega (arith, tiles.0, ap extent_len value) in
    record {
      before = [];
      behind = es;
      parts = ap (λ (f : ℕ × Extent). f ∷ es) both;
      front = tt;
      place = omega (arith, tiles.0);
      some = subst (λ (y : Extent). 0 < extent_len y) value tiles.1;
      rest = subst (λ (m : ℕ). AreTiles m es) n tiles.2;
    })
    (λ (other : s ≡ e.0 → ⊥).
    let fails : is_at (nat_cmp s) e.0 ≡ false = not_at s e.0 other in
    let found : lookup (is_at (nat_cmp s)) es ≡ Some x = subst (λ (b : Bool). cond b (Some e.1) (lookup (is_at (nat_cmp s)) es) ≡ Some x) fails here in
    stands_behind a e es s x tiles.0 tiles.1 (stands (a + extent_len e.1) es s x tiles.2 found))
    (cases_eq s e.0)
  where
    not_at : (m n : ℕ) → (m ≡ n → ⊥) → is_at (nat_cmp m) n ≡ false
    not_at m n other = ⊎_elim (λ (less : m < n). rw (lt-ltb m n less) refl) (λ (more : n ≤ m). rw (le-ltb m n more, ne_eqb m n other) refl) (cases_lt m n)

-- the bytes of one of the extents
pub byte_of : (es : List (ℕ × Extent)) (s : ℕ) (x : Extent) (k : ℕ) → Stands 0 es s x → s ≤ k → k < s + extent_len x → get_or (all_shown es) k None ≡ get_or (shown_by x) (k - s) None
byte_of es s x k st low high =
    let sizes : length (shown_by x) ≡ extent_len x = length-shown x in
    let place : length (all_shown st.before) ≡ s = omega (arith, st.place) in
    ap (λ (xs : List (Option ℕ)). get_or xs k None) (ap all_shown st.parts ∙ shown-append st.before ((s, x) ∷ st.behind))
    ∙ get_or-append_right (all_shown st.before) (shown_by x ++ all_shown st.behind) s k None place low
    ∙ get_or_append_left (shown_by x) (all_shown st.behind) None (k - s) (omega arith)

-- the last extent that begins up to a place has the byte there, or the place is past all
pub last_around : (es : List (ℕ × Extent)) (s : ℕ) (x : Extent) (at : ℕ) → AreTiles 0 es → HasExtent es s x
    → ((q : ℕ) → q ≤ at → IsSome (lookup (is_at (nat_cmp q)) es) → q ≤ s) → (at < s + extent_len x) ⊎ (long es ≤ at)
last_around es s x at tiles here last = around (stands 0 es s x tiles here)
  where
    next : (behind before : List (ℕ × Extent)) → es ≡ before ++ (s, x) ∷ behind → AreTiles 0 before → long before ≡ s → 0 < extent_len x → AreTiles (s + extent_len x) behind → (s + extent_len x ≤ at) → long es ≤ at
    next [] before parts front place some rest h =
        let size = long-append before ((s, x) ∷ []) in
        let one = long-cons (s, x) [] in
        omega (arith, ap long parts)
    next (f ∷ behind) before parts front place some rest h =
        let q : ℕ = s + extent_len x in
        let grouped : es ≡ (before ++ (s, x) ∷ []) ++ f ∷ behind = parts ∙ sym (append_assoc before ((s, x) ∷ []) (f ∷ behind)) in
        let size = long-append before ((s, x) ∷ []) in
        let one = long-cons (s, x) [] in
        let fronts = tiles-append 0 before ((s, x) ∷ []) front (let e : s ≡ 0 + long before = omega arith in e, some, tt) in
        let first : f ≡ (q, f.1) = ap (λ (n : ℕ). (n, f.1)) rest.0 in
        let found : HasExtent es q f.1 =
        subst (λ (zs : List (ℕ × Extent)). HasExtent zs q f.1) (sym (grouped ∙ ap (λ (g : ℕ × Extent). (before ++ (s, x) ∷ []) ++ g ∷ behind) first))
        (lookup_there q f.1 0 (before ++ (s, x) ∷ []) behind fronts (omega arith)) in
        let there : IsSome (lookup (is_at (nat_cmp q)) es) = subst IsSome (sym found) refl in
        absurd (omega (arith, last q h there))

    around : Stands 0 es s x → (at < s + extent_len x) ⊎ (long es ≤ at)
    around st = ⊎_elim (λ (less : at < s + extent_len x). inl less)
        (λ (more : s + extent_len x ≤ at). inr (next st.behind st.before st.parts st.front (let e : long st.before ≡ s = omega (arith, st.place) in e) st.some st.rest more)) (cases_lt at (s + extent_len x))

-- the same, as a map's range tells of its last entry
not_above : (q at : ℕ) → q ≤ at → is_gt (nat_cmp q at) ≡ false
not_above q at h = ⊎_elim (λ (less : q < at). rw (lt-ltb q at less) refl) (λ (more : at ≤ q). rw (le-ltb q at more, eq-eqb q at (omega arith)) refl) (cases_lt q at)

not_below : (s q : ℕ) → is_lt (nat_cmp s q) ≡ false → q ≤ s
not_below s q h = ⊎_elim (λ (less : s < q). let e : is_lt (nat_cmp s q) ≡ true = rw (lt-ltb s q less) refl in absurd (cc)) (λ (more : q ≤ s). more) (cases_lt s q)

pub up_to_bound : (s at : ℕ) → is_gt (nat_cmp s at) ≡ false → s ≤ at
up_to_bound s at h =
    ⊎_elim (λ (more : at < s). let e : is_gt (nat_cmp s at) ≡ true = rw (le-ltb s at (omega arith), ne_eqb s at (λ same. omega arith)) refl in absurd (cc))
    (λ (less : s ≤ at). less) (cases_lt at s)

pub around_last : (m : BTreeMap ℕ Extent) (s : ℕ) (x : Extent) (at : ℕ) → AreTiles 0 m.entries → HasExtent m.entries s x
    → ((q : ℕ) → IsInRange nat_cmp Unbounded (Included at) q → IsSome (get nat_cmp m q) → is_lt (nat_cmp s q) ≡ false) → (at < s + extent_len x) ⊎ (long m.entries ≤ at)
around_last m s x at tiles here last = last_around m.entries s x at tiles here (λ q h there. not_below s q (last q (tt, not_above q at h) there))

-- no extent begins up to a place: there is none
pub none_around : (m : BTreeMap ℕ Extent) (at : ℕ) → AreTiles 0 m.entries → ((q : ℕ) → IsInRange nat_cmp Unbounded (Included at) q → get nat_cmp m q ≡ None) → m.entries ≡ []
none_around m at tiles none = go m.entries tiles (none 0 (tt, not_above 0 at (omega arith)))
  where
    go : (es : List (ℕ × Extent)) → AreTiles 0 es → lookup (is_at (nat_cmp 0)) es ≡ None → es ≡ []
    go [] t h = refl
    go (e ∷ es) t h = let first : e ≡ (0, e.1) = ap (λ (n : ℕ). (n, e.1)) t.0 in
        let found : lookup (is_at (nat_cmp 0)) (e ∷ es) ≡ Some e.1 = subst (λ (f : ℕ × Extent). lookup (is_at (nat_cmp 0)) (f ∷ es) ≡ Some e.1) (sym first) refl in absurd (cc)

-- past the extents there is no byte
pub past_all : (es : List (ℕ × Extent)) (k : ℕ) → long es ≤ k → get_or (all_shown es) k None ≡ None
past_all es k h = get_or_past (all_shown es) k None h

-- a hole has no byte
pub no_byte : (n k : ℕ) → get_or (replicate {A = Option ℕ} n None) k None ≡ None
no_byte n k = ⊎_elim (λ (less : k < n). get_or-replicate n k None None less) (λ (more : n ≤ k). get_or_past (replicate n None) k None (omega (arith, length-replicate {A = Option ℕ} n None))) (cases_lt k n)

-- the bytes of a buffer
pub buffer_byte : (b : List ℕ) (k : ℕ) → k < length b → get_or (map (λ byte. Some byte) b) k None ≡ Some (get_or b k 0)
buffer_byte b k h = get_or-map (λ byte. Some byte) b k 0 None h

pub hole_around : (m : BTreeMap ℕ Extent) (s n at : ℕ) → AreTiles 0 m.entries → HasExtent m.entries s (Out n) → s ≤ at
    → ((q : ℕ) → IsInRange nat_cmp Unbounded (Included at) q → IsSome (get nat_cmp m q) → is_lt (nat_cmp s q) ≡ false) → get_or (all_shown m.entries) at None ≡ None
hole_around m s n at tiles here low last =
    ⊎_elim (λ (less : at < s + n). byte_of m.entries s (Out n) at (stands 0 m.entries s (Out n) tiles here) low less ∙ no_byte n (at - s))
    (λ (past : long m.entries ≤ at). past_all m.entries at past) (around_last m s (Out n) at tiles here last)

pub behind_around : (m : BTreeMap ℕ Extent) (s : ℕ) (b : Buffer) (at : ℕ) → AreTiles 0 m.entries → HasExtent m.entries s (Home b) → s + length b.items ≤ at
    → ((q : ℕ) → IsInRange nat_cmp Unbounded (Included at) q → IsSome (get nat_cmp m q) → is_lt (nat_cmp s q) ≡ false) → get_or (all_shown m.entries) at None ≡ None
behind_around m s b at tiles here high last =
    ⊎_elim (λ (less : at < s + length b.items). absurd (omega arith))
    (λ (past : long m.entries ≤ at). past_all m.entries at past) (around_last m s (Home b) at tiles here last)

-- ---- edges

-- an extent has all its bytes at home, or none
whole : (x : Extent) (j k : ℕ) → j < extent_len x → k < extent_len x → IsSome (get_or (shown_by x) j None) → get_or (shown_by x) k None ≡ None → ⊥
whole (Home b) j k hj hk some none = let e = buffer_byte b.items k hk in cc
whole (Out n) j k hj hk some none = let e : IsSome {T = ℕ} None = subst IsSome (no_byte n j) some in absurd (cc)

edge_behind : (e : ℕ × Extent) (es : List (ℕ × Extent)) (k n : ℕ) → IsEdge es k → n ≡ extent_len e.1 + k → IsEdge (e ∷ es) n
edge_behind e es k n edge same = record {
  before = e ∷ edge.before;
  behind = edge.behind;
  parts = ap (λ (zs : List (ℕ × Extent)). e ∷ zs) edge.parts;
  place = omega (arith, long-cons e edge.before, edge.place);
}

-- where a byte at home is followed by one that is not, an extent ends
edge_after : (a : ℕ) (es : List (ℕ × Extent)) (k : ℕ) → AreTiles a es → IsSome (get_or (all_shown es) k None) → get_or (all_shown es) (k + 1) None ≡ None → IsEdge es (k + 1)
edge_after a [] k tiles some none = absurd (cc)
edge_after a (e ∷ es) k tiles some none =
    let size : length (shown_by e.1) ≡ extent_len e.1 = length-shown e.1 in
    ⊎_elim
    (λ (inside : k + 1 < extent_len e.1).
    let first : IsSome (get_or (shown_by e.1) k None) = subst IsSome (get_or_append_left (shown_by e.1) (all_shown es) None k (omega arith)) some in
    let second : get_or (shown_by e.1) (k + 1) None ≡ None = sym (get_or_append_left (shown_by e.1) (all_shown es) None (k + 1) (omega arith)) ∙ none in
    absurd (whole e.1 k (k + 1) (omega arith) inside first second))
    (λ (more : extent_len e.1 ≤ k + 1).
    ⊎_elim
    (λ (here : k < extent_len e.1). record {
      before = e ∷ [];
      behind = es;
      parts = refl;
      place = omega (arith, long-cons e []);
    })
    (λ (past : extent_len e.1 ≤ k).
    let first : IsSome (get_or (all_shown es) (k - extent_len e.1) None) = subst IsSome (get_or-append_right (shown_by e.1) (all_shown es) (extent_len e.1) k None size past) some in
    let n : k + 1 - extent_len e.1 ≡ k - extent_len e.1 + 1 = omega arith in
    let second : get_or (all_shown es) (k - extent_len e.1 + 1) None ≡ None =
    ap (λ (i : ℕ). get_or (all_shown es) i None) (sym n) ∙ sym (get_or-append_right (shown_by e.1) (all_shown es) (extent_len e.1) (k + 1) None size (omega arith)) ∙ none in
    edge_behind e es (k - extent_len e.1 + 1) (k + 1) (edge_after (a + extent_len e.1) es (k - extent_len e.1) tiles.2 first second) (omega arith))
    (cases_lt k (extent_len e.1)))
    (cases_lt (k + 1) (extent_len e.1))

pub edge_past : (es : List (ℕ × Extent)) (at : ℕ) → AreTiles 0 es → IsBesideHome es at → get_or (all_shown es) at None ≡ None → IsEdge es at
edge_past es at tiles (inl before) none =
    let n : at - 1 + 1 ≡ at = omega (arith, before.0) in
    subst (IsEdge es) n (edge_after 0 es (at - 1) tiles before.1 (ap (λ (i : ℕ). get_or (all_shown es) i None) n ∙ none))
edge_past es at tiles (inr here) none = let e : IsSome {T = ℕ} None = subst IsSome none here in absurd (cc)

pub edge_here : (es : List (ℕ × Extent)) (s at : ℕ) (x : Extent) → Stands 0 es s x → s ≡ at → IsEdge es at
edge_here es s at x st same = record {
  before = st.before;
  behind = (s, x) ∷ st.behind;
  parts = st.parts;
  place = omega (arith, st.place);
}

pub edge_end : (es : List (ℕ × Extent)) (s at : ℕ) (x : Extent) → Stands 0 es s x → s + extent_len x ≡ at → IsEdge es at
edge_end es s at x st same = record {
  before = st.before ++ (s, x) ∷ [];
  behind = st.behind;
  parts = st.parts ∙ sym (append_assoc st.before ((s, x) ∷ []) st.behind);
  place = omega (arith, st.place, long-append st.before ((s, x) ∷ []), long-cons (s, x) []);
}

-- ---- two ways to part the same extents

-- what stands between them
pub record Middle (p q u v : List (ℕ × Extent)) : Type 0 where
  pub middle : List (ℕ × Extent)
  pub front : u ≡ p ++ middle
  pub rest : q ≡ middle ++ v

push_front : (a : ℕ) (e f : ℕ × Extent) (p q u v : List (ℕ × Extent)) → e ≡ f → Middle p q u v → Middle (e ∷ p) q (f ∷ u) v
push_front a e f p q u v first m = record {
  middle = m.middle;
  front = subst (λ (g : ℕ × Extent). f ∷ u ≡ g ∷ p ++ m.middle) (sym first) (ap (λ (zs : List (ℕ × Extent)). f ∷ zs) m.front);
  rest = m.rest;
}

pub parted : (a : ℕ) (p q u v : List (ℕ × Extent)) → p ++ q ≡ u ++ v → AreTiles a p → long p ≤ long u → Middle p q u v
parted a [] q u v same tiles less = record { middle = u; front = refl; rest = same }
parted a (e ∷ p) q [] v same tiles less = absurd (omega (arith, long-cons e p, tiles.1))
parted a (e ∷ p) q (f ∷ u) v same tiles less =
    let first : e ≡ f = cc in
    let others : p ++ q ≡ u ++ v = cc in
    let sizes : extent_len e.1 ≡ extent_len f.1 = ap (λ (g : ℕ × Extent). extent_len g.1) first in
    let more = parted (a + extent_len e.1) p q u v others tiles.2 (omega (arith, long-cons e p, long-cons f u)) in
    push_front a e f p q u v first more

-- an extent ends within all of them
pub stands_fits : (es : List (ℕ × Extent)) (s : ℕ) (x : Extent) → Stands 0 es s x → s + extent_len x ≤ long es
stands_fits es s x st = omega (arith, st.place, ap long st.parts, long-append st.before ((s, x) ∷ st.behind), long-cons (s, x) st.behind)

-- the byte at a place is that of the extent around it
pub byte_at : (es : List (ℕ × Extent)) (s at : ℕ) (b : Buffer) → AreTiles 0 es → LiesAround es s (Home b) at → get_or (all_shown es) at None ≡ slice_get b.items (at - s)
byte_at es s at b tiles around =
    let i : at - s < length b.items = omega (arith, around.low, around.high) in
    byte_of es s (Home b) at (stands 0 es s (Home b) tiles around.entry) around.low around.high ∙ buffer_byte b.items (at - s) i ∙ sym (slice_get-get_or b.items (at - s) 0 i)
