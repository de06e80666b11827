-- Cutting an extent in two, and what stays the same.
use Rattle.std.proofs.Common.{◌≡◌, ℕ, ◌+◌, ◌-◌, ◌<◌, ◌≤◌, List, [], ◌∷◌, ◌++◌, Option, Some, length, take, drop, map, sym, refl, ap, ◌∙◌, subst, ⊎_elim, arith}
use Rattle.std.specs.BTreeMap.{insert_entry}
use Rattle.std.specs.Ordering.{nat_cmp}
use Rattle.std.proofs.lemmas.Bool.{cases_lt}
use Rattle.std.proofs.lemmas.List.{append_assoc, length-drop, length-take-le, map-append, take-append-drop}
use Rattle.cp_base.specs.Buffer.{Buffer}
use Rattle.extents.specs.declared.tiles.Extent.{Extent}
use Rattle.extents.specs.declared.tiles.Extent.TheVariants.{Home}
use Rattle.extents.specs.Tiles.{AreTiles, IsEdge, IsRecut, all_holes, all_shown, extent_len}
use Rattle.extents.proofs.Tiling.{Stands, holes-append, insert_behind, insert_there, long, long-append, long-cons, parted, shown-append, tiles-append, tiles_split}

-- an extent that is cut at a place within it, and its two parts
pub record Cut (es new : List (ℕ × Extent)) (s at : ℕ) (b front rest : Buffer) : Type 0 where
  pub stands : Stands 0 es s (Home b)
  pub low : s < at
  pub high : at < s + length b.items
  pub fore : front.items ≡ take (at - s) b.items
  pub back : rest.items ≡ drop (at - s) b.items
  pub entries : new ≡ insert_entry nat_cmp (insert_entry nat_cmp es at (Home rest)) s (Home front)

pub cut_entries : (es new : List (ℕ × Extent)) (s at : ℕ) (b front rest : Buffer) (k : Cut es new s at b front rest)
    → new ≡ k.stands.before ++ (s, Home front) ∷ (at, Home rest) ∷ k.stands.behind
cut_entries es new s at b front rest k =
    let st = k.stands in
    let first : insert_entry nat_cmp es at (Home rest) ≡ st.before ++ (s, Home b) ∷ (at, Home rest) ∷ st.behind =
    ap (λ (zs : List (ℕ × Extent)). insert_entry nat_cmp zs at (Home rest)) st.parts
    ∙ insert_behind at (Home rest) s (Home b) 0 (s + length b.items) st.before st.behind st.front st.place k.low st.rest k.high in
    k.entries ∙ ap (λ (zs : List (ℕ × Extent)). insert_entry nat_cmp zs s (Home front)) first
    ∙ insert_there s (Home b) (Home front) 0 st.before ((at, Home rest) ∷ st.behind) st.front st.place

-- how long the parts are
record Lengths (s at : ℕ) (b front rest : Buffer) : Type 0 where
  fore : length front.items ≡ at - s
  back : length rest.items ≡ s + length b.items - at

lengths : (es new : List (ℕ × Extent)) (s at : ℕ) (b front rest : Buffer) → Cut es new s at b front rest → Lengths s at b front rest
lengths es new s at b front rest k =
    let h : at - s ≤ length b.items = omega (arith, k.low, k.high) in
    record {
      fore = ap length k.fore ∙ length-take-le (at - s) b.items h;
      back = ap length k.back ∙ length-drop (at - s) b.items ∙ (let e : length b.items - (at - s) ≡ s + length b.items - at = omega (arith, k.low, k.high) in e);
    }

pub cut_same : (es new : List (ℕ × Extent)) (s at : ℕ) (b front rest : Buffer) → Cut es new s at b front rest → IsRecut es new
cut_same es new s at b front rest k =
    let st = k.stands in
    let parts = cut_entries es new s at b front rest k in
    let sizes = lengths es new s at b front rest k in
    let joined : map (λ byte. Some byte) front.items ++ map (λ byte. Some byte) rest.items ≡ map (λ byte. Some byte) b.items =
    sym (map-append (λ byte. Some byte) front.items rest.items) ∙ ap (map (λ byte. Some byte)) (ap (λ (xs : List ℕ). xs ++ rest.items) k.fore ∙ ap (λ (xs : List ℕ). take (at - s) b.items ++ xs) k.back ∙ take-append-drop (at - s) b.items) in
    let some : 0 < length front.items = omega (arith, k.low, sizes.fore) in
    let more : 0 < length rest.items = omega (arith, k.high, sizes.back) in
    let next : s + length front.items ≡ at = omega (arith, k.low, sizes.fore) in
    let end : s + length b.items ≡ at + length rest.items = omega (arith, k.high, k.low, sizes.back) in
    let behind : AreTiles at ((at, Home rest) ∷ st.behind) = (refl, more, subst (λ (n : ℕ). AreTiles n st.behind) end st.rest) in
    let all : AreTiles s ((s, Home front) ∷ (at, Home rest) ∷ st.behind) = (refl, some, subst (λ (n : ℕ). AreTiles n ((at, Home rest) ∷ st.behind)) (sym next) behind) in
    record {
      tiles = subst (AreTiles 0) (sym parts) (tiles-append 0 st.before ((s, Home front) ∷ (at, Home rest) ∷ st.behind) st.front (subst (λ (n : ℕ). AreTiles n ((s, Home front) ∷ (at, Home rest) ∷ st.behind)) (sym st.place) all));
      shown = ap all_shown parts ∙ shown-append st.before ((s, Home front) ∷ (at, Home rest) ∷ st.behind)
          ∙ ap (λ (xs : List (Option ℕ)). all_shown st.before ++ xs) (sym (append_assoc (map (λ byte. Some byte) front.items) (map (λ byte. Some byte) rest.items) (all_shown st.behind)) ∙ ap (λ (xs : List (Option ℕ)). xs ++ all_shown st.behind) joined)
          ∙ sym (shown-append st.before ((s, Home b) ∷ st.behind)) ∙ ap all_shown (sym st.parts);
      holes = ap all_holes parts ∙ holes-append st.before ((s, Home front) ∷ (at, Home rest) ∷ st.behind) ∙ sym (holes-append st.before ((s, Home b) ∷ st.behind)) ∙ ap all_holes (sym st.parts);
    }

pub cut_edge : (es new : List (ℕ × Extent)) (s at : ℕ) (b front rest : Buffer) → Cut es new s at b front rest → IsEdge new at
cut_edge es new s at b front rest k =
    let st = k.stands in
    let sizes = lengths es new s at b front rest k in
    record {
      before = st.before ++ (s, Home front) ∷ [];
      behind = (at, Home rest) ∷ st.behind;
      parts = cut_entries es new s at b front rest k ∙ sym (append_assoc st.before ((s, Home front) ∷ []) ((at, Home rest) ∷ st.behind));
      place = omega (arith, st.place, k.low, sizes.fore, long-append st.before ((s, Home front) ∷ []), long-cons (s, Home front) []);
    }

-- the edges before the cut
edge_before : (new before tail : List (ℕ × Extent)) (p middle : List (ℕ × Extent)) (n : ℕ) → new ≡ before ++ tail → before ≡ p ++ middle → long p ≡ n → IsEdge new n
edge_before new before tail p middle n made parts place = record {
  before = p;
  behind = middle ++ tail;
  parts = made ∙ ap (λ (zs : List (ℕ × Extent)). zs ++ tail) parts ∙ append_assoc p middle tail;
  place = place;
}

-- and those behind it
edge_behind_cut : (new before behind q : List (ℕ × Extent)) (x f r : ℕ × Extent) (middle : List (ℕ × Extent)) (n : ℕ) → new ≡ before ++ f ∷ r ∷ behind → x ∷ behind ≡ middle ++ q
    → long before < n → long before + long middle ≡ n → extent_len x.1 ≡ extent_len f.1 + extent_len r.1 → IsEdge new n
edge_behind_cut new before behind q x f r [] n made parts less place sizes = absurd (omega arith)
edge_behind_cut new before behind q x f r (g ∷ middle) n made parts less place sizes =
    let others : behind ≡ middle ++ q = cc in
    let first : x ≡ g = cc in
    let size : extent_len x.1 ≡ extent_len g.1 = ap (λ (h : ℕ × Extent). extent_len h.1) first in
    record {
      before = before ++ f ∷ r ∷ middle;
      behind = q;
      parts = made ∙ ap (λ (zs : List (ℕ × Extent)). before ++ f ∷ r ∷ zs) others ∙ sym (append_assoc before (f ∷ r ∷ middle) q);
      place = omega (arith, long-append before (f ∷ r ∷ middle), long-cons f (r ∷ middle), long-cons r middle, long-cons g middle);
    }

pub cut_edges : (es new : List (ℕ × Extent)) (s at : ℕ) (b front rest : Buffer) → Cut es new s at b front rest → AreTiles 0 es → (n : ℕ) → IsEdge es n → IsEdge new n
cut_edges es new s at b front rest k tiles n edge =
    let st = k.stands in
    let made = cut_entries es new s at b front rest k in
    let sizes = lengths es new s at b front rest k in
    let place : long st.before ≡ s = omega (arith, st.place) in
    ⊎_elim
    (λ (behind : s < n).
    let m = parted 0 st.before ((s, Home b) ∷ st.behind) edge.before edge.behind (sym st.parts ∙ edge.parts) st.front (omega (arith, edge.place)) in
    edge_behind_cut new st.before st.behind edge.behind (s, Home b) (s, Home front) (at, Home rest) m.middle n made m.rest (omega arith)
    (omega (arith, edge.place, ap long m.front, long-append st.before m.middle)) (omega (arith, k.low, k.high, sizes.fore, sizes.back)))
    (λ (before : n ≤ s).
    let fronts : AreTiles 0 edge.before = (tiles_split 0 edge.before edge.behind (subst (AreTiles 0) edge.parts tiles)).0 in
    let m = parted 0 edge.before edge.behind st.before ((s, Home b) ∷ st.behind) (sym edge.parts ∙ st.parts) fronts (omega (arith, edge.place)) in
    edge_before new st.before ((s, Home front) ∷ (at, Home rest) ∷ st.behind) edge.before m.middle n made m.front edge.place)
    (cases_lt s n)
