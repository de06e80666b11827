-- Parts of the bytes that extents show.
use Rattle.std.proofs.Common.{◌≡◌, ℕ, ◌+◌, ◌-◌, ◌≤◌, List, ◌∷◌, ◌++◌, Option, Some, length, take, drop, map, sym, ap, ◌∙◌, arith}
use Rattle.std.proofs.lemmas.List.{append_assoc, drop-append-le, drop-drop, drop-map, drop_at, length-drop, length-map, map-append, take-append-le, take-map}
use Rattle.std.proofs.Math.Seq.{take-add}
use Rattle.cp_base.specs.Buffer.{Buffer}
use Rattle.cp_base.specs.Pieces.{piece}
use Rattle.extents.specs.declared.tiles.Extent.{Extent}
use Rattle.extents.specs.declared.tiles.Extent.TheVariants.{Home}
use Rattle.extents.specs.Tiles.{all_shown}
use Rattle.extents.proofs.Tiling.{Stands, shown-append}

drop_behind : {A : Type 0} (xs ys : List A) (n k : ℕ) → length xs ≡ n → drop (n + k) (xs ++ ys) ≡ drop k ys
drop_behind xs ys n k size = sym (drop-drop k n (xs ++ ys)) ∙ ap (drop k) (drop_at xs ys n size)

-- some bytes of one extent at home
pub piece_of : (es : List (ℕ × Extent)) (s : ℕ) (b : Buffer) (at n : ℕ) → Stands 0 es s (Home b) → s ≤ at → at + n ≤ s + length b.items
    → piece (all_shown es) at n ≡ map (λ byte. Some byte) (take n (drop (at - s) b.items))
piece_of es s b at n st low high =
    let place : length (all_shown st.before) ≡ s = omega (arith, st.place) in
    let i : at ≡ s + (at - s) = omega (arith, low) in
    let sizes : length (map (λ byte. Some byte) b.items) ≡ length b.items = length-map b.items (λ byte. Some byte) in
    let fits : at - s ≤ length (map (λ byte. Some byte) b.items) = omega (arith, low, high) in
    let rest : n ≤ length (drop (at - s) (map (λ byte. Some byte) b.items)) = omega (arith, low, high, length-drop (at - s) (map (λ byte. Some byte) b.items)) in
    ap (take n)
    (ap (drop at) (ap all_shown st.parts ∙ shown-append st.before ((s, Home b) ∷ st.behind))
    ∙ ap (λ (j : ℕ). drop j (all_shown st.before ++ (map (λ byte. Some byte) b.items ++ all_shown st.behind))) i
    ∙ drop_behind (all_shown st.before) (map (λ byte. Some byte) b.items ++ all_shown st.behind) s (at - s) place
    ∙ drop-append-le (at - s) (map (λ byte. Some byte) b.items) (all_shown st.behind) fits)
    ∙ take-append-le n (drop (at - s) (map (λ byte. Some byte) b.items)) (all_shown st.behind) rest
    ∙ ap (take n) (drop-map (λ byte. Some byte) (at - s) b.items)
    ∙ take-map (λ byte. Some byte) n (drop (at - s) b.items)

-- a part, and the part behind it appended
pub piece_more : (xs : List (Option ℕ)) (out old new more : List ℕ) (from at end : ℕ) → from ≤ at → at ≤ end
    → map (λ byte. Some byte) old ≡ map (λ byte. Some byte) out ++ piece xs from (at - from) → new ≡ old ++ more → piece xs at (end - at) ≡ map (λ byte. Some byte) more
    → map (λ byte. Some byte) new ≡ map (λ byte. Some byte) out ++ piece xs from (end - from)
piece_more xs out old new more from at end low high before added here =
    let i : from + (at - from) ≡ at = omega arith in
    let n : at - from + (end - at) ≡ end - from = omega arith in
    ap (map (λ byte. Some byte)) added ∙ map-append (λ byte. Some byte) old more
    ∙ ap (λ (zs : List (Option ℕ)). zs ++ map (λ byte. Some byte) more) before
    ∙ ap (λ (zs : List (Option ℕ)). (map (λ byte. Some byte) out ++ piece xs from (at - from)) ++ zs) (sym here)
    ∙ append_assoc (map (λ byte. Some byte) out) (piece xs from (at - from)) (piece xs at (end - at))
    ∙ ap (λ (zs : List (Option ℕ)). map (λ byte. Some byte) out ++ zs)
    (ap (λ (k : ℕ). piece xs from (at - from) ++ take (end - at) (drop k xs)) (sym i)
    ∙ ap (λ (zs : List (Option ℕ)). piece xs from (at - from) ++ take (end - at) zs) (sym (drop-drop (at - from) from xs))
    ∙ sym (take-add (at - from) (end - at) (drop from xs))
    ∙ ap (λ (k : ℕ). take k (drop from xs)) n)
