-- A copy: the destination's piece is emptied, which the sources do not see, and then has the new bytes.
use Rattle.std.proofs.Common.{◌≡◌, ℕ, zero, suc, ◌+◌, ◌-◌, ◌<◌, Bool, true, false, List, [], ◌∷◌, ◌++◌, length, map, get_or, set, slice_get, slice_index, Some, refl, sym, ap, subst, ◌∙◌, inl, inr, arith, if◌then◌else◌, append-nil}
use Rattle.std.specs.List.{AllByRecursion}
use Rattle.std.proofs.lemmas.Bool.{true≢false}
use Rattle.std.proofs.Math.ListN.{length-set}
use Rattle.std.proofs.lemmas.List.{drop_all, length-map}
use Rattle.cp_base.specs.Buffer.{Buffer}
use Rattle.cp_base.specs.Configuration.{Configuration}
use Rattle.cp_base.specs.Pieces.{patched}
use Rattle.cp_base.specs.Region.{Region}
use Rattle.cp_base.specs.Sharing.{AreDisjoint, IsIn, same_region, source_region}
use Rattle.cp_base.specs.declared.lists.CopySource.{CopySource}
use Rattle.cp_base.specs.declared.region.SpaceId.{SpaceId}
use Rattle.cp_base.specs.declared.replies.Piece.{Piece}
use Rattle.trail_model.specs.Pieces.{RegionBytes, carried, gathered_joined, has_byte}
use Rattle.trail_model.proofs.Bytes.{gathered_joined-same}
use Rattle.trail_model.proofs.Regions.{IsInSome, out-has_byte}
use Rattle.job_run.specs.Held.{IsAlone, IsBeside, IsHeld, IsSource, BeginsNowhere, begins, holds}
use Rattle.job_run.specs.Works.{byte_counts, piece_holding, piece_regions, pieces_with, region_bytes}
use Rattle.job_run.proofs.Holding.{held-parts, same_region-true}

-- the pieces where that of a region has no bytes
abbrev pub emptied : Region → List RegionBytes → List RegionBytes
emptied d ps = pieces_with (record { region = d; bytes = [] }) ps

held_not : (d x : Region) → 0 < x.len → AreDisjoint d x → holds d x ≡ true → ⊥
held_not d x some apart h =
    let p = held-parts d x h in
    let low = p.1 in
    let high = p.2 in
    apart x.space x.start (p.0, low, omega (arith, some, high)) (refl, omega arith, omega (arith, some))

held-emptied : (d : Region) (ps : List RegionBytes) (x : Region) → 0 < x.len → AreDisjoint d x → IsHeld ps x → IsHeld (emptied d ps) x
held-emptied d [] x some apart h = h
held-emptied d (p ∷ ps) x some apart h = by_test (held-emptied d ps x some apart) (same_region d p.region) refl h
  where
    by_test : (IsHeld ps x → IsHeld (emptied d ps) x) → (b : Bool) → same_region d p.region ≡ b → IsHeld (p ∷ ps) x
        → IsHeld ((if b then record { region = d; bytes = [] } else p) ∷ emptied d ps) x
    by_test later true e (inl (here, whole)) =
        absurd (held_not d x some apart (ap (λ (r : Region). holds r x) (same_region-true d p.region e) ∙ here))
    by_test later true e (inr (other, beside, there)) =
        inr (ap (λ (r : Region). holds r x) (same_region-true d p.region e) ∙ other, apart, later there)
    by_test later false e (inl here) = inl here
    by_test later false e (inr (other, beside, there)) = inr (other, beside, later there)

carried-emptied : (d : Region) (ps : List RegionBytes) (s : SpaceId) (k : ℕ) → (IsIn d s k → ⊥) → carried (emptied d ps) s k ≡ carried ps s k
carried-emptied d [] s k out = refl
carried-emptied d (p ∷ ps) s k out = by_test (carried-emptied d ps s k out) (same_region d p.region) refl
  where
    other : (r : Region) (bytes : List ℕ) (n : ℕ) → r ≡ d → (if has_byte r s k then slice_index bytes (k - r.start) else n) ≡ n
    other r bytes n e = ap (λ (b : Bool). if b then slice_index bytes (k - r.start) else n)
        (ap (λ (x : Region). has_byte x s k) e ∙ out-has_byte d s k out)

    by_test : carried (emptied d ps) s k ≡ carried ps s k → (b : Bool) → same_region d p.region ≡ b
        → carried ((if b then record { region = d; bytes = [] } else p) ∷ emptied d ps) s k ≡ carried (p ∷ ps) s k
    by_test later true e = other d [] (carried (emptied d ps) s k) refl ∙ later ∙ sym (other p.region p.bytes (carried ps s k) (sym (same_region-true d p.region e)))
    by_test later false e = ap (λ (n : ℕ). if has_byte p.region s k then slice_index p.bytes (k - p.region.start) else n) later

module _ (c : Configuration) (d : Region) (ps : List RegionBytes) where
  pub sources-emptied : (from : List CopySource) → AllByRecursion (λ source. IsSource ps (source_region c source)) from
      → AllByRecursion (λ source. IsBeside d (source_region c source)) from
      → AllByRecursion (λ source. IsSource (emptied d ps) (source_region c source)) from
  sources-emptied [] held beside = tt
  sources-emptied (x ∷ from) held beside =
      ((held-emptied d ps (source_region c x) beside.0.1 beside.0.0 held.0.0, held.0.1), sources-emptied from held.1 beside.1)

  beside-out : (from : List CopySource) (s : SpaceId) (k : ℕ) → AllByRecursion (λ source. IsBeside d (source_region c source)) from
      → IsInSome (map (source_region c) from) s k → IsIn d s k → ⊥
  beside-out [] s k beside h = absurd h
  beside-out (x ∷ from) s k beside (inl here) = λ inside. beside.0.0 s k inside here
  beside-out (x ∷ from) s k beside (inr there) = beside-out from s k beside.1 there

  pub joined-emptied : (from : List CopySource) → AllByRecursion (λ source. IsBeside d (source_region c source)) from
      → gathered_joined (carried (emptied d ps)) (map (source_region c) from) ≡ gathered_joined (carried ps) (map (source_region c) from)
  joined-emptied from beside =
      gathered_joined-same (carried (emptied d ps)) (carried ps) (map (source_region c) from)
      (λ s k there. carried-emptied d ps s k (beside-out from s k beside there))

-- ---- the piece of an index

pub piece-at : (ps : List Piece) (i : ℕ) (d : Region) → slice_get (piece_regions ps) i ≡ Some d
    → (bytes : List ℕ) × (slice_get (region_bytes ps) i ≡ Some (record { region = d; bytes = bytes }))
piece-at [] i d e = cc
piece-at (p ∷ ps) zero d e = (p.bytes.items, (let same : p.range ≡ d = cc in λ k. Some (record { region = same k; bytes = p.bytes.items })))
piece-at (p ∷ ps) (suc i) d e = piece-at ps i d e

pub length-at : (ps : List RegionBytes) (i : ℕ) (p : RegionBytes) → slice_get ps i ≡ Some p → AllByRecursion (λ (q : RegionBytes). length q.bytes ≡ q.region.len) ps
    → length p.bytes ≡ p.region.len
length-at [] i p e whole = cc
length-at (q ∷ ps) zero p e whole = let same : q ≡ p = cc in subst (λ (x : RegionBytes). length x.bytes ≡ x.region.len) same whole.0
length-at (q ∷ ps) (suc i) p e whole = length-at ps i p e whole.1

pub bytes-here : (ps : List Piece) (i : ℕ) (x : Piece) (p : RegionBytes) → i < length ps → get_or ps i x ≡ x → slice_get (region_bytes ps) i ≡ Some p
    → record { region = x.range; bytes = x.bytes.items } ≡ p
bytes-here [] i x p less item e = absurd (omega arith)
bytes-here (q ∷ ps) zero x p less item e =
    let same : record { region = q.range; bytes = q.bytes.items } ≡ p = cc in
    (λ k. record { region = (sym item k).range; bytes = (sym item k).bytes.items }) ∙ same
bytes-here (q ∷ ps) (suc i) x p less item e = bytes-here ps i x p (omega arith) item e

pub bytes-put : (ps : List Piece) (i : ℕ) (x : Piece) (b : Buffer)
    → region_bytes (set ps i (record { range = x.range; bytes = b })) ≡ set (region_bytes ps) i (record { region = x.range; bytes = b.items })
bytes-put [] i x b = refl
bytes-put (q ∷ ps) zero x b = refl
bytes-put (q ∷ ps) (suc i) x b = ap (λ (rest : List RegionBytes). record { region = q.range; bytes = q.bytes.items } ∷ rest) (bytes-put ps i x b)

pub set-again : (ps : List RegionBytes) (i : ℕ) (a b : RegionBytes) → set (set ps i a) i b ≡ set ps i b
set-again [] i a b = refl
set-again (p ∷ ps) zero a b = refl
set-again (p ∷ ps) (suc i) a b = ap (λ (rest : List RegionBytes). p ∷ rest) (set-again ps i a b)

pub get-set : (ps : List RegionBytes) (i : ℕ) (p a : RegionBytes) → slice_get ps i ≡ Some p → slice_get (set ps i a) i ≡ Some a
get-set [] i p a e = cc
get-set (q ∷ ps) zero p a e = refl
get-set (q ∷ ps) (suc i) p a e = get-set ps i p a e

-- the region that is alone is the one that begins there
nowhere-at : (d r : Region) (rs : List Region) (i : ℕ) → BeginsNowhere d.space d.start rs → slice_get rs i ≡ Some r → begins d.space d.start r ≡ true → ⊥
nowhere-at d r [] i none e begin = cc
nowhere-at d r (x ∷ rs) zero none e begin = let same : x ≡ r = cc in absurd (true≢false (sym begin ∙ sym (ap (λ (y : Region). begins d.space d.start y) same) ∙ none.0))
nowhere-at d r (x ∷ rs) (suc i) none e begin = nowhere-at d r rs i none.1 e begin

pub alone-at : (d r : Region) (rs : List Region) (i : ℕ) → IsAlone d rs → slice_get rs i ≡ Some r → begins d.space d.start r ≡ true → r ≡ d
alone-at d r [] i h e begin = absurd h
alone-at d r (x ∷ rs) zero (inl (same, none)) e begin = let here : x ≡ r = cc in sym here ∙ same
alone-at d r (x ∷ rs) (suc i) (inl (same, none)) e begin = absurd (nowhere-at d r rs i none e begin)
alone-at d r (x ∷ rs) zero (inr (other, later)) e begin = let here : x ≡ r = cc in absurd (true≢false (sym begin ∙ sym (ap (λ (y : Region). begins d.space d.start y) here) ∙ other))
alone-at d r (x ∷ rs) (suc i) (inr (other, later)) e begin = alone-at d r rs i later e begin

pub region-at : (ps : List Piece) (i : ℕ) (x : Piece) → i < length ps → get_or ps i x ≡ x → slice_get (piece_regions ps) i ≡ Some x.range
region-at [] i x less e = absurd (omega arith)
region-at (p ∷ ps) zero x less e = λ k. Some (e k).range
region-at (p ∷ ps) (suc i) x less e = region-at ps i x (omega arith) e

-- ---- the only piece

pub patched-whole : (old bytes : List ℕ) → length old ≡ length bytes → patched old 0 bytes ≡ bytes
patched-whole old bytes e = ap (λ (rest : List ℕ). bytes ++ rest) (drop_all (0 + length bytes) old (omega arith)) ∙ append-nil bytes

pub only-put : (ps : List Piece) (x : Piece) (b : Buffer) (bytes : List ℕ) → length ps ≡ 1 → get_or ps 0 x ≡ x → b.items ≡ bytes
    → region_bytes (set ps 0 (record { range = x.range; bytes = b })) ≡ map (piece_holding bytes) (region_bytes ps)
only-put [] x b bytes one e same = absurd (omega arith)
only-put (p ∷ []) x b bytes one e same = λ k. record { region = (sym e k).range; bytes = same k } ∷ []
only-put (p ∷ q ∷ ps) x b bytes one e same = absurd (omega arith)

pub only-count : (ps : List Piece) (x : Piece) (n : ℕ) → get_or ps 0 x ≡ x → byte_counts (region_bytes ps) ≡ n ∷ [] → (length ps ≡ 1) × (length x.bytes.items ≡ n)
only-count [] x n e same = cc
only-count (p ∷ []) x n e same =
    let here : length p.bytes.items ≡ n = cc in
    (refl, ap (λ (y : Piece). length y.bytes.items) (sym e) ∙ here)
only-count (p ∷ q ∷ ps) x n e same = cc

-- ---- the destination's piece

pub record HasDestination (ps : List Piece) (i : ℕ) (d : Region) : Type 0 where
  pub old : List ℕ
  pub at : slice_get (region_bytes ps) i ≡ Some (record { region = d; bytes = old })
  pub changed : (bytes : List ℕ) → pieces_with (record { region = d; bytes = bytes }) (region_bytes ps) ≡ set (region_bytes ps) i (record { region = d; bytes = bytes })

pub destination-found : (ps now : List Piece) (i : ℕ) (d : Region) → now ≡ ps
    → ((w : RegionBytes) → slice_get (piece_regions now) i ≡ Some w.region → w.region.space ≡ d.space → w.region.start ≡ d.start
    → pieces_with w (region_bytes now) ≡ set (region_bytes now) i w)
    → ((r : Region) → IsAlone r (piece_regions now) → r.space ≡ d.space → r.start ≡ d.start → slice_get (piece_regions now) i ≡ Some r)
    → IsAlone d (piece_regions ps) → HasDestination ps i d
destination-found ps now i d here alone found only =
    let there : slice_get (piece_regions now) i ≡ Some d = found d (subst (λ (xs : List Piece). IsAlone d (piece_regions xs)) (sym here) only) refl refl in
    let place = piece-at ps i d (subst (λ (xs : List Piece). slice_get (piece_regions xs) i ≡ Some d) here there) in
    record {
      old = place.0;
      at = place.1;
      changed = λ bytes. subst (λ (xs : List Piece). pieces_with (record { region = d; bytes = bytes }) (region_bytes xs) ≡ set (region_bytes xs) i (record { region = d; bytes = bytes }))
          here (alone (record { region = d; bytes = bytes }) there refl refl);
    }

pub set-count : (ps qs : List Piece) (i : ℕ) (a : RegionBytes) → region_bytes qs ≡ set (region_bytes ps) i a → length qs ≡ length ps
set-count ps qs i a e =
    sym (length-map qs (λ (p : Piece). record { region = p.range; bytes = p.bytes.items }))
    ∙ (ap (λ (xs : List RegionBytes). length xs) e
    ∙ (length-set (region_bytes ps) i a ∙ length-map ps (λ (p : Piece). record { region = p.range; bytes = p.bytes.items })))
