-- The bytes of namespaces one by one: what a piece has, and what a put changes.
use Rattle.std.proofs.Common.{◌≡◌, ℕ, zero, suc, ◌+◌, ◌-◌, ◌<◌, ◌≤◌, Bool, true, false, List, [], ◌∷◌, ◌++◌, length, take, drop, get_or, slice_index, unwrap_or, refl, sym, ap, subst, ◌∙◌, inl, inr, ◌⊎◌, ⊎_elim, arith}
use Rattle.std.proofs.lemmas.Bool.{cases_lt, true≢false}
use Rattle.std.proofs.Math.ListN.{length-append, length-drop, length-set, get_or-append}
use Rattle.std.proofs.Math.Seq.{length-take-le, get_or-append_right, get_or-take, get_or-drop, drop-cons}
use Rattle.cp_base.specs.Configuration.{numbered, with_numbered}
use Rattle.cp_base.specs.Contents.{Contents, bytes_in, bytes_of, joined, put, with_bytes}
use Rattle.cp_base.specs.Pieces.{patched, piece}
use Rattle.cp_base.specs.Region.{Region}
use Rattle.cp_base.specs.Sharing.{same_space}
use Rattle.cp_base.specs.declared.region.SpaceId.{SpaceId}
use Rattle.cp_base.specs.declared.region.SpaceId.TheVariants.{Nvm, Mem}
use Rattle.trail_model.specs.Pieces.{AllBytes, all_bytes, gathered, gathered_joined}
use Rattle.trail_model.proofs.Regions.{IsInSome, same_space-true, same_space-itself}

-- ---- gathered bytes

pub gathered-same : (a b : AllBytes) (s : SpaceId) (start n : ℕ) → ((k : ℕ) → start ≤ k → k < start + n → a s k ≡ b s k)
    → gathered a s start n ≡ gathered b s start n
gathered-same a b s start zero same = refl
gathered-same a b s start (suc n) same =
    let here : a s start ≡ b s start = same start (omega arith) (omega arith) in
    let rest : gathered a s (start + 1) n ≡ gathered b s (start + 1) n = gathered-same a b s (start + 1) n (λ k low high. same k (omega arith) (omega arith)) in
    cc

pub length-gathered : (a : AllBytes) (s : SpaceId) (start n : ℕ) → length (gathered a s start n) ≡ n
length-gathered a s start zero = refl
length-gathered a s start (suc n) = ap suc (length-gathered a s (start + 1) n)

pub gathered-at : (a : AllBytes) (s : SpaceId) (start n k : ℕ) → k < n → slice_index (gathered a s start n) k ≡ a s (start + k)
gathered-at a s start zero k less = absurd (omega arith)
gathered-at a s start (suc n) zero less = ap (λ (i : ℕ). a s i) (omega arith)
gathered-at a s start (suc n) (suc k) less = gathered-at a s (start + 1) n k (omega arith) ∙ ap (λ (i : ℕ). a s i) (omega arith)

-- a piece that lies inside is gathered byte by byte
piece-gathered : (contents : Contents) (s : SpaceId) (start n : ℕ) → start + n ≤ length (bytes_of contents s)
    → piece (bytes_of contents s) start n ≡ gathered (all_bytes contents) s start n
piece-gathered contents s start zero fits = refl
piece-gathered contents s start (suc n) fits =
    let bytes : List ℕ = bytes_of contents s in
    let first : drop start bytes ≡ get_or bytes start 0 ∷ drop (suc start) bytes = drop-cons bytes start 0 (omega arith) in
    let next : suc start ≡ start + 1 = omega arith in
    let rest : take n (drop (start + 1) bytes) ≡ gathered (all_bytes contents) s (start + 1) n = piece-gathered contents s (start + 1) n (omega arith) in
    ap (λ (xs : List ℕ). take (suc n) xs) first ∙ (ap (λ (i : ℕ). get_or bytes start 0 ∷ take n (drop i bytes)) next
    ∙ ap (λ (xs : List ℕ). get_or bytes start 0 ∷ xs) rest)

pub bytes_in-gathered : (contents : Contents) (r : Region) → r.start + r.len ≤ length (bytes_of contents r.space)
    → bytes_in contents r ≡ gathered (all_bytes contents) r.space r.start r.len
bytes_in-gathered contents r fits = piece-gathered contents r.space r.start r.len fits

-- each of the regions lies inside its namespace
abbrev pub AreInContents : Contents → List Region → Type 0
AreInContents contents [] = Unit {0}
AreInContents contents (r ∷ rs) = (r.start + r.len ≤ length (bytes_of contents r.space)) × AreInContents contents rs

pub joined-gathered : (contents : Contents) (rs : List Region) → AreInContents contents rs → joined contents rs ≡ gathered_joined (all_bytes contents) rs
joined-gathered contents [] fits = refl
joined-gathered contents (r ∷ rs) fits =
    let here : bytes_in contents r ≡ gathered (all_bytes contents) r.space r.start r.len = bytes_in-gathered contents r fits.0 in
    let rest : joined contents rs ≡ gathered_joined (all_bytes contents) rs = joined-gathered contents rs fits.1 in
    cc

pub gathered_joined-same : (a b : AllBytes) (rs : List Region) → ((s : SpaceId) (k : ℕ) → IsInSome rs s k → a s k ≡ b s k)
    → gathered_joined a rs ≡ gathered_joined b rs
gathered_joined-same a b [] same = refl
gathered_joined-same a b (r ∷ rs) same =
    let here : gathered a r.space r.start r.len ≡ gathered b r.space r.start r.len =
    gathered-same a b r.space r.start r.len (λ k low high. same r.space k (inl (refl, low, high))) in
    let rest : gathered_joined a rs ≡ gathered_joined b rs = gathered_joined-same a b rs (λ s k there. same s k (inr there)) in
    cc

-- ---- a patched list

-- how long the list is before what stands behind the patch
front : {A : Type 0} (old : List A) (start : ℕ) (items : List A) → start ≤ length old → length (take start old ++ items) ≡ start + length items
front old start items fits =
    let a = length-append (take start old) items in
    let c = length-take-le start old fits in
    omega arith

pub length-patched : {A : Type 0} (old : List A) (start : ℕ) (items : List A) → start + length items ≤ length old → length (patched old start items) ≡ length old
length-patched old start items fits =
    let a = length-append (take start old ++ items) (drop (start + length items) old) in
    let c = front old start items (omega arith) in
    let d = length-drop (start + length items) old in
    omega arith

patched-before : (old : List ℕ) (start : ℕ) (items : List ℕ) (k : ℕ) → start + length items ≤ length old → k < start
    → slice_index (patched old start items) k ≡ slice_index old k
patched-before old start items k fits before =
    let c = length-take-le start old (omega arith) in
    let d = front old start items (omega arith) in
    get_or-append (take start old ++ items) (drop (start + length items) old) 0 k (omega arith)
    ∙ (get_or-append (take start old) items 0 k (omega arith) ∙ get_or-take start old k 0 before)

pub patched-inside : (old : List ℕ) (start : ℕ) (items : List ℕ) (k : ℕ) → start + length items ≤ length old → start ≤ k → k < start + length items
    → slice_index (patched old start items) k ≡ slice_index items (k - start)
patched-inside old start items k fits low high =
    let c = length-take-le start old (omega arith) in
    let d = front old start items (omega arith) in
    get_or-append (take start old ++ items) (drop (start + length items) old) 0 k (omega arith)
    ∙ (get_or-append_right (take start old) items k 0 (omega arith)
    ∙ ap (λ (n : ℕ). get_or items (k - n) 0) c)

patched-behind : (old : List ℕ) (start : ℕ) (items : List ℕ) (k : ℕ) → start + length items ≤ length old → start + length items ≤ k
    → slice_index (patched old start items) k ≡ slice_index old k
patched-behind old start items k fits high =
    let d = front old start items (omega arith) in
    get_or-append_right (take start old ++ items) (drop (start + length items) old) k 0 (omega arith)
    ∙ (get_or-drop (start + length items) old (k - length (take start old ++ items)) 0
    ∙ ap (λ (n : ℕ). get_or old n 0) (omega arith))

pub patched-outside : (old : List ℕ) (start : ℕ) (items : List ℕ) (k : ℕ) → start + length items ≤ length old → (start ≤ k → k < start + length items → ⊥)
    → slice_index (patched old start items) k ≡ slice_index old k
patched-outside old start items k fits out = ⊎_elim {C = slice_index (patched old start items) k ≡ slice_index old k}
    (λ (before : k < start). patched-before old start items k fits before)
    (λ (low : start ≤ k). ⊎_elim {C = slice_index (patched old start items) k ≡ slice_index old k}
    (λ (inside : k < start + length items). absurd (out low inside))
    (λ (behind : start + length items ≤ k). patched-behind old start items k fits behind) (cases_lt k (start + length items)))
    (cases_lt k start)

-- ---- lists of bytes under numbers

-- the bytes under a number
abbrev pub item : List (List ℕ) → ℕ → List ℕ
item xss n = unwrap_or (numbered xss n) []

empty-list : (xs : List ℕ) → length xs ≡ 0 → [] ≡ xs
empty-list [] e = refl
empty-list (x ∷ xs) e = absurd (omega arith)

item-set : (xss : List (List ℕ)) (n : ℕ) (xs : List ℕ) → length xs ≡ length (item xss n) → item (with_numbered xss n xs) n ≡ xs
item-set xss zero xs e = empty-list xs e
item-set [] (suc k) xs e = empty-list xs e
item-set (ys ∷ xss) (suc zero) xs e = refl
item-set (ys ∷ xss) (suc (suc k)) xs e = item-set xss (suc k) xs e

item-set-other : (xss : List (List ℕ)) (n m : ℕ) (xs : List ℕ) → (m ≡ n → ⊥) → item (with_numbered xss n xs) m ≡ item xss m
item-set-other xss zero m xs other = refl
item-set-other xss (suc k) zero xs other = refl
item-set-other [] (suc k) (suc l) xs other = refl
item-set-other (ys ∷ xss) (suc zero) (suc zero) xs other = absurd (other refl)
item-set-other (ys ∷ xss) (suc zero) (suc (suc l)) xs other = refl
item-set-other (ys ∷ xss) (suc (suc k)) (suc zero) xs other = refl
item-set-other (ys ∷ xss) (suc (suc k)) (suc (suc l)) xs other = item-set-other xss (suc k) (suc l) xs (λ e. other (ap suc e))

length-with_numbered : (xss : List (List ℕ)) (n : ℕ) (xs : List ℕ) → length (with_numbered xss n xs) ≡ length xss
length-with_numbered xss zero xs = refl
length-with_numbered xss (suc k) xs = length-set xss k xs

-- ---- contents

with_bytes-same : (contents : Contents) (s : SpaceId) (bytes : List ℕ) → length bytes ≡ length (bytes_of contents s) → bytes_of (with_bytes contents s bytes) s ≡ bytes
with_bytes-same contents (Nvm n) bytes e = item-set contents.nvm n bytes e
with_bytes-same contents (Mem n) bytes e = item-set contents.mem n bytes e

with_bytes-other : (contents : Contents) (s t : SpaceId) (bytes : List ℕ) → (s ≡ t → ⊥) → bytes_of (with_bytes contents s bytes) t ≡ bytes_of contents t
with_bytes-other contents (Nvm n) (Nvm m) bytes other = item-set-other contents.nvm n m bytes (λ e. other (ap Nvm (sym e)))
with_bytes-other contents (Mem n) (Mem m) bytes other = item-set-other contents.mem n m bytes (λ e. other (ap Mem (sym e)))
with_bytes-other contents (Nvm n) (Mem m) bytes other = refl
with_bytes-other contents (Mem n) (Nvm m) bytes other = refl

pub space-cases : (s t : SpaceId) → (s ≡ t) ⊎ (s ≡ t → ⊥)
space-cases s t = by_test (same_space s t) refl
  where
    by_test : (b : Bool) → same_space s t ≡ b → (s ≡ t) ⊎ (s ≡ t → ⊥)
    by_test true e = inl (same_space-true s t e)
    by_test false e = inr (λ same. true≢false (sym (same_space-itself s t same) ∙ e))

pub put-inside : (contents : Contents) (s : SpaceId) (start : ℕ) (bytes : List ℕ) (k : ℕ) → start + length bytes ≤ length (bytes_of contents s)
    → start ≤ k → k < start + length bytes → all_bytes (put contents s start bytes) s k ≡ slice_index bytes (k - start)
put-inside contents s start bytes k fits low high =
    ap (λ (xs : List ℕ). slice_index xs k) (with_bytes-same contents s (patched (bytes_of contents s) start bytes) (length-patched (bytes_of contents s) start bytes fits))
    ∙ patched-inside (bytes_of contents s) start bytes k fits low high

pub put-outside : (contents : Contents) (s : SpaceId) (start : ℕ) (bytes : List ℕ) (t : SpaceId) (k : ℕ) → start + length bytes ≤ length (bytes_of contents s)
    → (s ≡ t → start ≤ k → k < start + length bytes → ⊥) → all_bytes (put contents s start bytes) t k ≡ all_bytes contents t k
put-outside contents s start bytes t k fits out = ⊎_elim {C = all_bytes (put contents s start bytes) t k ≡ all_bytes contents t k}
    (λ (same : s ≡ t). subst (λ (u : SpaceId). all_bytes (put contents s start bytes) u k ≡ all_bytes contents u k) same
    (ap (λ (xs : List ℕ). slice_index xs k) (with_bytes-same contents s (patched (bytes_of contents s) start bytes) (length-patched (bytes_of contents s) start bytes fits))
    ∙ patched-outside (bytes_of contents s) start bytes k fits (out same)))
    (λ (other : s ≡ t → ⊥). ap (λ (xs : List ℕ). slice_index xs k) (with_bytes-other contents s t (patched (bytes_of contents s) start bytes) other))
    (space-cases s t)

pub put-length : (contents : Contents) (s : SpaceId) (start : ℕ) (bytes : List ℕ) (t : SpaceId) → start + length bytes ≤ length (bytes_of contents s)
    → length (bytes_of (put contents s start bytes) t) ≡ length (bytes_of contents t)
put-length contents s start bytes t fits = ⊎_elim {C = length (bytes_of (put contents s start bytes) t) ≡ length (bytes_of contents t)}
    (λ (same : s ≡ t). subst (λ (u : SpaceId). length (bytes_of (put contents s start bytes) u) ≡ length (bytes_of contents u)) same
    (ap length (with_bytes-same contents s (patched (bytes_of contents s) start bytes) (length-patched (bytes_of contents s) start bytes fits))
    ∙ length-patched (bytes_of contents s) start bytes fits))
    (λ (other : s ≡ t → ⊥). ap length (with_bytes-other contents s t (patched (bytes_of contents s) start bytes) other))
    (space-cases s t)

-- two contents are the same where they have as many namespaces, as long, with the same bytes
pub record AreSame (a b : Contents) : Type 0 where
  pub nvm : length a.nvm ≡ length b.nvm
  pub mem : length a.mem ≡ length b.mem
  pub lengths : (s : SpaceId) → length (bytes_of a s) ≡ length (bytes_of b s)
  pub bytes : (s : SpaceId) (k : ℕ) → all_bytes a s k ≡ all_bytes b s k

list-same : (xs ys : List ℕ) → length xs ≡ length ys → ((k : ℕ) → slice_index xs k ≡ slice_index ys k) → xs ≡ ys
list-same [] [] e same = refl
list-same [] (y ∷ ys) e same = absurd (omega arith)
list-same (x ∷ xs) [] e same = absurd (omega arith)
list-same (x ∷ xs) (y ∷ ys) e same =
    let here : x ≡ y = same 0 in
    let rest : xs ≡ ys = list-same xs ys (omega arith) (λ k. same (suc k)) in
    cc

lists-same : (xss yss : List (List ℕ)) → length xss ≡ length yss → ((n : ℕ) → length (item xss n) ≡ length (item yss n))
    → ((n k : ℕ) → slice_index (item xss n) k ≡ slice_index (item yss n) k) → xss ≡ yss
lists-same [] [] e lengths same = refl
lists-same [] (ys ∷ yss) e lengths same = absurd (omega arith)
lists-same (xs ∷ xss) [] e lengths same = absurd (omega arith)
lists-same (xs ∷ xss) (ys ∷ yss) e lengths same =
    let here : xs ≡ ys = list-same xs ys (lengths 1) (same 1) in
    let rest : xss ≡ yss = lists-same xss yss (omega arith) (shifted-lengths lengths) (shifted same) in
    cc
  where
    shifted-lengths : ((n : ℕ) → length (item (xs ∷ xss) n) ≡ length (item (ys ∷ yss) n)) → (n : ℕ) → length (item xss n) ≡ length (item yss n)
    shifted-lengths lengths zero = refl
    shifted-lengths lengths (suc n) = lengths (suc (suc n))

    shifted : ((n k : ℕ) → slice_index (item (xs ∷ xss) n) k ≡ slice_index (item (ys ∷ yss) n) k) → (n k : ℕ) → slice_index (item xss n) k ≡ slice_index (item yss n) k
    shifted same zero k = refl
    shifted same (suc n) k = same (suc (suc n)) k

pub same-contents : (a b : Contents) → AreSame a b → a ≡ b
same-contents a b same =
    let n : a.nvm ≡ b.nvm = lists-same a.nvm b.nvm same.nvm (λ n. same.lengths (Nvm n)) (λ n k. same.bytes (Nvm n) k) in
    let m : a.mem ≡ b.mem = lists-same a.mem b.mem same.mem (λ n. same.lengths (Mem n)) (λ n k. same.bytes (Mem n) k) in
    λ i. record { nvm = n i; mem = m i }

pub put-spaces : (contents : Contents) (s : SpaceId) (start : ℕ) (bytes : List ℕ)
    → (length (put contents s start bytes).nvm ≡ length contents.nvm) × (length (put contents s start bytes).mem ≡ length contents.mem)
put-spaces contents (Nvm n) start bytes = (length-with_numbered contents.nvm n (patched (bytes_of contents (Nvm n)) start bytes), refl)
put-spaces contents (Mem n) start bytes = (refl, length-with_numbered contents.mem n (patched (bytes_of contents (Mem n)) start bytes))
