-- Texts without a byte, which is put between them and found again.
use Rattle.std.proofs.Common.{◌≡◌, ℕ, suc, ◌<◌, ◌≤◌, Bool, true, false, ◌&&◌, not, eqb, List, [], ◌∷◌, ◌++◌, refl, sym, ap, ◌∙◌, arith, inl, inr, ◌⊎◌}
use Rattle.std.specs.Prelude.{All, decimal, ◌^◌}
use Rattle.std.proofs.lemmas.Bool.{ne_eqb, eq-eqb}
use Rattle.std.proofs.lemmas.List.Splits.{join_with_byte-slice_split}
use Rattle.cp_text.specs.HexText.{AreBytes, IsHexDigit, hex_text}
use Rattle.cp_text.specs.Parts.{all_lack, joined_by, lacks, parts_between}
use Rattle.cp_text.proofs.HexTexts.{hex_text-are_digits}
use Rattle.cp_text.proofs.NumberTexts.{decimal-are_digits}

two_true : (a b : Bool) → (a && b) ≡ true → (a ≡ true) × (b ≡ true)
two_true true b e = (refl, e)
two_true false b e = absurd cc

both_true : (a b : Bool) → a ≡ true → b ≡ true → (a && b) ≡ true
both_true a b p q = rw (p, q) refl

is_false : (a : Bool) → not a ≡ true → a ≡ false
is_false true e = absurd cc
is_false false e = refl

-- the first byte of a text that lacks the mark is another one, and the rest lacks it too
pub lacks_first : (mark b : ℕ) (bs : List ℕ) → lacks mark (b ∷ bs) ≡ true → (eqb b mark ≡ false) × (lacks mark bs ≡ true)
lacks_first mark b bs h = let p = two_true (not (eqb b mark)) (lacks mark bs) h in (is_false (eqb b mark) p.0, p.1)

pub lacks_cons : (mark b : ℕ) (bs : List ℕ) → eqb b mark ≡ false → lacks mark bs ≡ true → lacks mark (b ∷ bs) ≡ true
lacks_cons mark b bs p q = rw (p, q) refl

pub lacks_both : (mark : ℕ) (a b : List ℕ) → lacks mark a ≡ true → lacks mark b ≡ true → lacks mark (a ++ b) ≡ true
lacks_both mark [] b p q = q
lacks_both mark (x ∷ xs) b p q =
    let h = lacks_first mark x xs p in
    lacks_cons mark x (xs ++ b) h.0 (lacks_both mark xs b h.1 q)

pub all_lack_first : (mark : ℕ) (text : List ℕ) (texts : List (List ℕ)) → all_lack mark (text ∷ texts) ≡ true → (lacks mark text ≡ true) × (all_lack mark texts ≡ true)
all_lack_first mark text texts h = two_true (lacks mark text) (all_lack mark texts) h

pub all_lack_cons : (mark : ℕ) (text : List ℕ) (texts : List (List ℕ)) → lacks mark text ≡ true → all_lack mark texts ≡ true → all_lack mark (text ∷ texts) ≡ true
all_lack_cons mark text texts p q = both_true (lacks mark text) (all_lack mark texts) p q

-- ---- parts, and the text with the mark between

pub part_only : (mark : ℕ) (part : List ℕ) → lacks mark part ≡ true → parts_between mark part ≡ part ∷ []
part_only mark [] h = refl
part_only mark (b ∷ bs) h =
    let p = lacks_first mark b bs h in
    rw (p.0, part_only mark bs p.1) refl

pub part_first : (mark : ℕ) (part rest : List ℕ) → lacks mark part ≡ true → parts_between mark (part ++ mark ∷ rest) ≡ part ∷ parts_between mark rest
part_first mark [] rest h = rw (eq-eqb mark mark refl) refl
part_first mark (b ∷ bs) rest h =
    let p = lacks_first mark b bs h in
    rw (p.0, part_first mark bs rest p.1) refl

pub parts_again : (mark : ℕ) (part : List ℕ) (parts : List (List ℕ)) → all_lack mark (part ∷ parts) ≡ true → parts_between mark (joined_by mark (part ∷ parts)) ≡ part ∷ parts
parts_again mark part [] h = part_only mark part (all_lack_first mark part [] h).0
parts_again mark part (next ∷ parts) h =
    let p = all_lack_first mark part (next ∷ parts) h in
    part_first mark part (joined_by mark (next ∷ parts)) p.0 ∙ ap (λ (ps : List (List ℕ)). part ∷ ps) (parts_again mark next parts p.1)

-- the parts of a text with the mark between are the text
pub joined_again : (mark : ℕ) (text : List ℕ) → joined_by mark (parts_between mark text) ≡ text
joined_again mark text = join_with_byte-slice_split mark text

-- parts that lack a byte make a text that lacks it, where it is not the mark
pub joined_lacks : (byte mark : ℕ) (parts : List (List ℕ)) → eqb mark byte ≡ false → all_lack byte parts ≡ true → lacks byte (joined_by mark parts) ≡ true
joined_lacks byte mark [] n h = refl
joined_lacks byte mark (part ∷ []) n h = (all_lack_first byte part [] h).0
joined_lacks byte mark (part ∷ next ∷ parts) n h =
    let p = all_lack_first byte part (next ∷ parts) h in
    lacks_both byte part (mark ∷ joined_by mark (next ∷ parts)) p.0 (lacks_cons byte mark (joined_by mark (next ∷ parts)) n (joined_lacks byte mark (next ∷ parts) n p.1))

-- two texts that lack the mark before it, and what stands behind, are told apart by the whole
pub same_cut : (mark : ℕ) (a b x y : List ℕ) → lacks mark a ≡ true → lacks mark b ≡ true → a ++ mark ∷ x ≡ b ++ mark ∷ y → (a ≡ b) × (x ≡ y)
same_cut mark [] [] x y p q e = (refl, cc)
same_cut mark [] (d ∷ ds) x y p q e =
    let h = lacks_first mark d ds q in
    let same : mark ≡ d = cc in
    let other : eqb d mark ≡ true = eq-eqb d mark (sym same) in
    absurd cc
same_cut mark (c ∷ cs) [] x y p q e =
    let h = lacks_first mark c cs p in
    let same : c ≡ mark = cc in
    let other : eqb c mark ≡ true = eq-eqb c mark same in
    absurd cc
same_cut mark (c ∷ cs) (d ∷ ds) x y p q e =
    let h = lacks_first mark c cs p in
    let k = lacks_first mark d ds q in
    let first : c ≡ d = cc in
    let rest : cs ++ mark ∷ x ≡ ds ++ mark ∷ y = cc in
    let more = same_cut mark cs ds x y h.1 k.1 rest in
    let whole : cs ≡ ds = more.0 in
    (cc, more.1)

-- ---- digits

pub lacks_by : (P : ℕ → Type 0) (mark : ℕ) (text : List ℕ) → ((byte : ℕ) → P byte → eqb byte mark ≡ false) → All P text → lacks mark text ≡ true
lacks_by P mark [] other all = refl
lacks_by P mark (b ∷ bs) other all = lacks_cons mark b bs (other b (all 0 b (omega arith))) (lacks_by P mark bs other (λ k d lt. all (suc k) d (omega arith)))

-- a mark that is no digit
abbrev pub IsNoDigit : ℕ → Type 0
IsNoDigit mark = (mark < 48) ⊎ ((57 < mark) × (mark < 97))

pub decimal_lacks : (mark n : ℕ) → IsNoDigit mark → n < 2 ^ 64 → lacks mark (decimal n) ≡ true
decimal_lacks mark n apart lt =
    lacks_by (λ byte. (48 ≤ byte) × (byte ≤ 57)) mark (decimal n) (λ byte h. ne_eqb byte mark (elim apart [ inl a ↦ omega arith | inr a ↦ omega arith ])) (decimal-are_digits n lt)

pub hex_lacks : (mark : ℕ) (bytes : List ℕ) → IsNoDigit mark → AreBytes bytes → lacks mark (hex_text bytes) ≡ true
hex_lacks mark bytes apart h =
    lacks_by IsHexDigit mark (hex_text bytes) (λ byte is. ne_eqb byte mark (elim apart [ inl a ↦ elim is [ inl b ↦ omega arith | inr b ↦ omega arith ] | inr a ↦ elim is [ inl b ↦ omega arith | inr b ↦ omega arith ] ])) (hex_text-are_digits bytes h)
