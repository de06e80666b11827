-- The ranges of the claims that are kept.
use Rattle.std.proofs.Common.{◌≡◌, ◌==◌, ℕ, suc, ◌+◌, ◌*◌, ◌<◌, ◌≤◌, Bool, true, false, ◌||◌, if◌then◌else◌, cond, List, [], ◌∷◌, ◌++◌, Option, None, Some, find, option_map, unwrap_or, length, arith, refl, sym, subst, ap, ◌∙◌}
use Rattle.std.specs.List.{list_any}
use Rattle.std.proofs.lemmas.List.Folds.{list_any-append}
use Rattle.cp_base.specs.Region.{Region}
use Rattle.cp_base.specs.Sharing.{meets_any, shares_byte}
use Rattle.cp_base.specs.Touching.{meets, share_byte}
use Rattle.cp_base.specs.declared.limits.TheConstants.{MAX_RUNS}
use Rattle.cp_base.specs.declared.spans.Footprint.{Footprint}
use Rattle.range_claims.specs.Counts.{ArePlaced, regions_at}
use Rattle.range_claims.specs.Kept.{ClaimsAreFit, IsFit, footprint_under, all_reads, without_key, all_writes}
use Rattle.range_claims.specs.declared.claims.Claim.{Claim}
use Rattle.range_claims.proofs.Totals.{append_length, placed_append, regions_append}

or_four : (a b c d : Bool) → ((a || b) || (c || d)) ≡ ((a || c) || (b || d))
or_four true b c d = refl
or_four false true true d = refl
or_four false true false d = refl
or_four false false c d = refl

or_swap : (a1 b1 c1 a2 b2 c2 : Bool) → ((a1 || (b1 || c1)) || (a2 || (b2 || c2))) ≡ ((a1 || a2) || ((b1 || b2) || (c1 || c2)))
or_swap true b1 c1 a2 b2 c2 = refl
or_swap false true true true true c2 = refl
or_swap false true true true false c2 = refl
or_swap false true true false true c2 = refl
or_swap false true true false false c2 = refl
or_swap false true false true true c2 = refl
or_swap false true false true false c2 = refl
or_swap false true false false true c2 = refl
or_swap false true false false false c2 = refl
or_swap false false true true true c2 = refl
or_swap false false true true false c2 = refl
or_swap false false true false true c2 = refl
or_swap false false true false false c2 = refl
or_swap false false false true true c2 = refl
or_swap false false false true false c2 = refl
or_swap false false false false true c2 = refl
or_swap false false false false false c2 = refl

pub share_none : (some : List Region) → share_byte some [] ≡ false
share_none [] = refl
share_none (r ∷ some) = share_none some

pub share_append : (some one others : List Region) → share_byte some (one ++ others) ≡ (share_byte some one || share_byte some others)
share_append [] one others = refl
share_append (r ∷ some) one others =
    ap (λ (b : Bool). b || share_byte some (one ++ others)) (list_any-append (shares_byte r) one others)
    ∙ ap (λ (b : Bool). (meets_any one r || meets_any others r) || b) (share_append some one others)
    ∙ or_four (meets_any one r) (meets_any others r) (share_byte some one) (share_byte some others)

-- whether a command meets a claim, by the ranges of all of them
abbrev pub meets_all : Footprint → List Claim → Bool
meets_all f claims = share_byte f.writes (all_writes claims) || (share_byte f.writes (all_reads claims) || share_byte f.reads (all_writes claims))

pub kept_meets : (f : Footprint) (claims : List Claim) → list_any (λ (claim : Claim). meets f claim.footprint) claims ≡ meets_all f claims
kept_meets f [] =
    sym (ap (λ (b : Bool). b || (share_byte f.writes [] || share_byte f.reads [])) (share_none f.writes)
    ∙ ap (λ (b : Bool). b || share_byte f.reads []) (share_none f.writes) ∙ share_none f.reads)
kept_meets f (c ∷ claims) =
    let g = c.footprint in
    let One : Bool = meets f g in
    ap (λ (b : Bool). One || b) (kept_meets f claims)
    ∙ or_swap (share_byte f.writes g.writes) (share_byte f.writes g.reads) (share_byte f.reads g.writes)
    (share_byte f.writes (all_writes claims)) (share_byte f.writes (all_reads claims)) (share_byte f.reads (all_writes claims))
    ∙ sym (ap (λ (b : Bool). b || (share_byte f.writes (g.reads ++ all_reads claims) || share_byte f.reads (g.writes ++ all_writes claims))) (share_append f.writes g.writes (all_writes claims))
    ∙ ap (λ (b : Bool). (share_byte f.writes g.writes || share_byte f.writes (all_writes claims)) || (b || share_byte f.reads (g.writes ++ all_writes claims))) (share_append f.writes g.reads (all_reads claims))
    ∙ ap (λ (b : Bool). (share_byte f.writes g.writes || share_byte f.writes (all_writes claims)) || ((share_byte f.writes g.reads || share_byte f.writes (all_reads claims)) || b)) (share_append f.reads g.writes (all_writes claims)))

-- one claim more
pub writes_more : (claims : List Claim) (c : Claim) (x : ℕ) → regions_at (all_writes (claims ++ c ∷ [])) x ≡ regions_at (all_writes claims) x + regions_at c.footprint.writes x
writes_more [] c x = omega (arith, regions_append c.footprint.writes [] x)
writes_more (d ∷ claims) c x =
    omega (arith, writes_more claims c x, regions_append d.footprint.writes (all_writes claims) x, regions_append d.footprint.writes (all_writes (claims ++ c ∷ [])) x)

pub reads_more : (claims : List Claim) (c : Claim) (x : ℕ) → regions_at (all_reads (claims ++ c ∷ [])) x ≡ regions_at (all_reads claims) x + regions_at c.footprint.reads x
reads_more [] c x = omega (arith, regions_append c.footprint.reads [] x)
reads_more (d ∷ claims) c x =
    omega (arith, reads_more claims c x, regions_append d.footprint.reads (all_reads claims) x, regions_append d.footprint.reads (all_reads (claims ++ c ∷ [])) x)

pub fit_more : (claims : List Claim) (c : Claim) → ClaimsAreFit claims → IsFit c.footprint.writes → IsFit c.footprint.reads → ClaimsAreFit (claims ++ c ∷ [])
fit_more [] c fit w r = (w, r, tt)
fit_more (d ∷ claims) c (dw, dr, fit) w r = (dw, dr, fit_more claims c fit w r)

pub length_more : (claims : List Claim) (c : Claim) → length (claims ++ c ∷ []) ≡ length claims + 1
length_more claims c = append_length claims (c ∷ [])

-- claims that are fit have few ranges, all of them in namespaces
pub writes_few : (claims : List Claim) → ClaimsAreFit claims → length (all_writes claims) ≤ 20 * length claims
writes_few [] fit = omega arith
writes_few (c ∷ claims) (w, r, fit) = omega (arith, w.few, writes_few claims fit, append_length c.footprint.writes (all_writes claims))

pub reads_few : (claims : List Claim) → ClaimsAreFit claims → length (all_reads claims) ≤ 20 * length claims
reads_few [] fit = omega arith
reads_few (c ∷ claims) (w, r, fit) = omega (arith, r.few, reads_few claims fit, append_length c.footprint.reads (all_reads claims))

pub writes_placed : (claims : List Claim) → ClaimsAreFit claims → ArePlaced (all_writes claims)
writes_placed [] fit = tt
writes_placed (c ∷ claims) (w, r, fit) = placed_append c.footprint.writes (all_writes claims) w.placed (writes_placed claims fit)

pub reads_placed : (claims : List Claim) → ClaimsAreFit claims → ArePlaced (all_reads claims)
reads_placed [] fit = tt
reads_placed (c ∷ claims) (w, r, fit) = placed_append c.footprint.reads (all_reads claims) r.placed (reads_placed claims fit)

-- claims before and after one is taken out, and what that one touches
pub record TakenOut (f : Footprint) (before after : List Claim) : Type 0 where
  pub written : (x : ℕ) → regions_at (all_writes before) x ≡ regions_at f.writes x + regions_at (all_writes after) x
  pub read : (x : ℕ) → regions_at (all_reads before) x ≡ regions_at f.reads x + regions_at (all_reads after) x
  pub writes : IsFit f.writes
  pub reads : IsFit f.reads
  pub fit : ClaimsAreFit after
  pub count : length before ≡ length after + 1

first_out : (x : Claim) (claims : List Claim) → ClaimsAreFit (x ∷ claims) → TakenOut x.footprint (x ∷ claims) claims
first_out x claims (w, r, fit) = record {
  written = λ p. regions_append x.footprint.writes (all_writes claims) p;
  read = λ p. regions_append x.footprint.reads (all_reads claims) p;
  writes = w;
  reads = r;
  fit = fit;
  count = omega arith;
}

later_out : (f : Footprint) (x : Claim) (claims left : List Claim) → ClaimsAreFit (x ∷ claims) → TakenOut f claims left → TakenOut f (x ∷ claims) (x ∷ left)
later_out f x claims left (w, r, fit) out = record {
  written = λ p. omega (arith, out.written p, regions_append x.footprint.writes (all_writes claims) p, regions_append x.footprint.writes (all_writes left) p);
  read = λ p. omega (arith, out.read p, regions_append x.footprint.reads (all_reads claims) p, regions_append x.footprint.reads (all_reads left) p);
  writes = out.writes;
  reads = out.reads;
  fit = (w, r, out.fit);
  count = omega (arith, out.count);
}

pub taken_out : (key : ℕ) (claims : List Claim) (f : Footprint) → footprint_under claims key ≡ Some f → ClaimsAreFit claims → TakenOut f claims (without_key key claims)
taken_out key [] f h fit = absurd (none h)
  where
    none : ◌≡◌ {A = Option Footprint} None (Some f) → ⊥
    none h = cc
taken_out key (x ∷ claims) f h (w, r, fit) =
    by (x.key == key) (without_key key claims) h (λ later. taken_out key claims f later fit)
  where
    by : (b : Bool) (left : List Claim) → option_map (λ (claim : Claim). claim.footprint) (cond b (Some x) (find (λ (claim : Claim). claim.key == key) claims)) ≡ Some f
        → (footprint_under claims key ≡ Some f → TakenOut f claims left) → TakenOut f (x ∷ claims) (if b then claims else x ∷ left)
    by true left h later = subst (λ (g : Footprint). TakenOut g (x ∷ claims) claims) (ap (λ (o : Option Footprint). unwrap_or o x.footprint) h) (first_out x claims (w, r, fit))
    by false left h later = later_out f x claims left (w, r, fit) (later h)
