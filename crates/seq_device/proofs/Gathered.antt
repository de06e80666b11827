-- Copies that pass their checks lie inside; the bytes of regions one after the other.
use Rattle.std.proofs.Common.{◌≡◌, ℕ, ◌+◌, ◌≤◌, ◌<◌, ◌%◌, ◌==◌, not, Bool, true, false, ◌||◌, nat_lt, List, [], ◌∷◌, ◌++◌, length, take, suc, get_or, All, Option, Some, None, IsSome, IfSome, unwrap_or, refl, sym, subst, ap, ◌∙◌, arith}
use Rattle.std.specs.List.{list_any}
use Rattle.std.proofs.lemmas.Bool.Decides.{nat_tests}
use Rattle.std.proofs.lemmas.Grind.{common_steps}
use Rattle.std.proofs.lemmas.List.{append_assoc, append-nil, take_more}
use Rattle.copy_ranges.specs.Copies.{CopyRegions, checks_of_copy, destination}
use Rattle.seq_device.specs.Standing.{HasSizes}
use Rattle.std.proofs.lemmas.List.Elements.{All-cons}
use Rattle.cp_base.proofs.Sharing.{both_false}
use Rattle.cp_base.specs.Checks.{any_without_bytes, copy_checks, destination_of, first_failing, refuse, total_len}
use Rattle.cp_base.specs.Configuration.{Configuration, size_of}
use Rattle.cp_base.specs.Contents.{Contents, bytes_in, joined}
use Rattle.cp_base.specs.Region.{Region}
use Rattle.cp_base.specs.Sharing.{is_nowhere, is_outside, meets_any}
use Rattle.cp_base.specs.declared.region.SpaceId.{SpaceId}
use Rattle.cp_base.specs.declared.limits.TheConstants.{MAX_SPAN}
use Rattle.cp_base.specs.declared.replies.Status.{Status}
use Rattle.cp_base.specs.declared.replies.Status.TheVariants as status

-- the namespace has the bytes of a region, by the configuration
abbrev pub Has : Configuration → Region → Type 0
Has c region = region.start + region.len ≤ unwrap_or (size_of c region.space) 0

-- one region more is its bytes at the end
pub joined_snoc : (contents : Contents) (regions : List Region) (region : Region) → joined contents (regions ++ region ∷ []) ≡ joined contents regions ++ bytes_in contents region
joined_snoc contents [] region = append-nil (bytes_in contents region)
joined_snoc contents (first ∷ regions) region =
    ap (λ (bytes : List ℕ). bytes_in contents first ++ bytes) (joined_snoc contents regions region)
    ∙ sym (append_assoc (bytes_in contents first) (joined contents regions) (bytes_in contents region))

-- where none of five checks fails, the fourth does not
fourth_passes : (a b c d e : Bool) (s t u v w : Status) → first_failing (refuse a s ∷ refuse b t ∷ refuse c u ∷ refuse d v ∷ refuse e w ∷ []) ≡ None → d ≡ false
fourth_passes true b c d e s t u v w h = cc
fourth_passes false true c d e s t u v w h = cc
fourth_passes false false true d e s t u v w h = cc
fourth_passes false false false true e s t u v w h = cc
fourth_passes false false false false e s t u v w h = refl

has : (c : Configuration) (region : Region) → is_outside c region ≡ false → Has c region
has c region h = grind (arith, nat_tests)

has_all : (c : Configuration) (regions : List Region) → list_any (is_outside c) regions ≡ false → All (Has c) regions
has_all c [] h = λ k d below. absurd (omega arith)
has_all c (region ∷ regions) h =
    let parts = both_false (is_outside c region) (list_any (is_outside c) regions) h in
    All-cons (Has c) region regions (has c region parts.0) (has_all c regions parts.1)

-- a copy that passes its checks lies inside
pub copy_inside : (c : Configuration) (space : SpaceId) (start unit : ℕ) (sources : List Region) → first_failing (copy_checks c space start unit sources) ≡ None
    → All (Has c) sources × Has c (destination_of space start sources)
copy_inside c space start unit sources h =
    let to : Region = destination_of space start sources in
    let passes : (list_any (is_outside c) sources || is_outside c to) ≡ false =
    fourth_passes (is_nowhere c to || list_any (is_nowhere c) sources) (any_without_bytes sources || not (total_len sources % unit == 0)) (nat_lt MAX_SPAN (total_len sources))
    (list_any (is_outside c) sources || is_outside c to) (meets_any sources to) status.BadNamespace status.BadLength status.TooLong status.OutOfRange status.CopyOverlap h in
    let parts = both_false (list_any (is_outside c) sources) (is_outside c to) passes in
    (has_all c sources parts.0, has c to parts.1)

-- the bytes of one region more
pub joined_take : (contents : Contents) (regions : List Region) (i : ℕ) (d : Region) → i < length regions
    → joined contents (take (i + 1) regions) ≡ joined contents (take i regions) ++ bytes_in contents (get_or regions i d)
joined_take contents regions i d h = ap (joined contents) (take_more regions i d h) ∙ joined_snoc contents (take i regions) (get_or regions i d)

length-bytes_in : (c : Configuration) (contents : Contents) (region : Region) → HasSizes c contents → Has c region → length (bytes_in contents region) ≡ region.len
length-bytes_in c contents region sizes h =
    let size = sizes region.space in
    grind (arith, common_steps)

-- as many bytes as the regions have together
pub length_joined : (c : Configuration) (contents : Contents) (regions : List Region) → HasSizes c contents → All (Has c) regions → length (joined contents regions) ≡ total_len regions
length_joined c contents [] sizes h = refl
length_joined c contents (region ∷ regions) sizes h =
    let first = length-bytes_in c contents region sizes (h 0 region (omega arith)) in
    let rest = length_joined c contents regions sizes (λ k d below. h (suc k) d (omega arith)) in
    grind (arith, common_steps)

-- what passes the checks of a copy, where it is one
pub sources_inside : (c : Configuration) (copy : Option CopyRegions) (sources : List Region) → IsSome copy
    → IfSome copy (λ (copy : CopyRegions). first_failing (checks_of_copy c copy) ≡ None) → IfSome copy (λ (copy : CopyRegions). sources ≡ copy.sources) → All (Has c) sources
sources_inside c None sources some passes same = cc
sources_inside c (Some copy) sources some passes same =
    subst (λ (regions : List Region). All (Has c) regions) (sym same) (copy_inside c copy.space copy.start copy.unit copy.sources passes).0

-- as many bytes as go to the destination
pub total_to : (copy : Option CopyRegions) (sources : List Region) (to : Region) → IsSome copy
    → IfSome copy (λ (copy : CopyRegions). (sources ≡ copy.sources) × (to ≡ destination copy)) → total_len sources ≡ to.len
total_to None sources to some h = cc
total_to (Some copy) sources to some h = ap total_len h.0 ∙ ap (λ (region : Region). region.len) (sym h.1)
