-- The regions that commands may write: no two of a command share a byte, and while its claim is open they are out.
use Rattle.std.proofs.Common.{◌≡◌, ℕ, ◌-◌, ◌<◌, ◌==◌, Bool, true, false, ◌||◌, ◌&&◌, cond, List, [], ◌∷◌, filter, find, map, slice_index, Option, Some, None, is_none, length, option_map, unwrap_or, refl, sym, ap, subst, ◌∙◌, if◌then◌else◌}
use Rattle.std.specs.List.{AllByRecursion, list_any}
use Rattle.std.proofs.lemmas.Bool.{true≢false}
use Rattle.bpf_model.specs.Memory.{allows_writing}
use Rattle.cp_base.specs.Checks.{first_failing}
use Rattle.cp_base.specs.Configuration.{Configuration}
use Rattle.cp_base.specs.Known.{Known}
use Rattle.cp_base.specs.Region.{Region}
use Rattle.cp_base.specs.Sets.{RangeSet}
use Rattle.cp_base.specs.Sharing.{any_overlap, meets_any, range_region, same_region, shares_byte}
use Rattle.cp_base.specs.declared.commands.Command.{Command}
use Rattle.cp_base.specs.declared.commands.Command.TheVariants as command
use Rattle.cp_base.specs.declared.lists.MemRange.{MemRange}
use Rattle.cp_base.specs.declared.region.SpaceId.{SpaceId}
use Rattle.device_model.specs.Checks.{checks_of, refusal_of, refusal_of_program}
use Rattle.device_model.specs.Memory.{may_take_memory, moves_bytes, takes_memory}
use Rattle.device_model.specs.State.{State}
use Rattle.trail_model.specs.Claims.{FindsItself}
use Rattle.trail_model.specs.Fits.{SetFits}
use Rattle.trail_model.specs.Footprints.{Execution, writable_ranges, writes_of}
use Rattle.trail_model.specs.Lawful.{Trail, world_of}
use Rattle.trail_model.specs.World.{OpenClaim, World, claim_at, effect_of_claim}
use Rattle.trail_model.specs.Pieces.{RegionBytes, any_has_byte, carried, has_byte}
use Rattle.trail_model.proofs.Carrying.{written-regions, written-whole}
use Rattle.trail_model.proofs.Passing.{first-passes}
use Rattle.trail_model.proofs.Putting.{AreWhole, regions_of}
use Rattle.trail_model.proofs.Regions.{has_byte-in, same_space-itself, some-has_byte, unmet}
use Rattle.trail_model.proofs.Sound.{sound-world}
use Rattle.trail_model.proofs.Submits.{each-weaker, found-each, none-some, same-eqb, some-same}
use Rattle.core_model.specs.Moves.{filled_by, filled_by_all}
use Rattle.core_model.specs.Parts.{Parts}
use Rattle.core_model.specs.Picking.{taken_for}
use Rattle.core_model.proofs.Claiming.{same-taken}
use Rattle.core_model.specs.Ties.{StandFor, is_one_of}

-- ---- sets

pub sets-fit : (c : Configuration) (commands : ℕ) (p : Parts) (trail : Trail) → StandFor c commands p trail → AllByRecursion (SetFits c) p.sets
sets-fit c commands p trail stand =
    subst (λ (sets : List RangeSet). AllByRecursion (SetFits c) sets) (sym stand.ties.sets) (sound-world c commands trail stand.lawful).fits.sets

either-false : (a b : Bool) → (a || b) ≡ false → (a ≡ false) × (b ≡ false)
either-false true b e = absurd (true≢false e)
either-false false b e = (refl, e)

-- fewer of some ranges meet no more
fewer-meet : (r : Region) (t : MemRange → Bool) (ranges : List MemRange) → meets_any (map range_region ranges) r ≡ false → meets_any (map range_region (filter t ranges)) r ≡ false
fewer-meet r t [] e = refl
fewer-meet r t (x ∷ ranges) e =
    let both = either-false (shares_byte r (range_region x)) (meets_any (map range_region ranges) r) e in
    by_test (t x) both.0 (fewer-meet r t ranges both.1)
  where
    by_test : (b : Bool) → shares_byte r (range_region x) ≡ false → meets_any (map range_region (filter t ranges)) r ≡ false
        → meets_any (map range_region (cond b (x ∷ filter t ranges) (filter t ranges))) r ≡ false
    by_test true first later = ap (λ (b : Bool). b || meets_any (map range_region (filter t ranges)) r) first ∙ later
    by_test false first later = later

fewer-apart : (t : MemRange → Bool) (ranges : List MemRange) → any_overlap (map range_region ranges) ≡ false → any_overlap (map range_region (filter t ranges)) ≡ false
fewer-apart t [] e = refl
fewer-apart t (x ∷ ranges) e =
    let both = either-false (meets_any (map range_region ranges) (range_region x)) (any_overlap (map range_region ranges)) e in
    by_test (t x) (fewer-meet (range_region x) t ranges both.0) (fewer-apart t ranges both.1)
  where
    by_test : (b : Bool) → meets_any (map range_region (filter t ranges)) (range_region x) ≡ false → any_overlap (map range_region (filter t ranges)) ≡ false
        → any_overlap (map range_region (cond b (x ∷ filter t ranges) (filter t ranges))) ≡ false
    by_test true first later = ap (λ (b : Bool). b || any_overlap (map range_region (filter t ranges))) first ∙ later
    by_test false first later = later

-- no two regions that are taken out for a command share a byte
pub taken-apart : (c : Configuration) (commands : ℕ) (p : Parts) (trail : Trail) (cmd : Command) → StandFor c commands p trail → any_overlap (taken_for c p cmd) ≡ false
taken-apart c commands p trail (command.Execute slot set p1 p2 budget) stand = by_set (find (λ (x : RangeSet). x.number == set) p.sets) refl
  where
    by_set : (o : Option RangeSet) → find (λ (x : RangeSet). x.number == set) p.sets ≡ o
        → any_overlap (map range_region (writable_ranges (unwrap_or (option_map (λ (x : RangeSet). x.ranges) o) []))) ≡ false
    by_set None e = refl
    by_set (Some x) e =
        let fits : SetFits c x = found-each (SetFits c) (λ (y : RangeSet). y.number == set) p.sets x (sets-fit c commands p trail stand) e in
        fewer-apart (λ (range : MemRange). allows_writing range.access) x.ranges fits.apart
taken-apart c commands p trail cmd stand = refl

-- ---- what is out

same-itself : (r : Region) → same_region r r ≡ true
same-itself r =
    ap (λ (b : Bool). b && ((r.start == r.start) && (r.len == r.len))) (same_space-itself r.space r.space refl)
    ∙ (ap (λ (b : Bool). b && (r.len == r.len)) (same-eqb r.start r.start refl) ∙ same-eqb r.len r.len refl)

or-right : (a b : Bool) → b ≡ true → (a || b) ≡ true
or-right true b e = refl
or-right false b e = e

-- each of some regions is one of them
each-one : (all rs : List Region) → ((r : Region) → is_one_of rs r ≡ true → is_one_of all r ≡ true) → AllByRecursion (λ (r : Region). is_one_of all r ≡ true) rs
each-one all [] within = tt
each-one all (r ∷ rs) within = (
  within r (ap (λ (b : Bool). b || is_one_of rs r) (same-itself r)),
  each-one all rs (λ x e. within x (or-right (same_region r x) (is_one_of rs x) e)),
)

found-any : (test : OpenClaim → Bool) (place : ℕ) (claims : List OpenClaim) (claim : OpenClaim) → claim_at claims place ≡ Some claim → test claim ≡ true → list_any test claims ≡ true
found-any test place [] claim found e = absurd (none-some claim found)
found-any test place (x ∷ claims) claim found e = by_test (x.place == place) found (λ f. found-any test place claims claim f e)
  where
    by_test : (b : Bool) → cond b (Some x) (claim_at claims place) ≡ Some claim → (claim_at claims place ≡ Some claim → list_any test claims ≡ true)
        → (test x || list_any test claims) ≡ true
    by_test true found later = ap (λ (b : Bool). b || list_any test claims) (subst (λ (y : OpenClaim). test y ≡ true) (sym (some-same x claim found)) e)
    by_test false found later = or-right (test x) (list_any test claims) (later found)

each-out : (p : Parts) (rs : List Region) → AllByRecursion (λ (r : Region). 0 < r.len → p.out r ≡ true) rs → (ps : List RegionBytes) → regions_of ps ≡ rs
    → AllByRecursion (λ (piece : RegionBytes). 0 < piece.region.len → p.out piece.region ≡ true) ps
each-out p rs all ps e = by_pieces ps (subst (λ (xs : List Region). AllByRecursion (λ (r : Region). 0 < r.len → p.out r ≡ true) xs) (sym e) all)
  where
    by_pieces : (ps : List RegionBytes) → AllByRecursion (λ (r : Region). 0 < r.len → p.out r ≡ true) (regions_of ps)
        → AllByRecursion (λ (piece : RegionBytes). 0 < piece.region.len → p.out piece.region ≡ true) ps
    by_pieces [] all = tt
    by_pieces (piece ∷ ps) all = (all.0, by_pieces ps all.1)

pub pieces-out : (c : Configuration) (commands : ℕ) (p : Parts) (trail : Trail) (place : ℕ) (claim : OpenClaim) → StandFor c commands p trail
    → claim_at (world_of c trail).claims place ≡ Some claim
    → AllByRecursion (λ (piece : RegionBytes). 0 < piece.region.len → p.out piece.region ≡ true) (effect_of_claim c claim).pieces
pieces-out c commands p trail place claim stand found =
    let regions : List Region = writes_of c claim.execution.ranges claim.request.command in
    each-out p regions
    (each-weaker (λ (r : Region). is_one_of regions r ≡ true) (λ (r : Region). 0 < r.len → p.out r ≡ true)
    (λ r e some. stand.ties.out r some
    ∙ found-any (λ (x : OpenClaim). is_one_of (writes_of c x.execution.ranges x.request.command) r) place (world_of c trail).claims claim found e)
    regions (each-one regions regions (λ r e. e)))
    (effect_of_claim c claim).pieces (written-regions c claim.execution (carried claim.pieces) claim.request.command)

-- ---- memory

moving-takes : (cmd : Command) → moves_bytes cmd ≡ true → may_take_memory cmd ≡ true
moving-takes (command.NvmRead ns lba count) e = refl
moving-takes (command.NvmWrite ns lba bytes) e = refl
moving-takes (command.NvmZeroes ns lba count) e = refl
moving-takes (command.NvmCopy ns lba from) e = refl
moving-takes (command.MemRead ns at len) e = refl
moving-takes (command.MemWrite ns at bytes) e = refl
moving-takes (command.MemFill ns at len value) e = refl
moving-takes (command.MemCopy ns at from) e = refl
moving-takes (command.Execute slot set p1 p2 budget) e = refl
moving-takes cmd e = absurd (true≢false (sym e))

pub memory-taken : (c : Configuration) (s : State) (cmd : Command) → moves_bytes cmd ≡ true → refusal_of c s cmd ≡ None → takes_memory c s cmd ≡ true
memory-taken c s cmd moves passes =
    ap (λ (b : Bool). b && is_none (first_failing (checks_of c s cmd))) (moving-takes cmd moves)
    ∙ ap is_none (first-passes (first_failing (checks_of c s cmd)) (refusal_of_program s cmd) passes)

-- ---- what comes home

pub pieces-whole : (c : Configuration) (claim : OpenClaim) → AllByRecursion (λ (piece : RegionBytes). length piece.bytes ≡ piece.region.len) (effect_of_claim c claim).pieces
pieces-whole c claim = by_pieces (effect_of_claim c claim).pieces (written-whole c claim.execution (carried claim.pieces) claim.request.command)
  where
    by_pieces : (ps : List RegionBytes) → AreWhole ps → AllByRecursion (λ (piece : RegionBytes). length piece.bytes ≡ piece.region.len) ps
    by_pieces [] whole = tt
    by_pieces (piece ∷ ps) whole = (whole.0, by_pieces ps whole.1)

pub pieces-apart : (c : Configuration) (commands : ℕ) (p : Parts) (trail : Trail) (place : ℕ) (claim : OpenClaim) → StandFor c commands p trail
    → claim_at (world_of c trail).claims place ≡ Some claim → any_overlap (regions_of (effect_of_claim c claim).pieces) ≡ false
pieces-apart c commands p trail place claim stand found =
    let w : World = world_of c trail in
    let finds : FindsItself c w.state claim = found-each (FindsItself c w.state) _ w.claims claim (sound-world c commands trail stand.lawful).own found in
    ap any_overlap (written-regions c claim.execution (carried claim.pieces) claim.request.command)
    ∙ (ap (λ (x : Execution). any_overlap (writes_of c x.ranges claim.request.command)) (sym finds.execution)
    ∙ (ap any_overlap (sym (same-taken c p w claim.request.command stand.ties)) ∙ taken-apart c commands p trail claim.request.command stand))

-- a byte of a region is in no region that shares none with it
outside-others : (r : Region) (rs : List Region) (s : SpaceId) (k : ℕ) → meets_any rs r ≡ false → has_byte r s k ≡ true → any_has_byte rs s k ≡ false
outside-others r rs s k e mine = by_test (any_has_byte rs s k) refl
  where
    by_test : (b : Bool) → any_has_byte rs s k ≡ b → any_has_byte rs s k ≡ false
    by_test true h = absurd (unmet rs r s k e (has_byte-in r s k mine) (some-has_byte rs s k h))
    by_test false h = h

pub filled-all : (pieces : List RegionBytes) (known : Known) (s : SpaceId) (k : ℕ) → any_overlap (regions_of pieces) ≡ false
    → filled_by_all pieces known s k ≡ (if any_has_byte (regions_of pieces) s k then Some (carried pieces s k) else known s k)
filled-all [] known s k apart = refl
filled-all (piece ∷ pieces) known s k apart =
    let both = either-false (meets_any (regions_of pieces) piece.region) (any_overlap (regions_of pieces)) apart in
    filled-all pieces (filled_by piece known) s k both.1
    ∙ by_tests (has_byte piece.region s k) (any_has_byte (regions_of pieces) s k) refl refl both.0
  where
    by_tests : (mine others : Bool) → has_byte piece.region s k ≡ mine → any_has_byte (regions_of pieces) s k ≡ others → meets_any (regions_of pieces) piece.region ≡ false
        → (if others then Some (carried pieces s k) else (if mine then Some (slice_index piece.bytes (k - piece.region.start)) else known s k))
        ≡ (if mine || others then Some (if mine then slice_index piece.bytes (k - piece.region.start) else carried pieces s k) else known s k)
    by_tests true true e f none = absurd (true≢false (sym f ∙ outside-others piece.region (regions_of pieces) s k none e))
    by_tests true false e f none = refl
    by_tests false true e f none = refl
    by_tests false false e f none = refl
