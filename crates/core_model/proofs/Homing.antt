-- Which bytes are at home after a finish: those that the claim may write, with what it wrote, and those that were before.
use Rattle.std.proofs.Common.{◌≡◌, ℕ, ◌-◌, ◌<◌, ◌≤◌, ◌==◌, Bool, true, false, not, ◌&&◌, ◌||◌, cond, List, [], ◌∷◌, length, slice_index, Option, Some, None, refl, sym, ap, subst, ◌∙◌, inl, inr, ◌⊎◌, ⊎_elim, arith, if◌then◌else◌, slice_get}
use Rattle.std.specs.List.{AllByRecursion, list_any}
use Rattle.std.proofs.lemmas.Bool.{cases_lt, true≢false}
use Rattle.std.proofs.lemmas.Option.{slice_get-get_or, slice_get_past}
use Rattle.cp_base.specs.Configuration.{Configuration}
use Rattle.cp_base.specs.Contents.{Contents, bytes_of}
use Rattle.cp_base.specs.Region.{Region}
use Rattle.cp_base.specs.Runs.{runs_of}
use Rattle.cp_base.specs.Sharing.{IsIn, same_region, same_space}
use Rattle.cp_base.specs.declared.commands.Command.{Command}
use Rattle.cp_base.specs.declared.commands.Command.TheVariants as command
use Rattle.cp_base.specs.declared.lists.MemRange.{MemRange}
use Rattle.cp_base.specs.declared.region.SpaceId.{SpaceId}
use Rattle.bpf_model.specs.Memory.{Memory}
use Rattle.bpf_model.proofs.Writing.{bytes_from-at}
use Rattle.device_model.specs.Execution.{outcome_on}
use Rattle.device_model.specs.State.{State}
use Rattle.trail_model.specs.Claims.{DoNotMeet, FindsItself}
use Rattle.trail_model.specs.Each.{EachTwo}
use Rattle.trail_model.specs.Fits.{StateFits}
use Rattle.trail_model.specs.Footprints.{Execution, execution_of, writable_ranges, writes_of}
use Rattle.trail_model.specs.LocalEffects.{LocalEffect, local_effect, memory_among, put_back, ranges_with, written}
use Rattle.trail_model.specs.Pieces.{AllBytes, RegionBytes, all_bytes, any_has_byte, carried, put_pieces}
use Rattle.trail_model.specs.World.{OpenClaim, brought_home, claim_at, claimed_footprint, effect_of_claim, is_out, without_claim}
use Rattle.trail_model.proofs.Bytes.{AreInContents}
use Rattle.trail_model.proofs.Carrying.{local-written, written-regions, written-whole}
use Rattle.trail_model.proofs.Passing.{lies-inside}
use Rattle.trail_model.proofs.Putting.{AreFrom, AreWhole, only_memory, put_pieces-inside, put_pieces-length, regions_of}
use Rattle.trail_model.proofs.Regions.{AreClear, IsInSome, clear, clear-swap, has_byte-some, in-cases, in-has_byte, in-runs, out-has_byte, runs-in, same_space-true, some-has_byte}
use Rattle.trail_model.proofs.Sound.{home-length, home-outside}
use Rattle.trail_model.proofs.Submits.{each-weaker, eqb-same, none-some, some-same, without-related}
use Rattle.core_model.specs.Ties.{is_lent, is_one_of}

-- ---- lists of bytes

pub slice-same : (xs ys : List ℕ) (k : ℕ) → length xs ≡ length ys → slice_index xs k ≡ slice_index ys k → slice_get xs k ≡ slice_get ys k
slice-same xs ys k same e = ⊎_elim {C = slice_get xs k ≡ slice_get ys k}
    (λ (less : k < length xs). slice_get-get_or xs k 0 less ∙ (ap (λ (b : ℕ). Some b) e ∙ sym (slice_get-get_or ys k 0 (omega arith))))
    (λ (over : length xs ≤ k). slice_get_past xs k over ∙ sym (slice_get_past ys k (omega arith)))
    (cases_lt k (length xs))

-- a byte in regions that lie inside is there
inside-below : (contents : Contents) (rs : List Region) (s : SpaceId) (k : ℕ) → AreInContents contents rs → IsInSome rs s k → k < length (bytes_of contents s)
inside-below contents [] s k inside there = absurd there
inside-below contents (r ∷ rs) s k inside (inl (same, low, high)) =
    subst (λ (t : SpaceId). k < length (bytes_of contents t)) same (let e = inside.0 in omega arith)
inside-below contents (r ∷ rs) s k inside (inr there) = inside-below contents rs s k inside.1 there

pub any-runs : (rs : List Region) (s : SpaceId) (k : ℕ) → any_has_byte (runs_of rs) s k ≡ any_has_byte rs s k
any-runs rs s k = by_tests (any_has_byte (runs_of rs) s k) (any_has_byte rs s k) refl refl
  where
    by_tests : (b b' : Bool) → any_has_byte (runs_of rs) s k ≡ b → any_has_byte rs s k ≡ b' → b ≡ b'
    by_tests true true e e' = refl
    by_tests false false e e' = refl
    by_tests true false e e' = sym (has_byte-some rs s k (runs-in rs s k (some-has_byte (runs_of rs) s k e))) ∙ e'
    by_tests false true e e' = sym (sym (has_byte-some (runs_of rs) s k (in-runs rs s k (some-has_byte rs s k e'))) ∙ e)

-- ---- what pieces carry

carried-from : (all : AllBytes) (ps : List RegionBytes) (s : SpaceId) (k : ℕ) → AreFrom all ps → IsInSome (regions_of ps) s k → carried ps s k ≡ all s k
carried-from all [] s k from there = absurd there
carried-from all (p ∷ ps) s k from there = by_first (in-cases p.region s k) (carried-from all ps s k from.1)
  where
    by_first : IsIn p.region s k ⊎ (IsIn p.region s k → ⊥) → (IsInSome (regions_of ps) s k → carried ps s k ≡ all s k) → carried (p ∷ ps) s k ≡ all s k
    by_first (inl inside) rest =
        ap (λ (b : Bool). if b then slice_index p.bytes (k - p.region.start) else carried ps s k) (in-has_byte p.region s k inside)
        ∙ subst (λ (t : SpaceId). slice_index p.bytes (k - p.region.start) ≡ all t k) inside.0 (from.0 k inside.1 inside.2)
    by_first (inr out) rest =
        ap (λ (b : Bool). if b then slice_index p.bytes (k - p.region.start) else carried ps s k) (out-has_byte p.region s k out)
        ∙ rest (⊎_elim {C = IsInSome (regions_of ps) s k} (λ (x : IsIn p.region s k). absurd (out x)) (λ (x : IsInSome (regions_of ps) s k). x) there)

ranges-from : (memory : Memory) (ranges : List MemRange) → AreFrom (only_memory memory) (ranges_with memory ranges)
ranges-from memory [] = tt
ranges-from memory (r ∷ ranges) = (
  (λ k low high. bytes_from-at memory r.ns r.at r.len (k - r.at) (omega arith) ∙ ap (λ (i : ℕ). memory r.ns i) (omega arith)),
  ranges-from memory ranges,
)

-- bytes that are these from a place on
abbrev from_place : ℕ → List ℕ → AllBytes
from_place start bytes s k = slice_index bytes (k - start)

abbrev Sourced : List RegionBytes → Type 0
Sourced ps = (all : AllBytes) × AreFrom all ps

one-piece : (p : RegionBytes) → Sourced (p ∷ [])
one-piece p = (from_place p.region.start p.bytes, ((λ k low high. refl), tt))

-- the pieces that a command writes have their bytes of one source
written-sourced : (c : Configuration) (x : Execution) (all : AllBytes) (cmd : Command) → Sourced (written c x all cmd).pieces
written-sourced c x all (command.NvmWrite ns lba bytes) = one-piece _
written-sourced c x all (command.NvmZeroes ns lba count) = one-piece _
written-sourced c x all (command.NvmCopy ns lba from) = one-piece _
written-sourced c x all (command.MemWrite ns at bytes) = one-piece _
written-sourced c x all (command.MemFill ns at len value) = one-piece _
written-sourced c x all (command.MemCopy ns at from) = one-piece _
written-sourced c x all (command.Execute slot set p1 p2 budget) =
    let memory : Memory = (outcome_on x.runs x.ranges (memory_among all) p1 p2 budget).memory in
    (only_memory memory, ranges-from memory (writable_ranges x.ranges))
written-sourced c x all cmd = (all, tt)

-- ---- bytes that are out

none-out : (c : Configuration) (claim : OpenClaim) (claims : List OpenClaim) (s : SpaceId) (k : ℕ)
    → AllByRecursion (λ (other : OpenClaim). AreClear (claimed_footprint c claim) (claimed_footprint c other)) claims
    → IsInSome (claimed_footprint c claim).writes s k → is_out c claims s k ≡ false
none-out c claim [] s k all mine = refl
none-out c claim (x ∷ claims) s k all mine = by_test (any_has_byte (claimed_footprint c x).writes s k) refl ∙ none-out c claim claims s k all.1 mine
  where
    by_test : (b : Bool) → any_has_byte (claimed_footprint c x).writes s k ≡ b → (any_has_byte (claimed_footprint c x).writes s k || is_out c claims s k) ≡ is_out c claims s k
    by_test true e = absurd (all.0.first s k mine (inl (some-has_byte (claimed_footprint c x).writes s k e)))
    by_test false e = ap (λ (b : Bool). b || is_out c claims s k) e

without-any : (test : OpenClaim → Bool) (place : ℕ) (claims : List OpenClaim) (claim : OpenClaim) → claim_at claims place ≡ Some claim → test claim ≡ false
    → list_any test claims ≡ list_any test (without_claim place claims)
without-any test place [] claim found misses = absurd (none-some claim found)
without-any test place (x ∷ claims) claim found misses = by_test (x.place == place) found (λ e. without-any test place claims claim e misses)
  where
    by_test : (b : Bool) → cond b (Some x) (claim_at claims place) ≡ Some claim
        → (claim_at claims place ≡ Some claim → list_any test claims ≡ list_any test (without_claim place claims))
        → (test x || list_any test claims) ≡ list_any test (if b then claims else x ∷ without_claim place claims)
    by_test true found later = ap (λ (b : Bool). b || list_any test claims) (subst (λ (y : OpenClaim). test y ≡ false) (sym (some-same x claim found)) misses)
    by_test false found later = ap (λ (b : Bool). test x || b) (later found)

-- claims that are clear of each other, in both orders
pub clear-both : (c : Configuration) (claims : List OpenClaim) → EachTwo (DoNotMeet c) claims
    → EachTwo (λ (a b : OpenClaim). AreClear (claimed_footprint c a) (claimed_footprint c b)) claims
clear-both c [] all = tt
clear-both c (x ∷ claims) all = (
  each-weaker (DoNotMeet c x) (λ (y : OpenClaim). AreClear (claimed_footprint c x) (claimed_footprint c y))
      (λ y none. clear-swap (claimed_footprint c y) (claimed_footprint c x) (clear (claimed_footprint c y) (claimed_footprint c x) none)) claims all.0,
  clear-both c claims all.1,
)

-- ---- the bytes at home after a finish

module _ (c : Configuration) (state : State) (claims : List OpenClaim) (claim : OpenClaim) (fits : StateFits c state) (finds : FindsItself c state claim)
    (apart : EachTwo (DoNotMeet c) claims) (found : claim_at claims claim.place ≡ Some claim) where
  -- what the claim comes to is what its command writes in the state
  abbrev wrote : LocalEffect
  wrote = written c (execution_of state claim.request.command) (all_bytes state.contents) claim.request.command

  wrote-it : effect_of_claim c claim ≡ wrote
  wrote-it =
      sym (ap (λ (x : Execution). local_effect c x claim.pieces claim.request.command) finds.execution)
      ∙ (sym (ap (λ (ps : List RegionBytes). local_effect c (execution_of state claim.request.command) ps claim.request.command) finds.pieces)
      ∙ local-written c state claim.request.command fits finds.passes)

  wrote-inside : AreInContents state.contents (regions_of wrote.pieces)
  wrote-inside = subst (λ (rs : List Region). AreInContents state.contents rs)
      (sym (written-regions c (execution_of state claim.request.command) (all_bytes state.contents) claim.request.command))
      (lies-inside c state claim.request.command fits finds.passes).writes

  -- it covers what the claim may write
  wrote-covers : (s : SpaceId) (k : ℕ) → any_has_byte (regions_of wrote.pieces) s k ≡ any_has_byte (claimed_footprint c claim).writes s k
  wrote-covers s k =
      ap (λ (rs : List Region). any_has_byte rs s k) (written-regions c (execution_of state claim.request.command) (all_bytes state.contents) claim.request.command)
      ∙ (ap (λ (x : Execution). any_has_byte (writes_of c x.ranges claim.request.command) s k) finds.execution
      ∙ sym (any-runs (writes_of c claim.execution.ranges claim.request.command) s k))

  -- a byte that it covers is there, as the pieces carry it
  wrote-there : (s : SpaceId) (k : ℕ) → IsInSome (regions_of wrote.pieces) s k
      → slice_get (bytes_of (put_pieces state.contents wrote.pieces) s) k ≡ Some (carried wrote.pieces s k)
  wrote-there s k there =
      let whole : AreWhole wrote.pieces = written-whole c (execution_of state claim.request.command) (all_bytes state.contents) claim.request.command in
      let source = written-sourced c (execution_of state claim.request.command) (all_bytes state.contents) claim.request.command in
      let below = inside-below state.contents (regions_of wrote.pieces) s k wrote-inside there in
      let same = put_pieces-length state.contents wrote.pieces whole wrote-inside s in
      slice_get-get_or (bytes_of (put_pieces state.contents wrote.pieces) s) k 0 (omega arith)
      ∙ ap (λ (b : ℕ). Some b)
      (put_pieces-inside state.contents source.0 wrote.pieces whole source.1 wrote-inside s k there ∙ sym (carried-from source.0 wrote.pieces s k source.1 there))

  pub home-again : (s : SpaceId) (k : ℕ)
      → (if any_has_byte (regions_of (effect_of_claim c claim).pieces) s k then Some (carried (effect_of_claim c claim).pieces s k)
      else (if is_out c claims s k then None else slice_get (bytes_of state.contents s) k))
      ≡ (if is_out c (without_claim claim.place claims) s k then None else slice_get (bytes_of (brought_home c state claim).contents s) k)
  home-again s k =
      subst (λ (e : LocalEffect). (if any_has_byte (regions_of e.pieces) s k then Some (carried e.pieces s k)
      else (if is_out c claims s k then None else slice_get (bytes_of state.contents s) k))
      ≡ (if is_out c (without_claim claim.place claims) s k then None else slice_get (bytes_of (put_back state e).next.contents s) k)) (sym wrote-it)
      (by_test (any_has_byte (regions_of wrote.pieces) s k) refl)
    where
      by_test : (b : Bool) → any_has_byte (regions_of wrote.pieces) s k ≡ b
          → (if b then Some (carried wrote.pieces s k) else (if is_out c claims s k then None else slice_get (bytes_of state.contents s) k))
          ≡ (if is_out c (without_claim claim.place claims) s k then None else slice_get (bytes_of (put_back state wrote).next.contents s) k)
      by_test true e =
          let mine : IsInSome (claimed_footprint c claim).writes s k =
          some-has_byte (claimed_footprint c claim).writes s k (sym (wrote-covers s k) ∙ e) in
          let clear_of_it = without-related (λ (a b : OpenClaim). AreClear (claimed_footprint c a) (claimed_footprint c b))
          (λ a b h. clear-swap (claimed_footprint c a) (claimed_footprint c b) h) claim.place claims claim (clear-both c claims apart) found in
          sym (ap (λ (b : Bool). if b then None else slice_get (bytes_of (put_back state wrote).next.contents s) k)
          (none-out c claim (without_claim claim.place claims) s k clear_of_it mine)
          ∙ wrote-there s k (some-has_byte (regions_of wrote.pieces) s k e))
      by_test false e =
          let misses : any_has_byte (claimed_footprint c claim).writes s k ≡ false = sym (wrote-covers s k) ∙ e in
          let outside : all_bytes (brought_home c state claim).contents s k ≡ all_bytes state.contents s k =
          home-outside c state claim fits finds s k (λ inside. true≢false (sym (has_byte-some (claimed_footprint c claim).writes s k inside) ∙ misses)) in
          let bytes : slice_get (bytes_of state.contents s) k ≡ slice_get (bytes_of (put_back state wrote).next.contents s) k =
          slice-same (bytes_of state.contents s) (bytes_of (brought_home c state claim).contents s) k (sym (home-length c state claim fits finds s)) (sym outside)
          ∙ ap (λ (e : LocalEffect). slice_get (bytes_of (put_back state e).next.contents s) k) wrote-it in
          ap (λ (b : Bool). if b then None else slice_get (bytes_of state.contents s) k)
          (without-any (λ (x : OpenClaim). any_has_byte (claimed_footprint c x).writes s k) claim.place claims claim found misses)
          ∙ ap (λ (o : Option ℕ). if is_out c (without_claim claim.place claims) s k then None else o) bytes

-- ---- the regions that are out after a finish

one-of-in : (rs : List Region) (r : Region) → 0 < r.len → is_one_of rs r ≡ true → IsInSome rs r.space r.start
one-of-in [] r some e = absurd (true≢false (sym e))
one-of-in (x ∷ rs) r some e = by_test (same_region x r) refl e (one-of-in rs r some)
  where
    by_test : (b : Bool) → same_region x r ≡ b → (b || is_one_of rs r) ≡ true → (is_one_of rs r ≡ true → IsInSome rs r.space r.start)
        → IsIn x r.space r.start ⊎ IsInSome rs r.space r.start
    by_test true h e later =
        let p = both-true (same_space x.space r.space) ((x.start == r.start) && (x.len == r.len)) h in
        let q = both-true (x.start == r.start) (x.len == r.len) p.1 in
        let start : x.start ≡ r.start = eqb-same x.start r.start q.0 in
        let len : x.len ≡ r.len = eqb-same x.len r.len q.1 in
        inl (same_space-true x.space r.space p.0, omega arith, omega arith)
      where
        both-true : (a b : Bool) → (a && b) ≡ true → (a ≡ true) × (b ≡ true)
        both-true true b e = (refl, e)
        both-true false b e = absurd (true≢false (sym e))
    by_test false h e later = inr (later e)

none-lent : (c : Configuration) (claim : OpenClaim) (claims : List OpenClaim) (r : Region) → 0 < r.len
    → AllByRecursion (λ (other : OpenClaim). AreClear (claimed_footprint c claim) (claimed_footprint c other)) claims
    → is_one_of (writes_of c claim.execution.ranges claim.request.command) r ≡ true → is_lent c claims r ≡ false
none-lent c claim [] r some all mine = refl
none-lent c claim (x ∷ claims) r some all mine =
    by_test (is_one_of (writes_of c x.execution.ranges x.request.command) r) refl ∙ none-lent c claim claims r some all.1 mine
  where
    by_test : (b : Bool) → is_one_of (writes_of c x.execution.ranges x.request.command) r ≡ b
        → (is_one_of (writes_of c x.execution.ranges x.request.command) r || is_lent c claims r) ≡ is_lent c claims r
    by_test true e = absurd (all.0.first r.space r.start
        (in-runs (writes_of c claim.execution.ranges claim.request.command) r.space r.start (one-of-in (writes_of c claim.execution.ranges claim.request.command) r some mine))
        (inl (in-runs (writes_of c x.execution.ranges x.request.command) r.space r.start (one-of-in (writes_of c x.execution.ranges x.request.command) r some e))))
    by_test false e = ap (λ (b : Bool). b || is_lent c claims r) e

-- what the claim came to lies in the regions that were taken for it
wrote-regions : (c : Configuration) (claim : OpenClaim) → regions_of (effect_of_claim c claim).pieces ≡ writes_of c claim.execution.ranges claim.request.command
wrote-regions c claim = written-regions c claim.execution (carried claim.pieces) claim.request.command

pub back-again : (c : Configuration) (claims : List OpenClaim) (claim : OpenClaim) → EachTwo (DoNotMeet c) claims → claim_at claims claim.place ≡ Some claim → (r : Region) → 0 < r.len
    → (is_lent c claims r && not (is_one_of (regions_of (effect_of_claim c claim).pieces) r)) ≡ is_lent c (without_claim claim.place claims) r
back-again c claims claim apart found r some =
    ap (λ (rs : List Region). is_lent c claims r && not (is_one_of rs r)) (wrote-regions c claim)
    ∙ by_test (is_one_of (writes_of c claim.execution.ranges claim.request.command) r) refl
  where
    and-true : (a : Bool) → (a && true) ≡ a
    and-true true = refl
    and-true false = refl

    and-false : (a : Bool) → (a && false) ≡ false
    and-false true = refl
    and-false false = refl

    by_test : (b : Bool) → is_one_of (writes_of c claim.execution.ranges claim.request.command) r ≡ b → (is_lent c claims r && not b) ≡ is_lent c (without_claim claim.place claims) r
    by_test true e =
        and-false (is_lent c claims r)
        ∙ sym (none-lent c claim (without_claim claim.place claims) r some
        (without-related (λ (a b : OpenClaim). AreClear (claimed_footprint c a) (claimed_footprint c b))
        (λ a b h. clear-swap (claimed_footprint c a) (claimed_footprint c b) h) claim.place claims claim (clear-both c claims apart) found) e)
    by_test false e =
        and-true (is_lent c claims r)
        ∙ without-any (λ (x : OpenClaim). is_one_of (writes_of c x.execution.ranges x.request.command) r) claim.place claims claim found e
