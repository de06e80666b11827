-- The bytes that a claim carries away are at home, and are those of the state.
use Rattle.std.proofs.Common.{◌≡◌, ℕ, ◌+◌, ◌<◌, ◌≤◌, Bool, true, false, ◌||◌, List, [], ◌∷◌, length, slice_index, Some, None, is_some, refl, sym, ap, subst, ◌∙◌, inl, inr, arith, if◌then◌else◌, slice_get}
use Rattle.std.specs.Prelude.{IsSome}
use Rattle.std.specs.List.{AllByRecursion, list_any}
use Rattle.std.proofs.lemmas.Bool.{true≢false}
use Rattle.std.proofs.lemmas.List.{ext_get_or}
use Rattle.std.proofs.lemmas.Option.{slice_get-get_or}
use Rattle.cp_base.specs.Configuration.{Configuration}
use Rattle.cp_base.specs.Contents.{Contents, bytes_in, bytes_of}
use Rattle.cp_base.specs.Region.{Region}
use Rattle.cp_base.specs.Touching.{meets}
use Rattle.cp_base.specs.declared.commands.Command.{Command}
use Rattle.cp_base.specs.declared.region.SpaceId.{SpaceId}
use Rattle.cp_base.specs.declared.spans.Footprint.{Footprint}
use Rattle.device_model.specs.Checks.{refusal_of}
use Rattle.device_model.specs.State.{State}
use Rattle.trail_model.specs.Footprints.{Execution, carried_regions, cut_for, execution_of, footprint_of}
use Rattle.trail_model.specs.Lawful.{Trail, world_of}
use Rattle.trail_model.specs.Pieces.{all_bytes, any_has_byte, pieces_of}
use Rattle.trail_model.specs.World.{OpenClaim, World, claimed_footprint, is_out}
use Rattle.trail_model.proofs.Bytes.{AreInContents, bytes_in-gathered, gathered-at}
use Rattle.trail_model.proofs.Carrying.{carried-inside, carried-touched}
use Rattle.trail_model.proofs.Passing.{lies-inside}
use Rattle.trail_model.proofs.Putting.{length-cut}
use Rattle.trail_model.proofs.Regions.{IsInSome, Touches, clear, some-has_byte}
use Rattle.trail_model.proofs.Sound.{not-true, sound-world}
use Rattle.trail_model.proofs.Submits.{some-same}
use Rattle.core_model.specs.Parts.{Parts, tables_in}
use Rattle.core_model.specs.Picking.{AreAtHome, carried_for, is_clear_of, touched_by}
use Rattle.core_model.specs.Ties.{AreTied, StandFor}
use Rattle.core_model.proofs.Choosing.{clear-in, refusal-in, same-tables}
use Rattle.core_model.proofs.Tabling.{same-execution}

-- what meets no open claim is not out
untouched-out : (c : Configuration) (touched : Footprint) (claims : List OpenClaim) (s : SpaceId) (k : ℕ)
    → list_any (λ (claim : OpenClaim). meets touched (claimed_footprint c claim)) claims ≡ false → Touches touched s k → is_out c claims s k ≡ false
untouched-out c touched [] s k free there = refl
untouched-out c touched (x ∷ claims) s k free there = by_tests (meets touched (claimed_footprint c x)) (any_has_byte (claimed_footprint c x).writes s k) refl refl free
    (λ later. untouched-out c touched claims s k later there)
  where
    by_tests : (m out : Bool) → meets touched (claimed_footprint c x) ≡ m → any_has_byte (claimed_footprint c x).writes s k ≡ out
        → (m || list_any (λ (claim : OpenClaim). meets touched (claimed_footprint c claim)) claims) ≡ false
        → (list_any (λ (claim : OpenClaim). meets touched (claimed_footprint c claim)) claims ≡ false → is_out c claims s k ≡ false)
        → (out || is_out c claims s k) ≡ false
    by_tests true out e f h later = absurd (true≢false h)
    by_tests false true e f h later =
        absurd ((clear touched (claimed_footprint c x) e).second s k (some-has_byte (claimed_footprint c x).writes s k f) there)
    by_tests false false e f h later = later h

module _ (c : Configuration) (p : Parts) (w : World) (t : AreTied c p w) where
  -- a byte that is not out is at home, and is that of the state
  store-there : (s : SpaceId) (k : ℕ) → is_out c w.claims s k ≡ false → p.store s k ≡ slice_get (bytes_of w.state.contents s) k
  store-there s k home = t.store s k ∙ ap (λ (b : Bool). if b then None else slice_get (bytes_of w.state.contents s) k) home

  region-home : (r : Region) → r.start + r.len ≤ length (bytes_of w.state.contents r.space) → ((k : ℕ) → r.start ≤ k → k < r.start + r.len → is_out c w.claims r.space k ≡ false)
      → AreAtHome p w.state.contents r
  region-home r fits home = record {
    len = length-cut w.state.contents r fits;
    there = λ s k inside. subst (λ (z : SpaceId). IsSome (p.store z k)) inside.0
        (ap is_some (store-there r.space k (home k inside.1 inside.2) ∙ slice_get-get_or (bytes_of w.state.contents r.space) k 0 (let high = inside.2 in omega arith)));
    bytes = λ k less.
        (let len = length-cut w.state.contents r fits in
        slice_get-get_or (bytes_in w.state.contents r) k 0 (omega arith)
        ∙ (ap (λ (b : ℕ). Some b) (ap (λ (xs : List ℕ). slice_index xs k) (bytes_in-gathered w.state.contents r fits)
        ∙ gathered-at (all_bytes w.state.contents) r.space r.start r.len k less)
        ∙ sym (store-there r.space (r.start + k) (home (r.start + k) (omega arith) (omega arith))
        ∙ slice_get-get_or (bytes_of w.state.contents r.space) (r.start + k) 0 (omega arith))));
  }

  at-home : (rs : List Region) → AreInContents w.state.contents rs → ((s : SpaceId) (k : ℕ) → IsInSome rs s k → is_out c w.claims s k ≡ false)
      → AllByRecursion (AreAtHome p w.state.contents) rs
  at-home [] inside home = tt
  at-home (r ∷ rs) inside home = (
    region-home r inside.0 (λ k low high. home r.space k (inl (refl, low, high))),
    at-home rs inside.1 (λ s k there. home s k (inr there)),
  )

same-carried : (c : Configuration) (p : Parts) (w : World) (cmd : Command) → AreTied c p w
    → carried_for c p cmd ≡ carried_regions c (execution_of w.state cmd).ranges cmd
same-carried c p w cmd t =
    ap (λ (s : State). carried_regions c (execution_of s cmd).ranges cmd) (same-tables c p w t)
    ∙ sym (ap (λ (x : Execution). carried_regions c x.ranges cmd) (same-execution w.state cmd))

pub claim-home : (c : Configuration) (commands : ℕ) (p : Parts) (trail : Trail) (cmd : Command) → StandFor c commands p trail
    → refusal_of c (tables_in p) cmd ≡ None → is_clear_of p.kept (touched_by c p cmd) ≡ true
    → AllByRecursion (AreAtHome p (world_of c trail).state.contents) (carried_for c p cmd)
claim-home c commands p trail cmd stand passes free =
    let w : World = world_of c trail in
    let t = stand.ties in
    let ranges = (execution_of w.state cmd).ranges in
    let there = lies-inside c w.state cmd (sound-world c commands trail stand.lawful).fits (sym (refusal-in c p w cmd t) ∙ passes) in
    let none : list_any (λ (claim : OpenClaim). meets (footprint_of c ranges cmd) (claimed_footprint c claim)) w.claims ≡ false =
    not-true (list_any (λ (claim : OpenClaim). meets (footprint_of c ranges cmd) (claimed_footprint c claim)) w.claims) (sym (clear-in c p w cmd t) ∙ free) in
    subst (λ (rs : List Region). AllByRecursion (AreAtHome p w.state.contents) rs) (sym (same-carried c p w cmd t))
    (at-home c p w t (carried_regions c ranges cmd) (carried-inside c w.state.contents ranges cmd there.reads there.writes)
    (λ s k inside. untouched-out c (footprint_of c ranges cmd) w.claims s k none (carried-touched c ranges cmd s k inside)))

pub same-bytes : (p : Parts) (contents : Contents) (r : Region) (bytes : List ℕ) → AreAtHome p contents r → length bytes ≡ r.len
    → ((k : ℕ) → k < r.len → slice_get bytes k ≡ p.store r.space (r.start + k)) → bytes ≡ bytes_in contents r
same-bytes p contents r bytes home len same =
    let longest = home.len in
    ext_get_or 0 bytes (bytes_in contents r) (len ∙ sym home.len)
    (λ k less. (let within : k < r.len = omega arith in
    some-same (slice_index bytes k) (slice_index (bytes_in contents r) k)
    (sym (slice_get-get_or bytes k 0 less) ∙ (same k within ∙ (sym (home.bytes k within) ∙ slice_get-get_or (bytes_in contents r) k 0 (omega arith))))))

pub cut-same : (c : Configuration) (commands : ℕ) (p : Parts) (trail : Trail) (cmd : Command) → StandFor c commands p trail
    → cut_for c (world_of c trail).state cmd ≡ pieces_of (world_of c trail).state.contents (carried_for c p cmd)
cut-same c commands p trail cmd stand =
    ap (λ (rs : List Region). pieces_of (world_of c trail).state.contents rs) (sym (same-carried c p (world_of c trail) cmd stand.ties))
