-- A claim that is over: its pieces come home one after the other, and the parts move as at its finish.
use Rattle.std.proofs.Common.{◌≡◌, ℕ, zero, suc, ◌+◌, ◌-◌, ◌<◌, ◌≤◌, ◌==◌, Bool, true, false, not, ◌&&◌, ◌||◌, cond, List, [], ◌∷◌, ◌++◌, filter, find, map, length, Option, Some, None, option_map, slice_get, slice_index, refl, sym, ap, subst, ◌∙◌, inl, arith, if◌then◌else◌}
use Rattle.std.specs.Prelude.{IsSomeAnd}
use Rattle.std.specs.List.{AllByRecursion}
use Rattle.std.specs.Vec.{vec_capacity, vec_len}
use Rattle.std.proofs.lemmas.Bool.{true≢false}
use Rattle.std.proofs.lemmas.Option.{slice_get-get_or}
use Rattle.cp_base.specs.Answer.{Answer, answer_of}
use Rattle.cp_base.specs.Configuration.{Configuration}
use Rattle.cp_base.specs.Known.{Known}
use Rattle.cp_base.specs.Region.{Region}
use Rattle.cp_base.specs.Sharing.{any_overlap, meets_any, same_region, shares_byte}
use Rattle.cp_base.specs.declared.limits.TheConstants.{MAX_HOSTS}
use Rattle.cp_base.specs.declared.region.SpaceId.{SpaceId}
use Rattle.cp_base.specs.declared.replies.Piece.{Piece}
use Rattle.cp_base.specs.declared.spans.Footprint.{Footprint}
use Rattle.extents.specs.Homes.{Homes, IsBroughtBack, is_hole, known_at}
use Rattle.queue_pairs.specs.Outstanding.{CidsDiffer, QueuePair, under}
use Rattle.queue_pairs.specs.Places.{PlacesDiffer}
use Rattle.queue_pairs.specs.declared.command.Outstanding.{Outstanding}
use Rattle.queue_pairs.specs.declared.command.Stage.TheVariants.{Picked}
use Rattle.range_claims.specs.Kept.{footprint_under, is_kept, without_key}
use Rattle.range_claims.specs.declared.claims.Claim.{Claim}
use Rattle.trail_model.specs.Lawful.{IsAllowedIn, MayFinish, Trail, world_of}
use Rattle.trail_model.specs.Linked.{ClaimLinked}
use Rattle.trail_model.specs.Pieces.{RegionBytes, any_has_byte, carried, has_byte}
use Rattle.trail_model.specs.World.{OpenClaim, claim_at, claimed_footprint, effect_of_claim}
use Rattle.trail_model.specs.declared.events.Event.TheVariants as event
use Rattle.trail_model.proofs.Moving.{linked-world}
use Rattle.trail_model.proofs.Regions.{has_byte-in, in-has_byte, out-has_byte, unmet}
use Rattle.trail_model.proofs.Sound.{some-and}
use Rattle.trail_model.proofs.Submits.{claim-place, found-each, none-some, some-same}
use Rattle.core_model.specs.Asked.{asked_at, asked_by_request}
use Rattle.core_model.specs.Moves.{FinishMoves, filled_by, filled_by_all, without_kept}
use Rattle.core_model.specs.Parts.{KeptFootprint, Parts}
use Rattle.core_model.specs.declared.places.ClaimPlaces.{ClaimPlaces}
use Rattle.core_model.specs.Ties.{StandFor, as_kept, as_places, is_one_of}
use Rattle.core_model.proofs.Apart.{filled-all, pieces-apart, pieces-out, pieces-whole}
use Rattle.core_model.proofs.Choosing.{kept-in, places-in}
use Rattle.core_model.proofs.Finishing.{finish-stands}
use Rattle.core_model.proofs.Numbers.{all-submits, asked-host}
use Rattle.core_model.proofs.Queueing.{claimed-under, places-differ}
use Rattle.core_model.proofs.Reading.{asked-found}
use Rattle.core_model.proofs.Steps.{find-map}
use Rattle.job_run.specs.Works.{region_bytes}
use Rattle.job_run.specs.declared.work.Worked.{Worked}
use Rattle.job_run.proofs.Holding.{same_region-true}
use Rattle.device_core.specs.Gives.{HasWorked}
use Rattle.device_core.specs.Homecoming.{BringsHome, CameHome, CanComeHome, IsOut, goes_home, has_bytes, homebound, places_of, writes_in, writes_under}
use Rattle.device_core.specs.Keep.{Holds, IsQueue, as_kept_footprint, commands_in, parts_of, queue_of}
use Rattle.device_core.specs.Recorded.{Recorded, trail_of}
use Rattle.device_core.specs.declared.events.Event.{Event as KeptEvent}
use Rattle.device_core.specs.declared.keep.Keep.{Keep}
use Rattle.device_core.proofs.Homecoming.{claim-comes-home, either_false, no-len, some-len}

-- ---- pieces come home one after the other

filled-same : (ps : List RegionBytes) (f g : Known) → ((s : SpaceId) (k : ℕ) → f s k ≡ g s k) → (s : SpaceId) (k : ℕ) → filled_by_all ps f s k ≡ filled_by_all ps g s k
filled-same [] f g same s k = same s k
filled-same (p ∷ ps) f g same s k =
    filled-same ps (filled_by p f) (filled_by p g)
    (λ t n. ap (λ (o : Option ℕ). if has_byte p.region t n then Some (slice_index p.bytes (n - p.region.start)) else o) (same t n)) s k

filled-put : (old new : Homes) (p : RegionBytes) → IsBroughtBack old new p.region p.bytes → length p.bytes ≡ p.region.len
    → (s : SpaceId) (k : ℕ) → known_at new s k ≡ filled_by p (λ t n. known_at old t n) s k
filled-put old new p back whole s k = by_test (has_byte p.region s k) refl
  where
    by_test : (b : Bool) → has_byte p.region s k ≡ b → known_at new s k ≡ (if b then Some (slice_index p.bytes (k - p.region.start)) else known_at old s k)
    by_test true e =
        let inside = has_byte-in p.region s k e in
        let low = inside.1 in
        let high = inside.2 in
        let at : k ≡ p.region.start + (k - p.region.start) = omega arith in
        subst (λ (t : SpaceId). known_at new t k ≡ Some (slice_index p.bytes (k - p.region.start))) inside.0
        (ap (λ (n : ℕ). known_at new p.region.space n) at ∙ (back.back (k - p.region.start) (omega arith) ∙ slice_get-get_or p.bytes (k - p.region.start) 0 (omega arith)))
    by_test false e = back.elsewhere s k (λ inside. true≢false (sym (in-has_byte p.region s k inside) ∙ e))

-- what is to be done of all so that the same comes of it
pub record Homing (start now : Homes) (all rest : List RegionBytes) : Type 0 where
  pub can : CanComeHome now rest
  pub bytes : (s : SpaceId) (k : ℕ) → filled_by_all rest (λ t n. known_at now t n) s k ≡ filled_by_all all (λ t n. known_at start t n) s k
  pub out : (region : Region) → (is_hole now region && not (is_one_of (places_of rest) region)) ≡ (is_hole start region && not (is_one_of (places_of all) region))

other-region : (a b : Region) → 0 < b.len → shares_byte a b ≡ false → same_region a b ≡ false
other-region a b some apart = by_test (same_region a b) refl
  where
    by_test : (t : Bool) → same_region a b ≡ t → same_region a b ≡ false
    by_test true e =
        let same : a ≡ b = same_region-true a b e in
        absurd (unmet (b ∷ []) a b.space b.start (ap (λ (t : Bool). t || false) apart)
        (has_byte-in a b.space b.start (ap (λ (r : Region). has_byte r b.space b.start) same ∙ in-has_byte b b.space b.start (refl, omega arith, omega arith)))
        (inl (refl, omega arith, omega arith)))
    by_test false e = e

rest-out : (old new : Homes) (p : RegionBytes) (rest : List RegionBytes) → IsBroughtBack old new p.region p.bytes → meets_any (places_of rest) p.region ≡ false
    → AllByRecursion (IsOut old) rest → AllByRecursion (IsOut new) rest
rest-out old new p [] back none out = tt
rest-out old new p (q ∷ rest) back none out =
    let both = either_false (shares_byte p.region q.region) (meets_any (places_of rest) p.region) none in (
      record {
        some = out.0.some;
        whole = out.0.whole;
        out = back.holes q.region
            ∙ (ap (λ (b : Bool). b && not (same_region p.region q.region)) out.0.out
            ∙ ap not (other-region p.region q.region out.0.some both.0));
      },
      rest-out old new p rest back both.1 out.1,
    )

step-home : (start now next : Homes) (all rest : List RegionBytes) (p : RegionBytes) → Homing start now all (p ∷ rest) → IsBroughtBack now next p.region p.bytes
    → Homing start next all rest
step-home start now next all rest p h back =
    let both = either_false (meets_any (places_of rest) p.region) (any_overlap (places_of rest)) h.can.apart in
    record {
      can = record { out = rest-out now next p rest back both.0 h.can.out.1; apart = both.1 };
      bytes = λ s k. filled-same rest (λ t n. known_at next t n) (filled_by p (λ t n. known_at now t n)) (filled-put now next p back h.can.out.0.whole) s k ∙ h.bytes s k;
      out = λ region. ap (λ (b : Bool). b && not (is_one_of (places_of rest) region)) (back.holes region)
          ∙ (and-nots (is_hole now region) (same_region p.region region) (is_one_of (places_of rest) region) ∙ h.out region);
    }
  where
    and-nots : (a b d : Bool) → ((a && not b) && not d) ≡ (a && not (b || d))
    and-nots false b d = refl
    and-nots true true d = refl
    and-nots true false d = refl

pub begin-home : (start : Homes) (all : List RegionBytes) → CanComeHome start all → Homing start start all all
begin-home start all can = record { can = can; bytes = λ s k. refl; out = λ region. refl }

pub end-home : (start now : Homes) (all : List RegionBytes) → Homing start now all [] → CameHome start now all
end-home start now all h = record { bytes = h.bytes; out = λ region. sym (and-true (is_hole now region)) ∙ h.out region }
  where
    and-true : (a : Bool) → (a && true) ≡ a
    and-true true = refl
    and-true false = refl

abbrev pub as-bytes : Piece → RegionBytes
as-bytes x = record { region = x.range; bytes = x.bytes.items }

goes : (writes : List Region) (x : Piece) (xs : List Piece) → any_has_byte writes x.range.space x.range.start ≡ true → homebound writes (x ∷ xs) ≡ as-bytes x ∷ homebound writes xs
goes writes x xs e = ap (λ (b : Bool). cond b (as-bytes x ∷ homebound writes xs) (homebound writes xs)) e

pub went : (start now next : Homes) (writes : List Region) (all : List RegionBytes) (x : Piece) (xs : List Piece) → Homing start now all (homebound writes (x ∷ xs))
    → any_has_byte writes x.range.space x.range.start ≡ true → IsBroughtBack now next x.range x.bytes.items → Homing start next all (homebound writes xs)
went start now next writes all x xs h e back =
    step-home start now next all (homebound writes xs) (as-bytes x) (subst (λ (ps : List RegionBytes). Homing start now all ps) (goes writes x xs e) h) back

pub stayed : (start now : Homes) (writes : List Region) (all : List RegionBytes) (x : Piece) (xs : List Piece) → Homing start now all (homebound writes (x ∷ xs))
    → any_has_byte writes x.range.space x.range.start ≡ false → Homing start now all (homebound writes xs)
stayed start now writes all x xs h e =
    subst (λ (ps : List RegionBytes). Homing start now all ps) (ap (λ (b : Bool). cond b (as-bytes x ∷ homebound writes xs) (homebound writes xs)) e) h

pub out-now : (start now : Homes) (writes : List Region) (all : List RegionBytes) (x : Piece) (xs : List Piece) → Homing start now all (homebound writes (x ∷ xs))
    → any_has_byte writes x.range.space x.range.start ≡ true → IsOut now (as-bytes x)
out-now start now writes all x xs h e = (subst (λ (ps : List RegionBytes). Homing start now all ps) (goes writes x xs e) h).can.out.0

-- ---- how the parts move

pub kept-same : (key : ℕ) (kept : List Claim) → map as_kept_footprint (without_key key kept) ≡ without_kept key (map as_kept_footprint kept)
kept-same key [] = refl
kept-same key (x ∷ kept) = by_test (x.key == key) (kept-same key kept)
  where
    by_test : (b : Bool) → map as_kept_footprint (without_key key kept) ≡ without_kept key (map as_kept_footprint kept)
        → map as_kept_footprint (if b then kept else x ∷ without_key key kept) ≡ (if b then map as_kept_footprint kept else as_kept_footprint x ∷ without_kept key (map as_kept_footprint kept))
    by_test true later = refl
    by_test false later = ap (λ (ks : List KeptFootprint). as_kept_footprint x ∷ ks) later

pub stored : (old new : Homes) (pieces : List RegionBytes) → CanComeHome old pieces → CameHome old new pieces → (s : SpaceId) (k : ℕ)
    → known_at new s k ≡ (if any_has_byte (map (λ (piece : RegionBytes). piece.region) pieces) s k then Some (carried pieces s k) else known_at old s k)
stored old new pieces can came s k = came.bytes s k ∙ filled-all pieces (λ t n. known_at old t n) s k can.apart

-- pieces without a byte change nothing
no-byte : (p : RegionBytes) (s : SpaceId) (k : ℕ) → has_bytes p ≡ false → has_byte p.region s k ≡ false
no-byte p s k e = out-has_byte p.region s k (λ inside. (let none = no-len p.region.len e in let low = inside.1 in let high = inside.2 in omega arith))

some-bytes : (ps : List RegionBytes) (s : SpaceId) (k : ℕ) → any_has_byte (places_of (filter has_bytes ps)) s k ≡ any_has_byte (places_of ps) s k
some-bytes [] s k = refl
some-bytes (p ∷ ps) s k = by_test (has_bytes p) refl (some-bytes ps s k)
  where
    by_test : (b : Bool) → has_bytes p ≡ b → any_has_byte (places_of (filter has_bytes ps)) s k ≡ any_has_byte (places_of ps) s k
        → any_has_byte (places_of (cond b (p ∷ filter has_bytes ps) (filter has_bytes ps))) s k ≡ (has_byte p.region s k || any_has_byte (places_of ps) s k)
    by_test true e later = ap (λ (b : Bool). has_byte p.region s k || b) later
    by_test false e later = later ∙ sym (ap (λ (b : Bool). b || any_has_byte (places_of ps) s k) (no-byte p s k e))

some-carried : (ps : List RegionBytes) (s : SpaceId) (k : ℕ) → carried (filter has_bytes ps) s k ≡ carried ps s k
some-carried [] s k = refl
some-carried (p ∷ ps) s k = by_test (has_bytes p) refl (some-carried ps s k)
  where
    by_test : (b : Bool) → has_bytes p ≡ b → carried (filter has_bytes ps) s k ≡ carried ps s k
        → carried (cond b (p ∷ filter has_bytes ps) (filter has_bytes ps)) s k ≡ (if has_byte p.region s k then slice_index p.bytes (k - p.region.start) else carried ps s k)
    by_test true e later = ap (λ (n : ℕ). if has_byte p.region s k then slice_index p.bytes (k - p.region.start) else n) later
    by_test false e later = later ∙ sym (ap (λ (b : Bool). if b then slice_index p.bytes (k - p.region.start) else carried ps s k) (no-byte p s k e))

some-one : (ps : List RegionBytes) (r : Region) → 0 < r.len → is_one_of (places_of (filter has_bytes ps)) r ≡ is_one_of (places_of ps) r
some-one [] r some = refl
some-one (p ∷ ps) r some = by_test (has_bytes p) refl (some-one ps r some)
  where
    other : has_bytes p ≡ false → (b : Bool) → same_region p.region r ≡ b → same_region p.region r ≡ false
    other e true h =
        let same : p.region.len ≡ r.len = ap (λ (x : Region). x.len) (same_region-true p.region r h) in
        let none = no-len p.region.len e in
        absurd (omega arith)
    other e false h = h

    by_test : (b : Bool) → has_bytes p ≡ b → is_one_of (places_of (filter has_bytes ps)) r ≡ is_one_of (places_of ps) r
        → is_one_of (places_of (cond b (p ∷ filter has_bytes ps) (filter has_bytes ps))) r ≡ (same_region p.region r || is_one_of (places_of ps) r)
    by_test true e later = ap (λ (b : Bool). same_region p.region r || b) later
    by_test false e later = later ∙ sym (ap (λ (b : Bool). b || is_one_of (places_of ps) r) (other e (same_region p.region r) refl))

finish-same : (old new : Parts) (claim host sent : ℕ) (ps : List RegionBytes) → FinishMoves old new claim host sent (filter has_bytes ps) → FinishMoves old new claim host sent ps
finish-same old new claim host sent ps moves = record {
  count = moves.count;
  still = moves.still;
  waiting = moves.waiting;
  queues = moves.queues;
  kept = moves.kept;
  claims = moves.claims;
  store = λ s k. moves.store s k
      ∙ (ap (λ (b : Bool). if b then Some (carried (filter has_bytes ps) s k) else old.store s k) (some-bytes ps s k)
      ∙ ap (λ (n : ℕ). if any_has_byte (places_of ps) s k then Some n else old.store s k) (some-carried ps s k));
  out = λ region some. moves.out region some ∙ ap (λ (b : Bool). old.out region && not b) (some-one ps region some);
  slots = moves.slots;
  sets = moves.sets;
  entries = moves.entries;
}

-- ---- the open claim by what is kept

cids-at : (depth : ℕ) (queues : List QueuePair) (i : ℕ) → AllByRecursion (IsQueue depth) queues → CidsDiffer (commands_in (slice_get queues i))
cids-at depth [] i all = tt
cids-at depth (q ∷ queues) zero all = all.0.cids
cids-at depth (q ∷ queues) (suc i) all = cids-at depth queues i all.1

cids-in : (depth : ℕ) (queues : List QueuePair) (host : ℕ) → AllByRecursion (IsQueue depth) queues → CidsDiffer (queue_of queues host)
cids-in depth queues zero all = tt
cids-in depth queues (suc i) all = cids-at depth queues i all

found-kept : (key : ℕ) (kept : List Claim) (x : KeptFootprint) → find (λ (y : KeptFootprint). y.key == key) (map as_kept_footprint kept) ≡ Some x
    → footprint_under kept key ≡ Some x.footprint
found-kept key kept x e = by_found (find (λ (y : Claim). y.key == key) kept) (sym (find-map as_kept_footprint (λ (y : KeptFootprint). y.key == key) kept) ∙ e)
  where
    by_found : (o : Option Claim) → option_map as_kept_footprint o ≡ Some x → option_map (λ (y : Claim). y.footprint) o ≡ Some x.footprint
    by_found None h = absurd (none-some x h)
    by_found (Some y) h = ap (λ (z : KeptFootprint). Some z.footprint) (some-same (as_kept_footprint y) x h)

found-any : (key : ℕ) (kept : List Claim) (f : Footprint) → footprint_under kept key ≡ Some f → is_kept kept key ≡ true
found-any key [] f e = absurd (none-some f e)
found-any key (x ∷ kept) f e = by_test (x.key == key) e (found-any key kept f)
  where
    by_test : (b : Bool) → option_map (λ (y : Claim). y.footprint) (cond b (Some x) (find (λ (y : Claim). y.key == key) kept)) ≡ Some f
        → (footprint_under kept key ≡ Some f → is_kept kept key ≡ true) → (b || is_kept kept key) ≡ true
    by_test true e later = refl
    by_test false e later = later e

fewer-meet : (r : Region) (ps : List RegionBytes) → meets_any (places_of ps) r ≡ false → meets_any (places_of (filter has_bytes ps)) r ≡ false
fewer-meet r [] e = refl
fewer-meet r (p ∷ ps) e =
    let both = either_false (shares_byte r p.region) (meets_any (places_of ps) r) e in
    by_test (has_bytes p) both.0 (fewer-meet r ps both.1)
  where
    by_test : (b : Bool) → shares_byte r p.region ≡ false → meets_any (places_of (filter has_bytes ps)) r ≡ false
        → meets_any (places_of (cond b (p ∷ filter has_bytes ps) (filter has_bytes ps))) r ≡ false
    by_test true first later = ap (λ (b : Bool). b || meets_any (places_of (filter has_bytes ps)) r) first ∙ later
    by_test false first later = later

fewer-apart : (ps : List RegionBytes) → any_overlap (places_of ps) ≡ false → any_overlap (places_of (filter has_bytes ps)) ≡ false
fewer-apart [] e = refl
fewer-apart (p ∷ ps) e =
    let both = either_false (meets_any (places_of ps) p.region) (any_overlap (places_of ps)) e in
    by_test (has_bytes p) (fewer-meet p.region ps both.0) (fewer-apart ps both.1)
  where
    by_test : (b : Bool) → meets_any (places_of (filter has_bytes ps)) p.region ≡ false → any_overlap (places_of (filter has_bytes ps)) ≡ false
        → any_overlap (places_of (cond b (p ∷ filter has_bytes ps) (filter has_bytes ps))) ≡ false
    by_test true first later = ap (λ (b : Bool). b || any_overlap (places_of (filter has_bytes ps))) first ∙ later
    by_test false first later = later

each-out : (homes : Homes) (ps : List RegionBytes) → AllByRecursion (λ (p : RegionBytes). length p.bytes ≡ p.region.len) ps
    → AllByRecursion (λ (p : RegionBytes). 0 < p.region.len → is_hole homes p.region ≡ true) ps → AllByRecursion (IsOut homes) (filter has_bytes ps)
each-out homes [] whole out = tt
each-out homes (p ∷ ps) whole out = by_test (has_bytes p) refl (each-out homes ps whole.1 out.1)
  where
    by_test : (b : Bool) → has_bytes p ≡ b → AllByRecursion (IsOut homes) (filter has_bytes ps) → AllByRecursion (IsOut homes) (cond b (p ∷ filter has_bytes ps) (filter has_bytes ps))
    by_test true e later =
        let some = some-len p.region.len e in
        (record { some = some; whole = whole.0; out = out.0 some }, later)
    by_test false e later = later

-- what is kept of the open claim of a place, and what of its pieces comes home
pub record Closes (events : List KeptEvent) (k : Keep) (claim : OpenClaim) (place : ℕ) (pieces home : List RegionBytes) (writes : List Region) : Type 0 where
  pub places : find (λ (x : ClaimPlaces). x.claim == place) k.claims.items ≡ Some (as_places claim)
  pub asked : asked_at (trail_of events) claim.request.place ≡ Some (asked_by_request claim.request)
  pub host : (1 ≤ claim.request.host) × (claim.request.host ≤ length k.queues.items)
  pub claimed : under (queue_of k.queues.items claim.request.host) claim.request.cid
      ≡ Some (let x : Outstanding = record { cid = claim.request.cid; sent = claim.request.place; stage = Picked } in x)
  pub apart : PlacesDiffer (queue_of k.queues.items claim.request.host)
  pub at : claim.place ≡ place
  pub kept : is_kept k.kept.kept claim.place ≡ true
  pub room : vec_len k.entries < vec_capacity k.entries
  pub runs : writes_under k.kept.kept claim.place ≡ writes
  pub goes : filter (goes_home writes) pieces ≡ home
  pub can : CanComeHome k.store home

pub closes : (c : Configuration) (commands : ℕ) (events : List KeptEvent) (k : Keep) (place : ℕ) (pieces : List Piece) (h : BringsHome c commands events k place pieces)
    → Closes events k h.claim place (region_bytes pieces) (filter has_bytes (effect_of_claim c h.claim).pieces) (claimed_footprint c h.claim).writes
closes c commands events k place pieces h =
    let p : Parts = parts_of (length events) k in
    let t : Trail = trail_of events in
    let claim : OpenClaim = h.claim in
    let stands = h.held.stands in
    let linked = linked-world c commands t stands.lawful in
    let own : ClaimLinked (world_of c t) claim = found-each (ClaimLinked (world_of c t)) _ (world_of c t).claims claim linked.claims h.found in
    let asked = asked-found c commands t claim.request.place _ stands.lawful own.submit in
    let host : (1 ≤ claim.request.host) × (claim.request.host ≤ MAX_HOSTS) = asked-host c commands t claim.request.place (asked_by_request claim.request) stands.lawful asked in
    let hosts = h.held.room.queues.hosts in
    let at = claim-place (world_of c t).claims place claim h.found in
    let places = places-in c commands p t place stands ∙ ap (λ (o : Option OpenClaim). option_map as_places o) h.found in
    let kept : footprint_under k.kept.kept place ≡ Some (claimed_footprint c claim) =
    found-kept place k.kept.kept (as_kept c claim) (kept-in c commands p t place stands ∙ ap (λ (o : Option OpenClaim). option_map (as_kept c) o) h.found) in
    let most = all-submits c commands p t stands in
    let inside = found-inside k.claims.items (as_places claim) place places in
    let room = h.held.room.entries in
    let ps : List RegionBytes = (effect_of_claim c claim).pieces in
    record {
      places = places;
      asked = asked;
      host = (host.0, omega arith);
      claimed = claimed-under c commands p t place claim stands h.found (cids-in c.depth k.queues.items claim.request.host h.held.room.queues.each);
      apart = places-differ c commands p t claim.request.host stands;
      at = at;
      kept = subst (λ (n : ℕ). is_kept k.kept.kept n ≡ true) (sym at) (found-any place k.kept.kept (claimed_footprint c claim) kept);
      room = omega arith;
      runs = ap (λ (n : ℕ). writes_under k.kept.kept n) at ∙ ap writes_in kept;
      goes = ap (λ (xs : List RegionBytes). filter (goes_home (claimed_footprint c claim).writes) xs) h.after ∙ claim-comes-home c commands t place claim stands.lawful h.found;
      can = record {
        out = each-out k.store ps (pieces-whole c claim) (pieces-out c commands p t place claim stands h.found);
        apart = fewer-apart ps (pieces-apart c commands p t place claim stands h.found);
      };
    }
  where
    found-inside : (xs : List ClaimPlaces) (x : ClaimPlaces) (n : ℕ) → find (λ (y : ClaimPlaces). y.claim == n) xs ≡ Some x → 1 ≤ length xs
    found-inside [] x n e = absurd (none-some x e)
    found-inside (y ∷ xs) x n e = omega arith

pub closed-stands : (c : Configuration) (commands by place : ℕ) (answer : Answer) (events : List KeptEvent) (old new : Keep) (pieces : List Piece)
    (h : BringsHome c commands events old place pieces) → IsAllowedIn c commands (world_of c (trail_of events)) (event.Finish by place answer)
    → FinishMoves (parts_of (length events) old) (parts_of (length events + 1) new) h.claim.place h.claim.request.host h.claim.request.place
    (homebound (writes_under old.kept.kept h.claim.place) pieces)
    → StandFor c commands (parts_of (length events + 1) new) (trail_of events ++ event.Finish by place answer ∷ [])
closed-stands c commands by place answer events old new pieces h allowed moves =
    let x = closes c commands events old place pieces h in
    let p : Parts = parts_of (length events) old in
    let q : Parts = parts_of (length events + 1) new in
    let claim : OpenClaim = h.claim in
    let same : homebound (writes_under old.kept.kept claim.place) pieces ≡ filter has_bytes (effect_of_claim c claim).pieces =
    ap (λ (ws : List Region). homebound ws pieces) x.runs ∙ x.goes in
    finish-stands c commands p q (trail_of events) by place answer claim h.held.stands allowed h.found
    (finish-same p q place claim.request.host claim.request.place (effect_of_claim c claim).pieces
    (subst (λ (n : ℕ). FinishMoves p q n claim.request.host claim.request.place (filter has_bytes (effect_of_claim c claim).pieces)) x.at
    (subst (λ (ps : List RegionBytes). FinishMoves p q claim.place claim.request.host claim.request.place ps) same moves)))

-- ---- what a party has that finishes

weaker-and : {A : Type 0} (P Q : A → Type 0) (o : Option A) → ((x : A) → P x → Q x) → IsSomeAnd o P → IsSomeAnd o Q
weaker-and P Q None weaker h = h
weaker-and P Q (Some x) weaker h = weaker x h

abbrev pub HasDone : Configuration → ℕ → List KeptEvent → ℕ → ℕ → Worked → Type 0
HasDone c commands events by place done =
    let d : Recorded = record { config = c; commands = commands; trail = trail_of events } in
    IsSomeAnd (claim_at (world_of c (trail_of events)).claims place) (λ (x : OpenClaim). HasWorked d by done x)

pub brings : (c : Configuration) (commands : ℕ) (events : List KeptEvent) (spots by place : ℕ) (k : Keep) (done : Worked) → Holds c commands events spots k
    → HasDone c commands events by place done → BringsHome c commands events k place done.pieces.items
brings c commands events spots by place k done held has =
    let d : Recorded = record { config = c; commands = commands; trail = trail_of events } in
    let there = some-and (λ (x : OpenClaim). HasWorked d by done x) (claim_at (world_of c (trail_of events)).claims place) has in
    record { spots = spots; held = held; claim = there.0; found = there.1; after = there.2.worked.pieces }

pub may-finish : (c : Configuration) (commands : ℕ) (events : List KeptEvent) (by place : ℕ) (done : Worked)
    → HasDone c commands events by place done → IsAllowedIn c commands (world_of c (trail_of events)) (event.Finish by place (answer_of done.reply))
may-finish c commands events by place done has =
    let d : Recorded = record { config = c; commands = commands; trail = trail_of events } in
    weaker-and (λ (x : OpenClaim). HasWorked d by done x) (λ (x : OpenClaim). MayFinish c by (answer_of done.reply) x)
    (claim_at (world_of c (trail_of events)).claims place) (λ x h. record { own = h.own; told = h.worked.answer }) has

-- What a party has done is told at the end of its claim, and what is kept then stands for the trail with it: where the claim
-- was ended by the same events, as they were read.
pub finish-told : (c : Configuration) (commands : ℕ) (events seen : List KeptEvent) (spots by place : ℕ) (old new : Keep) (done : Worked) → seen ≡ events
    → Holds c commands events spots old → HasDone c commands events by place done
    → ((d : Configuration) (most party : ℕ) (answer : Answer) → BringsHome d most seen old place done.pieces.items
    → IsAllowedIn d most (world_of d (trail_of seen)) (event.Finish party place answer)
    → StandFor d most (parts_of (length seen + 1) new) (trail_of seen ++ event.Finish party place answer ∷ []))
    → StandFor c commands (parts_of (length events + 1) new) (trail_of events ++ event.Finish by place (answer_of done.reply) ∷ [])
finish-told c commands events seen spots by place old new done same held has ended =
    let answer : Answer = answer_of done.reply in
    subst (λ (ts : List KeptEvent). StandFor c commands (parts_of (length ts + 1) new) (trail_of ts ++ event.Finish by place answer ∷ [])) same
    (ended c commands by answer
    (subst (λ (ts : List KeptEvent). BringsHome c commands ts old place done.pieces.items) (sym same) (brings c commands events spots by place old done held has))
    (subst (λ (ts : List KeptEvent). IsAllowedIn c commands (world_of c (trail_of ts)) (event.Finish by place answer)) (sym same)
    (may-finish c commands events by place done has)))

-- the open claim that was found at its place is the one that ends
pub claim-found : (claims : List ClaimPlaces) (k : Keep) (found : Option ClaimPlaces) (claim : ClaimPlaces) (events : List KeptEvent) (opened : OpenClaim) (place : ℕ)
    (pieces home : List RegionBytes) (writes : List Region) → Closes events k opened place pieces home writes → claims ≡ k.claims.items
    → found ≡ find (λ (x : ClaimPlaces). x.claim == place) claims → found ≡ Some claim → claim ≡ as_places opened
claim-found claims k found claim events opened place pieces home writes closes same is there =
    some-same claim (as_places opened) (sym there ∙ (is ∙ (ap (λ (xs : List ClaimPlaces). find (λ (x : ClaimPlaces). x.claim == place) xs) same ∙ closes.places)))
