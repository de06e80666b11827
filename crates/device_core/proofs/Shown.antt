-- What the core shows of itself: its bytes and its entries.
use Rattle.std.proofs.Common.{◌≡◌, ℕ, zero, suc, ◌+◌, ◌-◌, ◌<◌, ◌≤◌, Bool, true, false, List, [], ◌∷◌, length, slice_get, slice_index, Option, Some, None, IsSome, option_map, refl, sym, ap, subst, ◌∙◌, ⊎_elim, arith, if◌then◌else◌}
use Rattle.std.proofs.lemmas.Bool.{cases_lt, true≢false}
use Rattle.std.proofs.lemmas.Option.{slice_get-get_or, slice_get_past}
use Rattle.cp_base.specs.Configuration.{Configuration}
use Rattle.cp_base.specs.Contents.{Contents, bytes_in, bytes_of}
use Rattle.cp_base.specs.Pieces.{piece}
use Rattle.cp_base.specs.Region.{Region}
use Rattle.cp_base.specs.Sharing.{IsIn}
use Rattle.cp_base.specs.declared.region.SpaceId.{SpaceId}
use Rattle.extents.specs.Homes.{AreBytesAt, IsAtHome}
use Rattle.trail_model.specs.Lawful.{history_of, world_of}
use Rattle.trail_model.specs.Pieces.{all_bytes}
use Rattle.trail_model.specs.World.{Completion, World, home, is_out}
use Rattle.trail_model.proofs.Bytes.{bytes_in-gathered, gathered-at}
use Rattle.trail_model.proofs.Putting.{length-cut}
use Rattle.trail_model.proofs.Sound.{some-and}
use Rattle.core_model.specs.Parts.{Parts}
use Rattle.core_model.specs.declared.places.EntryPlaces.{EntryPlaces}
use Rattle.core_model.specs.Telling.{TellsEntry}
use Rattle.core_model.proofs.Entries.{entries-number, entry-told}
use Rattle.core_model.proofs.Fetching.{same-bytes}
use Rattle.device_core.specs.Gives.{Ended, ended_by}
use Rattle.device_core.specs.Keep.{Holds, parts_of}
use Rattle.device_core.specs.Recorded.{trail_of}
use Rattle.device_core.specs.declared.events.Event.{Event as KeptEvent}
use Rattle.device_core.specs.declared.keep.Keep.{Keep}

-- the bytes of a region of a device are at home
abbrev pub HasAtHome : Configuration → List KeptEvent → Region → Type 0
HasAtHome c events r = (s : SpaceId) (k : ℕ) → IsIn r s k → IsSome (home c (world_of c (trail_of events)) s k)

pub stored-home : (c : Configuration) (commands : ℕ) (events : List KeptEvent) (spots : ℕ) (k : Keep) (r : Region) → Holds c commands events spots k
    → HasAtHome c events r → IsAtHome k.store r
stored-home c commands events spots k r held there s o inside = subst IsSome (sym (held.stands.ties.store s o)) (there s o inside)

-- a byte at home is that of the state
home-byte : (c : Configuration) (w : World) (s : SpaceId) (k : ℕ) → IsSome (home c w s k) → home c w s k ≡ slice_get (bytes_of w.state.contents s) k
home-byte c w s k there = by_test (is_out c w.claims s k) there
  where
    by_test : (b : Bool) → IsSome (if b then None else slice_get (bytes_of w.state.contents s) k)
        → (if b then None else slice_get (bytes_of w.state.contents s) k) ≡ slice_get (bytes_of w.state.contents s) k
    by_test true there = absurd (true≢false (sym there))
    by_test false there = refl

some-within : (xs : List ℕ) (k : ℕ) → IsSome (slice_get xs k) → k < length xs
some-within xs k there = ⊎_elim {C = k < length xs} (λ (less : k < length xs). less)
    (λ (over : length xs ≤ k). absurd (true≢false (sym (subst IsSome (slice_get_past xs k over) there)))) (cases_lt k (length xs))

shown-bytes : (c : Configuration) (commands : ℕ) (events : List KeptEvent) (spots : ℕ) (k : Keep) (r : Region) (bytes : List ℕ) → Holds c commands events spots k
    → HasAtHome c events r → AreBytesAt k.store r bytes → 0 < r.len → bytes ≡ bytes_in (world_of c (trail_of events)).state.contents r
shown-bytes c commands events spots k r bytes held there are some =
    let w : World = world_of c (trail_of events) in
    let contents : Contents = w.state.contents in
    let p : Parts = parts_of (length events) k in
    let last : IsSome (home c w r.space (r.start + (r.len - 1))) = there r.space (r.start + (r.len - 1)) (refl, omega arith, omega arith) in
    let below = some-within (bytes_of contents r.space) (r.start + (r.len - 1)) (subst IsSome (home-byte c w r.space (r.start + (r.len - 1)) last) last) in
    let fits : r.start + r.len ≤ length (bytes_of contents r.space) = omega arith in
    let stored : (i : ℕ) → i < r.len → p.store r.space (r.start + i) ≡ slice_get (bytes_of contents r.space) (r.start + i) =
    λ i less. held.stands.ties.store r.space (r.start + i) ∙ home-byte c w r.space (r.start + i) (there r.space (r.start + i) (refl, omega arith, omega arith)) in
    same-bytes p contents r bytes (record {
      len = length-cut contents r fits;
      there = stored-home c commands events spots k r held there;
      bytes = λ i less. in-piece contents r i fits less ∙ sym (stored i less);
    }) are.length are.each
  where
    in-piece : (contents : Contents) (r : Region) (i : ℕ) → r.start + r.len ≤ length (bytes_of contents r.space) → i < r.len
        → slice_get (bytes_in contents r) i ≡ slice_get (bytes_of contents r.space) (r.start + i)
    in-piece contents r i fits less =
        let len = length-cut contents r fits in
        slice_get-get_or (bytes_in contents r) i 0 (omega arith)
        ∙ (ap (λ (b : ℕ). Some b) (ap (λ (xs : List ℕ). slice_index xs i) (bytes_in-gathered contents r fits)
        ∙ gathered-at (all_bytes contents) r.space r.start r.len i less)
        ∙ sym (slice_get-get_or (bytes_of contents r.space) (r.start + i) 0 (omega arith)))

-- the bytes of a region that are shown are those of the state
pub shown : (c : Configuration) (commands : ℕ) (events : List KeptEvent) (spots : ℕ) (k : Keep) (r : Region) (bytes : List ℕ) → Holds c commands events spots k
    → HasAtHome c events r → AreBytesAt k.store r bytes → bytes ≡ bytes_in (world_of c (trail_of events)).state.contents r
shown c commands events spots k r bytes held there are =
    ⊎_elim {C = bytes ≡ bytes_in (world_of c (trail_of events)).state.contents r} (λ (some : 0 < r.len). shown-bytes c commands events spots k r bytes held there are some)
    (λ (none : r.len ≤ 0). (
    let len = are.length in
    let empty : r.len ≡ 0 = omega arith in
    no-bytes bytes (omega arith) ∙ sym (ap (λ (n : ℕ). piece (bytes_of (world_of c (trail_of events)).state.contents r.space) r.start n) empty)))
    (cases_lt 0 r.len)
  where
    no-bytes : (xs : List ℕ) → length xs ≡ 0 → xs ≡ []
    no-bytes [] e = refl
    no-bytes (x ∷ xs) e = absurd (omega arith)

-- ---- entries

pub no-entry : (c : Configuration) (commands : ℕ) (events : List KeptEvent) (spots k : ℕ) (keep : Keep) → Holds c commands events spots keep
    → slice_get keep.entries.items k ≡ None → slice_get (history_of c (trail_of events)) k ≡ None
no-entry c commands events spots k keep held none =
    let number = entries-number c commands (parts_of (length events) keep) (trail_of events) held.stands in
    ⊎_elim {C = slice_get (history_of c (trail_of events)) k ≡ None}
    (λ (less : k < length keep.entries.items). absurd (there keep.entries.items k less none))
    (λ (over : length keep.entries.items ≤ k). slice_get_past (history_of c (trail_of events)) k (omega arith)) (cases_lt k (length keep.entries.items))
  where
    there : (xs : List EntryPlaces) (k : ℕ) → k < length xs → slice_get xs k ≡ None → ⊥
    there [] k less e = omega arith
    there (x ∷ xs) zero less e = cc
    there (x ∷ xs) (suc k) less e = there xs k (omega arith) e

pub entry-shown : (c : Configuration) (commands : ℕ) (events : List KeptEvent) (spots k : ℕ) (keep : Keep) (e : EntryPlaces) (answer : Option Ended) → Holds c commands events spots keep
    → slice_get keep.entries.items k ≡ Some e → ((done : Completion) → TellsEntry (trail_of events) e done → answer ≡ Some (ended_by done))
    → answer ≡ option_map ended_by (slice_get (history_of c (trail_of events)) k)
entry-shown c commands events spots k keep e answer held found tells =
    let told = some-and (TellsEntry (trail_of events) e) (slice_get (history_of c (trail_of events)) k)
    (entry-told c commands (parts_of (length events) keep) (trail_of events) k e held.stands found) in
    tells told.0 told.2 ∙ sym (ap (λ (o : Option Completion). option_map ended_by o) told.1)
