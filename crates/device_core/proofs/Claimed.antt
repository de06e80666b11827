-- A claim: what its command needs is at home, the parts move so, and its work is that of the claim.
use Rattle.std.proofs.Common.{◌≡◌, ℕ, ◌+◌, ◌<◌, ◌==◌, Bool, true, false, not, ◌&&◌, ◌||◌, if◌then◌else◌, List, [], ◌∷◌, length, map, Option, Some, None, IsSome, IsSomeAnd, is_none, is_some, slice_get, refl, sym, ap, subst, ◌∙◌, arith}
use Rattle.std.proofs.lemmas.Bool.{true≢false}
use Rattle.std.proofs.lemmas.List.{map-append}
use Rattle.std.specs.List.{AllByRecursion}
use Rattle.cp_base.specs.Answer.{Answer}
use Rattle.cp_base.specs.Configuration.{Configuration}
use Rattle.cp_base.specs.Contents.{Contents, bytes_of}
use Rattle.cp_base.specs.Region.{Region}
use Rattle.cp_base.specs.Sharing.{same_region, same_space}
use Rattle.cp_base.specs.declared.commands.Command.{Command}
use Rattle.cp_base.specs.declared.region.SpaceId.{SpaceId}
use Rattle.cp_base.specs.declared.replies.Piece.{Piece}
use Rattle.cp_base.specs.declared.spans.Footprint.{Footprint}
use Rattle.device_model.specs.Checks.{refusal_of}
use Rattle.device_model.specs.Memory.{moves_bytes}
use Rattle.device_model.specs.State.{State}
use Rattle.extents.specs.Homes.{Homes, IsAtHome, is_hole, known_at}
use Rattle.trail_model.proofs.Regions.{in-has_byte, same_space-true}
use Rattle.trail_model.proofs.Submits.{submit-place}
use Rattle.trail_model.specs.Footprints.{execution_of, writes_of}
use Rattle.trail_model.specs.Lawful.{IsAllowedIn, MayClaim, Trail, world_of}
use Rattle.trail_model.specs.Pieces.{RegionBytes, any_has_byte, has_byte, pieces_of}
use Rattle.trail_model.specs.World.{OpenClaim, Submission, World, claim_of, claimed_footprint, home, is_out, submit_at}
use Rattle.trail_model.specs.declared.events.Event.{Event}
use Rattle.trail_model.specs.declared.events.Event.TheVariants as event
use Rattle.core_model.proofs.Choosing.{same-tables}
use Rattle.core_model.proofs.Claiming.{claim-stands}
use Rattle.core_model.proofs.Fetching.{claim-home, cut-same, same-bytes}
use Rattle.core_model.proofs.Homing.{any-runs}
use Rattle.core_model.proofs.Reading.{asked-same}
use Rattle.core_model.proofs.Tabling.{same-execution}
use Rattle.core_model.specs.Asked.{Asked, asked_at, asked_by_request}
use Rattle.core_model.specs.Moves.{ClaimMoves}
use Rattle.core_model.specs.Parts.{Parts, tables_in}
use Rattle.core_model.specs.declared.places.ClaimPlaces.{ClaimPlaces}
use Rattle.core_model.specs.Picking.{AreAtHome, carried_for, changes_kept, is_clear_of, may_pick, may_pick_asked, taken_for, touched_by}
use Rattle.core_model.specs.Ties.{StandFor, is_lent, is_one_of}
use Rattle.range_claims.specs.declared.claims.Claim.{Claim}
use Rattle.job_run.specs.Held.{IsRange}
use Rattle.job_run.specs.Works.{IsWork, piece_regions, region_bytes}
use Rattle.job_run.specs.declared.work.Work.{Work}
use Rattle.device_core.specs.Claiming.{Begins, HasStore}
use Rattle.device_core.specs.Keep.{Holds, as_kept_footprint, next_of, parts_of}
use Rattle.device_core.specs.Portions.{AreCopied, AreCutAt, AreTaken, CanBeTaken, portion_ranges, written_ranges}
use Rattle.device_core.specs.Recorded.{trail_of}
use Rattle.device_core.specs.Turns.{ClaimsBy, StandWith}
use Rattle.device_core.specs.declared.events.Event.{Event as KeptEvent}
use Rattle.device_core.specs.declared.keep.Keep.{Keep}
use Rattle.device_core.specs.declared.portions.Portion.{Portion}

-- ---- what is at home is not out

either-true : (a b : Bool) → (a || b) ≡ true → (a ≡ false → b ≡ true)
either-true true b e none = absurd (true≢false none)
either-true false b e none = e

both-true : (a b : Bool) → (a && b) ≡ true → (a ≡ true) × (b ≡ true)
both-true true true e = (refl, refl)
both-true true false e = cc
both-true false b e = cc

same-place : (x r : Region) → 0 < r.len → same_region x r ≡ true → has_byte x r.space r.start ≡ true
same-place x r some e =
    let first = both-true (same_space x.space r.space) ((x.start == r.start) && (x.len == r.len)) e in
    let rest = both-true (x.start == r.start) (x.len == r.len) first.1 in
    let start : x.start ≡ r.start = search (arith, rest.0) in
    let len : x.len ≡ r.len = search (arith, rest.1) in
    in-has_byte x r.space r.start (same_space-true x.space r.space first.0, omega arith, omega arith)

one-has : (rs : List Region) (r : Region) → 0 < r.len → is_one_of rs r ≡ true → any_has_byte rs r.space r.start ≡ true
one-has [] r some e = cc
one-has (x ∷ rs) r some e = by_test (same_region x r) refl e (λ h. one-has rs r some h)
  where
    or-right : (a b : Bool) → b ≡ true → (a || b) ≡ true
    or-right true b e = refl
    or-right false b e = e

    by_test : (b : Bool) → same_region x r ≡ b → (b || is_one_of rs r) ≡ true → (is_one_of rs r ≡ true → any_has_byte rs r.space r.start ≡ true)
        → any_has_byte (x ∷ rs) r.space r.start ≡ true
    by_test true s e later = ap (λ (b : Bool). b || any_has_byte rs r.space r.start) (same-place x r some s)
    by_test false s e later = or-right (has_byte x r.space r.start) (any_has_byte rs r.space r.start) (later e)

not-lent : (c : Configuration) (claims : List OpenClaim) (r : Region) → 0 < r.len → is_out c claims r.space r.start ≡ false → is_lent c claims r ≡ false
not-lent c [] r some e = refl
not-lent c (x ∷ claims) r some e = by_test (is_one_of (writes_of c x.execution.ranges x.request.command) r) refl (λ h. not-lent c claims r some h)
  where
    first-out : any_has_byte (claimed_footprint c x).writes r.space r.start ≡ true → ⊥
    first-out h = true≢false (sym (ap (λ (b : Bool). b || is_out c claims r.space r.start) h) ∙ e)

    right-false : (a b : Bool) → (a || b) ≡ false → b ≡ false
    right-false true b e = cc
    right-false false b e = e

    by_test : (b : Bool) → is_one_of (writes_of c x.execution.ranges x.request.command) r ≡ b → (is_out c claims r.space r.start ≡ false → is_lent c claims r ≡ false)
        → (b || is_lent c claims r) ≡ false
    by_test true h later = absurd (first-out (any-runs (writes_of c x.execution.ranges x.request.command) r.space r.start
        ∙ one-has (writes_of c x.execution.ranges x.request.command) r some h))
    by_test false h later = later (right-false (any_has_byte (claimed_footprint c x).writes r.space r.start) (is_out c claims r.space r.start) e)

-- a region that is at home is not out
pub whole-home : (c : Configuration) (commands : ℕ) (count : ℕ) (trail : Trail) (k : Keep) → StandFor c commands (parts_of count k) trail
    → (r : Region) → 0 < r.len → IsAtHome k.store r → is_hole k.store r ≡ false
whole-home c commands count trail k stand r some at_home =
    let w : World = world_of c trail in
    let known : IsSome (home c w r.space r.start) = subst (λ (o : Option ℕ). IsSome o) (stand.ties.store r.space r.start) (at_home r.space r.start (refl, omega arith, omega arith)) in
    stand.ties.out r some ∙ not-lent c w.claims r some (by_test (is_out c w.claims r.space r.start) refl known)
  where
    by_test : (b : Bool) → is_out c (world_of c trail).claims r.space r.start ≡ b
        → IsSome (if b then None else slice_get (bytes_of (world_of c trail).state.contents r.space) r.start) → is_out c (world_of c trail).claims r.space r.start ≡ false
    by_test true e there = absurd (true≢false (sym there))
    by_test false e there = e

home-each : (count : ℕ) (k : Keep) (contents : Contents) (rs : List Region) → AllByRecursion (AreAtHome (parts_of count k) contents) rs → AllByRecursion (IsAtHome k.store) rs
home-each count k contents [] all = tt
home-each count k contents (r ∷ rs) all = (all.0.there, home-each count k contents rs all.1)

-- the bytes that a command carries are at home
pub carried-home : (c : Configuration) (commands : ℕ) (count : ℕ) (trail : Trail) (k : Keep) (cmd : Command) → StandFor c commands (parts_of count k) trail
    → refusal_of c (tables_in (parts_of count k)) cmd ≡ None → is_clear_of (parts_of count k).kept (touched_by c (parts_of count k) cmd) ≡ true
    → AllByRecursion (IsAtHome k.store) (carried_for c (parts_of count k) cmd)
carried-home c commands count trail k cmd stand passes free =
    home-each count k (world_of c trail).state.contents (carried_for c (parts_of count k) cmd) (claim-home c commands (parts_of count k) trail cmd stand passes free)

-- ---- what may be written can be taken out

pub written-ready : (h : Homes) (xs : List Portion) (ps : List Piece) → AreCopied h xs ps → AllByRecursion (IsAtHome h) (portion_ranges xs)
    → ((r : Region) → 0 < r.len → IsAtHome h r → is_hole h r ≡ false) → AllByRecursion (CanBeTaken h) (written_ranges xs)
written-ready h [] ps copied home whole = tt
written-ready h (x ∷ xs) [] copied home whole = absurd copied
written-ready h (x ∷ xs) (p ∷ ps) copied home whole = by_test x.written (written-ready h xs ps copied.1 home.1 whole)
  where
    some : 0 < x.range.len
    some = subst (λ (r : Region). 0 < r.len) copied.0.place copied.0.range.0

    by_test : (b : Bool) → AllByRecursion (CanBeTaken h) (written_ranges xs) → AllByRecursion (CanBeTaken h) (if b then x.range ∷ written_ranges xs else written_ranges xs)
    by_test true rest = (record { some = some; home = home.0; whole = whole x.range some home.0 }, rest)
    by_test false rest = rest

-- ---- pieces

pub cut-regions : (h : Homes) (rs : List Region) (ps : List Piece) → AreCutAt h rs ps → piece_regions ps ≡ rs
cut-regions h [] [] cut = refl
cut-regions h [] (p ∷ ps) cut = absurd cut
cut-regions h (r ∷ rs) [] cut = absurd cut
cut-regions h (r ∷ rs) (p ∷ ps) cut = λ k. cut.0.place k ∷ cut-regions h rs ps cut.1 k

pub cut-whole : (h : Homes) (rs : List Region) (ps : List Piece) → AreCutAt h rs ps
    → AllByRecursion (λ (piece : RegionBytes). length piece.bytes ≡ piece.region.len) (region_bytes ps)
cut-whole h [] [] cut = tt
cut-whole h [] (p ∷ ps) cut = absurd cut
cut-whole h (r ∷ rs) [] cut = absurd cut
cut-whole h (r ∷ rs) (p ∷ ps) cut = (cut.0.bytes.length ∙ sym (ap (λ (x : Region). x.len) cut.0.place), cut-whole h rs ps cut.1)

pub cut-ranges : (h : Homes) (rs : List Region) (ps : List Piece) → AreCutAt h rs ps → AllByRecursion IsRange (piece_regions ps)
cut-ranges h [] [] cut = tt
cut-ranges h [] (p ∷ ps) cut = absurd cut
cut-ranges h (r ∷ rs) [] cut = absurd cut
cut-ranges h (r ∷ rs) (p ∷ ps) cut = (cut.0.range, cut-ranges h rs ps cut.1)

cut-pieces : (count : ℕ) (k : Keep) (contents : Contents) (rs : List Region) (ps : List Piece) → AreCutAt k.store rs ps
    → AllByRecursion (AreAtHome (parts_of count k) contents) rs → region_bytes ps ≡ pieces_of contents rs
cut-pieces count k contents [] [] cut home = refl
cut-pieces count k contents [] (p ∷ ps) cut home = absurd cut
cut-pieces count k contents (r ∷ rs) [] cut home = absurd cut
cut-pieces count k contents (r ∷ rs) (p ∷ ps) cut home =
    let bytes = same-bytes (parts_of count k) contents r p.bytes.items home.0 cut.0.bytes.length cut.0.bytes.each in
    λ i. (let x : RegionBytes = record { region = cut.0.place i; bytes = bytes i } in x) ∷ cut-pieces count k contents rs ps cut.1 home.1 i

-- ---- how the parts move

pub claim-moves : (old new : Keep) (s1 : Homes) (places : ClaimPlaces) (touched : Footprint) (taken : List Region) → AreTaken old.store s1 taken
    → Begins (record old { store = s1 }) new places touched → ((s : SpaceId) (k : ℕ) → any_has_byte touched.writes s k ≡ any_has_byte taken s k)
    → ClaimMoves (parts_of places.claim old) (parts_of (places.claim + 1) new) places.party places.host places.sent touched taken
claim-moves old new s1 places touched taken gone begins same = record {
  count = refl;
  still = record {
    submitted = begins.submitted;
    ordinals = λ host. ap (λ (xs : List ℕ). next_of xs host) begins.ordinals;
    at_rest = begins.at_rest;
  };
  waiting = begins.waiting;
  queues = begins.queues;
  kept = ap (λ (xs : List Claim). map as_kept_footprint xs) begins.kept ∙ map-append as_kept_footprint old.kept.kept _;
  claims = begins.claims;
  store = λ s k. ap (λ (h : Homes). known_at h s k) begins.store
      ∙ (gone.known s k ∙ ap (λ (b : Bool). if b then None else known_at old.store s k) (sym (same s k)));
  out = λ r some. ap (λ (h : Homes). is_hole h r) begins.store ∙ (gone.holes r ∙ swap (is_one_of taken r) (is_hole old.store r));
  slots = begins.slots;
  sets = begins.sets;
  entries = begins.entries;
}
  where
    swap : (a b : Bool) → (a || b) ≡ (b || a)
    swap true true = refl
    swap true false = refl
    swap false true = refl
    swap false false = refl

-- ---- the claim itself

pub some-and : {A : Type 0} (P Q : A → Type 0) (o : Option A) → ((x : A) → o ≡ Some x → P x → Q x) → IsSomeAnd o P → IsSomeAnd o Q
some-and P Q None f h = absurd h
some-and P Q (Some x) f h = f x refl h

pub claimed : (c : Configuration) (commands : ℕ) (events : List KeptEvent) (spots by sent : ℕ) (asked : Asked) (old new : Keep) (s1 : Homes) (work : Work)
    → Holds c commands events spots old
    → IsAllowedIn c commands (world_of c (trail_of events)) (event.Claim by asked.host asked.ordinal sent)
    → asked_at (trail_of events) sent ≡ Some asked
    → refusal_of c (tables_in (parts_of (length events) old)) asked.command ≡ None
    → is_clear_of (parts_of (length events) old).kept (touched_by c (parts_of (length events) old) asked.command) ≡ true
    → AreTaken old.store s1 (taken_for c (parts_of (length events) old) asked.command)
    → Begins (record old { store = s1 }) new (record { claim = length events; party = by; host = asked.host; sent = sent }) (touched_by c (parts_of (length events) old) asked.command)
    → IsWork c (tables_in (parts_of (length events) old)) work → work.command.value ≡ asked.command
    → AreCutAt old.store (carried_for c (parts_of (length events) old) asked.command) work.pieces.items
    → (e : Event) → e ≡ event.Claim by asked.host asked.ordinal sent
    → StandWith c commands events new e
    × IsSomeAnd (submit_at (world_of c (trail_of events)).submits sent) (λ (s : Submission). ClaimsBy c (world_of c (trail_of events)) by e work s)
claimed c commands events spots by sent asked old new s1 work held allowed read passes free gone begins is_work same cut e told =
    let trail = trail_of events in
    let w : World = world_of c trail in
    let p : Parts = parts_of (length events) old in
    let cmd = asked.command in
    let writes : List Region = taken_for c p cmd in
    let moves = claim-moves old new s1 (record { claim = length events; party = by; host = asked.host; sent = sent }) (touched_by c p cmd) writes gone begins (λ s k. any-runs writes s k) in
    let stands = claim-stands c commands p (parts_of (length events + 1) new) trail by asked.host asked.ordinal sent asked held.stands allowed read moves in
    let home = claim-home c commands p trail cmd held.stands passes free in
    let pieces = cut-pieces (length events) old w.state.contents (carried_for c p cmd) work.pieces.items cut home ∙ sym (cut-same c commands p trail cmd held.stands) in
    let runs : execution_of (tables_in p) cmd ≡ execution_of w.state cmd =
    ap (λ (s : State). execution_of s cmd) (same-tables c p w held.stands.ties) ∙ sym (same-execution w.state cmd) in (
      subst (λ (x : Event). StandWith c commands events new x) (sym told) stands,
      some-and (λ (s : Submission). MayClaim c w by asked.host asked.ordinal s) (λ (s : Submission). ClaimsBy c w by e work s) (submit_at w.submits sent)
          (λ s found may.
          let a : asked_by_request s.request ≡ asked = asked-same c commands trail sent s asked held.stands.lawful found read in
          let m : asked.command ≡ s.request.command = sym (ap (λ (y : Asked). y.command) a) in
          record {
            event = told ∙ (λ i. event.Claim by (sym may.turn.same_host i) (sym may.turn.same_ordinal i) (sym (submit-place w.submits sent s found) i));
            claimed = record {
              state = tables_in p;
              work = is_work;
              command = same ∙ m;
              execution = ap (λ (y : Command). execution_of (tables_in p) y) same ∙ (runs ∙ ap (λ (y : Command). execution_of w.state y) m);
              pieces = pieces ∙ ap (λ (y : Command). (claim_of c w by (record s.request { command = y })).pieces) m;
            };
          })
          allowed,
    )

-- ---- nothing is claimed

pub still-held : (c : Configuration) (commands : ℕ) (events : List KeptEvent) (spots : ℕ) (old new : Keep) → Holds c commands events spots old → HasStore old new
    → Holds c commands events spots new
still-held c commands events spots old new held has =
    subst (λ (k : Keep). Holds c commands events spots k) (sym has.same) (record {
      few = held.few;
      stands = record {
        lawful = held.stands.lawful;
        ties = record {
          count = held.stands.ties.count;
          submitted = held.stands.ties.submitted;
          at_rest = held.stands.ties.at_rest;
          waiting = held.stands.ties.waiting;
          queues = held.stands.ties.queues;
          ordinals = held.stands.ties.ordinals;
          kept = held.stands.ties.kept;
          claims = held.stands.ties.claims;
          store = λ s k. has.store.known s k ∙ held.stands.ties.store s k;
          out = λ r some. has.store.holes r ∙ held.stands.ties.out r some;
          slots = held.stands.ties.slots;
          sets = held.stands.ties.sets;
        };
        entries = held.stands.entries;
      };
      room = record {
        waiting = held.room.waiting;
        entries = held.room.entries;
        kept = held.room.kept;
        claims = held.room.claims;
        queues = held.room.queues;
        ordinals = held.room.ordinals;
      };
      places = held.places;
    })

pub still-waiting : (old new : Keep) → HasStore old new → new.waiting.items ≡ old.waiting.items
still-waiting old new has = ap (λ (k : Keep). k.waiting.items) has.same

pub still-pickable : (c : Configuration) (n : ℕ) (old new : Keep) (o : Option Asked) → HasStore old new
    → may_pick_asked c (parts_of n new) o ≡ may_pick_asked c (parts_of n old) o
still-pickable c n old new None has = refl
still-pickable c n old new (Some asked) has = ap (λ (k : Keep). may_pick_asked c (parts_of n k) (Some asked)) has.same

-- ---- what may be claimed

pub both-so : (a b : Bool) → true ≡ (a && b) → (a ≡ true) × (b ≡ true)
both-so true true e = (refl, refl)
both-so true false e = cc
both-so false b e = cc

pub none-so : {A : Type 0} (o : Option A) → is_none o ≡ true → o ≡ None
none-so None e = refl
none-so (Some x) e = cc

-- a command that moves bytes, passes its checks and may be picked meets nothing that is kept
pub clear-so : (c : Configuration) (p : Parts) (cmd : Command) → may_pick c p cmd ≡ true → moves_bytes cmd ≡ true → refusal_of c (tables_in p) cmd ≡ None
    → is_clear_of p.kept (touched_by c p cmd) ≡ true
clear-so c p cmd may moves passes =
    let clear = is_clear_of p.kept (touched_by c p cmd) in
    let quiet = not (changes_kept p.kept cmd) in
    sym (ap (λ (b : Bool). is_some (refusal_of c (tables_in p) cmd) || (if b then clear else quiet)) moves
    ∙ ap (λ (o : Option Answer). is_some o || clear) passes) ∙ may

-- what the submit at a place asks for may be picked
pub asked-may : (c : Configuration) (p : Parts) (o : Option Asked) (asked : Asked) → o ≡ Some asked → may_pick_asked c p o ≡ true → may_pick c p asked.command ≡ true
asked-may c p o asked e may = ap (λ (x : Option Asked). may_pick_asked c p x) (sym e) ∙ may
