-- What of a claim's pieces goes home: those that its command may write, with what it wrote. The others are copies.
use Rattle.std.proofs.Common.{◌≡◌, ℕ, ◌*◌, ◌%◌, ◌<◌, ◌≤◌, ◌==◌, nat_lt, Bool, true, false, not, ◌&&◌, ◌||◌, cond, List, [], ◌∷◌, filter, find, map, length, replicate, Option, Some, None, option_map, unwrap_or, refl, sym, ap, subst, ◌∙◌, inl, inr, ◌⊎◌, arith, if◌then◌else◌}
use Rattle.std.specs.List.{AllByRecursion}
use Rattle.std.proofs.lemmas.Bool.{true≢false}
use Rattle.std.proofs.lemmas.Bool.Decides.{nat_tests}
use Rattle.std.proofs.lemmas.List.Elements.{All-cons, All-head, All-nil, All-tail}
use Rattle.std.specs.Prelude.{All}
use Rattle.bpf_model.specs.Memory.{Memory, allows_writing, bytes_from}
use Rattle.cp_base.specs.Checks.{any_without_bytes, copy_checks, destination_of, total_len}
use Rattle.cp_base.specs.Configuration.{Configuration}
use Rattle.cp_base.specs.Contents.{Contents, bytes_in}
use Rattle.cp_base.specs.Region.{Region}
use Rattle.cp_base.specs.Runs.{runs_of, space_before}
use Rattle.cp_base.specs.Sets.{RangeSet}
use Rattle.cp_base.specs.Sharing.{any_overlap, meets_any, range_region, same_space, shares_byte, source_region, same_region}
use Rattle.cp_base.specs.declared.commands.Command.{Command}
use Rattle.cp_base.specs.declared.commands.Command.TheVariants as command
use Rattle.cp_base.specs.declared.lists.MemRange.{MemRange}
use Rattle.cp_base.specs.declared.region.SpaceId.{SpaceId}
use Rattle.cp_base.specs.declared.region.SpaceId.TheVariants as space
use Rattle.cp_base.specs.declared.region.SpaceId.TheVariants.{Mem, Nvm}
use Rattle.cp_base.proofs.Runs.{HasBytes, bytes_of_runs}
use Rattle.device_model.specs.Checks.{refusal_of}
use Rattle.device_model.specs.Execution.{executable_in, outcome_on}
use Rattle.device_model.specs.State.{State}
use Rattle.trail_model.specs.Claims.{FindsItself}
use Rattle.trail_model.specs.Fits.{SetFits}
use Rattle.trail_model.specs.Footprints.{Execution, cut_for, execution_of, in_one_order, no_execution, reads_of, with_region, writable_ranges, writes_of}
use Rattle.trail_model.specs.Lawful.{IsLawful, Trail, world_of}
use Rattle.trail_model.specs.LocalEffects.{memory_among, ranges_with, written}
use Rattle.trail_model.specs.Pieces.{AllBytes, RegionBytes, any_has_byte, carried, gathered_joined, has_byte, pieces_of}
use Rattle.trail_model.specs.World.{OpenClaim, World, claim_at, claimed_footprint, effect_of_claim}
use Rattle.trail_model.proofs.Carrying.{written-regions}
use Rattle.trail_model.proofs.Passing.{all-pass, passes, Passes}
use Rattle.trail_model.proofs.Regions.{IsInSome, has_byte-in, in-has_byte, out-has_byte, runs-in, some-has_byte, unmet}
use Rattle.trail_model.proofs.Sound.{sound-world}
use Rattle.trail_model.proofs.Submits.{each-weaker, found-each}
use Rattle.job_run.specs.Works.{new_piece, pieces_after}
use Rattle.job_run.proofs.Holding.{same_region-itself, same_region-true}
use Rattle.core_model.proofs.Homing.{any-runs}
use Rattle.device_core.specs.Homecoming.{goes_home, has_bytes}

-- ---- a piece and its first byte

pub either_false : (a b : Bool) → (a || b) ≡ false → (a ≡ false) × (b ≡ false)
either_false true b e = absurd (true≢false e)
either_false false b e = (refl, e)

pub some-len : (n : ℕ) → nat_lt 0 n ≡ true → 0 < n
some-len n e = grind (arith, nat_tests)

pub no-len : (n : ℕ) → nat_lt 0 n ≡ false → n ≤ 0
no-len n e = grind (arith, nat_tests)

not-empty : (n : ℕ) → (n == 0) ≡ false → nat_lt 0 n ≡ true
not-empty n e = grind (arith, nat_tests)

-- a region has its first byte exactly where it has one
first-byte : (r : Region) → has_byte r r.space r.start ≡ nat_lt 0 r.len
first-byte r = by_test (nat_lt 0 r.len) refl
  where
    by_test : (b : Bool) → nat_lt 0 r.len ≡ b → has_byte r r.space r.start ≡ b
    by_test true e = let some = some-len r.len e in in-has_byte r r.space r.start (refl, omega arith, omega arith)
    by_test false e = let none = no-len r.len e in out-has_byte r r.space r.start (λ inside. (let high = inside.2 in omega arith))

-- a piece stays where it lies
same-place : (written : List RegionBytes) (piece : RegionBytes) → (new_piece written piece).region ≡ piece.region
same-place [] piece = refl
same-place (w ∷ written) piece = by_test (same_region w.region piece.region) refl (same-place written piece)
  where
    by_test : (b : Bool) → same_region w.region piece.region ≡ b → (new_piece written piece).region ≡ piece.region
        → (if b then w else new_piece written piece).region ≡ piece.region
    by_test true e later = same_region-true w.region piece.region e
    by_test false e later = later

same-goes : (writes : List Region) (written : List RegionBytes) (piece : RegionBytes) → goes_home writes (new_piece written piece) ≡ goes_home writes piece
same-goes writes written piece = ap (λ (r : Region). any_has_byte writes r.space r.start) (same-place written piece)

-- of pieces that begin in none of these regions none goes home
none-go : (writes : List Region) (written : List RegionBytes) (contents : Contents) (rs : List Region)
    → AllByRecursion (λ (r : Region). any_has_byte writes r.space r.start ≡ false) rs → filter (goes_home writes) (map (new_piece written) (pieces_of contents rs)) ≡ []
none-go writes written contents [] all = refl
none-go writes written contents (r ∷ rs) all =
    let piece : RegionBytes = record { region = r; bytes = bytes_in contents r } in
    let later : List RegionBytes = filter (goes_home writes) (map (new_piece written) (pieces_of contents rs)) in
    ap (λ (b : Bool). cond b (new_piece written piece ∷ later) later) (same-goes writes written piece ∙ all.0) ∙ none-go writes written contents rs all.1

-- ---- an execution: the ranges that it may write go home

abbrev from-memory : Memory → MemRange → RegionBytes
from-memory memory r = record { region = range_region r; bytes = bytes_from memory r.ns r.at r.len }

abbrev number_of : SpaceId → ℕ
number_of (Nvm n) = n
number_of (Mem n) = n

-- the bytes of a range lie where its region does
same-bytes : (memory : Memory) (a b : MemRange) → range_region a ≡ range_region b → from-memory memory a ≡ from-memory memory b
same-bytes memory a b e = ap (λ (r : Region). by_region r) e
  where
    by_region : Region → RegionBytes
    by_region r = record { region = r; bytes = bytes_from memory (number_of r.space) r.start r.len }

abbrev IsAmong : MemRange → List MemRange → Type 0
IsAmong r [] = ⊥
IsAmong r (x ∷ ranges) = (x ≡ r) ⊎ IsAmong r ranges

writable-among : (ranges : List MemRange) → AllByRecursion (λ (r : MemRange). allows_writing r.access ≡ true → IsAmong r (writable_ranges ranges)) ranges
writable-among [] = tt
writable-among (x ∷ ranges) = by_test (allows_writing x.access) refl (writable-among ranges)
  where
    by_test : (b : Bool) → allows_writing x.access ≡ b → AllByRecursion (λ (r : MemRange). allows_writing r.access ≡ true → IsAmong r (writable_ranges ranges)) ranges
        → AllByRecursion (λ (r : MemRange). allows_writing r.access ≡ true → IsAmong r (cond b (x ∷ writable_ranges ranges) (writable_ranges ranges))) (x ∷ ranges)
    by_test true e later = (
      (λ _. inl refl),
      each-weaker (λ (r : MemRange). allows_writing r.access ≡ true → IsAmong r (writable_ranges ranges))
          (λ (r : MemRange). allows_writing r.access ≡ true → IsAmong r (x ∷ writable_ranges ranges)) (λ r h w. inr (h w)) ranges later,
    )
    by_test false e later = ((λ h. absurd (true≢false (sym h ∙ e))), later)

-- the new bytes of a range that may be written
found-new : (memory : Memory) (ranges : List MemRange) (r : MemRange) (piece : RegionBytes) → IsAmong r ranges → piece.region ≡ range_region r
    → new_piece (ranges_with memory ranges) piece ≡ from-memory memory r
found-new memory [] r piece among e = absurd among
found-new memory (x ∷ ranges) r piece (inl same) e =
    ap (λ (b : Bool). if b then from-memory memory x else new_piece (ranges_with memory ranges) piece)
    (same_region-itself (range_region x) piece.region (ap (λ (y : MemRange). range_region y) same ∙ sym e))
    ∙ ap (λ (y : MemRange). from-memory memory y) same
found-new memory (x ∷ ranges) r piece (inr later) e = by_test (same_region (range_region x) piece.region) refl (found-new memory ranges r piece later e)
  where
    by_test : (b : Bool) → same_region (range_region x) piece.region ≡ b → new_piece (ranges_with memory ranges) piece ≡ from-memory memory r
        → (if b then from-memory memory x else new_piece (ranges_with memory ranges) piece) ≡ from-memory memory r
    by_test true h rest = same-bytes memory x r (same_region-true (range_region x) piece.region h ∙ e)
    by_test false h rest = rest

writable-in : (ranges : List MemRange) (s : SpaceId) (k : ℕ) → IsInSome (map range_region (writable_ranges ranges)) s k → IsInSome (map range_region ranges) s k
writable-in [] s k there = there
writable-in (x ∷ ranges) s k there = by_test (allows_writing x.access) (writable-in ranges s k) there
  where
    by_test : (b : Bool) → (IsInSome (map range_region (writable_ranges ranges)) s k → IsInSome (map range_region ranges) s k)
        → IsInSome (map range_region (cond b (x ∷ writable_ranges ranges) (writable_ranges ranges))) s k → IsInSome (map range_region (x ∷ ranges)) s k
    by_test true later (inl here) = inl here
    by_test true later (inr there) = inr (later there)
    by_test false later there = inr (later there)

-- a region that shares no byte with others has none of their first bytes
apart-firsts : (d : Region) (rs : List Region) → meets_any rs d ≡ false → any_without_bytes rs ≡ false → AllByRecursion (λ (r : Region). has_byte d r.space r.start ≡ false) rs
apart-firsts d [] none some = tt
apart-firsts d (r ∷ rs) none some =
    let p = either_false (shares_byte d r) (meets_any rs d) none in
    let q = either_false (r.len == 0) (any_without_bytes rs) some in
    let own : has_byte r r.space r.start ≡ true = first-byte r ∙ not-empty r.len q.0 in (
      out-has_byte d r.space r.start (λ inside. unmet (r ∷ []) d r.space r.start (ap (λ (b : Bool). b || false) p.0) inside (inl (has_byte-in r r.space r.start own))),
      apart-firsts d rs p.1 q.1,
    )

-- a range begins in what may be written exactly where it may be written itself
starts : (ranges : List MemRange) → any_overlap (map range_region ranges) ≡ false → any_without_bytes (map range_region ranges) ≡ false
    → AllByRecursion (λ (r : MemRange). any_has_byte (map range_region (writable_ranges ranges)) (range_region r).space (range_region r).start ≡ allows_writing r.access) ranges
starts [] apart some = tt
starts (x ∷ ranges) apart some =
    let p = either_false (meets_any (map range_region ranges) (range_region x)) (any_overlap (map range_region ranges)) apart in
    let q = either_false (x.len == 0) (any_without_bytes (map range_region ranges)) some in
    by_test p.0 q.0 (apart-firsts (range_region x) (map range_region ranges) p.0 q.1) (allows_writing x.access) refl (starts ranges p.1 q.1)
  where
    Begins : List Region → MemRange → Type 0
    Begins writes r = any_has_byte writes (range_region r).space (range_region r).start ≡ allows_writing r.access

    more : (ys : List MemRange) (writes : List Region) → AllByRecursion (λ (r : Region). has_byte (range_region x) r.space r.start ≡ false) (map range_region ys)
        → AllByRecursion (Begins writes) ys → AllByRecursion (Begins (range_region x ∷ writes)) ys
    more [] writes out all = tt
    more (y ∷ ys) writes out all = (ap (λ (b : Bool). b || any_has_byte writes (range_region y).space (range_region y).start) out.0 ∙ all.0, more ys writes out.1 all.1)

    own : (x.len == 0) ≡ false → has_byte (range_region x) (range_region x).space (range_region x).start ≡ true
    own some = first-byte (range_region x) ∙ not-empty x.len some

    not-there : meets_any (map range_region ranges) (range_region x) ≡ false → (x.len == 0) ≡ false → (b : Bool)
        → any_has_byte (map range_region (writable_ranges ranges)) (range_region x).space (range_region x).start ≡ b
        → any_has_byte (map range_region (writable_ranges ranges)) (range_region x).space (range_region x).start ≡ false
    not-there none some true e =
        absurd (unmet (map range_region ranges) (range_region x) (range_region x).space (range_region x).start none
        (has_byte-in (range_region x) (range_region x).space (range_region x).start (own some))
        (writable-in ranges (range_region x).space (range_region x).start
        (some-has_byte (map range_region (writable_ranges ranges)) (range_region x).space (range_region x).start e)))
    not-there none some false e = e

    by_test : meets_any (map range_region ranges) (range_region x) ≡ false → (x.len == 0) ≡ false
        → AllByRecursion (λ (r : Region). has_byte (range_region x) r.space r.start ≡ false) (map range_region ranges)
        → (b : Bool) → allows_writing x.access ≡ b
        → AllByRecursion (Begins (map range_region (writable_ranges ranges))) ranges
        → AllByRecursion (Begins (map range_region (cond b (x ∷ writable_ranges ranges) (writable_ranges ranges)))) (x ∷ ranges)
    by_test none some out true e later = (
      ap (λ (b : Bool). b || any_has_byte (map range_region (writable_ranges ranges)) (range_region x).space (range_region x).start) (own some) ∙ sym e,
      more ranges (map range_region (writable_ranges ranges)) out later,
    )
    by_test none some out false e later = (not-there none some (any_has_byte (map range_region (writable_ranges ranges)) (range_region x).space (range_region x).start) refl ∙ sym e, later)

-- what goes home of the pieces of ranges
record GoesAsWritten (writes : List Region) (written : List RegionBytes) (memory : Memory) (r : MemRange) : Type 0 where
  pub goes : any_has_byte writes (range_region r).space (range_region r).start ≡ allows_writing r.access
  pub new : allows_writing r.access ≡ true → (piece : RegionBytes) → piece.region ≡ range_region r → new_piece written piece ≡ from-memory memory r

filter-ranges : (writes : List Region) (written : List RegionBytes) (memory : Memory) (contents : Contents) (ranges : List MemRange)
    → AllByRecursion (GoesAsWritten writes written memory) ranges
    → filter (goes_home writes) (map (new_piece written) (pieces_of contents (map range_region ranges))) ≡ ranges_with memory (writable_ranges ranges)
filter-ranges writes written memory contents [] all = refl
filter-ranges writes written memory contents (r ∷ ranges) all =
    by_test (allows_writing r.access) refl (filter-ranges writes written memory contents ranges all.1)
  where
    piece : RegionBytes
    piece = record { region = range_region r; bytes = bytes_in contents (range_region r) }

    later : List RegionBytes
    later = filter (goes_home writes) (map (new_piece written) (pieces_of contents (map range_region ranges)))

    by_test : (b : Bool) → allows_writing r.access ≡ b → later ≡ ranges_with memory (writable_ranges ranges)
        → cond (goes_home writes (new_piece written piece)) (new_piece written piece ∷ later) later ≡ ranges_with memory (cond b (r ∷ writable_ranges ranges) (writable_ranges ranges))
    by_test true e rest =
        ap (λ (b : Bool). cond b (new_piece written piece ∷ later) later) (same-goes writes written piece ∙ (all.0.goes ∙ e))
        ∙ (ap (λ (p : RegionBytes). p ∷ later) (all.0.new e piece refl) ∙ ap (λ (ps : List RegionBytes). from-memory memory r ∷ ps) rest)
    by_test false e rest = ap (λ (b : Bool). cond b (new_piece written piece ∷ later) later) (same-goes writes written piece ∙ (all.0.goes ∙ e)) ∙ rest

some-ranges : (memory : Memory) (ranges : List MemRange) → any_without_bytes (map range_region ranges) ≡ false
    → filter has_bytes (ranges_with memory (writable_ranges ranges)) ≡ ranges_with memory (writable_ranges ranges)
some-ranges memory [] some = refl
some-ranges memory (x ∷ ranges) some =
    let q = either_false (x.len == 0) (any_without_bytes (map range_region ranges)) some in
    by_test (allows_writing x.access) q.0 (some-ranges memory ranges q.1)
  where
    by_test : (b : Bool) → (x.len == 0) ≡ false → filter has_bytes (ranges_with memory (writable_ranges ranges)) ≡ ranges_with memory (writable_ranges ranges)
        → filter has_bytes (ranges_with memory (cond b (x ∷ writable_ranges ranges) (writable_ranges ranges)))
        ≡ ranges_with memory (cond b (x ∷ writable_ranges ranges) (writable_ranges ranges))
    by_test true e later =
        ap (λ (b : Bool). cond b (from-memory memory x ∷ filter has_bytes (ranges_with memory (writable_ranges ranges))) (filter has_bytes (ranges_with memory (writable_ranges ranges)))) (not-empty x.len e)
        ∙ ap (λ (ps : List RegionBytes). from-memory memory x ∷ ps) later
    by_test false e later = later

execution-home : (contents : Contents) (memory : Memory) (ranges : List MemRange) → any_overlap (map range_region ranges) ≡ false
    → any_without_bytes (map range_region ranges) ≡ false
    → filter (goes_home (runs_of (map range_region (writable_ranges ranges)))) (map (new_piece (ranges_with memory (writable_ranges ranges))) (pieces_of contents (map range_region ranges)))
    ≡ filter has_bytes (ranges_with memory (writable_ranges ranges))
execution-home contents memory ranges apart some =
    filter-ranges (runs_of (map range_region (writable_ranges ranges))) (ranges_with memory (writable_ranges ranges)) memory contents ranges
    (both ranges (starts ranges apart some) (writable-among ranges))
    ∙ sym (some-ranges memory ranges some)
  where
    both : (rs : List MemRange)
        → AllByRecursion (λ (r : MemRange). any_has_byte (map range_region (writable_ranges ranges)) (range_region r).space (range_region r).start ≡ allows_writing r.access) rs
        → AllByRecursion (λ (r : MemRange). allows_writing r.access ≡ true → IsAmong r (writable_ranges ranges)) rs
        → AllByRecursion (GoesAsWritten (runs_of (map range_region (writable_ranges ranges))) (ranges_with memory (writable_ranges ranges)) memory) rs
    both [] begins among = tt
    both (r ∷ rs) begins among = (
      record {
        goes = any-runs (map range_region (writable_ranges ranges)) (range_region r).space (range_region r).start ∙ begins.0;
        new = λ w piece e. found-new memory (writable_ranges ranges) r piece (among.0 w) e;
      },
      both rs begins.1 among.1,
    )

-- ---- any other command: the region that it writes goes home

or-none : (b : Bool) → (b || false) ≡ b
or-none true = refl
or-none false = refl

inserted : (contents : Contents) (p : RegionBytes) (others : List Region) → AllByRecursion (λ (r : Region). any_has_byte (p.region ∷ []) r.space r.start ≡ false) others
    → filter (goes_home (p.region ∷ [])) (map (new_piece (p ∷ [])) (pieces_of contents (with_region p.region others))) ≡ filter has_bytes (p ∷ [])
inserted contents p others all = by_others others all
  where
    written : List RegionBytes
    written = p ∷ []

    cut : Region → RegionBytes
    cut r = record { region = r; bytes = bytes_in contents r }

    here : new_piece written (cut p.region) ≡ p
    here = ap (λ (b : Bool). if b then p else cut p.region) (same_region-itself p.region p.region refl)

    own : goes_home (p.region ∷ []) (new_piece written (cut p.region)) ≡ has_bytes p
    own = same-goes (p.region ∷ []) written (cut p.region) ∙ (or-none (has_byte p.region p.region.space p.region.start) ∙ first-byte p.region)

    first : (rest : List RegionBytes) → rest ≡ []
        → cond (goes_home (p.region ∷ []) (new_piece written (cut p.region))) (new_piece written (cut p.region) ∷ rest) rest ≡ cond (has_bytes p) (p ∷ []) []
    first rest none =
        ap (λ (b : Bool). cond b (new_piece written (cut p.region) ∷ rest) rest) own
        ∙ (ap (λ (q : RegionBytes). cond (has_bytes p) (q ∷ rest) rest) here ∙ ap (λ (ps : List RegionBytes). cond (has_bytes p) (p ∷ ps) ps) none)

    by_others : (rs : List Region) → AllByRecursion (λ (r : Region). any_has_byte (p.region ∷ []) r.space r.start ≡ false) rs
        → filter (goes_home (p.region ∷ [])) (map (new_piece (p ∷ [])) (pieces_of contents (with_region p.region rs))) ≡ filter has_bytes (p ∷ [])
    by_others [] none = first [] refl
    by_others (o ∷ os) none = by_test (space_before p.region.space o.space || (same_space p.region.space o.space && nat_lt p.region.start o.start)) (by_others os none.1)
      where
        by_test : (b : Bool) → filter (goes_home (p.region ∷ [])) (map (new_piece (p ∷ [])) (pieces_of contents (with_region p.region os))) ≡ filter has_bytes (p ∷ [])
            → filter (goes_home (p.region ∷ [])) (map (new_piece (p ∷ [])) (pieces_of contents (if b then p.region ∷ o ∷ os else o ∷ with_region p.region os))) ≡ filter has_bytes (p ∷ [])
        by_test true later = first (filter (goes_home (p.region ∷ [])) (map (new_piece written) (pieces_of contents (o ∷ os)))) (none-go (p.region ∷ []) written contents (o ∷ os) none)
        by_test false later =
            ap (λ (b : Bool). cond b (new_piece written (cut o) ∷ rest) rest) (same-goes (p.region ∷ []) written (cut o) ∙ none.0) ∙ later
          where
            rest : List RegionBytes
            rest = filter (goes_home (p.region ∷ [])) (map (new_piece written) (pieces_of contents (with_region p.region os)))

laid-home : (contents : Contents) (writes others : List Region) (p : RegionBytes) → p.region ∷ [] ≡ writes
    → AllByRecursion (λ (r : Region). any_has_byte writes r.space r.start ≡ false) others
    → filter (goes_home (runs_of writes)) (map (new_piece (p ∷ [])) (pieces_of contents (in_one_order (runs_of writes) others))) ≡ filter has_bytes (p ∷ [])
laid-home contents writes others p e all =
    subst (λ (ws : List Region). filter (goes_home (runs_of ws)) (map (new_piece (p ∷ [])) (pieces_of contents (in_one_order (runs_of ws) others))) ≡ filter has_bytes (p ∷ [])) e
    (inserted contents p others (subst (λ (ws : List Region). AllByRecursion (λ (r : Region). any_has_byte ws r.space r.start ≡ false) others) (sym e) all))

-- the runs of sources begin outside what shares no byte with them
from-All : (P : Region → Type 0) (xs : List Region) → All P xs → AllByRecursion P xs
from-All P [] all = tt
from-All P (x ∷ xs) all = (All-head P x xs all, from-All P xs (All-tail P x xs all))

to-All : (xs : List Region) → any_without_bytes xs ≡ false → All HasBytes xs
to-All [] some = All-nil HasBytes
to-All (x ∷ xs) some =
    let q = either_false (x.len == 0) (any_without_bytes xs) some in
    All-cons HasBytes x xs (some-len x.len (not-empty x.len q.0)) (to-All xs q.1)

runs-apart : (d : Region) (sources : List Region) → meets_any sources d ≡ false → any_without_bytes sources ≡ false
    → AllByRecursion (λ (r : Region). any_has_byte (d ∷ []) r.space r.start ≡ false) (runs_of sources)
runs-apart d sources none some =
    by_runs (runs_of sources) (from-All HasBytes (runs_of sources) (bytes_of_runs sources (to-All sources some)))
    (λ s k there. runs-in sources s k there)
  where
    by_runs : (rs : List Region) → AllByRecursion HasBytes rs → ((s : SpaceId) (k : ℕ) → IsInSome rs s k → IsInSome sources s k)
        → AllByRecursion (λ (r : Region). any_has_byte (d ∷ []) r.space r.start ≡ false) rs
    by_runs [] long within = tt
    by_runs (r ∷ rs) long within = (
      or-none (has_byte d r.space r.start)
          ∙ out-has_byte d r.space r.start (λ inside. unmet sources d r.space r.start none inside
          (within r.space r.start (inl (refl, omega arith, (let some = long.0 in omega arith))))),
      by_runs rs long.1 (λ s k there. within s k (inr there)),
    )

copy-home : (c : Configuration) (contents : Contents) (space : SpaceId) (start unit : ℕ) (sources : List Region) (p : RegionBytes)
    → Passes (copy_checks c space start unit sources) → p.region ∷ [] ≡ destination_of space start sources ∷ []
    → filter (goes_home (runs_of (destination_of space start sources ∷ []))) (map (new_piece (p ∷ [])) (pieces_of contents (in_one_order (runs_of (destination_of space start sources ∷ [])) (runs_of sources))))
    ≡ filter has_bytes (p ∷ [])
copy-home c contents space start unit sources p passed e =
    let checks = all-pass (copy_checks c space start unit sources) passed in
    let some = either_false (any_without_bytes sources) (not (total_len sources % unit == 0)) checks.1.0 in
    laid-home contents (destination_of space start sources ∷ []) (runs_of sources) p e (runs-apart (destination_of space start sources) sources checks.1.1.1.1.0 some.0)

all-none : (rs : List Region) → AllByRecursion (λ (r : Region). any_has_byte [] r.space r.start ≡ false) rs
all-none [] = tt
all-none (r ∷ rs) = (refl, all-none rs)

-- ---- each command

abbrev laid-piece : SpaceId → ℕ → List ℕ → RegionBytes
laid-piece space start bytes = record { region = record { space = space; start = start; len = length bytes }; bytes = bytes }

-- of what a command carries its writes go home, with what it wrote
home-written : (c : Configuration) (s : State) (cmd : Command) (all : AllBytes) → AllByRecursion (SetFits c) s.sets → refusal_of c s cmd ≡ None
    → filter (goes_home (runs_of (writes_of c (execution_of s cmd).ranges cmd))) (map (new_piece (written c (execution_of s cmd) all cmd).pieces) (cut_for c s cmd))
    ≡ filter has_bytes (written c (execution_of s cmd) all cmd).pieces
home-written c s (command.NvmWrite ns lba bytes) all fits e =
    laid-home s.contents (writes_of c [] (command.NvmWrite ns lba bytes)) [] (laid-piece (space.Nvm ns) (lba * c.block) bytes.items)
    (written-regions c no_execution all (command.NvmWrite ns lba bytes)) tt
home-written c s (command.NvmZeroes ns lba count) all fits e =
    laid-home s.contents (writes_of c [] (command.NvmZeroes ns lba count)) [] (laid-piece (space.Nvm ns) (lba * c.block) (replicate (count * c.block) 0))
    (written-regions c no_execution all (command.NvmZeroes ns lba count)) tt
home-written c s (command.NvmCopy ns lba from) all fits e =
    copy-home c s.contents (space.Nvm ns) (lba * c.block) c.block (map (source_region c) from)
    (laid-piece (space.Nvm ns) (lba * c.block) (gathered_joined all (map (source_region c) from))) (passes c s (command.NvmCopy ns lba from) e)
    (written-regions c no_execution all (command.NvmCopy ns lba from))
home-written c s (command.MemWrite ns at bytes) all fits e =
    laid-home s.contents (writes_of c [] (command.MemWrite ns at bytes)) [] (laid-piece (space.Mem ns) at bytes.items)
    (written-regions c no_execution all (command.MemWrite ns at bytes)) tt
home-written c s (command.MemFill ns at len value) all fits e =
    laid-home s.contents (writes_of c [] (command.MemFill ns at len value)) [] (laid-piece (space.Mem ns) at (replicate len value))
    (written-regions c no_execution all (command.MemFill ns at len value)) tt
home-written c s (command.MemCopy ns at from) all fits e =
    copy-home c s.contents (space.Mem ns) at 1 (map (source_region c) from)
    (laid-piece (space.Mem ns) at (gathered_joined all (map (source_region c) from))) (passes c s (command.MemCopy ns at from) e)
    (written-regions c no_execution all (command.MemCopy ns at from))
home-written c s (command.Execute slot set p1 p2 budget) all fits e = by_set (find (λ (x : RangeSet). x.number == set) s.sets) refl
  where
    by_set : (o : Option RangeSet) → find (λ (x : RangeSet). x.number == set) s.sets ≡ o
        → (let ranges : List MemRange = unwrap_or (option_map (λ (x : RangeSet). x.ranges) o) [] in
        let memory : Memory = (outcome_on (executable_in s slot) ranges (memory_among all) p1 p2 budget).memory in
        filter (goes_home (runs_of (map range_region (writable_ranges ranges)))) (map (new_piece (ranges_with memory (writable_ranges ranges))) (pieces_of s.contents (map range_region ranges)))
        ≡ filter has_bytes (ranges_with memory (writable_ranges ranges)))
    by_set None h = refl
    by_set (Some x) h =
        let held : SetFits c x = found-each (SetFits c) (λ (y : RangeSet). y.number == set) s.sets x fits h in
        execution-home s.contents (outcome_on (executable_in s slot) x.ranges (memory_among all) p1 p2 budget).memory x.ranges held.apart held.some
home-written c s (command.NvmRead ns lba count) all fits e =
    none-go [] [] s.contents (runs_of (reads_of c [] (command.NvmRead ns lba count))) (all-none (runs_of (reads_of c [] (command.NvmRead ns lba count))))
home-written c s (command.MemRead ns at len) all fits e =
    none-go [] [] s.contents (runs_of (reads_of c [] (command.MemRead ns at len))) (all-none (runs_of (reads_of c [] (command.MemRead ns at len))))
home-written c s (command.SetCreate ranges) all fits e = refl
home-written c s (command.SetDelete set) all fits e = refl
home-written c s (command.Load slot size at bytes) all fits e = refl
home-written c s (command.Unload slot) all fits e = refl
home-written c s (command.Activate slot) all fits e = refl
home-written c s (command.Deactivate slot) all fits e = refl
home-written c s (command.Abort cid) all fits e = refl

-- of the pieces of an open claim those go home that it may write, with what it wrote
pub claim-comes-home : (c : Configuration) (commands : ℕ) (trail : Trail) (place : ℕ) (claim : OpenClaim) → IsLawful c commands trail
    → claim_at (world_of c trail).claims place ≡ Some claim
    → filter (goes_home (claimed_footprint c claim).writes) (pieces_after (effect_of_claim c claim) claim.pieces) ≡ filter has_bytes (effect_of_claim c claim).pieces
claim-comes-home c commands trail place claim lawful found =
    let w : World = world_of c trail in
    let cmd : Command = claim.request.command in
    let all : AllBytes = carried claim.pieces in
    let sound = sound-world c commands trail lawful in
    let finds : FindsItself c w.state claim = found-each (FindsItself c w.state) _ w.claims claim sound.own found in
    subst (λ (ps : List RegionBytes). filter (goes_home (claimed_footprint c claim).writes) (map (new_piece (effect_of_claim c claim).pieces) ps) ≡ filter has_bytes (effect_of_claim c claim).pieces)
    finds.pieces
    (subst (λ (x : Execution). filter (goes_home (runs_of (writes_of c x.ranges cmd))) (map (new_piece (written c x all cmd).pieces) (cut_for c w.state cmd)) ≡ filter has_bytes (written c x all cmd).pieces)
    finds.execution (home-written c w.state cmd all sound.fits.sets finds.passes))
