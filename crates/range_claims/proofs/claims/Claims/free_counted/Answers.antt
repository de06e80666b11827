-- The segments count each byte as often as the claims have it, and are at most two for each of their ranges.
use Rattle.std.proofs.Common.{◌≡◌, ℕ, ◌+◌, ◌*◌, ◌≤◌, Bool, true, false, ◌||◌, not, List, length, sym, ap, subst, ◌∙◌, refl, arith}
use Rattle.std.specs.List.{list_any}
use Rattle.std.proofs.lemmas.Bool.{true≢false}
use Rattle.cp_base.specs.Touching.{meets, share_byte}
use Rattle.cp_base.specs.declared.spans.Footprint.{Footprint}
use Rattle.range_claims.specs.Kept.{AreCountedBy, KeptClaims, all_reads, all_writes}
use Rattle.range_claims.specs.Segments.{Counted}
use Rattle.range_claims.specs.Steps.{binary_digits, steps_at_most}
use Rattle.range_claims.specs.declared.claims.Claim.{Claim}
use Rattle.range_claims.proofs.Keeping.{kept_meets, meets_all, reads_placed, writes_placed}
use Rattle.range_claims.proofs.Probes.{steps_enough}
use Rattle.range_claims.proofs.Totals.{few_segments}
use Rattle.range_claims.proofs.claims.Claims.free_counted.Goals as goal

by_first : (a b c : Bool) → a ≡ true → false ≡ not (a || (b || c))
by_first true b c h = refl
by_first false b c h = absurd (true≢false (sym h))

by_second : (a b c : Bool) → a ≡ false → b ≡ true → false ≡ not (a || (b || c))
by_second true b c h g = absurd (true≢false h)
by_second false true c h g = refl
by_second false false c h g = absurd (true≢false (sym g))

by_third : (a b c v : Bool) → a ≡ false → b ≡ false → v ≡ c → not v ≡ not (a || (b || c))
by_third true b c v h g e = absurd (true≢false h)
by_third false true c v h g e = absurd (true≢false g)
by_third false false c v h g e = ap not e

-- no claim that is kept meets the command, as the contract says it
kept_free : (f : Footprint) (items : List Claim) (k : KeptClaims) (v : Bool) → items ≡ k.kept → v ≡ not (meets_all f items) → v ≡ not (list_any (λ (claim : Claim). meets f claim.footprint) k.kept)
kept_free f items k v e h =
    h ∙ ap not (sym (kept_meets f items)) ∙ ap (λ (claims : List Claim). not (list_any (λ (claim : Claim). meets f claim.footprint) claims)) e

pub returns-then-counts_any-clause-value : goal.returns-then-counts_any-clause-value
returns-then-counts_any-clause-value g c =
    let items = c.self.inside.kept.items in
    let f = c.args.footprint.now in
    let counted = c.self.invariant.1 in
    let one = c.counts_any.ensures.value (all_writes items) counted.written (writes_placed items counted.fit) in
    kept_free f items c.args.self.now false (ap (λ (k : KeptClaims). k.kept) c.self.view_is)
    (by_first (share_byte f.writes (all_writes items)) (share_byte f.writes (all_reads items)) (share_byte f.reads (all_writes items)) (sym one ∙ c.if-counts_any.true))

pub returns-then-counts_any-2-clause-value : goal.returns-then-counts_any-2-clause-value
returns-then-counts_any-2-clause-value g c =
    let items = c.self.inside.kept.items in
    let f = c.args.footprint.now in
    let counted = c.self.invariant.1 in
    let one = c.counts_any.ensures.value (all_writes items) counted.written (writes_placed items counted.fit) in
    let two = c.counts_any-2.ensures.value (all_reads items) counted.read (reads_placed items counted.fit) in
    kept_free f items c.args.self.now false (ap (λ (k : KeptClaims). k.kept) c.self.view_is)
    (by_second (share_byte f.writes (all_writes items)) (share_byte f.writes (all_reads items)) (share_byte f.reads (all_writes items))
    (sym one ∙ c.if-counts_any.false) (sym two ∙ c.if-counts_any-2.true))

pub returns-clause-value : goal.returns-clause-value
returns-clause-value g c =
    let items = c.self.inside.kept.items in
    let f = c.args.footprint.now in
    let counted = c.self.invariant.1 in
    let one = c.counts_any.ensures.value (all_writes items) counted.written (writes_placed items counted.fit) in
    let two = c.counts_any-2.ensures.value (all_reads items) counted.read (reads_placed items counted.fit) in
    let three = c.counts_any-3.ensures.value (all_writes items) counted.written (writes_placed items counted.fit) in
    kept_free f items c.args.self.now (not c.counts_any-3.result) (ap (λ (k : KeptClaims). k.kept) c.self.view_is)
    (by_third (share_byte f.writes (all_writes items)) (share_byte f.writes (all_reads items)) (share_byte f.reads (all_writes items)) c.counts_any-3.result
    (sym one ∙ c.if-counts_any.false) (sym two ∙ c.if-counts_any-2.false) three)

-- what a question costs, by the lists of segments that count what the claims touch
abbrev cost_of : Footprint → List Claim → Counted → Counted → Type 0
cost_of f items writes reads =
    length f.writes * (binary_digits (length writes.segments) + 1) + length f.writes * (binary_digits (length reads.segments) + 1)
    + length f.reads * (binary_digits (length writes.segments) + 1) ≤ steps_at_most f items

enough : (most : ℕ) (f : Footprint) (items : List Claim) (k : KeptClaims) (writes reads : Counted) → AreCountedBy most items writes reads → items ≡ k.kept → cost_of f k.kept writes reads
enough most f items k writes reads counted e =
    let few = few_segments writes.segments (all_writes items) counted.written.fewest counted.written.counts in
    let also = few_segments reads.segments (all_reads items) counted.read.fewest counted.read.counts in
    subst (λ (claims : List Claim). cost_of f claims writes reads) e (steps_enough f items (length writes.segments) (length reads.segments) few also)

pub returns-then-counts_any-clause-steps : goal.returns-then-counts_any-clause-steps
returns-then-counts_any-clause-steps g c =
    let most = enough c.self.inside.most c.args.footprint.now c.self.inside.kept.items c.args.self.now c.self.inside.writes c.self.inside.reads c.self.invariant.1 (ap (λ (k : KeptClaims). k.kept) c.self.view_is) in
    omega (arith, most, c.counts_any.ensures.steps)

pub returns-then-counts_any-2-clause-steps : goal.returns-then-counts_any-2-clause-steps
returns-then-counts_any-2-clause-steps g c =
    let most = enough c.self.inside.most c.args.footprint.now c.self.inside.kept.items c.args.self.now c.self.inside.writes c.self.inside.reads c.self.invariant.1 (ap (λ (k : KeptClaims). k.kept) c.self.view_is) in
    omega (arith, most, c.counts_any.ensures.steps, c.counts_any-2.ensures.steps)

pub returns-clause-steps : goal.returns-clause-steps
returns-clause-steps g c =
    let most = enough c.self.inside.most c.args.footprint.now c.self.inside.kept.items c.args.self.now c.self.inside.writes c.self.inside.reads c.self.invariant.1 (ap (λ (k : KeptClaims). k.kept) c.self.view_is) in
    omega (arith, most, c.counts_any.ensures.steps, c.counts_any-2.ensures.steps, c.counts_any-3.ensures.steps)
