use Rattle.std.proofs.Common.{◌≡◌, ℕ, ◌+◌, ◌%◌, ◌<◌, ◌≤◌, true, false, List, None, Some, length, min, sum, slice_get, inl, inr, sym, ap, subst, ◌∙◌, rules, arith}
use Rattle.cp_base.specs.Contents.{Contents, bytes_of, put}
use Rattle.cp_base.specs.Region.{Region}
use Rattle.cp_base.specs.declared.limits.TheConstants.{MAX_NAMESPACE}
use Rattle.cp_base.specs.declared.lists.MemRange.{MemRange}
use Rattle.cp_base.specs.declared.region.SpaceId.TheVariants.{Mem}
use Rattle.bpf_isa.specs.declared.end.End.TheVariants as end
use Rattle.bpf_model.specs.Memory.{allows_writing, bytes_from}
use Rattle.bpf_model.specs.Outcome.{RunOutcome}
use Rattle.device_model.specs.Builtin.{marks_of}
use Rattle.device_model.specs.Execution.{memory_of, with_memory}
use Rattle.seq_device.specs.Ranges.{IsAtHand}
use Rattle.seq_device.proofs.Programs.{marked_is, marks_length, none_common, refused_is, unchanged, unmarked_ending, unmarked_left, written_put}
use Rattle.seq_device.proofs.builtins.classes.Goals as goal

pub returns-in_default-clause-ending : goal.returns-in_default-clause-ending
returns-in_default-clause-ending c = λ budget less.
    unmarked_ending c.args.flat.now c.args.ranges.now c.args.p1 c.args.p2 budget
    (none_common (memory_of c.args.flat.now) c.args.ranges.now (let none : None ≡ slice_get c.args.ranges.now 0 = search rules in inl none))

pub returns-in_default-clause-left : goal.returns-in_default-clause-left
returns-in_default-clause-left c = λ budget less.
    unmarked_left c.args.flat.now c.args.ranges.now c.args.p1 c.args.p2 budget
    (none_common (memory_of c.args.flat.now) c.args.ranges.now (let none : None ≡ slice_get c.args.ranges.now 0 = search rules in inl none))

pub returns-in_default-range_at-clause-ending : goal.returns-in_default-range_at-clause-ending
returns-in_default-range_at-clause-ending c = λ budget less.
    unmarked_ending c.args.flat.now c.args.ranges.now c.args.p1 c.args.p2 budget
    (none_common (memory_of c.args.flat.now) c.args.ranges.now (let none : None ≡ slice_get c.args.ranges.now 1 = search rules in inr none))

pub returns-in_default-range_at-clause-left : goal.returns-in_default-range_at-clause-left
returns-in_default-range_at-clause-left c = λ budget less.
    unmarked_left c.args.flat.now c.args.ranges.now c.args.p1 c.args.p2 budget
    (none_common (memory_of c.args.flat.now) c.args.ranges.now (let none : None ≡ slice_get c.args.ranges.now 1 = search rules in inr none))

pub returns-then-not-is_read_write-clause-ending : goal.returns-then-not-is_read_write-clause-ending
returns-then-not-is_read_write-clause-ending c = λ budget less.
    let from : MemRange = c.in-Some.from.now in
    let into : MemRange = c.in-Some-range_at.into.now in
    let first : Some from ≡ slice_get c.args.ranges.now 0 = search rules in
    let second : Some into ≡ slice_get c.args.ranges.now 1 = search rules in
    let here : IsAtHand c.args.flat.now from = c.in-Some.ensures.at_hand c.args.flat.now c.requires in
    let there : IsAtHand c.args.flat.now into = c.in-Some-range_at.ensures.at_hand c.args.flat.now c.requires in
    let refused : allows_writing into.access ≡ false = search rules in
    sym (ap (λ (o : RunOutcome). o.ending) (refused_is c.args.flat.now c.args.ranges.now c.args.p1 c.args.p2 budget from into first second less here.some there.some refused))

pub returns-then-not-is_read_write-clause-left : goal.returns-then-not-is_read_write-clause-left
returns-then-not-is_read_write-clause-left c = λ budget less.
    let contents : Contents = c.args.flat.now in
    let from : MemRange = c.in-Some.from.now in
    let into : MemRange = c.in-Some-range_at.into.now in
    let first : Some from ≡ slice_get c.args.ranges.now 0 = search rules in
    let second : Some into ≡ slice_get c.args.ranges.now 1 = search rules in
    let here : IsAtHand contents from = c.in-Some.ensures.at_hand c.args.flat.now c.requires in
    let there : IsAtHand contents into = c.in-Some-range_at.ensures.at_hand c.args.flat.now c.requires in
    let refused : allows_writing into.access ≡ false = search rules in
    sym (ap (λ (o : RunOutcome). with_memory contents o.memory)
    (refused_is contents c.args.ranges.now c.args.p1 c.args.p2 budget from into first second less here.some there.some refused)
    ∙ unchanged contents)

-- how many marks there are
marked_many : (made : List ℕ) (contents : Contents) (from : MemRange) (len low high : ℕ) → made ≡ marks_of low high (bytes_from (memory_of contents) from.ns from.at len)
    → length made ≡ len
marked_many made contents from len low high e = ap length e ∙ marks_length low high (memory_of contents) from.ns from.at len

pub sum_bytes-members-requires : goal.sum_bytes-members-requires
sum_bytes-members-requires c =
    let from : MemRange = c.in-Some.from.now in
    let here : IsAtHand c.args.flat.now from = c.in-Some.ensures.at_hand c.args.flat.now c.requires in
    let short = here.short in
    let many = marked_many c.in_ok-marks.marks.items c.args.flat.now from c.min-common.result (c.args.p1 % 256) (c.args.p2 % 256) c.in_ok-marks.ensures.marks in
    let same : length c.as_slice.result.now ≡ length c.in_ok-marks.marks.items = ap length c.as_slice.ensures in
    let common : c.min-common.result ≤ from.len = search rules in
    omega arith

pub patch-requires-clause-length : goal.patch-requires-clause-length
patch-requires-clause-length c =
    marked_many c.in_ok-marks.marks.items c.args.flat.now c.in-Some.from.now c.min-common.result (c.args.p1 % 256) (c.args.p2 % 256) c.in_ok-marks.ensures.marks
    ∙ sym (ap (λ (r : Region). r.len) c.first_bytes.ensures)

pub returns-clause-ending : goal.returns-clause-ending
returns-clause-ending c = λ budget less.
    let contents : Contents = c.args.flat.now in
    let from : MemRange = c.in-Some.from.now in
    let into : MemRange = c.in-Some-range_at.into.now in
    let made : List ℕ = c.in_ok-marks.marks.items in
    let first : Some from ≡ slice_get c.args.ranges.now 0 = search rules in
    let second : Some into ≡ slice_get c.args.ranges.now 1 = search rules in
    let allowed : allows_writing into.access ≡ true = search rules in
    let common : c.min-common.result ≡ min from.len into.len = search rules in
    let marks : made ≡ marks_of (c.args.p1 % 256) (c.args.p2 % 256) (bytes_from (memory_of contents) from.ns from.at (min from.len into.len)) =
    c.in_ok-marks.ensures.marks ∙ ap (λ (n : ℕ). marks_of (c.args.p1 % 256) (c.args.p2 % 256) (bytes_from (memory_of contents) from.ns from.at n)) common in
    ap (λ (n : ℕ). end.Exit n) (c.sum_bytes-members.ensures.sum ∙ ap (λ (bytes : List ℕ). sum bytes) c.as_slice.ensures)
    ∙ sym (ap (λ (o : RunOutcome). o.ending) (marked_is contents c.args.ranges.now c.args.p1 c.args.p2 budget from into first second less allowed made marks))

pub returns-clause-left : goal.returns-clause-left
returns-clause-left c = λ budget less.
    let contents : Contents = c.args.flat.now in
    let from : MemRange = c.in-Some.from.now in
    let into : MemRange = c.in-Some-range_at.into.now in
    let made : List ℕ = c.in_ok-marks.marks.items in
    let first : Some from ≡ slice_get c.args.ranges.now 0 = search rules in
    let second : Some into ≡ slice_get c.args.ranges.now 1 = search rules in
    let there : IsAtHand contents into = c.in-Some-range_at.ensures.at_hand c.args.flat.now c.requires in
    let inside = there.inside in
    let allowed : allows_writing into.access ≡ true = search rules in
    let common : c.min-common.result ≡ min from.len into.len = search rules in
    let marks : made ≡ marks_of (c.args.p1 % 256) (c.args.p2 % 256) (bytes_from (memory_of contents) from.ns from.at (min from.len into.len)) =
    c.in_ok-marks.ensures.marks ∙ ap (λ (n : ℕ). marks_of (c.args.p1 % 256) (c.args.p2 % 256) (bytes_from (memory_of contents) from.ns from.at n)) common in
    let many : length made ≡ min from.len into.len = marked_many made contents from (min from.len into.len) (c.args.p1 % 256) (c.args.p2 % 256) marks in
    let fits : into.at + length made ≤ length (bytes_of contents (Mem into.ns)) = omega arith in
    c.patch.ensures
    ∙ (ap (λ (r : Region). put contents r.space r.start made) c.first_bytes.ensures
    ∙ sym (ap (λ (o : RunOutcome). with_memory contents o.memory) (marked_is contents c.args.ranges.now c.args.p1 c.args.p2 budget from into first second less allowed made marks)
    ∙ written_put contents into.ns into.at made fits))
