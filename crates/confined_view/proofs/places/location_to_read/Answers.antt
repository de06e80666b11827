use Rattle.std.proofs.Common.{◌≡◌, ℕ, ◌+◌, ◌-◌, ◌^◌, ◌<◌, ◌/◌, ◌%◌, length, map, get_or, ap, arith, subst}
use Rattle.bpf_isa.specs.Size.{byte_count}
use Rattle.confined_view.specs.Touched.{window_bytes}
use Rattle.confined_view.specs.declared.window.Window.{Window}
use Rattle.confined_view.proofs.Strides.{stack_place, range_place, no_place}
use Rattle.confined_view.proofs.Windows.{count-lengths, short_lengths, length_at}
use Rattle.confined_view.proofs.places.location_to_read.Goals as goal
use Rattle.confined_view.proofs.places.location_to_read.Goals.{then-strides-eq0-via-then-strides-eq0, then-strides-eq0-via-else-strides-eq0+then-strides-windows, else-strides-eq-STACK_STRIDES-via-then-strides-eq-STACK_STRIDES+else-end-le-STACK_LEN, else-strides-eq-STACK_STRIDES-via-else-strides-eq-STACK_STRIDES}

pub returns-then-end-le-STACK_LEN : goal.returns-then-end-le-STACK_LEN
returns-then-end-le-STACK_LEN c =
    stack_place _ c.args.address (byte_count c.args.size) (c.args.address / 2 ^ 32) (c.args.address % 2 ^ 32) (short_lengths _ c.requires.short)
    (omega (arith, count-lengths c.args.windows.now)) (omega arith) (omega arith) (omega arith)

pub returns-then-strides-eq0 : goal.returns-then-strides-eq0
returns-then-strides-eq0 c =
    let count = count-lengths c.args.windows.now in
    no_place _ c.args.address (byte_count c.args.size) (c.args.address / 2 ^ 32) (c.args.address % 2 ^ 32) (short_lengths _ c.requires.short)
    (omega arith) (omega arith)
    (λ i stride there. elim c.then-strides-eq0.branch [
      | then-strides-eq0-via-then-strides-eq0 w ↦ absurd (omega arith)
      | then-strides-eq0-via-else-strides-eq0+then-strides-windows w ↦ absurd (omega arith)
    ])
    (λ stride. elim c.else-strides-eq-STACK_STRIDES.branch [
      | else-strides-eq-STACK_STRIDES-via-then-strides-eq-STACK_STRIDES+else-end-le-STACK_LEN w ↦ omega arith
      | else-strides-eq-STACK_STRIDES-via-else-strides-eq-STACK_STRIDES w ↦ absurd (omega arith)
    ])

pub returns-then-end-as_slice : goal.returns-then-end-as_slice
returns-then-end-as_slice c =
    let count = count-lengths c.args.windows.now in
    no_place _ c.args.address (byte_count c.args.size) (c.args.address / 2 ^ 32) (c.args.address % 2 ^ 32) (short_lengths _ c.requires.short)
    (omega arith) (omega arith)
    (λ i stride there.
    let same : c.args.address / 2 ^ 32 - 1 ≡ i = omega arith in
    let within : c.args.address / 2 ^ 32 - 1 < length c.args.windows.now = omega arith in
    let len = length_at c.args.windows.now _ c.index-windows-index.result within c.index-windows-index.is in
    subst (λ (k : ℕ). get_or (map length (window_bytes c.args.windows.now)) k 0 < c.args.address % 2 ^ 32 + byte_count c.args.size) same (omega (arith, len, ap length c.as_slice.ensures, ap (λ (w : Window). length w.bytes.items) c.index-windows-index.is)))
    (λ stride. elim c.else-strides-eq-STACK_STRIDES.branch [
      | else-strides-eq-STACK_STRIDES-via-then-strides-eq-STACK_STRIDES+else-end-le-STACK_LEN w ↦ omega arith
      | else-strides-eq-STACK_STRIDES-via-else-strides-eq-STACK_STRIDES w ↦ absurd (omega arith)
    ])

pub returns : goal.returns
returns c =
    let count = count-lengths c.args.windows.now in
    let within : c.args.address / 2 ^ 32 - 1 < length c.args.windows.now = omega arith in
    let len = length_at c.args.windows.now _ c.index-windows-index.result within c.index-windows-index.is in
    range_place _ c.args.address (byte_count c.args.size) (c.args.address / 2 ^ 32) (c.args.address % 2 ^ 32) (c.args.address / 2 ^ 32 - 1)
    (short_lengths _ c.requires.short) (omega arith) (omega arith) (omega arith) (omega arith) (omega (arith, len, ap length c.as_slice.ensures, ap (λ (w : Window). length w.bytes.items) c.index-windows-index.is))
