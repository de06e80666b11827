use Rattle.std.proofs.Common.{◌≡◌, ℕ, ◌^◌, ◌<◌, List, All, length, take, sym, ap, subst, ◌∙◌, arith}
use Rattle.std.proofs.lemmas.List.{take_all}
use Rattle.cp_base.specs.Contents.{Contents}
use Rattle.cp_base.specs.declared.lists.MemRange.{MemRange}
use Rattle.bpf_model.specs.Memory.{windows_of}
use Rattle.confined_view.specs.Touched.{window_bytes}
use Rattle.device_model.specs.Execution.{memory_of}
use Rattle.seq_device.proofs.Windows.{windows_short}
use Rattle.seq_device.proofs.loaded.view_of.Goals as goal

pub new-requires-clause-short : goal.new-requires-clause-short
new-requires-clause-short c =
    let flat : Contents = c.args.flat.now in
    let ranges : List MemRange = c.args.ranges.now in
    let whole : take c.loop-range.range-index ranges ≡ ranges = take_all c.loop-range.range-index ranges (omega arith) in
    let same : windows_of (memory_of flat) ranges ≡ window_bytes c.loop-range.windows.items =
    ap (λ (some : List MemRange). windows_of (memory_of flat) some) (sym whole) ∙ c.loop-range.invariant.0 in
    subst (λ (windows : List (List ℕ)). All (λ (window : List ℕ). length window < 2 ^ 32) windows) same
    (windows_short flat (memory_of flat) ranges c.requires.at_hand.each)
