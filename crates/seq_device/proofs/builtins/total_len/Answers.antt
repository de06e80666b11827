use Rattle.std.proofs.Common.{◌≡◌, List, sum, take, ap, ◌∙◌, arith}
use Rattle.std.proofs.lemmas.List.{take_all}
use Rattle.cp_base.specs.declared.lists.MemRange.{MemRange}
use Rattle.bpf_model.specs.Memory.{lengths_of}
use Rattle.seq_device.proofs.Programs.{totals}
use Rattle.seq_device.proofs.builtins.total_len.Goals as goal

pub returns : goal.returns
returns c =
    let ranges : List MemRange = c.args.ranges.now in
    let whole : take c.loop-range.range-index ranges ≡ ranges = take_all c.loop-range.range-index ranges (omega arith) in
    record {
      total = λ memory. c.loop-range.invariant.0 ∙ (ap (λ (some : List MemRange). sum (lengths_of some)) whole ∙ totals memory ranges);
    }
