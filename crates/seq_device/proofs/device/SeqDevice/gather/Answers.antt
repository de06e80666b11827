use Rattle.std.proofs.Common.{◌≡◌, ℕ, ◌<◌, List, ◌++◌, length, take, get_or, ap, sym, ◌∙◌, rules}
use Rattle.cp_base.specs.Contents.{Contents, bytes_in, joined}
use Rattle.cp_base.specs.Region.{Region}
use Rattle.seq_device.proofs.Gathered.{joined_take}
use Rattle.seq_device.proofs.device.SeqDevice.gather.Goals as goal

pub loop-range-preserved : goal.loop-range-preserved
loop-range-preserved c =
    let contents : Contents = c.args.self.now.state.contents in
    let ranges : List Region = c.args.ranges.now in
    let i : ℕ = c.loop-range.range-index in
    let range : Region = c.range-item.result in
    let below : i < length ranges = search rules in
    let item : get_or ranges i range ≡ range = search rules in
    let bytes : c.append.new.self.items ≡ joined contents (take i ranges) ++ bytes_in contents range = search rules in
    bytes ∙ sym (joined_take contents ranges i range below ∙ ap (λ (r : Region). joined contents (take i ranges) ++ bytes_in contents r) item)
