use Rattle.std.proofs.Common.{◌≡◌, List, length, All, ap, sym, subst, ◌∙◌, rules}
use Rattle.cp_base.specs.Configuration.{Configuration}
use Rattle.cp_base.specs.Contents.{Contents, joined}
use Rattle.cp_base.specs.Region.{Region}
use Rattle.copy_ranges.specs.Copies.{copy_of}
use Rattle.seq_device.specs.Standing.{HasSizes}
use Rattle.seq_device.proofs.Gathered.{Has, length_joined, sources_inside, total_to}
use Rattle.seq_device.proofs.device.SeqDevice.copy.Goals as goal

pub gather-requires : goal.gather-requires
gather-requires c =
    let config : Configuration = c.args.self.now.config in
    let sources : List Region = c.in-Ok.plan.sources.items in
    let same : c.as_slice.result.now ≡ sources = search rules in
    let inside : All (Has config) sources = sources_inside config (copy_of config c.args.command.now) sources (search rules) (search rules) (search rules) in
    subst (λ (regions : List Region). All (Has config) regions) (sym same) inside

pub patch-requires-clause-length : goal.patch-requires-clause-length
patch-requires-clause-length c =
    let config : Configuration = c.args.self.now.config in
    let contents : Contents = c.args.self.now.state.contents in
    let sources : List Region = c.in-Ok.plan.sources.items in
    let to : Region = c.in-Ok.plan.to in
    let sizes : HasSizes config contents = search rules in
    let inside : All (Has config) sources = sources_inside config (copy_of config c.args.command.now) sources (search rules) (search rules) (search rules) in
    let bytes : c.in-Ok-gather.bytes.items ≡ joined contents sources = search rules in
    ap length bytes ∙ length_joined config contents sources sizes inside ∙ total_to (copy_of config c.args.command.now) sources to (search rules) (search rules)
