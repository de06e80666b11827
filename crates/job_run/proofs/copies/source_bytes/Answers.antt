use Rattle.std.proofs.Common.{◌≡◌, ◌+◌, ◌*◌, ◌≤◌, subst, arith, rules}
use Rattle.cp_base.specs.Configuration.{bare}
use Rattle.cp_base.specs.Sharing.{source_region}
use Rattle.cp_base.specs.declared.limits.TheConstants.{MAX_NAMESPACE}
use Rattle.cp_base.specs.declared.lists.CopySource.{CopySource}
use Rattle.cp_base.specs.declared.lists.CopySource.TheVariants as source
use Rattle.job_run.proofs.copies.source_bytes.Goals as goal

pub overflow_mul-lba : goal.overflow_mul-lba
overflow_mul-lba c =
    let is : c.args.source.now ≡ source.Nvm c.in-Nvm.ns c.in-Nvm.lba c.in-Nvm.count = search rules in
    let fits : c.in-Nvm.lba * c.args.block + c.in-Nvm.count * c.args.block ≤ MAX_NAMESPACE =
    subst (λ (s : CopySource). (source_region (bare c.args.block 1 1) s).start + (source_region (bare c.args.block 1 1) s).len ≤ MAX_NAMESPACE) is c.requires.1 in
    let small : c.in-Nvm.lba * c.args.block ≤ 16777216 = omega arith in
    search rules

pub overflow_mul-count : goal.overflow_mul-count
overflow_mul-count c =
    let is : c.args.source.now ≡ source.Nvm c.in-Nvm.ns c.in-Nvm.lba c.in-Nvm.count = search rules in
    let fits : c.in-Nvm.lba * c.args.block + c.in-Nvm.count * c.args.block ≤ MAX_NAMESPACE =
    subst (λ (s : CopySource). (source_region (bare c.args.block 1 1) s).start + (source_region (bare c.args.block 1 1) s).len ≤ MAX_NAMESPACE) is c.requires.1 in
    let small : c.in-Nvm.count * c.args.block ≤ 16777216 = omega arith in
    search rules
