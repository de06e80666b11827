use Rattle.std.proofs.Common.{◌∙◌, ap}
use Rattle.cp_base.specs.Configuration.{Configuration, with_size}
use Rattle.cp_base.specs.declared.region.SpaceId.TheVariants.{Mem}
use Rattle.parts_bench.proofs.Home.{all_home}
use Rattle.parts_bench.proofs.exchanges.memory.Goals as goal

pub returns-in-Ok : goal.returns-in-Ok
returns-in-Ok c =
    all_home c.args.size c.in-Ok.extents c.in_ok-config.config
    (c.in_ok-config.ensures.value ∙ ap (λ (d : Configuration). with_size d (Mem 1) c.args.size) c.in_ok-new.ensures.value) c.in-Ok.ensures.zero
