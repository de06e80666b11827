use Rattle.std.proofs.Common.{◌∷◌}
use Rattle.trail_model.specs.Lawful.{world_of}
use Rattle.trail_model.specs.World.{first_world}
use Rattle.trail_model.specs.declared.events.Event.TheVariants as event
use Rattle.trail_model.proofs.Aborts.{abort-told, paired-world}
use Rattle.trail_model.proofs.Counts.{rest-from}
use Rattle.trail_model.proofs.trails.aborts_withdraw_what_is_queued.Goals as goal

pub returns : goal.returns
returns c = record {
  paired = paired-world;
  told = λ c commands seen more by host ordinal sent answer aborts s lawful found is_one.
      abort-told c commands (world_of c seen) by host ordinal sent answer aborts s
      (rest-from c commands (first_world c) seen (event.Do by host ordinal sent answer aborts ∷ more) lawful).0 found is_one;
}
