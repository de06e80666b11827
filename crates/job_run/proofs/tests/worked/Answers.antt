use Rattle.std.proofs.Common.{◌≡◌, ◌≤◌, ◌∷◌, [], None, List, IsTrue, length, refl, sym, ap, subst, ◌∙◌, arith, rules}
use Rattle.std.specs.List.{AllByRecursion}
use Rattle.std.proofs.lemmas.Bool.{true≢false}
use Rattle.cp_base.specs.Configuration.{Configuration}
use Rattle.cp_base.specs.Region.{Region}
use Rattle.cp_base.specs.declared.commands.Command.{Command}
use Rattle.cp_base.specs.declared.commands.Command.TheVariants as command
use Rattle.cp_base.specs.declared.region.SpaceId.TheVariants as space
use Rattle.device_model.specs.Checks.{refusal_of}
use Rattle.device_model.specs.Memory.{moves_bytes}
use Rattle.device_model.specs.State.{opening}
use Rattle.trail_model.specs.Footprints.{carried_regions, execution_of, is_execution}
use Rattle.trail_model.specs.LocalEffects.{local_effect}
use Rattle.trail_model.specs.Pieces.{RegionBytes}
use Rattle.job_run.specs.Held.{IsRange}
use Rattle.job_run.specs.Works.{IsWork, piece_regions, region_bytes}
use Rattle.job_run.specs.declared.work.Work.{Work}
use Rattle.job_run.proofs.tests.worked.Goals as goal

-- a device with 16 bytes of memory
abbrev device : Configuration
device = record { block = 512; depth = 1; budget = 1; nvm = []; mem = 16 ∷ [] }

abbrev two : Region
two = record { space = space.Mem 1; start = 4; len = 2 }

-- the fill is work in the opening state
fill-work : (w : Work) → w.block ≡ 512 → w.command.value ≡ command.MemFill 1 4 2 9 → piece_regions w.pieces.items ≡ two ∷ []
    → region_bytes w.pieces.items ≡ record { region = two; bytes = 0 ∷ 0 ∷ [] } ∷ [] → w.windows.items ≡ [] → w.reply.items ≡ [] → IsWork device (opening device) w
fill-work w block is regions bytes windows reply = record {
  block = sym block;
  passes = subst (λ (cmd : Command). refusal_of device (opening device) cmd ≡ None) (sym is) refl;
  moves = subst (λ (cmd : Command). IsTrue (moves_bytes cmd)) (sym is) refl;
  regions = regions ∙ subst (λ (cmd : Command). two ∷ [] ≡ carried_regions device (execution_of (opening device) cmd).ranges cmd) (sym is) refl;
  whole = subst (λ (ps : List RegionBytes). AllByRecursion (λ (p : RegionBytes). length p.bytes ≡ p.region.len) ps) (sym bytes) (refl, tt);
  ranges = subst (λ (rs : List Region). AllByRecursion IsRange rs) (sym regions) ((omega arith, omega arith), tt);
  no_windows = windows;
  no_reply = reply;
  reply = subst (λ (cmd : Command). length (local_effect device (execution_of (opening device) cmd) (region_bytes w.pieces.items) cmd).answer.bytes ≤ w.reply.spare) (sym is) (omega arith);
  execution = λ e. absurd (true≢false (sym e ∙ ap is_execution is));
}

pub run-requires : goal.run-requires
run-requires c = (device, opening device, fill-work _ (search rules) (search rules) (search rules) (search rules) (search rules) (search rules))
