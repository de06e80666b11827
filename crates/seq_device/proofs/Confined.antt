-- No step changes a byte that its command may not write.
use Rattle.std.proofs.Common.{◌≡◌, ◌∙◌, ℕ, Bool, true, false, List, length, Option, Some, None, refl, subst, sym, ap, inl, inr}
use Rattle.std.specs.List.{AllByRecursion}
use Rattle.std.proofs.lemmas.Bool.{true≢false}
use Rattle.cp_base.specs.Answer.{Answer}
use Rattle.cp_base.specs.Configuration.{Configuration}
use Rattle.cp_base.specs.Contents.{Contents, bytes_of}
use Rattle.cp_base.specs.Sets.{RangeSet}
use Rattle.cp_base.specs.declared.commands.Command.{Command}
use Rattle.cp_base.specs.declared.region.SpaceId.{SpaceId}
use Rattle.device_model.specs.Checks.{refusal_of}
use Rattle.device_model.specs.Effect.{effect_of}
use Rattle.device_model.specs.Execution.{Outcome}
use Rattle.device_model.specs.Memory.{moves_bytes}
use Rattle.device_model.specs.State.{State}
use Rattle.device_model.specs.Step.{DeviceStep, outcome_of, refused_or_done}
use Rattle.trail_model.specs.Claims.{FindsItself}
use Rattle.trail_model.specs.Fits.{SetFits, StateFits}
use Rattle.trail_model.specs.Footprints.{cut_for, execution_of, writes_of}
use Rattle.trail_model.specs.Pieces.{all_bytes, any_has_byte}
use Rattle.trail_model.specs.World.{OpenClaim}
use Rattle.trail_model.proofs.Carrying.{byte-stays, effect-local, tables-stay}
use Rattle.trail_model.proofs.Regions.{has_byte-some}
use Rattle.trail_model.proofs.Sound.{home-length}
use Rattle.trail_model.proofs.Tables.{change-fits, still-bytes}

-- a claim that is made in a state
abbrev claim_in : Configuration → State → Command → OpenClaim
claim_in c s cmd = record {
  place = 0;
  party = 0;
  request = record { place = 0; host = 0; ordinal = 0; cid = 0; command = cmd; names = None };
  execution = execution_of s cmd;
  pieces = cut_for c s cmd;
}

effect-fits : (c : Configuration) (s : State) (cmd : Command) → StateFits c s → refusal_of c s cmd ≡ None → StateFits c (effect_of c s cmd).next
effect-fits c s cmd fits passes = by_moves (moves_bytes cmd) refl
  where
    by_moves : (b : Bool) → moves_bytes cmd ≡ b → StateFits c (effect_of c s cmd).next
    by_moves false still = change-fits c s cmd still passes fits
    by_moves true moves =
        let finds : FindsItself c s (claim_in c s cmd) = record { passes = passes; moves = moves; execution = refl; pieces = refl } in
        record {
          sizes = λ space. ap (λ (o : Outcome). length (bytes_of o.next.contents space)) (effect-local c s cmd fits passes moves)
              ∙ (home-length c s (claim_in c s cmd) fits finds space ∙ fits.sizes space);
          sets = subst (λ (sets : List RangeSet). AllByRecursion (SetFits c) sets) (sym (tables-stay c s cmd fits passes moves).1) fits.sets;
        }

outcome-fits : (c : Configuration) (s : State) (cmd : Command) (o : Option Answer) → refusal_of c s cmd ≡ o → StateFits c s
    → StateFits c (refused_or_done s o (effect_of c s cmd)).next
outcome-fits c s cmd (Some answer) e fits = fits
outcome-fits c s cmd None e fits = effect-fits c s cmd fits e

-- what fits goes on to fit
pub step-fits : (c : Configuration) (s : State) (cmd : Command) (answer : Answer) (next : State) → StateFits c s → DeviceStep c s cmd answer next → StateFits c next
step-fits c s cmd answer next fits (inl done) = subst (λ (o : Outcome). StateFits c o.next) done (outcome-fits c s cmd (refusal_of c s cmd) refl fits)
step-fits c s cmd answer next fits (inr (inl full)) = subst (λ (t : State). StateFits c t) (sym full.unchanged) fits
step-fits c s cmd answer next fits (inr (inr (inl gone))) = subst (λ (t : State). StateFits c t) (sym gone.unchanged) fits
step-fits c s cmd answer next fits (inr (inr (inr other))) = subst (λ (t : State). StateFits c t) (sym other.unchanged) fits

module _ (c : Configuration) (s : State) (cmd : Command) (fits : StateFits c s) (space : SpaceId) (offset : ℕ)
    (out : any_has_byte (writes_of c (execution_of s cmd).ranges cmd) space offset ≡ false) where
  effect-keeps : refusal_of c s cmd ≡ None → all_bytes (effect_of c s cmd).next.contents space offset ≡ all_bytes s.contents space offset
  effect-keeps passes = by_moves (moves_bytes cmd) refl
    where
      by_moves : (b : Bool) → moves_bytes cmd ≡ b → all_bytes (effect_of c s cmd).next.contents space offset ≡ all_bytes s.contents space offset
      by_moves false still = ap (λ (contents : Contents). all_bytes contents space offset) (still-bytes c s cmd still)
      by_moves true moves = byte-stays c s cmd fits passes moves space offset
          (λ there. true≢false (sym (has_byte-some (writes_of c (execution_of s cmd).ranges cmd) space offset there) ∙ out))

  outcome-keeps : (o : Option Answer) → refusal_of c s cmd ≡ o
      → all_bytes (refused_or_done s o (effect_of c s cmd)).next.contents space offset ≡ all_bytes s.contents space offset
  outcome-keeps (Some answer) e = refl
  outcome-keeps None e = effect-keeps e

-- a byte that the command may not write stays
pub step-keeps : (c : Configuration) (s : State) (cmd : Command) (answer : Answer) (next : State) → StateFits c s → DeviceStep c s cmd answer next
    → (space : SpaceId) (offset : ℕ) → any_has_byte (writes_of c (execution_of s cmd).ranges cmd) space offset ≡ false
    → all_bytes next.contents space offset ≡ all_bytes s.contents space offset
step-keeps c s cmd answer next fits (inl done) space offset out =
    sym (ap (λ (o : Outcome). all_bytes o.next.contents space offset) done) ∙ outcome-keeps c s cmd fits space offset out (refusal_of c s cmd) refl
step-keeps c s cmd answer next fits (inr (inl full)) space offset out = ap (λ (t : State). all_bytes t.contents space offset) full.unchanged
step-keeps c s cmd answer next fits (inr (inr (inl gone))) space offset out = ap (λ (t : State). all_bytes t.contents space offset) gone.unchanged
step-keeps c s cmd answer next fits (inr (inr (inr other))) space offset out = ap (λ (t : State). all_bytes t.contents space offset) other.unchanged
