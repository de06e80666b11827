-- What is printed of a device that carried out a script's plan.
use Rattle.std.proofs.Common.{◌≡◌, ℕ, ◌≤◌, ◌<◌, List, ◌++◌, length, map, Option, Result, Ok, Err, is_ok, sym, refl, ap, ◌∙◌, subst, arith}
use Rattle.std.specs.Prelude.{IsPermutation, IsSome, unwrap_or}
use Rattle.std.specs.List.{concat, slice_get}
use Rattle.std.proofs.lemmas.Bool.{false≢true}
use Rattle.std.proofs.lemmas.Option.{slice_get-get_or}
use Rattle.cp_base.specs.Configuration.{Configuration, size_of}
use Rattle.cp_base.specs.Contents.{bytes_of}
use Rattle.cp_base.specs.declared.limits.TheConstants.{MAX_COMMANDS}
use Rattle.cp_base.specs.declared.region.SpaceId.{SpaceId}
use Rattle.device_model.specs.State.{State}
use Rattle.script_cmds.specs.declared.item.Phase.{Phase}
use Rattle.script_line.specs.Sized.{AreSized}
use Rattle.script_cmds.specs.Kept.{KeepsOrderAndLimits}
use Rattle.script_cmds.specs.Text.{lines_of}
use Rattle.script_cmds.specs.declared.script.Script.{Script}
use Rattle.script_cmds.proofs.HostLaws.{few_sends}
use Rattle.history_model.specs.Entry.{Entry}
use Rattle.history_model.specs.Legal.{IsLegal, last_state}
use Rattle.history_model.specs.Plain.{PlainPart, plain_phase, plain_phases}
use Rattle.history_model.specs.Plan.{PlanFault, plan_of}
use Rattle.history_model.specs.Sent.{Sent, sends_of}
use Rattle.replay_print.specs.Lines.{summary_lines}
use Rattle.replay_print.specs.declared.summary.Summary.{Summary}
use Rattle.script_plan.specs.Meant.{meant}
use Rattle.script_plan.proofs.Counting.{length-sends_of}
use Rattle.script_plan.proofs.SizedSends.{few_of, script_sized}
use Rattle.trail_model.specs.Lawful.{IsLawful, Trail, world_of}
use Rattle.trail_model.specs.World.{World, home}
use Rattle.trail_model.proofs.Sound.{sound-world}
use Rattle.device_core.specs.Gives.{world_in}
use Rattle.schedule_model.specs.Deeds.{HostsDid}
use Rattle.schedule_model.specs.Schedule.{IsScheduled}
use Rattle.schedule_model.specs.Told.{TellsPlan}
use Rattle.nvmecp.specs.Finished.{IsFinished, printed_text}
use Rattle.nvmecp.specs.Lines.{ended_lines, shown_lines}
use Rattle.nvmecp.specs.Make.{SumsUp, load_workers}
use Rattle.nvmecp.specs.Shown.{AreShort, IsAllAtHome}
use Rattle.nvmecp.specs.Serve.{IsPrintOfHosts}
use Rattle.nvmecp.specs.Step.{IsPrintOf, IsPrintOfTrail}
use Rattle.nvmecp.specs.Summed.{Sums}
use Rattle.nvmecp.specs.declared.finished.Finished.{Finished}
use Rattle.nvmecp.proofs.Short.{script_short}
use Rattle.nvmecp.proofs.SummedUp.{summary_is}
use Rattle.nvmecp.proofs.Told.{printed_of, short_told}

-- the definition's plan, where what is planned has a meaning
pub record IsGiven (r : Result (List Phase) PlanFault) (plain : List (List PlainPart)) : Type 0 where
  pub given : List Phase
  pub is : r ≡ Ok given
  pub same : plain_phases given ≡ plain

pub has_plan : (r : Result (List Phase) PlanFault) (plain : List (List PlainPart)) → meant plain_phase r ≡ Ok plain → IsGiven r plain
has_plan (Ok given) plain is = record { given = given; is = refl; same = cc }
has_plan (Err fault) plain is = absurd (false≢true (ap is_ok is))

-- a history is legal for each plan that sends the same commands
pub legal_alike : (c : Configuration) (plan other : List Phase) (history : List Entry) → sends_of other ≡ sends_of plan → IsLegal c plan history → IsLegal c other history
legal_alike c plan other history same legal = record {
  each_once = subst (λ (xs : List Sent). IsPermutation (map (λ (entry : Entry). entry.sent) history) xs) (sym same) legal.each_once;
  in_order = legal.in_order;
  replays = legal.replays;
  paired = legal.paired;
}

tells_alike : (c : Configuration) (plan other : List Phase) (w : World) → sends_of other ≡ sends_of plan → TellsPlan c plan w → TellsPlan c other w
tells_alike c plan other w same t = record {
  history = t.history;
  told = t.told;
  legal = legal_alike c plan other t.history same t.legal;
  last = t.last;
  none_outstanding = t.none_outstanding;
  none_open = t.none_open;
  at_home = t.at_home;
}

-- what a finished device tells, by the script's configuration
told_by : (c : Configuration) (phases : List Phase) (f : Finished) → IsFinished c phases f → TellsPlan c phases (world_of c f.core.trail)
told_by c phases f h = subst (λ (x : Configuration). TellsPlan c phases (world_of x f.core.trail)) h.config h.told

-- what is printed of a plan that was carried out, by the trail
of_trail : (script : Script) (phases given : List Phase) (f : Finished) → AreSized (lines_of script) → KeepsOrderAndLimits script
    → plan_of script ≡ Ok given → sends_of given ≡ sends_of phases
    → IsFinished script.config phases f → IsPrintOfTrail script given f.core.trail (printed_text f.core script.shows)
of_trail script phases given f sized kept planned same h =
    let c : Configuration = script.config in
    let trail : Trail = f.core.trail in
    let tells : TellsPlan c given (world_of c trail) = tells_alike c phases given (world_of c trail) same (told_by c phases f h) in
    record {
      planned = planned;
      tells = tells;
      sized = script_sized script given tells.history sized kept planned tells.legal;
      printed = ap (λ (x : Configuration). concat (ended_lines 1 (world_of x trail).history) ++ concat (shown_lines (world_of x trail).state.contents script.shows)) h.config
          ∙ sym (printed_of c script.shows given (world_of c trail) tells);
    }

-- what is printed of a plan that was carried out by its schedule
pub print_of : (script : Script) (phases : List Phase) (workers choices : ℕ) (f : Finished) → AreSized (lines_of script) → KeepsOrderAndLimits script
    → meant plain_phase (plan_of script) ≡ Ok (plain_phases phases) → ((given : List Phase) → plan_of script ≡ Ok given → sends_of given ≡ sends_of phases)
    → IsFinished script.config phases f → IsScheduled script.config (plain_phases phases) workers choices f.core.trail
    → IsPrintOf script workers choices (printed_text f.core script.shows)
print_of script phases workers choices f sized kept planned same h scheduled =
    let found = has_plan (plan_of script) (plain_phases phases) planned in
    record {
      plan = found.given;
      trail = f.core.trail;
      scheduled = subst (λ (ps : List (List PlainPart)). IsScheduled script.config ps workers choices f.core.trail) (sym found.same) scheduled;
      print = of_trail script phases found.given f sized kept found.is (same found.given found.is) h;
    }

-- what is printed of a plan that was carried out by threads
pub hosts_print_of : (script : Script) (phases : List Phase) (f : Finished) → AreSized (lines_of script) → KeepsOrderAndLimits script
    → meant plain_phase (plan_of script) ≡ Ok (plain_phases phases) → ((given : List Phase) → plan_of script ≡ Ok given → sends_of given ≡ sends_of phases)
    → IsFinished script.config phases f → HostsDid (plain_phases phases) f.core.trail → IsPrintOfHosts script (printed_text f.core script.shows)
hosts_print_of script phases f sized kept planned same h did =
    let found = has_plan (plan_of script) (plain_phases phases) planned in
    let sends : sends_of found.given ≡ sends_of phases = same found.given found.is in
    record {
      plan = found.given;
      trail = f.core.trail;
      lawful = subst (λ (sent : List Sent). IsLawful script.config (length sent) f.core.trail) (sym sends) h.lawful;
      did = subst (λ (ps : List (List PlainPart)). HostsDid ps f.core.trail) (sym found.same) did;
      print = of_trail script phases found.given f sized kept found.is sends h;
    }

-- what sums up a plan that was carried out
pub sums_up_of : (script : Script) (phases : List Phase) (choices : ℕ) (f : Finished) (s : Summary) → AreSized (lines_of script) → KeepsOrderAndLimits script
    → meant plain_phase (plan_of script) ≡ Ok (plain_phases phases) → ((given : List Phase) → plan_of script ≡ Ok given → sends_of given ≡ sends_of phases)
    → IsFinished script.config phases f → IsScheduled script.config (plain_phases phases) load_workers choices f.core.trail
    → Sums (world_in f.core).history s → SumsUp script choices (summary_lines s)
unfolding print_of of_trail
sums_up_of script phases choices f s sized kept planned same h scheduled sums =
    let c : Configuration = script.config in
    let print : IsPrintOf script load_workers choices (printed_text f.core script.shows) = print_of script phases load_workers choices f sized kept planned same h scheduled in
    let here : Sums (world_of c f.core.trail).history s = subst (λ (x : Configuration). Sums (world_of x f.core.trail).history s) h.config sums in
    record {
      history = printed_text f.core script.shows;
      print = print;
      summed = summary_is (world_of c f.core.trail).history print.print.tells.history s print.print.tells.told here;
    }

-- a plan has no more commands than a device carries out
pub few_commands : (script : Script) (phases : List Phase) (commands : ℕ) → KeepsOrderAndLimits script → commands ≡ length (sends_of phases)
    → sends_of phases ≡ sends_of script.phases → commands ≤ MAX_COMMANDS
few_commands script phases commands kept is same =
    let count : length (sends_of phases) ≡ length (sends_of script.phases) = ap length same in
    omega (arith, is, count, length-sends_of script.phases, few_sends script kept, few_of script.form.version)

-- no line of it is too long
pub short_of : (script : Script) (phases : List Phase) (f : Finished) → AreSized (lines_of script) → KeepsOrderAndLimits script
    → sends_of phases ≡ sends_of script.phases → IsFinished script.config phases f → AreShort (world_in f.core).history
short_of script phases f sized kept same h =
    short_told (world_in f.core).history h.told.history h.told.told (script_short script phases h.told.history sized kept same h.told.legal)

-- ---- each byte is at home

some_within : (bytes : List ℕ) (offset : ℕ) → offset < length bytes → IsSome (slice_get bytes offset)
some_within bytes offset below = subst (λ (o : Option ℕ). IsSome o) (sym (slice_get-get_or bytes offset 0 below)) refl

-- each byte of each namespace is at home after a trail
abbrev AtHomeAfter : Configuration → Trail → Type 0
AtHomeAfter c trail = (space : SpaceId) (offset : ℕ) → offset < unwrap_or (size_of c space) 0 → IsSome (home c (world_of c trail) space offset)

at_home_after : (c : Configuration) (phases : List Phase) (trail : Trail) → IsLawful c (length (sends_of phases)) trail
    → TellsPlan c phases (world_of c trail) → AtHomeAfter c trail
at_home_after c phases trail lawful told space offset below =
    let fits = (sound-world c (length (sends_of phases)) trail lawful).fits in
    let bytes : List ℕ = bytes_of (last_state c told.history).contents space in
    let size : length bytes ≡ unwrap_or (size_of c space) 0 = ap (λ (s : State). length (bytes_of s.contents space)) told.last ∙ fits.sizes space in
    subst (λ (o : Option ℕ). IsSome o) (sym (told.at_home space offset)) (some_within bytes offset (omega (arith, size, below)))

pub at_home_of : (c : Configuration) (phases : List Phase) (f : Finished) → IsFinished c phases f → IsAllAtHome f.core
at_home_of c phases f h =
    subst (λ (x : Configuration). AtHomeAfter x f.core.trail) (sym h.config)
    (at_home_after c phases f.core.trail h.lawful (told_by c phases f h))
