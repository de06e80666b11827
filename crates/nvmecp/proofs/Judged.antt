-- What is told of a history that was held against the plan of its script.
use Rattle.std.proofs.Common.{◌≡◌, ℕ, List, Option, Some, None, Result, Ok, Err, is_ok, inl, inr, sym, ap, ◌∙◌}
use Rattle.std.specs.Prelude.{◌⊎◌, IsErr}
use Rattle.std.proofs.lemmas.Bool.{false≢true}
use Rattle.cp_base.specs.Configuration.{Configuration}
use Rattle.script_cmds.specs.Fault.{first_fault}
use Rattle.script_cmds.specs.declared.fault.ScriptFault.{ScriptFault}
use Rattle.script_cmds.specs.declared.item.Phase.{Phase}
use Rattle.script_cmds.specs.declared.item.Show.{Show}
use Rattle.script_cmds.specs.declared.script.Script.{Script}
use Rattle.history_model.specs.Plain.{plain_phase, plain_phases}
use Rattle.history_model.specs.Plan.{PlanFault, plan_of}
use Rattle.history_model.specs.Sent.{sends_of}
use Rattle.history_check.specs.FirstBad.{IsFirstBad, IsLegalText}
use Rattle.script_plan.specs.Meant.{meant}
use Rattle.nvmecp.specs.Check.{IsIllegalFor, IsLegalFor, IsPlannedText, JudgesBad, JudgesLegal, TellsBad, TellsLegal, bad_line, legal_line}
use Rattle.nvmecp.specs.Ends.{EndsAnswered, EndsDenied, EndsOn, EndsRefused}
use Rattle.nvmecp.specs.Step.{HasNoPlan, HasPlan, IsTextOf, TellsScript}
use Rattle.nvmecp.specs.declared.ending.Ending.{Ending}
use Rattle.nvmecp.specs.declared.ending.Ending.TheVariants as ending
use Rattle.nvmecp.proofs.Checked.{first_bad_alike, legal_text_alike}
use Rattle.nvmecp.proofs.Endings.{weaker_on}
use Rattle.nvmecp.proofs.OneOutput.{not_both}
use Rattle.nvmecp.proofs.Printed.{IsGiven, has_plan}

-- a text was read as a script, and the script planned: the plan has the commands of the definition's plan
pub record IsReadAndPlanned (text : List ℕ) (script : Script) (phases : List Phase) : Type 0 where
  pub faultless : first_fault text ≡ None
  pub read : IsTextOf script text
  pub planned : meant plain_phase (plan_of script) ≡ Ok (plain_phases phases)
  pub given : (given : List Phase) → plan_of script ≡ Ok given → sends_of given ≡ sends_of phases

-- ---- what is refused

-- a line of the text is faulty
pub faulty : (text : List ℕ) (fault : ScriptFault) → first_fault text ≡ Some fault → HasPlan text → ⊥
faulty text fault is p = not_both fault (first_fault text) p.faultless is

-- the script has no plan
pub unplanned : (text : List ℕ) (script : Script) (fault : PlanFault) → IsTextOf script text → plan_of script ≡ Err fault → HasPlan text → ⊥
unplanned text script fault read is p = false≢true (sym (ap is_ok is) ∙ p.planned script read)

none_planned : (planned : Result (List Phase) PlanFault) (plan : List Phase) → planned ≡ Ok plan → IsErr planned → ⊥
none_planned (Ok given) plan is err = absurd cc
none_planned (Err fault) plan is err = absurd cc

-- what is refused is neither done nor denied
pub refused_only : {K : Type 0} (line : List ℕ) (held : K → Option (List ℕ)) (faults : K → ℕ) (old new : K) (end : Ending) → EndsRefused line held faults old new end
    → (end ≡ ending.Done) ⊎ (end ≡ ending.Denied) → ⊥
refused_only line held faults old new ending.Done h other = h.due
refused_only line held faults old new ending.Refused h (inl is) = absurd cc
refused_only line held faults old new ending.Refused h (inr is) = absurd cc
refused_only line held faults old new ending.Denied h other = h.due
refused_only line held faults old new ending.WriteFault h (inl is) = absurd cc
refused_only line held faults old new ending.WriteFault h (inr is) = absurd cc
refused_only line held faults old new ending.NoMemory h (inl is) = absurd cc
refused_only line held faults old new ending.NoMemory h (inr is) = absurd cc
refused_only line held faults old new ending.Usage h other = h
refused_only line held faults old new ending.ReadFault h other = h

-- ---- what is judged

module _ (text history : List ℕ) (script : Script) (phases : List Phase) (r : IsReadAndPlanned text script phases) where
  the_plan : IsGiven (plan_of script) (plain_phases phases)
  the_plan = has_plan (plan_of script) (plain_phases phases) r.planned

  sends_alike : sends_of the_plan.given ≡ sends_of phases
  sends_alike = r.given the_plan.given the_plan.is

  is_planned : IsPlannedText text
  is_planned = record { faultless = r.faultless; script = script; read = r.read; plan = the_plan.given; planned = the_plan.is }

  tells_legal : (line : List ℕ) → JudgesLegal script.config phases script.shows history line → TellsLegal line text history
  unfolding is_planned the_plan
  tells_legal line j = record { of = is_planned; legal = legal_text_alike script.config phases the_plan.given script.shows history sends_alike j.legal; told = j.told }

  tells_bad : (line : List ℕ) → JudgesBad script.config phases script.shows history line → TellsBad line text history
  unfolding is_planned the_plan
  tells_bad line j = record { of = is_planned; number = j.number; bad = first_bad_alike script.config phases the_plan.given script.shows history j.number sends_alike j.bad; told = j.told }

  legal_here : IsLegalFor text history → IsLegalText script.config phases script.shows history
  legal_here legal = legal_text_alike script.config the_plan.given phases script.shows history (sym sends_alike) (legal.legal script the_plan.given r.read the_plan.is)

  illegal_here : IsIllegalFor text history → IsLegalText script.config phases script.shows history → ⊥
  illegal_here illegal legal = illegal.illegal script the_plan.given r.read the_plan.is (legal_text_alike script.config phases the_plan.given script.shows history sends_alike legal)

  pub has_a_plan : HasNoPlan text → ⊥
  has_a_plan (inl fault) = fault r.faultless
  has_a_plan (inr none) = none_planned (plan_of script) the_plan.given the_plan.is (none script r.read)

  module _ {K : Type 0} (held : K → Option (List ℕ)) (faults : K → ℕ) (old new : K) where
    abbrev Judged : Ending → Type 0
    Judged end = EndsOn (JudgesLegal script.config phases script.shows history) (λ told. ⊥) (JudgesBad script.config phases script.shows history) held faults old new end

    pub tells_ends : (end : Ending) → Judged end → EndsOn (λ line. TellsLegal line text history) (TellsScript text) (λ line. TellsBad line text history) held faults old new end
    tells_ends end h =
        weaker_on (JudgesLegal script.config phases script.shows history) (λ line. TellsLegal line text history) (λ told. ⊥) (TellsScript text) (JudgesBad script.config phases script.shows history)
        (λ line. TellsBad line text history) held faults old new end tells_legal (λ line none. absurd none) tells_bad h

    pub legal_ends : (end : Ending) → Judged end → IsLegalFor text history → (end ≡ ending.Refused) ⊎ (end ≡ ending.Denied) → ⊥
    legal_ends ending.Done h legal (inl is) = absurd cc
    legal_ends ending.Done h legal (inr is) = absurd cc
    legal_ends ending.Refused h legal other = h.due
    legal_ends ending.Denied h legal other = h.due.bad.illegal (legal_here legal)
    legal_ends ending.WriteFault h legal (inl is) = absurd cc
    legal_ends ending.WriteFault h legal (inr is) = absurd cc
    legal_ends ending.NoMemory h legal (inl is) = absurd cc
    legal_ends ending.NoMemory h legal (inr is) = absurd cc
    legal_ends ending.Usage h legal other = h
    legal_ends ending.ReadFault h legal other = h

    pub illegal_ends : (end : Ending) → Judged end → IsIllegalFor text history → (end ≡ ending.Done) ⊎ (end ≡ ending.Refused) → ⊥
    illegal_ends ending.Done h illegal other = illegal_here illegal h.due.legal
    illegal_ends ending.Refused h illegal other = h.due
    illegal_ends ending.Denied h illegal (inl is) = absurd cc
    illegal_ends ending.Denied h illegal (inr is) = absurd cc
    illegal_ends ending.WriteFault h illegal (inl is) = absurd cc
    illegal_ends ending.WriteFault h illegal (inr is) = absurd cc
    illegal_ends ending.NoMemory h illegal (inl is) = absurd cc
    illegal_ends ending.NoMemory h illegal (inr is) = absurd cc
    illegal_ends ending.Usage h illegal other = h
    illegal_ends ending.ReadFault h illegal other = h

-- ---- what holding a history against a plan tells

pub legal_judged : {K : Type 0} (c : Configuration) (plan : List Phase) (shows : List Show) (history : List ℕ) (held : K → Option (List ℕ)) (faults : K → ℕ) (old new : K) (end : Ending)
    → IsLegalText c plan shows history → EndsAnswered (λ line. line ≡ legal_line) held faults old new end
    → EndsOn (JudgesLegal c plan shows history) (λ told. ⊥) (JudgesBad c plan shows history) held faults old new end
legal_judged c plan shows history held faults old new end legal h =
    weaker_on (λ line. line ≡ legal_line) (JudgesLegal c plan shows history) (λ told. ⊥) (λ told. ⊥) (λ told. ⊥) (JudgesBad c plan shows history) held faults old new end
    (λ line is. record { legal = legal; told = is }) (λ line none. none) (λ line none. absurd none) h

pub bad_judged : {K : Type 0} (c : Configuration) (plan : List Phase) (shows : List Show) (history : List ℕ) (number : ℕ) (held : K → Option (List ℕ)) (faults : K → ℕ) (old new : K) (end : Ending)
    → IsFirstBad c plan shows history number → EndsDenied (bad_line number) held faults old new end
    → EndsOn (JudgesLegal c plan shows history) (λ told. ⊥) (JudgesBad c plan shows history) held faults old new end
bad_judged c plan shows history number held faults old new end bad h =
    weaker_on (λ line. ⊥) (JudgesLegal c plan shows history) (λ told. ⊥) (λ told. ⊥) (λ line. line ≡ bad_line number) (JudgesBad c plan shows history) held faults old new end
    (λ line none. absurd none) (λ line none. none) (λ line is. record { number = number; bad = bad; told = is }) h

-- what is denied is not refused
pub denied_only : {K : Type 0} (line : List ℕ) (held : K → Option (List ℕ)) (faults : K → ℕ) (old new : K) (end : Ending) → EndsDenied line held faults old new end → end ≡ ending.Refused → ⊥
denied_only line held faults old new ending.Done h is = h.due
denied_only line held faults old new ending.Refused h is = h.due
denied_only line held faults old new ending.Denied h is = absurd cc
denied_only line held faults old new ending.WriteFault h is = absurd cc
denied_only line held faults old new ending.NoMemory h is = absurd cc
denied_only line held faults old new ending.Usage h is = h
denied_only line held faults old new ending.ReadFault h is = h
