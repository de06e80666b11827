use Rattle.std.proofs.Common.{◌≡◌, ℕ, pos, List, Option, Some, None, IfOk, sym, ap, subst, ◌∙◌, rules}
use Rattle.std.specs.Arc.{arc_value}
use Rattle.cp_base.specs.Configuration.{Configuration, IsWithinLimits}
use Rattle.cp_base.specs.Contents.{Contents}
use Rattle.cp_base.specs.Sets.{ranges_under}
use Rattle.cp_base.specs.declared.lists.MemRange.{MemRange}
use Rattle.bpf_isa.specs.declared.insn.Insn.{Insn}
use Rattle.bpf_model.specs.Walk.{instruction_at}
use Rattle.bpf_decode.specs.Slots.{insn_at}
use Rattle.range_sets.specs.Fit.{AreFit}
use Rattle.device_model.specs.Builtin.{builtin_at}
use Rattle.device_model.specs.Checks.{code_of}
use Rattle.device_model.specs.Execution.{Loaded, OfDevice, executed, memory_of, outcome_on, told_of}
use Rattle.device_model.specs.State.{State, slot_at}
use Rattle.seq_device.specs.Programs.{builtin_of}
use Rattle.seq_device.specs.Ranges.{AreAtHand}
use Rattle.seq_device.specs.Standing.{HasSizes, Standing}
use Rattle.seq_device.proofs.Executed.{executed_so, fit_at_hand, runs_loaded, runs_own, sizes_after}
use Rattle.seq_device.proofs.device.SeqDevice.run.Goals as goal

-- the ranges of a set that is kept
at_hand : (config : Configuration) (contents : Contents) (kept ranges : List MemRange) (d : Standing) → IsWithinLimits d.config → d.config ≡ config → HasSizes config contents
    → AreFit config kept → ranges ≡ kept → AreAtHand contents ranges
at_hand config contents kept ranges d limits same sizes fit value =
    fit_at_hand config contents ranges (subst (λ (c : Configuration). IsWithinLimits c) same limits) sizes
    (subst (λ (some : List MemRange). AreFit config some) (sym value) fit)

-- what decoded code is decoded from, by another name
decoded_as : (slots decoded : List (Option Insn)) (code : List ℕ) → slots ≡ decoded → ((place : ℕ) → insn_at decoded (pos place) ≡ instruction_at code place)
    → (place : ℕ) → insn_at slots (pos place) ≡ instruction_at code place
decoded_as slots decoded code same h place = ap (λ (some : List (Option Insn)). insn_at some (pos place)) same ∙ h place

pub run_builtin-requires-clause-at_hand : goal.run_builtin-requires-clause-at_hand
run_builtin-requires-clause-at_hand c =
    at_hand c.self.inside.config c.self.inside.flat c.in-Some.ranges.now c.as_slice-ranges.result.now c.args.self.now c.requires.limits
    (ap (λ (d : Standing). d.config) (sym c.self.view_is)) c.self.invariant.0 (c.in-Some.ensures.fit c.self.inside.config c.self.invariant.1) c.as_slice-ranges.ensures.value

pub run_loaded-requires-clause-at_hand : goal.run_loaded-requires-clause-at_hand
run_loaded-requires-clause-at_hand c =
    at_hand c.self.inside.config c.self.inside.flat c.in-Some.ranges.now c.as_slice-ranges.result.now c.args.self.now c.requires.limits
    (ap (λ (d : Standing). d.config) (sym c.self.view_is)) c.self.invariant.0 (c.in-Some.ensures.fit c.self.inside.config c.self.invariant.1) c.as_slice-ranges.ensures.value

pub invariant_of-self : goal.invariant_of-self
invariant_of-self c = (
  sizes_after c.self.inside.config c.self.inside.flat c.run_builtin.new.flat
      (outcome_on (OfDevice (builtin_of c.in-Some-device_program.program)) c.as_slice-ranges.result.now (memory_of c.self.inside.flat) c.args.p1 c.args.p2 c.args.budget).memory
      c.run_builtin.result c.self.invariant.0 c.run_builtin.ensures.left c.run_builtin.ensures.unchanged,
  c.self.invariant.1,
)

pub returns-in-Some-device_program-clause-done : goal.returns-in-Some-device_program-clause-done
returns-in-Some-device_program-clause-done c =
    let state : State = record { contents = c.self.inside.flat; slots = c.self.inside.slots; sets = c.self.inside.sets } in
    let new : Contents = c.run_builtin.new.flat in
    let found : Some c.in-Some.ranges.now ≡ ranges_under c.self.inside.sets c.args.set = search rules in
    subst (λ (d : Standing). IfOk c.run_builtin.result (λ ending. executed d.state c.args.slot (ranges_under d.state.sets c.args.set) c.args.p1 c.args.p2 c.args.budget
    ≡ record { answer = told_of c.args.budget ending; next = record state { contents = new } })) c.self.view_is
    (executed_so state c.args.slot (ranges_under state.sets c.args.set) c.as_slice-ranges.result.now (OfDevice (builtin_of c.in-Some-device_program.program))
    c.args.p1 c.args.p2 c.args.budget c.run_builtin.result new
    (ap (λ (some : List MemRange). Some some) c.as_slice-ranges.ensures.value ∙ found)
    (runs_own state c.args.slot (builtin_of c.in-Some-device_program.program) c.in-Some-device_program.ensures)
    c.run_builtin.ensures.ending c.run_builtin.ensures.left)

pub invariant_of-self-2 : goal.invariant_of-self-2
invariant_of-self-2 c =
    let code : List ℕ = code_of (slot_at (record { contents = c.self.inside.flat; slots = c.self.inside.slots; sets = c.self.inside.sets }) c.args.slot) in (
      sizes_after c.self.inside.config c.self.inside.flat c.run_loaded.new.flat
          (outcome_on (Loaded code) c.as_slice-ranges.result.now (memory_of c.self.inside.flat) c.args.p1 c.args.p2 c.args.budget).memory
          c.run_loaded.result c.self.invariant.0
          (c.run_loaded.ensures.left code (decoded_as c.deref.result.now (arc_value c.in-Ok.code.now) code c.deref.ensures c.in-Ok.ensures.decoded.instructions))
          c.run_loaded.ensures.unchanged,
      c.self.invariant.1,
    )

pub returns-clause-done : goal.returns-clause-done
returns-clause-done c =
    let state : State = record { contents = c.self.inside.flat; slots = c.self.inside.slots; sets = c.self.inside.sets } in
    let new : Contents = c.run_loaded.new.flat in
    let code : List ℕ = code_of (slot_at state c.args.slot) in
    let found : Some c.in-Some.ranges.now ≡ ranges_under c.self.inside.sets c.args.set = search rules in
    let none : None ≡ builtin_at c.args.slot = search rules in
    let same = decoded_as c.deref.result.now (arc_value c.in-Ok.code.now) code c.deref.ensures c.in-Ok.ensures.decoded.instructions in
    subst (λ (d : Standing). IfOk c.run_loaded.result (λ ending. executed d.state c.args.slot (ranges_under d.state.sets c.args.set) c.args.p1 c.args.p2 c.args.budget
    ≡ record { answer = told_of c.args.budget ending; next = record state { contents = new } })) c.self.view_is
    (executed_so state c.args.slot (ranges_under state.sets c.args.set) c.as_slice-ranges.result.now (Loaded code)
    c.args.p1 c.args.p2 c.args.budget c.run_loaded.result new
    (ap (λ (some : List MemRange). Some some) c.as_slice-ranges.ensures.value ∙ found)
    (runs_loaded state c.args.slot none) (c.run_loaded.ensures.ending code same) (c.run_loaded.ensures.left code same))
