use Rattle.std.proofs.Common.{◌≡◌, refl, ◌∙◌, arith, to_z, of_z, w32}
use Rattle.std.proofs.lemmas.Int.{ints}
use Rattle.bpf_exec.proofs.Frames.{call_saves, from_r6}
use Rattle.bpf_exec.specs.Seen.{machine_of}
use Rattle.bpf_exec.proofs.processor.Processor.call.Goals as goal

pub returns-clause-effect : goal.returns-clause-effect
returns-clause-effect c = λ t.
    let kept : to_z w32 (of_z w32 c.args.distance) ≡ c.args.distance = omega (arith, ints) in
    call_saves (machine_of c.args.self.now t) c.args.self.now.frames c.args.self.now.free c.args.distance (to_z w32 (of_z w32 c.args.distance)) c.copy_from_slice.new.self c.pointer_of.result
    refl (omega arith) c.args.self.now.few (omega arith) (c.copy_from_slice.ensures.after ∙ from_r6 c.args.self.now.registers (omega arith)) c.pointer_of.ensures kept
