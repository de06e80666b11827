-- In a new program no byte is there.
use Rattle.std.proofs.Common.{is_some, length, ap, ◌∙◌}
use Rattle.std.specs.List.{list_any}
use Rattle.cp_base.specs.Pieces.{piece}
use Rattle.program_slots.specs.Program.{HeldProgram}
use Rattle.program_slots.proofs.Parts.{any_missing}
use Rattle.program_slots.proofs.changes.load_into.Goals as goal

pub put-requires-2-clause-missing : goal.put-requires-2-clause-missing
put-requires-2-clause-missing c =
    ap (λ (program : HeldProgram). list_any (λ byte. is_some byte) (piece program.bytes c.args.at (length c.args.bytes.now.items))) c.new-program.ensures
    ∙ any_missing c.args.at (length c.args.bytes.now.items) c.args.size
