use Rattle.std.proofs.Common.{[], ◌∷◌, List, ℕ, subst}
use Rattle.script_line.specs.declared.kind.LineKind.TheVariants as line
use Rattle.script_line.specs.declared.kind.SpaceKind.TheVariants as space_kind
use Rattle.script_cmds.specs.private.Printing.{Prints}
use Rattle.script_cmds.specs.Text.{header_line, size_lines}
use Rattle.script_cmds.proofs.Printed.{prints_three}
use Rattle.script_cmds.proofs.printing.push_configuration.Goals as goal

pub returns : goal.returns
returns c =
    let config = c.args.config.now in
    let begun = c.push_header.new.out.items in
    let half = c.push_sizes.new.out.items in
    let end = c.push_sizes-2.new.out.items in
    prints_three (header_line c.args.form config ∷ []) (size_lines (line.Namespace space_kind.Nvm) 1 config.nvm) (size_lines (line.Namespace space_kind.Mem) 1 config.mem) c.args.out.now.items begun half end
    c.in_ok-push_header.ensures (subst (λ (sizes : List ℕ). Prints (size_lines (line.Namespace space_kind.Nvm) 1 sizes) begun half) c.nvm.ensures.value c.in_ok-push_sizes.ensures)
    (subst (λ (sizes : List ℕ). Prints (size_lines (line.Namespace space_kind.Mem) 1 sizes) half end) c.mem.ensures.value c.in_ok-push_sizes-2.ensures)
