use Rattle.std.proofs.Common.{◌∷◌, [], map, subst, sym, arith}
use Rattle.std.specs.Prelude.{codes}
use Rattle.cp_base.specs.declared.commands.CommandWord.{CommandWord}
use Rattle.script_line.specs.Field.{IsShaped}
use Rattle.script_line.specs.Fits.{values_fit}
use Rattle.script_line.specs.Line.{command_fields, counts}
use Rattle.script_line.specs.Values.{number_at, value_view}
use Rattle.script_line.proofs.Shapes.{abort_names, execute_values, fill_values, load_values, mem_sources, nvm_sources, set_ranges, write_values}
use Rattle.script_line.proofs.commands.command_behind.Goals as goal

pub returns-in-NvmWrite-clause-values : goal.returns-in-NvmWrite-clause-values
returns-in-NvmWrite-clause-values c =
    let vs = map value_view c.args.values.items in
    let shape = subst (λ (w : CommandWord). IsShaped (command_fields c.args.version w) (map value_view c.args.values.items)) c.in-NvmWrite.is c.requires.shaped in
    let d = write_values (codes "ns=") (codes "lba=") vs shape in
    rw (c.number_at-first.ensures, c.number_at-second.ensures, c.as_slice-said.ensures.value, c.last_data.ensures d.0 (counts (number_at vs 0 ∷ number_at vs 1 ∷ [])) d.1) (sym d.1)

pub returns-in-MemWrite-clause-values : goal.returns-in-MemWrite-clause-values
returns-in-MemWrite-clause-values c =
    let vs = map value_view c.args.values.items in
    let shape = subst (λ (w : CommandWord). IsShaped (command_fields c.args.version w) (map value_view c.args.values.items)) c.in-MemWrite.is c.requires.shaped in
    let d = write_values (codes "ns=") (codes "at=") vs shape in
    rw (c.number_at-first.ensures, c.number_at-second.ensures, c.as_slice-said.ensures.value, c.last_data-in-MemWrite.ensures d.0 (counts (number_at vs 0 ∷ number_at vs 1 ∷ [])) d.1) (sym d.1)

pub returns-in-Load-clause-values : goal.returns-in-Load-clause-values
returns-in-Load-clause-values c =
    let vs = map value_view c.args.values.items in
    let shape = subst (λ (w : CommandWord). IsShaped (command_fields c.args.version w) (map value_view c.args.values.items)) c.in-Load.is c.requires.shaped in
    let d = load_values c.args.version vs shape in
    rw (c.number_at-first.ensures, c.number_at-second.ensures, c.number_at-third.ensures, c.as_slice-said.ensures.value, c.last_data-in-Load.ensures d.0 (counts (number_at vs 0 ∷ number_at vs 1 ∷ number_at vs 2 ∷ [])) d.1) (sym d.1)

pub returns-in-MemFill-clause-values : goal.returns-in-MemFill-clause-values
returns-in-MemFill-clause-values c =
    let vs = map value_view c.args.values.items in
    let shape = subst (λ (w : CommandWord). IsShaped (command_fields c.args.version w) (map value_view c.args.values.items)) c.in-MemFill.is c.requires.shaped in
    rw (c.number_at-first.ensures, c.number_at-second.ensures, c.number_at-third.ensures, c.number_at-fourth.ensures, c.as_slice-said.ensures.value) (sym (fill_values c.args.version vs shape))

pub returns-in-Execute-clause-values : goal.returns-in-Execute-clause-values
returns-in-Execute-clause-values c =
    let vs = map value_view c.args.values.items in
    let shape = subst (λ (w : CommandWord). IsShaped (command_fields c.args.version w) (map value_view c.args.values.items)) c.in-Execute.is c.requires.shaped in
    rw (c.number_at-first.ensures, c.number_at-second.ensures, c.number_at-third.ensures, c.number_at-fourth.ensures, c.number_at-fifth.ensures, c.as_slice-said.ensures.value) (sym (execute_values c.args.version vs shape))

pub source_list-requires-clause-some : goal.source_list-requires-clause-some
source_list-requires-clause-some c = nvm_sources c.args.version c.args.word (map value_view c.args.values.items) _ c.in-NvmCopy.is c.requires.shaped c.requires.sized (rw c.as_slice-said.ensures.value at c.sources_at.ensures)

pub source_list-requires-in-MemCopy-clause-some : goal.source_list-requires-in-MemCopy-clause-some
source_list-requires-in-MemCopy-clause-some c = mem_sources c.args.version c.args.word (map value_view c.args.values.items) _ c.in-MemCopy.is c.requires.shaped c.requires.sized (rw c.as_slice-said.ensures.value at c.sources_at-in-MemCopy.ensures)

pub range_list-requires-clause-some : goal.range_list-requires-clause-some
range_list-requires-clause-some c = set_ranges c.args.version c.args.word (map value_view c.args.values.items) _ c.in-SetCreate.is c.requires.shaped c.requires.sized (rw c.as_slice-said.ensures.value at c.ranges_at.ensures)
