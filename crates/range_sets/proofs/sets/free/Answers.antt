-- The place before a number is freed.
use Rattle.std.proofs.Common.{◌-◌, sym, arith}
use Rattle.range_sets.proofs.Numbering.{in_range, without_set_at}
use Rattle.range_sets.proofs.sets.free.Goals as goal

pub overflow_sub-id : goal.overflow_sub-id
overflow_sub-id c = (in_range c.args.id c.args.places.now.items c.requires).0

pub index_mut-requires : goal.index_mut-requires
index_mut-requires c = let within = in_range c.args.id c.args.places.now.items c.requires in omega arith

pub returns-clause-freed : goal.returns-clause-freed
returns-clause-freed c =
    let within = in_range c.args.id c.args.places.now.items c.requires in
    sym (without_set_at 1 (c.args.id - 1) c.args.id c.args.places.now.items (omega arith))
