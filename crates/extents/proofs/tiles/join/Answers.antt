-- The first extent takes the bytes of all, and the others are taken away.
use Rattle.std.proofs.Common.{◌≡◌, OnOk, subst}
use Rattle.std.specs.BTreeMap.{insert_entry}
use Rattle.std.specs.Ordering.{nat_cmp}
use Rattle.extents.specs.declared.tiles.Extent.TheVariants.{Home}
use Rattle.extents.proofs.Joining.{Joined, joined_to_one, joins_there}
use Rattle.extents.proofs.tiles.join.Goals as goal

pub unwrap-requires : goal.unwrap-requires
unwrap-requires c =
    joins_there c.args.tiles.now.entries c.args.from c.args.to c.in_ok-joined.joined _ c.requires.order c.requires.tiles c.requires.first c.requires.last c.in_ok-joined.ensures c.insert-kept.ensures.absent

pub returns-2-clause-same : goal.returns-2-clause-same
returns-2-clause-same c =
    let made = subst (λ r. OnOk r (c.insert-kept.new.self.entries ≡ insert_entry nat_cmp c.args.tiles.now.entries c.args.from (Home c.in_ok-joined.joined))) c.unwrap.ensures c.insert-kept.ensures.entries in
    let all : Joined c.args.tiles.now.entries c.remove_between.new.tiles.entries c.args.from c.args.to =
    joined_to_one c.args.tiles.now.entries c.insert-kept.new.self.entries c.remove_between.new.tiles.entries c.args.from c.args.to c.in_ok-joined.joined c.requires.order c.requires.tiles c.requires.first c.requires.last
    c.in_ok-joined.ensures made c.remove_between.ensures in
    all.same

pub returns-2-clause-one : goal.returns-2-clause-one
returns-2-clause-one c =
    let made = subst (λ r. OnOk r (c.insert-kept.new.self.entries ≡ insert_entry nat_cmp c.args.tiles.now.entries c.args.from (Home c.in_ok-joined.joined))) c.unwrap.ensures c.insert-kept.ensures.entries in
    let all : Joined c.args.tiles.now.entries c.remove_between.new.tiles.entries c.args.from c.args.to =
    joined_to_one c.args.tiles.now.entries c.insert-kept.new.self.entries c.remove_between.new.tiles.entries c.args.from c.args.to c.in_ok-joined.joined c.requires.order c.requires.tiles c.requires.first c.requires.last
    c.in_ok-joined.ensures made c.remove_between.ensures in
    all.one
