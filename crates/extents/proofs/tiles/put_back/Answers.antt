-- The hole is an extent as long as the bytes.
use Rattle.std.proofs.Common.{◌≡◌, OnOk, length, refl, subst}
use Rattle.std.specs.BTreeMap.{insert_entry}
use Rattle.std.specs.Ordering.{nat_cmp}
use Rattle.extents.specs.declared.tiles.Extent.TheVariants.{Home, Out}
use Rattle.extents.proofs.Replacing.{put_holes, replaced_shown, replaced_size, replaced_tiles}
use Rattle.extents.proofs.Tiling.{Stands, stands, stands_fits}
use Rattle.extents.proofs.tiles.put_back.Goals as goal

made : (c : goal.Joined-unwrap) → c.insert-old.new.self.entries ≡ insert_entry nat_cmp c.args.tiles.now.entries c.args.from (Home c.args.bytes)
made c = subst (λ r. OnOk r (c.insert-old.new.self.entries ≡ insert_entry nat_cmp c.args.tiles.now.entries c.args.from (Home c.args.bytes))) c.unwrap.ensures c.insert-old.ensures.entries

hole : (c : goal.Joined-unwrap) → Stands 0 c.args.tiles.now.entries c.args.from (Out (length c.args.bytes.items))
hole c = stands 0 c.args.tiles.now.entries c.args.from (Out (length c.args.bytes.items)) c.requires.tiles c.requires.hole

pub returns-clause-tiles : goal.returns-clause-tiles
returns-clause-tiles c = replaced_tiles c.args.tiles.now.entries c.insert-old.new.self.entries c.args.from (Out (length c.args.bytes.items)) (Home c.args.bytes) (hole c) (made c) refl

pub returns-clause-shown : goal.returns-clause-shown
returns-clause-shown c = replaced_shown c.args.tiles.now.entries c.insert-old.new.self.entries c.args.from (Out (length c.args.bytes.items)) (Home c.args.bytes) (hole c) (made c) refl

pub returns-clause-holes : goal.returns-clause-holes
returns-clause-holes c = put_holes c.args.tiles.now.entries c.insert-old.new.self.entries c.args.from (length c.args.bytes.items) c.args.bytes (hole c) refl (made c)

pub returns-clause-size : goal.returns-clause-size
returns-clause-size c = replaced_size c.args.tiles.now.entries c.insert-old.new.self.entries c.args.from (Out (length c.args.bytes.items)) (Home c.args.bytes) (hole c) (made c) refl

pub returns-clause-fits : goal.returns-clause-fits
returns-clause-fits c = stands_fits c.args.tiles.now.entries c.args.from (Out (length c.args.bytes.items)) (hole c)
