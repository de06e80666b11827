-- The extent is moved out.
use Rattle.std.proofs.Common.{◌≡◌, ◌-◌, OnOk, IfOk, Some, length, sym, ◌∙◌, ap, subst, arith}
use Rattle.std.specs.BTreeMap.{get, insert_entry}
use Rattle.std.specs.Ordering.{nat_cmp}
use Rattle.cp_base.specs.Buffer.{Buffer}
use Rattle.extents.specs.Tiles.{HasExtent}
use Rattle.extents.specs.declared.tiles.Extent.TheVariants.{Home, Out}
use Rattle.extents.proofs.Replacing.{taken_out}
use Rattle.extents.proofs.Running.{whole_between}
use Rattle.extents.proofs.Tiling.{stands}
use Rattle.extents.proofs.tiles.take_out.Goals as goal

same_buffer : (a b : Buffer) → Home a ≡ Home b → a ≡ b
same_buffer a b e = cc

pub returns-clause-bytes : goal.returns-clause-bytes
returns-clause-bytes c =
    let old : c.unwrap.result ≡ get nat_cmp c.args.tiles.now c.args.from = subst (λ r. IfOk r (λ o. o ≡ get nat_cmp c.args.tiles.now c.args.from)) c.unwrap.ensures c.insert-old.ensures.old in
    let here : HasExtent c.args.tiles.now.entries c.args.from (Home c.in-Home.bytes) = sym old ∙ c.in-Home.ensures in
    let both : Some (Home c.requires.one.bytes) ≡ Some (Home c.in-Home.bytes) = sym c.requires.one.entry ∙ here in
    let same : Home c.requires.one.bytes ≡ Home c.in-Home.bytes = cc in
    let size : length c.in-Home.bytes.items ≡ c.args.to - c.args.from = ap (λ (b : Buffer). length b.items) (sym (same_buffer _ _ same)) ∙ c.requires.one.long in
    whole_between c.args.tiles.now.entries c.args.from c.args.to c.in-Home.bytes (stands 0 c.args.tiles.now.entries c.args.from (Home c.in-Home.bytes) c.requires.tiles here) size (omega (arith, c.requires.order))

pub returns-clause-taken : goal.returns-clause-taken
returns-clause-taken c =
    let made : c.insert-old.new.self.entries ≡ insert_entry nat_cmp c.args.tiles.now.entries c.args.from (Out (c.args.to - c.args.from)) =
    subst (λ r. OnOk r (c.insert-old.new.self.entries ≡ insert_entry nat_cmp c.args.tiles.now.entries c.args.from (Out (c.args.to - c.args.from)))) c.unwrap.ensures c.insert-old.ensures.entries in
    taken_out c.args.tiles.now.entries c.insert-old.new.self.entries c.args.from c.args.to c.requires.one.bytes
    (stands 0 c.args.tiles.now.entries c.args.from (Home c.requires.one.bytes) c.requires.tiles c.requires.one.entry) c.requires.one.long made
