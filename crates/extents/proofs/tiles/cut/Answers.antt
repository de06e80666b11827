-- The extent around the place is cut in two.
use Rattle.std.proofs.Common.{◌≡◌, ◌-◌, OnOk, take, drop, ap, ◌∙◌, subst, arith}
use Rattle.std.specs.BTreeMap.{insert_entry}
use Rattle.std.specs.Ordering.{nat_cmp}
use Rattle.std.proofs.lemmas.List.{take_rest}
use Rattle.extents.specs.declared.tiles.Extent.TheVariants.{Home}
use Rattle.extents.proofs.Cutting.{Cut, cut_edge, cut_edges, cut_same}
use Rattle.extents.proofs.Tiling.{edge_here, edge_past, stands}
use Rattle.extents.proofs.tiles.cut.Goals as goal

pub returns-in_default-clause-edge : goal.returns-in_default-clause-edge
returns-in_default-clause-edge c = edge_past c.args.tiles.now.entries c.args.at c.requires.tiles c.requires.beside c.in_default.ensures

pub returns-then-start-at-clause-edge : goal.returns-then-start-at-clause-edge
returns-then-start-at-clause-edge c =
    edge_here c.args.tiles.now.entries c.in-Some.start c.args.at (Home c.in-Some.bytes.now)
    (stands 0 c.args.tiles.now.entries c.in-Some.start (Home c.in-Some.bytes.now) c.requires.tiles c.in-Some.ensures.entry) (omega arith)

made : (c : goal.Joined-unwrap) → Cut c.args.tiles.now.entries c.insert-kept.new.self.entries c.in-Some.start c.args.at c.in-Some.bytes.now c.in_ok-front.front c.in_ok-rest.rest
made c = record {
  stands = stands 0 c.args.tiles.now.entries c.in-Some.start (Home c.in-Some.bytes.now) c.requires.tiles c.in-Some.ensures.entry;
  low = omega (arith, c.in-Some.ensures.low);
  high = omega (arith, c.in-Some.ensures.high);
  fore = c.in_ok-front.ensures.items ∙ ap (take (c.args.at - c.in-Some.start)) c.as_slice.ensures;
  back = c.in_ok-rest.ensures.items ∙ take_rest c.as_slice-2.result.now (c.args.at - c.in-Some.start) ∙ ap (drop (c.args.at - c.in-Some.start)) c.as_slice-2.ensures;
  entries = subst (λ r. OnOk r (c.insert-kept.new.self.entries ≡ insert_entry nat_cmp c.insert.new.self.entries c.in-Some.start (Home c.in_ok-front.front))) c.unwrap.ensures c.insert-kept.ensures.entries
      ∙ ap (λ es. insert_entry nat_cmp es c.in-Some.start (Home c.in_ok-front.front)) c.in_ok-insert.ensures.entries;
}

pub returns-clause-same : goal.returns-clause-same
returns-clause-same c = cut_same _ _ _ _ _ _ _ (made c)

pub returns-clause-edges : goal.returns-clause-edges
returns-clause-edges c = cut_edges _ _ _ _ _ _ _ (made c) c.requires.tiles

pub returns-clause-edge : goal.returns-clause-edge
returns-clause-edge c = cut_edge _ _ _ _ _ _ _ (made c)
