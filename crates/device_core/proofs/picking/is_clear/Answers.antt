use Rattle.std.proofs.Common.{◌≡◌, ◌∙◌, false, List, [], Option, ap, map, subst, sym, unwrap_or}
use Rattle.std.specs.List.{list_any}
use Rattle.cp_base.specs.Checks.{any_without_bytes}
use Rattle.cp_base.specs.Sharing.{is_outside, range_region}
use Rattle.cp_base.specs.declared.lists.MemRange.{MemRange}
use Rattle.cp_base.specs.declared.spans.Footprint.{Footprint}
use Rattle.core_model.specs.Picking.{is_clear_of}
use Rattle.device_core.specs.Keep.{as_kept_footprint}
use Rattle.device_core.proofs.Begun.{touched-on}
use Rattle.device_core.proofs.Prepared.{ranges-fit}
use Rattle.device_core.proofs.picking.is_clear.Goals as goal

pub footprint-touched-requires-clause-not_empty : goal.footprint-touched-requires-clause-not_empty
footprint-touched-requires-clause-not_empty c =
    subst (λ (set : Option (List MemRange)). any_without_bytes (map range_region (unwrap_or set [])) ≡ false) (sym c.set_of.ensures)
    (ranges-fit c.args.config.now c.args.sets.now c.args.command.now c.requires.fit).some

pub footprint-touched-requires-clause-inside : goal.footprint-touched-requires-clause-inside
footprint-touched-requires-clause-inside c =
    subst (λ (set : Option (List MemRange)). list_any (is_outside c.args.config.now) (map range_region (unwrap_or set [])) ≡ false) (sym c.set_of.ensures)
    (ranges-fit c.args.config.now c.args.sets.now c.args.command.now c.requires.fit).inside

pub returns : goal.returns
returns c =
    c.meets_none.ensures
    ∙ ap (λ (touched : Footprint). is_clear_of (map as_kept_footprint c.args.kept.now.kept) touched)
    (c.footprint-touched.ensures ∙ touched-on c.args.config.now c.args.slots.now c.args.sets.now c.args.command.now _ c.set_of.ensures)
