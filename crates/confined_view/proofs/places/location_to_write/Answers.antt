use Rattle.std.proofs.Common.{ap, ◌∙◌, arith}
use Rattle.bpf_isa.specs.Size.{byte_count}
use Rattle.confined_view.specs.declared.window.Window.{Window}
use Rattle.confined_view.proofs.Windows.{in_window, to_write}
use Rattle.confined_view.proofs.places.location_to_write.Goals as goal

pub offset_bounds-windows-index : goal.offset_bounds-windows-index
offset_bounds-windows-index c =
    let there = in_window c.args.windows.now c.args.address (byte_count c.args.size) c.in-InRange.index c.in-InRange.offset c.in-InRange.ensures in
    omega (arith, there)

pub bounds-windows-index : goal.bounds-windows-index
bounds-windows-index c = in_window c.args.windows.now c.args.address (byte_count c.args.size) c.in-InRange.index c.in-InRange.offset c.in-InRange.ensures

pub bounds-windows-index-in-InRange : goal.bounds-windows-index-in-InRange
bounds-windows-index-in-InRange c = in_window c.args.windows.now c.args.address (byte_count c.args.size) c.in-InRange.index c.in-InRange.offset c.in-InRange.ensures

pub returns-in_default : goal.returns-in_default
returns-in_default c =
    to_write c.args.windows.now c.args.address (byte_count c.args.size) c.in-InRange.index c.in-InRange.offset c.index-windows-index.result c.in-InRange.ensures
    c.index-windows-index.is (ap (λ (w : Window). w.writable) c.index-windows-index.is ∙ c.if-not-windows-index.false)
