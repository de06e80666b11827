use Rattle.std.proofs.Common.{◌≡◌, ℕ, List, Some, length, map, arith, ap, sym, subst, ◌∙◌}
use Rattle.confined_view.specs.declared.window.Window.{Window}
use Rattle.bpf_isa.specs.Size.{byte_count}
use Rattle.bpf_model.specs.Address.{resolve}
use Rattle.bpf_model.specs.declared.addresses.Location.TheVariants.{InRange}
use Rattle.confined_view.specs.Touched.{Touched, window_bytes, view_loaded}
use Rattle.confined_view.proofs.Windows.{in_window, fits_window, fits_stack, loaded_in_range}
use Rattle.confined_view.proofs.view.View.load.Goals as goal

pub index-requires : goal.index-requires
index-requires c =
    let there = in_window c.deref.result.now c.args.address (byte_count c.args.size) c.in-InRange.index c.in-InRange.offset c.in-InRange.ensures in
    omega (arith, there)

pub number_at-requires : goal.number_at-requires
number_at-requires c =
    let in_range : InRange c.in-InRange.index c.in-InRange.offset ≡ resolve (map length (window_bytes c.self.inside.windows.items)) c.args.address (byte_count c.args.size) =
    subst (λ (ws : List Window). InRange c.in-InRange.index c.in-InRange.offset ≡ resolve (map length (window_bytes ws)) c.args.address (byte_count c.args.size)) c.deref.ensures.value c.in-InRange.ensures in
    fits_window _ c.args.address (byte_count c.args.size) c.in-InRange.index c.in-InRange.offset c.index.result.now in_range c.index.ensures

pub number_at-requires-in-InStack : goal.number_at-requires-in-InStack
number_at-requires-in-InStack c = let fits = fits_stack _ c.args.address (byte_count c.args.size) c.in-InStack.offset c.in-InStack.ensures in omega (arith, fits)

pub returns-in-InRange-clause-number : goal.returns-in-InRange-clause-number
returns-in-InRange-clause-number c =
    let in_range : InRange c.in-InRange.index c.in-InRange.offset ≡ resolve (map length (window_bytes c.self.inside.windows.items)) c.args.address (byte_count c.args.size) =
    subst (λ (ws : List Window). InRange c.in-InRange.index c.in-InRange.offset ≡ resolve (map length (window_bytes ws)) c.args.address (byte_count c.args.size)) c.deref.ensures.value c.in-InRange.ensures in
    let is = loaded_in_range _ c.self.inside.stack.items c.args.address c.args.size c.in-InRange.index c.in-InRange.offset c.index.result.now in_range c.index.ensures in
    ap (λ (n : ℕ). Some n) c.number_at.ensures.number ∙ sym is ∙ ap (λ (t : Touched). view_loaded t c.args.address c.args.size) c.self.view_is
