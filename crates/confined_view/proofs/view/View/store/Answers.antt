use Rattle.std.proofs.Common.{◌≡◌, ◌<◌, refl, List, length, map, arith, ap, sym, subst, ◌∙◌}
use Rattle.std.proofs.lemmas.List.{length-set}
use Rattle.bpf_isa.specs.Size.{byte_count}
use Rattle.bpf_model.specs.Address.{resolve, resolve_to_write}
use Rattle.bpf_model.specs.declared.addresses.Location.TheVariants.{InRange}
use Rattle.confined_view.specs.Touched.{Touched, window_bytes, writable_windows, view_stored}
use Rattle.confined_view.specs.declared.window.Window.{Window}
use Rattle.confined_view.proofs.Windows.{in_window, fits_window, fits_stack, to_read, stack_to_read, stored_in_range, writable-set, lengths-set, still_short}
use Rattle.confined_view.proofs.view.View.store.Goals as goal
use Rattle.confined_view.proofs.view.View.store.Goals.{After-self-1}

pub index_mut-requires : goal.index_mut-requires
index_mut-requires c =
    let n = byte_count c.args.size in
    let in_range = to_read c.deref.result.now c.args.address n c.in-InRange.index c.in-InRange.offset c.in-InRange.ensures in
    let there = in_window c.deref.result.now c.args.address n c.in-InRange.index c.in-InRange.offset in_range in
    omega (arith, there)

pub put_number-requires : goal.put_number-requires
put_number-requires c =
    let n = byte_count c.args.size in
    let in_range = to_read c.deref.result.now c.args.address n c.in-InRange.index c.in-InRange.offset c.in-InRange.ensures in
    let inside : InRange c.in-InRange.index c.in-InRange.offset ≡ resolve (map length (window_bytes c.self.inside.windows.items)) c.args.address n =
    subst (λ (ws : List Window). InRange c.in-InRange.index c.in-InRange.offset ≡ resolve (map length (window_bytes ws)) c.args.address n) c.deref.ensures.value in_range in
    fits_window c.self.inside.windows.items c.args.address n c.in-InRange.index c.in-InRange.offset c.index_mut.result.now inside c.index_mut.ensures.value

pub put_number-requires-in-InStack : goal.put_number-requires-in-InStack
put_number-requires-in-InStack c =
    let n = byte_count c.args.size in
    let in_stack = stack_to_read c.deref.result.now c.args.address n c.in-InStack.offset c.in-InStack.ensures in
    let fits = fits_stack (map length (window_bytes c.deref.result.now)) c.args.address n c.in-InStack.offset in_stack in
    omega (arith, fits)

-- the location among the windows of the view
written_to : (c : After-self-1) → InRange c.in-InRange.index c.in-InRange.offset
    ≡ resolve_to_write (writable_windows c.self.inside.windows.items) (map length (window_bytes c.self.inside.windows.items)) c.args.address (byte_count c.args.size)
written_to c =
    subst (λ (ws : List Window). InRange c.in-InRange.index c.in-InRange.offset ≡ resolve_to_write (writable_windows ws) (map length (window_bytes ws)) c.args.address (byte_count c.args.size))
    c.deref.ensures.value c.in-InRange.ensures

within : (c : After-self-1) → c.in-InRange.index < length c.self.inside.windows.items
within c =
    let n = byte_count c.args.size in
    in_window c.self.inside.windows.items c.args.address n c.in-InRange.index c.in-InRange.offset
    (to_read c.self.inside.windows.items c.args.address n c.in-InRange.index c.in-InRange.offset (written_to c))

pub invariant_of-self : goal.invariant_of-self
invariant_of-self c =
    let window : Window = record { bytes = c.put_number.new.bytes; writable = c.index_mut.result.now.writable } in
    let lengths = lengths-set c.self.inside.windows.items c.in-InRange.index c.index_mut.result.now window (within c) c.index_mut.ensures.value c.put_number.ensures.len in (
      omega (arith, length-set c.self.inside.windows.items c.in-InRange.index window, c.self.invariant.0),
      still_short c.self.inside.windows.items _ lengths c.self.invariant.1,
      c.self.invariant.2,
    )

pub returns-in-InRange-clause-stored : goal.returns-in-InRange-clause-stored
returns-in-InRange-clause-stored c =
    let window : Window = record { bytes = c.put_number.new.bytes; writable = c.index_mut.result.now.writable } in
    let done = stored_in_range c.self.inside.windows.items c.self.inside.stack.items c.args.address c.args.size c.args.value c.in-InRange.index c.in-InRange.offset
    c.index_mut.result.now window (written_to c) c.index_mut.ensures.value refl c.put_number.ensures.items in
    ap (λ (t : Touched). view_stored t c.args.address c.args.size c.args.value) (sym c.self.view_is) ∙ done

pub returns-in-InRange-clause-lengths : goal.returns-in-InRange-clause-lengths
returns-in-InRange-clause-lengths c =
    let window : Window = record { bytes = c.put_number.new.bytes; writable = c.index_mut.result.now.writable } in
    lengths-set c.self.inside.windows.items c.in-InRange.index c.index_mut.result.now window (within c) c.index_mut.ensures.value c.put_number.ensures.len
    ∙ ap (λ (t : Touched). map length t.windows) c.self.view_is

pub returns-in-InRange-clause-writable : goal.returns-in-InRange-clause-writable
returns-in-InRange-clause-writable c =
    let window : Window = record { bytes = c.put_number.new.bytes; writable = c.index_mut.result.now.writable } in
    writable-set c.self.inside.windows.items c.in-InRange.index c.index_mut.result.now window (within c) c.index_mut.ensures.value refl
    ∙ ap (λ (t : Touched). t.writable) c.self.view_is
