use Rattle.std.proofs.Common.{◌≡◌, ℕ, ◌<◌, List, All, get_or, length, map, take, sym, ap, subst, ◌∙◌, arith}
use Rattle.std.proofs.lemmas.List.{get_or-map, length-map}
use Rattle.cp_base.specs.Contents.{Contents}
use Rattle.cp_base.specs.declared.lists.Access.TheVariants.{ReadOnly}
use Rattle.cp_base.specs.declared.lists.MemRange.{MemRange}
use Rattle.bpf_model.specs.Memory.{lengths_of}
use Rattle.confined_view.specs.Touched.{window_bytes}
use Rattle.confined_view.specs.declared.window.Window.{Window}
use Rattle.seq_device.specs.Ranges.{IsAtHand, with_window, with_windows}
use Rattle.seq_device.proofs.Windows.{still_at_hand, window_at_length, windows_more}
use Rattle.seq_device.proofs.loaded.put_windows.Goals as goal

-- as many windows as ranges
as_many : (windows : List Window) (ranges : List MemRange) → map (length {A = ℕ}) (window_bytes windows) ≡ lengths_of ranges → length windows ≡ length ranges
as_many windows ranges same =
    sym (length-map windows (λ (window : Window). window.bytes.items))
    ∙ (sym (length-map (window_bytes windows) (length {A = ℕ}))
    ∙ (ap (λ (lengths : List ℕ). length lengths) same ∙ length-map ranges (λ (range : MemRange). range.len)))

pub put_window-requires-clause-length : goal.put_window-requires-clause-length
put_window-requires-clause-length c =
    let window : Window = c.index-windows-index.result in
    ap (λ (w : Window). length w.bytes.items) c.index-windows-index.is
    ∙ window_at_length c.args.windows.now c.args.ranges.now c.loop-index.index window _ c.requires.lengths c.loop-index-test.true

pub loop-index-preserved : goal.loop-index-preserved
loop-index-preserved c =
    let contents : Contents = c.args.flat.now in
    let ranges : List MemRange = c.args.ranges.now in
    let windows : List Window = c.args.windows.now in
    let i : ℕ = c.loop-index.index in
    let window : Window = c.index-windows-index.result in
    let none : MemRange = record { ns = 0; at = 0; len = 0; access = ReadOnly } in
    let range : MemRange = get_or ranges i none in
    let less : i < length ranges = c.loop-index-test.true in
    let count : length windows ≡ length ranges = as_many windows ranges c.requires.lengths in
    let bytes_count : length (window_bytes windows) ≡ length windows = length-map windows (λ (w : Window). w.bytes.items) in
    let here : get_or (window_bytes windows) i window.bytes.items ≡ window.bytes.items =
    get_or-map (λ (w : Window). w.bytes.items) windows i window window.bytes.items (omega arith)
    ∙ sym (ap (λ (w : Window). w.bytes.items) c.index-windows-index.is) in
    let len : length window.bytes.items ≡ range.len =
    ap (λ (w : Window). length w.bytes.items) c.index-windows-index.is ∙ window_at_length windows ranges i window none c.requires.lengths less in
    let before : Contents = with_windows contents (take i ranges) (take i (window_bytes windows)) in (
      c.put_window.ensures
          ∙ (ap (λ (some : Contents). with_window some range window.bytes.items) c.loop-index.invariant.0
          ∙ (ap (λ (bytes : List ℕ). with_window before range bytes) (sym here)
          ∙ sym (windows_more contents ranges (window_bytes windows) i none window.bytes.items less (omega arith)))),
      subst (λ (some : Contents). All (IsAtHand some) ranges) (sym c.put_window.ensures)
          (still_at_hand c.loop-index.flat range window.bytes.items ranges (c.loop-index.invariant.1 i none less) len c.loop-index.invariant.1),
    )
