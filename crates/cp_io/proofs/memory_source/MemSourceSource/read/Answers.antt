use Rattle.std.proofs.Common.{◌≡◌, ℕ, List, ◌+◌, ◌-◌, ◌≤◌, ◌++◌, length, take, drop, sym, ◌∙◌, ap, rules, arith, length-drop, length-take}
use Rattle.std.proofs.lemmas.List.{drop-drop, take_rest}
use Rattle.cp_io.specs.Memory.{Supply}
use Rattle.cp_io.proofs.Pieces.{front_moved}
use Rattle.cp_io.proofs.memory_source.MemSourceSource.read.Goals as goal

pub returns-clause-this : goal.returns-clause-this
returns-clause-this c =
    let n = c.min-count.result in
    let at = c.self.inside.at in
    let bytes = c.self.inside.bytes.items in
    let left = drop at bytes in
    let whole = c.as_slice.result.now in
    let rest : take (length whole - at) (drop at whole) ≡ left = take_rest whole at ∙ ap (drop at) c.as_slice.ensures in
    let front : c.copy_from_slice.new.self ≡ take n left = c.copy_from_slice.ensures.after ∙ ap (take n) rest in
    let within : n ≤ length left = omega (arith, ap length rest) in
    let moved = front_moved n left c.copy_from_slice.new.self (drop n c.args.into.now) within front in
    let is_left = ap (λ (s : Supply). s.left) (sym c.self.view_is) in (
      search rules,
      search rules,
      is_left ∙ moved ∙ ap (λ (l : List ℕ). take n (c.copy_from_slice.new.self ++ drop n c.args.into.now) ++ l) (drop-drop n at bytes),
    )
