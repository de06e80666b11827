use Rattle.std.proofs.Common.{◌≡◌, ℕ, List, [], ◌∷◌, ◌++◌, subst, ap}
use Rattle.script_line.specs.declared.kind.LineKind.TheVariants as line
use Rattle.script_cmds.specs.Text.{numbers_line}
use Rattle.cp_base.specs.declared.commands.Command.TheVariants as command
use Rattle.cp_base.specs.declared.lists.MemRange.{MemRange}
use Rattle.load_maker.specs.Load.{done_lines, first_set, host_line, open_range, ready_slot, second_set, whole_program}
use Rattle.load_maker.specs.Made.{PrintsLines}
use Rattle.load_maker.proofs.Printed.{prints_first, prints_more}
use Rattle.load_maker.proofs.writing.push_ready.Goals as goal

set_lines : (cid : ℕ) (ranges wanted : List MemRange) (old new : List ℕ) → ranges ≡ wanted
    → PrintsLines (done_lines cid (command.SetCreate ranges)) old new → PrintsLines (done_lines cid (command.SetCreate wanted)) old new
set_lines cid ranges wanted old new same p = subst (λ (rs : List MemRange). PrintsLines (done_lines cid (command.SetCreate rs)) old new) same p

pub returns : goal.returns
returns c =
    let begun = c.push_line.new.out.items in
    let host = c.push_number.new.out.items in
    let one = c.push_set.new.out.items in
    let two = c.push_set-2.new.out.items in
    let three = c.push_program.new.out.items in
    let four = c.push_done.new.out.items in
    let second = done_lines 2 second_set in
    let third = done_lines 3 whole_program in
    let fourth = done_lines 4 ready_slot in
    let sets : PrintsLines (done_lines 1 first_set) host one =
    set_lines 1 (c.open_range.result ∷ []) (open_range 0 256 ∷ []) host one (ap (λ (r : MemRange). r ∷ []) c.open_range.ensures)
    c.in_ok-push_set.ensures
    in
    let both : PrintsLines second one two =
    set_lines 2 (c.open_range-2.result ∷ c.open_range-3.result ∷ []) (open_range 1024 256 ∷ open_range 0 16 ∷ []) one two
    (cc (c.open_range-2.ensures, c.open_range-3.ensures)) c.in_ok-push_set-2.ensures
    in
    prints_first (numbers_line line.Phase []) (host_line 1 ∷ done_lines 1 first_set ++ second ++ third ++ fourth) c.args.out.now.items begun four
    c.in_ok-push_line.ensures
    (prints_more (host_line 1 ∷ []) (done_lines 1 first_set ++ second ++ third ++ fourth) begun host four c.in_ok-push_number.ensures
    (prints_more (done_lines 1 first_set) (second ++ third ++ fourth) host one four sets
    (prints_more second (third ++ fourth) one two four both
    (prints_more third fourth two three four c.in_ok-push_program.ensures c.in_ok-push_done.ensures))))
