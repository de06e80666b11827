use Rattle.std.proofs.Common.{ℕ, ◌-◌, List, length, replicate, sym, ap, ◌∙◌, arith}
use Rattle.cp_base.specs.Configuration.{with_numbered}
use Rattle.cp_base.specs.Pieces.{patched}
use Rattle.cp_base.specs.Buffer.{contents_of}
use Rattle.slm_bytes.proofs.Numbers.{number_inside, space_read, contents_of-set}
use Rattle.slm_bytes.proofs.flat.fill_at.Goals as goal

pub fill-requires : goal.fill-requires
fill-requires c =
    let bs = c.args.all.now.items in
    let inside = number_inside bs c.args.number (omega (arith, c.requires.some, c.requires.inside)) in
    let read = space_read bs c.args.number c.index_mut-space.result.now inside.0 inside.1 c.index_mut-space.ensures.value in
    omega (arith, c.requires.inside, ap length read)

pub returns : goal.returns
returns c =
    let bs = c.args.all.now.items in
    let inside = number_inside bs c.args.number (omega (arith, c.requires.some, c.requires.inside)) in
    let read = space_read bs c.args.number c.index_mut-space.result.now inside.0 inside.1 c.index_mut-space.ensures.value in
    contents_of-set bs c.args.number (c.args.number - 1) c.fill.new.self (omega arith)
    ∙ ap (with_numbered (contents_of bs) c.args.number) (c.fill.ensures.items ∙ ap (λ (xs : List ℕ). patched xs c.args.start (replicate c.args.n c.args.value)) (sym read))
