use Rattle.std.proofs.Common.{◌-◌, ◌∙◌, arith}
use Rattle.parts_bench.proofs.Lone.{none_loaded, put_more}
use Rattle.parts_bench.proofs.pieces.load_backwards.Goals as goal

pub loading-init : goal.loading-init
loading-init c = record {
  within = omega arith;
  slots = c.requires.slots;
  loaded = c.requires.none ∙ none_loaded c.args.count c.args.size c.requires.fits;
}

pub loading-preserved : goal.loading-preserved
loading-preserved c =
    let more = put_more c.loading.slots c.load.new.self c.loading.left (c.loading.left - 1) c.args.count c.args.size c.args.piece.now.items
    (omega arith) c.loading.invariant.within c.loading.invariant.slots c.requires.piece c.loading.invariant.loaded c.in_ok-load.ensures.loaded in
    record { within = omega arith; slots = more.0; loaded = more.1 }
