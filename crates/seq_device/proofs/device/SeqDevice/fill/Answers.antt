use Rattle.std.proofs.Common.{◌≡◌, ◌+◌, ◌≤◌, length, replicate, subst, sym, rules, arith}
use Rattle.std.proofs.lemmas.List.{length-replicate}
use Rattle.cp_base.specs.Contents.{Contents, bytes_of}
use Rattle.seq_device.specs.Standing.{HasSizes}
use Rattle.seq_device.proofs.Sizes.{HasSizes-put}
use Rattle.seq_device.proofs.device.SeqDevice.fill.Goals as goal

pub invariant_of-self : goal.invariant_of-self
invariant_of-self c =
    let flat : Contents = c.self.inside.flat in
    let range = c.args.range.now in
    let sizes : HasSizes c.self.inside.config flat = c.self.invariant.0 in
    let same : length (replicate range.len c.args.value) ≡ range.len = length-replicate range.len c.args.value in
    let within : range.start + range.len ≤ length (bytes_of flat range.space) = search rules in
    let inside : range.start + length (replicate range.len c.args.value) ≤ length (bytes_of flat range.space) = omega (arith, same, within) in (
      subst (λ (contents : Contents). HasSizes c.self.inside.config contents) (sym c.fill.ensures)
          (HasSizes-put c.self.inside.config flat range.space range.start (replicate range.len c.args.value) sizes inside),
      c.self.invariant.1,
    )
