use Rattle.std.proofs.Common.{◌+◌, ◌≤◌, length, subst, sym, rules}
use Rattle.cp_base.specs.Contents.{Contents, bytes_of}
use Rattle.seq_device.specs.Standing.{HasSizes}
use Rattle.seq_device.proofs.Sizes.{HasSizes-put}
use Rattle.seq_device.proofs.device.SeqDevice.patch.Goals as goal

pub invariant_of-self : goal.invariant_of-self
invariant_of-self c =
    let flat : Contents = c.self.inside.flat in
    let range = c.args.range.now in
    let sizes : HasSizes c.self.inside.config flat = c.self.invariant.0 in
    let inside : range.start + length c.args.bytes.now.items ≤ length (bytes_of flat range.space) = search rules in (
      subst (λ (contents : Contents). HasSizes c.self.inside.config contents) (sym c.patch.ensures)
          (HasSizes-put c.self.inside.config flat range.space range.start c.args.bytes.now.items sizes inside),
      c.self.invariant.1,
    )
