use Rattle.seq_device.proofs.device.SeqDevice.delete_set.Goals as goal

pub invariant_of-self : goal.invariant_of-self
invariant_of-self c = (c.self.invariant.0, c.delete.ensures.all_fit c.self.inside.config c.self.invariant.1)
