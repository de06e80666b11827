use Rattle.std.proofs.Common.{◌≡◌, drop, slice_get}
use Rattle.queue_pairs.specs.Outstanding.{queued}
use Rattle.queue_pairs.proofs.queue.queued_at.Given as goal

abbrev pub invariant-loop-command : goal.invariant-loop-command
invariant-loop-command l = slice_get (queued (drop l.command-index l.commands)) l.before ≡ slice_get (queued l.commands) l.i
