use Rattle.std.proofs.Common.{◌≡◌, drop, None}
use Rattle.std.specs.List.{last_or}
use Rattle.history_model.specs.Sent.{ordinals_of}
use Rattle.history_check.specs.Table.{waiting_of}
use Rattle.history_check.proofs.table.last_under.Given as goal

-- the last of the rest, or else the last so far
abbrev pub invariant-loop-sent : goal.invariant-loop-sent
invariant-loop-sent l = last_or l.last (ordinals_of l.cid (waiting_of (drop l.sent-index l.outstanding))) ≡ last_or None (ordinals_of l.cid (waiting_of l.outstanding))
