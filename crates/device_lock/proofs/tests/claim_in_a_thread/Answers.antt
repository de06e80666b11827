use denote.Param.Send.{sendable}
use Rattle.std.proofs.Crossing.{crosses}
use Rattle.atomic_table.proofs.badge.Badge.TheSendSync.{the_send as badge_send}
use Rattle.device_lock.proofs.Crossing.{device-sync}
use Rattle.device_lock.proofs.tests.claim_in_a_thread.Goals as goal

pub join-claimed-requires-send-F : goal.join-claimed-requires-send-F
join-claimed-requires-send-F g c κs within = let a = device-sync in let r = c.type_bounds.sync-R in search (sendable, crosses, badge_send) depth 40 fits 100000
