use Rattle.seat_lock.proofs.MeetingLemmas.{all_seen}
use Rattle.seat_lock.proofs.tests.write_and_meet.Goals as goal

pub returns-clause-seen : goal.returns-clause-seen
returns-clause-seen g c = all_seen _ _ c.meet.new.passes c.meet.ensures.all c.meet.ensures.met
