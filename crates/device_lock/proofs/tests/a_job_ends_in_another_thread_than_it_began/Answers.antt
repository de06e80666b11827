use Rattle.device_lock.proofs.tests.a_job_ends_in_another_thread_than_it_began.Goals as goal

pub complete-requires : goal.complete-requires
complete-requires g c = (_, c.run-done.ensures.done _ _ c.in-Claimed.ensures.job)
