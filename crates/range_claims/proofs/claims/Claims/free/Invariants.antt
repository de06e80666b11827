use Rattle.range_claims.proofs.claims.Claims.free.Given as goal

-- the counter is one of the new ledger
abbrev pub ghosts-free_unread : goal.ghosts-free_unread
ghosts-free_unread a = record { name = a.blank.name; parts = a.blank.parts }
