-- A source and a sink in memory, step by step. This project's own.
use Rattle.std.specs.Prelude.{ℕ, ◌+◌, ◌-◌, ◌^◌, ◌==◌, Bool, true, false, if◌then◌else◌, List, [], ◌++◌, length, take, drop, min}
use Rattle.std.specs.List.{list_any}
use Rattle.cp_io.specs.Counting.{counted}
use Rattle.cp_io.specs.declared.source.Got as got
use Rattle.cp_io.specs.declared.source.Got.TheVariants as got_answer
use Rattle.cp_io.specs.declared.sink.Took as took
use Rattle.cp_io.specs.declared.sink.Took.TheVariants as took_answer

-- What a source in memory has left and has given, the most bytes of one read, the numbers of the calls
-- that fail, how many calls it had, and its count of faults.
pub record Supply : Type 0 where
  pub left : List ℕ
  pub given : ℕ
  pub most : ℕ
  pub fails : List ℕ
  pub calls : ℕ
  pub faults : ℕ

-- What a sink in memory holds, the numbers of the calls that fail, how many calls it had, and its count
-- of faults.
pub record Store : Type 0 where
  pub held : List ℕ
  pub fails : List ℕ
  pub calls : ℕ
  pub faults : ℕ

-- how many bytes a sink in memory has room for
abbrev pub sink_room : ℕ
sink_room = 1048576

-- whether the next call after this many is in the list; calls are numbered from 1
abbrev pub fails_next : List ℕ → ℕ → Bool
fails_next fails calls = list_any (λ number. number == calls + 1) fails

-- how many calls there were after one more; a number past 2^32 - 1 is in no list, so the count may stop there
abbrev pub called : ℕ → ℕ
called calls = min (calls + 1) (2 ^ 32 - 1)

-- how many bytes a read into n places gives, where it does not fail
abbrev pub read_count : Supply → ℕ → ℕ
read_count supply n = min n (min supply.most (length supply.left))

-- what a read into n places answers
abbrev pub read_answer : Supply → ℕ → got.Got
read_answer supply n =
    if fails_next supply.fails supply.calls then got_answer.Failed
    else if length supply.left == 0 then got_answer.End
    else got_answer.Count (read_count supply n)

-- the source after a read into n places
abbrev pub after_read : Supply → ℕ → Supply
after_read supply n =
    if fails_next supply.fails supply.calls
    then record supply { calls = called supply.calls; faults = counted supply.faults 1 }
    else record supply { left = drop (read_count supply n) supply.left; given = supply.given + read_count supply n; calls = called supply.calls }

-- how many bytes a write of n takes, where it does not fail
abbrev pub write_count : Store → ℕ → ℕ
write_count store n = min n (sink_room - length store.held)

-- whether the next write of a piece fails: it is listed, or nothing fits
abbrev pub write_fails : Store → Bool
write_fails store = if fails_next store.fails store.calls then true else length store.held == sink_room

-- what a write of n bytes answers
abbrev pub write_answer : Store → ℕ → took.Took
write_answer store n = if write_fails store then took_answer.Failed else took_answer.Count (write_count store n)

-- the sink after a write of this piece
abbrev pub after_write : Store → List ℕ → Store
after_write store piece =
    if write_fails store
    then record store { calls = called store.calls; faults = counted store.faults 1 }
    else record store { held = store.held ++ take (write_count store (length piece)) piece; calls = called store.calls }
