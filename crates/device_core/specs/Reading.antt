-- What a submit asks for, as the code reads it from the trail. This project's own.
use Rattle.core_model.specs.Asked.{Asked}
use Rattle.device_core.specs.declared.asked.Wanted.{Wanted}

-- what is read, as what is asked for
abbrev pub as_asked : Wanted → Asked
as_asked w = record { host = w.host; cid = w.cid; ordinal = w.ordinal; command = w.command.now }
