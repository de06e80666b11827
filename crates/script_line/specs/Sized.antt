-- What the fields of a script's lines can say. This project's own.
use Rattle.std.specs.Prelude.{◌^◌, ◌<◌, List, length, All}
use Rattle.cp_base.specs.declared.lists.CopySource.{CopySource}
use Rattle.cp_base.specs.declared.lists.CopySource.TheVariants as source
use Rattle.cp_base.specs.declared.lists.MemRange.{MemRange}
use Rattle.cp_text.specs.HexText.{AreBytes}
use Rattle.script_line.specs.Field.{IsShaped, Value, Count, Queued, Data, Copied, Covered}
use Rattle.script_line.specs.Line.{Line, fields_of}

-- the numbers of a source have 64 bits
abbrev pub IsSizedSource : CopySource → Type 0
IsSizedSource (source.Nvm ns lba count) = (ns < 2 ^ 64) × (lba < 2 ^ 64) × (count < 2 ^ 64)
IsSizedSource (source.Mem ns at len) = (ns < 2 ^ 64) × (at < 2 ^ 64) × (len < 2 ^ 64)

-- the numbers of a range have 64 bits
abbrev pub IsSizedRange : MemRange → Type 0
IsSizedRange range = (range.ns < 2 ^ 64) × (range.at < 2 ^ 64) × (range.len < 2 ^ 64)

-- numbers have 64 bits, data are bytes, and a list has an element
abbrev pub IsSized : Value → Type 0
IsSized (Count n) = n < 2 ^ 64
IsSized (Queued queue cid) = (queue < 2 ^ 64) × (cid < 2 ^ 64)
IsSized (Data bytes) = AreBytes bytes
IsSized (Copied sources) = (0 < length sources) × All IsSizedSource sources
IsSized (Covered ranges) = (0 < length ranges) × All IsSizedRange ranges

-- the same of all fields of a line
abbrev pub IsSizedLine : Line → Type 0
IsSizedLine line = All IsSized line.values

-- the same of all lines
abbrev pub AreSized : List Line → Type 0
AreSized lines = All IsSizedLine lines

-- a line that has a text: what its fields say is of their kinds, and sized
pub record IsLine (line : Line) : Type 0 where
  pub shape : IsShaped (fields_of line.kind) line.values
  pub sized : IsSizedLine line
