-- What the code's values mean, and what its readers give. This project's own.
use Rattle.std.specs.Prelude.{◌≡◌, ℕ, ◌+◌, ◌*◌, ◌-◌, List, map, Option, Some, Result, Ok, Err, slice_get}
use Rattle.cp_base.specs.declared.lists.CopySource.{CopySource}
use Rattle.cp_base.specs.declared.lists.MemRange.{MemRange}
use Rattle.script_line.specs.declared.fault.LineEnd.{LineEnd}
use Rattle.script_line.specs.declared.fault.LineEnd.TheVariants as ends
use Rattle.script_line.specs.declared.fault.TextCause.{TextCause}
use Rattle.script_line.specs.declared.field.FieldValue.{FieldValue}
use Rattle.script_line.specs.declared.field.FieldValue.TheVariants as said
use Rattle.script_line.specs.declared.field.RangeText.{RangeText}
use Rattle.script_line.specs.declared.field.SourceText.{SourceText}
use Rattle.script_line.specs.declared.field.SourceText.TheVariants as spelled
use Rattle.script_line.specs.declared.content.FieldContent.{FieldContent}
use Rattle.script_line.specs.declared.content.FieldContent.TheVariants as content
use Rattle.script_line.specs.declared.limits.TheConstants.{QUEUE_CIDS}
use Rattle.script_line.specs.declared.reading.ReadLine.{ReadLine}
use Rattle.script_line.specs.Field.{Value, Count, Queued, Data, Copied, Covered}
use Rattle.script_line.specs.Line.{Line}
use Rattle.script_line.specs.Reading.{mem_range, mem_source, nvm_source}

abbrev pub source_view : SourceText → CopySource
source_view (spelled.Nvm t) = nvm_source t
source_view (spelled.Mem t) = mem_source t

abbrev pub range_view : RangeText → MemRange
range_view range = mem_range range.access range.triple

-- what a field says that was read
abbrev pub value_view : FieldValue → Value
value_view (said.Count n) = Count n
value_view (said.Queued queue cid) = Queued queue cid
value_view (said.Data bytes) = Data bytes.items
value_view (said.Copied sources) = Copied (map source_view sources.items)
value_view (said.Covered ranges) = Covered (map range_view ranges.items)

-- what a line says that was read
abbrev pub line_view : ReadLine → Line
line_view line = record { kind = line.kind; values = map value_view line.values.items }

-- what a field says that is printed
abbrev pub content_view : FieldContent → Value
content_view (content.Count n) = Count n
content_view (content.Queued queue cid) = Queued queue cid
content_view (content.Data bytes) = Data bytes.now.items
content_view (content.Copied sources) = Copied sources.now
content_view (content.Covered ranges) = Covered ranges.now

-- What a reader returned, seen by a view, is what reading gives, unless memory is wanting.
abbrev pub Fails : {Y : Type 0} → LineEnd → Result Y TextCause → Type 0
Fails ends.NoMemory read = Unit {0}
Fails (ends.Fault cause) read = read ≡ Err cause

abbrev pub ReadsAs : {X Y : Type 0} → (X → Y) → Result X LineEnd → Result Y TextCause → Type 0
ReadsAs view (Ok x) read = read ≡ Ok (view x)
ReadsAs view (Err e) read = Fails e read

-- the number that a field says; 0 where there is none
abbrev pub number_in : Option Value → ℕ
number_in (Some (Count n)) = n
number_in _ = 0

-- the number at a place of what a line's fields say
abbrev pub number_at : List Value → ℕ → ℕ
number_at values place = number_in (slice_get values place)

-- the identifier of the device that a field says: that of a queue is counted behind those of the queues before it,
-- each of which has 65,536; 0 where there is none
abbrev pub identifier_in : Option Value → ℕ
identifier_in (Some (Count n)) = n
identifier_in (Some (Queued queue cid)) = (queue - 1) * QUEUE_CIDS + cid
identifier_in _ = 0

-- the identifier at a place of what a line's fields say
abbrev pub identifier_at : List Value → ℕ → ℕ
identifier_at values place = identifier_in (slice_get values place)

-- the queue that a field says; the only one where it says none
abbrev pub queue_in : Option Value → ℕ
queue_in (Some (Queued queue cid)) = queue
queue_in _ = 1

-- the queue at a place of what a line's fields say
abbrev pub queue_at : List Value → ℕ → ℕ
queue_at values place = queue_in (slice_get values place)
