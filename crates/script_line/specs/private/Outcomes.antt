-- How the code reads a line, field by field. Private contracts speak of these.
use Rattle.std.specs.Prelude.{ℕ, List, [], ◌∷◌, ◌++◌, map, drop, Option, Some, None, option_map, Result, Ok, Err, slice_get, length, ◌<◌}
use Rattle.cp_base.specs.declared.lists.CopySource.{CopySource}
use Rattle.cp_base.specs.declared.lists.MemRange.{MemRange}
use Rattle.cp_text.specs.Parts.{parts_in}
use Rattle.script_line.specs.declared.fault.TextCause.{TextCause}
use Rattle.script_line.specs.declared.fault.TextCause.TheVariants as cause
use Rattle.cp_base.specs.declared.lists.Access.{Access}
use Rattle.script_line.specs.declared.field.Field as declared
use Rattle.script_line.specs.declared.field.Field.TheVariants as kind
use Rattle.script_line.specs.declared.field.FieldValue.{FieldValue}
use Rattle.script_line.specs.declared.kind.LineKind.{LineKind}
use Rattle.script_line.specs.declared.kind.LineKind.TheVariants as line
use Rattle.script_line.specs.declared.kind.CutLine.{CutLine}
use Rattle.script_line.specs.declared.reading.Reading.{Reading}
use Rattle.script_line.specs.declared.version.Version.{Version}
use Rattle.script_line.specs.declared.version.Version.TheVariants as version
use Rattle.script_line.specs.Field as field
use Rattle.script_line.specs.Field.{Field, Value, Data, Copied, Covered}
use Rattle.script_line.specs.Line.{identifier_field, fields_of}
use Rattle.script_line.specs.Reading.{both, changed, first_of_two, mem_range, read_field, read_fields, read_three_numbers}
use Rattle.script_line.specs.Values.{value_view}

-- a row of the code's table
abbrev pub field_view : declared.Field → Field
field_view (kind.Word text) = field.Word text.now
field_view (kind.Number name least most) = field.Number name.now least most
field_view (kind.Identifier name) = field.Identifier name.now
field_view (kind.Hex name) = field.Hex name.now
field_view (kind.Sources name) = field.Sources name.now
field_view (kind.Ranges name) = field.Ranges name.now

-- a value that may be missing, as a list
abbrev pub values_of : Option FieldValue → List Value
values_of None = []
values_of (Some value) = value_view value ∷ []

-- the first cause so far, with another one
abbrev pub noted : Option TextCause → TextCause → Option TextCause
noted None cause = Some cause
noted (Some first) cause = Some (first_of_two first cause)

-- what the fields before said
abbrev pub so_far : {A : Type 0} → Option TextCause → List A → Result (List A) TextCause
so_far None values = Ok values
so_far (Some cause) values = Err cause

-- what the fields before said, and then more of them
abbrev pub followed : {A : Type 0} → Option TextCause → List A → Result (List A) TextCause → Result (List A) TextCause
followed fault values more = both (λ xs ys. xs ++ ys) (so_far fault values) more

-- what the fields say that are read, and then more of them
abbrev pub reading_outcome : Reading → Result (List Value) TextCause → Result (List Value) TextCause
reading_outcome reading more = followed reading.fault (map value_view reading.values.items) more

-- what the fields say that are read, and then these fields of the rest
abbrev pub outcome_with : Reading → List Field → Result (List Value) TextCause
outcome_with reading fields =
    reading_outcome reading (read_fields fields (parts_in 32 (option_map (λ text. text.now) reading.rest)))

-- how many fields of a line are read before its kind is known
abbrev pub known_fields : LineKind → ℕ
known_fields (line.Send version word) = 3
known_fields (line.Show kind) = 2
known_fields _ = 1

-- the fields that are read when the kind is known
abbrev pub fields_behind : LineKind → List Field
fields_behind kind = drop (known_fields kind) (fields_of kind)

-- what the identifier of a send line says by its text
abbrev pub read_identifier : Version → Option (List ℕ) → Result (List Value) TextCause
read_identifier version None = Ok []
read_identifier version (Some text) = read_field (identifier_field version []) text

-- the version of a send line's identifier
abbrev pub version_of : LineKind → Version
version_of (line.Send version word) = version
version_of _ = version.One

-- what the fields of a line say whose kind is known
abbrev pub read_rest : CutLine → Result (List Value) TextCause
read_rest cut =
    both (λ xs ys. xs ++ ys) (read_identifier (version_of cut.kind) (option_map (λ text. text.now) cut.identifier))
    (read_fields (fields_behind cut.kind) (parts_in 32 (option_map (λ text. text.now) cut.rest)))

-- fewer than three parts
abbrev pub IsShort : List (List ℕ) → Type 0
IsShort parts = length parts < 3

-- a range of three numbers, where what stands behind them says what a program may do with it
abbrev pub range_with : Option Access → List ℕ → List ℕ → List ℕ → Result MemRange TextCause
range_with None a b c = Err cause.Field
range_with (Some access) a b c = changed (mem_range access) (read_three_numbers a b c)

-- the data that a field says; none where it says none
abbrev pub data_in : Value → List ℕ
data_in (Data bytes) = bytes
data_in _ = []

-- the sources that a field says
abbrev pub sources_in : Option Value → List CopySource
sources_in (Some (Copied sources)) = sources
sources_in _ = []

abbrev pub sources_at : List Value → ℕ → List CopySource
sources_at values place = sources_in (slice_get values place)

-- the ranges that a field says
abbrev pub ranges_in : Option Value → List MemRange
ranges_in (Some (Covered ranges)) = ranges
ranges_in _ = []

abbrev pub ranges_at : List Value → ℕ → List MemRange
ranges_at values place = ranges_in (slice_get values place)
