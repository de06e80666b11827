-- The limits of what the fields of a line say. This project's own.
use Rattle.std.specs.Prelude.{ℕ, nat_le, Bool, true, ◌&&◌, List, [], ◌∷◌, length}
use Rattle.std.specs.List.{list_all}
use Rattle.cp_base.specs.declared.limits.TheConstants.{MAX_ITEMS}
use Rattle.cp_base.specs.declared.lists.CopySource.{CopySource}
use Rattle.cp_base.specs.declared.lists.CopySource.TheVariants as source
use Rattle.cp_base.specs.declared.lists.MemRange.{MemRange}
use Rattle.script_line.specs.declared.limits.TheConstants.{MAX_32, MAX_CID, VERSION_2}
use Rattle.script_line.specs.Field.{Field, Word, Number, Identifier, Sources, Ranges, Value, Count, Queued, Copied, Covered}
use Rattle.script_line.specs.Line.{Line, fields_of}

-- whether a number lies from low to high
abbrev pub is_within : ℕ → ℕ → ℕ → Bool
is_within low high n = nat_le low n && nat_le n high

-- the namespace of a source
abbrev pub source_space : CopySource → ℕ
source_space (source.Nvm ns lba count) = ns
source_space (source.Mem ns at len) = ns

-- whether these are not too many sources, and their namespaces have numbers of 32 bits
abbrev pub sources_fit : List CopySource → Bool
sources_fit sources = nat_le (length sources) MAX_ITEMS && list_all (λ s. nat_le (source_space s) MAX_32) sources

-- whether these are not too many ranges, and their namespaces have numbers of 32 bits
abbrev pub ranges_fit : List MemRange → Bool
ranges_fit ranges = nat_le (length ranges) MAX_ITEMS && list_all (λ (range : MemRange). nat_le range.ns MAX_32) ranges

-- whether what a field says keeps the field's limit
abbrev pub value_fits : Field → Value → Bool
value_fits (Number name least most) (Count n) = is_within least most n
value_fits (Identifier name) (Queued queue cid) = is_within 1 VERSION_2.queues queue && nat_le cid MAX_CID
value_fits (Sources name) (Copied sources) = sources_fit sources
value_fits (Ranges name) (Covered ranges) = ranges_fit ranges
value_fits _ _ = true

-- whether what the fields of a line say keeps their limits
abbrev pub values_fit : List Field → List Value → Bool
values_fit [] values = true
values_fit (Word text ∷ fields) values = values_fit fields values
values_fit (field ∷ fields) [] = true
values_fit (field ∷ fields) (value ∷ values) = value_fits field value && values_fit fields values

-- the same of a line
abbrev pub line_fits : Line → Bool
line_fits line = values_fit (fields_of line.kind) line.values
