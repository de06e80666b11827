-- How a line is read from its text, and what is wrong where it is none. This project's own.
use Rattle.std.specs.Prelude.{ℕ, ◌==◌, nat_le, Bool, true, false, List, [], ◌∷◌, ◌++◌, Option, Some, None, option_map, Result, Ok, Err, if◌then◌else◌, codes}
use Rattle.std.specs.Str.{bytes_eq}
use Rattle.cp_text.specs.HexText.{hex_of}
use Rattle.cp_text.specs.Number.{spelled_number}
use Rattle.cp_text.specs.Parts.{parts_between}
use Rattle.cp_base.specs.Commands.{command_word}
use Rattle.cp_base.specs.declared.lists.Access.{Access}
use Rattle.cp_base.specs.declared.lists.Access.TheVariants as access
use Rattle.cp_base.specs.declared.lists.CopySource.{CopySource}
use Rattle.cp_base.specs.declared.lists.CopySource.TheVariants as source
use Rattle.cp_base.specs.declared.lists.MemRange.{MemRange}
use Rattle.script_line.specs.declared.field.Triple.{Triple}
use Rattle.script_line.specs.declared.fault.TextCause.{TextCause}
use Rattle.script_line.specs.declared.fault.TextCause.TheVariants as cause
use Rattle.script_line.specs.declared.kind.LineKind.{LineKind}
use Rattle.script_line.specs.declared.kind.LineKind.TheVariants.{Header, Namespace, Phase, Host, Send, Take, Show}
use Rattle.script_line.specs.declared.kind.SpaceKind.TheVariants.{Nvm, Mem}
use Rattle.script_line.specs.declared.version.Version.{Version}
use Rattle.script_line.specs.declared.version.Version.TheVariants.{One, Two}
use Rattle.script_line.specs.Field.{Field, Word, Number, Identifier, Hex, Sources, Ranges, Value, Count, Queued, Data, Copied, Covered}
use Rattle.script_line.specs.Line.{Line, fields_of}

-- which of two causes comes first in the order Word, Field, Number, Hex, Order, Limit
abbrev pub rank_of : TextCause → ℕ
rank_of cause.Word = 0
rank_of cause.Field = 1
rank_of cause.Number = 2
rank_of cause.Hex = 3
rank_of cause.Order = 4
rank_of cause.Limit = 5

abbrev pub first_of_two : TextCause → TextCause → TextCause
first_of_two a b = if nat_le (rank_of a) (rank_of b) then a else b

-- two things read, joined by a function, or the first of the causes
abbrev pub both : {A B C : Type 0} → (A → B → C) → Result A TextCause → Result B TextCause → Result C TextCause
both join (Ok a) (Ok b) = Ok (join a b)
both join (Ok a) (Err f) = Err f
both join (Err e) (Ok b) = Err e
both join (Err e) (Err f) = Err (first_of_two e f)

-- the next step, unless there is a cause already
infixl 10 ◌>>=◌
abbrev pub ◌>>=◌ : {A B : Type 0} → Result A TextCause → (A → Result B TextCause) → Result B TextCause
(Ok x) >>= f = f x
(Err e) >>= f = Err e

-- what stands behind a name at the front of a text
abbrev pub after_name : List ℕ → List ℕ → Option (List ℕ)
after_name [] text = Some text
after_name (c ∷ cs) [] = None
after_name (c ∷ cs) (d ∷ ds) = if d == c then after_name cs ds else None

-- a value, or the cause that there is none
abbrev pub or_cause : {A : Type 0} → TextCause → Option A → Result A TextCause
or_cause e None = Err e
or_cause e (Some x) = Ok x

-- a number that is read
abbrev pub read_number : List ℕ → Result ℕ TextCause
read_number text = or_cause cause.Number (spelled_number text)

-- what was read, changed by a function
abbrev pub changed : {A B : Type 0} → (A → B) → Result A TextCause → Result B TextCause
changed f (Ok x) = Ok (f x)
changed f (Err e) = Err e

-- a queue and an identifier in it
abbrev pub queued_in : List (List ℕ) → Result Value TextCause
queued_in (a ∷ b ∷ []) = both (λ (queue cid : ℕ). Queued queue cid) (read_number a) (read_number b)
queued_in _ = Err cause.Field

abbrev pub read_queued : List ℕ → Result Value TextCause
read_queued text = queued_in (parts_between 58 text)

-- three numbers
abbrev pub read_three_numbers : List ℕ → List ℕ → List ℕ → Result Triple TextCause
read_three_numbers a b c =
    both (λ (make : ℕ → Triple) (z : ℕ). make z) (both (λ (x y z : ℕ). record { ns = x; start = y; len = z }) (read_number a) (read_number b)) (read_number c)

abbrev pub read_triple : List (List ℕ) → Result Triple TextCause
read_triple (a ∷ b ∷ c ∷ []) = read_three_numbers a b c
read_triple _ = Err cause.Field

abbrev pub nvm_source : Triple → CopySource
nvm_source t = source.Nvm t.ns t.start t.len

abbrev pub mem_source : Triple → CopySource
mem_source t = source.Mem t.ns t.start t.len

abbrev pub mem_range : Access → Triple → MemRange
mem_range access t = record { ns = t.ns; at = t.start; len = t.len; access = access }

abbrev pub read_source : List ℕ → Result CopySource TextCause
read_source [] = Err cause.Field
read_source (kind ∷ text) =
    if kind == 110 then changed nvm_source (read_triple (parts_between 58 text))
    else if kind == 109 then changed mem_source (read_triple (parts_between 58 text)) else Err cause.Field

-- three numbers, and where an r stands behind them the range is read only
abbrev pub range_in : List (List ℕ) → Result MemRange TextCause
range_in (a ∷ b ∷ c ∷ []) = changed (mem_range access.ReadWrite) (read_three_numbers a b c)
range_in (a ∷ b ∷ c ∷ d ∷ []) =
    if bytes_eq d (codes "r") then changed (mem_range access.ReadOnly) (read_three_numbers a b c) else Err cause.Field
range_in _ = Err cause.Field

abbrev pub read_range : List ℕ → Result MemRange TextCause
read_range text = range_in (parts_between 58 text)

abbrev pub read_each : {A : Type 0} → (List ℕ → Result A TextCause) → List (List ℕ) → Result (List A) TextCause
read_each read [] = Ok []
read_each read (text ∷ texts) = both (λ xs ys. xs ++ ys) (changed (λ x. x ∷ []) (read text)) (read_each read texts)

-- what stands behind a name, read; or that the name is not there
abbrev pub read_behind : {A : Type 0} → (List ℕ → Result A TextCause) → Option (List ℕ) → Result A TextCause
read_behind read None = Err cause.Field
read_behind read (Some text) = read text

-- what a field says by its text
abbrev pub read_field : Field → List ℕ → Result (List Value) TextCause
read_field (Word word) text = if bytes_eq text word then Ok [] else Err cause.Field
read_field (Number name least most) text = changed (λ n. Count n ∷ []) (read_behind read_number (after_name name text))
read_field (Identifier name) text = changed (λ value. value ∷ []) (read_behind read_queued (after_name name text))
read_field (Hex name) text =
    changed (λ bytes. Data bytes ∷ []) (read_behind (λ t. or_cause cause.Hex (hex_of t)) (after_name name text))
read_field (Sources name) text =
    changed (λ sources. Copied sources ∷ [])
    (read_behind (λ t. read_each read_source (parts_between 44 t)) (after_name name text))
read_field (Ranges name) text =
    changed (λ ranges. Covered ranges ∷ [])
    (read_behind (λ t. read_each read_range (parts_between 44 t)) (after_name name text))

-- what the fields of a line say; all of them have to be there and no other
abbrev pub read_fields : List Field → List (List ℕ) → Result (List Value) TextCause
read_fields [] [] = Ok []
read_fields [] (text ∷ texts) = Err cause.Field
read_fields (field ∷ fields) [] = Err cause.Field
read_fields (field ∷ fields) (text ∷ texts) =
    both (λ xs ys. xs ++ ys) (read_field field text) (read_fields fields texts)

-- the kind of a header by the fields after its first: the version that it states; where it states none, the
-- field that does so is looked at as in version 1
abbrev pub header_kind : List (List ℕ) → LineKind
header_kind [] = Header One
header_kind (text ∷ more) = if bytes_eq text (codes "2") then Header Two else Header One

-- the kind of a send line by the fields after its first: the third field of the line has to be a
-- command's word
abbrev pub send_kind : Version → List (List ℕ) → Result LineKind TextCause
send_kind version (id ∷ text ∷ more) = or_cause cause.Word (option_map (λ word. Send version word) (command_word text))
send_kind version _ = Err cause.Field

-- the kind of a show line by the fields after its first
abbrev pub show_kind : List (List ℕ) → Result LineKind TextCause
show_kind [] = Err cause.Field
show_kind (text ∷ more) =
    if bytes_eq text (codes "nvm") then Ok (Show Nvm) else if bytes_eq text (codes "mem") then Ok (Show Mem) else Err cause.Word

-- the kind of a line of a script of a version by its fields, or that one of its words is none
abbrev pub kind_of : Version → List (List ℕ) → Result LineKind TextCause
kind_of version [] = Err cause.Word
kind_of version (text ∷ more) =
    if bytes_eq text (codes "nvmecp") then Ok (header_kind more)
    else if bytes_eq text (codes "nvm") then Ok (Namespace Nvm)
    else if bytes_eq text (codes "mem") then Ok (Namespace Mem)
    else if bytes_eq text (codes "phase") then Ok Phase
    else if bytes_eq text (codes "host") then Ok Host
    else if bytes_eq text (codes "send") then send_kind version more
    else if bytes_eq text (codes "take") then Ok (Take version)
    else if bytes_eq text (codes "show") then show_kind more
    else Err cause.Word

-- what a line says by its text, without its newline: its kind by its words, then its fields. Where it sends
-- or takes a command, its identifier is of this version; a header is of the version that it states.
abbrev pub line_of : Version → List ℕ → Result Line TextCause
line_of version text = do
  let fields : List (List ℕ) = parts_between 32 text
  kind ← kind_of version fields
  values ← read_fields (fields_of kind) fields
  Ok (record { kind = kind; values = values })
