-- The fields of a line: what each kind of field is, and its one text. This project's own.
use Rattle.std.specs.Prelude.{ℕ, List, [], ◌∷◌, ◌++◌, map, decimal, codes}
use Rattle.cp_text.specs.HexText.{hex_text}
use Rattle.cp_text.specs.Parts.{joined_by}
use Rattle.cp_base.specs.declared.lists.Access.{Access}
use Rattle.cp_base.specs.declared.lists.Access.TheVariants as access
use Rattle.cp_base.specs.declared.lists.CopySource.{CopySource}
use Rattle.cp_base.specs.declared.lists.CopySource.TheVariants as source
use Rattle.cp_base.specs.declared.lists.MemRange.{MemRange}

-- a kind of field: this very word; a name with a number behind it, which is at least and at most this;
-- or a name with a queue and an identifier, with data, sources or ranges behind it
pub data Field : Type 0 where
  Word : (text : List ℕ) → Field
  Number : (name : List ℕ) (least most : ℕ) → Field
  Identifier : (name : List ℕ) → Field
  Hex : (name : List ℕ) → Field
  Sources : (name : List ℕ) → Field
  Ranges : (name : List ℕ) → Field

-- what one field of a line says
pub data Value : Type 0 where
  Count : (number : ℕ) → Value
  Queued : (queue cid : ℕ) → Value
  Data : (bytes : List ℕ) → Value
  Copied : (sources : List CopySource) → Value
  Covered : (ranges : List MemRange) → Value

-- the number of a queue and an identifier in it, with a colon between
abbrev pub queued_text : ℕ → ℕ → List ℕ
queued_text queue cid = joined_by 58 (decimal queue ∷ decimal cid ∷ [])

-- three numbers with colons between
abbrev pub triple_text : ℕ → ℕ → ℕ → List ℕ
triple_text a b c = joined_by 58 (decimal a ∷ decimal b ∷ decimal c ∷ [])

-- n and three numbers for blocks of an NVM namespace, m and three numbers for bytes of a memory namespace
abbrev pub source_text : CopySource → List ℕ
source_text (source.Nvm ns lba count) = 110 ∷ triple_text ns lba count
source_text (source.Mem ns at len) = 109 ∷ triple_text ns at len

-- what stands behind the three numbers of a range: nothing, or a fourth part r where it is read only
abbrev pub access_parts : Access → List (List ℕ)
access_parts access.ReadWrite = []
access_parts access.ReadOnly = codes "r" ∷ []

abbrev pub range_text : MemRange → List ℕ
range_text range = joined_by 58 (decimal range.ns ∷ decimal range.at ∷ decimal range.len ∷ access_parts range.access)

-- the text of what a field says, without the field's name
abbrev pub value_text : Value → List ℕ
value_text (Count n) = decimal n
value_text (Queued queue cid) = queued_text queue cid
value_text (Data bytes) = hex_text bytes
value_text (Copied sources) = joined_by 44 (map source_text sources)
value_text (Covered ranges) = joined_by 44 (map range_text ranges)

-- the texts of a line's fields, from what they say one after the other; a word says nothing more
abbrev pub field_texts : List Field → List Value → List (List ℕ)
field_texts (Word text ∷ fields) values = text ∷ field_texts fields values
field_texts (Number name least most ∷ fields) (Count n ∷ values) = (name ++ decimal n) ∷ field_texts fields values
field_texts (Identifier name ∷ fields) (Queued queue cid ∷ values) =
    (name ++ queued_text queue cid) ∷ field_texts fields values
field_texts (Hex name ∷ fields) (Data bytes ∷ values) = (name ++ hex_text bytes) ∷ field_texts fields values
field_texts (Sources name ∷ fields) (Copied sources ∷ values) =
    (name ++ joined_by 44 (map source_text sources)) ∷ field_texts fields values
field_texts (Ranges name ∷ fields) (Covered ranges ∷ values) =
    (name ++ joined_by 44 (map range_text ranges)) ∷ field_texts fields values
field_texts _ _ = []

-- values of the kinds that the fields name, one for each field that is no word
abbrev pub IsShaped : List Field → List Value → Type 0
IsShaped [] [] = Unit {0}
IsShaped (Word text ∷ fields) values = IsShaped fields values
IsShaped (Number name least most ∷ fields) (Count n ∷ values) = IsShaped fields values
IsShaped (Identifier name ∷ fields) (Queued queue cid ∷ values) = IsShaped fields values
IsShaped (Hex name ∷ fields) (Data bytes ∷ values) = IsShaped fields values
IsShaped (Sources name ∷ fields) (Copied sources ∷ values) = IsShaped fields values
IsShaped (Ranges name ∷ fields) (Covered ranges ∷ values) = IsShaped fields values
IsShaped _ _ = ⊥
