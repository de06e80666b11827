-- What was read of a text: its entries, and then its shows. This project's own.
use Rattle.std.specs.Prelude.{◌≡◌, ℕ, ◌+◌, true, ◌⊎◌, List, [], ◌∷◌, ◌++◌, length}
use Rattle.cp_base.specs.Configuration.{Configuration}
use Rattle.cp_base.specs.Contents.{Contents, bytes_in}
use Rattle.cp_text.specs.Parts.{lacks}
use Rattle.script_cmds.specs.declared.item.Phase.{Phase}
use Rattle.script_cmds.specs.declared.item.Show.{Show}
use Rattle.history_model.specs.Entry.{Entry}
use Rattle.history_model.specs.Sent.{sends_of}
use Rattle.history_model.specs.Text.{entries_text, shown_text, shows_text}
use Rattle.history_check.specs.FirstBad.{IsFirstBad}
use Rattle.history_check.specs.Standing.{Stands}
use Rattle.history_check.specs.declared.checker.Checker.{Checker}
use Rattle.history_check.specs.declared.checking.Reading.{Reading}
use Rattle.history_check.specs.declared.checking.Reading.TheVariants as reading

-- the text begins with the lines of so many entries for which the checker stands, and this is left
pub record BeginsWithEntries (c : Configuration) (plan : List Phase) (text rest : List ℕ) (count : ℕ) (checker : Checker) : Type 0 where
  pub entries : List Entry
  pub stands : Stands c plan entries checker
  pub number : length entries ≡ count
  pub is : text ≡ entries_text 1 entries ++ rest

-- all entries were read, or the first bad line is found, whatever is shown
abbrev pub HasReadEntries : Configuration → List Phase → List ℕ → Checker → Reading → Type 0
HasReadEntries c plan text checker (reading.Left rest) =
    BeginsWithEntries c plan text rest.now (length (sends_of plan)) checker
HasReadEntries c plan text checker (reading.Breaks line) = (shows : List Show) → IsFirstBad c plan shows text line

-- a text does not begin with this line, which a newline ends
abbrev pub MissesLine : List ℕ → List ℕ → Type 0
MissesLine line text =
    (lacks 10 text ≡ true)
    ⊎ ((front : List ℕ) × (behind : List ℕ) × (text ≡ front ++ 10 ∷ behind) × (lacks 10 front ≡ true) × (line ≡ front ++ 10 ∷ [] → ⊥))

-- the text begins with the lines of some shows, and not with that of the next
pub record BreaksAtShow (contents : Contents) (shows : List Show) (first : ℕ) (text : List ℕ) (line : ℕ) : Type 0 where
  pub done : List Show
  pub next : Show
  pub more : List Show
  pub is : shows ≡ done ++ next ∷ more
  pub rest : List ℕ
  pub begins : text ≡ shows_text contents done ++ rest
  pub misses : MissesLine (shown_text next (bytes_in contents next.range)) rest
  pub number : line ≡ first + length done

-- the lines of all shows were read, or a line is found that is not that of its show
abbrev pub HasReadShows : Contents → List Show → ℕ → List ℕ → Reading → Type 0
HasReadShows contents shows first text (reading.Left rest) = text ≡ shows_text contents shows ++ rest.now
HasReadShows contents shows first text (reading.Breaks line) = BreaksAtShow contents shows first text line
