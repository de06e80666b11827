-- What a verdict says of a text. This project's own.
use Rattle.std.specs.Prelude.{ℕ, ◌+◌, ◌≤◌, List, All, unwrap_or}
use Rattle.cp_base.specs.Configuration.{Configuration, size_of}
use Rattle.script_line.specs.Sized.{IsSizedLine}
use Rattle.script_cmds.specs.Text.{show_line}
use Rattle.script_cmds.specs.declared.item.Phase.{Phase}
use Rattle.script_cmds.specs.declared.item.Show.{Show}
use Rattle.history_check.specs.FirstBad.{IsFirstBad, IsLegalText}
use Rattle.history_check.specs.declared.checking.Verdict.{Verdict}
use Rattle.history_check.specs.declared.checking.Verdict.TheVariants as verdict

-- the text is that of a legal history, or this is its first bad line
abbrev pub Says : Configuration → List Phase → List Show → List ℕ → Verdict → Type 0
Says c plan shows text verdict.Legal = IsLegalText c plan shows text
Says c plan shows text (verdict.Breaks line) = IsFirstBad c plan shows text line

-- a show lies inside a namespace
abbrev pub IsShowInside : Configuration → Show → Type 0
IsShowInside c show = show.range.start + show.range.len ≤ unwrap_or (size_of c show.range.space) 0

-- a show has numbers of 64 bits and lies inside a namespace
pub record IsShown (c : Configuration) (show : Show) : Type 0 where
  pub sized : IsSizedLine (show_line show)
  pub inside : IsShowInside c show

abbrev pub AreShown : Configuration → List Show → Type 0
AreShown c shows = All (IsShown c) shows
