-- When two commands meet. This project's own.
use Rattle.std.specs.Prelude.{Bool, ◌||◌, List}
use Rattle.std.specs.List.{list_any}
use Rattle.cp_base.specs.Region.{Region}
use Rattle.cp_base.specs.Sharing.{meets_any}
use Rattle.cp_base.specs.declared.spans.Footprint.{Footprint}

-- whether two lists of regions have a byte in common
abbrev pub share_byte : List Region → List Region → Bool
share_byte some others = list_any (meets_any others) some

-- whether two commands touch a common byte that one of them may write
abbrev pub meets : Footprint → Footprint → Bool
meets a b = share_byte a.writes b.writes || (share_byte a.writes b.reads || share_byte a.reads b.writes)
