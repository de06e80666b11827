-- A text has one first bad line at most.
use Rattle.std.proofs.Common.{◌≡◌, ℕ, ◌<◌, ◌≤◌, List, length, arith}
use Rattle.cp_base.specs.Configuration.{Configuration}
use Rattle.script_cmds.specs.declared.item.Phase.{Phase}
use Rattle.script_cmds.specs.declared.item.Show.{Show}
use Rattle.history_check.specs.FirstBad.{IsFirstBad, lines_in}

-- none of two comes first
not-earlier : (c : Configuration) (plan : List Phase) (shows : List Show) (text : List ℕ) (one other : ℕ) → IsFirstBad c plan shows text one → IsFirstBad c plan shows text other → one < other → ⊥
not-earlier c plan shows text one other a b less =
    let within = b.within in
    let upto : one ≤ length (lines_in text) = omega (arith, within, less) in
    a.here upto (b.before one less)

pub one-bad : (c : Configuration) (plan : List Phase) (shows : List Show) (text : List ℕ) (one other : ℕ) → IsFirstBad c plan shows text one → IsFirstBad c plan shows text other → one ≡ other
one-bad c plan shows text one other a b =
    let p : one < other → ⊥ = not-earlier c plan shows text one other a b in
    let q : other < one → ⊥ = not-earlier c plan shows text other one b a in
    omega (arith, p, q)
