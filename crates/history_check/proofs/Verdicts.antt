-- What was read of a text, as the calls answer.
use Rattle.std.proofs.Common.{◌≡◌, ℕ, List, [], ◌∷◌, ◌++◌, length, refl, subst, arith, Bor}
use Rattle.cp_base.specs.Configuration.{Configuration}
use Rattle.cp_base.specs.Contents.{Contents}
use Rattle.script_cmds.specs.declared.item.Phase.{Phase}
use Rattle.script_cmds.specs.declared.item.Show.{Show}
use Rattle.history_model.specs.Sent.{sends_of}
use Rattle.history_model.specs.Text.{shows_text}
use Rattle.history_check.specs.FirstBad.{IsFirstBad}
use Rattle.history_check.specs.Reading.{BeginsWithEntries, BreaksAtShow, HasReadEntries, HasReadShows}
use Rattle.history_check.specs.declared.checker.Checker.{Checker}
use Rattle.history_check.specs.declared.checking.Reading.{Reading}
use Rattle.history_check.specs.declared.checking.Reading.TheVariants as reading

pub entries-break : (c k : Configuration) (plan : List Phase) (shows : List Show) (text : List ℕ) (checker : Checker) (r : Reading) (line : ℕ) → k ≡ c → r ≡ reading.Breaks line
    → HasReadEntries k plan text checker r → IsFirstBad c plan shows text line
entries-break c k plan shows text checker r line same is h =
    let bad : (shown : List Show) → IsFirstBad k plan shown text line = subst (λ (x : Reading). HasReadEntries k plan text checker x) is h in
    subst (λ (config : Configuration). IsFirstBad config plan shows text line) same (bad shows)

pub entries-left : (c k : Configuration) (plan : List Phase) (text : List ℕ) (checker : Checker) (r : Reading) (behind : Bor (List ℕ)) → k ≡ c → r ≡ reading.Left behind
    → HasReadEntries k plan text checker r → BeginsWithEntries c plan text behind.now (length (sends_of plan)) checker
entries-left c k plan text checker r behind same is h =
    subst (λ (config : Configuration). BeginsWithEntries config plan text behind.now (length (sends_of plan)) checker) same (subst (λ (x : Reading). HasReadEntries k plan text checker x) is h)

pub shows-stop : (contents : Contents) (shows : List Show) (first : ℕ) (text : List ℕ) (r : Reading) (line : ℕ) → r ≡ reading.Breaks line → HasReadShows contents shows first text r
    → BreaksAtShow contents shows first text line
shows-stop contents shows first text r line is h = subst (λ (x : Reading). HasReadShows contents shows first text x) is h

pub shows-left : (contents : Contents) (shows : List Show) (first : ℕ) (text : List ℕ) (r : Reading) (rest : Bor (List ℕ)) → r ≡ reading.Left rest → HasReadShows contents shows first text r
    → text ≡ shows_text contents shows ++ rest.now
shows-left contents shows first text r rest is h = subst (λ (x : Reading). HasReadShows contents shows first text x) is h

-- a text of no bytes is empty
pub no-length : (xs : List ℕ) → length xs ≡ 0 → xs ≡ []
no-length [] none = refl
no-length (x ∷ xs) none = absurd (omega (arith, none))
