-- What is said of a line, by what was found of it.
use Rattle.std.proofs.Common.{◌≡◌, ℕ, ◌+◌, ◌<◌, ◌^◌, List, [], ◌∷◌, ◌++◌, length, Option, Some, None, refl, sym, subst}
use Rattle.std.specs.Prelude.{slice_get}
use Rattle.cp_base.specs.Configuration.{Configuration}
use Rattle.script_cmds.specs.declared.item.Phase.{Phase}
use Rattle.history_model.specs.Entry.{Entry}
use Rattle.history_model.specs.Sent.{Sent}
use Rattle.history_model.specs.Text.{entry_text}
use Rattle.history_check.specs.Beginning.{MayComeNext}
use Rattle.history_check.specs.Name.{IsNamed}
use Rattle.history_check.specs.Readiness.{IsKept, IsReady}
use Rattle.history_check.specs.SizedPlan.{IsSizedPlan}
use Rattle.history_check.specs.Standing.{FitsNoEntry, IsAccepted, IsNextRefused, IsNextTold, IsPlaceOf, Stands}
use Rattle.history_check.specs.Table.{IsAt, sends_in}
use Rattle.history_check.specs.declared.checker.Checker.{Checker}
use Rattle.history_check.specs.declared.table.Table.{Table}
use Rattle.history_check.proofs.Accepting.{Ended, accept-next, next-place, next-ready, refuse-next, same-place, stands-same}
use Rattle.history_check.proofs.NamedLines.{entry-named}
use Rattle.history_check.proofs.Places.{has-place}

-- a place that a line names
abbrev pub IsPlaceIn : List Sent → List ℕ → Option ℕ → Type 0
IsPlaceIn sends line o = (host ordinal : ℕ) → IsNamed line host ordinal → IsPlaceOf sends host ordinal o

-- the checker has only looked at the line
pub record HasLooked (old mid : Checker) : Type 0 where
  pub device : mid.device ≡ old.device
  pub withdrawn : mid.withdrawn ≡ old.withdrawn
  pub kept : IsKept mid.awaiting
  pub table : mid.awaiting.table ≡ old.awaiting.table
  pub over : mid.awaiting.over.items ≡ old.awaiting.over.items

module _ (c : Configuration) (plan : List Phase) (entries : List Entry) (old : Checker) (line : List ℕ) (sized : IsSizedPlan c plan) (st : Stands c plan entries old) (few : length entries + 1 < 2 ^ 64) where
  -- it names no command
  pub refused-unnamed : IsPlaceIn (sends_in old.awaiting.table) line None → FitsNoEntry c plan entries line
  refused-unnamed named next may text =
      let q = next-place c plan entries old st next may in
      named next.sent.host next.sent.ordinal (entry-named c plan entries next line sized may few text) q.0 (record { s = next.sent; at = q.1; host = refl; ordinal = refl })

  -- the place of the command of an entry that may come next is the one that its line names
  named-here : (place : ℕ) (next : Entry) → IsPlaceIn (sends_in old.awaiting.table) line (Some place) → MayComeNext c plan entries next → entry_text (length entries + 1) next ≡ line ++ 10 ∷ []
      → slice_get (sends_in old.awaiting.table) place ≡ Some next.sent
  named-here place next named may text =
      let q = next-place c plan entries old st next may in
      let is : IsAt (sends_in old.awaiting.table) next.sent.host next.sent.ordinal place = named next.sent.host next.sent.ordinal (entry-named c plan entries next line sized may few text) in
      let same : place ≡ q.0 = same-place c plan entries old st place q.0 next.sent is q.1 in
      subst (λ (p : ℕ). slice_get (sends_in old.awaiting.table) p ≡ Some next.sent) (sym same) q.1

  -- it names a command that is not ready
  pub refused-unready : (place : ℕ) → IsPlaceIn (sends_in old.awaiting.table) line (Some place) → (IsReady (sends_in old.awaiting.table) old.awaiting.over.items place → ⊥) → FitsNoEntry c plan entries line
  refused-unready place named unready next may text = unready (next-ready c plan entries old st next place may (named-here place next named may text))

  looked : (mid : Checker) → HasLooked old mid → Stands c plan entries mid
  looked mid l = stands-same c plan entries old mid st l.device l.withdrawn l.kept l.table l.over

  -- it tells nothing that the entry of its command can be
  pub refused-untold : (place k : ℕ) (mid : Checker) → IsPlaceIn (sends_in old.awaiting.table) line (Some place) → HasLooked old mid → k ≡ length entries + 1 → IsNextRefused mid.withdrawn mid place k line
      → FitsNoEntry c plan entries line
  refused-untold place k mid named l is none next may text =
      let here : slice_get (sends_in mid.awaiting.table) place ≡ Some next.sent = subst (λ (t : Table). slice_get (sends_in t) place ≡ Some next.sent) (sym l.table) (named-here place next named may text) in
      refuse-next c plan entries mid (looked mid l) mid.withdrawn place line next refl here may text (subst (λ (n : ℕ). IsNextRefused mid.withdrawn mid place n line) is none)

  -- it tells what the entry of its command can be, and the command is over
  pub accepted-told : (place k : ℕ) (mid told new : Checker) → HasLooked old mid → k ≡ length entries + 1 → place < length (sends_in mid.awaiting.table) → IsReady (sends_in mid.awaiting.table) mid.awaiting.over.items place
      → IsNextTold mid.withdrawn mid place k line told → new.device ≡ told.device → new.withdrawn ≡ told.withdrawn → Ended mid place new → IsAccepted c plan entries line new
  accepted-told place k mid told new l is below ready tells device withdrawn ended =
      let here = has-place (sends_in mid.awaiting.table) place below in
      accept-next c plan entries mid (looked mid l) mid.withdrawn place here.0 line told new refl here.1 ready (subst (λ (n : ℕ). IsNextTold mid.withdrawn mid place n line told) is tells) device withdrawn ended
