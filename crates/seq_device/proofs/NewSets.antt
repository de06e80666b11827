-- What a device tells of a new set, and the sets after it.
use Rattle.std.proofs.Common.{◌≡◌, ℕ, List, Option, None, Some, length, map, option_map, ap, sym, ◌∙◌}
use Rattle.std.specs.Option.{option_or}
use Rattle.cp_base.specs.Answer.{Answer, only_status}
use Rattle.cp_base.specs.Checks.{first_failing, set_checks}
use Rattle.cp_base.specs.Configuration.{Configuration}
use Rattle.cp_base.specs.Sets.{RangeSet, next_number, with_set}
use Rattle.cp_base.specs.Sharing.{range_region}
use Rattle.cp_base.specs.declared.commands.Command.TheVariants as command
use Rattle.cp_base.specs.declared.lists.MemRange.{MemRange}
use Rattle.cp_base.specs.declared.replies.Status.{Status}
use Rattle.cp_base.specs.declared.replies.Status.TheVariants as status
use Rattle.device_model.specs.Effect.{effect_of}
use Rattle.device_model.specs.Execution.{Outcome, tells}
use Rattle.device_model.specs.State.{State}
use Rattle.device_model.specs.Step.{outcome_of, refused_or_done}

-- the sets with these ranges under the next number
abbrev one_more : List RangeSet → List MemRange → List RangeSet
one_more sets ranges = with_set sets (record { number = next_number sets; ranges = ranges })

-- ranges that pass their checks are a set from then on
pub set_made : (c : Configuration) (s : State) (ranges : List MemRange) (number : ℕ) (answer : Answer) (sets : List RangeSet)
    → first_failing (set_checks c (length s.sets) (map range_region ranges)) ≡ None → number ≡ next_number s.sets → answer ≡ tells status.Ok number
    → sets ≡ one_more s.sets ranges → outcome_of c s (command.SetCreate ranges) ≡ record { answer = answer; next = record s { sets = sets } }
set_made c s ranges number answer sets passes next told made =
    let cmd = command.SetCreate ranges in
    ap (λ (first : Option Status). refused_or_done s (option_or (option_map only_status first) None) (effect_of c s cmd)) passes
    ∙ ap (λ (n : ℕ). record { answer = tells status.Ok n; next = record s { sets = one_more s.sets ranges } }) (sym next)
    ∙ ap (λ (a : Answer). record { answer = a; next = record s { sets = one_more s.sets ranges } }) (sym told)
    ∙ ap (λ (all : List RangeSet). record { answer = answer; next = record s { sets = all } }) (sym made)

-- ranges that do not pass them are none, and the sets are as before
pub set_refused : (c : Configuration) (s : State) (ranges : List MemRange) (told : Status) (answer : Answer) (sets : List RangeSet)
    → first_failing (set_checks c (length s.sets) (map range_region ranges)) ≡ Some told → answer ≡ only_status told → sets ≡ s.sets
    → outcome_of c s (command.SetCreate ranges) ≡ record { answer = answer; next = record s { sets = sets } }
set_refused c s ranges told answer sets fails tells_it same =
    let cmd = command.SetCreate ranges in
    ap (λ (first : Option Status). refused_or_done s (option_or (option_map only_status first) None) (effect_of c s cmd)) fails
    ∙ ap (λ (a : Answer). record { answer = a; next = s }) (sym tells_it)
    ∙ ap (λ (all : List RangeSet). record { answer = answer; next = record s { sets = all } }) (sym same)
