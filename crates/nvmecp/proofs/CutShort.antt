-- What is due for an input, by the status: a refusal, or a front.
use Rattle.std.proofs.Common.{◌≡◌, ℕ, ◌≤◌, List, Option, length, inl, inr, arith}
use Rattle.std.specs.Prelude.{◌⊎◌}
use Rattle.nvmecp.specs.Ends.{EndsOn, Writes, WritesFront, status_of}
use Rattle.nvmecp.specs.Task.{IsDue, IsRefusal, Rejected, Task}
use Rattle.nvmecp.specs.declared.ending.Ending.{Ending}
use Rattle.nvmecp.specs.declared.ending.Ending.TheVariants as ending

due_of : (task : Task) (input text : List ℕ) → length input ≤ task.limit → (task.Answers input text) ⊎ ((task.Refuses input text) ⊎ (task.Denies input text)) → IsDue task input text
due_of task input text within (inl answers) = inl answers
due_of task input text within (inr (inl refuses)) = inr (inl (Rejected within refuses))
due_of task input text within (inr (inr denies)) = inr (inr denies)

pub cut_due : {K : Type 0} (task : Task) (input : List ℕ) (held : K → Option (List ℕ)) (faults : K → ℕ) (old new : K) (end : Ending) → length input ≤ task.limit
    → EndsOn (task.Answers input) (task.Refuses input) (task.Denies input) held faults old new end → status_of end ≡ 4 → WritesFront (IsDue task input) (held old) (held new)
cut_due task input held faults old new ending.Done within h is = absurd (omega (arith, is))
cut_due task input held faults old new ending.Refused within h is = absurd (omega (arith, is))
cut_due task input held faults old new ending.Denied within h is = absurd (omega (arith, is))
cut_due task input held faults old new ending.WriteFault within h is = record { text = h.0.text; due = due_of task input h.0.text within h.0.due; front = h.0.front }
cut_due task input held faults old new ending.NoMemory within h is = absurd (omega (arith, is))
cut_due task input held faults old new ending.Usage within h is = absurd h
cut_due task input held faults old new ending.ReadFault within h is = absurd h

pub refused_due : {K : Type 0} (task : Task) (input : List ℕ) (held : K → Option (List ℕ)) (faults : K → ℕ) (old new : K) (end : Ending) → length input ≤ task.limit
    → EndsOn (task.Answers input) (task.Refuses input) (task.Denies input) held faults old new end → status_of end ≡ 2 → Writes (IsRefusal task input) (held old) (held new)
refused_due task input held faults old new ending.Done within h is = absurd (omega (arith, is))
refused_due task input held faults old new ending.Refused within h is = record { text = h.text; due = Rejected within h.due; written = h.written }
refused_due task input held faults old new ending.Denied within h is = absurd (omega (arith, is))
refused_due task input held faults old new ending.WriteFault within h is = absurd (omega (arith, is))
refused_due task input held faults old new ending.NoMemory within h is = absurd (omega (arith, is))
refused_due task input held faults old new ending.Usage within h is = absurd h
refused_due task input held faults old new ending.ReadFault within h is = absurd h
