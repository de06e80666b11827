-- What a run of the program has read and written, by its status. What a source has left and has given and
-- what a sink holds are passed as functions of them. This project's own.
use Rattle.std.specs.Prelude.{◌≡◌, ℕ, ◌≤◌, ◌⊎◌, List, Option, Some, None, IfSome, IsSome, length}
use Rattle.std.specs.Io.KnownBytes.{IsAtEnd}
use Rattle.cp_io.specs.Counting.{Rose}
use Rattle.cp_io.specs.Source.{Gave}
use Rattle.nvmecp.specs.Ends.{Writes, WritesFront}
use Rattle.nvmecp.specs.Make.{IsSummary}
use Rattle.nvmecp.specs.Task.{Task, IsDue, IsRefusal}
use Rattle.nvmecp.specs.Serve.{serve_task}
use Rattle.nvmecp.specs.Words.{asked_of, errand_of, load_of, task_of, workers_of_words}
use Rattle.nvmecp.specs.declared.words.Asked.{Asked}
use Rattle.nvmecp.specs.declared.words.Load.{Load}

-- Status 0: all that the source had left was read, it is not too long, and the text that was asked for is
-- written.
pub record Done {S K : Type 0} (task : Task) (left : S → Option (List ℕ)) (given : S → ℕ) (held : K → Option (List ℕ)) (source source' : S) (sink sink' : K) : Type 0 where
  pub input : List ℕ
  pub gave : Gave (left source) (left source') (given source) (given source') input
  pub within : length input ≤ task.limit
  pub at_end : IsAtEnd (left source')
  pub writes : Writes (task.Answers input) (held sink) (held sink')

-- Status 2: too many bytes came, or all that the source had left was read and is refused; the line that
-- tells it is written.
pub record IsRefused {S K : Type 0} (task : Task) (left : S → Option (List ℕ)) (given : S → ℕ) (held : K → Option (List ℕ)) (source source' : S) (sink sink' : K) : Type 0 where
  pub input : List ℕ
  pub gave : Gave (left source) (left source') (given source) (given source') input
  pub at_end : length input ≤ task.limit → IsAtEnd (left source')
  pub writes : Writes (IsRefusal task input) (held sink) (held sink')

-- Status 6: all that the source had left was read, it is not too long, and what it says does not hold; the line that tells
-- it is written.
pub record IsDenied {S K : Type 0} (task : Task) (left : S → Option (List ℕ)) (given : S → ℕ) (held : K → Option (List ℕ)) (source source' : S) (sink sink' : K) : Type 0 where
  pub input : List ℕ
  pub gave : Gave (left source) (left source') (given source) (given source') input
  pub within : length input ≤ task.limit
  pub at_end : IsAtEnd (left source')
  pub writes : Writes (task.Denies input) (held sink) (held sink')

-- Status 4: too many bytes came, or all that the source had left was read; a front of the text that is due
-- for it is written.
pub record IsCutShort {S K : Type 0} (task : Task) (left : S → Option (List ℕ)) (given : S → ℕ) (held : K → Option (List ℕ)) (source source' : S) (sink sink' : K) : Type 0 where
  pub input : List ℕ
  pub gave : Gave (left source) (left source') (given source) (given source') input
  pub at_end : length input ≤ task.limit → IsAtEnd (left source')
  pub writes : WritesFront (IsDue task input) (held sink) (held sink')

-- A load was to be made: the source is untouched, and the status is 0, 4 or 5. At 0 the summary is written, at 4 a front
-- of it.
pub record IsMade {S K : Type 0} (load : Load) (held : K → Option (List ℕ)) (source source' : S) (sink sink' : K) (status : ℕ) : Type 0 where
  pub unread : source' ≡ source
  pub statuses : (status ≡ 0) ⊎ (status ≡ 4) ⊎ (status ≡ 5)
  pub done : status ≡ 0 → Writes (IsSummary load) (held sink) (held sink')
  pub cut_short : status ≡ 4 → WritesFront (IsSummary load) (held sink) (held sink')

-- Nothing failed: neither count of faults rose.
pub record NoFault {S K : Type 0} (source_faults : S → ℕ) (sink_faults : K → ℕ) (source source' : S) (sink sink' : K) : Type 0 where
  pub read : Rose (source_faults source) (source_faults source') → ⊥
  pub written : Rose (sink_faults sink) (sink_faults sink') → ⊥

-- What a run on words has done by its status, in which memory for the words may have been wanting too: its
-- fields are the clauses of the run.
pub record Ran {S K : Type 0} (words : List (List ℕ)) (left : S → Option (List ℕ)) (given : S → ℕ) (source_faults : S → ℕ) (held : K → Option (List ℕ)) (sink_faults : K → ℕ)
    (source source' : S) (sink sink' : K) (status : ℕ) : Type 0 where
  pub usage : status ≡ 1 → errand_of words ≡ None
  pub wrong : errand_of words ≡ None → (status ≡ 1) ⊎ (status ≡ 5)
  pub untouched : status ≡ 1 → (source' ≡ source) × (sink' ≡ sink)
  pub done : status ≡ 0
      → IfSome (asked_of words) (λ asked. Done (task_of asked) left given held source source' sink sink')
  pub refused : status ≡ 2
      → IfSome (asked_of words) (λ asked. IsRefused (task_of asked) left given held source source' sink sink')
  pub denied : status ≡ 6
      → IfSome (asked_of words) (λ asked. IsDenied (task_of asked) left given held source source' sink sink')
  pub made : IfSome (load_of words) (λ load. IsMade load held source source' sink sink' status)
  pub read_fault : status ≡ 3 → Rose (source_faults source) (source_faults source')
  pub write_fault : status ≡ 4 → Rose (sink_faults sink) (sink_faults sink')
  pub cut_short : status ≡ 4
      → IfSome (asked_of words) (λ asked. IsCutShort (task_of asked) left given held source source' sink sink')
  pub unwritten : (status ≡ 3) ⊎ (status ≡ 5) → sink' ≡ sink
  pub statuses : status ≤ 6
  pub accepted : (asked : Asked) (input : List ℕ) → asked_of words ≡ Some asked → left source ≡ Some input
      → length input ≤ (task_of asked).limit
      → (task_of asked).Accepts input → NoFault source_faults sink_faults source source' sink sink'
      → (status ≡ 0) ⊎ (status ≡ 5)
  pub rejected : (asked : Asked) (input : List ℕ) → asked_of words ≡ Some asked → left source ≡ Some input
      → length input ≤ (task_of asked).limit
      → (task_of asked).Rejects input → NoFault source_faults sink_faults source source' sink sink'
      → (status ≡ 2) ⊎ (status ≡ 5)
  pub belied : (asked : Asked) (input : List ℕ) → asked_of words ≡ Some asked → left source ≡ Some input
      → length input ≤ (task_of asked).limit
      → (task_of asked).Belies input → NoFault source_faults sink_faults source source' sink sink'
      → (status ≡ 6) ⊎ (status ≡ 5)

-- What the process says of its words where the first one is `serve`, by its status. Where there is no memory for the
-- words, the status is 5. All else is as the clauses of `serve`.
pub record Served {S K : Type 0} (words : List (List ℕ)) (left : S → Option (List ℕ)) (given : S → ℕ) (source_faults : S → ℕ) (held : K → Option (List ℕ)) (sink_faults : K → ℕ)
    (source source' : S) (sink sink' : K) (status : ℕ) : Type 0 where
  pub usage : status ≡ 1 → workers_of_words words ≡ None
  pub wrong : workers_of_words words ≡ None → (status ≡ 1) ⊎ (status ≡ 5)
  pub untouched : status ≡ 1 → (source' ≡ source) × (sink' ≡ sink)
  pub done : status ≡ 0 → Done serve_task left given held source source' sink sink'
  pub refused : status ≡ 2 → IsRefused serve_task left given held source source' sink sink'
  pub read_fault : status ≡ 3 → Rose (source_faults source) (source_faults source')
  pub write_fault : status ≡ 4 → Rose (sink_faults sink) (sink_faults sink')
  pub cut_short : status ≡ 4 → IsCutShort serve_task left given held source source' sink sink'
  pub unwritten : (status ≡ 3) ⊎ (status ≡ 5) → sink' ≡ sink
  pub statuses : status ≤ 5
  pub accepted : (input : List ℕ) → IsSome (workers_of_words words) → left source ≡ Some input
      → length input ≤ serve_task.limit
      → serve_task.Accepts input → NoFault source_faults sink_faults source source' sink sink'
      → (status ≡ 0) ⊎ (status ≡ 5)
  pub rejected : (input : List ℕ) → IsSome (workers_of_words words) → left source ≡ Some input
      → length input ≤ serve_task.limit
      → serve_task.Rejects input → NoFault source_faults sink_faults source source' sink sink'
      → (status ≡ 2) ⊎ (status ≡ 5)
