-- How a run ends, and the answer to an input. This project's own.
use Rattle.std.specs.Prelude.{◌≡◌, ℕ, ◌⊎◌, List, Option}
use Rattle.std.specs.Io.KnownBytes.{Appends}
use Rattle.cp_io.specs.Counting.{Rose}
use Rattle.cp_io.specs.Sink.{AppendsFront}
use Rattle.nvmecp.specs.declared.ending.Ending.{Ending}
use Rattle.nvmecp.specs.declared.ending.Ending.TheVariants as ending

-- A text of this kind was written after what the sink held.
pub record Writes (IsDue : List ℕ → Type 0) (held held' : Option (List ℕ)) : Type 0 where
  pub text : List ℕ
  pub due : IsDue text
  pub written : Appends held held' text

-- A front of a text of this kind, and not all of it, was written after what the sink held.
pub record WritesFront (IsDue : List ℕ → Type 0) (held held' : Option (List ℕ)) : Type 0 where
  pub text : List ℕ
  pub due : IsDue text
  pub front : AppendsFront held held' text

-- What an ending says of a sink, before and after, by what it holds and how often it has failed: a text
-- that answers, one that refuses or one that denies is written; or it has failed behind a front of one of them; or memory
-- was wanting and it is as before. An answer does not end by wrong words or by a fault of the source.
abbrev pub EndsOn : {K : Type 0} → (List ℕ → Type 0) → (List ℕ → Type 0) → (List ℕ → Type 0) → (K → Option (List ℕ))
    → (K → ℕ) → K → K → Ending → Type 0
EndsOn Answers Refuses Denies held faults sink sink' ending.Done = Writes Answers (held sink) (held sink')
EndsOn Answers Refuses Denies held faults sink sink' ending.Refused = Writes Refuses (held sink) (held sink')
EndsOn Answers Refuses Denies held faults sink sink' ending.Denied = Writes Denies (held sink) (held sink')
EndsOn Answers Refuses Denies held faults sink sink' ending.WriteFault =
    WritesFront (λ text. Answers text ⊎ (Refuses text ⊎ Denies text)) (held sink) (held sink') × Rose (faults sink) (faults sink')
EndsOn Answers Refuses Denies held faults sink sink' ending.NoMemory = sink' ≡ sink
EndsOn Answers Refuses Denies held faults sink sink' ending.Usage = ⊥
EndsOn Answers Refuses Denies held faults sink sink' ending.ReadFault = ⊥

-- the same where nothing is denied
abbrev pub EndsBy : {K : Type 0} → (List ℕ → Type 0) → (List ℕ → Type 0) → (K → Option (List ℕ)) → (K → ℕ) → K → K
    → Ending → Type 0
EndsBy Answers Refuses held faults sink sink' end = EndsOn Answers Refuses (λ told. ⊥) held faults sink sink' end

-- the same of a refusal by this text: nothing is answered
abbrev pub EndsRefused : {K : Type 0} → List ℕ → (K → Option (List ℕ)) → (K → ℕ) → K → K → Ending → Type 0
EndsRefused text held faults sink sink' end = EndsBy (λ answer. ⊥) (λ told. told ≡ text) held faults sink sink' end

-- the same of an answer by a text of this kind: nothing is refused
abbrev pub EndsAnswered : {K : Type 0} → (List ℕ → Type 0) → (K → Option (List ℕ)) → (K → ℕ) → K → K → Ending → Type 0
EndsAnswered Answers held faults sink sink' end = EndsBy Answers (λ told. ⊥) held faults sink sink' end

-- the same of a denial by this text: nothing is answered or refused
abbrev pub EndsDenied : {K : Type 0} → List ℕ → (K → Option (List ℕ)) → (K → ℕ) → K → K → Ending → Type 0
EndsDenied text held faults sink sink' end =
    EndsOn (λ answer. ⊥) (λ told. ⊥) (λ told. told ≡ text) held faults sink sink' end

-- the status of an ending
abbrev pub status_of : Ending → ℕ
status_of ending.Done = 0
status_of ending.Usage = 1
status_of ending.Refused = 2
status_of ending.ReadFault = 3
status_of ending.WriteFault = 4
status_of ending.NoMemory = 5
status_of ending.Denied = 6
