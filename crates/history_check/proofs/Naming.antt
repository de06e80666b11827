-- What an Abort names was sent by its host in the same phase, and what the host took before sending it, the host
-- took before sending the Abort.
use Rattle.std.proofs.Common.{◌≡◌, ℕ, ◌+◌, ◌<◌, ◌==◌, not, ◌⊎◌, inl, inr, List, [], ◌∷◌, ◌++◌, Option, Some, None, map, filter, refl, sym, ap, subst, ◌∙◌, append_assoc, append-nil}
use Rattle.std.specs.List.{AllByRecursion, Contains, last_or}
use Rattle.cp_base.specs.declared.commands.Command.{Command}
use Rattle.cp_base.specs.declared.commands.Command.TheVariants as command
use Rattle.script_cmds.specs.declared.item.Item.{Item}
use Rattle.script_cmds.specs.declared.item.Item.TheVariants as item
use Rattle.script_cmds.specs.declared.item.HostPart.{HostPart}
use Rattle.script_cmds.specs.declared.item.Phase.{Phase}
use Rattle.history_model.specs.Sent.{Sent, Waiting, Names, TakenBefore, named_in, next_ordinal, ordinals_of, sends_of, sends_of_items, sends_of_parts, sends_of_phases}
use Rattle.history_model.proofs.Every.{every-append, every-filter, every-weaker}
use Rattle.history_model.proofs.OneHistory.{Among, every-among, unique}
use Rattle.history_model.proofs.Order.{sends-in-order}
use Rattle.history_check.proofs.Lists.{among-append-left, among-append-right, among-contains, contains-among}

-- each of the first is one of the second
abbrev pub AreAmong : List ℕ → List ℕ → Type 0
AreAmong some all = (t : ℕ) → Among some t → Among all t

-- a command of a host in a phase, sent under an ordinal, before which the host took no more than this
pub record IsSentBefore (h p n : ℕ) (upto : List ℕ) (s : Sent) : Type 0 where
  pub host : s.host ≡ h
  pub phase : s.phase ≡ p
  pub ordinal : s.ordinal ≡ n
  pub taken : AreAmong s.taken upto

-- such a command is one of these
abbrev pub HasSent : List Sent → ℕ → ℕ → ℕ → List ℕ → Type 0
HasSent all host phase ordinal taken = (s : Sent) × Among all s × IsSentBefore host phase ordinal taken s

-- the command that an Abort names is one of these
abbrev pub FindsNamed : List Sent → Sent → Type 0
FindsNamed all a = (k : ℕ) → a.named ≡ Some k → HasSent all a.host a.phase k a.taken

more-sent : (all more : List Sent) (host phase ordinal : ℕ) (taken : List ℕ) → HasSent all host phase ordinal taken → HasSent (all ++ more) host phase ordinal taken
more-sent all more host phase ordinal taken has = (has.0, among-append-left all more has.0 has.1, has.2)

more-found : (all more : List Sent) (a : Sent) → FindsNamed all a → FindsNamed (all ++ more) a
more-found all more a finds = λ k is. more-sent all more a.host a.phase k a.taken (finds k is)

-- the last of a list, or else the option, is an element or the option
last-among : (o : Option ℕ) (xs : List ℕ) (k : ℕ) → last_or o xs ≡ Some k → Among xs k ⊎ (o ≡ Some k)
last-among o [] k is = inr is
last-among o (x ∷ xs) k is = later (last-among (Some x) xs k is)
  where
    some-is : (a b : ℕ) → Some a ≡ Some b → a ≡ b
    some-is a b e = cc

    later : Among xs k ⊎ (Some x ≡ Some k) → Among (x ∷ xs) k ⊎ (o ≡ Some k)
    later (inl found) = inl (inr found)
    later (inr e) = inl (inl (sym (some-is x k e)))

none-some : (k : ℕ) → None ≡ Some k → ⊥
none-some k e = cc

-- an ordinal among those of the outstanding commands of an identifier is that of one that waits
ordinal-waits : (P : ℕ → Type 0) (cid : ℕ) (waiting : List Waiting) (k : ℕ) → AllByRecursion (λ (w : Waiting). P w.ordinal) waiting → Among (ordinals_of cid waiting) k → P k
ordinal-waits P cid waiting k all found =
    every-among P (ordinals_of cid waiting) k (mapped (filter (λ (w : Waiting). w.cid == cid) waiting) (every-filter (λ (w : Waiting). P w.ordinal) (λ (w : Waiting). w.cid == cid) waiting all)) found
  where
    mapped : (ws : List Waiting) → AllByRecursion (λ (w : Waiting). P w.ordinal) ws → AllByRecursion P (map (λ (w : Waiting). w.ordinal) ws)
    mapped [] all = tt
    mapped (w ∷ ws) all = (all.0, mapped ws all.1)

-- what a command names waits
pub named-waits : (P : ℕ → Type 0) (waiting : List Waiting) (cmd : Command) (k : ℕ) → AllByRecursion (λ (w : Waiting). P w.ordinal) waiting → named_in waiting cmd ≡ Some k → P k
named-waits P waiting (command.Abort cid) k all is = by_last (last-among None (ordinals_of cid waiting) k is)
  where
    by_last : Among (ordinals_of cid waiting) k ⊎ (None ≡ Some k) → P k
    by_last (inl found) = ordinal-waits P cid waiting k all found
    by_last (inr e) = absurd (none-some k e)
named-waits P waiting (command.NvmRead ns lba count) k all is = absurd (none-some k is)
named-waits P waiting (command.NvmWrite ns lba bytes) k all is = absurd (none-some k is)
named-waits P waiting (command.NvmZeroes ns lba count) k all is = absurd (none-some k is)
named-waits P waiting (command.NvmCopy ns lba from) k all is = absurd (none-some k is)
named-waits P waiting (command.MemRead ns at len) k all is = absurd (none-some k is)
named-waits P waiting (command.MemWrite ns at bytes) k all is = absurd (none-some k is)
named-waits P waiting (command.MemFill ns at len value) k all is = absurd (none-some k is)
named-waits P waiting (command.MemCopy ns at from) k all is = absurd (none-some k is)
named-waits P waiting (command.SetCreate ranges) k all is = absurd (none-some k is)
named-waits P waiting (command.SetDelete set) k all is = absurd (none-some k is)
named-waits P waiting (command.Load slot size at bytes) k all is = absurd (none-some k is)
named-waits P waiting (command.Unload slot) k all is = absurd (none-some k is)
named-waits P waiting (command.Activate slot) k all is = absurd (none-some k is)
named-waits P waiting (command.Deactivate slot) k all is = absurd (none-some k is)
named-waits P waiting (command.Execute slot set p1 p2 budget) k all is = absurd (none-some k is)

-- the outstanding commands of a host were sent before
abbrev AllSent : List Sent → ℕ → ℕ → List ℕ → List Waiting → Type 0
AllSent before host phase taken waiting = AllByRecursion (λ (w : Waiting). HasSent before host phase w.ordinal taken) waiting

-- more was sent or taken since
still-sent : (before more : List Sent) (host phase : ℕ) (taken newly : List ℕ) (waiting : List Waiting) → AllSent before host phase taken waiting → AllSent (before ++ more) host phase (taken ++ newly) waiting
still-sent before more host phase taken newly waiting all =
    every-weaker (λ (w : Waiting). HasSent before host phase w.ordinal taken) (λ (w : Waiting). HasSent (before ++ more) host phase w.ordinal (taken ++ newly))
    (λ w has. (
      has.0,
      among-append-left before more has.0 has.1,
      record { host = has.2.host; phase = has.2.phase; ordinal = has.2.ordinal; taken = λ t found. among-append-left taken newly t (has.2.taken t found) },
    )) waiting all

items-find : (before : List Sent) (host phase ordinal : ℕ) (waiting : List Waiting) (taken : List ℕ) (items : List Item) → AllSent before host phase taken waiting
    → AllByRecursion (FindsNamed (before ++ sends_of_items host phase ordinal waiting taken items)) (sends_of_items host phase ordinal waiting taken items)
items-find before host phase ordinal waiting taken [] sent = tt
items-find before host phase ordinal waiting taken (item.Send cid cmd ∷ items) sent =
    let here : Waiting = record { cid = cid; ordinal = ordinal } in
    let first : Sent = record { host = host; ordinal = ordinal; cid = cid; phase = phase; command = cmd.value; taken = taken; named = named_in waiting cmd.value } in
    let rest : List Sent = sends_of_items host phase (ordinal + 1) (waiting ++ here ∷ []) taken items in
    let itself : HasSent (before ++ first ∷ []) host phase ordinal taken =
    (first, among-append-right before (first ∷ []) first (inl refl), record { host = refl; phase = refl; ordinal = refl; taken = λ t found. found }) in
    let old : AllSent (before ++ first ∷ []) host phase taken waiting =
    subst (λ (ts : List ℕ). AllSent (before ++ first ∷ []) host phase ts waiting) (append-nil taken) (still-sent before (first ∷ []) host phase taken [] waiting sent) in
    let waits : AllSent (before ++ first ∷ []) host phase taken (waiting ++ here ∷ []) =
    every-append (λ (w : Waiting). HasSent (before ++ first ∷ []) host phase w.ordinal taken) waiting (here ∷ []) old (itself, tt) in
    let later = items-find (before ++ first ∷ []) host phase (ordinal + 1) (waiting ++ here ∷ []) taken items waits in (
      (λ k is. more-sent before (first ∷ rest) host phase k taken (named-waits (λ n. HasSent before host phase n taken) waiting cmd.value k sent is)),
      subst (λ (all : List Sent). AllByRecursion (FindsNamed all) rest) (append_assoc before (first ∷ []) rest) later,
    )
items-find before host phase ordinal waiting taken (item.Take cid ∷ items) sent =
    let fewer : AllSent before host phase taken (filter (λ (w : Waiting). not (w.cid == cid)) waiting) =
    every-filter (λ (w : Waiting). HasSent before host phase w.ordinal taken) (λ (w : Waiting). not (w.cid == cid)) waiting sent in
    items-find before host phase ordinal (filter (λ (w : Waiting). not (w.cid == cid)) waiting) (taken ++ ordinals_of cid waiting) items
    (subst (λ (b : List Sent). AllSent b host phase (taken ++ ordinals_of cid waiting) (filter (λ (w : Waiting). not (w.cid == cid)) waiting)) (append-nil before)
    (still-sent before [] host phase taken (ordinals_of cid waiting) (filter (λ (w : Waiting). not (w.cid == cid)) waiting) fewer))

-- all of them find what they name among themselves
abbrev AllFind : List Sent → Type 0
AllFind all = AllByRecursion (FindsNamed all) all

parts-find : (phase : ℕ) (earlier : List Sent) (parts : List HostPart) → AllFind earlier → AllFind (sends_of_parts phase earlier parts)
parts-find phase earlier [] all = all
parts-find phase earlier (part ∷ parts) all =
    let new : List Sent = sends_of_items part.host phase (next_ordinal part.host earlier) [] [] part.items in
    parts-find phase (earlier ++ new) parts
    (every-append (FindsNamed (earlier ++ new)) earlier new
    (every-weaker (FindsNamed earlier) (FindsNamed (earlier ++ new)) (λ a finds. more-found earlier new a finds) earlier all)
    (items-find earlier part.host phase (next_ordinal part.host earlier) [] [] part.items tt))

phases-find : (phase : ℕ) (earlier : List Sent) (phases : List Phase) → AllFind earlier → AllFind (sends_of_phases phase earlier phases)
phases-find phase earlier [] all = all
phases-find phase earlier (p ∷ phases) all = phases-find (phase + 1) (sends_of_parts phase earlier p.hosts) phases (parts-find phase earlier p.hosts all)

-- What has to be over before the command that an Abort names has to be over before the Abort.
pub before-named : (plan : List Phase) (a other first : Sent) → Among (sends_of plan) a → Among (sends_of plan) other → Names a other → TakenBefore first other → TakenBefore first a
before-named plan a other first p q names before =
    let has = every-among (FindsNamed (sends_of plan)) (sends_of plan) a (phases-find 1 [] plan tt) p other.ordinal names.1 in
    let same : has.0 ≡ other = unique (sends_of plan) has.0 other (sends-in-order plan) has.1 q (has.2.host ∙ names.0) has.2.ordinal in
    by_cause has.0 same has.2 before
  where
    by_cause : (s : Sent) → s ≡ other → IsSentBefore a.host a.phase other.ordinal a.taken s → TakenBefore first other → TakenBefore first a
    by_cause s same is (inl phases) = inl (subst (λ (p : ℕ). first.phase < p) (ap (λ (x : Sent). x.phase) (sym same) ∙ is.phase) phases)
    by_cause s same is (inr (host, taken)) =
        let there : Among s.taken first.ordinal = contains-among s.taken first.ordinal (subst (λ (x : Sent). Contains x.taken first.ordinal) (sym same) taken) in
        inr (host ∙ sym names.0, among-contains a.taken first.ordinal (is.taken first.ordinal there))
