-- What a line of each kind adds to a script that is being read.
use Rattle.std.proofs.Common.{◌≡◌, ℕ, zero, suc, ◌*◌, ◌<◌, ◌≤◌, Bool, true, false, not, ◌&&◌, cond, eqb, leb, List, [], ◌∷◌, ◌++◌, length, replicate, Ok, Err, refl, sym, ap, subst, ◌∙◌, append_assoc, arith}
use Rattle.std.specs.List.{slice_set}
use Rattle.std.proofs.lemmas.Bool.{eqb-true, leb-true, ltb-true}
use Rattle.std.proofs.Math.Nat.{one-le-mul}
use Rattle.std.proofs.lemmas.List.{append-nil}
use Rattle.cp_base.specs.Configuration.{Configuration, IsWithinLimits, bare, with_size}
use Rattle.cp_base.specs.declared.limits.TheConstants.{MAX_DEPTH, NAMESPACES}
use Rattle.cp_base.specs.declared.region.SpaceId.TheVariants as space
use Rattle.script_line.specs.declared.fault.TextCause.TheVariants as cause
use Rattle.script_line.specs.declared.kind.LineKind.{LineKind}
use Rattle.script_line.specs.declared.kind.LineKind.TheVariants as line
use Rattle.script_line.specs.declared.kind.SpaceKind.{SpaceKind}
use Rattle.script_line.specs.declared.kind.SpaceKind.TheVariants as space_kind
use Rattle.script_line.specs.Field.{IsShaped, Value}
use Rattle.script_line.specs.Fits.{line_fits}
use Rattle.script_line.specs.Line.{Line, counts, fields_of}
use Rattle.script_line.specs.Sized.{AreSized, IsLine}
use Rattle.script_line.specs.Values.{number_at}
use Rattle.script_line.specs.Versions.{limits_of}
use Rattle.script_line.specs.declared.version.Version.{Version}
use Rattle.script_line.specs.declared.version.Version.TheVariants as version
use Rattle.script_cmds.specs.declared.form.Form.{Form}
use Rattle.script_cmds.specs.declared.item.Item.{Item}
use Rattle.script_cmds.specs.declared.item.HostPart.{HostPart}
use Rattle.script_cmds.specs.declared.item.Phase as declared
use Rattle.script_cmds.specs.declared.item.Show.{Show}
use Rattle.script_cmds.specs.declared.progress.Progress.{Progress}
use Rattle.script_cmds.specs.declared.progress.Stage.{Stage}
use Rattle.script_cmds.specs.declared.progress.Stage.TheVariants.{AtStart, AfterHeader, AfterNamespace, InPhase, InPart, AfterShow}
use Rattle.script_cmds.specs.Fault.{judged, after_lines}
use Rattle.script_cmds.specs.Progress.{start, is_in_order, is_within_limits, has_room, advanced, is_start, is_after_show, is_block, is_in_part, header_budget, header_depth, header_queues, host_follows, namespace_follows, space_of}
use Rattle.script_cmds.specs.Text.{header_line, header_numbers, numbers_line, size_lines, configuration_lines, item_lines, part_lines, phase_lines, show_lines}
use Rattle.script_cmds.specs.private.Drafts.{Drafted, open_part_lines, open_lines, header_lines, lines_so_far, draft_lines, IsZeroFrom, HasNothing, HasNoneBehind, IsTidy, IsDraft}
use Rattle.script_cmds.specs.private.Stored.{AddsItem, AddsShow, EndsPart, EndsPhase, Stored}
use Rattle.script_cmds.proofs.Keeping.{both_true, false_unless, header_keeps, space_keeps}
use Rattle.script_cmds.proofs.Meanings.{HeaderSays, NamespaceSays, header_says, host_says, namespace_says, no_value}
use Rattle.script_cmds.proofs.OneMore.{after_one_more, size_one_more, sized_one_more, zero_one_more, zeros_say_nothing}

-- what a line that is let through says of itself
pub record Passed (p : Progress) (l : Line) (q : Progress) : Type 0 where
  pub order : is_in_order p.form.version p.stage l.kind l.values ≡ true
  pub limits : is_within_limits p l ≡ true
  pub after : q ≡ advanced p l.kind l.values

passed_by : (a b : Bool) (x q : Progress) → cond a (cond b (Ok x) (Err cause.Limit)) (Err cause.Order) ≡ Ok q → (a ≡ true) × (b ≡ true) × (q ≡ x)
passed_by true true x q e = (refl, refl, cc)
passed_by true false x q e = absurd cc
passed_by false b x q e = absurd cc

pub passed : (p : Progress) (l : Line) (q : Progress) → judged p l ≡ Ok q → Passed p l q
passed p l q e =
    let h = passed_by (is_in_order p.form.version p.stage l.kind l.values) (is_within_limits p l) (advanced p l.kind l.values) q e in
    record { order = h.0; limits = h.1; after = h.2 }

-- ---- lines, by the stage before

closed_then : (H P P' O : List Line) (shows : List Show) (l : Line) → shows ≡ [] → P' ≡ P ++ O → ((H ++ P') ++ l ∷ []) ++ show_lines shows ≡ (((H ++ P) ++ O) ++ show_lines shows) ++ l ∷ []
closed_then H P P' O shows l s e = rw (s, e) (simp (append_assoc, append-nil))

phase_lines_after : (f : Form) (s : Stage) (c : Configuration) (phases phases' : List declared.Phase) (hosts : List HostPart) (items : List Item) (shows : List Show) → IsTidy s c phases hosts items shows
    → (not (is_start s) && not (is_after_show s)) ≡ true → phase_lines f phases' ≡ phase_lines f phases ++ open_lines f s hosts items
    → (configuration_lines f c ++ phase_lines f phases' ++ open_lines f InPhase [] [] ++ show_lines shows ≡ (header_lines f s c ++ phase_lines f phases ++ open_lines f s hosts items ++ show_lines shows) ++ numbers_line line.Phase [] ∷ []) × (shows ≡ [])
phase_lines_after f AtStart c phases phases' hosts items shows t o e = absurd cc
phase_lines_after f AfterHeader c phases phases' hosts items shows t o e = (closed_then (configuration_lines f c) (phase_lines f phases) (phase_lines f phases') [] shows (numbers_line line.Phase []) t.0.3 e, t.0.3)
phase_lines_after f (AfterNamespace kind n) c phases phases' hosts items shows t o e = (closed_then (configuration_lines f c) (phase_lines f phases) (phase_lines f phases') [] shows (numbers_line line.Phase []) t.0.3 e, t.0.3)
phase_lines_after f InPhase c phases phases' hosts items shows t o e = (closed_then (configuration_lines f c) (phase_lines f phases) (phase_lines f phases') (open_lines f InPhase hosts items) shows (numbers_line line.Phase []) t.2 e, t.2)
phase_lines_after f (InPart h) c phases phases' hosts items shows t o e = (closed_then (configuration_lines f c) (phase_lines f phases) (phase_lines f phases') (open_lines f (InPart h) hosts items) shows (numbers_line line.Phase []) t e, t)
phase_lines_after f AfterShow c phases phases' hosts items shows t o e = absurd cc

tail_end : (X Y S : List Line) (l : Line) → S ≡ [] → (X ++ (Y ++ l ∷ [])) ++ S ≡ ((X ++ Y) ++ S) ++ l ∷ []
tail_end X Y S l e = ap (λ (t : List Line). (X ++ (Y ++ l ∷ [])) ++ t) e ∙ append-nil (X ++ (Y ++ l ∷ [])) ∙ sym (append_assoc X Y (l ∷ [])) ∙ ap (λ (t : List Line). t ++ l ∷ []) (sym (append-nil (X ++ Y)) ∙ ap (λ (t : List Line). (X ++ Y) ++ t) (sym e))

begun_then : (H P Q Q' O : List Line) (shows : List Show) (ph l : Line) → shows ≡ [] → Q' ≡ Q ++ O
    → ((H ++ P) ++ ((ph ∷ Q') ++ l ∷ [])) ++ show_lines shows ≡ (((H ++ P) ++ ((ph ∷ Q) ++ O)) ++ show_lines shows) ++ l ∷ []
begun_then H P Q Q' O shows ph l s e =
    ap (λ (y : List Line). ((H ++ P) ++ ((ph ∷ y) ++ l ∷ [])) ++ show_lines shows) e ∙ tail_end (H ++ P) (ph ∷ (Q ++ O)) (show_lines shows) l (ap show_lines s)

host_lines_after : (f : Form) (s : Stage) (c : Configuration) (n : ℕ) (phases : List declared.Phase) (hosts hosts' : List HostPart) (items : List Item) (shows : List Show) → IsTidy s c phases hosts items shows
    → host_follows s n ≡ true → part_lines f hosts' ≡ part_lines f hosts ++ open_part_lines f s items
    → (configuration_lines f c ++ phase_lines f phases ++ open_lines f (InPart n) hosts' [] ++ show_lines shows ≡ (header_lines f s c ++ phase_lines f phases ++ open_lines f s hosts items ++ show_lines shows) ++ numbers_line line.Host (n ∷ []) ∷ []) × (shows ≡ [])
host_lines_after f AtStart c n phases hosts hosts' items shows t o e = absurd cc
host_lines_after f AfterHeader c n phases hosts hosts' items shows t o e = absurd cc
host_lines_after f (AfterNamespace kind m) c n phases hosts hosts' items shows t o e = absurd cc
host_lines_after f InPhase c n phases hosts hosts' items shows t o e =
    (begun_then (configuration_lines f c) (phase_lines f phases) (part_lines f hosts) (part_lines f hosts') [] shows (numbers_line line.Phase []) (numbers_line line.Host (n ∷ [])) t.2 e, t.2)
host_lines_after f (InPart h) c n phases hosts hosts' items shows t o e =
    (begun_then (configuration_lines f c) (phase_lines f phases) (part_lines f hosts) (part_lines f hosts') (numbers_line line.Host (h ∷ []) ∷ item_lines f items) shows (numbers_line line.Phase []) (numbers_line line.Host (n ∷ [])) t e, t)
host_lines_after f AfterShow c n phases hosts hosts' items shows t o e = absurd cc

item_then : (H P Q I I' : List Line) (shows : List Show) (ho l : Line) → shows ≡ [] → I' ≡ I ++ l ∷ []
    → ((H ++ P) ++ (Q ++ ho ∷ I')) ++ show_lines shows ≡ (((H ++ P) ++ (Q ++ ho ∷ I)) ++ show_lines shows) ++ l ∷ []
item_then H P Q I I' shows ho l s e = rw (s, e) (simp (append_assoc, append-nil))

-- in a part, with one more item
item_lines_after : (f : Form) (s : Stage) (c : Configuration) (l : Line) (phases : List declared.Phase) (hosts : List HostPart) (items items' : List Item) (shows : List Show) → IsTidy s c phases hosts items shows
    → is_in_part s ≡ true → item_lines f items' ≡ item_lines f items ++ l ∷ []
    → (header_lines f s c ++ phase_lines f phases ++ open_lines f s hosts items' ++ show_lines shows ≡ (header_lines f s c ++ phase_lines f phases ++ open_lines f s hosts items ++ show_lines shows) ++ l ∷ []) × IsTidy s c phases hosts items' shows
item_lines_after f AtStart c l phases hosts items items' shows t o e = absurd cc
item_lines_after f AfterHeader c l phases hosts items items' shows t o e = absurd cc
item_lines_after f (AfterNamespace kind m) c l phases hosts items items' shows t o e = absurd cc
item_lines_after f InPhase c l phases hosts items items' shows t o e = absurd cc
item_lines_after f (InPart h) c l phases hosts items items' shows t o e =
    (item_then (configuration_lines f c) (phase_lines f phases) (numbers_line line.Phase [] ∷ part_lines f hosts) (item_lines f items) (item_lines f items') shows (numbers_line line.Host (h ∷ [])) l t e, t)
item_lines_after f AfterShow c l phases hosts items items' shows t o e = absurd cc

shown_then : (H P P' O S S' : List Line) (l : Line) → P' ≡ P ++ O → S' ≡ S ++ l ∷ [] → ((H ++ P') ++ []) ++ S' ≡ (((H ++ P) ++ O) ++ S) ++ l ∷ []
shown_then H P P' O S S' l p e = rw (p, e) (simp (append_assoc, append-nil))

header_again : (f : Form) (s : Stage) (c : Configuration) → not (is_start s) ≡ true → header_lines f s c ≡ configuration_lines f c
header_again f AtStart c h = absurd cc
header_again f AfterHeader c h = refl
header_again f (AfterNamespace kind n) c h = refl
header_again f InPhase c h = refl
header_again f (InPart n) c h = refl
header_again f AfterShow c h = refl

show_lines_after : (f : Form) (s : Stage) (c : Configuration) (l : Line) (phases phases' : List declared.Phase) (hosts : List HostPart) (items : List Item) (shows shows' : List Show)
    → not (is_start s) ≡ true → phase_lines f phases' ≡ phase_lines f phases ++ open_lines f s hosts items → show_lines shows' ≡ show_lines shows ++ l ∷ []
    → configuration_lines f c ++ phase_lines f phases' ++ open_lines f AfterShow [] [] ++ show_lines shows' ≡ (header_lines f s c ++ phase_lines f phases ++ open_lines f s hosts items ++ show_lines shows) ++ l ∷ []
show_lines_after f s c l phases phases' hosts items shows shows' o p e =
    shown_then (configuration_lines f c) (phase_lines f phases) (phase_lines f phases') (open_lines f s hosts items) (show_lines shows) (show_lines shows') l p e
    ∙ ap (λ (h : List Line). (((h ++ phase_lines f phases) ++ open_lines f s hosts items) ++ show_lines shows) ++ l ∷ []) (sym (header_again f s c o))

three_empty : (x : List Line) → ((x ++ []) ++ []) ++ [] ≡ x
three_empty x = append-nil ((x ++ []) ++ []) ∙ append-nil (x ++ []) ∙ append-nil x

config_so : (f : Form) (new old : List Line) (l : Line) (phases : List declared.Phase) (shows : List Show) → phases ≡ [] → shows ≡ [] → new ≡ old ++ l ∷ [] → new ++ phase_lines f phases ++ [] ++ show_lines shows ≡ (old ++ phase_lines f phases ++ [] ++ show_lines shows) ++ l ∷ []
config_so f new old l phases shows p s e = rw (p, s) (three_empty new ∙ e ∙ ap (λ (t : List Line). t ++ l ∷ []) (sym (three_empty old)))

-- the header says no sizes
numbers_nvm : (v : Version) (queues : ℕ) (c : Configuration) (sizes : List ℕ) → header_numbers v queues (record c { nvm = sizes }) ≡ header_numbers v queues c
numbers_nvm version.One queues c sizes = refl
numbers_nvm version.Two queues c sizes = refl

numbers_mem : (v : Version) (queues : ℕ) (c : Configuration) (sizes : List ℕ) → header_numbers v queues (record c { mem = sizes }) ≡ header_numbers v queues c
numbers_mem version.One queues c sizes = refl
numbers_mem version.Two queues c sizes = refl

mem_config : (f : Form) (c : Configuration) (place k size : ℕ) → IsZeroFrom place c.mem → place ≤ k → k < length c.mem → eqb size 0 ≡ false
    → configuration_lines f (with_size c (space.Mem (suc k)) size) ≡ configuration_lines f c ++ numbers_line (line.Namespace space_kind.Mem) (suc k ∷ size ∷ []) ∷ []
mem_config f c place k size z le lt s =
    let kind : LineKind = line.Namespace space_kind.Mem in
    let l : Line = numbers_line kind (suc k ∷ size ∷ []) in
    let front : List Line = header_line f c ∷ size_lines (line.Namespace space_kind.Nvm) 1 c.nvm in
    let more : size_lines kind 1 (slice_set c.mem k size) ≡ size_lines kind 1 c.mem ++ l ∷ [] = size_one_more kind 1 (suc k) place k c.mem size (omega arith) z le lt s in
    ap (λ (ns : List ℕ). numbers_line (line.Header f.version) ns ∷ (size_lines (line.Namespace space_kind.Nvm) 1 c.nvm ++ size_lines kind 1 (slice_set c.mem k size))) (numbers_mem f.version f.queues c (slice_set c.mem k size))
    ∙ ap (λ (t : List Line). front ++ t) more ∙ sym (append_assoc front (size_lines kind 1 c.mem) (l ∷ []))

nvm_config : (f : Form) (c : Configuration) (place k size : ℕ) → IsZeroFrom place c.nvm → IsZeroFrom 0 c.mem → place ≤ k → k < length c.nvm → eqb size 0 ≡ false
    → configuration_lines f (with_size c (space.Nvm (suc k)) size) ≡ configuration_lines f c ++ numbers_line (line.Namespace space_kind.Nvm) (suc k ∷ size ∷ []) ∷ []
nvm_config f c place k size z m le lt s =
    let kind : LineKind = line.Namespace space_kind.Nvm in
    let l : Line = numbers_line kind (suc k ∷ size ∷ []) in
    let head : Line = header_line f c in
    let more : size_lines kind 1 (slice_set c.nvm k size) ≡ size_lines kind 1 c.nvm ++ l ∷ [] = size_one_more kind 1 (suc k) place k c.nvm size (omega arith) z le lt s in
    let none : size_lines (line.Namespace space_kind.Mem) 1 c.mem ≡ [] = zeros_say_nothing (line.Namespace space_kind.Mem) 1 c.mem m in
    ap (λ (ns : List ℕ). numbers_line (line.Header f.version) ns ∷ (size_lines kind 1 (slice_set c.nvm k size) ++ size_lines (line.Namespace space_kind.Mem) 1 c.mem)) (numbers_nvm f.version f.queues c (slice_set c.nvm k size))
    ∙ ap (λ (t : List Line). head ∷ (t ++ size_lines (line.Namespace space_kind.Mem) 1 c.mem)) more
    ∙ ap (λ (t : List Line). head ∷ ((size_lines kind 1 c.nvm ++ l ∷ []) ++ t)) none ∙ ap (λ (t : List Line). head ∷ t) (append-nil (size_lines kind 1 c.nvm ++ l ∷ []))
    ∙ ap (λ (t : List Line). head ∷ (t ++ l ∷ [])) (sym (append-nil (size_lines kind 1 c.nvm))) ∙ ap (λ (t : List Line). head ∷ ((size_lines kind 1 c.nvm ++ t) ++ l ∷ [])) (sym none)

-- one more namespace, and what is tidy then
record Configured (f : Form) (s : Stage) (c : Configuration) (kind : SpaceKind) (n size : ℕ) : Type 0 where
  lines : configuration_lines f (with_size c (space_of kind n) size) ≡ configuration_lines f c ++ numbers_line (line.Namespace kind) (n ∷ size ∷ []) ∷ []
  sizes : HasNoneBehind kind n (with_size c (space_of kind n) size)
  begun : is_start s ≡ false

nvm_more : (f : Form) (s : Stage) (c : Configuration) (place k size : ℕ) → is_start s ≡ false → IsZeroFrom place c.nvm → IsZeroFrom 0 c.mem → place ≤ k → k < length c.nvm → eqb size 0 ≡ false → Configured f s c space_kind.Nvm (suc k) size
nvm_more f s c place k size b z m le lt e = record { lines = nvm_config f c place k size z m le lt e; sizes = (zero_one_more place k c.nvm size z le, m); begun = b }

mem_more : (f : Form) (s : Stage) (c : Configuration) (place k size : ℕ) → is_start s ≡ false → IsZeroFrom place c.mem → place ≤ k → k < length c.mem → eqb size 0 ≡ false → Configured f s c space_kind.Mem (suc k) size
mem_more f s c place k size b z le lt e = record { lines = mem_config f c place k size z le lt e; sizes = zero_one_more place k c.mem size z le; begun = b }

configured : (f : Form) (s : Stage) (c : Configuration) (kind : SpaceKind) (k size : ℕ) (phases : List declared.Phase) (hosts : List HostPart) (items : List Item) (shows : List Show) → IsTidy s c phases hosts items shows → IsWithinLimits c
    → namespace_follows s kind (suc k) ≡ true → k < NAMESPACES → eqb size 0 ≡ false → Configured f s c kind (suc k) size × HasNothing phases hosts items shows
configured f AtStart c kind k size phases hosts items shows t l o lt e = absurd cc
configured f AfterHeader c space_kind.Nvm k size phases hosts items shows t l o lt e = (nvm_more f AfterHeader c 0 k size refl t.1.0 t.1.1 (omega arith) (omega (arith, l.nvm_numbers)) e, t.0)
configured f AfterHeader c space_kind.Mem k size phases hosts items shows t l o lt e = (mem_more f AfterHeader c 0 k size refl t.1.1 (omega arith) (omega (arith, l.mem_numbers)) e, t.0)
configured f (AfterNamespace space_kind.Nvm m) c space_kind.Nvm k size phases hosts items shows t l o lt e =
    let le : m ≤ k = omega (arith, ltb-true m (suc k) o) in
    (nvm_more f (AfterNamespace space_kind.Nvm m) c m k size refl t.1.0 t.1.1 le (omega (arith, l.nvm_numbers)) e, t.0)
configured f (AfterNamespace space_kind.Nvm m) c space_kind.Mem k size phases hosts items shows t l o lt e =
    (mem_more f (AfterNamespace space_kind.Nvm m) c 0 k size refl t.1.1 (omega arith) (omega (arith, l.mem_numbers)) e, t.0)
configured f (AfterNamespace space_kind.Mem m) c space_kind.Nvm k size phases hosts items shows t l o lt e = absurd cc
configured f (AfterNamespace space_kind.Mem m) c space_kind.Mem k size phases hosts items shows t l o lt e =
    let le : m ≤ k = omega (arith, ltb-true m (suc k) o) in
    (mem_more f (AfterNamespace space_kind.Mem m) c m k size refl t.1 le (omega (arith, l.mem_numbers)) e, t.0)
configured f InPhase c kind k size phases hosts items shows t l o lt e = absurd cc
configured f (InPart h) c kind k size phases hosts items shows t l o lt e = absurd cc
configured f AfterShow c kind k size phases hosts items shows t l o lt e = absurd cc

zeros : (n : ℕ) → IsZeroFrom 0 (replicate n 0)
zeros zero = tt
zeros (suc n) = (refl, zeros n)

at_start : (s : Stage) → is_start s ≡ true → s ≡ AtStart
at_start AtStart o = refl
at_start _ o = absurd cc

positive : (n : ℕ) → 1 ≤ n → eqb n 0 ≡ false
positive n h = false_unless (eqb n 0) (λ e. omega (arith, eqb-true n 0 e))

-- ---- what a line adds to a draft that keeps it

with_values : (ls ms : List Line) (kind : LineKind) (vs ws : List Value) → ls ≡ ms ++ record { kind = kind; values = ws } ∷ [] → vs ≡ ws → ls ≡ ms ++ record { kind = kind; values = vs } ∷ []
with_values ls ms kind vs ws e v = e ∙ ap (λ (x : List Value). ms ++ record { kind = kind; values = x } ∷ []) (sym v)

same_rest : (p : Progress) (P : List declared.Phase) (H H' : List HostPart) (I I' : List Item) (S S' : List Show) → H ≡ H' → I ≡ I' → S ≡ S' → lines_so_far p P H I S ≡ lines_so_far p P H' I' S'
same_rest p P H H' I I' S S' a b c = ap (λ (x : List HostPart). lines_so_far p P x I S) a ∙ ap (λ (x : List Item). lines_so_far p P H' x S) b ∙ ap (λ (x : List Show). lines_so_far p P H' I' x) c

-- the lines after it, and what is tidy
record Grows (d d1 : Drafted) (l : Line) : Type 0 where
  lines : lines_so_far (advanced d.progress l.kind l.values) d1.phases d1.hosts d1.items d1.shows ≡ draft_lines d ++ l ∷ []
  tidy : IsTidy (advanced d.progress l.kind l.values).stage (advanced d.progress l.kind l.values).config d1.phases d1.hosts d1.items d1.shows

grows_phase : (d d1 : Drafted) (vs : List Value) → IsDraft d → is_in_order d.progress.form.version d.progress.stage line.Phase vs ≡ true → IsShaped (fields_of line.Phase) vs → EndsPhase d d1 → Grows d d1 (record { kind = line.Phase; values = vs })
grows_phase d d1 vs h o shape s =
    let l = phase_lines_after d.progress.form d.progress.stage d.progress.config d.phases d1.phases d.hosts d.items d.shows h.tidy o s.phases in
    let all : lines_so_far (advanced d.progress line.Phase vs) d1.phases d1.hosts d1.items d1.shows ≡ draft_lines d ++ numbers_line line.Phase [] ∷ [] = same_rest (advanced d.progress line.Phase vs) d1.phases d1.hosts [] d1.items [] d1.shows d.shows s.hosts s.items s.shows ∙ l.0 in
    record { lines = with_values _ (draft_lines d) line.Phase vs [] all (no_value vs shape); tidy = (s.hosts, s.items, s.shows ∙ l.1) }

grows_host : (d d1 : Drafted) (vs : List Value) → IsDraft d → is_in_order d.progress.form.version d.progress.stage line.Host vs ≡ true → vs ≡ counts (number_at vs 0 ∷ []) → EndsPart d d1 → Grows d d1 (record { kind = line.Host; values = vs })
grows_host d d1 vs h o says s =
    let l = host_lines_after d.progress.form d.progress.stage d.progress.config (number_at vs 0) d.phases d.hosts d1.hosts d.items d.shows h.tidy o s.hosts in
    let all : lines_so_far (advanced d.progress line.Host vs) d1.phases d1.hosts d1.items d1.shows ≡ draft_lines d ++ numbers_line line.Host (number_at vs 0 ∷ []) ∷ [] = rw (s.phases, s.items, s.shows) l.0 in
    record { lines = with_values _ (draft_lines d) line.Host vs (counts (number_at vs 0 ∷ [])) all says; tidy = s.shows ∙ l.1 }

grows_item : (d d1 : Drafted) (l : Line) (p : Progress) → IsDraft d → is_in_part d.progress.stage ≡ true → p.form ≡ d.progress.form → p.stage ≡ d.progress.stage → p.config ≡ d.progress.config → AddsItem l d d1
    → (lines_so_far p d1.phases d1.hosts d1.items d1.shows ≡ draft_lines d ++ l ∷ []) × IsTidy p.stage p.config d1.phases d1.hosts d1.items d1.shows
grows_item d d1 l p h o fo st co s =
    let k = item_lines_after d.progress.form d.progress.stage d.progress.config l d.phases d.hosts d.items d1.items d.shows h.tidy o s.items in
    (rw (fo, st, co, s.phases, s.hosts, s.shows) k.0, rw (st, co, s.phases, s.hosts, s.shows) k.1)

grows_show : (d d1 : Drafted) (kind : SpaceKind) (vs : List Value) → IsDraft d → is_in_order d.progress.form.version d.progress.stage (line.Show kind) vs ≡ true → AddsShow (record { kind = line.Show kind; values = vs }) d d1 → Grows d d1 (record { kind = line.Show kind; values = vs })
grows_show d d1 kind vs h o s =
    let l = show_lines_after d.progress.form d.progress.stage d.progress.config (record { kind = line.Show kind; values = vs }) d.phases d1.phases d.hosts d.items d.shows d1.shows o s.phases s.shows in
    record { lines = same_rest (advanced d.progress (line.Show kind) vs) d1.phases d1.hosts [] d1.items [] d1.shows d1.shows s.hosts s.items refl ∙ l; tidy = (s.hosts, s.items) }

-- what a header says, as it is printed
abbrev said_by : Version → List Value → List ℕ
said_by v vs = header_numbers v (header_queues v vs) (bare (number_at vs 0) (header_queues v vs * header_depth v vs) (header_budget v vs))

grows_header : (v : Version) (d : Drafted) (vs : List Value) → IsDraft d → is_in_order d.progress.form.version d.progress.stage (line.Header v) vs ≡ true → HeaderSays v vs → Grows d d (record { kind = line.Header v; values = vs })
grows_header v d vs h o says =
    let begun = at_start d.progress.stage o in
    let nothing : HasNothing d.phases d.hosts d.items d.shows = subst (λ (s : Stage). IsTidy s d.progress.config d.phases d.hosts d.items d.shows) begun h.tidy in
    let old : draft_lines d ≡ [] = rw (begun, nothing.0, nothing.3) refl in
    let all : lines_so_far (advanced d.progress (line.Header v) vs) d.phases d.hosts d.items d.shows ≡ draft_lines d ++ numbers_line (line.Header v) (said_by v vs) ∷ [] = rw (old, nothing.0, nothing.3) refl in
    record { lines = with_values _ (draft_lines d) (line.Header v) vs (counts (said_by v vs)) all says.values; tidy = (nothing, (zeros 8, zeros 8)) }

nothing_open : (f : Form) (s : Stage) (kind : SpaceKind) (n : ℕ) (hosts : List HostPart) (items : List Item) → namespace_follows s kind n ≡ true → open_lines f s hosts items ≡ []
nothing_open f AtStart kind n hosts items o = absurd cc
nothing_open f AfterHeader kind n hosts items o = refl
nothing_open f (AfterNamespace last m) kind n hosts items o = refl
nothing_open f InPhase kind n hosts items o = absurd cc
nothing_open f (InPart h) kind n hosts items o = absurd cc
nothing_open f AfterShow kind n hosts items o = absurd cc

namespace_by : (d : Drafted) (kind : SpaceKind) (n size : ℕ) → IsDraft d → namespace_follows d.progress.stage kind n ≡ true → 1 ≤ n → n ≤ NAMESPACES → 1 ≤ size
    → Configured d.progress.form d.progress.stage d.progress.config kind n size × HasNothing d.phases d.hosts d.items d.shows
namespace_by d kind zero size h o low high some = absurd (omega arith)
namespace_by d kind (suc k) size h o low high some = configured d.progress.form d.progress.stage d.progress.config kind k size d.phases d.hosts d.items d.shows h.tidy h.limits o (omega arith) (positive size some)

grows_namespace : (d : Drafted) (kind : SpaceKind) (vs : List Value) → IsDraft d → is_in_order d.progress.form.version d.progress.stage (line.Namespace kind) vs ≡ true → NamespaceSays vs → Grows d d (record { kind = line.Namespace kind; values = vs })
grows_namespace d kind vs h o says =
    let g = namespace_by d kind (number_at vs 0) (number_at vs 1) h o says.number.0 says.number.1 says.size.0 in
    let l : Line = numbers_line (line.Namespace kind) (number_at vs 0 ∷ number_at vs 1 ∷ []) in
    let c' : Configuration = with_size d.progress.config (space_of kind (number_at vs 0)) (number_at vs 1) in
    let front : header_lines d.progress.form d.progress.stage d.progress.config ≡ configuration_lines d.progress.form d.progress.config = header_again d.progress.form d.progress.stage d.progress.config (rw g.0.begun refl) in
    let none : open_lines d.progress.form d.progress.stage d.hosts d.items ≡ [] = nothing_open d.progress.form d.progress.stage kind (number_at vs 0) d.hosts d.items o in
    let all : lines_so_far (advanced d.progress (line.Namespace kind) vs) d.phases d.hosts d.items d.shows ≡ draft_lines d ++ l ∷ [] =
    config_so d.progress.form (configuration_lines d.progress.form c') (configuration_lines d.progress.form d.progress.config) l d.phases d.shows g.1.0 g.1.3 g.0.lines
    ∙ ap (λ (t : List Line). (((t ++ phase_lines d.progress.form d.phases) ++ []) ++ show_lines d.shows) ++ l ∷ []) (sym front) ∙ ap (λ (t : List Line). (((header_lines d.progress.form d.progress.stage d.progress.config ++ phase_lines d.progress.form d.phases) ++ t) ++ show_lines d.shows) ++ l ∷ []) (sym none) in
    record { lines = with_values _ (draft_lines d) (line.Namespace kind) vs (counts (number_at vs 0 ∷ number_at vs 1 ∷ [])) all says.values; tidy = (g.1, g.0.sizes) }

-- ---- by the kind

pub fits_of : (p : Progress) (l : Line) → is_within_limits p l ≡ true → line_fits l ≡ true
fits_of p l e = (both_true (line_fits l) (has_room p l.kind l.values) e).0

grows : (kind : LineKind) (d d1 : Drafted) (vs : List Value) → IsDraft d → is_in_order d.progress.form.version d.progress.stage kind vs ≡ true → IsShaped (fields_of kind) vs → line_fits (record { kind = kind; values = vs }) ≡ true → Stored kind vs d d1
    → Grows d d1 (record { kind = kind; values = vs })
grows (line.Header v) d d1 vs h o shape fits s = subst (λ (x : Drafted). Grows d x (record { kind = line.Header v; values = vs })) (sym s) (grows_header v d vs h o (header_says v vs shape fits))
grows (line.Namespace kind) d d1 vs h o shape fits s = subst (λ (x : Drafted). Grows d x (record { kind = line.Namespace kind; values = vs })) (sym s) (grows_namespace d kind vs h o (namespace_says kind vs shape fits))
grows line.Phase d d1 vs h o shape fits s = grows_phase d d1 vs h o shape s
grows line.Host d d1 vs h o shape fits s = grows_host d d1 vs h o (host_says vs shape fits).values s
grows (line.Send v w) d d1 vs h o shape fits s =
    let g = grows_item d d1 (record { kind = line.Send v w; values = vs }) (advanced d.progress (line.Send v w) vs) h (both_true _ _ o).0 refl refl refl s in
    record { lines = g.0; tidy = g.1 }
grows (line.Take v) d d1 vs h o shape fits s =
    let g = grows_item d d1 (record { kind = line.Take v; values = vs }) (advanced d.progress (line.Take v) vs) h (both_true _ _ o).0 refl refl refl s in
    record { lines = g.0; tidy = g.1 }
grows (line.Show kind) d d1 vs h o shape fits s = grows_show d d1 kind vs h o s

few_outstanding : (v : Version) (n : ℕ) → n ≤ (limits_of v).outstanding → n ≤ MAX_DEPTH
few_outstanding version.One n h = omega (arith, h)
few_outstanding version.Two n h = omega (arith, h)

keeps : (kind : LineKind) (p : Progress) (vs : List Value) → IsWithinLimits p.config → IsShaped (fields_of kind) vs → is_within_limits p (record { kind = kind; values = vs }) ≡ true → IsWithinLimits (advanced p kind vs).config
keeps (line.Header v) p vs l shape e =
    let s = header_says v vs shape (fits_of p (record { kind = line.Header v; values = vs }) e) in
    let b = both_true (line_fits (record { kind = line.Header v; values = vs })) (has_room p (line.Header v) vs) e in
    let q = both_true (is_block (number_at vs 0)) (leb (header_queues v vs * header_depth v vs) (limits_of v).outstanding) b.1 in
    header_keeps (number_at vs 0) (header_queues v vs * header_depth v vs) (header_budget v vs) q.0 (one-le-mul s.queues.0 s.depth.0) (few_outstanding v _ (leb-true _ _ q.1)) s.budget.0 (omega (arith, s.budget.1))
keeps (line.Namespace kind) p vs l shape e =
    let s = namespace_says kind vs shape (fits_of p (record { kind = line.Namespace kind; values = vs }) e) in
    let b = both_true (line_fits (record { kind = line.Namespace kind; values = vs })) (has_room p (line.Namespace kind) vs) e in
    space_keeps p.config kind (number_at vs 0) (number_at vs 1) l s.number.0 s.number.1 b.1
keeps line.Phase p vs l shape e = l
keeps line.Host p vs l shape e = l
keeps (line.Send v w) p vs l shape e = l
keeps (line.Take v) p vs l shape e = l
keeps (line.Show kind) p vs l shape e = l

-- what a line adds
pub record Adds (d d' : Drafted) (l : Line) (after : Progress) : Type 0 where
  pub draft : IsDraft d'
  pub lines : draft_lines d' ≡ draft_lines d ++ l ∷ []
  pub progress : d'.progress ≡ after

adds_by : (d d1 : Drafted) (l : Line) (after : Progress) → IsDraft d → judged d.progress l ≡ Ok after → IsLine l → IsWithinLimits after.config → after ≡ advanced d.progress l.kind l.values → Grows d d1 l
    → Adds d (record d1 { progress = after }) l after
adds_by d d1 l after h j is lim at g =
    let lines : lines_so_far after d1.phases d1.hosts d1.items d1.shows ≡ draft_lines d ++ l ∷ [] = ap (λ (p : Progress). lines_so_far p d1.phases d1.hosts d1.items d1.shows) at ∙ g.lines in
    record {
      draft = record {
        tidy = subst (λ (p : Progress). IsTidy p.stage p.config d1.phases d1.hosts d1.items d1.shows) (sym at) g.tidy;
        limits = lim;
        counted = ap (after_lines start) lines ∙ after_one_more start (draft_lines d) l d.progress after h.counted j;
        sized = subst (λ (ls : List Line). AreSized ls) (sym lines) (sized_one_more (draft_lines d) l h.sized is.sized);
      };
      lines = lines;
      progress = refl;
    }

pub adds : (d d1 : Drafted) (l : Line) (after : Progress) → IsDraft d → judged d.progress l ≡ Ok after → IsLine l → Stored l.kind l.values d d1 → Adds d (record d1 { progress = after }) l after
adds d d1 l after h j is s =
    let p = passed d.progress l after j in
    let g : Grows d d1 l = grows l.kind d d1 l.values h p.order is.shape (fits_of d.progress l p.limits) s in
    let lim : IsWithinLimits after.config = subst (λ (q : Progress). IsWithinLimits q.config) (sym p.after) (keeps l.kind d.progress l.values h.limits is.shape p.limits) in
    adds_by d d1 l after h j is lim p.after g

pub finished : (f : Form) (s : Stage) (c : Configuration) (P O S : List Line) → is_start s ≡ false → (configuration_lines f c ++ (P ++ O)) ++ S ≡ ((header_lines f s c ++ P) ++ O) ++ S
finished f s c P O S h = ap (λ (x : List Line). x ++ S) (sym (append_assoc (configuration_lines f c) P O)) ∙ ap (λ (x : List Line). ((x ++ P) ++ O) ++ S) (sym (header_again f s c (rw h refl)))
