-- The shows of a script that keeps its order and limits lie inside its namespaces.
use Rattle.std.proofs.Common.{◌≡◌, ℕ, suc, ◌+◌, ◌*◌, ◌≤◌, nat_le, nat_lt, ◌==◌, Bool, true, false, ◌&&◌, List, [], ◌∷◌, ◌++◌, length, replicate, Ok, Err, is_ok, if◌then◌else◌, sym, refl, ap, subst, ◌∙◌, arith}
use Rattle.std.specs.Prelude.{slice_set, unwrap_or}
use Rattle.std.specs.List.{AllByRecursion}
use Rattle.std.proofs.Math.Seq.{set-append_seam}
use Rattle.std.proofs.lemmas.Bool.{false≢true}
use Rattle.std.proofs.lemmas.Bool.Decides.{nat_tests}
use Rattle.std.proofs.lemmas.List.{append_assoc}
use Rattle.cp_base.specs.Configuration.{Configuration, bare, size_of}
use Rattle.cp_base.specs.declared.region.SpaceId.{SpaceId}
use Rattle.cp_base.specs.declared.region.SpaceId.TheVariants as space
use Rattle.script_line.specs.declared.fault.TextCause.TheVariants as cause
use Rattle.script_cmds.specs.declared.form.Form.{Form}
use Rattle.script_cmds.specs.declared.item.Item.{Item}
use Rattle.script_cmds.specs.declared.item.Item.TheVariants as item
use Rattle.script_cmds.specs.declared.item.HostPart.{HostPart}
use Rattle.script_cmds.specs.declared.item.Phase.{Phase}
use Rattle.script_cmds.specs.declared.item.Show.{Show}
use Rattle.script_line.specs.declared.kind.LineKind.{LineKind}
use Rattle.script_line.specs.declared.kind.LineKind.TheVariants as line
use Rattle.script_line.specs.declared.kind.SpaceKind.TheVariants as space_kind
use Rattle.cp_base.specs.declared.limits.TheConstants.{MAX_TRANSFER}
use Rattle.script_cmds.specs.declared.progress.Progress.{Progress}
use Rattle.script_cmds.specs.declared.script.Script.{Script}
use Rattle.script_line.specs.Reading.{◌>>=◌}
use Rattle.script_line.specs.Versions.{limits_of}
use Rattle.script_line.specs.declared.version.Version.{Version}
use Rattle.script_line.specs.declared.version.Version.TheVariants as version
use Rattle.script_cmds.specs.Fault.{after_lines}
use Rattle.script_cmds.specs.Kept.{KeepsOrderAndLimits}
use Rattle.script_line.specs.Line.{Line, counts}
use Rattle.script_cmds.specs.Progress.{advanced, header_depth, header_queues, is_in_order, is_within_limits, start}
use Rattle.script_cmds.specs.Text.{configuration_lines, header_line, header_numbers, item_line, item_lines, numbers_line, part_lines, phase_lines, region_line, show_line, show_lines, size_lines}
use Rattle.history_model.proofs.Every.{every-All, every-weaker}
use Rattle.nvmecp.specs.Shown.{AreInside}

-- a line that keeps its limits, and what comes after it
record Goes (p : Progress) (l : Line) (lines : List Line) : Type 0 where
  fits : is_within_limits p l ≡ true
  rest : is_ok (after_lines (advanced p l.kind l.values) lines) ≡ true

goes_by : (p : Progress) (l : Line) (lines : List Line) (order limits : Bool) → is_within_limits p l ≡ limits
    → is_ok ((if order then if limits then Ok (advanced p l.kind l.values) else Err cause.Limit else Err cause.Order) >>= λ q. after_lines q lines) ≡ true
    → Goes p l lines
goes_by p l lines true true e h = record { fits = e; rest = h }
goes_by p l lines true false e h = absurd (false≢true h)
goes_by p l lines false limits e h = absurd (false≢true h)

goes : (p : Progress) (l : Line) (lines : List Line) → is_ok (after_lines p (l ∷ lines)) ≡ true → Goes p l lines
goes p l lines h = goes_by p l lines (is_in_order p.form.version p.stage l.kind l.values) (is_within_limits p l) refl h

-- some progress with this configuration, behind which these lines go on
record Then (c : Configuration) (rest : List Line) : Type 0 where
  progress : Progress
  config : progress.config ≡ c
  ok : is_ok (after_lines progress rest) ≡ true

-- Lines that leave the configuration.

after_items : (f : Form) (p : Progress) (items : List Item) (rest : List Line) → is_ok (after_lines p (item_lines f items ++ rest)) ≡ true → Then p.config rest
after_items f p [] rest h = record { progress = p; config = refl; ok = h }
after_items f p (item.Send cid command ∷ items) rest h =
    let l : Line = item_line f (item.Send cid command) in
    after_items f (advanced p l.kind l.values) items rest (goes p l (item_lines f items ++ rest) h).rest
after_items f p (item.Take cid ∷ items) rest h =
    let l : Line = item_line f (item.Take cid) in
    after_items f (advanced p l.kind l.values) items rest (goes p l (item_lines f items ++ rest) h).rest

after_parts : (f : Form) (p : Progress) (parts : List HostPart) (rest : List Line) → is_ok (after_lines p (part_lines f parts ++ rest)) ≡ true → Then p.config rest
after_parts f p [] rest h = record { progress = p; config = refl; ok = h }
after_parts f p (part ∷ parts) rest h =
    let host : Line = numbers_line line.Host (part.host ∷ []) in
    let first = (goes p host ((item_lines f part.items ++ part_lines f parts) ++ rest) h).rest in
    let joined = append_assoc (item_lines f part.items) (part_lines f parts) rest in
    let items = after_items f (advanced p line.Host host.values) part.items (part_lines f parts ++ rest) (subst (λ (ls : List Line). is_ok (after_lines (advanced p line.Host host.values) ls) ≡ true) joined first) in
    let more = after_parts f items.progress parts rest items.ok in
    record { progress = more.progress; config = more.config ∙ items.config; ok = more.ok }

after_phases : (f : Form) (p : Progress) (phases : List Phase) (rest : List Line) → is_ok (after_lines p (phase_lines f phases ++ rest)) ≡ true → Then p.config rest
after_phases f p [] rest h = record { progress = p; config = refl; ok = h }
after_phases f p (phase ∷ phases) rest h =
    let head : Line = numbers_line line.Phase [] in
    let first = (goes p head ((part_lines f phase.hosts ++ phase_lines f phases) ++ rest) h).rest in
    let joined = append_assoc (part_lines f phase.hosts) (phase_lines f phases) rest in
    let parts = after_parts f (advanced p line.Phase head.values) phase.hosts (phase_lines f phases ++ rest) (subst (λ (ls : List Line). is_ok (after_lines (advanced p line.Phase head.values) ls) ≡ true) joined first) in
    let more = after_phases f parts.progress phases rest parts.ok in
    record { progress = more.progress; config = more.config ∙ parts.config; ok = more.ok }

-- Lines of the configuration.

-- a size of 0 is there already
same_sizes : (front sizes : List ℕ) (size : ℕ) → size ≡ 0 → (front ++ 0 ∷ []) ++ sizes ≡ front ++ size ∷ sizes
same_sizes front sizes size e = append_assoc front (0 ∷ []) sizes ∙ ap {B = List ℕ} (λ (n : ℕ). front ++ n ∷ sizes) (sym e)

longer : (front : List ℕ) (size : ℕ) → length (front ++ size ∷ []) ≡ suc (length front)
longer [] size = refl
longer (x ∷ front) size = ap {B = ℕ} suc (longer front size)

is_zero : (n : ℕ) → (n == 0) ≡ true → n ≡ 0
is_zero n e = grind (arith, nat_tests, e)

-- a size at its place
placed : (front : List ℕ) (size : ℕ) (n : ℕ) → slice_set (front ++ 0 ∷ replicate n 0) (length front) size ≡ (front ++ size ∷ []) ++ replicate n 0
placed front size n = set-append_seam front 0 (replicate n 0) size ∙ sym (append_assoc front (size ∷ []) (replicate n 0))

-- one kind of namespaces in a configuration: the lines of its sizes, and what they do
record Kind : Type 0 where
  line : LineKind
  get : Configuration → List ℕ
  put : Configuration → List ℕ → Configuration
  advances : (p : Progress) (k size : ℕ) → (advanced p line (counts (suc k ∷ size ∷ []))).config ≡ put p.config (slice_set (get p.config) k size)
  got : (c : Configuration) (sizes : List ℕ) → get (put c sizes) ≡ sizes
  twice : (c : Configuration) (some sizes : List ℕ) → put (put c some) sizes ≡ put c sizes
  same : (c : Configuration) → put c (get c) ≡ c

nvm : Kind
nvm = record {
  line = line.Namespace space_kind.Nvm;
  get = λ (c : Configuration). c.nvm;
  put = λ (c : Configuration) (sizes : List ℕ). record c { nvm = sizes };
  advances = λ p k size. refl;
  got = λ c sizes. refl;
  twice = λ c some sizes. refl;
  same = λ c. refl;
}

mem : Kind
mem = record {
  line = line.Namespace space_kind.Mem;
  get = λ (c : Configuration). c.mem;
  put = λ (c : Configuration) (sizes : List ℕ). record c { mem = sizes };
  advances = λ p k size. refl;
  got = λ c sizes. refl;
  twice = λ c some sizes. refl;
  same = λ c. refl;
}

-- what the lines of these sizes, from a place on where all are 0, leave
abbrev Fills : Kind → List Line → List ℕ → Type 0
Fills kind rest sizes = (p : Progress) (front : List ℕ) → kind.get p.config ≡ front ++ replicate (length sizes) 0
    → is_ok (after_lines p (size_lines kind.line (suc (length front)) sizes ++ rest)) ≡ true → Then (kind.put p.config (front ++ sizes)) rest

-- the lines from a number on, one number later
lines_later : (kind : Kind) (front : List ℕ) (size : ℕ) (sizes : List ℕ) (rest : List Line)
    → size_lines kind.line (suc (length front) + 1) sizes ++ rest ≡ size_lines kind.line (suc (length (front ++ size ∷ []))) sizes ++ rest
lines_later kind front size sizes rest = ap {A = ℕ} (λ n. size_lines kind.line n sizes ++ rest) (omega (arith, longer front size))

to_config : (c c' : Configuration) (rest : List Line) → c ≡ c' → Then c rest → Then c' rest
to_config c c' rest e t = record { progress = t.progress; config = t.config ∙ e; ok = t.ok }

one_size : (kind : Kind) (rest : List Line) (size : ℕ) (sizes : List ℕ) → Fills kind rest sizes → (p : Progress) (front : List ℕ) (b : Bool) → (size == 0) ≡ b
    → kind.get p.config ≡ front ++ 0 ∷ replicate (length sizes) 0
    → is_ok (after_lines p ((if b then size_lines kind.line (suc (length front) + 1) sizes
    else numbers_line kind.line (suc (length front) ∷ size ∷ []) ∷ size_lines kind.line (suc (length front) + 1) sizes) ++ rest)) ≡ true
    → Then (kind.put p.config (front ++ size ∷ sizes)) rest
one_size kind rest size sizes fills p front true is e h =
    let filled = fills p (front ++ 0 ∷ []) (e ∙ sym (append_assoc front (0 ∷ []) (replicate (length sizes) 0)))
    (subst (λ (ls : List Line). is_ok (after_lines p ls) ≡ true) (lines_later kind front 0 sizes rest) h) in
    to_config _ _ rest (ap (kind.put p.config) (same_sizes front sizes size (is_zero size is))) filled
one_size kind rest size sizes fills p front false is e h =
    let l : Line = numbers_line kind.line (suc (length front) ∷ size ∷ []) in
    let q : Progress = advanced p kind.line l.values in
    let after = (goes p l (size_lines kind.line (suc (length front) + 1) sizes ++ rest) h).rest in
    let config : q.config ≡ kind.put p.config (slice_set (kind.get p.config) (length front) size) = kind.advances p (length front) size in
    let sizes_now : kind.get q.config ≡ (front ++ size ∷ []) ++ replicate (length sizes) 0 =
    ap kind.get config ∙ kind.got p.config _ ∙ ap (λ (xs : List ℕ). slice_set xs (length front) size) e ∙ placed front size (length sizes) in
    let filled = fills q (front ++ size ∷ []) sizes_now (subst (λ (ls : List Line). is_ok (after_lines q ls) ≡ true) (lines_later kind front size sizes rest) after) in
    to_config _ _ rest
    (ap (λ (c : Configuration). kind.put c ((front ++ size ∷ []) ++ sizes)) config ∙ kind.twice p.config _ _ ∙ ap (kind.put p.config) (append_assoc front (size ∷ []) sizes)) filled

all_sizes : (kind : Kind) (rest : List Line) (sizes : List ℕ) → Fills kind rest sizes
all_sizes kind rest [] = λ p front e h. record {
  progress = p;
  config = sym (ap (kind.put p.config) (sym e) ∙ kind.same p.config);
  ok = h;
}
all_sizes kind rest (size ∷ sizes) = λ p front e h. one_size kind rest size sizes (all_sizes kind rest sizes) p front (size == 0) refl e h

-- so many sizes of 0
abbrev zeros : ℕ → List ℕ
zeros n = replicate n 0

-- the depth of all queues together that the header says
abbrev depth_said : Version → ℕ → Configuration → ℕ
depth_said v queues c = header_queues v (counts (header_numbers v queues c)) * header_depth v (counts (header_numbers v queues c))

-- a configuration with this depth
abbrev deep : Configuration → ℕ → Configuration
deep c depth = record c { depth = depth }

-- what the header leaves
begun_config : (v : Version) (queues : ℕ) (c : Configuration) → (advanced start (line.Header v) (counts (header_numbers v queues c))).config ≡ bare c.block (depth_said v queues c) c.budget
begun_config version.One queues c = refl
begun_config version.Two queues c = refl

-- the lines of a configuration leave its sizes
after_configuration : (f : Form) (c : Configuration) (rest : List Line) → length c.nvm ≡ 8 → length c.mem ≡ 8
    → is_ok (after_lines start (configuration_lines f c ++ rest)) ≡ true → Then (deep c (depth_said f.version f.queues c)) rest
unfolding nvm mem all_sizes
after_configuration f c rest n m h =
    let header : Line = header_line f c in
    let first = (goes start header ((size_lines (line.Namespace space_kind.Nvm) 1 c.nvm ++ size_lines (line.Namespace space_kind.Mem) 1 c.mem) ++ rest) h).rest in
    let p : Progress = advanced start (line.Header f.version) header.values in
    let joined = append_assoc (size_lines (line.Namespace space_kind.Nvm) 1 c.nvm) (size_lines (line.Namespace space_kind.Mem) 1 c.mem) rest in
    let some = all_sizes nvm (size_lines (line.Namespace space_kind.Mem) 1 c.mem ++ rest) c.nvm p [] (ap zeros (sym n))
    (subst (λ (ls : List Line). is_ok (after_lines p ls) ≡ true) joined first) in
    let mems : some.progress.config.mem ≡ replicate (length c.mem) 0 = ap (λ (x : Configuration). x.mem) some.config ∙ ap zeros (sym m) in
    let both = all_sizes mem rest c.mem some.progress [] mems some.ok in
    to_config _ (deep c (depth_said f.version f.queues c)) rest
    (ap (λ (x : Configuration). record x { mem = c.mem }) some.config ∙ ap (λ (x : Configuration). record x { nvm = c.nvm; mem = c.mem }) (begun_config f.version f.queues c)) both

-- Shows.

and_parts : (a b : Bool) → (a && b) ≡ true → (a ≡ true) × (b ≡ true)
and_parts true b e = (refl, e)
and_parts false b e = absurd (false≢true e)

le_so : (a b : ℕ) → nat_le a b ≡ true → a ≤ b
le_so a b e = grind (arith, nat_tests, e)

-- whether a show lies inside, by its space
abbrev IsInside : Configuration → SpaceId → ℕ → ℕ → Type 0
IsInside c space at len = (len ≤ MAX_TRANSFER) × (at + len ≤ unwrap_or (size_of c space) 0)

-- what the test of a show line says
shown_inside : (number at len count most size : ℕ) (first second : Bool) → ((first && (second && ((nat_le 1 len && nat_le len MAX_TRANSFER) && true))) && (nat_lt count most && nat_le (at + len) size)) ≡ true
    → (len ≤ MAX_TRANSFER) × (at + len ≤ size)
shown_inside number at len count most size first second e =
    let all = and_parts (first && (second && ((nat_le 1 len && nat_le len MAX_TRANSFER) && true))) (nat_lt count most && nat_le (at + len) size) e in
    let a = and_parts first (second && ((nat_le 1 len && nat_le len MAX_TRANSFER) && true)) all.0 in
    let b = and_parts second ((nat_le 1 len && nat_le len MAX_TRANSFER) && true) a.1 in
    let d = and_parts (nat_le 1 len && nat_le len MAX_TRANSFER) true b.1 in
    let l = and_parts (nat_le 1 len) (nat_le len MAX_TRANSFER) d.0 in
    let room = and_parts (nat_lt count most) (nat_le (at + len) size) all.1 in
    (le_so len MAX_TRANSFER l.1, le_so (at + len) size room.1)

region_inside : (p : Progress) (s : SpaceId) (at len : ℕ) → is_within_limits p (region_line s at len) ≡ true → IsInside p.config s at len
region_inside p (space.Nvm n) at len e = shown_inside n at len p.shows (limits_of p.form.version).shows (unwrap_or (size_of p.config (space.Nvm n)) 0) _ _ e
region_inside p (space.Mem n) at len e = shown_inside n at len p.shows (limits_of p.form.version).shows (unwrap_or (size_of p.config (space.Mem n)) 0) _ _ e

region_keeps : (p : Progress) (s : SpaceId) (at len : ℕ) → (advanced p (region_line s at len).kind (region_line s at len).values).config ≡ p.config
region_keeps p (space.Nvm n) at len = refl
region_keeps p (space.Mem n) at len = refl

after_shows : (p : Progress) (c : Configuration) (shows : List Show) → p.config ≡ c → is_ok (after_lines p (show_lines shows)) ≡ true
    → AllByRecursion (λ (show : Show). IsInside c show.range.space show.range.start show.range.len) shows
after_shows p c [] e h = tt
after_shows p c (show ∷ shows) e h =
    let l : Line = show_line show in
    let g = goes p l (show_lines shows) h in
    let inside = region_inside p show.range.space show.range.start show.range.len g.fits in (
      subst (λ (x : Configuration). IsInside x show.range.space show.range.start show.range.len) e inside,
      after_shows (advanced p l.kind l.values) c shows (region_keeps p show.range.space show.range.start show.range.len ∙ e) g.rest,
    )

-- the depth is no matter
deep_inside : (c : Configuration) (depth : ℕ) (s : SpaceId) (at len : ℕ) → IsInside (deep c depth) s at len → IsInside c s at len
deep_inside c depth (space.Nvm n) at len h = h
deep_inside c depth (space.Mem n) at len h = h

-- each show of a script that keeps its order and limits
pub inside : (script : Script) → length script.config.nvm ≡ 8 → length script.config.mem ≡ 8 → KeepsOrderAndLimits script → AreInside script.config script.shows
inside script n m kept =
    let f : Form = script.form in
    let c : Configuration = script.config in
    let depth : ℕ = depth_said f.version f.queues c in
    let joined = append_assoc (configuration_lines f c) (phase_lines f script.phases) (show_lines script.shows) in
    let config = after_configuration f c (phase_lines f script.phases ++ show_lines script.shows) n m
    (subst (λ (ls : List Line). is_ok (after_lines start ls) ≡ true) joined kept) in
    let phases = after_phases f config.progress script.phases (show_lines script.shows) config.ok in
    every-All (λ (show : Show). (show.range.len ≤ MAX_TRANSFER) × (show.range.start + show.range.len ≤ unwrap_or (size_of c show.range.space) 0)) script.shows
    (every-weaker (λ (show : Show). IsInside (deep c depth) show.range.space show.range.start show.range.len) (λ (show : Show). IsInside c show.range.space show.range.start show.range.len)
    (λ show h. deep_inside c depth show.range.space show.range.start show.range.len h) script.shows
    (after_shows phases.progress (deep c depth) script.shows (phases.config ∙ config.config) phases.ok))
