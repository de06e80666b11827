-- A script in version 2 keeps its order and its limits.
use Rattle.std.proofs.Common.{◌≡◌, ℕ, ◌+◌, ◌*◌, ◌/◌, ◌<◌, ◌≤◌, Bool, true, false, ◌&&◌, cond, eqb, leb, ltb, List, [], ◌∷◌, ◌++◌, Result, Ok, Err, refl, sym, ap, subst, ◌∙◌, arith}
use Rattle.std.specs.Prelude.{is_ok, unwrap_or}
use Rattle.std.proofs.Math.Nat.{div-one}
use Rattle.std.proofs.lemmas.Bool.{le-leb, leb-true, lt-ltb, ltb-true}
use Rattle.cp_base.specs.Configuration.{Configuration, size_of}
use Rattle.cp_base.specs.declared.region.SpaceId.{SpaceId}
use Rattle.cp_base.specs.declared.region.SpaceId.TheVariants as space
use Rattle.script_line.specs.declared.fault.TextCause.{TextCause}
use Rattle.script_line.specs.declared.kind.LineKind.{LineKind}
use Rattle.script_line.specs.declared.kind.LineKind.TheVariants as line
use Rattle.script_line.specs.declared.kind.SpaceKind.{SpaceKind}
use Rattle.script_line.specs.declared.kind.SpaceKind.TheVariants as space_kind
use Rattle.script_line.specs.declared.limits.TheConstants.{MAX_64, VERSION_1, VERSION_2}
use Rattle.script_line.specs.declared.version.Version.{Version}
use Rattle.script_line.specs.declared.version.Version.TheVariants as version
use Rattle.script_line.specs.Field.{Value}
use Rattle.script_line.specs.Fits.{is_within, line_fits}
use Rattle.script_line.specs.Line.{Line, counts}
use Rattle.script_line.specs.Reading.{◌>>=◌}
use Rattle.script_line.specs.Values.{number_at}
use Rattle.script_line.proofs.Said.{bind_ok}
use Rattle.script_cmds.specs.declared.form.Form.{Form}
use Rattle.script_cmds.specs.declared.item.Item.{Item}
use Rattle.script_cmds.specs.declared.item.Item.TheVariants as item
use Rattle.script_cmds.specs.declared.item.HostPart.{HostPart}
use Rattle.script_cmds.specs.declared.item.Phase.{Phase}
use Rattle.script_cmds.specs.declared.item.Show.{Show}
use Rattle.script_cmds.specs.declared.progress.Progress.{Progress}
use Rattle.script_cmds.specs.declared.progress.Stage.{Stage}
use Rattle.script_cmds.specs.declared.script.Script.{Script}
use Rattle.script_cmds.specs.Fault.{after_lines, judged}
use Rattle.script_cmds.specs.Kept.{KeepsOrderAndLimits}
use Rattle.script_cmds.specs.Progress.{advanced, has_room, is_block, is_in_order, is_in_part, is_within_limits, names_queues, space_of, start}
use Rattle.script_cmds.specs.Queues.{AreExact, queues_in}
use Rattle.script_cmds.specs.Text.{header_line, item_line, item_lines, lines_of, numbers_line, part_lines, phase_lines, region_line, show_line, show_lines, size_lines}
use Rattle.script_cmds.proofs.HostLaws.{after_both, ok_is_some, ok_same}
use Rattle.script_cmds.proofs.Keeping.{and_true, both_true}
use Rattle.script_cmds.proofs.Meanings.{within_means}
use Rattle.script_cmds.proofs.Puts.{passed}
use Rattle.script_upgrade.specs.Upgraded.{upgraded}
use Rattle.script_upgrade.proofs.Fits.{send_fits, send_names, take_fits, take_names}

-- the form of version 1, and the same in version 2
abbrev one_form : Form
one_form = record { version = version.One; queues = 1 }

abbrev two_form : Form
two_form = record { version = version.Two; queues = 1 }

-- a place in a script of this form
abbrev at : Form → Progress → Progress
at f p = record p { form = f }

-- ---- one line

-- where a line of a script of version 1 passes, the other passes in version 2
abbrev Passes : Line → Line → Type 0
Passes l m = (p q : Progress) → judged (at one_form p) l ≡ Ok q → (judged (at two_form p) m ≡ Ok (at two_form q)) × (q ≡ at one_form q)

judged_so : (p : Progress) (l : Line) (q : Progress) → is_in_order p.form.version p.stage l.kind l.values ≡ true → is_within_limits p l ≡ true → advanced p l.kind l.values ≡ q → judged p l ≡ Ok q
judged_so p l q order limits e = rw (order, limits) (ap (λ (m : Progress). Ok m) e)

wider : (low high more n : ℕ) → high ≤ more → is_within low high n ≡ true → is_within low more n ≡ true
wider low high more n le e = let m = within_means low high n e in and_true (leb low n) (leb n more) (le-leb _ _ m.0) (le-leb _ _ (omega (arith, m.1, le)))

more_room : (n most more : ℕ) → most ≤ more → ltb n most ≡ true → ltb n more ≡ true
more_room n most more le e = let lt = ltb-true n most e in lt-ltb n more (omega (arith, lt, le))

-- lines that are the same in both versions
abbrev IsPlain : LineKind → Type 0
IsPlain (line.Header v) = ⊥
IsPlain (line.Namespace kind) = Unit {0}
IsPlain line.Phase = Unit {0}
IsPlain line.Host = Unit {0}
IsPlain (line.Send v w) = ⊥
IsPlain (line.Take v) = ⊥
IsPlain (line.Show kind) = Unit {0}

plain_order : (kind : LineKind) (s : Stage) (vs : List Value) → IsPlain kind → is_in_order version.One s kind vs ≡ true → is_in_order version.Two s kind vs ≡ true
plain_order (line.Header v) s vs plain e = absurd plain
plain_order (line.Namespace kind) s vs plain e = e
plain_order line.Phase s vs plain e = e
plain_order line.Host s vs plain e = e
plain_order (line.Send v w) s vs plain e = absurd plain
plain_order (line.Take v) s vs plain e = absurd plain
plain_order (line.Show kind) s vs plain e = e

plain_room : (kind : LineKind) (p : Progress) (vs : List Value) → IsPlain kind → has_room (at one_form p) kind vs ≡ true → has_room (at two_form p) kind vs ≡ true
plain_room (line.Header v) p vs plain e = absurd plain
plain_room (line.Namespace kind) p vs plain e = e
plain_room line.Phase p vs plain e = more_room p.phases 1024 4096 (omega arith) e
plain_room line.Host p vs plain e = refl
plain_room (line.Send v w) p vs plain e = absurd plain
plain_room (line.Take v) p vs plain e = absurd plain
plain_room (line.Show kind) p vs plain e =
    let b = both_true (ltb p.shows 1024) (leb (number_at vs 1 + number_at vs 2) (unwrap_or (size_of p.config (space_of kind (number_at vs 0))) 0)) e in
    and_true (ltb p.shows 4096) (leb (number_at vs 1 + number_at vs 2) (unwrap_or (size_of p.config (space_of kind (number_at vs 0))) 0)) (more_room p.shows 1024 4096 (omega arith) b.0) b.1

plain_after : (kind : LineKind) (p : Progress) (vs : List Value) → IsPlain kind → (advanced (at two_form p) kind vs ≡ at two_form (advanced (at one_form p) kind vs)) × (advanced (at one_form p) kind vs ≡ at one_form (advanced (at one_form p) kind vs))
plain_after (line.Header v) p vs plain = absurd plain
plain_after (line.Namespace kind) p vs plain = (refl, refl)
plain_after line.Phase p vs plain = (refl, refl)
plain_after line.Host p vs plain = (refl, refl)
plain_after (line.Send v w) p vs plain = absurd plain
plain_after (line.Take v) p vs plain = absurd plain
plain_after (line.Show kind) p vs plain = (refl, refl)

plain_passes : (l : Line) → IsPlain l.kind → Passes l l
plain_passes l plain p q e =
    let h = passed (at one_form p) l q e in
    let limits = both_true (line_fits l) (has_room (at one_form p) l.kind l.values) h.limits in
    let after = plain_after l.kind p l.values plain in
    let there : advanced (at two_form p) l.kind l.values ≡ at two_form q = after.0 ∙ ap (at two_form) (sym h.after) in (
      judged_so (at two_form p) l (at two_form q) (plain_order l.kind p.stage l.values plain h.order)
          (and_true (line_fits l) (has_room (at two_form p) l.kind l.values) limits.0 (plain_room l.kind p l.values plain limits.1)) there,
      h.after ∙ after.1 ∙ ap (at one_form) (sym h.after),
    )

item_passes : (x : Item) → Passes (item_line one_form x) (item_line two_form x)
item_passes (item.Send cid c) p q e =
    let l : Line = item_line one_form (item.Send cid c) in
    let m : Line = item_line two_form (item.Send cid c) in
    let h = passed (at one_form p) l q e in
    let limits = both_true (line_fits l) (has_room (at one_form p) l.kind l.values) h.limits in
    let room = both_true (ltb p.sends 16384) (names_queues 1 l.values) limits.1 in
    let order = and_true (is_in_part p.stage) true (both_true (is_in_part p.stage) true h.order).0 refl in
    let has : has_room (at two_form p) m.kind m.values ≡ true = and_true (ltb p.sends 65536) (names_queues 1 m.values) (more_room p.sends 16384 65536 (omega arith) room.0) (send_names cid c.value limits.0) in (
      judged_so (at two_form p) m (at two_form q) order (and_true (line_fits m) (has_room (at two_form p) m.kind m.values) (send_fits cid c.value limits.0) has) (ap (at two_form) (sym h.after)),
      h.after ∙ ap (at one_form) (sym h.after),
    )
item_passes (item.Take cid) p q e =
    let l : Line = item_line one_form (item.Take cid) in
    let m : Line = item_line two_form (item.Take cid) in
    let h = passed (at one_form p) l q e in
    let limits = both_true (line_fits l) (has_room (at one_form p) l.kind l.values) h.limits in
    let order = and_true (is_in_part p.stage) true (both_true (is_in_part p.stage) true h.order).0 refl in (
      judged_so (at two_form p) m (at two_form q) order (and_true (line_fits m) (has_room (at two_form p) m.kind m.values) (take_fits cid limits.0) (take_names cid limits.0)) (ap (at two_form) (sym h.after)),
      h.after ∙ ap (at one_form) (sym h.after),
    )

-- ---- lines after lines

-- the same of lines
abbrev PassAll : List Line → List Line → Type 0
PassAll ls ms = (p q : Progress) → after_lines (at one_form p) ls ≡ Ok q → (after_lines (at two_form p) ms ≡ Ok (at two_form q)) × (q ≡ at one_form q)

pass_none : PassAll [] []
pass_none p q e =
    let same : at one_form p ≡ q = ok_same (at one_form p) q e in
    (ap (λ (m : Progress). Ok (at two_form m)) same, sym same ∙ ap (at one_form) same)

pass_one : (l m : Line) (ls ms : List Line) → Passes l m → PassAll ls ms → PassAll (l ∷ ls) (m ∷ ms)
pass_one l m ls ms first rest p q e =
    let s = bind_ok (judged (at one_form p) l) (λ x. after_lines x ls) q e in
    let here = first p s.0 s.1 in
    let more = rest s.0 q (subst (λ (x : Progress). after_lines x ls ≡ Ok q) here.1 s.2) in
    (ap (λ (r : Result Progress TextCause). r >>= λ x. after_lines x ms) here.0 ∙ more.0, more.1)

after_then : (xs ys : List Line) (p m q : Progress) → after_lines p xs ≡ Ok m → after_lines m ys ≡ Ok q → after_lines p (xs ++ ys) ≡ Ok q
after_then [] ys p m q a b = subst (λ (s : Progress). after_lines s ys ≡ Ok q) (sym (ok_same p m a)) b
after_then (x ∷ xs) ys p m q a b =
    let s = bind_ok (judged p x) (λ r. after_lines r xs) m a in
    ap (λ (r : Result Progress TextCause). r >>= λ n. after_lines n (xs ++ ys)) s.1 ∙ after_then xs ys s.0 m q s.2 b

pass_both : (ls ms ls' ms' : List Line) → PassAll ls ms → PassAll ls' ms' → PassAll (ls ++ ls') (ms ++ ms')
pass_both ls ms ls' ms' first rest p q e =
    let r = after_both ls ls' (at one_form p) q e in
    let here = first p r.0 r.1 in
    let more = rest r.0 q (subst (λ (x : Progress). after_lines x ls' ≡ Ok q) here.1 r.2) in
    (after_then ms ms' (at two_form p) (at two_form r.0) (at two_form q) here.0 more.0, more.1)

-- ---- the lines of a script

items_pass : (xs : List Item) → PassAll (item_lines one_form xs) (item_lines two_form xs)
items_pass [] = pass_none
items_pass (x ∷ xs) = pass_one (item_line one_form x) (item_line two_form x) (item_lines one_form xs) (item_lines two_form xs) (item_passes x) (items_pass xs)

parts_pass : (parts : List HostPart) → PassAll (part_lines one_form parts) (part_lines two_form parts)
parts_pass [] = pass_none
parts_pass (part ∷ parts) =
    let host : Line = numbers_line line.Host (part.host ∷ []) in
    pass_one host host _ _ (plain_passes host tt) (pass_both (item_lines one_form part.items) (item_lines two_form part.items) (part_lines one_form parts) (part_lines two_form parts) (items_pass part.items) (parts_pass parts))

phases_pass : (phases : List Phase) → PassAll (phase_lines one_form phases) (phase_lines two_form phases)
phases_pass [] = pass_none
phases_pass (phase ∷ phases) =
    let head : Line = numbers_line line.Phase [] in
    pass_one head head _ _ (plain_passes head tt) (pass_both (part_lines one_form phase.hosts) (part_lines two_form phase.hosts) (phase_lines one_form phases) (phase_lines two_form phases) (parts_pass phase.hosts) (phases_pass phases))

region_passes : (s : SpaceId) (first len : ℕ) → Passes (region_line s first len) (region_line s first len)
region_passes (space.Nvm n) first len = plain_passes (region_line (space.Nvm n) first len) tt
region_passes (space.Mem n) first len = plain_passes (region_line (space.Mem n) first len) tt

shows_pass : (shows : List Show) → PassAll (show_lines shows) (show_lines shows)
shows_pass [] = pass_none
shows_pass (show ∷ shows) = pass_one (show_line show) (show_line show) (show_lines shows) (show_lines shows) (region_passes show.range.space show.range.start show.range.len) (shows_pass shows)

size_passes : (b : Bool) (l : Line) (ls : List Line) → Passes l l → PassAll ls ls → PassAll (cond b ls (l ∷ ls)) (cond b ls (l ∷ ls))
size_passes true l ls first rest = rest
size_passes false l ls first rest = pass_one l l ls ls first rest

sizes_pass : (kind : SpaceKind) (number : ℕ) (sizes : List ℕ) → PassAll (size_lines (line.Namespace kind) number sizes) (size_lines (line.Namespace kind) number sizes)
sizes_pass kind number [] = pass_none
sizes_pass kind number (size ∷ sizes) =
    let l : Line = numbers_line (line.Namespace kind) (number ∷ size ∷ []) in
    size_passes (eqb size 0) l (size_lines (line.Namespace kind) (number + 1) sizes) (plain_passes l tt) (sizes_pass kind (number + 1) sizes)

-- the header
header_passes : (block depth budget : ℕ) (q : Progress) → judged start (numbers_line (line.Header version.One) (block ∷ depth ∷ budget ∷ [])) ≡ Ok q
    → (judged start (numbers_line (line.Header version.Two) (block ∷ 1 ∷ depth ∷ budget ∷ [])) ≡ Ok (at two_form q)) × (q ≡ at one_form q)
header_passes block depth budget q e =
    let l : Line = numbers_line (line.Header version.One) (block ∷ depth ∷ budget ∷ []) in
    let m : Line = numbers_line (line.Header version.Two) (block ∷ 1 ∷ depth ∷ budget ∷ []) in
    let h = passed start l q e in
    let limits = both_true (line_fits l) (has_room start l.kind l.values) h.limits in
    let a = both_true (is_within 0 MAX_64 block) (is_within 1 VERSION_1.depth depth && (is_within 1 VERSION_1.budget budget && true)) limits.0 in
    let b = both_true (is_within 1 VERSION_1.depth depth) (is_within 1 VERSION_1.budget budget && true) a.1 in
    let c = both_true (is_within 1 VERSION_1.budget budget) true b.1 in
    let room = both_true (is_block block) (leb (1 * depth) VERSION_1.outstanding) limits.1 in
    let few : leb (1 * depth) VERSION_2.outstanding ≡ true = le-leb _ _ (omega (arith, leb-true _ _ room.1)) in
    let fits : line_fits m ≡ true =
    and_true (is_within 0 MAX_64 block) (is_within 1 VERSION_2.depth depth && (is_within 1 VERSION_2.budget budget && true)) a.0
    (and_true (is_within 1 VERSION_2.depth depth) (is_within 1 VERSION_2.budget budget && true) (wider 1 VERSION_1.depth VERSION_2.depth depth (omega arith) b.0)
    (and_true (is_within 1 VERSION_2.budget budget) true (wider 1 VERSION_1.budget VERSION_2.budget budget (omega arith) c.0) refl)) in (
      judged_so start m (at two_form q) refl (and_true (line_fits m) (has_room start m.kind m.values) fits (and_true (is_block block) (leb (1 * depth) VERSION_2.outstanding) room.0 few)) (ap (at two_form) (sym h.after)),
      h.after ∙ ap (at one_form) (sym h.after),
    )

-- ---- the whole script

abbrev script_in : Form → Configuration → List Phase → List Show → List Line
script_in f c phases shows =
    header_line f c ∷ (((size_lines (line.Namespace space_kind.Nvm) 1 c.nvm ++ size_lines (line.Namespace space_kind.Mem) 1 c.mem) ++ phase_lines f phases) ++ show_lines shows)

one_kept : (c : Configuration) (phases : List Phase) (shows : List Show) → is_ok (after_lines start (script_in one_form c phases shows)) ≡ true → is_ok (after_lines start (script_in two_form c phases shows)) ≡ true
one_kept c phases shows kept =
    let nvm : List Line = size_lines (line.Namespace space_kind.Nvm) 1 c.nvm in
    let mem : List Line = size_lines (line.Namespace space_kind.Mem) 1 c.mem in
    let ls : List Line = ((nvm ++ mem) ++ phase_lines one_form phases) ++ show_lines shows in
    let ms : List Line = ((nvm ++ mem) ++ phase_lines two_form phases) ++ show_lines shows in
    let all : PassAll ls ms =
    pass_both ((nvm ++ mem) ++ phase_lines one_form phases) ((nvm ++ mem) ++ phase_lines two_form phases) (show_lines shows) (show_lines shows)
    (pass_both (nvm ++ mem) (nvm ++ mem) (phase_lines one_form phases) (phase_lines two_form phases)
    (pass_both nvm nvm mem mem (sizes_pass space_kind.Nvm 1 c.nvm) (sizes_pass space_kind.Mem 1 c.mem)) (phases_pass phases)) (shows_pass shows) in
    let w = ok_is_some (after_lines start (script_in one_form c phases shows)) kept in
    let s = bind_ok (judged start (header_line one_form c)) (λ m. after_lines m ls) w.0 w.1 in
    let first = header_passes c.block c.depth c.budget s.0 s.1 in
    let header : judged start (header_line two_form c) ≡ Ok (at two_form s.0) =
    ap (λ (d : ℕ). judged start (numbers_line (line.Header version.Two) (c.block ∷ 1 ∷ d ∷ c.budget ∷ []))) (div-one c.depth) ∙ first.0 in
    let rest = all s.0 w.0 (subst (λ (x : Progress). after_lines x ls ≡ Ok w.0) first.1 s.2) in
    ap is_ok (ap (λ (r : Result Progress TextCause). r >>= λ m. after_lines m ms) header ∙ rest.0)

by_version : (v : Version) (queues : ℕ) (c : Configuration) (phases : List Phase) (shows : List Show) → queues ≡ queues_in v queues
    → is_ok (after_lines start (script_in (record { version = v; queues = queues }) c phases shows)) ≡ true
    → is_ok (after_lines start (script_in (record { version = version.Two; queues = queues }) c phases shows)) ≡ true
by_version version.One queues c phases shows one kept =
    subst (λ (n : ℕ). is_ok (after_lines start (script_in (record { version = version.Two; queues = n }) c phases shows)) ≡ true) (sym one)
    (one_kept c phases shows (subst (λ (n : ℕ). is_ok (after_lines start (script_in (record { version = version.One; queues = n }) c phases shows)) ≡ true) one kept))
by_version version.Two queues c phases shows one kept = kept

pub still_kept : (script : Script) → AreExact script.form script.config.depth → KeepsOrderAndLimits script → KeepsOrderAndLimits (upgraded script)
still_kept script exact kept = by_version script.form.version script.form.queues script.config script.phases script.shows exact.queues kept
