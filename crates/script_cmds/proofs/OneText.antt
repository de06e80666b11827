-- The text of a script is read again, and no other script has it.
use Rattle.std.proofs.Common.{◌≡◌, ℕ, ◌+◌, Bool, true, false, cond, eqb, List, [], ◌∷◌, ◌++◌, length, map, None, Result, Ok, Err, refl, sym, ap, subst, ◌∙◌, arith, length-append}
use Rattle.std.specs.Prelude.{is_ok}
use Rattle.std.proofs.lemmas.List.Elements.{All-head, All-tail}
use Rattle.cp_base.specs.Configuration.{Configuration}
use Rattle.cp_base.specs.declared.region.SpaceId.{SpaceId}
use Rattle.cp_base.specs.declared.region.SpaceId.TheVariants as space
use Rattle.cp_text.specs.Parts.{parts_between}
use Rattle.cp_text.proofs.Joined.{part_first}
use Rattle.script_line.specs.declared.fault.TextCause.{TextCause}
use Rattle.script_line.specs.declared.kind.LineKind.{LineKind}
use Rattle.script_line.specs.declared.kind.LineKind.TheVariants as line
use Rattle.script_line.specs.declared.kind.SpaceKind.{SpaceKind}
use Rattle.script_line.specs.declared.kind.SpaceKind.TheVariants as space_kind
use Rattle.script_line.specs.Field.{IsShaped, Value}
use Rattle.script_line.specs.Line.{Line, counts, fields_of, line_text}
use Rattle.script_line.specs.Versions.{IsOfVersion}
use Rattle.script_line.specs.declared.version.Version.{Version}
use Rattle.script_line.specs.declared.version.Version.TheVariants as version
use Rattle.script_line.specs.Reading.{◌>>=◌}
use Rattle.script_line.specs.Sized.{AreSized, IsLine, IsSizedLine}
use Rattle.script_line.proofs.ReadAgain.{line_again, line_lacks, one_line}
use Rattle.script_line.proofs.Sends.{send_shape, take_shape}
use Rattle.script_cmds.specs.declared.form.Form.{Form}
use Rattle.script_cmds.specs.declared.item.Item.{Item}
use Rattle.script_cmds.specs.declared.item.Item.TheVariants as item
use Rattle.script_cmds.specs.declared.item.HostPart.{HostPart}
use Rattle.script_cmds.specs.declared.item.Phase.{Phase}
use Rattle.script_cmds.specs.declared.item.Show.{Show}
use Rattle.script_cmds.specs.declared.progress.Progress.{Progress}
use Rattle.script_cmds.specs.declared.progress.Stage.{Stage}
use Rattle.script_cmds.specs.declared.progress.Stage.TheVariants.{AtStart}
use Rattle.script_cmds.specs.declared.script.Script.{Script}
use Rattle.script_cmds.specs.Fault.{judged, read_line, after_lines, fault_or, fault_from, first_fault}
use Rattle.script_cmds.specs.Kept.{KeepsOrderAndLimits}
use Rattle.script_cmds.specs.Progress.{start, is_start, is_in_part, is_in_order, advanced}
use Rattle.script_cmds.specs.Text.{configuration_lines, header_line, header_numbers, item_lines, lines_of, lines_text, numbers_line, part_lines, phase_lines, region_line, script_text, show_lines, size_lines}
use Rattle.script_cmds.proofs.Keeping.{both_true}
use Rattle.script_cmds.proofs.Puts.{passed}
use Rattle.script_cmds.proofs.WholeTexts.{fault_two}

-- ---- the fields of a script's lines are of their kinds

abbrev AreShaped : List Line → Type 0
AreShaped [] = Unit {0}
AreShaped (l ∷ ls) = IsShaped (fields_of l.kind) l.values × AreShaped ls

shaped_both : (xs ys : List Line) → AreShaped xs → AreShaped ys → AreShaped (xs ++ ys)
shaped_both [] ys p q = q
shaped_both (x ∷ xs) ys p q = (p.0, shaped_both xs ys p.1 q)

shaped_size : (b : Bool) (l : Line) (ls : List Line) → IsShaped (fields_of l.kind) l.values → AreShaped ls → AreShaped (cond b ls (l ∷ ls))
shaped_size true l ls p q = q
shaped_size false l ls p q = (p, q)

shaped_sizes : (kind : SpaceKind) (number : ℕ) (sizes : List ℕ) → AreShaped (size_lines (line.Namespace kind) number sizes)
shaped_sizes kind number [] = tt
shaped_sizes kind number (size ∷ sizes) = shaped_size (eqb size 0) (numbers_line (line.Namespace kind) (number ∷ size ∷ [])) (size_lines (line.Namespace kind) (number + 1) sizes) tt (shaped_sizes kind (number + 1) sizes)

shaped_items : (f : Form) (items : List Item) → AreShaped (item_lines f items)
shaped_items f [] = tt
shaped_items f (item.Send cid c ∷ items) = (send_shape f.version cid c.value, shaped_items f items)
shaped_items f (item.Take cid ∷ items) = (take_shape f.version cid, shaped_items f items)

shaped_parts : (f : Form) (parts : List HostPart) → AreShaped (part_lines f parts)
shaped_parts f [] = tt
shaped_parts f (part ∷ parts) = (tt, shaped_both (item_lines f part.items) (part_lines f parts) (shaped_items f part.items) (shaped_parts f parts))

shaped_phases : (f : Form) (phases : List Phase) → AreShaped (phase_lines f phases)
shaped_phases f [] = tt
shaped_phases f (phase ∷ phases) = (tt, shaped_both (part_lines f phase.hosts) (phase_lines f phases) (shaped_parts f phase.hosts) (shaped_phases f phases))

shaped_region : (s : SpaceId) (at len : ℕ) → IsShaped (fields_of (region_line s at len).kind) (region_line s at len).values
shaped_region (space.Nvm n) at len = tt
shaped_region (space.Mem n) at len = tt

shaped_shows : (shows : List Show) → AreShaped (show_lines shows)
shaped_shows [] = tt
shaped_shows (show ∷ shows) = (shaped_region show.range.space show.range.start show.range.len, shaped_shows shows)

by_version : (v : Version) (queues : ℕ) (c : Configuration) → IsShaped (fields_of (line.Header v)) (counts (header_numbers v queues c))
by_version version.One queues c = tt
by_version version.Two queues c = tt

shaped_header : (f : Form) (c : Configuration) → IsShaped (fields_of (header_line f c).kind) (header_line f c).values
shaped_header f c = by_version f.version f.queues c

shaped_lines : (script : Script) → AreShaped (lines_of script)
shaped_lines script =
    let f = script.form in
    shaped_both (configuration_lines f script.config ++ phase_lines f script.phases) (show_lines script.shows)
    (shaped_both (configuration_lines f script.config) (phase_lines f script.phases)
    (shaped_header f script.config, shaped_both (size_lines (line.Namespace space_kind.Nvm) 1 script.config.nvm) (size_lines (line.Namespace space_kind.Mem) 1 script.config.mem) (shaped_sizes space_kind.Nvm 1 script.config.nvm) (shaped_sizes space_kind.Mem 1 script.config.mem))
    (shaped_phases f script.phases))
    (shaped_shows script.shows)

-- ---- the lines of a script are of its version

abbrev AreOfVersion : Version → List Line → Type 0
AreOfVersion v [] = Unit {0}
AreOfVersion v (l ∷ ls) = IsOfVersion v l.kind × AreOfVersion v ls

version_both : (v : Version) (xs ys : List Line) → AreOfVersion v xs → AreOfVersion v ys → AreOfVersion v (xs ++ ys)
version_both v [] ys p q = q
version_both v (x ∷ xs) ys p q = (p.0, version_both v xs ys p.1 q)

version_size : (v : Version) (b : Bool) (l : Line) (ls : List Line) → IsOfVersion v l.kind → AreOfVersion v ls → AreOfVersion v (cond b ls (l ∷ ls))
version_size v true l ls p q = q
version_size v false l ls p q = (p, q)

version_sizes : (v : Version) (kind : SpaceKind) (number : ℕ) (sizes : List ℕ) → AreOfVersion v (size_lines (line.Namespace kind) number sizes)
version_sizes v kind number [] = tt
version_sizes v kind number (size ∷ sizes) = version_size v (eqb size 0) (numbers_line (line.Namespace kind) (number ∷ size ∷ [])) (size_lines (line.Namespace kind) (number + 1) sizes) tt (version_sizes v kind (number + 1) sizes)

version_items : (f : Form) (items : List Item) → AreOfVersion f.version (item_lines f items)
version_items f [] = tt
version_items f (item.Send cid c ∷ items) = (refl, version_items f items)
version_items f (item.Take cid ∷ items) = (refl, version_items f items)

version_parts : (f : Form) (parts : List HostPart) → AreOfVersion f.version (part_lines f parts)
version_parts f [] = tt
version_parts f (part ∷ parts) = (tt, version_both f.version (item_lines f part.items) (part_lines f parts) (version_items f part.items) (version_parts f parts))

version_phases : (f : Form) (phases : List Phase) → AreOfVersion f.version (phase_lines f phases)
version_phases f [] = tt
version_phases f (phase ∷ phases) = (tt, version_both f.version (part_lines f phase.hosts) (phase_lines f phases) (version_parts f phase.hosts) (version_phases f phases))

version_region : (v : Version) (s : SpaceId) (at len : ℕ) → IsOfVersion v (region_line s at len).kind
version_region v (space.Nvm n) at len = tt
version_region v (space.Mem n) at len = tt

version_shows : (v : Version) (shows : List Show) → AreOfVersion v (show_lines shows)
version_shows v [] = tt
version_shows v (show ∷ shows) = (version_region v show.range.space show.range.start show.range.len, version_shows v shows)

version_lines : (script : Script) → AreOfVersion script.form.version (lines_of script)
version_lines script =
    let f = script.form in
    let v = f.version in
    version_both v (configuration_lines f script.config ++ phase_lines f script.phases) (show_lines script.shows)
    (version_both v (configuration_lines f script.config) (phase_lines f script.phases)
    (tt, version_both v (size_lines (line.Namespace space_kind.Nvm) 1 script.config.nvm) (size_lines (line.Namespace space_kind.Mem) 1 script.config.mem) (version_sizes v space_kind.Nvm 1 script.config.nvm) (version_sizes v space_kind.Mem 1 script.config.mem))
    (version_phases f script.phases))
    (version_shows v script.shows)

-- ---- lines that have texts

abbrev AreLines : List Line → Type 0
AreLines [] = Unit {0}
AreLines (l ∷ ls) = IsLine l × AreLines ls

all_lines : (ls : List Line) → AreShaped ls → AreSized ls → AreLines ls
all_lines [] p q = tt
all_lines (l ∷ ls) p q = (record { shape = p.0; sized = All-head IsSizedLine l ls q }, all_lines ls p.1 (All-tail IsSizedLine l ls q))

texts_again : (ls : List Line) → AreLines ls → parts_between 10 (lines_text ls) ≡ map line_text ls ++ [] ∷ []
texts_again [] h = refl
texts_again (l ∷ ls) h = part_first 10 (line_text l) (lines_text ls) (line_lacks l h.0) ∙ ap (λ (ps : List (List ℕ)). line_text l ∷ ps) (texts_again ls h.1)

-- ---- no other lines have the text

first_same : (x y : List ℕ) (xs ys : List (List ℕ)) → x ∷ xs ≡ y ∷ ys → (x ≡ y) × (xs ≡ ys)
first_same x y xs ys e = (cc, cc)

too_long : (t : List ℕ) (ts : List (List ℕ)) → [] ∷ [] ≡ t ∷ (ts ++ [] ∷ []) → ⊥
too_long t ts e =
    let same : [] ≡ ts ++ [] ∷ [] = (first_same [] t [] (ts ++ [] ∷ []) e).1 in
    omega (arith, ap length same, length-append ts ([] ∷ []))

one_list : (v : Version) (xs ys : List Line) → AreLines xs → AreLines ys → AreOfVersion v xs → AreOfVersion v ys → map line_text xs ++ [] ∷ [] ≡ map line_text ys ++ [] ∷ [] → xs ≡ ys
one_list v [] [] p q a b e = refl
one_list v [] (y ∷ ys) p q a b e = absurd (too_long (line_text y) (map line_text ys) e)
one_list v (x ∷ xs) [] p q a b e = absurd (too_long (line_text x) (map line_text xs) (sym e))
one_list v (x ∷ xs) (y ∷ ys) p q a b e =
    let h = first_same (line_text x) (line_text y) (map line_text xs ++ [] ∷ []) (map line_text ys ++ [] ∷ []) e in
    let first : x ≡ y = one_line v x y p.0 q.0 a.0 b.0 h.0 in
    let rest : xs ≡ ys = one_list v xs ys p.1 q.1 a.1 b.1 h.1 in
    cc

header_is : (v w : Version) → ◌≡◌ {A = LineKind} (line.Header v) (line.Header w) → v ≡ w
header_is v w e = cc

-- the first lines tell the version
same_form : (a b : Script) → AreLines (lines_of a) → AreLines (lines_of b) → map line_text (lines_of a) ++ [] ∷ [] ≡ map line_text (lines_of b) ++ [] ∷ [] → a.form.version ≡ b.form.version
same_form a b p q e =
    let x = header_line a.form a.config in
    let y = header_line b.form b.config in
    let h = first_same (line_text x) (line_text y) _ _ e in
    header_is a.form.version b.form.version (ap (λ (l : Line). l.kind) (one_line version.One x y p.0 q.0 tt tt h.0))

pub one_text : (a b : Script) → AreSized (lines_of a) → AreSized (lines_of b) → script_text a ≡ script_text b → lines_of a ≡ lines_of b
one_text a b p q e =
    let pa = all_lines (lines_of a) (shaped_lines a) p in
    let pb = all_lines (lines_of b) (shaped_lines b) q in
    let texts = sym (texts_again (lines_of a) pa) ∙ ap (parts_between 10) e ∙ texts_again (lines_of b) pb in
    let of_a = version_lines a in
    let of_b : AreOfVersion a.form.version (lines_of b) = subst (λ (v : Version). AreOfVersion v (lines_of b)) (sym (same_form a b pa pb texts)) (version_lines b) in
    one_list a.form.version (lines_of a) (lines_of b) pa pb of_a of_b texts

-- ---- no line is faulty

part_begun : (s : Stage) → is_in_part s ≡ true → is_start s ≡ false
part_begun AtStart e = absurd cc
part_begun _ e = refl

pub begun : (p : Progress) (kind : LineKind) (values : List Value) → is_in_order p.form.version p.stage kind values ≡ true → is_start (advanced p kind values).stage ≡ false
begun p (line.Send v w) values e = part_begun p.stage (both_true _ _ e).0
begun p (line.Take v) values e = part_begun p.stage (both_true _ _ e).0
begun p _ values e = refl

ok_then : {A B : Type 0} (r : Result A TextCause) (f : A → Result B TextCause) → is_ok (r >>= f) ≡ true → (x : A) × (r ≡ Ok x) × (is_ok (f x) ≡ true)
ok_then (Ok x) f e = (x, refl, e)
ok_then (Err c) f e = absurd cc

fault_next : (p : Progress) (n : ℕ) (text : List ℕ) (ls : List Line) → fault_from p n (text ∷ (map line_text ls ++ [] ∷ [])) ≡ fault_or n (read_line p text) (λ q. fault_from q (n + 1) (map line_text ls ++ [] ∷ []))
fault_next p n text [] = fault_two p n text [] []
fault_next p n text (m ∷ ms) = fault_two p n text (line_text m) (map line_text ms ++ [] ∷ [])

-- behind the header the version stays
form_stays : (p : Progress) (kind : LineKind) (values : List Value) → is_in_order p.form.version p.stage kind values ≡ true → is_start p.stage ≡ false → (advanced p kind values).form ≡ p.form
form_stays p (line.Header v) values o b = absurd cc
form_stays p _ values o b = refl

fault_line : (v : Version) (p : Progress) (n : ℕ) (l : Line) (ls : List Line) → IsLine l → IsOfVersion p.form.version l.kind → is_ok (after_lines p (l ∷ ls)) ≡ true
    → ((advanced p l.kind l.values).form.version ≡ v)
    → ((q : Progress) → q.form.version ≡ v → is_start q.stage ≡ false → is_ok (after_lines q ls) ≡ true → fault_from q (n + 1) (map line_text ls ++ [] ∷ []) ≡ None)
    → fault_from p n (line_text l ∷ (map line_text ls ++ [] ∷ [])) ≡ None
fault_line v p n l ls h is ok then more =
    let o = ok_then (judged p l) (λ q. after_lines q ls) ok in
    let s = passed p l o.0 o.1 in
    let started : is_start o.0.stage ≡ false = ap (λ (q : Progress). is_start q.stage) s.after ∙ begun p l.kind l.values s.order in
    let same : o.0.form.version ≡ v = ap (λ (q : Progress). q.form.version) s.after ∙ then in
    let read : read_line p (line_text l) ≡ Ok o.0 = ap (λ r. r >>= judged p) (line_again p.form.version l h is) ∙ o.1 in
    fault_next p n (line_text l) ls ∙ ap (λ r. fault_or n r (λ q. fault_from q (n + 1) (map line_text ls ++ [] ∷ []))) read ∙ more o.0 same started o.2

fault_none : (v : Version) (p : Progress) (n : ℕ) (ls : List Line) → AreLines ls → AreOfVersion v ls → p.form.version ≡ v → is_start p.stage ≡ false → is_ok (after_lines p ls) ≡ true → fault_from p n (map line_text ls ++ [] ∷ []) ≡ None
fault_none v p n [] h vs same s ok = rw s refl
fault_none v p n (l ∷ ls) h vs same s ok =
    let is : IsOfVersion p.form.version l.kind = subst (λ (w : Version). IsOfVersion w l.kind) (sym same) vs.0 in
    let o = ok_then (judged p l) (λ q. after_lines q ls) ok in
    let stays = ap (λ (f : Form). f.version) (form_stays p l.kind l.values (passed p l o.0 o.1).order s) ∙ same in
    fault_line v p n l ls h.0 is ok stays (λ q there started more. fault_none v q (n + 1) ls h.1 vs.1 there started more)

pub accepted : (script : Script) → AreSized (lines_of script) → KeepsOrderAndLimits script → first_fault (script_text script) ≡ None
accepted script sized kept =
    let plain = all_lines (lines_of script) (shaped_lines script) sized in
    let config = script.config in
    let f = script.form in
    let rest = size_lines (line.Namespace space_kind.Nvm) 1 config.nvm ++ size_lines (line.Namespace space_kind.Mem) 1 config.mem ++ phase_lines f script.phases ++ show_lines script.shows in
    let vs = version_lines script in
    ap (fault_from start 1) (texts_again (lines_of script) plain)
    ∙ fault_line f.version start 1 (header_line f config) rest plain.0 tt kept refl (λ q there started more. fault_none f.version q 2 rest plain.1 vs.1 there started more)
