-- A line that is read: it is one of its version, and the text is its text.
use Rattle.std.proofs.Common.{◌≡◌, ℕ, Bool, true, false, cond, List, [], ◌∷◌, Option, Some, None, Result, Ok, Err, refl, ap, subst, ◌∙◌}
use Rattle.std.specs.Prelude.{codes, option_map}
use Rattle.std.specs.Str.{bytes_eq}
use Rattle.cp_base.specs.Commands.{command_word}
use Rattle.cp_base.specs.declared.commands.CommandWord.{CommandWord}
use Rattle.cp_text.specs.Parts.{joined_by, parts_between}
use Rattle.cp_text.proofs.Joined.{joined_again}
use Rattle.script_line.specs.declared.fault.LineEnd.{LineEnd}
use Rattle.script_line.specs.declared.fault.LineEnd.TheVariants as ends
use Rattle.script_line.specs.declared.fault.TextCause.{TextCause}
use Rattle.script_line.specs.declared.fault.TextCause.TheVariants as cause
use Rattle.script_line.specs.declared.kind.LineKind.{LineKind}
use Rattle.script_line.specs.declared.kind.LineKind.TheVariants as line
use Rattle.script_line.specs.declared.kind.SpaceKind.TheVariants as space_kind
use Rattle.script_line.specs.declared.version.Version.{Version}
use Rattle.script_line.specs.declared.version.Version.TheVariants as version
use Rattle.script_line.specs.Field.{Value}
use Rattle.script_line.specs.Line.{Line, fields_of, line_text}
use Rattle.script_line.specs.Reading.{◌>>=◌, header_kind, kind_of, line_of, or_cause, read_fields, send_kind, show_kind}
use Rattle.script_line.specs.Sized.{IsLine}
use Rattle.script_line.specs.Values.{Fails}
use Rattle.script_line.specs.Versions.{IsOfVersion}
use Rattle.script_line.proofs.Spelled.{fields_spelled, ok_is}

pub bind_ok : {A B : Type 0} (r : Result A TextCause) (f : A → Result B TextCause) (y : B) → (r >>= f) ≡ Ok y → (x : A) × (r ≡ Ok x) × (f x ≡ Ok y)
bind_ok (Ok x) f y e = (x, refl, e)
bind_ok (Err d) f y e = absurd cc

-- ---- the version of a line that is read

cond_kind : (b : Bool) (v : Version) (first : LineKind) (more : Result LineKind TextCause) (kind : LineKind) → IsOfVersion v first → (more ≡ Ok kind → IsOfVersion v kind) → cond b (Ok first) more ≡ Ok kind → IsOfVersion v kind
cond_kind true v first more kind h rest e = subst (IsOfVersion v) (ok_is first kind e) h
cond_kind false v first more kind h rest e = rest e

cond_read : (b : Bool) (v : Version) (first more : Result LineKind TextCause) (kind : LineKind) → (first ≡ Ok kind → IsOfVersion v kind) → (more ≡ Ok kind → IsOfVersion v kind) → cond b first more ≡ Ok kind → IsOfVersion v kind
cond_read true v first more kind h rest e = h e
cond_read false v first more kind h rest e = rest e

no_kind : (v : Version) (c : TextCause) (kind : LineKind) → ◌≡◌ {A = Result LineKind TextCause} (Err c) (Ok kind) → IsOfVersion v kind
no_kind v c kind e = absurd cc

by_test : (v : Version) (b : Bool) → IsOfVersion v (cond b (line.Header version.Two) (line.Header version.One))
by_test v true = tt
by_test v false = tt

header_version : (v : Version) (more : List (List ℕ)) → IsOfVersion v (header_kind more)
header_version v [] = tt
header_version v (text ∷ more) = by_test v (bytes_eq text (codes "2"))

sent_version : (v : Version) (o : Option CommandWord) (kind : LineKind) → or_cause cause.Word (option_map (λ w. line.Send v w) o) ≡ Ok kind → IsOfVersion v kind
sent_version v (Some w) kind e = subst (IsOfVersion v) (ok_is (line.Send v w) kind e) refl
sent_version v None kind e = no_kind v cause.Word kind e

send_version : (v : Version) (more : List (List ℕ)) (kind : LineKind) → send_kind v more ≡ Ok kind → IsOfVersion v kind
send_version v [] kind e = no_kind v cause.Field kind e
send_version v (id ∷ []) kind e = no_kind v cause.Field kind e
send_version v (id ∷ text ∷ more) kind e = sent_version v (command_word text) kind e

show_version : (v : Version) (more : List (List ℕ)) (kind : LineKind) → show_kind more ≡ Ok kind → IsOfVersion v kind
show_version v [] kind e = no_kind v cause.Field kind e
show_version v (text ∷ more) kind e =
    cond_kind (bytes_eq text (codes "nvm")) v (line.Show space_kind.Nvm) (cond (bytes_eq text (codes "mem")) (Ok (line.Show space_kind.Mem)) (Err cause.Word)) kind tt
    (cond_kind (bytes_eq text (codes "mem")) v (line.Show space_kind.Mem) (Err cause.Word) kind tt (no_kind v cause.Word kind)) e

kind_version : (v : Version) (parts : List (List ℕ)) (kind : LineKind) → kind_of v parts ≡ Ok kind → IsOfVersion v kind
kind_version v [] kind e = no_kind v cause.Word kind e
kind_version v (text ∷ more) kind e =
    cond_kind (bytes_eq text (codes "nvmecp")) v (header_kind more) _ kind (header_version v more)
    (cond_kind (bytes_eq text (codes "nvm")) v (line.Namespace space_kind.Nvm) _ kind tt
    (cond_kind (bytes_eq text (codes "mem")) v (line.Namespace space_kind.Mem) _ kind tt
    (cond_kind (bytes_eq text (codes "phase")) v line.Phase _ kind tt
    (cond_kind (bytes_eq text (codes "host")) v line.Host _ kind tt
    (cond_read (bytes_eq text (codes "send")) v (send_kind v more) _ kind (send_version v more kind)
    (cond_kind (bytes_eq text (codes "take")) v (line.Take v) _ kind refl
    (cond_read (bytes_eq text (codes "show")) v (show_kind more) _ kind (show_version v more kind) (no_kind v cause.Word kind)))))))) e

-- ---- what is said

pub record Says (v : Version) (text : List ℕ) (l : Line) : Type 0 where
  pub version : IsOfVersion v l.kind
  pub line : IsLine l
  pub spelled : line_text l ≡ text

pub line_says : (v : Version) (text : List ℕ) (l : Line) → line_of v text ≡ Ok l → Says v text l
line_says v text l e =
    let last : LineKind → List Value → Result Line TextCause = λ kind values. Ok (record { kind = kind; values = values }) in
    let a = bind_ok (kind_of v (parts_between 32 text)) (λ kind. read_fields (fields_of kind) (parts_between 32 text) >>= λ values. last kind values) l e in
    let b = bind_ok (read_fields (fields_of a.0) (parts_between 32 text)) (λ values. last a.0 values) l a.2 in
    let s = fields_spelled (fields_of a.0) (parts_between 32 text) b.0 b.1 in
    let made : record { kind = a.0; values = b.0 } ≡ l = ok_is (record { kind = a.0; values = b.0 }) l b.2 in
    subst (λ (x : Line). Says v text x) made (record {
      version = kind_version v (parts_between 32 text) a.0 a.1;
      line = record { shape = s.shape; sized = s.sized };
      spelled = ap (joined_by 32) s.texts ∙ joined_again 32 text;
    })

pub fails_then : {A B : Type 0} (end : LineEnd) (r : Result A TextCause) (f : A → Result B TextCause) → Fails end r → Fails end (r >>= f)
fails_then ends.NoMemory r f h = tt
fails_then {A} (ends.Fault c) r f h = ap (λ (x : Result A TextCause). x >>= f) h
