-- What the lines say that keep the limits of their fields.
use Rattle.std.proofs.Common.{◌≡◌, ℕ, zero, suc, ◌+◌, ◌*◌, ◌<◌, ◌≤◌, true, false, Bool, ◌&&◌, cond, eqb, leb, List, [], ◌∷◌, Option, Some, None, refl, sym, ap, subst, arith}
use Rattle.std.specs.Prelude.{slice_get, unwrap_or}
use Rattle.std.proofs.Math.Nat.{mul-div_cancel_left, one-mul}
use Rattle.std.proofs.lemmas.Bool.{leb-true}
use Rattle.std.proofs.lemmas.Option.{get_or_from_slice_get, slice_get_within}
use Rattle.cp_base.specs.Configuration.{Configuration, IsWithinLimits, bare, present, size_of}
use Rattle.cp_base.specs.declared.limits.TheConstants.{MAX_HOSTS, MAX_NAMESPACE, MAX_TRANSFER, NAMESPACES}
use Rattle.cp_base.specs.Commands.{word_text}
use Rattle.cp_base.specs.declared.commands.CommandWord.{CommandWord}
use Rattle.script_line.specs.declared.kind.LineKind.TheVariants as line
use Rattle.script_line.specs.declared.kind.SpaceKind.{SpaceKind}
use Rattle.script_line.specs.declared.kind.SpaceKind.TheVariants as space_kind
use Rattle.script_line.specs.declared.limits.TheConstants.{VERSION_1, VERSION_2}
use Rattle.script_line.specs.declared.version.Version.{Version}
use Rattle.script_line.specs.declared.version.Version.TheVariants as version
use Rattle.script_line.proofs.Shapes.{Names, identifier_said, names_by}
use Rattle.script_line.specs.Field.{IsShaped, Value, Count, Word}
use Rattle.script_line.specs.Fits.{is_within, values_fit}
use Rattle.script_line.specs.Line.{command_fields, counts, fields_of}
use Rattle.script_line.specs.Values.{identifier_at, number_at}
use Rattle.script_cmds.specs.declared.progress.Progress.{Progress}
use Rattle.script_cmds.specs.Progress.{has_room, header_budget, header_depth, header_queues, is_within_limits, space_of}
use Rattle.script_cmds.specs.Text.{header_numbers}
use Rattle.script_cmds.proofs.Keeping.{both_true}

pub within_means : (low high n : ℕ) → is_within low high n ≡ true → (low ≤ n) × (n ≤ high)
within_means low high n e = let p = both_true (leb low n) (leb n high) e in (leb-true low n p.0, leb-true n high p.1)

pub no_value : (vs : List Value) → IsShaped [] vs → vs ≡ []
no_value [] h = refl
no_value (v ∷ vs) h = absurd h

-- a header: what it says is what is printed of it
pub record HeaderSays (v : Version) (vs : List Value) : Type 0 where
  pub values : vs ≡ counts (header_numbers v (header_queues v vs) (bare (number_at vs 0) (header_queues v vs * header_depth v vs) (header_budget v vs)))
  pub queues : (1 ≤ header_queues v vs) × (header_queues v vs ≤ VERSION_2.queues)
  pub depth : (1 ≤ header_depth v vs) × (header_depth v vs ≤ VERSION_2.depth)
  pub budget : (1 ≤ header_budget v vs) × (header_budget v vs ≤ VERSION_2.budget)

pub header_says : (v : Version) (vs : List Value) → IsShaped (fields_of (line.Header v)) vs → values_fit (fields_of (line.Header v)) vs ≡ true → HeaderSays v vs
header_says version.One (Count x ∷ Count y ∷ Count z ∷ []) h e =
    let p = both_true (is_within 0 18446744073709551615 x) (is_within 1 VERSION_1.depth y && (is_within 1 VERSION_1.budget z && true)) e in
    let q = both_true (is_within 1 VERSION_1.depth y) (is_within 1 VERSION_1.budget z && true) p.1 in
    let depth = within_means 1 VERSION_1.depth y q.0 in
    let budget = within_means 1 VERSION_1.budget z (both_true (is_within 1 VERSION_1.budget z) true q.1).0 in
    record {
      values = ap (λ (d : ℕ). counts (x ∷ d ∷ z ∷ [])) (sym (one-mul y));
      queues = (omega arith, omega arith);
      depth = (depth.0, omega (arith, depth.1));
      budget = (budget.0, omega (arith, budget.1));
    }
header_says version.Two (Count x ∷ Count q ∷ Count y ∷ Count z ∷ []) h e =
    let a = both_true (is_within 0 18446744073709551615 x) (is_within 1 VERSION_2.queues q && (is_within 1 VERSION_2.depth y && (is_within 1 VERSION_2.budget z && true))) e in
    let b = both_true (is_within 1 VERSION_2.queues q) (is_within 1 VERSION_2.depth y && (is_within 1 VERSION_2.budget z && true)) a.1 in
    let c = both_true (is_within 1 VERSION_2.depth y) (is_within 1 VERSION_2.budget z && true) b.1 in
    let queues = within_means 1 VERSION_2.queues q b.0 in
    record {
      values = ap (λ (d : ℕ). counts (x ∷ q ∷ d ∷ z ∷ [])) (sym (mul-div_cancel_left y queues.0));
      queues = queues;
      depth = within_means 1 VERSION_2.depth y c.0;
      budget = within_means 1 VERSION_2.budget z (both_true (is_within 1 VERSION_2.budget z) true c.1).0;
    }
header_says v _ h e = absurd h

-- a namespace
pub record NamespaceSays (vs : List Value) : Type 0 where
  pub values : vs ≡ counts (number_at vs 0 ∷ number_at vs 1 ∷ [])
  pub number : (1 ≤ number_at vs 0) × (number_at vs 0 ≤ NAMESPACES)
  pub size : (1 ≤ number_at vs 1) × (number_at vs 1 ≤ MAX_NAMESPACE)

pub namespace_says : (kind : SpaceKind) (vs : List Value) → IsShaped (fields_of (line.Namespace kind)) vs → values_fit (fields_of (line.Namespace kind)) vs ≡ true → NamespaceSays vs
namespace_says kind (Count x ∷ Count y ∷ []) h e =
    let p = both_true (is_within 1 NAMESPACES x) (is_within 1 MAX_NAMESPACE y && true) e in
    record { values = refl; number = within_means 1 NAMESPACES x p.0; size = within_means 1 MAX_NAMESPACE y (both_true (is_within 1 MAX_NAMESPACE y) true p.1).0 }
namespace_says kind _ h e = absurd h

-- a host
pub record HostSays (vs : List Value) : Type 0 where
  pub values : vs ≡ counts (number_at vs 0 ∷ [])
  pub number : (1 ≤ number_at vs 0) × (number_at vs 0 ≤ MAX_HOSTS)

pub host_says : (vs : List Value) → IsShaped (fields_of line.Host) vs → values_fit (fields_of line.Host) vs ≡ true → HostSays vs
host_says (Count x ∷ []) h e = record { values = refl; number = within_means 1 MAX_HOSTS x (both_true (is_within 1 MAX_HOSTS x) true e).0 }
host_says _ h e = absurd h

-- the identifier of a take and of a send line
pub take_says : (v : Version) (vs : List Value) → IsShaped (fields_of (line.Take v)) vs → values_fit (fields_of (line.Take v)) vs ≡ true → Names v vs
take_says v vs h e = names_by v vs (identifier_said v [] [] vs h e)

pub send_says : (v : Version) (w : CommandWord) (vs : List Value) → IsShaped (fields_of (line.Send v w)) vs → values_fit (fields_of (line.Send v w)) vs ≡ true → identifier_at vs 0 < 1048576
send_says v w vs h e =
    let first = identifier_said v [] (Word (word_text w) ∷ command_fields v w) vs h e in
    subst (λ (ws : List Value). identifier_at ws 0 < 1048576) (sym first.all) first.small

-- bytes that are shown
pub record ShowSays (vs : List Value) : Type 0 where
  pub values : vs ≡ counts (number_at vs 0 ∷ number_at vs 1 ∷ number_at vs 2 ∷ [])
  pub number : (1 ≤ number_at vs 0) × (number_at vs 0 ≤ NAMESPACES)
  pub len : (1 ≤ number_at vs 2) × (number_at vs 2 ≤ MAX_TRANSFER)

pub show_says : (kind : SpaceKind) (vs : List Value) → IsShaped (fields_of (line.Show kind)) vs → values_fit (fields_of (line.Show kind)) vs ≡ true → ShowSays vs
show_says kind (Count x ∷ Count y ∷ Count z ∷ []) h e =
    let p = both_true (is_within 1 NAMESPACES x) (is_within 0 18446744073709551615 y && (is_within 1 MAX_TRANSFER z && true)) e in
    let q = both_true (is_within 0 18446744073709551615 y) (is_within 1 MAX_TRANSFER z && true) p.1 in
    record { values = refl; number = within_means 1 NAMESPACES x p.0; len = within_means 1 MAX_TRANSFER z (both_true (is_within 1 MAX_TRANSFER z) true q.1).0 }
show_says kind _ h e = absurd h

-- ---- bytes that are shown lie in a namespace, and so before the largest namespace's end

present_by : (b : Bool) (m : ℕ) → m ≤ MAX_NAMESPACE → unwrap_or (cond b None (Some m)) 0 ≤ MAX_NAMESPACE
present_by true m h = omega arith
present_by false m h = h

present_small : (unit : ℕ) (o : Option ℕ) → ((m : ℕ) → o ≡ Some m → m * unit ≤ MAX_NAMESPACE) → unwrap_or (present unit o) 0 ≤ MAX_NAMESPACE
present_small unit None h = omega arith
present_small unit (Some m) h = present_by (eqb m 0) (m * unit) (h m refl)

size_small : (c : Configuration) (kind : SpaceKind) (n : ℕ) → IsWithinLimits c → unwrap_or (size_of c (space_of kind n)) 0 ≤ MAX_NAMESPACE
size_small c space_kind.Nvm zero l = omega arith
size_small c space_kind.Mem zero l = omega arith
size_small c space_kind.Nvm (suc k) l =
    present_small c.block (slice_get c.nvm k) (λ m e. subst (λ (x : ℕ). x * c.block ≤ MAX_NAMESPACE) (get_or_from_slice_get c.nvm k m 0 e) (l.nvm_sizes k 0 (slice_get_within c.nvm k m e)))
size_small c space_kind.Mem (suc k) l =
    present_small 1 (slice_get c.mem k) (λ m e. let small : m ≤ MAX_NAMESPACE = subst (λ (x : ℕ). x ≤ MAX_NAMESPACE) (get_or_from_slice_get c.mem k m 0 e) (l.mem_sizes k 0 (slice_get_within c.mem k m e)) in omega arith)

pub shown_inside : (p : Progress) (kind : SpaceKind) (vs : List Value) → IsWithinLimits p.config → is_within_limits p (record { kind = line.Show kind; values = vs }) ≡ true → number_at vs 1 + number_at vs 2 ≤ MAX_NAMESPACE
shown_inside p kind vs l e =
    let a = both_true (values_fit (fields_of (line.Show kind)) vs) (has_room p (line.Show kind) vs) e in
    let b = both_true _ (leb (number_at vs 1 + number_at vs 2) (unwrap_or (size_of p.config (space_of kind (number_at vs 0))) 0)) a.1 in
    let low : number_at vs 1 + number_at vs 2 ≤ unwrap_or (size_of p.config (space_of kind (number_at vs 0))) 0 = leb-true _ _ b.1 in
    let high : unwrap_or (size_of p.config (space_of kind (number_at vs 0))) 0 ≤ MAX_NAMESPACE = size_small p.config kind (number_at vs 0) l in
    omega arith
