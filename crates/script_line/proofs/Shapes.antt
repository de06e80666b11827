-- The values of a line by the kinds of its fields.
use Rattle.std.proofs.Common.{◌≡◌, ℕ, suc, ◌+◌, ◌-◌, ◌*◌, ◌/◌, ◌%◌, ◌<◌, ◌≤◌, true, ◌&&◌, leb, List, [], ◌∷◌, ◌++◌, drop, length, map, Option, Some, None, refl, sym, ap, subst, ◌∙◌, arith}
use Rattle.std.specs.Prelude.{All, codes}
use Rattle.std.proofs.lemmas.Bool.{and_parts, leb-true}
use Rattle.std.proofs.lemmas.List.{length-map}
use Rattle.cp_base.specs.declared.commands.CommandWord.{CommandWord}
use Rattle.cp_base.specs.declared.commands.CommandWord.TheVariants as word
use Rattle.script_line.specs.declared.field.FieldValue.{FieldValue}
use Rattle.script_line.specs.declared.field.RangeText.{RangeText}
use Rattle.script_line.specs.declared.field.SourceText.{SourceText}
use Rattle.script_line.specs.declared.limits.TheConstants.{MAX_CID, VERSION_2}
use Rattle.script_line.specs.declared.version.Version.{Version}
use Rattle.script_line.specs.declared.version.Version.TheVariants as version
use Rattle.script_line.specs.Field.{Field, IsShaped, Hex, Sources, Value, Count, Queued, Data, Copied, Covered}
use Rattle.script_line.specs.Fits.{is_within, values_fit}
use Rattle.script_line.specs.Line.{command_fields, counts, identifier_field, identifier_value, narrow, wide}
use Rattle.script_line.specs.Sized.{IsSized}
use Rattle.script_line.specs.Values.{identifier_at, identifier_in, number_at, range_view, source_view, value_view}
use Rattle.script_line.specs.private.Outcomes.{data_in, ranges_at, sources_at}

pub no_value : (vs : List Value) → IsShaped [] vs → vs ≡ []
no_value [] h = refl
no_value (v ∷ vs) h = absurd h

last_of : List Value → Option Value
last_of [] = None
last_of (v ∷ []) = Some v
last_of (v ∷ w ∷ vs) = last_of (w ∷ vs)

last_is : (vs : List Value) (v : Value) → last_of (vs ++ v ∷ []) ≡ Some v
unfolding last_of
last_is [] v = refl
last_is (x ∷ []) v = refl
last_is (x ∷ y ∷ xs) v = last_is (y ∷ xs) v

viewed : (vs : List FieldValue) (v : FieldValue) → map value_view (vs ++ v ∷ []) ≡ map value_view vs ++ value_view v ∷ []
viewed [] v = refl
viewed (x ∷ xs) v = ap (λ (ws : List Value). value_view x ∷ ws) (viewed xs v)

some_is : (v w : Value) → Some v ≡ Some w → v ≡ w
some_is v w e = cc

pub last_bytes : (vs : List FieldValue) (v : FieldValue) (front : List Value) (bytes : List ℕ) → map value_view (vs ++ v ∷ []) ≡ front ++ Data bytes ∷ [] → data_in (value_view v) ≡ bytes
last_bytes vs v front bytes e =
    ap data_in (some_is (value_view v) (Data bytes) (sym (last_is (map value_view vs) (value_view v)) ∙ ap last_of (sym (viewed vs v) ∙ e) ∙ last_is front (Data bytes)))

pub never_none : (front : List Value) (bytes : List ℕ) → [] ≡ front ++ Data bytes ∷ [] → ⊥
never_none [] bytes e = absurd cc
never_none (v ∷ vs) bytes e = absurd cc

-- ---- the identifier

-- a value is the identifier that it says, where it keeps the limits of a queue and of an identifier
queued_back : (queue cid : ℕ) → 1 ≤ queue → cid ≤ MAX_CID → identifier_value version.Two ((queue - 1) * 65536 + cid) ≡ Queued queue cid
queued_back queue cid some few =
    let id : ℕ = (queue - 1) * 65536 + cid in
    let first : id / 65536 + 1 ≡ queue = omega arith in
    let second : id % 65536 ≡ cid = omega arith in
    rw (first, second) refl

within : (low high n : ℕ) → is_within low high n ≡ true → (low ≤ n) × (n ≤ high)
within low high n e = let p = and_parts (leb low n) (leb n high) e in (leb-true low n p.0, leb-true n high p.1)

-- the value of an identifier field, and what stands behind it
pub record HasIdentifier (v : Version) (fields : List Field) (values : List Value) : Type 0 where
  pub first : Value
  pub rest : List Value
  pub all : values ≡ first ∷ rest
  pub is : first ≡ identifier_value v (identifier_in (Some first))
  pub small : identifier_in (Some first) < 1048576
  pub shape : IsShaped fields rest
  pub fits : values_fit fields rest ≡ true

pub identifier_said : (v : Version) (name : List ℕ) (fields : List Field) (values : List Value) → IsShaped (identifier_field v name ∷ fields) values → values_fit (identifier_field v name ∷ fields) values ≡ true → HasIdentifier v fields values
identifier_said version.One name fields (Count n ∷ rest) s e =
    let p = and_parts (is_within 0 MAX_CID n) (values_fit fields rest) e in
    let few = (within 0 MAX_CID n p.0).1 in
    record { first = Count n; rest = rest; all = refl; is = refl; small = omega (arith, few); shape = s; fits = p.1 }
identifier_said version.Two name fields (Queued queue cid ∷ rest) s e =
    let p = and_parts (is_within 1 VERSION_2.queues queue && leb cid MAX_CID) (values_fit fields rest) e in
    let q = and_parts (is_within 1 VERSION_2.queues queue) (leb cid MAX_CID) p.0 in
    let some = within 1 VERSION_2.queues queue q.0 in
    let few = leb-true cid MAX_CID q.1 in
    record { first = Queued queue cid; rest = rest; all = refl; is = sym (queued_back queue cid some.0 few); small = omega (arith, some.0, some.1, few); shape = s; fits = p.1 }
identifier_said v name fields _ s e = absurd s

-- ---- what the fields of some send lines say behind the identifier

pub write_values : (a b : List ℕ) (vs : List Value) → IsShaped (narrow a ∷ wide b ∷ Hex (codes "data=") ∷ []) vs → (bytes : List ℕ) × (vs ≡ counts (number_at vs 0 ∷ number_at vs 1 ∷ []) ++ Data bytes ∷ [])
write_values a b (Count y ∷ Count z ∷ Data bytes ∷ []) h = (bytes, refl)
write_values a b _ h = absurd h

pub load_values : (v : Version) (vs : List Value) → IsShaped (command_fields v word.Load) vs → (bytes : List ℕ) × (vs ≡ counts (number_at vs 0 ∷ number_at vs 1 ∷ number_at vs 2 ∷ []) ++ Data bytes ∷ [])
load_values v (Count y ∷ Count z ∷ Count w ∷ Data bytes ∷ []) h = (bytes, refl)
load_values v _ h = absurd h

pub fill_values : (v : Version) (vs : List Value) → IsShaped (command_fields v word.MemFill) vs → vs ≡ counts (number_at vs 0 ∷ number_at vs 1 ∷ number_at vs 2 ∷ number_at vs 3 ∷ [])
fill_values v (Count y ∷ Count z ∷ Count w ∷ Count x ∷ []) h = refl
fill_values v _ h = absurd h

pub execute_values : (v : Version) (vs : List Value) → IsShaped (command_fields v word.Execute) vs → vs ≡ counts (number_at vs 0 ∷ number_at vs 1 ∷ number_at vs 2 ∷ number_at vs 3 ∷ number_at vs 4 ∷ [])
execute_values v (Count y ∷ Count z ∷ Count w ∷ Count x ∷ Count u ∷ []) h = refl
execute_values v _ h = absurd h

-- the identifier that an Abort names
pub record Names (v : Version) (vs : List Value) : Type 0 where
  pub all : vs ≡ identifier_value v (identifier_at vs 0) ∷ []
  pub small : identifier_at vs 0 < 1048576

pub names_by : (v : Version) (vs : List Value) → HasIdentifier v [] vs → Names v vs
names_by v vs h =
    let whole : vs ≡ h.first ∷ [] = h.all ∙ ap (λ (ws : List Value). h.first ∷ ws) (no_value h.rest h.shape) in
    subst (λ (ws : List Value). Names v ws) (sym whole) (record { all = ap (λ (x : Value). x ∷ []) h.is; small = h.small })

pub abort_names : (v : Version) (vs : List Value) → IsShaped (command_fields v word.Abort) vs → values_fit (command_fields v word.Abort) vs ≡ true → Names v vs
abort_names v vs s e = names_by v vs (identifier_said v (codes "cid=") [] vs s e)

-- what stands behind the first value is sized
pub sized_behind : (old new : List FieldValue) → new ≡ drop 1 old → All IsSized (map value_view old) → All IsSized (map value_view new)
sized_behind old new e all = subst (λ (xs : List FieldValue). All IsSized (map value_view xs)) (sym e) (by old all)
  where
    by : (xs : List FieldValue) → All IsSized (map value_view xs) → All IsSized (map value_view (drop 1 xs))
    by [] h = h
    by (x ∷ xs) h = λ k d lt. h (suc k) d (omega arith)

-- ---- a list that a send line says has an element

some_of : {A B : Type 0} (f : A → B) (xs : List A) (ys : List B) → map f xs ≡ ys → 0 < length ys → 0 < length xs
some_of f xs ys e h = omega (arith, length-map xs f, ap length e)

copied : (a b : List ℕ) (vs : List Value) → IsShaped (narrow a ∷ wide b ∷ Sources (codes "from=") ∷ []) vs → All IsSized vs → 0 < length (sources_at vs 2)
copied a b (Count y ∷ Count z ∷ Copied s ∷ []) h all = (all 2 (Count 0) (omega arith)).0
copied a b _ h all = absurd h

covered : (v : Version) (vs : List Value) → IsShaped (command_fields v word.SetCreate) vs → All IsSized vs → 0 < length (ranges_at vs 0)
covered v (Covered s ∷ []) h all = (all 0 (Count 0) (omega arith)).0
covered v _ h all = absurd h

pub nvm_sources : (v : Version) (w : CommandWord) (vs : List Value) (xs : List SourceText) → w ≡ word.NvmCopy → IsShaped (command_fields v w) vs → All IsSized vs → map source_view xs ≡ sources_at vs 2 → 0 < length xs
nvm_sources v w vs xs is h all e = some_of source_view xs (sources_at vs 2) e (copied (codes "ns=") (codes "lba=") vs (subst (λ (x : CommandWord). IsShaped (command_fields v x) vs) is h) all)

pub mem_sources : (v : Version) (w : CommandWord) (vs : List Value) (xs : List SourceText) → w ≡ word.MemCopy → IsShaped (command_fields v w) vs → All IsSized vs → map source_view xs ≡ sources_at vs 2 → 0 < length xs
mem_sources v w vs xs is h all e = some_of source_view xs (sources_at vs 2) e (copied (codes "ns=") (codes "at=") vs (subst (λ (x : CommandWord). IsShaped (command_fields v x) vs) is h) all)

pub set_ranges : (v : Version) (w : CommandWord) (vs : List Value) (xs : List RangeText) → w ≡ word.SetCreate → IsShaped (command_fields v w) vs → All IsSized vs → map range_view xs ≡ ranges_at vs 0 → 0 < length xs
set_ranges v w vs xs is h all e = some_of range_view xs (ranges_at vs 0) e (covered v vs (subst (λ (x : CommandWord). IsShaped (command_fields v x) vs) is h) all)
