-- What is printed is read again.
use Rattle.std.proofs.Common.{◌≡◌, ℕ, suc, ◌<◌, Bool, true, false, ◌&&◌, cond, eqb, List, [], ◌∷◌, ◌++◌, length, map, Option, Some, Result, Ok, Err, refl, sym, ap, subst, ◌∙◌, arith, inl, inr}
use Rattle.std.specs.Prelude.{All, codes, decimal, ◌^◌, find, option_map}
use Rattle.std.specs.List.{list_all}
use Rattle.std.specs.Str.{bytes_eq}
use Rattle.std.proofs.lemmas.Bool.{eq-eqb}
use Rattle.std.proofs.lemmas.Slice.Eq.{bytes_eq-Decides}
use Rattle.cp_base.specs.declared.lists.CopySource.{CopySource}
use Rattle.cp_base.specs.declared.lists.CopySource.TheVariants as source
use Rattle.cp_base.specs.declared.lists.MemRange.{MemRange}
use Rattle.cp_text.specs.HexText.{hex_of, hex_text}
use Rattle.cp_text.proofs.HexTexts.{hex_of-text}
use Rattle.cp_text.proofs.NumberTexts.{spelled_number-decimal}
use Rattle.cp_text.specs.Parts.{all_lack, joined_by, lacks, parts_between}
use Rattle.cp_text.proofs.Joined.{IsNoDigit, all_lack_cons, decimal_lacks, hex_lacks, joined_lacks, lacks_both, lacks_cons, parts_again}
use Rattle.cp_base.specs.Commands.{all_words, command_word, word_text}
use Rattle.cp_base.specs.declared.lists.Access.{Access}
use Rattle.cp_base.specs.declared.lists.Access.TheVariants as access
use Rattle.cp_base.specs.declared.commands.CommandWord.{CommandWord}
use Rattle.cp_base.specs.declared.commands.CommandWord.TheVariants as word
use Rattle.script_line.specs.declared.fault.TextCause.{TextCause}
use Rattle.script_line.specs.declared.fault.TextCause.TheVariants as cause
use Rattle.script_line.specs.declared.kind.LineKind.{LineKind}
use Rattle.script_line.specs.declared.kind.LineKind.TheVariants as line
use Rattle.script_line.specs.declared.kind.SpaceKind.TheVariants as space_kind
use Rattle.script_line.specs.Field.{Field, IsShaped, Word, Number, Identifier, Hex, Sources, Ranges, Value, Count, Queued, Data, Copied, Covered, access_parts, queued_text, triple_text, source_text, range_text, field_texts}
use Rattle.script_line.specs.Line.{Line, command_fields, fields_of, line_text}
use Rattle.script_line.specs.Reading.{◌>>=◌, line_of, kind_of, both, after_name, or_cause, read_number, read_queued, queued_in, changed, read_three_numbers, read_triple, nvm_source, mem_source, mem_range, range_in, read_source, read_range, read_each, read_behind, read_field, read_fields}
use Rattle.script_line.specs.Versions.{IsOfVersion}
use Rattle.script_line.specs.declared.version.Version.{Version}
use Rattle.script_line.specs.declared.version.Version.TheVariants as version
use Rattle.script_line.specs.Sized.{IsLine, IsSized, IsSizedRange, IsSizedSource}
use Rattle.script_line.specs.private.Pushed.{front_of}
use Rattle.script_line.proofs.Spelled.{ok_is}

-- ---- numbers, sources and ranges

number_again : (n : ℕ) → n < 2 ^ 64 → read_number (decimal n) ≡ Ok n
number_again n lt = ap (or_cause cause.Number) (spelled_number-decimal n lt)

three_again : (a b c : ℕ) → a < 2 ^ 64 → b < 2 ^ 64 → c < 2 ^ 64 → read_three_numbers (decimal a) (decimal b) (decimal c) ≡ Ok (record { ns = a; start = b; len = c })
three_again a b c p q r = rw (number_again a p, number_again b q, number_again c r) refl

-- three numbers, and more parts behind them, have no mark
numbers_lack : (mark a b c : ℕ) (more : List (List ℕ)) → IsNoDigit mark → a < 2 ^ 64 → b < 2 ^ 64 → c < 2 ^ 64 → all_lack mark more ≡ true → all_lack mark (decimal a ∷ decimal b ∷ decimal c ∷ more) ≡ true
numbers_lack mark a b c more apart p q r h =
    all_lack_cons mark (decimal a) (decimal b ∷ decimal c ∷ more) (decimal_lacks mark a apart p)
    (all_lack_cons mark (decimal b) (decimal c ∷ more) (decimal_lacks mark b apart q) (all_lack_cons mark (decimal c) more (decimal_lacks mark c apart r) h))

colon : IsNoDigit 58
colon = inr (omega arith, omega arith)

triple_lacks : (mark a b c : ℕ) → IsNoDigit mark → eqb 58 mark ≡ false → a < 2 ^ 64 → b < 2 ^ 64 → c < 2 ^ 64 → lacks mark (triple_text a b c) ≡ true
triple_lacks mark a b c apart n p q r = joined_lacks mark 58 (decimal a ∷ decimal b ∷ decimal c ∷ []) n (numbers_lack mark a b c [] apart p q r refl)

triple_again : (a b c : ℕ) → a < 2 ^ 64 → b < 2 ^ 64 → c < 2 ^ 64 → read_triple (parts_between 58 (triple_text a b c)) ≡ Ok (record { ns = a; start = b; len = c })
triple_again a b c p q r = ap read_triple (parts_again 58 (decimal a) (decimal b ∷ decimal c ∷ []) (numbers_lack 58 a b c [] colon p q r refl)) ∙ three_again a b c p q r

-- a queue and an identifier in it have no mark
pair_lacks : (mark a b : ℕ) → IsNoDigit mark → a < 2 ^ 64 → b < 2 ^ 64 → all_lack mark (decimal a ∷ decimal b ∷ []) ≡ true
pair_lacks mark a b apart p q = all_lack_cons mark (decimal a) (decimal b ∷ []) (decimal_lacks mark a apart p) (all_lack_cons mark (decimal b) [] (decimal_lacks mark b apart q) refl)

queued_lacks : (mark a b : ℕ) → IsNoDigit mark → eqb 58 mark ≡ false → a < 2 ^ 64 → b < 2 ^ 64 → lacks mark (queued_text a b) ≡ true
queued_lacks mark a b apart n p q = joined_lacks mark 58 (decimal a ∷ decimal b ∷ []) n (pair_lacks mark a b apart p q)

queued_again : (a b : ℕ) → a < 2 ^ 64 → b < 2 ^ 64 → read_queued (queued_text a b) ≡ Ok (Queued a b)
queued_again a b p q = ap queued_in (parts_again 58 (decimal a) (decimal b ∷ []) (pair_lacks 58 a b colon p q)) ∙ rw (number_again a p, number_again b q) refl

-- a byte that stands in no number, data, source or range
record Apart (mark : ℕ) : Type 0 where
  digit : IsNoDigit mark
  colon : eqb 58 mark ≡ false
  nvm : eqb 110 mark ≡ false
  mem : eqb 109 mark ≡ false
  access : eqb 114 mark ≡ false

source_lacks : (mark : ℕ) (s : CopySource) → Apart mark → IsSizedSource s → lacks mark (source_text s) ≡ true
source_lacks mark (source.Nvm ns lba count) a s = lacks_cons mark 110 (triple_text ns lba count) a.nvm (triple_lacks mark ns lba count a.digit a.colon s.0 s.1 s.2)
source_lacks mark (source.Mem ns at len) a s = lacks_cons mark 109 (triple_text ns at len) a.mem (triple_lacks mark ns at len a.digit a.colon s.0 s.1 s.2)

source_again : (s : CopySource) → IsSizedSource s → read_source (source_text s) ≡ Ok s
source_again (source.Nvm ns lba count) s = ap (changed nvm_source) (triple_again ns lba count s.0 s.1 s.2)
source_again (source.Mem ns at len) s = ap (changed mem_source) (triple_again ns at len s.0 s.1 s.2)

access_lacks : (mark : ℕ) (a : Access) → eqb 114 mark ≡ false → all_lack mark (access_parts a) ≡ true
access_lacks mark access.ReadWrite n = refl
access_lacks mark access.ReadOnly n = all_lack_cons mark (114 ∷ []) [] (lacks_cons mark 114 [] n refl) refl

range_lacks : (mark : ℕ) (r : MemRange) → Apart mark → IsSizedRange r → lacks mark (range_text r) ≡ true
range_lacks mark r a s =
    joined_lacks mark 58 (decimal r.ns ∷ decimal r.at ∷ decimal r.len ∷ access_parts r.access) a.colon
    (numbers_lack mark r.ns r.at r.len (access_parts r.access) a.digit s.0 s.1 s.2 (access_lacks mark r.access a.access))

range_of_parts : (ns at len : ℕ) (a : Access) → ns < 2 ^ 64 → at < 2 ^ 64 → len < 2 ^ 64 → range_in (decimal ns ∷ decimal at ∷ decimal len ∷ access_parts a) ≡ Ok (record { ns = ns; at = at; len = len; access = a })
range_of_parts ns at len access.ReadWrite p q r = ap (changed (mem_range access.ReadWrite)) (three_again ns at len p q r)
range_of_parts ns at len access.ReadOnly p q r = ap (changed (mem_range access.ReadOnly)) (three_again ns at len p q r)

range_again : (r : MemRange) → IsSizedRange r → read_range (range_text r) ≡ Ok r
range_again r s =
    ap range_in (parts_again 58 (decimal r.ns) (decimal r.at ∷ decimal r.len ∷ access_parts r.access) (numbers_lack 58 r.ns r.at r.len (access_parts r.access) colon s.0 s.1 s.2 (access_lacks 58 r.access refl)))
    ∙ range_of_parts r.ns r.at r.len r.access s.0 s.1 s.2

-- ---- lists

pub first_of : {A : Type 0} (P : A → Type 0) (x : A) (xs : List A) → All P (x ∷ xs) → P x
first_of P x xs h = h 0 x (omega arith)

pub rest_of : {A : Type 0} (P : A → Type 0) (x : A) (xs : List A) → All P (x ∷ xs) → All P xs
rest_of P x xs h = λ k d lt. h (suc k) d (omega arith)

each_again : {A : Type 0} (read : List ℕ → Result A TextCause) (write : A → List ℕ) (P : A → Type 0) → ((x : A) → P x → read (write x) ≡ Ok x) → (xs : List A) → All P xs → read_each read (map write xs) ≡ Ok xs
each_again read write P h [] all = refl
each_again read write P h (x ∷ xs) all = rw (h x (first_of P x xs all), each_again read write P h xs (rest_of P x xs all)) refl

items_lack : {A : Type 0} (mark : ℕ) (write : A → List ℕ) (P : A → Type 0) → ((x : A) → P x → lacks mark (write x) ≡ true) → (xs : List A) → All P xs → all_lack mark (map write xs) ≡ true
items_lack mark write P h [] all = refl
items_lack mark write P h (x ∷ xs) all = all_lack_cons mark (write x) (map write xs) (h x (first_of P x xs all)) (items_lack mark write P h xs (rest_of P x xs all))

parts_of_list : (mark : ℕ) (parts : List (List ℕ)) → 0 < length parts → all_lack mark parts ≡ true → parts_between mark (joined_by mark parts) ≡ parts
parts_of_list mark [] some h = absurd (omega arith)
parts_of_list mark (part ∷ parts) some h = parts_again mark part parts h

some_texts : {A : Type 0} (write : A → List ℕ) (xs : List A) → 0 < length xs → 0 < length (map write xs)
some_texts write [] some = some
some_texts write (x ∷ xs) some = omega arith

comma : Apart 44
comma = record { digit = inl (omega arith); colon = refl; nvm = refl; mem = refl; access = refl }

sources_again : (xs : List CopySource) → 0 < length xs → All IsSizedSource xs → read_each read_source (parts_between 44 (joined_by 44 (map source_text xs))) ≡ Ok xs
sources_again xs some all =
    ap (read_each read_source) (parts_of_list 44 (map source_text xs) (some_texts source_text xs some) (items_lack 44 source_text IsSizedSource (λ s h. source_lacks 44 s comma h) xs all))
    ∙ each_again read_source source_text IsSizedSource source_again xs all

ranges_again : (xs : List MemRange) → 0 < length xs → All IsSizedRange xs → read_each read_range (parts_between 44 (joined_by 44 (map range_text xs))) ≡ Ok xs
ranges_again xs some all =
    ap (read_each read_range) (parts_of_list 44 (map range_text xs) (some_texts range_text xs some) (items_lack 44 range_text IsSizedRange (λ r h. range_lacks 44 r comma h) xs all))
    ∙ each_again read_range range_text IsSizedRange range_again xs all

-- ---- fields

behind_name : (name text : List ℕ) → after_name name (name ++ text) ≡ Some text
behind_name [] text = refl
behind_name (c ∷ cs) text = rw (eq-eqb c c refl) (behind_name cs text)

value_again : {A : Type 0} (make : A → List Value) (read : List ℕ → Result A TextCause) (name text : List ℕ) (x : A) → read text ≡ Ok x → changed make (read_behind read (after_name name (name ++ text))) ≡ Ok (make x)
value_again make read name text x e = ap (λ o. changed make (read_behind read o)) (behind_name name text) ∙ ap (changed make) e

both_again : (f : Result (List Value) TextCause) (more : Result (List Value) TextCause) (xs ys : List Value) → f ≡ Ok xs → more ≡ Ok ys → both (λ vs ws. vs ++ ws) f more ≡ Ok (xs ++ ys)
both_again f more xs ys a b = rw (a, b) refl

pub fields_again : (fields : List Field) (values : List Value) → IsShaped fields values → All IsSized values → read_fields fields (field_texts fields values) ≡ Ok values
fields_again [] [] s all = refl
fields_again (Word text ∷ fields) values s all =
    both_again (read_field (Word text) text) (read_fields fields (field_texts fields values)) [] values (ap (λ b. cond b (Ok []) (Err cause.Field)) ((bytes_eq-Decides text text).1 refl)) (fields_again fields values s all)
fields_again (Number name least most ∷ fields) (Count n ∷ values) s all =
    both_again (read_field (Number name least most) (name ++ decimal n)) (read_fields fields (field_texts fields values)) (Count n ∷ []) values
    (value_again (λ (m : ℕ). Count m ∷ []) read_number name (decimal n) n (number_again n (first_of IsSized (Count n) values all))) (fields_again fields values s (rest_of IsSized (Count n) values all))
fields_again (Identifier name ∷ fields) (Queued queue cid ∷ values) s all =
    let h = first_of IsSized (Queued queue cid) values all in
    both_again (read_field (Identifier name) (name ++ queued_text queue cid)) (read_fields fields (field_texts fields values)) (Queued queue cid ∷ []) values
    (value_again (λ (v : Value). v ∷ []) read_queued name (queued_text queue cid) (Queued queue cid) (queued_again queue cid h.0 h.1)) (fields_again fields values s (rest_of IsSized (Queued queue cid) values all))
fields_again (Hex name ∷ fields) (Data bytes ∷ values) s all =
    both_again (read_field (Hex name) (name ++ hex_text bytes)) (read_fields fields (field_texts fields values)) (Data bytes ∷ []) values
    (value_again (λ (b : List ℕ). Data b ∷ []) (λ t. or_cause cause.Hex (hex_of t)) name (hex_text bytes) bytes (ap (or_cause cause.Hex) (hex_of-text bytes (first_of IsSized (Data bytes) values all)))) (fields_again fields values s (rest_of IsSized (Data bytes) values all))
fields_again (Sources name ∷ fields) (Copied xs ∷ values) s all =
    let h = first_of IsSized (Copied xs) values all in
    both_again (read_field (Sources name) (name ++ joined_by 44 (map source_text xs))) (read_fields fields (field_texts fields values)) (Copied xs ∷ []) values
    (value_again (λ (b : List CopySource). Copied b ∷ []) (λ t. read_each read_source (parts_between 44 t)) name (joined_by 44 (map source_text xs)) xs (sources_again xs h.0 h.1)) (fields_again fields values s (rest_of IsSized (Copied xs) values all))
fields_again (Ranges name ∷ fields) (Covered xs ∷ values) s all =
    let h = first_of IsSized (Covered xs) values all in
    both_again (read_field (Ranges name) (name ++ joined_by 44 (map range_text xs))) (read_fields fields (field_texts fields values)) (Covered xs ∷ []) values
    (value_again (λ (b : List MemRange). Covered b ∷ []) (λ t. read_each read_range (parts_between 44 t)) name (joined_by 44 (map range_text xs)) xs (ranges_again xs h.0 h.1)) (fields_again fields values s (rest_of IsSized (Covered xs) values all))
fields_again _ _ s all = absurd s

-- ---- words

-- a word is read again
word_again : (w : CommandWord) → command_word (word_text w) ≡ Some w
word_again word.NvmRead = refl
word_again word.NvmWrite = refl
word_again word.NvmZeroes = refl
word_again word.NvmCopy = refl
word_again word.MemRead = refl
word_again word.MemWrite = refl
word_again word.MemFill = refl
word_again word.MemCopy = refl
word_again word.SetCreate = refl
word_again word.SetDelete = refl
word_again word.Load = refl
word_again word.Unload = refl
word_again word.Activate = refl
word_again word.Deactivate = refl
word_again word.Execute = refl
word_again word.Abort = refl

two_true : (a b : Bool) → (a && b) ≡ true → (a ≡ true) × (b ≡ true)
two_true true b e = (refl, e)
two_true false b e = absurd cc

some_is : (v w : CommandWord) → Some v ≡ Some w → v ≡ w
some_is v w e = cc

found_by : (b : Bool) (test : CommandWord → Bool) (v w : CommandWord) (more : Option CommandWord) → (more ≡ Some w → test w ≡ true) → test v ≡ true → cond b (Some v) more ≡ Some w → test w ≡ true
found_by true test v w more h t e = subst (λ (x : CommandWord). test x ≡ true) (some_is v w e) t
found_by false test v w more h t e = h e

found_passes : (p test : CommandWord → Bool) (words : List CommandWord) (w : CommandWord) → list_all test words ≡ true → find p words ≡ Some w → test w ≡ true
found_passes p test [] w all e = absurd cc
found_passes p test (v ∷ vs) w all e =
    let t = two_true (test v) (list_all test vs) all in
    found_by (p v) test v w (find p vs) (found_passes p test vs w t.1) t.0 e

-- what holds of all words in the list of words holds of each word
pub of_each_word : (test : CommandWord → Bool) → list_all test all_words ≡ true → (w : CommandWord) → test w ≡ true
of_each_word test all w = found_passes (λ v. bytes_eq (word_text w) (word_text v)) test all_words w all (word_again w)

-- ---- lines

-- whether the words and names of fields lack the mark
abbrev fronts_lack : ℕ → List Field → Bool
fronts_lack mark fields = list_all (λ f. lacks mark (front_of f)) fields

send_fronts : (v : Version) (mark : ℕ) → list_all (λ w. fronts_lack mark (fields_of (line.Send v w))) all_words ≡ true → (w : CommandWord) → fronts_lack mark (fields_of (line.Send v w)) ≡ true
send_fronts v mark all w = of_each_word (λ x. fronts_lack mark (fields_of (line.Send v x))) all w

-- no word and no name of the table has a space or a newline
plain_fronts : (kind : LineKind) → (fronts_lack 32 (fields_of kind) ≡ true) × (fronts_lack 10 (fields_of kind) ≡ true)
plain_fronts (line.Header version.One) = (refl, refl)
plain_fronts (line.Header version.Two) = (refl, refl)
plain_fronts (line.Namespace space_kind.Nvm) = (refl, refl)
plain_fronts (line.Namespace space_kind.Mem) = (refl, refl)
plain_fronts line.Phase = (refl, refl)
plain_fronts line.Host = (refl, refl)
plain_fronts (line.Take version.One) = (refl, refl)
plain_fronts (line.Take version.Two) = (refl, refl)
plain_fronts (line.Show space_kind.Nvm) = (refl, refl)
plain_fronts (line.Show space_kind.Mem) = (refl, refl)
plain_fronts (line.Send version.One w) = (send_fronts version.One 32 refl w, send_fronts version.One 10 refl w)
plain_fronts (line.Send version.Two w) = (send_fronts version.Two 32 refl w, send_fronts version.Two 10 refl w)

texts_lack : (mark : ℕ) (fields : List Field) (values : List Value) → Apart mark → eqb 44 mark ≡ false → fronts_lack mark fields ≡ true → IsShaped fields values → All IsSized values → all_lack mark (field_texts fields values) ≡ true
texts_lack mark [] [] a n f s all = refl
texts_lack mark (Word text ∷ fields) values a n f s all =
    let p = two_true (lacks mark text) (fronts_lack mark fields) f in
    all_lack_cons mark text (field_texts fields values) p.0 (texts_lack mark fields values a n p.1 s all)
texts_lack mark (Number name least most ∷ fields) (Count m ∷ values) a n f s all =
    let p = two_true (lacks mark name) (fronts_lack mark fields) f in
    all_lack_cons mark (name ++ decimal m) (field_texts fields values) (lacks_both mark name (decimal m) p.0 (decimal_lacks mark m a.digit (first_of IsSized (Count m) values all))) (texts_lack mark fields values a n p.1 s (rest_of IsSized (Count m) values all))
texts_lack mark (Identifier name ∷ fields) (Queued queue cid ∷ values) a n f s all =
    let p = two_true (lacks mark name) (fronts_lack mark fields) f in
    let h = first_of IsSized (Queued queue cid) values all in
    all_lack_cons mark (name ++ queued_text queue cid) (field_texts fields values) (lacks_both mark name (queued_text queue cid) p.0 (queued_lacks mark queue cid a.digit a.colon h.0 h.1)) (texts_lack mark fields values a n p.1 s (rest_of IsSized (Queued queue cid) values all))
texts_lack mark (Hex name ∷ fields) (Data bytes ∷ values) a n f s all =
    let p = two_true (lacks mark name) (fronts_lack mark fields) f in
    all_lack_cons mark (name ++ hex_text bytes) (field_texts fields values) (lacks_both mark name (hex_text bytes) p.0 (hex_lacks mark bytes a.digit (first_of IsSized (Data bytes) values all))) (texts_lack mark fields values a n p.1 s (rest_of IsSized (Data bytes) values all))
texts_lack mark (Sources name ∷ fields) (Copied xs ∷ values) a n f s all =
    let p = two_true (lacks mark name) (fronts_lack mark fields) f in
    let h = first_of IsSized (Copied xs) values all in
    all_lack_cons mark (name ++ joined_by 44 (map source_text xs)) (field_texts fields values)
    (lacks_both mark name (joined_by 44 (map source_text xs)) p.0 (joined_lacks mark 44 (map source_text xs) n (items_lack mark source_text IsSizedSource (λ x is. source_lacks mark x a is) xs h.1)))
    (texts_lack mark fields values a n p.1 s (rest_of IsSized (Copied xs) values all))
texts_lack mark (Ranges name ∷ fields) (Covered xs ∷ values) a n f s all =
    let p = two_true (lacks mark name) (fronts_lack mark fields) f in
    let h = first_of IsSized (Covered xs) values all in
    all_lack_cons mark (name ++ joined_by 44 (map range_text xs)) (field_texts fields values)
    (lacks_both mark name (joined_by 44 (map range_text xs)) p.0 (joined_lacks mark 44 (map range_text xs) n (items_lack mark range_text IsSizedRange (λ x is. range_lacks mark x a is) xs h.1)))
    (texts_lack mark fields values a n p.1 s (rest_of IsSized (Covered xs) values all))
texts_lack mark _ _ a n f s all = absurd s

-- the word of a send line stands third, whatever its identifier is
sent_again : (v : Version) (w : CommandWord) (id : List ℕ) (more : List (List ℕ)) → kind_of v (codes "send" ∷ id ∷ word_text w ∷ more) ≡ Ok (line.Send v w)
sent_again v w id more = ap (λ o. or_cause cause.Word (option_map (λ x. line.Send v x) o)) (word_again w)

send_again : (v : Version) (w : CommandWord) (values : List Value) → IsShaped (fields_of (line.Send v w)) values → kind_of v (field_texts (fields_of (line.Send v w)) values) ≡ Ok (line.Send v w)
send_again version.One w (Count cid ∷ values) s = sent_again version.One w (decimal cid) (field_texts (command_fields version.One w) values)
send_again version.Two w (Queued queue cid ∷ values) s = sent_again version.Two w (queued_text queue cid) (field_texts (command_fields version.Two w) values)
send_again v w _ s = absurd s

kind_again : (v : Version) (kind : LineKind) (values : List Value) → IsOfVersion v kind → IsShaped (fields_of kind) values → kind_of v (field_texts (fields_of kind) values) ≡ Ok kind
kind_again v (line.Send own w) values is s =
    ap (λ (x : Version). kind_of x (field_texts (fields_of (line.Send own w)) values)) (sym is) ∙ send_again own w values s
kind_again v (line.Header version.One) values is s = refl
kind_again v (line.Header version.Two) values is s = refl
kind_again v (line.Namespace space_kind.Nvm) values is s = refl
kind_again v (line.Namespace space_kind.Mem) values is s = refl
kind_again v line.Phase values is s = refl
kind_again v line.Host values is s = refl
kind_again v (line.Take own) values is s = ap (λ (x : Version). Ok (line.Take x)) (sym is)
kind_again v (line.Show space_kind.Nvm) values is s = refl
kind_again v (line.Show space_kind.Mem) values is s = refl

some_fields : (kind : LineKind) (values : List Value) → 0 < length (field_texts (fields_of kind) values)
some_fields (line.Send v w) values = omega arith
some_fields (line.Header version.One) values = omega arith
some_fields (line.Header version.Two) values = omega arith
some_fields (line.Namespace kind) values = omega arith
some_fields line.Phase values = omega arith
some_fields line.Host values = omega arith
some_fields (line.Take v) values = omega arith
some_fields (line.Show kind) values = omega arith

space : Apart 32
space = record { digit = inl (omega arith); colon = refl; nvm = refl; mem = refl; access = refl }

newline : Apart 10
newline = record { digit = inl (omega arith); colon = refl; nvm = refl; mem = refl; access = refl }

line_parts : (l : Line) → IsLine l → parts_between 32 (line_text l) ≡ field_texts (fields_of l.kind) l.values
line_parts l h =
    parts_of_list 32 (field_texts (fields_of l.kind) l.values) (some_fields l.kind l.values) (texts_lack 32 (fields_of l.kind) l.values space refl (plain_fronts l.kind).0 h.shape h.sized)

pub line_lacks : (l : Line) → IsLine l → lacks 10 (line_text l) ≡ true
line_lacks l h = joined_lacks 10 32 (field_texts (fields_of l.kind) l.values) refl (texts_lack 10 (fields_of l.kind) l.values newline refl (plain_fronts l.kind).1 h.shape h.sized)

pub line_again : (v : Version) (l : Line) → IsLine l → IsOfVersion v l.kind → line_of v (line_text l) ≡ Ok l
line_again v l h is =
    let texts = field_texts (fields_of l.kind) l.values in
    let read : List (List ℕ) → LineKind → Result Line TextCause = λ ps kind. read_fields (fields_of kind) ps >>= λ values. Ok (record { kind = kind; values = values }) in
    ap (λ ps. kind_of v ps >>= read ps) (line_parts l h) ∙ ap (λ r. r >>= read texts) (kind_again v l.kind l.values is h.shape)
    ∙ ap (λ r. r >>= λ values. Ok (record { kind = l.kind; values = values })) (fields_again (fields_of l.kind) l.values h.shape h.sized)

-- lines of one text are one line
pub one_line : (v : Version) (a b : Line) → IsLine a → IsLine b → IsOfVersion v a.kind → IsOfVersion v b.kind → line_text a ≡ line_text b → a ≡ b
one_line v a b p q va vb e = ok_is a b (sym (line_again v a p va) ∙ ap (line_of v) e ∙ line_again v b q vb)
