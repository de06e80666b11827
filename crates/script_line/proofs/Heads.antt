-- A line whose words are read, and the fields that are left.
use Rattle.std.proofs.Common.{◌≡◌, ℕ, Bool, true, false, cond, List, [], ◌∷◌, ◌++◌, Option, Some, None, Result, Ok, Err, refl, sym, ap, subst, ◌∙◌}
use Rattle.std.specs.Prelude.{find}
use Rattle.std.specs.Str.{bytes_eq}
use Rattle.cp_base.specs.Commands.{all_words, command_word, word_text}
use Rattle.cp_base.specs.declared.commands.CommandWord.{CommandWord}
use Rattle.script_line.specs.declared.fault.TextCause.{TextCause}
use Rattle.script_line.specs.declared.fault.TextCause.TheVariants as cause
use Rattle.script_line.specs.declared.version.Version.{Version}
use Rattle.script_line.specs.Field.{Field, Word, Value}
use Rattle.script_line.specs.Line.{command_fields, identifier_field}
use Rattle.script_line.specs.Reading.{both, read_field, read_fields}
use Rattle.script_line.specs.private.Outcomes.{followed}

abbrev after : Result (List Value) TextCause → Result (List Value) TextCause → Result (List Value) TextCause
after first rest = both (λ xs ys. xs ++ ys) first rest

-- a word says nothing
pub nothing_first : (rest : Result (List Value) TextCause) → after (Ok []) rest ≡ rest
nothing_first (Ok values) = refl
nothing_first (Err c) = refl

-- nothing was read before
pub nothing_before : (fault : Option TextCause) (values : List Value) (rest : Result (List Value) TextCause) → fault ≡ None → values ≡ [] → followed fault values rest ≡ rest
nothing_before fault values rest none empty =
    ap (λ (f : Option TextCause). followed f values rest) none ∙ ap (λ (vs : List Value). followed None vs rest) empty ∙ nothing_first rest

pub word_first : (text word : List ℕ) (fields : List Field) (texts : List (List ℕ)) → bytes_eq text word ≡ true → read_fields (Word word ∷ fields) (text ∷ texts) ≡ read_fields fields texts
word_first text word fields texts e =
    ap (λ (b : Bool). after (cond b (Ok []) (Err cause.Field)) (read_fields fields texts)) e ∙ nothing_first (read_fields fields texts)

some_is : (v w : CommandWord) → Some v ≡ Some w → v ≡ w
some_is v w e = cc

found_by : (b : Bool) (test : CommandWord → Bool) (v w : CommandWord) (more : Option CommandWord) → b ≡ test v → (more ≡ Some w → test w ≡ true) → cond b (Some v) more ≡ Some w → test w ≡ true
found_by true test v w more t h e = subst (λ (x : CommandWord). test x ≡ true) (some_is v w e) (sym t)
found_by false test v w more t h e = h e

found : (test : CommandWord → Bool) (words : List CommandWord) (w : CommandWord) → find test words ≡ Some w → test w ≡ true
found test [] w e = absurd cc
found test (v ∷ vs) w e = found_by (test v) test v w (find test vs) refl (found test vs w) e

-- what the fields of a send line say
pub send_rest : (v : Version) (w : CommandWord) (id text : List ℕ) (texts : List (List ℕ)) → command_word text ≡ Some w
    → after (Ok []) (read_fields (identifier_field v [] ∷ Word (word_text w) ∷ command_fields v w) (id ∷ text ∷ texts)) ≡ after (read_field (identifier_field v []) id) (read_fields (command_fields v w) texts)
send_rest v w id text texts e =
    nothing_first (read_fields (identifier_field v [] ∷ Word (word_text w) ∷ command_fields v w) (id ∷ text ∷ texts))
    ∙ ap (after (read_field (identifier_field v []) id)) (word_first text (word_text w) (command_fields v w) texts (found (λ x. bytes_eq text (word_text x)) all_words w e))
