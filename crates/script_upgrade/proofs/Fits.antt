-- The lines of a script in version 2 keep the limits that they kept.
use Rattle.std.proofs.Common.{◌≡◌, ℕ, ◌+◌, ◌/◌, ◌%◌, ◌<◌, ◌≤◌, Bool, true, false, ◌&&◌, leb, List, [], ◌∷◌, refl, sym, ap, subst, ◌∙◌, arith}
use Rattle.std.specs.Prelude.{codes}
use Rattle.std.proofs.lemmas.Bool.{le-leb, leb-true}
use Rattle.cp_base.specs.Commands.{word_of, word_text}
use Rattle.cp_base.specs.declared.commands.Command.{Command}
use Rattle.cp_base.specs.declared.commands.Command.TheVariants as command
use Rattle.script_line.specs.declared.limits.TheConstants.{MAX_CID, VERSION_2}
use Rattle.script_line.specs.declared.version.Version.TheVariants as version
use Rattle.script_line.specs.Field.{Field, Value, Word}
use Rattle.script_line.specs.Fits.{is_within, line_fits, values_fit}
use Rattle.script_line.specs.Line.{command_fields, command_values, identifier_field, identifier_value, send_line, take_line}
use Rattle.script_cmds.specs.Progress.{names_queues}
use Rattle.script_cmds.proofs.Keeping.{and_true, both_true}
use Rattle.script_cmds.proofs.Meanings.{within_means}

-- an identifier of version 1 is one of queue 1
record InOne (id : ℕ) : Type 0 where
  fits : is_within 1 VERSION_2.queues (id / 65536 + 1) && leb (id % 65536) MAX_CID ≡ true
  names : leb (id / 65536 + 1) 1 ≡ true

in_one : (id : ℕ) → is_within 0 MAX_CID id ≡ true → InOne id
in_one id e =
    let few = (within_means 0 MAX_CID id e).1 in
    record {
      fits =
          and_true (is_within 1 VERSION_2.queues (id / 65536 + 1)) (leb (id % 65536) MAX_CID)
          (and_true (leb 1 (id / 65536 + 1)) (leb (id / 65536 + 1) VERSION_2.queues) (le-leb _ _ (omega arith)) (le-leb _ _ (omega (arith, few))))
          (le-leb _ _ (omega (arith, few)));
      names = le-leb _ _ (omega (arith, few));
    }

-- the fields of an identifier and of what stands behind it
first_fits : (name : List ℕ) (id : ℕ) (fields more : List Field) (values after : List Value) → values_fit (identifier_field version.One name ∷ fields) (identifier_value version.One id ∷ values) ≡ true
    → (values_fit fields values ≡ true → values_fit more after ≡ true) → values_fit (identifier_field version.Two name ∷ more) (identifier_value version.Two id ∷ after) ≡ true
first_fits name id fields more values after e rest =
    let p = both_true (is_within 0 MAX_CID id) (values_fit fields values) e in
    and_true (is_within 1 VERSION_2.queues (id / 65536 + 1) && leb (id % 65536) MAX_CID) (values_fit more after) (in_one id p.0).fits (rest p.1)

first_names : (id : ℕ) (fields : List Field) (values after : List Value) → values_fit (identifier_field version.One [] ∷ fields) (identifier_value version.One id ∷ values) ≡ true
    → names_queues 1 after ≡ true → names_queues 1 (identifier_value version.Two id ∷ after) ≡ true
first_names id fields values after e rest =
    let p = both_true (is_within 0 MAX_CID id) (values_fit fields values) e in
    and_true (leb (id / 65536 + 1) 1) (names_queues 1 after) (in_one id p.0).names rest

-- what the fields of a command say
command_fits : (c : Command) → values_fit (command_fields version.One (word_of c)) (command_values version.One c) ≡ true → values_fit (command_fields version.Two (word_of c)) (command_values version.Two c) ≡ true
command_fits (command.NvmRead ns lba count) e = e
command_fits (command.NvmWrite ns lba bytes) e = e
command_fits (command.NvmZeroes ns lba count) e = e
command_fits (command.NvmCopy ns lba from) e = e
command_fits (command.MemRead ns at len) e = e
command_fits (command.MemWrite ns at bytes) e = e
command_fits (command.MemFill ns at len value) e = e
command_fits (command.MemCopy ns at from) e = e
command_fits (command.SetCreate ranges) e = e
command_fits (command.SetDelete set) e = e
command_fits (command.Load slot size at bytes) e = e
command_fits (command.Unload slot) e = e
command_fits (command.Activate slot) e = e
command_fits (command.Deactivate slot) e = e
command_fits (command.Execute slot set p1 p2 budget) e = e
command_fits (command.Abort other) e = first_fits (codes "cid=") other [] [] [] [] e (λ h. h)

command_names : (c : Command) → values_fit (command_fields version.One (word_of c)) (command_values version.One c) ≡ true → names_queues 1 (command_values version.Two c) ≡ true
command_names (command.NvmRead ns lba count) e = refl
command_names (command.NvmWrite ns lba bytes) e = refl
command_names (command.NvmZeroes ns lba count) e = refl
command_names (command.NvmCopy ns lba from) e = refl
command_names (command.MemRead ns at len) e = refl
command_names (command.MemWrite ns at bytes) e = refl
command_names (command.MemFill ns at len value) e = refl
command_names (command.MemCopy ns at from) e = refl
command_names (command.SetCreate ranges) e = refl
command_names (command.SetDelete set) e = refl
command_names (command.Load slot size at bytes) e = refl
command_names (command.Unload slot) e = refl
command_names (command.Activate slot) e = refl
command_names (command.Deactivate slot) e = refl
command_names (command.Execute slot set p1 p2 budget) e = refl
command_names (command.Abort other) e = and_true (leb (other / 65536 + 1) 1) true (in_one other (both_true (is_within 0 MAX_CID other) true e).0).names refl

-- the line of a command that is sent, and that of a reply that is taken
pub send_fits : (id : ℕ) (c : Command) → line_fits (send_line version.One id c) ≡ true → line_fits (send_line version.Two id c) ≡ true
send_fits id c e =
    first_fits [] id (Word (word_text (word_of c)) ∷ command_fields version.One (word_of c)) (Word (word_text (word_of c)) ∷ command_fields version.Two (word_of c))
    (command_values version.One c) (command_values version.Two c) e (command_fits c)

pub send_names : (id : ℕ) (c : Command) → line_fits (send_line version.One id c) ≡ true → names_queues 1 (send_line version.Two id c).values ≡ true
send_names id c e =
    let behind = (both_true (is_within 0 MAX_CID id) _ e).1 in
    first_names id (Word (word_text (word_of c)) ∷ command_fields version.One (word_of c)) (command_values version.One c) (command_values version.Two c) e (command_names c behind)

pub take_fits : (id : ℕ) → line_fits (take_line version.One id) ≡ true → line_fits (take_line version.Two id) ≡ true
take_fits id e = first_fits [] id [] [] [] [] e (λ h. h)

pub take_names : (id : ℕ) → line_fits (take_line version.One id) ≡ true → names_queues 1 (take_line version.Two id).values ≡ true
take_names id e = first_names id [] [] [] e refl
