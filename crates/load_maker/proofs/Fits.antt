-- The lines of a load keep their limits and are sized.
use Rattle.std.proofs.Common.{◌≡◌, ℕ, ◌+◌, ◌*◌, ◌/◌, ◌%◌, ◌^◌, ◌<◌, ◌≤◌, ◌==◌, Bool, true, false, ◌&&◌, leb, List, [], ◌∷◌, ◌++◌, refl, sym, ap, subst, ◌∙◌, arith}
use Rattle.std.specs.Prelude.{if◌then◌else◌, nat_le, replicate, All}
use Rattle.std.specs.List.{list_all}
use Rattle.std.proofs.lemmas.Bool.{le-leb}
use Rattle.std.proofs.lemmas.List.Elements.{All-append, All-cons, All-nil, All-replicate}
use Rattle.cp_base.specs.declared.commands.Command.{Command}
use Rattle.cp_base.specs.declared.commands.Command.TheVariants as command
use Rattle.cp_base.specs.declared.lists.CopySource.TheVariants as source
use Rattle.cp_text.specs.HexText.{AreBytes}
use Rattle.script_line.specs.Field.{Value, Count, Data, Copied}
use Rattle.script_line.specs.Fits.{is_within, line_fits}
use Rattle.script_line.specs.Line.{Line, send_line}
use Rattle.script_line.specs.Sized.{AreSized, IsSized, IsSizedLine, IsSizedSource}
use Rattle.script_line.specs.declared.version.Version.TheVariants as version
use Rattle.script_cmds.specs.Progress.{names_queues}
use Rattle.load_maker.specs.Load.{kind_command, same_bytes, take_reply_line, word_command}

-- a fact of both sides of a choice
of_either : (P : Command → Type 0) (test : Bool) (a b : Command) → P a → P b → P (if test then a else b)
of_either P true a b p q = p
of_either P false a b p q = q

-- a fact of each kind of command is one of every command of the load
pub of_kinds : (P : Command → Type 0) (kind place value : ℕ)
    → P (command.NvmRead 1 (place % 64) 1)
    → P (command.NvmWrite 1 (place % 64) (record { items = same_bytes 512 value; spare = 0 }))
    → P (command.MemRead 1 (place % 64512) 256)
    → P (command.MemWrite 1 (place % 64512) (record { items = same_bytes 16 value; spare = 0 }))
    → P (command.MemFill 1 (place % 64512) 1024 value)
    → P (command.MemCopy 1 (place % 64512) (source.Nvm 1 (place % 64) 1 ∷ []))
    → P (command.NvmCopy 1 (place % 64) (source.Mem 1 (place % 64512) 512 ∷ []))
    → P (command.Execute 0 (1 + place % 2) 0 0 100) → P (kind_command kind place value)
of_kinds P kind place value a b c d e f g h =
    of_either P (kind == 0) _ _ a (of_either P (kind == 1) _ _ b (of_either P (kind == 2) _ _ c
    (of_either P (kind == 3) _ _ d (of_either P (kind == 4) _ _ e (of_either P (kind == 5) _ _ f
    (of_either P (kind == 6) _ _ g h))))))

-- ---- limits

below : (n most : ℕ) → n ≤ most → nat_le n most ≡ true
below n most h = le-leb n most h

both : (a b : Bool) → a ≡ true → b ≡ true → (a && b) ≡ true
both a b p q = rw (p, q) refl

abbrev Keeps : ℕ → Command → Type 0
Keeps cid sent = line_fits (send_line version.One cid sent) ≡ true

kind_fits : (cid kind place value : ℕ) → cid ≤ 65535 → value ≤ 255 → Keeps cid (kind_command kind place value)
kind_fits cid kind place value low small =
    let c0 = below 0 cid (omega arith) in
    let c1 = below cid 65535 low in
    let lba0 = below 0 (place % 64) (omega arith) in
    let lba1 = below (place % 64) 18446744073709551615 (omega arith) in
    let at0 = below 0 (place % 64512) (omega arith) in
    let at1 = below (place % 64512) 18446744073709551615 (omega arith) in
    let v0 = below 0 value (omega arith) in
    let v1 = below value 255 small in
    let set0 = below 0 (1 + place % 2) (omega arith) in
    let set1 = below (1 + place % 2) 4294967295 (omega arith) in
    of_kinds (Keeps cid) kind place value (rw (c0, c1, lba0, lba1) refl) (rw (c0, c1, lba0, lba1) refl)
    (rw (c0, c1, at0, at1) refl) (rw (c0, c1, at0, at1) refl) (rw (c0, c1, at0, at1, v0, v1) refl)
    (rw (c0, c1, at0, at1) refl) (rw (c0, c1, lba0, lba1) refl) (rw (c0, c1, set0, set1) refl)

-- a command of the load keeps the limits of its line
pub command_fits : (cid word : ℕ) → cid < 16 → line_fits (send_line version.One cid (word_command word)) ≡ true
command_fits cid word low =
    kind_fits cid (word % 8) (word / 8 % 65536) (word / 2 ^ 32 % 256) (omega arith) (omega arith)

-- and names no queue but the one
pub command_names : (cid word : ℕ) → names_queues 1 (send_line version.One cid (word_command word)).values ≡ true
command_names cid word =
    of_kinds (λ sent. names_queues 1 (send_line version.One cid sent).values ≡ true) (word % 8) (word / 8 % 65536) (word / 2 ^ 32 % 256) refl refl refl refl refl refl refl refl

pub take_fits : (cid : ℕ) → cid < 16 → line_fits (take_reply_line cid) ≡ true
take_fits cid low = rw (below 0 cid (omega arith), below cid 65535 (omega arith)) refl

-- ---- sizes

record Sized (values : List Value) : Type 0 where
  all : All IsSized values

more : {v : Value} {vs : List Value} → IsSized v → Sized vs → Sized (v ∷ vs)
more {v} {vs} p q = record { all = All-cons IsSized v vs p q.all }

none : Sized []
none = record { all = All-nil IsSized }

bytes_sized : (count value : ℕ) → value < 256 → AreBytes (same_bytes count value)
unfolding same_bytes
bytes_sized count value small = All-replicate (λ b. b < 256) count value small

kind_sized : (cid kind place value : ℕ) → cid < 16 → value < 256 → Sized (send_line version.One cid (kind_command kind place value)).values
kind_sized cid kind place value low small =
    let c : cid < 2 ^ 64 = omega arith in
    let lba : place % 64 < 2 ^ 64 = omega arith in
    let at : place % 64512 < 2 ^ 64 = omega arith in
    let v : value < 2 ^ 64 = omega arith in
    let set : 1 + place % 2 < 2 ^ 64 = omega arith in
    let one : 1 < 2 ^ 64 = omega arith in
    let zero : 0 < 2 ^ 64 = omega arith in
    let some : 100 < 2 ^ 64 = omega arith in
    let few : 256 < 2 ^ 64 = omega arith in
    let many : 512 < 2 ^ 64 = omega arith in
    let most : 1024 < 2 ^ 64 = omega arith in
    let listed : 0 < 1 = omega arith in
    of_kinds (λ sent. Sized (send_line version.One cid sent).values) kind place value
    (more c (more one (more lba (more one none))))
    (more c (more one (more lba (more (bytes_sized 512 value small) none))))
    (more c (more one (more at (more few none))))
    (more c (more one (more at (more (bytes_sized 16 value small) none))))
    (more c (more one (more at (more most (more v none)))))
    (more c (more one (more at (more (listed, All-cons IsSizedSource (source.Nvm 1 (place % 64) 1) [] (one, lba, one) (All-nil IsSizedSource)) none))))
    (more c (more one (more lba (more (listed, All-cons IsSizedSource (source.Mem 1 (place % 64512) 512) [] (one, at, many) (All-nil IsSizedSource)) none))))
    (more c (more zero (more set (more zero (more zero (more some none))))))

pub command_sized : (cid word : ℕ) → cid < 16 → IsSizedLine (send_line version.One cid (word_command word))
command_sized cid word low = (kind_sized cid (word % 8) (word / 8 % 65536) (word / 2 ^ 32 % 256) low (omega arith)).all

pub take_sized : (cid : ℕ) → cid < 16 → IsSizedLine (take_reply_line cid)
take_sized cid low = All-cons IsSized (Count cid) [] (omega arith) (All-nil IsSized)
