-- What a script says of its queues is what its lines say.
use Rattle.std.proofs.Common.{◌≡◌, ℕ, zero, suc, ◌*◌, ◌/◌, List, [], ◌∷◌, Result, Ok, refl, sym, ap, subst, ◌∙◌, arith}
use Rattle.std.proofs.Math.Nat.{div-one, mul-div_cancel_left, one-mul}
use Rattle.cp_base.specs.Configuration.{Configuration, with_size}
use Rattle.script_line.specs.declared.fault.TextCause.{TextCause}
use Rattle.script_line.specs.declared.kind.LineKind.{LineKind}
use Rattle.script_line.specs.declared.kind.LineKind.TheVariants as line
use Rattle.script_line.specs.declared.kind.SpaceKind.{SpaceKind}
use Rattle.script_line.specs.declared.kind.SpaceKind.TheVariants as space_kind
use Rattle.script_line.specs.declared.version.Version.{Version}
use Rattle.script_line.specs.declared.version.Version.TheVariants as version
use Rattle.script_line.specs.Field.{Value}
use Rattle.script_line.specs.Line.{Line}
use Rattle.script_line.specs.Reading.{◌>>=◌}
use Rattle.script_line.proofs.Said.{bind_ok}
use Rattle.script_cmds.specs.declared.form.Form.{Form}
use Rattle.script_cmds.specs.declared.progress.Progress.{Progress}
use Rattle.script_cmds.specs.Fault.{after_lines, judged}
use Rattle.script_cmds.specs.Progress.{advanced, header_depth, header_queues, space_of, start}
use Rattle.script_cmds.specs.Queues.{AreExact}
use Rattle.script_cmds.specs.private.Drafts.{Drafted, IsDraft, draft_lines}
use Rattle.script_cmds.proofs.HostLaws.{ok_same}
use Rattle.script_cmds.proofs.Puts.{passed}

-- a product by its first factor, where that may be 0
times_again : (queues depth : ℕ) → queues * depth ≡ queues * (queues * depth / queues)
times_again zero depth = omega arith
times_again (suc n) depth = ap (λ (d : ℕ). suc n * d) (sym (mul-div_cancel_left depth (omega arith)))

header_exact : (v : Version) (vs : List Value) → AreExact (record { version = v; queues = header_queues v vs }) (header_queues v vs * header_depth v vs)
header_exact version.One vs = record { queues = refl; multiple = sym (one-mul _ ∙ div-one _) }
header_exact version.Two vs = record { queues = refl; multiple = times_again (header_queues version.Two vs) (header_depth version.Two vs) }

-- a namespace leaves the depth
depth_stays : (c : Configuration) (kind : SpaceKind) (n size : ℕ) → (with_size c (space_of kind n) size).depth ≡ c.depth
depth_stays c space_kind.Nvm n size = refl
depth_stays c space_kind.Mem n size = refl

-- each line leaves what is exact
abbrev IsExact : Progress → Type 0
IsExact p = AreExact p.form p.config.depth

stays : (kind : LineKind) (p : Progress) (vs : List Value) → IsExact p → IsExact (advanced p kind vs)
stays (line.Header v) p vs h = header_exact v vs
stays (line.Namespace kind) p vs h = subst (λ (depth : ℕ). AreExact p.form depth) (sym (depth_stays p.config kind _ _)) h
stays line.Phase p vs h = h
stays line.Host p vs h = h
stays (line.Send v w) p vs h = h
stays (line.Take v) p vs h = h
stays (line.Show kind) p vs h = h

lines_stay : (ls : List Line) (p q : Progress) → IsExact p → after_lines p ls ≡ Ok q → IsExact q
lines_stay [] p q h e = subst IsExact (ok_same p q e) h
lines_stay (l ∷ ls) p q h e =
    let s = bind_ok (judged p l) (λ m. after_lines m ls) q e in
    let after = (passed p l s.0 s.1).after in
    lines_stay ls s.0 q (subst IsExact (sym after) (stays l.kind p l.values h)) s.2

begun : IsExact start
begun = record { queues = refl; multiple = refl }

-- a draft is exact, and so is the script that it becomes
pub draft_exact : (d : Drafted) → IsDraft d → IsExact d.progress
draft_exact d h = lines_stay (draft_lines d) start d.progress begun h.counted

pub script_exact : (d : Drafted) (form : Form) (config : Configuration) → IsDraft d → form ≡ d.progress.form → config ≡ d.progress.config → AreExact form config.depth
script_exact d form config h is same =
    subst (λ (f : Form). AreExact f config.depth) (sym is) (subst (λ (c : Configuration). AreExact d.progress.form c.depth) (sym same) (draft_exact d h))
