use Rattle.std.proofs.Common.{◌≡◌, Bool, true, false, ◌⊎◌, inl, inr, List, ℕ, refl, sym, ◌∙◌, subst}
use Rattle.bpf_model.specs.Walk.{is_well_formed}
use Rattle.bpf_asm.specs.Text.{IsCodeOf, IsFaultyAt, text_of_code}
use Rattle.bpf_asm.proofs.EachText.{each_text}
use Rattle.bpf_asm.proofs.TextLaws.{not_faulty, one_code, one_fault}
use Rattle.bpf_asm.proofs.laws.one_answer.Goals as goal

pub returns-clause-text_is_answered : goal.returns-clause-text_is_answered
returns-clause-text_is_answered c = each_text

pub returns-clause-one_code : goal.returns-clause-one_code
returns-clause-one_code c text a b p q = one_code a b p.program.bytes q.program.bytes p.program.well_formed q.program.well_formed (p.spelled ∙ sym q.spelled)

pub returns-clause-one_fault : goal.returns-clause-one_fault
returns-clause-one_fault c = one_fault

pub returns-clause-code_or_fault : goal.returns-clause-code_or_fault
returns-clause-code_or_fault c text code line p f =
    not_faulty code p.program.bytes p.program.well_formed p.program.limit line (subst (λ (t : List ℕ). IsFaultyAt t line) (sym p.spelled) f)

pub returns-clause-code_is_answered : goal.returns-clause-code_is_answered
returns-clause-code_is_answered c code bytes limit = by_test (is_well_formed code) refl
  where
    by_test : (b : Bool) → is_well_formed code ≡ b → ((text : List ℕ) × IsCodeOf text code) ⊎ (is_well_formed code ≡ false)
    by_test true e = inl (text_of_code code, record { program = record { bytes = bytes; well_formed = e; limit = limit }; spelled = refl })
    by_test false e = inr e

pub returns-clause-one_text : goal.returns-clause-one_text
returns-clause-one_text c code s t p q = sym p.spelled ∙ q.spelled

pub returns-clause-text_or_bad_place : goal.returns-clause-text_or_bad_place
returns-clause-text_or_bad_place c text code p e = let well = p.program.well_formed in absurd cc
