use Rattle.std.proofs.Common.{length}
use Rattle.bpf_model.proofs.Steps.{bad_place-reached, bad_place-form, reaches-form, well_formed-starts}
use Rattle.bpf_model.proofs.walks.code_ends_at_the_bad_place.Goals as goal

pub returns-clause-bad_place_is_reached : goal.returns-clause-bad_place_is_reached
returns-clause-bad_place_is_reached c = bad_place-reached

pub returns-clause-bad_place_has_no_form : goal.returns-clause-bad_place_has_no_form
returns-clause-bad_place_has_no_form c = bad_place-form

pub returns-clause-others_have_forms : goal.returns-clause-others_have_forms
returns-clause-others_have_forms c = λ code place. reaches-form (length code) code 0 place

pub returns-clause-well_formed : goal.returns-clause-well_formed
returns-clause-well_formed c = well_formed-starts
