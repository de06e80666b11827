use Rattle.bpf_model.proofs.BothWays.{form-encoded, encoded-form}
use Rattle.bpf_model.proofs.forms.forms_are_encodings.Goals as goal

pub returns-clause-form_is_encoded : goal.returns-clause-form_is_encoded
returns-clause-form_is_encoded c = form-encoded

pub returns-clause-encoded_is_form : goal.returns-clause-encoded_is_form
returns-clause-encoded_is_form c = encoded-form
