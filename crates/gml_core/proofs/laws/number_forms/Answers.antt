use Rattle.gml_core.proofs.NumberForms.{integer_form, integer_kind, real_form, real_kind}
use Rattle.gml_core.proofs.laws.number_forms.Goals as goal

pub returns-clause-integer : goal.returns-clause-integer
returns-clause-integer c = integer_form

pub returns-clause-real : goal.returns-clause-real
returns-clause-real c = real_form

pub returns-clause-every_integer : goal.returns-clause-every_integer
returns-clause-every_integer c = integer_kind

pub returns-clause-every_real : goal.returns-clause-every_real
returns-clause-every_real c = real_kind
