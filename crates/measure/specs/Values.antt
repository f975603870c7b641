-- The linear form that a value of the code represents.
use Rattle.std.specs.Prelude.{pos}
use Rattle.model.specs.Acceptance.Measures.{Form, after_form, before_form, constant_form, difference_form, sum_form}
use Rattle.measure.specs.declared.values.Value.{Value}
use Rattle.measure.specs.declared.values.Value.TheVariants.{Same, Fresh, Sum, Difference, Moved, Constant}

abbrev pub form_of : Value → Form
form_of (Same register) = before_form register
form_of (Fresh register) = after_form register
form_of (Sum a b) = sum_form (before_form a.0) (before_form b.0)
form_of (Difference a b) = difference_form (before_form a.0) (before_form b.0)
form_of (Moved a n) = sum_form (before_form a.0) (constant_form n)
form_of (Constant n) = constant_form (pos n)
