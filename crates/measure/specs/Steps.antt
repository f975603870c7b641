-- What registers become after an instruction, by what the code keeps of it.
use Rattle.std.specs.Prelude.{ℕ, ◌==◌, if◌then◌else◌}
use Rattle.std.specs.Option.{option_map_or}
use Rattle.model.specs.Acceptance.Measures.{Form, before_form}
use Rattle.measure.specs.Values.{form_of}
use Rattle.measure.specs.declared.steps.AfterInstruction.{AfterInstruction}

abbrev pub value_behind : AfterInstruction → ℕ → Form
value_behind s register =
    option_map_or (λ w. if w.register.0 == register then form_of w.value else before_form register) s.written (before_form register)
