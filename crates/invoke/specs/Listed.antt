-- The call that a capability has by a label, with the words of a message in their places.
use Rattle.std.specs.Prelude.{ℕ, Option, List}
use Rattle.std.specs.Option.{option_map}
use Rattle.model.specs.Kernel.CallForms.{CallForm}
use Rattle.model.specs.declared.invocations.Invocation.{Invocation}

abbrev pub listed_call : List ℕ → Option CallForm → Option Invocation
listed_call words form = option_map (λ form. form.call words) form
