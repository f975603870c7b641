-- The lists hold the thread as often as before: once, or not at all.
use Rattle.std.proofs.Common.{sym, ap, ◌∙◌}
use Rattle.model.specs.Shared.Lists.{times_in}
use Rattle.model_laws.proofs.Authorities.{not_nowhere}
use Rattle.model_laws.proofs.authority_laws.a_tick_loses_nobody.Goals as goal

pub returns-clause-itself : goal.returns-clause-itself
returns-clause-itself c = λ s after thread priority now before behind within.
    not_nowhere thread (sym (ap (λ l. times_in l thread) before) ∙ sym (within.as_often thread priority now) ∙ ap (λ l. times_in l thread) behind)

pub returns-clause-elsewhere : goal.returns-clause-elsewhere
returns-clause-elsewhere c = λ s after thread priority now before behind within.
    not_nowhere thread (sym (ap (λ l. times_in l thread) behind) ∙ within.as_often thread priority now ∙ ap (λ l. times_in l thread) before)
