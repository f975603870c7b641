-- What the numbers of a thread say.
use Rattle.std.proofs.Common.{◌∙◌, ◌≤◌, List, None, Some, ap, length, subst, sym}
use Rattle.std.specs.Prelude.{nat_lt, option_map, slice_get}
use denote.Bor.{Bor}
use Rattle.model.specs.declared.entries.ImageHeader.{ImageHeader}
use Rattle.model.specs.Images.Image.{Image}
use Rattle.parts.specs.Uses.{TakesThese}
use Rattle.parts.specs.declared.uses.Uses.{Uses}
use Rattle.parts.proofs.OfThreads.{takes-at, is-there}
use Rattle.parts.proofs.image_parts.Parts.taken_by.Goals as goal

pub returns-in-Some-clause-there : goal.returns-in-Some-clause-there
returns-in-Some-clause-there c =
    let all = c.self.inside.uses.items in
    is-there c.self.inside.accepted.now all c.args.thread c.self.invariant (Some c.in-Some.uses.now)
    (ap (option_map (λ (u : Bor Uses). u.now)) (sym c.in-Some.is) ∙ c.uses_at.ensures
    ∙ ap (λ (l : List Uses). slice_get l c.args.thread) c.as_slice.ensures.value)
    ∙ ap (λ (i : Image). nat_lt c.args.thread (length i.threads)) c.self.view_is

pub returns-in-Some-clause-numbers : goal.returns-in-Some-clause-numbers
returns-in-Some-clause-numbers c =
    let image = c.self.inside.accepted.now in
    let head = c.header_of in
    let few = subst (λ (h : ImageHeader). h.objects ≤ 4096) (head.ensures.value ∙ ap (λ (i : Image). i.header) c.image.ensures.value)
    head.ensures.small.objects in
    subst (λ (i : Image). TakesThese i c.args.thread c.numbers.result.now) c.self.view_is
    (takes-at image c.self.inside.uses.items c.args.thread c.self.invariant c.in-Some.uses.now c.numbers.result.now few
    (sym (ap (option_map (λ (u : Bor Uses). u.now)) (sym c.in-Some.is) ∙ c.uses_at.ensures
    ∙ ap (λ (l : List Uses). slice_get l c.args.thread) c.as_slice.ensures.value)) c.numbers.ensures)

pub returns-in-None-clause-there : goal.returns-in-None-clause-there
returns-in-None-clause-there c =
    let all = c.self.inside.uses.items in
    is-there c.self.inside.accepted.now all c.args.thread c.self.invariant None
    (ap (option_map (λ (u : Bor Uses). u.now)) (sym c.in-None.is) ∙ c.uses_at.ensures
    ∙ ap (λ (l : List Uses). slice_get l c.args.thread) c.as_slice.ensures.value)
    ∙ ap (λ (i : Image). nat_lt c.args.thread (length i.threads)) c.self.view_is
