-- The thread holds no untyped memory.
use Rattle.std.proofs.Common.{◌≡◌, Some, None, option_map, sym, ap, ◌∙◌}
use Rattle.model.specs.Capabilities.Rights.{rights}
use Rattle.model.specs.Capabilities.Slots.{capability_at}
use Rattle.model.specs.Kernel.Kinds.{kind_of}
use Rattle.model.specs.Kernel.Retype.{NewFrame}
use Rattle.model.specs.Kernel.State.{FrameObject}
use Rattle.model.specs.Acceptance.Authority.{appears, ends}
use Rattle.model_laws.proofs.Authorities.{no_untyped}
use Rattle.model_laws.proofs.narrow_laws.an_object_ends_inside_held_memory.Goals as goal

pub returns : goal.returns
returns c = λ image t s after offset only before behind within.
    elim (within.objects offset (λ same. let e : Some NewFrame ≡ None = sym (ap (option_map kind_of) before) ∙ same ∙ ap (option_map kind_of) behind in cc)) [
      | appears kind none is h ↦ let e : Some FrameObject ≡ None = sym before ∙ none in cc
      | ends kind was none h ↦ no_untyped 0x8000 (rights 11) 0 _ _ (capability_at s.slots h.slot) (only.slots h.slot h.own) h.such
    ]
