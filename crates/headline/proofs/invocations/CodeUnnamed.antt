-- That no noted slot names a frame of code says the same of the thread's slots as they are.
use Rattle.std.proofs.Common.{ℕ, ◌≡◌, ◌∙◌, not, Option, refl, ap}
use Rattle.model.specs.declared.capabilities.Cap.TheVariants.{Frame}
use Rattle.model.specs.declared.capabilities.FrameMapping.{FrameMapping}
use Rattle.model.specs.declared.rights.Rights.{Rights}
use Rattle.model.specs.Acceptance.Authority.{IsOwnSlot}
use Rattle.model.specs.Acceptance.NotedKernel.{noted_after, slot_of_key}
use Rattle.model.specs.Acceptance.ThreadInvariants.{IsCode, NamesNoCode}
use Rattle.model.specs.Capabilities.Slots.{Slots, capability_at, is_empty}
use Rattle.model.specs.Images.Described.{Numbered}
use Rattle.model.specs.Images.Image.{Image}
use Rattle.typestate.specs.Spaces.{StandsApart}
use Rattle.headline.proofs.invocations.NotedThere.{full-noted, noted-there}

-- no own slot of these holds a capability to a frame of code
abbrev pub HoldsNoCode : Image → Numbered → Slots → Type 0
HoldsNoCode image t slots =
    (slot frame : ℕ) (held : Rights) (mapping : Option FrameMapping) → IsOwnSlot image t.thread slot
    → capability_at slots slot ≡ Frame frame held mapping → IsCode image frame → ⊥

module _ (image : Image) (t : Numbered) (slots : Slots) where
  pub names-none : HoldsNoCode image t slots → NamesNoCode image (noted_after image t.thread slots)
  names-none none n frame held mapping listed is =
      let there = noted-there image t slots n listed in
      none (slot_of_key image n.key) frame held mapping there.own (there.holds ∙ is)

  pub holds-none : StandsApart image t.thread → NamesNoCode image (noted_after image t.thread slots) → HoldsNoCode image t slots
  holds-none stand none slot frame held mapping own is =
      let of = full-noted image t stand slots (noted_after image t.thread slots) refl slot own (ap (λ c. not (is_empty c)) is) in
      none of.noted frame held mapping of.listed (of.holds ∙ is)
