-- New capabilities are unmapped, and none names a frame of code: such a frame is there, and new objects lie where nothing was.
use Rattle.std.proofs.Common.{ℕ, ◌≡◌, ◌∙◌, ◌+◌, ◌-◌, Option, Some, List, sym, ap, subst}
use Rattle.std.specs.Prelude.{Contains}
use Rattle.std.proofs.lemmas.Option.{none-some}
use Rattle.model.specs.declared.capabilities.Cap.TheVariants.{Frame}
use Rattle.model.specs.declared.capabilities.FrameMapping.{FrameMapping}
use Rattle.model.specs.declared.slot_entries.Entry.{Entry}
use Rattle.model.specs.Acceptance.Authority.{IsOwnSlot}
use Rattle.model.specs.Acceptance.NotedStates.{NotedSlot}
use Rattle.model.specs.Acceptance.ThreadInvariants.{NamesNoCode, root_table_of}
use Rattle.model.specs.Capabilities.CapabilityKinds.{frame_mapping}
use Rattle.model.specs.Capabilities.Slots.{Slots, capability_at}
use Rattle.model.specs.Images.Described.{Numbered, numbered_threads}
use Rattle.model.specs.Images.Image.{Image}
use Rattle.model.specs.Kernel.Kinds.{kind_at}
use Rattle.model.specs.Kernel.Retype.{NewFrame, object_bits, place_of_new}
use Rattle.model.specs.Kernel.State.{State}
use Rattle.soundness.specs.Unused.{IsUnused}
use Rattle.soundness.proofs.Laws.{IsLaid}
use Rattle.headline.specs.lookups.Found.{slots_noted}
use Rattle.headline.specs.invocations.Mirrors.{Mirrors}
use Rattle.headline.proofs.invocations.CodeFrames.{code-there}
use Rattle.headline.proofs.invocations.CodeUnnamed.{HoldsNoCode, holds-none}
use Rattle.headline.proofs.invocations.NewMemory.{not-there, place-behind}
use Rattle.headline.proofs.invocations.NewSlots.{as_before, as_new, as_pool, index-of}
use Rattle.headline.proofs.invocations.RetypeSlots.{Making, Place, before-same, behind, held_by, new, new-held, place-of, pool-held, same-held, used, window}

module _ (image : Image) (t : Numbered) (s : State) (m : Making image t s) (slots : List NotedSlot) (mirrors : Mirrors image t s slots) where
  abbrev after : Slots
  after = behind image t s m s.slots

  pub maps-none : (u : Numbered) (x : ℕ) (mapping : FrameMapping) → Contains (numbered_threads image) u → (u ≡ t → ⊥) → IsOwnSlot image t.thread x
      → frame_mapping (capability_at after x) ≡ Some mapping → mapping.root ≡ root_table_of image u → ⊥
  maps-none u x mapping listed other own is root = by-place (place-of image t s m x)
    where
      by-place : Place image t s m x → ⊥
      by-place (as_new inside) =
          none-some mapping
          (sym (ap frame_mapping (new-held image t s m s.slots x inside) ∙ m.made.unmapped (place_of_new (new image t s m) (x - window image t s m))) ∙ is)
      by-place (as_pool outside same) = none-some mapping (sym (ap frame_mapping (pool-held image t s m s.slots x outside same)) ∙ is)
      by-place (as_before outside apart) =
          mirrors.maps u x mapping listed other own
          (ap (λ (o : Option Entry). frame_mapping (held_by o)) (sym (before-same image t s m s.slots x outside apart)) ∙ is) root

  pub holds-no-code : IsUnused s m.memory.offset m.memory.bits m.memory.watermark
      → IsLaid m.memory.offset m.memory.bits m.memory.watermark (object_bits m.kind) m.asked.count (m.memory.offset + m.place.0) m.place.1
      → HoldsNoCode image t (behind image t s m (slots_noted image t slots))
  holds-no-code unused laid x frame held mapping own is code = by-place (place-of image t s m x)
    where
      there : capability_at after x ≡ Frame frame held mapping
      there = same-held image t s m slots mirrors x own ∙ is

      before : HoldsNoCode image t s.slots
      before = holds-none image t s.slots mirrors.stand (subst (λ (l : List NotedSlot). NamesNoCode image l) (sym mirrors.same) mirrors.code)

      by-place : Place image t s m x → ⊥
      by-place (as_new inside) =
          let i = x - window image t s m in
          let place = place_of_new (new image t s m) i in
          let less = (index-of (window image t s m) m.asked.count x inside).1 in
          let at : frame ≡ place = m.made.place place frame held mapping (sym (new-held image t s m s.slots x inside) ∙ there) in
          not-there s m.memory.offset m.memory.bits m.memory.watermark unused (new image t s m) m.place.1 laid place NewFrame
          (ap (kind_at s) (sym at) ∙ code-there image t s slots mirrors frame code)
          (place-behind s m.memory.offset m.memory.bits m.memory.watermark unused (new image t s m) m.place.1 laid i less)
      by-place (as_pool outside same) =
          absurd (let clash : used image t s m ≡ Frame frame held mapping = sym (pool-held image t s m s.slots x outside same) ∙ there in cc)
      by-place (as_before outside apart) =
          before x frame held mapping own (ap held_by (sym (before-same image t s m s.slots x outside apart)) ∙ there) code
