-- Each full slot of a thread's derives from something, before its call.
use Rattle.std.proofs.Common.{ℕ, ◌≡◌, Option, Some, None, List, refl}
use Rattle.model.specs.Acceptance.NotedKernel.{slot_of_key}
use Rattle.model.specs.Acceptance.NotedStates.{NotedSlot, SlotKey}
use Rattle.model.specs.Capabilities.Slots.{parent_at}
use Rattle.model.specs.Images.Described.{Numbered}
use Rattle.model.specs.Images.Image.{Image}
use Rattle.model.specs.Kernel.State.{State}
use Rattle.headline.specs.lookups.Found.{noted_parent}
use Rattle.headline.proofs.lookups.Laws.{parent-noted}
use Rattle.headline.specs.invocations.Answered.{DerivesFromSome}
use Rattle.headline.specs.invocations.Mirrors.{Mirrors}
use Rattle.headline.proofs.invocations.OtherSlots.{stands-somewhere}

pub derives-from-some : (image : Image) (t : Numbered) (s : State) (slots : List NotedSlot) → Mirrors image t s slots → DerivesFromSome image t s
derives-from-some image t s slots m slot own full =
    let at = stands-somewhere image t s m.labels (m.all.stand t m.listed) in
    let of = parent-noted image t m.stand s at.state.slots at.stands.slots at.stands.parents slot own full in
    elim (noted_parent image t.thread at.state.slots slot) as (λ (o : Option SlotKey). noted_parent image t.thread at.state.slots slot ≡ o
    → (parent : ℕ) × (parent_at s.slots slot ≡ Some parent)) [
      | Some key ↦ λ is. (slot_of_key image key, of.own key is)
      | None ↦ λ none. let up = of.boot none in (up.parent, up.is)
    ] refl
