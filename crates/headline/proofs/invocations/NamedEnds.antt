-- A call on a CNode that names an empty slot and a full one: both are the thread's, and the kernel finds them too.
use Rattle.std.proofs.Common.{ℕ, ◌≡◌, true, false, List, Result, Ok, refl}
use Rattle.model.specs.declared.capabilities.Cap.{Cap}
use Rattle.model.specs.declared.capabilities.Cap.TheVariants.{CNode}
use Rattle.model.specs.declared.errors.KError.{KError}
use Rattle.model.specs.declared.invocations.SlotName.{SlotName}
use Rattle.model.specs.Acceptance.Authority.{IsOwnSlot}
use Rattle.model.specs.Acceptance.NotedKernel.{noted_root}
use Rattle.model.specs.Acceptance.NotedStates.{NotedSlot}
use Rattle.model.specs.Capabilities.Slots.{Slots, capability_at}
use Rattle.model.specs.Images.Described.{Numbered}
use Rattle.model.specs.Images.Image.{Image}
use Rattle.model.specs.Kernel.Arguments.{◌>>=◌, destination_slot, source_slot}
use Rattle.model.specs.Kernel.State.{State}
use Rattle.soundness.proofs.Laws.{goes, passes-both}
use Rattle.headline.specs.lookups.Found.{slots_noted}
use Rattle.headline.specs.invocations.Mirrors.{Mirrors}
use Rattle.headline.proofs.invocations.NamedSlots.{IsNamedSo, cnode-inside, destination-named, named-destination, named-so, named-source, root-inside}
use Rattle.headline.proofs.invocations.NamedSlots.{source-named}

-- the checks of both slots, and then what is made of them
abbrev pub with_ends : Slots → Cap → Cap → SlotName → SlotName → (ℕ → ℕ → Result State KError) → Result State KError
with_ends slots capability root destination source f =
    destination_slot slots capability destination >>= λ to. source_slot slots root source >>= λ from. f to from

module _ (image : Image) (t : Numbered) (s : State) (slots : List NotedSlot) (m : Mirrors image t s slots) (slot offset radix guard : ℕ)
    (own : IsOwnSlot image t.thread slot) (is : capability_at s.slots slot ≡ CNode offset radix guard) (destination source : SlotName) where
  abbrev noted : Slots
  noted = slots_noted image t slots

  abbrev capability : Cap
  capability = capability_at s.slots slot

  abbrev root : Cap
  root = noted_root image t.thread

  pub record Ended (f : ℕ → ℕ → Result State KError) (end : State) : Type 0 where
    pub to : ℕ
    pub from : ℕ
    pub there : IsNamedSo image t s slots m capability destination false to
    pub here : IsNamedSo image t s slots m root source true from
    pub rest : f to from ≡ Ok end

  pub ended : (f : ℕ → ℕ → Result State KError) (end : State) → with_ends noted capability root destination source f ≡ Ok end → Ended f end
  ended f end so =
      let first = passes-both (destination_slot noted capability destination) (λ to. source_slot noted root source >>= λ from. f to from) end so in
      let second = passes-both (source_slot noted root source) (f first.value) end first.rest in
      record {
        to = first.value;
        from = second.value;
        there = named-so image t s slots m capability destination false first.value (cnode-inside image t s slots m slot offset radix guard own is)
            (destination-named noted capability destination first.value first.first);
        here = named-so image t s slots m root source true second.value (root-inside image t s slots m)
            (source-named noted root source second.value second.first);
        rest = second.rest;
      }

  pub real-ends : (f : ℕ → ℕ → Result State KError) (end : State) (of : Ended f end) (g : ℕ → ℕ → Result State KError)
      → with_ends s.slots capability root destination source g ≡ g of.to of.from
  real-ends f end of g =
      goes (destination_slot s.slots capability destination) (λ to. source_slot s.slots root source >>= λ from. g to from) of.to (g of.to of.from)
      (named-destination s.slots capability destination of.to (of.there).is)
      (goes (source_slot s.slots root source) (g of.to) of.from (g of.to of.from) (named-source s.slots root source of.from (of.here).is) refl)
