-- No thread ends where own slots are removed, since no own slot names one; of objects only those go that end.
use Rattle.std.proofs.Common.{ℕ, ◌≡◌, ◌∙◌, ◌==◌, true, false, if◌then◌else◌, Option, Some, None, option_map, List, refl, sym, ap, arith}
use Rattle.std.specs.Option.{option_map_or}
use Rattle.std.proofs.lemmas.Bool.{eqb-true, false≢true}
use Rattle.std.proofs.lemmas.Option.{same_Some}
use Rattle.model.specs.Acceptance.NotedStates.{NotedSlot}
use Rattle.model.specs.Capabilities.CapabilityKinds.{names_object, object_of}
use Rattle.model.specs.Capabilities.Slots.{capability_at}
use Rattle.model.specs.Images.Described.{Numbered}
use Rattle.model.specs.Images.Image.{Image}
use Rattle.model.specs.Kernel.Kinds.{kind_at, kind_of}
use Rattle.model.specs.Kernel.Removal.{SlotSet, ends, is_ending_thread, objects_kept, with_bindings}
use Rattle.model.specs.Kernel.Retype.{NewThread, NewCNode}
use Rattle.model.specs.Kernel.Scheduling.{without_threads}
use Rattle.model.specs.Kernel.State.{State, Object, ThreadObject, EndpointObject, NotificationObject, CNodeObject, FrameObject, PageTableObject}
use Rattle.model.specs.Kernel.State.{RootTableObject, ThreadState, as_thread}
use Rattle.removal_laws.proofs.Laws.{threads-all}
use Rattle.headline.specs.invocations.Mirrors.{Mirrors}
use Rattle.headline.proofs.invocations.OwnHeld.{OwnHeld, own-held, slots_of_kind}
use Rattle.headline.proofs.invocations.RemovalSides.{own_set}
use Rattle.headline.proofs.invocations.RealRemoval.{ends-own}

module _ (image : Image) (t : Numbered) (s : State) (slots : List NotedSlot) (m : Mirrors image t s slots) (set : SlotSet)
    (inside : (slot : ℕ) → set slot ≡ true → own_set image t slot ≡ true) where
  abbrev all : SlotSet
  all = with_bindings s set

  named-kind : (slot offset : ℕ) → set slot ≡ true → names_object offset (capability_at s.slots slot) ≡ true → kind_at s offset ≡ Some NewThread → false ≡ true
  named-kind slot offset here names is = by-held (own-held image t.thread (capability_at s.slots slot) (m.home slot (inside slot here)))
    where
      place : (o : ℕ) → object_of (capability_at s.slots slot) ≡ Some o → o ≡ offset
      place o of = eqb-true o offset (sym (ap (λ (n : Option ℕ). option_map_or (λ named. named == offset) n false) of) ∙ names)

      by-held : OwnHeld image t.thread (capability_at s.slots slot) → false ≡ true
      by-held (OwnHeld.nothing none) = sym (ap (λ (n : Option ℕ). option_map_or (λ named. named == offset) n false) none) ∙ names
      by-held (OwnHeld.plain kind o named of few) =
          let same : kind ≡ NewThread = same_Some kind NewThread (sym (m.all.sound.memory.named slot kind o named) ∙ ap (kind_at s) (place o of) ∙ is) in
          let three : 3 ≡ 0 = sym (ap slots_of_kind same) ∙ few in
          absurd (omega (arith, three))
      by-held (OwnHeld.cnode radix o named of own) =
          let same : NewCNode radix ≡ NewThread =
          same_Some (NewCNode radix) NewThread (sym (m.all.sound.memory.named slot (NewCNode radix) o named) ∙ ap (kind_at s) (place o of) ∙ is) in
          absurd cc

  pub thread-stays : (offset : ℕ) (own : ThreadState) → s.objects offset ≡ Some (ThreadObject own) → ends s (with_bindings s set) offset ≡ false
  thread-stays offset own is = elim (ends s all offset) as (λ b. ends s all offset ≡ b → b ≡ false) [
    | false ↦ λ _. refl
    | true ↦ λ there.
        let e = ends-own image t s slots m set inside offset there in
        absurd (false≢true (named-kind e.slot offset e.there e.names (ap (option_map kind_of) is)))
  ] refl

  pub no-thread-ends : (offset : ℕ) → is_ending_thread s all offset ≡ false
  no-thread-ends offset = by-object (s.objects offset) refl
    where
      by-object : (o : Option Object) → s.objects offset ≡ o → option_map_or (λ _. ends s all offset) (as_thread o) false ≡ false
      by-object None is = refl
      by-object (Some (ThreadObject own)) is = thread-stays offset own is
      by-object (Some (EndpointObject e)) is = refl
      by-object (Some (NotificationObject n)) is = refl
      by-object (Some (CNodeObject radix)) is = refl
      by-object (Some FrameObject) is = refl
      by-object (Some PageTableObject) is = refl
      by-object (Some RootTableObject) is = refl

  pub objects-left : (offset : ℕ) → objects_kept s (with_bindings s set) offset ≡ (if ends s (with_bindings s set) offset then None else s.objects offset)
  objects-left offset = ap (λ (o : Option Object). if ends s all offset then None else o) (by-object (s.objects offset))
    where
      by-object : (o : Option Object) → option_map (without_threads (is_ending_thread s all)) o ≡ o
      by-object None = refl
      by-object (Some o) = ap Some (threads-all (is_ending_thread s all) no-thread-ends o)
