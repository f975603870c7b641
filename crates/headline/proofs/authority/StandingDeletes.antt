-- A Delete and a Revoke that the rules allow stay within authority, where a thread's slots hold what is noted: what ends with them the boot
-- CNode does not name, so it lies inside untyped memory of the thread's own.
use Rattle.std.proofs.Common.{ℕ, ◌≡◌, ◌∙◌, ◌==◌, Bool, true, false, if◌then◌else◌, Some, Result, Ok, List, refl, sym, ap, subst}
use Rattle.typestate.specs.Calls.{call_on}
use Rattle.headline.specs.authority.HeldInside.{HoldsInside}
use Rattle.headline.specs.authority.OwnMaps.{MapsOwn}
use Rattle.headline.specs.invocations.Mirrors.{Mirrors}
use Rattle.headline.specs.invocations.Performed.{MayInvoke}
use Rattle.headline.specs.invocations.Running.{Runs}
use Rattle.model.specs.declared.capabilities.Cap.{Cap}
use Rattle.model.specs.declared.errors.KError.{KError}
use Rattle.model.specs.declared.invocations.CNodeCall.TheVariants.{Delete, Revoke}
use Rattle.model.specs.declared.invocations.Invocation.TheVariants.{OnCNode}
use Rattle.model.specs.declared.invocations.SlotName.{SlotName}
use Rattle.model.specs.Acceptance.Authority.{WithinAuthority}
use Rattle.model.specs.Acceptance.NotedStates.{NotedSlot}
use Rattle.model.specs.Acceptance.ThreadInvariants.{tcb_of}
use Rattle.model.specs.Capabilities.CapabilityKinds.{is_untyped}
use Rattle.model.specs.Capabilities.Slots.{capability_at, is_descendant, is_full}
use Rattle.model.specs.Images.Described.{Numbered}
use Rattle.model.specs.Images.Image.{Image}
use Rattle.model.specs.Kernel.Arguments.{◌>>=◌, argument_slot}
use Rattle.model.specs.Kernel.Invocations.{perform}
use Rattle.model.specs.Kernel.Removal.{SlotSet, delete, emptied, remove, revoke, with_bindings}
use Rattle.model.specs.Kernel.State.{State, ThreadObject, ThreadState}
use Rattle.headline.proofs.invocations.DeletedSlots.{deleted, no-pool, only-own}
use Rattle.headline.proofs.invocations.NobodySetBack.{removed}
use Rattle.headline.proofs.invocations.RemovalSides.{own_set}
use Rattle.headline.proofs.invocations.RemovalTargets.{Target}
use Rattle.headline.proofs.invocations.RevokedSlots.{below-own, no-pool-below, revoked}
use Rattle.headline.proofs.authority.InsideKept.{ends-inside}
use Rattle.headline.proofs.authority.PlainSteps.{one-used}
use Rattle.headline.proofs.authority.PoolsKept.{PoolsIn}
use Rattle.headline.proofs.authority.StandingRemovals.{emptied-within, left-pools}
use Rattle.headline.proofs.authority.Stored.{stored-within}

module _ (image : Image) (t : Numbered) (s : State) (slots : List NotedSlot) (m : Mirrors image t s slots) (runs : Runs image t s) (own : ThreadState)
    (is : s.objects (tcb_of image t) ≡ Some (ThreadObject own)) (maps : MapsOwn image t s) (slot : ℕ) (name : SlotName) where
  abbrev capability : Cap
  capability = capability_at s.slots slot

  -- nothing changes
  same-within : WithinAuthority image t.thread s s
  same-within = stored-within image t.thread s own is s.slots (record {
    own = λ x differs. absurd (differs refl);
    frames = λ x mapping differs either. absurd (differs refl);
    tables = λ x mapping differs either. absurd (differs refl);
    mapped = λ x mapping fresh now. absurd (fresh now);
    granted = λ x differs some. absurd (differs refl);
    parents = λ x differs. absurd (differs refl);
    used = λ x offset bits old now before behind differs. absurd (one-used (capability_at s.slots x) offset bits old now before behind differs);
  })

  done-as : (P : State → Type 0) (a b : State) → ◌≡◌ {A = Result State KError} (Ok a) (Ok b) → P a → P b
  done-as P a b same = subst P (let e : a ≡ b = cc in e)

  -- what is so of the state, and of what each removal of its own slots leaves that hold no untyped memory
  abbrev EachRemoval : (State → Type 0) → Type 0
  EachRemoval P =
      (set : SlotSet) → ((x : ℕ) → set x ≡ true → own_set image t x ≡ true) → ((x : ℕ) → set x ≡ true → is_untyped (capability_at s.slots x) ≡ false)
      → P (emptied s (with_bindings s set))

  pub deletes-leave : (P : State → Type 0) → P s → EachRemoval P → (c : MayInvoke image t s slots slot (OnCNode (Delete name))) → (after : State)
      → perform s (call_on image t.thread slot (capability_at s.slots slot)) (OnCNode (Delete name)) ≡ Ok after → P after
  deletes-leave P unchanged each c after performed =
      let at = deleted image t s slots m runs slot name c in
      let place = Target.slot at in
      let there : argument_slot s.slots capability name ≡ Ok place = Target.there at in
      let acts : delete s place ≡ Ok after = sym (ap (λ (r : Result ℕ KError). r >>= delete s) there) ∙ performed in
      elim (is_full s.slots place) as (λ (b : Bool). (if b then remove s (λ other. other == place) else Ok s) ≡ Ok after → P after) [
        | true ↦ λ gone.
            let set : ℕ → Bool = λ other. other == place in
            let inside = only-own image t s slots m runs slot name c place (Target.own at) there (Target.noted at) in
            let pools = no-pool image t s slots m runs slot name c place (Target.own at) there (Target.noted at) in
            done-as P (emptied s (with_bindings s set)) after (sym (removed image t s slots m runs set inside) ∙ gone) (each set inside pools)
        | false ↦ λ same. done-as P s after same unchanged
      ] acts

  pub revokes-leave : (P : State → Type 0) → EachRemoval P → (c : MayInvoke image t s slots slot (OnCNode (Revoke name))) → (after : State)
      → perform s (call_on image t.thread slot (capability_at s.slots slot)) (OnCNode (Revoke name)) ≡ Ok after → P after
  revokes-leave P each c after performed =
      let at = revoked image t s slots m runs slot name c in
      let place = Target.slot at in
      let there : argument_slot s.slots capability name ≡ Ok place = Target.there at in
      let set : ℕ → Bool = is_descendant s.slots place in
      let acts : revoke s place ≡ Ok after = sym (ap (λ (r : Result ℕ KError). r >>= revoke s) there) ∙ performed in
      let inside = below-own image t s slots m runs slot name c place (Target.own at) in
      let pools = no-pool-below image t s slots m runs slot name c place (Target.own at) in
      done-as P (emptied s (with_bindings s set)) after (sym (removed image t s slots m runs set inside) ∙ acts) (each set inside pools)

  -- ---- within authority

  each-within : HoldsInside image t s → EachRemoval (λ x. WithinAuthority image t.thread s x)
  each-within holds set inside pools = emptied-within image t s slots m own is set inside pools maps (ends-inside image t s slots m set inside holds)

  pub deletes-within : (c : MayInvoke image t s slots slot (OnCNode (Delete name))) → HoldsInside image t s → (after : State)
      → perform s (call_on image t.thread slot (capability_at s.slots slot)) (OnCNode (Delete name)) ≡ Ok after → WithinAuthority image t.thread s after
  deletes-within c holds = deletes-leave (λ x. WithinAuthority image t.thread s x) same-within (each-within holds) c

  pub revokes-within : (c : MayInvoke image t s slots slot (OnCNode (Revoke name))) → HoldsInside image t s → (after : State)
      → perform s (call_on image t.thread slot (capability_at s.slots slot)) (OnCNode (Revoke name)) ≡ Ok after → WithinAuthority image t.thread s after
  revokes-within c holds = revokes-leave (λ x. WithinAuthority image t.thread s x) (each-within holds) c

  -- ---- untyped memory

  each-keeps : HoldsInside image t s → EachRemoval (λ x. PoolsIn image t s.slots x.slots)
  each-keeps holds set inside pools = left-pools image t s slots m own is set inside pools maps (ends-inside image t s slots m set inside holds)

  pub deletes-keep : (c : MayInvoke image t s slots slot (OnCNode (Delete name))) → HoldsInside image t s → (after : State)
      → perform s (call_on image t.thread slot (capability_at s.slots slot)) (OnCNode (Delete name)) ≡ Ok after → PoolsIn image t s.slots after.slots
  deletes-keep c holds =
      deletes-leave (λ x. PoolsIn image t s.slots x.slots) (λ x offset bits old mine before. (old, before)) (each-keeps holds) c

  pub revokes-keep : (c : MayInvoke image t s slots slot (OnCNode (Revoke name))) → HoldsInside image t s → (after : State)
      → perform s (call_on image t.thread slot (capability_at s.slots slot)) (OnCNode (Revoke name)) ≡ Ok after → PoolsIn image t s.slots after.slots
  revokes-keep c holds = revokes-leave (λ x. PoolsIn image t s.slots x.slots) (each-keeps holds) c
