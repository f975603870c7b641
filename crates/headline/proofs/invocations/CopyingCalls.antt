-- Copy, Mint and Move on the state as it is.
use Rattle.std.proofs.Common.{ℕ, ◌≡◌, ◌∙◌, true, false, not, List, Result, Ok, Some, None, refl, sym, ap, subst}
use Rattle.model.specs.declared.capabilities.Cap.{Cap}
use Rattle.model.specs.declared.capabilities.Cap.TheVariants.{Empty, Untyped, Endpoint, Notification, CNode, Frame, PageTable, Tcb, RootTable, InterruptControl}
use Rattle.model.specs.declared.capabilities.Cap.TheVariants.{InterruptHandler}
use Rattle.model.specs.declared.errors.KError.{KError}
use Rattle.model.specs.declared.errors.KError.TheVariants.{IllegalOperation, RangeError}
use Rattle.model.specs.declared.invocations.CNodeCall.TheVariants.{Copy, Mint, Move}
use Rattle.model.specs.declared.invocations.Invocation.TheVariants.{OnCNode}
use Rattle.model.specs.declared.invocations.SlotName.{SlotName}
use Rattle.model.specs.Acceptance.NotedKernel.{noted_after, noted_kernel, noted_root}
use Rattle.model.specs.Acceptance.NotedStates.{NotedSlot}
use Rattle.model.specs.Capabilities.CapabilityKinds.{badge_fits, copied, frame_mapping, guard_fits, is_badged, is_untyped, may_be_copied, with_payload}
use Rattle.model.specs.Capabilities.Slots.{Slots, capability_at, inserted, relocated}
use Rattle.model.specs.Images.Described.{Numbered}
use Rattle.model.specs.Images.Image.{Image}
use Rattle.model.specs.Kernel.Arguments.{◌>>=◌, check, may_have_child}
use Rattle.model.specs.Kernel.State.{State, with_slots}
use Rattle.soundness.proofs.Laws.{IsAlike, alike-both, check-passes, copied-alike, copied-unmapped, copies-shared, goes, is_single, passes, passes-both}
use Rattle.soundness.proofs.Laws.{payload-alike, payload-mapping}
use Rattle.headline.specs.lookups.Found.{slots_noted}
use Rattle.headline.specs.invocations.Changes.{ChangesOwn}
use Rattle.headline.specs.invocations.Mirrors.{Mirrors}
use Rattle.headline.specs.invocations.Performed.{InvokesWell, MayInvoke}
use Rattle.headline.proofs.invocations.Inserting.{inserted-changes}
use Rattle.headline.proofs.invocations.NamedEnds.{ended, real-ends}
use Rattle.headline.proofs.invocations.NamedSlots.{IsNamedSo, ok-same, room-too}
use Rattle.headline.proofs.invocations.Relocating.{relocated-changes}

-- what may be copied is no untyped memory
shared-no-pool : (c : Cap) → is_single c ≡ false → is_untyped c ≡ false
shared-no-pool Empty is = refl
shared-no-pool (Untyped _ _ _) is = is
shared-no-pool (Endpoint _ _ _) is = refl
shared-no-pool (Notification _ _ _) is = refl
shared-no-pool (CNode _ _ _) is = refl
shared-no-pool (Frame _ _ _) is = refl
shared-no-pool (PageTable _ _) is = refl
shared-no-pool (Tcb _) is = refl
shared-no-pool (RootTable _) is = refl
shared-no-pool InterruptControl is = refl
shared-no-pool (InterruptHandler _) is = refl

-- what the calls make of the two slots
abbrev copies_to : State → ℕ → ℕ → ℕ → Result State KError
copies_to s word to from =
    check (may_be_copied (capability_at s.slots from)) IllegalOperation >>= λ _. may_have_child s.slots from >>= λ _.
    Ok (with_slots s (inserted s.slots to (copied (capability_at s.slots from) word) (Some from)))

abbrev mints_to : State → ℕ → ℕ → ℕ → ℕ → Result State KError
mints_to s word payload to from =
    check (may_be_copied (capability_at s.slots from)) IllegalOperation >>= λ _. check (not (is_badged (capability_at s.slots from))) IllegalOperation >>= λ _.
    check (badge_fits (capability_at s.slots from) payload) RangeError >>= λ _.
    check (guard_fits (capability_at s.slots from) payload) IllegalOperation >>= λ _.
    may_have_child s.slots from >>= λ _. Ok (with_slots s (inserted s.slots to (with_payload (copied (capability_at s.slots from) word) payload) (Some from)))

abbrev moves_to : State → ℕ → ℕ → Result State KError
moves_to s to from = Ok (with_slots s (relocated s.slots from to))

module _ (image : Image) (t : Numbered) (s : State) (slots : List NotedSlot) (m : Mirrors image t s slots) (slot : ℕ) (destination source : SlotName) where
  abbrev noted : Slots
  noted = slots_noted image t slots

  abbrev kernel : State
  kernel = noted_kernel image t.thread slots

  abbrev capability : Cap
  capability = capability_at s.slots slot

  abbrev root : Cap
  root = noted_root image t.thread

  -- a copy with these changes of what the source holds
  inserts : (change : Cap → Cap) → ((c : Cap) → IsAlike c (change c)) → ((c : Cap) → frame_mapping (change c) ≡ None) → (to from : ℕ) (end : State)
      → IsNamedSo image t s slots m capability destination false to → (here : IsNamedSo image t s slots m root source true from)
      → may_be_copied (capability_at s.slots from) ≡ true
      → with_slots kernel (inserted noted to (change (capability_at noted from)) (Some from)) ≡ end
      → ChangesOwn image t s (with_slots s (inserted s.slots to (change (capability_at s.slots from)) (Some from))) (noted_after image t.thread end.slots)
  inserts change alike unmapped to from end there here copyable is =
      let held = capability_at s.slots from in
      let new = change held in
      subst (λ (l : List NotedSlot). ChangesOwn image t s (with_slots s (inserted s.slots to new (Some from))) l)
      (ap (λ (c : Cap). noted_after image t.thread (inserted noted to (change c) (Some from))) here.held
      ∙ ap (λ (u : State). noted_after image t.thread u.slots) is)
      (inserted-changes image t s slots m to from there.own here.own new (unmapped held) (λ frame names. sym (alike held).object ∙ names)
      (shared-no-pool new ((alike held).single ∙ copies-shared held copyable)))

  pub copies-well : (word : ℕ) (may : MayInvoke image t s slots slot (OnCNode (Copy destination source word)))
      → InvokesWell image t s slot (OnCNode (Copy destination source word)) may.noted
  copies-well word may =
      let is = may.on in
      let of = ended image t s slots m slot is.0 is.1 is.2 may.own is.3 destination source (copies_to kernel word) may.noted may.performs in
      let held = capability_at s.slots of.from in
      let one = passes-both (check (may_be_copied (capability_at noted of.from)) IllegalOperation) _ may.noted of.rest in
      let two = passes-both (may_have_child noted of.from) _ may.noted one.rest in
      let copyable : may_be_copied held ≡ true = ap may_be_copied (of.here).held ∙ check-passes _ IllegalOperation one.value one.first in
      let after = with_slots s (inserted s.slots of.to (copied held word) (Some of.from)) in
      record {
        after = after;
        performs = real-ends image t s slots m slot is.0 is.1 is.2 may.own is.3 destination source (copies_to kernel word) may.noted of (copies_to s word)
            ∙ passes (may_be_copied held) IllegalOperation _ (Ok after) copyable
            (goes (may_have_child s.slots of.from) _ two.value (Ok after) (room-too image t s slots m of.from two.value (of.here).own two.first) refl);
        changes = inserts (λ c. copied c word) (λ c. copied-alike c word) (λ c. copied-unmapped c word)
            of.to of.from may.noted of.there of.here copyable (ok-same _ _ two.rest);
      }

  pub mints-well : (word payload : ℕ) (may : MayInvoke image t s slots slot (OnCNode (Mint destination source word payload)))
      → InvokesWell image t s slot (OnCNode (Mint destination source word payload)) may.noted
  mints-well word payload may =
      let is = may.on in
      let of = ended image t s slots m slot is.0 is.1 is.2 may.own is.3 destination source (mints_to kernel word payload) may.noted may.performs in
      let held = capability_at s.slots of.from in
      let there = capability_at noted of.from in
      let same = (of.here).held in
      let one = passes-both (check (may_be_copied there) IllegalOperation) _ may.noted of.rest in
      let two = passes-both (check (not (is_badged there)) IllegalOperation) _ may.noted one.rest in
      let three = passes-both (check (badge_fits there payload) RangeError) _ may.noted two.rest in
      let four = passes-both (check (guard_fits there payload) IllegalOperation) _ may.noted three.rest in
      let five = passes-both (may_have_child noted of.from) _ may.noted four.rest in
      let copyable : may_be_copied held ≡ true = ap may_be_copied same ∙ check-passes _ IllegalOperation one.value one.first in
      let unbadged : not (is_badged held) ≡ true = ap (λ c. not (is_badged c)) same ∙ check-passes _ IllegalOperation two.value two.first in
      let badge : badge_fits held payload ≡ true = ap (λ c. badge_fits c payload) same ∙ check-passes _ RangeError three.value three.first in
      let guard : guard_fits held payload ≡ true = ap (λ c. guard_fits c payload) same ∙ check-passes _ IllegalOperation four.value four.first in
      let after = with_slots s (inserted s.slots of.to (with_payload (copied held word) payload) (Some of.from)) in
      record {
        after = after;
        performs = real-ends image t s slots m slot is.0 is.1 is.2 may.own is.3 destination source
            (mints_to kernel word payload) may.noted of (mints_to s word payload)
            ∙ passes (may_be_copied held) IllegalOperation _ (Ok after) copyable (passes (not (is_badged held)) IllegalOperation _ (Ok after) unbadged
            (passes (badge_fits held payload) RangeError _ (Ok after) badge (passes (guard_fits held payload) IllegalOperation _ (Ok after) guard
            (goes (may_have_child s.slots of.from) _ five.value (Ok after) (room-too image t s slots m of.from five.value (of.here).own five.first) refl))));
        changes = inserts (λ c. with_payload (copied c word) payload)
            (λ c. alike-both c (copied c word) (with_payload (copied c word) payload) (copied-alike c word) (payload-alike (copied c word) payload))
            (λ c. payload-mapping (copied c word) payload ∙ copied-unmapped c word) of.to of.from may.noted of.there of.here copyable (ok-same _ _ five.rest);
      }

  pub moves-well : (may : MayInvoke image t s slots slot (OnCNode (Move destination source)))
      → InvokesWell image t s slot (OnCNode (Move destination source)) may.noted
  moves-well may =
      let is = may.on in
      let of = ended image t s slots m slot is.0 is.1 is.2 may.own is.3 destination source (moves_to kernel) may.noted may.performs in
      record {
        after = with_slots s (relocated s.slots of.from of.to);
        performs = real-ends image t s slots m slot is.0 is.1 is.2 may.own is.3 destination source (moves_to kernel) may.noted of (moves_to s);
        changes = subst (λ (l : List NotedSlot). ChangesOwn image t s (with_slots s (relocated s.slots of.from of.to)) l)
            (ap (λ (u : State). noted_after image t.thread u.slots) (ok-same (with_slots kernel (relocated noted of.from of.to)) may.noted of.rest))
            (relocated-changes image t s slots m of.from of.to (of.here).own (of.there).own);
      }
