-- Nobody waits at what ends with a thread's slots: who waits holds the capability that its call names, in slots of its own.
use Rattle.std.proofs.Common.{ℕ, ◌≡◌, ◌∙◌, ◌==◌, ◌&&◌, inl, inr, Bool, true, false, not, if◌then◌else◌, Option, Some, None, Result, Ok, Err, List, [], ◌∷◌}
use Rattle.std.proofs.Common.{filter, refl, sym, ap, subst}
use Rattle.std.specs.Prelude.{fold}
use Rattle.std.specs.Option.{option_map_or}
use Rattle.std.proofs.lemmas.Bool.{eq-eqb, false≢true}
use Rattle.headline.specs.facts.Waiting.{NamesQueue, QueuesSo, WaitsSo}
use Rattle.soundness.proofs.Laws.{full-near}
use Rattle.model.specs.declared.errors.KError.{KError}
use Rattle.model.specs.declared.errors.KError.TheVariants.{RevokeFirst}
use Rattle.model.specs.Acceptance.Authority.{Holds}
use Rattle.model.specs.Acceptance.NotedStates.{NotedSlot}
use Rattle.model.specs.Acceptance.ThreadInvariants.{IsWaiting, tcb_of}
use Rattle.model.specs.Capabilities.CapabilityKinds.{names_object}
use Rattle.model.specs.Capabilities.Slots.{capability_at, is_empty}
use Rattle.model.specs.Images.Described.{Numbered}
use Rattle.model.specs.Images.Image.{Image}
use Rattle.model.specs.Kernel.Kinds.{object_named}
use Rattle.model.specs.Kernel.Removal.{SlotSet, closes, closing, emptied, ends, is_set_back, remove, slots_emptied, thread_places, waits_on_ended}
use Rattle.model.specs.Kernel.Removal.{with_bindings, without_slots}
use Rattle.model.specs.Kernel.Retype.{NewObject, NewEndpoint, NewNotification}
use Rattle.model.specs.Kernel.Scheduling.{wake}
use Rattle.model.specs.Kernel.State.{State, Status, Inactive, Runnable, Blocked, AwaitsReply, AwaitsHandler, Object, ThreadObject, EndpointObject}
use Rattle.model.specs.Kernel.State.{NotificationObject, CNodeObject, FrameObject, PageTableObject, RootTableObject, ThreadState, as_thread, with_slots}
use Rattle.model.specs.declared.capabilities.Cap.{Cap}
use Rattle.model.specs.declared.capabilities.Cap.TheVariants.{Empty, Untyped, Endpoint, Notification, CNode, Frame, PageTable, Tcb, RootTable, InterruptControl}
use Rattle.model.specs.declared.capabilities.Cap.TheVariants.{InterruptHandler}
use Rattle.headline.proofs.lookups.Laws.{holds-noted, looks-up-noted}
use Rattle.headline.proofs.moves.Laws.{StandsWaiting, held-there, stands-waiting}
use Rattle.headline.specs.invocations.Mirrors.{Mirrors}
use Rattle.headline.specs.invocations.Running.{Runs}
use Rattle.headline.proofs.invocations.RealRemoval.{closes-none, stays-named, wants-none}
use Rattle.headline.proofs.invocations.RemovalSides.{own_set}
use Rattle.headline.proofs.invocations.TwoThreads.{one-owner}

-- ---- what a capability names

pub object-by : (c : Cap) (kind : NewObject) (offset : ℕ) → object_named c ≡ Some (kind, offset) → names_object offset c ≡ true
object-by c kind offset is = by-name c ∙ ap (λ (o : Option (NewObject × ℕ)). option_map_or (λ n. n.1 == offset) o false) is ∙ eq-eqb offset offset refl
  where
    by-name : (d : Cap) → names_object offset d ≡ option_map_or (λ n. n.1 == offset) (object_named d) false
    by-name Empty = refl
    by-name (Untyped _ _ _) = refl
    by-name (Endpoint _ _ _) = refl
    by-name (Notification _ _ _) = refl
    by-name (CNode _ _ _) = refl
    by-name (Frame _ _ _) = refl
    by-name (PageTable _ _) = refl
    by-name (Tcb _) = refl
    by-name (RootTable _) = refl
    by-name InterruptControl = refl
    by-name (InterruptHandler _) = refl

queue-named : (c : Cap) (queue : ℕ) → NamesQueue queue c → names_object queue c ≡ true
queue-named c queue (inl is) = object-by c NewEndpoint queue is
queue-named c queue (inr is) = object-by c NewNotification queue is

named-full : (offset : ℕ) (c : Cap) → names_object offset c ≡ true → not (is_empty c) ≡ true
named-full offset Empty is = is
named-full offset (Untyped _ _ _) is = refl
named-full offset (Endpoint _ _ _) is = refl
named-full offset (Notification _ _ _) is = refl
named-full offset (CNode _ _ _) is = refl
named-full offset (Frame _ _ _) is = refl
named-full offset (PageTable _ _) is = refl
named-full offset (Tcb _) is = refl
named-full offset (RootTable _) is = refl
named-full offset InterruptControl is = refl
named-full offset (InterruptHandler _) is = refl

filter-none : (test : ℕ → Bool) → ((n : ℕ) → test n ≡ false) → (ns : List ℕ) → filter test ns ≡ []
filter-none test none [] = refl
filter-none test none (n ∷ ns) = elim (test n) as (λ b. test n ≡ b → filter test (n ∷ ns) ≡ []) [
  | true ↦ λ is. absurd (false≢true (sym (none n) ∙ is))
  | false ↦ λ is. ap (λ b. if b then n ∷ filter test ns else filter test ns) is ∙ filter-none test none ns
] refl

module _ (image : Image) (t : Numbered) (s : State) (slots : List NotedSlot) (m : Mirrors image t s slots) (runs : Runs image t s) (set : SlotSet)
    (inside : (slot : ℕ) → set slot ≡ true → own_set image t slot ≡ true) where
  abbrev all : SlotSet
  all = with_bindings s set

  queue-stays : (u : Numbered) (queue : ℕ) → Holds image u.thread s (NamesQueue queue) → (u ≡ t → false ≡ true)
      → ((slot : ℕ) → own_set image u slot ≡ true → own_set image t slot ≡ true → u ≡ t)
      → ends s (with_bindings s set) queue ≡ false
  queue-stays u queue held apart one =
      let slot = held.slot in
      let names = queue-named (capability_at s.slots slot) queue held.such in
      elim (own_set image t slot) as (λ b. own_set image t slot ≡ b → ends s (with_bindings s set) queue ≡ false) [
        | true ↦ λ own. absurd (false≢true (apart (one slot held.own own)))
        | false ↦ λ out.
            stays-named image t s slots m set inside queue slot
            (full-near s m.all.sound.shape m.all.sound.slots m.all.sound.memory slot (named-full queue (capability_at s.slots slot) names)) out names
      ] refl

  blocked-stays : (offset queue : ℕ) (own : ThreadState) → s.objects offset ≡ Some (ThreadObject own) → own.status ≡ Blocked queue
      → ends s (with_bindings s set) queue ≡ false
  blocked-stays offset queue own there blocked =
      let w = stands-waiting image s m.labels m.all offset own there (subst IsWaiting (sym blocked) tt) in
      let u = StandsWaiting.thread w in
      let so : QueuesSo image u s (StandsWaiting.state w) (StandsWaiting.left w) queue =
      subst (λ (status : Status). WaitsSo image u s (StandsWaiting.state w) (StandsWaiting.left w) status) blocked (StandsWaiting.so w) in
      let held : Holds image u.thread s (NamesQueue queue) =
      held-there holds-noted looks-up-noted m.bytes image u s m.accepted (StandsWaiting.listed w) own (StandsWaiting.point w) (StandsWaiting.state w)
      (StandsWaiting.left w) (StandsWaiting.stands w) (StandsWaiting.call w) (NamesQueue queue) (QueuesSo.capability so) (QueuesSo.named so)
      (QueuesSo.leads so) in
      queue-stays u queue held
      (λ same.
      let at : offset ≡ tcb_of image t = StandsWaiting.is w ∙ ap (tcb_of image) same in
      let running : Runnable ≡ Blocked queue = sym (runs own (ap s.objects (sym at) ∙ there)) ∙ blocked in
      absurd cc)
      (λ slot here mine. one-owner image m.accepted.spelled.fits m.accepted.formed u t slot (StandsWaiting.listed w) m.listed here mine)

  set-back-none : (offset : ℕ) → is_set_back s all offset ≡ false
  set-back-none offset = by-object (s.objects offset) refl
    where
      by-status : (own : ThreadState) (status : Status) → own.status ≡ status → s.objects offset ≡ Some (ThreadObject own)
          → (waits_on_ended s all status && not (ends s all offset)) ≡ false
      by-status own Inactive is there = refl
      by-status own Runnable is there = refl
      by-status own (Blocked queue) is there = ap (λ b. b && not (ends s all offset)) (blocked-stays offset queue own there is)
      by-status own AwaitsReply is there = refl
      by-status own AwaitsHandler is there = refl

      by-object : (o : Option Object) → s.objects offset ≡ o
          → option_map_or (λ own. waits_on_ended s all own.status && not (ends s all offset)) (as_thread o) false ≡ false
      by-object None is = refl
      by-object (Some (ThreadObject own)) is = by-status own own.status refl is
      by-object (Some (EndpointObject e)) is = refl
      by-object (Some (NotificationObject n)) is = refl
      by-object (Some (CNodeObject radix)) is = refl
      by-object (Some FrameObject) is = refl
      by-object (Some PageTableObject) is = refl
      by-object (Some RootTableObject) is = refl

  -- what is left is the state with the slots emptied, and without what lost its last capability
  without-is : without_slots s all ≡ emptied s all
  without-is =
      ap (λ (threads : List ℕ). fold wake (closing (emptied s all) (closes s all)) threads) (filter-none (is_set_back s all) set-back-none (thread_places s))
      ∙ (λ i. with_slots (emptied s all) (λ slot. if closes-none image t s slots m set inside slot i then None else slots_emptied s all slot))

  pub removed : remove s set ≡ Ok (emptied s (with_bindings s set))
  unfolding remove
  removed =
      let left : State → Result State KError = λ after. Ok after in
      ap (λ b. if b then Err RevokeFirst else Ok (without_slots s all)) (wants-none image t s slots m set inside) ∙ ap left without-is
