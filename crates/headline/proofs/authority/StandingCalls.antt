-- A system call that invokes nothing stays within authority, where all threads stand: the slot that it names is the thread's own, and the
-- rules ask for the right.
use Rattle.std.proofs.Common.{ℕ, ◌≡◌, ◌≢◌, ◌∙◌, Bool, true, false, Some, Ok, List, refl, sym, ap, subst, inl, inr}
use Rattle.std.specs.Prelude.{Contains}
use Rattle.headline.specs.calls.Messages.{IsInvoked, ReceivesBy, SendsBy}
use Rattle.headline.specs.facts.Standing.{AllStand, IsControlBlock}
use Rattle.headline.specs.moves.Laws.{Laws}
use Rattle.headline.specs.moves.Moving.{CallsAt}
use Rattle.headline.specs.moves.Steps.{InvokesNothing, MakesCall}
use Rattle.headline.specs.authority.Scenarios.{CallsOn, HaveOwnBuffers, RunsAt}
use Rattle.model.specs.declared.capabilities.Cap.{Cap}
use Rattle.model.specs.declared.capabilities.Cap.TheVariants.{Endpoint, Notification}
use Rattle.model.specs.declared.events.Event.TheVariants.{Step}
use Rattle.model.specs.declared.labels.Label.{Label}
use Rattle.model.specs.declared.system_calls.ReceiveCall.{ReceiveCall}
use Rattle.model.specs.declared.system_calls.ReceiveCall.TheVariants.{Polling, Receiving}
use Rattle.model.specs.declared.system_calls.SendCall.{SendCall}
use Rattle.model.specs.declared.system_calls.SystemCall.{SystemCall}
use Rattle.model.specs.declared.system_calls.SystemCall.TheVariants.{Sends, Receives, RepliesAndReceives, Replies, Yields, PutsCharacter}
use Rattle.model.specs.Acceptance.Accepted.{IsAccepted}
use Rattle.model.specs.Acceptance.Authority.{IsOwnSlot, StaysWithin, WithinAuthority}
use Rattle.model.specs.Acceptance.CallRules.{AfterCall, by_call, receive_rule, send_rule}
use Rattle.model.specs.Acceptance.NotedStates.{PointState}
use Rattle.model.specs.Acceptance.PointStates.{point_of}
use Rattle.model.specs.Acceptance.ThreadInvariants.{IsWaiting, ThreadInvariant, runs as runs_so, waits as waits_so, tcb_of}
use Rattle.model.specs.Capabilities.Slots.{capability_at}
use Rattle.model.specs.Images.Described.{Numbered, numbered_threads}
use Rattle.model.specs.Images.Image.{Image}
use Rattle.model.specs.Kernel.Messages.{a7, buffer_of}
use Rattle.model.specs.Kernel.Scheduling.{current}
use Rattle.model.specs.Kernel.State.{State, Status, Inactive, Runnable, AwaitsHandler, ThreadObject, ThreadState, thread_at}
use Rattle.model.specs.Kernel.Steps.{call_of, named_slot, step, system_call}
use Rattle.model.specs.Machine.ProgramMemory.{read}
use Rattle.headline.proofs.kept.Laws.{own-buffer, own-buffers}
use Rattle.headline.proofs.moves.Laws.{call-leaves, named-here, one-event, one-thread}
use Rattle.headline.proofs.authority.EndpointCalls.{receives-within, sends-within}
use Rattle.headline.proofs.authority.NotificationCalls.{signals-within, waits-within}
use Rattle.headline.proofs.authority.OwnSteps.{own-step}
use Rattle.headline.proofs.authority.OwnCalls.{character-within, yield-within}
use Rattle.headline.proofs.authority.ReplyCalls.{reply-endpoint, reply-notification, reply-within, thread-with}

module _ (laws : Laws) (bytes : List ℕ) (image : Image) (s : State) (labels : List Label) (accepted : IsAccepted bytes image) (all : AllStand image s labels)
    (t : Numbered) (listed : Contains (numbered_threads image) t) (own : ThreadState) (point : ℕ) (state : PointState) (left : AfterCall)
    (at : CallsAt image t s labels own point state left) where
  abbrev tcb : ℕ
  tcb = tcb_of image t

  abbrev number : ℕ
  number = read own.registers a7

  abbrev Within : Type 0
  Within = WithinAuthority image t.thread s (system_call s tcb).0

  calls-here : (capability : Cap) (slot : ℕ) → named_slot s tcb ≡ Ok slot → IsOwnSlot image t.thread slot → capability_at s.slots slot ≡ capability
      → CallsOn image t.thread s number capability
  calls-here capability slot named mine holds =
      record { own = own; is = at.there; runs = at.status; calls = refl; slot = slot; named = named; among = mine; holds = holds }

  runs-here : RunsAt image t.thread s number
  runs-here = record { own = own; is = at.there; runs = at.status; calls = refl }

  -- who is not stopped is a thread of the image
  listed-one : (thread : ℕ) → (thread_at s thread).status ≢ Inactive → IsControlBlock image thread
  listed-one thread goes =
      let there = thread-with s thread (thread_at s thread).status goes refl in
      elim (all.others thread there.0 there.1) [
        | inl stopped ↦ absurd (goes (sym there.2 ∙ stopped))
        | inr block ↦ block
      ]

  -- two of them have two buffers
  buffers-own : HaveOwnBuffers s
  buffers-own a b frame goes stays one two =
      let first = listed-one a goes in
      let second = listed-one b stays in
      let same = own-buffers bytes image first.thread second.thread frame accepted first.listed second.listed
      (own-buffer bytes image s labels accepted all first.thread first.listed frame (ap (buffer_of s) (sym first.is) ∙ one))
      (own-buffer bytes image s labels accepted all second.thread second.listed frame (ap (buffer_of s) (sym second.is) ∙ two)) in
      first.is ∙ ap (tcb_of image) same ∙ sym second.is

  -- nobody waits for its handler
  never-handled : (caller : ℕ) (u : ThreadState) → s.objects caller ≡ Some (ThreadObject u) → u.status ≡ AwaitsHandler → (v : Numbered)
      → caller ≡ tcb_of image v → ThreadInvariant image v s labels → ⊥
  never-handled caller u there status v is (runs_so running at_point noted is_there runs stands budget) =
      let same : running ≡ u = one-thread (s.objects caller) running u (ap s.objects is ∙ is_there) there in
      let clash : Runnable ≡ AwaitsHandler = sym runs ∙ ap (λ (x : ThreadState). x.status) same ∙ status in absurd cc
  never-handled caller u there status v is (waits_so waiting at_point noted is_there rests stands asks none) =
      let same : waiting ≡ u = one-thread (s.objects caller) waiting u (ap s.objects is ∙ is_there) there in
      subst (λ (x : Status). IsWaiting x) (ap (λ (x : ThreadState). x.status) same ∙ status) rests

  handles-nobody : (caller : ℕ) → own.caller ≡ Some caller → (thread_at s caller).status ≢ AwaitsHandler
  handles-nobody caller right waits =
      let there = thread-with s caller AwaitsHandler (λ same. absurd cc) waits in
      elim (all.others caller there.0 there.1) [
        | inl stopped ↦ let clash : Inactive ≡ AwaitsHandler = sym stopped ∙ there.2 in absurd cc
        | inr block ↦ never-handled caller there.0 there.1 there.2 block.thread block.is (all.stand block.thread block.listed)
      ]

  -- ---- by what the call names

  by-send : (kind : SendCall) (slot : ℕ) → call_of number ≡ Some (Sends kind) → named_slot s tcb ≡ Ok slot → IsOwnSlot image t.thread slot
      → (IsInvoked (capability_at s.slots slot) → ⊥)
      → SendsBy image t.thread (point_of t point) state kind slot (capability_at s.slots slot) left → Within
  by-send kind slot call named mine quiet (SendsBy.calls offset r badge kind_is is writes grants keeps asks) =
      sends-within image t.thread s all.sound number offset badge r (calls-here (Endpoint offset r badge) slot named mine is) writes kind call
  by-send kind slot call named mine quiet (SendsBy.sends offset r badge kind_is is writes keeps asks) =
      sends-within image t.thread s all.sound number offset badge r (calls-here (Endpoint offset r badge) slot named mine is) writes kind call
  by-send kind slot call named mine quiet (SendsBy.tries offset r badge kind_is is writes keeps asks) =
      sends-within image t.thread s all.sound number offset badge r (calls-here (Endpoint offset r badge) slot named mine is) writes kind call
  by-send kind slot call named mine quiet (SendsBy.signals offset r badge is writes asks) =
      signals-within image t.thread s all.sound number offset badge r (calls-here (Notification offset r badge) slot named mine is) writes kind call
  by-send kind slot call named mine quiet (SendsBy.invokes invoked asks) = absurd (quiet invoked)

  by-receive : (kind : ReceiveCall) (slot : ℕ) (is_wait : Bool) → call_of number ≡ Some (Receives kind) → named_slot s tcb ≡ Ok slot
      → IsOwnSlot image t.thread slot → ReceivesBy image state is_wait (capability_at s.slots slot) left → Within
  by-receive kind slot is_wait call named mine (ReceivesBy.on_endpoint offset r badge is reads asks) =
      receives-within image t.thread s all.sound number offset badge r (calls-here (Endpoint offset r badge) slot named mine is) reads kind call
  by-receive kind slot is_wait call named mine (ReceivesBy.on_notification offset r badge is reads asks) =
      waits-within image t.thread s all.sound number offset badge r (calls-here (Notification offset r badge) slot named mine is) reads kind call

  by-reply : (slot : ℕ) (is_wait : Bool) → call_of number ≡ Some RepliesAndReceives → named_slot s tcb ≡ Ok slot → IsOwnSlot image t.thread slot
      → ReceivesBy image state is_wait (capability_at s.slots slot) left → Within
  unfolding calls-here
  by-reply slot is_wait call named mine (ReceivesBy.on_endpoint offset r badge is reads asks) =
      reply-endpoint image t.thread s all.sound number call offset badge r reads (calls-here (Endpoint offset r badge) slot named mine is)
      handles-nobody buffers-own
  by-reply slot is_wait call named mine (ReceivesBy.on_notification offset r badge is reads asks) =
      reply-notification image t.thread s all.sound number call offset badge r reads (calls-here (Notification offset r badge) slot named mine is)
      handles-nobody buffers-own

  -- ---- whatever the call

  pub calls-within : (call : SystemCall) → call_of (read own.registers a7) ≡ Some call → by_call image t.thread (point_of t point) state call ≡ Ok left
      → ((kind : SendCall) (slot : ℕ) → call ≡ Sends kind → named_slot s (tcb_of image t) ≡ Ok slot → IsInvoked (capability_at s.slots slot) → ⊥)
      → WithinAuthority image t.thread s (system_call s (tcb_of image t)).0
  calls-within (Sends kind) is rule quiet =
      let names = named-here laws bytes image s labels accepted t listed own point state left at (send_rule image t.thread (point_of t point) state kind)
      rule in
      by-send kind names.slot is names.named names.own (quiet kind names.slot refl names.named)
      (laws.sends image t.thread (point_of t point) state kind names.slot (capability_at s.slots names.slot) left names.rule)
  calls-within (Receives Receiving) is rule quiet =
      let names = named-here laws bytes image s labels accepted t listed own point state left at (λ slot. receive_rule image (point_of t point) state true)
      rule in
      by-receive Receiving names.slot true is names.named names.own
      (laws.receives image (point_of t point) state true (capability_at s.slots names.slot) left names.rule)
  calls-within (Receives Polling) is rule quiet =
      let names = named-here laws bytes image s labels accepted t listed own point state left at (λ slot. receive_rule image (point_of t point) state false)
      rule in
      by-receive Polling names.slot false is names.named names.own
      (laws.receives image (point_of t point) state false (capability_at s.slots names.slot) left names.rule)
  calls-within RepliesAndReceives is rule quiet =
      let names = named-here laws bytes image s labels accepted t listed own point state left at (λ slot. receive_rule image (point_of t point) state true)
      rule in
      by-reply names.slot true is names.named names.own
      (laws.receives image (point_of t point) state true (capability_at s.slots names.slot) left names.rule)
  calls-within Replies is rule quiet = reply-within image t.thread s all.sound number is own at.there at.status handles-nobody refl
  calls-within Yields is rule quiet = yield-within image t.thread s number all.sound is runs-here
  calls-within PutsCharacter is rule quiet = character-within image t.thread s number all.sound is runs-here

-- ---- the step

pub stands-within : (laws : Laws) (bytes : List ℕ) (image : Image) (t : Numbered) (s : State) (labels : List Label) → IsAccepted bytes image
    → AllStand image s labels → Contains (numbered_threads image) t → current s ≡ Some (tcb_of image t) → MakesCall s (tcb_of image t)
    → InvokesNothing s (tcb_of image t) → StaysWithin image s Step (step s Step).0
stands-within laws bytes image t s labels accepted all listed now makes quiet =
    inr (own-step image t s (step s Step).0 listed now all.sound (one-event laws.keeps s Step all.sound)
    (call-leaves laws bytes image t s labels accepted all listed now makes (λ (after : State). WithinAuthority image t.thread s after)
    (λ own point state left call at is number rule.
    calls-within laws bytes image s labels accepted all t listed own point state left at call is rule
    (λ kind slot sends named. quiet kind slot (number ∙ ap (λ (c : SystemCall). Some c) sends) named)))
    (λ plain. absurd (plain makes)))
