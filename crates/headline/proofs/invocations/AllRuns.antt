-- Whatever happens to an accepted image, all goes well.
use Rattle.std.proofs.Common.{ℕ, ◌≡◌, ◌∙◌, ◌⊎◌, inl, inr, Option, Some, None, Result, Ok, Err, List, [], All, refl, sym, subst}
use Rattle.headline.specs.calls.Messages.{IsInvoked}
use Rattle.headline.specs.facts.Standing.{AllStand}
use Rattle.model.specs.declared.capabilities.Cap.{Cap}
use Rattle.model.specs.declared.capabilities.Cap.TheVariants.{Empty, Untyped, Endpoint, Notification, CNode, Frame, PageTable, Tcb, RootTable, InterruptControl}
use Rattle.model.specs.declared.capabilities.Cap.TheVariants.{InterruptHandler}
use Rattle.model.specs.declared.events.Event.{Event}
use Rattle.model.specs.declared.lookup_failures.LookupFailure.{LookupFailure}
use Rattle.model.specs.Acceptance.Accepted.{IsAccepted}
use Rattle.model.specs.Acceptance.Devices.{KeepsDevices}
use Rattle.model.specs.Acceptance.ThreadInvariants.{tcb_of}
use Rattle.model.specs.Capabilities.Slots.{capability_at}
use Rattle.model.specs.Images.Described.{described}
use Rattle.model.specs.Images.Image.{Image}
use Rattle.model.specs.Kernel.Messages.{a7}
use Rattle.model.specs.Kernel.State.{State}
use Rattle.model.specs.Kernel.Steps.{call_of, named_slot, registers_of}
use Rattle.model.specs.declared.system_calls.SendCall.{SendCall}
use Rattle.model.specs.declared.system_calls.SystemCall.{SystemCall}
use Rattle.model.specs.declared.system_calls.SystemCall.TheVariants.{Sends, Receives, RepliesAndReceives, Replies, Yields, PutsCharacter}
use Rattle.model.specs.Machine.ProgramMemory.{read}
use Rattle.headline.specs.moves.Laws.{InterruptsGoWell, Laws, MessagesGoWell, PlainStepsGoWell, ReadsGoWell, TicksGoWell, WritesGoWell}
use Rattle.headline.specs.moves.Steps.{HasGoneWell, InvokesNothing}
use Rattle.headline.proofs.moves.Laws.{run-goes-by, step-goes-by}
use Rattle.headline.specs.invocations.Invoking.{Invokes}
use Rattle.headline.specs.invocations.Laws.{AnyStepGoesWell, InvocationsGoWell}

-- ---- a thread invokes a capability, or none

invoked-or-not : (c : Cap) → (IsInvoked c → ⊥) ⊎ IsInvoked c
invoked-or-not Empty = inr tt
invoked-or-not (Untyped offset bits watermark) = inr tt
invoked-or-not (Endpoint offset r badge) = inl (λ none. none)
invoked-or-not (Notification offset r badge) = inl (λ none. none)
invoked-or-not (CNode offset radix guard) = inr tt
invoked-or-not (Frame offset r mapping) = inr tt
invoked-or-not (PageTable offset mapping) = inr tt
invoked-or-not (Tcb offset) = inr tt
invoked-or-not (RootTable offset) = inr tt
invoked-or-not InterruptControl = inr tt
invoked-or-not (InterruptHandler line) = inr tt

module _ (s : State) (thread : ℕ) where
  abbrev Either : Type 0
  Either = InvokesNothing s thread ⊎ Invokes s thread

  abbrev Named : Result ℕ LookupFailure → Type 0
  Named r = named_slot s thread ≡ r

  one-slot : (a b : ℕ) → Named (Ok a) → Named (Ok b) → b ≡ a
  one-slot a b first second = let both : ◌≡◌ {A = Result ℕ LookupFailure} (Ok a) (Ok b) = sym first ∙ second in cc

  module _ (kind : SendCall) (number : call_of (read (registers_of s thread) a7) ≡ Some (Sends kind)) where
    by-slot : (slot : ℕ) → Named (Ok slot) → (IsInvoked (capability_at s.slots slot) → ⊥) ⊎ IsInvoked (capability_at s.slots slot) → Either
    by-slot slot named (inl none) =
        inl (λ other found number_is named_is invoked. none (subst (λ n. IsInvoked (capability_at s.slots n)) (one-slot slot found named named_is) invoked))
    by-slot slot named (inr invoked) = inr (record { kind = kind; slot = slot; number = number; named = named; invoked = invoked })

    by-name : (r : Result ℕ LookupFailure) → Named r → Either
    by-name (Ok slot) named = by-slot slot named (invoked-or-not (capability_at s.slots slot))
    by-name (Err failure) none =
        inl (λ other found number_is named invoked. absurd (let clash : ◌≡◌ {A = Result ℕ LookupFailure} (Err failure) (Ok found) = sym none ∙ named in cc))

  no-send : (o : Option SystemCall) → call_of (read (registers_of s thread) a7) ≡ o → ((kind : SendCall) → o ≡ Some (Sends kind) → ⊥) → Either
  no-send o is other = inl (λ kind slot number named invoked. other kind (sym is ∙ number))

  by-number : (o : Option SystemCall) → call_of (read (registers_of s thread) a7) ≡ o → Either
  by-number (Some (Sends kind)) number = by-name kind number (named_slot s thread) refl
  by-number None is = no-send None is (λ kind clash. absurd cc)
  by-number (Some (Receives kind)) is = no-send (Some (Receives kind)) is (λ other clash. absurd cc)
  by-number (Some RepliesAndReceives) is = no-send (Some RepliesAndReceives) is (λ kind clash. absurd cc)
  by-number (Some Replies) is = no-send (Some Replies) is (λ kind clash. absurd cc)
  by-number (Some Yields) is = no-send (Some Yields) is (λ kind clash. absurd cc)
  by-number (Some PutsCharacter) is = no-send (Some PutsCharacter) is (λ kind clash. absurd cc)

  pub either-invokes : InvokesNothing s thread ⊎ Invokes s thread
  either-invokes = by-number (call_of (read (registers_of s thread) a7)) refl

-- ---- steps

pub any-step-goes : Laws → InvocationsGoWell → MessagesGoWell → PlainStepsGoWell → AnyStepGoesWell
any-step-goes laws invocations messages plain bytes image s labels accepted all =
    step-goes-by laws plain bytes image s labels accepted all
    (λ t listed here makes. elim (either-invokes s (tcb_of image t)) [
      | inl nothing ↦ messages bytes image t s labels accepted all listed here makes nothing
      | inr invokes ↦ invocations bytes image t s labels accepted all listed here makes invokes
    ])

-- ---- events

pub any-run-goes : AnyStepGoesWell → TicksGoWell → InterruptsGoWell → WritesGoWell → ReadsGoWell → (bytes : List ℕ) (image : Image) (events : List Event)
    → IsAccepted bytes image → All (KeepsDevices image) events → AllStand image (described image) [] → HasGoneWell image events
any-run-goes steps ticks interrupts world_writes world_reads bytes image events accepted devices start =
    run-goes-by ticks interrupts world_writes world_reads bytes image accepted (λ s labels all. steps bytes image s labels accepted all) events devices start
