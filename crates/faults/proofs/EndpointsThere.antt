-- Handlers are endpoints that are there.
use Rattle.std.proofs.Common.{ℕ, ◌≡◌, ◌==◌, ◌&&◌, Bool, true, false, if◌then◌else◌, Option, Some, None, Result, Ok, Err, ap}
use Rattle.std.specs.Option.{option_map_or}
use Rattle.model.specs.Capabilities.Lookup.{called_slot}
use Rattle.model.specs.Capabilities.Rights.{may_grant_reply, may_write}
use Rattle.model.specs.Capabilities.Slots.{capability_at}
use Rattle.model.specs.Kernel.Faults.{Handler, handler, handler_in, handler_of}
use Rattle.model.specs.Kernel.Kinds.{kind_at, object_named}
use Rattle.model.specs.Kernel.Retype.{NewEndpoint, NewObject}
use Rattle.model.specs.Kernel.Soundness.{IsSound}
use Rattle.model.specs.Kernel.State.{State, cspace_slot, thread_at}
use Rattle.model.specs.declared.capabilities.Cap.{Cap}
use Rattle.model.specs.declared.capabilities.Cap.TheVariants.{Empty, Untyped, Endpoint, Notification, CNode, Frame, PageTable, Tcb, RootTable, InterruptControl}
use Rattle.model.specs.declared.capabilities.Cap.TheVariants.{InterruptHandler}
use Rattle.model.specs.declared.lookup_failures.LookupFailure.{LookupFailure}

abbrev endpoint_named : ℕ → Option (NewObject × ℕ)
endpoint_named offset = Some (NewEndpoint, offset)

named-if : (takes : Bool) (offset badge : ℕ) (h : Handler) → (if takes then Some (record { endpoint = offset; badge = badge }) else None) ≡ Some h
    → endpoint_named offset ≡ endpoint_named h.endpoint
named-if true offset badge h is = ap (λ (o : Option Handler). endpoint_named (option_map_or (λ x. x.endpoint) o 0)) is
named-if false offset badge h is = absurd (let clash : ◌≡◌ {A = Option Handler} None (Some h) = is in cc)

named-handler : (c : Cap) (h : Handler) → handler_of c ≡ Some h → object_named c ≡ endpoint_named h.endpoint
named-handler (Endpoint offset rights badge) h is = named-if (may_write rights && may_grant_reply rights) offset badge h is
named-handler Empty h is = absurd (let clash : ◌≡◌ {A = Option Handler} None (Some h) = is in cc)
named-handler (Untyped offset bits watermark) h is = absurd (let clash : ◌≡◌ {A = Option Handler} None (Some h) = is in cc)
named-handler (Notification offset rights badge) h is = absurd (let clash : ◌≡◌ {A = Option Handler} None (Some h) = is in cc)
named-handler (CNode offset radix guard) h is = absurd (let clash : ◌≡◌ {A = Option Handler} None (Some h) = is in cc)
named-handler (Frame offset rights mapping) h is = absurd (let clash : ◌≡◌ {A = Option Handler} None (Some h) = is in cc)
named-handler (PageTable offset mapping) h is = absurd (let clash : ◌≡◌ {A = Option Handler} None (Some h) = is in cc)
named-handler (Tcb offset) h is = absurd (let clash : ◌≡◌ {A = Option Handler} None (Some h) = is in cc)
named-handler (RootTable offset) h is = absurd (let clash : ◌≡◌ {A = Option Handler} None (Some h) = is in cc)
named-handler InterruptControl h is = absurd (let clash : ◌≡◌ {A = Option Handler} None (Some h) = is in cc)
named-handler (InterruptHandler irq_line) h is = absurd (let clash : ◌≡◌ {A = Option Handler} None (Some h) = is in cc)

module _ (s : State) (sound : IsSound s) (h : Handler) where
  in-slot : (found : Result ℕ LookupFailure) → handler_in s found ≡ Some h → kind_at s h.endpoint ≡ Some NewEndpoint
  in-slot (Ok slot) is = sound.memory.named slot NewEndpoint h.endpoint (named-handler (capability_at s.slots slot) h is)
  in-slot (Err failure) is = absurd (let clash : ◌≡◌ {A = Option Handler} None (Some h) = is in cc)

  by-address : (none : Bool) (found : Result ℕ LookupFailure) → (if none then None else handler_in s found) ≡ Some h → kind_at s h.endpoint ≡ Some NewEndpoint
  by-address true found is = absurd (let clash : ◌≡◌ {A = Option Handler} None (Some h) = is in cc)
  by-address false found is = in-slot found is

  pub handler-there : (thread : ℕ) → handler s thread ≡ Some h → kind_at s h.endpoint ≡ Some NewEndpoint
  handler-there thread is =
      by-address ((thread_at s thread).fault_address == 0) (called_slot s.slots (capability_at s.slots (cspace_slot thread)) (thread_at s thread).fault_address)
      is
