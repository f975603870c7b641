-- Faults and interrupts.
use Rattle.std.proofs.Common.{ℕ, ◌≡◌, ◌==◌, ◌&&◌, ◌^◌, ◌<◌, Bool, true, false, nat_lt, if◌then◌else◌, Option, Some, None, Result, Ok, Err, refl, ap, subst}
use Rattle.std.specs.Option.{option_map_or}
use Rattle.model.specs.declared.capabilities.Cap.{Cap}
use Rattle.model.specs.declared.capabilities.Cap.TheVariants.{Empty, Untyped, Endpoint, Notification, CNode, Frame, PageTable, Tcb, RootTable, InterruptControl}
use Rattle.model.specs.declared.capabilities.Cap.TheVariants.{InterruptHandler}
use Rattle.model.specs.declared.lookup_failures.LookupFailure.{LookupFailure}
use Rattle.model.specs.Capabilities.CapabilityWords.{IsCapability}
use Rattle.model.specs.Capabilities.Lookup.{called_slot}
use Rattle.model.specs.Capabilities.Rights.{may_grant_reply, may_write}
use Rattle.model.specs.Capabilities.Slots.{capability_at}
use Rattle.model.specs.Kernel.Faults.{fault, handler, handler_in, handler_of, tell, Handler}
use Rattle.model.specs.Kernel.Interrupts.{acknowledge, binding, interrupt, raise, signal_of, with_pending, Signal}
use Rattle.model.specs.Kernel.Kinds.{kind_at, object_named}
use Rattle.model.specs.Kernel.Messages.{signal}
use Rattle.model.specs.Kernel.Retype.{NewEndpoint, NewNotification, NewObject}
use Rattle.model.specs.Kernel.Scheduling.{block}
use Rattle.model.specs.Kernel.State.{ByFault, FaultMessage, Inactive, Sender, State, binding_slot, cspace_slot, put, thread_at}
use Rattle.model.specs.Kernel.Soundness.{IsSound, SentIsSound}
use Rattle.soundness.specs.Running.{IsRunning}
use Rattle.soundness.proofs.Bytes.{lines-whole}
use Rattle.soundness.proofs.Messages.{send-whole, signal-whole}
use Rattle.soundness.proofs.Moving.{runs_of}
use Rattle.soundness.proofs.QueueSteps.{running}
use Rattle.soundness.proofs.Steps.{stopped-whole}

-- ---- what capabilities to endpoints and notifications name

-- an object of this type, by a badge
pub record IsBadged (s : State) (kind : NewObject) (offset badge : ℕ) : Type 0 where
  pub there : kind_at s offset ≡ Some kind
  pub fits : badge < 2 ^ 28

module _ (s : State) (whole : IsSound s) where
  handler-at : (slot : ℕ) (c : Cap) (named : Handler) → capability_at s.slots slot ≡ c → handler_of c ≡ Some named →
      IsBadged s NewEndpoint named.endpoint named.badge
  handler-at slot (Endpoint offset r badge) named is takes =
      elim (may_write r && may_grant_reply r) as (λ b. (if b then Some (record { endpoint = offset; badge = badge }) else None) ≡ Some named
      → IsBadged s NewEndpoint named.endpoint named.badge) [
        | true ↦ λ so.
            let e : ◌≡◌ {A = Handler} (record { endpoint = offset; badge = badge }) named = cc so in
            let valid : IsCapability (Endpoint offset r badge) = subst IsCapability is (whole.slots.derivation.valid slot) in
            subst (λ (to : Handler). IsBadged s NewEndpoint to.endpoint to.badge) e (record {
              there = whole.memory.named slot NewEndpoint offset
                  (ap object_named is);
              fits = valid.2;
            })
        | false ↦ λ so. let e : None ≡ Some named = so in absurd cc
      ] takes
  handler-at slot Empty named is takes = let e : None ≡ Some named = takes in absurd cc
  handler-at slot (Untyped a b c) named is takes = let e : None ≡ Some named = takes in absurd cc
  handler-at slot (Notification a b c) named is takes = let e : None ≡ Some named = takes in absurd cc
  handler-at slot (CNode a b c) named is takes = let e : None ≡ Some named = takes in absurd cc
  handler-at slot (Frame a b c) named is takes = let e : None ≡ Some named = takes in absurd cc
  handler-at slot (PageTable a b) named is takes = let e : None ≡ Some named = takes in absurd cc
  handler-at slot (Tcb a) named is takes = let e : None ≡ Some named = takes in absurd cc
  handler-at slot (RootTable a) named is takes = let e : None ≡ Some named = takes in absurd cc
  handler-at slot InterruptControl named is takes = let e : None ≡ Some named = takes in absurd cc
  handler-at slot (InterruptHandler a) named is takes = let e : None ≡ Some named = takes in absurd cc

  signal-at : (slot : ℕ) (c : Cap) (named : Signal) → capability_at s.slots slot ≡ c → signal_of c ≡ Some named →
      IsBadged s NewNotification named.notification named.badge
  signal-at slot (Notification offset r badge) named is takes =
      let e : ◌≡◌ {A = Signal} (record { notification = offset; badge = badge }) named = cc takes in
      let valid : IsCapability (Notification offset r badge) = subst IsCapability is (whole.slots.derivation.valid slot) in
      subst (λ (bound : Signal). IsBadged s NewNotification bound.notification bound.badge) e (record {
        there = whole.memory.named slot NewNotification offset
            (ap object_named is);
        fits = valid.2;
      })
  signal-at slot Empty named is takes = let e : None ≡ Some named = takes in absurd cc
  signal-at slot (Untyped a b c) named is takes = let e : None ≡ Some named = takes in absurd cc
  signal-at slot (Endpoint a b c) named is takes = let e : None ≡ Some named = takes in absurd cc
  signal-at slot (CNode a b c) named is takes = let e : None ≡ Some named = takes in absurd cc
  signal-at slot (Frame a b c) named is takes = let e : None ≡ Some named = takes in absurd cc
  signal-at slot (PageTable a b) named is takes = let e : None ≡ Some named = takes in absurd cc
  signal-at slot (Tcb a) named is takes = let e : None ≡ Some named = takes in absurd cc
  signal-at slot (RootTable a) named is takes = let e : None ≡ Some named = takes in absurd cc
  signal-at slot InterruptControl named is takes = let e : None ≡ Some named = takes in absurd cc
  signal-at slot (InterruptHandler a) named is takes = let e : None ≡ Some named = takes in absurd cc

  -- ---- faults

  in-slot : (slot : Result ℕ LookupFailure) (named : Handler) → handler_in s slot ≡ Some named → IsBadged s NewEndpoint named.endpoint named.badge
  in-slot (Ok slot) named is = handler-at slot (capability_at s.slots slot) named refl is
  in-slot (Err failure) named is = let e : None ≡ Some named = is in absurd cc

  handled-by : (thread : ℕ) (named : Handler) → handler s thread ≡ Some named → IsBadged s NewEndpoint named.endpoint named.badge
  handled-by thread named is =
      let address = (thread_at s thread).fault_address in
      let found = called_slot s.slots (capability_at s.slots (cspace_slot thread)) address in
      elim (address == 0) as (λ b. (if b then None else handler_in s found) ≡ Some named → IsBadged s NewEndpoint named.endpoint named.badge) [
        | true ↦ λ so. let e : None ≡ Some named = so in absurd cc
        | false ↦ λ so. in-slot found named so
      ] is

  fault-by : (thread : ℕ) (message : FaultMessage) (o : Option Handler) → IsRunning s thread → SentIsSound (ByFault message) → handler s thread ≡ o
      → IsSound (option_map_or (tell s thread message) o (block s thread Inactive))
  fault-by thread message None runs sound is =
      stopped-whole (kind_at s) s thread (runs_of (s.objects thread)) (λ _. 0) false (running s thread whole runs) runs.kind Inactive refl (λ _. refl) (λ e. e)
  fault-by thread message (Some named) runs sound is =
      let badged = handled-by thread named is in
      let sender : Sender = record { thread = thread; sent = ByFault message; badge = named.badge; grant_reply = true } in
      send-whole s named.endpoint sender whole badged.there runs (record { badge = badged.fits; sent = sound })

  pub fault-whole : (thread : ℕ) (message : FaultMessage) → IsRunning s thread → SentIsSound (ByFault message) → IsSound (fault s thread message)
  fault-whole thread message runs sound = fault-by thread message (handler s thread) runs sound refl

  -- ---- interrupts

  interrupt-whole : (line : ℕ) (named : Signal) → IsBadged s NewNotification named.notification named.badge → IsSound (interrupt s line named)
  interrupt-whole line named badged =
      let after = signal s named.notification named.badge in
      lines-whole after (put s.masked line true) after.pending (signal-whole s named.notification whole badged.there named.badge badged.fits)

  pub pending-whole : (line : ℕ) (bit : Bool) → IsSound (with_pending s line bit)
  pending-whole line bit = lines-whole s s.masked (put s.pending line bit) whole

  raised-by : (line : ℕ) (o : Option Signal) → binding s line ≡ o → IsSound (option_map_or (interrupt s line) o (with_pending s line true))
  raised-by line None is = pending-whole line true
  raised-by line (Some named) is = interrupt-whole line named (signal-at (binding_slot s line) (capability_at s.slots (binding_slot s line)) named refl is)

  pub raise-whole : (line : ℕ) → IsSound (raise s line)
  raise-whole line =
      elim (nat_lt 63 line) as (λ b. IsSound (if b then s else if s.masked line then with_pending s line true else
      option_map_or (interrupt s line) (binding s line)
      (with_pending s line true))) [
        | true ↦ whole
        | false ↦
            elim (s.masked line) as (λ b. IsSound (if b then with_pending s line true else
            option_map_or (interrupt s line) (binding s line) (with_pending s line true))) [
              | true ↦ pending-whole line true
              | false ↦ raised-by line (binding s line) refl
            ]
      ]

-- an interrupt that is pending comes on the line that is not masked any more
acknowledged-by : (s t unmasked : State) (line : ℕ) (o : Option Signal) → IsSound t → IsSound unmasked → binding t line ≡ o
    → IsSound (option_map_or (interrupt t line) o unmasked)
acknowledged-by s t unmasked line None whole otherwise is = otherwise
acknowledged-by s t unmasked line (Some named) whole otherwise is =
    interrupt-whole t whole line named (signal-at t whole (binding_slot t line) (capability_at t.slots (binding_slot t line)) named refl is)

pub acknowledge-whole : (s : State) (line : ℕ) → IsSound s → IsSound (acknowledge s line)
acknowledge-whole s line whole =
    let unmasked : State = record s { masked = put s.masked line false } in
    let free = lines-whole s (put s.masked line false) s.pending whole in
    elim (s.pending line) as (λ b. IsSound (if b then option_map_or (interrupt (with_pending unmasked line false) line) (binding s line) unmasked else
    unmasked)) [
      | true ↦ acknowledged-by s (with_pending unmasked line false) unmasked line (binding s line) (pending-whole unmasked free line false) free refl
      | false ↦ free
    ]
