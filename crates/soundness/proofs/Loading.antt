-- The calls of the loader keep soundness.
use Rattle.std.proofs.Common.{ℕ, ◌≡◌, ◌==◌, ◌^◌, ◌<◌, true, false, nat_le, if◌then◌else◌, length, List, Option, Some, None, Result, Ok, Err, refl, ap, subst}
use Rattle.std.specs.Prelude.{All}
use Rattle.model.specs.declared.capabilities.Cap.{Cap}
use Rattle.model.specs.declared.capabilities.Cap.TheVariants.{Empty, Untyped, Endpoint, Notification, CNode, Frame, PageTable, Tcb, RootTable, InterruptControl}
use Rattle.model.specs.declared.capabilities.Cap.TheVariants.{InterruptHandler}
use Rattle.model.specs.declared.errors.KError.{KError}
use Rattle.model.specs.declared.errors.KError.TheVariants.{FailedLookup, IllegalOperation, TruncatedMessage}
use Rattle.model.specs.declared.lookup_failures.LookupFailure.{LookupFailure}
use Rattle.model.specs.Capabilities.CapabilityKinds.{thread_of}
use Rattle.model.specs.Capabilities.Lookup.{called_slot, lookup}
use Rattle.model.specs.Capabilities.Slots.{IsFull, capability_at}
use Rattle.model.specs.Images.Boot.{boot_call, boot_root, made, or_failed}
use Rattle.model.specs.Images.BootCalls.{LoaderCall, boot_cnode}
use Rattle.model.specs.Kernel.Arguments.{◌>>=◌, Call, check, wanted}
use Rattle.model.specs.Kernel.CallForms.{configure_label, slot_name, word}
use Rattle.model.specs.Kernel.Invocations.{configure_with_guard, invoke}
use Rattle.model.specs.Kernel.Kinds.{kind_at, object_named}
use Rattle.model.specs.Kernel.Retype.{NewThread}
use Rattle.model.specs.Kernel.State.{State}
use Rattle.soundness.specs.Calls.{IsCall, held, boot, of_loader}
use Rattle.model.specs.Kernel.Soundness.{IsSound}
use Rattle.soundness.proofs.CopyingCalls.{configure-whole}
use Rattle.soundness.proofs.Delivered.{read-less}
use Rattle.soundness.proofs.Invoked.{invoke-whole}
use Rattle.soundness.proofs.Lookups.{passes-both, wanted-some}
use Rattle.soundness.proofs.MappingCalls.{IsAt, invoked-at}
use Rattle.soundness.proofs.SystemCalls.{called-full}

found-slot : (r : Result ℕ LookupFailure) (slot : ℕ) → or_failed r ≡ Ok slot → r ≡ Ok slot
found-slot (Ok x) slot is = let e : x ≡ slot = (let f : ◌≡◌ {A = Result ℕ KError} (Ok x) (Ok slot) = is in cc) in ap (λ (n : ℕ). Ok n) e
found-slot (Err failure) slot is = let e : ◌≡◌ {A = Result ℕ KError} (Err FailedLookup) (Ok slot) = is in absurd cc

-- the loader calls the boot CNode itself, or what a boot slot holds
boot-call : (s : State) (address : ℕ) (call : Call) → boot_call s address ≡ Ok call → IsCall s call
boot-call s address call is =
    let root = boot_root s.boot_radix in
    let itself : Call = record { root = root; caller = None; slot = 0; capability = root } in
    let of = λ (slot : ℕ). let made_call : Call = record { root = root; caller = None; slot = slot; capability = capability_at s.slots slot } in made_call in
    elim (address == boot_cnode) as (λ b. (if b then Ok itself else (or_failed (called_slot s.slots root address) >>= λ slot. Ok (of slot))) ≡ Ok call →
    IsCall s call) [
      | true ↦ λ so.
          let e : itself ≡ call = cc so in subst (IsCall s) e (record { root = of_loader refl; invoked = boot refl })
      | false ↦ λ so.
          let one = passes-both (or_failed (called_slot s.slots root address)) _ call so in
          let e : of one.value ≡ call = cc one.rest in
          let full : IsFull s.slots one.value = called-full s.slots (lookup s.slots root address 32) one.value
          (found-slot (called_slot s.slots root address) one.value one.first) in
          subst (IsCall s) e (record { root = of_loader refl; invoked = held refl full })
    ] is

tcb-of : (c : Cap) (thread : ℕ) → thread_of c ≡ Some thread → c ≡ Tcb thread
tcb-of Empty thread is = let e : ◌≡◌ {A = Option ℕ} None (Some thread) = is in absurd cc
tcb-of (Untyped a b d) thread is = let e : ◌≡◌ {A = Option ℕ} None (Some thread) = is in absurd cc
tcb-of (Endpoint a r b) thread is = let e : ◌≡◌ {A = Option ℕ} None (Some thread) = is in absurd cc
tcb-of (Notification a r b) thread is = let e : ◌≡◌ {A = Option ℕ} None (Some thread) = is in absurd cc
tcb-of (CNode a r g) thread is = let e : ◌≡◌ {A = Option ℕ} None (Some thread) = is in absurd cc
tcb-of (Frame a r m) thread is = let e : ◌≡◌ {A = Option ℕ} None (Some thread) = is in absurd cc
tcb-of (PageTable a m) thread is = let e : ◌≡◌ {A = Option ℕ} None (Some thread) = is in absurd cc
tcb-of (Tcb a) thread is = let e : a ≡ thread = cc is in ap Tcb e
tcb-of (RootTable a) thread is = let e : ◌≡◌ {A = Option ℕ} None (Some thread) = is in absurd cc
tcb-of InterruptControl thread is = let e : ◌≡◌ {A = Option ℕ} None (Some thread) = is in absurd cc
tcb-of (InterruptHandler a) thread is = let e : ◌≡◌ {A = Option ℕ} None (Some thread) = is in absurd cc

guarded-whole : (s t : State) (call : Call) (words : List ℕ) → IsSound s → IsCall s call → All (λ word. word < 2 ^ 32) words →
    configure_with_guard s call words ≡ Ok t → IsSound t
unfolding configure_with_guard
guarded-whole s t call words whole is_call small is =
    let one = passes-both (wanted (thread_of call.capability) IllegalOperation) _ t is in
    let two = passes-both (check (nat_le 6 (length words)) TruncatedMessage) _ t one.rest in
    let thread = one.value in
    let tcb = tcb-of call.capability thread (wanted-some (thread_of call.capability) IllegalOperation thread one.first) in
    let at = invoked-at s call (Tcb thread) is_call.invoked tcb refl in
    let is_thread : kind_at s thread ≡ Some NewThread = whole.memory.named call.slot NewThread thread (ap object_named (IsAt.at at)) in
    configure-whole s t call.root thread (Some (word words 5)) (word words 0) (slot_name words 1) (slot_name words 3) whole is_thread (read-less words 0 small)
    two.rest

pub made-whole : (s t : State) (c : LoaderCall) → IsSound s → All (λ word. word < 2 ^ 32) c.words → made s c ≡ Ok t → IsSound t
unfolding made
made-whole s t c whole small is =
    let one = passes-both (boot_call s c.address) _ t is in
    let call = one.value in
    let is_call = boot-call s c.address call one.first in
    elim (c.label == configure_label) as (λ b. (if b then configure_with_guard s call c.words else invoke s call c.label 0 c.words) ≡ Ok t → IsSound t) [
      | true ↦ λ so. guarded-whole s t call c.words whole is_call small so
      | false ↦ λ so. invoke-whole s t call c.label 0 c.words whole is_call small so
    ] one.rest
