-- What a rule says by the capability that a0 names is what it says by the thread's own slots.
use Rattle.std.proofs.Common.{ℕ, ◌≡◌, ◌∙◌, Option, Result, Ok, Err, refl, sym, ap}
use Rattle.model.specs.declared.capabilities.Cap.{Cap}
use Rattle.model.specs.declared.lookup_failures.LookupFailure.{LookupFailure}
use Rattle.model.specs.declared.refusals.Point.{Point}
use Rattle.model.specs.declared.refusals.Refusal.{Refusal}
use Rattle.model.specs.Acceptance.CallRules.{AfterCall, after_call, by_capability, by_number, found_slot, known}
use Rattle.model.specs.Acceptance.NotedKernel.{noted_kernel, noted_root, noted_slots}
use Rattle.model.specs.Acceptance.NotedStates.{PointState, is_own_cnode}
use Rattle.model.specs.Acceptance.ThreadRules.{reached}
use Rattle.model.specs.Capabilities.Lookup.{called_slot}
use Rattle.model.specs.Capabilities.Slots.{Slots, capability_at}
use Rattle.model.specs.Images.Format.{◌>>=◌}
use Rattle.model.specs.Kernel.Messages.{a0, a7}
use Rattle.model.specs.Kernel.Steps.{call_of}
use Rattle.model.specs.Images.Image.{Image, Thread}
use Rattle.typestate.specs.declared.spaces.Space.{Space}
use Rattle.typestate.specs.Calls.{by_kind, found_call, ruled_by, slot_called}
use Rattle.typestate.specs.declared.system_calls.Kind.{Kind}
use Rattle.typestate.specs.Spaces.{IsSpace, NothingLeadsOutside, own_slots}
use Rattle.typestate.proofs.Lookups.{CallsSame, called-slot-same}
use Rattle.typestate.proofs.SlotMaps.{slots-agree}

ruled : (at : Point) (s t : Slots) (a b : Result ℕ LookupFailure) (rule : ℕ → Cap → Result AfterCall Refusal) → a ≡ b → CallsSame s t a
    → (found_slot at a >>= λ slot. rule slot (capability_at s slot)) ≡ ruled_by rule (slot_called at t b)
ruled at s t (Ok slot) b rule same finds = ap (rule slot) finds ∙ ap (λ (r : Result ℕ LookupFailure). ruled_by rule (slot_called at t r)) same
ruled at s t (Err failure) b rule same finds = ap (λ (r : Result ℕ LookupFailure). ruled_by rule (slot_called at t r)) same

pub by-called : (space : Space) (at : Point) (state : PointState) (rule : ℕ → Cap → Result AfterCall Refusal) → IsSpace space →
    NothingLeadsOutside space.image.now space.thread.now state.slots
    → by_capability space.image.now space.thread.now at state rule ≡ ruled_by rule (found_call at state (own_slots space.windows.now state.slots) space.root)
unfolding noted_kernel
by-called space at state rule is none =
    let image = space.image.now in
    let t = space.thread.now in
    let s = noted_slots image t state.slots in
    let own = own_slots space.windows.now state.slots in
    elim (known at state a0) as (λ r. (r >>= λ address. found_slot at (called_slot s (noted_root image t) address) >>= λ slot. rule slot (capability_at s slot))
    ≡ ruled_by rule (r >>= λ address. slot_called at own (called_slot own space.root address))) [
      | Err refusal ↦ refl
      | Ok address ↦
          let calls = called-slot-same s own (is_own_cnode image (reached image t)) (slots-agree image t space.windows.now state.slots is.cnodes none)
          space.root address is.root_inside in
          ap (λ (root : Cap). found_slot at (called_slot s root address) >>= λ slot. rule slot (capability_at s slot)) (sym is.root_is)
          ∙ ruled at s own (called_slot s space.root address) (called_slot own space.root address) rule calls.0 calls.1
    ]

-- ---- the number in a7

pub after-known : (image : Image) (t : Thread) (at : Point) (state : PointState) (number : ℕ) (kind : Option Kind) → Ok number ≡ known at state a7
    → by_number image t at state (call_of number) ≡ by_kind image t at state kind → after_call image t at state ≡ by_kind image t at state kind
unfolding after_call
after-known image t at state number kind is same =
    ap (λ (r : Result ℕ Refusal). r >>= λ n. by_number image t at state (call_of n)) (sym is) ∙ same

pub after-unknown : (image : Image) (t : Thread) (at : Point) (state : PointState) (refusal : Refusal) → Err refusal ≡ known at state a7 →
    after_call image t at state ≡ Err refusal
unfolding after_call
after-unknown image t at state refusal is = ap (λ (r : Result ℕ Refusal). r >>= λ n. by_number image t at state (call_of n)) (sym is)
