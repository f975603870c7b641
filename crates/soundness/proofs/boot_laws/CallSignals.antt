-- SetNotification by the loader: a line whose slot is empty gets a copy of a notification's capability.
use Rattle.std.proofs.Common.{ℕ, ◌≡◌, ◌∙◌, ◌==◌, ◌^◌, ◌<◌, true, false, not, nat_lt, if◌then◌else◌, Some, Result, Ok, [], ◌∷◌, refl, ap}
use Rattle.std.proofs.lemmas.Bool.{lt-ltb}
use Rattle.model.specs.Capabilities.Rights.{may_write}
use Rattle.model.specs.Capabilities.Slots.{capability_at, depth_of, inserted, is_empty, is_full}
use Rattle.model.specs.Images.Boot.{boot_root, made, performed}
use Rattle.model.specs.Images.BootCalls.{loader_call}
use Rattle.model.specs.Kernel.Arguments.{source_slot}
use Rattle.model.specs.Kernel.CallForms.{decode, set_notification_label}
use Rattle.model.specs.Kernel.InterruptCalls.{bind, may_be_bound}
use Rattle.model.specs.Kernel.Invocations.{invoke}
use Rattle.model.specs.Kernel.Removal.{delete, remove}
use Rattle.model.specs.Kernel.Soundness.{HasShape}
use Rattle.model.specs.Kernel.State.{State, binding_slot, with_slots}
use Rattle.model.specs.declared.capabilities.Cap.TheVariants.{InterruptHandler, Notification}
use Rattle.model.specs.declared.errors.KError.{KError}
use Rattle.model.specs.declared.errors.KError.TheVariants.{IllegalOperation, InvalidCapability}
use Rattle.model.specs.declared.rights.Rights.{Rights}
use Rattle.soundness.proofs.boot_laws.CallLookups.{boot-source, boot_name, goes, made-there, passes, slot_call}

bind-called : (s : State) (handler number copy : ℕ)
    → performed s set_notification_label (copy ∷ 32 ∷ []) (slot_call s handler (InterruptHandler number)) ≡ bind s
    (slot_call s handler (InterruptHandler number)) number (boot_name copy)
unfolding invoke decode
bind-called s handler number copy = refl

-- nothing is taken away where nothing is bound
nothing-deleted : (s : State) (slot : ℕ) → is_full s.slots slot ≡ false → delete s slot ≡ Ok s
nothing-deleted s slot free = ap (λ b. if b then remove s (λ other. other == slot) else Ok s) free

pub record Binds (s : State) (handler number copy notification : ℕ) (r : Rights) (badge : ℕ) : Type 0 where
  pub inside : handler < 2 ^ s.boot_radix
  pub handles : capability_at s.slots handler ≡ InterruptHandler number
  pub copied : copy < 2 ^ s.boot_radix
  pub holds : capability_at s.slots copy ≡ Notification notification r badge
  pub shallow : depth_of s.slots copy < 255
  pub writes : may_write r ≡ true
  pub free : is_full s.slots (binding_slot s number) ≡ false

pub bind-made : (s : State) (handler number copy notification : ℕ) (r : Rights) (badge : ℕ) → HasShape s → Binds s handler number copy notification r badge
    → made s (loader_call handler set_notification_label (copy ∷ 32 ∷ []))
    ≡ Ok (with_slots s (inserted s.slots (binding_slot s number) (Notification notification r badge) (Some copy)))
bind-made s handler number copy notification r badge shape asked =
    let held = capability_at s.slots copy in
    let end : Result State KError = Ok (with_slots s (inserted s.slots (binding_slot s number) (Notification notification r badge) (Some copy))) in
    made-there s shape handler asked.inside set_notification_label (copy ∷ 32 ∷ []) (InterruptHandler number) asked.handles refl
    ∙ bind-called s handler number copy
    ∙ goes (source_slot s.slots (boot_root s.boot_radix) (boot_name copy)) _ copy end
    (boot-source s shape copy asked.copied (ap (λ c. not (is_empty c)) asked.holds))
    (passes (may_be_bound held) InvalidCapability _ end (ap may_be_bound asked.holds ∙ asked.writes)
    (passes (nat_lt (depth_of s.slots copy) 255) IllegalOperation _ end (lt-ltb (depth_of s.slots copy) 255 asked.shallow)
    (goes (delete s (binding_slot s number)) _ s end (nothing-deleted s (binding_slot s number) asked.free)
    (ap (λ c. Ok (with_slots s (inserted s.slots (binding_slot s number) c (Some copy)))) asked.holds))))
