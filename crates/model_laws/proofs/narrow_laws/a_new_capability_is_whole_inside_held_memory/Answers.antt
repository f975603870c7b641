-- What is granted to a thread that holds 16 bytes of untyped memory.
use Rattle.std.proofs.Common.{ℕ, ◌≡◌, ◌≢◌, ◌+◌, ◌^◌, ◌≤◌, ◌⊎◌, Some, None, inl, inr, sym, subst, ap, ◌∙◌, arith}
use Rattle.model.specs.declared.capabilities.Cap.{Cap}
use Rattle.model.specs.declared.capabilities.Cap.TheVariants.{Empty, Frame, InterruptControl, InterruptHandler, Untyped}
use Rattle.model.specs.Capabilities.Rights.{rights}
use Rattle.model.specs.Capabilities.Slots.{capability_at}
use Rattle.model.specs.Images.Image.{Image, Thread}
use Rattle.model.specs.Kernel.Kinds.{object_named}
use Rattle.model.specs.Kernel.Retype.{NewObject, NewFrame, object_bits}
use Rattle.model.specs.Kernel.State.{State}
use Rattle.model.specs.Acceptance.Authority.{Covers, Granted, IsUntypedAround, appeared, control, handler, held, made_handler, pool, without_use}
use Rattle.model_laws.specs.Scenarios.{HoldsOnly}
use Rattle.model_laws.proofs.narrow_laws.a_new_capability_is_whole_inside_held_memory.Goals as goal

abbrev HasPool : Cap → Type 0
HasPool source = (source ≡ Empty) ⊎ (source ≡ Untyped 0x8000 4 0)

no-cover : (new source : Cap) → HasPool source → Covers new source → ⊥
no-cover new source (inl none) covers = let e : None ≡ Some (covers.kind, covers.offset) = sym (ap object_named none) ∙ covers.same in cc
no-cover new source (inr same) covers = let e : None ≡ Some (covers.kind, covers.offset) = sym (ap object_named same) ∙ covers.same in cc

around : (first size : ℕ) (source : Cap) → HasPool source → IsUntypedAround first size source → (0x8000 ≤ first) × (first + size ≤ 0x8000 + 2 ^ 4)
around first size source (inl none) h = let e : Empty ≡ Untyped h.offset h.bits h.watermark = sym none ∙ h.is in absurd cc
around first size source (inr same) h =
    let e : Untyped h.offset h.bits h.watermark ≡ Untyped 0x8000 4 0 = sym h.is ∙ same in
    let one : h.offset ≡ 0x8000 = cc in
    let two : h.bits ≡ 4 = cc in
    (subst (λ (n : ℕ). n ≤ first) one h.begins, subst (λ (n : ℕ). first + size ≤ n) (λ i. one i + 2 ^ two i) h.ends)

no-line : (number : ℕ) (source : Cap) → HasPool source → source ≡ InterruptHandler number → ⊥
no-line number source (inl none) is = let e : Empty ≡ InterruptHandler number = sym none ∙ is in cc
no-line number source (inr same) is = let e : Untyped 0x8000 4 0 ≡ InterruptHandler number = sym same ∙ is in cc

no-control : (source : Cap) → HasPool source → source ≡ InterruptControl → ⊥
no-control source (inl none) is = let e : Empty ≡ InterruptControl = sym none ∙ is in cc
no-control source (inr same) is = let e : Untyped 0x8000 4 0 ≡ InterruptControl = sym same ∙ is in cc

module _ (image : Image) (t : Thread) (s after : State) (only : HoldsOnly image t s (Untyped 0x8000 4 0)) where
  no-pool : (new : Cap) → new ≡ Untyped 0x8000 5 0 → Granted image t s after new → ⊥
  no-pool new is (held _ h) = no-cover new (capability_at s.slots h.slot) (only.slots h.slot h.own) h.such
  no-pool new is (appeared _ kind place names none there h) = let e : None ≡ Some (kind, place) = sym (ap object_named is) ∙ names in cc
  no-pool _ is (pool first bits watermark h) =
      let e : Untyped first bits watermark ≡ Untyped 0x8000 5 0 = is in
      let one : first ≡ 0x8000 = cc in
      let two : bits ≡ 5 = cc in
      let fits = around first (2 ^ bits) (capability_at s.slots h.slot) (only.slots h.slot h.own) h.such in
      let ends : 0x8000 + 2 ^ 5 ≤ 0x8000 + 2 ^ 4 = subst (λ (n : ℕ). n ≤ 0x8000 + 2 ^ 4) (λ i. one i + 2 ^ two i) fits.1 in
      omega (arith, ends)
  no-pool _ is (handler number h) = no-line number (capability_at s.slots h.slot) (only.slots h.slot h.own) h.such
  no-pool _ is (made_handler number less h) = no-control (capability_at s.slots h.slot) (only.slots h.slot h.own) h.such
  no-pool _ is (control h) = no-control (capability_at s.slots h.slot) (only.slots h.slot h.own) h.such

  no-frame : (new : Cap) → new ≡ Frame 0x8000 (rights 3) None → Granted image t s after new → ⊥
  no-frame new is (held _ h) = no-cover new (capability_at s.slots h.slot) (only.slots h.slot h.own) h.such
  no-frame new is (appeared _ kind place names none there h) =
      let e : Some (NewFrame, 0x8000) ≡ Some (kind, place) = sym (ap object_named is) ∙ names in
      let f : ◌≡◌ {A = NewObject × ℕ} (NewFrame, 0x8000) (kind, place) = cc in
      let one : 0x8000 ≡ place = ap (λ (x : NewObject × ℕ). x.1) f in
      let two : NewFrame ≡ kind = ap (λ (x : NewObject × ℕ). x.0) f in
      let fits = around place (2 ^ object_bits kind) (capability_at s.slots h.slot) (only.slots h.slot h.own) h.such in
      let ends : 0x8000 + 2 ^ 12 ≤ 0x8000 + 2 ^ 4 = subst (λ (n : ℕ). n ≤ 0x8000 + 2 ^ 4) (sym (λ i. one i + 2 ^ object_bits (two i))) fits.1 in
      omega (arith, ends)
  no-frame _ is (pool first bits watermark h) = let e : Untyped first bits watermark ≡ Frame 0x8000 (rights 3) None = is in cc
  no-frame _ is (handler number h) = no-line number (capability_at s.slots h.slot) (only.slots h.slot h.own) h.such
  no-frame _ is (made_handler number less h) = no-control (capability_at s.slots h.slot) (only.slots h.slot h.own) h.such
  no-frame _ is (control h) = no-control (capability_at s.slots h.slot) (only.slots h.slot h.own) h.such

  granted-here : (slot : ℕ) (new : Cap) → capability_at s.slots slot ≡ Empty → capability_at after.slots slot ≡ new → Empty ≢ without_use new → new ≢ Empty
      → ((x : ℕ) → without_use (capability_at s.slots x) ≢ without_use (capability_at after.slots x) → capability_at after.slots x ≢ Empty
      → Granted image t s after (capability_at after.slots x)) → Granted image t s after (capability_at after.slots slot)
  granted-here slot new before behind differ some each =
      each slot (λ same. differ (sym (ap without_use before) ∙ same ∙ ap without_use behind)) (λ none. some (sym behind ∙ none))

pub returns-clause-pool : goal.returns-clause-pool
returns-clause-pool c = λ image t s after slot only before behind within.
    no-pool image t s after only (capability_at after.slots slot) behind
    (granted-here image t s after only slot (Untyped 0x8000 5 0) before behind (λ same. cc) (λ same. cc) within.capabilities)

pub returns-clause-appeared : goal.returns-clause-appeared
returns-clause-appeared c = λ image t s after slot only before behind within.
    no-frame image t s after only (capability_at after.slots slot) behind
    (granted-here image t s after only slot (Frame 0x8000 (rights 3) None) before behind (λ same. cc) (λ same. cc) within.capabilities)
