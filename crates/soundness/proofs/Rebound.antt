-- A line gets a copy of a notification's capability in place of what it had.
use Rattle.std.proofs.Common.{ℕ, ◌≡◌, ◌∙◌, ◌==◌, ◌+◌, ◌^◌, ◌<◌, ◌&&◌, ◌||◌, inl, inr, true, false, not, if◌then◌else◌, Some, Result, Ok, refl, sym, ap, subst}
use Rattle.std.proofs.Common.{arith}
use Rattle.std.specs.List.{list_any, range_with_len}
use Rattle.std.proofs.lemmas.Bool.{eq-eqb, eqb-true}
use Rattle.model.specs.declared.capabilities.Cap.{Cap}
use Rattle.model.specs.declared.capabilities.Cap.TheVariants.{Empty, Untyped, Endpoint, Notification, CNode, Frame, PageTable, Tcb, RootTable, InterruptControl}
use Rattle.model.specs.declared.capabilities.Cap.TheVariants.{InterruptHandler}
use Rattle.model.specs.declared.errors.KError.{KError}
use Rattle.model.specs.declared.errors.KError.TheVariants.{InvalidCapability}
use Rattle.model.specs.declared.invocations.SlotName.{SlotName}
use Rattle.model.specs.Capabilities.CapabilityKinds.{is_handler_of}
use Rattle.model.specs.Capabilities.Slots.{IsFull, Slots, capability_at, depth_of, inserted, is_empty, is_full}
use Rattle.model.specs.Kernel.Arguments.{Call, check, may_have_child, source_slot}
use Rattle.model.specs.Kernel.InterruptCalls.{bind, may_be_bound}
use Rattle.model.specs.Kernel.Removal.{SlotSet, delete, kept, remove, takes_last, with_bindings}
use Rattle.model.specs.Kernel.Soundness.{IsSound}
use Rattle.model.specs.Kernel.State.{State, binding_slot, with_slots}
use Rattle.removal_laws.proofs.Laws.{line-of, or-cases}
use Rattle.soundness.specs.Calls.{IsCall}
use Rattle.soundness.proofs.CNodeCalls.{room-below}
use Rattle.soundness.proofs.CopyingCalls.{bound-sound}
use Rattle.soundness.proofs.LeftSlots.{capability-gone, capability-left, depth-left, left}
use Rattle.soundness.proofs.Lookups.{check-passes, passes-both, source-plain}
use Rattle.soundness.proofs.Places.{IsPlain, plain-no_line}
use Rattle.soundness.proofs.Removed.{Leaves, deleted-leaves}

-- what may be bound has neither a mapping nor a watermark
bound-kept : (s : State) (set : SlotSet) (y : ℕ) (c : Cap) → may_be_bound c ≡ true → kept s set y c ≡ c
bound-kept s set y (Notification o rights b) is = refl
bound-kept s set y Empty is = let clash : false ≡ true = is in absurd cc
bound-kept s set y (Untyped o b w) is = let clash : false ≡ true = is in absurd cc
bound-kept s set y (Endpoint o rights b) is = let clash : false ≡ true = is in absurd cc
bound-kept s set y (CNode o radix g) is = let clash : false ≡ true = is in absurd cc
bound-kept s set y (Frame f rights m) is = let clash : false ≡ true = is in absurd cc
bound-kept s set y (PageTable t m) is = let clash : false ≡ true = is in absurd cc
bound-kept s set y (Tcb o) is = let clash : false ≡ true = is in absurd cc
bound-kept s set y (RootTable o) is = let clash : false ≡ true = is in absurd cc
bound-kept s set y InterruptControl is = let clash : false ≡ true = is in absurd cc
bound-kept s set y (InterruptHandler line) is = let clash : false ≡ true = is in absurd cc

-- a line, and a slot of a CNode that holds what may be bound to it
pub record Binds (s : State) (number source : ℕ) : Type 0 where
  pub sound : IsSound s
  pub less : number < 64
  pub plain : IsPlain s source
  pub full : IsFull s.slots source
  pub room : depth_of s.slots source < 255
  pub may : may_be_bound (capability_at s.slots source) ≡ true

-- the line's slot alone, and the bindings that go with it
abbrev pub taken : State → ℕ → SlotSet
taken s number = with_bindings s (λ other. other == binding_slot s number)

module _ (s t : State) (number source : ℕ) (binds : Binds s number source) (leaves : Leaves s (taken s number) t) where
  -- the source is no line's slot
  source-stays : taken s number source ≡ false
  source-stays = elim (taken s number source) as (λ b. taken s number source ≡ b → b ≡ false) [
    | false ↦ λ _. refl
    | true ↦ λ member. absurd (elim (or-cases (source == binding_slot s number) _ member) [
      | inl here ↦ plain-no_line s (Binds.sound binds).memory source number (Binds.less binds) (Binds.plain binds)
          (eqb-true source (binding_slot s number) here)
      | inr other ↦
          let line = line-of s (λ line. takes_last s (λ x. x == binding_slot s number) (is_handler_of line)) 0 source other in
          plain-no_line s (Binds.sound binds).memory source line.0 line.1 (Binds.plain binds) line.2
    ])
  ] refl

  pub source-same : capability_at t.slots source ≡ capability_at s.slots source
  source-same =
      ap (λ (n : Slots). capability_at n source) leaves.slots
      ∙ capability-left s (taken s number) leaves.removes source source-stays
      ∙ bound-kept s (taken s number) source (capability_at s.slots source) (Binds.may binds)

  pub line-empty : is_full t.slots (binding_slot t number) ≡ false
  line-empty =
      ap (λ (radix : ℕ). is_full t.slots (2 ^ radix + number)) leaves.radix
      ∙ ap (λ (n : Slots). is_full n (binding_slot s number)) leaves.slots
      ∙ ap (λ c. not (is_empty c)) (capability-gone s (taken s number) leaves.removes (binding_slot s number)
      (ap (λ b. b || list_any (λ line. binding_slot s number == binding_slot s line && takes_last s (λ x. x == binding_slot s number) (is_handler_of line))
      (range_with_len 0 64)) (eq-eqb (binding_slot s number) (binding_slot s number) refl)))

  pub room-still : depth_of t.slots source < 255
  room-still =
      let low = depth-left s (taken s number) leaves.removes source in
      let same : depth_of t.slots source ≡ depth_of (left s (taken s number)).slots source = ap (λ (n : Slots). depth_of n source) leaves.slots in
      omega (arith, low, same, Binds.room binds)

  bound-then : IsSound (with_slots t (inserted t.slots (binding_slot s number) (capability_at s.slots source) (Some source)))
  bound-then =
      subst (λ (slot : ℕ). IsSound (with_slots t (inserted t.slots slot (capability_at s.slots source) (Some source))))
      (ap (λ (radix : ℕ). 2 ^ radix + number) leaves.radix)
      (subst (λ (c : Cap). IsSound (with_slots t (inserted t.slots (binding_slot t number) c (Some source)))) source-same
      (bound-sound t number source leaves.sound (Binds.less binds) (ap (λ c. not (is_empty c)) source-same
      ∙ Binds.full binds) line-empty room-still (ap may_be_bound source-same ∙ Binds.may binds)))

rebound : (s t : State) (number source : ℕ) → Binds s number source → delete s (binding_slot s number) ≡ Ok t
    → IsSound (with_slots t (inserted t.slots (binding_slot s number) (capability_at s.slots source) (Some source)))
rebound s t number source binds is =
    elim (is_full s.slots (binding_slot s number)) as (λ b. is_full s.slots (binding_slot s number) ≡ b
    → IsSound (with_slots t (inserted t.slots (binding_slot s number) (capability_at s.slots source) (Some source)))) [
      | true ↦ λ full. bound-then s t number source binds (deleted-leaves s t (binding_slot s number) (Binds.sound binds) full is)
      | false ↦ λ free.
          let kept_all : delete s (binding_slot s number) ≡ Ok s = ap (λ b. if b then remove s (λ other. other == binding_slot s number) else Ok s) free in
          let same : s ≡ t = (let e : ◌≡◌ {A = Result State KError} (Ok s) (Ok t) = sym kept_all ∙ is in cc) in
          subst (λ (after : State). IsSound (with_slots after (inserted after.slots (binding_slot s number) (capability_at s.slots source) (Some source)))) same
          (bound-sound s number source (Binds.sound binds) (Binds.less binds) (Binds.full binds) free (Binds.room binds) (Binds.may binds))
    ] refl

pub bind-sound : (s t : State) (call : Call) (number : ℕ) (name : SlotName) → IsSound s → IsCall s call → number < 64
    → bind s call number name ≡ Ok t → IsSound t
bind-sound s t call number name sound is_call less is =
    let one = passes-both (source_slot s.slots call.root name) _ t is in
    let source = one.value in
    let two = passes-both (check (may_be_bound (capability_at s.slots source)) InvalidCapability) _ t one.rest in
    let three = passes-both (may_have_child s.slots source) _ t two.rest in
    let four = passes-both (delete s (binding_slot s number)) _ t three.rest in
    let named = source-plain s sound.memory call.root name source is_call.root one.first in
    let e : with_slots four.value (inserted four.value.slots (binding_slot s number) (capability_at s.slots source) (Some source)) ≡ t = cc four.rest in
    subst IsSound e (rebound s four.value number source (record {
      sound = sound;
      less = less;
      plain = named.0;
      full = named.1;
      room = room-below s source three.value three.first;
      may = check-passes (may_be_bound (capability_at s.slots source)) InvalidCapability two.value two.first;
    }) four.first)
