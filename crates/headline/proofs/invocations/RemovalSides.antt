-- The slots as they are and the noted ones both let own slots go: the boot CNode keeps a capability to each object with slots, each line and the root table.
use Rattle.std.proofs.Common.{ℕ, ◌≡◌, ◌∙◌, ◌/◌, ◌^◌, ◌<◌, ◌⊎◌, inl, inr, Bool, true, false, Option, refl, sym, ap, subst, arith}
use Rattle.std.specs.Option.{option_map_or}
use Rattle.std.specs.List.{list_any}
use Rattle.std.proofs.lemmas.Bool.{false≢true}
use Rattle.model.specs.Acceptance.NotedKernel.{stands_in}
use Rattle.model.specs.Acceptance.NotedStates.{is_foreign}
use Rattle.model.specs.Acceptance.ThreadRules.{reached}
use Rattle.model.specs.Capabilities.CapabilityKinds.{is_handler_of, names_object}
use Rattle.model.specs.Capabilities.Slots.{capability_at}
use Rattle.model.specs.Images.Described.{Numbered, described}
use Rattle.model.specs.Images.Image.{Image}
use Rattle.model.specs.Kernel.Removal.{SlotSet, is_root_at, slot_count}
use Rattle.model.specs.Kernel.State.{State, binding_slot, boot_area_slots, line_slot}
use Rattle.model.specs.declared.capabilities.Cap.{Cap}
use Rattle.model.specs.declared.capabilities.Cap.TheVariants.{Empty}
use Rattle.model.specs.declared.slot_entries.Entry.{Entry}
use Rattle.typestate.specs.Spaces.{HeldInBoot, StandsApart}
use Rattle.typestate.proofs.Laws.{HeldElse, MayRemove, no-table}
use Rattle.headline.specs.invocations.Changes.{IsOther}
use Rattle.headline.proofs.invocations.OtherSlots.{unkeyed-other}
use Rattle.headline.proofs.invocations.OwnHeld.{own-root}

-- the thread's slots as a set
abbrev pub own_set : Image → Numbered → SlotSet
own_set image t slot = list_any (stands_in image slot) (reached image t.thread)

pub other-out : (image : Image) (t : Numbered) (slot : ℕ) → IsOther image t slot → own_set image t slot ≡ false
other-out image t slot other = elim (own_set image t slot) as (λ b. own_set image t slot ≡ b → b ≡ false) [
  | true ↦ λ is. absurd (other is)
  | false ↦ λ _. refl
] refl

pub out-other : (image : Image) (t : Numbered) (slot : ℕ) → own_set image t slot ≡ false → IsOther image t slot
out-other image t slot out own = false≢true (sym out ∙ own)

-- a state whose boot area is as described, and in which own slots lead nowhere else
pub record IsSide (image : Image) (t : Numbered) (x : State) : Type 0 where
  pub radix : x.boot_radix ≡ image.header.boot_radix
  pub memory : x.memory_bits ≡ image.header.memory_bits
  pub boot : (slot : ℕ) → slot < boot_area_slots image.header.boot_radix → x.slots slot ≡ (described image).slots slot
  pub home : (slot : ℕ) → own_set image t slot ≡ true → is_foreign image t.thread (reached image t.thread) (capability_at x.slots slot) ≡ false

module _ (image : Image) (t : Numbered) (stand : StandsApart image t.thread) where
  pub boot-out : (slot : ℕ) → slot < boot_area_slots image.header.boot_radix → own_set image t slot ≡ false
  boot-out slot below = other-out image t slot (unkeyed-other image t slot (stand.behind slot below))

  module _ (x : State) (side : IsSide image t x) where
    boot-cap : (slot : ℕ) → slot < boot_area_slots image.header.boot_radix → capability_at x.slots slot ≡ capability_at (described image).slots slot
    boot-cap slot below = ap (λ (o : Option Entry). option_map_or (λ h. h.capability) o Empty) (side.boot slot below)

    pub boot-near : (slot : ℕ) → slot < boot_area_slots image.header.boot_radix → slot < 2 ^ x.memory_bits / 16
    boot-near slot below = subst (λ (n : ℕ). slot < 2 ^ n / 16) (sym side.memory) (omega (arith, below, stand.room))

    pub else-of : (test : Cap → Bool) → HeldInBoot image test → HeldElse x (own_set image t) test
    else-of test e =
        let below : e.slot < boot_area_slots image.header.boot_radix = omega (arith, e.boot) in
        record {
          slot = e.slot;
          boot = subst (λ (n : ℕ). e.slot < 2 ^ n) (sym side.radix) e.boot;
          memory = boot-near e.slot below;
          other = boot-out e.slot below;
          holds = ap test (boot-cap e.slot below) ∙ e.holds;
        }

    line-boot : (line : ℕ) → line < 64 → binding_slot x line < boot_area_slots image.header.boot_radix
    line-boot line few = subst (λ (n : ℕ). line_slot n line < boot_area_slots image.header.boot_radix) (sym side.radix) (omega (arith, few))

    line-held : (line : ℕ) → line < 64 → (capability_at x.slots (binding_slot x line) ≡ Empty) ⊎ HeldElse x (own_set image t) (is_handler_of line)
    line-held line few = elim (stand.lines line few) [
      | inl empty ↦ inl
          (boot-cap (binding_slot x line) (line-boot line few) ∙ ap (λ (n : ℕ). capability_at (described image).slots (line_slot n line)) side.radix ∙ empty)
      | inr e ↦ inr (else-of (is_handler_of line) e)
    ]

    pub may-remove : ((offset : ℕ) → (slot_count (x.objects offset) ≡ 0) ⊎ HeldElse x (own_set image t) (names_object offset)) → MayRemove x (own_set image t)
    may-remove objects = record {
      bound = λ line few. boot-out (binding_slot x line) (line-boot line few);
      lines = line-held;
      objects = objects;
      roots = λ slot root here is.
          else-of (is_root_at root)
          (subst (λ (n : ℕ). HeldInBoot image (is_root_at n))
          (sym (own-root image t.thread (capability_at x.slots slot) root (side.home slot here) is)) stand.root);
      tables = λ slot root region here. no-table image t.thread (reached image t.thread) root region (capability_at x.slots slot) (side.home slot here);
    }
