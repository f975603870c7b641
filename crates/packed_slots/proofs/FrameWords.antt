-- The frame that a capability names is known by the first of its words.
use Rattle.std.proofs.Common.{ℕ, ◌≡◌, ◌∙◌, ◌==◌, ◌/◌, ◌%◌, ◌*◌, ◌^◌, inl, inr, Bool, true, false, if◌then◌else◌, Some, None, refl, sym, ap}
use Rattle.std.proofs.lemmas.Bool.Decides.{eqb_tells}
use Rattle.model.specs.declared.capabilities.Cap.{Cap}
use Rattle.model.specs.declared.capabilities.Cap.TheVariants.{Empty, Frame, PageTable, RootTable, InterruptControl, InterruptHandler}
use Rattle.model.specs.Capabilities.CapabilityFields.{fields_of, fields_of_kind, frame_mapping_of, table_mapping_of}
use Rattle.model.specs.Capabilities.CapabilityKinds.{frame_of}
use Rattle.model.specs.Capabilities.Rights.{rights}

frameless : (b : Bool) (x y : Cap) → frame_of x ≡ None → frame_of y ≡ None → frame_of (if b then x else y) ≡ None
frameless true x y one other = one
frameless false x y one other = other

module _ (detail bits offset word : ℕ) where
  kind-frame : (kind : ℕ) → kind ≡ 6 → frame_of (fields_of_kind kind detail bits offset word) ≡ Some offset
  unfolding fields_of_kind
  kind-frame kind is = ap (λ (k : ℕ). frame_of (fields_of_kind k detail bits offset word)) is

  -- the kinds after that of frames
  abbrev last-kinds : ℕ → Cap
  last-kinds kind =
      if kind == 7 then PageTable offset (table_mapping_of word)
      else if kind == 8 then RootTable offset
      else if kind == 9 then InterruptControl
      else if kind == 10 then InterruptHandler (word % 2 ^ 8)
      else Empty

  last-none : (kind : ℕ) → frame_of (last-kinds kind) ≡ None
  last-none kind =
      frameless (kind == 7) _ _ refl (frameless (kind == 8) _ _ refl (frameless (kind == 9) _ _ refl
      (frameless (kind == 10) (InterruptHandler (word % 2 ^ 8)) Empty refl refl)))

  kind-none : (kind : ℕ) → (kind == 6) ≡ false → frame_of (fields_of_kind kind detail bits offset word) ≡ None
  unfolding fields_of_kind
  kind-none kind is =
      frameless (kind == 1) _ _ refl (frameless (kind == 2) _ _ refl (frameless (kind == 3) _ _ refl (frameless (kind == 4) _ _ refl
      (frameless (kind == 5) _ _ refl
      (ap (λ (b : Bool). frame_of (if b then Frame offset (rights detail) (frame_mapping_of bits word) else last-kinds kind)) is ∙ last-none kind)))))

pub frame_by_kind : (head tail : ℕ) → frame_of (fields_of head tail) ≡ (if head % 16 == 6 then Some (head / 2 ^ 12 * 16) else None)
frame_by_kind head tail = elim (eqb_tells (head % 16) 6) [
  | inl is ↦
      kind-frame (head / 2 ^ 4 % 2 ^ 5) (head / 2 ^ 9 % 2 ^ 3) (head / 2 ^ 12 * 16) tail (head % 16) is.1
      ∙ sym (ap (λ (b : Bool). if b then Some (head / 2 ^ 12 * 16) else None) is.0)
  | inr other ↦
      kind-none (head / 2 ^ 4 % 2 ^ 5) (head / 2 ^ 9 % 2 ^ 3) (head / 2 ^ 12 * 16) tail (head % 16) other.0
      ∙ sym (ap (λ (b : Bool). if b then Some (head / 2 ^ 12 * 16) else None) other.0)
]
