-- The root table that a capability names is known by the first of its words.
use Rattle.std.proofs.Common.{ℕ, ◌≡◌, ◌∙◌, ◌==◌, ◌/◌, ◌%◌, ◌*◌, ◌^◌, inl, inr, Bool, true, false, if◌then◌else◌, Some, None, refl, sym, ap}
use Rattle.std.proofs.lemmas.Bool.Decides.{eqb_tells}
use Rattle.model.specs.declared.capabilities.Cap.{Cap}
use Rattle.model.specs.declared.capabilities.Cap.TheVariants.{Empty, RootTable, InterruptControl, InterruptHandler}
use Rattle.model.specs.Capabilities.CapabilityFields.{fields_of, fields_of_kind}
use Rattle.model.specs.Capabilities.CapabilityKinds.{root_of}

rootless : (b : Bool) (x y : Cap) → root_of x ≡ None → root_of y ≡ None → root_of (if b then x else y) ≡ None
rootless true x y one other = one
rootless false x y one other = other

module _ (detail bits offset word : ℕ) where
  kind-root : (kind : ℕ) → kind ≡ 8 → root_of (fields_of_kind kind detail bits offset word) ≡ Some offset
  unfolding fields_of_kind
  kind-root kind is = ap (λ (k : ℕ). root_of (fields_of_kind k detail bits offset word)) is

  -- the kinds after that of root tables
  abbrev last-kinds : ℕ → Cap
  last-kinds kind = if kind == 9 then InterruptControl else if kind == 10 then InterruptHandler (word % 2 ^ 8) else Empty

  last-none : (kind : ℕ) → root_of (last-kinds kind) ≡ None
  last-none kind =
      rootless (kind == 9) InterruptControl (if kind == 10 then InterruptHandler (word % 2 ^ 8) else Empty) refl
      (rootless (kind == 10) (InterruptHandler (word % 2 ^ 8)) Empty refl refl)

  kind-none : (kind : ℕ) → (kind == 8) ≡ false → root_of (fields_of_kind kind detail bits offset word) ≡ None
  unfolding fields_of_kind
  kind-none kind is =
      rootless (kind == 1) _ _ refl (rootless (kind == 2) _ _ refl (rootless (kind == 3) _ _ refl (rootless (kind == 4) _ _ refl
      (rootless (kind == 5) _ _ refl (rootless (kind == 6) _ _ refl (rootless (kind == 7) _ _ refl
      (ap (λ (b : Bool). root_of (if b then RootTable offset else last-kinds kind)) is ∙ last-none kind)))))))

pub root_by_kind : (head tail : ℕ) → root_of (fields_of head tail) ≡ (if head % 16 == 8 then Some (head / 2 ^ 12 * 16) else None)
root_by_kind head tail = elim (eqb_tells (head % 16) 8) [
  | inl is ↦
      kind-root (head / 2 ^ 4 % 2 ^ 5) (head / 2 ^ 9 % 2 ^ 3) (head / 2 ^ 12 * 16) tail (head % 16) is.1
      ∙ sym (ap (λ (b : Bool). if b then Some (head / 2 ^ 12 * 16) else None) is.0)
  | inr other ↦
      kind-none (head / 2 ^ 4 % 2 ^ 5) (head / 2 ^ 9 % 2 ^ 3) (head / 2 ^ 12 * 16) tail (head % 16) other.0
      ∙ sym (ap (λ (b : Bool). if b then Some (head / 2 ^ 12 * 16) else None) other.0)
]
