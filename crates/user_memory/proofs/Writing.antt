-- A byte that a program writes, in the store's own words.
use Rattle.std.proofs.Common.{ℕ, ◌≡◌, ◌∙◌, ◌^◌, ◌<◌, Option, List, [], ◌∷◌, length, sym, ap, subst}
use Rattle.std.proofs.Math.Logic.{∥∥₁_map}
use Rattle.kernel_invariant.specs.Wholeness.{IsWhole}
use Rattle.model.specs.Capabilities.Slots.{OutsideSlots, Slots}
use Rattle.model.specs.Machine.ProgramMemory.{IsNamed, put_byte}
use Rattle.model.specs.Shared.Bytes.{written}
use Rattle.objects.specs.Standing.{Standing}
use Rattle.objects.specs.Tables.{Tables, state_of}
use Rattle.user_memory.proofs.Reading.{named-inside, named-outside, named-some}
use Rattle.user_memory.proofs.Written.{content-put, rest-same, usable-still, whole-still}
use Rattle.user_memory.specs.Views.{IsUsable, beside_of, content_under}

module _ (o : Tables) (slots : Slots) (memory : List ℕ) (root : Option ℕ) (place value : ℕ) (usable : ∥ IsUsable (state_of o slots memory) memory root ∥₁)
    (is : IsNamed (content_under (state_of o slots memory) root) place) (stood : Standing o slots memory) where
  pub may-outside : OutsideSlots slots place 1
  unfolding state_of
  may-outside = named-outside (state_of o slots memory) memory root usable place is

  inside : place < length memory
  inside = named-inside (state_of o slots memory) memory root usable place is

  pub usable-put : ∥ IsUsable (state_of o slots (written memory place (value ∷ []))) (written memory place (value ∷ [])) root ∥₁
  usable-put = ∥∥₁_map usable (usable-still o slots memory place value (named-some (state_of o slots memory) memory root usable place is) inside stood root)

  module _ (now : Slots) (new : List ℕ) (kept : now ≡ slots) (puts : new ≡ written memory place (value ∷ [])) where
    pub usable-after : ∥ IsUsable (state_of o now new) new root ∥₁
    usable-after =
        subst (λ (n : Slots). ∥ IsUsable (state_of o n new) new root ∥₁) (sym kept)
        (subst (λ (m : List ℕ). ∥ IsUsable (state_of o slots m) m root ∥₁) (sym puts) usable-put)

    pub whole-after : IsWhole o slots memory → value < 2 ^ 8 → IsWhole o now new
    whole-after whole less =
        subst (λ (n : Slots). IsWhole o n new) (sym kept)
        (subst (λ (m : List ℕ). IsWhole o slots m) (sym puts)
        (whole-still o slots memory place value (named-some (state_of o slots memory) memory root usable place is) inside stood whole less))

    pub content-after : content_under (state_of o now new) root ≡ put_byte (content_under (state_of o slots memory) root) place value
    content-after =
        ap (λ (n : Slots). content_under (state_of o n new) root) kept ∙ ap (λ (m : List ℕ). content_under (state_of o slots m) root) puts
        ∙ content-put o slots memory place value (named-some (state_of o slots memory) memory root usable place is) inside stood root

    pub rest-after : (store : ℕ) → beside_of o now new root store ≡ beside_of o slots memory root store
    rest-after store =
        ap (λ (n : Slots). beside_of o n new root store) kept ∙ ap (λ (m : List ℕ). beside_of o slots m root store) puts
        ∙ rest-same o slots memory place value (named-some (state_of o slots memory) memory root usable place is) inside stood root store
