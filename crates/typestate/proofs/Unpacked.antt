-- What is unpacked of two words is what the definition unpacks of them.
use Rattle.std.proofs.Common.{ℕ, ◌≡◌, ◌∙◌, true, false, Option, Some, None, List, [], ◌∷◌, get_or, ap, refl}
use Rattle.std.specs.Prelude.{IfSome, is_some}
use Rattle.image_reading.proofs.Laws.{unpacked-is, words-back}
use Rattle.model.specs.declared.capabilities.Cap.{Cap}
use Rattle.model.specs.Capabilities.CapabilityFields.{unpacked}
use Rattle.model.specs.Capabilities.CapabilityWords.{IsCapability, words_of}

none-same : (found : Option Cap) → false ≡ is_some found → found ≡ None
none-same None is = refl
none-same (Some c) is = absurd (let clash : false ≡ true = is in cc)

pub unpacked-same : (head word : ℕ) (answer : Option Cap) → IfSome answer (λ capability. IsCapability capability × (head ∷ word ∷ [] ≡ words_of capability))
    → ((capability : Cap) → IsCapability capability → head ∷ word ∷ [] ≡ words_of capability → answer ≡ Some capability) → unpacked head word ≡ answer
unpacked-same head word (Some c) found only =
    ap (λ (l : List ℕ). unpacked (get_or l 0 0) (get_or l 1 0)) found.1 ∙ words-back c found.0
unpacked-same head word None found only = none-same (unpacked head word) (unpacked-is head word None found only)
