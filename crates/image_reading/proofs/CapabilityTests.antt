-- The tests of a capability's fields decide what the relations say.
use Rattle.std.proofs.Common.{ℕ, ◌≡◌, ◌↔◌, true}
use Rattle.model.specs.declared.capabilities.Cap.{Cap}
use Rattle.model.specs.Capabilities.CapabilityFields.{is_capability}
use Rattle.model.specs.Capabilities.CapabilityKinds.{is_guard_word}
use Rattle.model.specs.Capabilities.CapabilityWords.{IsCapability, IsGuardWord, allowed_fields, allowed_guard_word}
use Rattle.model.proofs.ConditionTests.{condition-decides, met-tested, tested-met}

pub test-decides : (c : Cap) → is_capability c ≡ true → IsCapability c
unfolding is_capability
test-decides c = met-tested (allowed_fields c)

pub decides-test : (c : Cap) → IsCapability c → is_capability c ≡ true
unfolding is_capability
decides-test c = tested-met (allowed_fields c)

pub decides-guard : (radix word : ℕ) → (is_guard_word radix word ≡ true) ↔ IsGuardWord radix word
decides-guard radix word = condition-decides (allowed_guard_word radix word)
