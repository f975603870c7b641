-- What Copy and Mint make of a valid capability is valid.
use Rattle.std.proofs.Common.{ℕ, ◌≡◌, ◌∙◌, subst, ◌^◌, ◌<◌, Bool, true, false, not, Result, Ok, refl, sym, ap, arith}
use Rattle.std.specs.Prelude.{bit_and, nat_lt}
use Rattle.std.proofs.lemmas.Bool.Decides.{nat_tests}
use Rattle.std.proofs.lemmas.Nat.{and_assoc, and_comm, and_le_l}
use Rattle.model.specs.Capabilities.CapabilityKinds.{badge_fits, carries_messages, copied, guard_fits, is_badged, is_guard_word, may_be_copied, with_payload}
use Rattle.model.specs.Capabilities.CapabilityWords.{AreEndpointRights, IsCapability, IsGuardWord}
use Rattle.model.specs.Kernel.Arguments.{◌>>=◌, check}
use Rattle.model.specs.declared.capabilities.Cap.{Cap}
use Rattle.model.specs.declared.capabilities.Cap.TheVariants.{Empty, Untyped, Endpoint, Notification, CNode, Frame, PageTable, Tcb, RootTable, InterruptControl}
use Rattle.model.specs.declared.capabilities.Cap.TheVariants.{InterruptHandler}
use Rattle.model.specs.declared.errors.KError.{KError}
use Rattle.model.specs.declared.errors.KError.TheVariants.{IllegalOperation, RangeError}
use Rattle.derivation.specs.cap_copies.Copies.{copy_of, minted_copy_of}

-- fewer rights are rights of an endpoint too
fewer_rights : (held word : ℕ) → AreEndpointRights held → AreEndpointRights (bit_and held word)
fewer_rights held word are =
    and_assoc 11 held word ∙ ap (λ (n : ℕ). bit_and held n) (and_comm word 11) ∙ sym (and_assoc word held 11) ∙ ap (λ (n : ℕ). bit_and n word) are

pub copied-valid : (held : Cap) (word : ℕ) → IsCapability held → IsCapability (copied held word)
copied-valid Empty word valid = valid
copied-valid (Untyped offset bits watermark) word valid = valid
copied-valid (Endpoint offset r badge) word valid = (valid.0, fewer_rights r.0 word valid.1, valid.2)
copied-valid (Notification offset r badge) word valid = (valid.0, fewer_rights r.0 word valid.1, valid.2)
copied-valid (CNode offset radix guard) word valid = valid
copied-valid (Frame offset r mapping) word valid = (valid.0, omega (arith, and_le_l r.0 word, valid.1), tt)
copied-valid (PageTable offset mapping) word valid = valid
copied-valid (Tcb offset) word valid = valid
copied-valid (RootTable offset) word valid = valid
copied-valid InterruptControl word valid = valid
copied-valid (InterruptHandler irq_line) word valid = valid

guard_word : (radix word : ℕ) → is_guard_word radix word ≡ true → IsGuardWord radix word
guard_word radix word fits = grind (arith, nat_tests)

badge : (word : ℕ) → nat_lt word (2 ^ 28) ≡ true → word < 2 ^ 28
badge word fits = grind (arith, nat_tests)

pub payload-valid : (held : Cap) (word payload : ℕ) → IsCapability held → badge_fits held payload ≡ true → guard_fits held payload ≡ true →
    IsCapability (with_payload (copied held word) payload)
payload-valid Empty word payload valid fits guards = valid
payload-valid (Untyped offset bits watermark) word payload valid fits guards = valid
payload-valid (Endpoint offset r old) word payload valid fits guards = (valid.0, fewer_rights r.0 word valid.1, badge payload fits)
payload-valid (Notification offset r old) word payload valid fits guards = (valid.0, fewer_rights r.0 word valid.1, badge payload fits)
payload-valid (CNode offset radix old) word payload valid fits guards = (valid.0, valid.1, valid.2, guard_word radix payload guards)
payload-valid (Frame offset r mapping) word payload valid fits guards = copied-valid (Frame offset r mapping) word valid
payload-valid (PageTable offset mapping) word payload valid fits guards = valid
payload-valid (Tcb offset) word payload valid fits guards = valid
payload-valid (RootTable offset) word payload valid fits guards = valid
payload-valid InterruptControl word payload valid fits guards = valid
payload-valid (InterruptHandler irq_line) word payload valid fits guards = valid
