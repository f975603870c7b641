-- Copies name what their source names.
use Rattle.std.proofs.Common.{ℕ, ◌≡◌, ◌≢◌, ◌∙◌, Bool, true, false, not, Result, Ok, refl, sym, ap}
use Rattle.model.specs.Capabilities.CapabilityKinds.{badge_fits, carries_messages, copied, guard_fits, is_badged, may_be_copied, with_payload}
use Rattle.model.specs.Capabilities.Slots.{is_empty}
use Rattle.model.specs.Kernel.Arguments.{◌>>=◌, check}
use Rattle.model.specs.declared.capabilities.Cap.{Cap}
use Rattle.model.specs.declared.capabilities.Cap.TheVariants.{Empty, Untyped, Endpoint, Notification, CNode, Frame, PageTable, Tcb, RootTable, InterruptControl}
use Rattle.model.specs.declared.capabilities.Cap.TheVariants.{InterruptHandler}
use Rattle.model.specs.declared.errors.KError.{KError}
use Rattle.model.specs.declared.errors.KError.TheVariants.{IllegalOperation, RangeError}
use Rattle.derivation.specs.cap_copies.Copies.{copy_of, minted_copy_of, mutation_of}

-- ---- what the checks leave

passed : (test : Bool) (error : KError) (rest : Result Cap KError) (made : Cap) → (check test error >>= λ _. rest) ≡ Ok made → (test ≡ true) × (rest ≡ Ok made)
passed true error rest made is = (refl, is)
passed false error rest made is = absurd (cc)

copy-made : (held : Cap) (word : ℕ) (made : Cap) → copy_of held word ≡ Ok made → copied held word ≡ made
copy-made held word made is = let ok = (passed (may_be_copied held) IllegalOperation (Ok (copied held word)) made is).1 in cc

-- what passes the checks of Mint
pub record IsMinted (held : Cap) (word payload : ℕ) (made : Cap) : Type 0 where
  pub fits : badge_fits held payload ≡ true
  pub guards : guard_fits held payload ≡ true
  pub is : with_payload (copied held word) payload ≡ made

pub minted-made : (held : Cap) (word payload : ℕ) (made : Cap) → minted_copy_of held word payload ≡ Ok made → IsMinted held word payload made
minted-made held word payload made is =
    let one = passed (may_be_copied held) IllegalOperation _ made is in
    let two = passed (not (is_badged held)) IllegalOperation _ made one.1 in
    let three = passed (badge_fits held payload) RangeError _ made two.1 in
    let four = passed (guard_fits held payload) IllegalOperation _ made three.1 in
    let ok = four.1 in
    record { fits = three.0; guards = four.0; is = cc }

-- ---- an empty one stays empty, and no other becomes so

copied-empty : (held : Cap) (word : ℕ) → is_empty (copied held word) ≡ is_empty held
copied-empty Empty word = refl
copied-empty (Untyped _ _ _) word = refl
copied-empty (Endpoint _ _ _) word = refl
copied-empty (Notification _ _ _) word = refl
copied-empty (CNode _ _ _) word = refl
copied-empty (Frame _ _ _) word = refl
copied-empty (PageTable _ _) word = refl
copied-empty (Tcb _) word = refl
copied-empty (RootTable _) word = refl
copied-empty InterruptControl word = refl
copied-empty (InterruptHandler _) word = refl

payload-empty : (held : Cap) (payload : ℕ) → is_empty (with_payload held payload) ≡ is_empty held
payload-empty Empty payload = refl
payload-empty (Untyped _ _ _) payload = refl
payload-empty (Endpoint _ _ _) payload = refl
payload-empty (Notification _ _ _) payload = refl
payload-empty (CNode _ _ _) payload = refl
payload-empty (Frame _ _ _) payload = refl
payload-empty (PageTable _ _) payload = refl
payload-empty (Tcb _) payload = refl
payload-empty (RootTable _) payload = refl
payload-empty InterruptControl payload = refl
payload-empty (InterruptHandler _) payload = refl

some-from : (held made : Cap) → is_empty made ≡ is_empty held → not (is_empty held) ≡ true → made ≢ Empty
some-from held made same full = λ none.
    let clash : false ≡ true = sym (ap (λ (h : Cap). not (is_empty h)) none) ∙ ap not same ∙ full in
    cc

pub copy-some : (held : Cap) (word : ℕ) (made : Cap) → copy_of held word ≡ Ok made → not (is_empty held) ≡ true → made ≢ Empty
copy-some held word made is full = some-from held made (ap is_empty (sym (copy-made held word made is)) ∙ copied-empty held word) full

pub minted-some : (held : Cap) (word payload : ℕ) (made : Cap) → minted_copy_of held word payload ≡ Ok made → not (is_empty held) ≡ true → made ≢ Empty
minted-some held word payload made is full =
    some-from held made (ap is_empty (sym (minted-made held word payload made is).is) ∙ payload-empty (copied held word) payload ∙ copied-empty held word) full

-- what passes the checks of Mutate
pub record IsMutated (held : Cap) (payload : ℕ) (made : Cap) : Type 0 where
  pub silent : not (carries_messages held) ≡ true
  pub guards : guard_fits held payload ≡ true
  pub is : with_payload held payload ≡ made

pub mutated-made : (held : Cap) (payload : ℕ) (made : Cap) → mutation_of held payload ≡ Ok made → IsMutated held payload made
mutated-made held payload made is =
    let one = passed (not (carries_messages held)) IllegalOperation _ made is in
    let two = passed (guard_fits held payload) IllegalOperation _ made one.1 in
    let ok = two.1 in
    record { silent = one.0; guards = two.0; is = cc }

pub mutated-some : (held : Cap) (payload : ℕ) (made : Cap) → mutation_of held payload ≡ Ok made → not (is_empty held) ≡ true → made ≢ Empty
mutated-some held payload made is full = some-from held made (ap is_empty (sym (mutated-made held payload made is).is) ∙ payload-empty held payload) full

-- ---- the CNodes that copies name

-- a capability made of another names no CNode but the other's
pub record NamesNodeOf (held made : Cap) : Type 0 where
  pub each : (offset radix guard : ℕ) → made ≡ CNode offset radix guard → (old : ℕ) × (held ≡ CNode offset radix old)

node-copied : (held : Cap) (word offset radix guard : ℕ) → copied held word ≡ CNode offset radix guard → held ≡ CNode offset radix guard
node-copied Empty word offset radix guard is = is
node-copied (Untyped _ _ _) word offset radix guard is = is
node-copied (Endpoint _ _ _) word offset radix guard is = absurd (cc)
node-copied (Notification _ _ _) word offset radix guard is = absurd (cc)
node-copied (CNode _ _ _) word offset radix guard is = is
node-copied (Frame _ _ _) word offset radix guard is = absurd (cc)
node-copied (PageTable _ _) word offset radix guard is = is
node-copied (Tcb _) word offset radix guard is = is
node-copied (RootTable _) word offset radix guard is = is
node-copied InterruptControl word offset radix guard is = is
node-copied (InterruptHandler _) word offset radix guard is = is

node-payload : (held : Cap) (payload offset radix guard : ℕ) → with_payload held payload ≡ CNode offset radix guard → (old : ℕ)
    × (held ≡ CNode offset radix old)
node-payload Empty payload offset radix guard is = (guard, is)
node-payload (Untyped _ _ _) payload offset radix guard is = (guard, is)
node-payload (Endpoint _ _ _) payload offset radix guard is = absurd (cc)
node-payload (Notification _ _ _) payload offset radix guard is = absurd (cc)
node-payload (CNode o r old) payload offset radix guard is = (old, cc)
node-payload (Frame _ _ _) payload offset radix guard is = (guard, is)
node-payload (PageTable _ _) payload offset radix guard is = (guard, is)
node-payload (Tcb _) payload offset radix guard is = (guard, is)
node-payload (RootTable _) payload offset radix guard is = (guard, is)
node-payload InterruptControl payload offset radix guard is = (guard, is)
node-payload (InterruptHandler _) payload offset radix guard is = (guard, is)

pub copy-node : (held : Cap) (word : ℕ) (made : Cap) → copy_of held word ≡ Ok made → NamesNodeOf held made
copy-node held word made is =
    record { each = λ offset radix guard names. (guard, node-copied held word offset radix guard (copy-made held word made is ∙ names)) }

pub minted-node : (held : Cap) (word payload : ℕ) (made : Cap) → minted_copy_of held word payload ≡ Ok made → NamesNodeOf held made
minted-node held word payload made is = record {
  each = λ offset radix guard names.
      let old = node-payload (copied held word) payload offset radix guard ((minted-made held word payload made is).is ∙ names) in
      (old.0, node-copied held word offset radix old.0 old.1);
}

pub mutated-node : (held : Cap) (payload : ℕ) (made : Cap) → mutation_of held payload ≡ Ok made → NamesNodeOf held made
mutated-node held payload made is =
    record { each = λ offset radix guard names. node-payload held payload offset radix guard ((mutated-made held payload made is).is ∙ names) }
