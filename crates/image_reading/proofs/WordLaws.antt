-- Two words are read back as the capability that they spell.
use Rattle.std.proofs.Common.{ℕ, ◌≡◌, ◌&&◌, Bool, true, false, nat_eq, if◌then◌else◌, is_some, Option, Some, None, List, [], ◌∷◌, get_or, refl, sym, ◌∙◌, ap}
use Rattle.std.proofs.Common.{subst, arith}
use Rattle.std.specs.Prelude.{IfSome}
use Rattle.std.proofs.lemmas.Bool.{and_parts, eqb-true}
use Rattle.std.proofs.lemmas.Bool.Decides.{nat_tests}
use Rattle.model.specs.declared.capabilities.Cap.{Cap}
use Rattle.model.specs.declared.capabilities.Cap.TheVariants.{Empty, Untyped, Endpoint, Notification, CNode, Frame, PageTable, Tcb, RootTable, InterruptControl}
use Rattle.model.specs.declared.capabilities.Cap.TheVariants.{InterruptHandler}
use Rattle.model.specs.Capabilities.CapabilityFields.{fields_of, is_capability, same_words, unpacked, unpacked_as}
use Rattle.model.specs.Capabilities.CapabilityWords.{IsCapability, words_of}
use Rattle.model.proofs.FieldsLemmas.{fields-words}
use Rattle.image_reading.proofs.CapabilityTests.{decides-test, test-decides}

two-words : (c : Cap) → words_of c ≡ get_or (words_of c) 0 0 ∷ get_or (words_of c) 1 0 ∷ []
two-words Empty = refl
two-words (Untyped offset bits watermark) = refl
two-words (Endpoint offset r badge) = refl
two-words (Notification offset r badge) = refl
two-words (CNode offset radix guard) = refl
two-words (Frame offset r None) = refl
two-words (Frame offset r (Some mapping)) = refl
two-words (PageTable offset None) = refl
two-words (PageTable offset (Some mapping)) = refl
two-words (Tcb offset) = refl
two-words (RootTable offset) = refl
two-words InterruptControl = refl
two-words (InterruptHandler irq_line) = refl

equal : (a : ℕ) → nat_eq a a ≡ true
equal a = grind (arith, nat_tests)

same-pair : (a b : ℕ) → same_words (a ∷ b ∷ []) (a ∷ b ∷ []) ≡ true
same-pair a b = ap (λ (x : Bool). x && (nat_eq b b && true)) (equal a) ∙ ap (λ (x : Bool). x && true) (equal b)

pair-same : (a b x y : ℕ) → same_words (a ∷ b ∷ []) (x ∷ y ∷ []) ≡ true → a ∷ b ∷ [] ≡ x ∷ y ∷ []
pair-same a b x y h =
    let outer = and_parts (nat_eq a x) (nat_eq b y && true) h in
    let inner = and_parts (nat_eq b y) true outer.1 in
    let first : a ≡ x = eqb-true a x outer.0 in
    let second : b ≡ y = eqb-true b y inner.0 in
    ap (λ (n : ℕ). n ∷ b ∷ []) first ∙ ap (λ (n : ℕ). x ∷ n ∷ []) second

pub words-back : (c : Cap) → IsCapability c → unpacked (get_or (words_of c) 0 0) (get_or (words_of c) 1 0) ≡ Some c
unfolding unpacked
words-back c valid =
    let head = get_or (words_of c) 0 0 in
    let word = get_or (words_of c) 1 0 in
    let own : same_words (words_of c) (head ∷ word ∷ []) ≡ true =
    subst (λ (l : List ℕ). same_words l (head ∷ word ∷ []) ≡ true) (sym (two-words c)) (same-pair head word) in
    ap (λ (f : Cap). unpacked_as f head word) (fields-words c valid)
    ∙ ap (λ (b : Bool). if b && same_words (words_of c) (head ∷ word ∷ []) then Some c else None) (decides-test c valid)
    ∙ ap (λ (b : Bool). if b then Some c else None) own

kept : (b : Bool) (f c : Cap) → (if b then Some f else None) ≡ Some c → (b ≡ true) × (f ≡ c)
kept true f c is = (refl, cc)
kept false f c is = let e : None ≡ Some c = is in absurd cc

pub words-only : (head word : ℕ) (c : Cap) → unpacked head word ≡ Some c → IsCapability c × (words_of c ≡ head ∷ word ∷ [])
unfolding unpacked
words-only head word c is =
    let f = fields_of head word in
    let found = kept (is_capability f && same_words (words_of f) (head ∷ word ∷ [])) f c is in
    let parts = and_parts (is_capability f) (same_words (words_of f) (head ∷ word ∷ [])) found.0 in
    let own : words_of f ≡ head ∷ word ∷ [] =
    two-words f ∙ pair-same _ _ head word (subst (λ (l : List ℕ). same_words l (head ∷ word ∷ []) ≡ true) (two-words f) parts.1) in
    (subst IsCapability found.1 (test-decides f parts.0), ap words_of (sym found.1) ∙ own)

-- An answer that is the capability of two words, if they are one's, says whether they are.
pub unpacked-is : (head word : ℕ) (answer : Option Cap) → IfSome answer (λ capability. IsCapability capability × (head ∷ word ∷ [] ≡ words_of capability))
    → ((capability : Cap) → IsCapability capability → head ∷ word ∷ [] ≡ words_of capability → answer ≡ Some capability) →
    is_some answer ≡ is_some (unpacked head word)
unpacked-is head word (Some c) found only =
    let first : get_or (words_of c) 0 0 ≡ head = ap (λ (l : List ℕ). get_or l 0 0) (sym found.1) in
    let second : get_or (words_of c) 1 0 ≡ word = ap (λ (l : List ℕ). get_or l 1 0) (sym found.1) in
    let e : unpacked head word ≡ Some c = subst (λ (n : ℕ). unpacked head n ≡ Some c) second
    (subst (λ (n : ℕ). unpacked n (get_or (words_of c) 1 0) ≡ Some c) first (words-back c found.0)) in
    ap (λ (o : Option Cap). is_some o) (sym e)
unpacked-is head word None found only =
    elim (unpacked head word) as (λ o. unpacked head word ≡ o → false ≡ is_some o) [
      | None ↦ λ e. refl
      | Some c ↦ λ e. let w = words-only head word c e in let no : None ≡ Some c = only c w.0 (sym w.1) in absurd cc
    ] refl
