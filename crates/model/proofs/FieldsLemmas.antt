-- The fields in the words of a capability are the capability's.
use Rattle.std.proofs.Common.{◌≡◌, ◌∙◌, ℕ, ◌+◌, ◌-◌, ◌*◌, ◌/◌, ◌%◌, ◌^◌, ◌<◌, ◌≤◌, ◌==◌, false, Some, None, List, get_or, refl, ap, subst, arith}
use Rattle.std.proofs.lemmas.Bool.Decides.{nat_tests}
use Rattle.std.proofs.lemmas.Nat.{and_le_r, mod-pow-add}
use Rattle.model.specs.declared.capabilities.Cap.{Cap}
use Rattle.model.specs.declared.capabilities.Cap.TheVariants.{Empty, Untyped, Endpoint, Notification, CNode, Frame, PageTable, Tcb, RootTable, InterruptControl}
use Rattle.model.specs.declared.capabilities.Cap.TheVariants.{InterruptHandler}
use Rattle.model.specs.declared.capabilities.FrameMapping.{FrameMapping}
use Rattle.model.specs.declared.capabilities.TableMapping.{TableMapping}
use Rattle.model.specs.Capabilities.CapabilityWords.{AreEndpointRights, AreMappingRights, IsCapability, IsFrameMapping, IsTableMapping, head_word, mapping_word}
use Rattle.model.specs.Capabilities.CapabilityWords.{words_of}
use Rattle.model.specs.Capabilities.CapabilityFields.{fields_of_kind, fields_of, frame_mapping_of, table_mapping_of}

-- a multiple of an object's size is one of sixteen
sixteenths_above : (offset more : ℕ) → offset % 2 ^ (more + 4) ≡ 0 → offset / 16 * 16 ≡ offset
sixteenths_above offset more multiple =
    let split = mod-pow-add offset more 4 in
    let low : offset % 16 ≡ 0 = omega (arith, split) in
    omega (arith, low)

sixteenths : (offset bits : ℕ) → 4 ≤ bits → offset % 2 ^ bits ≡ 0 → offset / 16 * 16 ≡ offset
sixteenths offset bits least multiple =
    let same : bits ≡ (bits - 4) + 4 = omega arith in
    sixteenths_above offset (bits - 4) (subst (λ (b : ℕ). offset % 2 ^ b ≡ 0) same multiple)

endpoint_rights_small : (rights : ℕ) → AreEndpointRights rights → rights < 32
endpoint_rights_small rights known = omega (arith, and_le_r rights 11)

mapping_rights_small : (rights : ℕ) → AreMappingRights rights → rights < 8
mapping_rights_small rights known = grind arith

head_kind : (kind detail rights place head : ℕ) → kind < 16 → detail < 32 → rights < 8 → head ≡ kind + 16 * detail + 512 * rights + 4096 * place →
    head % 16 ≡ kind
head_kind kind detail rights place head k d r e = omega arith

head_detail : (kind detail rights place head : ℕ) → kind < 16 → detail < 32 → rights < 8 → head ≡ kind + 16 * detail + 512 * rights + 4096 * place →
    head / 16 % 32 ≡ detail
head_detail kind detail rights place head k d r e = omega arith

head_rights : (kind detail rights place head : ℕ) → kind < 16 → detail < 32 → rights < 8 → head ≡ kind + 16 * detail + 512 * rights + 4096 * place →
    head / 512 % 8 ≡ rights
head_rights kind detail rights place head k d r e = omega arith

head_place : (kind detail rights place head : ℕ) → kind < 16 → detail < 32 → rights < 8 → head ≡ kind + 16 * detail + 512 * rights + 4096 * place →
    head / 4096 ≡ place
head_place kind detail rights place head k d r e = omega arith

-- the fields of a word that was made of fields
fields_are : (kind detail rights offset head word : ℕ) → kind < 16 → detail < 32 → rights < 8 → offset / 16 * 16 ≡ offset →
    head ≡ head_word kind detail rights offset → fields_of head word ≡ fields_of_kind kind detail rights offset word
fields_are kind detail rights offset head word k d r whole e =
    rw (
      head_kind kind detail rights (offset / 16) head k d r e,
      head_detail kind detail rights (offset / 16) head k d r e,
      head_rights kind detail rights (offset / 16) head k d r e,
      head_place kind detail rights (offset / 16) head k d r e,
      whole,
    ) refl

positive_is_not_zero : (word : ℕ) → 0 < word → (word == 0) ≡ false
positive_is_not_zero word more = grind (arith, nat_tests)

-- a mapping's word gives the mapping back
frame_mapping_back : (mapping : FrameMapping) → IsFrameMapping (Some mapping) →
    frame_mapping_of mapping.rights.0 (mapping_word mapping.root mapping.page) ≡ Some mapping
frame_mapping_back mapping valid =
    let root = mapping.root in
    let page = mapping.page in
    let word = mapping_word root page in
    let place : word / 2 % 4096 * 4096 ≡ root = omega (arith, valid.0) in
    let number : word / 8192 ≡ page = omega (arith, valid.0, valid.1) in
    rw (positive_is_not_zero word (omega arith), place, number) refl

table_mapping_back : (mapping : TableMapping) → IsTableMapping (Some mapping) →
    table_mapping_of (mapping_word mapping.root (2 ^ 10 * mapping.region)) ≡ Some mapping
table_mapping_back mapping valid =
    let root = mapping.root in
    let region = mapping.region in
    let word = mapping_word root (2 ^ 10 * region) in
    let place : word / 2 % 4096 * 4096 ≡ root = omega (arith, valid.0) in
    let number : word / 8388608 ≡ region = omega (arith, valid.0, valid.1) in
    rw (positive_is_not_zero word (omega arith), place, number) refl

-- the fields in a capability's words are its own
pub fields-words : (capability : Cap) → IsCapability capability → fields_of (get_or (words_of capability) 0 0) (get_or (words_of capability) 1 0) ≡ capability
unfolding fields_of_kind
fields-words Empty valid = refl
fields-words (Untyped offset bits watermark) valid =
    fields_are 1 bits 0 offset _ watermark (omega arith) (omega (arith, valid.2)) (omega arith) (sixteenths offset bits valid.1 valid.0.0) refl
fields-words (Tcb offset) valid =
    fields_are 2 0 0 offset _ 0 (omega arith) (omega arith) (omega arith) (sixteenths offset 9 (omega arith) valid.0) refl
fields-words (Endpoint offset rights badge) valid =
    fields_are 3 rights.0 0 offset _ badge (omega arith) (endpoint_rights_small _ valid.1) (omega arith) (sixteenths offset 4 (omega arith) valid.0.0) refl
fields-words (Notification offset rights badge) valid =
    fields_are 4 rights.0 0 offset _ badge (omega arith) (endpoint_rights_small _ valid.1) (omega arith) (sixteenths offset 4 (omega arith) valid.0.0) refl
fields-words (CNode offset radix guard) valid =
    fields_are 5 radix 0 offset _ guard (omega arith) (omega (arith, valid.2)) (omega arith) (sixteenths offset (radix + 4) (omega arith) valid.0.0) refl
fields-words (Frame offset rights None) valid =
    fields_are 6 rights.0 0 offset _ 0 (omega arith) (omega (arith, valid.1)) (omega arith) (sixteenths offset 12 (omega arith) valid.0.0) refl
fields-words (Frame offset rights (Some mapping)) valid =
    fields_are 6 rights.0 mapping.rights.0 offset _ (mapping_word mapping.root mapping.page) (omega arith) (omega (arith, valid.1))
    (mapping_rights_small _ valid.2.2) (sixteenths offset 12 (omega arith) valid.0.0) refl
    ∙ ap (λ m. Frame offset rights m) (frame_mapping_back mapping valid.2)
fields-words (PageTable offset None) valid =
    fields_are 7 0 0 offset _ 0 (omega arith) (omega arith) (omega arith) (sixteenths offset 12 (omega arith) valid.0.0) refl
fields-words (PageTable offset (Some mapping)) valid =
    fields_are 7 0 0 offset _ (mapping_word mapping.root (2 ^ 10 * mapping.region)) (omega arith) (omega arith) (omega arith)
    (sixteenths offset 12 (omega arith) valid.0.0) refl
    ∙ ap (λ m. PageTable offset m) (table_mapping_back mapping valid.1)
fields-words (RootTable offset) valid =
    fields_are 8 0 0 offset _ 0 (omega arith) (omega arith) (omega arith) (sixteenths offset 12 (omega arith) valid.0) refl
fields-words InterruptControl valid = refl
fields-words (InterruptHandler irq_line) valid =
    let small : irq_line % 256 ≡ irq_line = omega (arith, valid) in
    ap (λ n. InterruptHandler n) small

-- so what is read from two words that are a capability's is that capability
pub fields_of_words : (words : List ℕ) (capability : Cap) → IsCapability capability → words ≡ words_of capability →
    fields_of (get_or words 0 0) (get_or words 1 0) ≡ capability
fields_of_words words capability valid e = rw e (fields-words capability valid)
