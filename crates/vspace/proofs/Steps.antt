-- What another capability in one slot, and another word in one table, leave of the rest.
use Rattle.std.proofs.Common.{◌≡◌, ◌≢◌, ◌∙◌, ℕ, ◌+◌, ◌*◌, ◌/◌, ◌%◌, ◌^◌, ◌<◌, ◌≤◌, ◌⊎◌, inl, inr, Option, Some, None, List, length, sym, ap, arith}
use Rattle.std.proofs.lemmas.Bool.Decides.{eqb_tells, leb_tells}
use Rattle.model.specs.Shared.Bytes.{word_at, word_bytes, written}
use Rattle.model.proofs.BytesLemmas.{length-written, word_at-same, word_at-written, word_at-written_before, word_at-written_behind}
use Rattle.model.specs.Capabilities.Slots.{OutsideSlots, SameOutside, Slots, capability_at, parent_at, recapped}
use Rattle.model.specs.declared.capabilities.Cap.{Cap}
use Rattle.model.specs.declared.slot_entries.Entry.{Entry}
use Rattle.model.proofs.SlotChanges.{capability_of, entry-other, entry-same}
use Rattle.vspace.specs.Tables.{IsTable}

-- ---- slots

abbrev new_entry : Slots → ℕ → Cap → Option Entry
new_entry slots x c = Some (record { capability = c; parent = parent_at slots x })

pub capability-recapped_same : (slots : Slots) (x : ℕ) (c : Cap) → capability_at (recapped slots x c) x ≡ c
capability-recapped_same slots x c = ap capability_of (entry-same slots x (new_entry slots x c))

pub capability-recapped_other : (slots : Slots) (x : ℕ) (c : Cap) (y : ℕ) → y ≢ x → capability_at (recapped slots x c) y ≡ capability_at slots y
capability-recapped_other slots x c y other = ap capability_of (entry-other slots x (new_entry slots x c) y other)

-- what is held afterwards is the new capability, or was held before
pub held-before : (slots : Slots) (x : ℕ) (c : Cap) (y : ℕ) (v : Cap) → capability_at (recapped slots x c) y ≡ v →
    ((y ≡ x) × (c ≡ v)) ⊎ ((y ≢ x) × (capability_at slots y ≡ v))
held-before slots x c y v held = elim (eqb_tells y x) [
  | inl same ↦ inl (same.1, sym (capability-recapped_same slots x c) ∙ sym (ap (capability_at (recapped slots x c)) same.1) ∙ held)
  | inr other ↦ inr (other.1, sym (capability-recapped_other slots x c y other.1) ∙ held)
]

-- what was held before is held afterwards, if it was not the old capability
pub held-after : (slots : Slots) (x : ℕ) (old c : Cap) (y : ℕ) (v : Cap) → capability_at slots x ≡ old → capability_at slots y ≡ v → v ≢ old →
    capability_at (recapped slots x c) y ≡ v
held-after slots x old c y v was held differ =
    capability-recapped_other slots x c y (λ same. differ (sym held ∙ ap (capability_at slots) same ∙ was)) ∙ held

-- a slot that is not open stays so
pub closed-after : (slots : Slots) (x : ℕ) (c : Cap) (y : ℕ) → slots x ≢ None → slots y ≡ None → recapped slots x c y ≡ None
closed-after slots x c y some closed =
    entry-other slots x (new_entry slots x c) y (λ same. some (sym (ap slots same) ∙ closed)) ∙ closed

pub table-after : (slots : Slots) (memory after : List ℕ) (x : ℕ) (c : Cap) (table : ℕ) → slots x ≢ None → length after ≡ length memory →
    IsTable slots memory table → IsTable (recapped slots x c) after table
table-after slots memory after x c table some size stands = record {
  aligned = stands.aligned;
  within = omega (arith, stands.within);
  outside = λ place low high. closed-after slots x c (place / 16) some (stands.outside place low high);
}

-- ---- entries

-- two entries at one place are one entry of one table
pub entry-one : (t u i j : ℕ) → t % 2 ^ 12 ≡ 0 → u % 2 ^ 12 ≡ 0 → i < 2 ^ 10 → j < 2 ^ 10 → t + 4 * i ≡ u + 4 * j → (t ≡ u) × (i ≡ j)
entry-one t u i j a b small few same = (omega arith, omega arith)

-- entries of tables apart are apart
pub entry-differs : (t u i j : ℕ) → t % 2 ^ 12 ≡ 0 → u % 2 ^ 12 ≡ 0 → i < 2 ^ 10 → j < 2 ^ 10 → t ≢ u → t + 4 * i ≢ u + 4 * j
entry-differs t u i j a b small few differ same = differ (entry-one t u i j a b small few same).0

-- two words at multiples of four are one or lie beside one another
beside : (p q : ℕ) → p % 4 ≡ 0 → q % 4 ≡ 0 → p ≢ q → (p + 4 ≤ q) ⊎ (q + 4 ≤ p)
beside p q a b differ = elim (leb_tells p q) [
  | inl below ↦ inl (omega (arith, below.1))
  | inr above ↦ inr (omega (arith, above.1))
]

-- the bytes of a table are the same where only slots have changed
pub word-outside : (slots : Slots) (old new : List ℕ) (t i : ℕ) → SameOutside slots old new → OutsideSlots slots t (2 ^ 12) → i < 2 ^ 10 →
    word_at new (t + 4 * i) ≡ word_at old (t + 4 * i)
word-outside slots old new t i same outside small =
    word_at-same old new (t + 4 * i) (λ k low high. same.bytes k (outside k (omega arith) (omega arith)))

-- a word in another entry stays, and the entry has its new word
pub word-kept : (slots : Slots) (memory after : List ℕ) (t i u j word : ℕ) → IsTable slots memory t → i < 2 ^ 10 → IsTable slots memory u → j < 2 ^ 10 →
    t + 4 * i ≢ u + 4 * j → SameOutside slots (written memory (u + 4 * j) (word_bytes word)) after → word_at after (t + 4 * i) ≡ word_at memory (t + 4 * i)
word-kept slots memory after t i u j word stands small at few differ same =
    let p = u + 4 * j in
    let q = t + 4 * i in
    let fits : u + 4 * j + 4 ≤ length memory = omega (arith, at.within) in
    word-outside slots (written memory (u + 4 * j) (word_bytes word)) after t i same stands.outside small
    ∙ elim (beside (u + 4 * j) (t + 4 * i) (omega (arith, at.aligned)) (omega (arith, stands.aligned)) (λ e. differ (sym e))) [
      | inl behind ↦ word_at-written_behind memory (u + 4 * j) (word_bytes word) (t + 4 * i) fits behind
      | inr before ↦ word_at-written_before memory (u + 4 * j) (word_bytes word) (t + 4 * i) fits before
    ]

pub word-new : (slots : Slots) (memory after : List ℕ) (u j word : ℕ) → word < 2 ^ 32 → IsTable slots memory u → j < 2 ^ 10 →
    SameOutside slots (written memory (u + 4 * j) (word_bytes word)) after → word_at after (u + 4 * j) ≡ word
word-new slots memory after u j word small at few same =
    word-outside slots (written memory (u + 4 * j) (word_bytes word)) after u j same at.outside few
    ∙ word_at-written memory (u + 4 * j) word (omega (arith, at.within)) small

-- the memory has as many bytes as before
pub size-kept : (slots : Slots) (memory after : List ℕ) (u j word : ℕ) → IsTable slots memory u → j < 2 ^ 10 →
    SameOutside slots (written memory (u + 4 * j) (word_bytes word)) after → length after ≡ length memory
size-kept slots memory after u j word at few same =
    same.size ∙ length-written memory (u + 4 * j) (word_bytes word) (omega (arith, at.within))
