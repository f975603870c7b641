-- Changes that leave the list of full slots as it is.
use Rattle.std.proofs.Common.{ℕ, ◌≡◌, ◌≢◌, ◌∙◌, ◌<◌, inl, inr, Bool, true, false, not, if◌then◌else◌, Option, Some, None, List, [], ◌∷◌, refl, sym, ap, arith}
use Rattle.std.proofs.lemmas.Bool.Decides.{eqb_tells}
use Rattle.model.proofs.Derivations.{derivation-closed, derivation-opened, derivation-recapped}
use Rattle.model.proofs.FieldsLemmas.{fields_of_words}
use Rattle.model.proofs.SlotChanges.{capability-closed, capability-opened, capability_of, entry-other, entry-same, full-recapped}
use Rattle.model.specs.Capabilities.CapabilityFields.{fields_of}
use Rattle.model.specs.Capabilities.CapabilityKinds.{object_of}
use Rattle.model.specs.Capabilities.CapabilityWords.{IsCapability, words_of}
use Rattle.model.specs.Capabilities.Slots.{closed, empty_entry, is_empty, is_full, is_within, opened, parent_at, recapped}
use Rattle.model.specs.Kernel.State.{put}
use Rattle.model.specs.declared.capabilities.Cap.{Cap}
use Rattle.model.specs.declared.capabilities.Cap.TheVariants.{Empty}
use Rattle.model.specs.declared.slot_entries.Entry.{Entry}
use Rattle.slots.proofs.Laws.{chain-same, deep-same, none-without, runs-same}
use Rattle.slots.specs.Kin.{object_at}
use Rattle.slots.specs.preorder.Chains.{IsLinked}
use Rattle.slots.specs.preorder.Preorder.{Row, parents_of, rows_of, slots_of}
use Rattle.packed_slots.specs.Packing.{IsPackedAs, is_open_in, slots_as}
use Rattle.packed_slots.specs.Words.{Words, capability_in}
use Rattle.packed_slots.proofs.Inserting.{put-here, put-off}
use Rattle.packed_slots.proofs.PackedFacts.{as-closed, as-open, closed-from, closed-row, entry_as, open-full, packs, parent-as, row-open, zero-empty}
use Rattle.packed_slots.proofs.PackedFacts.{zero-whole}
use Rattle.packed_slots.proofs.WordWrites.{zeroed}

-- the words of a slot are the same
pub record AreSame (old new : Words) (s : ℕ) : Type 0 where
  pub head : new.head s ≡ old.head s
  pub tail : new.tail s ≡ old.tail s
  pub next : new.next s ≡ old.next s
  pub depth : new.depth s ≡ old.depth s
  pub previous : new.previous s ≡ old.previous s

pub linked-same : (old new : Words) (rows : List Row) → IsLinked old.next old.previous old.depth rows → ((s : ℕ) → 0 < rows_of rows s → AreSame old new s)
    → IsLinked new.next new.previous new.depth rows
linked-same old new rows linked same = record {
  chain = chain-same (slots_of rows) old.next old.previous new.next new.previous None linked.chain (λ s is. (same s is).next) (λ s is. (same s is).previous);
  deep = deep-same rows old.depth new.depth linked.deep (λ s is. (same s is).depth);
  rises = linked.rises;
  once = linked.once;
}

capability-same : (old new : Words) (s : ℕ) → AreSame old new s → capability_in new s ≡ capability_in old s
capability-same old new s same = ap (λ h. fields_of h (new.tail s)) same.head ∙ ap (fields_of (old.head s)) same.tail

whole-same : (old new : Words) (s : ℕ) → AreSame old new s → old.head s ∷ old.tail s ∷ [] ≡ words_of (capability_in old s)
    → new.head s ∷ new.tail s ∷ [] ≡ words_of (capability_in new s)
whole-same old new s same whole =
    ap (λ h. h ∷ new.tail s ∷ []) same.head ∙ ap (λ t. old.head s ∷ t ∷ []) same.tail ∙ whole ∙ ap words_of (sym (capability-same old new s same))

-- ---- nothing changes where a slot is open

pub same-slots : (old new : Words) (o : List Bool) (rows : List Row) → ((s : ℕ) → is_open_in o s ≡ true → AreSame old new s) →
    slots_as new o rows ≡ slots_as old o rows
same-slots old new o rows same = λ i s. at s i
  where
    at : (s : ℕ) → slots_as new o rows s ≡ slots_as old o rows s
    at s = elim (is_open_in o s) as (λ b. is_open_in o s ≡ b → slots_as new o rows s ≡ slots_as old o rows s) [
      | true ↦ λ is.
          as-open new o rows s is ∙ ap (λ (c : Cap). Some (record { capability = c; parent = parents_of rows s })) (capability-same old new s (same s is))
          ∙ sym (as-open old o rows s is)
      | false ↦ λ is. as-closed new o rows s is ∙ sym (as-closed old o rows s is)
    ] refl

pub same-packs : (old new : Words) (o : List Bool) (first : Option ℕ) (rows : List Row) → IsPackedAs old o first rows
    → ((s : ℕ) → is_open_in o s ≡ true → AreSame old new s) → IsPackedAs new o first rows
same-packs old new o first rows packed same =
    packs new o first rows (slots_as old o rows) (same-slots old new o rows same)
    (linked-same old new rows packed.linked (λ s is. same s (row-open old o first rows s packed is)))
    packed.begins packed.listed (λ s is. whole-same old new s (same s is) (packed.whole s is))
    (λ s is empty. (same s is).depth ∙ packed.blank s is empty) packed.derivation packed.runs

-- ---- another capability

abbrev pub capped_words : Words → ℕ → ℕ → ℕ → Words
capped_words w slot head tail = record w { head = put w.head slot head; tail = put w.tail slot tail }

module _ (w : Words) (o : List Bool) (first : Option ℕ) (rows : List Row) (slot : ℕ) (capability : Cap) (head tail : ℕ) (packed : IsPackedAs w o first rows)
    (full : is_full (slots_as w o rows) slot ≡ true) (valid : IsCapability capability) (some : capability ≢ Empty)
    (words : head ∷ tail ∷ [] ≡ words_of capability) where
  abbrev new : Words
  new = capped_words w slot head tail

  own-capability : capability_in new slot ≡ capability
  own-capability =
      ap (λ h. fields_of h (new.tail slot)) (put-here w.head slot slot head refl) ∙ ap (fields_of head) (put-here w.tail slot slot tail refl)
      ∙ fields_of_words (head ∷ tail ∷ []) capability valid words

  other-same : (s : ℕ) → s ≢ slot → AreSame w new s
  other-same s off = record { head = put-off w.head slot s head off; tail = put-off w.tail slot s tail off; next = refl; depth = refl; previous = refl }

  capped-at : (s : ℕ) → slots_as new o rows s ≡ recapped (slots_as w o rows) slot capability s
  capped-at s =
      let slots = slots_as w o rows in
      let held : Entry = record { capability = capability; parent = parent_at slots slot } in
      elim (eqb_tells s slot) [
        | inl here ↦
            ap (slots_as new o rows) here.1
            ∙ as-open new o rows slot (open-full w o rows slot full)
            ∙ ap (λ (c : Cap). Some (record { capability = c; parent = parents_of rows slot })) own-capability
            ∙ ap (λ (p : Option ℕ). Some (record { capability = capability; parent = p })) (sym (parent-as w o first rows slot packed))
            ∙ sym (ap (recapped slots slot capability) here.1 ∙ entry-same slots slot (Some held))
        | inr off ↦
            elim (is_open_in o s) as (λ b. is_open_in o s ≡ b → slots_as new o rows s ≡ slots s) [
              | true ↦ λ is.
                  as-open new o rows s is ∙ ap (λ (c : Cap). Some (record { capability = c; parent = parents_of rows s }))
                  (capability-same w new s (other-same s off.1))
                  ∙ sym (as-open w o rows s is)
              | false ↦ λ is. as-closed new o rows s is ∙ sym (as-closed w o rows s is)
            ] refl
            ∙ sym (entry-other slots slot (Some held) s off.1)
      ]

  pub capped-slots : slots_as new o rows ≡ recapped (slots_as w o rows) slot capability
  capped-slots = λ i s. capped-at s i

  object-capped : object_of capability ≡ object_at (slots_as w o rows) slot → (s : ℕ) →
      object_at (recapped (slots_as w o rows) slot capability) s ≡ object_at (slots_as w o rows) s
  object-capped alike s =
      let slots = slots_as w o rows in
      let held : Entry = record { capability = capability; parent = parent_at slots slot } in
      elim (eqb_tells s slot) [
        | inl here ↦ ap (object_at (recapped slots slot capability)) here.1 ∙ ap (λ e. object_of (capability_of e)) (entry-same slots slot (Some held)) ∙ alike
            ∙ ap (object_at slots) (sym here.1)
        | inr off ↦ ap (λ e. object_of (capability_of e)) (entry-other slots slot (Some held) s off.1)
      ]

  pub capped-packs : object_of capability ≡ object_at (slots_as w o rows) slot → IsPackedAs new o first rows
  capped-packs alike =
      let slots = slots_as w o rows in
      packs new o first rows (recapped slots slot capability) capped-slots packed.linked packed.begins
      (λ s. packed.listed s ∙ sym (ap (λ b. if b then 1 else 0) (full-recapped slots slot capability full some s)))
      (λ s is. elim (eqb_tells s slot) [
        | inl here ↦
            ap (λ h. h ∷ new.tail s ∷ []) (put-here w.head slot s head here.1) ∙ ap (λ t. head ∷ t ∷ []) (put-here w.tail slot s tail here.1)
            ∙ words ∙ ap words_of (sym (ap (capability_in new) here.1 ∙ own-capability))
        | inr off ↦ whole-same w new s (other-same s off.1) (packed.whole s is)
      ])
      (λ s is empty. packed.blank s is (sym (full-recapped slots slot capability full some s) ∙ empty))
      (derivation-recapped slots slot capability packed.derivation valid some)
      (runs-same (object_at slots) (object_at (recapped slots slot capability)) (slots_of rows) (λ s there. object-capped alike s) packed.runs)

-- ---- slots are opened, and their bytes are zero

module _ (w : Words) (o o' : List Bool) (first : Option ℕ) (rows : List Row) (from count : ℕ) (packed : IsPackedAs w o first rows)
    (opens : (s : ℕ) → is_open_in o' s ≡ (if is_within from count s then true else is_open_in o s))
    (was : (s : ℕ) → is_within from count s ≡ true → slots_as w o rows s ≡ None) where
  abbrev blank_words : Words
  blank_words = zeroed w from count

  beside : (s : ℕ) → is_within from count s ≡ false → AreSame w blank_words s
  beside s off = record {
    head = ap (λ b. if b then 0 else w.head s) off;
    tail = ap (λ b. if b then 0 else w.tail s) off;
    next = ap (λ b. if b then None else w.next s) off;
    depth = ap (λ b. if b then 0 else w.depth s) off;
    previous = ap (λ b. if b then None else w.previous s) off;
  }

  opened-at : (s : ℕ) → slots_as blank_words o' rows s ≡ opened (slots_as w o rows) from count s
  opened-at s =
      elim (is_within from count s) as (λ b. is_within from count s ≡ b →
      slots_as blank_words o' rows s ≡ (if b then Some empty_entry else slots_as w o rows s)) [
        | true ↦ λ is.
            let head : blank_words.head s ≡ 0 = ap (λ b. if b then 0 else w.head s) is in
            let tail : blank_words.tail s ≡ 0 = ap (λ b. if b then 0 else w.tail s) is in
            as-open blank_words o' rows s (opens s ∙ ap (λ b. if b then true else is_open_in o s) is)
            ∙ ap (λ (c : Cap). Some (record { capability = c; parent = parents_of rows s }))
            (ap (λ h. fields_of h (blank_words.tail s)) head ∙ ap (fields_of 0) tail ∙ zero-empty)
            ∙ ap (λ (p : Option ℕ). Some (record empty_entry { parent = p }))
            (none-without rows (λ i. None) s (closed-row w o first rows s packed (closed-from w o rows s (was s is))))
        | false ↦ λ off.
            let same : is_open_in o' s ≡ is_open_in o s = opens s ∙ ap (λ b. if b then true else is_open_in o s) off in
            ap (λ b. if b then Some (entry_as blank_words rows s) else None) same
            ∙ ap (λ (c : Cap). if is_open_in o s then Some (record { capability = c; parent = parents_of rows s }) else None)
            (capability-same w blank_words s (beside s off))
      ] refl

  pub opened-slots : slots_as blank_words o' rows ≡ opened (slots_as w o rows) from count
  opened-slots = λ i s. opened-at s i

  full-opened : (s : ℕ) → is_full (opened (slots_as w o rows) from count) s ≡ is_full (slots_as w o rows) s
  full-opened s = ap (λ c. not (is_empty c)) (capability-opened (slots_as w o rows) from count s was).0

  pub opened-packs : IsPackedAs blank_words o' first rows
  opened-packs =
      packs blank_words o' first rows (opened (slots_as w o rows) from count) opened-slots
      (linked-same w blank_words rows packed.linked (λ s is.
      elim (is_within from count s) as (λ b. is_within from count s ≡ b → AreSame w blank_words s) [
        | true ↦ λ inside. absurd (omega (arith, is, closed-row w o first rows s packed (closed-from w o rows s (was s inside))))
        | false ↦ λ off. beside s off
      ] refl))
      packed.begins (λ s. packed.listed s ∙ sym (ap (λ b. if b then 1 else 0) (full-opened s)))
      (λ s is. elim (is_within from count s) as (λ b. is_within from count s ≡ b →
      blank_words.head s ∷ blank_words.tail s ∷ [] ≡ words_of (capability_in blank_words s)) [
        | true ↦ λ inside. zero-whole (blank_words.head s) (blank_words.tail s) (ap (λ b. if b then 0 else w.head s) inside)
            (ap (λ b. if b then 0 else w.tail s) inside)
        | false ↦ λ off. whole-same w blank_words s (beside s off) (packed.whole s (sym (opens s ∙ ap (λ b. if b then true else is_open_in o s) off) ∙ is))
      ] refl)
      (λ s is empty. elim (is_within from count s) as (λ b. is_within from count s ≡ b → blank_words.depth s ≡ 0) [
        | true ↦ λ inside. ap (λ b. if b then 0 else w.depth s) inside
        | false ↦ λ off. (beside s off).depth ∙ packed.blank s (sym (opens s ∙ ap (λ b. if b then true else is_open_in o s) off) ∙ is)
            (sym (full-opened s) ∙ empty)
      ] refl)
      (derivation-opened (slots_as w o rows) from count packed.derivation was)
      (runs-same (object_at (slots_as w o rows)) (object_at (opened (slots_as w o rows) from count)) (slots_of rows)
      (λ s there. ap object_of (capability-opened (slots_as w o rows) from count s was).0) packed.runs)

-- ---- empty slots are closed

module _ (w : Words) (o o' : List Bool) (first : Option ℕ) (rows : List Row) (from count : ℕ) (packed : IsPackedAs w o first rows)
    (closes : (s : ℕ) → is_open_in o' s ≡ (if is_within from count s then false else is_open_in o s))
    (was : (s : ℕ) → is_within from count s ≡ true → slots_as w o rows s ≡ Some empty_entry) where
  closed-at : (s : ℕ) → slots_as w o' rows s ≡ closed (slots_as w o rows) from count s
  closed-at s =
      elim (is_within from count s) as (λ b. is_within from count s ≡ b → slots_as w o' rows s ≡ (if b then None else slots_as w o rows s)) [
        | true ↦ λ is. as-closed w o' rows s (closes s ∙ ap (λ b. if b then false else is_open_in o s) is)
        | false ↦ λ off. ap (λ b. if b then Some (entry_as w rows s) else None) (closes s ∙ ap (λ b. if b then false else is_open_in o s) off)
      ] refl

  pub closed-slots : slots_as w o' rows ≡ closed (slots_as w o rows) from count
  closed-slots = λ i s. closed-at s i

  full-closed : (s : ℕ) → is_full (closed (slots_as w o rows) from count) s ≡ is_full (slots_as w o rows) s
  full-closed s = ap (λ c. not (is_empty c)) (capability-closed (slots_as w o rows) from count s was).0

  still-open : (s : ℕ) → is_open_in o' s ≡ true → is_open_in o s ≡ true
  still-open s is =
      elim (is_within from count s) as (λ b. is_within from count s ≡ b → is_open_in o s ≡ true) [
        | true ↦ λ inside. absurd (let clash : false ≡ true = sym (closes s ∙ ap (λ b. if b then false else is_open_in o s) inside) ∙ is in cc)
        | false ↦ λ off. sym (closes s ∙ ap (λ b. if b then false else is_open_in o s) off) ∙ is
      ] refl

  pub closed-packs : IsPackedAs w o' first rows
  closed-packs =
      packs w o' first rows (closed (slots_as w o rows) from count) closed-slots packed.linked packed.begins
      (λ s. packed.listed s ∙ sym (ap (λ b. if b then 1 else 0) (full-closed s)))
      (λ s is. packed.whole s (still-open s is))
      (λ s is empty. packed.blank s (still-open s is) (sym (full-closed s) ∙ empty))
      (derivation-closed (slots_as w o rows) from count packed.derivation was)
      (runs-same (object_at (slots_as w o rows)) (object_at (closed (slots_as w o rows) from count)) (slots_of rows)
      (λ s there. ap object_of (capability-closed (slots_as w o rows) from count s was).0) packed.runs)
