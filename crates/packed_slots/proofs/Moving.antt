-- What a slot holds is moved to an empty one.
use Rattle.std.proofs.Common.{ℕ, ◌≡◌, ◌≢◌, ◌∙◌, ◌+◌, ◌<◌, ◌≤◌, inl, inr, Bool, true, false, not, if◌then◌else◌, Option, Some, None, List, [], ◌∷◌, refl, sym}
use Rattle.std.proofs.Common.{ap, arith}
use Rattle.std.specs.Option.{option_map}
use Rattle.std.proofs.lemmas.Bool.Decides.{eqb_tells}
use Rattle.std.proofs.lemmas.Bool.{ne_eqb}
use Rattle.model.proofs.Depths.{adopted_parent, depth-own_parent}
use Rattle.model.proofs.Derivations.{derivation-relocated}
use Rattle.model.specs.Capabilities.CapabilityKinds.{object_of}
use Rattle.model.proofs.SlotChanges.{capability-adopted, capability_of, entry-other, entry-same}
use Rattle.model.specs.Capabilities.CapabilityFields.{fields_of}
use Rattle.model.specs.Capabilities.CapabilityWords.{words_of}
use Rattle.model.specs.Capabilities.Orders.{first_of}
use Rattle.model.specs.Capabilities.Slots.{IsDerivation, Slots, adopted, empty_entry, is_empty, is_full, parent_at, relocated, with_entry, with_parent}
use Rattle.model.specs.Shared.Lists.{times_in, without}
use Rattle.model.specs.declared.capabilities.Cap.{Cap}
use Rattle.slots.proofs.Laws.{deep-renamed, none-without, renamed-here, renamed-other, renamed-parents, rises-renamed, runs-renamed, runs-same, slots-renamed}
use Rattle.slots.proofs.Laws.{times-put_after, times-put_after_own}
use Rattle.slots.specs.preorder.Chains.{IsChain, IsLinked, put_after}
use Rattle.model.specs.Kernel.State.{put}
use Rattle.slots.specs.Kin.{object_at}
use Rattle.slots.specs.preorder.Runs.{AreRuns}
use Rattle.slots.specs.preorder.Preorder.{Row, parents_of, renamed, rows_of, slots_of}
use Rattle.packed_slots.specs.Packing.{IsPackedAs, is_open_in, slots_as}
use Rattle.packed_slots.specs.Words.{Words, capability_in, first_without}
use Rattle.packed_slots.proofs.Inserting.{behind-chain, behind_words, empty-not-full, first-behind, none-row, not-in, put-here, put-off}
use Rattle.packed_slots.proofs.PackedFacts.{adopted-as, as-closed, as-open, full-row, open-from, open-full, packs, parent-as, zero-empty}
use Rattle.packed_slots.proofs.Splicing.{capability-gone, capability-off, first-without, linked-unlinked, times-without, times-without_other, unlinked_words}
use Rattle.packed_slots.proofs.Splicing.{whole-unlinked, zeroed-here, zeroed-off}

-- no slot is its own parent
pub not-own : (slots : Slots) (s : ℕ) → IsDerivation slots → parent_at slots s ≢ Some s
not-own slots s sound is = absurd (omega (arith, depth-own_parent 256 (parent_at slots) s is, sound.shallow s))

adopted-other : (x : ℕ) (u was : Option ℕ) → was ≢ Some x → adopted_parent x u was ≡ was
adopted-other x u None apart = refl
adopted-other x u (Some p) apart = ap (λ b. if b then u else Some p) (ne_eqb p x (λ same. absurd (apart (ap Some same))))

-- the words with the slot's own put after it, at its depth
abbrev pub moved_words : Words → ℕ → ℕ → Words
moved_words w from to = behind_words w from to (w.head from) (w.tail from) (w.depth from)

module _ (w : Words) (o : List Bool) (first : Option ℕ) (rows : List Row) (from to : ℕ) (packed : IsPackedAs w o first rows)
    (full : is_full (slots_as w o rows) from ≡ true) (empty : slots_as w o rows to ≡ Some empty_entry) where
  abbrev slots : Slots
  slots = slots_as w o rows

  abbrev moved : Words
  moved = moved_words w from to

  abbrev new : Words
  new = unlinked_words moved from

  abbrev left : List Row
  left = renamed from to rows

  there : rows_of rows from ≡ 1
  there = full-row w o first rows from packed full

  none : rows_of rows to ≡ 0
  none = none-row w o first rows to packed empty

  apart : from ≢ to
  apart same = absurd (omega (arith, there, none, ap (rows_of rows) same))

  apart' : to ≢ from
  apart' same = apart (sym same)

  order : slots_of left ≡ without from (put_after from to (slots_of rows))
  order = slots-renamed rows from to (omega (arith, there)) apart

  times-from : rows_of left from ≡ 0
  times-from = ap (λ l. times_in l from) order ∙ times-without (put_after from to (slots_of rows)) from

  times-to : rows_of left to ≡ 1
  times-to =
      ap (λ l. times_in l to) order ∙ times-without_other (put_after from to (slots_of rows)) from to apart'
      ∙ times-put_after_own (slots_of rows) from to (omega (arith, there)) ∙ ap (λ n. n + 1) none

  times-other : (s : ℕ) → s ≢ from → s ≢ to → rows_of left s ≡ rows_of rows s
  times-other s off off' =
      ap (λ l. times_in l s) order ∙ times-without_other (put_after from to (slots_of rows)) from s off ∙ times-put_after (slots_of rows) from to s off'

  capability-to : capability_in new to ≡ capability_in w from
  capability-to =
      capability-off moved from to apart'
      ∙ ap (λ h. fields_of h (moved.tail to)) (put-here w.head to to (w.head from) refl)
      ∙ ap (fields_of (w.head from)) (put-here w.tail to to (w.tail from) refl)

  capability-other : (s : ℕ) → s ≢ from → s ≢ to → capability_in new s ≡ capability_in w s
  capability-other s off off' =
      capability-off moved from s off
      ∙ ap (λ h. fields_of h (moved.tail s)) (put-off w.head to s (w.head from) off') ∙ ap (fields_of (w.head s)) (put-off w.tail to s (w.tail from) off')

  parent-to : parents_of left to ≡ parents_of rows from
  parent-to =
      ap (parents_of left) (sym (renamed-here from to from refl))
      ∙ renamed-parents rows (λ i. None) (λ i. None) from to from none apart (λ i. refl)
      ∙ adopted-other from (Some to) (parents_of rows from) (λ same. not-own slots from packed.derivation (parent-as w o first rows from packed ∙ same))

  parent-other : (s : ℕ) → s ≢ from → s ≢ to → parents_of left s ≡ adopted_parent from (Some to) (parents_of rows s)
  parent-other s off off' =
      ap (parents_of left) (sym (renamed-other from to s off)) ∙ renamed-parents rows (λ i. None) (λ i. None) from to s none off' (λ i. refl)

  -- ---- the slots

  relocated-from : relocated slots from to from ≡ Some empty_entry
  relocated-from = entry-same (with_entry (with_parent slots from (Some to)) to (slots from)) from (Some empty_entry)

  relocated-to : relocated slots from to to ≡ slots from
  relocated-to =
      entry-other (with_entry (with_parent slots from (Some to)) to (slots from)) from (Some empty_entry) to apart'
      ∙ entry-same (with_parent slots from (Some to)) to (slots from)

  relocated-other : (s : ℕ) → s ≢ from → s ≢ to → relocated slots from to s ≡ option_map (adopted from (Some to)) (slots s)
  relocated-other s off off' =
      entry-other (with_entry (with_parent slots from (Some to)) to (slots from)) from (Some empty_entry) s off
      ∙ entry-other (with_parent slots from (Some to)) to (slots from) s off'

  moved-at : (s : ℕ) → slots_as new o left s ≡ relocated slots from to s
  moved-at s = elim (eqb_tells s from) [
    | inl here ↦
        ap (slots_as new o left) here.1
        ∙ as-open new o left from (open-full w o rows from full)
        ∙ ap (λ (c : Cap). Some (record { capability = c; parent = parents_of left from })) (capability-gone moved from from refl ∙ zero-empty)
        ∙ ap (λ (p : Option ℕ). Some (record empty_entry { parent = p })) (none-without left (λ i. None) from times-from)
        ∙ sym (ap (relocated slots from to) here.1 ∙ relocated-from)
    | inr off ↦ elim (eqb_tells s to) [
      | inl at ↦
          ap (slots_as new o left) at.1
          ∙ as-open new o left to (open-from w o rows to empty_entry empty)
          ∙ ap (λ (c : Cap). Some (record { capability = c; parent = parents_of left to })) capability-to
          ∙ ap (λ (p : Option ℕ). Some (record { capability = capability_in w from; parent = p })) parent-to
          ∙ sym (as-open w o rows from (open-full w o rows from full))
          ∙ sym (ap (relocated slots from to) at.1 ∙ relocated-to)
      | inr off' ↦
          elim (is_open_in o s) as (λ b. is_open_in o s ≡ b → slots_as new o left s ≡ option_map (adopted from (Some to)) (slots s)) [
            | true ↦ λ is.
                as-open new o left s is
                ∙ ap (λ (c : Cap). Some (record { capability = c; parent = parents_of left s })) (capability-other s off.1 off'.1)
                ∙ ap (λ (p : Option ℕ). Some (record { capability = capability_in w s; parent = p })) (parent-other s off.1 off'.1)
                ∙ ap Some (sym (adopted-as from (Some to) (capability_in w s) (parents_of rows s)))
                ∙ ap (option_map (adopted from (Some to))) (sym (as-open w o rows s is))
            | false ↦ λ is. as-closed new o left s is ∙ ap (option_map (adopted from (Some to))) (sym (as-closed w o rows s is))
          ] refl
          ∙ sym (relocated-other s off.1 off'.1)
    ]
  ]

  full-to : is_full (relocated slots from to) to ≡ true
  full-to = ap (λ e. not (is_empty (capability_of e))) relocated-to ∙ full

  full-other : (s : ℕ) → s ≢ from → s ≢ to → is_full (relocated slots from to) s ≡ is_full slots s
  full-other s off off' =
      ap (λ e. not (is_empty (capability_of e))) (relocated-other s off off') ∙ ap (λ c. not (is_empty c)) (capability-adopted from (Some to) (slots s))

  moved-lists : (s : ℕ) → rows_of left s ≡ (if is_full (relocated slots from to) s then 1 else 0)
  moved-lists s = elim (eqb_tells s from) [
    | inl here ↦
        ap (rows_of left) here.1 ∙ times-from
        ∙ sym (ap (λ b. if b then 1 else 0) (ap (is_full (relocated slots from to)) here.1 ∙ empty-not-full (relocated slots from to) from relocated-from))
    | inr off ↦ elim (eqb_tells s to) [
      | inl at ↦ ap (rows_of left) at.1 ∙ times-to ∙ sym (ap (λ b. if b then 1 else 0) (ap (is_full (relocated slots from to)) at.1 ∙ full-to))
      | inr off' ↦ times-other s off.1 off'.1 ∙ packed.listed s ∙ sym (ap (λ b. if b then 1 else 0) (full-other s off.1 off'.1))
    ]
  ]

  -- ---- the words

  moved-whole : (s : ℕ) → is_open_in o s ≡ true → moved.head s ∷ moved.tail s ∷ [] ≡ words_of (capability_in moved s)
  moved-whole s is = elim (eqb_tells s to) [
    | inl at ↦
        let h = put-here w.head to s (w.head from) at.1 in
        let t = put-here w.tail to s (w.tail from) at.1 in
        ap (λ x. x ∷ moved.tail s ∷ []) h ∙ ap (λ x. w.head from ∷ x ∷ []) t ∙ packed.whole from (open-full w o rows from full)
        ∙ ap words_of (sym (ap (λ x. fields_of x (moved.tail s)) h ∙ ap (fields_of (w.head from)) t))
    | inr off ↦
        let h = put-off w.head to s (w.head from) off.1 in
        let t = put-off w.tail to s (w.tail from) off.1 in
        ap (λ x. x ∷ moved.tail s ∷ []) h ∙ ap (λ x. w.head s ∷ x ∷ []) t ∙ packed.whole s is
        ∙ ap words_of (sym (ap (λ x. fields_of x (moved.tail s)) h ∙ ap (fields_of (w.head s)) t))
  ]

  moved-blank : (s : ℕ) → is_open_in o s ≡ true → is_full (relocated slots from to) s ≡ false → new.depth s ≡ 0
  moved-blank s is none' = elim (eqb_tells s from) [
    | inl here ↦ zeroed-here moved.depth 0 from s here.1
    | inr off ↦ elim (eqb_tells s to) [
      | inl at ↦ absurd (let clash : true ≡ false = sym full-to ∙ ap (is_full (relocated slots from to)) (sym at.1) ∙ none' in cc)
      | inr off' ↦
          zeroed-off moved.depth 0 from s off.1 ∙ put-off w.depth to s (w.depth from) off'.1
          ∙ packed.blank s is (sym (full-other s off.1 off'.1) ∙ none')
    ]
  ]

  moved-once : (s : ℕ) → times_in (put_after from to (slots_of rows)) s ≤ 1
  moved-once s = elim (eqb_tells s to) [
    | inl at ↦ omega (arith, ap (times_in (put_after from to (slots_of rows))) at.1, times-put_after_own (slots_of rows) from to (omega (arith, there)), none)
    | inr off ↦ omega (arith, times-put_after (slots_of rows) from to s off.1, packed.linked.once s)
  ]

  moved-chain : IsChain moved.next moved.previous None (put_after from to (slots_of rows))
  moved-chain = behind-chain w (slots_of rows) from to packed.linked.chain packed.linked.once none (omega (arith, there))

  moved-there : 0 < times_in (put_after from to (slots_of rows)) from
  moved-there = omega (arith, times-put_after (slots_of rows) from to from apart, there)

  moved-linked : IsLinked new.next new.previous new.depth left
  moved-linked = record {
    chain = linked-unlinked moved (put_after from to (slots_of rows)) (slots_of left) from moved-chain moved-once moved-there order;
    deep = deep-renamed rows w.depth new.depth from to packed.linked.deep
        (λ s is off. zeroed-off moved.depth 0 from s off ∙ put-off w.depth to s (w.depth from) (not-in rows to s none is))
        (zeroed-off moved.depth 0 from to apart' ∙ put-here w.depth to to (w.depth from) refl);
    rises = rises-renamed rows 0 from to packed.linked.rises;
    once = λ s. elim (eqb_tells s from) [
      | inl here ↦ omega (arith, ap (rows_of left) here.1, times-from)
      | inr off ↦ omega (arith, ap (λ l. times_in l s) order, times-without_other (put_after from to (slots_of rows)) from s off.1, moved-once s)
    ];
  }

  moved-is : slots_as new o left ≡ relocated slots from to
  moved-is = λ i s. moved-at s i

  abbrev mid : ℕ → Option ℕ
  mid = put (object_at slots) to (object_at slots from)

  moved-runs : AreRuns (object_at (relocated slots from to)) (slots_of left)
  moved-runs =
      runs-same mid (object_at (relocated slots from to)) (slots_of left)
      (λ s is.
      let off : s ≢ from = λ same. absurd (omega (arith, is, ap (rows_of left) same, times-from)) in
      elim (eqb_tells s to) [
        | inl at ↦
            ap (object_at (relocated slots from to)) at.1 ∙ ap (λ e. object_of (capability_of e)) relocated-to
            ∙ sym (put-here (object_at slots) to s (object_at slots from) at.1)
        | inr off' ↦
            ap (λ e. object_of (capability_of e)) (relocated-other s off off'.1) ∙ ap object_of (capability-adopted from (Some to) (slots s))
            ∙ sym (put-off (object_at slots) to s (object_at slots from) off'.1)
      ])
      (runs-renamed rows mid from to (packed.linked.once from) apart
      (put-here (object_at slots) to to (object_at slots from) refl ∙ sym (put-off (object_at slots) to from (object_at slots from) apart))
      (runs-same (object_at slots) mid (slots_of rows) (λ s is. put-off (object_at slots) to s (object_at slots from) (not-in rows to s none is)) packed.runs))

  moved-packs : IsPackedAs new o (first_without (moved.previous from) (moved.next from) first) left
  moved-packs =
      packs new o (first_without (moved.previous from) (moved.next from) first) left (relocated slots from to) moved-is moved-linked
      (ap (first_without (moved.previous from) (moved.next from)) (packed.begins ∙ sym (first-behind (slots_of rows) from to))
      ∙ sym (first-without (put_after from to (slots_of rows)) moved.next moved.previous from moved-chain moved-once moved-there) ∙ ap first_of (sym order))
      moved-lists (whole-unlinked moved o from moved-whole) moved-blank
      (derivation-relocated slots from to packed.derivation full empty) moved-runs

pub move-slots : (w : Words) (o : List Bool) (first : Option ℕ) (rows : List Row) (from to : ℕ) → IsPackedAs w o first rows →
    is_full (slots_as w o rows) from ≡ true
    → slots_as w o rows to ≡ Some empty_entry → slots_as (unlinked_words (moved_words w from to) from) o (renamed from to rows) ≡ relocated (slots_as w o rows)
    from to
move-slots w o first rows from to packed full empty = moved-is w o first rows from to packed full empty

pub move-packs : (w : Words) (o : List Bool) (first : Option ℕ) (rows : List Row) (from to : ℕ) → IsPackedAs w o first rows →
    is_full (slots_as w o rows) from ≡ true
    → slots_as w o rows to ≡ Some empty_entry
    → IsPackedAs (unlinked_words (moved_words w from to) from) o
    (first_without ((moved_words w from to).previous from) ((moved_words w from to).next from) first) (renamed from to rows)
move-packs w o first rows from to packed full empty = moved-packs w o first rows from to packed full empty
