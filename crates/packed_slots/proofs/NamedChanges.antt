-- What is known of the pages whose objects are named, as slots change.
use Rattle.std.proofs.Common.{ℕ, ◌≡◌, ◌≢◌, ◌∙◌, ◌+◌, ◌*◌, ◌/◌, ◌^◌, ◌<◌, ◌≤◌, inl, inr, true, false, if◌then◌else◌, Option, Some, None, List, replicate, refl}
use Rattle.std.proofs.Common.{sym, ap, arith}
use Rattle.std.proofs.lemmas.Bool.{eq-eqb}
use Rattle.std.proofs.lemmas.Bool.Decides.{eqb_tells}
use Rattle.std.proofs.lemmas.List.{get_or-replicate}
use Rattle.model.proofs.SlotChanges.{capability-adopted, capability-closed, capability-opened, capability_of, entry-other, entry-same, full-not-empty}
use Rattle.model.proofs.SlotChanges.{within-bounds}
use Rattle.model.specs.Capabilities.CapabilityKinds.{object_of}
use Rattle.model.specs.Capabilities.CapabilityWords.{IsPlace}
use Rattle.model.specs.Capabilities.Slots.{IsFull, Slots, capability_at, closed, empty_entry, inserted, opened, parent_at, recapped, relocated, spliced}
use Rattle.model.specs.Capabilities.Slots.{with_entry, with_parent}
use Rattle.model.specs.declared.capabilities.Cap.{Cap}
use Rattle.model.specs.declared.slot_entries.Entry.{Entry}
use Rattle.slots.specs.Kin.{object_at}
use Rattle.slots.specs.Listed.{is_naming}
use Rattle.packed_slots.specs.NamedPages.{AreNamed, names_page, or_slot, replaced, slot_named, with_slot, without_slot}
use Rattle.packed_slots.specs.Sharing.{IsOther}
use Rattle.packed_slots.specs.Words.{is_one}
use Rattle.packed_slots.proofs.Sharing.{named-so, so-named}

pub none-named : (slots : Slots) (named : List (Option ℕ)) → ((s : ℕ) → slots s ≡ None) → named ≡ replicate (2 ^ 12) None → AreNamed slots named
none-named slots named none is = record {
  some = λ page slot few found.
      let blank : slot_named named page ≡ None = ap (λ (l : List (Option ℕ)). slot_named l page) is ∙ get_or-replicate (2 ^ 12) page None None few in
      absurd (let clash : None ≡ Some slot = sym blank ∙ found in cc);
  none = λ page slot few _ names.
      let blank : object_at slots slot ≡ None = ap (λ (o : Option Entry). object_of (capability_of o)) (none slot) in
      absurd (let clash : None ≡ Some (2 ^ 12 * page) = sym blank ∙ names in cc);
}

-- each slot names what it did
pub same-named : (old new : Slots) (named : List (Option ℕ)) → ((s : ℕ) → object_at new s ≡ object_at old s) → AreNamed old named → AreNamed new named
same-named old new named same known = record {
  some = λ page slot few found. same slot ∙ known.some page slot few found;
  none = λ page slot few found names. known.none page slot few found (sym (same slot) ∙ names);
}

pub named-opened : (slots : Slots) (named : List (Option ℕ)) (first count : ℕ) → ((s : ℕ) → first ≤ s → s < first + count → slots s ≡ None)
    → AreNamed slots named → AreNamed (opened slots first count) named
named-opened slots named first count none known =
    same-named slots (opened slots first count) named
    (λ s. ap object_of (capability-opened slots first count s (λ t is. let within = within-bounds first count t is in none t within.0 within.1)).0) known

pub named-closed : (slots : Slots) (named : List (Option ℕ)) (first count : ℕ) → ((s : ℕ) → first ≤ s → s < first + count → slots s ≡ Some empty_entry)
    → AreNamed slots named → AreNamed (closed slots first count) named
named-closed slots named first count empty known =
    same-named slots (closed slots first count) named
    (λ s. ap object_of (capability-closed slots first count s (λ t is. let within = within-bounds first count t is in empty t within.0 within.1)).0) known

pub named-recapped : (slots : Slots) (named : List (Option ℕ)) (slot : ℕ) (capability : Cap) → object_of capability ≡ object_at slots slot
    → AreNamed slots named → AreNamed (recapped slots slot capability) named
named-recapped slots named slot capability alike known =
    let entry : Option Entry = Some (record { capability = capability; parent = parent_at slots slot }) in
    same-named slots (recapped slots slot capability) named
    (λ s. elim (eqb_tells s slot) [
      | inl here ↦
          ap (λ n. object_at (recapped slots slot capability) n) here.1
          ∙ ap (λ (o : Option Entry). object_of (capability_of o)) (entry-same slots slot entry) ∙ alike ∙ sym (ap (object_at slots) here.1)
      | inr other ↦ ap (λ (o : Option Entry). object_of (capability_of o)) (entry-other slots slot entry s other.1)
    ]) known

one-so : (slot : ℕ) (found : Option ℕ) → is_one slot found ≡ true → found ≡ Some slot
one-so slot None is = absurd (let clash : false ≡ true = is in cc)
one-so slot (Some s) is = elim (eqb_tells s slot) [
  | inl here ↦ ap Some here.1
  | inr off ↦ absurd (let clash : false ≡ true = sym off.0 ∙ is in cc)
]

-- a capability in a slot that named nothing
pub named-put : (old new : Slots) (named now : List (Option ℕ)) (slot : ℕ) (capability : Cap) → object_at old slot ≡ None →
    object_at new slot ≡ object_of capability
    → ((s : ℕ) → s ≢ slot → object_at new s ≡ object_at old s)
    → ((page : ℕ) → page < 2 ^ 12 → slot_named now page ≡ with_slot capability slot page (slot_named named page))
    → AreNamed old named → AreNamed new now
named-put old new named now slot capability empty here same told known = record {
  some = some-now;
  none = none-now;
}
  where
    keeps : (page s : ℕ) → object_at old s ≡ Some (2 ^ 12 * page) → object_at new s ≡ Some (2 ^ 12 * page)
    keeps page s names = same s (λ at. absurd (let clash : None ≡ Some (2 ^ 12 * page) = sym empty ∙ sym (ap (object_at old) at) ∙ names in cc)) ∙ names

    some-now : (page s : ℕ) → page < 2 ^ 12 → slot_named now page ≡ Some s → object_at new s ≡ Some (2 ^ 12 * page)
    some-now page s few found =
        elim (names_page capability page) as (λ b. names_page capability page ≡ b →
        (if b then or_slot slot (slot_named named page) else slot_named named page) ≡ Some s → object_at new s ≡ Some (2 ^ 12 * page)) [
          | true ↦ λ names.
              elim (slot_named named page) as (λ o. slot_named named page ≡ o → or_slot slot o ≡ Some s → object_at new s ≡ Some (2 ^ 12 * page)) [
                | None ↦ λ _ is. ap (object_at new) (let at : s ≡ slot = cc in at) ∙ here ∙ named-so (object_of capability) (2 ^ 12 * page) names
                | Some k ↦ λ was is. keeps page s (known.some page s few (was ∙ is))
              ] refl
          | false ↦ λ _ is. keeps page s (known.some page s few is)
        ] refl (sym (told page few) ∙ found)

    none-now : (page s : ℕ) → page < 2 ^ 12 → slot_named now page ≡ None → object_at new s ≢ Some (2 ^ 12 * page)
    none-now page s few found names =
        elim (names_page capability page) as (λ b. names_page capability page ≡ b →
        (if b then or_slot slot (slot_named named page) else slot_named named page) ≡ None → ⊥) [
          | true ↦ λ _.
              elim (slot_named named page) as (λ o. or_slot slot o ≡ None → ⊥) [
                | None ↦ λ is. absurd (let clash : Some slot ≡ None = is in cc)
                | Some k ↦ λ is. absurd (let clash : Some k ≡ None = is in cc)
              ]
          | false ↦ λ other is. elim (eqb_tells s slot) [
            | inl at ↦ absurd (let clash : false ≡ true = sym other
                ∙ so-named (object_of capability) (2 ^ 12 * page) (sym here ∙ sym (ap (object_at new) at.1) ∙ names) in cc)
            | inr off ↦ known.none page s few is (sym (same s off.1) ∙ names)
          ]
        ] refl (sym (told page few) ∙ found)

pub named-inserted : (slots : Slots) (named now : List (Option ℕ)) (slot : ℕ) (capability : Cap) (parent : Option ℕ) → slots slot ≡ Some empty_entry
    → ((page : ℕ) → page < 2 ^ 12 → slot_named now page ≡ with_slot capability slot page (slot_named named page))
    → AreNamed slots named → AreNamed (inserted slots slot capability parent) now
named-inserted slots named now slot capability parent empty told known =
    let held : Option Entry = Some (record { capability = capability; parent = parent }) in
    named-put slots (inserted slots slot capability parent) named now slot capability (ap (λ (o : Option Entry). object_of (capability_of o)) empty)
    (ap (λ (o : Option Entry). object_of (capability_of o)) (entry-same slots slot held))
    (λ s other. ap (λ (o : Option Entry). object_of (capability_of o)) (entry-other slots slot held s other)) told known

-- a slot that names nothing any more; what is known in its place does
pub named-replaced : (old new : Slots) (named now : List (Option ℕ)) (gone : ℕ) (capability : Cap) (other : Option ℕ) →
    object_at old gone ≡ object_of capability → object_at new gone ≡ None
    → ((s offset : ℕ) → s ≢ gone → object_at old s ≡ Some offset → object_at new s ≡ Some offset)
    → ((s offset : ℕ) → object_of capability ≢ Some offset → object_at new s ≡ Some offset → object_at old s ≡ Some offset)
    → ((s offset : ℕ) → object_of capability ≡ Some offset → other ≡ Some s → object_at new s ≡ Some offset)
    → ((s offset : ℕ) → object_of capability ≡ Some offset → other ≡ None → object_at new s ≢ Some offset)
    → ((page : ℕ) → page < 2 ^ 12 → slot_named now page ≡ without_slot capability gone other page (slot_named named page))
    → AreNamed old named → AreNamed new now
named-replaced old new named now gone capability other was empty keeps back in_place nobody told known = record {
  some = some-now;
  none = none-now;
}
  where
    unlike : (page : ℕ) → names_page capability page ≡ false → object_of capability ≢ Some (2 ^ 12 * page)
    unlike page lacks names = absurd (let clash : false ≡ true = sym lacks ∙ so-named (object_of capability) (2 ^ 12 * page) names in cc)

    some-now : (page s : ℕ) → page < 2 ^ 12 → slot_named now page ≡ Some s → object_at new s ≡ Some (2 ^ 12 * page)
    some-now page s few found =
        elim (names_page capability page) as (λ b. names_page capability page ≡ b →
        (if b then replaced gone other (slot_named named page) else slot_named named page) ≡ Some s → object_at new s ≡ Some (2 ^ 12 * page)) [
          | true ↦ λ names.
              let own = named-so (object_of capability) (2 ^ 12 * page) names in
              elim (is_one gone (slot_named named page)) as (λ b. is_one gone (slot_named named page) ≡ b →
              (if b then other else slot_named named page) ≡ Some s → object_at new s ≡ Some (2 ^ 12 * page)) [
                | true ↦ λ _ is. in_place s (2 ^ 12 * page) own is
                | false ↦ λ off is.
                    let apart : s ≢ gone = λ at.
                    absurd (let clash : false ≡ true = sym off ∙ ap (is_one gone) (is ∙ ap Some at) ∙ eq-eqb gone gone refl in cc) in
                    keeps s (2 ^ 12 * page) apart (known.some page s few is)
              ] refl
          | false ↦ λ lacks is.
              let names = known.some page s few is in
              let apart : s ≢ gone = λ at. absurd (unlike page lacks (sym was ∙ sym (ap (object_at old) at) ∙ names)) in
              keeps s (2 ^ 12 * page) apart names
        ] refl (sym (told page few) ∙ found)

    none-now : (page s : ℕ) → page < 2 ^ 12 → slot_named now page ≡ None → object_at new s ≢ Some (2 ^ 12 * page)
    none-now page s few found names =
        elim (names_page capability page) as (λ b. names_page capability page ≡ b →
        (if b then replaced gone other (slot_named named page) else slot_named named page) ≡ None → ⊥) [
          | true ↦ λ does.
              let own = named-so (object_of capability) (2 ^ 12 * page) does in
              elim (is_one gone (slot_named named page)) as (λ b. (if b then other else slot_named named page) ≡ None → ⊥) [
                | true ↦ λ is. nobody s (2 ^ 12 * page) own is names
                | false ↦ λ is. known.none page gone few is (was ∙ own)
              ]
          | false ↦ λ lacks is. known.none page s few is (back s (2 ^ 12 * page) (unlike page lacks) names)
        ] refl (sym (told page few) ∙ found)

pub named-spliced : (slots : Slots) (named now : List (Option ℕ)) (gone : ℕ) (capability : Cap) (other : Option ℕ) → capability ≡ capability_at slots gone
    → ((offset : ℕ) → object_of capability ≡ Some offset → IsOther slots offset gone other)
    → ((page : ℕ) → page < 2 ^ 12 → slot_named now page ≡ without_slot capability gone other page (slot_named named page))
    → AreNamed slots named → AreNamed (spliced slots gone) now
named-spliced slots named now gone capability other held others told known =
    let above : Option ℕ = parent_at slots gone in
    let empty : object_at (spliced slots gone) gone ≡ None =
    ap (λ (o : Option Entry). object_of (capability_of o)) (entry-same (with_parent slots gone above) gone (Some empty_entry)) in
    named-replaced slots (spliced slots gone) named now gone capability other (ap object_of (sym held)) empty
    (λ s offset apart names. stays s apart ∙ names)
    (λ s offset unlike names. sym (stays s (off-gone s offset empty names)) ∙ names)
    (λ s offset own is. let there = (others offset own).some s is in stays s there.0 ∙ there.1)
    (λ s offset own is names.
    let apart = off-gone s offset empty names in
    apart ((others offset own).none is s (sym (stays s apart) ∙ names)))
    told known
  where
    stays : (s : ℕ) → s ≢ gone → object_at (spliced slots gone) s ≡ object_at slots s
    stays s apart =
        ap (λ (o : Option Entry). object_of (capability_of o)) (entry-other (with_parent slots gone (parent_at slots gone)) gone (Some empty_entry) s apart)
        ∙ ap object_of (capability-adopted gone (parent_at slots gone) (slots s))

    off-gone : (s offset : ℕ) → object_at (spliced slots gone) gone ≡ None → object_at (spliced slots gone) s ≡ Some offset → s ≢ gone
    off-gone s offset empty names at = absurd (let clash : None ≡ Some offset = sym empty ∙ sym (ap (object_at (spliced slots gone)) at) ∙ names in cc)

pub named-relocated : (slots : Slots) (named now : List (Option ℕ)) (from to : ℕ) (capability : Cap) → IsFull slots from → slots to ≡ Some empty_entry →
    capability ≡ capability_at slots from
    → ((page : ℕ) → page < 2 ^ 12 → slot_named now page ≡ without_slot capability from (Some to) page (slot_named named page))
    → AreNamed slots named → AreNamed (relocated slots from to) now
named-relocated slots named now from to capability full empty held told known =
    named-replaced slots (relocated slots from to) named now from capability (Some to) (ap object_of (sym held)) gone
    (λ s offset apart names. stays s apart (λ at. absurd (let clash : None ≡ Some offset = sym blank ∙ sym (ap (object_at slots) at) ∙ names in cc)) ∙ names)
    (λ s offset unlike names. elim (eqb_tells s to) [
      | inl at ↦ absurd (unlike (ap object_of held ∙ sym there ∙ sym (ap (object_at (relocated slots from to)) at.1) ∙ names))
      | inr off ↦ sym (stays s (λ at. absurd (let clash : None ≡ Some offset = sym gone ∙ sym (ap (object_at (relocated slots from to)) at) ∙ names in cc))
          off.1) ∙ names
    ])
    (λ s offset own is. ap (object_at (relocated slots from to)) (let at : s ≡ to = cc in at) ∙ there ∙ ap object_of (sym held) ∙ own)
    (λ s offset own is. absurd (let clash : Some to ≡ None = is in cc))
    told known
  where
    adopted_slots : Slots
    adopted_slots = with_parent slots from (Some to)

    put_slots : Slots
    put_slots = with_entry (with_parent slots from (Some to)) to (slots from)

    apart : from ≢ to
    apart = full-not-empty slots from to full empty

    blank : object_at slots to ≡ None
    blank = ap (λ (o : Option Entry). object_of (capability_of o)) empty

    gone : object_at (relocated slots from to) from ≡ None
    gone = ap (λ (o : Option Entry). object_of (capability_of o))
        (entry-same (with_entry (with_parent slots from (Some to)) to (slots from)) from (Some empty_entry))

    there : object_at (relocated slots from to) to ≡ object_at slots from
    there =
        ap (λ (o : Option Entry). object_of (capability_of o))
        (entry-other (with_entry (with_parent slots from (Some to)) to (slots from)) from (Some empty_entry) to (λ at. apart (sym at)))
        ∙ ap (λ (o : Option Entry). object_of (capability_of o)) (entry-same (with_parent slots from (Some to)) to (slots from))

    stays : (s : ℕ) → s ≢ from → s ≢ to → object_at (relocated slots from to) s ≡ object_at slots s
    stays s off_from off_to =
        ap (λ (o : Option Entry). object_of (capability_of o))
        (entry-other (with_entry (with_parent slots from (Some to)) to (slots from)) from (Some empty_entry) s off_from)
        ∙ ap (λ (o : Option Entry). object_of (capability_of o)) (entry-other (with_parent slots from (Some to)) to (slots from) s off_to)
        ∙ ap object_of (capability-adopted from (Some to) (slots s))

-- ---- from what is known

page-whole : (object : ℕ) → IsPlace object 12 → 2 ^ 12 * (object / 4096) ≡ object
page-whole object place = omega (arith, place.0)

page-few : (object : ℕ) → IsPlace object 12 → object / 4096 < 2 ^ 12
page-few object place = omega (arith, place.1)

pub known-names : (slots : Slots) (named : List (Option ℕ)) (object slot : ℕ) → AreNamed slots named → IsPlace object 12 →
    slot_named named (object / 4096) ≡ Some slot
    → is_naming slots object slot ≡ true
known-names slots named object slot known place found =
    so-named (object_at slots slot) object (known.some (object / 4096) slot (page-few object place) found ∙ ap Some (page-whole object place))

pub unknown-names : (slots : Slots) (named : List (Option ℕ)) (object slot : ℕ) → AreNamed slots named → IsPlace object 12 →
    slot_named named (object / 4096) ≡ None
    → is_naming slots object slot ≡ false
unknown-names slots named object slot known place found = elim (is_naming slots object slot) as (λ b. is_naming slots object slot ≡ b → b ≡ false) [
  | true ↦ λ is. absurd (known.none (object / 4096) slot (page-few object place) found
      (named-so (object_at slots slot) object is ∙ ap Some (sym (page-whole object place))))
  | false ↦ λ is. refl
] refl
