-- What other slots name once a slot is empty.
use Rattle.std.proofs.Common.{ℕ, ◌≡◌, ◌≢◌, ◌∙◌, ◌==◌, inl, inr, Bool, true, false, Option, Some, None, refl, sym, ap, subst}
use Rattle.std.specs.Option.{option_map_or}
use Rattle.std.proofs.lemmas.Bool.{eq-eqb}
use Rattle.std.proofs.lemmas.Bool.Decides.{eqb_tells}
use Rattle.cnode_ops.specs.StillNamed.{IsNamedStill}
use Rattle.model.proofs.SlotChanges.{capability-adopted, capability_of, entry-other, entry-same}
use Rattle.model.specs.Capabilities.CapabilityKinds.{names_object, object_of}
use Rattle.model.specs.Capabilities.Slots.{Slots, capability_at, empty_entry, parent_at, spliced, with_parent}
use Rattle.model.specs.declared.capabilities.Cap.{Cap}
use Rattle.slots.specs.Kin.{IsShared, object_at}

pub named-so : (o : Option ℕ) (offset : ℕ) → option_map_or (λ named. named == offset) o false ≡ true → o ≡ Some offset
named-so None offset is = absurd (let clash : false ≡ true = is in cc)
named-so (Some x) offset is = elim (eqb_tells x offset) [
  | inl here ↦ ap Some here.1
  | inr off ↦ absurd (let clash : false ≡ true = sym off.0 ∙ is in cc)
]

pub so-named : (o : Option ℕ) (offset : ℕ) → o ≡ Some offset → option_map_or (λ named. named == offset) o false ≡ true
so-named o offset is = ap (λ o. option_map_or (λ named. named == offset) o false) is ∙ eq-eqb offset offset refl

left-other : (slots : Slots) (gone s : ℕ) → s ≢ gone → capability_at (spliced slots gone) s ≡ capability_at slots s
left-other slots gone s off =
    ap capability_of (entry-other (with_parent slots gone (parent_at slots gone)) gone (Some empty_entry) s off)
    ∙ capability-adopted gone (parent_at slots gone) (slots s)

left-gone : (slots : Slots) (gone : ℕ) → object_at (spliced slots gone) gone ≡ None
left-gone slots gone = ap (λ e. object_of (capability_of e)) (entry-same (with_parent slots gone (parent_at slots gone)) gone (Some empty_entry))

-- what is shared before is named afterwards, and what is not is named no more
pub still-named : (before slots after : Slots) (slot : ℕ) (removed : Cap) (still : Bool) → slots ≡ before → removed ≡ capability_at before slot →
    after ≡ spliced before slot
    → (still ≡ true → IsShared slots slot) → (still ≡ false → IsShared slots slot → ⊥) → IsNamedStill after removed still
still-named before slots after slot removed still same removed_is after_is shared alone = record {
  some = λ yes offset names.
      let found : IsShared before slot = subst (λ (f : Slots). IsShared f slot) same (shared yes) in
      let own : found.offset ≡ offset = (let e : Some found.offset ≡ Some offset = sym found.own ∙ sym (ap object_of removed_is) ∙ names in cc) in
      let at : object_at after found.other ≡ Some offset =
      ap (λ (f : Slots). object_at f found.other) after_is ∙ ap object_of (left-other before slot found.other found.apart) ∙ found.names ∙ ap Some own in
      (found.other, so-named (object_at after found.other) offset at);
  none = λ no offset names s.
      elim (names_object offset (capability_at after s)) as (λ b. names_object offset (capability_at after s) ≡ b → b ≡ false) [
        | false ↦ λ is. refl
        | true ↦ λ is.
            let named : object_at (spliced before slot) s ≡ Some offset = ap (λ (f : Slots). object_at f s) (sym after_is)
            ∙ named-so (object_at after s) offset is in
            absurd (elim (eqb_tells s slot) [
              | inl here ↦ (let clash : None ≡ Some offset = sym (left-gone before slot) ∙ ap (object_at (spliced before slot)) (sym here.1) ∙ named in
                  absurd cc)
              | inr off ↦ alone no (subst (λ (f : Slots). IsShared f slot) (sym same) (record {
                offset = offset;
                own = ap object_of (sym removed_is) ∙ names;
                other = s;
                apart = off.1;
                names = ap object_of (sym (left-other before slot s off.1)) ∙ named;
              }))
            ])
      ] refl;
}
