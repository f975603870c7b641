-- Where no capability names the offset of a table that ends, it was no page table's: only mappings under a root table go.
use Rattle.std.proofs.Common.{◌≡◌, ◌∙◌, ℕ, ◌/◌, ◌^◌, inl, inr, Bool, true, false, Option, Some, None, refl, sym, ap}
use Rattle.std.specs.Prelude.{if◌then◌else◌}
use Rattle.std.specs.Option.{option_map}
use Rattle.std.proofs.lemmas.Bool.{eq-eqb, ne_eqb}
use Rattle.model.specs.Capabilities.CapabilityKinds.{names_object, unmapped}
use Rattle.model.specs.Capabilities.Slots.{Slots, capability_at}
use Rattle.model.specs.declared.capabilities.Cap.{Cap}
use Rattle.model.specs.declared.capabilities.Cap.TheVariants.{Frame, PageTable}
use Rattle.model.specs.declared.slot_entries.Entry.{Entry}
use Rattle.model.proofs.SlotChanges.{capability_of}
use Rattle.removal_laws.specs.Steps.{is_under, uprooted, without_root}
use Rattle.vspace.specs.Endings.{Ended, GoesWith, IsMappedIn}
use Rattle.vspace.specs.Regions.{unmapped_entry}

uprooted-gone : (offset : ℕ) (held : Option Entry) → is_under offset (capability_of held) ≡ true →
    option_map (uprooted offset) held ≡ option_map unmapped_entry held
uprooted-gone offset None under = refl
uprooted-gone offset (Some held) under =
    ap (λ (b : Bool). Some (record held { capability = if b then unmapped held.capability else held.capability })) under

uprooted-kept : (offset : ℕ) (held : Option Entry) → is_under offset (capability_of held) ≡ false → option_map (uprooted offset) held ≡ held
uprooted-kept offset None beside = refl
uprooted-kept offset (Some held) beside =
    ap (λ (b : Bool). Some (record held { capability = if b then unmapped held.capability else held.capability })) beside

module _ (old : Slots) (offset : ℕ) (unnamed : (slot : ℕ) → names_object offset (capability_at old slot) ≡ false) where
  -- the table of a mapping that goes is its root table
  root-goes : (root region : ℕ) → GoesWith old offset root region → root ≡ offset
  root-goes root region goes = elim goes [
    | inl is ↦ is
    | inr maps ↦
        let named : names_object offset (capability_at old maps.slot) ≡ true = ap (names_object offset) maps.held ∙ eq-eqb offset offset refl in
        let clash : false ≡ true = sym (unnamed maps.slot) ∙ named in
        absurd cc
  ]

  goes-under : (c : Cap) → IsMappedIn (GoesWith old offset) c → is_under offset c ≡ true
  goes-under (Frame f r (Some m)) goes = eq-eqb offset m.root (sym (root-goes m.root (m.page / 2 ^ 10) goes))
  goes-under (PageTable t (Some m)) goes = eq-eqb offset m.root (sym (root-goes m.root m.region goes))
  goes-under _ goes = absurd goes

  stays-beside : (c : Cap) → (IsMappedIn (GoesWith old offset) c → ⊥) → is_under offset c ≡ false
  stays-beside (Frame f r (Some m)) stays = ne_eqb offset m.root (λ same. stays (inl (sym same)))
  stays-beside (PageTable t (Some m)) stays = ne_eqb offset m.root (λ same. stays (inl (sym same)))
  stays-beside _ stays = refl

  ended-root-at : (after : Option Entry) (y : ℕ) → Ended old offset y after → after ≡ without_root offset old y
  ended-root-at after y ended = elim ended [
    | inl lost ↦ lost.1 ∙ sym (uprooted-gone offset (old y) (goes-under (capability_at old y) lost.0))
    | inr kept ↦ kept.1 ∙ sym (uprooted-kept offset (old y) (stays-beside (capability_at old y) kept.0))
  ]

pub ended-root : (old now : Slots) (offset : ℕ) → ((slot : ℕ) → names_object offset (capability_at old slot) ≡ false)
    → ((y : ℕ) → Ended old offset y (now y)) → now ≡ without_root offset old
ended-root old now offset unnamed ended = λ i y. ended-root-at old offset unnamed (now y) y (ended y) i
