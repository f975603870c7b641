-- What is kept is the leaf of a mapping: at first, once a leaf more is kept, and once a mapping goes; and it lies in memory.
use Rattle.std.proofs.Common.{ℕ, ◌≡◌, ◌∙◌, ◌<◌, ◌^◌, inl, inr, true, false, Option, None, List, replicate, sym, ap, subst}
use Rattle.std.proofs.Math.Logic.{∥∥₁_elim, ∥∥₁_map}
use Rattle.std.specs.Coded.{coded_option, coded_ℕ}
use base.Stored.{Coded-set}
use Rattle.std.specs.Option.{is_some}
use Rattle.packed_slots.specs.cached_slots.Mappings.{AreMapped, AreMappedBeside, IsMapped, LeavesAgree}
use Rattle.model.specs.Capabilities.CapabilityKinds.{frame_mapping}
use Rattle.model.specs.Capabilities.Slots.{Slots, capability_at}
use Rattle.model.specs.declared.capabilities.Cap.{Cap}
use Rattle.packed_slots.proofs.cached_slots.Laws.{kept-more, nothing-kept}
use Rattle.packed_slots.specs.cached_slots.KeptLeaves.{AreAmong, leaf_of, with_leaf}
use Rattle.packed_slots.specs.declared.cached_slots.caches.TlbEntry.{TlbEntry}

pub none-mapped : (slots : Slots) (entries : List (Option TlbEntry)) → entries ≡ replicate 64 None → AreMapped slots entries
none-mapped slots entries empty =
    subst (λ (e : List (Option TlbEntry)). AreMapped slots e) (sym empty) (record { each = λ place kept is. nothing-kept 64 place kept is })

pub none-beside : (slots : Slots) (gone : ℕ) (entries : List (Option TlbEntry)) → entries ≡ replicate 64 None → AreMappedBeside slots gone entries
none-beside slots gone entries empty =
    subst (λ (e : List (Option TlbEntry)). AreMappedBeside slots gone e) (sym empty) (record { each = λ place kept is. nothing-kept 64 place kept is })

-- no mapping is in a slot whose capability maps no frame
pub all-beside : (slots : Slots) (gone : ℕ) (capability : Cap) (entries : List (Option TlbEntry)) → capability ≡ capability_at slots gone
    → is_some (frame_mapping capability) ≡ false → AreMapped slots entries → AreMappedBeside slots gone entries
all-beside slots gone capability entries held none mapped = record {
  each = λ place kept is. ∥∥₁_map (mapped.each place kept is) (λ m. record {
    mapped = m;
    other = λ same. absurd (let clash : true ≡ false =
        sym (ap (λ (c : Cap). is_some (frame_mapping c)) (held ∙ ap (capability_at slots) (sym same) ∙ m.maps.capability)) ∙ none in cc);
  });
}

pub in-memory : (slots : Slots) (memory : List ℕ) (root : ℕ) (entries : List (Option TlbEntry)) → LeavesAgree slots memory root → AreMapped slots entries
    → AreAmong (leaf_of memory) entries
in-memory slots memory root entries agree mapped = record {
  each = λ place kept is. ∥∥₁_elim (mapped.each place kept is) (Coded-set (coded_option coded_ℕ) _ _) (λ m. agree.leaves kept.root kept.page kept.leaf m);
}

pub leaf-mapped : (slots : Slots) (memory : List ℕ) (root page : ℕ) (old new : List (Option TlbEntry)) → page < 2 ^ 20 → LeavesAgree slots memory root
    → new ≡ with_leaf old root page (leaf_of memory root page) → AreMapped slots old → AreMapped slots new
leaf-mapped slots memory root page old new near agree kept_more mapped =
    subst (λ (e : List (Option TlbEntry)). AreMapped slots e) (sym kept_more) (record {
      each = λ place kept is. elim (kept-more old root page (leaf_of memory root page) place kept is) [
        | inl before ↦ mapped.each place kept before
        | inr more ↦
            subst (λ r. ∥ IsMapped slots r kept.page kept.leaf ∥₁) (sym more.at_root)
            (subst (λ p. ∥ IsMapped slots root p kept.leaf ∥₁) (sym more.at_page) (agree.only page kept.leaf near more.finds))
      ];
    })
