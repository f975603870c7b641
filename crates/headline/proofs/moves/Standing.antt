-- The threads' invariant holds after a step that keeps slots and bytes.
use Rattle.std.proofs.Common.{ℕ, ◌≡◌, ◌∙◌, ◌⊎◌, inl, inr, Bool, true, false, Option, Some, List, refl, sym, ap}
use Rattle.std.specs.Prelude.{Contains}
use Rattle.std.specs.Option.{option_map_or}
use Rattle.headline.specs.facts.Standing.{AllStand, IsControlBlock}
use Rattle.headline.specs.facts.Waiting.{WaitsAsAsked}
use Rattle.headline.proofs.kept.Laws.{hangs-kept}
use Rattle.model.specs.declared.capabilities.Cap.TheVariants.{Empty}
use Rattle.model.specs.declared.labels.Label.{Label}
use Rattle.model.specs.declared.rights.Rights.{Rights}
use Rattle.model.specs.declared.slot_entries.Entry.{Entry}
use Rattle.model.specs.Acceptance.Accepted.{IsAccepted}
use Rattle.headline.specs.moves.Ground.{SameGround}
use Rattle.model.specs.Acceptance.ThreadInvariants.{ThreadInvariant, root_table_of, tcb_of}
use Rattle.model.specs.Capabilities.Slots.{Slots}
use Rattle.model.specs.Images.Described.{Numbered, numbered_threads}
use Rattle.model.specs.Images.Image.{Image}
use Rattle.model.specs.Kernel.AddressSpaces.{Maps}
use Rattle.model.specs.Kernel.Soundness.{IsSound}
use Rattle.model.specs.Kernel.State.{State, Inactive, ThreadObject, ThreadState, cspace_slot, vspace_slot}
use Rattle.model.specs.Kernel.Waits.{open_count}
use Rattle.headline.specs.kept.Laws.{StandsOn}
use Rattle.headline.specs.moves.Moving.{IsLeftAlone}
use Rattle.headline.specs.moves.Resting.{OthersRest}
use Rattle.headline.proofs.moves.LeftAlone.{stands-alone}

maps-too : (slots others : Slots) → ((slot : ℕ) → others slot ≡ slots slot) → (root page frame : ℕ) (allowed : Rights) → Maps slots root page frame allowed →
    Maps others root page frame allowed
maps-too slots others same root page frame allowed maps = record {
  slot = maps.slot;
  frame_rights = maps.frame_rights;
  capability = ap (λ (o : Option Entry). option_map_or (λ (held : Entry). held.capability) o Empty) (same maps.slot) ∙ maps.capability;
}

pub touches-none : (bytes : List ℕ) (image : Image) (t : Numbered) (s after : State) → IsAccepted bytes image → Contains (numbered_threads image) t
    → IsSound s → IsSound after → SameGround image s after → IsLeftAlone image t s after
touches-none bytes image t s after accepted listed sound still store = record {
  bytes = bytes;
  accepted = accepted;
  listed = listed;
  before = sound;
  behind = still;
  untouched = record {
    boot_radix = store.boot_radix;
    slots = λ slot own. store.slots slot;
    cspace = store.slots (cspace_slot (tcb_of image t));
    vspace = store.slots (vspace_slot (tcb_of image t));
    maps = λ page frame allowed. (
      maps-too after.slots s.slots (λ slot. sym (store.slots slot)) (root_table_of image t) page frame allowed,
      maps-too s.slots after.slots store.slots (root_table_of image t) page frame allowed,
    );
    bytes = store.bytes;
  };
}

module _ (stand-on : StandsOn) (bytes : List ℕ) (image : Image) (s after : State) (labels later : List Label) (moves : ℕ → Bool)
    (accepted : IsAccepted bytes image)
    (all : AllStand image s labels) (sound : IsSound after) (store : SameGround image s after) (rest : OthersRest s after moves)
    (moved : (t : Numbered) → Contains (numbered_threads image) t → moves (tcb_of image t) ≡ true → ThreadInvariant image t after later
    × WaitsAsAsked image t after)
    (known : (offset : ℕ) (own : ThreadState) → moves offset ≡ true → after.objects offset ≡ Some (ThreadObject own) → IsControlBlock image offset)
    (counts : (t : Numbered) → Contains (numbered_threads image) t → moves (tcb_of image t) ≡ false →
    open_count (tcb_of image t) later ≡ open_count (tcb_of image t) labels) where
  each : (t : Numbered) → Contains (numbered_threads image) t → (b : Bool) → moves (tcb_of image t) ≡ b → ThreadInvariant image t after later
      × WaitsAsAsked image t after
  each t listed true is = moved t listed is
  each t listed false is =
      stands-alone stand-on image t s after labels later (touches-none bytes image t s after accepted listed all.sound sound store)
      (λ old there. rest.goes (tcb_of image t) old is there) (rest.queues (tcb_of image t) is) (counts t listed is) (all.stand t listed) (all.wait t listed)

  other : (offset : ℕ) (own : ThreadState) → after.objects offset ≡ Some (ThreadObject own) → (b : Bool) → moves offset ≡ b →
      (own.status ≡ Inactive) ⊎ IsControlBlock image offset
  other offset own there true is = inr (known offset own is there)
  other offset own there false is =
      let been = rest.been offset own is there in
      elim (all.others offset been.old been.was) [
        | inl rests ↦ inl (been.status ∙ rests)
        | inr block ↦ inr block
      ]

  pub all-stand : AllStand image after later
  all-stand = record {
    sound = sound;
    stand = λ t listed. (each t listed (moves (tcb_of image t)) refl).0;
    wait = λ t listed. (each t listed (moves (tcb_of image t)) refl).1;
    others = λ offset own there. other offset own there (moves offset) refl;
    apart = λ slot alone. store.slots slot ∙ all.apart slot alone;
    hang = λ t listed. hangs-kept image t s after store.boot_radix store.slots (all.hang t listed);
    memory_bits = store.memory_bits ∙ all.memory_bits;
    boot_radix = store.boot_radix ∙ all.boot_radix;
  }
