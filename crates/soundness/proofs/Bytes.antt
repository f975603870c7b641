-- Other bytes in frames, and other masks and pending bits of lines, keep soundness.
use Rattle.std.proofs.Common.{ℕ, ◌≡◌, ◌∙◌, ◌^◌, ◌<◌, Bool, is_some, Option, Some, None, refl, subst, sym}
use Rattle.std.specs.Option.{option_map_or}
use Rattle.model.specs.Kernel.AddressSpaces.{with_content}
use Rattle.model.specs.Kernel.Soundness.{HasSlot, of_boot_area, of_object, IsSound}
use Rattle.model.specs.Kernel.State.{State}
use Rattle.model.specs.Machine.ProgramMemory.{Content}
use Rattle.soundness.proofs.Rest.{RestIsSound, rest-kept, rest-of, sound-of}

pub lines-whole : (s : State) (masked pending : ℕ → Bool) → IsSound s → IsSound (record s { masked = masked; pending = pending })
lines-whole s masked pending whole =
    let threads = whole.threads in
    sound-of (record s { masked = masked; pending = pending }) (rest-kept s s.objects s.ready masked pending (λ _. refl) (rest-of s whole)) (record {
      threads = threads.threads;
      ready = threads.ready;
      queued = threads.queued;
      one_sided = threads.one_sided;
      senders = threads.senders;
      words = threads.words;
      idle = threads.idle;
      callers = threads.callers;
      one_right = threads.one_right;
    })

-- bytes at the same places
pub record AreBytes (s : State) (bytes : ℕ → Option ℕ) : Type 0 where
  pub there : (place : ℕ) → is_some (bytes place) ≡ is_some (s.bytes place)
  pub small : (place byte : ℕ) → bytes place ≡ Some byte → byte < 2 ^ 8

module _ (s : State) (bytes : ℕ → Option ℕ) where
  abbrev filled : State
  filled = record s { bytes = bytes }

  has-slot : (slot : ℕ) → HasSlot s slot → HasSlot filled slot
  has-slot slot (of_boot_area less) = of_boot_area less
  has-slot slot (of_object offset is) = of_object offset is

  had-slot : (slot : ℕ) → HasSlot filled slot → HasSlot s slot
  had-slot slot (of_boot_area less) = of_boot_area less
  had-slot slot (of_object offset is) = of_object offset is

  pub bytes-rest : RestIsSound s → AreBytes s bytes → RestIsSound filled
  bytes-rest rest fine = record {
    shape = record {
      least_bits = rest.shape.least_bits;
      most_bits = rest.shape.most_bits;
      least_radix = rest.shape.least_radix;
      most_radix = rest.shape.most_radix;
      room = rest.shape.room;
    };
    slots = record {
      derivation = rest.slots.derivation;
      there = λ slot. ((λ is. has-slot slot ((rest.slots.there slot).0 is)), (λ has. (rest.slots.there slot).1 (had-slot slot has)));
      cspace = rest.slots.cspace;
      vspace = rest.slots.vspace;
      buffer = rest.slots.buffer;
      bindings = rest.slots.bindings;
    };
    memory = record {
      inside = rest.memory.inside;
      lies = rest.memory.lies;
      named = rest.memory.named;
      live = rest.memory.live;
      bytes = λ place. (
        (λ is. (rest.memory.bytes place).0 (sym (fine.there place) ∙ is)),
        (λ is. fine.there place ∙ (rest.memory.bytes place).1 is),
      );
      small = fine.small;
    };
    mappings = record {
      frame_root = rest.mappings.frame_root;
      frame_table = rest.mappings.frame_table;
      table_root = rest.mappings.table_root;
      one_page = rest.mappings.one_page;
      one_region = rest.mappings.one_region;
      one_table = rest.mappings.one_table;
    };
  }

  pub bytes-whole : IsSound s → ((place : ℕ) → is_some (bytes place) ≡ is_some (s.bytes place)) → ((place byte : ℕ) → bytes place ≡ Some byte → byte < 2 ^ 8)
      → IsSound filled
  bytes-whole whole same small =
      let threads = whole.threads in
      sound-of filled (bytes-rest (rest-of s whole) (record { there = same; small = small })) (record {
        threads = threads.threads;
        ready = threads.ready;
        queued = threads.queued;
        one_sided = threads.one_sided;
        senders = threads.senders;
        words = threads.words;
        idle = threads.idle;
        callers = threads.callers;
        one_right = threads.one_right;
      })

-- what a thread's stores left in its frames
content-some : (o : Option ℕ) (byte : ℕ) → is_some (option_map_or (λ _. Some byte) o None) ≡ is_some o
content-some None byte = refl
content-some (Some _) byte = refl

content-small : (o : Option ℕ) (stored byte : ℕ) → stored < 2 ^ 8 → option_map_or (λ _. Some stored) o None ≡ Some byte → byte < 2 ^ 8
content-small None stored byte less is = let e : None ≡ Some byte = is in absurd cc
content-small (Some _) stored byte less is = let e : stored ≡ byte = cc is in subst (λ (n : ℕ). n < 2 ^ 8) e less

pub content-whole : (s : State) (content : Content) → IsSound s → ((place : ℕ) → content.byte place < 2 ^ 8) → IsSound (with_content s content)
content-whole s content whole small =
    bytes-whole s (λ place. option_map_or (λ byte. Some (content.byte place)) (s.bytes place) None) whole
    (λ place. content-some (s.bytes place) (content.byte place)) (λ place byte is. content-small (s.bytes place) (content.byte place) byte (small place) is)
