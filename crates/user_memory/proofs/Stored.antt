-- Where only bytes of frames change, the state changes in these alone, and what is kept of it agrees, and its invariant holds, as before.
use Rattle.std.proofs.Common.{ℕ, ◌≡◌, ◌∙◌, false, true, Option, Some, None, IsSome, option_map, List, refl, sym, ap, subst}
use Rattle.std.specs.Prelude.{slice_index}
use Rattle.std.specs.Option.{option_map_or}
use Rattle.kernel_invariant.proofs.Laws.{agrees-less, less-same}
use Rattle.kernel_invariant.specs.Agreement.{Agrees}
use Rattle.model.specs.Capabilities.Slots.{Slots}
use Rattle.model.specs.Kernel.AddressSpaces.{with_content}
use Rattle.model.specs.Kernel.State.{State}
use Rattle.model.specs.Machine.ProgramMemory.{Content}
use Rattle.objects.proofs.Laws.{byte-there, follows-frames, stands-frames}
use Rattle.objects.specs.Frames.{SameBesideFrames}
use Rattle.objects.specs.Standing.{Standing}
use Rattle.objects.specs.Tables.{Tables, state_of}
use Rattle.vspace.proofs.Laws.{agree-beside}
use Rattle.vspace.specs.Tables.{TablesAgree}

-- the byte that is there is memory's
some-byte : (b : Option ℕ) (now : ℕ) → IsSome b → ((byte : ℕ) → b ≡ Some byte → byte ≡ now) → b ≡ Some now
some-byte (Some byte) now some is = ap Some (is byte refl)
some-byte None now some is = absurd (let clash : false ≡ true = some in cc)

pub own-byte : (o : Tables) (slots : Slots) (memory : List ℕ) (place : ℕ) → IsSome ((state_of o slots memory).bytes place)
    → (state_of o slots memory).bytes place ≡ Some (slice_index memory place)
own-byte o slots memory place some = some-byte ((state_of o slots memory).bytes place) (slice_index memory place) some
    (λ byte is. byte-there o slots memory place byte is)

-- and it is so for every byte that is there
pub own-bytes : (o : Tables) (slots : Slots) (memory : List ℕ) (place : ℕ)
    → option_map (λ _. slice_index memory place) ((state_of o slots memory).bytes place) ≡ (state_of o slots memory).bytes place
own-bytes o slots memory place =
    elim ((state_of o slots memory).bytes place) as (λ b. (state_of o slots memory).bytes place ≡ b → option_map (λ _. slice_index memory place) b ≡ b) [
      | None ↦ λ is. refl
      | Some byte ↦ λ is. ap Some (sym (byte-there o slots memory place byte is))
    ] refl

-- bytes that are the same outside of frames
same-hidden : (b c : Option ℕ) (new old : ℕ) → option_map_or (λ _. None) b (Some new) ≡ option_map_or (λ _. None) c (Some old) → c ≡ None → new ≡ old
same-hidden None None new old same none = cc
same-hidden (Some x) None new old same none = absurd (let clash : None ≡ Some old = same in cc)
same-hidden b (Some y) new old same none = absurd (let clash : Some y ≡ None = none in cc)

seen-byte : (b : Option ℕ) (now byte : ℕ) → byte ≡ option_map_or (λ byte. byte) (option_map (λ _. now) b) 0
    → option_map (λ _. now) b ≡ option_map_or (λ _. Some byte) b None
seen-byte (Some old) now byte seen = ap Some (sym seen)
seen-byte None now byte seen = refl

none-still : (b : Option ℕ) (now : ℕ) → b ≡ None → option_map (λ _. now) b ≡ None
none-still b now none = ap (option_map (λ _. now)) none

module _ (o : Tables) (slots : Slots) (old new : List ℕ) where
  abbrev before : State
  before = state_of o slots old

  -- the state with memory's bytes in its frames
  abbrev filled : State
  filled = record before { bytes = λ place. option_map (λ _. slice_index new place) (before.bytes place) }

  pub hidden-same : ((place : ℕ) → option_map_or (λ _. None) ((state_of o slots new).bytes place) (Some (slice_index new place))
      ≡ option_map_or (λ _. None) (before.bytes place) (Some (slice_index old place))) → (place : ℕ) → before.bytes place ≡ None →
      slice_index new place ≡ slice_index old place
  hidden-same same place none = same-hidden ((state_of o slots new).bytes place) (before.bytes place) (slice_index new place) (slice_index old place)
      (same place) none

  module _ (stood : Standing o slots old) (same : SameBesideFrames before old new) where
    pub stored-state : state_of o slots new ≡ filled
    stored-state = follows-frames o slots old new stood same

    pub stored-stands : Standing o slots new
    stored-stands = stands-frames o slots old new stood same

    pub content-left : (content : Content) → ((place : ℕ) → content.byte place ≡ option_map_or (λ byte. byte) ((state_of o slots new).bytes place) 0)
        → state_of o slots new ≡ with_content before content
    content-left content sees = stored-state ∙ (λ i. record before {
      bytes = λ place. seen-byte (before.bytes place) (slice_index new place) (content.byte place)
          (sees place ∙ ap (λ (t : State). option_map_or (λ byte. byte) (t.bytes place) 0) stored-state) i;
    })

    tables-left : Agrees before old → TablesAgree slots new
    unfolding state_of
    tables-left agrees = agree-beside slots old new agrees.tables (record {
      size = same.size;
      bytes = λ table place named low high. same.bytes place (agrees.frames table place named low high);
    })

    pub stored-agrees : Agrees before old → Agrees (state_of o slots new) new
    unfolding state_of
    stored-agrees agrees = subst (λ (t : State). Agrees t new) (sym stored-state)
        (agrees-less before filled old new agrees (tables-left agrees) refl same.size (less-same slots)
        (λ place none. none-still (before.bytes place) (slice_index new place) none) (λ offset kind is. is))
