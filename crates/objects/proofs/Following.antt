-- The state goes along with slots and with the bytes of frames, since neither a byte of a frame nor one of a record lies in an open slot.
use Rattle.std.proofs.Common.{ℕ, ◌≡◌, ◌∙◌, ◌/◌, Bool, true, false, if◌then◌else◌, Option, Some, None, IsSome, option_map, List, refl, sym, ap, subst}
use Rattle.std.specs.Prelude.{slice_index}
use Rattle.std.specs.Option.{option_map_or}
use Rattle.model.specs.Capabilities.Slots.{IsOpen, SameOutside, Slots}
use Rattle.model.specs.Kernel.Kinds.{frame_around}
use Rattle.model.specs.Kernel.State.{State, with_slots}
use Rattle.model.specs.declared.slot_entries.Entry.{Entry}
use Rattle.objects.specs.Frames.{FitsMemory, IsInRecord, SameBesideFrames, SameKept}
use Rattle.objects.proofs.Linked.{Linked}
use Rattle.objects.specs.Contents.{Contents, byte_in, is_frame, object_with, ready_at, contents_state, told_by, waiting_of}
use Rattle.objects.proofs.Told.{ready-on, ready-same, state_with, waiting-on, waiting-same}
pub use Rattle.objects.proofs.Told.{not-open, own-slots}

-- a slot that was not opened
pub still-open : (slots now : Slots) → ((slot : ℕ) → slots slot ≡ None → now slot ≡ None) → (slot : ℕ) → IsOpen now slot → IsOpen slots slot
still-open slots now closes slot open_now = elim (slots slot) as (λ e. slots slot ≡ e → IsOpen slots slot) [
  | None ↦ λ is. absurd (let clash : false ≡ true = subst (λ (x : Option Entry). IsSome x) (closes slot is) open_now in cc)
  | Some e ↦ λ is. subst (λ (x : Option Entry). IsSome x) (sym is) refl
] refl

module _ (o : Contents) (slots : Slots) (old new : List ℕ) where
  abbrev s : State
  s = contents_state o slots old

  abbrev in_frame : ℕ → Bool
  in_frame place = option_map_or is_frame (o.records (frame_around place)) false

  framed : (place : ℕ) → in_frame place ≡ true → byte_in o.records old place ≡ Some (slice_index old place)
  framed place is = ap (λ b. if b then Some (slice_index old place) else None) is

  byte-same : ((place byte : ℕ) → byte_in o.records old place ≡ Some byte → slice_index new place ≡ slice_index old place) → (place : ℕ)
      → byte_in o.records new place ≡ byte_in o.records old place
  byte-same same place = elim (in_frame place) as (λ b. in_frame place ≡ b
      → (if b then Some (slice_index new place) else None) ≡ (if b then Some (slice_index old place) else None)) [
        | true ↦ λ is. ap Some (same place (slice_index old place) (framed place is))
        | false ↦ λ is. refl
      ] refl

  own-bytes : (place : ℕ) → s.bytes place ≡ byte_in o.records old place
  unfolding told_by
  own-bytes place = refl

  -- where the bytes of frames are the same, the state is that of the bytes before, with those that wait and are ready now
  pub follows-bytes : (now : Slots) → ((place byte : ℕ) → byte_in o.records old place ≡ Some byte → slice_index new place ≡ slice_index old place)
      → contents_state o now new ≡ state_with o (waiting_of o new) (ready_at o new) now old
  unfolding told_by
  follows-bytes now same = λ i. record (contents_state o now new) { bytes = λ place. byte-same same place i }

  -- ---- the bytes of frames and of records are the same

  pub follows-kept : (now : Slots) → Linked o slots old → SameKept s old new → contents_state o now new ≡ with_slots s now
  unfolding told_by
  follows-kept now stands same = λ i. record (contents_state o now new) {
    objects = λ offset. object_with o (waiting-same o slots old new stands same.size same.records offset i) offset;
    ready = λ priority. ready-same o slots old new stands same.size same.records priority i;
    bytes = λ place. byte-same (λ at byte is. same.frames at byte (own-bytes at ∙ is)) place i;
  }

  pub stands-kept : (now : Slots) → Linked o slots old → SameKept s old new → ((place : ℕ) → IsOpen now (place / 16) → s.bytes place ≡ None)
      → ((place : ℕ) → IsOpen now (place / 16) → IsInRecord s.objects place → ⊥) → Linked o now new
  stands-kept now stands same frames records = record {
    fits = subst (λ (t : State). FitsMemory t new) (sym (follows-kept now stands same)) (record {
      size = stands.fits.size ∙ sym same.size;
      frames = frames;
      records = records;
      apart = stands.fits.apart;
      alone = stands.fits.alone;
    });
    waiting = waiting-on o slots old new stands same.size same.records;
    ready = ready-on o slots old new stands same.size same.records;
  }

  -- ---- only bytes of open slots changed

  pub same-outside : Linked o slots old → SameOutside slots old new → SameKept s old new
  same-outside stands same = record {
    size = same.size;
    frames = λ place byte is. same.bytes place (not-open slots (place / 16) (λ is_open.
        let none = stands.fits.frames place (subst (λ (f : Slots). IsOpen f (place / 16)) (sym (own-slots o slots old)) is_open) in
        let clash : None ≡ Some byte = sym none ∙ is in absurd cc));
    records = λ place held. same.bytes place (not-open slots (place / 16) (λ is_open.
        stands.fits.records place (subst (λ (f : Slots). IsOpen f (place / 16)) (sym (own-slots o slots old)) is_open) held));
  }

  pub follows : (now : Slots) → Linked o slots old → SameOutside slots old new → contents_state o now new ≡ with_slots s now
  follows now stands same = follows-kept now stands (same-outside stands same)

  pub stands-still : (now : Slots) → Linked o slots old → SameOutside slots old new → ((slot : ℕ) → slots slot ≡ None → now slot ≡ None) → Linked o now new
  stands-still now stands same closes =
      let was : (place : ℕ) → IsOpen now (place / 16) → IsOpen s.slots (place / 16) =
      λ place is_open. subst (λ (f : Slots). IsOpen f (place / 16)) (sym (own-slots o slots old)) (still-open slots now closes (place / 16) is_open) in
      stands-kept now stands (same-outside stands same) (λ place is_open. stands.fits.frames place (was place is_open))
      (λ place is_open held. stands.fits.records place (was place is_open) held)

  -- ---- only bytes of frames changed

  framed-now : (place : ℕ) → byte_in o.records new place ≡ option_map (λ _. slice_index new place) (byte_in o.records old place)
  framed-now place = elim (in_frame place) as (λ b. (if b then Some (slice_index new place) else None) ≡ option_map (λ _. slice_index new place)
      (if b then Some (slice_index old place) else None)) [
        | true ↦ refl
        | false ↦ refl
      ]

  beside-records : Linked o slots old → SameBesideFrames s old new → (place : ℕ) → IsInRecord s.objects place → slice_index new place ≡ slice_index old place
  beside-records stands same place held = same.bytes place (stands.fits.apart place held)

  pub follows-frames : Linked o slots old → SameBesideFrames s old new
      → contents_state o slots new ≡ record s { bytes = λ place. option_map (λ _. slice_index new place) (s.bytes place) }
  unfolding told_by
  follows-frames stands same = λ i. record s {
    objects = λ offset. object_with o (waiting-same o slots old new stands same.size (beside-records stands same) offset i) offset;
    ready = λ priority. ready-same o slots old new stands same.size (beside-records stands same) priority i;
    bytes = λ place. framed-now place i;
  }

  pub stands-frames : Linked o slots old → SameBesideFrames s old new → Linked o slots new
  stands-frames stands same =
      let none : (b : Option ℕ) (byte : ℕ) → b ≡ None → option_map (λ _. byte) b ≡ None = λ b byte is. ap (option_map (λ _. byte)) is in
      record {
        fits = subst (λ (t : State). FitsMemory t new) (sym (follows-frames stands same)) (record {
          size = stands.fits.size ∙ sym same.size;
          frames = λ place is_open. none (s.bytes place) (slice_index new place) (stands.fits.frames place is_open);
          records = stands.fits.records;
          apart = λ place held. none (s.bytes place) (slice_index new place)
              (stands.fits.apart place held);
          alone = stands.fits.alone;
        });
        waiting = waiting-on o slots old new stands same.size (beside-records stands same);
        ready = ready-on o slots old new stands same.size (beside-records stands same);
      }

framed-byte : (b : Bool) (now byte : ℕ) → (if b then Some now else None) ≡ Some byte → byte ≡ now
framed-byte true now byte is = let same : now ≡ byte = cc in sym same
framed-byte false now byte is = absurd (let clash : None ≡ Some byte = is in cc)

-- where a state has a byte, memory has it
pub byte-there : (o : Contents) (slots : Slots) (memory : List ℕ) (place byte : ℕ) → (contents_state o slots memory).bytes place ≡ Some byte →
    byte ≡ slice_index memory place
unfolding told_by
byte-there o slots memory place byte is = framed-byte (option_map_or is_frame (o.records (frame_around place)) false) (slice_index memory place) byte is
