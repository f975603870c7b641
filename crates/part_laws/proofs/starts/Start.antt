-- The states that an image and the image of a part alone describe agree: they differ in others' control blocks and code, and in the ready lists.
use Rattle.std.proofs.Common.{ℕ, zero, suc, ◌≡◌, ◌∙◌, ◌==◌, ◌<◌, ◌++◌, inl, inr, Bool, true, false, if◌then◌else◌, List, [], ◌∷◌, map, filter, find}
use Rattle.std.proofs.Common.{Option, Some, None, option_map, refl, sym, ap, subst, arith}
use Rattle.std.specs.Prelude.{Contains, flat_map, option_and_then, slice_get}
use Rattle.std.specs.Option.{option_map_or}
use Rattle.std.specs.List.{range_with_len}
use Rattle.std.proofs.lemmas.Bool.{false≢true}
use Rattle.std.proofs.lemmas.Bool.Decides.{eqb_tells}
use Rattle.std.proofs.lemmas.Option.{none-some, same_Some}
use Rattle.format_laws.proofs.Laws.{is-fitting}
use Rattle.soundness.proofs.Laws.{are-formed, buffer-slot, cspace-slot, slot-behind-boot, slot-of-one, vspace-slot}
use Rattle.model.specs.Acceptance.Accepted.{IsAccepted}
use Rattle.model.specs.Acceptance.ThreadInvariants.{tcb_of}
use Rattle.model.specs.Images.Described.{Holding, Numbered, boot_holdings, buffer_holdings, described, described_object, first_some, held_in, holding}
use Rattle.model.specs.Images.Described.{holdings}
use Rattle.model.specs.Images.Described.{is_object_slot, is_open_slot, listed_holding, listed_thread, numbered_threads, object_there, original}
use Rattle.model.specs.Images.Described.{thread_holdings}
use Rattle.model.specs.Images.Image.{Image, Thread, no_buffer}
use Rattle.model.specs.Capabilities.CapabilityKinds.{with_payload}
use Rattle.model.specs.Capabilities.Slots.{empty_entry}
use Rattle.model.specs.Images.Places.{offset_of, original_slot, type_at}
use Rattle.model.specs.Kernel.Retype.{object}
use Rattle.model.specs.Kernel.State.{Object, ThreadObject, boot_area_slots, buffer_slot, cspace_slot, slot_of, vspace_slot}
use Rattle.headline.specs.kept.Laws.{HaveOwnBlocks}
use Rattle.headline.specs.parts.Agreeing.{IsSlotOfPart, is_own_slot, is_block_slot}
use Rattle.headline.specs.parts.Parts.{Part, alone, is_in, is_thread_in, takes_nothing}
use Rattle.headline.proofs.Laws.{is-listed}
use Rattle.part_laws.specs.Agreeing.{IsOfPart}
use Rattle.part_laws.proofs.changes.Members.{is-member, listed-from, no-member}
use Rattle.part_laws.proofs.outside.Blocks.{block-apart, block-thread}
use Rattle.part_laws.proofs.outside.Nothing.{block-of, decide}
use Rattle.part_laws.proofs.starts.Kept.{append-kept, find-kept, flat-kept, map-kept, map-range}

-- ---- what is the same of both images

same-offset : (image : Image) (part : Part) (number : ℕ) → offset_of (alone image part) number ≡ offset_of image number
unfolding alone offset_of
same-offset image part number = refl

same-type : (image : Image) (part : Part) (number : ℕ) → type_at (alone image part) number ≡ type_at image number
unfolding alone
same-type image part number = refl

pub alone-threads : (image : Image) (part : Part) → (alone image part).threads ≡ filter (is_in part) image.threads
unfolding alone
alone-threads image part = refl

same-count : (image : Image) (part : Part) → (alone image part).header.objects ≡ image.header.objects
unfolding alone
same-count image part = refl

-- no line is masked, and none waits
pub start-same-lines : (image : Image) (part : Part) (line : ℕ) → ((described image).masked line ≡ (described (alone image part)).masked line)
    × ((described image).pending line ≡ (described (alone image part)).pending line)
unfolding described
start-same-lines image part line = (refl, refl)

module _ (bytes : List ℕ) (image : Image) (accepted : IsAccepted bytes image) (own_blocks : HaveOwnBlocks) (part : Part)
    (nothing : takes_nothing image part ≡ true) where
  -- a thread of the image by its place
  numbered-one : (k : ℕ) (t : Thread) → slice_get image.threads k ≡ Some t → (u : Numbered) × (Contains (numbered_threads image) u × (u.thread ≡ t))
  numbered-one k t at = let there = listed-from 0 image.threads k t at in (record { number = there.0; thread = t }, (there.1, refl))

  -- ---- ready lists

  in-same : (k : ℕ) (t : Thread) → slice_get image.threads k ≡ Some t → is_thread_in image part (offset_of image t.header.tcb) ≡ is_in part t
  in-same k t at =
      let u = numbered-one k t at in
      by (is_in part t) refl u.0 u.1.0 u.1.1
    where
      by : (b : Bool) → is_in part t ≡ b → (u : Numbered) → Contains (numbered_threads image) u → u.thread ≡ t
          → is_thread_in image part (offset_of image t.header.tcb) ≡ is_in part t
      by true is u among same =
          ap (λ (v : Thread). is_thread_in image part (offset_of image v.header.tcb)) (sym same)
          ∙ is-member image part u among (ap (is_in part) same ∙ is) ∙ sym is
      by false isnt u among same =
          ap (λ (v : Thread). is_thread_in image part (offset_of image v.header.tcb)) (sym same)
          ∙ no-member bytes image accepted own_blocks part u among (ap (is_in part) same ∙ isnt) ∙ sym isnt

  pub start-ready : (priority : ℕ) → (described (alone image part)).ready priority ≡ filter (is_thread_in image part) ((described image).ready priority)
  unfolding described
  start-ready priority =
      ap (λ (ts : List Thread). map (λ (t : Thread). offset_of (alone image part) t.header.tcb) (filter (λ t. t.header.priority == priority) ts))
      (alone-threads image part)
      ∙ (λ i. map (λ (t : Thread). same-offset image part t.header.tcb i) (filter (λ t. t.header.priority == priority) (filter (is_in part) image.threads)))
      ∙ map-kept (λ (t : Thread). offset_of image t.header.tcb) (λ t. t.header.priority == priority) (is_in part) (is_thread_in image part) image.threads
      (λ k t at. in-same k t at)

  -- ---- objects

  found-thread : (number : ℕ) (v : Thread) → find (λ (t : Thread). t.header.tcb == number) image.threads ≡ Some v
      → (k : ℕ) × ((slice_get image.threads k ≡ Some v) × (v.header.tcb ≡ number))
  found-thread number v is = from image.threads v is
    where
      from : (ts : List Thread) (v : Thread) → find (λ (t : Thread). t.header.tcb == number) ts ≡ Some v
          → (k : ℕ) × ((slice_get ts k ≡ Some v) × (v.header.tcb ≡ number))
      from [] v is = absurd (none-some v is)
      from (t ∷ ts) v is = elim (eqb_tells t.header.tcb number) [
        | inl here ↦
            let same : t ≡ v = same_Some t v (sym (ap (λ b. if b then Some t else find (λ (u : Thread). u.header.tcb == number) ts) here.0) ∙ is) in
            (0, (ap (λ (u : Thread). Some u) same, ap (λ (u : Thread). u.header.tcb) (sym same) ∙ here.1))
        | inr other ↦
            let later = from ts v (sym (ap (λ b. if b then Some t else find (λ (u : Thread). u.header.tcb == number) ts) other.0) ∙ is) in
            (suc later.0, later.1)
      ]

  module _ (offset : ℕ) (of : IsOfPart image part offset) where
    -- the thread whose control block lies there is the part's
    here-inside : (number : ℕ) → offset_of image number ≡ offset → (v : Thread) → find (λ (t : Thread). t.header.tcb == number) image.threads ≡ Some v
        → is_in part v ≡ true
    here-inside number at v is =
        let f = found-thread number v is in
        let u = numbered-one f.0 v f.1.0 in
        let place : offset ≡ tcb_of image u.0 = sym at ∙ ap (offset_of image) (sym f.1.1) ∙ ap (λ (t : Thread). offset_of image t.header.tcb) (sym u.1.1) in
        ap (is_in part) (sym u.1.1)
        ∙ decide (is_in part u.0.thread) (λ isnt.
        block-of bytes image accepted part nothing u.0 u.1.0 isnt (subst (IsOfPart image part) place of))

    same-there : (number : ℕ) → object_there image offset number ≡ object_there (alone image part) offset number
    same-there number = elim (eqb_tells (offset_of image number) offset) [
      | inr other ↦
          ap (λ b. if b then described_object image number else None) other.0
          ∙ sym (ap (λ (n : ℕ). if n == offset then described_object (alone image part) number else None) (same-offset image part number)
          ∙ ap (λ b. if b then described_object (alone image part) number else None) other.0)
      | inl here ↦
          ap (λ b. if b then described_object image number else None) here.0 ∙ same-described number here.1
          ∙ sym (ap (λ (n : ℕ). if n == offset then described_object (alone image part) number else None) (same-offset image part number)
          ∙ ap (λ b. if b then described_object (alone image part) number else None) here.0)
    ]
      where
        same-described : (number : ℕ) → offset_of image number ≡ offset → described_object image number ≡ described_object (alone image part) number
        same-described number at =
            ap (λ (o : Option Thread). option_map_or (λ t. Some (ThreadObject (listed_thread t))) o (option_and_then object (type_at image number)))
            (sym (find-kept (λ (t : Thread). t.header.tcb == number) (is_in part) image.threads (here-inside number at))
            ∙ ap (find (λ (t : Thread). t.header.tcb == number)) (sym (alone-threads image part)))
            ∙ ap (λ k. option_map_or (λ t. Some (ThreadObject (listed_thread t))) (find (λ (t : Thread). t.header.tcb == number) (alone image part).threads)
            (option_and_then object k)) (sym (same-type image part number))

    pub start-object : (described image).objects offset ≡ (described (alone image part)).objects offset
    unfolding described
    start-object =
        ap (λ (l : List (Option Object)). first_some l)
        (map-range (object_there image offset) (object_there (alone image part) offset) 0 image.header.objects (λ n less. same-there n))
        ∙ ap (λ (n : ℕ). first_some (map (object_there (alone image part) offset) (range_with_len 0 n))) (sym (same-count image part))

  -- ---- slots

  abbrev cspace_holding : Image → Thread → Holding
  cspace_holding i t =
      holding (cspace_slot (offset_of i t.header.tcb)) (with_payload (original i t.header.cnode) t.header.guard) (Some (original_slot i t.header.cnode))

  abbrev vspace_holding : Image → Thread → Holding
  vspace_holding i t = holding (vspace_slot (offset_of i t.header.tcb)) (original i t.header.root) (Some (original_slot i t.header.root))

  -- of a slot in no other thread's control block both hold the same
  module _ (slot : ℕ) (no_block : (v : Numbered) → Contains (numbered_threads image) v → is_in part v.thread ≡ false
      → is_object_slot image slot v.thread.header.tcb ≡ true → ⊥) where
    key-apart : (v : Numbered) → Contains (numbered_threads image) v → is_in part v.thread ≡ false → (key : ℕ)
        → is_object_slot image key v.thread.header.tcb ≡ true → (key == slot) ≡ false
    key-apart v among isnt key there = elim (eqb_tells key slot) [
      | inr other ↦ other.0
      | inl here ↦ absurd (no_block v among isnt (subst (λ (n : ℕ). is_object_slot image n v.thread.header.tcb ≡ true) here.1 there))
    ]

    none-held : (v : Numbered) → Contains (numbered_threads image) v → is_in part v.thread ≡ false
        → find (λ (h : Holding). h.0 == slot) (thread_holdings image v.thread) ≡ None
    none-held v among isnt =
        let type = block-thread image accepted.spelled.fits accepted.formed v among in
        let tcb = tcb_of image v in
        let first = key-apart v among isnt (cspace_slot tcb) (cspace-slot image v.thread.header.tcb type) in
        let second = key-apart v among isnt (vspace_slot tcb) (vspace-slot image v.thread.header.tcb type) in
        let third = key-apart v among isnt (buffer_slot tcb) (buffer-slot image v.thread.header.tcb type) in
        ap (λ b. if b then Some (cspace_holding image v.thread)
        else find (λ (h : Holding). h.0 == slot) (vspace_holding image v.thread ∷ buffer_holdings image v.thread)) first
        ∙ ap (λ b. if b then Some (vspace_holding image v.thread)
        else find (λ (h : Holding). h.0 == slot) (buffer_holdings image v.thread)) second
        ∙ in-buffer (v.thread.header.buffer == no_buffer) third
      where
        in-buffer : (b : Bool) → (buffer_slot (tcb_of image v) == slot) ≡ false → find (λ (h : Holding). h.0 == slot)
            (if b then [] else holding (buffer_slot (tcb_of image v)) (original image v.thread.header.buffer)
            (Some (original_slot image v.thread.header.buffer)) ∷ []) ≡ None
        in-buffer true apart = refl
        in-buffer false apart = ap (λ b. if b then Some (holding (buffer_slot (tcb_of image v)) (original image v.thread.header.buffer)
            (Some (original_slot image v.thread.header.buffer))) else None) apart

    same-open : is_open_slot (alone image part) slot ≡ is_open_slot image slot
    unfolding alone offset_of is_open_slot
    same-open = refl

    same-first : boot_holdings (alone image part) ++ map (listed_holding (alone image part)) (alone image part).capabilities
        ≡ boot_holdings image ++ map (listed_holding image) image.capabilities
    unfolding alone offset_of boot_holdings
    same-first = refl

    same-own : (t : Thread) → thread_holdings (alone image part) t ≡ thread_holdings image t
    unfolding alone offset_of
    same-own t = refl

    alone-found : find (λ (h : Holding). h.0 == slot) (holdings (alone image part))
        ≡ find (λ (h : Holding). h.0 == slot) (boot_holdings image ++ map (listed_holding image) image.capabilities
        ++ flat_map (thread_holdings image) (filter (is_in part) image.threads))
    unfolding holdings
    alone-found = λ i. find (λ (h : Holding). h.0 == slot) (same-first i ++ flat_map (λ (t : Thread). same-own t i) (alone-threads image part i))

    same-held : held_in (holdings image) slot ≡ held_in (holdings (alone image part)) slot
    unfolding holdings
    same-held =
        ap (option_map (λ (h : Holding). h.1))
        (append-kept (λ (h : Holding). h.0 == slot) (boot_holdings image ++ map (listed_holding image) image.capabilities)
        (flat_map (thread_holdings image) image.threads) (flat_map (thread_holdings image) (filter (is_in part) image.threads))
        (sym (flat-kept (λ (h : Holding). h.0 == slot) (thread_holdings image) (is_in part) image.threads
        (λ k t at isnt. let u = numbered-one k t at in
        ap (λ (v : Thread). find (λ (h : Holding). h.0 == slot) (thread_holdings image v)) (sym u.1.1)
        ∙ none-held u.0 u.1.0 (ap (is_in part) u.1.1 ∙ isnt))))
        ∙ sym alone-found)

    same-slot : (described image).slots slot ≡ (described (alone image part)).slots slot
    unfolding described
    same-slot =
        ap (λ b. if b then Some (option_map_or (λ held. held) (held_in (holdings image) slot) empty_entry) else None) (sym same-open)
        ∙ ap (λ o. if is_open_slot (alone image part) slot then Some (option_map_or (λ held. held) o empty_entry) else None) same-held

  module _ (slot : ℕ) (of : IsSlotOfPart image part slot) where
    -- it is in no other thread's control block
    no-block : (v : Numbered) → Contains (numbered_threads image) v → is_in part v.thread ≡ false → is_object_slot image slot v.thread.header.tcb ≡ true → ⊥
    no-block v among isnt there = by of
      where
        object-slot : (u : Numbered) → Contains (numbered_threads image) u → (index : ℕ) → index < 3
            → is_object_slot image (slot_of (tcb_of image u) index) u.thread.header.tcb ≡ true
        object-slot u among zero less = cspace-slot image u.thread.header.tcb (block-thread image accepted.spelled.fits accepted.formed u among)
        object-slot u among (suc zero) less = vspace-slot image u.thread.header.tcb (block-thread image accepted.spelled.fits accepted.formed u among)
        object-slot u among (suc (suc zero)) less = buffer-slot image u.thread.header.tcb (block-thread image accepted.spelled.fits accepted.formed u among)
        object-slot u among (suc (suc (suc n))) less = absurd (omega (arith, less))

        tcb-less : (u : Numbered) → Contains (numbered_threads image) u → u.thread.header.tcb < image.header.objects
        tcb-less u among =
            let at = is-listed image u among in ((is-fitting image accepted.spelled.fits).thread at.number u.thread at.listed).tcb

        by : IsSlotOfPart image part slot → ⊥
        by (is_own_slot u member own) = block-apart image accepted.spelled.fits accepted.formed v among slot there u member.listed own
        by (is_block_slot u index member is less) =
            let same = slot-of-one image (is-fitting image accepted.spelled.fits) (are-formed image accepted.formed) u.thread.header.tcb
            v.thread.header.tcb slot
            (tcb-less u member.listed) (tcb-less v among)
            (subst (λ (n : ℕ). is_object_slot image n u.thread.header.tcb ≡ true) (sym is) (object-slot u member.listed index less)) there in
            false≢true (sym isnt ∙ ap part (sym same) ∙ member.inside)

    pub start-slot : (described image).slots slot ≡ (described (alone image part)).slots slot
    start-slot = same-slot slot no-block

  pub boot-slot : (slot : ℕ) → slot < boot_area_slots image.header.boot_radix → (described image).slots slot ≡ (described (alone image part)).slots slot
  boot-slot slot below = same-slot slot (λ v among isnt there.
      let fitting = is-fitting image accepted.spelled.fits in
      let at = is-listed image v among in
      let behind = slot-behind-boot image fitting (are-formed image accepted.formed) v.thread.header.tcb slot
      (fitting.thread at.number v.thread at.listed).tcb there in
      omega (arith, behind, below))
