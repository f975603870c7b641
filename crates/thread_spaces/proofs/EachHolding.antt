-- What is true of each full slot that an image describes, section by section.
use Rattle.std.proofs.Common.{ℕ, zero, suc, ◌==◌, ◌≡◌, ◌∙◌, ◌⊎◌, ◌+◌, ◌<◌, inl, inr, Bool, true, false, not, if◌then◌else◌, cond, Some, None, List, [], ◌∷◌}
use Rattle.std.proofs.Common.{◌++◌}
use Rattle.std.proofs.Common.{map, filter, refl, sym, subst, arith}
use Rattle.std.specs.Prelude.{flat_map, slice_get}
use Rattle.std.specs.Option.{option_map_or, option_or}
use Rattle.std.specs.List.{range_with_len}
use Rattle.std.proofs.lemmas.Bool.Decides.{eqb_tells}
use Rattle.std.proofs.lemmas.Option.{none-some, same_Some}
use Rattle.soundness.proofs.Laws.{held-append, held-here, held-later, numbered-back}
use Rattle.model.specs.declared.capabilities.Cap.TheVariants.{InterruptControl}
use Rattle.model.specs.declared.entries.CapabilityEntry.{CapabilityEntry}
use Rattle.model.specs.declared.entries.FrameEntry.{FrameEntry}
use Rattle.model.specs.declared.entries.InterruptEntry.{InterruptEntry}
use Rattle.model.specs.declared.entries.UntypedEntry.{UntypedEntry}
use Rattle.model.specs.declared.slot_entries.Entry.{Entry}
use Rattle.model.specs.Capabilities.Slots.{empty_entry}
use Rattle.model.specs.Images.Described.{Holding, binding_holding, boot_holdings, buffer_holdings, described, frame_holding, handler_holding, held_in, holding}
use Rattle.model.specs.Images.Described.{holdings}
use Rattle.model.specs.Images.Described.{is_listed_pool, is_open_slot, listed_holding, notification_holding, numbered, original, original_holding, originals}
use Rattle.model.specs.Images.Described.{thread_holdings, untyped_holding}
use Rattle.model.specs.Images.Image.{Image, Thread, no_buffer}
use Rattle.model.specs.Images.Places.{control_slot, offset_of, original_slot}
use Rattle.model.specs.Kernel.State.{buffer_slot, cspace_slot, vspace_slot}
use Rattle.model.specs.Capabilities.CapabilityKinds.{with_payload}

-- the capabilities in a thread's own slots
abbrev pub cspace_holding : Image → Thread → Holding
cspace_holding image t =
    holding (cspace_slot (offset_of image t.header.tcb)) (with_payload (original image t.header.cnode) t.header.guard)
    (Some (original_slot image t.header.cnode))

abbrev pub vspace_holding : Image → Thread → Holding
vspace_holding image t = holding (vspace_slot (offset_of image t.header.tcb)) (original image t.header.root) (Some (original_slot image t.header.root))

abbrev pub buffer_holding : Image → Thread → Holding
buffer_holding image t =
    holding (buffer_slot (offset_of image t.header.tcb)) (original image t.header.buffer) (Some (original_slot image t.header.buffer))

module _ (P : ℕ → Entry → Type 0) where
  abbrev Is : Holding → Type 0
  Is h = P h.0 h.1

  abbrev pub Each : List Holding → Type 0
  Each full = (slot : ℕ) (held : Entry) → held_in full slot ≡ Some held → P slot held

  each-none : Each []
  each-none slot held is = absurd (none-some held is)

  each-more : (h : Holding) (rest : List Holding) → Is h → Each rest → Each (h ∷ rest)
  each-more h rest one others slot held is = elim (eqb_tells h.0 slot) [
    | inl here ↦ subst (λ (n : ℕ). P n held) here.1 (subst (λ (e : Entry). P h.0 e) (same_Some h.1 held (sym (held-here h rest slot here.1) ∙ is)) one)
    | inr apart ↦ others slot held (sym (held-later h rest slot apart.1) ∙ is)
  ]

  each-both : (first rest : List Holding) → Each first → Each rest → Each (first ++ rest)
  each-both first rest one two slot held is =
      elim (held_in first slot) as (λ o. held_in first slot ≡ o → option_or o (held_in rest slot) ≡ Some held → P slot held) [
        | None ↦ λ _ found. two slot held found
        | Some x ↦ λ here found. one slot held (here ∙ found)
      ] refl (sym (held-append first rest slot) ∙ is)

  each-mapped : {A : Type 0} (g : A → Holding) (xs : List A) → ((j : ℕ) (y : A) → slice_get xs j ≡ Some y → Is (g y)) → Each (map g xs)
  each-mapped g [] each = each-none
  each-mapped g (y ∷ ys) each = each-more (g y) (map g ys) (each 0 y refl) (each-mapped g ys (λ j z at. each (suc j) z at))

  each-range : (g : ℕ → Holding) (keeps : ℕ → Bool) (first count : ℕ) → ((n : ℕ) → n < first + count → Is (g n)) →
      Each (map g (filter keeps (range_with_len first count)))
  each-range g keeps first zero each = each-none
  each-range g keeps first (suc count) each =
      let rest = each-range g keeps (first + 1) count (λ n less. each n (omega (arith, less))) in
      elim (keeps first) as (λ b.
      Each (map g (cond b (first ∷ filter keeps (range_with_len (first + 1) count)) (filter keeps (range_with_len (first + 1) count))))) [
        | true ↦ each-more (g first) (map g (filter keeps (range_with_len (first + 1) count))) (each first (omega arith)) rest
        | false ↦ rest
      ]

  each-flat : {A : Type 0} (f : A → List Holding) (xs : List A) → ((j : ℕ) (y : A) → slice_get xs j ≡ Some y → Each (f y)) → Each (flat_map f xs)
  each-flat f [] each = each-none
  each-flat f (y ∷ ys) each = each-both (f y) (flat_map f ys) (each 0 y refl) (each-flat f ys (λ j z at. each (suc j) z at))

  -- what has to be shown of each section
  pub record OfSections (image : Image) : Type 0 where
    pub untyped : (k : ℕ) (u : UntypedEntry) → slice_get image.untypeds k ≡ Some u → Is (untyped_holding image (k, u))
    pub original : (number : ℕ) → number < image.header.objects → Is (original_holding image number)
    pub control : Is (holding (control_slot image) InterruptControl None)
    pub handler : (k : ℕ) (i : InterruptEntry) → slice_get image.interrupts k ≡ Some i → Is (handler_holding image (k, i))
    pub frame : (k : ℕ) (f : FrameEntry) → slice_get image.frames k ≡ Some f → Is (frame_holding image (k, f))
    pub notification : (k : ℕ) (i : InterruptEntry) → slice_get image.interrupts k ≡ Some i → Is (notification_holding image (k, i))
    pub binding : (k : ℕ) (i : InterruptEntry) → slice_get image.interrupts k ≡ Some i → Is (binding_holding image (k, i))
    pub listed : (k : ℕ) (c : CapabilityEntry) → slice_get image.capabilities k ≡ Some c → Is (listed_holding image c)
    pub thread : (k : ℕ) (t : Thread) → slice_get image.threads k ≡ Some t → Each (thread_holdings image t)

  each-numbered : {A : Type 0} (g : ℕ × A → Holding) (xs : List A) → ((k : ℕ) (x : A) → slice_get xs k ≡ Some x → Is (g (k, x))) → Each (map g (numbered xs))
  each-numbered g xs each = each-mapped g (numbered xs) (λ j y at.
      let back = numbered-back xs j y at in
      subst (λ (n : ℕ). Is (g (n, y.1))) (sym back.0) (each j y.1 back.1))

  pub each-holding : (image : Image) → OfSections image → Each (holdings image)
  unfolding holdings boot_holdings
  each-holding image of =
      let threads = flat_map (thread_holdings image) image.threads in
      let listed = map (listed_holding image) image.capabilities in
      let bindings = map (binding_holding image) (numbered image.interrupts) in
      let signals = map (notification_holding image) (numbered image.interrupts) in
      let frames = map (frame_holding image) (numbered image.frames) in
      let handlers = map (handler_holding image) (numbered image.interrupts) in
      let control : List Holding = holding (control_slot image) InterruptControl None ∷ [] in
      each-both _ threads (each-both _ listed (each-both _ bindings (each-both _ signals (each-both _ frames (each-both _ handlers (each-both _ control
      (each-both (map (untyped_holding image) (numbered image.untypeds)) (originals image)
      (each-numbered (untyped_holding image) image.untypeds of.untyped)
      (each-range (original_holding image) (λ number. not (is_listed_pool image number)) 0 image.header.objects
      (λ n less. of.original n (omega (arith, less)))))
      (each-more _ [] of.control each-none))
      (each-numbered (handler_holding image) image.interrupts of.handler))
      (each-numbered (frame_holding image) image.frames of.frame))
      (each-numbered (notification_holding image) image.interrupts of.notification))
      (each-numbered (binding_holding image) image.interrupts of.binding))
      (each-mapped (listed_holding image) image.capabilities of.listed))
      (each-flat (thread_holdings image) image.threads of.thread)

  each-if : (h : Holding) (absent : Bool) → (absent ≡ false → Is h) → Each (if absent then [] else h ∷ [])
  each-if h true one = each-none
  each-if h false one = each-more h [] (one refl) each-none

  -- a thread's own slots: its CNode, its root table, and its buffer, if it has one
  pub each-own : (image : Image) (t : Thread) → Is (cspace_holding image t) → Is (vspace_holding image t)
      → ((t.header.buffer == no_buffer) ≡ false → Is (buffer_holding image t)) → Each (thread_holdings image t)
  each-own image t cspace vspace buffer =
      each-more (cspace_holding image t) (vspace_holding image t ∷ buffer_holdings image t) cspace
      (each-more (vspace_holding image t) (buffer_holdings image t) vspace (each-if (buffer_holding image t) (t.header.buffer == no_buffer) buffer))

  -- what a slot of the described state holds that is open
  pub each-slot : (image : Image) → OfSections image → (slot : ℕ) (held : Entry) → (described image).slots slot ≡ Some held → (held ≡ empty_entry) ⊎ P slot held
  unfolding described
  each-slot image of slot held is =
      elim (is_open_slot image slot) as (λ b. (if b then Some (option_map_or (λ e. e) (held_in (holdings image) slot) empty_entry) else None) ≡ Some held →
      (held ≡ empty_entry) ⊎ P slot held) [
        | false ↦ λ clash. absurd (none-some held clash)
        | true ↦ λ there. elim (held_in (holdings image) slot) as (λ o. held_in (holdings image) slot ≡ o →
            Some (option_map_or (λ e. e) o empty_entry) ≡ Some held → (held ≡ empty_entry) ⊎ P slot held) [
              | None ↦ λ _ same. inl (sym (same_Some empty_entry held same))
              | Some e ↦ λ found same. inr (subst (λ (x : Entry). P slot x) (same_Some e held same) (each-holding image of slot e found))
            ] refl there
      ] is
