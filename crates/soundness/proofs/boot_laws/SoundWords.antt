-- The words of the loader's calls are words of 32 bits, and what it fills are bytes, for an image that fits its format.
use Rattle.std.proofs.Common.{ℕ, suc, ◌≡◌, ◌+◌, ◌-◌, ◌/◌, ◌%◌, ◌^◌, ◌<◌, ◌≤◌, ◌==◌, ◌&&◌, ◌||◌, true, false, nat_le, nat_lt, if◌then◌else◌, List, [], ◌∷◌, ◌++◌}
use Rattle.std.proofs.Common.{map, drop, option_map, Option, Some, None, inl, inr, refl, subst, arith}
use Rattle.std.specs.Prelude.{All, ⊤, filter_map, flat_map, slice_get}
use Rattle.std.specs.List.{cons_option}
use Rattle.std.proofs.lemmas.Bool.{and_parts, eqb-true, leb-true, or_cases}
use Rattle.std.proofs.lemmas.List.Elements.{All-append, All-cons, All-drop, All-map, All-nil, All-take}
use Rattle.std.proofs.lemmas.Option.{none-some, same_Some, slice_get-get_or, slice_get_within}
use Rattle.format_laws.specs.Fitting.{ObjectFits}
use Rattle.format_laws.specs.Fitting.{IsFitting}
use Rattle.soundness.proofs.boot_laws.PlacesObjects.{object-at}
use Rattle.soundness.proofs.boot_laws.SoundRuns.{HasSmallBytes, HasSmallWords}
use Rattle.model.specs.Acceptance.WellFormed.{is_untyped_type, source_type}
use Rattle.model.specs.Images.BootCalls.{LoaderCall, boot_argument, boot_cnode, buffer_calls, capability_call, frame_calls, interrupt_call, listed_arguments}
use Rattle.model.specs.Images.BootCalls.{loader_call, object_call, signal_calls, table_call, thread_calls}
use Rattle.model.specs.Images.Described.{start_of}
use Rattle.model.specs.Images.Fills.{Fill, bytes_of, frame_at, page_bytes, page_fill, program_fills, program_pages}
use Rattle.model.specs.Images.Image.{Image, Thread, is_device_size, no_buffer, size_fits}
use Rattle.model.specs.Images.Places.{frame_copy_slot, handler_slot, is_handler, notification_copy_slot, object_at, offset_of, original_slot, source_boot_slot}
use Rattle.model.specs.Kernel.AddressSpaces.{page_size}
use Rattle.model.specs.Kernel.CallForms.{configure_label, copy_label, map_frame_label, mint_label, move_label, resume_label, set_notification_label}
use Rattle.model.specs.Kernel.CallForms.{set_buffer_label, set_priority_label, set_register_label}
use Rattle.model.specs.Shared.Bytes.{word_bytes}
use Rattle.model.specs.declared.entries.CapabilityEntry.{CapabilityEntry}
use Rattle.model.specs.declared.entries.FrameEntry.{FrameEntry}
use Rattle.model.specs.declared.entries.InterruptEntry.{InterruptEntry}
use Rattle.model.specs.declared.entries.RegisterEntry.{RegisterEntry}
use Rattle.model.specs.declared.entries.TableEntry.{TableEntry}

-- ---- lists

pub each-all : {A : Type 0} (P : A → Type 0) (xs : List A) → ((j : ℕ) (x : A) → slice_get xs j ≡ Some x → P x) → All P xs
each-all P xs each = λ k d less. each k _ (slice_get-get_or xs k d less)

pub flat-all : {A B : Type 0} (P : B → Type 0) (f : A → List B) (xs : List A) → ((j : ℕ) (x : A) → slice_get xs j ≡ Some x → All P (f x)) →
    All P (flat_map f xs)
flat-all P f [] each = All-nil P
flat-all P f (x ∷ xs) each = All-append P (f x) (flat_map f xs) (each 0 x refl) (flat-all P f xs (λ j y at. each (suc j) y at))

pub filtered-all : {A B : Type 0} (P : B → Type 0) (f : A → Option B) (xs : List A) → ((x : A) (y : B) → f x ≡ Some y → P y) → All P (filter_map f xs)
filtered-all P f [] each = All-nil P
filtered-all P f (x ∷ xs) each =
    elim (f x) as (λ o. f x ≡ o → All P (cons_option o (filter_map f xs))) [
      | None ↦ λ _. filtered-all P f xs each
      | Some y ↦ λ is. All-cons P y (filter_map f xs) (each x y is) (filtered-all P f xs each)
    ] refl

-- ---- words

abbrev Small : ℕ → Type 0
Small word = word < 2 ^ 32

-- the words one by one
abbrev AreSmall : List ℕ → Type 0
AreSmall [] = ⊤
AreSmall (word ∷ words) = Small word × AreSmall words

small-all : (words : List ℕ) → AreSmall words → All Small words
small-all [] small = All-nil Small
small-all (word ∷ words) small = All-cons Small word words small.0 (small-all words small.1)

two-fine : (one other : LoaderCall) → AreSmall one.words → AreSmall other.words → All HasSmallWords (one ∷ other ∷ [])
two-fine one other first second =
    All-cons HasSmallWords one (other ∷ []) (small-all one.words first) (All-cons HasSmallWords other [] (small-all other.words second) (All-nil HasSmallWords))

sized-small : (kind size : ℕ) → ((kind == 1 && (nat_le 4 size && nat_le size 24)) || (kind == 5 && (nat_le 1 size && nat_le size 14))
    || (nat_lt 1 kind && size == 0 && (nat_lt kind 5 || nat_lt 5 kind))) ≡ true → size < 2 ^ 32
sized-small kind size is =
    elim (or_cases ((kind == 1 && (nat_le 4 size && nat_le size 24)) || (kind == 5 && (nat_le 1 size && nat_le size 14)))
    (nat_lt 1 kind && size == 0 && (nat_lt kind 5 || nat_lt 5 kind)) is) [
      | inl sized ↦ elim (or_cases (kind == 1 && (nat_le 4 size && nat_le size 24)) (kind == 5 && (nat_le 1 size && nat_le size 14)) sized) [
        | inl untyped ↦
            let most = leb-true size 24 (and_parts (nat_le 4 size) (nat_le size 24) (and_parts (kind == 1) (nat_le 4 size && nat_le size 24) untyped).1).1 in
            omega (arith, most)
        | inr cnode ↦
            let most = leb-true size 14 (and_parts (nat_le 1 size) (nat_le size 14) (and_parts (kind == 5) (nat_le 1 size && nat_le size 14) cnode).1).1 in
            omega (arith, most)
      ]
      | inr none ↦
          let zeros = eqb-true size 0 (and_parts (nat_lt 1 kind) (size == 0)
          (and_parts (nat_lt 1 kind && size == 0) (nat_lt kind 5 || nat_lt 5 kind) none).0).1 in
          omega (arith, zeros)
    ]

size-small : (kind size : ℕ) → size_fits kind size ≡ true → size < 2 ^ 32
size-small kind size is = elim (or_cases _ (is_device_size kind size) is) [
  | inl sized ↦ sized-small kind size sized
  | inr device ↦ let one = eqb-true size 1 (and_parts (kind == 6) (size == 1) device).1 in omega (arith, one)
]

module _ (image : Image) (fitting : IsFitting image) where
  original-small : (number : ℕ) → number < image.header.objects → original_slot image number < 2 ^ 32
  original-small number less = omega (arith, less, fitting.header.untypeds, fitting.header.objects)

  fits-object : (number : ℕ) → number < image.header.objects → ObjectFits image (object_at image number)
  fits-object number less = fitting.object number (object_at image number) (object-at image number fitting less)

  pub object-words : (number : ℕ) → number < image.header.objects → HasSmallWords (object_call image number)
  object-words number less =
      let o = object_at image number in
      let fits = fits-object number less in
      small-all (object_call image number).words
      (omega (arith, fits.high), (size-small o.kind o.size fits.size, (omega arith, (omega arith, (original-small number less, (omega arith, tt))))))

  pub interrupt-words : (k : ℕ) (i : InterruptEntry) → slice_get image.interrupts k ≡ Some i → HasSmallWords (interrupt_call image (k, i))
  interrupt-words k i at =
      let fits = fitting.interrupt k i at in
      let less : k < image.header.interrupts = subst (λ (n : ℕ). k < n) fitting.interrupts (slice_get_within image.interrupts k i at) in
      small-all (interrupt_call image (k, i)).words
      (omega (arith, fits.line), (omega (arith, less, fitting.header.untypeds, fitting.header.objects, fitting.header.interrupts), (omega arith, tt)))

  source-small : (source : ℕ) → source < image.header.objects + image.header.interrupts → source_boot_slot image source < 2 ^ 32
  source-small source less =
      elim (is_handler image source) as
      (λ b. (if b then image.header.untypeds + image.header.objects + 1 + (source - image.header.objects) else image.header.untypeds + source) < 2 ^ 32) [
        | true ↦ omega (arith, less, fitting.header.untypeds, fitting.header.objects, fitting.header.interrupts)
        | false ↦ omega (arith, less, fitting.header.untypeds, fitting.header.objects, fitting.header.interrupts)
      ]

  listed-small : (k : ℕ) (c : CapabilityEntry) → slice_get image.capabilities k ≡ Some c → All Small (listed_arguments image c)
  listed-small k c at =
      let fits = fitting.capability k c at in
      let cnode = fits-object c.cnode fits.cnode in
      small-all (listed_arguments image c) (
        fits.index,
        (
          size-small (object_at image c.cnode).kind (object_at image c.cnode).size cnode.size,
          (source-small c.source fits.source, (omega arith, tt)),
        ),
      )

  pub capability-words : (k : ℕ) (c : CapabilityEntry) → slice_get image.capabilities k ≡ Some c → HasSmallWords (capability_call image c)
  capability-words k c at =
      let fits = fitting.capability k c at in
      let moving = loader_call (original_slot image c.cnode) move_label (listed_arguments image c) in
      let minting = loader_call (original_slot image c.cnode) mint_label (listed_arguments image c ++ c.rights ∷ c.payload ∷ []) in
      elim (is_untyped_type (source_type image c.source)) as (λ b. HasSmallWords (if b then moving else minting)) [
        | true ↦ listed-small k c at
        | false ↦
            All-append Small (listed_arguments image c) (c.rights ∷ c.payload ∷ []) (listed-small k c at)
            (small-all (c.rights ∷ c.payload ∷ []) (fits.rights, (fits.payload, tt)))
      ]

  pub table-words : (k : ℕ) (t : TableEntry) → slice_get image.tables k ≡ Some t → HasSmallWords (table_call image t)
  table-words k t at =
      let fits = fitting.table k t at in
      small-all (table_call image t).words (original-small t.root fits.root, (omega arith, (fits.address, tt)))

  pub frame-words : (k : ℕ) (f : FrameEntry) → slice_get image.frames k ≡ Some f → All HasSmallWords (frame_calls image (k, f))
  frame-words k f at =
      let fits = fitting.frame k f at in
      let less : k < image.header.frames = subst (λ (n : ℕ). k < n) fitting.frames (slice_get_within image.frames k f at) in
      let copy = frame_copy_slot image k in
      two-fine (loader_call boot_cnode copy_label (boot_argument copy ++ boot_argument (original_slot image f.frame) ++ 3 ∷ []))
      (loader_call copy map_frame_label (boot_argument (original_slot image f.root) ++ f.address ∷ f.rights ∷ [])) (
        omega (arith, less, fitting.header.untypeds, fitting.header.objects, fitting.header.interrupts, fitting.header.frames),
        (omega arith, (original-small f.frame fits.frame, (omega arith, (omega arith, tt)))),
      )
      (original-small f.root fits.root, (omega arith, (fits.address, (omega (arith, fits.rights), tt))))

  pub signal-words : (k : ℕ) (i : InterruptEntry) → slice_get image.interrupts k ≡ Some i → All HasSmallWords (signal_calls image (k, i))
  signal-words k i at =
      let fits = fitting.interrupt k i at in
      let less : k < image.header.interrupts = subst (λ (n : ℕ). k < n) fitting.interrupts (slice_get_within image.interrupts k i at) in
      let copy = notification_copy_slot image k in
      let few : copy < 2 ^ 32 = omega (arith, less, fitting.header.untypeds, fitting.header.objects, fitting.header.interrupts, fitting.header.frames) in
      two-fine (loader_call boot_cnode mint_label (boot_argument copy ++ boot_argument (original_slot image i.notification) ++ 11 ∷ i.badge ∷ []))
      (loader_call (handler_slot image k) set_notification_label (boot_argument copy))
      (few, (omega arith, (original-small i.notification fits.notification, (omega arith, (omega arith, (omega (arith, fits.badge), tt))))))
      (few, (omega arith, tt))

  -- ---- threads

  buffer-words : (t : Thread) → ((t.header.buffer == no_buffer) ≡ false → t.header.buffer < image.header.objects) → All HasSmallWords (buffer_calls image t)
  buffer-words t listed =
      let call = loader_call (original_slot image t.header.tcb) set_buffer_label (boot_argument (original_slot image t.header.buffer)) in
      elim (t.header.buffer == no_buffer) as (λ b. (t.header.buffer == no_buffer) ≡ b → All HasSmallWords (if b then [] else call ∷ [])) [
        | true ↦ λ _. All-nil HasSmallWords
        | false ↦ λ some.
            All-cons HasSmallWords call [] (small-all call.words (original-small t.header.buffer (listed some), (omega arith, tt))) (All-nil HasSmallWords)
      ] refl

  pub thread-words : (k : ℕ) (t : Thread) → slice_get image.threads k ≡ Some t
      → ((t.header.buffer == no_buffer) ≡ false → t.header.buffer < image.header.objects)
      → ((j : ℕ) (r : RegisterEntry) → slice_get t.registers j ≡ Some r → (r.register ≤ 31) × (r.value < 2 ^ 32)) → All HasSmallWords (thread_calls image t)
  thread-words k t at listed registers =
      let fits = fitting.thread k t at in
      let tcb = original_slot image t.header.tcb in
      let configure = loader_call tcb configure_label ((t.header.fault ∷ boot_argument (original_slot image t.header.cnode))
      ++ boot_argument (original_slot image t.header.root) ++ t.header.guard ∷ []) in
      let priority = loader_call tcb set_priority_label (t.header.priority ∷ []) in
      let pc = loader_call tcb set_register_label (0 ∷ start_of t ∷ []) in
      let resume = loader_call tcb resume_label [] in
      let setting = λ (r : RegisterEntry). loader_call tcb set_register_label (r.register ∷ r.value ∷ []) in
      let first = configure ∷ buffer_calls image t in
      All-append HasSmallWords ((first ++ priority ∷ pc ∷ []) ++ map setting t.registers) (resume ∷ [])
      (All-append HasSmallWords (first ++ priority ∷ pc ∷ []) (map setting t.registers)
      (All-append HasSmallWords first (priority ∷ pc ∷ [])
      (All-cons HasSmallWords configure (buffer_calls image t)
      (small-all configure.words
      (fits.fault, (original-small t.header.cnode fits.cnode, (omega arith, (original-small t.header.root fits.root, (omega arith, (fits.guard, tt)))))))
      (buffer-words t listed))
      (two-fine priority pc (omega (arith, fits.priority), tt) (omega arith, (omega arith, tt))))
      (All-map HasSmallWords setting t.registers (each-all (λ r. HasSmallWords (setting r)) t.registers (λ j r is.
      let small = registers j r is in small-all (r.register ∷ r.value ∷ []) (omega (arith, small.0), (small.1, tt))))))
      (All-cons HasSmallWords resume [] (All-nil Small) (All-nil HasSmallWords))

-- ---- bytes

word-bytes : (word : ℕ) → All (λ byte. byte < 2 ^ 8) (word_bytes word)
word-bytes word =
    let one : word % 256 < 2 ^ 8 = omega arith in
    let two : word / 256 % 256 < 2 ^ 8 = omega arith in
    let three : word / 65536 % 256 < 2 ^ 8 = omega arith in
    let four : word / 16777216 % 256 < 2 ^ 8 = omega arith in
    All-cons (λ byte. byte < 2 ^ 8) (word % 256) (word / 256 % 256 ∷ word / 65536 % 256 ∷ word / 16777216 % 256 ∷ []) one
    (All-cons (λ byte. byte < 2 ^ 8) (word / 256 % 256) (word / 65536 % 256 ∷ word / 16777216 % 256 ∷ []) two
    (All-cons (λ byte. byte < 2 ^ 8) (word / 65536 % 256) (word / 16777216 % 256 ∷ []) three
    (All-cons (λ byte. byte < 2 ^ 8) (word / 16777216 % 256) [] four (All-nil (λ byte. byte < 2 ^ 8)))))

pub bytes-small : (words : List ℕ) → All (λ byte. byte < 2 ^ 8) (bytes_of words)
bytes-small words = flat-all (λ byte. byte < 2 ^ 8) word_bytes words (λ j w at. word-bytes w)

pub program-bytes : (image : Image) (t : Thread) → All HasSmallBytes (program_fills image t)
program-bytes image t = filtered-all HasSmallBytes (page_fill image t) (program_pages t) (λ address f is. page address f is)
  where
    page : (address : ℕ) (f : Fill) → page_fill image t address ≡ Some f → HasSmallBytes f
    page address f is =
        elim (frame_at image t.header.root address)
        as (λ o. option_map (λ g. record { offset = offset_of image g.frame; bytes = page_bytes t address }) o ≡ Some f → HasSmallBytes f) [
          | None ↦ λ clash. absurd (none-some f clash)
          | Some g ↦ λ some.
              let whole : Fill = record { offset = offset_of image g.frame; bytes = page_bytes t address } in
              let same : whole ≡ f = same_Some whole f some in
              subst HasSmallBytes same
              (All-take (λ byte. byte < 2 ^ 8) page_size (drop (address - t.header.base) (bytes_of t.words))
              (All-drop (λ byte. byte < 2 ^ 8) (address - t.header.base) (bytes_of t.words) (bytes-small t.words)))
        ] is
