-- The calls of each section from an entry on.
use Rattle.std.proofs.Common.{◌≡◌, ◌∙◌, ℕ, suc, ◌+◌, ◌-◌, ◌<◌, ◌≤◌, Some, List, [], ◌∷◌, ◌++◌, length, drop, get_or, map, ap, arith, add-one, drop-cons}
use Rattle.std.specs.Prelude.{flat_map, slice_get}
use Rattle.std.specs.List.{enumerate_from, range_with_len}
use Rattle.std.proofs.lemmas.List.{drop_all}
use Rattle.std.proofs.lemmas.Option.{get_or_from_slice_get, slice_get_within}
use Rattle.model.specs.declared.entries.CapabilityEntry.{CapabilityEntry}
use Rattle.model.specs.declared.entries.FrameEntry.{FrameEntry}
use Rattle.model.specs.declared.entries.InterruptEntry.{InterruptEntry}
use Rattle.model.specs.declared.entries.TableEntry.{TableEntry}
use Rattle.model.specs.declared.entries.UntypedEntry.{UntypedEntry}
use Rattle.model.specs.Images.BootCalls.{LoaderCall, Operation, PutsUntyped, capability_call, frame_calls, interrupt_call, object_call, program_operation}
use Rattle.model.specs.Images.BootCalls.{signal_calls, table_call}
use Rattle.model.specs.Images.Image.{Image, Thread}

-- ---- lists from a place on

pub rest-next : {A : Type 0} (xs : List A) (n : ℕ) (x : A) → slice_get xs n ≡ Some x → drop n xs ≡ x ∷ drop (n + 1) xs
rest-next xs n x is =
    let at : get_or xs n x ≡ x = get_or_from_slice_get xs n x x is in
    rw (add-one n) (drop-cons xs n x (slice_get_within xs n x is) ∙ ap (λ y. y ∷ drop (suc n) xs) at)

pub numbers-next : (n count : ℕ) → n < count → range_with_len n (count - n) ≡ n ∷ range_with_len (n + 1) (count - (n + 1))
numbers-next n count lt = let k : count - n ≡ suc (count - (n + 1)) = omega arith in ap (range_with_len n) k

pub numbers-none : (n count : ℕ) → count ≤ n → range_with_len n (count - n) ≡ []
numbers-none n count le = let k : count - n ≡ 0 = omega arith in ap (range_with_len n) k

-- ---- the sections

abbrev pub objects_from : Image → ℕ → List LoaderCall
objects_from image n = map (object_call image) (range_with_len n (image.header.objects - n))

abbrev pub handlers_from : Image → ℕ → List LoaderCall
handlers_from image n = map (interrupt_call image) (enumerate_from n (drop n image.interrupts))

abbrev pub capabilities_from : Image → ℕ → List LoaderCall
capabilities_from image n = map (capability_call image) (drop n image.capabilities)

abbrev pub tables_from : Image → ℕ → List LoaderCall
tables_from image n = map (table_call image) (drop n image.tables)

abbrev pub frames_from : Image → ℕ → List LoaderCall
frames_from image n = flat_map (frame_calls image) (enumerate_from n (drop n image.frames))

abbrev pub signals_from : Image → ℕ → List LoaderCall
signals_from image n = flat_map (signal_calls image) (enumerate_from n (drop n image.interrupts))

-- ---- one more entry

pub objects-next : (image : Image) (n : ℕ) → n < image.header.objects → objects_from image n ≡ (object_call image n ∷ []) ++ objects_from image (n + 1)
objects-next image n lt = ap (map (object_call image)) (numbers-next n image.header.objects lt)

pub handlers-next : (image : Image) (n : ℕ) (x : InterruptEntry) → slice_get image.interrupts n ≡ Some x
    → handlers_from image n ≡ (interrupt_call image (n, x) ∷ []) ++ handlers_from image (n + 1)
handlers-next image n x is = ap (λ xs. map (interrupt_call image) (enumerate_from n xs)) (rest-next image.interrupts n x is)

pub capabilities-next : (image : Image) (n : ℕ) (x : CapabilityEntry) → slice_get image.capabilities n ≡ Some x
    → capabilities_from image n ≡ (capability_call image x ∷ []) ++ capabilities_from image (n + 1)
capabilities-next image n x is = ap (map (capability_call image)) (rest-next image.capabilities n x is)

pub tables-next : (image : Image) (n : ℕ) (x : TableEntry) → slice_get image.tables n ≡ Some x
    → tables_from image n ≡ (table_call image x ∷ []) ++ tables_from image (n + 1)
tables-next image n x is = ap (map (table_call image)) (rest-next image.tables n x is)

pub frames-next : (image : Image) (n : ℕ) (x : FrameEntry) → slice_get image.frames n ≡ Some x
    → frames_from image n ≡ frame_calls image (n, x) ++ frames_from image (n + 1)
frames-next image n x is = ap (λ xs. flat_map (frame_calls image) (enumerate_from n xs)) (rest-next image.frames n x is)

pub signals-next : (image : Image) (n : ℕ) (x : InterruptEntry) → slice_get image.interrupts n ≡ Some x
    → signals_from image n ≡ signal_calls image (n, x) ++ signals_from image (n + 1)
signals-next image n x is = ap (λ xs. flat_map (signal_calls image) (enumerate_from n xs)) (rest-next image.interrupts n x is)

-- ---- none left

pub objects-none : (image : Image) (n : ℕ) → image.header.objects ≤ n → objects_from image n ≡ []
objects-none image n le = ap (map (object_call image)) (numbers-none n image.header.objects le)

pub handlers-none : (image : Image) (n : ℕ) → length image.interrupts ≤ n → handlers_from image n ≡ []
handlers-none image n le = ap (λ xs. map (interrupt_call image) (enumerate_from n xs)) (drop_all n image.interrupts le)

pub capabilities-none : (image : Image) (n : ℕ) → length image.capabilities ≤ n → capabilities_from image n ≡ []
capabilities-none image n le = ap (map (capability_call image)) (drop_all n image.capabilities le)

pub tables-none : (image : Image) (n : ℕ) → length image.tables ≤ n → tables_from image n ≡ []
tables-none image n le = ap (map (table_call image)) (drop_all n image.tables le)

pub frames-none : (image : Image) (n : ℕ) → length image.frames ≤ n → frames_from image n ≡ []
frames-none image n le = ap (λ xs. flat_map (frame_calls image) (enumerate_from n xs)) (drop_all n image.frames le)

pub signals-none : (image : Image) (n : ℕ) → length image.interrupts ≤ n → signals_from image n ≡ []
signals-none image n le = ap (λ xs. flat_map (signal_calls image) (enumerate_from n xs)) (drop_all n image.interrupts le)

-- ---- operations

abbrev pub puts_untyped : ℕ × UntypedEntry → Operation
puts_untyped u = PutsUntyped u.0 u.1

abbrev pub untypeds_from : Image → ℕ → List Operation
untypeds_from image n = map puts_untyped (enumerate_from n (drop n image.untypeds))

pub untypeds-next : (image : Image) (n : ℕ) (x : UntypedEntry) → slice_get image.untypeds n ≡ Some x →
    untypeds_from image n ≡ PutsUntyped n x ∷ untypeds_from image (n + 1)
untypeds-next image n x is = ap (λ xs. map puts_untyped (enumerate_from n xs)) (rest-next image.untypeds n x is)

pub untypeds-none : (image : Image) (n : ℕ) → length image.untypeds ≤ n → untypeds_from image n ≡ []
untypeds-none image n le = ap (λ xs. map puts_untyped (enumerate_from n xs)) (drop_all n image.untypeds le)

abbrev pub programs_from : Image → ℕ → List Thread → List Operation
programs_from image n ts = map (program_operation image) (map (λ (t : ℕ × Thread). record { number = t.0; thread = t.1 }) (enumerate_from n ts))
