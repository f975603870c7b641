-- A frame lies inside memory.
use Rattle.std.proofs.Common.{ℕ, ◌≡◌, ◌∙◌, ◌+◌, ◌*◌, ◌-◌, ◌/◌, ◌%◌, ◌^◌, ◌<◌, ◌≤◌, Bool, true, false, if◌then◌else◌, Some, None, IsSome, is_some, List, length}
use Rattle.std.proofs.Common.{refl, sym, ap, arith}
use Rattle.std.proofs.lemmas.Nat.{pow-add}
use Rattle.std.specs.Option.{option_map_or}
use Rattle.std.specs.Prelude.{slice_index}
use Rattle.model.specs.Capabilities.Slots.{Slots}
use Rattle.model.specs.Kernel.AddressSpaces.{page_size}
use Rattle.model.specs.Kernel.Kinds.{frame_around}
use Rattle.model.specs.Shared.Bytes.{word_at}
use Rattle.objects.proofs.Holding.{some-inside}
use Rattle.objects.proofs.Told.{own-bits}
use Rattle.objects.specs.Contents.{is_frame, told_by}
use Rattle.objects.specs.Frames.{IsFramed}
use Rattle.objects.specs.Standing.{Standing}
use Rattle.objects.specs.Tables.{AreTables, Tables, contents_of, entry_in, kind_of_entry, record_from, state_of}
use Rattle.objects.specs.declared.records.Entry.{Entry}
use Rattle.objects.specs.declared.records.Entry.TheVariants as entries

page-inside : (size count place : ℕ) → 16 * count ≡ size * 2 ^ 12 → (place - place % 2 ^ 12) / 16 < count → place < size * 2 ^ 12
page-inside size count place whole less = omega (arith, whole, less)

-- a place that lies in a frame
pub framed-inside : (o : Tables) (place : ℕ) → AreTables o → entry_in o.entries (frame_around place) ≡ entries.Frame → place < 2 ^ o.bits
framed-inside o place are is =
    let least = are.least_bits in
    let pages : 2 ^ o.bits ≡ 2 ^ (o.bits - 12) * 2 ^ 12 = ap (λ (n : ℕ). 2 ^ n) (omega (arith, least)) ∙ pow-add 2 (o.bits - 12) 12 in
    let inside = some-inside o.entries (frame_around place) (ap (λ (e : Entry). is_some (kind_of_entry e)) is) in
    let less = page-inside (2 ^ (o.bits - 12)) (length o.entries) place (are.places ∙ pages) inside.1 in
    omega (arith, pages, less)

frame-entry : (e : Entry) (word : ℕ) → option_map_or is_frame (record_from e word) false ≡ true → e ≡ entries.Frame
frame-entry entries.Frame word is = refl
frame-entry entries.Nothing word is = absurd (let clash : false ≡ true = is in cc)
frame-entry entries.Thread word is = absurd (let clash : false ≡ true = is in cc)
frame-entry entries.Endpoint word is = absurd (let clash : false ≡ true = is in cc)
frame-entry entries.Notification word is = absurd (let clash : false ≡ true = is in cc)
frame-entry (entries.CNode radix) word is = absurd (let clash : false ≡ true = is in cc)
frame-entry entries.PageTable word is = absurd (let clash : false ≡ true = is in cc)
frame-entry entries.RootTable word is = absurd (let clash : false ≡ true = is in cc)

some-if : (b : Bool) (byte : ℕ) → IsSome (if b then Some byte else None) → b ≡ true
some-if true byte some = refl
some-if false byte some = absurd (let clash : false ≡ true = some in cc)

byte-inside : (o : Tables) (slots : Slots) (memory : List ℕ) (place : ℕ) → AreTables o → IsSome ((state_of o slots memory).bytes place) → place < 2 ^ o.bits
unfolding state_of told_by
byte-inside o slots memory place are some =
    let word = word_at memory (frame_around place + 8) in
    let entry = entry_in o.entries (frame_around place) in
    framed-inside o place are (frame-entry entry word (some-if (option_map_or is_frame (record_from entry word) false) (slice_index memory place) some))

-- a frame that is there
pub frame-inside : (o : Tables) (slots : Slots) (memory : List ℕ) (frame : ℕ) → AreTables o → IsFramed (state_of o slots memory) frame
    → frame + page_size ≤ 2 ^ o.bits
frame-inside o slots memory frame are framed =
    let last = byte-inside o slots memory (frame + 4095) are (framed (frame + 4095) (omega arith) (omega arith)) in
    omega (arith, last)

-- a frame that lies in memory does so in the bytes that are there
pub frame-in-bytes : (o : Tables) (slots : Slots) (memory : List ℕ) (frame size : ℕ) → Standing o slots memory → size ≡ 2 ^ o.bits → frame + page_size ≤ size
    → frame + page_size ≤ length memory
unfolding state_of
frame-in-bytes o slots memory frame size stands is within =
    let long : 2 ^ o.bits ≡ length memory = ap (λ (n : ℕ). 2 ^ n) (sym (own-bits (contents_of o memory) slots memory)) ∙ stands.fits.size in
    omega (arith, long, is, within)
