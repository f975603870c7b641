-- The fixed parts of images, records and threads are spelled number by number.
use Rattle.std.proofs.Common.{◌≡◌, ℕ, ℤ, List, [], ◌∷◌, ◌++◌, Result, IfOk, append_assoc, refl, ap, ◌∙◌}
use Rattle.std.specs.Int.{w32, w64, to_le_bytes, cast_unsigned}
use Rattle.model.specs.declared.entries.ImageHeader.{ImageHeader}
use Rattle.model.specs.declared.entries.RecordHeader.{RecordHeader}
use Rattle.model.specs.declared.entries.ThreadHeader.{ThreadHeader}
use Rattle.model.specs.Images.Image.{has_buffers, has_promises, magic, header_format, record_header_format, slots_format, thread_header_format}
use Rattle.image.specs.Spellings.{optional_bytes, words_bytes}
use Rattle.image.proofs.Lists.{appended, appended-more}

abbrev image_numbers : ImageHeader → List ℕ
image_numbers h = magic ∷ h.version ∷ h.memory_bits ∷ h.boot_radix ∷ []

abbrev image_counts : ImageHeader → List ℕ
image_counts h = h.untypeds ∷ h.objects ∷ h.capabilities ∷ h.interrupts ∷ h.tables ∷ h.frames ∷ h.contents ∷ []

abbrev header_parts : List ℕ → List ℕ → List ℕ → ℕ → List ℕ
header_parts numbers counts promises threads = ((words_bytes numbers ++ words_bytes counts) ++ promises) ++ to_le_bytes w32 threads

abbrev promised : ImageHeader → List ℕ
promised h = optional_bytes (has_promises h.version) h.promises

header-spelled : (h : ImageHeader) → header_parts (image_numbers h) (image_counts h) (promised h) h.threads ≡ header_format.spelling h
unfolding header_format
header-spelled h = refl

pub header-appended : {T E : Type 0} (r : Result T E) (new third second first old numbers counts promises : List ℕ) (threads : ℕ) (h : ImageHeader)
    → IfOk r (λ _. new ≡ third ++ to_le_bytes w32 threads) → third ≡ second ++ promises → second ≡ first ++ words_bytes counts
    → first ≡ old ++ words_bytes numbers → numbers ≡ image_numbers h → counts ≡ image_counts h → promises ≡ promised h → threads ≡ h.threads
    → IfOk r (λ _. new ≡ old ++ header_format.spelling h)
header-appended r new third second first old numbers counts promises threads h last before middle start p q s t =
    appended r new third old ((words_bytes numbers ++ words_bytes counts) ++ promises) (to_le_bytes w32 threads) _ last
    (appended-more third second old (words_bytes numbers ++ words_bytes counts) promises before
    (appended-more second first old (words_bytes numbers) (words_bytes counts) middle start))
    (ap (λ (l : List ℕ). header_parts l counts promises threads) p
    ∙ ap (λ (l : List ℕ). header_parts (image_numbers h) l promises threads) q
    ∙ ap (λ (l : List ℕ). header_parts (image_numbers h) (image_counts h) l threads) s
    ∙ ap (λ (n : ℕ). header_parts (image_numbers h) (image_counts h) (promised h) n) t
    ∙ header-spelled h)

abbrev record_counts : RecordHeader → List ℕ
record_counts h = h.ranges ∷ h.slots ∷ h.terms ∷ []

abbrev signed_bytes : ℤ → List ℕ
signed_bytes z = to_le_bytes w64 (cast_unsigned w64 z)

record-header-spelled : (h : RecordHeader)
    → (to_le_bytes w32 h.point ++ words_bytes (record_counts h)) ++ signed_bytes h.constant ≡ (record_header_format (slots_format 0) 0 0).spelling h
unfolding record_header_format
record-header-spelled h = refl

pub record-header-appended : {T E : Type 0} (r : Result T E) (new mid first old : List ℕ) (point : ℕ) (counts : List ℕ) (constant : ℤ) (h : RecordHeader)
    → IfOk r (λ _. new ≡ mid ++ signed_bytes constant) → mid ≡ first ++ words_bytes counts → first ≡ old ++ to_le_bytes w32 point
    → point ≡ h.point → counts ≡ record_counts h → constant ≡ h.constant → IfOk r (λ _. new ≡ old ++ (record_header_format (slots_format 0) 0 0).spelling h)
record-header-appended r new mid first old point counts constant h last before start same same' same'' =
    appended r new mid old (to_le_bytes w32 point ++ words_bytes counts) (signed_bytes constant) _ last
    (appended-more mid first old (to_le_bytes w32 point) (words_bytes counts) before start)
    (ap (λ (n : ℕ). (to_le_bytes w32 n ++ words_bytes counts) ++ signed_bytes constant) same
    ∙ ap (λ (l : List ℕ). (to_le_bytes w32 h.point ++ words_bytes l) ++ signed_bytes constant) same'
    ∙ ap (λ (z : ℤ). (to_le_bytes w32 h.point ++ words_bytes (record_counts h)) ++ signed_bytes z) same''
    ∙ record-header-spelled h)

abbrev thread_numbers : ThreadHeader → List ℕ
thread_numbers h = h.tcb ∷ h.cnode ∷ h.guard ∷ h.root ∷ h.priority ∷ []

abbrev thread_addresses : ThreadHeader → List ℕ
thread_addresses h = h.entry ∷ h.base ∷ []

abbrev thread_counts : ThreadHeader → List ℕ
thread_counts h = h.registers ∷ h.words ∷ h.records ∷ []

abbrev buffered : ℕ → ThreadHeader → List ℕ
buffered version h = optional_bytes (has_buffers version) h.buffer

abbrev first_parts : List ℕ → ℕ → ℕ → List ℕ
first_parts numbers budget fault = (words_bytes numbers ++ to_le_bytes w64 budget) ++ to_le_bytes w32 fault

abbrev thread_parts : List ℕ → List ℕ → List ℕ → List ℕ → List ℕ
thread_parts first buffer addresses counts = ((first ++ buffer) ++ words_bytes addresses) ++ words_bytes counts

thread-header-spelled : (version : ℕ) (h : ThreadHeader) →
    thread_parts (first_parts (thread_numbers h) h.budget h.fault) (buffered version h) (thread_addresses h) (thread_counts h)
    ≡ (thread_header_format version 0).spelling h
unfolding thread_header_format
thread-header-spelled version h =
    ap (λ (l : List ℕ). first_parts (thread_numbers h) h.budget h.fault ++ l)
    (append_assoc (buffered version h) (words_bytes (thread_addresses h)) (words_bytes (thread_counts h)))

-- the first three parts of a thread's fixed part
pub first-appended : (new second first old numbers : List ℕ) (budget fault : ℕ) (h : ThreadHeader)
    → new ≡ second ++ to_le_bytes w32 fault → second ≡ first ++ to_le_bytes w64 budget → first ≡ old ++ words_bytes numbers
    → numbers ≡ thread_numbers h → budget ≡ h.budget → fault ≡ h.fault → new ≡ old ++ first_parts (thread_numbers h) h.budget h.fault
first-appended new second first old numbers budget fault h last before start p q s =
    appended-more new second old (words_bytes numbers ++ to_le_bytes w64 budget) (to_le_bytes w32 fault) last
    (appended-more second first old (words_bytes numbers) (to_le_bytes w64 budget) before start)
    ∙ ap (λ (l : List ℕ). old ++ first_parts l budget fault) p
    ∙ ap (λ (n : ℕ). old ++ first_parts (thread_numbers h) n fault) q
    ∙ ap (λ (n : ℕ). old ++ first_parts (thread_numbers h) h.budget n) s

pub thread-header-appended : {T E : Type 0} (version : ℕ) (r : Result T E) (new third second first old buffer addresses counts : List ℕ) (h : ThreadHeader)
    → IfOk r (λ _. new ≡ third ++ words_bytes counts) → third ≡ second ++ words_bytes addresses → second ≡ first ++ buffer
    → first ≡ old ++ first_parts (thread_numbers h) h.budget h.fault
    → buffer ≡ buffered version h → addresses ≡ thread_addresses h → counts ≡ thread_counts h
    → IfOk r (λ _. new ≡ old ++ (thread_header_format version 0).spelling h)
thread-header-appended version r new third second first old buffer addresses counts h last before middle start p q s =
    let front = first_parts (thread_numbers h) h.budget h.fault in
    appended r new third old ((front ++ buffer) ++ words_bytes addresses) (words_bytes counts) _ last
    (appended-more third second old (front ++ buffer) (words_bytes addresses) before (appended-more second first old front buffer middle start))
    (ap (λ (l : List ℕ). thread_parts front l addresses counts) p
    ∙ ap (λ (l : List ℕ). thread_parts front (buffered version h) l counts) q
    ∙ ap (λ (l : List ℕ). thread_parts front (buffered version h) (thread_addresses h) l) s
    ∙ thread-header-spelled version h)
