-- Each word of a thread's program lies at its address, and can be fetched there.
use Rattle.std.proofs.Common.{ℕ, zero, suc, ◌≡◌, ◌∙◌, ◌+◌, ◌-◌, ◌*◌, ◌/◌, ◌%◌, ◌^◌, ◌<◌, ◌≤◌, true, false, List, [], ◌∷◌, map, Option, Ok, refl, sym, ap, arith}
use Rattle.std.specs.Prelude.{nat_le, nat_lt, slice_index}
use Rattle.std.specs.Option.{option_map_or}
use Rattle.std.specs.Int.{from_le_bytes, w32}
use Rattle.std.proofs.lemmas.Bool.{eqb-true}
use Rattle.std.proofs.lemmas.Bool.Decides.{nat_tests}
use Rattle.std.proofs.lemmas.List.{get_or_append_left, get_or-append_right}
use Rattle.std.proofs.lemmas.Nat.{from_le_bytes-to_le_bytes_4}
use Rattle.soundness.proofs.Laws.{AreFormed, ThreadKept, are-formed}
use Rattle.model.specs.declared.instructions.Access.TheVariants.{Fetch}
use Rattle.model.specs.declared.instructions.AccessSize.TheVariants.{Word}
use Rattle.model.specs.Acceptance.Accepted.{IsWellFormed}
use Rattle.model.specs.Acceptance.PointStates.{address_of}
use Rattle.model.specs.Acceptance.ThreadInvariants.{ProgramStands}
use Rattle.model.specs.Images.Described.{Numbered, described}
use Rattle.model.specs.Images.Fills.{bytes_of}
use Rattle.model.specs.Images.Image.{Image, whole_image}
use Rattle.model.specs.Images.Places.{offset_of}
use Rattle.model.specs.Kernel.AddressSpaces.{content_of, page_size}
use Rattle.model.specs.Machine.ProgramMemory.{Content, loaded, next_address, place_at, place_or_fault}
use Rattle.model.specs.Shared.Bytes.{word_bytes}
use Rattle.thread_spaces.specs.Given.{IsListed}
use Rattle.headline.proofs.starts.FilledCode.{byte-there}
use Rattle.headline.proofs.starts.ProgramWords.{words-small}
use Rattle.headline.proofs.starts.StartPlaces.{page-of-code, place-of-code}

not-above : (a b : ℕ) → nat_lt b a ≡ false → a ≤ b
not-above a b is = grind (arith, nat_tests)

is-below : (a b : ℕ) → nat_le b a ≡ false → a < b
is-below a b is = grind (arith, nat_tests)

-- ---- bytes of words

zero-bytes : (k : ℕ) → k < 4 → slice_index (word_bytes 0) k ≡ 0
zero-bytes zero h = refl
zero-bytes (suc zero) h = refl
zero-bytes (suc (suc zero)) h = refl
zero-bytes (suc (suc (suc zero))) h = refl
zero-bytes (suc (suc (suc (suc k)))) h = absurd (omega arith)

-- byte k of word i
word-piece : (words : List ℕ) (i k : ℕ) → k < 4 → slice_index (bytes_of words) (4 * i + k) ≡ slice_index (word_bytes (slice_index words i)) k
word-piece [] i k less = sym (zero-bytes k less)
word-piece (w ∷ ws) zero k less =
    let at : 4 * 0 + k ≡ k = omega arith in
    ap (λ (n : ℕ). slice_index (bytes_of (w ∷ ws)) n) at ∙ get_or_append_left (word_bytes w) (bytes_of ws) 0 k less
word-piece (w ∷ ws) (suc i) k less =
    let there : 4 * suc i + k - 4 ≡ 4 * i + k = omega arith in
    get_or-append_right (word_bytes w) (bytes_of ws) 4 (4 * suc i + k) 0 refl (omega arith)
    ∙ ap (λ (n : ℕ). slice_index (bytes_of ws) n) there ∙ word-piece ws i k less

-- ---- four bytes one after another

-- where a byte of memory lies, and what it is
record Holds (content : Content) (address byte : ℕ) : Type 0 where
  place : ℕ
  at : place_at content Fetch address ≡ Ok place
  holds : content.byte place ≡ byte

four-bytes : (content : Content) (a b0 b1 b2 b3 : ℕ) → Holds content a b0 → Holds content (next_address a) b1 → Holds content (next_address (next_address a)) b2
    → Holds content (next_address (next_address (next_address a))) b3 → loaded content Fetch Word a ≡ Ok (from_le_bytes w32 (b0 ∷ b1 ∷ b2 ∷ b3 ∷ []))
four-bytes content a b0 b1 b2 b3 first second third fourth =
    let places : loaded content Fetch Word a ≡ Ok (from_le_bytes w32 (map content.byte (first.place ∷ second.place ∷ third.place ∷ fourth.place ∷ []))) =
    rw (first.at, second.at, third.at, fourth.at) refl in
    places ∙ (λ i. Ok (from_le_bytes w32 (first.holds i ∷ second.holds i ∷ third.holds i ∷ fourth.holds i ∷ [])))

module _ (image : Image) (fits : whole_image.fits image ≡ true) (well : IsWellFormed image) (t : Numbered) (listed : IsListed image t.thread) where
  abbrev base : ℕ
  base = t.thread.header.base

  abbrev content : Content
  content = content_of (described image) (offset_of image t.thread.header.tcb)

  whole : base % page_size ≡ 0
  whole = eqb-true (base % page_size) 0 (ThreadKept.base (AreFormed.thread (are-formed image well) listed.number t.thread listed.listed))

  byte-at : (b : ℕ) → b < 4 * t.thread.header.words → Holds content (base + b) (slice_index (bytes_of t.thread.words) b)
  byte-at b less =
      let page = (base + b) / page_size in
      let code = page-of-code image fits well t listed b less in
      let o = (base + b) % page_size in
      let even = whole in
      let back : page * page_size - base + o ≡ b = omega (arith, even) in
      let there = byte-there image fits well t.thread listed page code o (omega arith) (omega (arith, back, less)) in
      record {
        place = offset_of image code.entry.frame + o;
        at = ap (λ (found : Option ℕ). place_or_fault found Fetch (base + b)) (place-of-code image fits well t listed b less);
        holds = ap (λ (found : Option ℕ). option_map_or (λ byte. byte) found 0) there ∙ ap (λ (n : ℕ). slice_index (bytes_of t.thread.words) n) back;
      }

  piece-at : (point i address : ℕ) → point < t.thread.header.words → i < 4 → address ≡ base + (4 * point + i) →
      Holds content address (slice_index (word_bytes (slice_index t.thread.words point)) i)
  piece-at point i address less few is =
      let found = byte-at (4 * point + i) (omega (arith, less, few)) in
      record {
        place = found.place;
        at = ap (λ (n : ℕ). place_at content Fetch n) is ∙ found.at;
        holds = found.holds ∙ word-piece t.thread.words point i few;
      }

  word-at : (point : ℕ) → base + 4 * t.thread.header.words ≤ 2 ^ 31 → slice_index t.thread.words point < 2 ^ 32 → point < t.thread.header.words
      → loaded content Fetch Word (address_of t.thread point) ≡ Ok (slice_index t.thread.words point)
  word-at point ends small less =
      let a = address_of t.thread point in
      let word = slice_index t.thread.words point in
      four-bytes content a (slice_index (word_bytes word) 0) (slice_index (word_bytes word) 1) (slice_index (word_bytes word) 2)
      (slice_index (word_bytes word) 3)
      (piece-at point 0 a less (omega arith) (omega arith))
      (piece-at point 1 (next_address a) less (omega arith) (omega (arith, ends, less)))
      (piece-at point 2 (next_address (next_address a)) less (omega arith) (omega (arith, ends, less)))
      (piece-at point 3 (next_address (next_address (next_address a))) less (omega arith) (omega (arith, ends, less)))
      ∙ ap (λ (n : ℕ). Ok n) (from_le_bytes-to_le_bytes_4 word small)

  -- its entry is one of its words, and it ends below the limit of addresses
  ends : (base + 4 * t.thread.header.words ≤ 2 ^ 31) × (t.thread.header.entry < t.thread.header.words)
  ends =
      let kept = AreFormed.thread (are-formed image well) listed.number t.thread listed.listed in (
        not-above (base + 4 * t.thread.header.words) (2 ^ 31) (ThreadKept.end kept),
        is-below t.thread.header.entry t.thread.header.words (ThreadKept.entry kept),
      )

  pub program-stands : ProgramStands image t (described image)
  program-stands point less = word-at point ends.0 (words-small image listed.number t.thread fits listed.listed point) less

  pub program-ends : (base + 4 * t.thread.header.words ≤ 2 ^ 31) × (t.thread.header.entry < t.thread.header.words)
  program-ends = ends
