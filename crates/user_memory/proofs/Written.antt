-- A byte that is written into a frame: what the program sees, and what stays.
use Rattle.std.proofs.Common.{ℕ, ◌≡◌, ◌∙◌, ◌==◌, ◌+◌, ◌^◌, ◌<◌, inl, inr, Bool, true, false, if◌then◌else◌, Option, Some, None, IsSome, option_map, List, []}
use Rattle.std.proofs.Common.{◌∷◌, length, refl, sym, ap, subst, arith}
use Rattle.std.specs.Prelude.{slice_index}
use Rattle.std.specs.Option.{option_map_or}
use Rattle.std.proofs.lemmas.Bool.{cases_lt}
use Rattle.std.proofs.lemmas.Bool.Decides.{eqb_tells}
use Rattle.kernel_invariant.specs.Agreement.{Agrees}
use Rattle.kernel_invariant.specs.Wholeness.{IsWhole}
use Rattle.model.proofs.BytesLemmas.{length-written, slice_index-written_before, slice_index-written_behind, slice_index-written_inside}
use Rattle.model.specs.Capabilities.Slots.{Slots}
use Rattle.model.specs.Kernel.Soundness.{IsSound}
use Rattle.model.specs.Kernel.State.{State}
use Rattle.model.specs.Machine.ProgramMemory.{put_byte}
use Rattle.model.specs.Shared.Bytes.{written}
use Rattle.objects.specs.Frames.{SameBesideFrames}
use Rattle.objects.specs.Standing.{Standing}
use Rattle.objects.specs.Tables.{Tables, state_of}
use Rattle.soundness.proofs.Laws.{byte-less, content-whole}
use Rattle.user_memory.proofs.Stored.{content-left, own-bytes, stored-agrees, stored-stands, stored-state}
use Rattle.user_memory.specs.Views.{IsUsable, beside_of, content_under}

-- ---- one byte more

one-byte : (memory : List ℕ) (place value other : ℕ) → place < length memory
    → slice_index (written memory place (value ∷ [])) other ≡ (if other == place then value else slice_index memory other)
one-byte memory place value other inside = elim (eqb_tells other place) [
  | inl here ↦
      let at : slice_index (written memory place (value ∷ [])) (place + 0) ≡ value =
      slice_index-written_inside memory place (value ∷ []) 0 (omega (arith, inside)) (omega arith) in
      ap (slice_index (written memory place (value ∷ []))) (here.1 ∙ omega arith) ∙ at ∙ sym (ap (λ b. if b then value else slice_index memory other) here.0)
  | inr apart ↦ elim (cases_lt other place) [
    | inl before ↦ slice_index-written_before memory place (value ∷ []) other (omega (arith, inside)) before
        ∙ sym (ap (λ b. if b then value else slice_index memory other) apart.0)
    | inr from ↦
        let differs = apart.1 in
        slice_index-written_behind memory place (value ∷ []) other (omega (arith, inside)) (omega (arith, from, differs))
        ∙ sym (ap (λ b. if b then value else slice_index memory other) apart.0)
  ]
]

-- what is in a frame at a place, where one byte is written
put-if : (c : Bool) (b : Option ℕ) (value old : ℕ) → (c ≡ true → IsSome b) → option_map (λ _. old) b ≡ b
    → option_map (λ _. if c then value else old) b ≡ (if c then Some value else b)
put-if true (Some byte) value old some own = refl
put-if true None value old some own = absurd (let clash : false ≡ true = some refl in cc)
put-if false b value old some own = own

module _ (o : Tables) (slots : Slots) (memory : List ℕ) (place value : ℕ) (some : IsSome ((state_of o slots memory).bytes place))
    (inside : place < length memory)
    (stood : Standing o slots memory) where
  abbrev before : State
  before = state_of o slots memory

  abbrev new : List ℕ
  new = written memory place (value ∷ [])

  here-some : (other : ℕ) → (other == place) ≡ true → IsSome (before.bytes other)
  here-some other same = elim (eqb_tells other place) [
    | inl here ↦ subst (λ (n : ℕ). IsSome (before.bytes n)) (sym here.1) some
    | inr apart ↦ absurd (let clash : true ≡ false = sym same ∙ apart.0 in cc)
  ]

  there-same : (other : ℕ) → (other == place) ≡ false → slice_index new other ≡ slice_index memory other
  there-same other apart = one-byte memory place value other inside ∙ ap (λ b. if b then value else slice_index memory other) apart

  none-same : (other : ℕ) → before.bytes other ≡ None → slice_index new other ≡ slice_index memory other
  none-same other none = elim (eqb_tells other place) [
    | inl here ↦
        let at = here-some other here.0 in
        let clash : IsSome {T = ℕ} None = subst (λ (b : Option ℕ). IsSome b) none at in
        absurd cc
    | inr apart ↦ there-same other apart.0
  ]

  -- only bytes of frames change
  same-frames : SameBesideFrames before memory new
  same-frames = record { size = length-written memory place (value ∷ []) (omega (arith, inside)); bytes = none-same }

  abbrev filled : State
  filled = record before { bytes = λ other. option_map (λ _. slice_index new other) (before.bytes other) }

  after-is : state_of o slots new ≡ filled
  after-is = stored-state o slots memory new stood same-frames

  -- the state has the byte, and its others as they were
  byte-put : (other : ℕ) → filled.bytes other ≡ (if other == place then Some value else before.bytes other)
  byte-put other =
      ap (λ (n : ℕ). option_map (λ _. n) (before.bytes other)) (one-byte memory place value other inside)
      ∙ put-if (other == place) (before.bytes other) value (slice_index memory other) (here-some other) (own-bytes o slots memory other)

  -- the program sees it
  byte-seen : (other : ℕ) → option_map_or (λ byte. byte) (filled.bytes other) 0
      ≡ (if other == place then value else option_map_or (λ byte. byte) (before.bytes other) 0)
  byte-seen other = ap (λ b. option_map_or (λ byte. byte) b 0) (byte-put other) ∙ seen-if (other == place) (before.bytes other)
    where
      seen-if : (c : Bool) (b : Option ℕ) → option_map_or (λ byte. byte) (if c then Some value else b) 0
          ≡ (if c then value else option_map_or (λ byte. byte) b 0)
      seen-if true b = refl
      seen-if false b = refl

  pub content-put : (root : Option ℕ) → content_under (state_of o slots new) root ≡ put_byte (content_under before root) place value
  content-put root =
      ap (λ (t : State). content_under t root) after-is ∙ (λ i. record (content_under before root) { byte = λ other. byte-seen other i })

  -- what no program changes
  beside-if : (c : Bool) (b : Option ℕ) (now old : ℕ) → (c ≡ true → IsSome b) → (c ≡ false → now ≡ old)
      → option_map_or (λ _. None) (if c then Some value else b) (Some now) ≡ option_map_or (λ _. None) b (Some old)
  beside-if false None now old is same = ap Some (same refl)
  beside-if false (Some byte) now old is same = refl
  beside-if true None now old is same = absurd (let clash : false ≡ true = is refl in cc)
  beside-if true (Some byte) now old is same = refl

  beside-same : (other : ℕ) → option_map_or (λ _. None) ((state_of o slots new).bytes other) (Some (slice_index new other))
      ≡ option_map_or (λ _. None) (before.bytes other) (Some (slice_index memory other))
  beside-same other =
      ap (λ (t : State). option_map_or (λ _. None) (t.bytes other) (Some (slice_index new other))) after-is
      ∙ ap (λ b. option_map_or (λ _. None) b (Some (slice_index new other))) (byte-put other)
      ∙ beside-if (other == place) (before.bytes other) (slice_index new other) (slice_index memory other) (here-some other) (there-same other)

  pub rest-same : (root : Option ℕ) (store : ℕ) → beside_of o slots new root store ≡ beside_of o slots memory root store
  rest-same root store = λ i. record (beside_of o slots memory root store) { bytes = λ other. beside-same other i; size = same-frames.size i }

  some-still : (b : Option ℕ) (now : ℕ) → IsSome b → IsSome (option_map (λ _. now) b)
  some-still (Some byte) now is = refl
  some-still None now is = is

  -- and what a program relies on
  small-if : (c : Bool) (old : ℕ) → value < 2 ^ 8 → old < 2 ^ 8 → (if c then value else old) < 2 ^ 8
  small-if true old less small = less
  small-if false old less small = small

  sound-still : IsSound before → value < 2 ^ 8 → IsSound (state_of o slots new)
  sound-still sound less =
      let content = content_under (state_of o slots new) None in
      let small : (other : ℕ) → content.byte other < 2 ^ 8 = λ other.
      subst (λ (n : ℕ). n < 2 ^ 8) (sym (ap (λ (t : State). option_map_or (λ byte. byte) (t.bytes other) 0) after-is ∙ byte-seen other))
      (small-if (other == place) (option_map_or (λ byte. byte) (before.bytes other) 0) less (byte-less before sound other (before.bytes other) refl)) in
      subst IsSound (sym (content-left o slots memory new stood same-frames content (λ other. refl))) (content-whole before content sound small)

  pub whole-still : IsWhole o slots memory → value < 2 ^ 8 → IsWhole o slots new
  whole-still whole less = record {
    sound = sound-still whole.sound less;
    agrees = stored-agrees o slots memory new stood same-frames whole.agrees;
    stands = stored-stands o slots memory new stood same-frames;
  }

  pub usable-still : (root : Option ℕ) → IsUsable before memory root → IsUsable (state_of o slots new) new root
  usable-still root usable =
      let agrees = subst (λ (t : State). Agrees t new) after-is (stored-agrees o slots memory new stood same-frames usable.agrees) in
      subst (λ (t : State). IsUsable t new root) (sym after-is) (record {
        agrees = agrees;
        near = usable.near;
        rooted = usable.rooted;
        framed = λ slot frame other r m held around. some-still (before.bytes other) (slice_index new other) (usable.framed slot frame other r m held around);
      })
