-- Device pages by where they begin: what a set of these finds, and which events it keeps.
use Rattle.std.proofs.Common.{ℕ, zero, suc, ◌≡◌, ◌∙◌, ◌+◌, ◌-◌, ◌&&◌, ◌||◌, Bool, true, false, not, if◌then◌else◌, List, [], ◌∷◌, refl, sym, ap, arith}
use Rattle.std.specs.BTreeSet.{insert_key}
use Rattle.std.specs.List.{filter, list_any, range_with_len}
use Rattle.std.specs.Ordering.{is_le, match_ordering, nat_cmp}
use Rattle.std.specs.declared.cmp.Ordering.{Ordering}
use Rattle.std.specs.declared.cmp.Ordering.TheVariants.{Less, Equal, Greater}
use Rattle.std.proofs.lemmas.Bool.Decides.{nat_tests}
use Rattle.std.proofs.lemmas.Map.Lookups.{exact_unsigned}
use Rattle.model.specs.declared.events.Event.{Event}
use Rattle.model.specs.declared.events.Event.TheVariants.{Step, Tick, Irq, Write, Read}
use Rattle.model.specs.Acceptance.WellFormed.{is_device}
use Rattle.model.specs.Images.Image.{Image}
use Rattle.model.specs.Images.Places.{offset_of}
use Rattle.model.specs.Kernel.Steps.{place_of}
use Rattle.runner.specs.Devices.{AreDevicePages, has_word, is_kept, is_kept_by, is_word_in}

-- ---- a set with one start more

module _ (test : ℕ → Bool) (k : ℕ) where
  before : (rest : Bool) → (test k || rest) ≡ (rest || test k)
  before rest = elim (test k) as (λ b. (b || rest) ≡ (rest || b)) [
    | true ↦ elim rest as (λ r. true ≡ (r || true)) [ true ↦ refl | false ↦ refl ]
    | false ↦ elim rest as (λ r. r ≡ (r || false)) [ true ↦ refl | false ↦ refl ]
  ]

  there : (x : ℕ) (rest : Bool) → test k ≡ test x → (test x || rest) ≡ ((test x || rest) || test k)
  there x rest same =
      elim (test x) as (λ b. (b || rest) ≡ ((b || rest) || b)) [
        | true ↦ refl
        | false ↦ elim rest as (λ r. r ≡ (r || false)) [ true ↦ refl | false ↦ refl ]
      ]
      ∙ ap (λ b. (test x || rest) || b) (sym same)

  after : (x : ℕ) (new old : Bool) → new ≡ (old || test k) → (test x || new) ≡ ((test x || old) || test k)
  after x new old is =
      ap (λ b. test x || b) is
      ∙ elim (test x) as (λ b. (b || (old || test k)) ≡ ((b || old) || test k)) [ true ↦ refl | false ↦ refl ]

  one-more : (keys : List ℕ) → list_any test (insert_key nat_cmp keys k) ≡ (list_any test keys || test k)
  one-more [] = before false
  one-more (x ∷ rest) = by (nat_cmp k x) refl (one-more rest)
    where
      by : (o : Ordering) → nat_cmp k x ≡ o → list_any test (insert_key nat_cmp rest k) ≡ (list_any test rest || test k)
          → list_any test (match_ordering o (k ∷ x ∷ rest) (x ∷ rest) (x ∷ insert_key nat_cmp rest k)) ≡ ((test x || list_any test rest) || test k)
      by Less is later = before (test x || list_any test rest)
      by Equal is later = there x (list_any test rest) (ap test (exact_unsigned k x is))
      by Greater is later = after x (list_any test (insert_key nat_cmp rest k)) (list_any test rest) later

  -- it is noted where the page is a device page
  pub noted : (device : Bool) (keys new : List ℕ) → device ≡ true → new ≡ insert_key nat_cmp keys k
      → list_any test new ≡ (list_any test keys || (device && test k))
  noted device keys new is made =
      ap (list_any test) made ∙ one-more keys ∙ ap (λ b. list_any test keys || (b && test k)) (sym is)

-- ---- what lies in a range of starts

some-left : (p : ℕ → Bool) (keys : List ℕ) → list_any (λ _. true) (filter p keys) ≡ list_any p keys
some-left p [] = refl
some-left p (k ∷ rest) = elim (p k) as (λ b. list_any (λ _. true) (if b then k ∷ filter p rest else filter p rest) ≡ (b || list_any p rest)) [
  | true ↦ refl
  | false ↦ some-left p rest
]

abbrev in_range : ℕ → ℕ → ℕ → Bool
in_range first place start = is_le (nat_cmp first start) && not (is_le (nat_cmp (place + 1) start))

in-range : (first place start : ℕ) → first ≡ place - 4092 → in_range first place start ≡ has_word place start
in-range first place start is = grind (arith, nat_tests)

-- the starts between two are those of the pages with the word
pub ranged : (first place : ℕ) (keys left : List ℕ) → first ≡ place - 4092 → left ≡ filter (in_range first place) keys
    → list_any (λ _. true) left ≡ is_word_in keys place
ranged first place keys left is found =
    ap (list_any (λ _. true)) found ∙ some-left (in_range first place) keys ∙ (λ i. list_any (λ start. in-range first place start is i) keys)

-- ---- objects, one after another

any-range-more : (test : ℕ → Bool) (from count : ℕ) → list_any test (range_with_len from (suc count))
    ≡ (list_any test (range_with_len from count) || test (from + count))
any-range-more test from zero =
    let here : from ≡ from + 0 = omega arith in
    elim (test from) as (λ b. (b || false) ≡ b) [ true ↦ refl | false ↦ refl ] ∙ ap test here
any-range-more test from (suc count) =
    let there : from + 1 + count ≡ from + suc count = omega arith in
    let rest = any-range-more test (from + 1) count ∙ ap (λ n. list_any test (range_with_len (from + 1) count) || test n) there in
    ap (λ b. test from || b) rest
    ∙ elim (test from) as (λ b. (b || (list_any test (range_with_len (from + 1) count) || test (from + suc count)))
    ≡ ((b || list_any test (range_with_len (from + 1) count)) || test (from + suc count))) [
      | true ↦ refl
      | false ↦ refl
    ]

pub pages-none : (image : Image) (keys : List ℕ) → keys ≡ [] → AreDevicePages image 0 keys
pages-none image keys none = λ test. ap (list_any test) none

-- one object more, whose place is noted if it is a device page
pub pages-more : (image : Image) (n start : ℕ) (device : Bool) (old new : List ℕ) → device ≡ is_device image n → start ≡ offset_of image n
    → AreDevicePages image n old → ((test : ℕ → Bool) → list_any test new ≡ (list_any test old || (device && test start)))
    → AreDevicePages image (n + 1) new
pages-more image n start device old new is place were more = λ test.
    let one : ℕ → Bool = λ number. is_device image number && test (offset_of image number) in
    let here : n ≡ 0 + n = omega arith in
    let next : suc n ≡ n + 1 = omega arith in
    more test
    ∙ ap (λ b. b || (device && test start)) (were test)
    ∙ ap (λ b. list_any one (range_with_len 0 n) || (b && test start)) is
    ∙ ap (λ p. list_any one (range_with_len 0 n) || (is_device image n && test p)) place
    ∙ ap (λ m. list_any one (range_with_len 0 n) || one m) here
    ∙ sym (any-range-more one 0 n)
    ∙ ap (λ m. list_any one (range_with_len 0 m)) next

-- ---- events

-- the pages keep what the image keeps
pub same-kept : (image : Image) (starts : List ℕ) → AreDevicePages image image.header.objects starts → (event : Event)
    → is_kept_by starts event ≡ is_kept image event
same-kept image starts are Step = refl
same-kept image starts are Tick = refl
same-kept image starts are (Irq number) = refl
same-kept image starts are (Write address word) = are (has_word (place_of address))
same-kept image starts are (Read address) = are (has_word (place_of address))
