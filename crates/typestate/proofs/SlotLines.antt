-- Lines of parents, step by step.
use Rattle.std.proofs.Common.{ℕ, zero, suc, ◌≡◌, ◌∙◌, ◌+◌, ◌-◌, ◌<◌, Bool, true, false, nat_lt, if◌then◌else◌, Option, Some, None, option_and_then, List, refl}
use Rattle.std.proofs.Common.{sym, ap, arith}
use Rattle.std.specs.Option.{option_map_or}
use Rattle.std.proofs.lemmas.Bool.Decides.{nat_tests}
use Rattle.model.specs.Acceptance.NotedStates.{NotedSlot, SlotKey, slot_at}
use Rattle.model.specs.Capabilities.CapabilityKinds.{is_untyped}
use Rattle.model.specs.declared.capabilities.Cap.{Cap}
use Rattle.typestate.specs.SlotChanges.{boot_depth, noted_depth, noted_outside, noted_parent}

left-over : (m i : ℕ) → i < m → m - i ≡ suc (m - (i + 1))
left-over m i below = omega (arith, below)

-- ---- depths

abbrev depth_found : ℕ → List NotedSlot → Option NotedSlot → ℕ
depth_found n slots found = option_map_or (λ s. option_map_or (noted_depth n slots) s.parent (boot_depth n s.capability) + 1) found 0

depth-step : (n : ℕ) (slots : List NotedSlot) (key : SlotKey) → noted_depth (suc n) slots key ≡ depth_found n slots (slot_at slots key)
unfolding noted_depth
depth-step n slots key = refl

depth-found : (m i whole : ℕ) (slots : List NotedSlot) (place : SlotKey) → i < m → whole ≡ i + noted_depth (m - i) slots place →
    whole ≡ i + depth_found (m - (i + 1)) slots (slot_at slots place)
depth-found m i whole slots place below is = is ∙ ap (λ k. i + noted_depth k slots place) (left-over m i below)
    ∙ ap (λ d. i + d) (depth-step (m - (i + 1)) slots place)

pub depth-more : (m i whole : ℕ) (slots : List NotedSlot) (place parent : SlotKey) (s : NotedSlot) → i < m → slot_at slots place ≡ Some s →
    s.parent ≡ Some parent
    → whole ≡ i + noted_depth (m - i) slots place → whole ≡ i + 1 + noted_depth (m - (i + 1)) slots parent
depth-more m i whole slots place parent s below found above is =
    let n = m - (i + 1) in
    depth-found m i whole slots place below is ∙ ap (λ (o : Option NotedSlot). i + depth_found n slots o) found
    ∙ ap (λ (p : Option SlotKey). i + (option_map_or (noted_depth n slots) p (boot_depth n s.capability) + 1)) above ∙ one-more i (noted_depth n slots parent)
  where
    one-more : (a b : ℕ) → a + (b + 1) ≡ a + 1 + b
    one-more a b = omega arith

-- the same by what the slot was derived from
pub depth-above : (m i whole : ℕ) (slots : List NotedSlot) (place parent : SlotKey) → i < m → noted_parent slots place ≡ Some parent
    → whole ≡ i + noted_depth (m - i) slots place → whole ≡ i + 1 + noted_depth (m - (i + 1)) slots parent
depth-above m i whole slots place parent below above is =
    elim (slot_at slots place) as (λ o. slot_at slots place ≡ o → option_and_then (λ (s : NotedSlot). s.parent) o ≡ Some parent →
    whole ≡ i + 1 + noted_depth (m - (i + 1)) slots parent) [
      | None ↦ λ _ none. absurd (let clash : None ≡ Some parent = none in cc)
      | Some s ↦ λ found from. depth-more m i whole slots place parent s below found from is
    ] refl above

pub depth-nothing : (m i whole : ℕ) (slots : List NotedSlot) (place : SlotKey) → i < m → slot_at slots place ≡ None →
    whole ≡ i + noted_depth (m - i) slots place → whole ≡ i
depth-nothing m i whole slots place below none is =
    depth-found m i whole slots place below is ∙ ap (λ (o : Option NotedSlot). i + depth_found (m - (i + 1)) slots o) none ∙ plus-zero i
  where
    plus-zero : (a : ℕ) → a + 0 ≡ a
    plus-zero a = omega arith

top-test : (n i : ℕ) (capability : Cap) → n + i ≡ 255 → nat_lt (i + (boot_depth n capability + 1)) 255 ≡ nat_lt (i + (if is_untyped capability then 1 else 2))
    255
top-test zero i capability all = elim (is_untyped capability) as (λ b. nat_lt (i + 1) 255 ≡ nat_lt (i + (if b then 1 else 2)) 255) [
  | true ↦ refl
  | false ↦ both-false i all
]
  where
    both-false : (i : ℕ) → 0 + i ≡ 255 → nat_lt (i + 1) 255 ≡ nat_lt (i + 2) 255
    both-false i all = grind (arith, nat_tests)
top-test (suc n) i capability all = elim (is_untyped capability) as (λ b. nat_lt (i + ((if b then 0 else 1) + 1)) 255 ≡ nat_lt (i + (if b then 1 else 2)) 255) [
  | true ↦ refl
  | false ↦ refl
]

depth-top : (i whole : ℕ) (slots : List NotedSlot) (place : SlotKey) (s : NotedSlot) → i < 256 → slot_at slots place ≡ Some s → s.parent ≡ None
    → whole ≡ i + noted_depth (256 - i) slots place → nat_lt whole 255 ≡ nat_lt (i + (if is_untyped s.capability then 1 else 2)) 255
depth-top i whole slots place s below found none is =
    let n = 256 - (i + 1) in
    let whole_is : whole ≡ i + (boot_depth n s.capability + 1) =
    depth-found 256 i whole slots place below is ∙ ap (λ (o : Option NotedSlot). i + depth_found n slots o) found
    ∙ ap (λ (p : Option SlotKey). i + (option_map_or (noted_depth n slots) p (boot_depth n s.capability) + 1)) none in
    ap (λ d. nat_lt d 255) whole_is ∙ top-test n i s.capability (omega (arith, below))

-- the slot without a parent, and what stands above it
pub depth-ends : (i whole : ℕ) (slots : List NotedSlot) (place : SlotKey) → i < 256 → noted_parent slots place ≡ None
    → whole ≡ i + noted_depth (256 - i) slots place
    → nat_lt (i + option_map_or (λ s. if is_untyped s.capability then 1 else 2) (slot_at slots place) 0) 255 ≡ nat_lt whole 255
depth-ends i whole slots place below above is =
    elim (slot_at slots place) as (λ o. slot_at slots place ≡ o → option_and_then (λ (s : NotedSlot). s.parent) o ≡ None →
    nat_lt (i + option_map_or (λ (s : NotedSlot). if is_untyped s.capability then 1 else 2) o 0) 255 ≡ nat_lt whole 255) [
      | None ↦ λ none _.
          ap (λ d. nat_lt d 255) (let e : i + 0 ≡ i = omega arith in e) ∙ sym (ap (λ d. nat_lt d 255) (depth-nothing 256 i whole slots place below none is))
      | Some s ↦ λ found from. sym (depth-top i whole slots place s below found from is)
    ] refl above

-- a line that is longer
pub depth-end : (m i whole : ℕ) (slots : List NotedSlot) (place : SlotKey) → i ≡ m → whole ≡ i + noted_depth (m - i) slots place → whole ≡ m
unfolding noted_depth
depth-end m i whole slots place all is = is ∙ ap (λ k. i + noted_depth k slots place) (let e : m - i ≡ 0 = omega (arith, all) in e)
    ∙ (let e : i + 0 ≡ m = omega (arith, all) in e)

-- ---- the nearest that stays

outside-step : (m i : ℕ) (gone : SlotKey → Bool) (slots : List NotedSlot) (key : SlotKey) → i < m
    → noted_outside (m - i) gone slots (Some key) ≡ (if gone key then noted_outside (m - (i + 1)) gone slots (noted_parent slots key) else Some key)
unfolding noted_outside
outside-step m i gone slots key below = ap (λ n. noted_outside n gone slots (Some key)) (left-over m i below)

pub outside-more : (m i : ℕ) (whole : Option SlotKey) (gone : SlotKey → Bool) (slots : List NotedSlot) (key : SlotKey) → i < m → gone key ≡ true
    → whole ≡ noted_outside (m - i) gone slots (Some key) → whole ≡ noted_outside (m - (i + 1)) gone slots (noted_parent slots key)
outside-more m i whole gone slots key below goes is =
    is ∙ outside-step m i gone slots key below ∙ ap (λ b. if b then noted_outside (m - (i + 1)) gone slots (noted_parent slots key) else Some key) goes

pub outside-here : (m i : ℕ) (whole : Option SlotKey) (gone : SlotKey → Bool) (slots : List NotedSlot) (key : SlotKey) → i < m → gone key ≡ false
    → whole ≡ noted_outside (m - i) gone slots (Some key) → whole ≡ Some key
outside-here m i whole gone slots key below stays is =
    is ∙ outside-step m i gone slots key below ∙ ap (λ b. if b then noted_outside (m - (i + 1)) gone slots (noted_parent slots key) else Some key) stays

pub outside-none : (n : ℕ) (gone : SlotKey → Bool) (slots : List NotedSlot) → noted_outside n gone slots None ≡ None
unfolding noted_outside
outside-none zero gone slots = refl
outside-none (suc n) gone slots = refl

pub outside-end : (m i : ℕ) (whole : Option SlotKey) (gone : SlotKey → Bool) (slots : List NotedSlot) (parent : Option SlotKey) → i ≡ m →
    whole ≡ noted_outside (m - i) gone slots parent → whole ≡ None
unfolding noted_outside
outside-end m i whole gone slots parent all is = is ∙ ap (λ n. noted_outside n gone slots parent) (let e : m - i ≡ 0 = omega (arith, all) in e)
