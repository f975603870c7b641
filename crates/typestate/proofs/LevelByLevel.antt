-- What descends from a slot, level by level, among changes whose keys rise.
use Rattle.std.proofs.Common.{ℕ, zero, suc, ◌≡◌, ◌∙◌, ◌==◌, ◌≤◌, ◌+◌, ◌||◌, ◌&&◌, ◌⊎◌, inl, inr, Bool, true, false, if◌then◌else◌, is_some, Option, Some, None}
use Rattle.std.proofs.Common.{option_and_then, List, [], ◌∷◌, length, refl, sym, ap, subst, arith}
use Rattle.std.specs.List.{filter}
use Rattle.std.specs.Option.{option_map_or}
use Rattle.std.proofs.lemmas.Bool.{eqb-true}
use Rattle.model.specs.Acceptance.NotedStates.{NotedSlot, SlotKey, is_same_key, number_of, slot_at}
use Rattle.typestate.specs.Differences.{left_by, slots_of}
use Rattle.typestate.specs.Orders.{Rise}
use Rattle.typestate.specs.Levels.{below_by, hangs_below}
use Rattle.typestate.specs.SlotChanges.{is_removed, noted_descends, noted_parent}
use Rattle.typestate.specs.declared.points.NotedSlots.{NotedSlots}
use Rattle.typestate.specs.declared.slot_changes.Removed.{Removed}
use Rattle.typestate.specs.declared.slot_changes.Removed.TheVariants.{One, Below}
use Rattle.typestate.proofs.Compared.{is_changed, same-place}
use Rattle.typestate.proofs.OwnChanges.{HoldOwn, hold-own, unnamed-parent}
use Rattle.typestate.proofs.PutPlaces.{rise-of}
use Rattle.typestate.proofs.Rising.{RiseFrom, from-first}

-- ---- by the number of a key

pub descends-same : (n : ℕ) (slots : List NotedSlot) (root a b : SlotKey) → number_of a ≡ number_of b →
    noted_descends n slots root a ≡ noted_descends n slots root b
unfolding noted_descends
descends-same zero slots root a b same = refl
descends-same (suc n) slots root a b same =
    ap (λ (found : Option NotedSlot). option_map_or (λ parent. is_same_key parent root || noted_descends n slots root parent)
    (option_and_then (λ (s : NotedSlot). s.parent) found) false) (same-place slots a b same)

pub removed-same : (slots : List NotedSlot) (which : Removed) (a b : SlotKey) → number_of a ≡ number_of b → is_removed slots which a ≡ is_removed slots which b
removed-same slots (One gone) a b same = ap (λ (n : ℕ). number_of gone == n) same
removed-same slots (Below root) a b same = descends-same 256 slots root a b same

-- what descends through so many slots does so through one more
pub descends-longer : (n : ℕ) (slots : List NotedSlot) (root key : SlotKey) → noted_descends n slots root key ≡ true →
    noted_descends (suc n) slots root key ≡ true
unfolding noted_descends
descends-longer zero slots root key is = absurd (let no : false ≡ true = is in cc)
descends-longer (suc n) slots root key is = elim (noted_parent slots key) as (λ (o : Option SlotKey).
    option_map_or (λ parent. is_same_key parent root || noted_descends n slots root parent) o false ≡ true
    → option_map_or (λ parent. is_same_key parent root || noted_descends (suc n) slots root parent) o false ≡ true) [
      | None ↦ λ clash. clash
      | Some p ↦ λ some. more (is_same_key p root) (noted_descends n slots root p) (noted_descends (suc n) slots root p) (descends-longer n slots root p) some
    ] is
  where
    more : (a b c : Bool) → (b ≡ true → c ≡ true) → (a || b) ≡ true → (a || c) ≡ true
    more true b c so is = refl
    more false b c so is = so is

-- ---- some of a list

filter-none : (cs : List NotedSlot) → filter (λ (c : NotedSlot). false) cs ≡ []
filter-none [] = refl
filter-none (c ∷ rest) = filter-none rest

filter-same : (p q : NotedSlot → Bool) → ((c : NotedSlot) → p c ≡ q c) → (cs : List NotedSlot) → filter p cs ≡ filter q cs
filter-same p q same [] = refl
filter-same p q same (c ∷ rest) =
    ap (λ b. if b then c ∷ filter p rest else filter p rest) (same c) ∙ ap (λ (l : List NotedSlot). if q c then c ∷ l else l) (filter-same p q same rest)

filter-own : (slots : List NotedSlot) (p q : NotedSlot → Bool) → ((c : NotedSlot) → slot_at slots c.key ≡ left_by c → p c ≡ q c) → (cs : List NotedSlot) →
    HoldOwn slots cs → filter p cs ≡ filter q cs
filter-own slots p q same [] own = refl
filter-own slots p q same (c ∷ rest) own =
    ap (λ b. if b then c ∷ filter p rest else filter p rest) (same c own.0)
    ∙ ap (λ (l : List NotedSlot). if q c then c ∷ l else l) (filter-own slots p q same rest own.1)

lower : (cs : List NotedSlot) (least low : ℕ) → low ≤ least → RiseFrom least cs → RiseFrom low cs
lower [] least low less rises = tt
lower (c ∷ rest) least low less rises = (omega (arith, less, rises.0), rises.1)

filter-rises : (p : NotedSlot → Bool) (cs : List NotedSlot) (least : ℕ) → RiseFrom least cs → RiseFrom least (filter p cs)
filter-rises p [] least rises = tt
filter-rises p (c ∷ rest) least rises =
    let more = filter-rises p rest (number_of c.key + 1) rises.1 in
    elim (p c) as (λ b. RiseFrom least (if b then c ∷ filter p rest else filter p rest)) [
      | true ↦ (rises.0, more)
      | false ↦ lower (filter p rest) (number_of c.key + 1) least (omega (arith, rises.0)) more
    ]

pub filter-rise : (p : NotedSlot → Bool) (cs : List NotedSlot) → Rise cs → Rise (filter p cs)
filter-rise p cs rises = rise-of (filter p cs) 0 (filter-rises p cs 0 (from-first cs rises))

filter-less : (p q : NotedSlot → Bool) → ((c : NotedSlot) → p c ≡ true → q c ≡ true) → (cs : List NotedSlot) → length (filter p cs) ≤ length (filter q cs)
filter-less p q so [] = omega arith
filter-less p q so (c ∷ rest) =
    let more = filter-less p q so rest in
    elim (p c) as (λ b. p c ≡ b → length (if b then c ∷ filter p rest else filter p rest) ≤ length (if q c then c ∷ filter q rest else filter q rest)) [
      | true ↦ λ is. subst (λ b. length (c ∷ filter p rest) ≤ length (if b then c ∷ filter q rest else filter q rest)) (sym (so c is)) (omega (arith, more))
      | false ↦ λ _. elim (q c) as (λ b. length (filter p rest) ≤ length (if b then c ∷ filter q rest else filter q rest))
          [ true ↦ omega (arith, more) | false ↦ more ]
    ] refl

abbrev AllSame : (NotedSlot → Bool) → (NotedSlot → Bool) → List NotedSlot → Type 0
AllSame p q [] = Unit {0}
AllSame p q (c ∷ rest) = (p c ≡ q c) × AllSame p q rest

as-many : (p q : NotedSlot → Bool) → ((c : NotedSlot) → p c ≡ true → q c ≡ true) → (cs : List NotedSlot) → length (filter q cs) ≡ length (filter p cs) →
    AllSame p q cs
as-many p q so [] same = tt
as-many p q so (c ∷ rest) same =
    let less = filter-less p q so rest in
    elim (p c) as (λ b. p c ≡ b → length (if q c then c ∷ filter q rest else filter q rest) ≡ length (if b then c ∷ filter p rest else filter p rest) →
    (p c ≡ q c) × AllSame p q rest) [
      | true ↦ λ is equal.
          let other = so c is in
          let both : length (c ∷ filter q rest) ≡ length (c ∷ filter p rest) =
          subst (λ b. length (if b then c ∷ filter q rest else filter q rest) ≡ length (c ∷ filter p rest)) other equal in
          (is ∙ sym other, as-many p q so rest (omega (arith, both)))
      | false ↦ λ isnt equal. elim (q c) as (λ b. q c ≡ b → length (if b then c ∷ filter q rest else filter q rest) ≡ length (filter p rest) → (p c ≡ q c)
          × AllSame p q rest) [
            | true ↦ λ _ clash. absurd (omega (arith, less, clash))
            | false ↦ λ other both. (isnt ∙ sym other, as-many p q so rest both)
          ] refl equal
    ] refl same

-- ---- what is found among some

module _ (f : SlotKey → Bool) (by : (a b : SlotKey) → number_of a ≡ number_of b → f a ≡ f b) where
  both-false : (a b : Bool) → b ≡ false → (a && b) ≡ false
  both-false true b is = is
  both-false false b is = refl

  filter-at : (cs : List NotedSlot) (key : SlotKey) → is_some (slot_at (filter (λ c. f c.key) cs) key) ≡ (is_changed cs key && f key)
  filter-at [] key = refl
  filter-at (c ∷ rest) key =
      let more = filter-at rest key in
      elim (is_same_key c.key key) as (λ same. is_same_key c.key key ≡ same →
      is_some (slot_at (if f c.key then c ∷ filter (λ c. f c.key) rest else filter (λ c. f c.key) rest) key) ≡ ((same || is_changed rest key) && f key)) [
        | true ↦ λ is.
            let fs : f c.key ≡ f key = by c.key key (eqb-true (number_of c.key) (number_of key) is) in
            elim (f c.key) as (λ b. f c.key ≡ b → is_some (slot_at (if b then c ∷ filter (λ c. f c.key) rest else filter (λ c. f c.key) rest) key) ≡ f key) [
              | true ↦ λ holds. ap (λ b. is_some (if b then Some c else slot_at (filter (λ c. f c.key) rest) key)) is ∙ sym holds ∙ fs
              | false ↦ λ isnt. more ∙ both-false (is_changed rest key) (f key) (sym fs ∙ isnt) ∙ sym isnt ∙ fs
            ] refl
        | false ↦ λ isnt. elim (f c.key) as (λ b. is_some (slot_at (if b then c ∷ filter (λ c. f c.key) rest else filter (λ c. f c.key) rest) key)
            ≡ (is_changed rest key && f key)) [
              | true ↦ ap (λ b. is_some (if b then Some c else slot_at (filter (λ c. f c.key) rest) key)) isnt ∙ more
              | false ↦ more
            ]
      ] refl

-- ---- levels

module _ (n : NotedSlots) (root : SlotKey) where
  abbrev slots : List NotedSlot
  slots = slots_of n

  abbrev below : ℕ → SlotKey → Bool
  below k key = noted_descends k slots root key

  own : HoldOwn slots n.changes.now
  own = hold-own n.image.now n.changes.now 0 (from-first n.changes.now n.ordered)

  -- what no change names was derived from none
  off-changes : (k : ℕ) (key : SlotKey) → is_changed n.changes.now key ≡ false → below k key ≡ false
  unfolding noted_descends
  off-changes zero key none = refl
  off-changes (suc k) key none = ap (λ (o : Option SlotKey). option_map_or (λ parent. is_same_key parent root || noted_descends k slots root parent) o false)
      parentless
    where
      parentless : noted_parent slots key ≡ None
      parentless = elim (slot_at slots key) as (λ (o : Option NotedSlot). slot_at slots key ≡ o → option_and_then (λ (s : NotedSlot). s.parent) o ≡ None) [
        | None ↦ λ _. refl
        | Some s ↦ λ at. unnamed-parent n key s at none
      ] refl

  pub listed-goes : (k : ℕ) (key : SlotKey) → is_some (slot_at (below_by k n root) key) ≡ below k key
  listed-goes k key =
      filter-at (below k) (λ a b same. descends-same k slots root a b same) n.changes.now key
      ∙ (elim (is_changed n.changes.now key) as (λ b. is_changed n.changes.now key ≡ b → (b && below k key) ≡ below k key) [
        | true ↦ λ _. refl
        | false ↦ λ none. sym (off-changes k key none)
      ] refl)

  level-at : (k : ℕ) (going : List NotedSlot) (c : NotedSlot) → going ≡ below_by k n root → slot_at slots c.key ≡ left_by c →
      hangs_below root going (left_by c) ≡ below (suc k) c.key
  unfolding noted_descends
  level-at k going c is holds =
      ap (λ (g : List NotedSlot). hangs_below root g (left_by c)) is
      ∙ on-held (left_by c)
      ∙ ap (λ (o : Option NotedSlot). option_map_or (λ parent. is_same_key parent root || noted_descends k slots root parent)
      (option_and_then (λ (s : NotedSlot). s.parent) o) false) (sym holds)
    where
      on-parent : (p : Option SlotKey) → option_map_or (λ p. is_same_key p root || is_some (slot_at (below_by k n root) p)) p false ≡ option_map_or
          (λ parent. is_same_key parent root || noted_descends k slots root parent) p false
      on-parent None = refl
      on-parent (Some p) = ap (λ b. is_same_key p root || b) (listed-goes k p)

      on-held : (o : Option NotedSlot) → hangs_below root (below_by k n root) o ≡ option_map_or
          (λ parent. is_same_key parent root || noted_descends k slots root parent) (option_and_then (λ (s : NotedSlot). s.parent) o) false
      on-held None = refl
      on-held (Some s) = on-parent s.parent

  pub next-level : (k : ℕ) (going : List NotedSlot) → going ≡ below_by k n root →
      filter (λ c. hangs_below root going (left_by c)) n.changes.now ≡ below_by (suc k) n root
  next-level k going is =
      filter-own slots (λ c. hangs_below root going (left_by c)) (λ c. below (suc k) c.key) (λ c holds. level-at k going c is holds) n.changes.now own

  pub first-level : [] ≡ below_by 0 n root
  unfolding noted_descends
  first-level = sym (filter-none n.changes.now)

  -- ---- where a level brings no more, none does

  on-changed : (k : ℕ) (cs : List NotedSlot) (key : SlotKey) → AllSame (λ c. below k c.key) (λ c. below (suc k) c.key) cs → is_changed cs key ≡ true →
      below k key ≡ below (suc k) key
  on-changed k [] key all some = absurd (let no : false ≡ true = some in cc)
  on-changed k (c ∷ rest) key all some = elim (is_same_key c.key key)
      as (λ b. is_same_key c.key key ≡ b → (b || is_changed rest key) ≡ true → below k key ≡ below (suc k) key) [
        | true ↦ λ is _.
            let same = eqb-true (number_of c.key) (number_of key) is in
            sym (descends-same k slots root c.key key same) ∙ all.0 ∙ descends-same (suc k) slots root c.key key same
        | false ↦ λ _ later. on-changed k rest key all.1 later
      ] refl some

  pub steady : (k j : ℕ) → ((key : SlotKey) → below (suc k) key ≡ below k key) → k ≤ j → (key : SlotKey) → below j key ≡ below k key
  unfolding noted_descends
  steady k zero still less key = ap (λ m. below m key) (let same : zero ≡ k = omega (arith, less) in same)
  steady k (suc j) still less key = elim (at-or-below k j less) [
    | inl same ↦ ap (λ m. below m key) (sym same)
    | inr more ↦
        let before : (p : SlotKey) → below j p ≡ below k p = λ p. steady k j still more p in
        on-parent (noted_parent slots key) before ∙ still key
  ]
    where
      at-or-below : (k j : ℕ) → k ≤ suc j → (k ≡ suc j) ⊎ (k ≤ j)
      at-or-below k j less = grind arith

      on-parent : (o : Option SlotKey) → ((p : SlotKey) → below j p ≡ below k p)
          → option_map_or (λ parent. is_same_key parent root || noted_descends j slots root parent) o false ≡ option_map_or
          (λ parent. is_same_key parent root || noted_descends k slots root parent) o false
      on-parent None before = refl
      on-parent (Some p) before = ap (λ b. is_same_key p root || b) (before p)

  pub levels-end : (k j : ℕ) → k ≤ j → length (below_by (suc k) n root) ≡ length (below_by k n root) → below_by k n root ≡ below_by j n root
  levels-end k j less same =
      let all = as-many (λ c. below k c.key) (λ c. below (suc k) c.key) (λ c is. descends-longer k slots root c.key is) n.changes.now same in
      let still : (key : SlotKey) → below (suc k) key ≡ below k key = λ key.
      elim (is_changed n.changes.now key) as (λ b. is_changed n.changes.now key ≡ b → below (suc k) key ≡ below k key) [
        | true ↦ λ some. sym (on-changed k n.changes.now key all some)
        | false ↦ λ none. off-changes (suc k) key none ∙ sym (off-changes k key none)
      ] refl in
      filter-same (λ c. below k c.key) (λ c. below j c.key) (λ c. sym (steady k j still less c.key)) n.changes.now
