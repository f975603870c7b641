-- What is derived from a slot's parent, with it and without it.
use Rattle.std.proofs.Common.{ℕ, ◌≡◌, ◌≢◌, ◌∙◌, ◌==◌, ◌+◌, ◌<◌, ◌&&◌, inl, inr, not, Bool, true, false, if◌then◌else◌, Option, Some, None, is_some, List, []}
use Rattle.std.proofs.Common.{◌∷◌, refl, sym, ap, arith}
use Rattle.std.proofs.lemmas.Bool.Decides.{eqb_tells}
use Rattle.std.proofs.lemmas.Bool.{eq-eqb, ne_eqb}
use Rattle.std.specs.Option.{option_map_or}
use Rattle.model.proofs.Ancestors.{depth-child, descendant-from_test, descendants-once, test-from_descendant}
use Rattle.model.proofs.Depths.{adopted_parent}
use Rattle.model.proofs.Orders.{first-none, first-some, next-first, times-first}
use Rattle.model.proofs.SlotChanges.{entry-other, entry-same, parent-adopted, parent_of}
use Rattle.model.specs.Capabilities.Orders.{IsOrderOf, descendants, next_after, next_in}
use Rattle.model.specs.Capabilities.Slots.{Descendant, IsDerivation, Slots, child, deeper, depth_of, empty_entry, is_descendant, parent_at, spliced}
use Rattle.model.specs.Capabilities.Slots.{with_parent}
use Rattle.model.specs.Shared.Lists.{times_in}
use Rattle.slots.specs.Kin.{LeavesChildless, childless, has_child}

-- ---- parents once a slot is emptied

left-parent : (slots : Slots) (gone s : ℕ) → s ≢ gone → parent_at (spliced slots gone) s ≡ adopted_parent gone (parent_at slots gone) (parent_at slots s)
left-parent slots gone s off =
    ap parent_of (entry-other (with_parent slots gone (parent_at slots gone)) gone (Some empty_entry) s off)
    ∙ parent-adopted gone (parent_at slots gone) (slots s)

gone-parent : (slots : Slots) (gone : ℕ) → parent_at (spliced slots gone) gone ≡ None
gone-parent slots gone = ap parent_of (entry-same (with_parent slots gone (parent_at slots gone)) gone (Some empty_entry))

keeps-parent : (slots : Slots) (gone s p : ℕ) → s ≢ gone → p ≢ gone → parent_at slots s ≡ Some p → parent_at (spliced slots gone) s ≡ Some p
keeps-parent slots gone s p off apart is =
    left-parent slots gone s off ∙ ap (adopted_parent gone (parent_at slots gone)) is
    ∙ ap (λ b. if b then parent_at slots gone else Some p) (ne_eqb p gone apart)

heir-parent : (slots : Slots) (gone s : ℕ) → s ≢ gone → parent_at slots s ≡ Some gone → parent_at (spliced slots gone) s ≡ parent_at slots gone
heir-parent slots gone s off is =
    left-parent slots gone s off ∙ ap (adopted_parent gone (parent_at slots gone)) is
    ∙ ap (λ b. if b then parent_at slots gone else Some gone) (eq-eqb gone gone refl)

module _ (slots : Slots) (slot parent : ℕ) (tree : IsDerivation slots) (up : parent_at slots slot ≡ Some parent) where
  apart : parent ≢ slot
  apart same = absurd (omega (arith, depth-child slots slot parent tree up, ap (depth_of slots) same))

  -- who has another descendant has another child
  other-child : (x : ℕ) → x ≢ slot → Descendant slots parent x → (other : ℕ) × (parent_at (spliced slots slot) other ≡ Some parent)
  other-child x off (child _ is) = (x, keeps-parent slots slot x parent off apart is)
  other-child x off (deeper _ q is above) = elim (eqb_tells q slot) [
    | inl here ↦ (x, heir-parent slots slot x off (is ∙ ap Some here.1) ∙ up)
    | inr beside ↦ other-child q beside.1 above
  ]

  pub leaves-other : (x : ℕ) → x ≢ slot → is_descendant slots parent x ≡ true → LeavesChildless slots slot None
  leaves-other x off below =
      let found = other-child x off (descendant-from_test (depth_of slots x) slots parent x below) in
      has_child parent found.0 up found.1

  -- a child afterwards was a descendant
  below-still : (other : ℕ) → other ≢ slot → parent_at (spliced slots slot) other ≡ Some parent → Descendant slots parent other
  below-still other off is = elim (parent_at slots other) as (λ o. parent_at slots other ≡ o → Descendant slots parent other) [
    | None ↦ λ none. absurd (let clash : None ≡ Some parent = sym (left-parent slots slot other off ∙ ap (adopted_parent slot (parent_at slots slot)) none)
        ∙ is in cc)
    | Some q ↦ λ some. elim (eqb_tells q slot) [
      | inl here ↦ deeper other slot (some ∙ ap Some here.1) (child slot up)
      | inr beside ↦
          let same : q ≡ parent = (let e : Some q ≡ Some parent = sym (keeps-parent slots slot other q off beside.1 some) ∙ is in cc) in
          child other (some ∙ ap Some same)
    ]
  ] refl

  was-below : (other : ℕ) → parent_at (spliced slots slot) other ≡ Some parent → (other ≢ slot) × Descendant slots parent other
  was-below other is = elim (eqb_tells other slot) [
    | inl here ↦ absurd (let clash : None ≡ Some parent = sym (gone-parent slots slot) ∙ ap (parent_at (spliced slots slot)) (sym here.1) ∙ is in cc)
    | inr off ↦ (off.1, below-still other off.1 is)
  ]

  pub leaves-none : ((x : ℕ) → is_descendant slots parent x ≡ true → x ≡ slot) → LeavesChildless slots slot (Some parent)
  leaves-none only =
      let none : (other : ℕ) → parent_at (spliced slots slot) other ≢ Some parent = λ other is.
      let was = was-below other is in
      was.0 (only other (test-from_descendant slots parent other tree was.1))
      in
      childless parent up none

  module _ (order : List ℕ) (lists : IsOrderOf order slots) where
    abbrev below : List ℕ
    below = descendants order slots parent

    listed : (x : ℕ) → is_descendant slots parent x ≡ true → times_in below x ≡ 1
    listed x is = descendants-once order slots parent x tree lists ∙ ap (λ b. if b then 1 else 0) is

    own : times_in below slot ≡ 1
    own = listed slot (test-from_descendant slots parent slot tree (child slot up))

    -- one alone descends from the parent
    pub leaves-one : (first : Option ℕ) → first ≡ next_in below None → next_in below first ≡ None → LeavesChildless slots slot (Some parent)
    leaves-one None is last = absurd (omega (arith, own, ap (λ l. times_in l slot) (first-none below (sym is))))
    leaves-one (Some f) is last =
        let split = first-some below f (sym is) in
        let rest : split.0 ≡ [] = first-none split.0 (sym (next-first f split.0) ∙ sym (ap (λ l. next_after l f) split.1) ∙ last) in
        let whole : below ≡ f ∷ [] = split.1 ∙ ap (λ l. f ∷ l) rest in
        let is-it : (x : ℕ) → times_in below x ≡ 1 → f ≡ x = λ x there. elim (eqb_tells f x) [
          | inl here ↦ here.1
          | inr off ↦ absurd (omega (arith, there, ap (λ l. times_in l x) whole, ap (λ b. if b then 0 + 1 else 0) off.0))
        ] in
        leaves-none (λ x below'. sym (is-it x (listed x below')) ∙ is-it slot own)

    -- two descend from it
    pub leaves-two : (first : Option ℕ) (second : ℕ) → first ≡ next_in below None → next_in below first ≡ Some second
        → ((f : ℕ) → first ≡ Some f → is_descendant slots parent f ≡ true) → is_descendant slots parent second ≡ true → LeavesChildless slots slot None
    leaves-two None second is next known known_second = absurd (let clash : None ≡ Some second = is ∙ next in cc)
    leaves-two (Some f) second is next known known_second =
        let split = first-some below f (sym is) in
        let more = first-some split.0 second (sym (next-first f split.0) ∙ sym (ap (λ l. next_after l f) split.1) ∙ next) in
        let once : times_in below f ≡ 1 = listed f (known f refl) in
        let two : f ≢ second = λ same. absurd (omega (
          arith,
          once,
          ap (λ l. times_in l f) split.1,
          times-first f split.0,
          ap (λ l. times_in l f) more.1,
          ap (λ y. times_in (second ∷ more.0) y) same,
          times-first second more.0,
        )) in
        elim (eqb_tells f slot) [
          | inl here ↦ leaves-other second (λ same. two (here.1 ∙ sym same)) known_second
          | inr off ↦ leaves-other f off.1 (known f refl)
        ]

-- ---- lists

pub later : (x : ℕ) (rest : List ℕ) (s : ℕ) → x ≢ s → 0 < times_in (x ∷ rest) s → 0 < times_in rest s
later x rest s off there = omega (arith, there, ap (λ b. if b then times_in rest s + 1 else times_in rest s) (ne_eqb x s off))

-- ---- whether there is one

pub none-of : (o : Option ℕ) → is_some o ≡ false → o ≡ None
none-of None is = refl
none-of (Some slot) is = absurd (let clash : true ≡ false = is in cc)

pub some-of : (o : Option ℕ) → is_some o ≡ true → (slot : ℕ) × (o ≡ Some slot)
some-of None is = absurd (let clash : false ≡ true = is in cc)
some-of (Some slot) is = (slot, refl)

-- ---- whether a slot beside the descendants names an object

named-so : (o : Option ℕ) (offset : ℕ) → option_map_or (λ named. named == offset) o false ≡ true → o ≡ Some offset
named-so None offset is = absurd (let clash : false ≡ true = is in cc)
named-so (Some x) offset is = elim (eqb_tells x offset) [
  | inl here ↦ ap Some here.1
  | inr off ↦ absurd (let clash : false ≡ true = sym off.0 ∙ is in cc)
]

pub beside-so : (o : Option ℕ) (offset : ℕ) (is_below : Bool) → (not is_below && option_map_or (λ named. named == offset) o false) ≡ true → (is_below ≡ false)
    × (o ≡ Some offset)
beside-so o offset true is = absurd (let clash : false ≡ true = is in cc)
beside-so o offset false is = (refl, named-so o offset is)

pub so-beside : (o : Option ℕ) (offset : ℕ) (is_below : Bool) → is_below ≡ false → o ≡ Some offset →
    (not is_below && option_map_or (λ named. named == offset) o false) ≡ true
so-beside o offset is_below beside is =
    ap (λ b. not b && option_map_or (λ named. named == offset) o false) beside ∙ ap (λ o. option_map_or (λ named. named == offset) o false) is
    ∙ eq-eqb offset offset refl
