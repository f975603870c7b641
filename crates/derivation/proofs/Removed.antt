-- One descendant of a root taken out, the first in the order, and what is left to take out.
use Rattle.std.proofs.Common.{ℕ, ◌≡◌, ◌≢◌, ◌∙◌, ◌==◌, ◌+◌, ◌<◌, ◌≤◌, inl, inr, true, false, if◌then◌else◌, Option, Some, None, List, [], ◌∷◌, length, refl, sym}
use Rattle.std.proofs.Common.{ap, arith}
use Rattle.std.specs.Option.{option_map, option_map_or}
use Rattle.std.proofs.lemmas.Bool.{ne_eqb}
use Rattle.std.proofs.lemmas.Bool.Decides.{eqb_tells}
use Rattle.model.specs.Capabilities.Orders.{IsOrderOf, next_in, descendants, first_of}
use Rattle.model.specs.Shared.Lists.{times_in, without}
use Rattle.model.specs.Capabilities.Slots.{Slots, Descendant, child, deeper, IsDerivation, IsFull, SameOutside, adopted, depth_of, empty_entry, is_descendant}
use Rattle.model.specs.Capabilities.Slots.{is_full, parent_at, spliced, with_parent}
use Rattle.model.specs.declared.slot_entries.Entry.{Entry}
use Rattle.model.proofs.Ancestors.{depth-child, descendant-from_test, descendant-full, descendants-once, descends-none, test-from_descendant}
use Rattle.model.proofs.Derivations.{derivation-spliced}
use Rattle.model.proofs.Orders.{filter-first, filter-without, first-none, first-some, next-first, order-spliced, times-first, without-absent, without-first}
use Rattle.model.proofs.SlotChanges.{entry-other, entry-same, full-not-none, parent_of}
use Rattle.derivation.proofs.Splices.{descendant-after, descendant-before, parent-gone}
use Rattle.derivation.specs.Removals.{without_descendants}

-- a descendant is deeper, so no slot descends from itself
descendant-deeper : (slots : Slots) (root slot : ℕ) → IsDerivation slots → Descendant slots root slot → depth_of slots root < depth_of slots slot
descendant-deeper slots root slot tree (child _ is) = omega (arith, depth-child slots slot root tree is)
descendant-deeper slots root slot tree (deeper _ parent is above) =
    omega (arith, depth-child slots slot parent tree is, descendant-deeper slots root parent tree above)

not-own : (slots : Slots) (root slot : ℕ) → IsDerivation slots → Descendant slots root slot → root ≢ slot
not-own slots root slot tree below = λ same. absurd (omega (arith, descendant-deeper slots root slot tree below, ap (depth_of slots) same))

-- a slot taken out descends from none
gone-root : (slots : Slots) (root gone : ℕ) → is_descendant (spliced slots gone) root gone ≡ false
gone-root slots root gone = descends-none (depth_of (spliced slots gone) gone) (parent_at (spliced slots gone)) root gone (parent-gone slots gone)

-- the others descend as before
others-descend : (slots : Slots) (root gone slot : ℕ) → IsDerivation slots → is_descendant slots root gone ≡ true → slot ≢ gone →
    is_descendant (spliced slots gone) root slot ≡ is_descendant slots root slot
others-descend slots root gone slot tree known other =
    let new : Slots = spliced slots gone in
    let below = descendant-from_test (depth_of slots gone) slots root gone known in
    let sound : IsDerivation new = derivation-spliced slots gone tree (descendant-full slots root gone tree known) in
    elim (is_descendant slots root slot) as (λ b. is_descendant slots root slot ≡ b → is_descendant new root slot ≡ b) [
      | true ↦ λ is. test-from_descendant new root slot sound
          (descendant-after slots gone root slot tree (not-own slots root gone tree below) other
          (descendant-from_test (depth_of slots slot) slots root slot is))
      | false ↦ λ is. elim (is_descendant new root slot) as (λ b. is_descendant new root slot ≡ b → b ≡ false) [
        | true ↦ λ was. absurd (let clash : false ≡ true = sym is
            ∙ test-from_descendant slots root slot tree
            (descendant-before slots gone root slot (descendant-from_test (depth_of new slot) new root slot was)) in cc)
        | false ↦ λ was. refl
      ] refl
    ] refl

-- an entry whose parent stays keeps it
adopted-same : (gone : ℕ) (parent : Option ℕ) (held : Option Entry) → parent_of held ≢ Some gone → option_map (adopted gone parent) held ≡ held
adopted-same gone parent None other = refl
adopted-same gone parent (Some held) other =
    elim held.parent as (λ o. held.parent ≡ o → option_map (adopted gone parent) (Some held) ≡ Some held) [
      | None ↦ λ is. ap (λ o. Some (if option_map_or (λ p. p == gone) o false then record held { parent = parent } else held)) is
      | Some p ↦ λ is.
          let apart : p ≢ gone = λ same. other (is ∙ ap (λ q. Some q) same) in
          ap (λ o. Some (if option_map_or (λ p. p == gone) o false then record held { parent = parent } else held)) is
          ∙ ap (λ b. Some (if b then record held { parent = parent } else held)) (ne_eqb p gone apart)
    ] refl

-- what is left once one descendant is taken out and then all others is what is left of all
pub rest-without : (slots : Slots) (root gone : ℕ) → IsDerivation slots → is_descendant slots root gone ≡ true → (s : ℕ) →
    without_descendants (spliced slots gone) root s ≡ without_descendants slots root s
rest-without slots root gone tree known s =
    let new : Slots = spliced slots gone in
    let above : Option ℕ = parent_at slots gone in
    elim (eqb_tells s gone) [
      | inl here ↦
          ap (without_descendants new root) here.1
          ∙ ap (λ b. if b then Some empty_entry else new gone) (gone-root slots root gone)
          ∙ entry-same (with_parent slots gone above) gone (Some empty_entry)
          ∙ sym (ap (λ b. if b then Some empty_entry else slots gone) known) ∙ sym (ap (without_descendants slots root) here.1)
      | inr other ↦
          ap (λ b. if b then Some empty_entry else new s) (others-descend slots root gone s tree known other.1)
          ∙ elim (is_descendant slots root s) as (λ b. is_descendant slots root s ≡ b →
          (if b then Some empty_entry else new s) ≡ (if b then Some empty_entry else slots s)) [
            | true ↦ λ is. refl
            | false ↦ λ is.
                let below = descendant-from_test (depth_of slots gone) slots root gone known in
                let stays : parent_at slots s ≢ Some gone = λ was.
                absurd (let clash : false ≡ true = sym is ∙ test-from_descendant slots root s tree (deeper s gone was below) in cc) in
                entry-other (with_parent slots gone above) gone (Some empty_entry) s other.1 ∙ adopted-same gone above (slots s) stays
          ] refl
    ]

-- a store while descendants of a root are taken out: the slots, their order, the next descendant
pub record IsLeft (before slots : Slots) (order : List ℕ) (root : ℕ) (next : Option ℕ) : Type 0 where
  pub tree : IsDerivation slots
  pub lists : IsOrderOf order slots
  pub first : next ≡ first_of (descendants order slots root)
  pub rest : (s : ℕ) → without_descendants slots root s ≡ without_descendants before root s
  pub closed : (s : ℕ) → before s ≡ None → slots s ≡ None

-- the next descendant heads the list of them
pub heads : (before slots : Slots) (order : List ℕ) (root slot : ℕ) → IsLeft before slots order root (Some slot) → (rest : List ℕ)
    × (descendants order slots root ≡ slot ∷ rest)
heads before slots order root slot left = first-some (descendants order slots root) slot (sym left.first)

pub next-known : (before slots : Slots) (order : List ℕ) (root slot : ℕ) → IsLeft before slots order root (Some slot) → is_descendant slots root slot ≡ true
next-known before slots order root slot left =
    let head = heads before slots order root slot left in
    filter-first (is_descendant slots root) order slot head.0 head.1

pub next-full : (before slots : Slots) (order : List ℕ) (root slot : ℕ) → IsLeft before slots order root (Some slot) → IsFull slots slot
next-full before slots order root slot left = descendant-full slots root slot left.tree (next-known before slots order root slot left)

-- the descendants once the first is taken out
pub descendants-left : (before slots : Slots) (order : List ℕ) (root slot : ℕ) (rest : List ℕ) → IsLeft before slots order root (Some slot) →
    descendants order slots root ≡ slot ∷ rest → descendants (without slot order) (spliced slots slot) root ≡ rest
descendants-left before slots order root slot rest left is =
    let known = next-known before slots order root slot left in
    let once : times_in (slot ∷ rest) slot ≡ 1 = sym (ap (λ l. times_in l slot) is) ∙ descendants-once order slots root slot left.tree left.lists
    ∙ ap (λ b. if b then 1 else 0) known in
    filter-without (is_descendant slots root) (is_descendant (spliced slots slot) root) order slot
    (λ s other. others-descend slots root slot s left.tree known other)
    ∙ ap (without slot) is ∙ without-first slot rest ∙ without-absent slot rest (omega (arith, once, times-first slot rest))

pub one-fewer : (before slots : Slots) (order : List ℕ) (root slot : ℕ) → IsLeft before slots order root (Some slot) →
    length (descendants (without slot order) (spliced slots slot) root) < length (descendants order slots root)
one-fewer before slots order root slot left =
    let head = heads before slots order root slot left in
    omega (arith, ap length head.1, ap length (descendants-left before slots order root slot head.0 left head.1))

pub left-after : (before slots : Slots) (order : List ℕ) (root slot : ℕ) (next : Option ℕ) → IsLeft before slots order root (Some slot) →
    next ≡ next_in (descendants order slots root) (Some slot) → IsLeft before (spliced slots slot) (without slot order) root next
left-after before slots order root slot next left is =
    let head = heads before slots order root slot left in
    let known = next-known before slots order root slot left in
    let full = next-full before slots order root slot left in
    record {
      tree = derivation-spliced slots slot left.tree full;
      lists = order-spliced slots order slot left.lists;
      first = is ∙ ap (λ l. next_in l (Some slot)) head.1 ∙ next-first slot head.0
          ∙ sym (ap first_of (descendants-left before slots order root slot head.0 left head.1));
      rest = λ s. rest-without slots root slot left.tree known s ∙ left.rest s;
      closed = λ s none.
          let was = left.closed s none in
          let other : s ≢ slot = λ same. full-not-none slots slot full (ap slots (sym same) ∙ was) in
          entry-other (with_parent slots slot (parent_at slots slot)) slot (Some empty_entry) s other
          ∙ ap (option_map (adopted slot (parent_at slots slot))) was;
    }

-- none are left at the end
pub none-left : (before slots : Slots) (order : List ℕ) (root : ℕ) → IsLeft before slots order root None → (s : ℕ) → is_descendant slots root s ≡ false
none-left before slots order root left s =
    let none : first_of (descendants order slots root) ≡ None = sym left.first in
    elim (is_descendant slots root s) as (λ b. is_descendant slots root s ≡ b → b ≡ false) [
      | true ↦ λ is. absurd (omega (
        arith,
        descendants-once order slots root s left.tree left.lists ∙ ap (λ b. if b then 1 else 0) is,
        ap (λ l. times_in l s) (first-none (descendants order slots root) none),
      ))
      | false ↦ λ is. refl
    ] refl

pub all-without : (before slots : Slots) (order : List ℕ) (root : ℕ) → IsLeft before slots order root None → (s : ℕ) →
    slots s ≡ without_descendants before root s
all-without before slots order root left s =
    sym (ap (λ b. if b then Some empty_entry else slots s) (none-left before slots order root left s)) ∙ left.rest s

pub no-descendant : (before slots : Slots) (order : List ℕ) (root : ℕ) → IsLeft before slots order root None → (s : ℕ) → Descendant slots root s → ⊥
no-descendant before slots order root left s below =
    absurd (let clash : false ≡ true = sym (none-left before slots order root left s) ∙ test-from_descendant slots root s left.tree below in cc)

-- bytes outside slots stay along the way
pub outside-then : (before slots : Slots) (first second third : List ℕ) → ((s : ℕ) → before s ≡ None → slots s ≡ None) → SameOutside before first second →
    SameOutside slots second third → SameOutside before first third
outside-then before slots first second third closed one two = record {
  size = two.size ∙ one.size;
  bytes = λ place none. two.bytes place (closed _ none) ∙ one.bytes place none;
}
