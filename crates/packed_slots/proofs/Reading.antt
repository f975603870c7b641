-- What reads of slots that are packed find.
use Rattle.std.proofs.Common.{ℕ, zero, suc, ◌≡◌, ◌∙◌, ◌&&◌, ◌+◌, ◌-◌, ◌*◌, ◌/◌, ◌^◌, ◌<◌, ◌≤◌, nat_lt, inl, inr, Bool, true, false, not, if◌then◌else◌, Option}
use Rattle.std.proofs.Common.{Some, None, is_some, List, [], drop, take, length, replicate, slice_index, refl, sym, ap, subst, arith}
use Rattle.std.specs.Prelude.{max}
use Rattle.std.proofs.lemmas.Bool.{cases_lt, le-ltb}
use Rattle.std.proofs.lemmas.List.{get_or-replicate, get_or_past, length-replicate}
use Rattle.std.proofs.lemmas.Nat.{pow-add}
use Rattle.model.proofs.Ancestors.{descends-none}
use Rattle.model.proofs.BytesLemmas.{length-written, slice_index-written_before, slice_index-written_behind, word_at-same}
use Rattle.model.proofs.Depths.{depth-none}
use Rattle.model.proofs.SlotChanges.{capability_of, parent_of}
use Rattle.model.specs.Capabilities.CapabilityWords.{IsCapability}
use Rattle.model.specs.Capabilities.Orders.{next_after}
use Rattle.model.specs.Capabilities.Slots.{IsDerivation, IsFull, IsOpen, OutsideSlots, Slots, capability_at, depth_of, is_descendant, is_empty, is_full}
use Rattle.model.specs.Capabilities.Slots.{parent_at}
use Rattle.model.specs.Shared.Bytes.{written}
use Rattle.model.specs.declared.capabilities.Cap.TheVariants.{Empty}
use Rattle.pmem.proofs.Laws.{length-part}
use Rattle.slots.proofs.Laws.{descends-back, linked-next, none-without, parents-back}
use Rattle.slots.specs.preorder.Chains.{Links, back_above, rows_linked}
use Rattle.slots.specs.preorder.Preorder.{descends_by, parents_of}
use Rattle.packed_slots.specs.Packing.{IsKept, IsPacked, Packed, is_open_in, packed_order, packed_rows, packed_slots, packing, slots_as}
use Rattle.packed_slots.specs.Words.{capability_in, depth_in, is_one, next_in as next_word, previous_in, word_of, words_in}
use Rattle.packed_slots.proofs.Changing.{order-from}
use Rattle.packed_slots.proofs.Keeping.{AreSame, same-packs, same-slots}
use Rattle.packed_slots.proofs.PackedFacts.{as-closed, as-open, entry_as, few-packed, full-row, packed-from, parent-as, slots-from}
use Rattle.packed_slots.proofs.WordWrites.{depth-small}

pub some-open : (p : Packed) (s : ℕ) → IsOpen (packed_slots p) s → is_open_in p.open_slots s ≡ true
some-open p s is =
    elim (is_open_in p.open_slots s) as (λ b. is_some (if b then Some (entry_as (words_in p.memory) (packed_rows p) s) else None) ≡ true → b ≡ true) [
      | true ↦ λ there. refl
      | false ↦ λ there. absurd (let clash : false ≡ true = there in cc)
    ] is

pub open-some : (p : Packed) (s : ℕ) → is_open_in p.open_slots s ≡ true → IsOpen (packed_slots p) s
open-some p s is = ap is_some (as-open (words_in p.memory) p.open_slots (packed_rows p) s is)

-- ---- capabilities

pub capability-open : (p : Packed) (s : ℕ) → is_open_in p.open_slots s ≡ true → capability_at (packed_slots p) s ≡ capability_in (words_in p.memory) s
capability-open p s is = ap capability_of (as-open (words_in p.memory) p.open_slots (packed_rows p) s is)

pub capability-closed : (p : Packed) (s : ℕ) → is_open_in p.open_slots s ≡ false → capability_at (packed_slots p) s ≡ Empty
capability-closed p s is = ap capability_of (as-closed (words_in p.memory) p.open_slots (packed_rows p) s is)

pub valid-open : (p : Packed) (s : ℕ) → IsPacked p → is_open_in p.open_slots s ≡ true → IsCapability (capability_in (words_in p.memory) s)
valid-open p s is there = subst IsCapability (capability-open p s there) (is.packed.derivation.valid s)

-- ---- parents

back-zero : (previous : Links) (depths : ℕ → ℕ) (n : ℕ) (o : Option ℕ) → back_above previous depths n 0 o ≡ None
back-zero previous depths zero o = refl
back-zero previous depths (suc n) None = refl
back-zero previous depths (suc n) (Some s) =
    ap (λ b. if b then Some s else back_above previous depths n 0 (previous s)) (le-ltb (depths s) 0 (omega arith)) ∙ back-zero previous depths n (previous s)

pub back_none : (previous : Links) (depths : ℕ → ℕ) (n d : ℕ) (o : Option ℕ) → d ≡ 0 → None ≡ back_above previous depths n d o
back_none previous depths n d o is = sym (ap (λ e. back_above previous depths n e o) is ∙ back-zero previous depths n o)

pub parent-found : (p : Packed) (s : ℕ) → IsPacked p → is_open_in p.open_slots s ≡ true
    → parents_of (packed_rows p) s ≡ back_above (words_in p.memory).previous (words_in p.memory).depth (length p.open_slots) ((words_in p.memory).depth s)
    ((words_in p.memory).previous s)
parent-found p s is there =
    let w = words_in p.memory in
    let rows = packed_rows p in
    elim (is_full (packed_slots p) s) as (λ b. is_full (packed_slots p) s ≡ b
    → parents_of rows s ≡ back_above w.previous w.depth (length p.open_slots) (w.depth s) (w.previous s)) [
      | true ↦ λ full.
          parents-back rows w.next w.previous w.depth s (length p.open_slots) is.packed.linked.rises is.packed.linked.deep is.packed.linked.chain
          (omega (arith, full-row w p.open_slots p.first rows s is.packed full)) (few-packed p is)
      | false ↦ λ empty.
          none-without rows (λ i. None) s (is.packed.listed s ∙ ap (λ b. if b then 1 else 0) empty)
          ∙ back_none w.previous w.depth (length p.open_slots) (w.depth s) (w.previous s) (is.packed.blank s there empty)
    ] refl

-- ---- the next one

pub next-found : (p : Packed) (s : ℕ) → IsPacked p → IsFull (packed_slots p) s → (words_in p.memory).next s ≡ next_after (packed_order p) s
next-found p s is full =
    let w = words_in p.memory in
    sym (linked-next (packed_order p) w.next w.previous None s is.packed.linked.chain
    (omega (arith, full-row w p.open_slots p.first (packed_rows p) s is.packed full)))

-- ---- descent

pub descent-found : (p : Packed) (root s : ℕ) → IsPacked p → is_open_in p.open_slots s ≡ true
    → is_descendant (packed_slots p) root s
    ≡ (nat_lt ((words_in p.memory).depth root) ((words_in p.memory).depth s)
    && is_one root (back_above (words_in p.memory).previous (words_in p.memory).depth (length p.open_slots) ((words_in p.memory).depth root + 1)
    ((words_in p.memory).previous s)))
descent-found p root s is there =
    let w = words_in p.memory in
    let rows = packed_rows p in
    let slots = packed_slots p in
    let found = is_one root (back_above w.previous w.depth (length p.open_slots) (w.depth root + 1) (w.previous s)) in
    elim (is_full slots s) as (λ b. is_full slots s ≡ b → is_descendant slots root s ≡ (nat_lt (w.depth root) (w.depth s) && found)) [
      | true ↦ λ full.
          ap (λ (f : ℕ → Option ℕ). descends_by f root s) (λ i x. parent-as w p.open_slots p.first rows x is.packed i)
          ∙ descends-back rows w.next w.previous w.depth root s (length p.open_slots) is.packed.linked.rises is.packed.linked.deep is.packed.linked.once
          (λ x inside. omega (arith, depth-small (word_of p.memory x 2))) is.packed.linked.chain
          (omega (arith, full-row w p.open_slots p.first rows s is.packed full)) (few-packed p is)
      | false ↦ λ empty.
          let none : parent_at slots s ≡ None =
          parent-as w p.open_slots p.first rows s is.packed ∙ none-without rows (λ i. None) s (is.packed.listed s ∙ ap (λ b. if b then 1 else 0) empty) in
          descends-none (depth_of slots s) (parent_at slots) root s none
          ∙ sym (ap (λ b. b && found) (le-ltb (w.depth root) (w.depth s) (omega (arith, is.packed.blank s there empty))))
    ] refl

-- ---- writes beside slots

pub written-kept : (p : Packed) (offset : ℕ) (piece m : List ℕ) → IsPacked p → offset + length piece ≤ length p.memory
    → OutsideSlots (packed_slots p) offset (length piece) → m ≡ written p.memory offset piece → IsKept p (packing m p.open_slots p.first)
written-kept p offset piece m is within outside same =
    let old = p.memory in
    let w = words_in old in
    let new = words_in m in
    let o = p.open_slots in
    let rows = packed_rows p in
    let size : length m ≡ length old = ap length same ∙ length-written old offset piece within in
    let bytes : (place : ℕ) → is_open_in o (place / 16) ≡ true → slice_index m place ≡ slice_index old place = λ place there.
    ap (λ l. slice_index l place) same
    ∙ elim (cases_lt place offset) [
      | inl less ↦ slice_index-written_before old offset piece place within less
      | inr least ↦ elim (cases_lt place (offset + length piece)) [
        | inl inside ↦ absurd (let clash : None ≡ Some (entry_as w rows (place / 16)) = sym (outside place least inside)
            ∙ as-open w o rows (place / 16) there in cc)
        | inr past ↦ slice_index-written_behind old offset piece place within past
      ]
    ] in
    let words : (s k : ℕ) → is_open_in o s ≡ true → k < 4 → word_of m s k ≡ word_of old s k = λ s k there small.
    word_at-same old m (16 * s + 4 * k) (λ place low high.
    bytes place (ap (is_open_in o) (let e : place / 16 ≡ s = omega (arith, low, high, small) in e) ∙ there)) in
    let alike : (s : ℕ) → is_open_in o s ≡ true → AreSame w new s = λ s there. record {
      head = words s 0 there (omega arith);
      tail = words s 1 there (omega arith);
      next = ap next_word (words s 2 there (omega arith));
      depth = ap depth_in (words s 2 there (omega arith));
      previous = ap previous_in (words s 3 there (omega arith));
    } in
    let q = packing m o p.first in
    let packs = same-packs w new o p.first rows is.packed alike in
    record {
      packed = packed-from q rows (is.long ∙ sym size) is.few packs;
      holds = slots-from q rows (packed_slots p) packs (same-slots w new o rows alike);
      order = order-from q new rows refl packs;
    }

pub copied-kept : (p : Packed) (from at size : ℕ) (m : List ℕ) → IsPacked p → max from at + size ≤ length p.memory
    → OutsideSlots (packed_slots p) at size → m ≡ written p.memory at (take size (drop from p.memory)) → IsKept p (packing m p.open_slots p.first)
copied-kept p from at size m is within outside same =
    let piece = take size (drop from p.memory) in
    let long : length piece ≡ size = length-part p.memory from size (omega (arith, within)) in
    written-kept p at piece m is (omega (arith, long, within)) (subst (λ (n : ℕ). OutsideSlots (packed_slots p) at n) (sym long) outside) same

-- ---- new memory

rows-none : (next : Links) (depths : ℕ → ℕ) (n : ℕ) → rows_linked next depths n None ≡ []
rows-none next depths zero = refl
rows-none next depths (suc n) = refl

closed-at : (n s : ℕ) → is_open_in (replicate n false) s ≡ false
closed-at n s = elim (cases_lt s n) [
  | inl inside ↦ get_or-replicate n s false false inside
  | inr outside ↦ get_or_past (replicate n false) s false (omega (arith, length-replicate {A = Bool} n false))
]

whole-sixteenths : (bits more : ℕ) → bits ≡ more + 4 → 16 * (2 ^ bits / 16) ≡ 2 ^ bits
whole-sixteenths bits more is =
    let split : 2 ^ bits ≡ 2 ^ more * 16 = ap (λ n. 2 ^ n) is ∙ pow-add 2 more 4 in
    omega (arith, split)

pub none-packed : (m : List ℕ) (n s : ℕ) → packed_slots (packing m (replicate n false) None) s ≡ None
none-packed m n s = as-closed (words_in m) (replicate n false) (packed_rows (packing m (replicate n false) None)) s (closed-at n s)

sound-none : (slots : Slots) → ((s : ℕ) → slots s ≡ None) → IsDerivation slots
sound-none slots none = record {
  valid = λ s. subst IsCapability (sym (ap capability_of (none s))) tt;
  child_full = λ s p is. absurd (let clash : None ≡ Some p = sym (ap parent_of (none s)) ∙ is in cc);
  parent_full = λ s p is. absurd (let clash : None ≡ Some p = sym (ap parent_of (none s)) ∙ is in cc);
  shallow = λ s. omega (arith, depth-none 256 (parent_at slots) s (ap parent_of (none s)));
}

pub packed-new : (m : List ℕ) (o : List Bool) (bits count : ℕ) → 4 ≤ bits → length m ≡ 2 ^ bits → length m ≤ 2 ^ 24 → count ≡ length m / 16 →
    o ≡ replicate count false
    → IsPacked (packing m o None)
packed-new m o bits count least size most is made =
    let w = words_in m in
    let closed : (s : ℕ) → is_open_in o s ≡ false = λ s. ap (λ l. is_open_in l s) made ∙ closed-at count s in
    let long : length o ≡ count = ap length made ∙ length-replicate {A = Bool} count false in
    let wholes = whole-sixteenths bits (bits - 4) (omega (arith, least)) in
    let none : (s : ℕ) → slots_as w o [] s ≡ None = λ s. as-closed w o [] s (closed s) in
    packed-from (packing m o None) [] (omega (arith, ap (λ n. 16 * (n / 16)) size, wholes, long, is, size)) (omega (arith, long, is, most))
    (record {
      linked = record { chain = tt; deep = tt; rises = tt; once = λ s. omega arith };
      begins = refl;
      listed = λ s. sym (ap (λ b. if b then 1 else 0) (ap (λ e. not (is_empty (capability_of e))) (none s)));
      whole = λ s there. absurd (let clash : false ≡ true = sym (closed s) ∙ there in cc);
      blank = λ s there empty. absurd (let clash : false ≡ true = sym (closed s) ∙ there in cc);
      derivation = sound-none (slots_as w o []) none;
      runs = tt;
    })
