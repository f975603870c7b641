-- The slots that are noted of a thread are its own: where those stay as they are, the same is noted.
use Rattle.std.proofs.Common.{ℕ, ◌≡◌, ◌∙◌, ◌/◌, inl, inr, Bool, true, false, not, ◌||◌, nat_eq, if◌then◌else◌, List, [], ◌∷◌, Option, Some, None, sym, ap}
use Rattle.std.proofs.Common.{subst, arith}
use Rattle.std.specs.Prelude.{option_and_then}
use Rattle.std.specs.Option.{option_map_or}
use Rattle.std.specs.List.{list_any}
use Rattle.std.proofs.lemmas.Bool.{or_left, or_right}
use Rattle.std.proofs.lemmas.Bool.Decides.{eqb_tells}
use Rattle.model.specs.declared.capabilities.Cap.TheVariants.{Empty}
use Rattle.model.specs.declared.slot_entries.Entry.{Entry}
use Rattle.model.specs.Acceptance.Authority.{IsOwnSlot}
use Rattle.model.specs.Acceptance.NotedKernel.{key_of, keys_of, keys_of_cnode, noted_after, noted_of, object_numbers, slot_of_key, slots_of_cnode, stands_in}
use Rattle.model.specs.Acceptance.NotedStates.{NotedSlot, SlotKey}
use Rattle.model.specs.Acceptance.ThreadRules.{is_member, reached}
use Rattle.model.specs.Capabilities.Slots.{Slots, is_empty}
use Rattle.model.specs.Images.Image.{Image, Thread}
use Rattle.model.specs.Images.Places.{cnode_slot, offset_of}
use Rattle.headline.proofs.kept.EachOf.{Each, each-filtered, each-flat, each-picked, each-range, each-so, same-picked}
use Rattle.headline.proofs.lookups.Laws.{within-first}

-- ---- slots of a CNode

-- what a member passes, some element passes
pub member-passes : (test : ℕ → Bool) (n : ℕ) (xs : List ℕ) → is_member n xs ≡ true → test n ≡ true → list_any test xs ≡ true
member-passes test n [] member passes = absurd (let clash : false ≡ true = member in cc)
member-passes test n (x ∷ xs) member passes = elim (eqb_tells n x) [
  | inl here ↦ or_left (test x) (list_any test xs) (ap test (sym here.1) ∙ passes)
  | inr other ↦
      let first : (nat_eq n x || list_any (nat_eq n) xs) ≡ list_any (nat_eq n) xs = ap (λ b. b || list_any (nat_eq n) xs) other.0 in
      or_right (test x) (list_any test xs) (member-passes test n xs (sym first ∙ member) passes)
]

abbrev pub IsOwnKey : Image → Thread → SlotKey → Type 0
IsOwnKey image t key = IsOwnSlot image t (slot_of_key image key)

pub keys-own : (image : Image) (t : Thread) → Each (IsOwnKey image t) (keys_of image (reached image t))
keys-own image t =
    let cnodes = reached image t in
    each-flat (IsOwnKey image t) (keys_of_cnode image) _
    (each-filtered (λ number. Each (IsOwnKey image t) (keys_of_cnode image number)) (λ number. is_member number cnodes) (object_numbers image) (λ number member.
    each-range (IsOwnKey image t) (λ index. record { cnode = number; index = index }) 0 (slots_of_cnode image number) (λ index low high.
    member-passes (stands_in image (cnode_slot image number index)) number cnodes member
    (within-first (offset_of image number / 16) (slots_of_cnode image number) index (omega (arith, high))))))

-- ---- what is noted of them

-- what is noted of a slot by what it holds
noted-by : Image → List ℕ → SlotKey → Option Entry → Option NotedSlot
noted-by image cnodes key o =
    let capability = option_map_or (λ held. held.capability) o Empty in
    let parent = option_and_then (key_of image cnodes) (option_map_or (λ held. held.parent) o None) in
    if not (is_empty capability) then Some (record { key = key; capability = capability; parent = parent }) else None

same-of : (image : Image) (cnodes : List ℕ) (s after : Slots) (key : SlotKey) → after (slot_of_key image key) ≡ s (slot_of_key image key)
    → noted_of image cnodes after key ≡ noted_of image cnodes s key
unfolding noted-by
same-of image cnodes s after key same = ap (noted-by image cnodes key) same

-- a thread whose own slots are the same notes the same
pub same-noted : (image : Image) (t : Thread) (s after : Slots) → ((slot : ℕ) → IsOwnSlot image t slot → after slot ≡ s slot) →
    noted_after image t after ≡ noted_after image t s
unfolding noted_after
same-noted image t s after same =
    let cnodes = reached image t in
    same-picked (noted_of image cnodes after) (noted_of image cnodes s) (keys_of image cnodes)
    (each-so (IsOwnKey image t) (λ key. noted_of image cnodes after key ≡ noted_of image cnodes s key) (keys_of image cnodes) (λ key own.
    same-of image cnodes s after key (same (slot_of_key image key) own)) (keys-own image t))

pub key-kept : (b : Bool) (noted slot : NotedSlot) → (if b then Some noted else None) ≡ Some slot → noted.key ≡ slot.key
key-kept true noted slot is = ap (λ (o : Option NotedSlot). option_map_or (λ n. n.key) o noted.key) is
key-kept false noted slot is = absurd (let clash : ◌≡◌ {A = Option NotedSlot} None (Some slot) = is in cc)

-- a noted slot is one of the thread's own
pub noted-own : (image : Image) (t : Thread) (s : Slots) → Each (λ slot. IsOwnKey image t slot.key) (noted_after image t s)
unfolding noted_after
noted-own image t s =
    let cnodes = reached image t in
    each-picked (IsOwnKey image t) (λ slot. IsOwnKey image t slot.key) (noted_of image cnodes s) (keys_of image cnodes)
    (λ key slot own is. subst (IsOwnKey image t) (key-kept _ _ slot is) own) (keys-own image t)
