-- What a removal of a thread's slots leaves is told by its noted slots.
use Rattle.std.proofs.Common.{ℕ, zero, suc, ◌≡◌, ◌∙◌, ◌==◌, ◌+◌, ◌≤◌, ◌&&◌, inl, inr, Bool, true, false, not, if◌then◌else◌, Option, Some, None, is_some}
use Rattle.std.proofs.Common.{option_and_then, List, [], ◌∷◌, refl, sym, ap, subst, arith}
use Rattle.std.specs.Option.{option_map_or}
use Rattle.std.specs.List.{cons_option, filter_map, list_any}
use Rattle.std.proofs.lemmas.Bool.{eq-eqb, ne_eqb}
use Rattle.std.proofs.lemmas.Bool.Decides.{eqb_tells}
use Rattle.model.specs.Acceptance.NotedKernel.{boot_parent, key_of, noted_slots, slot_of_key}
use Rattle.model.specs.Acceptance.NotedStates.{NotedSlot, SlotKey, is_own, number_of, slot_at}
use Rattle.model.specs.Acceptance.ThreadRules.{reached}
use Rattle.model.specs.Capabilities.Slots.{Slots, is_empty, parent_at}
use Rattle.model.specs.Images.Image.{Image, Thread}
use Rattle.model.specs.Kernel.Removal.{SlotSet, ancestor_outside, is_some_slot}
use Rattle.model.specs.declared.capabilities.Cap.{Cap}
use Rattle.model.specs.declared.capabilities.Cap.TheVariants.{Empty, Untyped, Endpoint, Notification, CNode, Frame, PageTable, Tcb, RootTable, InterruptControl}
use Rattle.model.specs.declared.capabilities.Cap.TheVariants.{InterruptHandler}
use Rattle.removal_laws.proofs.Laws.{bool-iff, found, found-at, found-where, outside-in, outside-none, outside-out, outside-zero}
use Rattle.typestate.specs.SlotChanges.{cap_left, heir, is_parent, loses_children, noted_outside, noted_parent, slot_left, what_stays}
use Rattle.typestate.specs.Spaces.{AreOwn, StandsApart}
use Rattle.typestate.proofs.Compared.{same-place}
use Rattle.typestate.proofs.KernelDepths.{boot-there, parent-here, parent_found, stays-there}
use Rattle.typestate.proofs.NamedKeys.{key-named, own-named, same-own-key}
use Rattle.typestate.proofs.RemovedOwn.{reset}
use Rattle.typestate.proofs.Rising.{RiseFrom, first-found, none-below}
use Rattle.typestate.proofs.SomeHeld.{any-held, held-any}
use Rattle.typestate.proofs.Standing.{IsOwnSlot, found-key, found-own, parent-key}

-- ---- lists of which some slots stay

abbrev pub KeepsKeyOf : (NotedSlot → Option NotedSlot) → Type 0
KeepsKeyOf g = (s r : NotedSlot) → g s ≡ Some r → r.key ≡ s.key

rise-lower : (slots : List NotedSlot) (low least : ℕ) → low ≤ least → RiseFrom least slots → RiseFrom low slots
rise-lower [] low least less rises = tt
rise-lower (s ∷ rest) low least less rises = (omega (arith, less, rises.0), rises.1)

pub stay-rise : (g : NotedSlot → Option NotedSlot) → KeepsKeyOf g → (slots : List NotedSlot) (least : ℕ) → RiseFrom least slots →
    RiseFrom least (filter_map g slots)
stay-rise g keeps [] least rises = tt
stay-rise g keeps (s ∷ rest) least rises = elim (g s) as (λ o. g s ≡ o → RiseFrom least (cons_option o (filter_map g rest))) [
  | None ↦ λ _. rise-lower (filter_map g rest) least (number_of s.key + 1) (omega (arith, rises.0)) (stay-rise g keeps rest (number_of s.key + 1) rises.1)
  | Some r ↦ λ is.
      let same : number_of r.key ≡ number_of s.key = ap number_of (keeps s r is) in (
        subst (λ n. least ≤ n) (sym same) rises.0,
        subst (λ n. RiseFrom (n + 1) (filter_map g rest)) (sym same)
            (stay-rise g keeps rest (number_of s.key + 1) rises.1),
      )
] refl

pub stay-at : (g : NotedSlot → Option NotedSlot) → KeepsKeyOf g → (slots : List NotedSlot) (least : ℕ) (key : SlotKey) → RiseFrom least slots
    → slot_at (filter_map g slots) key ≡ option_and_then g (slot_at slots key)
stay-at g keeps [] least key rises = refl
stay-at g keeps (s ∷ rest) least key rises = elim (eqb_tells (number_of s.key) (number_of key)) [
  | inl same ↦ elim (g s) as (λ o. g s ≡ o → slot_at (cons_option o (filter_map g rest)) key ≡ option_and_then g (slot_at (s ∷ rest) key)) [
    | None ↦ λ is.
        none-below (filter_map g rest) (number_of s.key + 1) key (stay-rise g keeps rest (number_of s.key + 1) rises.1) (omega (arith, same.1))
        ∙ sym is ∙ ap (option_and_then g) (sym (first-found s rest key same.1))
    | Some r ↦ λ is.
        first-found r (filter_map g rest) key (ap number_of (keeps s r is) ∙ same.1) ∙ sym is ∙ ap (option_and_then g) (sym (first-found s rest key same.1))
  ] refl
  | inr other ↦
      let later = stay-at g keeps rest (number_of s.key + 1) key rises.1 in
      let behind : slot_at (s ∷ rest) key ≡ slot_at rest key = ap (λ b. if b then Some s else slot_at rest key) other.0 in
      elim (g s) as (λ o. g s ≡ o → slot_at (cons_option o (filter_map g rest)) key ≡ option_and_then g (slot_at (s ∷ rest) key)) [
        | None ↦ λ _. later ∙ ap (option_and_then g) (sym behind)
        | Some r ↦ λ is.
            ap (λ n. if n == number_of key then Some r else slot_at (filter_map g rest) key) (ap number_of (keeps s r is))
            ∙ ap (λ b. if b then Some r else slot_at (filter_map g rest) key) other.0 ∙ later ∙ ap (option_and_then g) (sym behind)
      ] refl
]

pub stays-keeps : (gone : SlotKey → Bool) (slots : List NotedSlot) → KeepsKeyOf (what_stays gone slots)
stays-keeps gone slots s r is = elim (gone s.key) as (λ b. (if b then None else Some (slot_left gone slots s)) ≡ Some r → r.key ≡ s.key) [
  | true ↦ λ clash. absurd (let nothing : None ≡ Some r = clash in cc)
  | false ↦ λ here. let one : slot_left gone slots s ≡ r = (let both : Some (slot_left gone slots s) ≡ Some r = here in cc) in
      ap (λ (x : NotedSlot). x.key) (sym one)
] is

pub reset-full : (b : Bool) (c : Cap) → is_empty (reset b c) ≡ is_empty c
reset-full b Empty = refl
reset-full b (Untyped _ _ _) = refl
reset-full b (Endpoint _ _ _) = refl
reset-full b (Notification _ _ _) = refl
reset-full b (CNode _ _ _) = refl
reset-full b (Frame _ _ _) = refl
reset-full b (PageTable _ _) = refl
reset-full b (Tcb _) = refl
reset-full b (RootTable _) = refl
reset-full b InterruptControl = refl
reset-full b (InterruptHandler _) = refl

pub reset-left : (gone : SlotKey → Bool) (slots : List NotedSlot) (key : SlotKey) (c : Cap) →
    reset (loses_children gone slots key) c ≡ cap_left gone slots key c
reset-left gone slots key Empty = refl
reset-left gone slots key (Untyped _ _ _) = refl
reset-left gone slots key (Endpoint _ _ _) = refl
reset-left gone slots key (Notification _ _ _) = refl
reset-left gone slots key (CNode _ _ _) = refl
reset-left gone slots key (Frame _ _ _) = refl
reset-left gone slots key (PageTable _ _) = refl
reset-left gone slots key (Tcb _) = refl
reset-left gone slots key (RootTable _) = refl
reset-left gone slots key InterruptControl = refl
reset-left gone slots key (InterruptHandler _) = refl

module _ (image : Image) (t : Thread) (stand : StandsApart image t) (slots : List NotedSlot) (are : AreOwn image t slots) where
  abbrev cnodes : List ℕ
  cnodes = reached image t

  abbrev all_slots : Slots
  all_slots = noted_slots image t slots

  abbrev pub key_at : ℕ → Option SlotKey
  key_at slot = key_of image cnodes slot

  abbrev pub key_in : Option ℕ → Option SlotKey
  key_in parent = option_and_then key_at parent

  abbrev pub is_mine : ℕ → Bool
  is_mine slot = is_some (key_at slot)

  module _ (every : SlotSet) (gone : SlotKey → Bool) (same : (key : SlotKey) → is_own image cnodes key ≡ true → every (slot_of_key image key) ≡ gone key) where
    -- ---- the nearest that stays

    -- above what stands outside nothing is the thread's
    pub above-there : (n : ℕ) (p : Option ℕ) → ((q : ℕ) → p ≡ Some q → key_at q ≡ None) → key_in (ancestor_outside n every all_slots p) ≡ None
    above-there n None out = ap key_in (outside-none n every all_slots)
    above-there zero (Some q) out = ap key_in (outside-zero every all_slots (Some q))
    above-there (suc n) (Some q) out = elim (every q) as (λ b. every q ≡ b → key_in (ancestor_outside (suc n) every all_slots (Some q)) ≡ None) [
      | true ↦ λ is.
          ap key_in (outside-in n every all_slots q is)
          ∙ above-there n (parent_at all_slots q) (λ r up. stays-there image t stand slots are q r (out q refl) up)
      | false ↦ λ is. ap key_in (outside-out n every all_slots q is) ∙ out q refl
    ] refl

    abbrev pub below_of : Option SlotKey → Cap → Option ℕ
    below_of parent capability = Some (option_map_or (slot_of_key image) parent (boot_parent image t capability))

    noted-none : (n : ℕ) → noted_outside n gone slots None ≡ None
    unfolding noted_outside
    noted-none zero = refl
    noted-none (suc n) = refl

    noted-zero : (p : Option SlotKey) → noted_outside zero gone slots p ≡ None
    unfolding noted_outside
    noted-zero p = refl

    noted-step : (n : ℕ) (p : SlotKey) → noted_outside (suc n) gone slots (Some p)
        ≡ (if gone p then noted_outside n gone slots (noted_parent slots p) else Some p)
    unfolding noted_outside
    noted-step n p = refl

    pub above-here : (n : ℕ) (parent : Option SlotKey) (capability : Cap) → option_map_or (is_own image cnodes) parent true ≡ true
        → key_in (ancestor_outside n every all_slots (below_of parent capability)) ≡ noted_outside n gone slots parent
    above-here zero parent capability own = ap key_in (outside-zero every all_slots (below_of parent capability)) ∙ sym (noted-zero parent)
    above-here (suc n) None capability own =
        above-there (suc n) (below_of None capability)
        (λ q is. subst (λ m. key_at m ≡ None) (let both : boot_parent image t capability ≡ q =
        (let same : Some (boot_parent image t capability) ≡ Some q = is in cc) in both)
        (boot-there image t stand slots are capability))
        ∙ sym (noted-none (suc n))
    above-here (suc n) (Some p) capability own =
        let place = slot_of_key image p in
        elim (gone p) as (λ b. gone p ≡ b → key_in (ancestor_outside (suc n) every all_slots (Some place))
        ≡ (if b then noted_outside n gone slots (noted_parent slots p) else Some p)) [
          | true ↦ λ is.
              ap key_in (outside-in n every all_slots place (same p own ∙ is))
              ∙ ap (λ o. key_in (ancestor_outside n every all_slots o)) (parent-here image t stand slots are p own)
              ∙ further n (slot_at slots p) (λ s found. found-own image t slots p s are found) (above-here n)
          | false ↦ λ is. ap key_in (outside-out n every all_slots place (same p own ∙ is)) ∙ own-named image t stand p own
        ] refl
        ∙ sym (noted-step n p)
      where
        further : (n : ℕ) (found : Option NotedSlot) → ((s : NotedSlot) → found ≡ Some s → IsOwnSlot image t s)
            → ((parent : Option SlotKey) (capability : Cap) → option_map_or (is_own image cnodes) parent true ≡ true →
            key_in (ancestor_outside n every all_slots (below_of parent capability)) ≡ noted_outside n gone slots parent)
            → key_in (ancestor_outside n every all_slots (parent_found image t stand slots are found)) ≡ noted_outside n gone slots
            (option_and_then (λ s. s.parent) found)
        further n None mine again = ap key_in (outside-none n every all_slots) ∙ sym (noted-none n)
        further n (Some s) mine again = again s.parent s.capability (mine s refl).parent

    -- ---- children

    -- a child of a slot, by its key
    child-of : (key : SlotKey) (o : Option ℕ) → is_own image cnodes key ≡ true → is_some_slot (slot_of_key image key) o ≡ is_parent key (key_in o)
    child-of key None own = refl
    child-of key (Some p) own = elim (eqb_tells p (slot_of_key image key)) [
      | inl here ↦ here.0 ∙ sym (ap (is_parent key) (ap key_at here.1 ∙ own-named image t stand key own) ∙ eq-eqb (number_of key) (number_of key) refl)
      | inr other ↦ other.0 ∙ (elim (key_at p) as (λ o. key_at p ≡ o → false ≡ is_parent key o) [
        | None ↦ λ _. refl
        | Some k ↦ λ is. sym (ne_eqb (number_of k) (number_of key) (λ equal.
            let named = key-named image cnodes p k is in
            other.1 (sym named.place ∙ ap (slot_of_key image) (same-own-key image t stand k key named.own own equal))))
      ] refl)
    ]

    -- a test of all slots is one of the noted ones
    pub found-noted : RiseFrom 0 slots → (passes : ℕ → Bool) (f : NotedSlot → Bool)
        → ((child : ℕ) → key_at child ≡ None → passes child ≡ false)
        → ((k : SlotKey) → is_own image cnodes k ≡ true → slot_at slots k ≡ None → passes (slot_of_key image k) ≡ false)
        → ((k : SlotKey) (r : NotedSlot) → is_own image cnodes k ≡ true → slot_at slots k ≡ Some r → passes (slot_of_key image k) ≡ f r)
        → found image.header.memory_bits passes ≡ list_any f slots
    found-noted rises passes f there nothing here = bool-iff (found image.header.memory_bits passes) (list_any f slots) forth back
      where
        forth : found image.header.memory_bits passes ≡ true → list_any f slots ≡ true
        forth some =
            let place = found-where image.header.memory_bits passes some in
            elim (key_at place.0) as (λ o. key_at place.0 ≡ o → list_any f slots ≡ true) [
              | None ↦ λ is. absurd (let clash : false ≡ true = sym (there place.0 is) ∙ place.1 in cc)
              | Some k ↦ λ is.
                  let named = key-named image cnodes place.0 k is in
                  let passed : passes (slot_of_key image k) ≡ true = ap passes named.place ∙ place.1 in
                  elim (slot_at slots k) as (λ o. slot_at slots k ≡ o → list_any f slots ≡ true) [
                    | None ↦ λ none. absurd (let clash : false ≡ true = sym (nothing k named.own none) ∙ passed in cc)
                    | Some r ↦ λ at. held-any f slots k (ap (λ o. option_map_or f o false) at ∙ sym (here k r named.own at) ∙ passed)
                  ] refl
            ] refl

        back : list_any f slots ≡ true → found image.header.memory_bits passes ≡ true
        back some =
            let held = any-held f slots 0 rises some in
            elim (slot_at slots held.key) as (λ o. slot_at slots held.key ≡ o → option_map_or f o false ≡ true → found image.header.memory_bits passes ≡ true) [
              | None ↦ λ _ clash. absurd (let nope : false ≡ true = clash in cc)
              | Some r ↦ λ at holding.
                  let mine = found-own image t slots held.key r are at in
                  let again : slot_at slots r.key ≡ Some r = same-place slots r.key held.key (found-key slots held.key r at) ∙ at in
                  found-at image.header.memory_bits (slot_of_key image r.key) passes
                  (stand.within (slot_of_key image r.key) r.key (own-named image t stand r.key mine.key)) (here r.key r mine.key again ∙ holding)
            ] refl held.holding

    parent-out : (child : ℕ) → key_at child ≡ None → key_in (parent_at all_slots child) ≡ None
    parent-out child none = elim (parent_at all_slots child) as (λ o. parent_at all_slots child ≡ o → key_in o ≡ None) [
      | None ↦ λ _. refl
      | Some p ↦ λ is. stays-there image t stand slots are child p none is
    ] refl

    pub parent-of : (k : SlotKey) (r : NotedSlot) → is_own image cnodes k ≡ true → slot_at slots k ≡ Some r →
        parent_at all_slots (slot_of_key image k) ≡ below_of r.parent r.capability
    parent-of k r own at = parent-here image t stand slots are k own ∙ ap (parent_found image t stand slots are) at

    parent-none : (k : SlotKey) → is_own image cnodes k ≡ true → slot_at slots k ≡ None → parent_at all_slots (slot_of_key image k) ≡ None
    parent-none k own none = parent-here image t stand slots are k own ∙ ap (parent_found image t stand slots are) none

    and-nothing : (a : Bool) → (a && false) ≡ false
    and-nothing true = refl
    and-nothing false = refl

    pub key-same : (k : SlotKey) (r : NotedSlot) → is_own image cnodes k ≡ true → slot_at slots k ≡ Some r → r.key ≡ k
    key-same k r own at = same-own-key image t stand r.key k (found-own image t slots k r are at).key own (found-key slots k r at)

    abbrev pub went : SlotKey → ℕ → Bool
    went key child = every child && is_some_slot (slot_of_key image key) (parent_at all_slots child)

    abbrev pub stayed : SlotKey → ℕ → Bool
    stayed key child = not (every child) && is_some_slot (slot_of_key image key) (ancestor_outside 256 every all_slots (parent_at all_slots child))

    went-noted : RiseFrom 0 slots → (key : SlotKey) → is_own image cnodes key ≡ true
        → found image.header.memory_bits (went key) ≡ list_any (λ s. gone s.key && is_parent key s.parent) slots
    went-noted rises key own = found-noted rises (went key) (λ s. gone s.key && is_parent key s.parent)
        (λ child none. ap (λ b. every child && b) (child-of key (parent_at all_slots child) own ∙ ap (is_parent key) (parent-out child none))
        ∙ and-nothing (every child))
        (λ k mine none. ap (λ o. every (slot_of_key image k) && is_some_slot (slot_of_key image key) o) (parent-none k mine none)
        ∙ and-nothing (every (slot_of_key image k)))
        (λ k r mine at.
        let one = key-same k r mine at in
        ap (λ o. every (slot_of_key image k) && is_some_slot (slot_of_key image key) o) (parent-of k r mine at)
        ∙ ap (λ b. every (slot_of_key image k) && b) (child-of key (below_of r.parent r.capability) own
        ∙ ap (is_parent key) (parent-key image t stand r (found-own image t slots k r are at).parent))
        ∙ ap (λ b. b && is_parent key r.parent) (same k mine ∙ ap gone (sym one)))

    stayed-noted : RiseFrom 0 slots → (key : SlotKey) → is_own image cnodes key ≡ true
        → found image.header.memory_bits (stayed key) ≡ list_any (λ s. not (gone s.key) && is_parent key (heir gone slots s)) slots
    stayed-noted rises key own = found-noted rises (stayed key) (λ s. not (gone s.key) && is_parent key (heir gone slots s))
        (λ child none. ap (λ b. not (every child) && b) (child-of key (ancestor_outside 256 every all_slots (parent_at all_slots child)) own
        ∙ ap (is_parent key) (above-there 256 (parent_at all_slots child) (λ q up. stays-there image t stand slots are child q none up)))
        ∙ and-nothing (not (every child)))
        (λ k mine none. ap (λ o. not (every (slot_of_key image k)) && is_some_slot (slot_of_key image key) (ancestor_outside 256 every all_slots o))
        (parent-none k mine none)
        ∙ ap (λ o. not (every (slot_of_key image k)) && is_some_slot (slot_of_key image key) o) (outside-none 256 every all_slots)
        ∙ and-nothing (not (every (slot_of_key image k))))
        (λ k r mine at.
        let one = key-same k r mine at in
        ap (λ o. not (every (slot_of_key image k)) && is_some_slot (slot_of_key image key) (ancestor_outside 256 every all_slots o)) (parent-of k r mine at)
        ∙ ap (λ b. not (every (slot_of_key image k)) && b) (child-of key (ancestor_outside 256 every all_slots (below_of r.parent r.capability)) own
        ∙ ap (is_parent key) (above-here 256 r.parent r.capability (found-own image t slots k r are at).parent))
        ∙ ap (λ b. not b && is_parent key (heir gone slots r)) (same k mine ∙ ap gone (sym one)))

    pub loses-noted : RiseFrom 0 slots → (key : SlotKey) → is_own image cnodes key ≡ true
        → (found image.header.memory_bits (went key) && not (found image.header.memory_bits (stayed key))) ≡ loses_children gone slots key
    loses-noted rises key own =
        ap (λ b. b && not (found image.header.memory_bits (stayed key))) (went-noted rises key own)
        ∙ ap (λ b. list_any (λ s. gone s.key && is_parent key s.parent) slots && not b) (stayed-noted rises key own)
