-- What is asked of the slots of a sound state is what the definition of a removal asks, whose set has bindings too.
use Rattle.std.proofs.Common.{ℕ, ◌≡◌, ◌≢◌, ◌∙◌, ◌==◌, ◌+◌, ◌/◌, ◌^◌, ◌<◌, ◌&&◌, ◌||◌, inl, inr, Bool, true, false, not, Option, Some, None, is_some, option_map}
use Rattle.std.proofs.Common.{get_or, refl, sym, ap, subst, arith}
use Rattle.std.specs.Option.{option_map_or}
use Rattle.std.specs.List.{range_with_len}
use Rattle.std.proofs.Math.Bool.{and-false, and-true, or-false}
use Rattle.std.proofs.lemmas.Bool.{eq-eqb, ne_eqb}
use Rattle.std.proofs.lemmas.Bool.Decides.{eqb_tells}
use Rattle.std.proofs.lemmas.List.Folds.{list_any_none}
use Rattle.std.proofs.lemmas.List.FromFn.{get_or-range_with_len, length-range_with_len}
use Rattle.model.specs.declared.capabilities.Cap.{Cap}
use Rattle.model.specs.declared.capabilities.Cap.TheVariants.{Empty, Untyped, Endpoint, Notification, CNode, Frame, PageTable, Tcb, RootTable, InterruptControl}
use Rattle.model.specs.declared.capabilities.Cap.TheVariants.{InterruptHandler}
use Rattle.model.specs.Capabilities.CapabilityKinds.{is_handler_of, names_object, object_of}
use Rattle.model.specs.Capabilities.Slots.{IsFull, IsOpen, Slots, capability_at, is_empty, is_full}
use Rattle.model.specs.Kernel.Interrupts.{signal_of}
use Rattle.model.specs.Kernel.Kinds.{Names, kind_of, object_named}
use Rattle.model.specs.Kernel.Removal.{SlotSet, ends_filled, is_slot_of, slot_count, some_inside, some_outside, takes_last, wants_revoke_first, with_bindings}
use Rattle.model.specs.Kernel.Retype.{NewObject, NewUntyped, NewThread, NewEndpoint, NewNotification, NewCNode, NewFrame, NewPageTable, NewRootTable}
use Rattle.model.specs.Kernel.Soundness.{IsSound}
use Rattle.model.specs.Kernel.State.{State, Object, ThreadObject, EndpointObject, NotificationObject, CNodeObject, FrameObject, PageTableObject}
use Rattle.model.specs.Kernel.State.{RootTableObject, binding_slot, slot_numbers}
use Rattle.model.proofs.Ancestors.{full-open}
use Rattle.removal_laws.proofs.Laws.{behind-boot, bool-iff, both, bounds-within, found, found-at, found-where, holder, join, within-bounds}
use Rattle.cnode_ops.specs.Refusals.{is_left_filled, is_named_beside, refuses, some_slot, stays}
use Rattle.cnode_ops.specs.Sets.{set_of}
use Rattle.cnode_ops.specs.declared.sets.Removed.{Removed}
use Rattle.cnode_ops.proofs.EndingSlots.{no-slot}
use Rattle.cnode_ops.proofs.SomeSlot.{some-at, some-where}

-- ---- what capabilities name

abbrev pair_of : NewObject → ℕ → Option (NewObject × ℕ)
pair_of k f = Some (k, f)

abbrev kind_in : Option (NewObject × ℕ) → NewObject
kind_in p = option_map_or (λ q. q.0) p NewFrame

-- how many slots an object of a type has
abbrev slots_of_kind : NewObject → ℕ
slots_of_kind (NewUntyped bits) = 0
slots_of_kind NewThread = 3
slots_of_kind NewEndpoint = 0
slots_of_kind NewNotification = 0
slots_of_kind (NewCNode radix) = 2 ^ radix
slots_of_kind NewFrame = 0
slots_of_kind NewPageTable = 0
slots_of_kind NewRootTable = 0

count-kind : (o : Option Object) → slot_count o ≡ option_map_or slots_of_kind (option_map kind_of o) 0
count-kind None = refl
count-kind (Some (ThreadObject t)) = refl
count-kind (Some (EndpointObject e)) = refl
count-kind (Some (NotificationObject n)) = refl
count-kind (Some (CNodeObject radix)) = refl
count-kind (Some FrameObject) = refl
count-kind (Some PageTableObject) = refl
count-kind (Some RootTableObject) = refl

-- what a line is bound to is a notification
bound-kind : (c : Cap) (k : NewObject) (o : ℕ) → is_some (signal_of c) ≡ true → object_named c ≡ Some (k, o) → k ≡ NewNotification
bound-kind (Notification f r b) k o bound is = sym (ap kind_in is)
bound-kind Empty k o bound is = absurd (let clash : false ≡ true = bound in cc)
bound-kind (Untyped f b w) k o bound is = absurd (let clash : false ≡ true = bound in cc)
bound-kind (Endpoint f r b) k o bound is = absurd (let clash : false ≡ true = bound in cc)
bound-kind (CNode f radix g) k o bound is = absurd (let clash : false ≡ true = bound in cc)
bound-kind (Frame f r m) k o bound is = absurd (let clash : false ≡ true = bound in cc)
bound-kind (PageTable f m) k o bound is = absurd (let clash : false ≡ true = bound in cc)
bound-kind (Tcb f) k o bound is = absurd (let clash : false ≡ true = bound in cc)
bound-kind (RootTable f) k o bound is = absurd (let clash : false ≡ true = bound in cc)
bound-kind InterruptControl k o bound is = absurd (let clash : false ≡ true = bound in cc)
bound-kind (InterruptHandler line) k o bound is = absurd (let clash : false ≡ true = bound in cc)

-- a capability that names an object is one
named-full : (c : Cap) (k : NewObject) (o : ℕ) → object_named c ≡ Some (k, o) → is_empty c ≡ false
named-full Empty k o is = absurd (let clash : None ≡ pair_of k o = is in cc)
named-full (Untyped f b w) k o is = refl
named-full (Endpoint f r b) k o is = refl
named-full (Notification f r b) k o is = refl
named-full (CNode f radix g) k o is = refl
named-full (Frame f r m) k o is = refl
named-full (PageTable f m) k o is = refl
named-full (Tcb f) k o is = refl
named-full (RootTable f) k o is = refl
named-full InterruptControl k o is = refl
named-full (InterruptHandler line) k o is = refl

same-place : (k : NewObject) (f o : ℕ) → (f == o) ≡ true → (l : NewObject) × (pair_of k f ≡ Some (l, o))
same-place k f o is = elim (eqb_tells f o) [
  | inl same ↦ (k, ap (pair_of k) same.1)
  | inr other ↦ absurd (let clash : false ≡ true = sym other.0 ∙ is in cc)
]

named-object : (c : Cap) (o : ℕ) → names_object o c ≡ true → (k : NewObject) × (object_named c ≡ Some (k, o))
named-object Empty o is = absurd (let clash : false ≡ true = is in cc)
named-object (Untyped f b w) o is = absurd (let clash : false ≡ true = is in cc)
named-object (Endpoint f r b) o is = same-place NewEndpoint f o is
named-object (Notification f r b) o is = same-place NewNotification f o is
named-object (CNode f radix g) o is = same-place (NewCNode radix) f o is
named-object (Frame f r m) o is = same-place NewFrame f o is
named-object (PageTable f m) o is = same-place NewPageTable f o is
named-object (Tcb f) o is = same-place NewThread f o is
named-object (RootTable f) o is = same-place NewRootTable f o is
named-object InterruptControl o is = absurd (let clash : false ≡ true = is in cc)
named-object (InterruptHandler line) o is = absurd (let clash : false ≡ true = is in cc)

pub found-some : (bits : ℕ) (test : ℕ → Bool) → found bits test ≡ some_slot 0 (2 ^ bits / 16) test
unfolding slot_numbers some_slot
found-some bits test = refl

module _ (s : State) (sound : IsSound s) (set : Removed) (near : (y : ℕ) → IsOpen s.slots y → y < 2 ^ s.memory_bits / 16) where
  abbrev own : SlotSet
  own = set_of s.slots set

  abbrev all : SlotSet
  all = with_bindings s own

  abbrev size : ℕ
  size = 2 ^ s.memory_bits / 16

  -- ---- bindings

  abbrev NoBinding : ℕ → Type 0
  NoBinding y = (line : ℕ) → line < 64 → y ≢ binding_slot s line

  unbound : (y : ℕ) → NoBinding y → all y ≡ own y
  unbound y none =
      ap (λ b. own y || b) (list_any_none (λ line. y == binding_slot s line && takes_last s own (is_handler_of line)) (range_with_len 0 64) (λ i d less.
      let few : i < 64 = omega (arith, less, length-range_with_len 0 64) in
      let here : get_or (range_with_len 0 64) i d ≡ i = get_or-range_with_len 0 64 i d few ∙ omega arith in
      ap (λ (line : ℕ). y == binding_slot s line && takes_last s own (is_handler_of line)) here
      ∙ ap (λ b. b && takes_last s own (is_handler_of i)) (ne_eqb y (binding_slot s i) (none i few))))
      ∙ or-false (own y)

  -- what holds another capability to an object than to a notification is no binding
  object-unbound : (y o : ℕ) (k : NewObject) → Names k o (capability_at s.slots y) → k ≢ NewNotification → NoBinding y
  object-unbound y o k is other line few at =
      let there : object_named (capability_at s.slots (binding_slot s line)) ≡ Some (k, o) = ap (λ (n : ℕ). object_named (capability_at s.slots n)) (sym at)
      ∙ is in
      let full : IsFull s.slots (binding_slot s line) = ap not (named-full (capability_at s.slots (binding_slot s line)) k o there) in
      absurd (other (bound-kind (capability_at s.slots (binding_slot s line)) k o (sound.slots.bindings line few full) there))

  -- nor is the slot of an object
  slot-unbound : (y o : ℕ) → is_slot_of s o y ≡ true → NoBinding y
  slot-unbound y o is line few at =
      let late = behind-boot s sound o y (holder s sound o y is) in
      absurd (omega (arith, late, few, at))

  -- ---- an object that has slots

  count-named : (y o : ℕ) (k : NewObject) → Names k o (capability_at s.slots y) → slot_count (s.objects o) ≡ slots_of_kind k
  count-named y o k is = count-kind (s.objects o) ∙ ap (λ (p : Option NewObject). option_map_or slots_of_kind p 0) (sound.memory.named y k o is)

  abbrev filled : ℕ → ℕ → Bool
  filled o count = some_slot (o / 16) count (stays s.slots set)

  abbrev filled_slot : ℕ → ℕ → Bool
  filled_slot o z = is_slot_of s o z && not (all z) && is_full s.slots z

  filled-there : (o count : ℕ) → slot_count (s.objects o) ≡ count → filled o count ≡ found s.memory_bits (filled_slot o)
  filled-there o count is = bool-iff (filled o count) (found s.memory_bits (filled_slot o))
      (λ some.
      let at = some-where (o / 16) count (stays s.slots set) some in
      let parts = both (is_full s.slots at.0) (not (own at.0)) at.3 in
      let inner : is_slot_of s o at.0 ≡ true = bounds-within (o / 16) (slot_count (s.objects o)) at.0 at.1 (omega (arith, is, at.2)) in
      let out : not (all at.0) ≡ true = ap not (unbound at.0 (slot-unbound at.0 o inner)) ∙ parts.1 in
      found-at s.memory_bits at.0 (filled_slot o) (near at.0 (full-open s.slots at.0 parts.0))
      (join (is_slot_of s o at.0 && not (all at.0)) (is_full s.slots at.0) (join (is_slot_of s o at.0) (not (all at.0)) inner out) parts.0))
      (λ some.
      let at = found-where s.memory_bits (filled_slot o) some in
      let parts = both (is_slot_of s o at.0 && not (all at.0)) (is_full s.slots at.0) at.1 in
      let first = both (is_slot_of s o at.0) (not (all at.0)) parts.0 in
      let bounds = within-bounds (o / 16) (slot_count (s.objects o)) at.0 first.0 in
      let out : not (own at.0) ≡ true = ap not (sym (unbound at.0 (slot-unbound at.0 o first.0))) ∙ first.1 in
      some-at (o / 16) count at.0 (stays s.slots set) bounds.0 (omega (arith, is, bounds.1)) (join (is_full s.slots at.0) (not (own at.0)) parts.1 out))

  -- every capability to the object is no binding
  beside-same : (y o : ℕ) (k : NewObject) → Names k o (capability_at s.slots y) → k ≢ NewNotification → (z : ℕ)
      → (not (all z) && names_object o (capability_at s.slots z)) ≡ (names_object o (capability_at s.slots z) && stays s.slots set z)
  beside-same y o k is other z = elim (names_object o (capability_at s.slots z))
      as (λ b. names_object o (capability_at s.slots z) ≡ b → (not (all z) && b) ≡ (b && stays s.slots set z)) [
        | false ↦ λ none. and-false (not (all z))
        | true ↦ λ some.
            let named = named-object (capability_at s.slots z) o some in
            let there : Some named.0 ≡ Some k = sym (sound.memory.named z named.0 o named.1) ∙ sound.memory.named y k o is in
            let kind : named.0 ≡ k = ap (λ (p : Option NewObject). option_map_or (λ q. q) p NewFrame) there in
            let apart : named.0 ≢ NewNotification = λ same. other (sym kind ∙ same) in
            and-true (not (all z))
            ∙ ap not (unbound z (object-unbound z o named.0 named.1 apart))
            ∙ sym (ap (λ b. b && not (own z)) (ap not (named-full (capability_at s.slots z) named.0 o named.1)))
      ] refl

  named-same : (y o : ℕ) (k : NewObject) → Names k o (capability_at s.slots y) → k ≢ NewNotification →
      some_outside s all (names_object o) ≡ is_named_beside s.slots size set o
  named-same y o k is other =
      (λ i. found s.memory_bits (λ z. beside-same y o k is other z i)) ∙ found-some s.memory_bits _

  swap : (n f i : Bool) → i ≡ true → (f && not n) ≡ ((i && not n) && f)
  swap true true i is = sym (and-false-both i)
    where
      and-false-both : (i : Bool) → ((i && false) && true) ≡ false
      and-false-both true = refl
      and-false-both false = refl
  swap n false i is = sym (and-false (i && not n))
  swap false true i is = sym (ap (λ b. (b && true) && true) is)

  -- a capability of the set to a CNode or a thread
  with-slots : (y o : ℕ) (k : NewObject) (count : ℕ) → y < size → Names k o (capability_at s.slots y) → names_object o (capability_at s.slots y) ≡ true →
      k ≢ NewNotification → slots_of_kind k ≡ count
      → (own y && (filled o count && not (is_named_beside s.slots size set o))) ≡ (all y && ends_filled s all o)
  with-slots y o k count less is names other many =
      elim (own y) as (λ b. own y ≡ b → (b && (filled o count && not (is_named_beside s.slots size set o))) ≡ (all y && ends_filled s all o)) [
        | false ↦ λ out. sym (ap (λ b. b && ends_filled s all o) (unbound y (object-unbound y o k is other) ∙ out))
        | true ↦ λ member.
            let in_all : all y ≡ true = unbound y (object-unbound y o k is other) ∙ member in
            let inside : some_inside s all (names_object o) ≡ true =
            found-at s.memory_bits y (λ z. all z && names_object o (capability_at s.slots z)) less (join (all y) _ in_all names) in
            swap (is_named_beside s.slots size set o) (filled o count) (some_inside s all (names_object o)) inside
            ∙ ap (λ b. (some_inside s all (names_object o) && not b) && filled o count) (sym (named-same y o k is other))
            ∙ ap (λ b. (some_inside s all (names_object o) && not (some_outside s all (names_object o))) && b)
            (filled-there o count (count-named y o k is ∙ many))
            ∙ sym (ap (λ b. b && ends_filled s all o) in_all)
      ] refl

  -- one to another object
  without-slots : (y o : ℕ) (k : NewObject) → Names k o (capability_at s.slots y) → slots_of_kind k ≡ 0
      → (own y && (filled o 0 && not (is_named_beside s.slots size set o))) ≡ (all y && ends_filled s all o)
  without-slots y o k is none =
      let empty : filled o 0 ≡ false = no-slot (o / 16) (stays s.slots set) in
      ap (λ b. own y && (b && not (is_named_beside s.slots size set o))) empty
      ∙ and-false (own y)
      ∙ sym (ap (λ b. all y && (takes_last s all (names_object o) && b)) (sym (filled-there o 0 (count-named y o k is ∙ none)) ∙ empty)
      ∙ ap (λ b. all y && b) (and-false (takes_last s all (names_object o))) ∙ and-false (all y))

  at-slot : (y : ℕ) → y < size → (c : Cap) → capability_at s.slots y ≡ c
      → ((not (is_empty c) && own y) && is_left_filled s.slots size set c) ≡ (all y && option_map_or (ends_filled s all) (object_of c) false)
  at-slot y less Empty is = sym (and-false (all y))
  at-slot y less (Untyped f b w) is = and-false (own y) ∙ sym (and-false (all y))
  at-slot y less InterruptControl is = and-false (own y) ∙ sym (and-false (all y))
  at-slot y less (InterruptHandler line) is = and-false (own y) ∙ sym (and-false (all y))
  at-slot y less (Endpoint f r b) is = without-slots y f NewEndpoint (ap object_named is) refl
  at-slot y less (Notification f r b) is = without-slots y f NewNotification (ap object_named is) refl
  at-slot y less (Frame f r m) is = without-slots y f NewFrame (ap object_named is) refl
  at-slot y less (PageTable f m) is = without-slots y f NewPageTable (ap object_named is) refl
  at-slot y less (RootTable f) is = without-slots y f NewRootTable (ap object_named is) refl
  at-slot y less (CNode f radix g) is = with-slots y f (NewCNode radix) (2 ^ radix) less (ap object_named is) (ap (names_object f) is ∙ eq-eqb f f refl)
      (λ clash. absurd cc) refl
  at-slot y less (Tcb f) is = with-slots y f NewThread 3 less (ap object_named is) (ap (names_object f) is ∙ eq-eqb f f refl) (λ clash. absurd cc) refl

  some-same : (first count : ℕ) (a b : ℕ → Bool) → ((y : ℕ) → y < first + count → a y ≡ b y) → some_slot first count a ≡ some_slot first count b
  some-same first count a b same = bool-iff (some_slot first count a) (some_slot first count b)
      (λ some. let at = some-where first count a some in some-at first count at.0 b at.1 at.2 (sym (same at.0 at.2) ∙ at.3))
      (λ some. let at = some-where first count b some in some-at first count at.0 a at.1 at.2 (same at.0 at.2 ∙ at.3))

  pub refused-law : some_slot 0 size (refuses s.slots size set) ≡ wants_revoke_first s all
  refused-law =
      some-same 0 size _ _ (λ y less. at-slot y (omega (arith, less)) (capability_at s.slots y) refl)
      ∙ sym (found-some s.memory_bits _)

-- the answer of one who asks a store
pub refused-answer : (s : State) (set : Removed) (slots : Slots) (bytes : ℕ) (answer : Bool) → ((y : ℕ) → IsOpen slots y → y < bytes / 16)
    → some_slot 0 (bytes / 16) (refuses slots (bytes / 16) set) ≡ answer → s.slots ≡ slots → IsSound s → 2 ^ s.memory_bits ≡ bytes →
    answer ≡ wants_revoke_first s (with_bindings s (set_of s.slots set))
refused-answer s set slots bytes answer near is has sound memory =
    let size : bytes / 16 ≡ 2 ^ s.memory_bits / 16 = omega (arith, memory) in
    sym is
    ∙ (λ i. some_slot 0 (size i) (refuses (sym has i) (size i) set))
    ∙ refused-law s sound set (λ y opens. omega (arith, size, near y (subst (λ (t : Slots). IsOpen t y) has opens)))
