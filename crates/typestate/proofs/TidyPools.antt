-- Retype leaves no stray slot where there was none: the slots of the new capabilities are empty slots of the thread's, and hang below a pool
-- that it holds.
use Rattle.std.proofs.Common.{ℕ, zero, suc, ◌≡◌, ◌∙◌, ◌+◌, ◌*◌, ◌^◌, ◌<◌, ◌&&◌, ◌||◌, Bool, true, false, not, is_some, Option, Some, None, List}
use Rattle.std.proofs.Common.{◌∷◌, map, refl, ap, arith}
use Rattle.std.specs.Option.{option_map_or}
use Rattle.std.specs.List.{list_all, list_any, range_with_len}
use Rattle.model.specs.declared.capabilities.Cap.TheVariants.{Untyped}
use Rattle.model.specs.declared.invocations.RetypeCall.{RetypeCall}
use Rattle.model.specs.declared.invocations.UntypedMemory.{UntypedMemory}
use Rattle.model.specs.Acceptance.CallRules.{may_make}
use Rattle.model.specs.Acceptance.NotedKernel.{noted_slots}
use Rattle.model.specs.Acceptance.NotedStates.{NotedSlot, SlotKey, is_foreign, is_own, is_same_parent, slot_at}
use Rattle.model.specs.Capabilities.CapabilityFields.{is_capability}
use Rattle.model.specs.Capabilities.CapabilityWords.{IsCapability}
use Rattle.model.specs.Capabilities.Slots.{is_empty, is_full}
use Rattle.model.specs.Images.Image.{Image, Thread}
use Rattle.model.specs.Kernel.ObjectTypes.{new_type}
use Rattle.model.specs.Kernel.Retype.{NewObject, first_capability, object_bits}
use Rattle.model.specs.Kernel.State.{slot_of}
use Rattle.typestate.specs.declared.pool_calls.NewPlace.{NewPlace}
use Rattle.typestate.specs.declared.spaces.Space.{Space}
use Rattle.typestate.specs.Pools.{PlacedNew, pool_used, slot_made, slots_made}
use Rattle.typestate.specs.Spaces.{AreOwn, StandsApart}
use Rattle.typestate.specs.Strays.{cnodes_of, is_tidy_put, keeps_line}
use Rattle.typestate.proofs.GivenFacts.{decides-test}
use Rattle.typestate.proofs.MadeTypes.{first-full, made-mine, made-valid}
use Rattle.typestate.proofs.PoolPlaces.{any-same, fits-node, key-own, placing, places-valid, room-is}
use Rattle.typestate.proofs.Rising.{same-parent}
use Rattle.typestate.proofs.Standing.{found-own}

-- ---- ranges

not-first : (p q : Bool) → (p || q) ≡ false → p ≡ false
not-first true q none = absurd (let clash : true ≡ false = none in cc)
not-first false q none = refl

not-rest : (p q : Bool) → (p || q) ≡ false → q ≡ false
not-rest true q none = absurd (let clash : true ≡ false = none in cc)
not-rest false q none = none

none-any : (test : ℕ → Bool) (a n i : ℕ) → list_any test (range_with_len a n) ≡ false → i < n → test (a + i) ≡ false
none-any test a zero i none less = absurd (omega (arith, less))
none-any test a (suc n) zero none less =
    ap test (let e : a + 0 ≡ a = omega arith in e) ∙ not-first (test a) (list_any test (range_with_len (a + 1) n)) none
none-any test a (suc n) (suc i) none less =
    ap test (let e : a + suc i ≡ a + 1 + i = omega arith in e)
    ∙ none-any test (a + 1) n i (not-rest (test a) (list_any test (range_with_len (a + 1) n)) none) (omega (arith, less))

all-made : (test : NotedSlot → Bool) (made : ℕ → NotedSlot) (a n : ℕ) → ((i : ℕ) → i < n → test (made (a + i)) ≡ true) →
    list_all test (map made (range_with_len a n)) ≡ true
all-made test made a zero each = refl
all-made test made a (suc n) each =
    ap (λ b. b && list_all test (map made (range_with_len (a + 1) n))) (ap (λ k. test (made k)) (let e : a ≡ a + 0 = omega arith in e) ∙ each 0 (omega arith))
    ∙ all-made test made (a + 1) n (λ i less.
    ap (λ k. test (made k)) (let e : a + 1 + i ≡ a + suc i = omega arith in e) ∙ each (suc i) (omega (arith, less)))

-- ---- a slot that is put

tidy-put : (space : Space) (slots : List NotedSlot) (s : NotedSlot) → is_own space.image.now (cnodes_of space) s.key ≡ true
    → is_foreign space.image.now space.thread.now (cnodes_of space) s.capability ≡ false → is_capability s.capability ≡ true → is_empty s.capability ≡ false
    → keeps_line slots s ≡ true → is_tidy_put space slots s ≡ true
tidy-put space slots s own mine valid full line =
    ap (λ b. not (not b || is_foreign space.image.now space.thread.now (cnodes_of space) s.capability || not (is_capability s.capability))
    && not (is_empty s.capability) && keeps_line slots s) own
    ∙ ap (λ b. not (b || not (is_capability s.capability)) && not (is_empty s.capability) && keeps_line slots s) mine
    ∙ ap (λ b. not (not b) && not (is_empty s.capability) && keeps_line slots s) valid
    ∙ ap (λ b. not b && keeps_line slots s) full ∙ line

-- ---- all that Retype puts

module _ (space : Space) (stand : StandsApart space.image.now space.thread.now) (slots : List NotedSlot) (are : AreOwn space.image.now space.thread.now slots)
    (held : NotedSlot) (memory : UntypedMemory) (call : RetypeCall) (p : NewPlace) (is : slot_at slots held.key ≡ Some held)
    (pool : held.capability ≡ Untyped memory.offset memory.bits memory.watermark)
    (placed : PlacedNew space.image.now space.thread.now slots held.key memory call p)
    (valid : IsCapability (Untyped memory.offset memory.bits memory.watermark)) where
  abbrev image : Image
  image = space.image.now

  abbrev t : Thread
  t = space.thread.now

  pool-tidy : is_tidy_put space slots (pool_used held memory p.watermark) ≡ true
  pool-tidy =
      let room = placing image t stand slots are held memory call p is pool placed in
      tidy-put space slots (pool_used held memory p.watermark) (found-own image t slots held.key held are is).key refl
      (decides-test (Untyped memory.offset memory.bits p.watermark) (valid.0, valid.1, valid.2, room.below)) refl
      (ap (λ (o : Option NotedSlot). option_map_or (λ s. is_same_parent held.parent s.parent) o
      (option_map_or (λ k. is_some (slot_at slots k)) held.parent true)) is ∙ same-parent held.parent)

  vacant : (i : ℕ) → i < call.count → slot_at slots (record { cnode = placed.w.cnode; index = call.index + i }) ≡ None
  vacant i less =
      let room = room-is image t stand slots are held memory call p is pool placed in
      let few = (fits-node placed.w.radix call.index call.count room.fits).2 in
      let full : ℕ → Bool = λ i. is_some (slot_at slots (record { cnode = placed.w.cnode; index = call.index + i })) in
      let first : slot_of placed.w.offset call.index + 0 ≡ slot_of placed.w.offset call.index = omega arith in
      let none : list_any full (range_with_len 0 call.count) ≡ false =
      any-same image t stand slots are placed.w placed.own call.index 0 call.count (omega (arith, few))
      ∙ ap (λ n. list_any (is_full (noted_slots image t slots)) (range_with_len n call.count)) first ∙ room.vacant in
      nothing (slot_at slots (record { cnode = placed.w.cnode; index = call.index + i }))
      (ap full (let e : i ≡ 0 + i = omega arith in e) ∙ none-any full 0 call.count i none less)
    where
      nothing : (o : Option NotedSlot) → is_some o ≡ false → o ≡ None
      nothing None off = refl
      nothing (Some s) off = absurd (let clash : true ≡ false = off in cc)

  abbrev new : NewObject
  new = new_type p.kind

  module _ (may : may_make (Some new) ≡ true) where
    made-tidy : (i : ℕ) → i < call.count → is_tidy_put space slots (slot_made p.slot held.key new p.offset i) ≡ true
    made-tidy i less =
        let room = room-is image t stand slots are held memory call p is pool placed in
        let few = (fits-node placed.w.radix call.index call.count room.fits).2 in
        let offset = p.offset + i * 2 ^ object_bits new in
        let first : SlotKey = record { cnode = placed.w.cnode; index = call.index } in
        let made : SlotKey → NotedSlot = λ k. slot_made k held.key new p.offset i in
        ap (λ (k : SlotKey). is_tidy_put space slots (made k)) placed.slot
        ∙ tidy-put space slots (made first) (key-own image t stand slots are placed.w placed.own (call.index + i) (omega (arith, few, less)))
        (made-mine image t (cnodes_of space) offset new may)
        (decides-test (first_capability new offset)
        (made-valid offset new may (places-valid image t stand slots are held memory call p is pool placed valid i less)))
        (first-full new offset)
        (ap (λ (o : Option NotedSlot). option_map_or (λ s. is_same_parent (Some held.key) s.parent) o (is_some (slot_at slots held.key))) (vacant i less)
        ∙ ap (λ (o : Option NotedSlot). is_some o) is)

    pub all-tidy : list_all (is_tidy_put space slots) (pool_used held memory p.watermark ∷ slots_made p.slot held.key new p.offset call.count) ≡ true
    all-tidy =
        ap (λ b. b && list_all (is_tidy_put space slots) (slots_made p.slot held.key new p.offset call.count)) pool-tidy
        ∙ all-made (is_tidy_put space slots) (slot_made p.slot held.key new p.offset) 0 call.count (λ i less.
        ap (λ k. is_tidy_put space slots (slot_made p.slot held.key new p.offset k)) (let e : 0 + i ≡ i = omega arith in e) ∙ made-tidy i less)
