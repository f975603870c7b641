-- Copy and Mint: an empty destination, a full source, and a child of it.
use Rattle.std.proofs.Common.{ℕ, ◌≡◌, ◌∙◌, Bool, true, false, not, nat_lt, Some, Result, Ok, Err, List, refl, sym, ap}
use Rattle.std.specs.Prelude.{IfOk}
use Rattle.derivation.specs.cap_copies.Copies.{copy_of, minted_copy_of}
use Rattle.model.specs.Acceptance.CallRules.{may_travel, names_such}
use Rattle.model.specs.Acceptance.NotedKernel.{noted_after, noted_kernel, noted_root, noted_slots, slot_of_key}
use Rattle.model.specs.Acceptance.NotedStates.{NotedSlot, with_noted}
use Rattle.model.specs.Acceptance.ThreadRules.{reached}
use Rattle.model.specs.Capabilities.CapabilityKinds.{badge_fits, copied, guard_fits, is_badged, may_be_copied, with_payload}
use Rattle.model.specs.Capabilities.Slots.{Slots, capability_at, depth_of, inserted, is_empty}
use Rattle.model.specs.Images.Image.{Image, Thread}
use Rattle.model.specs.Kernel.Arguments.{◌>>=◌, argument_slot, check, destination_slot, may_have_child, source_slot}
use Rattle.model.specs.Kernel.CNodeCalls.{copy, mint}
use Rattle.model.specs.Kernel.State.{State, with_slots}
use Rattle.model.specs.declared.capabilities.Cap.{Cap}
use Rattle.model.specs.declared.capabilities.Cap.TheVariants.{Empty, Untyped, Endpoint, Notification, CNode, Frame, PageTable, Tcb, RootTable, InterruptControl}
use Rattle.model.specs.declared.capabilities.Cap.TheVariants.{InterruptHandler}
use Rattle.model.specs.declared.errors.KError.{KError}
use Rattle.model.specs.declared.errors.KError.TheVariants.{IllegalOperation, RangeError}
use Rattle.model.specs.declared.invocations.CNodeCall.TheVariants.{Copy, Mint}
use Rattle.model.specs.declared.invocations.SlotName.{SlotName}
use Rattle.model.specs.declared.refusals.Point.{Point}
use Rattle.model.specs.declared.refusals.Refusal.{Refusal}
use Rattle.model.specs.declared.refusals.Refusal.TheVariants.{CallRefused}
use Rattle.typestate.specs.declared.cnode_calls.Ends.{Ends}
use Rattle.typestate.specs.CNodeCalls.{AreEnds, NamesEnds, allowed_slots, cnode_after, ends_of, with_child}
use Rattle.typestate.specs.SlotChanges.{noted_depth}
use Rattle.typestate.specs.Spaces.{AreOwn, StandsApart}
use Rattle.typestate.specs.Calls.{call_on}
use Rattle.typestate.proofs.Allowed.{allowed-state, slots_allowed}
use Rattle.typestate.proofs.KernelDepths.{depth-is}
use Rattle.typestate.proofs.NamedKeys.{key-named}
use Rattle.typestate.proofs.Puts.{put-back}
use Rattle.typestate.proofs.Rising.{RiseFrom}
use Rattle.typestate.proofs.Standing.{IsOwnSlot}

-- ---- both ends, and then the rest

abbrev pub both_ends : Result ℕ KError → Result ℕ KError → Result (ℕ × ℕ) KError
both_ends d s = do
  x ← d
  y ← s
  Ok (x, y)

pub by-ends : {A : Type 0} (d s : Result ℕ KError) (k : ℕ → ℕ → Result A KError) → (d >>= λ x. s >>= λ y. k x y) ≡ (both_ends d s >>= λ p. k p.0 p.1)
by-ends (Err error) s k = refl
by-ends (Ok x) (Err error) k = refl
by-ends (Ok x) (Ok y) k = refl

abbrev copied_to : State → ℕ → ℕ → ℕ → Result State KError
copied_to s word x y = do
  _ ← check (may_be_copied (capability_at s.slots y)) IllegalOperation
  _ ← may_have_child s.slots y
  Ok (with_slots s (inserted s.slots x (copied (capability_at s.slots y) word) (Some y)))

abbrev minted_to : State → ℕ → ℕ → ℕ → ℕ → Result State KError
minted_to s word payload x y = do
  _ ← check (may_be_copied (capability_at s.slots y)) IllegalOperation
  _ ← check (not (is_badged (capability_at s.slots y))) IllegalOperation
  _ ← check (badge_fits (capability_at s.slots y) payload) RangeError
  _ ← check (guard_fits (capability_at s.slots y) payload) IllegalOperation
  _ ← may_have_child s.slots y
  let capability = with_payload (copied (capability_at s.slots y) word) payload in
      Ok (with_slots s (inserted s.slots x capability (Some y)))

copied-child : (s : State) (word x y : ℕ) → slots_allowed (copied_to s word x y) ≡ with_child s.slots x y (copy_of (capability_at s.slots y) word)
copied-child s word x y = by-tests (may_be_copied (capability_at s.slots y)) (nat_lt (depth_of s.slots y) 255)
  where
    by-tests : (a b : Bool) → slots_allowed (check a IllegalOperation >>= λ _. check b IllegalOperation >>= λ _.
        Ok (with_slots s (inserted s.slots x (copied (capability_at s.slots y) word) (Some y))))
        ≡ (check a IllegalOperation >>= λ _. Ok (copied (capability_at s.slots y) word)) >>= λ capability. check b IllegalOperation >>= λ _.
        Ok (inserted s.slots x capability (Some y))
    by-tests true true = refl
    by-tests true false = refl
    by-tests false b = refl

minted-child : (s : State) (word payload x y : ℕ) → slots_allowed (minted_to s word payload x y) ≡ with_child s.slots x y
    (minted_copy_of (capability_at s.slots y) word payload)
minted-child s word payload x y =
    let held = capability_at s.slots y in
    by-tests (may_be_copied held) (not (is_badged held)) (badge_fits held payload) (guard_fits held payload) (nat_lt (depth_of s.slots y) 255)
  where
    by-tests : (a b c d e : Bool) → slots_allowed (check a IllegalOperation >>= λ _. check b IllegalOperation >>= λ _. check c RangeError >>= λ _.
        check d IllegalOperation >>= λ _. check e IllegalOperation >>= λ _.
        Ok (with_slots s (inserted s.slots x (with_payload (copied (capability_at s.slots y) word) payload) (Some y))))
        ≡ (check a IllegalOperation >>= λ _. check b IllegalOperation >>= λ _. check c RangeError >>= λ _. check d IllegalOperation >>= λ _.
        Ok (with_payload (copied (capability_at s.slots y) word) payload)) >>= λ capability. check e IllegalOperation >>= λ _.
        Ok (inserted s.slots x capability (Some y))
    by-tests true true true true true = refl
    by-tests true true true true false = refl
    by-tests true true true false e = refl
    by-tests true true false d e = refl
    by-tests true false c d e = refl
    by-tests false b c d e = refl

-- ---- a call by its ends

abbrev pub copy_of_ends : State → Result (ℕ × ℕ) KError → ℕ → Result State KError
copy_of_ends s ends word = ends >>= λ p. copied_to s word p.0 p.1

abbrev pub mint_of_ends : State → Result (ℕ × ℕ) KError → ℕ → ℕ → Result State KError
mint_of_ends s ends word payload = ends >>= λ p. minted_to s word payload p.0 p.1

module _ (image : Image) (t : Thread) (at : Point) (slots : List NotedSlot) (capability : Cap) where
  abbrev all : Slots
  all = noted_slots image t slots

  abbrev root : Cap
  root = noted_root image t

  abbrev ends : SlotName → SlotName → Result (ℕ × ℕ) KError
  ends destination source = ends_of all capability root destination source

  abbrev travels : SlotName → Bool
  travels source = names_such may_travel all (argument_slot all root source)

  pub copy-by-ends : (destination source : SlotName) (word : ℕ) → cnode_after image t at slots capability (Copy destination source word)
      ≡ allowed_slots image t at (travels source) (slots_allowed (copy_of_ends (noted_kernel image t slots) (ends destination source) word))
  unfolding noted_kernel
  copy-by-ends destination source word =
      let s = noted_kernel image t slots in
      allowed-state image t at (travels source) (copy s (call_on image t 0 capability) destination source word)
      ∙ ap (λ r. allowed_slots image t at (travels source) (slots_allowed r))
      (by-ends (destination_slot all capability destination) (source_slot all root source) (copied_to s word))

  pub mint-by-ends : (destination source : SlotName) (word payload : ℕ) → cnode_after image t at slots capability (Mint destination source word payload)
      ≡ allowed_slots image t at (travels source) (slots_allowed (mint_of_ends (noted_kernel image t slots) (ends destination source) word payload))
  unfolding noted_kernel
  mint-by-ends destination source word payload =
      let s = noted_kernel image t slots in
      allowed-state image t at (travels source) (mint s (call_on image t 0 capability) destination source word payload)
      ∙ ap (λ r. allowed_slots image t at (travels source) (slots_allowed r))
      (by-ends (destination_slot all capability destination) (source_slot all root source) (minted_to s word payload))

  travels-is : (source : SlotName) (x y : ℕ) (e : Ends) → AreEnds image t all root source x y e → travels source ≡ may_travel e.held
  travels-is source x y e are = ap (names_such may_travel all) are.named ∙ ap may_travel are.held

  pub copy-refused : (destination source : SlotName) (word : ℕ) (error : KError) → ends destination source ≡ Err error
      → cnode_after image t at slots capability (Copy destination source word) ≡ Err (CallRefused at error)
  copy-refused destination source word error is =
      copy-by-ends destination source word
      ∙ ap (λ r. allowed_slots image t at (travels source) (slots_allowed (copy_of_ends (noted_kernel image t slots) r word))) is

  pub mint-refused : (destination source : SlotName) (word payload : ℕ) (error : KError) → ends destination source ≡ Err error
      → cnode_after image t at slots capability (Mint destination source word payload) ≡ Err (CallRefused at error)
  mint-refused destination source word payload error is =
      mint-by-ends destination source word payload
      ∙ ap (λ r. allowed_slots image t at (travels source) (slots_allowed (mint_of_ends (noted_kernel image t slots) r word payload))) is

  pub copy-goes : (destination source : SlotName) (word x y : ℕ) (e : Ends) → ends destination source ≡ Ok (x, y) → AreEnds image t all root source x y e
      → cnode_after image t at slots capability (Copy destination source word) ≡ allowed_slots image t at (may_travel e.held)
      (with_child all x y (copy_of e.held word))
  unfolding noted_kernel
  copy-goes destination source word x y e is are =
      let s = noted_kernel image t slots in
      copy-by-ends destination source word
      ∙ ap (λ r. allowed_slots image t at (travels source) (slots_allowed (copy_of_ends s r word))) is
      ∙ ap (allowed_slots image t at (travels source)) (copied-child s word x y)
      ∙ ap (λ b. allowed_slots image t at b (with_child all x y (copy_of (capability_at all y) word))) (travels-is source x y e are)
      ∙ ap (λ (held : Cap). allowed_slots image t at (may_travel e.held) (with_child all x y (copy_of held word))) are.held

  pub mint-goes : (destination source : SlotName) (word payload x y : ℕ) (e : Ends) → ends destination source ≡ Ok (x, y) →
      AreEnds image t all root source x y e
      → cnode_after image t at slots capability (Mint destination source word payload) ≡ allowed_slots image t at (may_travel e.held)
      (with_child all x y (minted_copy_of e.held word payload))
  unfolding noted_kernel
  mint-goes destination source word payload x y e is are =
      let s = noted_kernel image t slots in
      mint-by-ends destination source word payload
      ∙ ap (λ r. allowed_slots image t at (travels source) (slots_allowed (mint_of_ends s r word payload))) is
      ∙ ap (allowed_slots image t at (travels source)) (minted-child s word payload x y)
      ∙ ap (λ b. allowed_slots image t at b (with_child all x y (minted_copy_of (capability_at all y) word payload))) (travels-is source x y e are)
      ∙ ap (λ (held : Cap). allowed_slots image t at (may_travel e.held) (with_child all x y (minted_copy_of held word payload))) are.held

-- ---- the ends that were named

pub ends-ok : (image : Image) (t : Thread) (all : Slots) (root : Cap) (source : SlotName) (r : Result (ℕ × ℕ) KError) (e : Ends) →
    NamesEnds image t all root source r (Ok e)
    → (x : ℕ) × (y : ℕ) × (r ≡ Ok (x, y)) × AreEnds image t all root source x y e
ends-ok image t _ _ source (Ok places) e are = (places.0, places.1, refl, are)
ends-ok image t _ _ source (Err error) e are = absurd are

pub ends-err : (image : Image) (t : Thread) (all : Slots) (root : Cap) (source : SlotName) (r : Result (ℕ × ℕ) KError) (error : KError) →
    NamesEnds image t all root source r (Err error) → r ≡ Err error
ends-err image t _ _ source (Ok places) error are = absurd are
ends-err image t _ _ source (Err other) error are = ap (λ (e : KError). let r : Result (ℕ × ℕ) KError = Err e in r) are

-- ---- the child

not-empty : (held : Cap) (word : ℕ) → is_empty held ≡ false → is_empty (copied held word) ≡ false
not-empty Empty word full = full
not-empty (Untyped a b c) word full = refl
not-empty (Endpoint a b c) word full = refl
not-empty (Notification a b c) word full = refl
not-empty (CNode a b c) word full = refl
not-empty (Frame a b c) word full = refl
not-empty (PageTable a b) word full = refl
not-empty (Tcb a) word full = refl
not-empty (RootTable a) word full = refl
not-empty InterruptControl word full = refl
not-empty (InterruptHandler a) word full = refl

not-empty-with : (held : Cap) (payload : ℕ) → is_empty held ≡ false → is_empty (with_payload held payload) ≡ false
not-empty-with Empty payload full = full
not-empty-with (Untyped a b c) payload full = refl
not-empty-with (Endpoint a b c) payload full = refl
not-empty-with (Notification a b c) payload full = refl
not-empty-with (CNode a b c) payload full = refl
not-empty-with (Frame a b c) payload full = refl
not-empty-with (PageTable a b) payload full = refl
not-empty-with (Tcb a) payload full = refl
not-empty-with (RootTable a) payload full = refl
not-empty-with InterruptControl payload full = refl
not-empty-with (InterruptHandler a) payload full = refl

pub copy-full : (held : Cap) (word : ℕ) → is_empty held ≡ false → IfOk (copy_of held word) (λ made. is_empty made ≡ false)
copy-full held word full = elim (may_be_copied held) as (λ b. IfOk (check b IllegalOperation >>= λ _. Ok (copied held word)) (λ made. is_empty made ≡ false)) [
  | true ↦ not-empty held word full
  | false ↦ tt
]

pub mint-full : (held : Cap) (word payload : ℕ) → is_empty held ≡ false → IfOk (minted_copy_of held word payload) (λ made. is_empty made ≡ false)
mint-full held word payload full = by-tests (may_be_copied held) (not (is_badged held)) (badge_fits held payload) (guard_fits held payload)
  where
    by-tests : (a b c d : Bool) → IfOk (check a IllegalOperation >>= λ _. check b IllegalOperation >>= λ _. check c RangeError >>= λ _. check d IllegalOperation
        >>= λ _. Ok (with_payload (copied held word) payload)) (λ made. is_empty made ≡ false)
    by-tests true true true true = not-empty-with (copied held word) payload (not-empty held word full)
    by-tests true true true false = tt
    by-tests true true false d = tt
    by-tests true false c d = tt
    by-tests false b c d = tt

module _ (image : Image) (t : Thread) (at : Point) (slots : List NotedSlot) (root : Cap) (source : SlotName) (x y : ℕ) (e : Ends)
    (stand : StandsApart image t) (own : AreOwn image t slots) (are : AreEnds image t (noted_slots image t slots) root source x y e) where
  abbrev below : Slots
  below = noted_slots image t slots

  depth-same : depth_of below y ≡ noted_depth 256 slots e.from
  depth-same =
      let from = key-named image (reached image t) y e.from are.from in
      ap (λ slot. depth_of below slot) (sym from.place) ∙ depth-is image t stand slots own 256 e.from from.own

  -- the test of the depth, and then whether the source may travel
  pub child-tests : (capability : Cap) (travels : Bool) → allowed_slots image t at travels (with_child below x y (Ok capability))
      ≡ allowed_slots image t at travels (check (nat_lt (noted_depth 256 slots e.from) 255) IllegalOperation >>= λ _. Ok (inserted below x capability (Some y)))
  child-tests capability travels =
      ap (λ d. allowed_slots image t at travels (check (nat_lt d 255) IllegalOperation >>= λ _. Ok (inserted below x capability (Some y)))) depth-same

  pub too-deep : (capability : Cap) (travels : Bool) → nat_lt (noted_depth 256 slots e.from) 255 ≡ false →
      allowed_slots image t at travels (with_child below x y (Ok capability)) ≡ Err (CallRefused at IllegalOperation)
  too-deep capability travels deep =
      child-tests capability travels ∙ ap (λ b. allowed_slots image t at travels (check b IllegalOperation >>= λ _. Ok (inserted below x capability (Some y))))
      deep

  pub stays-home : (capability : Cap) (travels : Bool) → nat_lt (noted_depth 256 slots e.from) 255 ≡ true → travels ≡ false →
      allowed_slots image t at travels (with_child below x y (Ok capability)) ≡ Err (CallRefused at IllegalOperation)
  stays-home capability travels room no-way =
      child-tests capability travels ∙ ap (λ b. allowed_slots image t at travels (check b IllegalOperation >>= λ _. Ok (inserted below x capability (Some y))))
      room
      ∙ ap (λ b. allowed_slots image t at b (Ok (inserted below x capability (Some y)))) no-way

  pub child-put : (capability : Cap) (travels : Bool) → RiseFrom 0 slots → is_empty capability ≡ false → nat_lt (noted_depth 256 slots e.from) 255 ≡ true →
      travels ≡ true
      → allowed_slots image t at travels (with_child below x y (Ok capability)) ≡ Ok
      (with_noted slots (record { key = e.to; capability = capability; parent = Some e.from }))
  child-put capability travels rises full room way =
      let s : NotedSlot = record { key = e.to; capability = capability; parent = Some e.from } in
      let to = key-named image (reached image t) x e.to are.to in
      let from = key-named image (reached image t) y e.from are.from in
      let mine : IsOwnSlot image t s = record { key = to.own; full = full; parent = from.own } in
      child-tests capability travels ∙ ap (λ b. allowed_slots image t at travels (check b IllegalOperation >>= λ _. Ok (inserted below x capability (Some y))))
      room
      ∙ ap (λ b. allowed_slots image t at b (Ok (inserted below x capability (Some y)))) way
      ∙ ap (λ n. let r : Result (List NotedSlot) Refusal = Ok (noted_after image t (inserted below n capability (Some y))) in r) (sym to.place)
      ∙ ap (λ n. let r : Result (List NotedSlot) Refusal = Ok (noted_after image t (inserted below (slot_of_key image e.to) capability (Some n))) in r)
      (sym from.place)
      ∙ ap (λ (l : List NotedSlot). let r : Result (List NotedSlot) Refusal = Ok l in r) (put-back image t stand slots s rises own mine)
