-- Retype is its checks one after another.
use Rattle.std.proofs.Common.{ℕ, ◌≡◌, ◌∙◌, ◌==◌, ◌+◌, ◌<◌, Bool, true, false, not, if◌then◌else◌, Option, Some, None, Result, Ok, Err, refl, sym, ap}
use Rattle.std.specs.Prelude.{nat_lt}
use Rattle.std.proofs.lemmas.Bool.{ltb-true}
use Rattle.cnode_ops.specs.Placed.{used_to, with_placed}
use Rattle.untyped.specs.NewTypes.{asked_type}
use Rattle.cnode_ops.specs.RetypeChecks.{behind_offset, has_slots, named_node, places, window}
use Rattle.model.specs.Capabilities.CapabilityKinds.{Node, cnode_of}
use Rattle.model.specs.Capabilities.Placement.{placement}
use Rattle.model.specs.Capabilities.Slots.{Slots, capability_at, depth_of, recapped}
use Rattle.model.specs.Kernel.Arguments.{◌>>=◌, argument_slot, check, may_have_child, wanted}
use Rattle.model.specs.Kernel.Retype.{NewObject, NewObjects, any_full, is_large_enough, is_small_enough, node, object_bits, retype, type_of, with_new}
use Rattle.model.specs.Kernel.State.{State, slot_of, with_slots}
use Rattle.model.specs.declared.capabilities.Cap.{Cap}
use Rattle.model.specs.declared.capabilities.Cap.TheVariants.{Untyped}
use Rattle.model.specs.declared.errors.KError.{KError}
use Rattle.model.specs.declared.errors.KError.TheVariants.{DeleteFirst, FailedLookup, IllegalOperation, InvalidArgument, NotEnoughMemory, RangeError}
use Rattle.model.specs.declared.invocations.RetypeCall.{RetypeCall}
use Rattle.model.specs.declared.invocations.UntypedMemory.{UntypedMemory}

abbrev Answer : Type 0
Answer = Result State KError

-- ---- the checks in groups

type-first : (o : Option NewObject) (rest : NewObject → Answer)
    → (wanted o InvalidArgument >>= λ kind. check (is_large_enough kind) InvalidArgument >>= λ _. check (is_small_enough kind) RangeError >>= λ _. rest kind)
    ≡ ((wanted o InvalidArgument >>= λ kind. check (is_large_enough kind) InvalidArgument >>= λ _. check (is_small_enough kind) RangeError >>= λ _. Ok kind)
    >>= rest)
type-first None rest = refl
type-first (Some kind) rest =
    elim (is_large_enough kind) as (λ a. (check a InvalidArgument >>= λ _. check (is_small_enough kind) RangeError >>= λ _. rest kind)
    ≡ ((check a InvalidArgument >>= λ _. check (is_small_enough kind) RangeError >>= λ _. Ok kind) >>= rest)) [
      | false ↦ refl
      | true ↦ elim (is_small_enough kind) as (λ b. (check b RangeError >>= λ _. rest kind) ≡ ((check b RangeError >>= λ _. Ok kind) >>= rest)) [
        | false ↦ refl
        | true ↦ refl
      ]
    ]

node-first : (b : Bool) (slots : Slots) (root : Cap) (found : Result ℕ KError) (rest : Node → Answer)
    → ((if b then wanted (cnode_of root) FailedLookup else (found >>= λ slot. wanted (cnode_of (capability_at slots slot)) FailedLookup)) >>= rest)
    ≡ ((if b then Ok root else (found >>= λ slot. Ok (capability_at slots slot))) >>= λ held. wanted (cnode_of held) FailedLookup >>= rest)
node-first true slots root found rest = refl
node-first false slots root (Ok slot) rest = refl
node-first false slots root (Err error) rest = refl

checks-first : (has full : Bool) (first : ℕ) (rest : ℕ → Answer)
    → (check has RangeError >>= λ _. check (not full) DeleteFirst >>= λ _. rest first)
    ≡ ((check has RangeError >>= λ _. check (not full) DeleteFirst >>= λ _. Ok first) >>= rest)
checks-first false full first rest = refl
checks-first true true first rest = refl
checks-first true false first rest = refl

window-first : (o : Option Node) (has full : Node → Bool) (first : Node → ℕ) (rest : ℕ → Answer)
    → (wanted o FailedLookup >>= λ n. check (has n) RangeError >>= λ _. check (not (full n)) DeleteFirst >>= λ _. rest (first n))
    ≡ ((wanted o FailedLookup >>= λ n. check (has n) RangeError >>= λ _. check (not (full n)) DeleteFirst >>= λ _. Ok (first n)) >>= rest)
window-first None has full first rest = refl
window-first (Some n) has full first rest = checks-first (has n) (full n) (first n) rest

place-first : (o : Option (ℕ × ℕ)) (offset : ℕ) (rest : ℕ → ℕ → State)
    → (wanted o NotEnoughMemory >>= λ place. Ok (rest (offset + place.0) place.1)) ≡ (behind_offset offset o >>= λ place. Ok (rest place.0 place.1))
place-first None offset rest = refl
place-first (Some place) offset rest = refl

-- a child may hang below a slot that is not of the greatest depth
room-passed : (depth : ℕ) (nothing : Unit {0}) → check (nat_lt depth 255) IllegalOperation ≡ Ok nothing → depth < 255
room-passed depth nothing passed =
    ltb-true depth 255 (elim (nat_lt depth 255) as (λ b. check b IllegalOperation ≡ Ok nothing → b ≡ true) [ true ↦ λ is. refl | false ↦ λ is. absurd (cc) ]
    passed)

pub child-room : (slots : Slots) (slot : ℕ) (nothing : Unit {0}) → may_have_child slots slot ≡ Ok nothing → depth_of slots slot < 255
child-room slots slot nothing passed = room-passed (depth_of slots slot) nothing passed

-- ---- what is left of the call after each group

module _ (s : State) (slots : Slots) (root : Cap) (slot : ℕ) (memory : UntypedMemory) (call : RetypeCall) where
  abbrev pub made : NewObject → ℕ → ℕ → ℕ → State
  made kind first place mark =
      with_new (with_slots s (recapped slots slot (Untyped memory.offset memory.bits mark))) (record { kind = kind; first = place; count = call.count }) first
      slot

  abbrev from_place : NewObject → ℕ → Answer
  from_place kind first = places memory kind call.count >>= λ place. Ok (made kind first place.0 place.1)

  abbrev from_child : NewObject → ℕ → Answer
  from_child kind first = may_have_child slots slot >>= λ _. from_place kind first

  abbrev from_window : NewObject → Cap → Answer
  from_window kind held = window slots held call.index call.count >>= from_child kind

  abbrev from_node : NewObject → Answer
  from_node kind = named_node slots root call.node >>= from_window kind

  abbrev steps : Answer
  steps = asked_type call.kind call.size >>= from_node

module _ (s : State) (root : Cap) (slot : ℕ) (memory : UntypedMemory) (call : RetypeCall) where
  place-group : (kind : NewObject) (first : ℕ)
      → (may_have_child s.slots slot >>= λ _. wanted (placement memory.bits memory.watermark (object_bits kind) call.count) NotEnoughMemory >>= λ place.
      Ok (made s s.slots root slot memory call kind first (memory.offset + place.0) place.1)) ≡ from_child s s.slots root slot memory call kind first
  place-group kind first =
      ap (λ (r : Answer). may_have_child s.slots slot >>= λ _. r)
      (place-first (placement memory.bits memory.watermark (object_bits kind) call.count) memory.offset (made s s.slots root slot memory call kind first))

  window-group : (kind : NewObject) (held : Cap)
      → (wanted (cnode_of held) FailedLookup >>= λ n. check (has_slots n.radix call.index call.count) RangeError >>= λ _.
      check (not (any_full s.slots (slot_of n.offset call.index) call.count)) DeleteFirst >>= λ _.
      from_child s s.slots root slot memory call kind (slot_of n.offset call.index))
      ≡ from_window s s.slots root slot memory call kind held
  window-group kind held =
      window-first (cnode_of held) (λ n. has_slots n.radix call.index call.count) (λ n. any_full s.slots (slot_of n.offset call.index) call.count)
      (λ n. slot_of n.offset call.index) (from_child s s.slots root slot memory call kind)

  retype-steps : retype s root slot memory call ≡ steps s s.slots root slot memory call
  unfolding retype
  retype-steps =
      type-first (type_of call.kind call.size) _
      ∙ ap (λ (rest : NewObject → Answer). asked_type call.kind call.size >>= rest) (λ i kind.
      (ap (λ (rest : Node → Answer). node s.slots root call.node >>= rest) (λ j n.
      check (has_slots n.radix call.index call.count) RangeError >>= λ _.
      check (not (any_full s.slots (slot_of n.offset call.index) call.count)) DeleteFirst >>= λ _. place-group kind (slot_of n.offset call.index) j)
      ∙ node-first (call.node.depth == 0) s.slots root (argument_slot s.slots root call.node) _
      ∙ ap (λ (rest : Cap → Answer). named_node s.slots root call.node >>= rest) (λ j held. window-group kind held j)) i)

-- ---- what the call gives, check by check

goes-on : {A B : Type 0} (r : Result A KError) (f : A → Result B KError) (x : A) → Ok x ≡ r → (r >>= f) ≡ f x
goes-on r f x is = ap (λ q. q >>= f) (sym is)

stops : {A B : Type 0} (r : Result A KError) (f : A → Result B KError) (error : KError) → Err error ≡ r → (r >>= f) ≡ Err error
stops r f error is = ap (λ q. q >>= f) (sym is)

module _ (s : State) (slots : Slots) (root : Cap) (slot : ℕ) (memory : UntypedMemory) (call : RetypeCall) (has : s.slots ≡ slots) where
  all : retype s root slot memory call ≡ steps s slots root slot memory call
  all = retype-steps s root slot memory call ∙ ap (λ (t : Slots). steps s t root slot memory call) has

  pub type-refused : (error : KError) → Err error ≡ asked_type call.kind call.size → retype s root slot memory call ≡ Err error
  type-refused error is = all ∙ stops (asked_type call.kind call.size) (from_node s slots root slot memory call) error is

  module _ (kind : NewObject) (one : Ok kind ≡ asked_type call.kind call.size) where
    typed : retype s root slot memory call ≡ from_node s slots root slot memory call kind
    typed = all ∙ goes-on (asked_type call.kind call.size) (from_node s slots root slot memory call) kind one

    pub node-refused : (error : KError) → Err error ≡ named_node slots root call.node → retype s root slot memory call ≡ Err error
    node-refused error is = typed ∙ stops (named_node slots root call.node) (from_window s slots root slot memory call kind) error is

    module _ (held : Cap) (two : Ok held ≡ named_node slots root call.node) where
      noded : retype s root slot memory call ≡ from_window s slots root slot memory call kind held
      noded = typed ∙ goes-on (named_node slots root call.node) (from_window s slots root slot memory call kind) held two

      pub window-refused : (error : KError) → Err error ≡ window slots held call.index call.count → retype s root slot memory call ≡ Err error
      window-refused error is = noded ∙ stops (window slots held call.index call.count) (from_child s slots root slot memory call kind) error is

      module _ (first : ℕ) (three : Ok first ≡ window slots held call.index call.count) where
        opened : retype s root slot memory call ≡ from_child s slots root slot memory call kind first
        opened = noded ∙ goes-on (window slots held call.index call.count) (from_child s slots root slot memory call kind) first three

        pub child-refused : (error : KError) → Err error ≡ may_have_child slots slot → retype s root slot memory call ≡ Err error
        child-refused error is = opened ∙ stops (may_have_child slots slot) (λ _. from_place s slots root slot memory call kind first) error is

        module _ (u : Unit {0}) (four : Ok u ≡ may_have_child slots slot) where
          derived : retype s root slot memory call ≡ from_place s slots root slot memory call kind first
          derived = opened ∙ goes-on (may_have_child slots slot) (λ _. from_place s slots root slot memory call kind first) u four

          pub place-refused : (error : KError) → ◌≡◌ {A = Result (ℕ × ℕ) KError} (Err error) (places memory kind call.count) →
              retype s root slot memory call ≡ Err error
          place-refused error is = derived ∙ stops (places memory kind call.count) (λ place. Ok (made s slots root slot memory call kind first place.0 place.1))
              error is

          pub retype-gives : (place mark : ℕ) → ◌≡◌ {A = Result (ℕ × ℕ) KError} (Ok (place, mark)) (places memory kind call.count)
              → retype s root slot memory call ≡ Ok (made s slots root slot memory call kind first place mark)
          retype-gives place mark five =
              derived ∙ goes-on (places memory kind call.count) (λ place. Ok (made s slots root slot memory call kind first place.0 place.1)) (place, mark) five

-- that is the state with what was placed
pub made-placed : (s : State) (slots : Slots) (root : Cap) (slot : ℕ) (memory : UntypedMemory) (call : RetypeCall) → s.slots ≡ slots
    → capability_at slots slot ≡ Untyped memory.offset memory.bits memory.watermark → (kind : NewObject) (first place mark : ℕ)
    → made s slots root slot memory call kind first place mark
    ≡ with_placed s (record { kind = kind; first = place; count = call.count }) (record { parent = slot; window = first; watermark = mark })
made-placed s slots root slot memory call has held kind first place mark =
    let new : NewObjects = record { kind = kind; first = place; count = call.count } in
    ap (λ (c : Cap). with_new (with_slots s (recapped slots slot (used_to mark c))) new first slot) (sym held)
    ∙ ap (λ (t : Slots). with_new (with_slots s (recapped t slot (used_to mark (capability_at t slot)))) new first slot) (sym has)
