-- Retype by what its checks answer.
use Rattle.std.proofs.Common.{ℕ, ◌≡◌, ◌∙◌, ◌+◌, ◌*◌, ◌^◌, ◌≤◌, Bool, true, false, not, nat_le, nat_lt, if◌then◌else◌, Option, Some, None, Result, Ok, Err, List}
use Rattle.std.proofs.Common.{refl, sym, ap, arith}
use Rattle.std.specs.Option.{option_map_or}
use Rattle.std.proofs.lemmas.Bool.{leb-true}
use Rattle.model.specs.declared.capabilities.Cap.TheVariants.{Untyped}
use Rattle.model.specs.declared.errors.KError.{KError}
use Rattle.model.specs.declared.errors.KError.TheVariants.{DeleteFirst, IllegalOperation, InvalidArgument, NotEnoughMemory, RangeError}
use Rattle.model.specs.declared.invocations.Invocation.TheVariants.{OnUntyped}
use Rattle.model.specs.declared.invocations.RetypeCall.{RetypeCall}
use Rattle.model.specs.declared.invocations.UntypedMemory.{UntypedMemory}
use Rattle.model.specs.declared.refusals.Point.{Point}
use Rattle.model.specs.declared.refusals.Refusal.TheVariants.{CallRefused}
use Rattle.model.specs.Acceptance.CallRules.{may_make}
use Rattle.model.specs.Acceptance.NotedKernel.{noted_after, noted_kernel, noted_root, noted_slots, slot_of_key}
use Rattle.model.specs.Acceptance.NotedStates.{NotedSlot}
use Rattle.model.specs.Capabilities.CapabilityKinds.{Node}
use Rattle.model.specs.Capabilities.Placement.{align, placement}
use Rattle.model.specs.Capabilities.Slots.{Slots, depth_of, recapped}
use Rattle.model.specs.Images.Image.{Image, Thread}
use Rattle.model.specs.Kernel.Arguments.{◌>>=◌, check, wanted}
use Rattle.model.specs.Kernel.Retype.{NewObject, NewObjects, any_full, is_large_enough, is_small_enough, node, object_bits, retype, type_of, with_new}
use Rattle.model.specs.Kernel.State.{State, slot_of, with_slots}
use Rattle.typestate.specs.Invocations.{held_after}
use Rattle.typestate.specs.Pools.{fits_node}
use Rattle.typestate.proofs.Allowed.{chain, kernel-refuses}
use Rattle.untyped.specs.NewTypes.{asked_type}

-- ---- the type

abbrev sized_type : Option NewObject → Result NewObject KError
sized_type found = wanted found InvalidArgument >>= λ new. check (is_large_enough new) InvalidArgument >>= λ _. check (is_small_enough new) RangeError >>= λ _.
    Ok new

asked-from : (found : Option NewObject) (new : NewObject) → sized_type found ≡ Ok new → found ≡ Some new
asked-from None new is = absurd (let clash : Err InvalidArgument ≡ Ok new = is in cc)
asked-from (Some other) new is = elim (is_large_enough other)
    as (λ b. (check b InvalidArgument >>= λ _. check (is_small_enough other) RangeError >>= λ _. Ok other) ≡ Ok new → Some other ≡ Some new) [
      | false ↦ λ clash. absurd (let no : Err InvalidArgument ≡ Ok new = clash in cc)
      | true ↦ elim (is_small_enough other) as (λ b. (check b RangeError >>= λ _. Ok other) ≡ Ok new → Some other ≡ Some new) [
        | false ↦ λ clash. absurd (let no : Err RangeError ≡ Ok new = clash in cc)
        | true ↦ λ same. let one : other ≡ new = (let both : Ok other ≡ Ok new = same in cc) in ap (λ (x : NewObject). Some x) one
      ]
    ] is

pub asked-type : (kind size : ℕ) (new : NewObject) → asked_type kind size ≡ Ok new → type_of kind size ≡ Some new
asked-type kind size new is = asked-from (type_of kind size) new is

-- ---- the place

pub record Placing (bits used power count place mark : ℕ) : Type 0 where
  pub start : align used (2 ^ power) ≡ place
  pub end : place + count * 2 ^ power ≡ mark
  pub below : mark ≤ 2 ^ bits

pub placed-so : (bits used power count place mark : ℕ) → placement bits used power count ≡ Some (place, mark) → Placing bits used power count place mark
placed-so bits used power count place mark is =
    let start = align used (2 ^ power) in
    let end = start + count * 2 ^ power in
    let there : Option (ℕ × ℕ) = Some (start, end) in
    let wanted_place : Option (ℕ × ℕ) = Some (place, mark) in
    let found_if : Bool → Option (ℕ × ℕ) = λ b. if b then there else None in
    elim (nat_le end (2 ^ bits)) as (λ b. nat_le end (2 ^ bits) ≡ b → found_if b ≡ wanted_place → Placing bits used power count place mark) [
      | true ↦ λ test so.
          let first : start ≡ place = ap (λ (o : Option (ℕ × ℕ)). option_map_or (λ p. p.0) o 0) so in
          let last : end ≡ mark = ap (λ (o : Option (ℕ × ℕ)). option_map_or (λ p. p.1) o 0) so in
          let less : end ≤ 2 ^ bits = leb-true end (2 ^ bits) test in
          record { start = first; end = ap (λ n. n + count * 2 ^ power) (sym first) ∙ last; below = omega (arith, last, less) }
      | false ↦ λ _ clash. absurd (let no : false ≡ true = ap (λ (o : Option (ℕ × ℕ)). option_map_or (λ _. true) o false) clash in cc)
    ] refl is

-- ---- the checks one after another

module _ (image : Image) (t : Thread) (slots : List NotedSlot) (held : NotedSlot) (memory : UntypedMemory) (call : RetypeCall) where
  abbrev all : Slots
  all = noted_slots image t slots

  abbrev s : State
  s = noted_kernel image t slots

  abbrev slot : ℕ
  slot = slot_of_key image held.key

  abbrev pub effect : NewObject → Node → ℕ × ℕ → State
  effect new cnode place =
      let objects : NewObjects = record { kind = new; first = memory.offset + place.0; count = call.count } in
      with_new (with_slots s (recapped all slot (Untyped memory.offset memory.bits place.1))) objects (slot_of cnode.offset call.index) slot

  abbrev pub room_of : NewObject → Node → Result (ℕ × ℕ) KError
  room_of new cnode = do
    _ ← check (fits_node cnode.radix call.index call.count) RangeError
    _ ← check (not (any_full all (slot_of cnode.offset call.index) call.count)) DeleteFirst
    _ ← check (nat_lt (depth_of all slot) 255) IllegalOperation
    wanted (placement memory.bits memory.watermark (object_bits new) call.count) NotEnoughMemory

  abbrev pub behind_node : NewObject → Result Node KError → Result State KError
  behind_node new found = found >>= λ cnode. room_of new cnode >>= λ place. Ok (effect new cnode place)

  abbrev pub behind_type : Result NewObject KError → Result State KError
  behind_type found = found >>= λ new. behind_node new (node all (noted_root image t) call.node)

  retype-is : retype s (noted_root image t) slot memory call ≡ behind_type (asked_type call.kind call.size)
  unfolding retype noted_kernel
  retype-is = steps (type_of call.kind call.size) (node all (noted_root image t) call.node)
    where
      bools : (a b d : Bool) (p : Option (ℕ × ℕ)) (k : ℕ × ℕ → Result State KError)
          → (check a RangeError >>= λ _. check b DeleteFirst >>= λ _. check d IllegalOperation >>= λ _. wanted p NotEnoughMemory >>= λ place. k place)
          ≡ ((check a RangeError >>= λ _. check b DeleteFirst >>= λ _. check d IllegalOperation >>= λ _. wanted p NotEnoughMemory) >>= λ place. k place)
      bools false b d p k = refl
      bools true false d p k = refl
      bools true true false p k = refl
      bools true true true None k = refl
      bools true true true (Some place) k = refl

      steps : (o : Option NewObject) (r : Result Node KError)
          → (wanted o InvalidArgument >>= λ new. check (is_large_enough new) InvalidArgument >>= λ _. check (is_small_enough new) RangeError >>= λ _. r
          >>= λ cnode.
          check (fits_node cnode.radix call.index call.count) RangeError >>= λ _.
          check (not (any_full all (slot_of cnode.offset call.index) call.count)) DeleteFirst >>= λ _.
          check (nat_lt (depth_of all slot) 255) IllegalOperation >>= λ _.
          wanted (placement memory.bits memory.watermark (object_bits new) call.count) NotEnoughMemory >>= λ place. Ok (effect new cnode place))
          ≡ (sized_type o >>= λ new. behind_node new r)
      steps None r = refl
      steps (Some new) r = elim (is_large_enough new) as (λ b. (check b InvalidArgument >>= λ _. check (is_small_enough new) RangeError >>= λ _. r >>= λ cnode.
          check (fits_node cnode.radix call.index call.count) RangeError >>= λ _.
          check (not (any_full all (slot_of cnode.offset call.index) call.count)) DeleteFirst >>= λ _.
          check (nat_lt (depth_of all slot) 255) IllegalOperation >>= λ _.
          wanted (placement memory.bits memory.watermark (object_bits new) call.count) NotEnoughMemory >>= λ place. Ok (effect new cnode place))
          ≡ ((check b InvalidArgument >>= λ _. check (is_small_enough new) RangeError >>= λ _. Ok new) >>= λ new. behind_node new r)) [
            | false ↦ refl
            | true ↦ elim (is_small_enough new) as (λ b. (check b RangeError >>= λ _. r >>= λ cnode.
                check (fits_node cnode.radix call.index call.count) RangeError >>= λ _.
                check (not (any_full all (slot_of cnode.offset call.index) call.count)) DeleteFirst >>= λ _.
                check (nat_lt (depth_of all slot) 255) IllegalOperation >>= λ _.
                wanted (placement memory.bits memory.watermark (object_bits new) call.count) NotEnoughMemory >>= λ place. Ok (effect new cnode place))
                ≡ ((check b RangeError >>= λ _. Ok new) >>= λ new. behind_node new r)) [
                  | false ↦ refl
                  | true ↦ by-node new r
                ]
          ]
        where
          by-node : (new : NewObject) (r : Result Node KError) →
              (r >>= λ cnode. check (fits_node cnode.radix call.index call.count) RangeError >>= λ _.
              check (not (any_full all (slot_of cnode.offset call.index) call.count)) DeleteFirst >>= λ _.
              check (nat_lt (depth_of all slot) 255) IllegalOperation >>= λ _.
              wanted (placement memory.bits memory.watermark (object_bits new) call.count) NotEnoughMemory >>= λ place. Ok (effect new cnode place))
              ≡ behind_node new r
          by-node new (Err error) = refl
          by-node new (Ok cnode) =
              bools (fits_node cnode.radix call.index call.count) (not (any_full all (slot_of cnode.offset call.index) call.count))
              (nat_lt (depth_of all slot) 255)
              (placement memory.bits memory.watermark (object_bits new) call.count) (λ place. Ok (effect new cnode place))

  module _ (at : Point) where
    abbrev travels : Bool
    travels = may_make (type_of call.kind call.size)

    pub pool-refused : (error : KError) → behind_type (asked_type call.kind call.size) ≡ Err error →
        held_after image t at slots held (OnUntyped memory call) ≡ Err (CallRefused at error)
    pool-refused error is = kernel-refuses image t at false travels (retype s (noted_root image t) slot memory call) error (retype-is ∙ is)

    module _ (new : NewObject) (cnode : Node) (place : ℕ × ℕ) (asked : asked_type call.kind call.size ≡ Ok new)
        (named : node all (noted_root image t) call.node ≡ Ok cnode) (room : room_of new cnode ≡ Ok place) where
      passes : retype s (noted_root image t) slot memory call ≡ Ok (effect new cnode place)
      passes =
          retype-is ∙ ap behind_type asked ∙ ap (behind_node new) named
          ∙ ap (λ (r : Result (ℕ × ℕ) KError). r >>= λ p. let made : Result State KError = Ok (effect new cnode p) in made) room

      pub pool-never : travels ≡ false → held_after image t at slots held (OnUntyped memory call) ≡ Err (CallRefused at IllegalOperation)
      pool-never other = ap (chain image t at false travels) passes ∙ ap (λ b. chain image t at false b (Ok (effect new cnode place))) other

      pub pool-goes : travels ≡ true → held_after image t at slots held (OnUntyped memory call) ≡ Ok (noted_after image t (effect new cnode place).slots)
      pool-goes may = ap (chain image t at false travels) passes ∙ ap (λ b. chain image t at false b (Ok (effect new cnode place))) may
