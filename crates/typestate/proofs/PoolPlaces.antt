-- Retype: the CNode that is named, the room in the pool, and the places of the new objects.
use Rattle.std.proofs.Common.{ℕ, zero, suc, ◌≡◌, ◌∙◌, ◌==◌, ◌+◌, ◌-◌, ◌*◌, ◌/◌, ◌%◌, ◌^◌, ◌<◌, ◌≤◌, ◌&&◌, ◌||◌, inl, inr, Bool, true, false, not, nat_le}
use Rattle.std.proofs.Common.{nat_lt, if◌then◌else◌, Option, Some, None, is_some, Result, Ok, Err, List, [], ◌∷◌, pow_pos, refl, sym, ap, subst, arith}
use Rattle.std.specs.Option.{option_map_or}
use Rattle.std.specs.List.{find, list_any, range_with_len}
use Rattle.std.proofs.Math.Nat.{add-mul-mod_self_right, div-add-mod, mul-le-mul_right}
use Rattle.std.proofs.Math.Pow.{mod-mod-pow, pow_mono}
use Rattle.std.proofs.lemmas.Bool.{and_parts, cases_lt, eq-eqb, eqb-true}
use Rattle.std.proofs.lemmas.Bool.Decides.{nat_tests}
use Rattle.std.proofs.lemmas.Nat.{pow-add}
use Rattle.model.specs.declared.capabilities.Cap.TheVariants.{Empty, Untyped}
use Rattle.model.specs.declared.errors.KError.{KError}
use Rattle.model.specs.declared.errors.KError.TheVariants.{DeleteFirst, IllegalOperation, NotEnoughMemory, RangeError}
use Rattle.model.specs.declared.invocations.Invocation.TheVariants.{OnUntyped}
use Rattle.model.specs.declared.invocations.RetypeCall.{RetypeCall}
use Rattle.model.specs.declared.invocations.UntypedMemory.{UntypedMemory}
use Rattle.model.specs.declared.refusals.Point.{Point}
use Rattle.model.specs.declared.refusals.Refusal.{Refusal}
use Rattle.model.specs.declared.refusals.Refusal.TheVariants.{CallRefused}
use Rattle.model.specs.Acceptance.CallRules.{may_make}
use Rattle.model.specs.Acceptance.NotedKernel.{noted_after, noted_kernel, noted_slots, slot_of_key}
use Rattle.model.specs.Acceptance.NotedStates.{NotedSlot, SlotKey, is_own, slot_at}
use Rattle.model.specs.Acceptance.ThreadRules.{is_member, reached}
use Rattle.model.specs.Acceptance.WellFormed.{has_slot}
use Rattle.model.specs.Capabilities.CapabilityKinds.{Node}
use Rattle.model.specs.Capabilities.CapabilityWords.{IsCapability, IsPlace}
use Rattle.model.specs.Capabilities.Placement.{placement}
use Rattle.model.specs.Capabilities.Slots.{Slots, depth_of, is_empty, is_full, recapped}
use Rattle.model.specs.Images.Image.{Image, Thread}
use Rattle.model.specs.Kernel.Arguments.{◌>>=◌, check, wanted}
use Rattle.model.specs.Kernel.ObjectTypes.{new_type}
use Rattle.model.specs.Kernel.Retype.{NewObject, NewObjects, any_full, object_bits, type_of, with_first_capabilities, with_new_slots}
use Rattle.model.specs.Kernel.State.{slot_of}
use Rattle.typestate.specs.declared.pool_calls.NewPlace.{NewPlace}
use Rattle.typestate.specs.declared.window.Window.{Window}
use Rattle.typestate.specs.Differences.{changed}
use Rattle.typestate.specs.Invocations.{held_after}
use Rattle.typestate.specs.Pools.{IsOwnWindow, NamesNode, PlacedNew, fits_node, pool_used, room_in, slots_made}
use Rattle.typestate.specs.SlotChanges.{noted_depth}
use Rattle.typestate.specs.Spaces.{AreOwn, AreWindows, IsWindow, StandsApart}
use Rattle.typestate.specs.Strays.{is_at}
use Rattle.typestate.proofs.KernelDepths.{depth-is}
use Rattle.typestate.proofs.NamedKeys.{own-named}
use Rattle.typestate.proofs.MadeSlots.{made-back}
use Rattle.typestate.proofs.PoolRules.{Placing, asked-type, placed-so, pool-goes, pool-never, room_of}
use Rattle.typestate.proofs.Rising.{RiseFrom}
use Rattle.typestate.proofs.SlotMaps.{noted-holds}
use Rattle.typestate.proofs.Standing.{found-own}

-- ---- the CNode

pub none-any : (test : Window → Bool) (ws : List Window) → find test ws ≡ None → list_any test ws ≡ false
none-any test [] none = refl
none-any test (w ∷ ws) none = elim (test w) as (λ b. (if b then Some w else find test ws) ≡ None → (b || list_any test ws) ≡ false) [
  | true ↦ λ clash. absurd (let no : Some w ≡ None = clash in cc)
  | false ↦ λ later. none-any test ws later
] none

record FoundWindow (image : Image) (cnodes : List ℕ) (test : Window → Bool) (w : Window) : Type 0 where
  passes : test w ≡ true
  mine : is_member w.cnode cnodes ≡ true
  window : IsWindow image w.cnode w

or-second : (a b : Bool) → b ≡ true → (a || b) ≡ true
or-second true b is = refl
or-second false b is = is

window-found : (image : Image) (cnodes : List ℕ) (ws : List Window) (test : Window → Bool) (w : Window) → AreWindows image cnodes ws → find test ws ≡ Some w →
    FoundWindow image cnodes test w
window-found image [] [] test w are found = absurd (let no : None ≡ Some w = found in cc)
window-found image [] (v ∷ vs) test w are found = absurd are
window-found image (cnode ∷ cnodes) [] test w are found = absurd are
window-found image (cnode ∷ cnodes) (v ∷ vs) test w are found =
    elim (test v) as (λ b. test v ≡ b → (if b then Some v else find test vs) ≡ Some w → FoundWindow image (cnode ∷ cnodes) test w) [
      | true ↦ λ is here.
          let same : v ≡ w = (let both : Some v ≡ Some w = here in cc) in
          let first : FoundWindow image (cnode ∷ cnodes) test v = record {
            passes = is;
            mine = ap (λ b. b || is_member v.cnode cnodes) (eq-eqb v.cnode cnode (are.0).object);
            window = subst (λ n. IsWindow image n v) (sym (are.0).object) are.0;
          } in
          subst (λ (x : Window). FoundWindow image (cnode ∷ cnodes) test x) same first
      | false ↦ λ _ later.
          let rest = window-found image cnodes vs test w are.1 later in
          record { passes = rest.passes; mine = or-second (w.cnode == cnode) (is_member w.cnode cnodes) rest.mine; window = rest.window }
    ] refl found

pub own-window : (image : Image) (t : Thread) (ws : List Window) (offset radix : ℕ) (w : Window) → AreWindows image (reached image t) ws →
    find (is_at offset radix) ws ≡ Some w
    → IsOwnWindow image t w × (w.offset ≡ offset) × (w.radix ≡ radix)
own-window image t ws offset radix w are found =
    let here = window-found image (reached image t) ws (is_at offset radix) w are found in
    let parts = and_parts (w.offset == offset) (w.radix == radix) here.passes in
    (record { mine = here.mine; is = here.window }, eqb-true w.offset offset parts.0, eqb-true w.radix radix parts.1)

pub record NamedNode (image : Image) (t : Thread) (r : Result Node KError) (w : Window) : Type 0 where
  pub cnode : Node
  pub is : r ≡ Ok cnode
  pub own : IsOwnWindow image t w
  pub offset : w.offset ≡ cnode.offset
  pub radix : w.radix ≡ cnode.radix

pub node-ok : (image : Image) (t : Thread) (r : Result Node KError) (w : Window) → NamesNode image t r (Ok w) → NamedNode image t r w
node-ok image t (Ok cnode) w names = record { cnode = cnode; is = refl; own = names.0; offset = names.1; radix = names.2 }
node-ok image t (Err error) w names = absurd names

pub node-err : (image : Image) (t : Thread) (r : Result Node KError) (error : KError) → NamesNode image t r (Err error) → r ≡ Err error
node-err image t (Ok cnode) error names = absurd names
node-err image t (Err other) error names = ap (λ (e : KError). let r : Result Node KError = Err e in r) names

-- ---- slots of the CNode

module _ (image : Image) (t : Thread) (stand : StandsApart image t) (slots : List NotedSlot) (are : AreOwn image t slots) (w : Window)
    (own : IsOwnWindow image t w) where
  abbrev all : Slots
  all = noted_slots image t slots

  pub key-own : (index : ℕ) → index < 2 ^ w.radix → is_own image (reached image t) (record { cnode = w.cnode; index = index }) ≡ true
  key-own index less =
      let small : nat_lt index (2 ^ w.radix) ≡ true = grind (arith, nat_tests, less) in
      ap (λ b. b && has_slot image w.cnode index) own.mine ∙ ap (λ (o : Option ℕ). option_map_or (λ radix. nat_lt index (2 ^ radix)) o false) own.is.size
      ∙ small

  full-same : (index slot : ℕ) → index < 2 ^ w.radix → slot ≡ w.offset / 16 + index →
      is_full all slot ≡ is_some (slot_at slots (record { cnode = w.cnode; index = index }))
  full-same index slot less place =
      let k : SlotKey = record { cnode = w.cnode; index = index } in
      let mine = key-own index less in
      let here : slot_of_key image k ≡ slot = ap (λ n. n / 16 + index) (sym own.is.place) ∙ sym place in
      ap (λ n. is_full all n) (sym here)
      ∙ ap (λ c. not (is_empty c)) (noted-holds image t slots (slot_of_key image k) k (own-named image t stand k mine))
      ∙ (elim (slot_at slots k) as (λ o. slot_at slots k ≡ o → not (is_empty (option_map_or (λ r. r.capability) o Empty)) ≡ is_some o) [
        | None ↦ λ _. refl
        | Some r ↦ λ found. ap not (found-own image t slots k r are found).full
      ] refl)

  -- the kernel's test is that of the noted slots
  pub any-same : (index a n : ℕ) → index + (a + n) ≤ 2 ^ w.radix
      → list_any (λ i. is_some (slot_at slots (record { cnode = w.cnode; index = index + i }))) (range_with_len a n) ≡ list_any (is_full all)
      (range_with_len (slot_of w.offset index + a) n)
  any-same index a zero fits = refl
  any-same index a (suc n) fits =
      ap (λ b. b || list_any (λ i. is_some (slot_at slots (record { cnode = w.cnode; index = index + i }))) (range_with_len (a + 1) n))
      (sym (full-same (index + a) (slot_of w.offset index + a) (omega (arith, fits)) (omega arith)))
      ∙ ap (λ b. is_full all (slot_of w.offset index + a) || b) (any-same index (a + 1) n (omega (arith, fits))
      ∙ ap (λ x. list_any (is_full all) (range_with_len x n))
      (let e : slot_of w.offset index + (a + 1) ≡ slot_of w.offset index + a + 1 = omega arith in e))

-- ---- the room

pub fits-node : (radix index count : ℕ) → fits_node radix index count ≡ true → (1 ≤ count) × (count ≤ 256) × (index + count ≤ 2 ^ radix)
fits-node radix index count is =
    let outer = and_parts (nat_le 1 count && nat_le count 256) (nat_le (index + count) (2 ^ radix)) is in
    let inner = and_parts (nat_le 1 count) (nat_le count 256) outer.0 in
    let a = inner.0 in let b = inner.1 in let c = outer.1 in
    (grind (arith, nat_tests, a), grind (arith, nat_tests, b), grind (arith, nat_tests, c))

pub room-same : (image : Image) (t : Thread) (stand : StandsApart image t) (slots : List NotedSlot) (are : AreOwn image t slots) (held : NotedSlot)
    (memory : UntypedMemory) (call : RetypeCall)
    (new : NewObject) (cnode : Node) (w : Window) → is_own image (reached image t) held.key ≡ true → w.offset ≡ cnode.offset → w.radix ≡ cnode.radix
    → room_of image t slots held memory call new cnode ≡ room_in image t slots held.key memory w (object_bits new) call.index call.count
room-same image t stand slots are held memory call new cnode w own offset radix =
    let all = noted_slots image t slots in
    let behind : ℕ → Result (ℕ × ℕ) KError = λ d. check (nat_lt d 255) IllegalOperation >>= λ _.
    wanted (placement memory.bits memory.watermark (object_bits new) call.count) NotEnoughMemory in
    ap (λ r. check (fits_node r call.index call.count) RangeError >>= λ _. check (not (any_full all (slot_of cnode.offset call.index) call.count)) DeleteFirst
    >>= λ _. behind (depth_of all (slot_of_key image held.key))) (sym radix)
    ∙ ap (λ o. check (fits_node w.radix call.index call.count) RangeError >>= λ _. check (not (any_full all (slot_of o call.index) call.count)) DeleteFirst
    >>= λ _. behind (depth_of all (slot_of_key image held.key))) (sym offset)
    ∙ ap (λ d. check (fits_node w.radix call.index call.count) RangeError >>= λ _.
    check (not (any_full all (slot_of w.offset call.index) call.count)) DeleteFirst >>= λ _. behind d) (depth-is image t stand slots are 256 held.key own)

pub record IsRoom (image : Image) (t : Thread) (slots : List NotedSlot) (memory : UntypedMemory) (w : Window) (bits index count : ℕ) (p : ℕ × ℕ) : Type 0 where
  pub fits : fits_node w.radix index count ≡ true
  pub vacant : any_full (noted_slots image t slots) (slot_of w.offset index) count ≡ false
  pub place : placement memory.bits memory.watermark bits count ≡ Some p

abbrev Places : Type 0
Places = Result (ℕ × ℕ) KError

abbrev placed : ℕ × ℕ → Places
placed p = Ok p

abbrev failed : KError → Places
failed e = Err e

pub room-parts : (image : Image) (t : Thread) (slots : List NotedSlot) (k : SlotKey) (memory : UntypedMemory) (w : Window) (bits index count : ℕ) (p : ℕ × ℕ)
    → room_in image t slots k memory w bits index count ≡ Ok p → IsRoom image t slots memory w bits index count p
room-parts image t slots k memory w bits index count p is =
    by-tests (fits_node w.radix index count) (any_full (noted_slots image t slots) (slot_of w.offset index) count) (nat_lt (noted_depth 256 slots k) 255)
    (placement memory.bits memory.watermark bits count) refl refl refl is
  where
    by-tests : (a b d : Bool) (o : Option (ℕ × ℕ)) → fits_node w.radix index count ≡ a → any_full (noted_slots image t slots) (slot_of w.offset index) count ≡ b
        → placement memory.bits memory.watermark bits count ≡ o
        → (check a RangeError >>= λ _. check (not b) DeleteFirst >>= λ _. check d IllegalOperation >>= λ _. wanted o NotEnoughMemory) ≡ placed p →
        IsRoom image t slots memory w bits index count p
    by-tests false b d o fits free place so = absurd (let no : failed RangeError ≡ placed p = so in cc)
    by-tests true true d o fits free place so = absurd (let no : failed DeleteFirst ≡ placed p = so in cc)
    by-tests true false false o fits free place so = absurd (let no : failed IllegalOperation ≡ placed p = so in cc)
    by-tests true false true None fits free place so = absurd (let no : failed NotEnoughMemory ≡ placed p = so in cc)
    by-tests true false true (Some q) fits free place so =
        let same : q ≡ p = (let both : placed q ≡ placed p = so in cc) in
        record { fits = fits; vacant = free; place = place ∙ ap (λ (x : ℕ × ℕ). Some x) same }

-- ---- the places

-- a power that is not larger
bits-less : (a b : ℕ) → 2 ^ a ≤ 2 ^ b → a ≤ b
bits-less a b less = elim (cases_lt b a) [
  | inl larger ↦
      let wide : 2 ^ (b + 1) ≤ 2 ^ a = pow_mono (omega (arith, larger)) in
      let twice : 2 ^ (b + 1) ≡ 2 ^ b * 2 ^ 1 = pow-add 2 b 1 in
      let positive = pow_pos b in
      absurd (omega (arith, wide, twice, positive, less))
  | inr fits ↦ fits
]

-- a multiple of a power is one of each smaller power
multiple : (offset bits smaller : ℕ) → smaller ≤ bits → offset % 2 ^ bits ≡ 0 → offset % 2 ^ smaller ≡ 0
multiple offset bits smaller less is =
    let all : bits - smaller + smaller ≡ bits = omega (arith, less) in
    let positive = pow_pos smaller in
    sym (mod-mod-pow offset (bits - smaller) smaller) ∙ ap (λ (n : ℕ). offset % 2 ^ n % 2 ^ smaller) all ∙ ap (λ (n : ℕ). n % 2 ^ smaller) is
    ∙ omega (arith, positive)

-- a block of a power stands below a limit that is a greater power
block-below : (offset bits limit : ℕ) → bits ≤ limit → offset % 2 ^ bits ≡ 0 → offset < 2 ^ limit → offset + 2 ^ bits ≤ 2 ^ limit
block-below offset bits limit less whole below =
    let q = offset / 2 ^ bits in
    let split : 2 ^ bits * q + offset % 2 ^ bits ≡ offset = div-add-mod offset (2 ^ bits) in
    let all : limit - bits + bits ≡ limit = omega (arith, less) in
    let power : 2 ^ limit ≡ 2 ^ (limit - bits) * 2 ^ bits = ap (λ (n : ℕ). 2 ^ n) (sym all) ∙ pow-add 2 (limit - bits) bits in
    let turned : 2 ^ bits * q ≡ q * 2 ^ bits = grind arith in
    elim (cases_lt q (2 ^ (limit - bits))) [
      | inl few ↦
          let more : (q + 1) * 2 ^ bits ≤ 2 ^ (limit - bits) * 2 ^ bits = mul-le-mul_right (2 ^ bits) (omega (arith, few)) in
          let next : (q + 1) * 2 ^ bits ≡ q * 2 ^ bits + 2 ^ bits = grind arith in
          omega (arith, more, next, power, split, turned, whole)
      | inr many ↦
          let over : 2 ^ (limit - bits) * 2 ^ bits ≤ q * 2 ^ bits = mul-le-mul_right (2 ^ bits) many in
          absurd (omega (arith, over, power, split, turned, whole, below))
    ]

pub place-valid : (memory : UntypedMemory) (power count place mark i : ℕ) → IsCapability (Untyped memory.offset memory.bits memory.watermark) →
    Placing memory.bits memory.watermark power count place mark
    → i < count → IsPlace (memory.offset + place + i * 2 ^ power) power
place-valid memory power count place mark i valid so less =
    let size = 2 ^ power in
    let rounds = (memory.watermark + (size - 1)) / size in
    let start : rounds * size ≡ place = so.start in
    let upto : (i + 1) * size ≤ count * size = mul-le-mul_right size (omega (arith, less)) in
    let next : (i + 1) * size ≡ i * size + size = grind arith in
    let end = so.end in
    let below = so.below in
    let smaller : power ≤ memory.bits = bits-less power memory.bits (omega (arith, upto, next, end, below)) in
    let block : memory.offset + 2 ^ memory.bits ≤ 2 ^ 24 = block-below memory.offset memory.bits 24 valid.2 valid.0.0 valid.0.1 in (
      ap (λ n. (memory.offset + n + i * size) % size) (sym start) ∙ add-mul-mod_self_right (memory.offset + rounds * size) i size
          ∙ add-mul-mod_self_right memory.offset rounds size ∙ multiple memory.offset memory.bits power smaller valid.0.0,
      (let positive = pow_pos power in omega (arith, upto, next, end, below, block, positive)),
    )

pub place-small : (memory : UntypedMemory) (power count place mark : ℕ) → IsCapability (Untyped memory.offset memory.bits memory.watermark) →
    Placing memory.bits memory.watermark power count place mark
    → memory.offset + place ≤ 2 ^ 24
place-small memory power count place mark valid so =
    let block : memory.offset + 2 ^ memory.bits ≤ 2 ^ 24 = block-below memory.offset memory.bits 24 valid.2 valid.0.0 valid.0.1 in
    let end = so.end in
    let below = so.below in
    omega (arith, end, below, block)

-- ---- all checks together

module _ (image : Image) (t : Thread) (stand : StandsApart image t) (slots : List NotedSlot) (are : AreOwn image t slots) (held : NotedSlot)
    (memory : UntypedMemory) (call : RetypeCall) (p : NewPlace)
    (is : slot_at slots held.key ≡ Some held) (pool : held.capability ≡ Untyped memory.offset memory.bits memory.watermark)
    (placed : PlacedNew image t slots held.key memory call p) where
  abbrev new : NewObject
  new = new_type p.kind

  abbrev found : ℕ × ℕ
  found = (placed.place, p.watermark)

  room-found : room_of image t slots held memory call new placed.cnode ≡ Ok found
  room-found = room-same image t stand slots are held memory call new placed.cnode placed.w (found-own image t slots held.key held are is).key
      placed.offset placed.radix ∙ placed.room

  pub room-is : IsRoom image t slots memory placed.w (object_bits new) call.index call.count found
  room-is = room-parts image t slots held.key memory placed.w (object_bits new) call.index call.count found placed.room

  pub placing : Placing memory.bits memory.watermark (object_bits new) call.count placed.place p.watermark
  placing = placed-so memory.bits memory.watermark (object_bits new) call.count placed.place p.watermark room-is.place

  may-is : may_make (type_of call.kind call.size) ≡ may_make (Some new)
  may-is = ap may_make (asked-type call.kind call.size new placed.asked)

  pub never-made : (at : Point) → may_make (Some new) ≡ false → held_after image t at slots held (OnUntyped memory call) ≡ Err (CallRefused at IllegalOperation)
  never-made at never = pool-never image t slots held memory call at new placed.cnode found placed.asked placed.named room-found (may-is ∙ never)

  pub places-valid : IsCapability (Untyped memory.offset memory.bits memory.watermark) → (i : ℕ) → i < call.count →
      IsPlace (p.offset + i * 2 ^ object_bits new) (object_bits new)
  places-valid valid i less =
      subst (λ o. IsPlace (o + i * 2 ^ object_bits new) (object_bits new)) (sym placed.first)
      (place-valid memory (object_bits new) call.count placed.place p.watermark i valid placing less)

  pub made-all : (may : may_make (Some new) ≡ true) (at : Point) → RiseFrom 0 slots
      → held_after image t at slots held (OnUntyped memory call) ≡ Ok
      (changed slots (pool_used held memory p.watermark ∷ slots_made p.slot held.key new p.offset call.count))
  unfolding noted_kernel
  made-all may at rises =
      let fits = fits-node placed.w.radix call.index call.count room-is.fits in
      let used = recapped (noted_slots image t slots) (slot_of_key image held.key) (Untyped memory.offset memory.bits p.watermark) in
      let behind : ℕ → ℕ → List NotedSlot = λ window first.
      noted_after image t (with_first_capabilities (let o : NewObjects = record { kind = new; first = first; count = call.count } in o) window
      (slot_of_key image held.key) (with_new_slots (let o : NewObjects = record { kind = new; first = first; count = call.count } in o) used)) in
      let done : List NotedSlot → Result (List NotedSlot) Refusal = λ l. Ok l in
      pool-goes image t slots held memory call at new placed.cnode found placed.asked placed.named room-found (may-is ∙ may)
      ∙ ap (λ o. done (behind (slot_of o call.index) (memory.offset + placed.place))) (sym placed.offset)
      ∙ ap (λ f. done (behind (slot_of placed.w.offset call.index) f)) (sym placed.first)
      ∙ ap done (made-back image t stand slots are rises held is memory pool p.watermark new may placed.w placed.own call.index call.count p.offset fits.2)
      ∙ ap (λ (k : SlotKey). done (changed slots (pool_used held memory p.watermark ∷ slots_made k held.key new p.offset call.count)))
      (sym placed.slot)
