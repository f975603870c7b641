-- Where the CNodes of a thread lie: apart from one another, in memory, and after the boot area.
use Rattle.std.proofs.Common.{ℕ, ◌≡◌, ◌∙◌, ◌+◌, ◌-◌, ◌*◌, ◌/◌, ◌^◌, ◌<◌, ◌≤◌, ◌==◌, ◌||◌, Bool, true, false, if◌then◌else◌, Option, Some, None, option_map}
use Rattle.std.proofs.Common.{List, [], ◌∷◌, refl, sym, ap, arith}
use Rattle.std.specs.List.{find}
use Rattle.std.specs.Prelude.{option_and_then}
use Rattle.std.specs.Option.{option_map_or}
use Rattle.std.proofs.Math.Pow.{pow_mono}
use Rattle.std.proofs.lemmas.Bool.{eq-eqb, false≢true}
use Rattle.std.proofs.lemmas.Nat.{pow-add}
use Rattle.std.proofs.lemmas.Option.{none-some}
use Rattle.format_laws.specs.Fitting.{IsFitting}
use Rattle.soundness.proofs.Laws.{AreFormed, slot-behind-boot, slot-in-memory, slot-of-one}
use Rattle.model.specs.Acceptance.NotedKernel.{key_of, slots_of_cnode, stands_in}
use Rattle.model.specs.Acceptance.NotedStates.{SlotKey}
use Rattle.model.specs.Acceptance.ThreadRules.{is_member, reached}
use Rattle.model.specs.Acceptance.WellFormed.{is_thread_type, radix_of}
use Rattle.model.specs.Capabilities.Slots.{is_within}
use Rattle.model.specs.Images.Described.{is_object_slot}
use Rattle.model.specs.Images.Image.{Image, Thread}
use Rattle.model.specs.Images.Places.{cnode_slot, offset_of, type_at}
use Rattle.model.specs.Kernel.Removal.{slot_count}
use Rattle.model.specs.Kernel.Retype.{NewObject, NewUntyped, NewThread, NewEndpoint, NewNotification, NewCNode, NewFrame, NewPageTable, NewRootTable, object}
use Rattle.model.specs.Kernel.State.{boot_area_slots, slot_of}
use Rattle.thread_spaces.specs.Given.{IsCNode, IsListed}
use Rattle.thread_spaces.proofs.GivenCNodes.{reached-cnode}

-- ---- the slots of a CNode are those of its object

count-of : (kind : Option NewObject) (radix : ℕ) → radix_of kind ≡ Some radix →
    option_map_or (λ r. 2 ^ r) (radix_of kind) 0 ≡ slot_count (option_and_then object kind)
count-of None radix is = absurd (let no : None ≡ Some radix = is in cc)
count-of (Some (NewUntyped bits)) radix is = absurd (let no : None ≡ Some radix = is in cc)
count-of (Some NewThread) radix is = absurd (let no : None ≡ Some radix = is in cc)
count-of (Some NewEndpoint) radix is = absurd (let no : None ≡ Some radix = is in cc)
count-of (Some NewNotification) radix is = absurd (let no : None ≡ Some radix = is in cc)
count-of (Some (NewCNode r)) radix is = refl
count-of (Some NewFrame) radix is = absurd (let no : None ≡ Some radix = is in cc)
count-of (Some NewPageTable) radix is = absurd (let no : None ≡ Some radix = is in cc)
count-of (Some NewRootTable) radix is = absurd (let no : None ≡ Some radix = is in cc)

object-slot : (image : Image) (cnode slot : ℕ) → IsCNode image cnode → stands_in image slot cnode ≡ true → is_object_slot image slot cnode ≡ true
object-slot image cnode slot is there =
    ap (λ (count : ℕ). is_within (slot_of (offset_of image cnode) 0) count slot) (sym (count-of (type_at image cnode) is.radix is.is)) ∙ there

thread-no-cnode : (kind : Option NewObject) (radix : ℕ) → is_thread_type kind ≡ true → radix_of kind ≡ Some radix → ⊥
thread-no-cnode None radix is of = none-some radix of
thread-no-cnode (Some (NewUntyped bits)) radix is of = none-some radix of
thread-no-cnode (Some NewThread) radix is of = none-some radix of
thread-no-cnode (Some NewEndpoint) radix is of = none-some radix of
thread-no-cnode (Some NewNotification) radix is of = none-some radix of
thread-no-cnode (Some (NewCNode r)) radix is of = false≢true is
thread-no-cnode (Some NewFrame) radix is of = none-some radix of
thread-no-cnode (Some NewPageTable) radix is of = none-some radix of
thread-no-cnode (Some NewRootTable) radix is of = none-some radix of

-- ---- the CNode that a slot lies in

pub record IsFound (test : ℕ → Bool) (numbers : List ℕ) (number : ℕ) : Type 0 where
  pub member : is_member number numbers ≡ true
  pub passes : test number ≡ true

pub or-second : (a b : Bool) → b ≡ true → (a || b) ≡ true
or-second true b is = refl
or-second false b is = is

pub find-found : (test : ℕ → Bool) (numbers : List ℕ) (number : ℕ) → find test numbers ≡ Some number → IsFound test numbers number
find-found test [] number is = absurd (let no : None ≡ Some number = is in cc)
find-found test (x ∷ rest) number is = elim (test x) as (λ b. test x ≡ b → (if b then Some x else find test rest) ≡ Some number →
    IsFound test (x ∷ rest) number) [
      | true ↦ λ yes here.
          let same : x ≡ number = cc in
          record { member = ap (λ b. b || is_member number rest) (eq-eqb number x (sym same)); passes = ap test (sym same) ∙ yes }
      | false ↦ λ _ later.
          let found = find-found test rest number later in
          record { member = or-second (number == x) (is_member number rest) found.member; passes = found.passes }
    ] refl is

-- the CNode of a slot with a key
pub record IsOwned (image : Image) (cnodes : List ℕ) (slot : ℕ) : Type 0 where
  pub cnode : ℕ
  pub member : is_member cnode cnodes ≡ true
  pub there : stands_in image slot cnode ≡ true

pub key-owned : (image : Image) (cnodes : List ℕ) (slot : ℕ) (key : SlotKey) → key_of image cnodes slot ≡ Some key → IsOwned image cnodes slot
key-owned image cnodes slot key is = elim (find (stands_in image slot) cnodes)
    as (λ found. find (stands_in image slot) cnodes ≡ found →
    option_map (λ cnode. record { cnode = cnode; index = slot - cnode_slot image cnode 0 }) found ≡ Some key → IsOwned image cnodes slot) [
      | None ↦ λ _ clash. absurd (let no : None ≡ Some key = clash in cc)
      | Some cnode ↦ λ at _. let found = find-found (stands_in image slot) cnodes cnode at in
          record { cnode = cnode; member = found.member; there = found.passes }
    ] refl is

not-some : {A : Type 0} (found : Option A) → ((x : A) → found ≡ Some x → ⊥) → found ≡ None
not-some None never = refl
not-some (Some x) never = absurd (never x refl)

module _ (image : Image) (t : Thread) (fitting : IsFitting image) (formed : AreFormed image) (listed : IsListed image t) where
  abbrev cnodes : List ℕ
  cnodes = reached image t

  pub own-cnode : (cnode : ℕ) → is_member cnode (reached image t) ≡ true → IsCNode image cnode
  own-cnode cnode there = reached-cnode image t fitting formed listed cnode there

  pub few-slots : (cnode : ℕ) → is_member cnode (reached image t) ≡ true → slots_of_cnode image cnode ≤ 2 ^ 14
  few-slots cnode there =
      let is = own-cnode cnode there in
      let most : 2 ^ is.radix ≤ 2 ^ 14 = pow_mono is.small in
      let count : slots_of_cnode image cnode ≡ 2 ^ is.radix = ap (λ (r : Option ℕ). option_map_or (λ radix. 2 ^ radix) r 0) is.is in
      omega (arith, most, count)

  pub one-cnode : (a b slot : ℕ) → is_member a (reached image t) ≡ true → is_member b (reached image t) ≡ true → stands_in image slot a ≡ true →
      stands_in image slot b ≡ true → a ≡ b
  one-cnode a b slot first second here there =
      let one = own-cnode a first in
      let two = own-cnode b second in
      slot-of-one image fitting formed a b slot one.inside two.inside (object-slot image a slot one here) (object-slot image b slot two there)

  pub own-in-memory : (slot : ℕ) (key : SlotKey) → key_of image (reached image t) slot ≡ Some key → slot < 2 ^ image.header.memory_bits / 16
  own-in-memory slot key is =
      let owned = key-owned image (reached image t) slot key is in
      let cnode = own-cnode owned.cnode owned.member in
      slot-in-memory image fitting formed owned.cnode slot cnode.inside (object-slot image owned.cnode slot cnode owned.there)

  pub boot-not-own : (slot : ℕ) → slot < boot_area_slots image.header.boot_radix → key_of image (reached image t) slot ≡ None
  boot-not-own slot less = not-some (key_of image (reached image t) slot) (λ key is.
      let owned = key-owned image (reached image t) slot key is in
      let cnode = own-cnode owned.cnode owned.member in
      let behind = slot-behind-boot image fitting formed owned.cnode slot cnode.inside (object-slot image owned.cnode slot cnode owned.there) in
      omega (arith, less, behind))

  -- a slot of a control block is in no CNode
  pub block-not-own : (tcb slot : ℕ) → tcb < image.header.objects → is_thread_type (type_at image tcb) ≡ true → is_object_slot image slot tcb ≡ true
      → key_of image (reached image t) slot ≡ None
  block-not-own tcb slot less is there = not-some (key_of image (reached image t) slot) (λ key at.
      let owned = key-owned image (reached image t) slot key at in
      let cnode = own-cnode owned.cnode owned.member in
      let same : owned.cnode ≡ tcb =
      slot-of-one image fitting formed owned.cnode tcb slot cnode.inside less (object-slot image owned.cnode slot cnode owned.there) there in
      thread-no-cnode (type_at image tcb) cnode.radix is (ap (λ (n : ℕ). radix_of (type_at image n)) (sym same) ∙ cnode.is))

-- the boot area leaves room
pub boot-room : (image : Image) → IsFitting image → boot_area_slots image.header.boot_radix ≤ 2 ^ image.header.memory_bits / 16
boot-room image fitting =
    let bits = image.header.memory_bits in
    let radix = image.header.boot_radix in
    let high = bits - 5 in
    let least : radix ≤ high = omega (arith, fitting.header.radix_memory) in
    let more : 11 ≤ high = omega (arith, fitting.header.memory_low) in
    let slots : 2 ^ radix ≤ 2 ^ high = pow_mono least in
    let lines : 2 ^ 11 ≤ 2 ^ high = pow_mono more in
    let sum : high + 5 ≡ bits = omega (arith, fitting.header.radix_memory) in
    let parts : 2 ^ bits ≡ 2 ^ high * 2 ^ 5 = ap (λ (n : ℕ). 2 ^ n) (sym sum) ∙ pow-add 2 high 5 in
    omega (arith, slots, lines, parts)
