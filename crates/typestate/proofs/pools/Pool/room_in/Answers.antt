-- Check by check; the kernel's slots of the CNode are the thread's.
use Rattle.std.proofs.Common.{ℕ, ◌∙◌, ◌+◌, ◌≡◌, Bool, true, false, not, Option, List, Result, nat_lt, sym, ap, arith}
use Rattle.std.specs.List.{list_any, range_with_len}
use Rattle.model.specs.declared.capabilities.Cap.TheVariants.{Untyped}
use Rattle.model.specs.declared.errors.KError.{KError}
use Rattle.model.specs.declared.errors.KError.TheVariants.{DeleteFirst, IllegalOperation, NotEnoughMemory, RangeError}
use Rattle.model.specs.Acceptance.NotedKernel.{noted_slots}
use Rattle.model.specs.Acceptance.NotedStates.{NotedSlot}
use Rattle.model.specs.Capabilities.Placement.{placement}
use Rattle.model.specs.Capabilities.Slots.{is_full}
use Rattle.model.specs.Images.Image.{Image, Thread}
use Rattle.model.specs.Kernel.Arguments.{◌>>=◌, check, wanted}
use Rattle.model.specs.Kernel.Retype.{any_full}
use Rattle.model.specs.Kernel.State.{slot_of}
use Rattle.typestate.specs.Differences.{slots_of}
use Rattle.typestate.specs.Pools.{IsOwnWindow, fits_node, some_full}
use Rattle.typestate.specs.SlotChanges.{noted_depth}
use Rattle.typestate.specs.Spaces.{AreOwn, StandsApart}
use Rattle.typestate.specs.declared.window.Window.{Window}
use Rattle.typestate.proofs.GivenFacts.{apart-of, test-decides}
use Rattle.typestate.proofs.PoolPlaces.{any-same, fits-node}
use Rattle.typestate.proofs.pools.Pool.room_in.Goals as goal

abbrev by_checks : Bool → Bool → Bool → Option (ℕ × ℕ) → Result (ℕ × ℕ) KError
by_checks fits taken shallow place = do
  _ ← check fits RangeError
  _ ← check (not taken) DeleteFirst
  _ ← check shallow IllegalOperation
  wanted place NotEnoughMemory

taken-is : (image : Image) (t : Thread) (stand : StandsApart image t) (slots : List NotedSlot) (are : AreOwn image t slots) (w : Window)
    (own : IsOwnWindow image t w) (index count : ℕ)
    → fits_node w.radix index count ≡ true → some_full slots (record { cnode = w.cnode; index = index }) count ≡ any_full (noted_slots image t slots)
    (slot_of w.offset index) count
taken-is image t stand slots are w own index count fits =
    let room = fits-node w.radix index count fits in
    let first : slot_of w.offset index + 0 ≡ slot_of w.offset index = omega arith in
    any-same image t stand slots are w own index 0 count (let few = room.2 in omega (arith, few))
    ∙ ap (λ n. list_any (is_full (noted_slots image t slots)) (range_with_len n count)) first

pub place-requires : goal.place-requires
place-requires c =
    let pool = c.args.self.now in
    let valid = test-decides (Untyped pool.memory.offset pool.memory.bits pool.memory.watermark) pool.valid in
    record {
      size = valid.2;
      used = valid.3;
      object_size = c.requires.bits;
      few = (fits-node c.args.window.radix c.args.index c.args.count (sym c.fits.ensures ∙ c.if-not-fits.false)).1;
    }

pub returns-then-is_any_full : goal.returns-then-is_any_full
returns-then-is_any_full c =
    let pool = c.args.self.now in
    let image = pool.own.space.image.now in
    let t = pool.own.space.thread.now in
    let slots = slots_of pool.own.slots in
    let memory = pool.memory in
    let w = c.args.window in
    let shallow = nat_lt (noted_depth 256 slots pool.held.now.key) 255 in
    let place = placement memory.bits memory.watermark c.args.bits c.args.count in
    let fits : fits_node w.radix c.args.index c.args.count ≡ true = sym c.fits.ensures ∙ c.if-not-fits.false in
    let taken : any_full (noted_slots image t slots) (slot_of w.offset c.args.index) c.args.count ≡ true =
    sym (c.is_any_full.ensures ∙ taken-is image t (apart-of pool.own.space) slots pool.own.own w c.requires.mine c.args.index c.args.count fits)
    ∙ c.if-is_any_full.true in
    sym (ap (λ b. by_checks b (any_full (noted_slots image t slots) (slot_of w.offset c.args.index) c.args.count) shallow place) fits
    ∙ ap (λ b. by_checks true b shallow place) taken)

pub returns-then-not-may_have_child : goal.returns-then-not-may_have_child
returns-then-not-may_have_child c =
    let pool = c.args.self.now in
    let image = pool.own.space.image.now in
    let t = pool.own.space.thread.now in
    let slots = slots_of pool.own.slots in
    let memory = pool.memory in
    let w = c.args.window in
    let shallow = nat_lt (noted_depth 256 slots pool.held.now.key) 255 in
    let place = placement memory.bits memory.watermark c.args.bits c.args.count in
    let fits : fits_node w.radix c.args.index c.args.count ≡ true = sym c.fits.ensures ∙ c.if-not-fits.false in
    let taken : any_full (noted_slots image t slots) (slot_of w.offset c.args.index) c.args.count ≡ false =
    sym (c.is_any_full.ensures ∙ taken-is image t (apart-of pool.own.space) slots pool.own.own w c.requires.mine c.args.index c.args.count fits)
    ∙ c.if-is_any_full.false in
    let deep : shallow ≡ false = sym (c.may_have_child.ensures ∙ ap (λ (h : NotedSlot). nat_lt (noted_depth 256 slots h.key) 255) c.held.view_is)
    ∙ c.if-not-may_have_child.true in
    sym (ap (λ b. by_checks b (any_full (noted_slots image t slots) (slot_of w.offset c.args.index) c.args.count) shallow place) fits
    ∙ ap (λ b. by_checks true b shallow place) taken ∙ ap (λ b. by_checks true false b place) deep)

pub returns-in-Ok : goal.returns-in-Ok
returns-in-Ok c =
    let pool = c.args.self.now in
    let image = pool.own.space.image.now in
    let t = pool.own.space.thread.now in
    let slots = slots_of pool.own.slots in
    let memory = pool.memory in
    let w = c.args.window in
    let shallow = nat_lt (noted_depth 256 slots pool.held.now.key) 255 in
    let place = placement memory.bits memory.watermark c.args.bits c.args.count in
    let fits : fits_node w.radix c.args.index c.args.count ≡ true = sym c.fits.ensures ∙ c.if-not-fits.false in
    let taken : any_full (noted_slots image t slots) (slot_of w.offset c.args.index) c.args.count ≡ false =
    sym (c.is_any_full.ensures ∙ taken-is image t (apart-of pool.own.space) slots pool.own.own w c.requires.mine c.args.index c.args.count fits)
    ∙ c.if-is_any_full.false in
    let deep : shallow ≡ true = sym (c.may_have_child.ensures ∙ ap (λ (h : NotedSlot). nat_lt (noted_depth 256 slots h.key) 255) c.held.view_is)
    ∙ c.if-not-may_have_child.false in
    sym (ap (λ b. by_checks b (any_full (noted_slots image t slots) (slot_of w.offset c.args.index) c.args.count) shallow place) fits
    ∙ ap (λ b. by_checks true b shallow place) taken
    ∙ ap (λ b. by_checks true false b place) deep ∙ ap (λ (o : Option (ℕ × ℕ)). by_checks true false true o) (sym c.in-Ok.ensures.exact))

pub returns-in-Err : goal.returns-in-Err
returns-in-Err c =
    let pool = c.args.self.now in
    let image = pool.own.space.image.now in
    let t = pool.own.space.thread.now in
    let slots = slots_of pool.own.slots in
    let memory = pool.memory in
    let w = c.args.window in
    let shallow = nat_lt (noted_depth 256 slots pool.held.now.key) 255 in
    let place = placement memory.bits memory.watermark c.args.bits c.args.count in
    let fits : fits_node w.radix c.args.index c.args.count ≡ true = sym c.fits.ensures ∙ c.if-not-fits.false in
    let taken : any_full (noted_slots image t slots) (slot_of w.offset c.args.index) c.args.count ≡ false =
    sym (c.is_any_full.ensures ∙ taken-is image t (apart-of pool.own.space) slots pool.own.own w c.requires.mine c.args.index c.args.count fits)
    ∙ c.if-is_any_full.false in
    let deep : shallow ≡ true = sym (c.may_have_child.ensures ∙ ap (λ (h : NotedSlot). nat_lt (noted_depth 256 slots h.key) 255) c.held.view_is)
    ∙ c.if-not-may_have_child.false in
    sym (ap (λ b. by_checks b (any_full (noted_slots image t slots) (slot_of w.offset c.args.index) c.args.count) shallow place) fits
    ∙ ap (λ b. by_checks true b shallow place) taken
    ∙ ap (λ b. by_checks true false b place) deep ∙ ap (λ (o : Option (ℕ × ℕ)). by_checks true false true o) (sym c.in-Err.ensures.exact))
