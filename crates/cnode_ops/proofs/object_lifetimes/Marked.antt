-- Where the watermark is set, none of the objects is made yet, and there is room for all of them.
use Rattle.std.proofs.Common.{ℕ, ◌≡◌, ◌≢◌, ◌∙◌, ◌+◌, ◌-◌, ◌*◌, ◌^◌, ◌<◌, ◌≤◌, inl, inr, not, true, false, Option, Some, None, IsSome, List, refl, sym, ap}
use Rattle.std.proofs.Common.{subst, arith}
use Rattle.std.proofs.Math.Pow.{pow_mono}
use Rattle.std.proofs.lemmas.Bool.Decides.{eqb_tells}
use Rattle.kernel_invariant.proofs.Laws.{growing-base, put-closes, slots-law, stands-law}
use Rattle.kernel_invariant.specs.Wholeness.{Agreed}
use Rattle.kernel_invariant.specs.Growing.{Growing}
use Rattle.cnode_ops.specs.Placed.{IsPlaced, used_to}
use Rattle.cnode_ops.specs.declared.beginnings.Placing.{Placing}
use Rattle.cnode_ops.proofs.object_lifetimes.OneAfterAnother.{made-none}
use Rattle.cnode_ops.proofs.object_lifetimes.Unnamed.{first-unnamed, marked-nameless}
use Rattle.cnode_ops.specs.object_lifetimes.Beginnings.{AreLaid, AreMade, MayUse, NoneNamed}
use Rattle.model.proofs.Ancestors.{full-open}
use Rattle.model.proofs.Depths.{depth-same}
use Rattle.model.proofs.Derivations.{derivation-recapped}
use Rattle.model.proofs.SlotChanges.{entry-other, entry-same, full-not-empty, full-recapped, parent_of}
use Rattle.model.specs.Capabilities.CapabilityWords.{IsCapability}
use Rattle.model.specs.Capabilities.Slots.{IsDerivation, IsFull, SameOutside, Slots, capability_at, depth_of, empty_entry, is_empty, parent_at, recapped}
use Rattle.model.specs.Kernel.Retype.{NewObjects, size_of}
use Rattle.model.specs.Kernel.Soundness.{IsSound}
use Rattle.model.specs.Kernel.State.{State, with_slots}
use Rattle.model.specs.declared.capabilities.Cap.{Cap}
use Rattle.model.specs.declared.capabilities.Cap.TheVariants.{Empty, Untyped}
use Rattle.model.specs.declared.slot_entries.Entry.{Entry}
use Rattle.objects.specs.Standing.{Standing}
use Rattle.objects.specs.Tables.{Tables, state_of}
use Rattle.slots.specs.Kin.{object_at}
use Rattle.soundness.proofs.Laws.{slot-near, unused-free}
use Rattle.soundness.specs.Unused.{IsFree}

-- ---- another capability in a slot

parent-recapped : (slots : Slots) (slot : ℕ) (capability : Cap) (x : ℕ) → parent_at (recapped slots slot capability) x ≡ parent_at slots x
parent-recapped slots slot capability x =
    let entry : Option Entry = Some (record { capability = capability; parent = parent_at slots slot }) in
    elim (eqb_tells x slot) [
      | inl here ↦ ap (parent_at (recapped slots slot capability)) here.1 ∙ ap parent_of (entry-same slots slot entry) ∙ ap (parent_at slots) (sym here.1)
      | inr other ↦ ap parent_of (entry-other slots slot entry x other.1)
    ]

untyped-some : (offset bits used : ℕ) → Untyped offset bits used ≢ Empty
untyped-some offset bits used is = let clash : false ≡ true = ap is_empty is in absurd cc

-- ---- the watermark

module _ (s : State) (new : NewObjects) (at : Placing) (placed : IsPlaced s new at) where
  pub may-use : MayUse (capability_at s.slots at.parent) at.watermark
  may-use = subst (λ (c : Cap). MayUse c at.watermark) (sym placed.memory) placed.fits

  parent-full : IsFull s.slots at.parent
  parent-full = ap (λ (c : Cap). not (is_empty c)) placed.memory

  module _ (sound : IsSound s) where
    pub are-laid : AreLaid new
    are-laid =
        let unused = unused-free s sound at.parent placed.offset placed.bits placed.used placed.memory in
        let inside = unused.inside in
        let within = placed.within in
        let fits = placed.fits in
        let most : 2 ^ s.memory_bits ≤ 2 ^ 24 = pow_mono sound.shape.most_bits in
        record { aligned = placed.aligned; near = omega (arith, inside, within, fits, most); large = placed.large; small = placed.small }

    pub window-near : ((i : ℕ) → i < new.count → s.slots (at.window + i) ≡ Some empty_entry) → at.window + new.count ≤ 2 ^ 20
    window-near window =
        let least = placed.least in
        let last = window (new.count - 1) (omega (arith, least)) in
        let less = slot-near s sound.shape sound.memory (at.window + (new.count - 1))
        ((sound.slots.there (at.window + (new.count - 1))).0 (subst (λ (e : Option Entry). IsSome e) (sym last) refl)) in
        let most : 2 ^ s.memory_bits ≤ 2 ^ 24 = pow_mono sound.shape.most_bits in
        omega (arith, least, less, most)

    marked-valid : IsCapability (Untyped placed.offset placed.bits at.watermark)
    marked-valid =
        let was : IsCapability (Untyped placed.offset placed.bits placed.used) = subst IsCapability placed.memory (sound.slots.derivation.valid at.parent) in
        (was.0, was.1, was.2, placed.fits)

-- ---- the state

module _ (o : Tables) (slots now : Slots) (old memory : List ℕ) (new : NewObjects) (at : Placing) (agreed : Agreed o slots old)
    (sound : IsSound (state_of o slots old)) (placed : IsPlaced (state_of o slots old) new at)
    (marked : now ≡ recapped slots at.parent (used_to at.watermark (capability_at slots at.parent))) (same : SameOutside slots old memory) where
  abbrev s : State
  s = state_of o slots old

  abbrev used : Cap
  used = Untyped placed.offset placed.bits at.watermark

  marked-slots : now ≡ recapped slots at.parent used
  unfolding state_of
  marked-slots = marked ∙ ap (λ (c : Cap). recapped slots at.parent (used_to at.watermark c)) placed.memory

  marked-state : state_of o now memory ≡ with_slots s now
  marked-state = slots-law o slots now old memory agreed.1 same

  pub placed-state : state_of o now memory
      ≡ with_slots s (recapped s.slots at.parent (used_to at.watermark (capability_at s.slots at.parent)))
  unfolding state_of
  placed-state = marked-state ∙ ap (with_slots s) marked

  marked-full-before : IsFull slots at.parent
  unfolding state_of
  marked-full-before = parent-full s new at placed

  pub marked-stands : Standing o now memory
  marked-stands =
      stands-law o slots now old memory agreed.1 same (λ x none. ap (λ (f : Slots). f x) marked-slots
      ∙ put-closes slots at.parent used (parent_at slots at.parent)
      (full-open slots at.parent marked-full-before) x none)

  growing-marked : Growing (state_of o now memory) memory new.first (new.first + new.count * size_of new)
  unfolding state_of
  growing-marked =
      subst (λ (t : State). Growing t memory new.first (new.first + new.count * size_of new)) (sym (marked-state ∙ ap (with_slots s) marked-slots))
      (growing-base s old memory at.parent placed.offset placed.bits placed.used at.watermark new.first (new.first + new.count * size_of new) sound
      placed.memory placed.behind placed.within
      placed.fits agreed.0 same)

  module _ (window : (i : ℕ) → i < new.count → slots (at.window + i) ≡ Some empty_entry) (room : depth_of slots at.parent < 255) where
    was-full : IsFull slots at.parent
    unfolding state_of
    was-full = parent-full s new at placed

    window-empty : (i : ℕ) → i < new.count → recapped slots at.parent used (at.window + i) ≡ Some empty_entry
    window-empty i less =
        entry-other slots at.parent (Some (record { capability = used; parent = parent_at slots at.parent })) (at.window + i)
        (λ is. full-not-empty slots at.parent (at.window + i) was-full (window i less) (sym is)) ∙ window i less

    marked-derivation : IsDerivation (recapped slots at.parent used)
    unfolding state_of
    marked-derivation =
        derivation-recapped slots at.parent used sound.slots.derivation (marked-valid s new at placed sound)
        (untyped-some placed.offset placed.bits at.watermark)

    marked-full : IsFull (recapped slots at.parent used) at.parent
    marked-full = full-recapped slots at.parent used was-full (untyped-some placed.offset placed.bits at.watermark) at.parent ∙ was-full

    marked-room : depth_of (recapped slots at.parent used) at.parent < 255
    marked-room = subst (λ (n : ℕ). n < 255)
        (sym (depth-same 256 (parent_at slots) (parent_at (recapped slots at.parent used)) (parent-recapped slots at.parent used) at.parent)) room

    -- nothing is where the objects are to be
    new-free : IsFree s new.first (new.first + new.count * size_of new)
    new-free =
        let unused = unused-free s sound at.parent placed.offset placed.bits placed.used placed.memory in
        let behind = placed.behind in
        let within = placed.within in
        let fits = placed.fits in
        record {
          objects = λ offset kind is. elim (unused.free.objects offset kind is)
              [ inl before ↦ inl (omega (arith, before, behind)) | inr past ↦ inr (omega (arith, past, within, fits)) ];
          slots = λ place low high. unused.free.slots place (omega (arith, low, behind)) (omega (arith, high, within, fits));
          bytes = λ place low high. unused.free.bytes place (omega (arith, low, behind)) (omega (arith, high, within, fits));
        }

    marked-unnamed : NoneNamed (recapped slots at.parent used) new.first (new.first + new.count * size_of new)
    unfolding state_of
    marked-unnamed = first-unnamed s at.parent placed.offset placed.bits at.watermark new.first (new.first + new.count * size_of new) sound new-free

    pub none-made : AreMade (state_of o now memory) (state_of o now memory) memory new at.window at.parent 0
    unfolding state_of
    none-made =
        made-none (state_of o now memory) memory new at.window at.parent growing-marked
        (λ i less. ap (λ (f : Slots). f (at.window + i)) marked-slots ∙ window-empty i less) (subst IsDerivation (sym marked-slots) marked-derivation)
        (subst (λ (f : Slots). IsFull f at.parent) (sym marked-slots) marked-full)
        (subst (λ (f : Slots). depth_of f at.parent < 255) (sym marked-slots) marked-room)
        (subst (λ (f : Slots). NoneNamed f new.first (new.first + new.count * size_of new)) (sym marked-slots) marked-unnamed)
        (subst (λ (f : Slots). object_at f at.parent ≡ None) (sym marked-slots) (marked-nameless slots at.parent placed.offset placed.bits at.watermark))
