-- Both frames lie in memory and in no open slot, and the state follows what is copied between them.
use Rattle.std.proofs.Common.{ℕ, ◌≡◌, ◌∙◌, ◌*◌, ◌+◌, ◌^◌, ◌≤◌, List, drop, take, ap, subst, sym, arith}
use Rattle.model.specs.Capabilities.Slots.{Slots}
use Rattle.model.specs.Kernel.AddressSpaces.{page_size}
use Rattle.model.specs.Kernel.Messages.{with_copied}
use Rattle.model.specs.Shared.Bytes.{written}
use Rattle.objects.proofs.CopiedWords.{copied}
use Rattle.objects.proofs.FrameCopies.{copied-objects, copied-stands, copied-state, outside-slots}
use Rattle.objects.proofs.FramePlaces.{frame-in-bytes}
use Rattle.objects.specs.Frames.{AreCopied, IsFramed, SameObjects}
use Rattle.objects.specs.Lives.{Parts, state_in}
use Rattle.objects.specs.Standing.{Standing}
use Rattle.objects.specs.Tables.{Tables, state_of}
use Rattle.objects.proofs.lives.Live.copy_words.Goals as goal

-- a frame that is there before what is inside is looked at
framed-in : {S : Type 0} (slots : S → Slots) (memory : S → List ℕ) (was now : Parts S) (frame : ℕ) → was ≡ now → IsFramed (state_in slots memory now) frame
    → IsFramed (state_in slots memory was) frame
framed-in slots memory was now frame same framed = subst (λ (live : Parts _). IsFramed (state_in slots memory live) frame) (sym same) framed

-- what is copied, between frames that lie in memory
copies : (o : Tables) (slots : Slots) (old new : List ℕ) (source target count size : ℕ) → count ≤ 112 → Standing o slots old → size ≡ 2 ^ o.bits
    → source + page_size ≤ size → target + page_size ≤ size → new ≡ written old (target + 32) (take (4 * count) (drop (source + 32) old))
    → AreCopied old new (source + 32) (target + 32) (4 * count)
copies o slots old new source target count size few stands is from to now =
    let first = frame-in-bytes o slots old source size stands is from in
    let second = frame-in-bytes o slots old target size stands is to in
    copied old (source + 32) (target + 32) (4 * count) (omega (arith, few, first, second)) new now

pub prove-unreachable-requires : goal.prove-unreachable-requires
prove-unreachable-requires g c =
    let framed = framed-in g.S.SlotMap.slots g.S.SlotStore.memory _ _ c.args.source c.self.view_is c.requires.source in
    let within = c.memory_size-size.ensures.frames (g.S.SlotMap.slots c.self.inside.store) (g.S.SlotStore.memory c.self.inside.store) c.args.source framed in
    omega (arith, within, c.if-prove.true)

pub prove-unreachable-requires-2 : goal.prove-unreachable-requires-2
prove-unreachable-requires-2 g c =
    let framed = framed-in g.S.SlotMap.slots g.S.SlotStore.memory _ _ c.args.target c.self.view_is c.requires.target in
    let within = c.memory_size-size.ensures.frames (g.S.SlotMap.slots c.self.inside.store) (g.S.SlotStore.memory c.self.inside.store) c.args.target framed in
    omega (arith, within, c.if-prove-2.true)

pub copy_words-requires-clause-within : goal.copy_words-requires-clause-within
copy_words-requires-clause-within g c =
    let slots = g.S.SlotMap.slots c.self.inside.store in
    let memory = g.S.SlotStore.memory c.self.inside.store in
    let size = c.memory_size-size.result in
    let from = framed-in g.S.SlotMap.slots g.S.SlotStore.memory _ _ c.args.source c.self.view_is c.requires.source in
    let to = framed-in g.S.SlotMap.slots g.S.SlotStore.memory _ _ c.args.target c.self.view_is c.requires.target in
    let first = frame-in-bytes c.self.inside.objects slots memory c.args.source size c.self.invariant c.memory_size-size.ensures.value
    (c.memory_size-size.ensures.frames slots memory c.args.source from) in
    let second = frame-in-bytes c.self.inside.objects slots memory c.args.target size c.self.invariant c.memory_size-size.ensures.value
    (c.memory_size-size.ensures.frames slots memory c.args.target to) in
    omega (arith, first, second, c.requires.few)

pub copy_words-requires-clause-outside : goal.copy_words-requires-clause-outside
copy_words-requires-clause-outside g c =
    let framed = framed-in g.S.SlotMap.slots g.S.SlotStore.memory _ _ c.args.target c.self.view_is c.requires.target in
    outside-slots c.self.inside.objects (g.S.SlotMap.slots c.self.inside.store) (g.S.SlotStore.memory c.self.inside.store) c.args.target c.args.count
    c.requires.few c.self.invariant framed

pub invariant_of-self : goal.invariant_of-self
invariant_of-self g c =
    let slots = g.S.SlotMap.slots c.self.inside.store in
    let old = g.S.SlotStore.memory c.self.inside.store in
    let new = g.S.SlotStore.memory c.copy_words.new.self in
    let from = framed-in g.S.SlotMap.slots g.S.SlotStore.memory _ _ c.args.source c.self.view_is c.requires.source in
    let to = framed-in g.S.SlotMap.slots g.S.SlotStore.memory _ _ c.args.target c.self.view_is c.requires.target in
    subst (λ (now : Slots). Standing c.self.inside.objects now new) (sym c.copy_words.ensures.slots)
    (copied-stands c.self.inside.objects slots old new c.args.source c.args.target c.args.count c.requires.few c.self.invariant from to
    (copies c.self.inside.objects slots old new c.args.source c.args.target c.args.count c.memory_size-size.result c.requires.few c.self.invariant
    c.memory_size-size.ensures.value (c.memory_size-size.ensures.frames slots old c.args.source from)
    (c.memory_size-size.ensures.frames slots old c.args.target to) c.copy_words.ensures.bytes))

pub returns-clause-state : goal.returns-clause-state
returns-clause-state g c =
    let slots = g.S.SlotMap.slots c.self.inside.store in
    let old = g.S.SlotStore.memory c.self.inside.store in
    let new = g.S.SlotStore.memory c.copy_words.new.self in
    let from = framed-in g.S.SlotMap.slots g.S.SlotStore.memory _ _ c.args.source c.self.view_is c.requires.source in
    let to = framed-in g.S.SlotMap.slots g.S.SlotStore.memory _ _ c.args.target c.self.view_is c.requires.target in
    ap (λ (now : Slots). state_of c.self.inside.objects now new) c.copy_words.ensures.slots
    ∙ copied-state c.self.inside.objects slots old new c.args.source c.args.target c.args.count c.requires.few c.self.invariant from to
    (copies c.self.inside.objects slots old new c.args.source c.args.target c.args.count c.memory_size-size.result c.requires.few c.self.invariant
    c.memory_size-size.ensures.value (c.memory_size-size.ensures.frames slots old c.args.source from)
    (c.memory_size-size.ensures.frames slots old c.args.target to) c.copy_words.ensures.bytes)
    ∙ ap (λ (live : Parts _).
    (let s = state_in g.S.SlotMap.slots g.S.SlotStore.memory live in record s { bytes = with_copied s.bytes c.args.source c.args.target c.args.count }))
    c.self.view_is

pub returns-clause-beside : goal.returns-clause-beside
returns-clause-beside g c =
    let slots = g.S.SlotMap.slots c.self.inside.store in
    let old = g.S.SlotStore.memory c.self.inside.store in
    let new = g.S.SlotStore.memory c.copy_words.new.self in
    let from = framed-in g.S.SlotMap.slots g.S.SlotStore.memory _ _ c.args.source c.self.view_is c.requires.source in
    let to = framed-in g.S.SlotMap.slots g.S.SlotStore.memory _ _ c.args.target c.self.view_is c.requires.target in
    let same : SameObjects (state_of c.self.inside.objects slots old) (state_of c.self.inside.objects (g.S.SlotMap.slots c.copy_words.new.self) new) old new =
    subst (λ (now : Slots). SameObjects (state_of c.self.inside.objects slots old) (state_of c.self.inside.objects now new) old new)
    (sym c.copy_words.ensures.slots)
    (copied-objects c.self.inside.objects slots old new c.args.source c.args.target c.args.count c.requires.few c.self.invariant from to
    (copies c.self.inside.objects slots old new c.args.source c.args.target c.args.count c.memory_size-size.result c.requires.few c.self.invariant
    c.memory_size-size.ensures.value (c.memory_size-size.ensures.frames slots old c.args.source from)
    (c.memory_size-size.ensures.frames slots old c.args.target to) c.copy_words.ensures.bytes)) in
    record {
      slots = c.copy_words.ensures.slots ∙ ap (λ (live : Parts _). g.S.SlotMap.slots live.store) c.self.view_is;
      order = c.copy_words.ensures.order ∙ ap (λ (live : Parts _). g.S.SlotStore.order live.store) c.self.view_is;
      bytes = subst (λ (live : Parts _). SameObjects (state_in g.S.SlotMap.slots g.S.SlotStore.memory live)
          (state_of c.self.inside.objects (g.S.SlotMap.slots c.copy_words.new.self) new) (g.S.SlotStore.memory live.store) new) c.self.view_is same;
    }
