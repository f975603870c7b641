-- A line is bound to a notification, in place of what it was bound to.
use Rattle.std.proofs.Common.{ℕ, ◌≡◌, ◌∙◌, ◌==◌, ◌<◌, ◌^◌, ◌+◌, Bool, true, false, not, nat_lt, Some, None, List, Result, Ok, Err, if◌then◌else◌, refl, sym, ap}
use Rattle.std.proofs.Common.{subst}
use Rattle.cnode_ops.proofs.Laws.{whole-of}
use Rattle.cnode_ops.specs.object_lifetimes.Kernels.{IsConsistent}
use Rattle.kernel_invariant.specs.Wholeness.{Agreed, IsWhole}
use Rattle.irq.proofs.Left.{Child, child-state, child-whole}
use Rattle.irq.specs.Handlers.{bound_source}
use Rattle.model.specs.Capabilities.CapabilityKinds.{object_of}
use Rattle.model.specs.Capabilities.Slots.{IsFull, SameOutside, Slots, capability_at, depth_of, empty_entry, inserted, is_empty, is_full}
use Rattle.model.specs.Images.Boot.{boot_root}
use Rattle.model.specs.Kernel.Arguments.{◌>>=◌, Call, check, may_have_child, source_slot}
use Rattle.model.specs.Kernel.InterruptCalls.{bind, may_be_bound}
use Rattle.model.specs.Kernel.Kinds.{object_named}
use Rattle.model.specs.Kernel.Removal.{delete, remove}
use Rattle.model.specs.Kernel.Soundness.{IsSound}
use Rattle.model.specs.Kernel.State.{State, binding_slot, with_slots}
use Rattle.model.specs.declared.capabilities.Cap.{Cap}
use Rattle.model.specs.declared.errors.KError.{KError}
use Rattle.model.specs.declared.errors.KError.TheVariants.{IllegalOperation, InvalidCapability}
use Rattle.model.specs.declared.invocations.SlotName.{SlotName}
use Rattle.objects.specs.Lives.{Parts, state_in}
use Rattle.objects.specs.Standing.{Standing}
use Rattle.objects.specs.Tables.{Tables, state_of}
use Rattle.slots.specs.Kin.{object_at}
use Rattle.soundness.proofs.Laws.{Binds, bind-sound, bindable, check-passes, deleted-leaves, empty-open, line-empty, line-open, passes-both, room-below}
use Rattle.soundness.proofs.Laws.{room-still, source-plain, source-same}
use Rattle.soundness.specs.Calls.{IsRoot, boot}

-- ---- the checks, and then the slots

bound-at : (may room : Bool) (source : ℕ) (next : ℕ → Result State KError)
    → (check may InvalidCapability >>= λ _. check room IllegalOperation >>= λ _. next source)
    ≡ ((check may InvalidCapability >>= λ _. check room IllegalOperation >>= λ _. Ok source) >>= next)
bound-at false room source next = refl
bound-at true false source next = refl
bound-at true true source next = refl

bound-first : (source : Result ℕ KError) (may room : ℕ → Bool) (next : ℕ → Result State KError)
    → (source >>= λ x. check (may x) InvalidCapability >>= λ _. check (room x) IllegalOperation >>= λ _. next x)
    ≡ ((source >>= λ x. check (may x) InvalidCapability >>= λ _. check (room x) IllegalOperation >>= λ _. Ok x) >>= next)
bound-first (Err e) may room next = refl
bound-first (Ok x) may room next = bound-at (may x) (room x) x next

-- ---- once nothing is bound to the line any more

pub record Unbound (s t : State) (line source : ℕ) : Type 0 where
  pub sound : IsSound t
  pub radix : t.boot_radix ≡ s.boot_radix
  pub same : capability_at t.slots source ≡ capability_at s.slots source
  pub empty : is_full t.slots (binding_slot t line) ≡ false
  pub room : depth_of t.slots source < 255

unbound : (s t : State) (line source : ℕ) → Binds s line source → delete s (binding_slot s line) ≡ Ok t → Unbound s t line source
unbound s t line source binds is =
    elim (is_full s.slots (binding_slot s line)) as (λ b. is_full s.slots (binding_slot s line) ≡ b → Unbound s t line source) [
      | true ↦ λ full.
          let leaves = deleted-leaves s t (binding_slot s line) binds.sound full is in
          record {
            sound = leaves.sound;
            radix = leaves.radix;
            same = source-same s t line source binds leaves;
            empty = line-empty s t line source binds leaves;
            room = room-still s t line source binds leaves;
          }
      | false ↦ λ free.
          let kept : delete s (binding_slot s line) ≡ Ok s = ap (λ b. if b then remove s (λ other. other == binding_slot s line) else Ok s) free in
          let same : s ≡ t = (let e : ◌≡◌ {A = Result State KError} (Ok s) (Ok t) = sym kept ∙ is in cc) in
          subst (λ (x : State). Unbound s x line source) same (record { sound = binds.sound; radix = refl; same = refl; empty = free; room = binds.room })
    ] refl

module _ (o : Tables) (slots : Slots) (memory : List ℕ) (root : Cap) (line : ℕ) (name : SlotName) where
  abbrev s : State
  s = state_of o slots memory

  abbrev source_of : Result ℕ KError
  source_of = bound_source slots root name

  abbrev put_in : ℕ → State → State
  put_in source after = with_slots after (inserted after.slots (binding_slot s line) (capability_at slots source) (Some source))

  abbrev rebind : ℕ → Result State KError
  rebind source = delete s (binding_slot s line) >>= λ after. Ok (put_in source after)

  -- nothing but the root counts of the call
  abbrev call_of : Call
  call_of = record { root = root; caller = None; slot = 0; capability = boot_root s.boot_radix }

  bind-by : (call : Call) → call.root ≡ root → bind s call line name ≡ (source_of >>= rebind)
  unfolding state_of
  bind-by call at =
      ap (λ (r : Cap). bind s (record { root = r; caller = None; slot = 0; capability = boot_root s.boot_radix }) line name) at
      ∙ bound-first (source_slot slots root name) (λ x. may_be_bound (capability_at slots x)) (λ x. nat_lt (depth_of slots x) 255) rebind

  pub bind-refused : (error : KError) → Err error ≡ source_of → (call : Call) → call.root ≡ root → bind s call line name ≡ Err error
  bind-refused error is call at = bind-by call at ∙ ap (λ (r : Result ℕ KError). r >>= rebind) (sym is)

  bind-goes_on : (source : ℕ) → source_of ≡ Ok source → (call : Call) → call.root ≡ root → bind s call line name ≡ rebind source
  bind-goes_on source is call at = bind-by call at ∙ ap (λ (r : Result ℕ KError). r >>= rebind) is

  pub bind-kept : (source slot : ℕ) (error : KError) → Ok source ≡ source_of → slot ≡ binding_slot s line → delete s slot ≡ Err error
      → (call : Call) → call.root ≡ root → bind s call line name ≡ Err error
  bind-kept source slot error is here kept call at =
      bind-goes_on source (sym is) call at
      ∙ ap (λ (r : Result State KError). r >>= λ after. Ok (put_in source after)) (ap (delete s) (sym here) ∙ kept)

  bind-passes : (source : ℕ) (t : State) → source_of ≡ Ok source → delete s (binding_slot s line) ≡ Ok t → (call : Call) → call.root ≡ root
      → bind s call line name ≡ Ok (put_in source t)
  bind-passes source t is gone call at =
      bind-goes_on source is call at ∙ ap (λ (r : Result State KError). r >>= λ after. Ok (put_in source after)) gone

  source-binds : IsSound s → IsRoot s root → line < 64 → (source : ℕ) → source_of ≡ Ok source → Binds s line source
  unfolding state_of
  source-binds sound is_root less source is =
      let one = passes-both (source_slot slots root name) _ source is in
      let two = passes-both (check (may_be_bound (capability_at slots one.value)) InvalidCapability) _ source one.rest in
      let three = passes-both (may_have_child slots one.value) _ source two.rest in
      let named = source-plain s sound.memory root name one.value is_root one.first in
      let same : one.value ≡ source = cc three.rest in
      subst (λ (x : ℕ). Binds s line x) same (record {
        sound = sound;
        less = less;
        plain = named.0;
        full = named.1;
        room = room-below s one.value three.value three.first;
        may = check-passes (may_be_bound (capability_at slots one.value)) InvalidCapability two.value two.first;
      })

  -- a source was found, and then the old binding went
  pub record IsRebinding (left : Tables) (bare : Slots) (old : List ℕ) (source slot : ℕ) : Type 0 where
    pub whole : IsWhole o slots memory
    pub is_root : IsRoot s root
    pub less : line < 64
    pub found : Ok source ≡ source_of
    pub here : slot ≡ binding_slot s line
    pub gone : delete s slot ≡ Ok (state_of left bare old)

  -- what the removal leaves, and then the insertion
  module _ (left : Tables) (bare : Slots) (old : List ℕ) (source slot : ℕ) (rebinding : IsRebinding left bare old source slot) where
    abbrev t : State
    t = state_of left bare old

    passes : source_of ≡ Ok source
    passes = sym rebinding.found

    binds : Binds s line source
    binds = source-binds rebinding.whole.sound rebinding.is_root rebinding.less source passes

    gone-there : delete s (binding_slot s line) ≡ Ok t
    gone-there = ap (delete s) (sym rebinding.here) ∙ rebinding.gone

    bare-line : Unbound s t line source
    bare-line = unbound s t line source binds gone-there

    pub slot-empty : bare slot ≡ Some empty_entry
    unfolding state_of
    slot-empty =
        let at : slot ≡ binding_slot t line = rebinding.here ∙ ap (λ (radix : ℕ). 2 ^ radix + line) (sym bare-line.radix) in
        ap bare at ∙ empty-open bare (binding_slot t line) bare-line.sound.slots.derivation (line-open t bare-line.sound.slots line rebinding.less)
        bare-line.empty

    pub source-full : IsFull bare source
    unfolding state_of
    source-full = ap (λ (c : Cap). not (is_empty c)) bare-line.same ∙ binds.full

    -- the source names what it named
    pub source-kin : (capability : Cap) → capability ≡ capability_at slots source → object_of capability ≡ object_at bare source
    unfolding state_of
    source-kin capability is = ap object_of is ∙ sym (ap object_of bare-line.same)

    pub source-room : depth_of bare source < 255
    unfolding state_of
    source-room = bare-line.room

    module _ (now : Slots) (new : List ℕ) (agreed : Agreed left bare old) (same : SameOutside bare old new)
        (is : now ≡ inserted bare slot (capability_at slots source) (Some source)) where
      child : Child bare slot source (capability_at slots source)
      unfolding state_of
      child =
          let facts = bindable (capability_at slots source) binds.may in
          record {
            empty = slot-empty;
            valid = rebinding.whole.sound.slots.derivation.valid source;
            single = facts.single;
            unmapped = facts.unmapped;
            object = ap object_named (sym bare-line.same);
          }

      put-there : with_slots t (inserted bare slot (capability_at slots source) (Some source)) ≡ put_in source t
      unfolding state_of
      put-there = ap (λ (at : ℕ). with_slots t (inserted bare at (capability_at slots source) (Some source))) rebinding.here

      pub bind-left : (call : Call) → call.root ≡ root → bind s call line name ≡ Ok (state_of left now new)
      bind-left call at =
          bind-passes source t passes gone-there call at
          ∙ ap (λ (after : State). Ok after) (sym (child-state left bare now old new slot source (capability_at slots source) agreed same child is ∙ put-there))

      pub bind-whole : IsWhole left now new
      bind-whole =
          child-whole left bare now old new slot source (capability_at slots source) agreed same child is
          (subst IsSound (sym put-there) (bind-sound s (put_in source t) call_of line name rebinding.whole.sound
          (record { root = rebinding.is_root; invoked = boot refl }) rebinding.less
          (bind-passes source t passes gone-there call_of refl)))

-- the same of a kernel that lends its parts to the checks, to the removal, and to the insertion
pub lent : {S : Type 0} (slots : S → Slots) (memory : S → List ℕ) {o left : Tables} {store bare : S} {parts kernel bare_parts after : Parts S} (root : Cap)
    (line : ℕ) (name : SlotName) (source slot : ℕ)
    → IsConsistent (state_in slots memory parts) (memory parts.store) → record { store = store; tables = o } ≡ parts
    → Standing o (slots store) (memory store) → parts ≡ kernel → record { store = bare; tables = left } ≡ bare_parts → bare_parts ≡ after
    → IsRoot (state_in slots memory kernel) root → (IsSound (state_in slots memory kernel) → line < 64)
    → Ok source ≡ bound_source (slots store) root name → slot ≡ binding_slot (state_of o (slots store) (memory store)) line
    → delete (state_in slots memory kernel) slot ≡ Ok (state_in slots memory after)
    → IsRebinding o (slots store) (memory store) root line name left (slots bare) (memory bare) source slot
lent {S} slots memory {o} {left} {store} {bare} {kernel = kernel} {after = after} root line name source slot kept is stands of bare_is bare_of is_root less
    found here gone =
    let at : record { store = store; tables = o } ≡ kernel = is ∙ of in
    let there : record { store = bare; tables = left } ≡ after = bare_is ∙ bare_of in
    let whole = whole-of slots memory o store kept is stands in
    record {
      whole = whole;
      is_root = subst (λ (k : Parts S). IsRoot (state_in slots memory k) root) (sym at) is_root;
      less = less (subst (λ (k : Parts S). IsSound (state_in slots memory k)) at whole.sound);
      found = found;
      here = here;
      gone = subst (λ (k : Parts S). delete (state_in slots memory k) slot ≡ Ok (state_of left (slots bare) (memory bare))) (sym at)
          (subst (λ (k : Parts S). delete (state_in slots memory kernel) slot ≡ Ok (state_in slots memory k)) (sym there) gone);
    }
