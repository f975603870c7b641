-- What ends with own slots is the same on both sides: what the image has is held in the boot CNode, and what was made is in pools of one thread.
use Rattle.std.proofs.Common.{ℕ, zero, suc, ◌≡◌, ◌∙◌, ◌-◌, ◌/◌, ◌^◌, ◌<◌, ◌&&◌, ◌⊎◌, inl, inr, Bool, true, false, cond, not, List, [], ◌∷◌, filter}
use Rattle.std.proofs.Common.{Option, Some, None, option_map, pow_pos, refl, sym, ap, subst, arith}
use Rattle.std.specs.Prelude.{Contains, slice_get}
use Rattle.std.specs.Option.{option_map_or}
use Rattle.std.specs.List.{list_any}
use Rattle.std.proofs.lemmas.Bool.{and_parts, false≢true}
use Rattle.std.proofs.lemmas.Option.{none-some, same_Some}
use Rattle.model.specs.declared.capabilities.Cap.{Cap}
use Rattle.model.specs.declared.capabilities.Cap.TheVariants.{Empty, Untyped, Endpoint, Notification, CNode, Frame, PageTable, Tcb, RootTable, InterruptControl}
use Rattle.model.specs.declared.capabilities.Cap.TheVariants.{InterruptHandler}
use Rattle.model.specs.declared.slot_entries.Entry.{Entry}
use Rattle.model.specs.Acceptance.Accepted.{IsAccepted}
use Rattle.model.specs.Acceptance.Authority.{IsOwnSlot}
use Rattle.model.specs.Acceptance.NotedKernel.{stands_in}
use Rattle.model.specs.Acceptance.NotedStates.{NotedSlot, SlotKey}
use Rattle.model.specs.Acceptance.ThreadRules.{reached}
use Rattle.model.specs.Capabilities.CapabilityKinds.{names_object}
use Rattle.model.specs.Capabilities.Slots.{capability_at, is_empty}
use Rattle.model.specs.Images.Described.{Numbered, described, listed_capability, numbered_threads}
use Rattle.model.specs.Images.Image.{Image, Thread}
use Rattle.model.specs.Images.Places.{cnode_slot, offset_of}
use Rattle.model.specs.Kernel.Kinds.{kind_at, kind_of}
use Rattle.model.specs.Kernel.Removal.{SlotSet, ends, some_inside, some_outside, with_bindings}
use Rattle.model.specs.Kernel.Retype.{NewObject, object_bits}
use Rattle.model.specs.Kernel.Soundness.{IsSound}
use Rattle.model.specs.Kernel.State.{State, Object, boot_area_slots}
use Rattle.removal_laws.proofs.Laws.{bool-iff, found-at, found-where, join, kind-names, object-kind}
use Rattle.soundness.proofs.Laws.{described-sound, full-near}
use Rattle.thread_spaces.proofs.Laws.{listed-shown, object-held}
use Rattle.typestate.specs.Spaces.{HeldInBoot}
use Rattle.headline.specs.facts.Standing.{IsApart}
use Rattle.headline.specs.invocations.Mirrors.{Mirrors}
use Rattle.headline.specs.kept.Laws.{HaveOwnBlocks}
use Rattle.headline.specs.parts.Agreeing.{IsMemberOf, is_own_slot}
use Rattle.headline.specs.parts.Given.{IsGivenTo, listed, made, pool, handler}
use Rattle.headline.specs.parts.Parts.{Part, alone, is_in}
use Rattle.headline.proofs.Laws.{ends-own, is-listed, other-out, own_set, stays-named}
use Rattle.part_laws.specs.Agreeing.{AgreeFor}
use Rattle.part_laws.specs.Both.{BothStand}
use Rattle.part_laws.proofs.changes.Members.{any-at, listed-from, some-passes}
use Rattle.part_laws.proofs.outside.Blocks.{found-some}
use Rattle.part_laws.proofs.outside.Places.{OwnPool, contained, own-pool, pool-owner}
use Rattle.part_laws.proofs.own_calls.removal.Left.{IsOneSide}
use Rattle.part_laws.proofs.own_steps.AloneImages.{alone-reached}
use Rattle.part_laws.proofs.starts.Start.{alone-threads, boot-slot}

-- ---- what names an object

named-full : (offset : ℕ) (c : Cap) → names_object offset c ≡ true → not (is_empty c) ≡ true
named-full offset Empty is = is
named-full offset (Untyped _ _ _) is = refl
named-full offset (Endpoint _ _ _) is = refl
named-full offset (Notification _ _ _) is = refl
named-full offset (CNode _ _ _) is = refl
named-full offset (Frame _ _ _) is = refl
named-full offset (PageTable _ _) is = refl
named-full offset (Tcb _) is = refl
named-full offset (RootTable _) is = refl
named-full offset InterruptControl is = refl
named-full offset (InterruptHandler _) is = refl

unnot : (b : Bool) → not b ≡ true → b ≡ false
unnot true is = sym is
unnot false is = refl

module _ (image : Image) (bytes : List ℕ) (accepted : IsAccepted bytes image) where
  -- what the image describes is held in its boot CNode
  described-held : (slot offset : ℕ) → names_object offset (capability_at (described image).slots slot) ≡ true → HeldInBoot image (names_object offset)
  described-held slot offset names =
      let k = object-kind (capability_at (described image).slots slot) offset names in
      by ((described image).objects offset) refl
      ((described-sound image accepted.spelled.fits accepted.formed).memory.named slot k.0 offset k.1)
    where
      by : {kind : NewObject} (o : Option Object) → (described image).objects offset ≡ o → kind_at (described image) offset ≡ Some kind
          → HeldInBoot image (names_object offset)
      by {kind} None none is = absurd (none-some kind (sym (ap (option_map kind_of) none) ∙ is))
      by {kind} (Some o) there is = object-held image accepted.spelled.fits accepted.formed offset o there

  -- and what a thread holds it was given: that, or what lies in one of its pools
  given-held : (w : Numbered) (c : Cap) (offset : ℕ) → IsGivenTo image w.thread c → names_object offset c ≡ true
      → HeldInBoot image (names_object offset) ⊎ OwnPool image w.thread offset
  given-held w c offset (listed entry is covers) names =
      let k = object-kind c offset names in
      let same : covers.offset ≡ offset =
      ap (λ (p : NewObject × ℕ). p.1) (same_Some (covers.kind, covers.offset) (k.0, offset) (sym covers.names ∙ k.1)) in
      let place = contained image.capabilities entry is.listed in
      let shown = listed-shown image accepted.spelled.fits accepted.formed place.0 entry place.1 in
      inl (described-held (cnode_slot image entry.cnode entry.index) offset
      (ap (λ (o : Option Entry). names_object offset (option_map_or (λ (e : Entry). e.capability) o Empty)) shown
      ∙ subst (λ (n : ℕ). names_object n (listed_capability image entry) ≡ true) same
      (kind-names (listed_capability image entry) covers.kind covers.offset covers.same)))
  given-held w c offset (made kind first is around) names =
      let k = object-kind c offset names in
      let same : first ≡ offset = ap (λ (p : NewObject × ℕ). p.1) (same_Some (kind, first) (k.0, offset) (sym is ∙ k.1)) in
      let size = pow_pos (object_bits kind) in
      inr (own-pool image w.thread first (2 ^ object_bits kind) offset around (omega (arith, same)) (omega (arith, same, size)))
  given-held w c offset (pool first bits watermark is around) names = absurd (false≢true (sym (ap (names_object offset) is) ∙ names))
  given-held w c offset (handler number entry is lists same) names = absurd (false≢true (sym (ap (names_object offset) same) ∙ names))

-- ---- whose a slot is

record IsOwned (image : Image) (slot : ℕ) : Type 0 where
  thread : Numbered
  listed : Contains (numbered_threads image) thread
  own : IsOwnSlot image thread.thread slot

owned-or-apart : (image : Image) (slot : ℕ) → IsOwned image slot ⊎ IsApart image slot
owned-or-apart image slot =
    let owns : Thread → Bool = λ t. list_any (stands_in image slot) (reached image t) in
    elim (list_any owns image.threads) as (λ b. list_any owns image.threads ≡ b → IsOwned image slot ⊎ IsApart image slot) [
      | true ↦ λ some.
          let of = some-passes owns image.threads some in
          let there = listed-from 0 image.threads of.place of.entry of.at in
          inl (record { thread = record { number = there.0; thread = of.entry }; listed = there.1; own = of.is })
      | false ↦ λ none. inr (λ t among own.
          let at = is-listed image t among in
          false≢true (sym none ∙ any-at owns image.threads at.number t.thread at.listed own))
    ] refl

-- what is in the list of what passes
abbrev IsAmong : {A : Type 0} → (A → Bool) → List A → A → Type 0
IsAmong test xs x = (j : ℕ) × (slice_get xs j ≡ Some x) × (test x ≡ true)

among-later : {A : Type 0} (test : A → Bool) (y : A) (ys : List A) (x : A) → IsAmong test ys x → IsAmong test (y ∷ ys) x
among-later test y ys x (j, at, passes) = (suc j, at, passes)

among-first : {A : Type 0} (test : A → Bool) (y : A) (ys : List A) (x : A) (k : ℕ) → test y ≡ true → slice_get (y ∷ filter test ys) k ≡ Some x
    → ((n : ℕ) → slice_get (filter test ys) n ≡ Some x → IsAmong test ys x) → IsAmong test (y ∷ ys) x
among-first test y ys x zero passes here further = (0, here, ap test (sym (same_Some y x here)) ∙ passes)
among-first test y ys x (suc n) passes here further = among-later test y ys x (further n here)

passed-at : {A : Type 0} (test : A → Bool) (xs : List A) (k : ℕ) (x : A) → slice_get (filter test xs) k ≡ Some x → IsAmong test xs x
passed-at test [] k x at = absurd (none-some x at)
passed-at test (y ∷ ys) k x at =
    elim (test y) as (λ b. test y ≡ b → slice_get (cond b (y ∷ filter test ys) (filter test ys)) k ≡ Some x → IsAmong test (y ∷ ys) x) [
      | true ↦ λ passes here. among-first test y ys x k passes here (λ n there. passed-at test ys n x there)
      | false ↦ λ _ here. among-later test y ys x (passed-at test ys k x here)
    ] refl at

-- a thread of the part alone is one of the part
record IsHere (image : Image) (part : Part) (w : Numbered) : Type 0 where
  thread : Numbered
  member : IsMemberOf image part thread
  same : thread.thread ≡ w.thread

here-of : (image : Image) (part : Part) (w : Numbered) → Contains (numbered_threads (alone image part)) w → IsHere image part w
here-of image part w among =
    let at = is-listed (alone image part) w among in
    let found = passed-at (is_in part) image.threads at.number w.thread
    (ap (λ (ts : List Thread). slice_get ts at.number) (sym (alone-threads image part)) ∙ at.listed) in
    let there = listed-from 0 image.threads found.0 w.thread found.1 in
    record { thread = record { number = there.0; thread = w.thread }; member = record { listed = there.1; inside = found.2 }; same = refl }

-- ---- one side

module _ (i : Image) (w : Numbered) (x : State) (slots : List NotedSlot) (m : Mirrors i w x slots) (set : SlotSet)
    (inside : (slot : ℕ) → set slot ≡ true → own_set i w slot ≡ true) where
  -- what the boot CNode holds does not end
  stays-held : (offset : ℕ) → HeldInBoot i (names_object offset) → ends x (with_bindings x set) offset ≡ false
  stays-held offset e =
      let below : e.slot < boot_area_slots i.header.boot_radix = let boot = e.boot in omega (arith, boot) in
      let room = m.stand.room in
      stays-named i w x slots m set inside offset e.slot
      (subst (λ (n : ℕ). e.slot < 2 ^ n / 16) (sym m.all.memory_bits) (omega (arith, below, room)))
      (other-out i w e.slot (λ own.
      found-some (λ (cnode : ℕ). let key : SlotKey = record { cnode = cnode; index = e.slot - cnode_slot i cnode 0 } in key) (stands_in i e.slot)
      (reached i w.thread) (m.stand.behind e.slot below) own))
      (ap (λ (o : Option Entry). names_object offset (option_map_or (λ (h : Entry). h.capability) o Empty)) (m.boot e.slot below) ∙ e.holds)

-- what one side names outside of what goes, so does the other
module _ (own set : SlotSet) (x y : State) (a : IsOneSide own set x) (b : IsOneSide own set y) (sound : IsSound x) (other_sound : IsSound y)
    (same : (slot : ℕ) → own slot ≡ true → capability_at x.slots slot ≡ capability_at y.slots slot) (offset : ℕ)
    (rest : (slot : ℕ) → own slot ≡ false → names_object offset (capability_at y.slots slot) ≡ true → names_object offset (capability_at x.slots slot) ≡ true)
  where
    abbrev here_all : SlotSet
    here_all = with_bindings x set

    abbrev there_all : SlotSet
    there_all = with_bindings y set

    near : (z : State) → IsSound z → (slot : ℕ) → names_object offset (capability_at z.slots slot) ≡ true → slot < 2 ^ z.memory_bits / 16
    near z whole slot names = full-near z whole.shape whole.slots whole.memory slot (named-full offset (capability_at z.slots slot) names)

    out-too : (slot : ℕ) → names_object offset (capability_at x.slots slot) ≡ true → there_all slot ≡ false → here_all slot ≡ false
    out-too slot names out = elim (own slot) as (λ c. own slot ≡ c → here_all slot ≡ false) [
      | true ↦ λ mine. a.own_all slot mine ∙ sym (b.own_all slot mine) ∙ out
      | false ↦ λ other. elim (here_all slot) as (λ c. here_all slot ≡ c → c ≡ false) [
        | false ↦ λ _. refl
        | true ↦ λ is. elim (a.set_or_empty slot is) [
          | inl here ↦ absurd (false≢true (sym other ∙ a.inside slot here))
          | inr empty ↦ absurd (false≢true (sym (ap (names_object offset) empty) ∙ names))
        ]
      ] refl
    ] refl

    ends-there : (slot : ℕ) → set slot ≡ true → names_object offset (capability_at x.slots slot) ≡ true → ends x (with_bindings x set) offset ≡ true
        → ends y (with_bindings y set) offset ≡ true
    ends-there slot goes names is =
        let mine = a.inside slot goes in
        let test = names_object offset in
        let names_too : test (capability_at y.slots slot) ≡ true = sym (ap test (same slot mine)) ∙ names in
        let found : some_inside y there_all test ≡ true =
        found-at y.memory_bits slot (λ n. there_all n && test (capability_at y.slots n)) (near y other_sound slot names_too)
        (join (there_all slot) (test (capability_at y.slots slot)) (b.own_all slot mine ∙ goes) names_too) in
        elim (some_outside y there_all test) as (λ c. some_outside y there_all test ≡ c → (some_inside y there_all test && not c) ≡ true) [
          | false ↦ λ _. join (some_inside y there_all test) true found refl
          | true ↦ λ some.
              let at = found-where y.memory_bits (λ n. not (there_all n) && test (capability_at y.slots n)) some in
              let parts = and_parts (not (there_all at.0)) (test (capability_at y.slots at.0)) at.1 in
              let here : test (capability_at x.slots at.0) ≡ true =
              elim (own at.0) as (λ c. own at.0 ≡ c → test (capability_at x.slots at.0) ≡ true) [
                | true ↦ λ inner. ap test (same at.0 inner) ∙ parts.1
                | false ↦ λ other. rest at.0 other parts.1
              ] refl in
              let out = out-too at.0 here (unnot (there_all at.0) parts.0) in
              let seen : some_outside x here_all test ≡ true =
              found-at x.memory_bits at.0 (λ n. not (here_all n) && test (capability_at x.slots n)) (near x sound at.0 here)
              (join (not (here_all at.0)) (test (capability_at x.slots at.0)) (ap not out) here) in
              absurd (false≢true (sym (ap not seen) ∙ (and_parts (some_inside x here_all test) (not (some_outside x here_all test)) is).1))
        ] refl

-- ---- both sides

module _ (own_blocks : HaveOwnBlocks) (image : Image) (part : Part) (s t : State) (both : BothStand image part s t) (agree : AgreeFor image part s t)
    (u v : Numbered) (member : IsMemberOf image part u) (slots others : List NotedSlot) (m : Mirrors image u s slots)
    (n : Mirrors (alone image part) v t others) (set : SlotSet) (inside : (slot : ℕ) → set slot ≡ true → own_set image u slot ≡ true)
    (inside_alone : (slot : ℕ) → set slot ≡ true → own_set (alone image part) v slot ≡ true) (a : IsOneSide (own_set image u) set s)
    (b : IsOneSide (own_set image u) set t) where
  abbrev single : Image
  single = alone image part

  same-boot : (slot : ℕ) → slot < 2 ^ image.header.boot_radix → (described image).slots slot ≡ (described single).slots slot
  same-boot slot boot = boot-slot both.bytes image both.accepted own_blocks part both.nothing slot (omega (arith, boot))

  held-alone : (test : Cap → Bool) → HeldInBoot image test → HeldInBoot single test
  unfolding alone
  held-alone test e = record {
    slot = e.slot;
    boot = e.boot;
    holds = ap (λ (o : Option Entry). test (option_map_or (λ (h : Entry). h.capability) o Empty)) (sym (same-boot e.slot e.boot)) ∙ e.holds;
  }

  held-whole : (test : Cap → Bool) → HeldInBoot single test → HeldInBoot image test
  unfolding alone
  held-whole test e = record {
    slot = e.slot;
    boot = e.boot;
    holds = ap (λ (o : Option Entry). test (option_map_or (λ (h : Entry). h.capability) o Empty)) (same-boot e.slot e.boot) ∙ e.holds;
  }

  same-held : (slot : ℕ) (w : Numbered) → IsMemberOf image part w → IsOwnSlot image w.thread slot
      → capability_at s.slots slot ≡ capability_at t.slots slot
  same-held slot w among own =
      ap (λ (o : Option Entry). option_map_or (λ (h : Entry). h.capability) o Empty) (agree.slots slot (is_own_slot w among own))

  module _ (offset : ℕ) where
    abbrev Names : State → ℕ → Type 0
    Names x slot = names_object offset (capability_at x.slots slot) ≡ true

    not-empty : (c : Cap) → names_object offset c ≡ true → c ≡ Empty → ⊥
    not-empty c names empty = false≢true (sym (ap (names_object offset) empty) ∙ names)

    gone-unheld : ends s (with_bindings s set) offset ≡ true → HeldInBoot image (names_object offset) → ⊥
    gone-unheld is held = false≢true (sym (stays-held image u s slots m set inside offset held) ∙ is)

    gone-unheld-alone : ends t (with_bindings t set) offset ≡ true → HeldInBoot image (names_object offset) → ⊥
    gone-unheld-alone is held =
        false≢true (sym (stays-held single v t others n set inside_alone offset (held-alone (names_object offset) held)) ∙ is)

    -- what the part alone names is named in the whole
    names-whole : ends s (with_bindings s set) offset ≡ true → (slot : ℕ) → Names t slot → Names s slot
    unfolding alone offset_of
    names-whole is slot names = elim (owned-or-apart single slot) [
      | inl of ↦
          let w = here-of image part of.thread of.listed in
          ap (names_object offset) (same-held slot w.thread w.member (own-here of w)) ∙ names
      | inr apart ↦ absurd (gone-unheld is (held-whole (names_object offset)
          (described-held single both.alone_bytes both.alone_accepted slot offset
          (ap (λ (o : Option Entry). names_object offset (option_map_or (λ (h : Entry). h.capability) o Empty))
          (sym (both.alone_stand.apart slot apart)) ∙ names))))
    ]
      where
        own-here : (of : IsOwned single slot) → (w : IsHere image part of.thread) → IsOwnSlot image (w.thread).thread slot
        own-here of w =
            subst (λ (x : Thread). IsOwnSlot image x slot) (sym w.same)
            (subst (λ (cnodes : List ℕ). list_any (stands_in image slot) cnodes ≡ true) (alone-reached image part (of.thread).thread) of.own)

    -- and what the whole names, in the part alone
    names-alone : ends t (with_bindings t set) offset ≡ true → (gone : ℕ) → set gone ≡ true → Names s gone → (slot : ℕ) → Names s slot → Names t slot
    names-alone is gone goes named slot names = elim (owned-or-apart image slot) [
      | inr apart ↦ absurd (gone-unheld-alone is
          (described-held image both.bytes both.accepted slot offset
          (ap (λ (o : Option Entry). names_object offset (option_map_or (λ (h : Entry). h.capability) o Empty)) (sym (both.stand.apart slot apart)) ∙ names)))
      | inl of ↦ elim (is_in part (of.thread).thread) as (λ c. is_in part (of.thread).thread ≡ c → Names t slot) [
        | true ↦ λ among.
            sym (ap (names_object offset) (same-held slot of.thread (record { listed = of.listed; inside = among }) of.own)) ∙ names
        | false ↦ λ outside. absurd (by-given of outside
            (given-held image both.bytes both.accepted of.thread (capability_at s.slots slot) offset
            (both.given of.thread slot of.listed of.own (not-empty (capability_at s.slots slot) names)) names)
            (given-held image both.bytes both.accepted u (capability_at s.slots gone) offset
            (both.given u gone member.listed (inside gone goes) (not-empty (capability_at s.slots gone) named)) named))
      ] refl
    ]
      where
        by-given : (of : IsOwned image slot) → is_in part (of.thread).thread ≡ false
            → HeldInBoot image (names_object offset) ⊎ OwnPool image (of.thread).thread offset
            → HeldInBoot image (names_object offset) ⊎ OwnPool image u.thread offset → ⊥
        by-given of outside (inl held) second = gone-unheld-alone is held
        by-given of outside (inr first) (inl held) = gone-unheld-alone is held
        by-given of outside (inr first) (inr second) =
            let one = pool-owner both.bytes image both.accepted of.thread u offset of.listed member.listed first second in
            false≢true (sym outside ∙ ap (λ (w : Numbered). is_in part w.thread) one ∙ member.inside)

    -- ---- the whole

    pub ends-same : ends s (with_bindings s set) offset ≡ ends t (with_bindings t set) offset
    ends-same =
        bool-iff (ends s (with_bindings s set) offset) (ends t (with_bindings t set) offset)
        (λ is.
        let e = ends-own image u s slots m set inside offset is in
        ends-there (own_set image u) set s t a b m.all.sound n.all.sound (λ slot own. same-held slot u member own) offset
        (λ slot other names. names-whole is slot names) e.slot e.there e.names is)
        (λ is.
        let e = ends-own single v t others n set inside_alone offset is in
        let named : Names s e.slot = ap (names_object offset) (same-held e.slot u member (inside e.slot e.there)) ∙ e.names in
        ends-there (own_set image u) set t s b a n.all.sound m.all.sound (λ slot own. sym (same-held slot u member own)) offset
        (λ slot other names. names-alone is e.slot e.there named slot names) e.slot e.there e.names is)
