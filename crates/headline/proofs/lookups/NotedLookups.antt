-- A lookup that begins at a thread's root finds what is noted.
use Rattle.std.proofs.Common.{ℕ, suc, ◌≡◌, ◌∙◌, ◌==◌, ◌+◌, ◌/◌, ◌^◌, ◌<◌, ◌&&◌, ◌||◌, Bool, true, false, not, if◌then◌else◌, Option, Some, None, List, [], ◌∷◌}
use Rattle.std.proofs.Common.{length, refl, sym, ap, arith}
use Rattle.std.specs.Prelude.{Contains}
use Rattle.std.specs.Option.{option_map_or}
use Rattle.std.specs.List.{list_any}
use Rattle.std.proofs.lemmas.Bool.{and_parts, eqb-true, false≢true, not-false, or_parts}
use Rattle.std.proofs.lemmas.Bool.Decides.{nat_tests}
use Rattle.std.proofs.lemmas.Option.{none-some, same_Some}
use Rattle.model.specs.declared.capabilities.Cap.{Cap}
use Rattle.model.specs.declared.capabilities.Cap.TheVariants.{Empty, Untyped, Endpoint, Notification, CNode, Frame, PageTable, Tcb, RootTable, InterruptControl}
use Rattle.model.specs.declared.capabilities.Cap.TheVariants.{InterruptHandler}
use Rattle.model.specs.Acceptance.Accepted.{IsWellFormed}
use Rattle.model.specs.Acceptance.Authority.{IsOwnSlot}
use Rattle.model.specs.Acceptance.NotedKernel.{noted_after, noted_root, slots_of_cnode, stands_in}
use Rattle.model.specs.Acceptance.NotedStates.{NotedSlot, PointState, SlotKey, has_stray_slots, is_foreign, is_own, is_own_cnode, is_same_key, is_stray}
use Rattle.model.specs.Acceptance.NotedStates.{leads_to_boot, notes_outside, record_of, slot_at}
use Rattle.model.specs.Acceptance.ThreadRules.{reached}
use Rattle.model.specs.Acceptance.WellFormed.{radix_of}
use Rattle.model.specs.Capabilities.CapabilityFields.{is_capability}
use Rattle.model.specs.Capabilities.Lookup.{lookup}
use Rattle.model.specs.Capabilities.Slots.{Slots, capability_at, is_within}
use Rattle.model.specs.Images.Described.{Numbered, numbered_threads}
use Rattle.model.specs.Images.Image.{Image, Thread}
use Rattle.model.specs.Images.Places.{offset_of, type_at}
use Rattle.model.specs.Kernel.State.{State}
use Rattle.typestate.specs.Spaces.{StandsApart, is_among}
use Rattle.headline.specs.lookups.Found.{FindsNoted, slots_noted}
use Rattle.headline.proofs.lookups.OwnSlots.{capability_noted, capability-noted, own-same}
use Rattle.headline.proofs.lookups.RootCNode.{root-own}
use Rattle.headline.proofs.lookups.ThreadKeys.{key-found}
use Rattle.headline.proofs.lookups.TwoLookups.{GoesSame, HoldsSame, found-own, goes-same}
use Rattle.thread_spaces.proofs.Laws.{or-second}

-- ---- the slots of an own CNode are own slots

pub within-first : (first count index : ℕ) → index < count → is_within (first + 0) count (first + index) ≡ true
within-first first count index less = grind (arith, nat_tests)

stands-there : (image : Image) (slot offset index radix cnode : ℕ) → slot ≡ offset / 16 + index → index < 2 ^ radix
    → ((offset_of image cnode == offset) && option_map_or (λ own. own == radix) (radix_of (type_at image cnode)) false) ≡ true →
    stands_in image slot cnode ≡ true
stands-there image slot offset index radix cnode is less passes =
    let parts = and_parts (offset_of image cnode == offset) (option_map_or (λ own. own == radix) (radix_of (type_at image cnode)) false) passes in
    let size : slots_of_cnode image cnode ≡ 2 ^ radix = by-radix (radix_of (type_at image cnode)) parts.1 in
    ap (λ (n : ℕ). is_within (offset_of image cnode / 16 + 0) (slots_of_cnode image cnode) n) is
    ∙ ap (λ (n : ℕ). is_within (offset_of image cnode / 16 + 0) n (offset / 16 + index)) size
    ∙ ap (λ (n : ℕ). is_within (n / 16 + 0) (2 ^ radix) (offset / 16 + index)) (eqb-true (offset_of image cnode) offset parts.0)
    ∙ within-first (offset / 16) (2 ^ radix) index less
  where
    by-radix : (found : Option ℕ) → option_map_or (λ own. own == radix) found false ≡ true → option_map_or (λ r. 2 ^ r) found 0 ≡ 2 ^ radix
    by-radix None clash = absurd (false≢true clash)
    by-radix (Some r) same = ap (λ (n : ℕ). 2 ^ n) (eqb-true r radix same)

any-passes : (one more : ℕ → Bool) → ((x : ℕ) → one x ≡ true → more x ≡ true) → (xs : List ℕ) → list_any one xs ≡ true → list_any more xs ≡ true
any-passes one more passes [] some = some
any-passes one more passes (x ∷ rest) some = elim (one x) as (λ b. one x ≡ b → (b || list_any one rest) ≡ true → (more x || list_any more rest) ≡ true) [
  | true ↦ λ is _. ap (λ b. b || list_any more rest) (passes x is)
  | false ↦ λ _ later. or-second (more x) (list_any more rest) (any-passes one more passes rest later)
] refl some

pub slot-own : (image : Image) (t : Thread) (offset radix index : ℕ) → is_own_cnode image (reached image t) offset radix ≡ true → index < 2 ^ radix
    → IsOwnSlot image t (offset / 16 + index)
slot-own image t offset radix index own less =
    any-passes (λ c. (offset_of image c == offset) && option_map_or (λ own. own == radix) (radix_of (type_at image c)) false)
    (stands_in image (offset / 16 + index))
    (λ cnode passes. stands-there image (offset / 16 + index) offset index radix cnode refl less passes) (reached image t) own

-- ---- what is noted leads to no other CNode

pub passes-not : (test : NotedSlot → Bool) (slots : List NotedSlot) (key : SlotKey) (s : NotedSlot) → list_any test slots ≡ false → slot_at slots key ≡ Some s →
    test s ≡ false
passes-not test [] key s none found = absurd (none-some s found)
passes-not test (r ∷ rest) key s none found =
    let parts = or_parts (test r) (list_any test rest) none in
    elim (is_same_key r.key key) as (λ b. (if b then Some r else slot_at rest key) ≡ Some s → test s ≡ false) [
      | true ↦ λ here. ap test (sym (same_Some r s here)) ∙ parts.0
      | false ↦ λ later. passes-not test rest key s parts.1 later
    ] found

pub home-inside : (image : Image) (t : Thread) (c : Cap) → is_foreign image t (reached image t) c ≡ false →
    is_among (is_own_cnode image (reached image t)) c ≡ true
home-inside image t Empty is = refl
home-inside image t (Untyped _ _ _) is = refl
home-inside image t (Endpoint _ _ _) is = refl
home-inside image t (Notification _ _ _) is = refl
home-inside image t (CNode offset radix guard) is = not-false (is_own_cnode image (reached image t) offset radix) is
home-inside image t (Frame _ _ _) is = refl
home-inside image t (PageTable _ _) is = refl
home-inside image t (Tcb _) is = refl
home-inside image t (RootTable _) is = refl
home-inside image t InterruptControl is = refl
home-inside image t (InterruptHandler _) is = refl

none-stray : (image : Image) (t : Thread) (point : ℕ) (state : PointState) → has_stray_slots image t point state ≡ false
    → list_any (is_stray image t (reached image t) state.slots) state.slots ≡ false
unfolding has_stray_slots
none-stray image t point state none =
    let cnodes = reached image t in
    (or_parts (list_any (is_stray image t cnodes state.slots) state.slots) (option_map_or (notes_outside image cnodes) (record_of t point) false) none).0

not-foreign : (image : Image) (t : Thread) (slots : List NotedSlot) (s : NotedSlot) → is_stray image t (reached image t) slots s ≡ false
    → is_foreign image t (reached image t) s.capability ≡ false
not-foreign image t slots s home =
    let cnodes = reached image t in
    let foreign = is_foreign image t cnodes s.capability in
    let no_words = not (is_capability s.capability) in
    let a = or_parts (not (is_own image cnodes s.key) || foreign || no_words) (not (leads_to_boot (length slots) slots s.parent)) home in
    let b = or_parts (not (is_own image cnodes s.key) || foreign) no_words a.0 in
    (or_parts (not (is_own image cnodes s.key)) foreign b.0).1

noted-inside : (image : Image) (t : Thread) (slots : List NotedSlot) (key : SlotKey) → list_any (is_stray image t (reached image t) slots) slots ≡ false
    → is_among (is_own_cnode image (reached image t)) (capability_noted (slot_at slots key)) ≡ true
noted-inside image t slots key none =
    elim (slot_at slots key) as (λ o. slot_at slots key ≡ o → is_among (is_own_cnode image (reached image t)) (capability_noted o) ≡ true) [
      | None ↦ λ _. refl
      | Some s ↦ λ found. home-inside image t s.capability
          (not-foreign image t slots s (passes-not (is_stray image t (reached image t) slots) slots key s none found))
    ] refl

-- ---- lookups

module _ (image : Image) (t : Numbered) (stand : StandsApart image t.thread) (s : State) (point : ℕ) (state : PointState)
    (same : noted_after image t.thread s.slots ≡ state.slots)
    (none : has_stray_slots image t.thread point state ≡ false) where
  abbrev noted : Slots
  noted = slots_noted image t state.slots

  abbrev own_cnode : ℕ → ℕ → Bool
  own_cnode = is_own_cnode image (reached image t.thread)

  holds-same : (offset radix index : ℕ) → own_cnode offset radix ≡ true → index < 2 ^ radix →
      HoldsSame s.slots noted own_cnode (IsOwnSlot image t.thread) (offset / 16 + index)
  holds-same offset radix index mine less =
      let slot = offset / 16 + index in
      let own : IsOwnSlot image t.thread slot = slot-own image t.thread offset radix index mine less in
      let of = key-found image (reached image t.thread) slot own in
      let held : capability_at s.slots slot ≡ capability_at noted slot = own-same image t stand s.slots state.slots same slot own in
      record {
        is_own = own;
        same = held;
        inside = ap (is_among own_cnode) (held ∙ capability-noted image t state.slots slot of)
            ∙ noted-inside image t.thread state.slots of.key (none-stray image t.thread point state none);
      }

  -- a lookup that begins at one of the thread's CNodes
  pub goes-noted : (root : Cap) (address depth : ℕ) → is_among own_cnode root ≡ true
      → GoesSame (IsOwnSlot image t.thread) (lookup s.slots root address depth) (lookup noted root address depth)
  goes-noted root address depth inside = goes-same s.slots noted own_cnode (IsOwnSlot image t.thread) holds-same address (suc depth) root depth inside

  pub finds-noted : IsWellFormed image → Contains (numbered_threads image) t → (address depth : ℕ) → FindsNoted image t s state.slots address depth
  finds-noted formed listed address depth =
      let goes = goes-noted (noted_root image t.thread) address depth (root-own image t formed listed) in
      record {
        same = goes.result;
        own = λ found is. found-own (IsOwnSlot image t.thread) _ found goes.finds is;
      }
