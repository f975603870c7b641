-- What each change of the memory makes of the slots that it packs.
use Rattle.std.proofs.Common.{ℕ, ◌≡◌, ◌≢◌, ◌∙◌, ◌+◌, ◌*◌, ◌%◌, ◌^◌, ◌<◌, ◌≤◌, inl, inr, Bool, true, false, if◌then◌else◌, Option, Some, None, List, [], ◌∷◌}
use Rattle.std.proofs.Common.{length, refl, sym, ap, subst, arith}
use Rattle.std.proofs.lemmas.Bool.Decides.{eqb_tells}
use Rattle.model.proofs.Depths.{depth-none}
use Rattle.model.specs.Capabilities.CapabilityKinds.{object_of}
use Rattle.model.specs.Capabilities.CapabilityWords.{IsCapability, words_of}
use Rattle.model.specs.Capabilities.Slots.{IsFull, SameOutside, Slots, closed, depth_of, depth_within, empty_entry, inserted, is_full, is_within, opened}
use Rattle.model.specs.Capabilities.Slots.{parent_at, recapped, relocated, spliced}
use Rattle.model.specs.Kernel.State.{put}
use Rattle.model.specs.Shared.Lists.{without}
use Rattle.model.specs.declared.capabilities.Cap.{Cap}
use Rattle.model.specs.declared.capabilities.Cap.TheVariants.{Empty, Untyped, Endpoint, Notification, CNode, Frame, PageTable, Tcb, RootTable, InterruptControl}
use Rattle.model.specs.declared.capabilities.Cap.TheVariants.{InterruptHandler}
use Rattle.slots.proofs.Laws.{depth-rows, none-without, slots-taken_out}
use Rattle.slots.specs.Kin.{IsKin, object_at}
use Rattle.slots.specs.preorder.Chains.{put_at}
use Rattle.slots.specs.preorder.Preorder.{Row, first_row, put_behind, renamed, slots_of, taken_out}
use Rattle.packed_slots.specs.Packing.{IsChanged, IsPacked, IsPackedAs, Packed, head_of, is_open_in, packed_order, packed_rows, packed_slots, packing, slots_as}
use Rattle.packed_slots.specs.Packing.{tail_of}
use Rattle.packed_slots.specs.Words.{Words, blanked, first_without, linked_behind, linked_first, lowered_memory, unlinked, with_cap, word_of, words_in}
use Rattle.packed_slots.proofs.Beside.{closed-behind, closed-blanked, closed-cap, closed-first, closed-lowered, closed-then, closed-unlinked, outside-from}
use Rattle.packed_slots.proofs.Beside.{size-cap}
use Rattle.packed_slots.proofs.Inserting.{IsPut, behind-packs, behind-slots, behind_words, empty-not-full, first-packs, first-slots, first_words, put-here}
use Rattle.packed_slots.proofs.Inserting.{put-off}
use Rattle.packed_slots.proofs.Keeping.{capped-packs, capped-slots, capped_words, closed-packs, closed-slots, opened-packs, opened-slots}
use Rattle.packed_slots.proofs.Moving.{move-packs, move-slots, moved_words}
use Rattle.packed_slots.proofs.PackedFacts.{few-packed, first-open, full-row, next-open, open-from, open-full, open-near, packed-from, parent-as, previous-open}
use Rattle.packed_slots.proofs.PackedFacts.{row-open, rows-found, slots-from}
use Rattle.packed_slots.proofs.Splicing.{lowered_words, splice-packs, splice-slots, unlinked_words}
use Rattle.packed_slots.proofs.WordWrites.{depth-small, size-behind, size-blanked, size-first, size-lowered, size-unlinked, words-behind, words-blanked}
use Rattle.packed_slots.proofs.WordWrites.{words-cap, words-first, words-lowered, words-unlinked, zeroed}

-- ---- what holds of slots that are packed

abbrev pub words_of_slots : Packed → Words
words_of_slots p = words_in p.memory

pub inside : (p : Packed) (s : ℕ) → IsPacked p → is_open_in p.open_slots s ≡ true → 16 * (s + 1) ≤ length p.memory
inside p s is there = omega (arith, open-near p.open_slots s there, is.long)

pub near : (p : Packed) (s : ℕ) → IsPacked p → is_open_in p.open_slots s ≡ true → s < 2 ^ 20
near p s is there = omega (arith, open-near p.open_slots s there, is.few)

pub whole : (p : Packed) → IsPacked p → length p.memory % 16 ≡ 0
whole p is = omega (arith, is.long)

-- the same of bytes of that length
pub inside-as : (p : Packed) (s : ℕ) (m : List ℕ) → IsPacked p → is_open_in p.open_slots s ≡ true → length m ≡ length p.memory → 16 * (s + 1) ≤ length m
inside-as p s m is there size = subst (λ n. 16 * (s + 1) ≤ n) (sym size) (inside p s is there)

pub whole-as : (p : Packed) (m : List ℕ) → IsPacked p → length m ≡ length p.memory → length m % 16 ≡ 0
whole-as p m is size = ap (λ n. n % 16) size ∙ whole p is

pub few-as : (p : Packed) (m : List ℕ) → IsPacked p → length m ≡ length p.memory → length m ≤ 2 ^ 24
few-as p m is size = omega (arith, is.long, is.few)

pub empty-open : (p : Packed) (s : ℕ) → packed_slots p s ≡ Some empty_entry → is_open_in p.open_slots s ≡ true
empty-open p s is = open-from (words_in p.memory) p.open_slots (packed_rows p) s empty_entry is

pub full-open : (p : Packed) (s : ℕ) → is_full (packed_slots p) s ≡ true → is_open_in p.open_slots s ≡ true
full-open p s full = open-full (words_in p.memory) p.open_slots (packed_rows p) s full

pub next-there : (p : Packed) (s n : ℕ) → IsPacked p → is_full (packed_slots p) s ≡ true → (words_in p.memory).next s ≡ Some n →
    is_open_in p.open_slots n ≡ true
next-there p s n is full same =
    next-open (words_in p.memory) p.open_slots p.first (packed_rows p) s n is.packed
    (omega (arith, full-row (words_in p.memory) p.open_slots p.first (packed_rows p) s is.packed full)) same

pub previous-there : (p : Packed) (s n : ℕ) → IsPacked p → is_full (packed_slots p) s ≡ true → (words_in p.memory).previous s ≡ Some n →
    is_open_in p.open_slots n ≡ true
previous-there p s n is full same =
    previous-open (words_in p.memory) p.open_slots p.first (packed_rows p) s n is.packed
    (omega (arith, full-row (words_in p.memory) p.open_slots p.first (packed_rows p) s is.packed full)) same

pub first-there : (p : Packed) (n : ℕ) → IsPacked p → p.first ≡ Some n → is_open_in p.open_slots n ≡ true
first-there p n is same = first-open (words_in p.memory) p.open_slots p.first (packed_rows p) n is.packed same

-- the depth of an open slot is the one that its word has
pub depth-full : (p : Packed) (s : ℕ) → IsPacked p → is_full (packed_slots p) s ≡ true → depth_of (packed_slots p) s ≡ (words_in p.memory).depth s
depth-full p s is full =
    let w = words_in p.memory in
    let rows = packed_rows p in
    ap (λ (f : ℕ → Option ℕ). depth_within 256 f s) (λ i x. parent-as w p.open_slots p.first rows x is.packed i)
    ∙ depth-rows 256 rows w.depth s is.packed.linked.rises is.packed.linked.deep
    (omega (arith, full-row w p.open_slots p.first rows s is.packed full)) (omega (arith, depth-small (word_of p.memory s 2)))

pub depth-open : (p : Packed) (s : ℕ) → IsPacked p → is_open_in p.open_slots s ≡ true → depth_of (packed_slots p) s ≡ (words_in p.memory).depth s
depth-open p s is there =
    elim (is_full (packed_slots p) s) as (λ b. is_full (packed_slots p) s ≡ b → depth_of (packed_slots p) s ≡ (words_in p.memory).depth s) [
      | true ↦ λ full. depth-full p s is full
      | false ↦ λ empty.
          depth-none 256 (parent_at (packed_slots p)) s (parent-as (words_in p.memory) p.open_slots p.first (packed_rows p) s is.packed
          ∙ none-without (packed_rows p) (λ i. None) s (is.packed.listed s ∙ ap (λ b. if b then 1 else 0) empty))
          ∙ sym (is.packed.blank s there empty)
    ] refl

-- ---- what changes leave

pub changed-from : (p q : Packed) (w : Words) (rows : List Row) (slots : Slots) → 16 * length q.open_slots ≡ length q.memory → length q.open_slots ≤ 2 ^ 20
    → words_in q.memory ≡ w → IsPackedAs w q.open_slots q.first rows → slots_as w q.open_slots rows ≡ slots
    → SameOutside (packed_slots p) p.memory q.memory → IsChanged p q slots
changed-from p q w rows slots long few is packed holds bytes =
    let packed' = subst (λ (v : Words). IsPackedAs v q.open_slots q.first rows) (sym is) packed in
    record {
      packed = packed-from q rows long few packed';
      holds = slots-from q rows slots packed' (ap (λ (v : Words). slots_as v q.open_slots rows) is ∙ holds);
      bytes = bytes;
    }

pub order-from : (q : Packed) (w : Words) (rows : List Row) → words_in q.memory ≡ w → IsPackedAs w q.open_slots q.first rows → packed_order q ≡ slots_of rows
order-from q w rows is packed = ap slots_of (rows-found q rows (subst (λ (v : Words). IsPackedAs v q.open_slots q.first rows) (sym is) packed))

-- the words of a capability are two
pub two-words : (capability : Cap) → head_of capability ∷ tail_of capability ∷ [] ≡ words_of capability
two-words Empty = refl
two-words (Untyped _ _ _) = refl
two-words (Endpoint _ _ _) = refl
two-words (Notification _ _ _) = refl
two-words (CNode _ _ _) = refl
two-words (Frame _ _ None) = refl
two-words (Frame _ _ (Some _)) = refl
two-words (PageTable _ None) = refl
two-words (PageTable _ (Some _)) = refl
two-words (Tcb _) = refl
two-words (RootTable _) = refl
two-words InterruptControl = refl
two-words (InterruptHandler _) = refl

-- ---- a capability is put into an empty slot

put-facts : (p : Packed) (slot : ℕ) (capability : Cap) → IsPacked p → packed_slots p slot ≡ Some empty_entry → IsCapability capability → capability ≢ Empty
    → IsPut (words_in p.memory) p.open_slots p.first (packed_rows p) slot capability (head_of capability) (tail_of capability)
put-facts p slot capability is empty valid some = record { packed = is.packed; empty = empty; valid = valid; some = some; words = two-words capability }

pub inserted_behind : (p : Packed) (slot parent : ℕ) (capability : Cap) → IsPacked p → packed_slots p slot ≡ Some empty_entry → IsCapability capability →
    capability ≢ Empty
    → IsFull (packed_slots p) parent → depth_of (packed_slots p) parent < 255 → IsKin (packed_slots p) capability (Some parent) → head_of capability < 2 ^ 32 →
    tail_of capability < 2 ^ 32
    → IsChanged p (packing (linked_behind (with_cap p.memory slot (head_of capability) (tail_of capability)) parent slot ((words_in p.memory).depth parent + 1))
    p.open_slots p.first)
    (inserted (packed_slots p) slot capability (Some parent))
inserted_behind p slot parent capability is empty valid some full room kin fits fits' =
    let m = p.memory in
    let w = words_in m in
    let h = head_of capability in
    let t = tail_of capability in
    let one = with_cap m slot h t in
    let d = w.depth parent + 1 in
    let two = linked_behind one parent slot d in
    let own = open-from w p.open_slots (packed_rows p) slot empty_entry empty in
    let above = full-open p parent full in
    let size = size-cap m slot h t (inside p slot is own) in
    let capped = words-cap m slot h t (inside p slot is own) fits fits' in
    let link : (words_in one).next parent ≡ w.next parent = ap (λ (v : Words). v.next parent) capped in
    let near' : (s : ℕ) → (words_in one).next parent ≡ Some s → is_open_in p.open_slots s ≡ true = λ s same. next-there p parent s is full (sym link ∙ same) in
    let inside' : (s : ℕ) → is_open_in p.open_slots s ≡ true → 16 * (s + 1) ≤ length one = λ s there. omega (arith, inside p s is there, size) in
    let small : d < 256 = omega (arith, room, depth-full p parent is full) in
    let size' : length two ≡ length one = size-behind one parent slot d (inside' parent above) (inside' slot own) (λ s same. inside' s (near' s same)) in
    let facts = put-facts p slot capability is empty valid some in
    changed-from p (packing two p.open_slots p.first) (behind_words w parent slot h t d) (put_behind parent slot (packed_rows p))
    (inserted (packed_slots p) slot capability (Some parent))
    (is.long ∙ sym (size' ∙ size)) is.few
    (words-behind one parent slot d (inside' parent above) (inside' slot own) (λ s same. inside' s (near' s same)) (near p parent is above) (near p slot is own)
    small
    ∙ ap (λ (v : Words). record v {
      next = put (put v.next parent (Some slot)) slot (v.next parent);
      depth = put v.depth slot d;
      previous = put (put_at v.previous (v.next parent) (Some slot)) slot (Some parent);
    }) capped)
    (behind-packs w p.open_slots p.first (packed_rows p) parent slot capability h t facts full room kin)
    (behind-slots w p.open_slots p.first (packed_rows p) parent slot capability h t facts full)
    (outside-from w p.open_slots (packed_rows p) m two (size' ∙ size)
    (closed-then p.open_slots m one two (closed-cap p.open_slots m slot h t own (inside p slot is own))
    (closed-behind p.open_slots one parent slot d above own near' (inside' parent above) (inside' slot own) (λ s same. inside' s (near' s same)))))

pub inserted_first : (p : Packed) (slot : ℕ) (capability : Cap) → IsPacked p → packed_slots p slot ≡ Some empty_entry → IsCapability capability →
    capability ≢ Empty
    → IsKin (packed_slots p) capability None → head_of capability < 2 ^ 32 → tail_of capability < 2 ^ 32
    → IsChanged p (packing (linked_first (with_cap p.memory slot (head_of capability) (tail_of capability)) p.first slot) p.open_slots (Some slot))
    (inserted (packed_slots p) slot capability None)
inserted_first p slot capability is empty valid some kin fits fits' =
    let m = p.memory in
    let w = words_in m in
    let h = head_of capability in
    let t = tail_of capability in
    let one = with_cap m slot h t in
    let two = linked_first one p.first slot in
    let own = open-from w p.open_slots (packed_rows p) slot empty_entry empty in
    let size = size-cap m slot h t (inside p slot is own) in
    let capped = words-cap m slot h t (inside p slot is own) fits fits' in
    let inside' : (s : ℕ) → is_open_in p.open_slots s ≡ true → 16 * (s + 1) ≤ length one = λ s there. omega (arith, inside p s is there, size) in
    let size' : length two ≡ length one = size-first one p.first slot (inside' slot own) (λ s same. inside' s (first-there p s is same)) in
    let facts = put-facts p slot capability is empty valid some in
    changed-from p (packing two p.open_slots (Some slot)) (first_words w p.first slot h t) (first_row slot ∷ packed_rows p)
    (inserted (packed_slots p) slot capability None)
    (is.long ∙ sym (size' ∙ size)) is.few
    (words-first one p.first slot (inside' slot own) (λ s same. inside' s (first-there p s is same)) (λ s same. near p s is (first-there p s is same))
    (near p slot is own)
    ∙ ap (λ (v : Words). record v {
      next = put v.next slot p.first;
      depth = put v.depth slot 0;
      previous =
          put (put_at v.previous p.first (Some slot)) slot None;
    }) capped)
    (first-packs w p.open_slots p.first (packed_rows p) slot capability h t facts kin)
    (first-slots w p.open_slots p.first (packed_rows p) slot capability h t facts)
    (outside-from w p.open_slots (packed_rows p) m two (size' ∙ size)
    (closed-then p.open_slots m one two (closed-cap p.open_slots m slot h t own (inside p slot is own))
    (closed-first p.open_slots one p.first slot own (λ s same. first-there p s is same) (inside' slot own) (λ s same. inside' s (first-there p s is same)))))

-- ---- a slot is taken out

abbrev pub spliced_memory : Packed → ℕ → List ℕ
spliced_memory p gone = unlinked (lowered_memory ((words_in p.memory).depth gone) (length p.open_slots) ((words_in p.memory).next gone) p.memory) gone

abbrev pub spliced_packing : Packed → ℕ → Packed
spliced_packing p gone =
    packing (spliced_memory p gone) p.open_slots (first_without ((words_in p.memory).previous gone) ((words_in p.memory).next gone) p.first)

spliced-words : (p : Packed) (gone : ℕ) → IsPacked p → is_full (packed_slots p) gone ≡ true
    → words_in (spliced_memory p gone) ≡ unlinked_words (lowered_words (words_in p.memory) gone (length p.open_slots)) gone
spliced-words p gone is full =
    let m = p.memory in
    let w = words_in m in
    let n = length p.open_slots in
    let one = lowered_memory (w.depth gone) n (w.next gone) m in
    let lowered = words-lowered (w.depth gone) n (w.next gone) m (whole p is) in
    let size = size-lowered (w.depth gone) n (w.next gone) m (whole p is) in
    let inside' : (s : ℕ) → is_open_in p.open_slots s ≡ true → 16 * (s + 1) ≤ length one = λ s there. omega (arith, inside p s is there, size) in
    words-unlinked one gone (inside' gone (full-open p gone full))
    (λ s same. inside' s (next-there p gone s is full (sym (ap (λ (v : Words). v.next gone) lowered) ∙ same)))
    (λ s same. inside' s (previous-there p gone s is full (sym (ap (λ (v : Words). v.previous gone) lowered) ∙ same)))
    ∙ ap (λ (v : Words). unlinked_words v gone) lowered

pub spliced_out : (p : Packed) (gone : ℕ) → IsPacked p → IsFull (packed_slots p) gone → IsChanged p (spliced_packing p gone) (spliced (packed_slots p) gone)
spliced_out p gone is full =
    let m = p.memory in
    let w = words_in m in
    let n = length p.open_slots in
    let o = p.open_slots in
    let rows = packed_rows p in
    let one = lowered_memory (w.depth gone) n (w.next gone) m in
    let two = spliced_memory p gone in
    let lowered = words-lowered (w.depth gone) n (w.next gone) m (whole p is) in
    let size = size-lowered (w.depth gone) n (w.next gone) m (whole p is) in
    let own = full-open p gone full in
    let inside' : (s : ℕ) → is_open_in o s ≡ true → 16 * (s + 1) ≤ length one = λ s there. omega (arith, inside p s is there, size) in
    let next' : (s : ℕ) → (words_in one).next gone ≡ Some s → is_open_in o s ≡ true =
    λ s same. next-there p gone s is full (sym (ap (λ (v : Words). v.next gone) lowered) ∙ same) in
    let previous' : (s : ℕ) → (words_in one).previous gone ≡ Some s → is_open_in o s ≡ true =
    λ s same. previous-there p gone s is full (sym (ap (λ (v : Words). v.previous gone) lowered) ∙ same) in
    let size' : length two ≡ length one = size-unlinked one gone (inside' gone own) (λ s same. inside' s (next' s same))
    (λ s same. inside' s (previous' s same)) in
    let few = few-packed p is in
    changed-from p (spliced_packing p gone) (unlinked_words (lowered_words w gone n) gone) (taken_out gone rows) (spliced (packed_slots p) gone)
    (is.long ∙ sym (size' ∙ size)) is.few (spliced-words p gone is full)
    (splice-packs w o p.first rows gone n is.packed full few)
    (splice-slots w o p.first rows gone n is.packed full few)
    (outside-from w o rows m two (size' ∙ size)
    (closed-then o m one two
    (closed-lowered rows o w.previous None m (w.depth gone) n gone (whole p is) is.packed.linked.chain
    (λ s there. row-open w o p.first rows s is.packed there) (omega (arith, full-row w o p.first rows gone is.packed full)))
    (closed-unlinked o one gone own next' previous' (inside' gone own) (λ s same. inside' s (next' s same)) (λ s same. inside' s (previous' s same)))))

pub spliced_order : (p : Packed) (gone : ℕ) → IsPacked p → IsFull (packed_slots p) gone → packed_order (spliced_packing p gone) ≡ without gone (packed_order p)
spliced_order p gone is full =
    let w = words_in p.memory in
    order-from (spliced_packing p gone) (unlinked_words (lowered_words w gone (length p.open_slots)) gone) (taken_out gone (packed_rows p))
    (spliced-words p gone is full)
    (splice-packs w p.open_slots p.first (packed_rows p) gone (length p.open_slots) is.packed full (few-packed p is))
    ∙ slots-taken_out (packed_rows p) gone (is.packed.linked.once gone)

-- ---- a slot is moved

abbrev pub behind_memory : Packed → ℕ → ℕ → List ℕ
behind_memory p from to =
    linked_behind (with_cap p.memory to ((words_in p.memory).head from) ((words_in p.memory).tail from)) from to ((words_in p.memory).depth from)

abbrev pub moved_packing : Packed → ℕ → ℕ → Packed
moved_packing p from to =
    packing (unlinked (behind_memory p from to) from) p.open_slots
    (first_without ((words_in (behind_memory p from to)).previous from) ((words_in (behind_memory p from to)).next from) p.first)

apart-from : (p : Packed) (from to : ℕ) → is_full (packed_slots p) from ≡ true → packed_slots p to ≡ Some empty_entry → from ≢ to
apart-from p from to full empty same =
    absurd (let clash : true ≡ false = sym full ∙ ap (is_full (packed_slots p)) same ∙ empty-not-full (packed_slots p) to empty in cc)

moved-next : (p : Packed) (from to s : ℕ) → IsPacked p → is_full (packed_slots p) from ≡ true → packed_slots p to ≡ Some empty_entry
    → (moved_words (words_in p.memory) from to).next from ≡ Some s → is_open_in p.open_slots s ≡ true
moved-next p from to s is full empty same =
    let w = words_in p.memory in
    let apart = apart-from p from to full empty in
    let link : (moved_words w from to).next from ≡ Some to =
    put-off (put w.next from (Some to)) to from (w.next from) apart ∙ put-here w.next from from (Some to) refl in
    let at : to ≡ s = (let e : Some to ≡ Some s = sym link ∙ same in cc) in
    ap (is_open_in p.open_slots) (sym at) ∙ open-from w p.open_slots (packed_rows p) to empty_entry empty

moved-previous : (p : Packed) (from to s : ℕ) → IsPacked p → is_full (packed_slots p) from ≡ true → packed_slots p to ≡ Some empty_entry
    → (moved_words (words_in p.memory) from to).previous from ≡ Some s → is_open_in p.open_slots s ≡ true
moved-previous p from to s is full empty same =
    let w = words_in p.memory in
    let apart = apart-from p from to full empty in
    let first : (moved_words w from to).previous from ≡ put_at w.previous (w.next from) (Some to) from =
    put-off (put_at w.previous (w.next from) (Some to)) to from (Some from) apart in
    elim (w.next from) as (λ o. w.next from ≡ o → is_open_in p.open_slots s ≡ true) [
      | None ↦ λ none.
          previous-there p from s is full (sym (first ∙ ap (λ o. put_at w.previous o (Some to) from) none) ∙ same)
      | Some n ↦ λ some.
          elim (eqb_tells from n) [
            | inl here ↦
                (let at : to ≡ s = (let e : Some to ≡ Some s =
                sym (first ∙ ap (λ o. put_at w.previous o (Some to) from) some ∙ put-here w.previous n from (Some to) here.1)
                ∙ same in cc) in
                ap (is_open_in p.open_slots) (sym at) ∙ open-from w p.open_slots (packed_rows p) to empty_entry empty)
            | inr off ↦
                previous-there p from s is full (sym (first ∙ ap (λ o. put_at w.previous o (Some to) from) some ∙ put-off w.previous n from (Some to) off.1)
                ∙ same)
          ]
    ] refl

pub moved : (p : Packed) (from to : ℕ) → IsPacked p → IsFull (packed_slots p) from → packed_slots p to ≡ Some empty_entry
    → (words_in p.memory).head from < 2 ^ 32 → (words_in p.memory).tail from < 2 ^ 32
    → IsChanged p (moved_packing p from to) (relocated (packed_slots p) from to)
moved p from to is full empty fits fits' =
    let m = p.memory in
    let w = words_in m in
    let o = p.open_slots in
    let rows = packed_rows p in
    let h = w.head from in
    let t = w.tail from in
    let d = w.depth from in
    let one = with_cap m to h t in
    let two = behind_memory p from to in
    let three = unlinked two from in
    let own = open-from w o rows to empty_entry empty in
    let from-there = full-open p from full in
    let size = size-cap m to h t (inside p to is own) in
    let capped = words-cap m to h t (inside p to is own) fits fits' in
    let near' : (s : ℕ) → (words_in one).next from ≡ Some s → is_open_in o s ≡ true = λ s same.
    next-there p from s is full (sym (ap (λ (v : Words). v.next from) capped) ∙ same) in
    let inside' : (s : ℕ) → is_open_in o s ≡ true → 16 * (s + 1) ≤ length one = λ s there. omega (arith, inside p s is there, size) in
    let size' : length two ≡ length one = size-behind one from to d (inside' from from-there) (inside' to own) (λ s same. inside' s (near' s same)) in
    let behind : words_in two ≡ moved_words w from to =
    words-behind one from to d (inside' from from-there) (inside' to own) (λ s same. inside' s (near' s same)) (near p from is from-there) (near p to is own)
    (depth-small (word_of m from 2))
    ∙ ap (λ (v : Words). record v {
      next = put (put v.next from (Some to)) to (v.next from);
      depth = put v.depth to d;
      previous = put (put_at v.previous (v.next from) (Some to)) to (Some from);
    }) capped in
    let inside'' : (s : ℕ) → is_open_in o s ≡ true → 16 * (s + 1) ≤ length two = λ s there. omega (arith, inside' s there, size') in
    let after : (s : ℕ) → (words_in two).next from ≡ Some s → is_open_in o s ≡ true =
    λ s same. moved-next p from to s is full empty (sym (ap (λ (v : Words). v.next from) behind) ∙ same) in
    let before : (s : ℕ) → (words_in two).previous from ≡ Some s → is_open_in o s ≡ true =
    λ s same. moved-previous p from to s is full empty (sym (ap (λ (v : Words). v.previous from) behind) ∙ same) in
    let size'' : length three ≡ length two = size-unlinked two from (inside'' from from-there) (λ s same. inside'' s (after s same))
    (λ s same. inside'' s (before s same)) in
    changed-from p (moved_packing p from to) (unlinked_words (moved_words w from to) from) (renamed from to rows) (relocated (packed_slots p) from to)
    (is.long ∙ sym (size'' ∙ size' ∙ size)) is.few
    (words-unlinked two from (inside'' from from-there) (λ s same. inside'' s (after s same)) (λ s same. inside'' s (before s same))
    ∙ ap (λ (v : Words). unlinked_words v from) behind)
    (subst (λ (v : Words). IsPackedAs (unlinked_words (moved_words w from to) from) o (first_without (v.previous from) (v.next from) p.first)
    (renamed from to rows)) (sym behind)
    (move-packs w o p.first rows from to is.packed full empty))
    (move-slots w o p.first rows from to is.packed full empty)
    (outside-from w o rows m three (size'' ∙ size' ∙ size)
    (closed-then o m one three (closed-cap o m to h t own (inside p to is own))
    (closed-then o one two three
    (closed-behind o one from to d from-there own near' (inside' from from-there) (inside' to own) (λ s same. inside' s (near' s same)))
    (closed-unlinked o two from from-there after before (inside'' from from-there) (λ s same. inside'' s (after s same))
    (λ s same. inside'' s (before s same))))))

-- ---- the list stays

pub recapped_in : (p : Packed) (slot : ℕ) (capability : Cap) → IsPacked p → IsFull (packed_slots p) slot → IsCapability capability → capability ≢ Empty
    → object_of capability ≡ object_at (packed_slots p) slot → head_of capability < 2 ^ 32 → tail_of capability < 2 ^ 32
    → IsChanged p (packing (with_cap p.memory slot (head_of capability) (tail_of capability)) p.open_slots p.first) (recapped (packed_slots p) slot capability)
    × (packed_order (packing (with_cap p.memory slot (head_of capability) (tail_of capability)) p.open_slots p.first) ≡ packed_order p)
recapped_in p slot capability is full valid some alike fits fits' =
    let m = p.memory in
    let w = words_in m in
    let o = p.open_slots in
    let h = head_of capability in
    let t = tail_of capability in
    let own = full-open p slot full in
    let one = with_cap m slot h t in
    let q = packing one o p.first in
    let size = size-cap m slot h t (inside p slot is own) in
    let capped = words-cap m slot h t (inside p slot is own) fits fits' in
    let packs = capped-packs w o p.first (packed_rows p) slot capability h t is.packed full valid some (two-words capability) alike in (
      changed-from p q (capped_words w slot h t) (packed_rows p) (recapped (packed_slots p) slot capability) (is.long ∙ sym size) is.few capped packs
          (capped-slots w o p.first (packed_rows p) slot capability h t is.packed full valid some (two-words capability))
          (outside-from w o (packed_rows p) m one size (closed-cap o m slot h t own (inside p slot is own))),
      order-from q (capped_words w slot h t) (packed_rows p) capped packs,
    )

-- opened slots represent bytes of open slots afterwards
pub opened_in : (p : Packed) (o : List Bool) (first count : ℕ) → IsPacked p → 16 * (first + count) ≤ length p.memory
    → ((s : ℕ) → is_within first count s ≡ true → packed_slots p s ≡ None) → length o ≡ length p.open_slots
    → ((s : ℕ) → is_open_in o s ≡ (if is_within first count s then true else is_open_in p.open_slots s))
    → IsPacked (packing (blanked p.memory first count) o p.first)
    × (packed_slots (packing (blanked p.memory first count) o p.first) ≡ opened (packed_slots p) first count)
    × SameOutside (packed_slots (packing (blanked p.memory first count) o p.first)) p.memory (blanked p.memory first count)
    × (packed_order (packing (blanked p.memory first count) o p.first) ≡ packed_order p)
opened_in p o first count is within was size opens =
    let m = p.memory in
    let w = words_in m in
    let rows = packed_rows p in
    let one = blanked m first count in
    let q = packing one o p.first in
    let words = words-blanked m first count within in
    let kept = size-blanked m first count within in
    let packs = opened-packs w p.open_slots o p.first rows first count is.packed opens was in
    let packs' = subst (λ (v : Words). IsPackedAs v o p.first rows) (sym words) packs in
    let holds = slots-from q rows (opened (packed_slots p) first count) packs'
    (ap (λ (v : Words). slots_as v o rows) words ∙ opened-slots w p.open_slots o p.first rows first count is.packed opens was) in (
      packed-from q rows (ap (λ n. 16 * n) size ∙ is.long ∙ sym kept) (omega (arith, size, is.few)) packs',
      holds,
      outside-from (words_in one) o (packed_rows q) m one kept
          (closed-blanked o m first count (λ s inside'. opens s ∙ ap (λ b. if b then true else is_open_in p.open_slots s) inside') within),
      order-from q (zeroed w first count) rows words packs,
    )

pub closed_in : (p : Packed) (o : List Bool) (first count : ℕ) → IsPacked p
    → ((s : ℕ) → is_within first count s ≡ true → packed_slots p s ≡ Some empty_entry) → length o ≡ length p.open_slots
    → ((s : ℕ) → is_open_in o s ≡ (if is_within first count s then false else is_open_in p.open_slots s))
    → IsChanged p (packing p.memory o p.first) (closed (packed_slots p) first count) × (packed_order (packing p.memory o p.first) ≡ packed_order p)
closed_in p o first count is was size closes =
    let w = words_in p.memory in
    let rows = packed_rows p in
    let q = packing p.memory o p.first in
    let packs = closed-packs w p.open_slots o p.first rows first count is.packed closes was in (
      changed-from p q w rows (closed (packed_slots p) first count) (ap (λ n. 16 * n) size ∙ is.long) (omega (arith, size, is.few)) refl packs
          (closed-slots w p.open_slots o p.first rows first count is.packed closes was)
          (record { size = refl; bytes = λ place none. refl }),
      order-from q w rows refl packs,
    )

-- ---- what the calls ask for

-- another capability changes no links
pub capped-depth : (p : Packed) (slot at h t : ℕ) (m : List ℕ) → IsPacked p → is_open_in p.open_slots slot ≡ true → h < 2 ^ 32 → t < 2 ^ 32
    → m ≡ with_cap p.memory slot h t → (words_in m).depth at ≡ (words_in p.memory).depth at
capped-depth p slot at h t m is own fits fits' same =
    ap (λ l. (words_in l).depth at) same ∙ ap (λ (v : Words). v.depth at) (words-cap p.memory slot h t (inside p slot is own) fits fits')

pub capped-near : (p : Packed) (slot at h t : ℕ) (m : List ℕ) → IsPacked p → is_open_in p.open_slots slot ≡ true → h < 2 ^ 32 → t < 2 ^ 32
    → is_full (packed_slots p) at ≡ true → m ≡ with_cap p.memory slot h t → (s : ℕ) → (words_in m).next at ≡ Some s → 16 * (s + 1) ≤ length m
capped-near p slot at h t m is own fits fits' full same s link =
    let capped = words-cap p.memory slot h t (inside p slot is own) fits fits' in
    let there = next-there p at s is full (sym (ap (λ (v : Words). v.next at) capped) ∙ sym (ap (λ l. (words_in l).next at) same) ∙ link) in
    omega (arith, inside p s is there, ap length same, size-cap p.memory slot h t (inside p slot is own))

-- a lowered run keeps links
pub lowered-near : (p : Packed) (gone s : ℕ) (m : List ℕ) → IsPacked p → is_full (packed_slots p) gone ≡ true
    → m ≡ lowered_memory ((words_in p.memory).depth gone) (length p.open_slots) ((words_in p.memory).next gone) p.memory
    → ((words_in m).next gone ≡ Some s → 16 * (s + 1) ≤ length m) × ((words_in m).previous gone ≡ Some s → 16 * (s + 1) ≤ length m)
lowered-near p gone s m is full same =
    let w = words_in p.memory in
    let lowered = words-lowered (w.depth gone) (length p.open_slots) (w.next gone) p.memory (whole p is) in
    let size = ap length same ∙ size-lowered (w.depth gone) (length p.open_slots) (w.next gone) p.memory (whole p is) in
    let words = ap words_in same ∙ lowered in (
      λ link. omega (arith, inside p s is (next-there p gone s is full (sym (ap (λ (v : Words). v.next gone) words) ∙ link)), size),
      λ link. omega (arith, inside p s is (previous-there p gone s is full (sym (ap (λ (v : Words). v.previous gone) words) ∙ link)), size),
    )

pub spliced-is : (p : Packed) (gone : ℕ) (m n : List ℕ) (first : Option ℕ) → IsPacked p
    → m ≡ lowered_memory ((words_in p.memory).depth gone) (length p.open_slots) ((words_in p.memory).next gone) p.memory
    → n ≡ unlinked m gone → first ≡ first_without ((words_in m).previous gone) ((words_in m).next gone) p.first
    → packing n p.open_slots first ≡ spliced_packing p gone
spliced-is p gone m n first is same same' begins =
    let w = words_in p.memory in
    let words = ap words_in same ∙ words-lowered (w.depth gone) (length p.open_slots) (w.next gone) p.memory (whole p is) in
    ap (λ l. packing l p.open_slots first) (same' ∙ ap (λ l. unlinked l gone) same)
    ∙ ap (packing (spliced_memory p gone) p.open_slots) (begins ∙ ap (λ (v : Words). first_without (v.previous gone) (v.next gone) p.first) words)

-- a slot that was put after another
pub behind-words : (p : Packed) (from to : ℕ) → IsPacked p → IsFull (packed_slots p) from → packed_slots p to ≡ Some empty_entry
    → (words_in p.memory).head from < 2 ^ 32 → (words_in p.memory).tail from < 2 ^ 32
    → (words_in (behind_memory p from to) ≡ moved_words (words_in p.memory) from to) × (length (behind_memory p from to) ≡ length p.memory)
behind-words p from to is full empty fits fits' =
    let m = p.memory in
    let w = words_in m in
    let one = with_cap m to (w.head from) (w.tail from) in
    let d = w.depth from in
    let own = open-from w p.open_slots (packed_rows p) to empty_entry empty in
    let from-there = full-open p from full in
    let size = size-cap m to (w.head from) (w.tail from) (inside p to is own) in
    let capped = words-cap m to (w.head from) (w.tail from) (inside p to is own) fits fits' in
    let near' : (s : ℕ) → (words_in one).next from ≡ Some s → 16 * (s + 1) ≤ length one =
    capped-near p to from (w.head from) (w.tail from) one is own fits fits' full refl in
    let inside' : (s : ℕ) → is_open_in p.open_slots s ≡ true → 16 * (s + 1) ≤ length one = λ s there. omega (arith, inside p s is there, size) in (
      words-behind one from to d (inside' from from-there) (inside' to own) near' (near p from is from-there) (near p to is own)
          (depth-small (word_of m from 2))
          ∙ ap (λ (v : Words). record v {
            next = put (put v.next from (Some to)) to (v.next from);
            depth = put v.depth to d;
            previous = put (put_at v.previous (v.next from) (Some to)) to (Some from);
          }) capped,
      size-behind one from to d (inside' from from-there) (inside' to own) near' ∙ size,
    )

pub behind-near : (p : Packed) (from to s : ℕ) (m : List ℕ) → IsPacked p → IsFull (packed_slots p) from → packed_slots p to ≡ Some empty_entry
    → (words_in p.memory).head from < 2 ^ 32 → (words_in p.memory).tail from < 2 ^ 32 → m ≡ behind_memory p from to
    → ((words_in m).next from ≡ Some s → 16 * (s + 1) ≤ length m) × ((words_in m).previous from ≡ Some s → 16 * (s + 1) ≤ length m)
behind-near p from to s m is full empty fits fits' same =
    let both = behind-words p from to is full empty fits fits' in
    let words = ap words_in same ∙ both.0 in
    let size = ap length same ∙ both.1 in (
      λ link. omega (arith, inside p s is (moved-next p from to s is full empty (sym (ap (λ (v : Words). v.next from) words) ∙ link)), size),
      λ link. omega (arith, inside p s is (moved-previous p from to s is full empty (sym (ap (λ (v : Words). v.previous from) words) ∙ link)), size),
    )

pub moved-is : (p : Packed) (from to : ℕ) (m n : List ℕ) (first : Option ℕ) → m ≡ behind_memory p from to → n ≡ unlinked m from
    → first ≡ first_without ((words_in m).previous from) ((words_in m).next from) p.first → packing n p.open_slots first ≡ moved_packing p from to
moved-is p from to m n first same same' begins =
    ap (λ l. packing l p.open_slots first) (same' ∙ ap (λ l. unlinked l from) same)
    ∙ ap (packing (unlinked (behind_memory p from to) from) p.open_slots)
    (begins ∙ ap (λ l. first_without ((words_in l).previous from) ((words_in l).next from) p.first) same)
