-- A load or store reaches only bytes that its thread may read or write, where the rule on mapped pages is kept.
use Rattle.std.proofs.Common.{ℕ, zero, suc, ◌≡◌, ◌∙◌, ◌==◌, ◌+◌, ◌-◌, ◌*◌, ◌/◌, ◌%◌, ◌^◌, ◌<◌, ◌≤◌, ◌&&◌, inl, inr, Bool, true, false, not, if◌then◌else◌, List}
use Rattle.std.proofs.Common.{[], ◌∷◌, map, Some, None, Ok, ℤ, pos, negsuc, ◌+ℤ◌, nat_abs, int_lt, refl, sym, ap, subst, arith}
use Rattle.std.specs.Prelude.{Contains, option_and_then}
use Rattle.std.specs.Int.{byte_len, from_le_bytes, is_negative, to_le_bytes}
use Rattle.std.specs.Option.{option_map_or}
use Rattle.std.specs.List.{list_any}
use Rattle.std.proofs.lemmas.Bool.{and_parts, eqb-true, ltb-true, not-false, not-true, or_cases}
use Rattle.std.proofs.lemmas.Int.{ints}
use Rattle.std.proofs.lemmas.Option.{slice_get-get_or}
use Rattle.model.specs.declared.entries.FrameEntry.{FrameEntry}
use Rattle.model.specs.declared.instructions.Access.{Access}
use Rattle.model.specs.declared.instructions.Access.TheVariants as accesses
use Rattle.headline.proofs.facts.Laws.{holds-at, page-held, page-mapped}
use Rattle.model.specs.declared.instructions.AccessSize.{AccessSize}
use Rattle.model.specs.declared.instructions.AccessSize.TheVariants.{Byte, Halfword, Word}
use Rattle.model.specs.declared.instructions.Instr.{Instr}
use Rattle.model.specs.declared.instructions.Instr.TheVariants.{Upper, Jal, Jalr, Branch, Load, Store, Immediate, Shift, Registers, Fence, Ecall, Ebreak}
use Rattle.model.specs.declared.instructions.Register.{Register}
use Rattle.model.specs.declared.ranges.Range.{Range}
use Rattle.model.specs.declared.rights.Rights.{Rights}
use Rattle.model.specs.Acceptance.NotedStates.{NotedSlot, PointState}
use Rattle.model.specs.Acceptance.PointRules.{are_mapped, holds_for, is_mapped_for, is_unmapped, maps_for, reaches}
use Rattle.model.specs.Acceptance.Ranges.{range_of}
use Rattle.model.specs.Acceptance.ThreadInvariants.{ImageMaps, LieWithin, MapsAreNoted, NotedMaps, root_table_of, tcb_of}
use Rattle.model.specs.Acceptance.WellFormed.{are_frame_rights}
use Rattle.model.specs.Capabilities.Rights.{frame_rights, mapping_rights, rights}
use Rattle.model.specs.Images.Described.{Numbered}
use Rattle.model.specs.Images.Image.{Image}
use Rattle.model.specs.Images.Places.{offset_of}
use Rattle.model.specs.Kernel.AddressSpaces.{Maps, allows, content_of, mapped, page_of, page_size, place_in, place_under, vspace_of}
use Rattle.model.specs.Kernel.Soundness.{IsSound}
use Rattle.model.specs.Kernel.State.{State}
use Rattle.model.specs.Machine.Effects.{load_size, plus, store_size}
use Rattle.model.specs.Machine.Instructions.{IsImmediate, IsInstr}
use Rattle.model.specs.Machine.ProgramMemory.{Content, RegisterFile, ◌>>=◌, next_address, place_or_fault, places_from, put_bytes, read, width_of}
use Rattle.headline.specs.steps.Frames.{FramesAreKept}
use Rattle.headline.specs.steps.Taken.{Reaches}

-- ---- what is found among a list

pub any-among : {A : Type 0} (test : A → Bool) (xs : List A) → list_any test xs ≡ true → (x : A) × Contains xs x × (test x ≡ true)
any-among test [] is = absurd (let clash : false ≡ true = is in cc)
any-among test (x ∷ xs) is = elim (or_cases (test x) (list_any test xs) is) [
  | inl here ↦ (x, (0, omega arith, refl), here)
  | inr later ↦ let found = any-among test xs later in let at = found.1 in (found.0, (suc at.0, omega (arith, at.1), at.2), found.2)
]

-- ---- rights of mappings

mapping-allows : (access : Access) (bits : ℕ) → bits ≤ 7 → are_frame_rights bits ≡ true → allows access (rights bits) ≡ true →
    allows access (mapping_rights frame_rights bits) ≡ true
mapping-allows access zero fits is allowed = absurd (let clash : false ≡ true = is in cc)
mapping-allows access (suc zero) fits is allowed = absurd (let clash : false ≡ true = is in cc)
mapping-allows access (suc (suc zero)) fits is allowed = allowed
mapping-allows access (suc (suc (suc zero))) fits is allowed = allowed
mapping-allows access (suc (suc (suc (suc zero)))) fits is allowed = allowed
mapping-allows access (suc (suc (suc (suc (suc zero))))) fits is allowed = absurd (let clash : false ≡ true = is in cc)
mapping-allows access (suc (suc (suc (suc (suc (suc zero)))))) fits is allowed = allowed
mapping-allows access (suc (suc (suc (suc (suc (suc (suc zero))))))) fits is allowed = allowed
mapping-allows access (suc (suc (suc (suc (suc (suc (suc (suc bits)))))))) fits is allowed = absurd (omega (arith, fits))

-- ---- pages

pub record MapsFor (image : Image) (t : Numbered) (s : State) (access : Access) (page : ℕ) : Type 0 where
  pub frame : ℕ
  pub allowed : Rights
  pub maps : Maps s.slots (root_table_of image t) page frame allowed
  pub permits : allows access allowed ≡ true

module _ (image : Image) (t : Numbered) (s : State) (slots : List NotedSlot) (kept : FramesAreKept image) (maps : MapsAreNoted image t s slots) where
  image-maps : (access : Access) (page : ℕ) → list_any (maps_for access t.thread page) image.frames ≡ true → MapsFor image t s access page
  image-maps access page is =
      let found = any-among (maps_for access t.thread page) image.frames is in
      let f = found.0 in
      let at = found.1 in
      let outer = and_parts (f.root == t.thread.header.root && (f.address == page * page_size)) (allows access (rights f.rights)) found.2 in
      let inner = and_parts (f.root == t.thread.header.root) (f.address == page * page_size) outer.0 in
      let entry = kept.each at.0 f (slice_get-get_or image.frames at.0 f at.1 ∙ ap (λ (x : FrameEntry). Some x) at.2) in
      let allowed : Rights = mapping_rights frame_rights f.rights in
      let by_image : ImageMaps image t page (offset_of image f.frame) allowed = record {
        entry = f;
        listed = at;
        root = eqb-true f.root t.thread.header.root inner.0;
        address = eqb-true f.address (page * page_size) inner.1;
        object = refl;
        rights = refl;
      } in
      record {
        frame = offset_of image f.frame;
        allowed = allowed;
        maps = (maps page (offset_of image f.frame) allowed).1 (inl by_image);
        permits = mapping-allows access f.rights entry.fits entry.rights outer.1;
      }

  slot-maps : (access : Access) (page : ℕ) → list_any (holds_for access (root_table_of image t) page) slots ≡ true → MapsFor image t s access page
  slot-maps access page is =
      let found = any-among (holds_for access (root_table_of image t) page) slots is in
      let held = found.0 in
      elim (page_of (root_table_of image t) page held.capability)
      as (λ o. page_of (root_table_of image t) page held.capability ≡ o → option_map_or (λ m. allows access m.allowed) o false ≡ true →
      MapsFor image t s access page) [
        | None ↦ λ _ clash. absurd (let no : false ≡ true = clash in cc)
        | Some m ↦ λ there permits.
            let capability = page-held (root_table_of image t) page held.capability m.frame m.allowed there in
            let by_slot : NotedMaps image t slots page m.frame m.allowed =
            record { slot = held; held = capability.0; noted = found.1; capability = capability.1 } in
            record { frame = m.frame; allowed = m.allowed; maps = (maps page m.frame m.allowed).1 (inr by_slot); permits = permits }
      ] refl found.2

  pub maps-for : (access : Access) (page : ℕ) → is_mapped_for image t.thread slots access page ≡ true → MapsFor image t s access page
  maps-for access page is =
      elim (or_cases (list_any (maps_for access t.thread page) image.frames) (list_any (holds_for access (root_table_of image t) page) slots) is) [
        | inl frames ↦ image-maps access page frames
        | inr noted ↦ slot-maps access page noted
      ]

-- ---- places

pub place-there : (image : Image) (t : Numbered) (s : State) (access : Access) (address : ℕ) → IsSound s →
    vspace_of s (tcb_of image t) ≡ Some (root_table_of image t)
    → (found : MapsFor image t s access (address / page_size)) → (content_of s (tcb_of image t)).place access address ≡ Some (found.frame + address % page_size)
place-there image t s access address sound vspace found =
    ap (option_and_then (λ root. place_under s root access address)) vspace
    ∙ ap (option_and_then (place_in access address)) (page-mapped s (root_table_of image t) (address / page_size) found.frame found.allowed sound found.maps)
    ∙ ap (λ b. if b then Some (found.frame + address % page_size) else None) found.permits

record HasPlaces (c : Content) (access : Access) (address count : ℕ) : Type 0 where
  places : List ℕ
  are : places_from c access address count ≡ Ok places

places-reach : (c : Content) (access : Access) (count address : ℕ) → address + count ≤ 2 ^ 32 →
    ((k : ℕ) → k < count → (place : ℕ) × (c.place access (address + k) ≡ Some place))
    → HasPlaces c access address count
places-reach c access zero address inside each = record { places = []; are = refl }
places-reach c access (suc count) address inside each =
    let first = each 0 (omega arith) in
    let here : c.place access address ≡ Some first.0 = subst (λ (n : ℕ). c.place access n ≡ Some first.0) (omega arith) first.1 in
    let rest = places-reach c access count (next_address address) (omega (arith, inside)) (λ k less.
    let one = each (suc k) (omega (arith, less)) in
    let same : address + suc k ≡ next_address address + k = omega (arith, inside, less) in
    (one.0, subst (λ (n : ℕ). c.place access n ≡ Some one.0) same one.1)) in
    record {
      places = first.0 ∷ HasPlaces.places rest;
      are =
          ap (λ o. place_or_fault o access address >>= λ place. places_from c access (next_address address) count >>= λ others. Ok (place ∷ others)) here
          ∙ ap (λ r. r >>= λ others. Ok (first.0 ∷ others)) (HasPlaces.are rest);
    }

-- ---- addresses

record LiesBetween (address width first last : ℕ) : Type 0 where
  low : first ≤ address
  high : address + width ≤ last + 1
  word : last < 2 ^ 32

-- a sum with a negative number that stays a natural one
down-low : (a m : ℕ) → is_negative (pos a +ℤ negsuc m) ≡ false → suc m ≤ a
down-low a m positive = grind (arith, ints)

down-is : (a m : ℕ) → suc m ≤ a → pos a +ℤ negsuc m ≡ pos (a - suc m)
down-is a m low = grind (arith, ints)

between-ends : (low high n width : ℕ) (offset : ℤ) → IsImmediate offset → n < 2 ^ 32 → low ≤ n → n ≤ high → 1 ≤ width → is_negative (pos low +ℤ offset) ≡ false
    → int_lt ((pos high +ℤ offset) +ℤ pos (width - 1)) (pos (2 ^ 32)) ≡ true
    → LiesBetween (plus n offset) width (nat_abs (pos low +ℤ offset)) (nat_abs ((pos high +ℤ offset) +ℤ pos (width - 1)))
between-ends low high n width (pos m) fits small least most some positive less =
    let bound : m ≤ 2047 = grind (arith, fits) in
    let inside : high + m + (width - 1) < 2 ^ 32 = ltb-true (high + m + (width - 1)) (2 ^ 32) less in
    record { low = omega (arith, bound, inside, least, most); high = omega (arith, bound, inside, least, most, some); word = inside }
between-ends low high n width (negsuc m) fits small least most some positive less =
    let bound : m ≤ 2047 = grind (arith, fits) in
    let under = down-low low m positive in
    let first = down-is low m under in
    let last = down-is high m (omega (arith, under, least, most)) in
    let last_is : (pos high +ℤ negsuc m) +ℤ pos (width - 1) ≡ pos (high - suc m + (width - 1)) = ap (λ z. z +ℤ pos (width - 1)) last in
    let inside : high - suc m + (width - 1) < 2 ^ 32 = ltb-true (high - suc m + (width - 1)) (2 ^ 32)
    (sym (ap (λ z. int_lt z (pos (2 ^ 32))) last_is) ∙ less) in
    let here : LiesBetween (plus n (negsuc m)) width (low - suc m) (high - suc m + (width - 1)) = record {
      low = omega (arith, bound, inside, least, most, under, small);
      high = omega (arith, bound, inside, least, most, some, under, small);
      word = inside;
    } in
    subst (λ (z : ℤ). LiesBetween (plus n (negsuc m)) width (nat_abs z) (nat_abs ((pos high +ℤ negsuc m) +ℤ pos (width - 1)))) (sym first)
    (subst (λ (z : ℤ). LiesBetween (plus n (negsuc m)) width (low - suc m) (nat_abs z)) (sym last_is) here)

-- ---- the whole

widths : (size : AccessSize) → 1 ≤ byte_len (width_of size)
widths Byte = omega arith
widths Halfword = omega arith
widths Word = omega arith

module _ (image : Image) (t : Numbered) (s : State) (state : PointState) (kept : FramesAreKept image) (sound : IsSound s)
    (maps : MapsAreNoted image t s state.slots)
    (vspace : vspace_of s (tcb_of image t) ≡ Some (root_table_of image t)) where
  abbrev content : Content
  content = content_of s (tcb_of image t)

  page-found : (access : Access) (address first last : ℕ) → are_mapped image t.thread state.slots access first last ≡ true → first ≤ address → address ≤ last
      → (place : ℕ) × (content.place access address ≡ Some place)
  page-found access address first last all low high =
      let page = address / page_size in
      let test = holds-at (is_mapped_for image t.thread state.slots access) (first / page_size) (last / page_size + 1 - first / page_size) page all
      (omega (arith, low)) (omega (arith, low, high)) in
      let found = maps-for image t s state.slots kept maps access page test in
      (found.frame + address % page_size, place-there image t s access address sound vspace found)

  access-reaches : (access : Access) (size : AccessSize) (r : Range) (n : ℕ) (offset : ℤ) → IsImmediate offset → n < 2 ^ 32 → r.low ≤ n → n ≤ r.high
      → reaches image t.thread state access size r offset ≡ true → HasPlaces content access (plus n offset) (byte_len (width_of size))
  access-reaches access size r n offset fits small least most reach =
      let width = byte_len (width_of size) in
      let first = pos r.low +ℤ offset in
      let last = (pos r.high +ℤ offset) +ℤ pos (width - 1) in
      let outer = and_parts (not (is_negative first) && int_lt last (pos (2 ^ 32)))
      (are_mapped image t.thread state.slots access (nat_abs first) (nat_abs last)) reach in
      let inner = and_parts (not (is_negative first)) (int_lt last (pos (2 ^ 32))) outer.0 in
      let ends = between-ends r.low r.high n width offset fits small least most (widths size) (not-true (is_negative first) inner.0) inner.1 in
      let low = LiesBetween.low ends in
      let high = LiesBetween.high ends in
      let word = LiesBetween.word ends in
      places-reach content access width (plus n offset) (omega (arith, high, word))
      (λ k less. page-found access (plus n offset + k) (nat_abs first) (nat_abs last) outer.1 (omega (arith, low)) (omega (arith, high, less)))

  pub reaches-mapped : (r : RegisterFile) (instr : Instr) → ((x : Register) → read r x < 2 ^ 32) → LieWithin r state.ranges → IsInstr instr
      → is_unmapped image t.thread state (Some instr) ≡ false → Reaches r content instr
  unfolding is_unmapped
  reaches-mapped r (Load op rd rs1 offset) words lie fits mapped =
      let here = lie rs1.0 fits.1 in
      let places = access-reaches accesses.Load (load_size op) (range_of state.ranges rs1) (read r rs1) offset fits.2 (words rs1) here.0 here.1
      (not-false (reaches image t.thread state accesses.Load (load_size op) (range_of state.ranges rs1) offset) mapped) in (
        from_le_bytes (width_of (load_size op)) (map content.byte (HasPlaces.places places)),
        ap (λ p. p >>= λ found. Ok (from_le_bytes (width_of (load_size op)) (map content.byte found))) (HasPlaces.are places),
      )
  reaches-mapped r (Store op rs1 rs2 offset) words lie fits mapped =
      let here = lie rs1.0 fits.0 in
      let places = access-reaches accesses.Store (store_size op) (range_of state.ranges rs1) (read r rs1) offset fits.2 (words rs1) here.0 here.1
      (not-false (reaches image t.thread state accesses.Store (store_size op) (range_of state.ranges rs1) offset) mapped) in (
        put_bytes content (HasPlaces.places places) (to_le_bytes (width_of (store_size op)) (read r rs2)),
        ap (λ p. p >>= λ found. Ok (put_bytes content found (to_le_bytes (width_of (store_size op)) (read r rs2)))) (HasPlaces.are places),
      )
  reaches-mapped r (Upper op rd immediate) words lie fits mapped = tt
  reaches-mapped r (Jal rd offset) words lie fits mapped = tt
  reaches-mapped r (Jalr rd rs1 offset) words lie fits mapped = tt
  reaches-mapped r (Branch op rs1 rs2 offset) words lie fits mapped = tt
  reaches-mapped r (Immediate op rd rs1 immediate) words lie fits mapped = tt
  reaches-mapped r (Shift op rd rs1 amount) words lie fits mapped = tt
  reaches-mapped r (Registers op rd rs1 rs2) words lie fits mapped = tt
  reaches-mapped r Fence words lie fits mapped = tt
  reaches-mapped r Ecall words lie fits mapped = tt
  reaches-mapped r Ebreak words lie fits mapped = tt
