-- What the slots at the edges of a root's descendants show of the objects that they share with others.
use Rattle.std.proofs.Common.{ℕ, ◌≡◌, ◌∙◌, ◌+◌, ◌<◌, ◌||◌, ◌&&◌, nat_lt, inl, inr, not, true, false, if◌then◌else◌, Option, Some, None, length, refl, sym, ap}
use Rattle.std.proofs.Common.{subst, arith}
use Rattle.std.specs.Option.{option_map_or}
use Rattle.model.proofs.Ancestors.{depth-child, descendant-from_test, descendant-full, descendants-once}
use Rattle.model.specs.Capabilities.Orders.{descendants, first_of, next_in}
use Rattle.model.specs.Capabilities.Slots.{Descendant, IsDerivation, IsFull, Slots, capability_at, child, deeper, depth_of, is_descendant, is_full}
use Rattle.model.specs.Shared.Lists.{times_in}
use Rattle.slots.proofs.Laws.{linked-next, next-another, run-ends, runs-end}
use Rattle.slots.specs.Kin.{IsSharedBeside, object_at}
use Rattle.slots.specs.preorder.Chains.{back_above, if_deeper}
use Rattle.slots.specs.preorder.Preorder.{rows_of, run_behind, slots_of}
use Rattle.slots.specs.preorder.Runs.{HasKey, behind_run}
use Rattle.packed_slots.specs.Packing.{IsPacked, Packed, packed_order, packed_rows, packed_slots}
use Rattle.packed_slots.specs.Sharing.{has_like_edge, is_named_at}
use Rattle.packed_slots.specs.Words.{is_one, words_in}
use Rattle.packed_slots.proofs.Below.{below, below-run}
use Rattle.packed_slots.proofs.PackedFacts.{full-row, row-open}
use Rattle.packed_slots.proofs.Reading.{descent-found}
use Rattle.packed_slots.proofs.Sharing.{at-found, either, found-at, named-full, or-left, or-right}

-- ---- who descends

root-full : (slots : Slots) (root s : ℕ) → IsDerivation slots → Descendant slots root s → IsFull slots root
root-full slots root s tree (child _ up) = tree.parent_full s root up
root-full slots root s tree (deeper _ parent up above) = root-full slots root parent tree above

lower : (slots : Slots) (root s : ℕ) → IsDerivation slots → Descendant slots root s → depth_of slots root < depth_of slots s
lower slots root s tree (child _ up) = omega (arith, depth-child slots s root tree up)
lower slots root s tree (deeper _ parent up above) = omega (arith, depth-child slots s parent tree up, lower slots root parent tree above)

not-own : (slots : Slots) (root : ℕ) → IsDerivation slots → is_descendant slots root root ≡ false
not-own slots root tree = elim (is_descendant slots root root) as (λ b. is_descendant slots root root ≡ b → b ≡ false) [
  | false ↦ λ is. refl
  | true ↦ λ is. absurd (omega (arith, lower slots root root tree (descendant-from_test (depth_of slots root) slots root root is)))
] refl

-- a slot that is no deeper than another does not descend from it
if-none : (depths : ℕ → ℕ) (depth s : ℕ) → if_deeper depths depth (Some s) ≡ None → nat_lt depth (depths s) ≡ false
if-none depths depth s is = elim (nat_lt depth (depths s)) as (λ b. (if b then Some s else None) ≡ None → b ≡ false) [
  | false ↦ λ none. refl
  | true ↦ λ some. absurd (let clash : Some s ≡ None = some in cc)
] is

module _ (p : Packed) (root last slot : ℕ) (is : IsPacked p) (known : is_descendant (packed_slots p) root slot ≡ true)
    (last_known : is_descendant (packed_slots p) root last ≡ true)
    (none : next_in (descendants (packed_order p) (packed_slots p) root) (Some last) ≡ None) where
  abbrev slots : Slots
  slots = packed_slots p

  abbrev edge : Option ℕ
  edge = (words_in p.memory).next last

  full : IsFull slots root
  full = root-full slots root slot is.packed.derivation (descendant-from_test (depth_of slots slot) slots root slot known)

  in-run : (s : ℕ) → times_in (slots_of (run_behind root (packed_rows p))) s ≡ (if is_descendant slots root s then 1 else 0)
  in-run s = ap (λ l. times_in l s) (sym (below-run p root is)) ∙ descendants-once (packed_order p) slots root s is.packed.derivation is.packed.listed

  last-in : 0 < times_in (slots_of (run_behind root (packed_rows p))) last
  last-in = omega (arith, in-run last ∙ ap (λ b. if b then 1 else 0) last_known)

  last-full : 0 < rows_of (packed_rows p) last
  last-full = omega (
    arith,
    full-row (words_in p.memory) p.open_slots p.first (packed_rows p) last is.packed
        (descendant-full slots root last is.packed.derivation last_known),
  )

  -- the slot after the last descendant is the first one after all of them
  edge-is : edge ≡ first_of (slots_of (behind_run root (packed_rows p)))
  edge-is =
      sym (linked-next (packed_order p) (words_in p.memory).next (words_in p.memory).previous None last is.packed.linked.chain last-full)
      ∙ run-ends (packed_rows p) root last is.packed.linked.once last-in (sym (ap (λ l. next_in l (Some last)) (below-run p root is)) ∙ none)

  edge-beside : (s : ℕ) → edge ≡ Some s → is_descendant slots root s ≡ false
  edge-beside s at =
      let shallow = if-none (words_in p.memory).depth ((words_in p.memory).depth root) s
      (ap (if_deeper (words_in p.memory).depth ((words_in p.memory).depth root)) (sym at)
      ∙ sym (below p root (Some last) is full (λ y same. let e : last ≡ y = cc in subst (λ z. is_descendant slots root z ≡ true) e last_known)) ∙ none) in
      let found = next-another (slots_of (packed_rows p)) (words_in p.memory).next (words_in p.memory).previous None last s is.packed.linked.chain
      is.packed.linked.once last-full at in
      descent-found p root s is (row-open (words_in p.memory) p.open_slots p.first (packed_rows p) s is.packed found.0)
      ∙ ap (λ b. b && is_one root (back_above (words_in p.memory).previous (words_in p.memory).depth (length p.open_slots) ((words_in p.memory).depth root + 1)
      ((words_in p.memory).previous s))) shallow

  with-offset : (offset : ℕ) → object_at slots slot ≡ Some offset →
      has_like_edge p root last slot ≡ (is_named_at slots offset (Some root) || is_named_at slots offset edge)
  with-offset offset own = ap (λ (o : Option ℕ). option_map_or (λ offset. is_named_at slots offset (Some root) || is_named_at slots offset edge) o false) own

  pub beside-so : has_like_edge p root last slot ≡ true → IsSharedBeside slots root slot
  beside-so like = elim (object_at slots slot) as (λ o. object_at slots slot ≡ o → IsSharedBeside slots root slot) [
    | None ↦ λ nothing. absurd (let clash : false ≡ true =
        sym (ap (λ (o : Option ℕ). option_map_or (λ offset. is_named_at slots offset (Some root) || is_named_at slots offset edge) o false) nothing) ∙ like in
        cc)
    | Some offset ↦ λ own. elim (either (is_named_at slots offset (Some root)) (is_named_at slots offset edge) (sym (with-offset offset own) ∙ like)) [
      | inl at_root ↦
          let found = at-found slots offset (Some root) at_root in
          let same : root ≡ found.0 = (let e : Some root ≡ Some found.0 = found.1 in cc) in
          record { offset = offset; own = own; other = root; beside = not-own slots root is.packed.derivation; names = ap (object_at slots) same ∙ found.2 }
      | inr at_edge ↦
          let found = at-found slots offset edge at_edge in
          record { offset = offset; own = own; other = found.0; beside = edge-beside found.0 found.1; names = found.2 }
    ]
  ] refl

  pub none-beside : has_like_edge p root last slot ≡ false → IsSharedBeside slots root slot → ⊥
  none-beside unlike shared =
      let other_full : is_full slots shared.other ≡ true = ap not (named-full (capability_at slots shared.other) shared.offset shared.names) in
      let found : 0 < rows_of (packed_rows p) shared.other =
      omega (arith, full-row (words_in p.memory) p.open_slots p.first (packed_rows p) shared.other is.packed other_full) in
      let inside : 0 < times_in (slots_of (run_behind root (packed_rows p))) slot = omega (arith, in-run slot ∙ ap (λ b. if b then 1 else 0) known) in
      let outside : times_in (slots_of (run_behind root (packed_rows p))) shared.other ≡ 0 = in-run shared.other ∙ ap (λ b. if b then 1 else 0) shared.beside in
      let at_root = is_named_at slots shared.offset (Some root) in
      let at_edge = is_named_at slots shared.offset edge in
      let like : has_like_edge p root last slot ≡ true =
      with-offset shared.offset shared.own
      ∙ elim (runs-end (packed_rows p) (object_at slots) shared.offset root slot shared.other is.packed.runs inside shared.own found outside shared.names) [
        | inl has ↦ or-left at_root at_edge (found-at slots shared.offset (Some root) has)
        | inr has ↦ or-right at_root at_edge (found-at slots shared.offset edge (subst (HasKey (object_at slots) shared.offset) (sym edge-is) has))
      ] in
      absurd (let clash : true ≡ false = sym like ∙ unlike in cc)
