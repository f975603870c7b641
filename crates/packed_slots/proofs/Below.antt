-- The descendants of a slot are those after it that are deeper.
use Rattle.std.proofs.Common.{ℕ, ◌≡◌, ◌∙◌, true, false, if◌then◌else◌, IsTrue, IfSome, Option, Some, None, [], filter, refl, sym, ap, arith}
use Rattle.std.proofs.lemmas.Option.{IfSome_then}
use Rattle.std.specs.Option.{unwrap_or}
use Rattle.model.proofs.Ancestors.{descendant-full, descendants-once}
use Rattle.model.proofs.Orders.{after-behind, behind, first-some, times-behind}
use Rattle.model.specs.Capabilities.Orders.{descendants, first_of, next_after, next_in}
use Rattle.model.specs.Capabilities.Slots.{IsFull, is_descendant, is_full}
use Rattle.model.specs.Shared.Lists.{times_in}
use Rattle.slots.proofs.Laws.{behind-first, behind-next, behind-none, descendants-run}
use Rattle.slots.specs.preorder.Chains.{if_deeper}
use Rattle.slots.specs.preorder.Preorder.{descends_by, run_behind, slots_of}
use Rattle.packed_slots.specs.Packing.{IsPacked, Packed, packed_order, packed_rows, packed_slots}
use Rattle.packed_slots.specs.Words.{word_of, words_in}
use Rattle.packed_slots.proofs.PackedFacts.{full-row, no-row, parent-as}
use Rattle.packed_slots.proofs.WordWrites.{depth-small}

pub below-run : (p : Packed) (root : ℕ) → IsPacked p → descendants (packed_order p) (packed_slots p) root ≡ slots_of (run_behind root (packed_rows p))
below-run p root is =
    let w = words_in p.memory in
    let rows = packed_rows p in
    ap (λ (f : ℕ → Option ℕ). filter (descends_by f root) (slots_of rows)) (λ i x. parent-as w p.open_slots p.first rows x is.packed i)
    ∙ descendants-run rows w.depth root is.packed.linked.rises is.packed.linked.deep is.packed.linked.once
    (λ x inside. omega (arith, depth-small (word_of p.memory x 2)))

next-none : (last : Option ℕ) → next_in [] last ≡ None
next-none None = refl
next-none (Some s) = refl

-- nothing descends from a slot that is not full
pub below_none : (p : Packed) (root : ℕ) (last : Option ℕ) → IsPacked p → is_full (packed_slots p) root ≡ false
    → next_in (descendants (packed_order p) (packed_slots p) root) last ≡ None
below_none p root last is empty =
    let rows = packed_rows p in
    ap (λ l. next_in l last) (below-run p root is
    ∙ ap slots_of (behind-none rows root (no-row (words_in p.memory) p.open_slots p.first rows root is.packed empty)))
    ∙ next-none last

-- the first one below a full root is right after it, and the next one after the last
pub below : (p : Packed) (root : ℕ) (last : Option ℕ) → IsPacked p → IsFull (packed_slots p) root
    → ((s : ℕ) → last ≡ Some s → is_descendant (packed_slots p) root s ≡ true)
    → next_in (descendants (packed_order p) (packed_slots p) root) last
    ≡ if_deeper (words_in p.memory).depth ((words_in p.memory).depth root) ((words_in p.memory).next (unwrap_or last root))
below p root None is full known =
    let w = words_in p.memory in
    let rows = packed_rows p in
    ap first_of (below-run p root is)
    ∙ behind-first rows w.next w.previous w.depth None root is.packed.linked.chain is.packed.linked.deep
    (omega (arith, full-row w p.open_slots p.first rows root is.packed full))
below p root (Some s) is full known =
    let w = words_in p.memory in
    let rows = packed_rows p in
    let run = below-run p root is in
    let once = descendants-once (packed_order p) (packed_slots p) root s is.packed.derivation is.packed.listed ∙ ap (λ b. if b then 1 else 0) (known s refl) in
    ap (λ l. next_after l s) run
    ∙ behind-next rows w.next w.previous w.depth None root s is.packed.linked.chain is.packed.linked.deep
    (omega (arith, ap (λ l. times_in l s) run, once))

-- ---- what is found

pub found_known : (p : Packed) (root : ℕ) (last found : Option ℕ) → IsPacked p → found ≡ next_in (descendants (packed_order p) (packed_slots p) root) last
    → IfSome found (λ s. IsTrue (is_descendant (packed_slots p) root s))
found_known p root last None is same = tt
found_known p root last (Some s) is same =
    let order = descendants (packed_order p) (packed_slots p) root in
    let rest = first-some (behind order last) s (sym (after-behind order last) ∙ sym same) in
    let there = times-behind order last s rest.0 rest.1 in
    let once = descendants-once (packed_order p) (packed_slots p) root s is.packed.derivation is.packed.listed in
    elim (is_descendant (packed_slots p) root s) as (λ b. is_descendant (packed_slots p) root s ≡ b → b ≡ true) [
      | true ↦ λ yes. refl
      | false ↦ λ no. absurd (omega (arith, there, once ∙ ap (λ b. if b then 1 else 0) no))
    ] refl

pub found_full : (p : Packed) (root : ℕ) (last found : Option ℕ) → IsPacked p → found ≡ next_in (descendants (packed_order p) (packed_slots p) root) last
    → IfSome found (IsFull (packed_slots p))
found_full p root last found is same =
    IfSome_then found (found_known p root last found is same) (λ s below. descendant-full (packed_slots p) root s is.packed.derivation below)
