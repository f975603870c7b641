-- So many levels, and one more: where nothing is left to search from, that brings nothing.
use Rattle.std.proofs.Common.{ℕ, suc, ◌≡◌, ◌∙◌, ◌+◌, List, [], ◌∷◌, length, refl, sym, ap, subst, arith}
use Rattle.std.proofs.lemmas.Bool.{eqb-true}
use Rattle.model.specs.Acceptance.NotedStates.{NotedSlot, SlotKey}
use Rattle.typestate.specs.Descents.{AreBelow, levels_of}
use Rattle.typestate.specs.Levels.{all_below, below_by, named, touched_by}
use Rattle.typestate.specs.Orders.{Rise}
use Rattle.typestate.specs.declared.points.NotedSlots.{NotedSlots}
use Rattle.typestate.specs.declared.slot_changes.Removed.{Removed}
use Rattle.typestate.proofs.Descents.{all-are-below, below-levels, below-rises, numbered-below, touched-levels}
use Rattle.typestate.proofs.points.NotedSlots.affected_levels.Goals as goal

goes-below : (n : NotedSlots) (which : Removed) (k : ℕ) (root : SlotKey) → k ≡ levels_of which → root ≡ named which → below_by k n root ≡ all_below n which
goes-below n which k root levels is = ap (λ (j : ℕ). below_by j n root) levels ∙ ap (λ (r : SlotKey). below_by (levels_of which) n r) is ∙ below-levels n which

hangs-below : (n : NotedSlots) (which : Removed) (k : ℕ) (root : SlotKey) → k ≡ levels_of which → root ≡ named which →
    below_by (k + 1) n root ≡ touched_by n which
hangs-below n which k root levels is =
    let one : levels_of which + 1 ≡ suc (levels_of which) = omega arith in
    ap (λ (j : ℕ). below_by (j + 1) n root) levels ∙ ap (λ (j : ℕ). below_by j n root) one ∙ ap (λ (r : SlotKey). below_by (suc (levels_of which)) n r) is
    ∙ touched-levels n which

no-slots : (slots : List NotedSlot) → length slots ≡ 0 → slots ≡ []
no-slots [] none = refl
no-slots (s ∷ rest) none = absurd (omega (arith, none))

pub returns-then-is_empty-clause-listed : goal.returns-then-is_empty-clause-listed
returns-then-is_empty-clause-listed c =
    let n = c.args.self.now in
    c.in_ok-below.ensures.listed ∙ numbered-below n c.named-root.result c.levels_of.result c.levels.new.numbers.keys c.in_ok-newest.newest.items
    c.in_ok-below.ensures.ordered c.in_ok-newest.ensures
    ∙ goes-below n c.args.which.now _ _ c.levels_of.ensures c.named-root.ensures

pub returns-then-is_empty-clause-told : goal.returns-then-is_empty-clause-told
returns-then-is_empty-clause-told c =
    let n = c.args.self.now in
    let root = c.named-root.result in
    let k = c.levels_of.result in
    let newest = c.in_ok-newest.newest in
    let none = eqb-true newest.len 0 (sym c.is_empty.ensures ∙ c.if-is_empty.true) in
    let last = all-are-below n root k (k + 1) c.levels.new.numbers.keys newest.items (no-slots newest.items (sym newest.ok.0 ∙ none)) (omega arith)
    c.in_ok-newest.ensures in
    c.in_ok-below.ensures.listed ∙ numbered-below n root (k + 1) c.levels.new.numbers.keys newest.items c.in_ok-below.ensures.ordered last
    ∙ hangs-below n c.args.which.now _ _ c.levels_of.ensures c.named-root.ensures

pub returns-then-is_empty-clause-rising : goal.returns-then-is_empty-clause-rising
returns-then-is_empty-clause-rising c = subst Rise (sym c.in_ok-below.ensures.listed)
    (below-rises c.args.self.now c.levels.new.numbers.keys c.in_ok-below.ensures.ordered)

pub returns-clause-listed : goal.returns-clause-listed
returns-clause-listed c =
    let n = c.args.self.now in
    c.in_ok-below.ensures.listed ∙ numbered-below n c.named-root.result c.levels_of.result c.levels.new.numbers.keys c.in_ok-newest.newest.items
    c.in_ok-below.ensures.ordered c.in_ok-newest.ensures
    ∙ goes-below n c.args.which.now _ _ c.levels_of.ensures c.named-root.ensures

pub returns-clause-told : goal.returns-clause-told
returns-clause-told c =
    let n = c.args.self.now in
    let root = c.named-root.result in
    let k = c.levels_of.result in
    c.in_ok-touched.ensures k (subst (λ (l : List NotedSlot). AreBelow k n root c.levels.new.numbers.keys l) (sym c.deref.ensures.value) c.in_ok-newest.ensures)
    ∙ hangs-below n c.args.which.now _ _ c.levels_of.ensures c.named-root.ensures

pub returns-clause-rising : goal.returns-clause-rising
returns-clause-rising c = subst Rise (sym c.in_ok-below.ensures.listed) (below-rises c.args.self.now c.levels.new.numbers.keys c.in_ok-below.ensures.ordered)
