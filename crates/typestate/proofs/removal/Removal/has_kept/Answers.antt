-- What stays a child is a child already, or was derived from what goes, and has its key among the changes.
use Rattle.std.proofs.Common.{◌≡◌, ◌∙◌, ◌||◌, Bool, true, false, List, ap, sym}
use Rattle.std.specs.List.{list_any}
use Rattle.std.specs.Option.{option_map_or}
use Rattle.model.specs.Acceptance.NotedStates.{NotedSlot, SlotKey}
use Rattle.typestate.specs.ChangeLists.{kept_child}
use Rattle.typestate.specs.Differences.{left_by, slots_of}
use Rattle.typestate.specs.Families.{children_of}
use Rattle.typestate.specs.Levels.{touched_by}
use Rattle.typestate.specs.Removals.{is_root}
use Rattle.typestate.specs.declared.slot_changes.Removed.{Removed}
use Rattle.typestate.specs.declared.points.NotedSlots.{NotedSlots}
use Rattle.typestate.proofs.KeptChildren.{kept-below, kept-found}
use Rattle.typestate.proofs.OwnChanges.{any-own, hold-own}
use Rattle.typestate.proofs.Rising.{from-first}
use Rattle.typestate.proofs.SomeHeld.{changes-held, first-of, second-of}
use Rattle.typestate.proofs.UnlinkedSlots.{none-stays}
use Rattle.typestate.proofs.removal.Removal.has_kept.Goals as goal

-- either of the two tests is one of all slots
either : (n : NotedSlots) (which : Removed) (key : SlotKey) (touched : List NotedSlot) (first second : Bool) → touched ≡ touched_by n which
    → first ≡ list_any (λ (s : NotedSlot). option_map_or (kept_child (slots_of n) which key) (left_by s) false) touched
    → second ≡ list_any (λ (s : NotedSlot). option_map_or (kept_child (slots_of n) which key) (left_by s) false) (children_of n.changes.now key)
    → (first || second) ≡ list_any (kept_child (slots_of n) which key) (slots_of n)
either n which key touched first second told one other =
    let test : NotedSlot → Bool = kept_child (slots_of n) which key in
    let held : NotedSlot → Bool = λ s. option_map_or test (left_by s) false in
    ap (λ b. b || second) (one ∙ ap (list_any held) told) ∙ ap (λ b. list_any held (touched_by n which) || b) other ∙ kept-found n which key n.changes.now
    ∙ any-own test (slots_of n) n.changes.now (hold-own n.image.now n.changes.now 0 (from-first n.changes.now n.ordered))
    ∙ changes-held test n.image.now n.changes.now (from-first n.image.now n.rising) (none-stays (slots_of n) which key n.image.now n.unlinked)

-- the first test is one of all slots where all that descends from the slot goes
alone : (n : NotedSlots) (which : Removed) (key : SlotKey) (touched : List NotedSlot) (first : Bool) → touched ≡ touched_by n which → is_root which key ≡ true
    → first ≡ list_any (λ (s : NotedSlot). option_map_or (kept_child (slots_of n) which key) (left_by s) false) touched
    → first ≡ list_any (kept_child (slots_of n) which key) (slots_of n)
alone n which key touched first told root one =
    let test : NotedSlot → Bool = kept_child (slots_of n) which key in
    let held : NotedSlot → Bool = λ s. option_map_or test (left_by s) false in
    one ∙ ap (list_any held) told ∙ kept-below n which key root n.changes.now
    ∙ any-own test (slots_of n) n.changes.now (hold-own n.image.now n.changes.now 0 (from-first n.changes.now n.ordered))
    ∙ changes-held test n.image.now n.changes.now (from-first n.image.now n.rising) (none-stays (slots_of n) which key n.image.now n.unlinked)

pub returns-then-is_root : goal.returns-then-is_root
returns-then-is_root c =
    let r = c.args.self.now in
    alone r.slots r.which c.args.key r.touched.now _ r.told (sym c.is_root.ensures ∙ c.if-is_root.true) c.one_touched_stays-touched.ensures

pub returns-then-touched : goal.returns-then-touched
returns-then-touched c =
    let r = c.args.self.now in
    first-of c.one_touched_stays-touched.result c.one_child_stays-children.result _
    (either r.slots r.which c.args.key r.touched.now _ _ r.told c.one_touched_stays-touched.ensures c.one_child_stays-children.ensures) c.if-touched.true

pub returns-else-touched : goal.returns-else-touched
returns-else-touched c =
    let r = c.args.self.now in
    second-of c.one_touched_stays-touched.result c.one_child_stays-children.result _
    (either r.slots r.which c.args.key r.touched.now _ _ r.told c.one_touched_stays-touched.ensures c.one_child_stays-children.ensures) c.if-touched.false
