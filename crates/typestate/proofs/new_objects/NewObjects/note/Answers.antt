-- One slot more.
use Rattle.std.proofs.Common.{ℕ, ◌∙◌, ◌++◌, ◌∷◌, List, [], map, sym, ap, arith}
use Rattle.std.specs.List.{range_with_len}
use Rattle.std.proofs.lemmas.List.{append_assoc}
use Rattle.std.proofs.lemmas.List.FromFn.{map-range_with_len_more}
use Rattle.model.specs.Acceptance.NotedStates.{NotedSlot}
use Rattle.model.specs.Kernel.ObjectTypes.{new_type}
use Rattle.typestate.specs.Pools.{slot_made}
use Rattle.typestate.proofs.new_objects.NewObjects.note.Goals as goal

pub loop-i-preserved : goal.loop-i-preserved
loop-i-preserved c =
    let f : ℕ → NotedSlot = slot_made c.args.self.now.slots.first c.args.self.now.pool (new_type c.args.self.now.kind) c.args.self.now.offset in
    let i = c.loop-i.i in
    let before = c.args.made.now.items in
    let so = map f (range_with_len 0 i) in
    record {
      within = omega (arith, c.loop-i-test.true);
      made = c.in_ok-push.ensures.items ∙ ap (λ (l : List NotedSlot). l ++ c.made_slot.result ∷ []) c.loop-i.invariant.made
          ∙ ap (λ (s : NotedSlot). (before ++ so) ++ s ∷ []) c.made_slot.ensures
          ∙ append_assoc before so (f i ∷ [])
          ∙ ap (λ (l : List NotedSlot). before ++ l) (sym (map-range_with_len_more f 0 i i (omega arith)));
    }
