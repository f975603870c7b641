-- By what the parts are.
use Rattle.std.proofs.Common.{◌≡◌, ◌∙◌, Some, List, [], sym, ap, subst}
use Rattle.std.specs.List.{list_any}
use Rattle.std.specs.Prelude.{slice_get}
use Rattle.model.specs.Acceptance.Accepted.{IsWellFormed}
use Rattle.model.specs.Acceptance.NotedStates.{NotedSlot, image_slots}
use Rattle.model.specs.Images.Image.{Image, Thread}
use Rattle.thread_spaces.proofs.thread_parts.ThreadParts.given.Goals as goal
use Rattle.typestate.proofs.Laws.{image-unlinked}
use Rattle.typestate.specs.Orders.{Rise}
use Rattle.typestate.specs.Strays.{is_stray_in}
use Rattle.typestate.specs.Unlinked.{AreUnlinked}
use Rattle.typestate.specs.declared.spaces.Space.{Space}

pub invariant_of-result : goal.invariant_of-result
invariant_of-result c =
    let owner = c.args.self.now.owner in
    let image = owner.placed.now.image.now in
    let t = owner.thread.now in
    let space : Space = c.space-space.result in
    let image-is = sym c.space-space.ensures.image in
    let thread-is = sym c.space-space.ensures.thread in
    let own = c.deref.ensures.value ∙ c.args.self.now.listed in
    record {
      well_formed = subst (λ (i : Image). IsWellFormed i) image-is owner.placed.now.formed;
      in_image = subst (λ (i : Image). slice_get i.threads owner.number ≡ Some space.thread.now) image-is
          (subst (λ (u : Thread). slice_get image.threads owner.number ≡ Some u) thread-is owner.listed);
      listed = own ∙ ap (λ (i : Image). image_slots i t) image-is ∙ ap (λ (u : Thread). image_slots space.image.now u) thread-is;
      sorted = subst (λ (l : List NotedSlot). Rise l) (sym c.deref.ensures.value) c.args.self.now.sorted;
      unlinked = subst (λ (l : List NotedSlot). AreUnlinked l) (sym own) (image-unlinked image t);
      decides_stray = c.lists_stray.ensures ∙ ap (λ (slots : List NotedSlot). list_any (is_stray_in space []) slots)
          (c.deref-2.ensures.value ∙ sym c.deref.ensures.value);
    }
