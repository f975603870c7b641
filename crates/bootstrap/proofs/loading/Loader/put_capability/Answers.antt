-- By the call that the source asks for.
use Rattle.std.proofs.Common.{◌∙◌, [], ◌∷◌, ap, subst}
use Rattle.model.specs.Acceptance.WellFormed.{is_untyped_type}
use Rattle.model.specs.Images.BootCalls.{LoaderCall}
use Rattle.model.specs.Kernel.Outcomes.{GivesState}
use Rattle.bootstrap.proofs.CapabilityCalls.{mint-call, move-call}
use Rattle.bootstrap.specs.Loading.{called, progress_of}
use Rattle.bootstrap.proofs.loading.Loader.put_capability.Goals as goal

pub returns-then-is_untyped-clause-outcome : goal.returns-then-is_untyped-clause-outcome
returns-then-is_untyped-clause-outcome c =
    let call = move-call c.args.image.now.read.now c.args.entry c.object-cnode.result c.original_slot-slot.result c.source_boot_slot-source.result
    c.is_untyped.result c.object-cnode.ensures c.original_slot-slot.ensures c.source_boot_slot-source.ensures
    (c.is_untyped.ensures ∙ ap is_untyped_type c.source_type.ensures) c.if-is_untyped.true in
    subst (λ (it : LoaderCall). GivesState (called (progress_of c.args.self.now) (it ∷ [])) c.call.result (progress_of c.call.new.self)) call
    c.call.ensures.outcome

pub returns-else-is_untyped-clause-outcome : goal.returns-else-is_untyped-clause-outcome
returns-else-is_untyped-clause-outcome c =
    let call = mint-call c.args.image.now.read.now c.args.entry c.object-cnode.result c.original_slot-slot.result c.source_boot_slot-source.result
    c.is_untyped.result c.object-cnode.ensures c.original_slot-slot.ensures c.source_boot_slot-source.ensures
    (c.is_untyped.ensures ∙ ap is_untyped_type c.source_type.ensures) c.if-is_untyped.false in
    subst (λ (it : LoaderCall). GivesState (called (progress_of c.args.self.now) (it ∷ [])) c.call-else-is_untyped.result
    (progress_of c.call-else-is_untyped.new.self)) call c.call-else-is_untyped.ensures.outcome
