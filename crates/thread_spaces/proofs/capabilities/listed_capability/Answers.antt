-- By the entry of the object.
use Rattle.std.proofs.Common.{◌≡◌, ◌∙◌, ◌<◌, sym, ap, subst, arith}
use Rattle.model.specs.declared.capabilities.Cap.{Cap}
use Rattle.model.specs.declared.entries.ImageHeader.{ImageHeader}
use Rattle.model.specs.Capabilities.CapabilityWords.{IsCapability}
use Rattle.model.specs.Images.Described.{limited, listed_capability}
use Rattle.thread_spaces.proofs.DescribedSlots.{listed-valid}
use Rattle.thread_spaces.proofs.ListedCapabilities.{listed-object, rights-few}
use Rattle.thread_spaces.proofs.capabilities.listed_capability.Goals as goal

pub returns-then-header-entry-clause-valid : goal.returns-then-header-entry-clause-valid
returns-then-header-entry-clause-valid c =
    subst (λ (held : Cap). IsCapability held) (sym c.handler.ensures)
    (listed-valid c.args.placed.now.image.now c.header.ensures.fits c.args.placed.now.formed c.args.entry c.requires.listed)

pub limited-requires : goal.limited-requires
limited-requires c = rights-few c.args.placed.now.image.now c.args.entry c.header.ensures.fits c.args.placed.now.formed c.requires.listed

pub returns-clause-value : goal.returns-clause-value
returns-clause-value c =
    let objects = ap (λ (h : ImageHeader). h.objects) c.header.ensures.value in
    let less : c.args.entry.source < c.args.placed.now.image.now.header.objects = (let behind = c.if-header-entry.false in omega (arith, behind, objects)) in
    c.limited.ensures
    ∙ ap (λ (held : Cap). limited held c.args.entry.rights c.args.entry.payload) c.first_capability-capability.ensures
    ∙ listed-object c.args.placed.now.image.now c.args.entry c.header.ensures.fits c.args.placed.now.formed c.requires.listed c.object_of-object.result _ less
    c.object_of-object.ensures.there (c.args.placed.now.placed.place c.args.entry.source less)

pub returns-clause-valid : goal.returns-clause-valid
returns-clause-valid c =
    let objects = ap (λ (h : ImageHeader). h.objects) c.header.ensures.value in
    let less : c.args.entry.source < c.args.placed.now.image.now.header.objects = (let behind = c.if-header-entry.false in omega (arith, behind, objects)) in
    let value : c.limited.result ≡ listed_capability c.args.placed.now.image.now c.args.entry =
    c.limited.ensures
    ∙ ap (λ (held : Cap). limited held c.args.entry.rights c.args.entry.payload) c.first_capability-capability.ensures
    ∙ listed-object c.args.placed.now.image.now c.args.entry c.header.ensures.fits c.args.placed.now.formed c.requires.listed c.object_of-object.result _ less
    c.object_of-object.ensures.there (c.args.placed.now.placed.place c.args.entry.source less) in
    subst (λ (held : Cap). IsCapability held) (sym value)
    (listed-valid c.args.placed.now.image.now c.header.ensures.fits c.args.placed.now.formed c.args.entry c.requires.listed)
