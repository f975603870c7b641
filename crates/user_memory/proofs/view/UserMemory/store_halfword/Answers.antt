-- The second byte lies after the first, in the same page, and its place stays while the first is put there.
use Rattle.std.proofs.Common.{◌≡◌, ◌∙◌, ◌+◌, Ok, refl, sym, ap, arith, subst}
use Rattle.std.specs.Prelude.{slice_index}
use Rattle.model.specs.Machine.ProgramMemory.{Content, IsNamed, place_at, put_byte}
use Rattle.model.specs.declared.instructions.Access.TheVariants.{Store}
use Rattle.objects.specs.Lives.{state_in}
use Rattle.user_memory.proofs.Halves.{half-stored, second}
use Rattle.user_memory.specs.Views.{content_under}
use Rattle.user_memory.proofs.view.UserMemory.store_halfword.Goals as goal

pub set_byte-requires-in-Some : goal.set_byte-requires-in-Some
set_byte-requires-in-Some g c =
    let view = c.args.self.now in
    let s = state_in g.S.SlotMap.slots g.S.SlotStore.memory view.kernel.now in
    let place = c.in-Some.place in
    let found : place_at (content_under s view.root) Store c.args.address ≡ Ok place = sym (c.requires place c.in-Some.is) in
    subst (λ (x : Content). IsNamed x (place + 1)) (sym c.set_byte.ensures.content) (record {
      access = Store;
      address = c.args.address + 1;
      names = second s view.root Store c.args.address place c.if-address-ne0.false (omega (arith, c.ranges.address.fits)) found (c.args.address + 1) refl;
    })

pub returns-in-Some-clause-content : goal.returns-in-Some-clause-content
returns-in-Some-clause-content g c =
    let view = c.args.self.now in
    let s = state_in g.S.SlotMap.slots g.S.SlotStore.memory view.kernel.now in
    let place = c.in-Some.place in
    let bytes = c.to_le_bytes-bytes.result in
    let found : place_at (content_under s view.root) Store c.args.address ≡ Ok place = sym (c.requires place c.in-Some.is) in
    let first = c.set_byte.ensures.content in
    let both = c.set_byte-in-Some.ensures.content ∙ ap (λ (x : Content). put_byte x (place + 1) (slice_index bytes 1)) first in
    half-stored s view.root c.args.address place c.args.value c.if-address-ne0.false (omega (arith, c.ranges.address.fits)) found
    bytes c.to_le_bytes-bytes.ensures
    ∙ ap Ok (sym both)
