-- The bytes lie in the address space, or the access is not allowed.
use Rattle.std.proofs.Common.{rules, ℤ, ◌≡◌, ◌∙◌, ◌+ℤ◌, pos, ap, of_z, to_z, w32}
use Rattle.std.specs.Int.{byte_len}
use Rattle.model.specs.Acceptance.PointRules.{is_allowed}
use Rattle.model.specs.Machine.ProgramMemory.{width_of}
use Rattle.typestate.specs.Differences.{slots_of}
use Rattle.program_rules.proofs.point_rules.reach.Pages.reaches.Goals as goal

pub returns-clause-is : goal.returns-clause-is
returns-clause-is c =
    let image = c.args.self.now.image.now in
    let t = c.args.self.now.thread.now in
    let slots = slots_of c.args.self.now.slots in
    let bytes = c.args.bytes in
    let is : c.are_mapped.result ≡ is_allowed image t slots c.args.access c.width.result c.moved-least.result c.moved-greatest.result = search rules in
    let offset : to_z w32 (of_z w32 bytes.offset) ≡ bytes.offset = search rules in
    is ∙ (λ i. is_allowed image t slots c.args.access (c.width.ensures.value i) (c.moved-least.ensures.value i) (c.moved-greatest.ensures.value i))
    ∙ ap (λ (z : ℤ). is_allowed image t slots c.args.access (byte_len (width_of bytes.size)) (pos bytes.range.low +ℤ z) (pos bytes.range.high +ℤ z)) offset
