-- It is a word that is stored, or a byte.
use Rattle.std.proofs.Common.{◌∙◌, Ok, ap, sym}
use Rattle.model.specs.Machine.ProgramMemory.{stored}
use Rattle.model.specs.declared.instructions.AccessSize.{AccessSize}
use Rattle.objects.specs.Lives.{state_in}
use Rattle.user_memory.proofs.Halves.{byte-stored}
use Rattle.user_memory.specs.Views.{content_under}
use Rattle.user_memory.proofs.view.UserMemory.store_found.Goals as goal

pub returns-in-Some-clause-content : goal.returns-in-Some-clause-content
returns-in-Some-clause-content g c =
    let view = c.args.self.now in
    ap (λ (size : AccessSize). stored (content_under (state_in g.S.SlotMap.slots g.S.SlotStore.memory view.kernel.now) view.root) size c.args.address
    c.args.value) c.in-Word.is
    ∙ c.put_word.ensures.content

pub returns-in-Some-place-clause-content : goal.returns-in-Some-place-clause-content
returns-in-Some-place-clause-content g c =
    let view = c.args.self.now in
    let content = content_under (state_in g.S.SlotMap.slots g.S.SlotStore.memory view.kernel.now) view.root in
    ap (λ (size : AccessSize). stored content size c.args.address c.args.value) c.in-Byte.is
    ∙ byte-stored content c.args.address c.in-Some-place.place c.args.value c.to_le_bytes-bytes.result (c.requires c.in-Some-place.place c.in-Some-place.is)
    c.to_le_bytes-bytes.ensures
    ∙ ap Ok (sym c.set_byte.ensures.content)
