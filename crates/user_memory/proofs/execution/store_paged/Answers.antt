-- What is found changes nothing, and a store changes bytes of frames alone.
use Rattle.std.proofs.Common.{◌≡◌, ◌∙◌, Option, ℕ, Ok, Err, ap, subst}
use Rattle.std.specs.Prelude.{MatchResult}
use Rattle.model.specs.Kernel.AddressSpaces.{with_content}
use Rattle.model.specs.Machine.ProgramMemory.{Content, stored}
use Rattle.objects.specs.Lives.{state_in}
use Rattle.user_memory.proofs.PagePlaces.{own-stays}
use Rattle.user_memory.specs.Views.{content_under}
use Rattle.user_memory.proofs.execution.store_paged.Goals as goal

pub returns-clause-content : goal.returns-clause-content
returns-clause-content g c =
    let slots = g.S.SlotMap.slots in
    let memory = g.S.SlotStore.memory in
    let s = state_in slots memory c.args.kernel.now in
    let now = state_in slots memory c.store.new.kernel in
    let root = c.find-place.new.pages.root in
    let same : content_under (state_in slots memory c.find-place.new.kernel) root ≡ content_under s root =
    ap (λ k. content_under (state_in slots memory k) root) c.find-place.ensures.unchanged in
    subst (λ (r : Option ℕ). MatchResult
    c.store.result
    (λ _. stored (content_under s r) c.args.size c.args.address c.args.value ≡ Ok (content_under now r))
    (λ fault. (stored (content_under s r) c.args.size c.args.address c.args.value ≡ Err fault) × (content_under now r ≡ content_under s r)))
    c.find-place.ensures.pages.root
    (subst (λ (x : Content). MatchResult
    c.store.result
    (λ _. stored x c.args.size c.args.address c.args.value ≡ Ok (content_under now root))
    (λ fault. (stored x c.args.size c.args.address c.args.value ≡ Err fault) × (content_under now root ≡ x))) same c.store.ensures.content)

pub returns-clause-pages : goal.returns-clause-pages
returns-clause-pages g c =
    let slots = g.S.SlotMap.slots in
    let memory = g.S.SlotStore.memory in
    let now = state_in slots memory c.store.new.kernel in
    let left = content_under now c.find-place.new.pages.root in
    own-stays (state_in slots memory c.args.kernel.now) c.args.thread c.find-place.new.pages c.find-place.ensures.pages now left
    (c.store.ensures.state ∙ ap (λ k. with_content (state_in slots memory k) left) c.find-place.ensures.unchanged)
