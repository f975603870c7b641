-- By the four rules on the thread, in their order.
use Rattle.std.proofs.Common.{◌≡◌, ◌∙◌, inr, sym, ap}
use Rattle.model.specs.declared.entries.ThreadHeader.{ThreadHeader}
use Rattle.model.specs.declared.refusals.Refusal.TheVariants.{BadBuffer, BadThread, SharedCSpace, SharedVSpace}
use Rattle.model.specs.Acceptance.Rules.{first_broken}
use Rattle.model.specs.Acceptance.ThreadRules.{has_bad_buffer, is_bad, rules_of_thread, shares_cspace, shares_vspace}
use Rattle.model.specs.Images.Described.{Numbered}
use Rattle.wellformed.specs.Answering.{with_buffer, with_number}
use Rattle.wellformed.proofs.RulesLeft.{ok_four, only_memory, rule_broken, rule_kept}
use Rattle.wellformed.proofs.ThreadSteps.{earlier-next, shares-cspace-is, shares-vspace-is}
use Rattle.wellformed.proofs.threads.check_thread.Goals as goal

pub returns-then-share_some-clause-rules : goal.returns-then-share_some-clause-rules
returns-then-share_some-clause-rules c =
    let image = c.args.image.now in
    let n = c.args.number in
    let e = c.args.earlier.now in
    let t : Numbered = record { number = n; thread = c.args.thread.now } in
    let cspace = shares-cspace-is image n t.thread c.in_ok-found.found e.tcbs e.roots e.cnodes e.buffers c.in_ok-found.ensures.found c.requires.earlier in
    inr (rule_kept (is_bad image t) (BadThread n) _ (sym c.is_bad.ensures ∙ c.if-is_bad.false)
    ∙ rule_broken (shares_cspace image t) (SharedCSpace n) _ (sym cspace ∙ sym c.share_some.ensures ∙ c.if-share_some.true))

pub returns-then-shares_vspace-clause-rules : goal.returns-then-shares_vspace-clause-rules
returns-then-shares_vspace-clause-rules c =
    let image = c.args.image.now in
    let n = c.args.number in
    let e = c.args.earlier.now in
    let t : Numbered = record { number = n; thread = c.args.thread.now } in
    let cspace = shares-cspace-is image n t.thread c.in_ok-found.found e.tcbs e.roots e.cnodes e.buffers c.in_ok-found.ensures.found c.requires.earlier in
    let root : c.header-header.result.root ≡ t.thread.header.root = ap (λ (h : ThreadHeader). h.root) c.header-header.ensures in
    let vspace = shares-vspace-is image n t.thread c.in_ok-found.found e.tcbs e.roots e.cnodes e.buffers c.header-header.result.root root
    c.in_ok-found.ensures.found c.requires.earlier in
    inr (rule_kept (is_bad image t) (BadThread n) _ (sym c.is_bad.ensures ∙ c.if-is_bad.false)
    ∙ rule_kept (shares_cspace image t) (SharedCSpace n) _ (sym cspace ∙ sym c.share_some.ensures ∙ c.if-share_some.false)
    ∙ rule_broken (shares_vspace image t) (SharedVSpace n) _ (sym vspace ∙ sym c.shares_vspace.ensures ∙ c.if-shares_vspace.true))

pub has_bad_buffer-requires : goal.has_bad_buffer-requires
has_bad_buffer-requires c = c.requires.earlier.have_buffers

pub returns-then-has_bad_buffer-clause-rules : goal.returns-then-has_bad_buffer-clause-rules
returns-then-has_bad_buffer-clause-rules c =
    let image = c.args.image.now in
    let n = c.args.number in
    let e = c.args.earlier.now in
    let t : Numbered = record { number = n; thread = c.args.thread.now } in
    let cspace = shares-cspace-is image n t.thread c.in_ok-found.found e.tcbs e.roots e.cnodes e.buffers c.in_ok-found.ensures.found c.requires.earlier in
    let root : c.header-header.result.root ≡ t.thread.header.root = ap (λ (h : ThreadHeader). h.root) c.header-header.ensures in
    let vspace = shares-vspace-is image n t.thread c.in_ok-found.found e.tcbs e.roots e.cnodes e.buffers c.header-header.result.root root
    c.in_ok-found.ensures.found c.requires.earlier in
    inr (rule_kept (is_bad image t) (BadThread n) _ (sym c.is_bad.ensures ∙ c.if-is_bad.false)
    ∙ rule_kept (shares_cspace image t) (SharedCSpace n) _ (sym cspace ∙ sym c.share_some.ensures ∙ c.if-share_some.false)
    ∙ rule_kept (shares_vspace image t) (SharedVSpace n) _ (sym vspace ∙ sym c.shares_vspace.ensures ∙ c.if-shares_vspace.false)
    ∙ rule_broken (has_bad_buffer image t) (BadBuffer n) _ (sym c.has_bad_buffer.ensures ∙ c.if-has_bad_buffer.true))

pub returns-clause-rules : goal.returns-clause-rules
returns-clause-rules c =
    let image = c.args.image.now in
    let n = c.args.number in
    let e = c.args.earlier.now in
    let t : Numbered = record { number = n; thread = c.args.thread.now } in
    let cspace = shares-cspace-is image n t.thread c.in_ok-found.found e.tcbs e.roots e.cnodes e.buffers c.in_ok-found.ensures.found c.requires.earlier in
    let root : c.header-header.result.root ≡ t.thread.header.root = ap (λ (h : ThreadHeader). h.root) c.header-header.ensures in
    let vspace = shares-vspace-is image n t.thread c.in_ok-found.found e.tcbs e.roots e.cnodes e.buffers c.header-header.result.root root
    c.in_ok-found.ensures.found c.requires.earlier in
    only_memory (first_broken (rules_of_thread image t)) c.note_thread.result
    (rule_kept (is_bad image t) (BadThread n) _ (sym c.is_bad.ensures ∙ c.if-is_bad.false)
    ∙ rule_kept (shares_cspace image t) (SharedCSpace n) _ (sym cspace ∙ sym c.share_some.ensures ∙ c.if-share_some.false)
    ∙ rule_kept (shares_vspace image t) (SharedVSpace n) _ (sym vspace ∙ sym c.shares_vspace.ensures ∙ c.if-shares_vspace.false)
    ∙ rule_kept (has_bad_buffer image t) (BadBuffer n) _ (sym c.has_bad_buffer.ensures ∙ c.if-has_bad_buffer.false))
    c.note_thread.ensures.memory

pub returns-clause-earlier : goal.returns-clause-earlier
returns-clause-earlier c =
    let image = c.args.image.now in
    let thread = c.args.thread.now in
    let e = c.args.earlier.now in
    let after = c.note_thread.new.earlier in
    ok_four c.note_thread.result c.note_thread.ensures.tcbs c.note_thread.ensures.roots c.note_thread.ensures.buffers c.note_thread.ensures.cnodes
    (λ tcbs roots buffers cnodes.
    earlier-next image c.args.number thread c.in_ok-found.found e.tcbs e.roots e.cnodes e.buffers after.tcbs after.roots after.cnodes after.buffers
    c.requires.there c.in_ok-found.ensures.found
    (tcbs ∙ ap (λ (h : ThreadHeader). with_number h.tcb e.tcbs) c.header-header.ensures)
    (roots ∙ ap (λ (h : ThreadHeader). with_number h.root e.roots) c.header-header.ensures)
    (buffers ∙ ap (λ (h : ThreadHeader). with_buffer h.buffer e.buffers) c.header-header.ensures) cnodes c.requires.earlier)
