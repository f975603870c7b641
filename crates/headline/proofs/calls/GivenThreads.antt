-- What the rules on threads say of a thread of an accepted image: where its program begins.
use Rattle.std.proofs.Common.{◌≡◌, ◌==◌, ◌%◌, false, None, arith}
use Rattle.std.specs.Prelude.{Contains}
use Rattle.std.proofs.lemmas.Bool.{eqb-true, not-false, or_parts}
use Rattle.headline.proofs.facts.Laws.{kept-among}
use Rattle.model.specs.declared.refusals.Refusal.TheVariants.{BadThread}
use Rattle.model.specs.Acceptance.Accepted.{AreKept}
use Rattle.model.specs.Acceptance.ThreadRules.{is_bad, rules_of_thread, thread_rules}
use Rattle.model.specs.Images.Described.{Numbered, numbered_threads}
use Rattle.model.specs.Images.Image.{Image}
use Rattle.model.specs.Kernel.AddressSpaces.{page_size}
use Rattle.soundness.proofs.Laws.{not-refused}

-- ---- where the program begins

pages-of : (image : Image) (t : Numbered) → is_bad image t ≡ false → t.thread.header.base % page_size ≡ 0
unfolding is_bad
pages-of image t is =
    let entry = or_parts _ _ is in
    let pages = or_parts _ _ entry.0 in
    let end = or_parts _ _ pages.0 in
    let base = or_parts _ _ end.0 in
    eqb-true (t.thread.header.base % page_size) 0 (not-false (t.thread.header.base % page_size == 0) base.1)

pub base-aligned : (image : Image) (t : Numbered) → AreKept (thread_rules image) → Contains (numbered_threads image) t → t.thread.header.base % 4 ≡ 0
unfolding thread_rules
base-aligned image t kept listed =
    let own = kept-among (rules_of_thread image) (numbered_threads image) t listed.0 kept listed.1 listed.2 in
    let page : t.thread.header.base % page_size ≡ 0 = pages-of image t (not-refused (is_bad image t) (BadThread t.number) (own 0 None (omega arith))) in
    omega (arith, page)
