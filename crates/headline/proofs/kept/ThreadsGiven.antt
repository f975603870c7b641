-- What the rules on an accepted image say of a thread: its root table, the pages in which its program lies, and that its control
-- block is its own.
use Rattle.std.proofs.Common.{◌≡◌, ◌+◌, ◌*◌, ◌%◌, ◌^◌, ◌≤◌, true, false, Some, ap}
use Rattle.std.specs.Prelude.{Contains}
use Rattle.std.specs.List.{list_all}
use Rattle.std.proofs.lemmas.Bool.{eqb-true, ltb-false, not-false, or_parts}
use Rattle.headline.proofs.facts.Laws.{not-bad, root-original}
use Rattle.model.specs.Acceptance.Accepted.{IsWellFormed}
use Rattle.model.specs.Acceptance.ThreadInvariants.{root_table_of}
use Rattle.model.specs.Acceptance.ThreadRules.{is_bad, is_code, is_in_use, program_end}
use Rattle.model.specs.Capabilities.CapabilityKinds.{root_of}
use Rattle.model.specs.Images.Described.{Numbered, numbered_threads, original}
use Rattle.model.specs.Images.Fills.{program_pages}
use Rattle.model.specs.Images.Image.{Image}
use Rattle.model.specs.Kernel.AddressSpaces.{address_limit, page_size}

pub record IsGiven (image : Image) (t : Numbered) : Type 0 where
  pub root : root_of (original image t.thread.header.root) ≡ Some (root_table_of image t)
  pub pages : list_all (is_code image t.thread) (program_pages t.thread) ≡ true
  pub base : t.thread.header.base % page_size ≡ 0
  pub ends : t.thread.header.base + 4 * t.thread.header.words ≤ 2 ^ 31
  pub once : is_in_use image t.number t.thread ≡ false

-- ---- the whole

by-rule : (image : Image) (t : Numbered) → is_bad image t ≡ false → IsGiven image t
unfolding is_bad
by-rule image t is =
    let entry = or_parts _ _ is in
    let code = or_parts _ _ entry.0 in
    let end = or_parts _ _ code.0 in
    let base = or_parts _ _ end.0 in
    let guard = or_parts _ _ base.0 in
    let used = or_parts _ _ guard.0 in
    let root = or_parts _ _ used.0 in
    record {
      root = ap root_of (root-original image t.thread.header.root (not-false _ root.1));
      pages = not-false _ code.1;
      base = eqb-true (t.thread.header.base % page_size) 0 (not-false _ base.1);
      ends = ltb-false address_limit (program_end t.thread) end.1;
      once = used.1;
    }

pub given : (image : Image) (t : Numbered) → IsWellFormed image → Contains (numbered_threads image) t → IsGiven image t
given image t formed listed = by-rule image t (not-bad image t formed listed)
