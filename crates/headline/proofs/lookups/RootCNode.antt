-- The root of the capability space of a thread of a well-formed image is one of the thread's CNodes.
use Rattle.std.proofs.Common.{ℕ, ◌≡◌, ◌∙◌, ◌==◌, ◌%◌, ◌&&◌, ◌||◌, Bool, true, false, not, nat_le, nat_lt, Option, Some, None, refl, ap}
use Rattle.std.specs.Prelude.{Contains}
use Rattle.std.specs.Option.{option_map_or}
use Rattle.std.specs.List.{find, list_all}
use Rattle.std.proofs.lemmas.Bool.{eq-eqb, false≢true, not-false, or_parts}
use Rattle.headline.proofs.facts.Laws.{not-bad}
use Rattle.model.specs.declared.capabilities.Cap.TheVariants.{Empty, CNode}
use Rattle.model.specs.declared.entries.TableEntry.{TableEntry}
use Rattle.model.specs.Acceptance.Accepted.{IsWellFormed}
use Rattle.model.specs.Acceptance.NotedKernel.{noted_root}
use Rattle.model.specs.Acceptance.NotedStates.{is_own_cnode}
use Rattle.model.specs.Acceptance.ThreadRules.{has_guard, is_bad, is_code, is_in_use, program_end, reached}
use Rattle.model.specs.Acceptance.WellFormed.{is_root_type, is_thread_type, radix_of}
use Rattle.model.specs.Capabilities.CapabilityKinds.{is_guard_word, with_payload}
use Rattle.model.specs.Images.Described.{Numbered, numbered_threads}
use Rattle.model.specs.Images.Fills.{program_pages}
use Rattle.model.specs.Images.Image.{Image, Thread}
use Rattle.model.specs.Images.Places.{offset_of, type_at}
use Rattle.model.specs.Kernel.AddressSpaces.{address_limit, page_size}
use Rattle.model.specs.Kernel.Retype.{NewObject, NewUntyped, NewThread, NewEndpoint, NewNotification, NewCNode, NewFrame, NewPageTable, NewRootTable}
use Rattle.model.specs.Kernel.Retype.{first_capability}
use Rattle.typestate.specs.Spaces.{is_among}
use Rattle.thread_spaces.proofs.Laws.{member-any, root-reached}
use Rattle.soundness.proofs.Laws.{mapped_by}

-- ---- the rules on the thread are kept

-- the fourth of the tests on a thread; the others are of no matter here
guard-kept : (image : Image) (t : Numbered) → is_bad image t ≡ false → has_guard image t.thread ≡ true
unfolding is_bad
guard-kept image t good =
    let header = t.thread.header in
    let first = not (is_thread_type (type_at image header.tcb)) || not (is_root_type (type_at image header.root)) || is_in_use image t.number t.thread in
    let guard = not (has_guard image t.thread) in
    let base = not (header.base % page_size == 0) in
    let ends = nat_lt address_limit (program_end t.thread) in
    let code = not (list_all (is_code image t.thread) (program_pages t.thread)) in
    let a = or_parts (first || guard || base || ends || code) (nat_le header.words header.entry) good in
    let b = or_parts (first || guard || base || ends) code a.0 in
    let c = or_parts (first || guard || base) ends b.0 in
    let d = or_parts (first || guard) base c.0 in
    not-false (has_guard image t.thread) (or_parts first guard d.0).1

-- ---- the thread's CNode

record HasRadix (kind : Option NewObject) : Type 0 where
  pub radix : ℕ
  pub is : kind ≡ Some (NewCNode radix)

has-radix : (kind : Option NewObject) (guard : ℕ) → option_map_or (λ radix. is_guard_word radix guard) (radix_of kind) false ≡ true → HasRadix kind
has-radix None guard is = absurd (false≢true is)
has-radix (Some (NewUntyped bits)) guard is = absurd (false≢true is)
has-radix (Some NewThread) guard is = absurd (false≢true is)
has-radix (Some NewEndpoint) guard is = absurd (false≢true is)
has-radix (Some NewNotification) guard is = absurd (false≢true is)
has-radix (Some (NewCNode radix)) guard is = record { radix = radix; is = refl }
has-radix (Some NewFrame) guard is = absurd (false≢true is)
has-radix (Some NewPageTable) guard is = absurd (false≢true is)
has-radix (Some NewRootTable) guard is = absurd (false≢true is)

unmapped-cnode : (image : Image) (found : Option TableEntry) (offset radix guard : ℕ)
    → with_payload (mapped_by image found (first_capability (NewCNode radix) offset)) guard ≡ CNode offset radix guard
unmapped-cnode image None offset radix guard = refl
unmapped-cnode image (Some t) offset radix guard = refl

root-is : (image : Image) (t : Thread) (radix : ℕ) → type_at image t.header.cnode ≡ Some (NewCNode radix)
    → noted_root image t ≡ CNode (offset_of image t.header.cnode) radix t.header.guard
root-is image t radix is =
    let found = find (λ u. u.table == t.header.cnode) image.tables in
    let offset = offset_of image t.header.cnode in
    ap (λ (kind : Option NewObject). with_payload (mapped_by image found (option_map_or (λ k. first_capability k offset) kind Empty)) t.header.guard) is
    ∙ unmapped-cnode image found offset radix t.header.guard

-- ---- together

pub root-own : (image : Image) (t : Numbered) → IsWellFormed image → Contains (numbered_threads image) t
    → is_among (is_own_cnode image (reached image t.thread)) (noted_root image t.thread) ≡ true
root-own image t formed listed =
    let cnode = t.thread.header.cnode in
    let offset = offset_of image cnode in
    let of = has-radix (type_at image cnode) t.thread.header.guard (guard-kept image t (not-bad image t formed listed)) in
    let is_it : ℕ → Bool = λ c. (offset_of image c == offset) && option_map_or (λ own. own == of.radix) (radix_of (type_at image c)) false in
    let passes : is_it cnode ≡ true =
    ap (λ b. b && option_map_or (λ own. own == of.radix) (radix_of (type_at image cnode)) false) (eq-eqb offset offset refl)
    ∙ ap (λ (kind : Option NewObject). option_map_or (λ own. own == of.radix) (radix_of kind) false) of.is ∙ eq-eqb of.radix of.radix refl in
    ap (is_among (is_own_cnode image (reached image t.thread))) (root-is image t.thread of.radix of.is)
    ∙ member-any is_it (reached image t.thread) cnode (root-reached image t.thread) passes
