-- Well-formed images: the rules on threads, and the CNodes that a thread is given.
use Rattle.std.specs.Prelude.{ℕ, zero, suc, ◌==◌, ◌+◌, ◌*◌, ◌%◌, Bool, false, not, ◌&&◌, ◌||◌, nat_eq, nat_le, nat_lt, is_some, List, [], ◌∷◌, ◌++◌, flat_map}
use Rattle.std.specs.Prelude.{fold, length, take, if◌then◌else◌}
use Rattle.std.specs.Option.{option_map_or}
use Rattle.std.specs.List.{list_any, list_all}
use Rattle.model.specs.declared.entries.CapabilityEntry.{CapabilityEntry}
use Rattle.model.specs.declared.refusals.Refusal.TheVariants.{SharedCSpace, SharedVSpace, BadThread, BadBuffer}
use Rattle.model.specs.Kernel.AddressSpaces.{address_limit, page_size}
use Rattle.model.specs.Capabilities.CapabilityKinds.{is_guard_word}
use Rattle.model.specs.Images.Described.{Numbered, numbered_threads}
use Rattle.model.specs.Images.Fills.{frame_at, program_pages}
use Rattle.model.specs.Images.Image.{Image, Thread, no_buffer}
use Rattle.model.specs.Images.Places.{type_at}
use Rattle.model.specs.Acceptance.Rules.{Rule, refuse_if}
use Rattle.model.specs.Acceptance.WellFormed.{executes, is_frame_type, is_root_type, is_thread_type, radix_of, source_type}

abbrev pub is_member : ℕ → List ℕ → Bool
is_member number numbers = list_any (nat_eq number) numbers

-- ---- the CNodes that the image gives a thread: its root, and those that capabilities listed in such CNodes name

abbrev pub is_cnode_source : Image → ℕ → Bool
is_cnode_source image source = is_some (radix_of (source_type image source))

-- one CNode more, if a listed capability leads to it
abbrev pub with_named : Image → List ℕ → CapabilityEntry → List ℕ
with_named image found c =
    if is_member c.cnode found && is_cnode_source image c.source && not (is_member c.source found)
    then found ++ c.source ∷ []
    else found

-- what is reached by so many rounds over the listed capabilities
unfoldable pub reached_within : ℕ → Image → List ℕ → List ℕ
reached_within zero image found = found
reached_within (suc rounds) image found = reached_within rounds image (fold (with_named image) found image.capabilities)

-- each round that finds a CNode uses up a capability
unfoldable pub reached : Image → Thread → List ℕ
reached image t = reached_within (length image.capabilities) image (t.header.cnode ∷ [])

-- ---- rules

abbrev pub is_in_use : Image → ℕ → Thread → Bool
is_in_use image number t = list_any (λ u. u.header.tcb == t.header.tcb) (take number image.threads)

-- whether the thread's root is a CNode, and its guard word is valid for it
abbrev pub has_guard : Image → Thread → Bool
has_guard image t = option_map_or (λ radix. is_guard_word radix t.header.guard) (radix_of (type_at image t.header.cnode)) false

abbrev pub program_end : Thread → ℕ
program_end t = t.header.base + 4 * t.header.words

-- whether a page is mapped with execute under a thread's root table
abbrev pub is_code : Image → Thread → ℕ → Bool
is_code image t address = option_map_or executes (frame_at image t.header.root address) false

-- whether a thread's objects, program or entry do not fit; a thread's CNode has a radix
unfoldable pub is_bad : Image → Numbered → Bool
is_bad image t =
    let header = t.thread.header in
    not (is_thread_type (type_at image header.tcb)) || not (is_root_type (type_at image header.root))
    || is_in_use image t.number t.thread || not (has_guard image t.thread) || not (header.base % page_size == 0)
    || nat_lt address_limit (program_end t.thread) || not (list_all (is_code image t.thread) (program_pages t.thread))
    || nat_le header.words header.entry

-- an earlier thread reaches a CNode that this one reaches
unfoldable pub shares_cspace : Image → Numbered → Bool
shares_cspace image t =
    let earlier = flat_map (reached image) (take t.number image.threads) in
    list_any (λ cnode. is_member cnode earlier) (reached image t.thread)

-- a reached CNode holds a root table that is not the thread's
abbrev pub holds_other_root : Image → Thread → Bool
holds_other_root image t =
    let cnodes = reached image t in
    list_any (λ c. is_member c.cnode cnodes && is_root_type (source_type image c.source) && not (c.source == t.header.root)) image.capabilities

unfoldable pub shares_vspace : Image → Numbered → Bool
shares_vspace image t =
    list_any (λ u. u.header.root == t.thread.header.root) (take t.number image.threads) || holds_other_root image t.thread

-- no frame, an earlier thread's buffer, a capability's source, or a frame that the image maps with execute, under whatever root table
abbrev pub is_bad_buffer : Image → ℕ → ℕ → Bool
is_bad_buffer image number buffer =
    not (is_frame_type (type_at image buffer)) || list_any (λ u. u.header.buffer == buffer) (take number image.threads)
    || list_any (λ c. c.source == buffer) image.capabilities || list_any (λ f. f.frame == buffer && executes f) image.frames

unfoldable pub has_bad_buffer : Image → Numbered → Bool
has_bad_buffer image t = not (t.thread.header.buffer == no_buffer) && is_bad_buffer image t.number t.thread.header.buffer

abbrev pub rules_of_thread : Image → Numbered → List Rule
rules_of_thread image t =
    refuse_if (is_bad image t) (BadThread t.number) ∷ refuse_if (shares_cspace image t) (SharedCSpace t.number)
    ∷ refuse_if (shares_vspace image t) (SharedVSpace t.number) ∷ refuse_if (has_bad_buffer image t) (BadBuffer t.number) ∷ []

unfoldable pub thread_rules : Image → List Rule
thread_rules image = flat_map (rules_of_thread image) (numbered_threads image)
