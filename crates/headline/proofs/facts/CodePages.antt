-- The page of each address of a thread's program, and the frame that is mapped there.
use Rattle.std.proofs.Common.{ℕ, zero, suc, ◌≡◌, ◌∙◌, ◌==◌, ◌+◌, ◌-◌, ◌*◌, ◌/◌, ◌%◌, ◌<◌, ◌≤◌, ◌&&◌, inl, inr, Bool, true, false, if◌then◌else◌, List, [], ◌∷◌}
use Rattle.std.proofs.Common.{map, Option, Some, None, find, refl, sym, ap, subst, arith}
use Rattle.std.specs.Prelude.{Contains, option_and_then, slice_get}
use Rattle.std.specs.Option.{option_map_or}
use Rattle.std.specs.List.{list_all, range_with_len}
use Rattle.std.proofs.lemmas.Bool.{and_parts, cases_eq, eqb-true}
use Rattle.std.proofs.lemmas.Option.{slice_get_within, get_or_from_slice_get}
use Rattle.headline.proofs.facts.MappedPages.{page-mapped, page-maps}
use Rattle.model.specs.declared.entries.FrameEntry.{FrameEntry}
use Rattle.model.specs.declared.instructions.Access.{Access}
use Rattle.model.specs.declared.rights.Rights.{Rights}
use Rattle.model.specs.Acceptance.ThreadRules.{is_code}
use Rattle.model.specs.Acceptance.WellFormed.{executes}
use Rattle.model.specs.Images.Described.{Numbered}
use Rattle.model.specs.Images.Fills.{frame_at, program_pages}
use Rattle.model.specs.Images.Image.{Image}
use Rattle.model.specs.Kernel.AddressSpaces.{MappedFrame, Maps, allows, content_of, mapped, page_size, place_in, place_under, vspace_of}
use Rattle.model.specs.Kernel.Soundness.{IsSound}
use Rattle.model.specs.Kernel.State.{State}

-- ---- what an address names

-- a frame that an address names for an access
pub record NamesFrame (s : State) (root : ℕ) (access : Access) (address place : ℕ) : Type 0 where
  pub frame : ℕ
  pub allowed : Rights
  pub maps : Maps s.slots root (address / page_size) frame allowed
  pub permits : allows access allowed ≡ true
  pub place_is : place ≡ frame + address % page_size

pub names-frame : (s : State) (thread root : ℕ) (access : Access) (address place : ℕ) → vspace_of s thread ≡ Some root
    → (content_of s thread).place access address ≡ Some place
    → NamesFrame s root access address place
names-frame s thread root access address place vspace named =
    by-page (mapped s root (address / page_size)) refl (sym (ap (option_and_then (λ r. place_under s r access address)) vspace) ∙ named)
  where
    by-test : (m : MappedFrame) → mapped s root (address / page_size) ≡ Some m → (b : Bool) → allows access m.allowed ≡ b
        → (if b then Some (m.frame + address % page_size) else None) ≡ Some place → NamesFrame s root access address place
    by-test m there true permits is = record {
      frame = m.frame;
      allowed = m.allowed;
      maps = page-maps s root (address / page_size) m.frame m.allowed there;
      permits = permits;
      place_is = sym (let both : Some (m.frame + address % page_size) ≡ Some place = is in cc);
    }
    by-test m there false permits is = absurd (let clash : None ≡ Some place = is in cc)

    by-page : (o : Option MappedFrame) → mapped s root (address / page_size) ≡ o → option_and_then (place_in access address) o ≡ Some place
        → NamesFrame s root access address place
    by-page (Some m) there is = by-test m there (allows access m.allowed) refl is
    by-page None there is = absurd (let clash : None ≡ Some place = is in cc)

-- and back
pub frame-named : (s : State) (thread root : ℕ) (access : Access) (address frame : ℕ) (allowed : Rights) → IsSound s → vspace_of s thread ≡ Some root
    → Maps s.slots root (address / page_size) frame allowed
    → allows access allowed ≡ true → (content_of s thread).place access address ≡ Some (frame + address % page_size)
frame-named s thread root access address frame allowed sound vspace maps permits =
    ap (option_and_then (λ r. place_under s r access address)) vspace
    ∙ ap (option_and_then (place_in access address)) (page-mapped s root (address / page_size) frame allowed sound maps)
    ∙ ap (λ b. if b then Some (frame + address % page_size) else None) permits

-- a page has one frame
pub one-frame : (s : State) (root page frame other : ℕ) (allowed permitted : Rights) → IsSound s → Maps s.slots root page frame allowed
    → Maps s.slots root page other permitted
    → frame ≡ other
one-frame s root page frame other allowed permitted sound first second =
    let one = page-mapped s root page frame allowed sound first in
    let two = page-mapped s root page other permitted sound second in
    ap (λ (o : Option MappedFrame). option_map_or (λ m. m.frame) o 0) (sym one ∙ two)

-- ---- the entry that maps the page of an address of the program

pub record IsProgramPage (image : Image) (t : Numbered) (address : ℕ) : Type 0 where
  pub item : ℕ
  pub entry : FrameEntry
  pub at : slice_get image.frames item ≡ Some entry
  pub listed : Contains image.frames entry
  pub root : entry.root ≡ t.thread.header.root
  pub address_is : entry.address ≡ address / page_size * page_size
  pub executes_so : executes entry ≡ true

pub find-entry : {A : Type 0} (test : A → Bool) (xs : List A) (x : A) → find test xs ≡ Some x → (k : ℕ) × (slice_get xs k ≡ Some x) × (test x ≡ true)
find-entry test [] x is = absurd (let clash : None ≡ Some x = is in cc)
find-entry test (y ∷ ys) x is = elim (test y) as (λ b. test y ≡ b → (if b then Some y else find test ys) ≡ Some x
    → (k : ℕ) × (slice_get (y ∷ ys) k ≡ Some x) × (test x ≡ true)) [
      | true ↦ λ passes here. let same : y ≡ x = cc in (0, here, ap test (sym same) ∙ passes)
      | false ↦ λ _ later. let there = find-entry test ys x later in (suc there.0, there.1, there.2)
    ] refl is

mapped-all : (f : ℕ → ℕ) (test : ℕ → Bool) (from count k : ℕ) → list_all test (map f (range_with_len from count)) ≡ true → from ≤ k → k < from + count
    → test (f k) ≡ true
mapped-all f test from zero k h low high = absurd (omega (arith, low, high))
mapped-all f test from (suc count) k h low high =
    let parts = and_parts (test (f from)) (list_all test (map f (range_with_len (from + 1) count))) h in
    elim (cases_eq from k) [
      | inl here ↦ subst (λ (n : ℕ). test (f n) ≡ true) here parts.0
      | inr other ↦ mapped-all f test (from + 1) count k parts.1 (omega (arith, low, other)) (omega (arith, high))
    ]

page-index : (base words offset : ℕ) → offset < 4 * words → offset / 4096 < (4 * words + 4095) / 4096
page-index base words offset inside = omega (arith, inside)

page-base : (base offset : ℕ) → base % 4096 ≡ 0 → base + offset / 4096 * 4096 ≡ (base + offset) / 4096 * 4096
page-base base offset aligned = omega (arith, aligned)

pub program-page : (image : Image) (t : Numbered) (offset : ℕ) → list_all (is_code image t.thread) (program_pages t.thread) ≡ true
    → t.thread.header.base % page_size ≡ 0
    → offset < 4 * t.thread.header.words
    → IsProgramPage image t (t.thread.header.base + offset)
program-page image t offset code aligned inside =
    let base = t.thread.header.base in
    let page = offset / page_size in
    let count = (4 * t.thread.header.words + (page_size - 1)) / page_size in
    let test : is_code image t.thread (base + page * page_size) ≡ true =
    mapped-all (λ n. base + n * page_size) (is_code image t.thread) 0 count page code (omega arith)
    (let less = page-index base t.thread.header.words offset inside in omega (arith, less)) in
    by-entry (frame_at image t.thread.header.root (base + page * page_size)) refl test
  where
    by-entry : (o : Option FrameEntry) → frame_at image t.thread.header.root (t.thread.header.base + offset / page_size * page_size) ≡ o
        → option_map_or executes o false ≡ true
        → IsProgramPage image t (t.thread.header.base + offset)
    by-entry None there is = absurd (let clash : false ≡ true = is in cc)
    by-entry (Some f) there is =
        let at =
        find-entry (λ g. g.root == t.thread.header.root && g.address == (t.thread.header.base + offset / page_size * page_size)) image.frames f there in
        let parts = and_parts (f.root == t.thread.header.root) (f.address == (t.thread.header.base + offset / page_size * page_size)) at.2 in
        record {
          item = at.0;
          entry = f;
          at = at.1;
          listed = (at.0, slice_get_within image.frames at.0 f at.1, get_or_from_slice_get image.frames at.0 f f at.1);
          root = eqb-true f.root t.thread.header.root parts.0;
          address_is = eqb-true f.address (t.thread.header.base + offset / page_size * page_size) parts.1 ∙ page-base t.thread.header.base offset aligned;
          executes_so = is;
        }

-- ---- rules with a condition

pub implied : (a b : Bool) → (a && b) ≡ false → a ≡ true → b ≡ false
implied true b none is = none
implied false b none is = absurd (let clash : false ≡ true = is in cc)
