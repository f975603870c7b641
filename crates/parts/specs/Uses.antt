-- What threads take and what they may change, as lists of the numbers of objects, and parts by the numbers of their threads.
use Rattle.std.specs.Prelude.{ℕ, ◌≡◌, ◌==◌, ◌+◌, ◌<◌, ◌&&◌, ◌||◌, Bool, false, not, nat_lt, List, [], ◌∷◌, Some, slice_get}
use Rattle.std.specs.Int.{bit_at}
use Rattle.std.specs.List.{list_all, list_any, range_with_len}
use Rattle.headline.specs.parts.Parts.{Part, changes, takes}
use Rattle.model.specs.Acceptance.ThreadRules.{is_member}
use Rattle.model.specs.Images.Described.{numbered}
use Rattle.model.specs.Images.Image.{Image, Thread, no_buffer}
use Rattle.parts.specs.declared.uses.Uses.{Uses}

-- The part whose threads are those with a bit that is set: bit N is thread N of the image.
unfoldable pub part_of : Image → ℕ → Part
part_of image threads object =
    list_any (λ t. bit_at threads t.0 == 1 && (t.1).header.tcb == object) (numbered image.threads)

-- These are the numbers of what a thread takes, and of what it may change. They need not say anything of the number for no buffer.
pub record IsUse (image : Image) (t : Thread) (u : Uses) : Type 0 where
  pub tcb : u.tcb ≡ t.header.tcb
  pub priority : u.priority ≡ t.header.priority
  pub takes_these : (n : ℕ) → (n == no_buffer) ≡ false → is_member n u.takes ≡ takes image t n
  pub changes_these : (n : ℕ) → (n == no_buffer) ≡ false → is_member n u.changes ≡ changes image t n

-- So are these of threads, one by one, with their numbers from one on.
unfoldable pub AreUses : Image → ℕ → List Thread → List Uses → Type 0
AreUses image number [] [] = Unit {0}
AreUses image number (t ∷ threads) (u ∷ uses) = (u.number ≡ number) × IsUse image t u × AreUses image (number + 1) threads uses
AreUses image number [] (u ∷ uses) = ⊥
AreUses image number (t ∷ threads) [] = ⊥

-- The objects among these numbers are those that the thread with a number takes.
abbrev pub TakesThese : Image → ℕ → List ℕ → Type 0
TakesThese image number numbers =
    (t : Thread) (object : ℕ) → slice_get image.threads number ≡ Some t → object < image.header.objects → is_member object numbers ≡ takes image t object

-- Those that it may change.
abbrev pub ChangesThese : Image → ℕ → List ℕ → Type 0
ChangesThese image number numbers =
    (t : Thread) (object : ℕ) → slice_get image.threads number ≡ Some t → object < image.header.objects → is_member object numbers ≡ changes image t object

-- ---- the same by these numbers

-- whether the threads whose bits are set have a control block
abbrev pub is_part : ℕ → List Uses → Part
is_part threads all object = list_any (λ u. bit_at threads u.number == 1 && u.tcb == object) all

-- whether a thread of the part takes none of so many objects from a thread outside of it
abbrev pub is_separate : ℕ → ℕ → List Uses → Uses → Uses → Bool
is_separate objects threads all t u =
    not (is_part threads all t.tcb) || is_part threads all u.tcb
    || list_all (λ object. not (is_member object t.takes && is_member object u.changes)) (range_with_len 0 objects)

-- whether a thread of the part has a greater priority than a thread outside of it
abbrev pub is_high : ℕ → List Uses → Uses → Uses → Bool
is_high threads all t u = not (is_part threads all t.tcb) || is_part threads all u.tcb || nat_lt u.priority t.priority
