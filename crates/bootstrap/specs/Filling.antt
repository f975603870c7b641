-- Filling the frames of a program, page by page.
use Rattle.std.specs.Prelude.{ℕ, ◌≡◌, ◌+◌, ◌-◌, ◌*◌, ◌/◌, ◌<◌, Option, Some, option_and_then, List, [], ◌∷◌, length, map, slice_index}
use Rattle.std.specs.List.{range_with_len}
use Rattle.model.specs.Images.Fills.{page_fill}
use Rattle.model.specs.Images.Image.{Image, Thread}
use Rattle.model.specs.Images.Places.{offset_of}
use Rattle.model.specs.Kernel.AddressSpaces.{page_size}
use Rattle.model.specs.Kernel.Setup.{fill}
use Rattle.model.specs.Kernel.State.{State}

-- where so many objects lie
pub record ArePlaces (image : Image) (count : ℕ) (places : List ℕ) : Type 0 where
  pub size : length places ≡ count
  pub place : (number : ℕ) → number < count → slice_index places number ≡ offset_of image number

-- the part of a program that belongs to the page at an address, in the frame that is mapped there
abbrev pub page_filled : Image → Thread → State → ℕ → Option State
page_filled image t s address = option_and_then (λ f. fill s f.offset f.bytes) (page_fill image t address)

-- the same of several pages, if each can be filled
abbrev pub pages_filled : Image → Thread → State → List ℕ → Option State
pages_filled image t s [] = Some s
pages_filled image t s (address ∷ later) = option_and_then (λ filled. pages_filled image t filled later) (page_filled image t s address)

-- how many pages a program has
abbrev pub page_count : Thread → ℕ
page_count t = (4 * t.header.words + (page_size - 1)) / page_size

-- the addresses of a program's pages from one on
abbrev pub pages_from : Thread → ℕ → List ℕ
pages_from t n = map (λ page. t.header.base + page * page_size) (range_with_len n (page_count t - n))
