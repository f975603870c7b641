-- The pages that a thread reached lately.
use Rattle.std.specs.Prelude.{ℕ, ◌≡◌, ◌==◌, ◌+◌, ◌-◌, ◌/◌, ◌%◌, ◌^◌, ◌<◌, ◌≤◌, if◌then◌else◌, Option, Some, None, List, option_and_then, slice_set}
use Rattle.std.specs.List.{All, slice_get}
use Rattle.model.specs.Kernel.AddressSpaces.{content_of, vspace_of}
use Rattle.model.specs.Kernel.Kinds.{kind_at}
use Rattle.model.specs.Kernel.Retype.{NewThread}
use Rattle.model.specs.Kernel.Scheduling.{current}
use Rattle.model.specs.Kernel.State.{State}
use Rattle.model.specs.declared.instructions.Access.{Access}
use Rattle.model.specs.declared.instructions.Access.TheVariants.{Fetch, Load, Store}
use Rattle.user_memory.specs.declared.page.Page.{Page}
use Rattle.user_memory.specs.declared.pages.Pages.{Pages}

-- the place of an address, if it lies in a page, and if it lies in one of some
abbrev pub place_in : Page → ℕ → Option ℕ
place_in page address = if address / 2 ^ 12 == page.number then Some (page.base + address % 2 ^ 12) else None

abbrev pub place_among : List Page → ℕ → Option ℕ
place_among pages address = option_and_then (λ (page : Page). place_in page address) (slice_get pages (address / 2 ^ 12 % 4))

abbrev pub place_known : Pages → Access → ℕ → Option ℕ
place_known pages Fetch address = place_in pages.code address
place_known pages Load address = place_among pages.loads address
place_known pages Store address = place_among pages.stores address

-- one page more is kept for an access
abbrev pub with_page : Pages → Access → Page → Pages
with_page pages Fetch page = record pages { code = page }
with_page pages Load page = record pages { loads = slice_set pages.loads (page.number % 4) page }
with_page pages Store page = record pages { stores = slice_set pages.stores (page.number % 4) page }

-- no address lies in a page of this number
abbrev pub IsNone : Page → Type 0
IsNone page = page.number ≡ 2 ^ 20

-- the page of an address that has a place
pub record IsAround (address place : ℕ) (page : Page) : Type 0 where
  pub number : page.number ≡ address / 2 ^ 12
  pub least : address % 2 ^ 12 ≤ place
  pub base : page.base ≡ place - address % 2 ^ 12

-- an access reaches the bytes of a page from a place on
abbrev pub IsPage : State → ℕ → Access → Page → Type 0
IsPage s thread access page =
    (address : ℕ) → address < 2 ^ 32 → address / 2 ^ 12 ≡ page.number → (content_of s thread).place access address ≡ Some (page.base + address % 2 ^ 12)

-- the root table is a thread's, and each page is one of its
pub record AreOwn (s : State) (thread : ℕ) (pages : Pages) : Type 0 where
  pub root : pages.root ≡ vspace_of s thread
  pub code : IsPage s thread Fetch pages.code
  pub loads : All (IsPage s thread Load) pages.loads
  pub stores : All (IsPage s thread Store) pages.stores

-- a thread of which pages are kept is the current one
pub record IsUnderWay (s : State) (thread : ℕ) (pages : Pages) : Type 0 where
  pub near : thread < 2 ^ 24
  pub there : kind_at s thread ≡ Some NewThread
  pub is_current : current s ≡ Some thread
  pub own : AreOwn s thread pages
