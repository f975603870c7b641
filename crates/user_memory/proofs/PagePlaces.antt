-- A page has its bytes one after the other, and what is kept of pages stays while bytes of frames change.
use Rattle.std.proofs.Common.{ℕ, List, ◌≡◌, ◌∙◌, ◌+◌, ◌-◌, ◌/◌, ◌%◌, ◌^◌, ◌<◌, ◌≤◌, inl, inr, Bool, true, false, if◌then◌else◌, Option, Some, None, Ok}
use Rattle.std.proofs.Common.{refl, ap, subst, sym, arith}
use Rattle.std.specs.Prelude.{option_and_then}
use Rattle.std.specs.List.{All, slice_get}
use Rattle.std.proofs.lemmas.Bool.Decides.{eqb_tells}
use Rattle.std.proofs.lemmas.List.Elements.{All-set}
use Rattle.std.proofs.lemmas.Option.{get_or_from_slice_get, slice_get_within}
use Rattle.model.specs.Kernel.AddressSpaces.{allows, content_of, mapped, page_size, place_in, place_under, vspace_of, with_content}
use Rattle.model.specs.Kernel.State.{State}
use Rattle.model.specs.Machine.ProgramMemory.{Content, place_at, place_or_fault}
use Rattle.model.specs.declared.instructions.Access.{Access}
use Rattle.model.specs.declared.instructions.Access.TheVariants.{Fetch, Load, Store}
use Rattle.user_memory.proofs.Named.{and-then, place-found}
use Rattle.user_memory.specs.KeptPages.{AreOwn, IsAround, IsNone, IsPage, IsUnderWay, place_among, place_known, with_page}
use Rattle.user_memory.specs.KeptPages as kept
use Rattle.user_memory.specs.Views.{IsFound, content_under}
use Rattle.user_memory.specs.declared.page.Page.{Page}
use Rattle.user_memory.specs.declared.pages.Pages.{Pages}

-- ---- one page

other-in_page : (b : Bool) (at place next want : ℕ) → (if b then Some at else None) ≡ Some place → (at ≡ place → next ≡ want) →
    (if b then Some next else None) ≡ Some want
other-in_page true at place next want is goes = let same : Some at ≡ Some place = is in let e : at ≡ place = cc in ap Some (goes e)
other-in_page false at place next want is goes = absurd (let clash : None ≡ Some place = is in cc)

page-places : (s : State) (root : Option ℕ) (access : Access) (a place b : ℕ) → (content_under s root).place access a ≡ Some place → a % 2 ^ 12 ≤ place
    → b / 2 ^ 12 ≡ a / 2 ^ 12
    → (content_under s root).place access b ≡ Some (place - a % 2 ^ 12 + b % 2 ^ 12)
page-places s root access a place b is least page =
    let table = and-then (λ (table : ℕ). place_under s table access a) root place is in
    let at = and-then (place_in access a) (mapped s table.0 (a / page_size)) place table.2 in
    ap (option_and_then (λ (table : ℕ). place_under s table access b)) table.1
    ∙ ap (λ (n : ℕ). option_and_then (place_in access b) (mapped s table.0 n)) page
    ∙ ap (option_and_then (place_in access b)) at.1
    ∙ other-in_page (allows access at.0.allowed) (at.0.frame + a % page_size) place (at.0.frame + b % page_size) (place - a % 2 ^ 12 + b % 2 ^ 12) at.2
    (λ same. omega (arith, same, least))

-- the page around an address whose place is known
pub is-page : (s : State) (thread : ℕ) (access : Access) (a place : ℕ) (page : Page) → Ok place ≡ place_at (content_of s thread) access a
    → IsAround a place page → IsPage s thread access page
is-page s thread access a place page found around = λ b small number.
    page-places s (vspace_of s thread) access a place b
    (place-found ((content_of s thread).place access a) access a place (sym found)) around.least (number ∙ around.number)
    ∙ ap (λ (n : ℕ). Some (n + b % 2 ^ 12)) (sym around.base)

none-page : (s : State) (thread : ℕ) (access : Access) (page : Page) → IsNone page → IsPage s thread access page
none-page s thread access page none = λ address small number. absurd (omega (arith, small, number, none))

-- what an address has in a page
found-in : (s : State) (thread : ℕ) (access : Access) (page : Page) (address place : ℕ) → address < 2 ^ 32 → IsPage s thread access page
    → kept.place_in page address ≡ Some place → Ok place ≡ place_at (content_of s thread) access address
found-in s thread access page address place small is gives = elim (eqb_tells (address / 2 ^ 12) page.number) [
  | inl here ↦
      let at : Some (page.base + address % 2 ^ 12) ≡ Some place =
      sym (ap (λ (b : Bool). if b then Some (page.base + address % 2 ^ 12) else None) here.0) ∙ gives in
      sym (ap (λ (o : Option ℕ). place_or_fault o access address) (is address small here.1 ∙ at))
  | inr other ↦
      let clash : None ≡ Some place = sym (ap (λ (b : Bool). if b then Some (page.base + address % 2 ^ 12) else None) other.0) ∙ gives in
      absurd (cc)
]

-- ---- several pages

all-less : {X : Type 0} (P Q : X → Type 0) → ((x : X) → P x → Q x) → (xs : List X) → All P xs → All Q xs
all-less P Q goes xs all = λ k d less. goes _ (all k d less)

found-among : (s : State) (thread : ℕ) (access : Access) (pages : List Page) (address place : ℕ) → address < 2 ^ 32 → All (IsPage s thread access) pages
    → place_among pages address ≡ Some place → Ok place ≡ place_at (content_of s thread) access address
found-among s thread access pages address place small all gives =
    let one = and-then (λ (page : Page). kept.place_in page address) (slice_get pages (address / 2 ^ 12 % 4)) place gives in
    found-in s thread access one.0 address place small
    (subst (IsPage s thread access) (get_or_from_slice_get pages (address / 2 ^ 12 % 4) one.0 one.0 one.1)
    (all (address / 2 ^ 12 % 4) one.0 (slice_get_within pages (address / 2 ^ 12 % 4) one.0 one.1))) one.2

module _ (s : State) (thread : ℕ) (pages : Pages) where
  pub none-own : pages.root ≡ vspace_of s thread → IsNone pages.code → All IsNone pages.loads → All IsNone pages.stores → AreOwn s thread pages
  none-own own code loads stores = record {
    root = own;
    code = none-page s thread Fetch pages.code code;
    loads = all-less IsNone (IsPage s thread Load) (none-page s thread Load) pages.loads loads;
    stores = all-less IsNone (IsPage s thread Store) (none-page s thread Store) pages.stores stores;
  }

  module _ (own : AreOwn s thread pages) where
    pub found-known : (access : Access) (address : ℕ) → address < 2 ^ 32 → IsFound (content_of s thread) access address (place_known pages access address)
    found-known Fetch address small = λ place gives. found-in s thread Fetch pages.code address place small own.code gives
    found-known Load address small = λ place gives. found-among s thread Load pages.loads address place small own.loads gives
    found-known Store address small = λ place gives. found-among s thread Store pages.stores address place small own.stores gives

    pub own-more : (access : Access) (page : Page) → IsPage s thread access page → AreOwn s thread (with_page pages access page)
    own-more Fetch page is = record { root = own.root; code = is; loads = own.loads; stores = own.stores }
    own-more Load page is = record {
      root = own.root;
      code = own.code;
      loads = All-set (IsPage s thread Load) pages.loads (page.number % 4) page is own.loads;
      stores = own.stores;
    }
    own-more Store page is = record {
      root = own.root;
      code = own.code;
      loads = own.loads;
      stores = All-set (IsPage s thread Store) pages.stores (page.number % 4) page is own.stores;
    }

    -- an instruction changes bytes of frames alone
    pub own-stays : (now : State) (content : Content) → now ≡ with_content s content → AreOwn now thread pages
    own-stays now content goes = subst (λ (x : State). AreOwn x thread pages) (sym goes) (record {
      root = own.root;
      code = λ a small is. own.code a small is;
      loads = all-less (IsPage s thread Load) (IsPage (with_content s content) thread Load) (λ page is. λ a small number. is a small number) pages.loads
          own.loads;
      stores = all-less (IsPage s thread Store) (IsPage (with_content s content) thread Store) (λ page is. λ a small number. is a small number) pages.stores
          own.stores;
    })

-- the current thread stays so
pub stays-ready : (s now : State) (thread : ℕ) (first pages : Pages) (content : Content) → now ≡ with_content s content → IsUnderWay s thread first
    → AreOwn now thread pages → IsUnderWay now thread pages
stays-ready s now thread first pages content goes ready own =
    let there = subst (λ (x : State). IsUnderWay x thread first) (sym goes)
    (record {
      near = ready.near;
      there = ready.there;
      is_current = ready.is_current;
      own = own-stays s thread first ready.own (with_content s content) content refl;
    }) in
    record { near = there.near; there = there.there; is_current = there.is_current; own = own }
