-- What maps a page is found among the slots that are named with it.
use Rattle.std.proofs.Common.{ℕ, ◌≡◌, ◌==◌, inl, inr, ◌||◌, Bool, true, false, if◌then◌else◌, Option, Some, None, option_and_then, List, [], ◌∷◌, refl, sym}
use Rattle.std.proofs.Common.{subst, arith}
use Rattle.std.specs.Prelude.{filter, option_map}
use Rattle.std.specs.List.{list_any}
use Rattle.std.specs.Option.{option_map_or}
use Rattle.std.proofs.lemmas.Bool.{and_parts, eqb-true, or_cases, or_left, or_right}
use Rattle.std.proofs.lemmas.Bool.Decides.{nat_tests}
use Rattle.model.specs.declared.capabilities.Cap.{Cap}
use Rattle.model.specs.declared.capabilities.Cap.TheVariants.{Empty, Untyped, Endpoint, Notification, Tcb, CNode, Frame, PageTable, RootTable, InterruptControl}
use Rattle.model.specs.declared.capabilities.Cap.TheVariants.{InterruptHandler}
use Rattle.model.specs.declared.capabilities.FrameMapping.{FrameMapping}
use Rattle.model.specs.declared.instructions.Access.{Access}
use Rattle.model.specs.Acceptance.NotedStates.{NotedSlot, number_of}
use Rattle.model.specs.Acceptance.PointRules.{holds_for}
use Rattle.model.specs.Capabilities.CapabilityKinds.{frame_mapping}
use Rattle.model.specs.Kernel.AddressSpaces.{MappedFrame, allows, is_page, maps_page, page_of}
use Rattle.typestate.specs.Families.{found}
use Rattle.typestate.specs.Left.{left_by}
use Rattle.typestate.specs.Orders.{Rise}
use Rattle.typestate.specs.Pages.{ArePaged, leaves_at, page_left}
use Rattle.typestate.proofs.Compared.{decided}
use Rattle.typestate.proofs.Linked.{from-here}
use Rattle.typestate.proofs.Rising.{from-first}
use Rattle.typestate.proofs.SomeHeld.{any-held}

module _ (test : NotedSlot → Bool) (changes : List NotedSlot) where
  -- whether the change to the slot of this number passes
  abbrev pub passes : ℕ → Bool
  passes n = option_map_or test (found changes n) false

  abbrev pub passes_at : ℕ × ℕ → Bool
  passes_at q = passes q.1

  some-at : (slots : List (ℕ × ℕ)) → list_any passes_at slots ≡ true → list_any test changes ≡ true
  some-at [] some = absurd (let clash : false ≡ true = some in cc)
  some-at (q ∷ rest) some = elim (or_cases (passes_at q) (list_any passes_at rest) some) [
    | inl here ↦ any-found changes q.1 here
    | inr later ↦ some-at rest later
  ]
    where
      any-found : (cs : List NotedSlot) (n : ℕ) → option_map_or test (found cs n) false ≡ true → list_any test cs ≡ true
      any-found [] n is = absurd (let clash : false ≡ true = is in cc)
      any-found (c ∷ more) n is = elim (number_of c.key == n) as (λ b. option_map_or test (if b then Some c else found more n) false ≡ true →
          (test c || list_any test more) ≡ true) [
            | true ↦ λ here. or_left (test c) (list_any test more) here
            | false ↦ λ later. or_right (test c) (list_any test more) (any-found more n later)
          ] is

  named-at : (slots : List (ℕ × ℕ)) (n : ℕ) → list_any (λ (q : ℕ × ℕ). q.1 == n) slots ≡ true → passes n ≡ true → list_any passes_at slots ≡ true
  named-at [] n some is = absurd (let clash : false ≡ true = some in cc)
  named-at (q ∷ rest) n some is = elim (or_cases (q.1 == n) (list_any (λ (q : ℕ × ℕ). q.1 == n) rest) some) [
    | inl same ↦ or_left (passes_at q) (list_any passes_at rest) (subst (λ k. passes k ≡ true) (sym (eqb-true q.1 n same)) is)
    | inr later ↦ or_right (passes_at q) (list_any passes_at rest) (named-at rest n later is)
  ]

  -- where what passes maps a page, those that are named with it are enough
  pub any-at-page : (page : ℕ) (slots : List (ℕ × ℕ)) → Rise changes → ArePaged changes slots → ((c : NotedSlot) → test c ≡ true → leaves_at page c ≡ true)
      → list_any passes_at (filter (λ (q : ℕ × ℕ). q.0 == page) slots) ≡ list_any test changes
  any-at-page page slots rises paged only =
      let named = filter (λ (q : ℕ × ℕ). q.0 == page) slots in
      decided (list_any passes_at named) (list_any test changes) (some-at named)
      (λ some.
      let held = any-held test changes 0 (from-first changes rises) some in
      let n = number_of held.key in
      named-at named n (from-here page slots n (paged page n (leaves (found changes n) held.holding))) held.holding)
    where
      leaves : (o : Option NotedSlot) → option_map_or test o false ≡ true → option_map_or (leaves_at page) o false ≡ true
      leaves None is = is
      leaves (Some c) is = only c is

-- ---- what maps a page

abbrev is_there : ℕ → Option FrameMapping → Bool
is_there page mapping = option_map_or (λ p. p == page) (option_map (λ m. m.page) mapping) false

page-mapped : (root page : ℕ) (mapping : Option FrameMapping) → option_map_or (is_page root page) mapping false ≡ true → is_there page mapping ≡ true
page-mapped root page None is = is
page-mapped root page (Some m) is = (and_parts (m.root == root) (m.page == page) is).1

page-reached : (root page : ℕ) (test : MappedFrame → Bool) (capability : Cap) → option_map_or test (page_of root page capability) false ≡ true →
    is_there page (frame_mapping capability) ≡ true
page-reached root page test Empty is = is
page-reached root page test (Untyped _ _ _) is = is
page-reached root page test (Endpoint _ _ _) is = is
page-reached root page test (Notification _ _ _) is = is
page-reached root page test (CNode _ _ _) is = is
page-reached root page test (Frame _ _ None) is = is
page-reached root page test (Frame offset _ (Some m)) is =
    elim (is_page root page m) as (λ b. is_page root page m ≡ b →
    option_map_or test (if b then Some (record { frame = offset; allowed = m.rights }) else None) false ≡ true → (m.page == page) ≡ true) [
      | true ↦ λ here _. (and_parts (m.root == root) (m.page == page) here).1
      | false ↦ λ _ clash. absurd (let no : false ≡ true = clash in cc)
    ] refl is
page-reached root page test (PageTable _ _) is = is
page-reached root page test (Tcb _) is = is
page-reached root page test (RootTable _) is = is
page-reached root page test InterruptControl is = is
page-reached root page test (InterruptHandler _) is = is

abbrev pub takes : ℕ → ℕ → NotedSlot → Bool
takes root page c = option_map_or (λ s. maps_page root page s.capability) (left_by c) false

abbrev pub holds : Access → ℕ → ℕ → NotedSlot → Bool
holds access root page c = option_map_or (holds_for access root page) (left_by c) false

pub takes-at-page : (root page : ℕ) (c : NotedSlot) → takes root page c ≡ true → leaves_at page c ≡ true
takes-at-page root page c is = of-held (left_by c) is
  where
    of-held : (held : Option NotedSlot) → option_map_or (λ s. maps_page root page s.capability) held false ≡ true →
        option_map_or (λ p. p == page) (option_and_then (λ s. option_map (λ m. m.page) (frame_mapping s.capability)) held) false ≡ true
    of-held None is = is
    of-held (Some s) is = page-mapped root page (frame_mapping s.capability) is

pub holds-at-page : (access : Access) (root page : ℕ) (c : NotedSlot) → holds access root page c ≡ true → leaves_at page c ≡ true
holds-at-page access root page c is = of-held (left_by c) is
  where
    of-held : (held : Option NotedSlot) → option_map_or (holds_for access root page) held false ≡ true →
        option_map_or (λ p. p == page) (option_and_then (λ s. option_map (λ m. m.page) (frame_mapping s.capability)) held) false ≡ true
    of-held None is = is
    of-held (Some s) is = page-reached root page (λ m. allows access m.allowed) s.capability is

-- a change that leaves one page leaves no other
pub pages-apart : (one : ℕ) (change : NotedSlot) (other : ℕ) → leaves_at one change ≡ false → leaves_at other change ≡ true → (one == other) ≡ false
pages-apart one change other off is = elim (page_left change) as (λ o. option_map_or (λ p. p == one) o false ≡ false →
    option_map_or (λ p. p == other) o false ≡ true → (one == other) ≡ false) [
      | None ↦ λ _ clash. absurd (let no : false ≡ true = clash in cc)
      | Some p ↦ λ apart here. apart-from p one other apart here
    ] off is
  where
    apart-from : (p a b : ℕ) → (p == a) ≡ false → (p == b) ≡ true → (a == b) ≡ false
    apart-from p a b off is = grind (arith, nat_tests)
