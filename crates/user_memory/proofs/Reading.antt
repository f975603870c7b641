-- What reading and writing need, from a fact that is only known to be true.
use Rattle.std.proofs.Common.{ℕ, ◌≡◌, ◌∙◌, ◌/◌, ◌^◌, ◌<◌, Option, Some, None, IsSome, Result, Ok, Err, List, length, refl, sym, ap}
use Rattle.std.proofs.Math.Logic.{∥∥₁_elim}
use Rattle.std.specs.Coded.{coded_bool, coded_option, coded_ℕ, le_prop}
use base.Stored.{Coded-set}
use Rattle.std.specs.Option.{ok_or, option_map_or}
use Rattle.std.specs.Prelude.{slice_index}
use Rattle.model.specs.Capabilities.Slots.{OutsideSlots, Slots}
use Rattle.model.specs.Kernel.AddressSpaces.{place_under}
use Rattle.model.specs.Kernel.State.{State}
use Rattle.model.specs.Machine.ProgramMemory.{IsNamed, place_at, place_or_fault}
use Rattle.model.specs.Machine.Sv32.{page_fault, walk}
use Rattle.model.specs.declared.instructions.Access.{Access}
use Rattle.model.specs.declared.instructions.PageFault.{PageFault}
use Rattle.objects.specs.Tables.{Tables, state_of}
use Rattle.user_memory.proofs.Named.{named-mapped, place-inside, place-outside, place-some}
use Rattle.user_memory.proofs.Stored.{own-byte}
use Rattle.user_memory.specs.Views.{IsUsable, content_under}
use Rattle.vspace.proofs.Laws.{walk-place}

-- ---- places

module _ (s : State) (memory : List ℕ) (root : Option ℕ) (usable : ∥ IsUsable s memory root ∥₁) where
  walked : (table address : ℕ) (access : Access) → root ≡ Some table → address < 2 ^ 32 → walk memory table address access ≡ place_under s table access address
  walked table address access is small = ∥∥₁_elim usable (Coded-set (coded_option coded_ℕ) _ _)
      (λ u. walk-place s s.slots memory table address access u.near u.agrees.tables (u.rooted table is) small)

  module _ (place : ℕ) (is_named : IsNamed (content_under s root) place) where
    pub named-inside : place < length memory
    named-inside = ∥∥₁_elim usable le_prop (λ u. place-inside s memory root u place (named-mapped s root place is_named))

    pub named-some : IsSome (s.bytes place)
    named-some = ∥∥₁_elim usable (Coded-set coded_bool _ _) (λ u. place-some s memory root u place (named-mapped s root place is_named))

    pub named-outside : OutsideSlots s.slots place 1
    named-outside other low high = elim (s.slots (other / 16)) as (λ e. s.slots (other / 16) ≡ e → s.slots (other / 16) ≡ None) [
      | None ↦ λ none. none
      | Some e ↦ λ some. absurd (∥∥₁_elim usable (λ a b. absurd a)
          (λ u. let none = place-outside s memory place u.agrees named-some other low high in let clash : None ≡ Some e = sym none ∙ some in cc))
    ] refl

-- ---- answers

some-ok : (o : Option ℕ) (place : ℕ) → ok_or o page_fault ≡ Ok place → o ≡ Some place
some-ok None place is = absurd (let clash : Err page_fault ≡ Ok place = is in cc)
some-ok (Some found) place is = let same : Ok found ≡ Ok place = is in let e : found ≡ place = cc in ap Some e

none-err : (o : Option ℕ) (fault : PageFault) → ok_or o page_fault ≡ Err fault → o ≡ None
none-err None fault is = refl
none-err (Some found) fault is = absurd (let clash : Ok found ≡ Err fault = is in cc)

named-at : (o : Option ℕ) (access : Access) (address place : ℕ) → o ≡ Some place → place_or_fault o access address ≡ Ok place
named-at o access address place is = rw is refl

module _ (s : State) (memory : List ℕ) (root : Option ℕ) (table address : ℕ) (access : Access) (usable : ∥ IsUsable s memory root ∥₁) (is : root ≡ Some table)
    (small : address < 2 ^ 32) where
  place-of : (found : Option ℕ) → walk memory table address access ≡ found → (content_under s root).place access address ≡ found
  place-of found finds = (let at : (content_under s root).place access address ≡ place_under s table access address = rw is refl in at)
      ∙ sym (walked s memory root usable table address access is small) ∙ finds

  pub walk-ok : (result : Result ℕ PageFault) (place : ℕ) → result ≡ ok_or (walk memory table address access) page_fault → result ≡ Ok place
      → Ok place ≡ place_at (content_under s root) access address
  walk-ok result place walks found =
      sym (ap (λ (o : Option ℕ). place_or_fault o access address) (place-of (Some place) (some-ok _ place (sym walks ∙ found))))

  pub walk-err : (result : Result ℕ PageFault) (fault : PageFault) → result ≡ ok_or (walk memory table address access) page_fault → result ≡ Err fault
      → Err (record { address = address; access = access }) ≡ place_at (content_under s root) access address
  walk-err result fault walks found =
      sym (ap (λ (o : Option ℕ). place_or_fault o access address) (place-of None (none-err _ fault (sym walks ∙ found))))

-- the byte at a place that is named
pub byte-seen : (o : Tables) (slots : Slots) (memory : List ℕ) (root : Option ℕ) (place : ℕ) → ∥ IsUsable (state_of o slots memory) memory root ∥₁
    → IsNamed (content_under (state_of o slots memory) root) place
    → slice_index memory place ≡ option_map_or (λ byte. byte) ((state_of o slots memory).bytes place) 0
byte-seen o slots memory root place usable is =
    sym (ap (λ b. option_map_or (λ byte. byte) b 0) (own-byte o slots memory place (named-some (state_of o slots memory) memory root usable place is)))
