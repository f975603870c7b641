-- Slots that no change names are as the image lists them.
use Rattle.std.proofs.Common.{ℕ, zero, suc, ◌≡◌, ◌∙◌, ◌+◌, ◌<◌, ◌≤◌, ◌||◌, Bool, Option, None, List, is_some, refl, sym, ap, arith}
use Rattle.std.specs.List.{list_any, range_with_len}
use Rattle.model.specs.Acceptance.NotedStates.{NotedSlot, SlotKey, number_of, slot_at}
use Rattle.typestate.specs.Differences.{changed}
use Rattle.typestate.specs.Families.{found}
use Rattle.typestate.specs.Orders.{Rise}
use Rattle.typestate.specs.Pools.{some_full}
use Rattle.typestate.proofs.OrderedChanges.{changed-at, found_or}
use Rattle.typestate.proofs.Rising.{from-first}

same-any : (f g : ℕ → Bool) (a n : ℕ) → ((i : ℕ) → i < n → f (a + i) ≡ g (a + i)) → list_any f (range_with_len a n) ≡ list_any g (range_with_len a n)
same-any f g a zero each = refl
same-any f g a (suc n) each =
    let here : a ≡ a + 0 = omega arith in
    ap (λ b. b || list_any f (range_with_len (a + 1) n)) (ap f here ∙ each 0 (omega arith) ∙ ap g (sym here))
    ∙ ap (λ b. g a || b) (same-any f g (a + 1) n (λ i less.
    let next : a + 1 + i ≡ a + suc i = omega arith in
    ap f next ∙ each (suc i) (omega (arith, less)) ∙ ap g (sym next)))

pub none-changed : (image changes : List NotedSlot) (first : SlotKey) (count : ℕ) → Rise changes
    → ((n : ℕ) → number_of first ≤ n → n < number_of first + count → found changes n ≡ None)
    → some_full image first count ≡ some_full (changed image changes) first count
none-changed image changes first count rises none =
    let key : ℕ → SlotKey = λ i. record { cnode = first.cnode; index = first.index + i } in
    same-any (λ i. is_some (slot_at image (key i))) (λ i. is_some (slot_at (changed image changes) (key i))) 0 count (λ i less.
    ap (λ (o : Option NotedSlot). is_some o)
    (sym (changed-at changes image 0 (key (0 + i)) (from-first changes rises)
    ∙ ap (λ (o : Option NotedSlot). found_or o (slot_at image (key (0 + i))))
    (none (number_of (key (0 + i))) (omega arith) (omega (arith, less))))))
