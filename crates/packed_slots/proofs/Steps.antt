-- One step of the loops along the links.
use Rattle.std.proofs.Common.{ℕ, suc, ◌≡◌, ◌∙◌, ◌-◌, ◌<◌, ◌≤◌, if◌then◌else◌, Some, List, ap}
use Rattle.std.proofs.lemmas.Bool.{lt-ltb, le-ltb}
use Rattle.packed_slots.specs.Words.{depth_in, lowered_memory, next_in, with_link, word_of}
use Rattle.slots.specs.preorder.Chains.{Links, back_above}

pub back_step : (previous : Links) (depths : ℕ → ℕ) (n m limit slot : ℕ) → n ≡ suc m → limit ≤ depths slot
    → back_above previous depths n limit (Some slot) ≡ back_above previous depths m limit (previous slot)
back_step previous depths n m limit slot size le =
    ap (λ k. back_above previous depths k limit (Some slot)) size
    ∙ ap (λ b. if b then Some slot else back_above previous depths m limit (previous slot)) (le-ltb (depths slot) limit le)

pub back_found : (previous : Links) (depths : ℕ → ℕ) (n m limit slot : ℕ) → n ≡ suc m → depths slot < limit
    → back_above previous depths n limit (Some slot) ≡ Some slot
back_found previous depths n m limit slot size less =
    ap (λ k. back_above previous depths k limit (Some slot)) size
    ∙ ap (λ b. if b then Some slot else back_above previous depths m limit (previous slot)) (lt-ltb (depths slot) limit less)

pub lower_step : (depth n m slot : ℕ) (memory : List ℕ) → n ≡ suc m → depth < depth_in (word_of memory slot 2)
    → lowered_memory depth n (Some slot) memory
    ≡ lowered_memory depth m (next_in (word_of memory slot 2)) (with_link memory slot (next_in (word_of memory slot 2)) (depth_in (word_of memory slot 2) - 1))
unfolding lowered_memory
lower_step depth n m slot memory size deep =
    let word = word_of memory slot 2 in
    ap (λ k. lowered_memory depth k (Some slot) memory) size
    ∙ ap (λ b. if b then lowered_memory depth m (next_in word) (with_link memory slot (next_in word) (depth_in word - 1)) else memory)
    (lt-ltb depth (depth_in word) deep)
