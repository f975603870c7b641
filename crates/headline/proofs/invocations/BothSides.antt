-- Two maps of slots that derive alike inside a set of slots, and in which nothing outside derives from what is inside: what is above is
-- found alike.
use Rattle.std.proofs.Common.{ℕ, zero, suc, ◌≡◌, ◌∙◌, ◌==◌, ◌&&◌, ◌||◌, Bool, true, false, not, Option, Some, None, refl, sym, ap}
use Rattle.std.specs.Option.{option_map_or}
use Rattle.model.specs.Capabilities.Slots.{descends_within, parent_at}
use Rattle.model.specs.Kernel.Removal.{SlotSet, ancestor_outside, is_some_slot, loses_last_child}
use Rattle.model.specs.Kernel.State.{State}
use Rattle.removal_laws.proofs.Laws.{found, found-same, outside-in, outside-out, outside-zero}
use Rattle.headline.proofs.invocations.ParentsAway.{IsAway, StaysAway, above-away, ancestor-away, and-none, nothing-away, some-away, up-away}

-- one slot that is inside, or none on either side
pub data Meets (mine : SlotSet) (a b : Option ℕ) : Type 0 where
  one : (p : ℕ) → a ≡ Some p → b ≡ Some p → mine p ≡ true → Meets mine a b
  away : IsAway mine a → IsAway mine b → Meets mine a b

some-same : (mine : SlotSet) (slot : ℕ) (a b : Option ℕ) → mine slot ≡ true → Meets mine a b → is_some_slot slot a ≡ is_some_slot slot b
some-same mine slot a b own (one p first second there) = ap (is_some_slot slot) (first ∙ sym second)
some-same mine slot a b own (away first second) = some-away mine slot a own first ∙ sym (some-away mine slot b own second)

meets-by : (mine : SlotSet) (a b c d : Option ℕ) → a ≡ c → b ≡ d → Meets mine c d → Meets mine a b
meets-by mine a b c d first second (one p here there own) = one p (first ∙ here) (second ∙ there) own
meets-by mine a b c d first second (away here there) = away (λ p is. here p (sym first ∙ is)) (λ p is. there p (sym second ∙ is))

-- ---- both

module _ (mine : SlotSet) (s n : State) (out : StaysAway mine s.slots) (noted_out : StaysAway mine n.slots)
    (meets : (slot : ℕ) → mine slot ≡ true → Meets mine (parent_at s.slots slot) (parent_at n.slots slot)) where
  up-same : (k root : ℕ) (a b : Option ℕ) → mine root ≡ true → Meets mine a b
      → ((p : ℕ) → mine p ≡ true → descends_within k (parent_at s.slots) root p ≡ descends_within k (parent_at n.slots) root p)
      → option_map_or (λ p. p == root || descends_within k (parent_at s.slots) root p) a false
      ≡ option_map_or (λ p. p == root || descends_within k (parent_at n.slots) root p) b false
  up-same k root a b rooted (one p first second there) again =
      ap (λ o. option_map_or (λ p. p == root || descends_within k (parent_at s.slots) root p) o false) first
      ∙ ap (λ c. p == root || c) (again p there)
      ∙ sym (ap (λ o. option_map_or (λ p. p == root || descends_within k (parent_at n.slots) root p) o false) second)
  up-same k root a b rooted (away first second) again =
      up-away mine s.slots out k root a rooted first ∙ sym (up-away mine n.slots noted_out k root b rooted second)

  pub descends-same : (k root slot : ℕ) → mine root ≡ true → mine slot ≡ true
      → descends_within k (parent_at s.slots) root slot ≡ descends_within k (parent_at n.slots) root slot
  unfolding descends_within
  descends-same zero root slot rooted own = refl
  descends-same (suc k) root slot rooted own =
      up-same k root (parent_at s.slots slot) (parent_at n.slots slot) rooted (meets slot own) (λ p there. descends-same k root p rooted there)

  module _ (set noted_set : SlotSet) (same : (slot : ℕ) → mine slot ≡ true → set slot ≡ noted_set slot) where
    -- the nearest ancestor that stays
    pub ancestors-meet : (k : ℕ) (a b : Option ℕ) → Meets mine a b → Meets mine (ancestor_outside k set s.slots a) (ancestor_outside k noted_set n.slots b)
    ancestors-meet zero a b meet =
        meets-by mine _ _ None None (outside-zero set s.slots a) (outside-zero noted_set n.slots b) (away (nothing-away mine) (nothing-away mine))
    ancestors-meet (suc k) a b (away first second) =
        away (ancestor-away mine s.slots out (suc k) set a first) (ancestor-away mine n.slots noted_out (suc k) noted_set b second)
    ancestors-meet (suc k) a b (one p first second there) =
        elim (set p) as (λ x. set p ≡ x → Meets mine (ancestor_outside (suc k) set s.slots a) (ancestor_outside (suc k) noted_set n.slots b)) [
          | true ↦ λ is.
              meets-by mine _ _ (ancestor_outside k set s.slots (parent_at s.slots p)) (ancestor_outside k noted_set n.slots (parent_at n.slots p))
              (ap (ancestor_outside (suc k) set s.slots) first ∙ outside-in k set s.slots p is)
              (ap (ancestor_outside (suc k) noted_set n.slots) second ∙ outside-in k noted_set n.slots p (sym (same p there) ∙ is))
              (ancestors-meet k (parent_at s.slots p) (parent_at n.slots p) (meets p there))
          | false ↦ λ is.
              one p (ap (ancestor_outside (suc k) set s.slots) first ∙ outside-out k set s.slots p is)
              (ap (ancestor_outside (suc k) noted_set n.slots) second ∙ outside-out k noted_set n.slots p (sym (same p there) ∙ is)) there
        ] refl

    pub new-meets : (slot : ℕ) → mine slot ≡ true
        → Meets mine (ancestor_outside 256 set s.slots (parent_at s.slots slot)) (ancestor_outside 256 noted_set n.slots (parent_at n.slots slot))
    new-meets slot own = ancestors-meet 256 (parent_at s.slots slot) (parent_at n.slots slot) (meets slot own)

    -- whether a slot loses its last child
    abbrev went : SlotSet → State → ℕ → ℕ → Bool
    went gone x slot child = gone child && is_some_slot slot (parent_at x.slots child)

    abbrev stayed : SlotSet → State → ℕ → ℕ → Bool
    stayed gone x slot child = not (gone child) && is_some_slot slot (ancestor_outside 256 gone x.slots (parent_at x.slots child))

    went-away : (x : State) (gone : SlotSet) → StaysAway mine x.slots → (slot child : ℕ) → mine slot ≡ true → mine child ≡ false
        → went gone x slot child ≡ false
    went-away x gone beyond slot child own other =
        ap (λ b. gone child && b) (some-away mine slot (parent_at x.slots child) own (above-away mine x.slots beyond child other)) ∙ and-none (gone child)

    stayed-away : (x : State) (gone : SlotSet) → StaysAway mine x.slots → (slot child : ℕ) → mine slot ≡ true → mine child ≡ false
        → stayed gone x slot child ≡ false
    stayed-away x gone beyond slot child own other =
        ap (λ b. not (gone child) && b)
        (some-away mine slot (ancestor_outside 256 gone x.slots (parent_at x.slots child)) own
        (ancestor-away mine x.slots beyond 256 gone (parent_at x.slots child) (above-away mine x.slots beyond child other)))
        ∙ and-none (not (gone child))

    went-same : (slot child : ℕ) → mine slot ≡ true → went set s slot child ≡ went noted_set n slot child
    went-same slot child own = elim (mine child) as (λ b. mine child ≡ b → went set s slot child ≡ went noted_set n slot child) [
      | true ↦ λ here.
          ap (λ b. b && is_some_slot slot (parent_at s.slots child)) (same child here)
          ∙ ap (λ b. noted_set child && b) (some-same mine slot (parent_at s.slots child) (parent_at n.slots child) own (meets child here))
      | false ↦ λ there. went-away s set out slot child own there ∙ sym (went-away n noted_set noted_out slot child own there)
    ] refl

    stayed-same : (slot child : ℕ) → mine slot ≡ true → stayed set s slot child ≡ stayed noted_set n slot child
    stayed-same slot child own = elim (mine child) as (λ b. mine child ≡ b → stayed set s slot child ≡ stayed noted_set n slot child) [
      | true ↦ λ here.
          ap (λ b. not b && is_some_slot slot (ancestor_outside 256 set s.slots (parent_at s.slots child))) (same child here)
          ∙ ap (λ b. not (noted_set child) && b) (some-same mine slot _ _ own (new-meets child here))
      | false ↦ λ there. stayed-away s set out slot child own there ∙ sym (stayed-away n noted_set noted_out slot child own there)
    ] refl

    pub lost-same : s.memory_bits ≡ n.memory_bits → (slot : ℕ) → mine slot ≡ true → loses_last_child s set slot ≡ loses_last_child n noted_set slot
    lost-same memory slot own =
        ap (λ b. b && not (found s.memory_bits (stayed set s slot)))
        (found-same s.memory_bits (went set s slot) (went noted_set n slot) (λ child. went-same slot child own))
        ∙ ap (λ b. found s.memory_bits (went noted_set n slot) && not b)
        (found-same s.memory_bits (stayed set s slot) (stayed noted_set n slot) (λ child. stayed-same slot child own))
        ∙ ap (λ bits. found bits (went noted_set n slot) && not (found bits (stayed noted_set n slot))) memory
