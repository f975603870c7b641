-- What stays a child of a slot is a child already, or was derived from what goes.
use Rattle.std.proofs.Common.{ℕ, ◌≡◌, ◌∙◌, ◌==◌, ◌||◌, ◌&&◌, Bool, true, false, not, is_some, if◌then◌else◌, Option, Some, None, option_and_then, List, [], ◌∷◌}
use Rattle.std.proofs.Common.{refl, sym, ap, subst}
use Rattle.std.specs.List.{filter, list_any}
use Rattle.std.specs.Option.{option_map_or}
use Rattle.std.proofs.lemmas.Bool.{eq-eqb, eqb-true}
use Rattle.model.specs.Acceptance.NotedStates.{NotedSlot, SlotKey, is_same_key, number_of, slot_at}
use Rattle.typestate.specs.ChangeLists.{kept_child}
use Rattle.typestate.specs.Differences.{slots_of}
use Rattle.typestate.specs.Families.{has_parent}
use Rattle.typestate.specs.Left.{left_by}
use Rattle.typestate.specs.Levels.{all_below, hangs_below, named, touched_by}
use Rattle.typestate.specs.Removals.{is_root, may_lose}
use Rattle.typestate.specs.SlotChanges.{heir, is_parent, is_removed, noted_outside, noted_parent}
use Rattle.typestate.specs.declared.points.NotedSlots.{NotedSlots}
use Rattle.typestate.specs.declared.slot_changes.Removed.{Removed}
use Rattle.typestate.specs.declared.slot_changes.Removed.TheVariants.{One, Below}
use Rattle.typestate.proofs.LevelByLevel.{listed-goes}
use Rattle.typestate.proofs.SomeHeld.{held-any}
use Rattle.typestate.proofs.Standing.{found-key}

-- those that pass a third test are among those that pass one of two
pub any-either : (g t u : NotedSlot → Bool) → ((c : NotedSlot) → g c ≡ true → (t c || u c) ≡ true) → (cs : List NotedSlot) →
    (list_any g (filter t cs) || list_any g (filter u cs)) ≡ list_any g cs
any-either g t u so [] = refl
any-either g t u so (c ∷ rest) =
    step (any-either g t u so rest) (g c) (t c) (u c) (so c) refl
  where
    or-true : (b : Bool) → (b || true) ≡ true
    or-true true = refl
    or-true false = refl

    step : (list_any g (filter t rest) || list_any g (filter u rest)) ≡ list_any g rest → (x y z : Bool) → (x ≡ true → (y || z) ≡ true) → g c ≡ x →
        (list_any g (if y then c ∷ filter t rest else filter t rest) || list_any g (if z then c ∷ filter u rest else filter u rest)) ≡ (g c || list_any g rest)
    step more true true z one is = ap (λ b. (b || list_any g (filter t rest)) || list_any g (if z then c ∷ filter u rest else filter u rest)) is
        ∙ sym (ap (λ b. b || list_any g rest) is)
    step more true false true one is = ap (λ b. list_any g (filter t rest) || (b || list_any g (filter u rest))) is ∙ or-true (list_any g (filter t rest))
        ∙ sym (ap (λ b. b || list_any g rest) is)
    step more true false false one is = absurd (let clash : false ≡ true = one refl in cc)
    step more false true true one is = ap (λ b. (b || list_any g (filter t rest)) || (b || list_any g (filter u rest))) is ∙ more
        ∙ sym (ap (λ b. b || list_any g rest) is)
    step more false true false one is = ap (λ b. (b || list_any g (filter t rest)) || list_any g (filter u rest)) is ∙ more
        ∙ sym (ap (λ b. b || list_any g rest) is)
    step more false false true one is = ap (λ b. list_any g (filter t rest) || (b || list_any g (filter u rest))) is ∙ more
        ∙ sym (ap (λ b. b || list_any g rest) is)
    step more false false false one is = more ∙ sym (ap (λ b. b || list_any g rest) is)

pub any-some : (g t : NotedSlot → Bool) → ((c : NotedSlot) → g c ≡ true → t c ≡ true) → (cs : List NotedSlot) → list_any g (filter t cs) ≡ list_any g cs
any-some g t so [] = refl
any-some g t so (c ∷ rest) = elim (t c) as (λ b. t c ≡ b → list_any g (if b then c ∷ filter t rest else filter t rest) ≡ (g c || list_any g rest)) [
  | true ↦ λ _. ap (λ b. g c || b) (any-some g t so rest)
  | false ↦ λ isnt. any-some g t so rest ∙ sym (ap (λ b. b || list_any g rest) (off (g c) (so c) isnt))
] refl
  where
    off : (b : Bool) → (b ≡ true → t c ≡ true) → t c ≡ false → b ≡ false
    off true one isnt = absurd (let clash : true ≡ false = sym (one refl) ∙ isnt in cc)
    off false one isnt = refl

module _ (n : NotedSlots) (which : Removed) (key : SlotKey) where
  abbrev slots : List NotedSlot
  slots = slots_of n

  abbrev hangs : Option NotedSlot → Bool
  hangs o = hangs_below (named which) (all_below n which) o

  and-second : (a b : Bool) → (a && b) ≡ true → b ≡ true
  and-second true b is = is
  and-second false b is = absurd (let clash : false ≡ true = is in cc)

  gone-hangs : (w : Removed) (p : SlotKey) → is_removed slots w p ≡ true → (is_same_key p (named w) || is_some (slot_at (all_below n w) p)) ≡ true
  gone-hangs (One gone) p is = ap (λ b. b || false) (eq-eqb (number_of p) (number_of gone) (sym (eqb-true (number_of gone) (number_of p) is)))
  gone-hangs (Below root) p is = or-second (is_same_key p root) (is_some (slot_at (all_below n (Below root)) p)) (listed-goes n root 256 p ∙ is)
    where
      or-second : (a b : Bool) → b ≡ true → (a || b) ≡ true
      or-second true b is = refl
      or-second false b is = is

  kept-among : (c : NotedSlot) → option_map_or (kept_child slots which key) (left_by c) false ≡ true → (hangs (left_by c) || has_parent key (left_by c)) ≡ true
  unfolding kept_child noted_outside
  kept-among c is = elim (left_by c) as (λ o. option_map_or (kept_child slots which key) o false ≡ true → (hangs o || has_parent key o) ≡ true) [
    | None ↦ λ clash. absurd (let no : false ≡ true = clash in cc)
    | Some s ↦ λ holds. by-parent s.parent (and-second (not (is_removed slots which s.key)) (is_parent key (heir (is_removed slots which) slots s)) holds)
  ] is
    where
      second : (a b : Bool) → b ≡ true → (a || b) ≡ true
      second true b is = refl
      second false b is = is

      by-parent : (o : Option SlotKey) → is_parent key (noted_outside 256 (is_removed slots which) slots o) ≡ true
          → (option_map_or (λ p. is_same_key p (named which) || is_some (slot_at (all_below n which) p)) o false
          || option_map_or (λ p. number_of p == number_of key) o false) ≡ true
      by-parent None clash = absurd (let no : false ≡ true = clash in cc)
      by-parent (Some p) holds = elim (is_removed slots which p) as (λ b. is_removed slots which p ≡ b
          → is_parent key (if b then noted_outside 255 (is_removed slots which) slots (noted_parent slots p) else Some p) ≡ true
          → ((is_same_key p (named which) || is_some (slot_at (all_below n which) p)) || (number_of p == number_of key)) ≡ true) [
            | true ↦ λ gone _. ap (λ b. b || (number_of p == number_of key)) (gone-hangs which p gone)
            | false ↦ λ _ same. second (is_same_key p (named which) || is_some (slot_at (all_below n which) p)) (number_of p == number_of key) same
          ] refl holds

  pub kept-found : (cs : List NotedSlot) → (list_any (λ c. option_map_or (kept_child slots which key) (left_by c) false) (filter (λ c. hangs (left_by c)) cs)
      || list_any (λ c. option_map_or (kept_child slots which key) (left_by c) false) (filter (λ c. has_parent key (left_by c)) cs))
      ≡ list_any (λ c. option_map_or (kept_child slots which key) (left_by c) false) cs
  kept-found cs = any-either (λ c. option_map_or (kept_child slots which key) (left_by c) false) (λ c. hangs (left_by c)) (λ c. has_parent key (left_by c))
      kept-among cs

-- a child of the root hangs below it
lost-found : (n : NotedSlots) (root key : SlotKey) → may_lose (slots_of n) (Below root) key ≡ true → (cs : List NotedSlot)
    → list_any (λ c. option_map_or (λ s. is_removed (slots_of n) (Below root) s.key && is_parent key s.parent) (left_by c) false)
    (filter (λ c. hangs_below root (all_below n (Below root)) (left_by c)) cs)
    ≡ list_any (λ c. option_map_or (λ s. is_removed (slots_of n) (Below root) s.key && is_parent key s.parent) (left_by c) false) cs
lost-found n root key may cs =
    any-some (λ c. option_map_or (λ s. is_removed (slots_of n) (Below root) s.key && is_parent key s.parent) (left_by c) false)
    (λ c. hangs_below root (all_below n (Below root)) (left_by c)) (λ c is. by-left (left_by c) is) cs
  where
    by-left : (o : Option NotedSlot) → option_map_or (λ s. is_removed (slots_of n) (Below root) s.key && is_parent key s.parent) o false ≡ true →
        hangs_below root (all_below n (Below root)) o ≡ true
    by-left None clash = clash
    by-left (Some s) is = by-parent s.parent (second (is_removed (slots_of n) (Below root) s.key) (is_parent key s.parent) is)
      where
        second : (a b : Bool) → (a && b) ≡ true → b ≡ true
        second true b is = is
        second false b is = absurd (let clash : false ≡ true = is in cc)

        by-parent : (o : Option SlotKey) → is_parent key o ≡ true →
            option_map_or (λ p. is_same_key p root || is_some (slot_at (all_below n (Below root)) p)) o false ≡ true
        by-parent None clash = clash
        by-parent (Some p) same =
            ap (λ b. b || is_some (slot_at (all_below n (Below root)) p))
            (ap (λ (m : ℕ). m == number_of root) (eqb-true (number_of p) (number_of key) same) ∙ may)

-- where the parent of what goes may lose a child, it loses that one
one-lost : (slots : List NotedSlot) (gone key : SlotKey) → is_parent key (noted_parent slots gone) ≡ true →
    true ≡ list_any (λ s. is_same_key gone s.key && is_parent key s.parent) slots
one-lost slots gone key may =
    sym (held-any (λ s. is_same_key gone s.key && is_parent key s.parent) slots gone (elim (slot_at slots gone) as (λ o. slot_at slots gone ≡ o
    → is_parent key (option_and_then (λ (s : NotedSlot). s.parent) o) ≡ true →
    option_map_or (λ s. is_same_key gone s.key && is_parent key s.parent) o false ≡ true) [
      | None ↦ λ _ clash. clash
      | Some s ↦ λ at is. ap (λ b. b && is_parent key s.parent) (eq-eqb (number_of gone) (number_of s.key) (sym (found-key slots gone s at))) ∙ is
    ] refl may))

pub lost-one : (slots : List NotedSlot) (which : Removed) (gone key : SlotKey) → which ≡ One gone → may_lose slots which key ≡ true →
    true ≡ list_any (λ s. is_removed slots which s.key && is_parent key s.parent) slots
lost-one slots which gone key is =
    subst (λ (w : Removed). may_lose slots w key ≡ true → true ≡ list_any (λ s. is_removed slots w s.key && is_parent key s.parent) slots) (sym is)
    (one-lost slots gone key)

pub lost-below : (n : NotedSlots) (which : Removed) (root key : SlotKey) (touched : List NotedSlot) → which ≡ Below root → touched ≡ touched_by n which →
    may_lose (slots_of n) which key ≡ true
    → list_any (λ c. option_map_or (λ s. is_removed (slots_of n) which s.key && is_parent key s.parent) (left_by c) false) touched
    ≡ list_any (λ c. option_map_or (λ s. is_removed (slots_of n) which s.key && is_parent key s.parent) (left_by c) false) n.changes.now
lost-below n which root key touched is =
    subst (λ (w : Removed). touched ≡ touched_by n w → may_lose (slots_of n) w key ≡ true
    → list_any (λ c. option_map_or (λ s. is_removed (slots_of n) w s.key && is_parent key s.parent) (left_by c) false) touched
    ≡ list_any (λ c. option_map_or (λ s. is_removed (slots_of n) w s.key && is_parent key s.parent) (left_by c) false) n.changes.now) (sym is)
    (λ told may. ap (list_any (λ c. option_map_or (λ s. is_removed (slots_of n) (Below root) s.key && is_parent key s.parent) (left_by c) false)) told
    ∙ lost-found n root key may n.changes.now)

-- a child that stays of the slot of which all descendants go hangs below it
kept-root : (n : NotedSlots) (root key : SlotKey) → is_same_key key root ≡ true → (c : NotedSlot)
    → option_map_or (kept_child (slots_of n) (Below root) key) (left_by c) false ≡ true → hangs_below root (all_below n (Below root)) (left_by c) ≡ true
kept-root n root key same c is = either (hangs_below root (all_below n (Below root)) (left_by c)) (has_parent key (left_by c)) (by-left (left_by c))
    (kept-among n (Below root) key c is)
  where
    either : (a b : Bool) → (b ≡ true → a ≡ true) → (a || b) ≡ true → a ≡ true
    either true b so is = refl
    either false b so is = so is

    by-parent : (o : Option SlotKey) → option_map_or (λ p. number_of p == number_of key) o false ≡ true →
        option_map_or (λ p. is_same_key p root || is_some (slot_at (all_below n (Below root)) p)) o false ≡ true
    by-parent None clash = clash
    by-parent (Some p) there =
        ap (λ b. b || is_some (slot_at (all_below n (Below root)) p))
        (ap (λ (m : ℕ). m == number_of root) (eqb-true (number_of p) (number_of key) there) ∙ same)

    by-left : (o : Option NotedSlot) → has_parent key o ≡ true → hangs_below root (all_below n (Below root)) o ≡ true
    by-left None clash = clash
    by-left (Some s) there = by-parent s.parent there

-- what stays a child of that slot has its key among the changes that are touched
pub kept-below : (n : NotedSlots) (which : Removed) (key : SlotKey) → is_root which key ≡ true → (cs : List NotedSlot)
    → list_any (λ c. option_map_or (kept_child (slots_of n) which key) (left_by c) false)
    (filter (λ c. hangs_below (named which) (all_below n which) (left_by c)) cs)
    ≡ list_any (λ c. option_map_or (kept_child (slots_of n) which key) (left_by c) false) cs
kept-below n (One gone) key clash cs = absurd (let no : false ≡ true = clash in cc)
kept-below n (Below root) key same cs =
    any-some (λ c. option_map_or (kept_child (slots_of n) (Below root) key) (left_by c) false) (λ c. hangs_below root (all_below n (Below root)) (left_by c))
    (kept-root n root key same) cs
