-- What a removal relies on holds once a slot is emptied.
use Rattle.std.proofs.Common.{ℕ, ◌≡◌, ◌≢◌, ◌∙◌, inl, inr, Bool, true, false, not, if◌then◌else◌, ◌&&◌, Some, None, option_map, refl, sym, ap, subst, arith}
use Rattle.std.proofs.lemmas.Bool.{eq-eqb, ne_eqb}
use Rattle.std.proofs.lemmas.Bool.Decides.{eqb_tells}
use Rattle.model.specs.declared.capabilities.Cap.{Cap}
use Rattle.model.specs.declared.capabilities.Cap.TheVariants.{Empty, Untyped, Endpoint, Notification, CNode, Frame, PageTable, Tcb, RootTable, InterruptControl}
use Rattle.model.specs.declared.capabilities.Cap.TheVariants.{InterruptHandler}
use Rattle.model.specs.Capabilities.CapabilityKinds.{names_object}
use Rattle.model.specs.Capabilities.CapabilityWords.{IsCapability}
use Rattle.model.specs.Capabilities.Slots.{IsFull, capability_at, is_empty, is_full, parent_at}
use Rattle.model.specs.Kernel.Removal.{SlotSet, emptied, ends, frame_loses, is_ending_thread, kept, loses_last_child, some_inside, some_outside, table_loses}
use Rattle.model.specs.Kernel.State.{State}
use Rattle.model.proofs.Depths.{adopted_parent, depth-own_parent, depth-spliced}
use Rattle.removal_laws.specs.Steps.{IsReady, alone}
use Rattle.model.specs.Kernel.Kinds.{kind_of, object_named}
use Rattle.model.specs.Kernel.Scheduling.{without_threads}
use Rattle.std.proofs.Math.Bool.{and-false}
use Rattle.removal_laws.proofs.Emptyings.{named-full}
use Rattle.removal_laws.proofs.Found.{found-at, join}
use Rattle.removal_laws.proofs.Named.{kind-names, kind-threads, named_as}
use Rattle.removal_laws.proofs.Keeping.{kept-test}
use Rattle.removal_laws.proofs.Rounds.{full-apart, open-kept}
use Rattle.removal_laws.proofs.Splits.{empty-now, kept-now, parent-now, root-now}

pub valid-kept : (s : State) (set : SlotSet) (y : ℕ) (c : Cap) → IsCapability c → IsCapability (kept s set y c)
valid-kept s set y (Untyped o b w) valid = elim (loses_last_child s set y) as (λ l. IsCapability (Untyped o b (if l then 0 else w))) [
  | true ↦ (valid.0, valid.1, valid.2, omega arith)
  | false ↦ valid
]
valid-kept s set y (Frame f r (Some m)) valid = elim (frame_loses s set m) as (λ l. IsCapability (if l then Frame f r None else Frame f r (Some m))) [
  | true ↦ (valid.0, valid.1, tt)
  | false ↦ valid
]
valid-kept s set y (PageTable t (Some m)) valid = elim (table_loses s set m) as (λ l. IsCapability (if l then PageTable t None else PageTable t (Some m))) [
  | true ↦ (valid.0, tt)
  | false ↦ valid
]
valid-kept s set y (Frame f r None) valid = valid
valid-kept s set y (PageTable t None) valid = valid
valid-kept s set y Empty valid = valid
valid-kept s set y (Endpoint o r b) valid = valid
valid-kept s set y (Notification o r b) valid = valid
valid-kept s set y (CNode o r g) valid = valid
valid-kept s set y (Tcb o) valid = valid
valid-kept s set y (RootTable o) valid = valid
valid-kept s set y InterruptControl valid = valid
valid-kept s set y (InterruptHandler line) valid = valid

abbrev is_root_table : Cap → Bool
is_root_table (RootTable o) = true
is_root_table _ = false

-- what keeps being a root table was one
root-kept : (s : State) (set : SlotSet) (y root : ℕ) (c : Cap) → kept s set y c ≡ RootTable root → c ≡ RootTable root
root-kept s set y root (RootTable o) is = is
root-kept s set y root (Untyped o b w) is = absurd (let clash : false ≡ true = ap (names_object root) is ∙ eq-eqb root root refl in cc)
root-kept s set y root (Frame f r None) is = is
root-kept s set y root (PageTable t None) is = is
root-kept s set y root Empty is = is
root-kept s set y root (Endpoint o r b) is = is
root-kept s set y root (Notification o r b) is = is
root-kept s set y root (CNode o r g) is = is
root-kept s set y root (Tcb o) is = is
root-kept s set y root InterruptControl is = is
root-kept s set y root (InterruptHandler line) is = is
root-kept s set y root (Frame f r (Some m)) is = absurd (let clash : false ≡ true = sym (no-root-frame (frame_loses s set m)) ∙ ap is_root_table is in cc)
  where
    no-root-frame : (b : Bool) → is_root_table (if b then Frame f r None else Frame f r (Some m)) ≡ false
    no-root-frame true = refl
    no-root-frame false = refl
root-kept s set y root (PageTable t (Some m)) is = absurd (let clash : false ≡ true = sym (no-root-table (table_loses s set m)) ∙ ap is_root_table is in cc)
  where
    no-root-table : (b : Bool) → is_root_table (if b then PageTable t None else PageTable t (Some m)) ≡ false
    no-root-table true = refl
    no-root-table false = refl

pub ready-emptied : (s : State) (x : ℕ) → IsReady s → IsFull s.slots x → IsReady (emptied s (alone x))
ready-emptied s x ready full =
    let tree = ready.derivation in
    let one : State = emptied s (alone x) in
    let member : alone x x ≡ true = eq-eqb x x refl in
    let gone : capability_at one.slots x ≡ Empty = empty-now s (alone x) x tree ready.near member full in
    let root : parent_at one.slots x ≡ None = root-now s (alone x) x tree ready.near member full in
    let stays : (y : ℕ) → y ≢ x → capability_at one.slots y ≡ kept s (alone x) y (capability_at s.slots y) =
    kept-now s (alone x) x tree ready.near member full in
    let moved : (y : ℕ) → y ≢ x → parent_at one.slots y ≡ adopted_parent x (parent_at s.slots x) (parent_at s.slots y) =
    parent-now s (alone x) x tree ready.near member full in
    let empty : (y : ℕ) → y ≢ x → is_empty (capability_at one.slots y) ≡ is_empty (capability_at s.slots y) = λ y other. ap is_empty (stays y other)
    ∙ kept-test is_empty (λ o b v w. refl) (λ f r m n. refl) (λ t m n. refl) s (alone x) y (capability_at s.slots y) in
    let full_now : (y : ℕ) → y ≢ x → IsFull s.slots y → IsFull one.slots y = λ y other filled. ap not (empty y other) ∙ filled in
    let full_was : (y : ℕ) → IsFull one.slots y → IsFull s.slots y = λ y filled. ap not (sym (empty y (full-apart s x y filled))) ∙ filled in
    let no_circle : parent_at s.slots x ≢ Some x = λ is. absurd (omega (arith, depth-own_parent 256 (parent_at s.slots) x is, tree.shallow x)) in
    let not_gone : (y p : ℕ) → parent_at one.slots y ≡ Some p → y ≢ x = λ y p is same.
    absurd (let clash : None ≡ Some p = sym (ap (parent_at one.slots) same ∙ root) ∙ is in cc) in
    record {
      derivation = record {
        valid = λ y. elim (eqb_tells y x) [
          | inl here ↦ subst (λ (c : Cap). IsCapability c) (sym (ap (capability_at one.slots) here.1 ∙ gone)) tt
          | inr other ↦ subst (λ (c : Cap). IsCapability c) (sym (stays y other.1)) (valid-kept s (alone x) y (capability_at s.slots y) (tree.valid y))
        ];
        child_full = λ y p is.
            let other = not_gone y p is in
            full_now y other (elim (parent_at s.slots y) as (λ o. parent_at s.slots y ≡ o → IsFull s.slots y) [
              | None ↦ λ none. absurd (let clash : None ≡ Some p = ap (adopted_parent x (parent_at s.slots x)) (sym none) ∙ sym (moved y other) ∙ is in cc)
              | Some q ↦ λ some. tree.child_full y q some
            ] refl);
        parent_full = λ y p is.
            let other = not_gone y p is in
            elim (parent_at s.slots y) as (λ o. parent_at s.slots y ≡ o → IsFull one.slots p) [
              | None ↦ λ none. absurd (let clash : None ≡ Some p = ap (adopted_parent x (parent_at s.slots x)) (sym none) ∙ sym (moved y other) ∙ is in cc)
              | Some q ↦ λ some.
                  let now : adopted_parent x (parent_at s.slots x) (Some q) ≡ Some p = ap (adopted_parent x (parent_at s.slots x)) (sym some)
                  ∙ sym (moved y other) ∙ is in
                  elim (eqb_tells q x) [
                    | inl at ↦
                        let up : parent_at s.slots x ≡ Some p = ap (λ b. if b then parent_at s.slots x else Some q) (sym at.0) ∙ now in
                        full_now p (λ same. no_circle (up ∙ ap (λ n. Some n) same)) (tree.parent_full x p up)
                    | inr away ↦
                        let same : Some q ≡ Some p = ap (λ b. if b then parent_at s.slots x else Some q) (sym away.0) ∙ now in
                        let here : q ≡ p = cc in
                        full_now p (λ at. away.1 (here ∙ at)) (tree.parent_full y p (some ∙ same))
                  ]
            ] refl;
        shallow = λ y. omega (arith, depth-spliced 256 (parent_at s.slots) (parent_at one.slots) x root moved y, tree.shallow y);
      };
      near = λ y filled. ready.near y (full_was y filled);
      roots = λ a b r is named.
          let a_other : a ≢ x = λ same. absurd (let clash : false ≡ true = sym (ap (names_object r) (ap (capability_at one.slots) same ∙ gone))
          ∙ ap (names_object r) is ∙ eq-eqb r r refl in cc) in
          let b_other : b ≢ x = λ same. absurd (let clash : false ≡ true = sym (ap (names_object r) (ap (capability_at one.slots) same ∙ gone)) ∙ named in
          cc) in
          let was : capability_at s.slots a ≡ RootTable r = root-kept s (alone x) a r (capability_at s.slots a) (sym (stays a a_other) ∙ is) in
          let named_was : names_object r (capability_at s.slots b) ≡ true =
          sym (kept-test (names_object r) (λ o c v w. refl) (λ f q m n. refl) (λ t m n. refl) s (alone x) b (capability_at s.slots b))
          ∙ ap (names_object r) (sym (stays b b_other)) ∙ named in
          let root_was : capability_at s.slots b ≡ RootTable r = ready.roots a b r was named_was in
          stays b b_other ∙ ap (kept s (alone x) b) root_was;
      named = λ y k o is.
          let other : y ≢ x = λ same. absurd (let clash : None ≡ named_as k o = sym (ap object_named (ap (capability_at one.slots) same ∙ gone)) ∙ is in cc) in
          let was : object_named (capability_at s.slots y) ≡ named_as k o =
          sym (kept-test object_named (λ p b v w. refl) (λ f q m n. refl) (λ t m n. refl) s (alone x) y (capability_at s.slots y))
          ∙ ap object_named (sym (stays y other)) ∙ is in
          let names : names_object o (capability_at s.slots y) ≡ true = kind-names (capability_at s.slots y) k o was in
          let beside : some_outside s (alone x) (names_object o) ≡ true =
          found-at s.memory_bits y _ (ready.near y (named-full o (capability_at s.slots y) names))
          (join (not (alone x y)) _ (ap not (ne_eqb y x other)) names) in
          let stays_there : ends s (alone x) o ≡ false = ap (λ b. some_inside s (alone x) (names_object o) && not b) beside
          ∙ and-false (some_inside s (alone x) (names_object o)) in
          ap (λ b. option_map kind_of (if b then None else option_map (without_threads (is_ending_thread s (alone x))) (s.objects o))) stays_there
          ∙ kind-threads (is_ending_thread s (alone x)) (s.objects o)
          ∙ ready.named y k o was;
      lines = λ line few. open-kept s (alone x) _ (ready.lines line few);
    }

-- what is full then was full, and the slot itself is not
pub full-was : (s : State) (x : ℕ) → IsReady s → IsFull s.slots x → (y : ℕ) → IsFull (emptied s (alone x)).slots y → IsFull s.slots y
full-was s x ready full y filled =
    ap not (sym (ap is_empty (kept-now s (alone x) x ready.derivation ready.near (eq-eqb x x refl) full y (full-apart s x y filled))
    ∙ kept-test is_empty (λ o b v w. refl) (λ f r m n. refl) (λ t m n. refl) s (alone x) y (capability_at s.slots y)))
    ∙ filled

pub not-full : (s : State) (x : ℕ) → is_full (emptied s (alone x)).slots x ≡ false
not-full s x = elim (is_full (emptied s (alone x)).slots x) as (λ b. is_full (emptied s (alone x)).slots x ≡ b → b ≡ false) [
  | true ↦ λ is. absurd (full-apart s x x is refl)
  | false ↦ λ is. refl
] refl
