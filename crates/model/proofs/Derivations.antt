-- Each change of the slots keeps what is known of derivation.
use Rattle.std.proofs.Common.{ℕ, ◌≡◌, ◌≢◌, ◌∙◌, ◌<◌, ◌≤◌, inl, inr, true, not, if◌then◌else◌, Option, Some, None, refl, sym, ap, subst, arith}
use Rattle.std.proofs.lemmas.Bool.{eq-eqb}
use Rattle.std.proofs.lemmas.Bool.Decides.{eqb_tells}
use Rattle.model.specs.Capabilities.CapabilityWords.{IsCapability}
use Rattle.model.specs.Capabilities.Slots.{Slots, IsDerivation, IsFull, capability_at, closed, depth_of, depth_within, empty_entry, is_empty, is_full}
use Rattle.model.specs.Capabilities.Slots.{is_within, opened, parent_at, recapped, inserted, relocated, spliced, with_entry, with_parent}
use Rattle.model.specs.declared.capabilities.Cap.{Cap}
use Rattle.model.specs.declared.capabilities.Cap.TheVariants.{Empty}
use Rattle.model.specs.declared.slot_entries.Entry.{Entry}
use Rattle.model.proofs.SlotChanges.{capability_of, parent_of, capability-adopted, parent-adopted, capability-opened, capability-closed, entry-same}
use Rattle.model.proofs.SlotChanges.{entry-other, full-capability, full-same, full-not-empty}
use Rattle.model.proofs.Depths.{adopted_parent, renamed, depth-none, depth-some, depth-mono, depth-own_parent, depth-same, depth-leaf, depth-spliced}
use Rattle.model.proofs.Depths.{depth-relocated}

-- the same capabilities and parents
pub derivation-same : (old new : Slots) → IsDerivation old → ((s : ℕ) → (capability_at new s ≡ capability_at old s) × (parent_at new s ≡ parent_at old s)) →
    IsDerivation new
derivation-same old new tree same = record {
  valid = λ s. subst IsCapability (sym (same s).0) (tree.valid s);
  child_full = λ s p is. full-same old new s (same s).0 (tree.child_full s p (sym (same s).1 ∙ is));
  parent_full = λ s p is. full-same old new p (same p).0 (tree.parent_full s p (sym (same s).1 ∙ is));
  shallow = λ s. omega (arith, depth-same 256 (parent_at old) (parent_at new) (λ t. (same t).1) s, tree.shallow s);
}

pub derivation-opened : (slots : Slots) (first count : ℕ) → IsDerivation slots → ((t : ℕ) → is_within first count t ≡ true → slots t ≡ None) →
    IsDerivation (opened slots first count)
derivation-opened slots first count tree was = derivation-same slots (opened slots first count) tree (λ s. capability-opened slots first count s was)

pub derivation-closed : (slots : Slots) (first count : ℕ) → IsDerivation slots → ((t : ℕ) → is_within first count t ≡ true → slots t ≡ Some empty_entry) →
    IsDerivation (closed slots first count)
derivation-closed slots first count tree was = derivation-same slots (closed slots first count) tree (λ s. capability-closed slots first count s was)

-- a capability put in a slot that is no parent of others in another way than before
pub derivation-recapped : (slots : Slots) (slot : ℕ) (capability : Cap) → IsDerivation slots → IsCapability capability → capability ≢ Empty →
    IsDerivation (recapped slots slot capability)
derivation-recapped slots slot capability tree valid some =
    let new : Slots = recapped slots slot capability in
    let entry : Option Entry = Some (record { capability = capability; parent = parent_at slots slot }) in
    let full_here : IsFull new slot = ap (λ o. not (is_empty (capability_of o))) (entry-same slots slot entry) ∙ full-capability capability some in
    let kept_full : (s : ℕ) → IsFull slots s → IsFull new s = λ s full. elim (eqb_tells s slot) [
      | inl here ↦ ap (is_full new) here.1 ∙ full_here
      | inr other ↦ full-same slots new s (ap capability_of (entry-other slots slot entry s other.1)) full
    ] in
    let parents : (s : ℕ) → parent_at new s ≡ parent_at slots s = λ s. elim (eqb_tells s slot) [
      | inl here ↦ ap (parent_at new) here.1 ∙ ap parent_of (entry-same slots slot entry) ∙ ap (parent_at slots) (sym here.1)
      | inr other ↦ ap parent_of (entry-other slots slot entry s other.1)
    ] in
    record {
      valid = λ s. elim (eqb_tells s slot) [
        | inl here ↦ subst IsCapability (sym (ap (capability_at new) here.1 ∙ ap capability_of (entry-same slots slot entry))) valid
        | inr other ↦ subst IsCapability (sym (ap capability_of (entry-other slots slot entry s other.1))) (tree.valid s)
      ];
      child_full = λ s p is. kept_full s (tree.child_full s p (sym (parents s) ∙ is));
      parent_full = λ s p is. kept_full p (tree.parent_full s p (sym (parents s) ∙ is));
      shallow = λ s. omega (arith, depth-same 256 (parent_at slots) (parent_at new) parents s, tree.shallow s);
    }

pub derivation-inserted : (slots : Slots) (slot : ℕ) (capability : Cap) (parent : Option ℕ) → IsDerivation slots → slots slot ≡ Some empty_entry →
    IsCapability capability → capability ≢ Empty → ((p : ℕ) → parent ≡ Some p → IsFull slots p) → ((p : ℕ) → parent ≡ Some p → depth_of slots p < 255) →
    IsDerivation (inserted slots slot capability parent)
derivation-inserted slots slot capability parent tree empty valid some full room =
    let new : Slots = inserted slots slot capability parent in
    let entry : Option Entry = Some (record { capability = capability; parent = parent }) in
    let full_here : IsFull new slot = ap (λ o. not (is_empty (capability_of o))) (entry-same slots slot entry) ∙ full-capability capability some in
    let kept_full : (s : ℕ) → IsFull slots s → IsFull new s = λ s was. elim (eqb_tells s slot) [
      | inl here ↦ ap (is_full new) here.1 ∙ full_here
      | inr other ↦ full-same slots new s (ap capability_of (entry-other slots slot entry s other.1)) was
    ] in
    let others : (s : ℕ) → s ≢ slot → parent_at new s ≡ parent_at slots s = λ s other. ap parent_of (entry-other slots slot entry s other) in
    let here_parent : parent_at new slot ≡ parent = ap parent_of (entry-same slots slot entry) in
    let leaf : (s p : ℕ) → parent_at slots s ≡ Some p → p ≢ slot = λ s p is. full-not-empty slots p slot (tree.parent_full s p is) empty in
    let depths : (n s : ℕ) → s ≢ slot → depth_within n (parent_at new) s ≡ depth_within n (parent_at slots) s = λ n s other.
    depth-leaf n (parent_at slots) (parent_at new) slot others leaf s other in
    record {
      valid = λ s. elim (eqb_tells s slot) [
        | inl here ↦ subst IsCapability (sym (ap (capability_at new) here.1 ∙ ap capability_of (entry-same slots slot entry))) valid
        | inr other ↦ subst IsCapability (sym (ap capability_of (entry-other slots slot entry s other.1))) (tree.valid s)
      ];
      child_full = λ s p is. elim (eqb_tells s slot) [
        | inl here ↦ ap (is_full new) here.1 ∙ full_here
        | inr other ↦ kept_full s (tree.child_full s p (sym (others s other.1) ∙ is))
      ];
      parent_full = λ s p is. elim (eqb_tells s slot) [
        | inl here ↦ kept_full p (full p (sym here_parent ∙ ap (parent_at new) (sym here.1) ∙ is))
        | inr other ↦ kept_full p (tree.parent_full s p (sym (others s other.1) ∙ is))
      ];
      shallow = λ s. elim (eqb_tells s slot) [
        | inl here ↦ elim parent as (λ o. parent ≡ o → depth_of new s ≤ 255) [
          | None ↦ λ is. omega (arith, depth-none 256 (parent_at new) s (ap (parent_at new) here.1 ∙ here_parent ∙ is))
          | Some p ↦ λ is.
              omega (
                arith,
                depth-some 255 (parent_at new) s p (ap (parent_at new) here.1 ∙ here_parent ∙ is),
                depths 255 p (full-not-empty slots p slot (full p is) empty),
                (depth-mono 255 (parent_at slots) p).0,
                room p is,
              )
        ] refl
        | inr other ↦ omega (arith, depths 256 s other.1, tree.shallow s)
      ];
    }

-- a slot taken out, and its children derived from its parent
pub derivation-spliced : (slots : Slots) (slot : ℕ) → IsDerivation slots → IsFull slots slot → IsDerivation (spliced slots slot)
derivation-spliced slots slot tree full =
    let new : Slots = spliced slots slot in
    let above : Option ℕ = parent_at slots slot in
    let middle : Slots = with_parent slots slot above in
    let held : (s : ℕ) → s ≢ slot → capability_at new s ≡ capability_at slots s = λ s other.
    ap capability_of (entry-other middle slot (Some empty_entry) s other) ∙ capability-adopted slot above (slots s) in
    let parents : (s : ℕ) → s ≢ slot → parent_at new s ≡ adopted_parent slot above (parent_at slots s) = λ s other.
    ap parent_of (entry-other middle slot (Some empty_entry) s other) ∙ parent-adopted slot above (slots s) in
    let gone : new slot ≡ Some empty_entry = entry-same middle slot (Some empty_entry) in
    let root : parent_at new slot ≡ None = ap parent_of gone in
    let no_circle : (p : ℕ) → above ≡ Some p → p ≢ slot = λ p is same.
    absurd (omega (arith, depth-own_parent 256 (parent_at slots) slot (is ∙ ap (λ q. Some q) same), tree.shallow slot)) in
    let was : (s p : ℕ) → parent_at new s ≡ Some p → (s ≢ slot) × (IsFull slots s) × (p ≢ slot) × (IsFull slots p) = λ s p is. elim (eqb_tells s slot) [
      | inl here ↦ absurd (let none : None ≡ Some p = sym root ∙ ap (parent_at new) (sym here.1) ∙ is in cc)
      | inr other ↦ elim (parent_at slots s) as (λ o. parent_at slots s ≡ o → (s ≢ slot) × (IsFull slots s) × (p ≢ slot) × (IsFull slots p)) [
        | None ↦ λ none. absurd (let clash : None ≡ Some p = ap (adopted_parent slot above) (sym none) ∙ sym (parents s other.1) ∙ is in cc)
        | Some q ↦ λ some. elim (eqb_tells q slot) [
          | inl child ↦
              let moved : above ≡ Some p = ap (λ b. if b then above else Some q) (sym child.0) ∙ ap (adopted_parent slot above) (sym some)
              ∙ sym (parents s other.1) ∙ is in
              (other.1, tree.child_full s q some, no_circle p moved, tree.parent_full slot p moved)
          | inr stays ↦
              let same : Some q ≡ Some p = ap (λ b. if b then above else Some q) (sym stays.0) ∙ ap (adopted_parent slot above) (sym some)
              ∙ sym (parents s other.1) ∙ is in
              let e : q ≡ p = cc in
              (other.1, tree.child_full s q some, λ same_slot. stays.1 (e ∙ same_slot), tree.parent_full s p (some ∙ same))
        ]
      ] refl
    ] in
    record {
      valid = λ s. elim (eqb_tells s slot) [
        | inl here ↦ subst IsCapability (sym (ap (capability_at new) here.1 ∙ ap capability_of gone)) tt
        | inr other ↦ subst IsCapability (sym (held s other.1)) (tree.valid s)
      ];
      child_full = λ s p is. let w = was s p is in full-same slots new s (held s w.0) w.1;
      parent_full = λ s p is. let w = was s p is in full-same slots new p (held p w.2) w.3;
      shallow = λ s. omega (arith, depth-spliced 256 (parent_at slots) (parent_at new) slot root parents s, tree.shallow s);
    }

-- a slot's content moved, with its parent and its children
pub derivation-relocated : (slots : Slots) (from to : ℕ) → IsDerivation slots → IsFull slots from → slots to ≡ Some empty_entry →
    IsDerivation (relocated slots from to)
derivation-relocated slots from to tree full empty =
    let new : Slots = relocated slots from to in
    let first : Slots = with_parent slots from (Some to) in
    let second : Slots = with_entry first to (slots from) in
    let apart : from ≢ to = full-not-empty slots from to full empty in
    let apart' : to ≢ from = λ same. apart (sym same) in
    let there : new to ≡ slots from = entry-other second from (Some empty_entry) to apart' ∙ entry-same first to (slots from) in
    let gone : new from ≡ Some empty_entry = entry-same second from (Some empty_entry) in
    let others : (s : ℕ) → s ≢ to → s ≢ from → new s ≡ first s = λ s not_to not_from. entry-other second from (Some empty_entry) s not_from
    ∙ entry-other first to (slots from) s not_to in
    let held : (s : ℕ) → s ≢ to → s ≢ from → capability_at new s ≡ capability_at slots s = λ s not_to not_from. ap capability_of (others s not_to not_from)
    ∙ capability-adopted from (Some to) (slots s) in
    let parents : (s : ℕ) → s ≢ to → s ≢ from → parent_at new s ≡ adopted_parent from (Some to) (parent_at slots s) = λ s not_to not_from.
    ap parent_of (others s not_to not_from) ∙ parent-adopted from (Some to) (slots s) in
    let leaf : (s p : ℕ) → parent_at slots s ≡ Some p → p ≢ to = λ s p is. full-not-empty slots p to (tree.parent_full s p is) empty in
    let no_circle : parent_at slots from ≢ Some from = λ is. absurd (omega (arith, depth-own_parent 256 (parent_at slots) from is, tree.shallow from)) in
    let full_there : IsFull new to = ap (λ o. not (is_empty (capability_of o))) there ∙ full in
    let kept_full : (s : ℕ) → s ≢ from → IsFull slots s → IsFull new s = λ s not_from was. elim (eqb_tells s to) [
      | inl here ↦ ap (is_full new) here.1 ∙ full_there
      | inr other ↦ full-same slots new s (held s other.1 not_from) was
    ] in
    let full_parent : (p : ℕ) → p ≢ to → IsFull slots p → IsFull new (renamed from to p) = λ p not_to was. elim (eqb_tells p from) [
      | inl here ↦ ap (λ b. is_full new (if b then to else p)) here.0 ∙ full_there
      | inr other ↦ ap (λ b. is_full new (if b then to else p)) other.0 ∙ full-same slots new p (held p not_to other.1) was
    ] in
    let root : parent_at new from ≡ None = ap parent_of gone in
    let depths = depth-relocated 256 (parent_at slots) (parent_at new) from to (ap parent_of there) parents leaf no_circle in
    record {
      valid = λ s. elim (eqb_tells s from) [
        | inl here ↦ subst IsCapability (sym (ap (capability_at new) here.1 ∙ ap capability_of gone)) tt
        | inr not_from ↦ elim (eqb_tells s to) [
          | inl here ↦ subst IsCapability (sym (ap (capability_at new) here.1 ∙ ap capability_of there)) (tree.valid from)
          | inr not_to ↦ subst IsCapability (sym (held s not_to.1 not_from.1)) (tree.valid s)
        ]
      ];
      child_full = λ s p is. elim (eqb_tells s from) [
        | inl here ↦ absurd (let none : None ≡ Some p = sym root ∙ ap (parent_at new) (sym here.1) ∙ is in cc)
        | inr not_from ↦ elim (eqb_tells s to) [
          | inl here ↦ ap (is_full new) here.1 ∙ full_there
          | inr not_to ↦ elim (parent_at slots s) as (λ o. parent_at slots s ≡ o → IsFull new s) [
            | None ↦ λ none. absurd (let clash : None ≡ Some p = ap (adopted_parent from (Some to)) (sym none) ∙ sym (parents s not_to.1 not_from.1) ∙ is in cc)
            | Some q ↦ λ some. kept_full s not_from.1 (tree.child_full s q some)
          ] refl
        ]
      ];
      parent_full = λ s p is. elim (eqb_tells s from) [
        | inl here ↦ absurd (let none : None ≡ Some p = sym root ∙ ap (parent_at new) (sym here.1) ∙ is in cc)
        | inr not_from ↦ elim (eqb_tells s to) [
          | inl here ↦
              let old_parent : parent_at slots from ≡ Some p = sym (ap parent_of there) ∙ ap (parent_at new) (sym here.1) ∙ is in
              kept_full p (λ same. no_circle (old_parent ∙ ap (λ q. Some q) same)) (tree.parent_full from p old_parent)
          | inr not_to ↦ elim (parent_at slots s) as (λ o. parent_at slots s ≡ o → IsFull new p) [
            | None ↦ λ none. absurd (let clash : None ≡ Some p = ap (adopted_parent from (Some to)) (sym none) ∙ sym (parents s not_to.1 not_from.1) ∙ is in cc)
            | Some q ↦ λ some. elim (eqb_tells q from) [
              | inl child ↦
                  let same : Some to ≡ Some p = ap (λ b. if b then Some to else Some q) (sym child.0) ∙ ap (adopted_parent from (Some to)) (sym some)
                  ∙ sym (parents s not_to.1 not_from.1) ∙ is in
                  let e : to ≡ p = cc in
                  ap (is_full new) (sym e) ∙ full_there
              | inr stays ↦
                  let same : Some q ≡ Some p = ap (λ b. if b then Some to else Some q) (sym stays.0) ∙ ap (adopted_parent from (Some to)) (sym some)
                  ∙ sym (parents s not_to.1 not_from.1) ∙ is in
                  let e : q ≡ p = cc in
                  kept_full p (λ at. stays.1 (e ∙ at)) (tree.parent_full s p (some ∙ same))
            ]
          ] refl
        ]
      ];
      shallow = λ s. elim (eqb_tells s from) [
        | inl here ↦ omega (arith, depth-none 256 (parent_at new) s (ap (parent_at new) here.1 ∙ root))
        | inr not_from ↦ elim (eqb_tells s to) [
          | inl here ↦
              let moved : depth_within 256 (parent_at new) to ≡ depth_within 256 (parent_at slots) from =
              ap (λ b. depth_within 256 (parent_at new) (if b then to else from)) (sym (eq-eqb from from refl)) ∙ depths from apart in
              omega (arith, ap (depth_of new) here.1, moved, tree.shallow from)
          | inr not_to ↦
              let kept : depth_within 256 (parent_at new) s ≡ depth_within 256 (parent_at slots) s =
              ap (λ b. depth_within 256 (parent_at new) (if b then to else s)) (sym not_from.0) ∙ depths s not_to.1 in
              omega (arith, kept, tree.shallow s)
        ]
      ];
    }
