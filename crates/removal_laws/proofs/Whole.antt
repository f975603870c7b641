-- A removal of a sound state: what its steps rely on, and what they leave.
use Rattle.std.proofs.Common.{ℕ, ◌≡◌, ◌∙◌, ◌==◌, ◌+◌, ◌*◌, ◌-◌, ◌/◌, ◌^◌, ◌<◌, ◌≤◌, ◌&&◌, inl, inr, Bool, true, false, not, nat_le, if◌then◌else◌, is_some}
use Rattle.std.proofs.Common.{get_or, Option, Some, None, option_map, Ok, Err, refl, sym, ap, arith}
use Rattle.std.specs.Option.{option_map_or}
use Rattle.std.specs.List.{range_with_len}
use Rattle.std.proofs.Math.Pow.{pow_mono}
use Rattle.std.proofs.lemmas.Bool.Decides.{leb_tells}
use Rattle.std.proofs.lemmas.List.Folds.{Any-from_list_any, list_any_at}
use Rattle.std.proofs.lemmas.List.FromFn.{get_or-range_with_len, length-range_with_len}
use Rattle.std.proofs.lemmas.Nat.{pow-add}
use Rattle.model.specs.declared.capabilities.Cap.{Cap}
use Rattle.model.specs.declared.capabilities.Cap.TheVariants.{Empty, Untyped, Endpoint, Notification, CNode, Frame, PageTable, Tcb, RootTable, InterruptControl}
use Rattle.model.specs.declared.capabilities.Cap.TheVariants.{InterruptHandler}
use Rattle.model.specs.declared.errors.KError.TheVariants.{RevokeFirst}
use Rattle.model.specs.declared.slot_entries.Entry.{Entry}
use Rattle.model.specs.Capabilities.CapabilityKinds.{is_handler_of, object_of}
use Rattle.model.specs.Capabilities.Slots.{IsFull, IsOpen, capability_at, empty_entry, is_empty, is_full}
use Rattle.model.specs.Kernel.Kinds.{kind_at, object_named}
use Rattle.model.specs.Kernel.Removal.{SlotSet, closes, emptied, ends, ends_filled, is_slot_of, kept_entry, remove, takes_last, wants_revoke_first}
use Rattle.model.specs.Kernel.Removal.{with_bindings, without_slots}
use Rattle.model.specs.Kernel.Retype.{NewObject, NewRootTable}
use Rattle.model.specs.Kernel.Soundness.{HasSlot, IsSound, of_boot_area, of_object}
use Rattle.model.specs.Kernel.State.{State, binding_slot}
use Rattle.model.proofs.Ancestors.{full-open}
use Rattle.model.proofs.SlotChanges.{capability_of}
use Rattle.removal_laws.specs.Finishing.{MaySettle, has_slot, settled, slots_from}
use Rattle.removal_laws.specs.Steps.{IsReady, SameShape, bindings_from, joined}
use Rattle.removal_laws.proofs.Finishing.{behind-boot, bounds-within, closes-strays, closing-object, holder, in-memory-whole, named-full, not-false, one-holder}
use Rattle.removal_laws.proofs.Finishing.{settles, slot-left}
use Rattle.removal_laws.proofs.Found.{bool-iff, both, found-at, found-where, join, or-cases}
use Rattle.removal_laws.proofs.Keeping.{there-in, there-out}
use Rattle.removal_laws.proofs.Named.{named_as, object-kind}
use Rattle.removal_laws.proofs.Rounds.{line-open}
use Rattle.removal_laws.proofs.SameFull.{emptied-blank}

-- ---- what the steps rely on

boot-near : (radix bits slot : ℕ) → radix + 5 ≤ bits → 16 ≤ bits → slot < 2 ^ radix + 64 → slot < 2 ^ bits / 16
boot-near radix bits slot room least less =
    let split : 2 ^ (radix + 5) ≡ 2 ^ radix * 2 ^ 5 = pow-add 2 radix 5 in
    let wide : 2 ^ (radix + 5) ≤ 2 ^ bits = pow_mono room in
    let large : 2 ^ 16 ≤ 2 ^ bits = pow_mono least in
    omega (arith, split, wide, large, less)

-- a slot of an object, and where it lies
slot-near : (s : State) → IsSound s → (y : ℕ) → HasSlot s y → y < 2 ^ s.memory_bits / 16
slot-near s sound y (of_boot_area early) = boot-near s.boot_radix s.memory_bits y sound.shape.room sound.shape.least_bits early
slot-near s sound y (of_object o inner) = in-memory-whole s sound o y (holder s sound o y inner)

pub open-near : (s : State) → IsSound s → (y : ℕ) → IsOpen s.slots y → y < 2 ^ s.memory_bits / 16
open-near s sound y opens = slot-near s sound y ((sound.slots.there y).0 opens)

-- ---- what a capability names, with its kind

abbrev is_root_kind : NewObject → Bool
is_root_kind NewRootTable = true
is_root_kind _ = false

abbrev names_root : Option (NewObject × ℕ) → Bool
names_root o = option_map_or (λ p. is_root_kind p.0) o false

pub root-kind : (c : Cap) (o : ℕ) → object_named c ≡ named_as NewRootTable o → c ≡ RootTable o
root-kind (RootTable f) o is = ap (λ n. RootTable n) (ap (λ (p : Option (NewObject × ℕ)). option_map_or (λ q. q.1) p 0) is)
root-kind Empty o is = absurd (let clash : false ≡ true = ap names_root is in cc)
root-kind (Untyped f b w) o is = absurd (let clash : false ≡ true = ap names_root is in cc)
root-kind (Endpoint f r b) o is = absurd (let clash : false ≡ true = ap names_root is in cc)
root-kind (Notification f r b) o is = absurd (let clash : false ≡ true = ap names_root is in cc)
root-kind (CNode f radix g) o is = absurd (let clash : false ≡ true = ap names_root is in cc)
root-kind (Frame f r m) o is = absurd (let clash : false ≡ true = ap names_root is in cc)
root-kind (PageTable f m) o is = absurd (let clash : false ≡ true = ap names_root is in cc)
root-kind (Tcb f) o is = absurd (let clash : false ≡ true = ap names_root is in cc)
root-kind InterruptControl o is = absurd (let clash : false ≡ true = ap names_root is in cc)
root-kind (InterruptHandler line) o is = absurd (let clash : false ≡ true = ap names_root is in cc)

pub sound-ready : (s : State) → IsSound s → IsReady s
sound-ready s sound = record {
  derivation = sound.slots.derivation;
  near = λ y full. open-near s sound y (full-open s.slots y full);
  roots = λ a b root is named.
      let k = object-kind (capability_at s.slots b) root named in
      let one : kind_at s root ≡ Some NewRootTable = sound.memory.named a NewRootTable root (ap object_named is) in
      let two : kind_at s root ≡ Some k.0 = sound.memory.named b k.0 root k.1 in
      let same : Some NewRootTable ≡ Some k.0 = sym one ∙ two in
      let kind : NewRootTable ≡ k.0 = cc in
      root-kind (capability_at s.slots b) root (k.1 ∙ ap (λ (n : NewObject). named_as n root) (sym kind));
  named = sound.memory.named;
  lines = λ line few. (sound.slots.there (binding_slot s line)).1 (of_boot_area (omega (arith, few)));
}

-- ---- what settling relies on

module _ (s : State) (sound : IsSound s) (set : SlotSet) (opens : (y : ℕ) → set y ≡ true → IsOpen s.slots y)
    (kept_first : wants_revoke_first s set ≡ false) where
  near : (y : ℕ) → IsFull s.slots y → y < 2 ^ s.memory_bits / 16
  near y full = open-near s sound y (full-open s.slots y full)

  same-place : (n : ℕ) → 16 * n / 16 ≡ n
  same-place n = omega arith

  -- an object with slots that is left has its first and its last slot as before
  slot-at : (n y : ℕ) → n ≤ y → y < n + slots_from (emptied s set) n → is_slot_of s (16 * n) y ≡ true
  slot-at n y low high =
      let place = same-place n in
      (slot-left s set (16 * n) y (bounds-within (16 * n / 16) (slots_from (emptied s set) n) y (omega (arith, place, low)) (omega (arith, place, high)))).1

  filled : (o y : ℕ) → ends s set o ≡ true → is_slot_of s o y ≡ true → set y ≡ false → IsFull s.slots y → ends_filled s set o ≡ true
  filled o y ending inner out full =
      join (ends s set o) _ ending
      (found-at s.memory_bits y (λ z. is_slot_of s o z && not (set z) && is_full s.slots z) (near y full)
      (join (is_slot_of s o y && not (set y)) _ (join (is_slot_of s o y) _ inner (ap not out)) full))

  not-filled : (y : ℕ) → closes s set y ≡ true → set y ≡ false → is_full s.slots y ≡ false
  not-filled y closing_is out = elim (is_full s.slots y) as (λ b. is_full s.slots y ≡ b → b ≡ false) [
    | true ↦ λ full.
        let z = found-where s.memory_bits _ closing_is in
        let parts = both (set z.0) _ z.1 in
        let which = closing-object s set y (object_of (capability_at s.slots z.0)) parts.1 in
        let revoke : wants_revoke_first s set ≡ true =
        found-at s.memory_bits z.0 (λ m. set m && option_map_or (ends_filled s set) (object_of (capability_at s.slots m)) false)
        (near z.0 (named-full which.0 (capability_at s.slots z.0) which.1))
        (join (set z.0) _ parts.0 (ap (λ q. option_map_or (ends_filled s set) q false) which.1 ∙ filled which.0 y which.2 which.3 out full))
        in
        absurd (let clash : false ≡ true = sym kept_first ∙ revoke in cc)
    | false ↦ λ is. refl
  ] refl

  stray-blank : (y : ℕ) → IsOpen (emptied s set).slots y → has_slot (emptied s set) y ≡ false → (emptied s set).slots y ≡ Some empty_entry
  stray-blank y is_there none = elim (set y) as (λ b. set y ≡ b → (emptied s set).slots y ≡ Some empty_entry) [
    | true ↦ λ member. there-in s set y member
    | false ↦ λ out. elim (s.slots y) as (λ o. s.slots y ≡ o → (emptied s set).slots y ≡ Some empty_entry) [
      | None ↦ λ nothing_there. absurd (let clash : false ≡ true = sym (ap is_some (there-out s set y out ∙ ap (option_map (kept_entry s set y)) nothing_there))
          ∙ is_there in cc)
      | Some h ↦ λ some.
          let closing_is : closes s set y ≡ true = closes-strays s sound set near y ((sound.slots.there y).0 (ap is_some some)) ∙ ap not none in
          let empty : is_empty h.capability ≡ true = not-false (is_empty h.capability)
          (ap (λ (o : Option Entry). not (is_empty (capability_of o))) (sym some) ∙ not-filled y closing_is out) in
          emptied-blank s sound.slots.derivation set set (λ z f. refl) opens opens set y h some empty
    ] refl
  ] refl

  pub may-settle : MaySettle (emptied s set)
  may-settle = record {
    inside = λ n some.
        let last : is_slot_of s (16 * n) (n + slots_from (emptied s set) n - 1) ≡ true =
        slot-at n (n + slots_from (emptied s set) n - 1) (omega (arith, some)) (omega (arith, some)) in
        let placed = in-memory-whole s sound (16 * n) (n + slots_from (emptied s set) n - 1)
        (holder s sound (16 * n) (n + slots_from (emptied s set) n - 1) last) in
        omega (arith, placed, some);
    boot = λ n some. behind-boot s sound (16 * n) n (holder s sound (16 * n) n (slot-at n n (omega arith) (omega (arith, some))));
    apart = λ n m less some_n some_m. elim (leb_tells (n + slots_from (emptied s set) n) m) [
      | inl fits ↦ fits.1
      | inr over ↦
          let one = holder s sound (16 * n) m (slot-at n m (omega (arith, less)) over.1) in
          let two = holder s sound (16 * m) m (slot-at m m (omega arith) (omega (arith, some_m))) in
          absurd (omega (arith, less, one-holder s sound (16 * n) (16 * m) m one two))
    ];
    near = λ y is_there. open-near s sound y (elim (s.slots y) as (λ o. s.slots y ≡ o → IsOpen s.slots y) [
      | None ↦ λ nothing_there. elim (set y) as (λ b. set y ≡ b → IsOpen s.slots y) [
        | true ↦ λ member. opens y member
        | false ↦ λ out. absurd (let clash : false ≡ true = sym (ap is_some (there-out s set y out ∙ ap (option_map (kept_entry s set y)) nothing_there))
            ∙ is_there in cc)
      ] refl
      | Some h ↦ λ some. ap is_some some
    ] refl);
    strays = stray-blank;
  }

-- ---- the whole

line-same : (s : State) (one two : ℕ → Bool) (first y : ℕ) → ((l : ℕ) → l < 64 → one l ≡ two l) → bindings_from s one first y ≡ true →
    bindings_from s two first y ≡ true
line-same s one two first y same is =
    let some = Any-from_list_any (λ k. nat_le first k && (y == binding_slot s k && one k)) (range_with_len 0 64) is in
    let few : some.0 < 64 = omega (arith, some.2, length-range_with_len 0 64) in
    let line : some.1 ≡ some.0 = sym some.3 ∙ get_or-range_with_len 0 64 some.0 some.1 few ∙ omega arith in
    let parts = both (nat_le first some.1) _ some.4 in
    let there = both (y == binding_slot s some.1) _ parts.1 in
    let taken : two some.1 ≡ true = ap two line ∙ sym (same some.0 few) ∙ ap one (sym line) ∙ there.1 in
    let test : ℕ → Bool = λ k. nat_le first k && (y == binding_slot s k && two k) in
    let here : get_or (range_with_len 0 64) some.0 0 ≡ some.1 = get_or-range_with_len 0 64 some.0 0 few ∙ omega (arith, line) in
    list_any_at test (range_with_len 0 64) some.0 0 (rw (length-range_with_len 0 64) few)
    (ap test here ∙ join (nat_le first some.1) _ parts.0 (join (y == binding_slot s some.1) _ there.0 taken))

pub lines-same : (s : State) (one two : ℕ → Bool) (first y : ℕ) → ((l : ℕ) → l < 64 → one l ≡ two l) → bindings_from s one first y ≡ bindings_from s two first y
lines-same s one two first y same = bool-iff (bindings_from s one first y) (bindings_from s two first y) (line-same s one two first y same)
    (line-same s two one first y (λ l few. sym (same l few)))

-- both loops leave what emptying the set with its bindings does
pub both-loops : (s one two : State) (set : SlotSet) (taken : ℕ → Bool) → SameShape s one
    → ((more : SlotSet) → ((y : ℕ) → more y ≡ true → IsOpen s.slots y) → emptied s (joined set more) ≡ emptied one more)
    → ((l : ℕ) → l < 64 → taken l ≡ takes_last s set (is_handler_of l)) → ((l : ℕ) → l < 64 → IsOpen s.slots (binding_slot s l))
    → emptied one (bindings_from one taken 0) ≡ two → two ≡ emptied s (with_bindings s set)
both-loops s one two set taken shape first same opens second =
    let last : ℕ → Bool = λ line. takes_last s set (is_handler_of line) in
    let here : (y : ℕ) → bindings_from one taken 0 y ≡ bindings_from s last 0 y = λ y.
    ap (λ (r : ℕ). bindings_from (record s { boot_radix = r }) taken 0 y) shape.radix ∙ lines-same s taken last 0 y same
    in
    sym second
    ∙ (λ i. emptied one (λ y. here y i))
    ∙ sym (first (bindings_from s last 0) (λ y member. line-open s last 0 y opens member))

pub members-all : (s : State) (set : SlotSet) → ((y : ℕ) → set y ≡ true → IsOpen s.slots y) → ((l : ℕ) → l < 64 → IsOpen s.slots (binding_slot s l)) → (y : ℕ) →
    with_bindings s set y ≡ true → IsOpen s.slots y
members-all s set opens lines y member = elim (or-cases (set y) (bindings_from s (λ line. takes_last s set (is_handler_of line)) 0 y) member) [
  | inl is ↦ opens y is
  | inr is ↦ line-open s (λ line. takes_last s set (is_handler_of line)) 0 y lines is
]

pub removed : (s t u : State) (set : SlotSet) → IsSound s → ((y : ℕ) → set y ≡ true → IsOpen s.slots y) → wants_revoke_first s (with_bindings s set) ≡ false
    → t ≡ emptied s (with_bindings s set) → u ≡ settled t → remove s set ≡ Ok u
unfolding remove
removed s t u set sound opens kept_first first second =
    let lines = (sound-ready s sound).lines in
    ap (λ b. if b then Err RevokeFirst else Ok (without_slots s (with_bindings s set))) kept_first
    ∙ ap (λ (w : State). Ok w) (settles s sound (with_bindings s set) (λ y full. open-near s sound y (full-open s.slots y full)) (members-all s set opens lines)
    ∙ ap settled (sym first) ∙ sym second)

pub refused : (s : State) (set : SlotSet) → wants_revoke_first s (with_bindings s set) ≡ true → remove s set ≡ Err RevokeFirst
unfolding remove
refused s set wants = ap (λ b. if b then Err RevokeFirst else Ok (without_slots s (with_bindings s set))) wants
