-- The slots that a call names, where the same are named in what is noted.
use Rattle.std.proofs.Common.{ℕ, ◌≡◌, ◌∙◌, Bool, true, false, not, nat_lt, List, Result, Ok, refl, sym, ap}
use Rattle.std.proofs.lemmas.Bool.{not-false}
use Rattle.model.specs.declared.capabilities.Cap.{Cap}
use Rattle.model.specs.declared.capabilities.Cap.TheVariants.{CNode}
use Rattle.model.specs.declared.errors.KError.{KError}
use Rattle.model.specs.declared.errors.KError.TheVariants.{DeleteFirst, FailedLookup, IllegalOperation}
use Rattle.model.specs.declared.invocations.SlotName.{SlotName}
use Rattle.model.specs.Acceptance.Authority.{IsOwnSlot}
use Rattle.model.specs.Acceptance.CallRules.{names_such}
use Rattle.model.specs.Acceptance.NotedKernel.{noted_root}
use Rattle.model.specs.Acceptance.NotedStates.{NotedSlot, is_foreign, is_own_cnode}
use Rattle.model.specs.Acceptance.ThreadRules.{reached}
use Rattle.model.specs.Capabilities.Slots.{Slots, capability_at, is_empty, is_full}
use Rattle.model.specs.Images.Described.{Numbered}
use Rattle.model.specs.Images.Image.{Image}
use Rattle.model.specs.Kernel.Arguments.{◌>>=◌, argument_slot, check, destination_slot, may_have_child, source_slot}
use Rattle.model.specs.Kernel.State.{State}
use Rattle.soundness.proofs.Laws.{check-passes, goes, passes, passes-both}
use Rattle.typestate.specs.Spaces.{is_inside}
use Rattle.headline.proofs.lookups.Laws.{root-own}
use Rattle.headline.specs.lookups.Found.{slots_noted}
use Rattle.headline.specs.invocations.Mirrors.{Mirrors}
use Rattle.thread_spaces.proofs.Laws.{negated}

pub ok-same : {A : Type 0} (a b : A) → ◌≡◌ {A = Result A KError} (Ok a) (Ok b) → a ≡ b
ok-same a b is = cc

-- a slot of this name that is empty, or full
pub record IsNamed (slots : Slots) (root : Cap) (name : SlotName) (full : Bool) (slot : ℕ) : Type 0 where
  pub named : argument_slot slots root name ≡ Ok slot
  pub holds : is_full slots slot ≡ full

pub destination-named : (slots : Slots) (root : Cap) (name : SlotName) (slot : ℕ) → destination_slot slots root name ≡ Ok slot
    → IsNamed slots root name false slot
destination-named slots root name slot is =
    let first = passes-both (argument_slot slots root name) (λ x. check (not (is_full slots x)) DeleteFirst >>= λ _. Ok x) slot is in
    let second = passes-both (check (not (is_full slots first.value)) DeleteFirst) (λ _. Ok first.value) slot first.rest in
    let same = ok-same first.value slot second.rest in
    record {
      named = first.first ∙ ap (λ (x : ℕ). let r : Result ℕ KError = Ok x in r) same;
      holds = ap (is_full slots) (sym same)
          ∙ negated (is_full slots first.value) (check-passes (not (is_full slots first.value)) DeleteFirst second.value second.first);
    }

pub source-named : (slots : Slots) (root : Cap) (name : SlotName) (slot : ℕ) → source_slot slots root name ≡ Ok slot → IsNamed slots root name true slot
source-named slots root name slot is =
    let first = passes-both (argument_slot slots root name) (λ x. check (is_full slots x) FailedLookup >>= λ _. Ok x) slot is in
    let second = passes-both (check (is_full slots first.value) FailedLookup) (λ _. Ok first.value) slot first.rest in
    let same = ok-same first.value slot second.rest in
    record {
      named = first.first ∙ ap (λ (x : ℕ). let r : Result ℕ KError = Ok x in r) same;
      holds = ap (is_full slots) (sym same) ∙ check-passes (is_full slots first.value) FailedLookup second.value second.first;
    }

pub named-destination : (slots : Slots) (root : Cap) (name : SlotName) (slot : ℕ)
    → IsNamed slots root name false slot → destination_slot slots root name ≡ Ok slot
named-destination slots root name slot of =
    goes (argument_slot slots root name) _ slot (Ok slot) of.named
    (passes (not (is_full slots slot)) DeleteFirst _ (Ok slot) (ap not of.holds) refl)

pub named-source : (slots : Slots) (root : Cap) (name : SlotName) (slot : ℕ) → IsNamed slots root name true slot → source_slot slots root name ≡ Ok slot
named-source slots root name slot of =
    goes (argument_slot slots root name) _ slot (Ok slot) of.named
    (passes (is_full slots slot) FailedLookup _ (Ok slot) of.holds refl)

module _ (image : Image) (t : Numbered) (s : State) (slots : List NotedSlot) (m : Mirrors image t s slots) where
  abbrev noted : Slots
  noted = slots_noted image t slots

  pub root-inside : is_inside image t.thread (noted_root image t.thread) ≡ true
  root-inside = root-own image t m.accepted.formed m.listed

  -- a CNode that one of the thread's slots holds is one of its own
  pub cnode-inside : (slot offset radix guard : ℕ) → IsOwnSlot image t.thread slot → capability_at s.slots slot ≡ CNode offset radix guard
      → is_inside image t.thread (capability_at s.slots slot) ≡ true
  cnode-inside slot offset radix guard own is =
      ap (is_inside image t.thread) is
      ∙ not-false (is_own_cnode image (reached image t.thread) offset radix)
      (ap (is_foreign image t.thread (reached image t.thread)) (sym is) ∙ m.home slot own)

  -- what is named in what is noted is named by the kernel, and one of the thread's slots
  pub record IsNamedSo (root : Cap) (name : SlotName) (full : Bool) (slot : ℕ) : Type 0 where
    pub is : IsNamed s.slots root name full slot
    pub own : IsOwnSlot image t.thread slot
    pub held : capability_at s.slots slot ≡ capability_at noted slot

  pub named-so : (root : Cap) (name : SlotName) (full : Bool) (slot : ℕ) → is_inside image t.thread root ≡ true → IsNamed noted root name full slot
      → IsNamedSo root name full slot
  named-so root name full slot inside of =
      let named = m.finds root name inside ∙ of.named in
      let own = m.finds_own root name slot inside named in
      let held = m.held slot own in
      record {
        is = record { named = named; holds = ap (λ (c : Cap). not (is_empty c)) held ∙ of.holds };
        own = own;
        held = held;
      }

  -- a child may hang below the slot in both
  pub room-too : (slot : ℕ) (u : Unit {0}) → IsOwnSlot image t.thread slot → may_have_child noted slot ≡ Ok u → may_have_child s.slots slot ≡ Ok u
  room-too slot u own is = ap (λ (n : ℕ). check (nat_lt n 255) IllegalOperation) (m.deep slot own) ∙ is

  -- what is named holds such a capability
  pub such-named : (test : Cap → Bool) (root : Cap) (name : SlotName) (full : Bool) (slot : ℕ) → IsNamed noted root name full slot
      → capability_at s.slots slot ≡ capability_at noted slot → names_such test noted (argument_slot noted root name) ≡ true
      → test (capability_at s.slots slot) ≡ true
  such-named test root name full slot of held is = ap test held ∙ ap (names_such test noted) (sym of.named) ∙ is
