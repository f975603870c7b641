-- What Copy, Mint, Move and Mutate leave is whole.
use Rattle.std.proofs.Common.{ℕ, ◌≡◌, ◌≢◌, ◌∙◌, true, false, not, Option, Some, None, IsSome, List, Result, Ok, Err, refl, sym, ap, subst}
use Rattle.std.specs.Prelude.{OnErr}
use Rattle.std.proofs.lemmas.Bool.{not-true}
use Rattle.kernel_invariant.proofs.Laws.{copy-agrees, follows-law, move-agrees, moved-closes, mutate-agrees, mutate-closes, put-closes}
use Rattle.model.specs.Kernel.Outcomes.{Gives, GivesState}
use Rattle.kernel_invariant.specs.Wholeness.{Agreed, IsWhole}
use Rattle.kernel_machine.proofs.perform_calls.Lent.{IsLent}
use Rattle.kernel_machine.proofs.perform_calls.Standing.{Whole, refused-whole}
use Rattle.model.proofs.Ancestors.{full-open}
use Rattle.model.specs.Capabilities.CapabilityKinds.{badge_fits, carries_messages, copied, guard_fits, is_badged, may_be_copied, with_payload}
use Rattle.model.specs.Capabilities.Slots.{IsFull, SameOutside, Slots, capability_at, empty_entry, inserted, is_full, recapped, relocated}
use Rattle.model.specs.Kernel.Arguments.{Call, check, destination_slot, may_have_child, source_slot, whole}
use Rattle.model.specs.Kernel.CNodeCalls.{copy, mint, move, mutate}
use Rattle.model.specs.Kernel.Soundness.{IsSound}
use Rattle.model.specs.Kernel.State.{State, with_slots}
use Rattle.model.specs.declared.capabilities.Cap.{Cap}
use Rattle.model.specs.declared.errors.KError.{KError}
use Rattle.model.specs.declared.errors.KError.TheVariants.{IllegalOperation, RangeError}
use Rattle.model.specs.declared.invocations.SlotName.{SlotName}
use Rattle.model.specs.declared.slot_entries.Entry.{Entry}
use Rattle.objects.specs.Tables.{Tables, state_of}
use Rattle.soundness.proofs.Laws.{AreNamed, alike-both, are-named, check-passes, copied-alike, copied-badge_fits, copied-guard_fits, copied-unmapped}
use Rattle.soundness.proofs.Laws.{copied-valid, copies-shared, copy-sound, empty-open, mint-sound, move-sound, mutate-sound, no-badge, passes-both}
use Rattle.soundness.proofs.Laws.{payload-alike, payload-mapping, payload-valid, plain-open}
use Rattle.soundness.specs.Calls.{IsCall}

-- ---- what is left

pub record Left (o : Tables) (slots now : Slots) (old new : List ℕ) : Type 0 where
  pub closes : (slot : ℕ) → slots slot ≡ None → now slot ≡ None
  pub agreed : Agreed o now new
  pub sound : IsSound (with_slots (state_of o slots old) now)

left-subst : (o : Tables) (slots made now : Slots) (old new : List ℕ) → made ≡ now → Left o slots made old new → Left o slots now old new
left-subst o slots made now old new is left = subst (λ (n : Slots). Left o slots n old new) is left

full-held : (slots : Slots) (slot : ℕ) → IsFull slots slot → (e : Entry) × (slots slot ≡ Some e)
full-held slots slot full = elim (slots slot) as (λ h. slots slot ≡ h → (e : Entry) × (slots slot ≡ Some e)) [
  | None ↦ λ none. absurd (let clash : false ≡ true = subst (λ (x : Option Entry). IsSome x) none (full-open slots slot full) in cc)
  | Some e ↦ λ some. (e, some)
] refl

module _ (o : Tables) (slots now : Slots) (old new : List ℕ) (call : Call) (to from : SlotName) (sound : IsSound (state_of o slots old))
    (agreed : Agreed o slots old)
    (same : SameOutside slots old new) (is_call : IsCall (state_of o slots old) call) where
  abbrev s : State
  s = state_of o slots old

  empty-at : (destination source : ℕ) → AreNamed s destination source → slots destination ≡ Some empty_entry
  unfolding state_of
  empty-at destination source named = empty-open slots destination sound.slots.derivation (plain-open s sound.slots destination named.there) named.empty

  pub copy-left : (word : ℕ) → copy s call to from word ≡ Ok (with_slots s now) → Left o slots now old new
  unfolding state_of
  copy-left word is =
      let one = passes-both (destination_slot slots call.capability to) _ _ is in
      let two = passes-both (source_slot slots call.root from) _ _ one.rest in
      let capability = capability_at slots two.value in
      let three = passes-both (check (may_be_copied capability) IllegalOperation) _ _ two.rest in
      let four = passes-both (may_have_child slots two.value) _ _ three.rest in
      let may = check-passes (may_be_copied capability) IllegalOperation three.value three.first in
      let named = are-named s call to from one.value two.value sound is_call one.first two.first in
      let after : with_slots s (inserted slots one.value (copied capability word) (Some two.value)) ≡ with_slots s now = cc four.rest in
      let empty = empty-at one.value two.value named in
      left-subst o slots (inserted slots one.value (copied capability word) (Some two.value)) now old new (ap (λ (t : State). t.slots) after) (record {
        closes = put-closes slots one.value (copied capability word) (Some two.value) (subst (λ (x : Option Entry). IsSome x) (sym empty) refl);
        agreed = copy-agrees o slots old new one.value two.value (copied capability word) agreed same empty
            (copied-valid capability word (sound.slots.derivation.valid two.value))
            ((copied-alike capability word).single ∙ copies-shared capability may) (copied-unmapped capability word) (copied-alike capability word).object;
        sound = subst IsSound (sym after) (copy-sound s (with_slots s now) call to from word sound is_call is);
      })

  pub mint-left : (word payload : ℕ) → mint s call to from word payload ≡ Ok (with_slots s now) → Left o slots now old new
  unfolding state_of
  mint-left word payload is =
      let one = passes-both (destination_slot slots call.capability to) _ _ is in
      let two = passes-both (source_slot slots call.root from) _ _ one.rest in
      let capability = capability_at slots two.value in
      let three = passes-both (check (may_be_copied capability) IllegalOperation) _ _ two.rest in
      let four = passes-both (check (not (is_badged capability)) IllegalOperation) _ _ three.rest in
      let five = passes-both (check (badge_fits capability payload) RangeError) _ _ four.rest in
      let six = passes-both (check (guard_fits capability payload) IllegalOperation) _ _ five.rest in
      let seven = passes-both (may_have_child slots two.value) _ _ six.rest in
      let may = check-passes (may_be_copied capability) IllegalOperation three.value three.first in
      let badge = check-passes (badge_fits capability payload) RangeError five.value five.first in
      let guard = check-passes (guard_fits capability payload) IllegalOperation six.value six.first in
      let minted : Cap = with_payload (copied capability word) payload in
      let alike = alike-both capability (copied capability word) minted (copied-alike capability word) (payload-alike (copied capability word) payload) in
      let named = are-named s call to from one.value two.value sound is_call one.first two.first in
      let after : with_slots s (inserted slots one.value minted (Some two.value)) ≡ with_slots s now = cc seven.rest in
      let empty = empty-at one.value two.value named in
      left-subst o slots (inserted slots one.value minted (Some two.value)) now old new (ap (λ (t : State). t.slots) after) (record {
        closes = put-closes slots one.value minted (Some two.value) (subst (λ (x : Option Entry). IsSome x) (sym empty) refl);
        agreed = copy-agrees o slots old new one.value two.value minted agreed same empty
            (payload-valid (copied capability word) payload (copied-valid capability word (sound.slots.derivation.valid two.value))
            (copied-badge_fits capability word payload ∙ badge) (copied-guard_fits capability word payload ∙ guard))
            (alike.single ∙ copies-shared capability may) (payload-mapping (copied capability word) payload ∙ copied-unmapped capability word) alike.object;
        sound = subst IsSound (sym after) (mint-sound s (with_slots s now) call to from word payload sound is_call is);
      })

  pub move-left : move s call to from ≡ Ok (with_slots s now) → Left o slots now old new
  unfolding state_of
  move-left is =
      let one = passes-both (destination_slot slots call.capability to) _ _ is in
      let two = passes-both (source_slot slots call.root from) _ _ one.rest in
      let named = are-named s call to from one.value two.value sound is_call one.first two.first in
      let after : with_slots s (relocated slots two.value one.value) ≡ with_slots s now = cc two.rest in
      let empty = empty-at one.value two.value named in
      let from_open = full-open slots two.value named.full in
      left-subst o slots (relocated slots two.value one.value) now old new (ap (λ (t : State). t.slots) after) (record {
        closes = moved-closes slots two.value one.value from_open (subst (λ (x : Option Entry). IsSome x) (sym empty) refl);
        agreed = move-agrees o slots old new two.value one.value agreed same from_open empty
            (λ same_slot. let clash : true ≡ false = sym named.full ∙ ap (is_full slots) same_slot ∙ named.empty in cc);
        sound = subst IsSound (sym after) (move-sound s (with_slots s now) call to from sound is_call is);
      })

  pub mutate-left : (payload : ℕ) → mutate s call to from payload ≡ Ok (with_slots s now) → Left o slots now old new
  unfolding state_of
  mutate-left payload is =
      let one = passes-both (destination_slot slots call.capability to) _ _ is in
      let two = passes-both (source_slot slots call.root from) _ _ one.rest in
      let capability = capability_at slots two.value in
      let three = passes-both (check (not (carries_messages capability)) IllegalOperation) _ _ two.rest in
      let four = passes-both (check (guard_fits capability payload) IllegalOperation) _ _ three.rest in
      let silent = not-true (carries_messages capability) (check-passes (not (carries_messages capability)) IllegalOperation three.value three.first) in
      let guard = check-passes (guard_fits capability payload) IllegalOperation four.value four.first in
      let named = are-named s call to from one.value two.value sound is_call one.first two.first in
      let guarded : Slots = recapped (relocated slots two.value one.value) one.value (with_payload capability payload) in
      let after : with_slots s guarded ≡ with_slots s now = cc four.rest in
      let empty = empty-at one.value two.value named in
      let there = full-held slots two.value named.full in
      let apart : two.value ≢ one.value = λ same_slot. let clash : true ≡ false = sym named.full ∙ ap (is_full slots) same_slot ∙ named.empty in cc in
      left-subst o slots guarded now old new (ap (λ (t : State). t.slots) after) (record {
        closes = mutate-closes o slots old new two.value one.value payload there.0 there.1 empty apart;
        agreed = mutate-agrees o slots old new two.value one.value payload there.0 there.1 empty apart agreed same silent
            (payload-valid capability payload (sound.slots.derivation.valid two.value) (no-badge capability payload silent) guard);
        sound = subst IsSound (sym after) (mutate-sound s (with_slots s now) call to from payload sound is_call is);
      })

-- ---- the answer

-- what a definition of one of the four gives in every state with these slots, for this root and this CNode
abbrev pub GivesTo : {A : Type 0} → (State → Call → Result State KError) → Call → Slots → Slots → Result A KError → Type 0
GivesTo defined call slots now result =
    (s : State) (made : Call) → made.root ≡ call.root → made.capability ≡ call.capability → Gives (defined (with_slots s slots) made) s now result

given : {A : Type 0} (o : Tables) (slots : Slots) (memory : List ℕ) (defined : State → Call → Result State KError) (now : Slots)
    (result : Result A KError) (call : Call)
    → GivesTo defined call slots now result → Gives (defined (state_of o slots memory) call) (state_of o slots memory) now result
unfolding state_of
given o slots memory defined now (Ok x) call gives = gives (state_of o slots memory) call refl refl
given o slots memory defined now (Err e) call gives = gives (state_of o slots memory) call refl refl

module _ (o : Tables) (slots now : Slots) (old new : List ℕ) (agreed : Agreed o slots old) (same : SameOutside slots old new) where
  after-state : Left o slots now old new → state_of o now new ≡ with_slots (state_of o slots old) now
  after-state left = follows-law o slots now old new agreed same left.closes

  gives-after : {A : Type 0} (defined : Result State KError) (result : Result A KError) →
      (defined ≡ Ok (with_slots (state_of o slots old) now) → Left o slots now old new)
      → Gives defined (state_of o slots old) now result → GivesState defined result (state_of o now new)
  gives-after defined (Ok x) leaves gives = gives ∙ ap (λ (t : State). Ok t) (sym (after-state (leaves gives)))
  gives-after defined (Err e) leaves gives = gives

  whole-after : Left o slots now old new → IsWhole o now new
  whole-after left = record { sound = subst IsSound (sym (after-state left)) left.sound; agrees = left.agreed.0; stands = left.agreed.1 }

-- what a call leaves is what its definition says, and whole
called : {A S : Type 0} (slots_in : S → Slots) (memory_in : S → List ℕ) (o : Tables) (store now : S) (defined : State → Call → Result State KError)
    (call : Call) (result : Result A KError) → Whole slots_in memory_in o store → SameOutside (slots_in store) (memory_in store) (memory_in now)
    → (defined (state_of o (slots_in store) (memory_in store)) call ≡ Ok (with_slots (state_of o (slots_in store) (memory_in store)) (slots_in now))
    → Left o (slots_in store) (slots_in now) (memory_in store) (memory_in now))
    → GivesTo defined call (slots_in store) (slots_in now) result → OnErr result (now ≡ store)
    → GivesState (defined (state_of o (slots_in store) (memory_in store)) call) result (state_of o (slots_in now) (memory_in now))
    × Whole slots_in memory_in o now
called slots_in memory_in o store now defined call result whole same leaves gives unchanged =
    let s : State = state_of o (slots_in store) (memory_in store) in
    let known = given o (slots_in store) (memory_in store) defined (slots_in now) result call gives in (
      gives-after o (slots_in store) (slots_in now) (memory_in store) (memory_in now) (whole.agrees, whole.stands) same (defined s call) result leaves known,
      refused-whole slots_in memory_in result store now o whole unchanged
          (λ x is. whole-after o (slots_in store) (slots_in now) (memory_in store) (memory_in now) (whole.agrees, whole.stands) same
          (leaves (subst (λ r. Gives (defined s call) s (slots_in now) r) is known))),
    )

pub copy-made : {A S : Type 0} {slots_in : S → Slots} {memory_in : S → List ℕ} {o : Tables} {store : S} {call : Call} → IsLent slots_in memory_in o store call
    → (now : S) (to from : SlotName) (word : ℕ) (result : Result A KError) → SameOutside (slots_in store) (memory_in store) (memory_in now)
    → GivesTo (λ s made. copy s made to from word) call (slots_in store) (slots_in now) result → OnErr result (now ≡ store)
    → GivesState (copy (state_of o (slots_in store) (memory_in store)) call to from word) result (state_of o (slots_in now) (memory_in now))
    × Whole slots_in memory_in o now
copy-made {slots_in = slots_in} {memory_in} {o} {store} {call} lent now to from word result same gives unchanged =
    called slots_in memory_in o store now (λ s made. copy s made to from word) call result lent.whole same
    (copy-left o (slots_in store) (slots_in now) (memory_in store) (memory_in now) call to from lent.whole.sound (lent.whole.agrees, lent.whole.stands)
    same lent.is_call word) gives unchanged

pub mint-made : {A S : Type 0} {slots_in : S → Slots} {memory_in : S → List ℕ} {o : Tables} {store : S} {call : Call} → IsLent slots_in memory_in o store call
    → (now : S) (to from : SlotName) (word payload : ℕ) (result : Result A KError) → SameOutside (slots_in store) (memory_in store) (memory_in now)
    → GivesTo (λ s made. mint s made to from word payload) call (slots_in store) (slots_in now) result → OnErr result (now ≡ store)
    → GivesState (mint (state_of o (slots_in store) (memory_in store)) call to from word payload) result (state_of o (slots_in now) (memory_in now))
    × Whole slots_in memory_in o now
mint-made {slots_in = slots_in} {memory_in} {o} {store} {call} lent now to from word payload result same gives unchanged =
    called slots_in memory_in o store now (λ s made. mint s made to from word payload) call result lent.whole same
    (mint-left o (slots_in store) (slots_in now) (memory_in store) (memory_in now) call to from lent.whole.sound (lent.whole.agrees, lent.whole.stands)
    same lent.is_call word payload) gives unchanged

pub move-made : {A S : Type 0} {slots_in : S → Slots} {memory_in : S → List ℕ} {o : Tables} {store : S} {call : Call} → IsLent slots_in memory_in o store call
    → (now : S) (to from : SlotName) (result : Result A KError) → SameOutside (slots_in store) (memory_in store) (memory_in now)
    → GivesTo (λ s made. move s made to from) call (slots_in store) (slots_in now) result → OnErr result (now ≡ store)
    → GivesState (move (state_of o (slots_in store) (memory_in store)) call to from) result (state_of o (slots_in now) (memory_in now))
    × Whole slots_in memory_in o now
move-made {slots_in = slots_in} {memory_in} {o} {store} {call} lent now to from result same gives unchanged =
    called slots_in memory_in o store now (λ s made. move s made to from) call result lent.whole same
    (move-left o (slots_in store) (slots_in now) (memory_in store) (memory_in now) call to from lent.whole.sound (lent.whole.agrees, lent.whole.stands)
    same lent.is_call) gives unchanged

pub mutate-made : {A S : Type 0} {slots_in : S → Slots} {memory_in : S → List ℕ} {o : Tables} {store : S} {call : Call} → IsLent slots_in memory_in o store call
    → (now : S) (to from : SlotName) (payload : ℕ) (result : Result A KError) → SameOutside (slots_in store) (memory_in store) (memory_in now)
    → GivesTo (λ s made. mutate s made to from payload) call (slots_in store) (slots_in now) result → OnErr result (now ≡ store)
    → GivesState (mutate (state_of o (slots_in store) (memory_in store)) call to from payload) result (state_of o (slots_in now) (memory_in now))
    × Whole slots_in memory_in o now
mutate-made {slots_in = slots_in} {memory_in} {o} {store} {call} lent now to from payload result same gives unchanged =
    called slots_in memory_in o store now (λ s made. mutate s made to from payload) call result lent.whole same
    (mutate-left o (slots_in store) (slots_in now) (memory_in store) (memory_in now) call to from lent.whole.sound (lent.whole.agrees, lent.whole.stands)
    same lent.is_call payload) gives unchanged
