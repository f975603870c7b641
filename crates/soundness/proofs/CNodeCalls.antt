-- Copy and Mint insert below their source; Move and Mutate relocate it.
use Rattle.std.proofs.Common.{ℕ, ◌≡◌, ◌∙◌, ◌<◌, true, false, not, nat_lt, Some, None, Ok, sym, ap, subst}
use Rattle.std.proofs.lemmas.Bool.{ltb-true, not-true}
use Rattle.model.specs.declared.capabilities.Cap.{Cap}
use Rattle.model.specs.declared.errors.KError.TheVariants.{IllegalOperation, RangeError}
use Rattle.model.specs.declared.invocations.SlotName.{SlotName}
use Rattle.model.specs.Capabilities.CapabilityKinds.{badge_fits, carries_messages, copied, frame_mapping, guard_fits, is_badged, may_be_copied, table_mapping}
use Rattle.model.specs.Capabilities.CapabilityKinds.{with_payload}
use Rattle.model.specs.Capabilities.CapabilityWords.{IsCapability}
use Rattle.model.specs.Capabilities.Slots.{IsFull, capability_at, depth_of, inserted, is_empty, is_full, recapped, relocated}
use Rattle.model.specs.Kernel.Arguments.{Call, check, destination_slot, may_have_child, source_slot}
use Rattle.model.specs.Kernel.CNodeCalls.{copy, mint, move, mutate}
use Rattle.model.specs.Kernel.Soundness.{IsSound}
use Rattle.model.specs.Kernel.State.{State, with_slots}
use Rattle.soundness.specs.Calls.{IsCall, IsInvoked, IsRoot, held, boot, of_slot, of_loader}
use Rattle.soundness.proofs.Copies.{no-badge, IsAlike, alike-both, copied-alike, copied-badge_fits, copied-guard_fits, copied-unmapped, copied-valid}
use Rattle.soundness.proofs.Copies.{copies-shared, payload-alike, is_single, payload-mapping, payload-page_table, payload-valid}
use Rattle.soundness.proofs.Inserted.{empty-open, inserted-sound}
use Rattle.soundness.proofs.Lookups.{check-passes, destination-plain, passes-both, source-plain}
use Rattle.soundness.proofs.Places.{IsPlain, plain-may_hold, plain-open, plain-still}
use Rattle.soundness.proofs.Recapped.{recapped-sound}
use Rattle.soundness.proofs.Relocated.{relocated-capability, relocated-sound}
use Rattle.model.specs.Kernel.Kinds.{object_named, piece_of, used_of}

-- what is invoked may be the root of a lookup
pub invoked-root : (s : State) (call : Call) → IsInvoked s call → IsRoot s call.capability
invoked-root s call (held is full) = of_slot call.slot is
invoked-root s call (boot is) = of_loader is

pub room-below : (s : State) (slot : ℕ) (u : Unit {0}) → may_have_child s.slots slot ≡ Ok u → depth_of s.slots slot < 255
room-below s slot u is = ltb-true (depth_of s.slots slot) 255 (check-passes (nat_lt (depth_of s.slots slot) 255) IllegalOperation u is)

-- a destination and a source
pub record AreNamed (s : State) (destination source : ℕ) : Type 0 where
  pub there : IsPlain s destination
  pub empty : is_full s.slots destination ≡ false
  pub from : IsPlain s source
  pub full : IsFull s.slots source

pub are-named : (s : State) (call : Call) (to from : SlotName) (destination source : ℕ) → IsSound s → IsCall s call
    → destination_slot s.slots call.capability to ≡ Ok destination → source_slot s.slots call.root from ≡ Ok source → AreNamed s destination source
are-named s call to from destination source sound is_call one other =
    let first = destination-plain s sound.memory call.capability to destination (invoked-root s call is_call.invoked) one in
    let second = source-plain s sound.memory call.root from source is_call.root other in
    record { there = first.0; empty = first.1; from = second.0; full = second.1 }

-- a capability that is made of the source's
pub made-sound : (s : State) (destination source : ℕ) (capability : Cap) → IsSound s → AreNamed s destination source → depth_of s.slots source < 255
    → IsCapability capability → IsAlike (capability_at s.slots source) capability
    → is_single (capability_at s.slots source) ≡ false → frame_mapping capability ≡ None
    → IsSound (with_slots s (inserted s.slots destination capability (Some source)))
made-sound s destination source capability sound named room valid alike shared unmapped =
    inserted-sound s destination source capability sound (record {
      empty = empty-open s.slots destination sound.slots.derivation (plain-open s sound.slots destination named.there) named.empty;
      full = named.full;
      room = room;
      valid = valid;
      alike = alike;
      shared = alike.single ∙ shared;
      unmapped = unmapped;
      may = plain-may_hold s sound.memory destination capability named.there;
    })

pub copy-sound : (s t : State) (call : Call) (to from : SlotName) (word : ℕ) → IsSound s → IsCall s call → copy s call to from word ≡ Ok t → IsSound t
copy-sound s t call to from word sound is_call is =
    let one = passes-both (destination_slot s.slots call.capability to) _ t is in
    let two = passes-both (source_slot s.slots call.root from) _ t one.rest in
    let capability = capability_at s.slots two.value in
    let three = passes-both (check (may_be_copied capability) IllegalOperation) _ t two.rest in
    let four = passes-both (may_have_child s.slots two.value) _ t three.rest in
    let may = check-passes (may_be_copied capability) IllegalOperation three.value three.first in
    let e : with_slots s (inserted s.slots one.value (copied capability word) (Some two.value)) ≡ t = cc four.rest in
    subst IsSound e (
    made-sound s one.value two.value (copied capability word) sound
    (are-named s call to from one.value two.value sound is_call one.first two.first)
    (room-below s two.value four.value four.first)
    (copied-valid capability word (sound.slots.derivation.valid two.value))
    (copied-alike capability word)
    (copies-shared capability may)
    (copied-unmapped capability word)
    )

pub mint-sound : (s t : State) (call : Call) (to from : SlotName) (word payload : ℕ) → IsSound s → IsCall s call
    → mint s call to from word payload ≡ Ok t → IsSound t
mint-sound s t call to from word payload sound is_call is =
    let one = passes-both (destination_slot s.slots call.capability to) _ t is in
    let two = passes-both (source_slot s.slots call.root from) _ t one.rest in
    let capability = capability_at s.slots two.value in
    let three = passes-both (check (may_be_copied capability) IllegalOperation) _ t two.rest in
    let four = passes-both (check (not (is_badged capability)) IllegalOperation) _ t three.rest in
    let five = passes-both (check (badge_fits capability payload) RangeError) _ t four.rest in
    let six = passes-both (check (guard_fits capability payload) IllegalOperation) _ t five.rest in
    let seven = passes-both (may_have_child s.slots two.value) _ t six.rest in
    let may = check-passes (may_be_copied capability) IllegalOperation three.value three.first in
    let badge = check-passes (badge_fits capability payload) RangeError five.value five.first in
    let guard = check-passes (guard_fits capability payload) IllegalOperation six.value six.first in
    let made : Cap = with_payload (copied capability word) payload in
    let e : with_slots s (inserted s.slots one.value made (Some two.value)) ≡ t = cc seven.rest in
    subst IsSound e (
    made-sound s one.value two.value made sound
    (are-named s call to from one.value two.value sound is_call one.first two.first)
    (room-below s two.value seven.value seven.first)
    (payload-valid (copied capability word) payload (copied-valid capability word (sound.slots.derivation.valid two.value))
    (copied-badge_fits capability word payload ∙ badge) (copied-guard_fits capability word payload ∙ guard))
    (alike-both capability (copied capability word) made (copied-alike capability word) (payload-alike (copied capability word) payload))
    (copies-shared capability may)
    (payload-mapping (copied capability word) payload ∙ copied-unmapped capability word)
    )

moved-sound : (s : State) (destination source : ℕ) → IsSound s → AreNamed s destination source
    → IsSound (with_slots s (relocated s.slots source destination))
moved-sound s destination source sound named =
    relocated-sound s source destination sound named.full
    (empty-open s.slots destination sound.slots.derivation (plain-open s sound.slots destination named.there) named.empty) named.from named.there

pub move-sound : (s t : State) (call : Call) (to from : SlotName) → IsSound s → IsCall s call → move s call to from ≡ Ok t → IsSound t
move-sound s t call to from sound is_call is =
    let one = passes-both (destination_slot s.slots call.capability to) _ t is in
    let two = passes-both (source_slot s.slots call.root from) _ t one.rest in
    let e : with_slots s (relocated s.slots two.value one.value) ≡ t = cc two.rest in
    subst IsSound e (moved-sound s one.value two.value sound (are-named s call to from one.value two.value sound is_call one.first two.first))

-- what is in a slot with another guard
guarded-sound : (s : State) (slot payload : ℕ) (capability : Cap) → IsSound s → IsPlain s slot → IsFull s.slots slot
    → capability_at s.slots slot ≡ capability
    → badge_fits capability payload ≡ true → guard_fits capability payload ≡ true →
    IsSound (with_slots s (recapped s.slots slot (with_payload capability payload)))
guarded-sound s slot payload capability sound plain full is badge guard =
    let alike = payload-alike capability payload in
    recapped-sound s slot (with_payload capability payload) sound
    (record {
      full = full;
      valid = payload-valid capability payload (subst IsCapability is (sound.slots.derivation.valid slot)) badge guard;
      object = alike.object ∙ ap object_named (sym is);
      piece = alike.piece ∙ ap piece_of (sym is);
      used = alike.used ∙ ap used_of (sym is);
      filled = alike.empty ∙ ap is_empty (sym is) ∙ not-true (is_empty (capability_at s.slots slot)) full;
      may = plain-may_hold s sound.memory slot (with_payload capability payload) plain;
    })
    (alike.table ∙ ap table_mapping (sym is))
    (λ m e. ap frame_mapping is ∙ sym (payload-mapping capability payload) ∙ e)
    (λ offset m e. is ∙ payload-page_table capability payload offset m e)

pub mutate-sound : (s t : State) (call : Call) (to from : SlotName) (payload : ℕ) → IsSound s → IsCall s call
    → mutate s call to from payload ≡ Ok t → IsSound t
mutate-sound s t call to from payload sound is_call is =
    let one = passes-both (destination_slot s.slots call.capability to) _ t is in
    let two = passes-both (source_slot s.slots call.root from) _ t one.rest in
    let capability = capability_at s.slots two.value in
    let three = passes-both (check (not (carries_messages capability)) IllegalOperation) _ t two.rest in
    let four = passes-both (check (guard_fits capability payload) IllegalOperation) _ t three.rest in
    let named = are-named s call to from one.value two.value sound is_call one.first two.first in
    let moved = relocated s.slots two.value one.value in
    let empty = empty-open s.slots one.value sound.slots.derivation (plain-open s sound.slots one.value named.there) named.empty in
    let same : capability_at moved one.value ≡ capability = relocated-capability s two.value one.value sound named.full empty named.from named.there in
    let e : with_slots s (recapped moved one.value (with_payload capability payload)) ≡ t = cc four.rest in
    subst IsSound e (
    guarded-sound (with_slots s moved) one.value payload capability (moved-sound s one.value two.value sound named)
    (plain-still s moved one.value named.there)
    (subst (λ (c : Cap). not (is_empty c) ≡ true) (sym same) named.full)
    same
    (no-badge capability payload (not-true (carries_messages capability)
    (check-passes (not (carries_messages capability)) IllegalOperation three.value three.first)))
    (check-passes (guard_fits capability payload) IllegalOperation four.value four.first)
    )
