-- Revoke of a slot's descendants goes well: they are the same on both sides, and none of them is a pool.
use Rattle.std.proofs.Common.{ℕ, ◌≡◌, ◌∙◌, true, false, Ok, List, refl, sym, ap}
use Rattle.std.proofs.lemmas.Bool.{false≢true}
use Rattle.model.specs.declared.capabilities.Cap.{Cap}
use Rattle.model.specs.declared.invocations.CNodeCall.TheVariants.{Revoke}
use Rattle.model.specs.declared.invocations.Invocation.TheVariants.{OnCNode}
use Rattle.model.specs.declared.invocations.SlotName.{SlotName}
use Rattle.model.specs.Acceptance.NotedKernel.{noted_kernel}
use Rattle.model.specs.Acceptance.NotedStates.{NotedSlot}
use Rattle.model.specs.Capabilities.CapabilityKinds.{is_untyped}
use Rattle.model.specs.Capabilities.Slots.{capability_at, depth_of, descends_within, is_descendant, parent_at}
use Rattle.model.specs.Images.Described.{Numbered}
use Rattle.model.specs.Images.Image.{Image}
use Rattle.model.specs.Kernel.Arguments.{◌>>=◌, argument_slot}
use Rattle.model.specs.Kernel.Removal.{emptied, remove, revoke, with_bindings}
use Rattle.model.specs.Kernel.State.{State}
use Rattle.headline.specs.lookups.Found.{slots_noted}
use Rattle.headline.specs.invocations.Mirrors.{Mirrors}
use Rattle.headline.specs.invocations.Performed.{InvokesWell, MayInvoke}
use Rattle.headline.specs.invocations.Running.{Runs}
use Rattle.headline.proofs.invocations.BothSides.{descends-same}
use Rattle.headline.proofs.invocations.ParentsAway.{descends-away, descends-below}
use Rattle.headline.proofs.invocations.NobodySetBack.{removed}
use Rattle.headline.proofs.invocations.NotedRemoval.{out-noted, out-there, parents-meet}
use Rattle.headline.proofs.invocations.RemovalChanges.{changes}
use Rattle.headline.proofs.invocations.RemovalSides.{own_set}
use Rattle.headline.proofs.invocations.RemovalTargets.{Target, cnode-inside, target}

module _ (image : Image) (t : Numbered) (s : State) (slots : List NotedSlot) (m : Mirrors image t s slots) (runs : Runs image t s) where
  abbrev kernel : State
  kernel = noted_kernel image t.thread slots

  module _ (slot : ℕ) (name : SlotName) where
    abbrev capability : Cap
    capability = capability_at s.slots slot

    module _ (c : MayInvoke image t s slots slot (OnCNode (Revoke name))) where
      pub revoked : Target image t s slots m capability name (revoke kernel) c.noted
      revoked = target image t s slots m capability name (revoke kernel) c.noted
          (cnode-inside image t s slots m slot c.own c.on.0 c.on.1 c.on.2 c.on.3) c.performs

      module _ (at : ℕ) (own : own_set image t at ≡ true) where
        pub below-own : (other : ℕ) → is_descendant s.slots at other ≡ true → own_set image t other ≡ true
        below-own other is = elim (own_set image t other) as (λ b. own_set image t other ≡ b → b ≡ true) [
          | true ↦ λ _. refl
          | false ↦ λ out. absurd
              (false≢true (sym (descends-away (own_set image t) s.slots (out-there image t s slots m) (depth_of s.slots other) at other own out) ∙ is))
        ] refl

        below-noted : (other : ℕ) → is_descendant (slots_noted image t slots) at other ≡ true → own_set image t other ≡ true
        below-noted other is = elim (own_set image t other) as (λ b. own_set image t other ≡ b → b ≡ true) [
          | true ↦ λ _. refl
          | false ↦ λ out.
              absurd (false≢true
              (sym (descends-away (own_set image t) (slots_noted image t slots) (out-noted image t s slots m)
              (depth_of (slots_noted image t slots) other) at other own out) ∙ is))
        ] refl

        below-same : (other : ℕ) → own_set image t other ≡ true → is_descendant s.slots at other ≡ is_descendant (slots_noted image t slots) at other
        below-same other mine =
            ap (λ (n : ℕ). descends_within n (parent_at s.slots) at other) (m.deep other mine)
            ∙ descends-same (own_set image t) s kernel (out-there image t s slots m) (out-noted image t s slots m) (parents-meet image t s slots m)
            (depth_of (slots_noted image t slots) other) at other own mine

        pub no-pool-below : (other : ℕ) → is_descendant s.slots at other ≡ true → is_untyped (capability_at s.slots other) ≡ false
        no-pool-below other is =
            let up = descends-below (own_set image t) s.slots (out-there image t s slots m) (depth_of s.slots other) at other own is in
            m.hang.own other up.0 (below-own other is) up.1 up.2

        revokes : argument_slot s.slots capability name ≡ Ok at → remove kernel (is_descendant (slots_noted image t slots) at) ≡ Ok c.noted
            → InvokesWell image t s slot (OnCNode (Revoke name)) c.noted
        revokes there is = record {
          after = emptied s (with_bindings s (is_descendant s.slots at));
          performs = ap (λ r. r >>= revoke s) there ∙ removed image t s slots m runs (is_descendant s.slots at) below-own;
          changes = changes image t s slots m (is_descendant s.slots at)
              (is_descendant (slots_noted image t slots) at) below-own below-noted below-same no-pool-below c.noted is;
        }

      pub revoke-well : InvokesWell image t s slot (OnCNode (Revoke name)) c.noted
      revoke-well = let at = revoked in revokes at.slot at.own at.there at.acts
