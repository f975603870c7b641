-- Delete of a slot that the rules allow goes well.
use Rattle.std.proofs.Common.{ℕ, ◌≡◌, ◌∙◌, ◌==◌, Bool, true, false, not, if◌then◌else◌, Result, Ok, List, refl, sym, ap, subst}
use Rattle.std.proofs.lemmas.Bool.{eqb-true}
use Rattle.model.specs.declared.capabilities.Cap.{Cap}
use Rattle.model.specs.declared.errors.KError.{KError}
use Rattle.model.specs.declared.invocations.CNodeCall.TheVariants.{Delete}
use Rattle.model.specs.declared.invocations.Invocation.TheVariants.{OnCNode}
use Rattle.model.specs.declared.invocations.SlotName.{SlotName}
use Rattle.model.specs.Acceptance.CallRules.{names_such}
use Rattle.model.specs.Acceptance.NotedKernel.{noted_after, noted_kernel}
use Rattle.model.specs.Acceptance.NotedStates.{NotedSlot}
use Rattle.model.specs.Acceptance.ThreadInvariants.{NamesNoCode}
use Rattle.model.specs.Capabilities.CapabilityKinds.{is_untyped}
use Rattle.model.specs.Capabilities.Slots.{capability_at, is_empty, is_full}
use Rattle.model.specs.Images.Described.{Numbered}
use Rattle.model.specs.Images.Image.{Image}
use Rattle.model.specs.Kernel.Arguments.{◌>>=◌, argument_slot}
use Rattle.model.specs.Kernel.Removal.{delete, emptied, remove, with_bindings}
use Rattle.model.specs.Kernel.State.{State}
use Rattle.headline.specs.lookups.Found.{slots_noted}
use Rattle.headline.specs.invocations.Changes.{ChangesOwn}
use Rattle.headline.specs.invocations.Mirrors.{Mirrors}
use Rattle.headline.specs.invocations.Performed.{InvokesWell, MayInvoke}
use Rattle.headline.specs.invocations.Running.{Runs}
use Rattle.headline.proofs.invocations.NobodySetBack.{removed}
use Rattle.headline.proofs.invocations.RemovalChanges.{changes}
use Rattle.headline.proofs.invocations.RemovalSides.{own_set}
use Rattle.headline.proofs.invocations.RemovalTargets.{Target, cnode-inside, target}

ok-state : (a b : State) → ◌≡◌ {A = Result State KError} (Ok a) (Ok b) → a ≡ b
ok-state a b same = cc

module _ (image : Image) (t : Numbered) (s : State) (slots : List NotedSlot) (m : Mirrors image t s slots) (runs : Runs image t s) where
  abbrev kernel : State
  kernel = noted_kernel image t.thread slots

  -- ---- a slot that is empty

  unchanged : ChangesOwn image t s s (noted_after image t.thread (slots_noted image t slots))
  unchanged = record {
    memory_bits = refl;
    boot_radix = refl;
    slots = m.same ∙ sym m.back;
    others = λ slot other. refl;
    near = m.near;
    hang = m.hang;
    maps = m.maps;
    code = subst (NamesNoCode image) (sym m.back) m.code;
    threads = λ offset own is. is;
    been = λ offset own is. is;
    sends = λ queue e x is waits. is;
    receives = λ queue e thread is waits. is;
    waits = λ queue n thread is waits. is;
    bytes = λ frame place code low high. refl;
  }

  module _ (slot : ℕ) (name : SlotName) where
    abbrev capability : Cap
    capability = capability_at s.slots slot

    module _ (c : MayInvoke image t s slots slot (OnCNode (Delete name))) where
      pub deleted : Target image t s slots m capability name (delete kernel) c.noted
      deleted = target image t s slots m capability name (delete kernel) c.noted
          (cnode-inside image t s slots m slot c.own c.on.0 c.on.1 c.on.2 c.on.3) c.performs

      module _ (at : ℕ) (own : own_set image t at ≡ true) (there : argument_slot s.slots capability name ≡ Ok at)
          (noted : argument_slot (slots_noted image t slots) capability name ≡ Ok at) where
        pub no-pool : (other : ℕ) → (other == at) ≡ true → is_untyped (capability_at s.slots other) ≡ false
        no-pool other is =
            ap (λ (n : ℕ). is_untyped (capability_at s.slots n)) (eqb-true other at is) ∙ ap is_untyped (m.held at own)
            ∙ sym (ap (names_such is_untyped (slots_noted image t slots)) noted) ∙ c.keeps_pools

        pub only-own : (other : ℕ) → (other == at) ≡ true → own_set image t other ≡ true
        only-own other is = ap (own_set image t) (eqb-true other at is) ∙ own

        deletes : (b : Bool) → is_full s.slots at ≡ b → (if b then remove kernel (λ other. other == at) else Ok kernel) ≡ Ok c.noted
            → InvokesWell image t s slot (OnCNode (Delete name)) c.noted
        deletes true full is = record {
          after = emptied s (with_bindings s (λ other. other == at));
          performs =
              ap (λ r. r >>= delete s) there ∙ ap (λ b. if b then remove s (λ other. other == at) else Ok s) full
              ∙ removed image t s slots m runs (λ other. other == at) only-own;
          changes = changes image t s slots m (λ other. other == at) (λ other. other == at) only-own only-own (λ other mine. refl) no-pool c.noted is;
        }
        deletes false empty is = record {
          after = s;
          performs = ap (λ r. r >>= delete s) there ∙ ap (λ b. if b then remove s (λ other. other == at) else Ok s) empty;
          changes = subst (λ (end : State). ChangesOwn image t s s (noted_after image t.thread end.slots)) (ok-state kernel c.noted is) unchanged;
        }

      pub delete-well : InvokesWell image t s slot (OnCNode (Delete name)) c.noted
      delete-well =
          let at = deleted in
          deletes at.slot at.own at.there at.noted (is_full s.slots at.slot) refl
          (ap (λ d. if not (is_empty d) then remove kernel (λ other. other == at.slot) else Ok kernel) (m.held at.slot at.own) ∙ at.acts)
