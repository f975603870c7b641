-- Where slots stay as they are, they hang as they did.
use Rattle.std.proofs.Common.{ℕ, ◌≡◌, ◌^◌, ◌<◌, false, if◌then◌else◌, Some, sym, subst}
use Rattle.model.specs.Capabilities.CapabilityKinds.{is_untyped}
use Rattle.model.specs.Capabilities.Slots.{Slots, capability_at, depth_of, parent_at}
use Rattle.model.specs.Images.Described.{Numbered}
use Rattle.model.specs.Images.Image.{Image}
use Rattle.model.specs.Kernel.State.{State}
use Rattle.headline.specs.facts.Hanging.{HangsAsListed}

pub hangs-kept : (image : Image) (t : Numbered) (s after : State) → after.boot_radix ≡ s.boot_radix → ((slot : ℕ) → after.slots slot ≡ s.slots slot)
    → HangsAsListed image t s → HangsAsListed image t after
hangs-kept image t s after radix slots hang =
    let same : s.slots ≡ after.slots = λ i slot. sym (slots slot) i in
    record {
      boot = λ slot parent own is less.
          subst (λ (m : Slots). parent_at m slot ≡ Some parent → depth_of m parent ≡ (if is_untyped (capability_at m slot) then 0 else 1)) same
          (λ here. hang.boot slot parent own here (subst (λ (n : ℕ). parent < 2 ^ n) radix less)) is;
      own = λ slot parent own is mine.
          subst (λ (m : Slots). parent_at m slot ≡ Some parent → is_untyped (capability_at m slot) ≡ false) same
          (λ here. hang.own slot parent own here mine) is;
    }
