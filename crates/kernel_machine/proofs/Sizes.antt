-- No object lies beyond the end of memory.
use Rattle.std.proofs.Common.{ℕ, ◌≡◌, ◌≤◌, Some, None, List, length, refl, ap, arith, pow_pos}
use Rattle.std.specs.Prelude.{option_map}
use Rattle.kernel_invariant.specs.Agreement.{Agrees}
use Rattle.model.specs.Kernel.Kinds.{kind_of}
use Rattle.model.specs.Kernel.Retype.{object_bits}
use Rattle.model.specs.Kernel.Soundness.{IsSound}
use Rattle.model.specs.Kernel.State.{State}
use Rattle.soundness.proofs.Laws.{object-inside}

pub none-behind : (s : State) (memory : List ℕ) (place : ℕ) → IsSound s → Agrees s memory → length memory ≤ place → s.objects place ≡ None
none-behind s memory place sound agrees behind = elim (s.objects place) as (λ o. s.objects place ≡ o → o ≡ None) [
  | None ↦ λ is. refl
  | Some o ↦ λ is.
      let whole = (object-inside s sound.memory place (kind_of o) (ap (option_map kind_of) is)).1 in
      let some = pow_pos (object_bits (kind_of o)) in
      absurd (omega (arith, whole, some, behind, agrees.size))
] refl
