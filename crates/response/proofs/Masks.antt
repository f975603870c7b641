-- An interrupt masks its line, if that is bound.
use Rattle.std.proofs.Common.{ℕ, ◌≡◌, ◌<◌, true, false, nat_lt, if◌then◌else◌, Option, Some, refl, sym, subst, arith}
use Rattle.std.specs.Option.{option_map_or}
use Rattle.std.proofs.lemmas.Bool.{ltb-true}
use Rattle.model.specs.Kernel.Interrupts.{Signal, binding, interrupt, raise, with_pending}
use Rattle.model.specs.Kernel.State.{State}
use Rattle.response.proofs.Interrupts.{put-at}

pub raise-masks : (s : State) (number : ℕ) (bound : Signal) → number < 64 → binding s number ≡ Some bound → (raise s number).masked number ≡ true
raise-masks s number bound few is = elim (nat_lt 63 number) as (λ b. nat_lt 63 number ≡ b → (if b then s else if s.masked number
    then with_pending s number true else option_map_or (interrupt s number) (binding s number) (with_pending s number true)).masked number ≡ true) [
      | true ↦ λ high. absurd (let more = ltb-true 63 number high in omega (arith, few, more))
      | false ↦ λ _. elim (s.masked number) as (λ b. s.masked number ≡ b → (if b then with_pending s number true else
          option_map_or (interrupt s number) (binding s number) (with_pending s number true)).masked number ≡ true) [
            | true ↦ λ masked. masked
            | false ↦ λ _. subst (λ (b : Option Signal). (option_map_or (interrupt s number) b (with_pending s number true)).masked number ≡ true) (sym is)
                (put-at s.masked number true)
          ] refl
    ] refl
