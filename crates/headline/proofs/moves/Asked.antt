-- A thread is at one call, so that what it waits for has to be said once.
use Rattle.std.proofs.Common.{ℕ, ◌≡◌, ◌∙◌, ◌+◌, ◌*◌, Option, Some, Result, Ok, sym, ap, subst, arith}
use Rattle.headline.specs.facts.Waiting.{WaitsAsAsked, WaitsSo}
use Rattle.model.specs.declared.refusals.Refusal.{Refusal}
use Rattle.model.specs.Acceptance.CallRules.{AfterCall}
use Rattle.model.specs.Acceptance.NotedStates.{PointState}
use Rattle.model.specs.Acceptance.PointStates.{Known, Noted, address_of, call_at, noted}
use Rattle.model.specs.Acceptance.ThreadInvariants.{tcb_of}
use Rattle.model.specs.Images.Described.{Numbered}
use Rattle.model.specs.Images.Image.{Image}
use Rattle.model.specs.Kernel.State.{State, ThreadObject, ThreadState}
use Rattle.headline.proofs.moves.LeftAlone.{one-thread}

-- an address is that of one point
one-point : (base pc a b : ℕ) → pc ≡ base + 4 * a → pc ≡ base + 4 * b → a ≡ b
one-point base pc a b first second = omega (arith, first, second)

one-state : (n : Noted) (a b : PointState) → n ≡ Known a → n ≡ Known b → a ≡ b
one-state n a b first second = let same : Known a ≡ Known b = sym first ∙ second in let e : a ≡ b = cc in e

one-left : (o : Option (Result AfterCall Refusal)) (a b : AfterCall) → o ≡ Some (Ok a) → o ≡ Some (Ok b) → a ≡ b
one-left o a b first second = let same : ◌≡◌ {A = Option (Result AfterCall Refusal)} (Some (Ok a)) (Some (Ok b)) = sym first ∙ second in let e : a ≡ b = cc in e

module _ (image : Image) (t : Numbered) (after : State) (next : ThreadState) (there : after.objects (tcb_of image t) ≡ Some (ThreadObject next)) (point : ℕ)
    (state : PointState) (left : AfterCall)
    (pc : next.registers.pc ≡ address_of t.thread point) (known : noted image t point ≡ Known state) (call : call_at image t point state ≡ Some (Ok left)) where
  pub asked-once : WaitsSo image t after state left next.status → WaitsAsAsked image t after
  asked-once so own other found answer is inside pc_is known_is call_is =
      let same : next ≡ own = one-thread (after.objects (tcb_of image t)) next own there is in
      let points : point ≡ other = one-point t.thread.header.base next.registers.pc point other pc (ap (λ (u : ThreadState). u.registers.pc) same ∙ pc_is) in
      let states : state ≡ found = one-state (noted image t point) state found known (ap (noted image t) points ∙ known_is) in
      let lefts : left ≡ answer =
      one-left (call_at image t point state) left answer call (ap (λ (n : ℕ). call_at image t n state) points
      ∙ ap (λ (u : PointState). call_at image t other u) states ∙ call_is) in
      let at_state : WaitsSo image t after found left next.status = subst (λ (u : PointState). WaitsSo image t after u left next.status) states so in
      let at_left : WaitsSo image t after found answer next.status = subst (λ (l : AfterCall). WaitsSo image t after found l next.status) lefts at_state in
      subst (λ (u : ThreadState). WaitsSo image t after found answer u.status) same at_left
