-- What a thread is worth that takes from a notification, once it runs again: at most the notification's price.
use Rattle.std.proofs.Common.{ℕ, ◌≡◌, ◌∙◌, ◌+◌, ◌-◌, ◌*◌, ◌/◌, ◌%◌, ◌^◌, ◌≤◌, true, List, ap, subst, arith}
use Rattle.std.specs.Prelude.{Contains}
use Rattle.std.proofs.lemmas.Bool.{leb-true}
use Rattle.model.specs.declared.labels.Label.{Label}
use Rattle.model.specs.Acceptance.Accepted.{IsAccepted}
use Rattle.model.specs.Acceptance.PointStates.{address_of}
use Rattle.model.specs.Images.Described.{Numbered, numbered_threads}
use Rattle.model.specs.Images.Image.{Image}
use Rattle.model.specs.Kernel.State.{State}
use Rattle.headline.specs.moves.Laws.{Laws}
use Rattle.response.specs.Asking.{Asked}
use Rattle.response.specs.Laws.{WaitsToTake}
use Rattle.response.specs.Levels.{is_of_level}
use Rattle.response.specs.Weights.{Leads, Pays, Weights, pays_for, price_of}
use Rattle.response.proofs.CallLeads.{call-leads, next-address, next-inside}

-- the point of an address
pub point-of : (base point : ℕ) → (base + 4 * point - base) / 4 ≡ point
point-of base point = omega arith

module _ (laws : Laws) (bytes : List ℕ) (image : Image) (accepted : IsAccepted bytes image) (s : State) (labels : List Label) (t : Numbered)
    (listed : Contains (numbered_threads image) t) (queue : ℕ) (waits : WaitsToTake image t s labels queue) where
  abbrev point : ℕ
  point = waits.point

  -- where its program goes on
  pub next-pc : (waits.own.registers.pc + 4) % 2 ^ 32 ≡ address_of t.thread (point + 1)
  next-pc =
      ap (λ (n : ℕ). (n + 4) % 2 ^ 32) waits.stands.pc
      ∙ next-address t.thread.header.base t.thread.header.words point (laws.ends bytes image t accepted listed)
      (next-inside laws bytes image accepted t listed point waits.state waits.left waits.stands.inside waits.stands.known waits.ecall waits.call)

  pub goes-on : Leads image t point waits.state (point + 1)
  goes-on = call-leads laws bytes image accepted t listed point waits.state waits.left waits.stands.inside waits.stands.known waits.ecall waits.call

  -- its budget, and what it has still to set going, are paid
  module _ (priority : ℕ) (w : Weights) (pays : Pays image priority w) where
    pub taker-paid : is_of_level priority t ≡ true → t.thread.header.budget + w.still t.number (waits.point + 1) ≤ price_of w queue
    taker-paid level =
        leb-true (t.thread.header.budget + w.still t.number (point + 1)) (price_of w queue)
        (subst (λ (a : Asked). pays_for w t.thread.header.budget (w.still t.number point) (w.still t.number (point + 1)) a ≡ true) waits.asks
        (pays.points t point waits.state (point + 1) listed level waits.stands.inside waits.stands.known goes-on))
