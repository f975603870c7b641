-- Where a system call of a program leads: to the next point.
use Rattle.std.proofs.Common.{ℕ, ◌≡◌, ◌∙◌, ◌+◌, ◌*◌, ◌%◌, ◌^◌, ◌<◌, ◌≤◌, Option, Some, Ok, Result, List, [], ◌∷◌, refl, sym, ap, subst, arith}
use Rattle.std.specs.Prelude.{Contains}
use Rattle.model.specs.declared.instructions.Instr.{Instr}
use Rattle.model.specs.declared.instructions.Instr.TheVariants.{Ecall}
use Rattle.model.specs.declared.refusals.Refusal.{Refusal}
use Rattle.model.specs.Acceptance.Accepted.{IsAccepted}
use Rattle.model.specs.Acceptance.CallRules.{AfterCall}
use Rattle.model.specs.Acceptance.NotedStates.{PointState}
use Rattle.model.specs.Acceptance.PointRules.{ProgramEdge, call_edge, call_edges, edges_at}
use Rattle.model.specs.Acceptance.PointStates.{Known, address_of, call_at, instruction_at, noted}
use Rattle.model.specs.Images.Described.{Numbered, numbered_threads}
use Rattle.model.specs.Images.Image.{Image}
use Rattle.headline.specs.moves.Laws.{Laws}
use Rattle.response.specs.Weights.{Leads}

pub next-address : (base words point : ℕ) → base + 4 * words ≤ 2 ^ 31 → point + 1 < words → (base + 4 * point + 4) % 2 ^ 32 ≡ base + 4 * (point + 1)
next-address base words point ends inside = omega (arith, ends, inside)

module _ (laws : Laws) (bytes : List ℕ) (image : Image) (accepted : IsAccepted bytes image) (t : Numbered) (listed : Contains (numbered_threads image) t)
    (point : ℕ) (state : PointState) (answer : AfterCall) (inside : point < t.thread.header.words) (known : noted image t point ≡ Known state)
    (ecall : instruction_at t.thread point ≡ Some Ecall) (call : call_at image t point state ≡ Some (Ok answer)) where
  pub next-inside : point + 1 < t.thread.header.words
  next-inside = (laws.lead bytes image t point state answer accepted listed inside known ecall call).inside

  the-edge : ProgramEdge
  the-edge = call_edge (address_of t.thread point) state.ranges answer

  edges-are : edges_at image t point state (instruction_at t.thread point) ≡ the-edge ∷ []
  unfolding edges_at the-edge
  edges-are =
      ap (λ (o : Option Instr). edges_at image t point state o) ecall
      ∙ ap (λ (o : Option (Result AfterCall Refusal)). call_edges (address_of t.thread point) state.ranges o) call

  pub call-leads : Leads image t point state (point + 1)
  unfolding the-edge
  call-leads = record {
    edge = the-edge;
    among = subst (λ (l : List ProgramEdge). Contains l the-edge) (sym edges-are) (0, omega arith, refl);
    inside = next-inside;
    target = four-on t.thread.header.base point;
  }
    where
      four-on : (base point : ℕ) → base + 4 * point + 4 ≡ base + 4 * (point + 1)
      four-on base point = omega arith
