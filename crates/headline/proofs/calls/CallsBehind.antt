-- The one edge of a system call leads to the next point, and what it has to keep there is what is known after the call.
use Rattle.std.proofs.Common.{ℕ, ◌≡◌, ◌∙◌, ◌+◌, ◌*◌, ◌<◌, ◌<ℤ◌, ◌≤ℤ◌, pos, true, false, List, [], ◌∷◌, Option, Some, Ok, refl, sym, ap, subst, arith}
use Rattle.std.specs.Prelude.{Contains}
use Rattle.headline.proofs.facts.Laws.{thread-entry, within-wider}
use Rattle.headline.specs.calls.Behind.{LeadsBehind}
use Rattle.headline.proofs.measure_facts.Laws.{falls-over, noted-named, stays-within}
use Rattle.headline.specs.measure_facts.Terms.{NamesRegisters, WritesOnly}
use Rattle.format_laws.proofs.Laws.{is-fitting}
use Rattle.format_laws.specs.Fitting.{IsFitting}
use Rattle.model.specs.declared.instructions.Instr.{Instr}
use Rattle.model.specs.declared.instructions.Instr.TheVariants.{Ecall}
use Rattle.model.specs.Acceptance.Accepted.{IsAccepted}
use Rattle.model.specs.Acceptance.CallRules.{AfterCall}
use Rattle.model.specs.Acceptance.Measures.{measured}
use Rattle.model.specs.Acceptance.NotedStates.{PointState}
use Rattle.model.specs.Acceptance.PointRules.{ProgramEdge, call_edge, call_edges, edges_at}
use Rattle.model.specs.Acceptance.PointStates.{Known, address_of, call_at, instruction_at, noted}
use Rattle.model.specs.Acceptance.ThreadInvariants.{LieWithin}
use Rattle.model.specs.Images.Described.{Numbered, numbered_threads}
use Rattle.model.specs.Images.Image.{Image}
use Rattle.model.specs.Machine.ProgramMemory.{RegisterFile}
use Rattle.headline.proofs.steps.Laws.{known-form, not-stray-formed, point-kept, slots-back}
use Rattle.headline.specs.steps.Formed.{AreFormed, HasForm}
use Rattle.headline.specs.steps.Points.{IsPoint, LeadsOn}
use Rattle.headline.proofs.calls.GivenThreads.{base-aligned}

edges-are : (image : Image) (t : Numbered) (point : ℕ) (state : PointState) (o : Option Instr) → o ≡ Some Ecall
    → edges_at image t point state o ≡ call_edges (address_of t.thread point) state.ranges (call_at image t point state)
unfolding edges_at
edges-are image t point state o is = ap (edges_at image t point state) is

-- the next address is that of the next point
next-point : (base here there : ℕ) → base + 4 * here + 4 ≡ base + 4 * there → there ≡ here + 1
next-point base here there same = omega (arith, same)

module _ (bytes : List ℕ) (image : Image) (t : Numbered) (accepted : IsAccepted bytes image) (listed : Contains (numbered_threads image) t) where
  fitting : IsFitting image
  fitting = is-fitting image accepted.spelled.fits

  pub point-at : (point : ℕ) (state : PointState) → point < t.thread.header.words → noted image t point ≡ Known state → IsPoint image t point state
  point-at point state inside known = point-kept image t point state accepted.programs listed (base-aligned image t accepted.formed.threads listed) inside known

  formed-at : (point : ℕ) (state : PointState) → point < t.thread.header.words → noted image t point ≡ Known state → AreFormed state.slots
  formed-at point state inside known =
      let form : HasForm state = known-form image t accepted.spelled.fits fitting listed.0 (thread-entry image t listed) point state known in
      not-stray-formed image t.thread point state fitting form.low (point-at point state inside known).own

  named-at : (point : ℕ) (state : PointState) → noted image t point ≡ Known state → NamesRegisters state.measure
  named-at point state known = noted-named image listed.0 t point state accepted.spelled.fits (thread-entry image t listed) known

  module _ (point : ℕ) (state : PointState) (left : AfterCall) (inside : point < t.thread.header.words) (known : noted image t point ≡ Known state)
      (is : instruction_at t.thread point ≡ Some Ecall) (left_so : call_at image t point state ≡ Some (Ok left)) where
    abbrev edge : ProgramEdge
    edge = call_edge (address_of t.thread point) state.ranges left

    leads : LeadsOn image t state.measure edge
    leads =
        let one : edges_at image t point state (instruction_at t.thread point) ≡ edge ∷ [] =
        edges-are image t point state (instruction_at t.thread point) is ∙ ap (call_edges (address_of t.thread point) state.ranges) left_so in
        (point-at point state inside known).leads edge (subst (λ (edges : List ProgramEdge). Contains edges edge) (sym one) (0, omega arith, refl))

    abbrev next : PointState
    next = leads.state

    place : leads.point ≡ point + 1
    place = next-point t.thread.header.base point leads.point leads.target

    slots-behind : AreFormed left.slots → next.slots ≡ left.slots
    slots-behind formed = sym (slots-back left.slots next.slots formed (formed-at leads.point next leads.inside leads.known) leads.slots)

    within-behind : left.is_wait ≡ true → (r after : RegisterFile) → WritesOnly r after left.written → LieWithin r state.ranges → LieWithin after left.ranges
        → measured next.measure after ≤ℤ pos t.thread.header.budget
    within-behind wait r after only before behind =
        stays-within r after left.written t.thread.header.budget next.measure state.ranges left.ranges only (named-at leads.point next leads.known)
        before behind (leads.covered wait)

    falls-behind : left.is_wait ≡ false → (r after : RegisterFile) → WritesOnly r after left.written → LieWithin r state.ranges → LieWithin after left.ranges
        → measured next.measure after <ℤ measured state.measure r
    falls-behind plain r after only before behind =
        falls-over r after left.written state.measure next.measure state.ranges left.ranges only (named-at point state known)
        (named-at leads.point next leads.known)
        before behind (leads.falling plain)

    leads-behind : LeadsBehind image t point state left
    leads-behind = record {
      next = next;
      inside = subst (λ (n : ℕ). n < t.thread.header.words) place leads.inside;
      known = subst (λ (n : ℕ). noted image t n ≡ Known next) place leads.known;
      ranges = λ r lie. within-wider r left.ranges next.ranges leads.within lie;
      slots = slots-behind;
      kept = λ same. slots-behind (subst AreFormed (sym same) (formed-at point state inside known)) ∙ same;
      within = within-behind;
      falls = falls-behind;
    }

pub calls-behind : (bytes : List ℕ) (image : Image) (t : Numbered) (point : ℕ) (state : PointState) (left : AfterCall) → IsAccepted bytes image
    → Contains (numbered_threads image) t → point < t.thread.header.words → noted image t point ≡ Known state → instruction_at t.thread point ≡ Some Ecall
    → call_at image t point state ≡ Some (Ok left) → LeadsBehind image t point state left
calls-behind bytes image t point state left accepted listed inside known is left_so =
    leads-behind bytes image t accepted listed point state left inside known is left_so
