-- What is seen of the points of a program says what they ask, and where their ways lead.
use Rattle.std.proofs.Common.{ℕ, zero, suc, ◌≡◌, ◌∙◌, ◌≢◌, ◌+◌, ◌-◌, ◌*◌, ◌/◌, ◌<◌, ◌&&◌, Bool, true, false, Option, Some, None, Result, Ok, Err}
use Rattle.std.proofs.Common.{refl, sym, ap, subst, arith}
use Rattle.std.specs.List.{list_all, range_with_len}
use Rattle.std.proofs.lemmas.Bool.{and_parts}
use Rattle.model.specs.declared.capabilities.Cap.{Cap}
use Rattle.model.specs.declared.entries.ThreadHeader.{ThreadHeader}
use Rattle.model.specs.declared.instructions.Instr.{Instr}
use Rattle.model.specs.declared.instructions.Instr.TheVariants.{Upper, Jal, Jalr, Branch, Load, Store, Immediate, Shift, Registers, Fence, Ecall, Ebreak}
use Rattle.model.specs.declared.lookup_failures.LookupFailure.{LookupFailure}
use Rattle.model.specs.declared.system_calls.SystemCall.{SystemCall}
use Rattle.model.specs.Acceptance.NotedKernel.{noted_kernel, noted_root}
use Rattle.model.specs.Acceptance.NotedStates.{PointState}
use Rattle.model.specs.Acceptance.PointRules.{edges_at}
use Rattle.model.specs.Acceptance.PointStates.{Known, Missing, Noted, Unmeasured, instruction_at, noted}
use Rattle.model.specs.Acceptance.Ranges.{range_of}
use Rattle.model.specs.Capabilities.Lookup.{called_slot}
use Rattle.model.specs.Capabilities.Slots.{Slots}
use Rattle.model.specs.Images.Described.{Numbered}
use Rattle.model.specs.Images.Image.{Image, Thread}
use Rattle.model.specs.Kernel.Messages.{a0}
use Rattle.program_rules.specs.Views.{GoesOn as LeadsOn, IsProgramView, IsSeen, IsView, call_seen, capability_seen, count_of, held_at, view_at}
use Rattle.program_rules.specs.declared.views.PointView.{PointView}
use Rattle.program_rules.specs.declared.views.PointView.TheVariants.{Unknown, Unclear, GoesOn, Seen}
use Rattle.program_rules.specs.declared.views.ProgramView.{ProgramView}
use Rattle.program_rules.specs.declared.views.SeenPoint.{SeenPoint}
use Rattle.response.specs.Asking.{Asked, Asks_nothing, asked_at, asked_known, asked_of, capability_found, capability_named}
use Rattle.response.specs.Responding.{over_edges}
use Rattle.response.specs.Weights.{where_known}
use Rattle.answering.specs.Seen.{all_edges_pass, asked_seen, edges_pass}

-- ---- over ranges

all-in-range : (p : ℕ → Bool) (first n : ℕ) → ((k : ℕ) → k < n → p (first + k) ≡ true) → list_all p (range_with_len first n) ≡ true
all-in-range p first zero each = refl
all-in-range p first (suc n) each =
    let here : first + 0 ≡ first = omega arith in
    ap (λ (b : Bool). b && list_all p (range_with_len (first + 1) n)) (subst (λ k. p k ≡ true) here (each 0 (omega arith)))
    ∙ (all-in-range p (first + 1) n
    (λ k less. let on : first + suc k ≡ first + 1 + k = omega arith in subst (λ m. p m ≡ true) on (each (suc k) (omega (arith, less)))))

-- from 0 on
pub all-below : (p : ℕ → Bool) (n : ℕ) → ((k : ℕ) → k < n → p k ≡ true) → list_all p (range_with_len 0 n) ≡ true
all-below p n each = all-in-range p 0 n (λ k less. let same : k ≡ 0 + k = omega arith in subst (λ m. p m ≡ true) same (each k less))

all-at : (p : ℕ → Bool) (first n k : ℕ) → list_all p (range_with_len first n) ≡ true → k < n → p (first + k) ≡ true
all-at p first zero k all less = absurd (omega (arith, less))
all-at p first (suc n) zero all less =
    let here : first + 0 ≡ first = omega arith in ap p here ∙ (and_parts (p first) (list_all p (range_with_len (first + 1) n)) all).0
all-at p first (suc n) (suc k) all less =
    let on : first + suc k ≡ first + 1 + k = omega arith in
    ap p on ∙ all-at p (first + 1) n k (and_parts (p first) (list_all p (range_with_len (first + 1) n)) all).1 (omega (arith, less))

-- ---- what a point asks

same-held : (slots : Slots) (r : Result ℕ LookupFailure) → held_at slots r ≡ capability_found slots r
same-held slots (Ok slot) = refl
same-held slots (Err failure) = refl

same-named : (image : Image) (t : Thread) (state : PointState) → capability_seen image t state ≡ capability_named image t state
same-named image t state =
    let slots = (noted_kernel image t state.slots).slots in same-held slots (called_slot slots (noted_root image t) (range_of state.ranges a0).low)

module _ (image : Image) (t : Thread) (state : PointState) (v : SeenPoint) where
  asked-by : (instr : Option Instr) → v.call ≡ call_seen state instr → (instr ≡ Some Ecall → v.capability ≡ capability_seen image t state)
      → asked_of image t state instr ≡ asked_seen v
  asked-by None call named = ap (λ (c : Option SystemCall). asked_known c v.capability) (sym call)
  asked-by (Some Ecall) call named =
      ap (λ (c : Cap). asked_known (call_seen state (Some Ecall)) c) (sym (named refl ∙ same-named image t state))
      ∙ ap (λ (c : Option SystemCall). asked_known c v.capability) (sym call)
  asked-by (Some (Upper op rd immediate)) call named = ap (λ (c : Option SystemCall). asked_known c v.capability) (sym call)
  asked-by (Some (Jal rd offset)) call named = ap (λ (c : Option SystemCall). asked_known c v.capability) (sym call)
  asked-by (Some (Jalr rd rs1 offset)) call named = ap (λ (c : Option SystemCall). asked_known c v.capability) (sym call)
  asked-by (Some (Branch op rs1 rs2 offset)) call named = ap (λ (c : Option SystemCall). asked_known c v.capability) (sym call)
  asked-by (Some (Load op rd rs1 offset)) call named = ap (λ (c : Option SystemCall). asked_known c v.capability) (sym call)
  asked-by (Some (Store op rs1 rs2 offset)) call named = ap (λ (c : Option SystemCall). asked_known c v.capability) (sym call)
  asked-by (Some (Immediate op rd rs1 immediate)) call named = ap (λ (c : Option SystemCall). asked_known c v.capability) (sym call)
  asked-by (Some (Shift op rd rs1 amount)) call named = ap (λ (c : Option SystemCall). asked_known c v.capability) (sym call)
  asked-by (Some (Registers op rd rs1 rs2)) call named = ap (λ (c : Option SystemCall). asked_known c v.capability) (sym call)
  asked-by (Some Fence) call named = ap (λ (c : Option SystemCall). asked_known c v.capability) (sym call)
  asked-by (Some Ebreak) call named = ap (λ (c : Option SystemCall). asked_known c v.capability) (sym call)

asked-is : (image : Image) (t : Numbered) (point : ℕ) (state : PointState) (v : SeenPoint) → IsSeen image t point state v
    → asked_at image t.thread point state ≡ asked_seen v
unfolding asked_at
asked-is image t point state v seen = asked-by image t.thread state v (instruction_at t.thread point) seen.call seen.capability

-- what is no system call asks nothing
asked-none : (image : Image) (t : Thread) (state : PointState) (instr : Option Instr) → instr ≢ Some Ecall → asked_of image t state instr ≡ Asks_nothing
asked-none image t state None plain = refl
asked-none image t state (Some Ecall) plain = absurd (plain refl)
asked-none image t state (Some (Upper op rd immediate)) plain = refl
asked-none image t state (Some (Jal rd offset)) plain = refl
asked-none image t state (Some (Jalr rd rs1 offset)) plain = refl
asked-none image t state (Some (Branch op rs1 rs2 offset)) plain = refl
asked-none image t state (Some (Load op rd rs1 offset)) plain = refl
asked-none image t state (Some (Store op rs1 rs2 offset)) plain = refl
asked-none image t state (Some (Immediate op rd rs1 immediate)) plain = refl
asked-none image t state (Some (Shift op rd rs1 amount)) plain = refl
asked-none image t state (Some (Registers op rd rs1 rs2)) plain = refl
asked-none image t state (Some Fence) plain = refl
asked-none image t state (Some Ebreak) plain = refl

nothing-there : (image : Image) (t : Numbered) (point : ℕ) (state : PointState) → LeadsOn image t point state
    → asked_at image t.thread point state ≡ Asks_nothing
unfolding asked_at
nothing-there image t point state goes = asked-none image t.thread state (instruction_at t.thread point) goes.plain

-- ---- over all points

module _ (image : Image) (t : Numbered) (p : ProgramView) (view : IsProgramView image t p) where
  pub leads-so : (test : Asked → ℕ → ℕ → Bool) → all_edges_pass test p.header.base p.points ≡ true → over_edges image t test ≡ true
  leads-so test all =
      all-below
      (λ point. where_known (λ state. list_all (λ edge. test (asked_at image t.thread point state) point ((edge.target - t.thread.header.base) / 4))
      (edges_at image t point state (instruction_at t.thread point))) (noted image t point)) t.thread.header.words
      (λ point less.
      let within : point < count_of p.points = subst (λ n. point < n) (sym view.points.long) less in
      one point (view_at p.points point) (noted image t point) (view.points.each point less)
      (let same : 0 + point ≡ point = omega arith in
      subst (λ n. edges_pass test p.header.base n (view_at p.points n) ≡ true) same
      (all-at (λ n. edges_pass test p.header.base n (view_at p.points n)) 0 (count_of p.points) point all within)))
    where
      one : (point : ℕ) (v : PointView) (known : Noted) → IsView image t point known v → edges_pass test p.header.base point v ≡ true
          → where_known (λ state. list_all (λ edge. test (asked_at image t.thread point state) point ((edge.target - t.thread.header.base) / 4))
          (edges_at image t point state (instruction_at t.thread point))) known ≡ true
      one point (Seen v) (Known state) is passes =
          ap (λ (a : Asked). list_all (λ edge. test a point ((edge.target - t.thread.header.base) / 4))
          (edges_at image t point state (instruction_at t.thread point))) (asked-is image t point state v is)
          ∙ ap (λ (h : ThreadHeader). list_all (λ edge. test (asked_seen v) point ((edge.target - h.base) / 4))
          (edges_at image t point state (instruction_at t.thread point))) (sym view.header)
          ∙ is.ways (λ target. test (asked_seen v) point ((target - p.header.base) / 4)) passes
      one point GoesOn (Known state) is passes =
          ap (λ (a : Asked). list_all (λ edge. test a point ((edge.target - t.thread.header.base) / 4))
          (edges_at image t point state (instruction_at t.thread point))) (nothing-there image t point state is)
          ∙ is.ways (λ target. test Asks_nothing point ((target - t.thread.header.base) / 4))
          (let there : (t.thread.header.base + 4 * point + 4 - t.thread.header.base) / 4 ≡ point + 1 = omega arith in
          ap (test Asks_nothing point) there ∙ passes)
      one point Unclear (Known state) is passes = absurd (let clash : false ≡ true = passes in cc)
      one point Unknown (Known state) is passes = absurd is
      one point v Missing is passes = refl
      one point v Unmeasured is passes = refl
