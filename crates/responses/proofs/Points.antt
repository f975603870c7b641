-- What is seen of the points of a program says what they ask, and where their ways lead.
use Rattle.std.proofs.Common.{ℕ, ◌≡◌, ◌∙◌, ◌+◌, ◌-◌, ◌*◌, ◌/◌, ◌<◌, ◌⊎◌, ◌&&◌, inl, inr, Bool, true, Option, Some, None, Result, Ok, Err}
use Rattle.std.proofs.Common.{refl, sym, ap, subst, arith}
use Rattle.std.specs.List.{list_all}
use Rattle.std.specs.Option.{option_map_or}
use Rattle.std.proofs.lemmas.Bool.{and_parts}
use Rattle.model.specs.declared.capabilities.Cap.{Cap}
use Rattle.model.specs.declared.entries.ThreadHeader.{ThreadHeader}
use Rattle.model.specs.declared.instructions.Instr.{Instr}
use Rattle.model.specs.declared.instructions.Instr.TheVariants.{Upper, Jal, Jalr, Branch, Load, Store, Immediate, Shift, Registers, Fence, Ecall, Ebreak}
use Rattle.model.specs.declared.lookup_failures.LookupFailure.{LookupFailure}
use Rattle.model.specs.declared.system_calls.SystemCall.{SystemCall}
use Rattle.model.specs.Acceptance.Authority.{badge_of}
use Rattle.model.specs.Acceptance.NotedKernel.{noted_kernel, noted_root}
use Rattle.model.specs.Acceptance.NotedStates.{PointState}
use Rattle.model.specs.Acceptance.PointRules.{edges_at}
use Rattle.model.specs.Acceptance.PointStates.{Known, Missing, Noted, Unmeasured, instruction_at, noted}
use Rattle.model.specs.Acceptance.Ranges.{range_of}
use Rattle.model.specs.Capabilities.Lookup.{called_slot}
use Rattle.model.specs.Capabilities.Slots.{Slots}
use Rattle.model.specs.Images.Described.{Numbered}
use Rattle.model.specs.Images.Image.{Image, Thread}
use Rattle.model.specs.Kernel.Messages.{a0}
use Rattle.program_rules.specs.Views.{GoesOn as LeadsOn, IsProgramView, IsSeen, IsView, IsViewOf, call_seen, capability_seen, held_at, view_at}
use Rattle.program_rules.specs.declared.views.PointView.{PointView}
use Rattle.program_rules.specs.declared.views.PointView.TheVariants.{Unknown, Unclear, GoesOn, Seen}
use Rattle.program_rules.specs.declared.views.ProgramView.{ProgramView}
use Rattle.program_rules.specs.declared.views.SeenPoint.{SeenPoint}
use Rattle.response.specs.Asking.{Asked, Asks_nothing, asked_at, asked_known, asked_of, capability_found, capability_named}
use Rattle.response.specs.Responding.{asks_each, at_each, over_edges}
use Rattle.response.specs.Weights.{where_known}
use Rattle.settled_threads.specs.Answering.{badge_at}
use Rattle.responses.proofs.Lists.{all-at, all-below, all-so, both-true}
use Rattle.responses.specs.Asks.{asked, asked_seen}
use Rattle.responses.specs.Outlines.{AsksSo, AsksThere, FitsView, IsFit, IsOutline, IsOutlineOf, IsOutlined, IsOutlinedBy, StaysSo, StaysThere, next_of}
use Rattle.responses.specs.Outlines.{place_at}
use Rattle.responses.specs.Outlines.{targets_of as run_targets}
use Rattle.responses.specs.Seen.{asks_all, edges_pass, leads_so}
use Rattle.responses.specs.declared.outlines.Outline.{Outline}
use Rattle.responses.specs.declared.outlines.Run.{Run}

-- ---- what a point asks

same-held : (slots : Slots) (r : Result ℕ LookupFailure) → held_at slots r ≡ capability_found slots r
same-held slots (Ok slot) = refl
same-held slots (Err failure) = refl

same-named : (image : Image) (t : Thread) (state : PointState) → capability_seen image t state ≡ capability_named image t state
same-named image t state =
    let slots = (noted_kernel image t state.slots).slots in same-held slots (called_slot slots (noted_root image t) (range_of state.ranges a0).low)

module _ (image : Image) (t : Thread) (state : PointState) (v : SeenPoint) where
  asked-by : (instr : Option Instr) → v.call ≡ call_seen state instr → (instr ≡ Some Ecall → v.capability ≡ capability_seen image t state)
      → asked_of image t state instr ≡ asked_seen v
  asked-by None call named = ap (λ (c : Option SystemCall). asked_known c v.capability) (sym call)
  asked-by (Some Ecall) call named =
      ap (λ (c : Cap). asked_known (call_seen state (Some Ecall)) c) (sym (named refl ∙ same-named image t state))
      ∙ ap (λ (c : Option SystemCall). asked_known c v.capability) (sym call)
  asked-by (Some (Upper op rd immediate)) call named = ap (λ (c : Option SystemCall). asked_known c v.capability) (sym call)
  asked-by (Some (Jal rd offset)) call named = ap (λ (c : Option SystemCall). asked_known c v.capability) (sym call)
  asked-by (Some (Jalr rd rs1 offset)) call named = ap (λ (c : Option SystemCall). asked_known c v.capability) (sym call)
  asked-by (Some (Branch op rs1 rs2 offset)) call named = ap (λ (c : Option SystemCall). asked_known c v.capability) (sym call)
  asked-by (Some (Load op rd rs1 offset)) call named = ap (λ (c : Option SystemCall). asked_known c v.capability) (sym call)
  asked-by (Some (Store op rs1 rs2 offset)) call named = ap (λ (c : Option SystemCall). asked_known c v.capability) (sym call)
  asked-by (Some (Immediate op rd rs1 immediate)) call named = ap (λ (c : Option SystemCall). asked_known c v.capability) (sym call)
  asked-by (Some (Shift op rd rs1 amount)) call named = ap (λ (c : Option SystemCall). asked_known c v.capability) (sym call)
  asked-by (Some (Registers op rd rs1 rs2)) call named = ap (λ (c : Option SystemCall). asked_known c v.capability) (sym call)
  asked-by (Some Fence) call named = ap (λ (c : Option SystemCall). asked_known c v.capability) (sym call)
  asked-by (Some Ebreak) call named = ap (λ (c : Option SystemCall). asked_known c v.capability) (sym call)

pub asked-is : (image : Image) (t : Numbered) (point : ℕ) (state : PointState) (v : SeenPoint) → IsSeen image t point state v
    → asked_at image t.thread point state ≡ asked_seen v
unfolding asked_at
asked-is image t point state v seen = asked-by image t.thread state v (instruction_at t.thread point) seen.call seen.capability

-- only a system call asks
asked-or : (image : Image) (t : Thread) (state : PointState) (instr : Option Instr) → (instr ≡ Some Ecall) ⊎ (asked_of image t state instr ≡ Asks_nothing)
asked-or image t state None = inr refl
asked-or image t state (Some Ecall) = inl refl
asked-or image t state (Some (Upper op rd immediate)) = inr refl
asked-or image t state (Some (Jal rd offset)) = inr refl
asked-or image t state (Some (Jalr rd rs1 offset)) = inr refl
asked-or image t state (Some (Branch op rs1 rs2 offset)) = inr refl
asked-or image t state (Some (Load op rd rs1 offset)) = inr refl
asked-or image t state (Some (Store op rs1 rs2 offset)) = inr refl
asked-or image t state (Some (Immediate op rd rs1 immediate)) = inr refl
asked-or image t state (Some (Shift op rd rs1 amount)) = inr refl
asked-or image t state (Some (Registers op rd rs1 rs2)) = inr refl
asked-or image t state (Some Fence) = inr refl
asked-or image t state (Some Ebreak) = inr refl

calls-or : (image : Image) (t : Thread) (point : ℕ) (state : PointState)
    → (instruction_at t point ≡ Some Ecall) ⊎ (asked_at image t point state ≡ Asks_nothing)
unfolding asked_at
calls-or image t point state = asked-or image t state (instruction_at t point)

badge-is : (image : Image) (t : Numbered) (point : ℕ) (state : PointState) (v : SeenPoint) → IsSeen image t point state v
    → instruction_at t.thread point ≡ Some Ecall → badge_at image t state ≡ badge_of v.capability
badge-is image t point state v seen calls = sym (ap badge_of (seen.capability calls ∙ same-named image t.thread state))

-- what is no system call asks nothing
nothing-asked : (image : Image) (t : Numbered) (point : ℕ) (state : PointState) → LeadsOn image t point state
    → asked_at image t.thread point state ≡ Asks_nothing
nothing-asked image t point state goes = elim (calls-or image t.thread point state) [
  | inl calls ↦ absurd (goes.plain calls)
  | inr nothing ↦ nothing
]

-- ---- runs by what is seen of points

module _ (image : Image) (t : Numbered) (v : ProgramView) (view : IsProgramView image t v) (o : Outline) (of : IsOutlineOf v o) where
  -- a test of the places to which ways lead, by their addresses
  abbrev over_places : ℕ → PointState → (ℕ → Bool) → ℕ → Bool
  over_places point state test base =
      list_all (λ edge. test (place_at o ((edge.target - base) / 4))) (edges_at image t point state (instruction_at t.thread point))

  same-base : (point : ℕ) (state : PointState) (test : ℕ → Bool)
      → over_places point state test t.thread.header.base ≡ over_places point state test v.header.base
  same-base point state test = ap (λ (h : ThreadHeader). over_places point state test h.base) (sym view.header)

  asks-by : (point : ℕ) (state : PointState) (s : SeenPoint) (r : Run) → IsSeen image t point state s
      → AsksSo v.header.base (place_at o) point s r → AsksThere image t o point state r
  asks-by point state s r is so = record {
    asks = asked-is image t point state s is ∙ sym so.asks;
    badge = λ calls. badge-is image t point state s is calls ∙ sym so.badge;
    ways = λ test all. same-base point state test ∙ is.ways (λ target. test (place_at o ((target - v.header.base) / 4))) (so.ways test all);
    next = so.next;
  }

  stays-by : (point : ℕ) (state : PointState) (s : SeenPoint) (r : Run) → IsSeen image t point state s
      → StaysSo v.header.base (place_at o) s r → StaysThere image t o point state r
  stays-by point state s r is so = record {
    asks = asked-is image t point state s is ∙ so.asks;
    ways = λ test here. same-base point state test ∙ is.ways (λ target. test (place_at o ((target - v.header.base) / 4))) (so.ways test here);
  }

  goes-by : (point : ℕ) (state : PointState) (r : Run) → LeadsOn image t point state → place_at o (point + 1) ≡ r.place
      → StaysThere image t o point state r
  goes-by point state r goes same = record {
    asks = nothing-asked image t point state goes;
    ways = λ test here.
        let there : (t.thread.header.base + 4 * point + 4 - t.thread.header.base) / 4 ≡ point + 1 = omega arith in
        goes.ways (λ target. test (place_at o ((target - t.thread.header.base) / 4)))
        (ap (λ n. test (place_at o n)) there ∙ ap test same ∙ here);
  }

  fits-by : (point : ℕ) (state : PointState) (p : PointView) (r : Run) → IsViewOf image t point state p → FitsView v.header.base (place_at o) point p r
      → AsksThere image t o point state r ⊎ StaysThere image t o point state r
  fits-by point state (Seen s) r is (inl so) = inl (asks-by point state s r is so)
  fits-by point state (Seen s) r is (inr so) = inr (stays-by point state s r is so)
  fits-by point state GoesOn r is same = inr (goes-by point state r is same)
  fits-by point state Unclear r is fits = absurd fits
  fits-by point state Unknown r is fits = absurd is

  outlined-at : (point : ℕ) (p : PointView) (known : Noted) → IsView image t point known p → IsFit v.header.base o.runs.items (place_at o) point p
      → IsOutlined image t o point known
  outlined-at point p (Known state) is fit = (
    fit.run,
    record { listed = fit.listed; here = fit.here; fits = λ clear. fits-by point state p fit.run is (fit.fits clear) },
  )
  outlined-at point p Missing is fit = tt
  outlined-at point p Unmeasured is fit = tt

  pub outline-so : IsOutline image t o
  outline-so = record {
    number = of.number ∙ view.number;
    header = of.header ∙ view.header;
    tcb = of.tcb ∙ view.tcb;
    points = λ point less.
        outlined-at point (view_at v.points point) (noted image t point) (view.points.each point less)
        (of.drawn point (subst (λ n. point < n) (sym view.points.long) less));
  }

-- ---- over all points

module _ (image : Image) (t : Numbered) (p : Outline) (is : IsOutline image t p) where
  -- at each point that has a state
  each-so : (test : ℕ → PointState → Bool)
      → ((point : ℕ) (state : PointState) (r : Run) → IsOutlinedBy image t p point state r → test point state ≡ true) → at_each image t test ≡ true
  each-so test so =
      all-below (λ point. where_known (test point) (noted image t point)) t.thread.header.words
      (λ point less. by-known point (noted image t point) (is.points point less))
    where
      by-known : (point : ℕ) (known : Noted) → IsOutlined image t p point known → where_known (test point) known ≡ true
      by-known point Missing out = refl
      by-known point Unmeasured out = refl
      by-known point (Known state) out = so point state out.0 out.1

  -- a run that is clear, and passes
  passed : (passes : Run → Bool) → list_all (λ r. r.is_clear && passes r) p.runs.items ≡ true → (point : ℕ) (state : PointState) (r : Run)
      → IsOutlinedBy image t p point state r → (r.is_clear ≡ true) × (passes r ≡ true)
  passed passes all point state r by =
      and_parts (r.is_clear) (passes r) (all-at (λ (x : Run). x.is_clear && passes x) p.runs.items by.listed.0 r all by.listed.1)

  -- by the run of the next point
  pub nexts-so : (q : ℕ → Asked → Bool) → ((place : ℕ) → q place Asks_nothing ≡ true)
      → list_all (λ r. r.is_clear && q (next_of r) (asked r.ask)) p.runs.items ≡ true
      → at_each image t (λ point state. q (place_at p (point + 1)) (asked_at image t.thread point state)) ≡ true
  nexts-so q nothing all = each-so (λ point state. q (place_at p (point + 1)) (asked_at image t.thread point state)) one
    where
      one : (point : ℕ) (state : PointState) (r : Run) → IsOutlinedBy image t p point state r
          → q (place_at p (point + 1)) (asked_at image t.thread point state) ≡ true
      one point state r by =
          let here = passed (λ (x : Run). q (next_of x) (asked x.ask)) all point state r by in
          elim (by.fits here.0) [
            | inl asks ↦ ap (q (place_at p (point + 1))) asks.asks
                ∙ elim asks.next [
                  | inl none ↦ ap (q (place_at p (point + 1))) none ∙ nothing (place_at p (point + 1))
                  | inr next ↦ sym (ap (λ (o : Option ℕ). q (option_map_or (λ n. n) o 0) (asked r.ask)) next) ∙ here.1
                ]
            | inr stays ↦ ap (q (place_at p (point + 1))) stays.asks ∙ nothing (place_at p (point + 1))
          ]

  -- by the badge of the capability too
  pub badges-so : (q : ℕ → Asked → Bool) → ((badge : ℕ) → q badge Asks_nothing ≡ true)
      → list_all (λ r. r.is_clear && q r.badge (asked r.ask)) p.runs.items ≡ true
      → at_each image t (λ point state. q (badge_at image t state) (asked_at image t.thread point state)) ≡ true
  badges-so q nothing all = each-so (λ point state. q (badge_at image t state) (asked_at image t.thread point state)) one
    where
      one : (point : ℕ) (state : PointState) (r : Run) → IsOutlinedBy image t p point state r
          → q (badge_at image t state) (asked_at image t.thread point state) ≡ true
      one point state r by =
          let here = passed (λ (x : Run). q x.badge (asked x.ask)) all point state r by in
          elim (by.fits here.0) [
            | inl asks ↦
                elim (calls-or image t.thread point state) [
                  | inl calls ↦ ap (q (badge_at image t state)) asks.asks ∙ ap (λ n. q n (asked r.ask)) (asks.badge calls) ∙ here.1
                  | inr none ↦ ap (q (badge_at image t state)) none ∙ nothing (badge_at image t state)
                ]
            | inr stays ↦ ap (q (badge_at image t state)) stays.asks ∙ nothing (badge_at image t state)
          ]

  pub asks-so : (q : Asked → Bool) → q Asks_nothing ≡ true → asks_all q p ≡ true → asks_each image t q ≡ true
  asks-so q nothing all = nexts-so (λ place. q) (λ place. nothing) all

  -- the ways from a point pass, with this asked there, at this place
  abbrev ways_pass : (Asked → ℕ → ℕ → Bool) → ℕ → PointState → Asked → ℕ → Bool
  ways_pass test point state a here =
      list_all (λ edge. test a here (place_at p ((edge.target - t.thread.header.base) / 4))) (edges_at image t point state (instruction_at t.thread point))

  -- from run to run: a test that passes where nothing is asked and the run stays
  pub leads-on : (test : Asked → ℕ → ℕ → Bool) → ((place : ℕ) → test Asks_nothing place place ≡ true) → leads_so test p ≡ true
      → over_edges image t (λ asked here next. test asked (place_at p here) (place_at p next)) ≡ true
  leads-on test nothing all =
      each-so
      (λ point state. ways_pass test point state (asked_at image t.thread point state) (place_at p point))
      one
    where
      one : (point : ℕ) (state : PointState) (r : Run) → IsOutlinedBy image t p point state r
          → ways_pass test point state (asked_at image t.thread point state) (place_at p point) ≡ true
      one point state r by =
          let here = passed (λ (x : Run). list_all (test (asked x.ask) x.place) (run_targets x)) all point state r by in
          ap (ways_pass test point state (asked_at image t.thread point state)) by.here
          ∙ elim (by.fits here.0) [
            | inl asks ↦ ap (λ (a : Asked). ways_pass test point state a r.place) asks.asks ∙ asks.ways (test (asked r.ask) r.place) here.1
            | inr stays ↦ ap (λ (a : Asked). ways_pass test point state a r.place) stays.asks ∙ stays.ways (test Asks_nothing r.place) (nothing r.place)
          ]

-- ---- a weaker test

pub edges-weaker : (f g : Asked → ℕ → ℕ → Bool) → ((a : Asked) (here next : ℕ) → f a here next ≡ true → g a here next ≡ true) → (p : Outline)
    → leads_so f p ≡ true → leads_so g p ≡ true
edges-weaker f g so p all = all-so (edges_pass f) (edges_pass g) one p.runs.items all
  where
    one : (r : Run) → edges_pass f r ≡ true → edges_pass g r ≡ true
    one r passes =
        let parts = and_parts (r.is_clear) _ passes in
        both-true (r.is_clear) _ parts.0
        (all-so (f (asked r.ask) r.place) (g (asked r.ask) r.place) (so (asked r.ask) r.place) (run_targets r) parts.1)
