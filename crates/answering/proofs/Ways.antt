-- What is known on the ways from a point.
use Rattle.std.proofs.Common.{ℕ, ◌≡◌, ◌∙◌, ◌==◌, ◌&&◌, ◌||◌, ◌++◌, ◌-◌, ◌/◌, Bool, true, false, not, List, [], ◌∷◌, Option, Some, None, is_some, refl, sym, ap}
use Rattle.std.proofs.Common.{if◌then◌else◌}
use Rattle.std.specs.Prelude.{option_map, option_to_list}
use Rattle.std.specs.List.{list_all}
use Rattle.std.proofs.lemmas.Bool.{and_parts}
use Rattle.model.specs.declared.instructions.Instr.{Instr}
use Rattle.model.specs.declared.instructions.Instr.TheVariants.{Upper, Jal, Jalr, Branch, Load, Store, Immediate, Shift, Registers, Fence, Ecall, Ebreak}
use Rattle.model.specs.declared.ranges.Range.{Range}
use Rattle.model.specs.Acceptance.Edges.{Edge, Edges, after}
use Rattle.model.specs.Images.Image.{Thread}
use Rattle.program_rules.specs.declared.views.PointView.TheVariants.{Seen}
use Rattle.program_rules.specs.declared.views.SeenPoint.{SeenPoint}
use Rattle.ranges.specs.Edges.{way_of, ways_of}
use Rattle.ranges.specs.declared.edges.Edges.{Edges as Ways}
use Rattle.headline.specs.steps.Taken.{edges_among}
use Rattle.settled_threads.specs.Answering.{are_known, leads_known, owing_for, ranges_after_call, ranges_received}
use Rattle.answering.specs.Effects.{owes_as}
use Rattle.answering.specs.Known.{is_call, known_at, leads_from, owes_over, way_known}
use Rattle.answering.specs.Seen.{asked_seen, edges_pass}
use Rattle.answering.specs.declared.effects.Effect.{Effect}
use Rattle.answering.specs.declared.known.Known.{Known}

and-true : (b : Bool) → (b && true) ≡ b
and-true true = refl
and-true false = refl

-- ---- both ways

module _ (target : ℕ) (next : Option (List Range)) where
  abbrev fits : Edge → Bool
  fits edge = not (edge.target == target) || are_known next edge.ranges

  by-ways : (taken on : Option Edge) → (way_known target next (option_map way_of taken) && way_known target next (option_map way_of on))
      ≡ list_all fits (option_to_list taken ++ option_to_list on)
  by-ways None None = refl
  by-ways None (Some on) = sym (and-true (fits on))
  by-ways (Some taken) None = refl
  by-ways (Some taken) (Some on) = ap (λ (b : Bool). fits taken && b) (sym (and-true (fits on)))

  both-ways : (edges : Edges) → (way_known target next (ways_of edges).taken && way_known target next (ways_of edges).fall_through)
      ≡ list_all fits (edges_among edges)
  both-ways edges = by-ways edges.taken edges.fall_through

  by-instr : (pc : ℕ) (ranges : List Range) (i : Instr)
      → (if is_call i then are_known next (ranges_after_call ranges) else list_all fits (edges_among (after pc i ranges)))
      ≡ leads_known pc target ranges next (Some i)
  by-instr pc ranges (Upper op rd immediate) = refl
  by-instr pc ranges (Jal rd offset) = refl
  by-instr pc ranges (Jalr rd rs1 offset) = refl
  by-instr pc ranges (Branch op rs1 rs2 offset) = refl
  by-instr pc ranges (Load op rd rs1 offset) = refl
  by-instr pc ranges (Store op rs1 rs2 offset) = refl
  by-instr pc ranges (Immediate op rd rs1 immediate) = refl
  by-instr pc ranges (Shift op rd rs1 amount) = refl
  by-instr pc ranges (Registers op rd rs1 rs2) = refl
  by-instr pc ranges Fence = refl
  by-instr pc ranges Ecall = refl
  by-instr pc ranges Ebreak = refl

  abbrev either : ℕ → List Range → Instr → Bool → Bool
  either pc ranges i call = if call then are_known next (ranges_after_call ranges) else list_all fits (edges_among (after pc i ranges))

  pub call-known : (pc : ℕ) (ranges : List Range) (i : Instr) → is_call i ≡ true
      → are_known next (ranges_after_call ranges) ≡ leads_known pc target ranges next (Some i)
  call-known pc ranges i call = sym (ap (either pc ranges i) call) ∙ by-instr pc ranges i

  pub instr-known : (pc : ℕ) (ranges : List Range) (i : Instr) (ways : Ways) → is_call i ≡ false → ways ≡ ways_of (after pc i ranges)
      → (way_known target next ways.taken && way_known target next ways.fall_through) ≡ leads_known pc target ranges next (Some i)
  instr-known pc ranges i ways plain is =
      ap (λ (w : Ways). way_known target next w.taken && way_known target next w.fall_through) is ∙ both-ways (after pc i ranges)
      ∙ sym (ap (either pc ranges i) plain) ∙ by-instr pc ranges i

-- ---- all ways from a point

all-append : {A : Type 0} (f : A → Bool) (xs ys : List A) → list_all f xs ≡ true → list_all f ys ≡ true → list_all f (xs ++ ys) ≡ true
all-append f [] ys first second = second
all-append f (x ∷ xs) ys first second =
    let parts = and_parts (f x) (list_all f xs) first in
    ap (λ (b : Bool). b && list_all f (xs ++ ys)) parts.0 ∙ all-append f xs ys parts.1 second

-- by what the point makes of an answer that is owed
abbrev pub effect_passes : Thread → ℕ → Known → Effect → ℕ → ℕ → Bool
effect_passes t badge k effect here next =
    owes_as effect (is_some (known_at k here)) (are_known (known_at k next) (ranges_received badge)) (leads_from t k here next)

pub seen-holds : (t : Thread) (badge : ℕ) (k : Known) (effect : Effect) (v : SeenPoint) (base here : ℕ)
    → ((other : ℕ) (known next : Option (List Range)) (leads : Bool)
    → owing_for other known next leads (asked_seen v) ≡ owes_as effect (is_some known) (are_known next (ranges_received other)) leads)
    → list_all (λ (target : ℕ). effect_passes t badge k effect here ((target - base) / 4)) (option_to_list v.taken) ≡ true
    → list_all (λ (target : ℕ). effect_passes t badge k effect here ((target - base) / 4)) (option_to_list v.next) ≡ true
    → edges_pass (owes_over t badge k) base here (Seen v) ≡ true
seen-holds t badge k effect v base here same taken on =
    (λ i. list_all (λ (target : ℕ). each target i) (option_to_list v.taken ++ option_to_list v.next))
    ∙ all-append (λ (target : ℕ). effect_passes t badge k effect here ((target - base) / 4)) (option_to_list v.taken) (option_to_list v.next) taken on
  where
    each : (target : ℕ) → owes_over t badge k (asked_seen v) here ((target - base) / 4) ≡ effect_passes t badge k effect here ((target - base) / 4)
    each target =
        let next = (target - base) / 4 in same badge (known_at k here) (known_at k next) (leads_from t k here next)
