-- The label of a step says whose it is.
use Rattle.std.proofs.Common.{ℕ, zero, suc, ◌≡◌, ◌∙◌, ◌+◌, ◌<◌, ◌&&◌, ◌||◌, Bool, true, false, Option, List, [], ◌∷◌, length, get_or, refl, ap, arith}
use Rattle.std.specs.Option.{option_map_or}
use Rattle.std.specs.List.{list_any}
use Rattle.std.proofs.lemmas.Bool.{eq-eqb}
use Rattle.model.specs.declared.events.Event.TheVariants.{Step}
use Rattle.model.specs.declared.labels.Label.TheVariants.{Idle}
use Rattle.model.specs.Acceptance.ThreadInvariants.{tcb_of}
use Rattle.model.specs.Images.Described.{Numbered, numbered_threads}
use Rattle.model.specs.Images.Image.{Image}
use Rattle.model.specs.Kernel.Scheduling.{current}
use Rattle.model.specs.Kernel.State.{State}
use Rattle.model.specs.Kernel.Steps.{memory_base, ran, step}
use Rattle.model.specs.Kernel.Waits.{is_of}
use Rattle.response.specs.Laws.{RunsOfLevel}
use Rattle.response.specs.Levels.{is_level_label, is_of_level}

any-at : {A : Type 0} (test : A → Bool) (xs : List A) (x : A) (k : ℕ) → k < length xs → get_or xs k x ≡ x → test x ≡ true → list_any test xs ≡ true
any-at test [] x k inside is passes = absurd (omega (arith, inside))
any-at test (y ∷ ys) x zero inside is passes = ap (λ (b : Bool). b || list_any test ys) (ap test is ∙ passes)
any-at test (y ∷ ys) x (suc k) inside is passes =
    ap (λ (b : Bool). test y || b) (any-at test ys x k (omega (arith, inside)) is passes)
    ∙ elim (test y) as (λ b. b || true ≡ true) [ true ↦ refl | false ↦ refl ]

pub seen : (image : Image) (s : State) (priority : ℕ) → RunsOfLevel image priority s → is_level_label image priority (step s Step).1 ≡ true
unfolding step
seen image s priority r =
    let tcb = tcb_of image r.thread in
    let own : is_of tcb (option_map_or (ran s) (current s) (s, Idle)).1 ≡ true =
    ap (λ (o : Option ℕ). is_of tcb (option_map_or (ran s) o (s, Idle)).1) r.runs ∙ eq-eqb (memory_base + tcb) (memory_base + tcb) refl in
    any-at (λ (t : Numbered). is_of_level priority t && is_of (tcb_of image t) (option_map_or (ran s) (current s) (s, Idle)).1) (numbered_threads image)
    r.thread r.listed.0 r.listed.1 r.listed.2
    (ap (λ (b : Bool). b && is_of tcb (option_map_or (ran s) (current s) (s, Idle)).1) r.level ∙ own)
