-- The authority of the thread that runs.
use Rattle.std.proofs.Common.{ℕ, zero, suc, ◌≡◌, ◌∙◌, ◌+◌, ◌<◌, inl, inr, Option, Some, None, List, [], ◌∷◌, map, length, get_or, sym, ap, subst, arith}
use Rattle.std.specs.Prelude.{Contains}
use Rattle.std.specs.List.{enumerate_from}
use Rattle.model.specs.declared.events.Event.TheVariants.{Step}
use Rattle.model.specs.Acceptance.Accepted.{IsAccepted}
use Rattle.model.specs.Acceptance.Authority.{ComputesAlone, MakesCall, OwnStep, StaysWithin, WithinAuthority, self_of}
use Rattle.model.specs.Acceptance.ThreadInvariants.{tcb_of}
use Rattle.model.specs.Images.Described.{Numbered, numbered_threads}
use Rattle.model.specs.Images.Image.{Image, Thread}
use Rattle.model.specs.Kernel.Scheduling.{current}
use Rattle.model.specs.Kernel.State.{State}
use Rattle.headline.proofs.Laws.{with_number}
use Rattle.headline.specs.kept.Laws.{HaveOwnBlocks}

-- ---- a thread of the image with its number

numbered-from : (from : ℕ) (threads : List Thread) (k : ℕ) (t : Thread) → k < length threads → get_or threads k t ≡ t
    → (n : ℕ) × Contains (map with_number (enumerate_from from threads)) (with_number (n, t))
numbered-from from [] k t inside is = absurd (omega (arith, inside))
numbered-from from (u ∷ us) zero t inside is = (from, (0, omega arith, ap (λ (v : Thread). with_number (from, v)) is))
numbered-from from (u ∷ us) (suc k) t inside is =
    let later = numbered-from (from + 1) us k t (omega (arith, inside)) is in
    let less = later.1.1 in
    (later.0, (suc later.1.0, omega (arith, less), later.1.2))

-- ---- what the thread that runs may change

pub record OwnAuthority (image : Image) (t : Numbered) (s after : State) : Type 0 where
  pub within : WithinAuthority image t.thread s after
  pub plain : (MakesCall s (tcb_of image t) → ⊥) → ComputesAlone s after (tcb_of image t)

module _ (bytes : List ℕ) (image : Image) (accepted : IsAccepted bytes image) (own_blocks : HaveOwnBlocks) (t : Numbered)
    (listed : Contains (numbered_threads image) t) (s after : State) (now : current s ≡ Some (tcb_of image t)) where
  by-own : OwnStep image s after → OwnAuthority image t s after
  by-own o =
      let numbered = numbered-from 0 image.threads o.listed.0 o.thread o.listed.1 o.listed.2 in
      let u = with_number (numbered.0, o.thread) in
      let block : self_of image o.thread ≡ tcb_of image t = (let both : ◌≡◌ {A = Option ℕ} (Some (self_of image o.thread)) (Some (tcb_of image t)) = sym o.runs
      ∙ now in cc) in
      let same : u ≡ t = own_blocks bytes image u t accepted numbered.1 listed block in
      let thread : o.thread ≡ t.thread = ap (λ (v : Numbered). v.thread) same in
      record {
        within = subst (λ (v : Thread). WithinAuthority image v s after) thread o.within;
        plain = subst (λ (n : ℕ). (MakesCall s n → ⊥) → ComputesAlone s after n) block o.plain;
      }

  pub own-authority : StaysWithin image s Step after → OwnAuthority image t s after
  own-authority (inl idle) = absurd (let clash : ◌≡◌ {A = Option ℕ} None (Some (tcb_of image t)) = sym idle.0 ∙ now in cc)
  own-authority (inr own) = by-own own
