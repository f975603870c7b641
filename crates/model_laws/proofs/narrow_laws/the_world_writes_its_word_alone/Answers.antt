-- They are named outright.
use Rattle.std.proofs.Common.{ℕ, ◌≡◌, ◌≢◌, ◌∙◌, ◌+◌, ◌<◌, ◌≤◌, ◌⊎◌, inl, inr, Option, refl, sym, ap, subst, arith}
use Rattle.model.specs.Capabilities.Slots.{Slots}
use Rattle.model.specs.Kernel.State.{Object, State}
use Rattle.model.specs.Kernel.Steps.{place_of}
use Rattle.model.specs.Kernel.World.{world_writes}
use Rattle.soundness.specs.Machines.{SameBase, SameBesideBytes}
use Rattle.soundness.proofs.Laws.{IsWritten, written-beside, written-byte}
use Rattle.model_laws.proofs.narrow_laws.the_world_writes_its_word_alone.Goals as goal

-- a byte that is beside the word stays
beside : (place other : ℕ) (old new : Option ℕ) → (other < place) ⊎ (place + 4 ≤ other) → IsWritten place other old new → new ≡ old
beside place other old new apart (inl same) = same
beside place other old new (inl before) (inr (first, last, was, is)) = absurd (omega (arith, before, first))
beside place other old new (inr behind) (inr (first, last, was, is)) = absurd (omega (arith, behind, last))

pub returns-clause-bytes : goal.returns-clause-bytes
returns-clause-bytes c = λ image s after address word other differ apart within.
    let place = place_of address in
    let same = beside place other (s.bytes other) ((world_writes s place word).bytes other) apart (written-byte s place word other) in
    differ (sym (ap (λ (x : State). x.bytes other) within ∙ same))

pub returns-clause-slots : goal.returns-clause-slots
returns-clause-slots c = λ image s after address word slot differ within.
    differ (sym (ap (λ (x : State). x.slots slot) within
    ∙ ap (λ (all : Slots). all slot) (SameBase.slots (SameBesideBytes.base (written-beside s (place_of address) word)))))

pub returns-clause-objects : goal.returns-clause-objects
returns-clause-objects c = λ image s after address word offset differ within.
    differ (sym (ap (λ (x : State). x.objects offset) within
    ∙ ap (λ (all : ℕ → Option Object). all offset) (SameBesideBytes.objects (written-beside s (place_of address) word))))

pub returns-clause-looks : goal.returns-clause-looks
returns-clause-looks c = λ image s after address place differ within. differ (sym (ap (λ (x : State). x.bytes place) within))
