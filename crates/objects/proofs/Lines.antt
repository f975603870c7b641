-- A line's bit is set in a table, and in the state.
use Rattle.std.proofs.Common.{ℕ, ◌≡◌, ◌∙◌, ◌<◌, inl, inr, Bool, false, if◌then◌else◌, List, get_or, length, set, sym, ap}
use Rattle.std.proofs.lemmas.Bool.Decides.{eqb_tells}
use Rattle.std.proofs.lemmas.List.{get_or-set_other, get_or-set_same}
use Rattle.model.specs.Capabilities.Slots.{Slots}
use Rattle.model.specs.Kernel.Interrupts.{with_pending}
use Rattle.model.specs.Kernel.State.{put}
use Rattle.objects.specs.Contents.{told_by}
use Rattle.objects.specs.Standing.{Standing}
use Rattle.objects.specs.Tables.{Tables, state_of}

bit-set : (bits : List Bool) (line : ℕ) (bit : Bool) → line < length bits → (other : ℕ)
    → get_or (set bits line bit) other false ≡ put (λ l. get_or bits l false) line bit other
bit-set bits line bit less other = elim (eqb_tells other line) [
  | inl here ↦
      ap (λ (l : ℕ). get_or (set bits line bit) l false) here.1 ∙ get_or-set_same bits line bit false less
      ∙ sym (ap (λ b. if b then bit else get_or bits other false) here.0)
  | inr apart ↦
      get_or-set_other bits line other bit false apart.1
      ∙ sym (ap (λ b. if b then bit else get_or bits other false) apart.0)
]

module _ (o before : Tables) (index line : ℕ) (bit : Bool) (here : index ≡ line) (is : o ≡ before) (slots : Slots) (memory : List ℕ) where
  masked-at : index < length o.masked
      → state_of (record o { masked = set o.masked index bit }) slots memory
      ≡ record (state_of o slots memory) { masked = put (state_of o slots memory).masked index bit }
  unfolding state_of told_by
  masked-at less = λ i. record (state_of o slots memory) { masked = λ other. bit-set o.masked index bit less other i }

  pub masked-state : index < length o.masked
      → state_of (record o { masked = set o.masked index bit }) slots memory
      ≡ record (state_of before slots memory) { masked = put (state_of before slots memory).masked line bit }
  masked-state less =
      masked-at less
      ∙ ap (λ (n : ℕ). record (state_of o slots memory) { masked = put (state_of o slots memory).masked n bit }) here
      ∙ ap (λ (t : Tables). record (state_of t slots memory) { masked = put (state_of t slots memory).masked line bit }) is

  pending-at : index < length o.pending
      → state_of (record o { pending = set o.pending index bit }) slots memory ≡ with_pending (state_of o slots memory) index bit
  unfolding state_of told_by
  pending-at less = λ i. record (state_of o slots memory) { pending = λ other. bit-set o.pending index bit less other i }

  pub pending-state : index < length o.pending
      → state_of (record o { pending = set o.pending index bit }) slots memory ≡ with_pending (state_of before slots memory) line bit
  pending-state less =
      pending-at less ∙ ap (λ (n : ℕ). with_pending (state_of o slots memory) n bit) here
      ∙ ap (λ (t : Tables). with_pending (state_of t slots memory) line bit) is

-- the invariant of objects does not depend on other lines
pub lines-stand : (o : Tables) (masked pending : List Bool) (slots : Slots) (memory : List ℕ) → Standing o slots memory
    → Standing (record o { masked = masked; pending = pending }) slots memory
unfolding state_of told_by
lines-stand o masked pending slots memory stands = record {
  placed = stands.placed;
  fits = record { size = stands.fits.size; frames = stands.fits.frames; records = stands.fits.records; apart = stands.fits.apart; alone = stands.fits.alone };
  waiting = stands.waiting;
  ready = stands.ready;
  rights = stands.rights;
}
