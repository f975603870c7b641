-- What agrees still does where less is there.
use Rattle.std.proofs.Common.{ℕ, ◌≡◌, ◌∙◌, ◌/◌, ◌^◌, Some, None, List, length, sym, ap}
use Rattle.model.specs.Kernel.Kinds.{kind_at}
use Rattle.model.specs.Kernel.Retype.{NewObject}
use Rattle.model.specs.Kernel.State.{State}
use Rattle.kernel_invariant.proofs.Lessened.{Lessened, named-before, open-before}
use Rattle.kernel_invariant.specs.Agreement.{Agrees}
use Rattle.vspace.specs.Tables.{TablesAgree}

pub agrees-less : (s t : State) (old new : List ℕ) → Agrees s old → TablesAgree t.slots new → t.memory_bits ≡ s.memory_bits → length new ≡ length old
    → Lessened s.slots t.slots → ((place : ℕ) → s.bytes place ≡ None → t.bytes place ≡ None)
    → ((offset : ℕ) (kind : NewObject) → kind_at t offset ≡ Some kind → kind_at s offset ≡ Some kind) → Agrees t new
agrees-less s t old new agrees tables bits long less bytes kinds = record {
  tables = tables;
  size = ap (λ (n : ℕ). 2 ^ n) bits ∙ agrees.size ∙ sym long;
  slots = λ place is_open. bytes place (agrees.slots place (open-before s.slots t.slots less (place / 16) is_open));
  frames = λ table place named low high. bytes place (agrees.frames table place (named-before s.slots t.slots less table named) low high);
  records = λ table place offset kind named low high there kept.
      agrees.records table place offset kind (named-before s.slots t.slots less table named) low high (kinds offset kind there) kept;
}
