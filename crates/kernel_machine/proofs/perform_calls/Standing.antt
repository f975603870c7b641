-- What a call leaves is whole, where what passes is: where it is refused nothing changes.
use Rattle.std.proofs.Common.{ℕ, ◌≡◌, List, Result, Ok, Err, refl, sym, subst}
use Rattle.std.specs.Prelude.{OnErr}
use Rattle.kernel_invariant.specs.Wholeness.{IsWhole}
use Rattle.model.specs.Capabilities.Slots.{Slots}
use Rattle.model.specs.declared.errors.KError.{KError}
use Rattle.objects.specs.Tables.{Tables}

-- a store's slots and bytes, beside the tables
abbrev pub Whole : {S : Type 0} → (S → Slots) → (S → List ℕ) → Tables → S → Type 0
Whole slots memory o store = IsWhole o (slots store) (memory store)

pub refused-whole : {A S : Type 0} (slots : S → Slots) (memory : S → List ℕ) (result : Result A KError) (store now : S) (o : Tables)
    → Whole slots memory o store → OnErr result (now ≡ store) → ((x : A) → result ≡ Ok x → Whole slots memory o now) → Whole slots memory o now
refused-whole slots memory (Ok x) store now o whole same passes = passes x refl
refused-whole slots memory (Err e) store now o whole same passes = subst (λ x. Whole slots memory o x) (sym same) whole
