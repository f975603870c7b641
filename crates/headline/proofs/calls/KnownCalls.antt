-- Registers that lie in ranges of one value hold it, so what the rules know of a call is so.
use Rattle.std.proofs.Common.{ℕ, ◌≡◌, ◌∙◌, ◌<◌, ◌≤◌, Bool, true, false, if◌then◌else◌, List, [], ◌∷◌, map, Option, Some, None, Result, Ok, Err, refl, sym, ap}
use Rattle.std.proofs.Common.{arith}
use Rattle.std.specs.List.{All}
use Rattle.std.proofs.lemmas.Bool.{eqb-true}
use Rattle.std.proofs.lemmas.List.Elements.{All-head, All-tail}
use Rattle.headline.specs.calls.Known.{CallsSo, NamesSo}
use Rattle.model.specs.declared.capabilities.Cap.{Cap}
use Rattle.model.specs.declared.instructions.Register.{Register}
use Rattle.model.specs.declared.lookup_failures.LookupFailure.{LookupFailure}
use Rattle.model.specs.declared.ranges.Range.{Range}
use Rattle.model.specs.declared.refusals.Point.{Point}
use Rattle.model.specs.declared.refusals.Refusal.{Refusal}
use Rattle.model.specs.declared.refusals.Refusal.TheVariants.{CallNotConstant, CallRefused, CapNotThere}
use Rattle.model.specs.declared.errors.KError.TheVariants.{IllegalOperation}
use Rattle.model.specs.Acceptance.CallRules.{AfterCall, after_call, all_known, by_capability, by_number, found_slot, known, one_value}
use Rattle.model.specs.Acceptance.NotedKernel.{noted_kernel, noted_root}
use Rattle.model.specs.Acceptance.NotedStates.{PointState}
use Rattle.model.specs.Acceptance.RangeRules.{is_single}
use Rattle.model.specs.Acceptance.Ranges.{range_of, single}
use Rattle.model.specs.Acceptance.ThreadInvariants.{LieWithin}
use Rattle.model.specs.Capabilities.Lookup.{called_slot}
use Rattle.model.specs.Capabilities.Slots.{Slots, capability_at}
use Rattle.model.specs.Images.Format.{◌>>=◌}
use Rattle.model.specs.Images.Image.{Image, Thread}
use Rattle.model.specs.Kernel.Messages.{a0, a7}
use Rattle.model.specs.Kernel.Steps.{call_of}
use Rattle.model.specs.declared.system_calls.SystemCall.{SystemCall}
use Rattle.model.specs.Machine.ProgramMemory.{RegisterFile, read}

-- ---- results

-- what comes before an Ok, and what makes the Ok of it
pub record Passes {A B : Type 0} (m : Result A Refusal) (f : A → Result B Refusal) (end : B) : Type 0 where
  pub value : A
  pub is : m ≡ Ok value
  pub goes : f value ≡ Ok end

pub passes : {A B : Type 0} (m : Result A Refusal) (f : A → Result B Refusal) (end : B) → (m >>= f) ≡ Ok end → Passes m f end
passes (Ok x) f end h = record { value = x; is = refl; goes = h }
passes {B = B} (Err refusal) f end h = absurd (let clash : ◌≡◌ {A = Result B Refusal} (Err refusal) (Ok end) = h in cc)

-- ---- words

value-in : (n k : ℕ) (at : Point) (r : Range) → r.low ≤ k → k ≤ r.high → one_value at r ≡ Ok n → k ≡ n
value-in n k at r low high is =
    elim (is_single r) as (λ (b : Bool). is_single r ≡ b → (if b then Ok r.low else Err (CallNotConstant at)) ≡ Ok n → k ≡ n) [
      | true ↦ λ one some.
          let same : r.low ≡ r.high = eqb-true r.low r.high one in
          let here : r.low ≡ n = let equal : ◌≡◌ {A = Result ℕ Refusal} (Ok r.low) (Ok n) = some in cc in
          omega (arith, same, here, low, high)
      | false ↦ λ many none. absurd (let clash : ◌≡◌ {A = Result ℕ Refusal} (Err (CallNotConstant at)) (Ok n) = none in cc)
    ] refl is

-- such a range is that of one value
pub range-known : (n : ℕ) (at : Point) (r : Range) → one_value at r ≡ Ok n → r ≡ single n
range-known n at r is =
    elim (is_single r) as (λ (b : Bool). is_single r ≡ b → (if b then Ok r.low else Err (CallNotConstant at)) ≡ Ok n → r ≡ single n) [
      | true ↦ λ one some.
          let same : r.low ≡ r.high = eqb-true r.low r.high one in
          let here : r.low ≡ n = let equal : ◌≡◌ {A = Result ℕ Refusal} (Ok r.low) (Ok n) = some in cc in
          ap (λ (high : ℕ). record r { high = high }) (sym same) ∙ ap single here
      | false ↦ λ many none. absurd (let clash : ◌≡◌ {A = Result ℕ Refusal} (Err (CallNotConstant at)) (Ok n) = none in cc)
    ] refl is

pub word-known : (at : Point) (state : PointState) (x : Register) (n : ℕ) (registers : RegisterFile) → x.0 < 32 → known at state x ≡ Ok n
    → LieWithin registers state.ranges → read registers x ≡ n
word-known at state x n registers less is within =
    let ends = within x.0 less in
    value-in n (read registers x) at (range_of state.ranges x) ends.0 ends.1 is

abbrev IsNumbered : Register → Type 0
IsNumbered x = x.0 < 32

pub words-known : (at : Point) (state : PointState) (xs : List Register) (ns : List ℕ) (registers : RegisterFile) → All IsNumbered xs →
    all_known at state xs ≡ Ok ns
    → LieWithin registers state.ranges → map (read registers) xs ≡ ns
unfolding all_known
words-known at state [] ns registers less is within = let equal : ◌≡◌ {A = Result (List ℕ) Refusal} (Ok []) (Ok ns) = is in cc
words-known at state (x ∷ xs) ns registers less is within =
    let first = passes (known at state x) (λ value. all_known at state xs >>= (λ values. Ok (value ∷ values))) ns is in
    let rest = passes (all_known at state xs) (λ values. Ok (Passes.value first ∷ values)) ns (Passes.goes first) in
    let here : read registers x ≡ Passes.value first = word-known at state x (Passes.value first) registers (All-head IsNumbered x xs less) (Passes.is first)
    within in
    let there : map (read registers) xs ≡ Passes.value rest =
    words-known at state xs (Passes.value rest) registers (All-tail IsNumbered x xs less) (Passes.is rest) within in
    let whole : (Passes.value first ∷ Passes.value rest) ≡ ns =
    let equal : ◌≡◌ {A = Result (List ℕ) Refusal} (Ok (Passes.value first ∷ Passes.value rest)) (Ok ns) = Passes.goes rest in cc in
    ap (λ (n : ℕ). n ∷ map (read registers) xs) here ∙ ap (λ (others : List ℕ). Passes.value first ∷ others) there ∙ whole

-- ---- the number of the call

call-numbered : (image : Image) (t : Thread) (at : Point) (state : PointState) (left : AfterCall) (registers : RegisterFile) (o : Option SystemCall)
    → call_of (read registers a7) ≡ o → by_number image t at state o ≡ Ok left → CallsSo image t at state left registers
call-numbered image t at state left registers (Some call) number is = record { call = call; number = number; rule = is }
call-numbered image t at state left registers None number is =
    absurd (let clash : ◌≡◌ {A = Result AfterCall Refusal} (Err (CallRefused at IllegalOperation)) (Ok left) = is in cc)

pub call-known : (image : Image) (t : Thread) (at : Point) (state : PointState) (left : AfterCall) (registers : RegisterFile) →
    after_call image t at state ≡ Ok left
    → LieWithin registers state.ranges → CallsSo image t at state left registers
unfolding after_call
call-known image t at state left registers is within =
    let first = passes (known at state a7) (λ number. by_number image t at state (call_of number)) left is in
    let here : read registers a7 ≡ Passes.value first = word-known at state a7 (Passes.value first) registers (omega arith) (Passes.is first) within in
    call-numbered image t at state left registers (call_of (Passes.value first)) (ap call_of here) (Passes.goes first)

-- ---- the capability that is named

slot-found : (at : Point) (r : Result ℕ LookupFailure) (slot : ℕ) → found_slot at r ≡ Ok slot → r ≡ Ok slot
slot-found at (Ok other) slot h = let equal : ◌≡◌ {A = Result ℕ Refusal} (Ok other) (Ok slot) = h in cc
slot-found at (Err failure) slot h = absurd (let clash : ◌≡◌ {A = Result ℕ Refusal} (Err (CapNotThere at)) (Ok slot) = h in cc)

pub name-known : (image : Image) (t : Thread) (at : Point) (state : PointState) (rule : ℕ → Cap → Result AfterCall Refusal) (left : AfterCall)
    (registers : RegisterFile)
    → by_capability image t at state rule ≡ Ok left → LieWithin registers state.ranges → NamesSo image t state rule left registers
name-known image t at state rule left registers is within =
    let slots : Slots = (noted_kernel image t state.slots).slots in
    let ends : ℕ → Result AfterCall Refusal = λ slot. rule slot (capability_at slots slot) in
    let first = passes (known at state a0) (λ address. found_slot at (called_slot slots (noted_root image t) address) >>= ends) left is in
    let named = passes (found_slot at (called_slot slots (noted_root image t) (Passes.value first))) ends left (Passes.goes first) in
    let here : read registers a0 ≡ Passes.value first = word-known at state a0 (Passes.value first) registers (omega arith) (Passes.is first) within in
    let called : Result ℕ LookupFailure = called_slot slots (noted_root image t) (Passes.value first) in
    record {
      known = range-known (Passes.value first) at (range_of state.ranges a0) (Passes.is first) ∙ ap single (sym here);
      slot = Passes.value named;
      found = ap (called_slot slots (noted_root image t)) here ∙ slot-found at called (Passes.value named) (Passes.is named);
      rule = Passes.goes named;
    }
