-- A sequence of the loader's operations leads from one state to another, whatever comes after it.
use Rattle.std.proofs.Common.{ℕ, suc, ◌≡◌, ◌∙◌, ◌+◌, List, [], ◌∷◌, ◌++◌, map, length, Option, Some, None, Result, Ok, refl, sym, ap, subst, append_assoc}
use Rattle.std.proofs.Common.{arith}
use Rattle.std.specs.Prelude.{flat_map, option_and_then, slice_get}
use Rattle.std.proofs.lemmas.List.{append-nil}
use Rattle.model.specs.declared.entries.UntypedEntry.{UntypedEntry}
use Rattle.model.specs.declared.errors.KError.{KError}
use Rattle.model.specs.Images.Boot.{booted, boots_unless, fill_all, goes_on_after_call, goes_on_inside, made, misplaced, run_from}
use Rattle.model.specs.Images.BootCalls.{LoaderCall, Operation, PutsUntyped, PutsControl, Calls, Fills, operations}
use Rattle.model.specs.Images.Fills.{Fill}
use Rattle.model.specs.Images.Image.{Image}
use Rattle.model.specs.Kernel.Setup.{boot_area, put_control, put_untyped}
use Rattle.model.specs.Kernel.State.{State}

-- what is after the operations goes on from the other state, with the number of the next call
pub record Leads (image : Image) (s : State) (ops : List Operation) (t : State) : Type 0 where
  pub behind : ℕ → ℕ
  pub leads : (n : ℕ) (later : List Operation) → run_from image n s (ops ++ later) ≡ run_from image (behind n) t later

-- ---- one operation

pub leads-none : (image : Image) (s : State) → Leads image s [] s
leads-none image s = record { behind = λ n. n; leads = λ n later. refl }

pub leads-call : (image : Image) (s t : State) (call : LoaderCall) → made s call ≡ Ok t → Leads image s (Calls call ∷ []) t
unfolding run_from
leads-call image s t call is = record {
  behind = suc;
  leads = λ n later. ap (λ (r : Result State KError). goes_on_after_call n (λ after. run_from image (suc n) after later) r) is;
}

pub leads-fills : (image : Image) (s t : State) (place : ℕ) (fills : Option (List Fill)) → option_and_then (fill_all s) fills ≡ Some t →
    Leads image s (Fills place fills ∷ []) t
unfolding run_from
leads-fills image s t place fills is = record {
  behind = λ n. n;
  leads = λ n later. ap (λ (o : Option State). goes_on_inside place (λ after. run_from image n after later) o) is;
}

pub leads-untyped : (image : Image) (s t : State) (number : ℕ) (u : UntypedEntry) → put_untyped s number u.offset u.bits ≡ Some t →
    Leads image s (PutsUntyped number u ∷ []) t
unfolding run_from
leads-untyped image s t number u is = record {
  behind = λ n. n;
  leads = λ n later. ap (λ (o : Option State). goes_on_inside number (λ after. run_from image n after later) o) is;
}

pub leads-control : (image : Image) (s t : State) (slot : ℕ) → put_control s slot ≡ Some t → Leads image s (PutsControl slot ∷ []) t
unfolding run_from
leads-control image s t slot is = record {
  behind = λ n. n;
  leads = λ n later. ap (λ (o : Option State). goes_on_inside image.header.untypeds (λ after. run_from image n after later) o) is;
}

-- ---- many

pub leads-both : (image : Image) (s t u : State) (xs ys : List Operation) → Leads image s xs t → Leads image t ys u → Leads image s (xs ++ ys) u
leads-both image s t u xs ys first second = record {
  behind = λ n. second.behind (first.behind n);
  leads = λ n later. ap (λ (ops : List Operation). run_from image n s ops) (append_assoc xs ys later)
      ∙ first.leads n (ys ++ later) ∙ second.leads (first.behind n) later;
}

pub leads-same : (image : Image) (s t : State) (xs ys : List Operation) → xs ≡ ys → Leads image s xs t → Leads image s ys t
leads-same image s t xs ys same first = subst (λ (ops : List Operation). Leads image s ops t) same first

pub leads-to : (image : Image) (s t u : State) (xs : List Operation) → t ≡ u → Leads image s xs t → Leads image s xs u
leads-to image s t u xs same first = subst (λ (v : State). Leads image s xs v) same first

-- the operations of one item after another, each to the next of the states
pub leads-each : {A : Type 0} → (image : Image) (of : A → List Operation) (states : ℕ → State) (xs : List A) (k : ℕ)
    → ((i : ℕ) (x : A) → slice_get xs i ≡ Some x → Leads image (states (k + i)) (of x) (states (suc (k + i))))
    → Leads image (states k) (flat_map of xs) (states (k + length xs))
leads-each image of states [] k each = leads-to image (states k) (states k) (states (k + 0)) [] (ap states (omega arith)) (leads-none image (states k))
leads-each {A} image of states (x ∷ xs) k each =
    let start : k + 0 ≡ k = omega arith in
    let first : Leads image (states k) (of x) (states (suc k)) = subst (λ (n : ℕ). Leads image (states n) (of x) (states (suc n))) start (each 0 x refl) in
    let rest : Leads image (states (suc k)) (flat_map of xs) (states (suc k + length xs)) =
    leads-each image of states xs (suc k) (λ i y is.
    let step : k + suc i ≡ suc k + i = omega arith in
    subst (λ (n : ℕ). Leads image (states n) (of y) (states (suc n))) step (each (suc i) y is)) in
    let end : suc k + length xs ≡ k + length (x ∷ xs) = omega arith in
    leads-to image (states k) (states (suc k + length xs)) (states (k + length (x ∷ xs))) (of x ++ flat_map of xs) (ap states end)
    (leads-both image (states k) (states (suc k)) (states (suc k + length xs)) (of x) (flat_map of xs) first rest)

-- the operations of a section, which are calls
pub calls-of : {A : Type 0} → (of : A → List LoaderCall) (xs : List A) → flat_map (λ x. map Calls (of x)) xs ≡ map Calls (flat_map of xs)
calls-of of [] = refl
calls-of of (x ∷ xs) = ap (λ (ops : List Operation). map Calls (of x) ++ ops) (calls-of of xs) ∙ sym (calls-joined (of x) (flat_map of xs))
  where
    calls-joined : (xs ys : List LoaderCall) → map Calls (xs ++ ys) ≡ map Calls xs ++ map Calls ys
    calls-joined [] ys = refl
    calls-joined (x ∷ xs) ys = ap (λ (ops : List Operation). Calls x ∷ ops) (calls-joined xs ys)

pub one-each : {A : Type 0} → (of : A → Operation) (xs : List A) → flat_map (λ x. of x ∷ []) xs ≡ map of xs
one-each of [] = refl
one-each of (x ∷ xs) = ap (λ (ops : List Operation). of x ∷ ops) (one-each of xs)

-- ---- the whole

pub boots-by : (image : Image) (t : State) → misplaced image ≡ None →
    Leads image (boot_area image.header.memory_bits image.header.boot_radix) (operations image) t → booted image ≡ Ok t
unfolding booted run_from
boots-by image t placed leads =
    let start = boot_area image.header.memory_bits image.header.boot_radix in
    ap (λ (o : Option ℕ). boots_unless o image) placed
    ∙ ap (λ (ops : List Operation). run_from image 0 start ops) (sym (append-nil (operations image)))
    ∙ leads.leads 0 []
