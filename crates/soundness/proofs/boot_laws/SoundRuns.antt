-- Operations whose words and bytes are in their ranges keep soundness.
use Rattle.std.proofs.Common.{ℕ, suc, ◌≡◌, ◌^◌, ◌<◌, List, [], ◌∷◌, Option, Some, None, Result, Ok, Err, refl, subst}
use Rattle.std.specs.Prelude.{All, ⊤, option_and_then}
use Rattle.std.proofs.lemmas.List.Elements.{All-head, All-tail}
use Rattle.std.proofs.lemmas.Option.{none-some}
use Rattle.model.specs.Images.Boot.{fill_all, goes_on_after_call, goes_on_inside, made, run_from}
use Rattle.model.specs.Images.BootCalls.{LoaderCall, Operation, PutsUntyped, PutsControl, Calls, Fills}
use Rattle.model.specs.Images.Fills.{Fill}
use Rattle.model.specs.Images.Image.{Image}
use Rattle.model.specs.Kernel.Setup.{fill, put_control}
use Rattle.model.specs.Kernel.Soundness.{IsSound}
use Rattle.model.specs.Kernel.State.{State}
use Rattle.model.specs.declared.boot_faults.BootFault.{BootFault}
use Rattle.model.specs.declared.boot_faults.BootFault.TheVariants.{Kernel, Outside}
use Rattle.soundness.proofs.Loading.{made-whole}
use Rattle.soundness.proofs.Setups.{control-whole, fill-whole}

-- calls have words of 32 bits, and what is filled are bytes
abbrev pub HasSmallBytes : Fill → Type 0
HasSmallBytes f = All (λ byte. byte < 2 ^ 8) f.bytes

abbrev pub FillsBytes : Option (List Fill) → Type 0
FillsBytes None = ⊤
FillsBytes (Some fs) = All HasSmallBytes fs

abbrev pub HasSmallWords : LoaderCall → Type 0
HasSmallWords c = All (λ word. word < 2 ^ 32) c.words

abbrev pub IsFine : Operation → Type 0
IsFine (PutsUntyped number u) = ⊥
IsFine (PutsControl slot) = ⊤
IsFine (Calls c) = HasSmallWords c
IsFine (Fills place fs) = FillsBytes fs

fills-sound : (fs : List Fill) (s t : State) → IsSound s → All HasSmallBytes fs → fill_all s fs ≡ Some t → IsSound t
fills-sound [] s t sound fine is = let e : s ≡ t = cc is in subst IsSound e sound
fills-sound (f ∷ fs) s t sound fine is =
    elim (fill s f.offset f.bytes) as (λ o. fill s f.offset f.bytes ≡ o → option_and_then (λ filled. fill_all filled fs) o ≡ Some t → IsSound t) [
      | None ↦ λ _ clash. absurd (none-some t clash)
      | Some u ↦ λ one rest.
          fills-sound fs u t (fill-whole s u f.offset f.bytes sound (All-head HasSmallBytes f fs fine) one) (All-tail HasSmallBytes f fs fine) rest
    ] refl is

some-fills-sound : (fs : Option (List Fill)) (s t : State) → IsSound s → FillsBytes fs → option_and_then (fill_all s) fs ≡ Some t → IsSound t
some-fills-sound None s t sound fine is = absurd (none-some t is)
some-fills-sound (Some fs) s t sound fine is = fills-sound fs s t sound fine is

no-fault : (fault : BootFault) (t : State) → ◌≡◌ {A = Result State BootFault} (Err fault) (Ok t) → ⊥
no-fault fault t is = cc is

pub run-sound : (image : Image) (ops : List Operation) (n : ℕ) (s t : State) → IsSound s → All IsFine ops → run_from image n s ops ≡ Ok t → IsSound t
unfolding run_from
run-sound image [] n s t sound fine is = let e : s ≡ t = cc is in subst IsSound e sound
run-sound image (PutsUntyped number u ∷ ops) n s t sound fine is = absurd (All-head IsFine (PutsUntyped number u) ops fine)
run-sound image (PutsControl slot ∷ ops) n s t sound fine is =
    elim (put_control s slot)
    as (λ o. put_control s slot ≡ o → goes_on_inside image.header.untypeds (λ after. run_from image n after ops) o ≡ Ok t → IsSound t) [
      | None ↦ λ _ clash. absurd (no-fault (Outside image.header.untypeds) t clash)
      | Some u ↦ λ one rest. run-sound image ops n u t (control-whole s u slot sound one) (All-tail IsFine (PutsControl slot) ops fine) rest
    ] refl is
run-sound image (Calls c ∷ ops) n s t sound fine is =
    elim (made s c) as (λ r. made s c ≡ r → goes_on_after_call n (λ after. run_from image (suc n) after ops) r ≡ Ok t → IsSound t) [
      | Err error ↦ λ _ clash. absurd (no-fault (Kernel n error) t clash)
      | Ok u ↦ λ one rest. run-sound image ops (suc n) u t (made-whole s u c sound (All-head IsFine (Calls c) ops fine) one)
          (All-tail IsFine (Calls c) ops fine) rest
    ] refl is
run-sound image (Fills place fs ∷ ops) n s t sound fine is =
    elim (option_and_then (fill_all s) fs) as (λ o. option_and_then (fill_all s) fs ≡ o → goes_on_inside place (λ after. run_from image n after ops) o ≡ Ok t →
    IsSound t) [
      | None ↦ λ _ clash. absurd (no-fault (Outside place) t clash)
      | Some u ↦ λ one rest.
          run-sound image ops n u t (some-fills-sound fs s u sound (All-head IsFine (Fills place fs) ops fine) one) (All-tail IsFine (Fills place fs) ops fine)
          rest
    ] refl is
