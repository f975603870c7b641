-- Where no thread that ran may write and no page is a device's, no byte changes.
use Rattle.std.proofs.Common.{ℕ, ◌≡◌, ◌≢◌, ◌∙◌, ◌++◌, inl, inr, false, Option, Some, None, List, [], ◌∷◌, All, refl, sym, ap}
use Rattle.std.proofs.lemmas.Bool.{false≢true}
use Rattle.std.proofs.lemmas.Bool.Decides.{eqb_tells}
use Rattle.std.proofs.lemmas.List.Elements.{All-head, All-tail}
use Rattle.std.proofs.lemmas.Option.{none-some, same_Some}
use Rattle.std.proofs.Common.{subst}
use Rattle.std.specs.Prelude.{Contains}
use Rattle.model.specs.declared.events.Event.{Event}
use Rattle.model.specs.declared.events.Event.TheVariants.{Write}
use Rattle.model.specs.Acceptance.Devices.{KeepsDevices, is_device_word}
use Rattle.model.specs.Images.Described.{described}
use Rattle.model.specs.Images.Image.{Image, Thread}
use Rattle.model.specs.Kernel.Steps.{place_of}
use Rattle.headline.specs.integrity.Runs.{HasIntegrity, HasRun, last_of, may_write_at}
use Rattle.model_laws.specs.Vault.{OnlyClientRuns, client, vault}

pub bytes-same : (a b : Option ℕ) → (a ≢ b → ⊥) → a ≡ b
bytes-same None None never = refl
bytes-same None (Some b) never = absurd (never (λ same. none-some b same))
bytes-same (Some a) None never = absurd (never (λ same. none-some a (sym same)))
bytes-same (Some a) (Some b) never = elim (eqb_tells a b) [
  | inl same ↦ ap (λ (n : ℕ). Some n) same.1
  | inr apart ↦ absurd (never (λ same. apart.1 (same_Some a b same)))
]

among : {X : Type 0} (P : X → Type 0) (front : List X) (x : X) (rest : List X) → All P (front ++ x ∷ rest) → P x
among P [] x rest all = All-head P x rest all
among P (y ∷ front) x rest all = among P front x rest (All-tail P y (front ++ x ∷ rest) all)

-- a byte that no thread which ran may write stays
pub stays : (image : Image) (events : List Event) (place : ℕ) → HasIntegrity image events → All (KeepsDevices image) events
    → ((t : Thread) → Contains image.threads t → HasRun image events t → may_write_at image t place ≡ false)
    → ((place : ℕ) → is_device_word image place ≡ false) → (last_of image events).bytes place ≡ (described image).bytes place
stays image events place integrity devices nobody none =
    bytes-same ((last_of image events).bytes place) ((described image).bytes place) (λ differs. elim (integrity.bytes place differs) [
      | inl r ↦ false≢true (sym (nobody r.thread r.listed r.ran) ∙ r.passes)
      | inr w ↦ false≢true (sym (none (place_of w.address))
          ∙ among (KeepsDevices image) w.before (Write w.address w.word) w.later (subst (All (KeepsDevices image)) w.is devices))
    ])

pub nothing-changes : (events : List Event) (place : ℕ) → HasIntegrity vault events → All (KeepsDevices vault) events → OnlyClientRuns events
    → ((place : ℕ) → may_write_at vault client place ≡ false) → ((place : ℕ) → is_device_word vault place ≡ false)
    → (last_of vault events).bytes place ≡ (described vault).bytes place
nothing-changes events place integrity devices only nowhere none =
    stays vault events place integrity devices (λ t listed ran. ap (λ t. may_write_at vault t place) (only t listed ran) ∙ nowhere place) none
