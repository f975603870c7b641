-- The threads of the gallery's key store: who of them may write a place, and that the two clients have no bytes to write.
use Rattle.std.proofs.Common.{ℕ, ◌≡◌, ◌≢◌, ◌<◌, ◌∷◌, [], inl, inr, false, Some, List, refl, ap, arith}
use Rattle.std.specs.Prelude.{Contains}
use Rattle.std.proofs.lemmas.List.Elements.{All-cons, All-contains, All-nil}
use Rattle.model.specs.declared.events.Event.{Event}
use Rattle.model.specs.declared.events.Event.TheVariants.{Step}
use Rattle.model.specs.declared.labels.Label.{Label}
use Rattle.model.specs.Acceptance.Accepted.{IsAccepted}
use Rattle.model.specs.Acceptance.Authority.{StaysWithin, WithinAuthority, self_of}
use Rattle.model.specs.Images.Described.{Numbered, numbered_threads}
use Rattle.model.specs.Images.Image.{Image, Thread}
use Rattle.model.specs.Kernel.Scheduling.{current}
use Rattle.model.specs.Kernel.State.{State}
use Rattle.headline.specs.facts.Standing.{AllStand}
use Rattle.headline.specs.parts.Given.{AllHoldGiven}
use Rattle.headline.specs.integrity.Runs.{HasRun, may_write_at}
use Rattle.model_laws.proofs.NoBytes.{HasNoBytes, leaves-bytes}
use Rattle.model_laws.proofs.Opened.{opened}
use Rattle.model_laws.specs.GalleryKeyStore.{admin_with, key_store, user_with, vault_with}

pub nobody-writes : (rest : Image) (vault user admin : Thread) (events : List Event) (place : ℕ)
    → (HasRun (key_store rest vault user admin) events (vault_with vault) → may_write_at (key_store rest vault user admin) (vault_with vault) place ≡ false)
    → may_write_at (key_store rest vault user admin) (user_with user) place ≡ false
    → may_write_at (key_store rest vault user admin) (admin_with admin) place ≡ false
    → (t : Thread) → Contains (Image.threads (key_store rest vault user admin)) t → HasRun (key_store rest vault user admin) events t
    → may_write_at (key_store rest vault user admin) t place ≡ false
unfolding key_store
nobody-writes rest vault user admin events place first second third t listed ran =
    let P = λ (u : Thread). HasRun (key_store rest vault user admin) events u → may_write_at (key_store rest vault user admin) u place ≡ false in
    All-contains P (vault_with vault ∷ user_with user ∷ admin_with admin ∷ []) t
    (All-cons P (vault_with vault) (user_with user ∷ admin_with admin ∷ []) first
    (All-cons P (user_with user) (admin_with admin ∷ []) (λ r. second) (All-cons P (admin_with admin) [] (λ r. third) (All-nil P)))) listed ran

-- ---- the clients have no bytes

abbrev the-user : Thread → Numbered
the-user user = record { number = 1; thread = user_with user }

abbrev the-admin : Thread → Numbered
the-admin admin = record { number = 2; thread = admin_with admin }

user-has-none : (rest : Image) (vault user admin : Thread) → HasNoBytes (key_store rest vault user admin) (the-user user)
unfolding opened
user-has-none rest vault user admin = record { given = refl; maps = refl; apart = refl; keys = refl; root = refl; unbuffered = refl }

admin-has-none : (rest : Image) (vault user admin : Thread) → HasNoBytes (key_store rest vault user admin) (the-admin admin)
unfolding opened
admin-has-none rest vault user admin = record { given = refl; maps = refl; apart = refl; keys = refl; root = refl; unbuffered = refl }

user-listed : (rest : Image) (vault user admin : Thread) → Contains (numbered_threads (key_store rest vault user admin)) (the-user user)
unfolding opened
user-listed rest vault user admin = let less : 1 < 3 = omega arith in (1, less, refl)

admin-listed : (rest : Image) (vault user admin : Thread) → Contains (numbered_threads (key_store rest vault user admin)) (the-admin admin)
unfolding opened
admin-listed rest vault user admin = let less : 2 < 3 = omega arith in (2, less, refl)

pub steps-leave : (bytes : List ℕ) (rest : Image) (vault user admin : Thread) (s after : State) (labels : List Label) (place : ℕ)
    → IsAccepted bytes (key_store rest vault user admin) → AllStand (key_store rest vault user admin) s labels
    → AllHoldGiven (key_store rest vault user admin) s → StaysWithin (key_store rest vault user admin) s Step after
    → current s ≢ Some (self_of (key_store rest vault user admin) (vault_with vault)) → after.bytes place ≡ s.bytes place
unfolding key_store
steps-leave bytes rest vault user admin s after labels place accepted all held (inl idle) other = ap (λ (x : State). x.bytes place) idle.1
steps-leave bytes rest vault user admin s after labels place accepted all held (inr own) other =
    let image = key_store rest vault user admin in
    let P = λ (u : Thread). current s ≡ Some (self_of image u) → WithinAuthority image u s after → after.bytes place ≡ s.bytes place in
    All-contains P (vault_with vault ∷ user_with user ∷ admin_with admin ∷ []) own.thread
    (All-cons P (vault_with vault) (user_with user ∷ admin_with admin ∷ []) (λ runs within. absurd (other runs))
    (All-cons P (user_with user) (admin_with admin ∷ [])
    (λ runs within. leaves-bytes bytes image accepted s after labels all held (the-user user) (user-listed rest vault user admin)
    (user-has-none rest vault user admin) within place)
    (All-cons P (admin_with admin) []
    (λ runs within. leaves-bytes bytes image accepted s after labels all held (the-admin admin) (admin-listed rest vault user admin)
    (admin-has-none rest vault user admin) within place)
    (All-nil P)))) own.listed own.runs own.within
