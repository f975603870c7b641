-- What the test of a level says of each of its threads.
use Rattle.std.proofs.Common.{ℕ, zero, suc, ◌≡◌, ◌∙◌, ◌<◌, ◌||◌, not, Bool, true, List, [], ◌∷◌, length, get_or, sym, ap, subst, arith}
use Rattle.std.specs.Prelude.{Contains}
use Rattle.std.specs.List.{list_all, range_with_len}
use Rattle.std.proofs.lemmas.Bool.{and_parts}
use Rattle.model.specs.Acceptance.PointStates.{noted}
use Rattle.model.specs.Images.Described.{Numbered, numbered_threads}
use Rattle.model.specs.Images.Image.{Image}
use Rattle.response.specs.Asking.{asked_at}
use Rattle.response.specs.Levels.{is_of_level}
use Rattle.response.specs.Weights.{takes_alone, waits_for_no_message, waits_for_notifications_alone, where_known}
use Rattle.response.proofs.AtBells.{WaitsForNoMessage}
use Rattle.response.proofs.TwoEntries.{range-has}

all-there : {A : Type 0} (test : A → Bool) (xs : List A) (x : A) (k : ℕ) → k < length xs → get_or xs k x ≡ x → list_all test xs ≡ true → test x ≡ true
all-there test [] x k inside at is = absurd (omega (arith, inside))
all-there test (y ∷ ys) x zero inside at is = subst (λ z. test z ≡ true) at (and_parts (test y) (list_all test ys) is).0
all-there test (y ∷ ys) x (suc k) inside at is = all-there test ys x k (omega (arith, inside)) at (and_parts (test y) (list_all test ys) is).1

pub all-at : {A : Type 0} (test : A → Bool) (xs : List A) (x : A) → Contains xs x → list_all test xs ≡ true → test x ≡ true
all-at test xs x at is = all-there test xs x at.0 at.1 at.2 is

pub meets-none : (image : Image) (priority : ℕ) → waits_for_notifications_alone image priority ≡ true → (t : Numbered) → Contains (numbered_threads image) t
    → is_of_level priority t ≡ true → WaitsForNoMessage image t
meets-none image priority is t listed level point state inside known =
    let either : (not (is_of_level priority t) || takes_alone image t) ≡ true =
    all-at (λ u. not (is_of_level priority u) || takes_alone image u) (numbered_threads image) t listed is in
    let own : takes_alone image t ≡ true = sym (ap (λ (b : Bool). not b || takes_alone image t) level) ∙ either in
    let here = all-at (λ n. where_known (λ known_state. waits_for_no_message (asked_at image t.thread n known_state)) (noted image t n))
    (range_with_len 0 t.thread.header.words) point (range-has 0 t.thread.header.words point (omega arith) (omega (arith, inside))) own in
    sym (ap (where_known (λ known_state. waits_for_no_message (asked_at image t.thread point known_state))) known) ∙ here
