-- What holds of all of a list holds of its beginning.
use Rattle.std.proofs.Common.{◌≡◌, ◌++◌, List, [], ◌∷◌, All, subst}
use Rattle.std.proofs.lemmas.List.Elements.{All-cons, All-head, All-nil, All-tail}

beginning : {X : Type 0} (P : X → Type 0) (front rest : List X) → All P (front ++ rest) → All P front
beginning P [] rest all = All-nil P
beginning P (x ∷ front) rest all =
    All-cons P x front (All-head P x (front ++ rest) all) (beginning P front rest (All-tail P x (front ++ rest) all))

pub all-front : {X : Type 0} (P : X → Type 0) (xs front rest : List X) → All P xs → xs ≡ front ++ rest → All P front
all-front P xs front rest all is = beginning P front rest (subst (All P) is all)
