-- One CNode's place more, and what is made of all.
use Rattle.std.proofs.Common.{ℕ, ◌≡◌, ◌∙◌, ◌+◌, Some, List, [], ◌∷◌, ◌++◌, IfOk, Result, Ok, Err, get_or, take, sym, ap, subst, add-one, take-suc}
use Rattle.std.specs.Prelude.{slice_get}
use Rattle.std.proofs.lemmas.Option.{get_or_from_slice_get, slice_get_within}
use Rattle.model.specs.Images.Image.{Image}
use Rattle.typestate.specs.Spaces.{AreWindows, IsWindow}
use Rattle.typestate.specs.declared.window.Window.{Window}

windows-push : (image : Image) (cnodes : List ℕ) (windows : List Window) (cnode : ℕ) (w : Window) → AreWindows image cnodes windows → IsWindow image cnode w
    → AreWindows image (cnodes ++ cnode ∷ []) (windows ++ w ∷ [])
windows-push image [] [] cnode w are is = (is, tt)
windows-push image [] (v ∷ vs) cnode w are is = absurd are
windows-push image (c ∷ cs) [] cnode w are is = absurd are
windows-push image (c ∷ cs) (v ∷ vs) cnode w are is = (are.0, windows-push image cs vs cnode w are.1 is)

pub windows-more : (image : Image) (cnodes : List ℕ) (windows : List Window) (n cnode : ℕ) (w : Window) → slice_get cnodes n ≡ Some cnode →
    AreWindows image (take n cnodes) windows → IsWindow image cnode w
    → AreWindows image (take (n + 1) cnodes) (windows ++ w ∷ [])
windows-more image cnodes windows n cnode w at are is =
    let here : get_or cnodes n cnode ≡ cnode = get_or_from_slice_get cnodes n cnode cnode at in
    let parts : take (n + 1) cnodes ≡ take n cnodes ++ (cnode ∷ []) =
    rw (add-one n) (take-suc cnodes n cnode (slice_get_within cnodes n cnode at) ∙ ap (λ (x : ℕ). take n cnodes ++ (x ∷ [])) here) in
    subst (λ (cs : List ℕ). AreWindows image cs (windows ++ w ∷ [])) (sym parts) (windows-push image (take n cnodes) windows cnode w are is)

pub windows-made : {E : Type 0} (image : Image) (cnodes : List ℕ) (windows : List Window) (r : Result (List Window) E) → AreWindows image cnodes windows →
    IfOk r (λ made. made ≡ windows)
    → IfOk r (λ made. AreWindows image cnodes made)
windows-made image cnodes windows (Ok made) are is = subst (AreWindows image cnodes) (sym is) are
windows-made image cnodes windows (Err e) are is = tt
