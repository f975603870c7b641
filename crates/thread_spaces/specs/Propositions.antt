-- Facts by cases have at most one proof, as a ghost field asks.
use Rattle.std.specs.Prelude.{ℕ, List, [], ◌∷◌}
use denote.Struct.Props.{props}
use Rattle.model.specs.Images.Image.{Image}
use Rattle.typestate.specs.Spaces.{AreWindows}
use Rattle.typestate.specs.declared.window.Window.{Window}

pub AreWindows-prop : (image : Image) (cnodes : List ℕ) (windows : List Window) → IsProp (AreWindows image cnodes windows)
AreWindows-prop image [] [] = Prim.hlevel props
AreWindows-prop image [] (w ∷ ws) = Prim.hlevel props
AreWindows-prop image (cnode ∷ cnodes) [] = Prim.hlevel props
AreWindows-prop image (cnode ∷ cnodes) (w ∷ ws) = Prim.hlevel (props, AreWindows-prop image cnodes ws)
