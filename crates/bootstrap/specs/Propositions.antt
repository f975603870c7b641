-- Facts of each entry of a list have at most one proof, as a ghost field asks.
use Rattle.std.specs.Prelude.{List}
use Rattle.std.specs.List.{AllByRecursion, AllByRecursion-prop}
use denote.Struct.Props.{props}
use Rattle.model.specs.declared.entries.ImageHeader.{ImageHeader}
use Rattle.model.specs.Images.Image.{ImageContent, Thread}
use Rattle.bootstrap.specs.Limits.{ContentFits, ThreadFits}

pub contents-prop : (h : ImageHeader) (contents : List ImageContent) → IsProp (AllByRecursion (ContentFits h) contents)
contents-prop h contents = AllByRecursion-prop (ContentFits h) (λ content. Prim.hlevel props) contents

pub threads-prop : (h : ImageHeader) (threads : List Thread) → IsProp (AllByRecursion (ThreadFits h) threads)
threads-prop h threads = AllByRecursion-prop (ThreadFits h) (λ thread. Prim.hlevel props) threads
