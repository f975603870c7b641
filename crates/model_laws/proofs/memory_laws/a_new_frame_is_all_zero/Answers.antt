-- By how the byte changes: it was in no frame, so the frame comes with it.
use Rattle.std.proofs.Common.{ℕ, ◌≡◌, true, false, Option, Some, None, IsSome, subst, sym, ◌∙◌}
use Rattle.model.specs.Acceptance.Authority.{comes_with_frame, delivered, goes_with_frame, written}
use Rattle.model_laws.proofs.memory_laws.a_new_frame_is_all_zero.Goals as goal

pub returns : goal.returns
returns c = λ image t s after place byte before behind nothing is some within.
    elim (within.bytes place (λ same. let e : None ≡ Some byte = sym nothing ∙ same ∙ is in cc)) [
      | written was there address at ↦ let e : false ≡ true = subst (λ (o : Option ℕ). IsSome o) nothing was in cc
      | comes_with_frame missing there zero ↦ let e : Some byte ≡ Some 0 = sym is ∙ zero in some (let same : byte ≡ 0 = cc in same)
      | goes_with_frame there gone none ↦ let e : Some byte ≡ None = sym is ∙ none in cc
      | delivered was there from to index source target delivers of_sender of_receiver low high at same ↦
          let e : false ≡ true = subst (λ (o : Option ℕ). IsSome o) nothing was in cc
    ]
