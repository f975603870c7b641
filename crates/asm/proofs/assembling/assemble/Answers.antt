use Rattle.std.specs.Prelude.{Result, MatchResult, max}
use Rattle.std.proofs.Common.{◌≡◌, ℕ, List, Ok, Err, inl, inr, sym, ap, subst, ◌∙◌}
use Rattle.model.specs.Images.Image.{Image}
use Rattle.model.specs.Images.Listing.{Text}
use Rattle.asm.specs.declared.faults.SourceFault.{SourceFault}
use Rattle.std.specs.Str.Lines.{lines}
use Rattle.asm.specs.Drafts.{Draft, nothing_read}
use Rattle.asm.specs.Labels.{FoundLabels}
use Rattle.asm.specs.Meaning.{all_read, and_then, finished, labels_of, on_line, text_means}
use Rattle.asm.specs.Outcomes.{MeansText}
use Rattle.asm.proofs.ListedMeaning.{listing-means}
use Rattle.asm.proofs.assembling.assemble.Goals as goal

-- what a text means is the one thing that it gives
only : (text : Text) (r : Result Image SourceFault) (image : Image) → MeansText r (text_means text) → text_means text ≡ Ok image
    → MatchResult r (λ given. given ≡ image) (λ fault. fault.kind ≡ 5)
only text (Ok given) image is means = let same : Ok given ≡ Ok image = sym is ∙ means in cc
only text (Err fault) image (inl memory) means = memory
only text (Err fault) image (inr told) means = absurd (let no : Err (fault.line, fault.kind) ≡ Ok image = sym told ∙ means in cc)

pub returns-clause-listed : goal.returns-clause-listed
unfolding text_means
returns-clause-listed c listed is version entered same =
    let texts = lines c.args.text.now in
    let searched : c.deref.result.now ≡ labels_of texts = c.deref.ensures.value ∙ c.in_ok-labels.ensures.meant in
    let given = subst (λ (labels : List FoundLabels). MeansText c.image_with.result
    (and_then (all_read labels 0 nothing_read texts) (λ (read : ℕ × Draft). on_line (max read.0 1) (finished read.1))))
    searched c.image_with.ensures.meant in
    only c.args.text.now c.image_with.result listed given (ap text_means same ∙ listing-means listed is version entered)
