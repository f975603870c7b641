use Rattle.std.proofs.Common.{◌≡◌, ◌-◌}
use Rattle.model.specs.Images.Format.{end_of, many_read, field}
use Rattle.model.specs.Images.Image.{anything}
use Rattle.image_reading.proofs.word_lists.words_end.Given as goal

abbrev pub invariant-loop : goal.invariant-loop
invariant-loop l =
    end_of (many_read (λ _. field anything) (λ _. 0) 0 (l.count - l.counter) l.bytes l.at)
    ≡ end_of (many_read (λ _. field anything) (λ _. 0) 0 l.count l.bytes l.fn.start)
