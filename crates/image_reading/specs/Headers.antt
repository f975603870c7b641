-- The second parts of headers, each as one format.
use Rattle.std.specs.Prelude.{ℕ, ◌||◌, ◌==◌, nat_lt}
use Rattle.model.specs.Images.Format.{Format, both, field, only_if}
use Rattle.model.specs.Images.Image.{anything, between, has_buffers, has_promises, no_buffer}

-- how many entries each section has
abbrev pub CountFields : Type 0
CountFields = ℕ × (ℕ × (ℕ × (ℕ × (ℕ × (ℕ × (ℕ × (ℕ × ℕ)))))))

abbrev pub counts_format : ℕ → Format CountFields
counts_format version =
    both (field (between 1 64)) (λ _.
    both (field (between 0 4096)) (λ _.
    both (field (between 0 16384)) (λ _.
    both (field (between 0 64)) (λ _.
    both (field (between 0 1024)) (λ _.
    both (field (between 0 4096)) (λ _.
    both (field (between 0 4096)) (λ _.
    both (only_if (has_promises version) 0 (field (between 0 4096))) (λ _.
    field (between 1 64)))))))))

-- where a thread begins, and how long its lists are
abbrev pub ProgramFields : Type 0
ProgramFields = ℕ × (ℕ × (ℕ × (ℕ × (ℕ × (ℕ × ℕ)))))

-- how many words the program has
abbrev pub program_length : ProgramFields → ℕ
program_length (_, (_, (_, (_, (_, (words, _)))))) = words

abbrev pub program_format : ℕ → ℕ → Format ProgramFields
program_format version objects =
    both (field anything) (λ _.
    both (only_if (has_buffers version) no_buffer (field (λ n. nat_lt n objects || (n == no_buffer)))) (λ _.
    both (field anything) (λ _.
    both (field anything) (λ _.
    both (field (between 0 31)) (λ _.
    both (field (between 1 65536)) (λ words.
    field (between 0 words)))))))
