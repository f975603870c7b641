-- The pages so far are mapped with execute.
use Rattle.std.proofs.Common.{◌≡◌, ◌+◌, ◌-◌, ◌*◌, ◌/◌, map}
use Rattle.std.specs.List.{list_all, range_with_len}
use Rattle.model.specs.Acceptance.ThreadRules.{is_code}
use Rattle.model.specs.Images.Fills.{program_pages}
use Rattle.model.specs.Kernel.AddressSpaces.{page_size}
use Rattle.wellformed.proofs.threads.is_mapped.Given as goal

abbrev pub invariant-loop-page : goal.invariant-loop-page
invariant-loop-page l =
    list_all (is_code l.fn.image l.fn.thread)
    (map (λ page. l.fn.thread.header.base + page * page_size)
    (range_with_len l.page ((4 * l.fn.thread.header.words + (page_size - 1)) / page_size - l.page)))
    ≡ list_all (is_code l.fn.image l.fn.thread) (program_pages l.fn.thread)
