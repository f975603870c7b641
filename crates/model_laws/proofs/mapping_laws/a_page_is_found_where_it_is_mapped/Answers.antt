-- Both ways.
use Rattle.model_laws.proofs.mapping_laws.a_page_is_found_where_it_is_mapped.Goals as goal
use Rattle.headline.proofs.Laws.{page-mapped, page-maps}

pub returns : goal.returns
returns c = λ s root page frame allowed sound. (page-mapped s root page frame allowed sound, page-maps s root page frame allowed)
