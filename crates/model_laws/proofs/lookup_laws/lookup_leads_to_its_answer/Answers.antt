-- By the bits that are left.
use Rattle.model_laws.proofs.LookupLaws.{lookup-leads}
use Rattle.model_laws.proofs.lookup_laws.lookup_leads_to_its_answer.Goals as goal

pub returns : goal.returns
returns c = lookup-leads
