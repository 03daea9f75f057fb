use Rattle.campaign_laws.proofs.Heading.{headers_tell as tell, of_text}
use Rattle.campaign_laws.proofs.report.headers_tell.Goals as goal

pub returns-clause-digest : goal.returns-clause-digest
returns-clause-digest c = of_text

pub returns-clause-same : goal.returns-clause-same
returns-clause-same c = tell
