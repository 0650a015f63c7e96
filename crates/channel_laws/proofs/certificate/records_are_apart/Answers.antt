use Rattle.channel_laws.proofs.Index.{numbered}
use Rattle.channel_laws.proofs.certificate.records_are_apart.Goals as goal

pub returns : goal.returns
returns c = numbered _
