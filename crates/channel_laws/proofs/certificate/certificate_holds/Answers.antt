use Rattle.channel_laws.proofs.Certified.{certified}
use Rattle.channel_laws.proofs.certificate.certificate_holds.Goals as goal

pub returns : goal.returns
returns c = certified
