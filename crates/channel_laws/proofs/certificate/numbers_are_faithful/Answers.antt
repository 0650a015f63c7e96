use Rattle.channel_laws.proofs.Index.{coded}
use Rattle.channel_laws.proofs.certificate.numbers_are_faithful.Goals as goal

pub returns : goal.returns
returns c = coded
