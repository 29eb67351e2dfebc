use Rattle.a32_encode.proofs.Encodings.{encoding_means}
use Rattle.a32_encode.proofs.laws.encodings_mean_their_instructions.Goals as goal

pub returns : goal.returns
returns c = encoding_means
