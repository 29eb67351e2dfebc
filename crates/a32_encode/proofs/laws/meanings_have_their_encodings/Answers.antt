use Rattle.a32_encode.proofs.Encodings.{means_encoding}
use Rattle.a32_encode.proofs.laws.meanings_have_their_encodings.Goals as goal

pub returns : goal.returns
returns c = means_encoding
