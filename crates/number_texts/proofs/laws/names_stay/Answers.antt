use Rattle.std.proofs.Common.{refl}
use Rattle.number_texts.proofs.Names.{colon_kept, name_told}
use Rattle.number_texts.proofs.laws.names_stay.Goals as goal

pub returns : goal.returns
returns c = record { heard = λ r. refl; told = name_told; kept = colon_kept }
