use Rattle.std.proofs.Common.{refl}
use Rattle.number_texts.proofs.laws.whole_numbers_stay.Goals as goal

pub returns : goal.returns
returns c = record { default = refl; heard = λ s. refl; told = λ s. refl; all = λ ts. refl }
