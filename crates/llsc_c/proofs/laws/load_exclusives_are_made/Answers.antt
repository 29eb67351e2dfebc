use Rattle.llsc_c.proofs.laws.load_exclusives_are_made.Goals as goal

pub returns : goal.returns
returns c = λ value old new made. made
