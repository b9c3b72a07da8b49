-- The sums of the costs of a sequence. Blanchet, TDSC 2008.
use Rattle.std.specs.Prelude.{Bool, List, [], ◌∷◌, map}
use Rattle.cv_bound.specs.declared.terms.Term.{Term}
use Rattle.cv_bound.specs.Sums.{added}
use Rattle.cv_steps.specs.Sequences.{Passage}
use Rattle.cv_steps.specs.Costs.{cost_of}
use Rattle.cv_steps.specs.Steps.{Cost}

-- a sum with these costs more; for secrecy they count twice
unfoldable pub added_up : List Term → List Cost → Bool → List Term
added_up sum [] secrecy = sum
added_up sum (c ∷ cs) secrecy = added_up (added sum (cost_of c) secrecy) cs secrecy

abbrev pub costs_of : List Passage → List Cost
costs_of passages = map (λ p. p.cost) passages
