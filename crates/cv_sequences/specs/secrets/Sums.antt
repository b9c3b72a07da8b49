-- The sums of the costs of a chain, with those of queries of secrecy. Blanchet, TDSC 2008.
use Rattle.std.specs.Prelude.{Bool, List, [], ◌∷◌}
use Rattle.cv_bound.specs.declared.cost.Cost.{Cost as SumCost}
use Rattle.cv_bound.specs.declared.terms.Term.{Term}
use Rattle.cv_bound.specs.Sums.{added}

-- A sum with these costs more, one after another. For secrecy a collision counts twice, and an advantage stands once for the real and once for the random experiment.
unfoldable pub summed_by : (secrecy : Bool) → List Term → List SumCost → List Term
summed_by secrecy sum [] = sum
summed_by secrecy sum (c ∷ cs) = summed_by secrecy (added sum c secrecy) cs
