-- What a cryptographic step costs. Blanchet and Pointcheval, CRYPTO 2006.
use Rattle.std.specs.Prelude.{ℕ}
use Rattle.cv_bound.specs.declared.cost.Cost.{Cost}
use Rattle.cv_bound.specs.declared.cost.Cost.TheVariants as bound

-- a cryptographic step costs the advantage of its context, which has the number of the step in the proof
abbrev pub advantage_of : (number equivalence : ℕ) → Cost
advantage_of number e = bound.Advantage number (record { 0 = e })
