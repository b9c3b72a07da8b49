-- How many copies there are below replications. Blanchet, TDSC 2008, section 2.
use Rattle.std.specs.Prelude.{ℕ, ◌*◌, List, [], ◌∷◌}
use Rattle.cv_meaning.specs.Interpretation.{Interpretation}

-- below replications with these parameters
unfoldable pub copies : Interpretation → (parameters : List ℕ) → ℕ
copies i [] = 1
copies i (n ∷ ns) = i.parameter_value n * copies i ns
