-- Making trees from a list of parts.
use Rattle.std.specs.Prelude.{ℕ, ◌+◌, List, [], ◌∷◌}
use Rattle.cv_syntax.specs.declared.make.Make.{Make}
use Rattle.cv_syntax.specs.declared.make.Make.TheVariants as make

-- how many nodes a list makes
abbrev pub overs : List Make → ℕ
overs [] = 0
overs (make.Nothing ∷ steps) = overs steps
overs (make.Over h ∷ steps) = overs steps + 1
