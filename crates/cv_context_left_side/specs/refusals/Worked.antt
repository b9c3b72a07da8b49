-- A small protocol with tags, as a reduction to authentication: its events are declared, too.
use Rattle.std.specs.Prelude.{ℕ, nat_lt, List, [], ◌∷◌, ◌++◌, None}
use Rattle.cv_syntax_trees.specs.declared.class.Class.TheVariants as class
use Rattle.cv_syntax_trees.specs.Declarations.{Declaration, Named}
use Rattle.cv_syntax_trees.specs.Tree.{names}
use Rattle.cv_scene.specs.Reductions.{Reduction}
use Rattle.cv_match_laws.specs.Worked as worked
use Rattle.cv_match_laws.specs.Worked.{answer, authentication, game}

-- events 30 and 31 have a message
abbrev pub declarations : List Declaration
declarations = worked.declarations ++ (Named 30 class.Event (names (1 ∷ [])) None ∷ Named 31 class.Event (names (1 ∷ [])) None ∷ [])

abbrev pub authenticating : Reduction
authenticating = record { scene = record { declarations = declarations; known = λ x. nat_lt x 80; game = game [] }; equivalence = authentication; key = 40; answer = answer }
