-- The small protocol with tags, as a reduction to authentication: its events, 30 and 31, have a message. This profile's own.
use Rattle.std.specs.Prelude.{nat_lt, List, [], ◌∷◌, ◌++◌, None}
use Rattle.cv_syntax_trees.specs.declared.class.Class.TheVariants as class
use Rattle.cv_syntax_trees.specs.Declarations.{Declaration, Named}
use Rattle.cv_syntax_trees.specs.Tree.{names}
use Rattle.cv_scene.specs.Reductions.{Reduction}
use Rattle.cv_match_laws.specs.Worked as worked
use Rattle.cv_match_laws.specs.Worked.{answer, authentication, game}

abbrev pub declarations : List Declaration
declarations = worked.declarations ++ (Named 30 class.Event (names (1 ∷ [])) None ∷ Named 31 class.Event (names (1 ∷ [])) None ∷ [])

abbrev pub tagging : Reduction
tagging = record { scene = record { declarations = declarations; known = λ x. nat_lt x 80; game = game [] }; equivalence = authentication; key = 40; answer = answer }
