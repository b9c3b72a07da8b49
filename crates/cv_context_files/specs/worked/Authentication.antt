-- A small protocol with a code for authentication (that of `cv_match_laws`), at sizes of two: a tag is the sum of message and key
-- modulo two, and a right tag is an equal one. This profile's own.
use Rattle.std.specs.Prelude.{ℕ, ◌%◌, ◌==◌, false, if◌then◌else◌, List, [], ◌∷◌, Option, Some, None}
use Rattle.std.specs.List.{sum}
use Rattle.cv_syntax_trees.specs.Builders.{correspondence, leaf, occurs}
use Rattle.cv_syntax_trees.specs.Tree.{Tree}
use Rattle.cv_meaning.specs.Interpretation.{Interpretation}
use Rattle.cv_meaning.specs.Runs.{Answer, Calls, Move}
use Rattle.cv_meaning.specs.Terms.{bit}
use Rattle.cv_scene.specs.Reductions.{Reduction}
use Rattle.cv_match_laws.specs.Worked.{answer, authentication, game, scene}

-- all sizes and parameters are two; 11 and 13 test whether a tag is right, 10 and 12 make one

abbrev pub tags : ℕ → List ℕ → ℕ
tags f vs = if (f == 11) then bit (sum vs % 2 == 0) else if (f == 13) then bit (sum vs % 2 == 0) else sum vs % 2

abbrev pub parity : Interpretation
parity = record { type_size = λ T. 2; parameter_value = λ n. 2; table = tags; choices = 2 }

-- event 30(m) ==> event 31(m): what is accepted was sent
abbrev pub accepted_query : Tree
accepted_query = correspondence ((75, 1) ∷ []) (occurs false 30 (leaf 75 ∷ [])) (occurs false 31 (leaf 75 ∷ []) ∷ [])

abbrev pub authenticated : Reduction
authenticated = record { scene = scene (game []); equivalence = authentication; key = 40; answer = answer }

-- a message that was not sent, with the tag 0
abbrev pub forges : List Answer → Option Move
forges [] = Some (Calls 20 [] [])
forges (a ∷ []) = Some (Calls 23 (1 ∷ []) (0 ∷ 0 ∷ []))
forges _ = None
