-- What the code writes for one node of the game: parts of trees, and the nodes that are open behind them.
use Rattle.std.specs.Prelude.{ℕ, suc, ◌==◌, if◌then◌else◌, List, [], ◌∷◌, ◌++◌, drop, slice_index_or, take, ◌-◌}
use Rattle.cv_pool.specs.KindTree.{KindTree}
use Rattle.cv_syntax_trees.specs.declared.head.Head.{Head}
use Rattle.cv_syntax_trees.specs.declared.head.Head.TheVariants.{Key, New}
use Rattle.cv_syntax_trees.specs.declared.head.Head.TheVariants.{Call as CallHead}
use Rattle.cv_syntax.specs.declared.make.Make.{Make}
use Rattle.cv_syntax.specs.declared.make.Make.TheVariants.{Nothing}
use Rattle.cv_syntax.specs.NameSets.{is_in}
use Rattle.cv_syntax.specs.Postorder.{postorder}
use Rattle.cv_scene.specs.Contexts.{is_statement}
use Rattle.cv_context.specs.nodes.Calls.{terms_of}
use Rattle.cv_context.specs.declared.nodes.calls.Call.{Call}
use Rattle.cv_context.specs.declared.nodes.roles.Roles.{Roles}

-- the answer of a site
abbrev pub answer_in : Roles → ℕ → ℕ
answer_in r k = slice_index_or r.answers.items k 0

-- what these calls read, and their heads, from a number on
abbrev pub terms_of_calls : List KindTree → List Call → List Make
terms_of_calls trees [] = []
terms_of_calls trees (c ∷ cs) = postorder (terms_of trees c) ++ terms_of_calls trees cs

abbrev pub heads_of_calls : Roles → ℕ → List Call → List Head
heads_of_calls r s [] = []
heads_of_calls r s (c ∷ cs) = CallHead (answer_in r s) s ∷ heads_of_calls r (suc s) cs

-- the first child and the head that a node has in the context

abbrev pub first_parts : Roles → Head → List Make → List Make
first_parts r (New y T) ms = if y == r.key then Nothing ∷ [] else if is_in r.coins y then [] else ms
first_parts r h ms = ms

abbrev pub heads_in : Roles → Head → List Head
heads_in r (New y T) = if y == r.key then Key y ∷ [] else if is_in r.coins y then [] else New y T ∷ []
heads_in r h = h ∷ []

-- the calls from a number up to another stand in a statement's own terms
abbrev pub calls_here : List Call → Head → ℕ → ℕ → List Call
calls_here cs h s n = if is_statement h then take (n - s) (drop s cs) else []
