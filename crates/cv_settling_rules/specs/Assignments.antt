-- Variables whose definitions may go: those that are chosen, and those of a `let` whose term is read at most once, or is so short that it
-- may stand for each read. This profile's own.
use Rattle.std.specs.Prelude.{ℕ, Bool, ◌&&◌, ◌||◌, not, nat_lt, List, [], ◌∷◌, map, flat_map, Option, Some, None, is_some, option_map}
use Rattle.cv_syntax_trees.specs.declared.head.Head.TheVariants.{Let}
use Rattle.cv_syntax_trees.specs.Tree.{Tree, Node, size}
use Rattle.cv_scope_rules.specs.Behind.{sites_of}
use Rattle.cv_scope_rules.specs.Context.{Context, cell_of}
use Rattle.cv_scene.specs.Scenes.{part_at}
use Rattle.cv_scene.specs.Sights.{variable_of}
use Rattle.cv_settling_rules.specs.Candidates.{Candidate, Unlet, Unnew, when}
use Rattle.cv_settling_rules.specs.Variables.{is_tested, reads_of, variables}

abbrev pub unnewings : (game : Tree) → List Candidate
unnewings game = map Unnew (variables game)

-- what a variable with one definition, a `let`, gets, and the replications above

pub record Assignment : Type 0 where
  pub term : Tree
  pub replications : List (ℕ × ℕ)

abbrev pub term_of_let : Tree → Option Tree
term_of_let (Node (Let x T) m b) = Some m
term_of_let t = None

abbrev pub assignment_by : (game : Tree) → List (ℕ × Context) → Option Assignment
assignment_by game (d ∷ []) = option_map (λ m. record { term = m; replications = d.1.replications }) (term_of_let (part_at game d.0))
assignment_by game sites = None

abbrev pub assignment_of : (game : Tree) → ℕ → Option Assignment
assignment_of game x = assignment_by game (sites_of game x)

-- it is read at most once, and in no condition of a `find`
abbrev pub is_hardly_read : (game : Tree) → ℕ → Bool
is_hardly_read game x = nat_lt (reads_of game x) 2 && not (is_tested game x)

-- its term is a name without indices, as a constant is, or a read of at most as many nodes as a read of the variable
abbrev pub is_short : ℕ → Assignment → Bool
is_short x d = is_some (variable_of d.term) && not (nat_lt (size (cell_of d.replications x)) (size d.term))

abbrev pub unletting_by : (game : Tree) → ℕ → Option Assignment → List Candidate
unletting_by game x None = []
unletting_by game x (Some d) = when (is_hardly_read game x || is_short x d) (Unlet x)

abbrev pub unlettings : (game : Tree) → List Candidate
unlettings game = flat_map (λ x. unletting_by game x (assignment_of game x)) (variables game)
