-- The first definitions of variables, in trees that are still to come.
use Rattle.std.specs.Prelude.{ℕ, zero, suc, ◌+◌, ◌≤◌, ◌==◌, if◌then◌else◌, List, [], ◌∷◌, ◌++◌, get_or, Option, Some, None}
use Rattle.cv_syntax_trees.specs.declared.head.Head.{Head}
use Rattle.cv_syntax_trees.specs.declared.head.Head.TheVariants.{New, Let, Binder}
use Rattle.cv_syntax.specs.declared.make.Make.{Make}
use Rattle.cv_syntax.specs.declared.make.Make.TheVariants.{Nothing, Over}
use Rattle.cv_syntax_trees.specs.Tree.{Tree}
use Rattle.cv_parse_grammar.specs.Filled.{first_site, under}
use Rattle.cv_parse_names.specs.declared.indices.sites.Task.{Task}
use Rattle.cv_parse_names.specs.declared.indices.sites.Task.TheVariants.{Look, Define}
use Rattle.cv_syntax_trees.specs.lists.Options.{first_of}

-- the variable that a node defines
abbrev pub defined_by : Head → Option ℕ
defined_by (New x T) = Some x
defined_by (Let x T) = Some x
defined_by (Binder x T) = Some x
defined_by h = None

abbrev pub defining : ℕ → Option ℕ → List Task
defining level None = []
defining level (Some x) = Define x level ∷ []

-- what is left to do at a part: its definition counts most, so it is noted last
abbrev pub tasks_at : ℕ → Make → List Task
tasks_at level Nothing = []
tasks_at level (Over h) = defining level (defined_by h) ++ Look level ∷ Look (under h level) ∷ []

-- the last of the first parts
abbrev pub part_before : List Make → ℕ → Make
part_before makes zero = Nothing
part_before makes (suc k) = get_or makes k Nothing

-- how many replications stand above the first definition of a variable, once the tasks are done
abbrev pub noted : ℕ → ℕ → ℕ → Option ℕ → Option ℕ
noted x y level known = if y == x then Some level else known

unfoldable pub settled : ℕ → List Task → List Tree → Option ℕ → Option ℕ
settled x [] trees known = known
settled x (Define y level ∷ tasks) trees known = settled x tasks trees (noted x y level known)
settled x (Look level ∷ tasks) [] known = settled x tasks [] known
settled x (Look level ∷ tasks) (t ∷ trees) known = settled x tasks trees (first_of (first_site x level t) known)

abbrev pub level_of : Task → ℕ
level_of (Define x level) = level
level_of (Look level) = level

-- the levels that so many parts allow
unfoldable pub AreWithin : ℕ → ℕ → List Task → Type 0
AreWithin all at [] = Unit {0}
AreWithin all at (task ∷ tasks) = (level_of task + at ≤ all) × AreWithin all at tasks
