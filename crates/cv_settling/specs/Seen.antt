-- Types of terms in a scene, and that the code sees them: by the declarations, and by a table of the game's variables. This profile's own.
use Rattle.std.specs.Prelude.{◌≡◌, ℕ, Bool, true, false, ◌==◌, if◌then◌else◌, option_map, Option, Some, None}
use Rattle.cv_syntax_trees.specs.declared.head.Head.{Head}
use Rattle.cv_syntax_trees.specs.declared.head.Head.TheVariants.{And, Eq, No, Not, Or, Yes}
use Rattle.cv_syntax_trees.specs.declared.sites.sort.Sort.{Sort}
use Rattle.cv_syntax_trees.specs.declared.sites.sort.Sort.TheVariants.{OfType}
use Rattle.cv_syntax_trees.specs.Tree.{Tree}
use Rattle.cv_syntax.specs.Declarations.{declarations}
use Rattle.cv_scope_rules.specs.typing.Parts.{nothing_above}
use Rattle.cv_scope_rules.specs.typing.Signature.{sort_of, variable_sort}
use Rattle.cv_scene.specs.Scenes.{Scene}
use Rattle.cv_scene.specs.Terms.{signature_in}
use Rattle.cv_settling_overview.specs.Variables.{seen_of}
use Rattle.cv_settling_overview.specs.declared.variables.Variable.{Variable}
use Rattle.cv_settling.specs.declared.types.Table.{Table}

-- an index has no type

abbrev pub type_in : Option Sort → Option ℕ
type_in (Some (OfType T)) = Some T
type_in S = None

abbrev pub type_of : Scene → Tree → Option ℕ
type_of s t = type_in (sort_of (signature_in s) nothing_above t)

-- the head makes a truth value
abbrev pub is_truth_value : Head → Bool
is_truth_value Eq = true
is_truth_value And = true
is_truth_value Or = true
is_truth_value Not = true
is_truth_value Yes = true
is_truth_value No = true
is_truth_value h = false

-- what a table has of a variable; nothing where a name is none
abbrev pub type_seen : Variable → Option (Option ℕ)
type_seen v = if v.sites == 0 then None else Some v.of_type

-- the declarations are those of the scene, and the table has the variables of its game with their types
pub record IsTableOf (s : Scene) (t : Table) : Type 0 where
  pub declarations : s.declarations ≡ declarations t.pool.now.trees t.decls.now.list
  pub variables : (x : ℕ) → type_seen (seen_of t.variables.now x) ≡ option_map (λ S. type_in (Some S)) (variable_sort (signature_in s).arrays x)
