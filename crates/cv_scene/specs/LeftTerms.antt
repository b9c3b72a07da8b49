-- What is asked of the functions of a left side, that instances have the values of their answers: bodies are terms, which read the
-- names of their function and constants, each name is read, and no two are the same. This profile's own.
use Rattle.std.specs.Prelude.{◌≡◌, ℕ, nat_eq, ◌<◌, Bool, true, false, ◌&&◌, ◌||◌, List}
use Rattle.std.specs.List.{AllByRecursion, IsDistinct}
use Rattle.cv_syntax_trees.specs.declared.head.Head.{Head}
use Rattle.cv_syntax_trees.specs.declared.head.Head.TheVariants.{Read}
use Rattle.cv_syntax_trees.specs.Declarations.{Declaration}
use Rattle.cv_syntax.specs.NameSets.{is_one_of}
use Rattle.cv_syntax_trees.specs.Tree.{Tree, Empty, Node, reads_only}
use Rattle.cv_meaning.specs.Interpretation.{is_constant_of}
use Rattle.cv_meaning.specs.contexts.Groups.{Function, Group}
use Rattle.cv_scope_rules.specs.Phrases.{Term, is_phrase}
use Rattle.cv_scene.specs.Instances.{names_of}
use Rattle.cv_scene.specs.Refusals.{uses}

-- no array is read in the tree
abbrev pub head_reads_no_array : Head → Bool
head_reads_no_array (Read x) = false
head_reads_no_array h = true

unfoldable pub reads_no_array : Tree → Bool
reads_no_array Empty = true
reads_no_array (Node h a b) = head_reads_no_array h && (reads_no_array a && reads_no_array b)

abbrev pub is_name_or_constant : List Declaration → Group → Function → ℕ → Bool
is_name_or_constant ds g f x = is_one_of (names_of g f) x || is_constant_of ds x

pub record IsLeftFunction (ds : List Declaration) (g : Group) (f : Function) : Type 0 where
  pub term : is_phrase Term f.body ≡ true
  pub plain : reads_no_array f.body ≡ true
  pub bound : reads_only (is_name_or_constant ds g f) f.body ≡ true
  pub read : AllByRecursion (λ x. 0 < uses x f.body) (names_of g f)
  pub distinct : IsDistinct nat_eq (names_of g f)

-- each function of the group is so
abbrev pub HasLeftTerms : List Declaration → Group → Type 0
HasLeftTerms ds g = AllByRecursion (IsLeftFunction ds g) g.functions
