-- What is asked of a game's names and indices, so that its context has a shape that a next game can follow. This profile's own.
use Rattle.std.specs.Prelude.{◌≡◌, ℕ, Bool, true, false, ◌&&◌, ◌||◌, ◌==◌, not, is_some, List}
use Rattle.cv_syntax_trees.specs.declared.head.Head.{Head}
use Rattle.cv_syntax_trees.specs.declared.head.Head.TheVariants.{Find, Read}
use Rattle.cv_syntax_trees.specs.Tree.{Tree, Empty, Node}
use Rattle.cv_meaning.specs.Tapes.{Find_at}
use Rattle.cv_scope_rules.specs.Made.{made_by}
use Rattle.cv_scope_rules.specs.Sites.{Variable}
use Rattle.cv_scene.specs.Scenes.{names}
use Rattle.cv_scene.specs.Instances.{Matching, call_at}
use Rattle.cv_scene.specs.Reductions.{Reduction, is_plain}
use Rattle.cv_meaning.specs.contexts.Roles.{Plain}
use Rattle.cv_inline_laws.specs.runs.Contexts.{ordinary_in}
use Rattle.cv_inline_laws.specs.runs.Texts.{Text}

-- a node of the tree defines the variable
unfoldable pub defines : ℕ → Tree → Bool
defines x Empty = false
defines x (Node h a b) = made_by h a (Variable x) || (defines x a || defines x b)

-- a find of the tree has the label

abbrev pub is_label : ℕ → Head → Bool
is_label l (Find m) = m == l
is_label l h = false

unfoldable pub has_label : ℕ → Tree → Bool
has_label l Empty = false
has_label l (Node h a b) = is_label l h || (has_label l a || has_label l b)

-- the names of the tree, beside the key, coins and answers, are ordinary, those that it defines are plain, and both tapes have what
-- its finds choose by
pub record HasRolesOf (T : Text) (r : Reduction) (t : Tree) : Type 0 where
  pub ordinary : (x : ℕ) → names x t ≡ true → is_plain r x ≡ true → ordinary_in T x ≡ true
  pub variables : (x : ℕ) → defines x t ≡ true → is_plain r x ≡ true → T.role x ≡ Plain
  pub finds : (l : ℕ) → has_label l t ≡ true → (w : List ℕ) → T.side_tape (Find_at l w) ≡ T.game_tape (Find_at l w)

-- no instance stands in the tree, and none in the indices of a read

unfoldable pub has_no_call : Matching → Tree → Bool
has_no_call M Empty = true
has_no_call M (Node h a b) = not (is_some (call_at M (Node h a b))) && (has_no_call M a && has_no_call M b)

abbrev pub reads_no_call : Matching → Head → Tree → Bool
reads_no_call M (Read x) a = has_no_call M a
reads_no_call M h a = true

unfoldable pub has_free_indices : Matching → Tree → Bool
has_free_indices M Empty = true
has_free_indices M (Node h a b) = reads_no_call M h a && (has_free_indices M a && has_free_indices M b)
