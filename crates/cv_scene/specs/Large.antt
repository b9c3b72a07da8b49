-- Variables that are chosen at random from large types. Blanchet, TDSC 2008: the type of a collision is a large one.
use Rattle.std.specs.Prelude.{ℕ, Bool, true, false, ◌&&◌, not, if◌then◌else◌, Option, Some, None}
use Rattle.cv_syntax_trees.specs.declared.class.Class.TheVariants as class
use Rattle.cv_syntax_trees.specs.declared.head.Head.{Head}
use Rattle.cv_syntax_trees.specs.declared.head.Head.TheVariants.{New}
use Rattle.cv_syntax_trees.specs.Declarations.{Declaration, Named}
use Rattle.cv_syntax_trees.specs.Tree.{Tree, Empty, Node, first_place, second_place}
use Rattle.cv_syntax_trees.specs.sites.Sites.{first_of}
use Rattle.cv_scope_rules.specs.typing.Signature.{declaration_of}
use Rattle.cv_scope_rules.specs.Made.{made_by}
use Rattle.cv_scope_rules.specs.Sites.{Variable}
use Rattle.cv_scene.specs.Scenes.{Scene}

-- the type is declared as `[large]`

abbrev pub is_large_by : Option Declaration → Bool
is_large_by (Some (Named T (class.TypeName fixed large) arguments result)) = large
is_large_by d = false

abbrev pub is_large : Scene → (type : ℕ) → Bool
is_large s T = is_large_by (declaration_of s.declarations T)

-- a `new` of one of these types
abbrev pub chooses : (types : ℕ → Bool) → Head → Bool
chooses types (New x T) = types T
chooses types h = false

-- the first place in a tree that stands at a place where the variable is defined otherwise
unfoldable pub first_other_site : (types : ℕ → Bool) → (x place : ℕ) → Tree → Option ℕ
first_other_site types x p Empty = None
first_other_site types x p (Node h a b) =
    if made_by h a (Variable x) && not (chooses types h) then Some p
    else first_of (first_other_site types x (first_place p h) a) (first_other_site types x (second_place p h a) b)
