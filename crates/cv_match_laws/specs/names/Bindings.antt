-- Where the key and coins are bound by `new` alone, and answers nowhere. This profile's own.
use Rattle.std.specs.Prelude.{◌≡◌, ℕ, ◌<◌, Bool, true, false, not, ◌&&◌, ◌||◌, length}
use Rattle.cv_syntax_trees.specs.declared.head.Head.{Head}
use Rattle.cv_syntax_trees.specs.declared.head.Head.TheVariants.{New}
use Rattle.cv_syntax_trees.specs.Tree.{Tree, Empty, Node}
use Rattle.cv_scope_rules.specs.Made.{made_by}
use Rattle.cv_scope_rules.specs.Sites.{Variable}
use Rattle.cv_scene.specs.Scenes.{names}
use Rattle.cv_scene.specs.Reductions.{Reduction, is_coin, sites}

abbrev pub is_new : Head → Bool
is_new (New x T) = true
is_new h = false

-- each node of the tree that defines the variable is a `new`
unfoldable pub has_news_alone : ℕ → Tree → Bool
has_news_alone x Empty = true
has_news_alone x (Node h a b) = (not (made_by h a (Variable x)) || is_new h) && (has_news_alone x a && has_news_alone x b)

-- the key and coins have no other definitions in the tree, and answers don't occur there
pub record HasOwnNames (r : Reduction) (t : Tree) : Type 0 where
  pub key : has_news_alone r.key t ≡ true
  pub coins : (y : ℕ) → is_coin r y ≡ true → has_news_alone y t ≡ true
  pub answers : (k : ℕ) → k < length (sites r) → names (r.answer k) t ≡ false
