-- The calls of a context as those of the sites of its game. This profile's own.
use Rattle.std.specs.Prelude.{◌≡◌, ℕ, List, [], ◌∷◌, ◌++◌, slice_get, Some}
use Rattle.cv_syntax_trees.specs.declared.head.Head.TheVariants.{Call, Repl}
use Rattle.cv_syntax_trees.specs.Tree.{Tree, Empty, Node}
use Rattle.cv_scene.specs.Contexts.{call_terms}
use Rattle.cv_scene.specs.Reductions.{Reduction, sites}
use Rattle.cv_scene.specs.Sites.{Site}

-- the call of a number below these replications is that of the site with this number
pub record IsCallOf (r : Reduction) (rs : List (ℕ × ℕ)) (x l : ℕ) (terms : Tree) : Type 0 where
  pub site : Site
  pub listed : slice_get (sites r) l ≡ Some site
  pub replications : site.replications ≡ rs
  pub answer : x ≡ r.answer l
  pub instance : terms ≡ call_terms site.call.instance

-- so is each call in a tree below replications; beside the index of a replication nothing stands
unfoldable pub AreCallsOf : Reduction → List (ℕ × ℕ) → Tree → Type 0
AreCallsOf r rs Empty = Unit {0}
AreCallsOf r rs (Node (Call x l) a b) = IsCallOf r rs x l a × AreCallsOf r rs b
AreCallsOf r rs (Node (Repl i n) a b) = (a ≡ Empty) × AreCallsOf r (rs ++ (i, n) ∷ []) b
AreCallsOf r rs (Node h a b) = AreCallsOf r rs a × AreCallsOf r rs b
