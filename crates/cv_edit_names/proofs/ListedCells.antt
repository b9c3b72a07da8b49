-- Cells in lists, and their names.
use Rattle.std.proofs.Common.{◌≡◌, ℕ, Bool, true, false, ◌||◌, List, [], ◌∷◌, ◌++◌, map, Option, Some, None, refl, sym, ap, ap₂, ◌∙◌}
use Rattle.std.specs.Prelude.{if◌then◌else◌, is_some, option_map}
use Rattle.std.proofs.lemmas.Bool.{both_ways}
use Rattle.cv_pool.specs.KindTree.{KindTree}
use Rattle.cv_pool.specs.declared.node.NodeId.{NodeId}
use Rattle.cv_syntax_trees.specs.Tree.{Tree, Empty, same_tree}
use Rattle.cv_syntax_trees.proofs.Equality.{same_tree_exact}
use Rattle.cv_scope_rules.proofs.Trees.{same_tree_law}
use Rattle.cv_syntax.specs.PoolTrees.{tree_at}
use Rattle.cv_edit_names.specs.declared.around.Looked.{Looked}
use Rattle.cv_edit_names.specs.Cells.{cells_in, first_unnamed, name_of}
use Rattle.cv_edit_names.specs.Kept.{cells_looked_for, looked_in}
use Rattle.cv_edit_names.specs.Sizes.{cells_named, first_other, is_among}

pub same_turned : (s t : Tree) → same_tree s t ≡ same_tree t s
same_turned s t = go (same_tree s t) refl (same_tree t s) refl where
  go : (v : Bool) → same_tree s t ≡ v → (w : Bool) → same_tree t s ≡ w → same_tree s t ≡ same_tree t s
  go true e true f = e ∙ sym f
  go false e false f = e ∙ sym f
  go true e false f = absurd (both_ways _ f (same_tree_law t s (sym (same_tree_exact s t e))))
  go false e true f = absurd (both_ways _ e (same_tree_law s t (sym (same_tree_exact t s f))))

some_by : (v : Bool) (y : ℕ) (o : Option ℕ) (b : Bool) → is_some o ≡ b → is_some (if v then Some y else o) ≡ (v || b)
some_by true y o b e = refl
some_by false y o b e = e

pub some_name : (named : List (Tree × ℕ)) (c : Tree) → is_some (name_of named c) ≡ is_among (cells_named named) c
some_name [] c = refl
some_name (d ∷ ds) c = some_by (same_tree d.0 c) d.1 (name_of ds c) (is_among (cells_named ds) c) (some_name ds c)

pub first_named : (named : List (Tree × ℕ)) (cs : List Tree) → first_unnamed named cs ≡ first_other (cells_named named) cs
first_named named [] = refl
first_named named (c ∷ cs) = ap₂ (λ (v : Bool) (o : Option Tree). if v then o else Some c) (some_name named c) (first_named named cs)

behind_by : (v : Bool) (y : ℕ) (o p q : Option ℕ) → (o ≡ None → p ≡ q) → (if v then Some y else o) ≡ None → (if v then Some y else p) ≡ q
behind_by true y o p q f e = absurd (cc)
behind_by false y o p q f e = f e

pub name_behind : (named more : List (Tree × ℕ)) (t : Tree) → name_of named t ≡ None → name_of (named ++ more) t ≡ name_of more t
name_behind [] more t e = refl
name_behind (d ∷ ds) more t e = behind_by (same_tree d.0 t) d.1 (name_of ds t) (name_of (ds ++ more) t) (name_of more t) (name_behind ds more t) e

before_by : (v : Bool) (y z : ℕ) (o p : Option ℕ) → (o ≡ Some z → p ≡ Some z) → (if v then Some y else o) ≡ Some z → (if v then Some y else p) ≡ Some z
before_by true y z o p f e = e
before_by false y z o p f e = f e

pub name_before : (named more : List (Tree × ℕ)) (t : Tree) (y : ℕ) → name_of named t ≡ Some y → name_of (named ++ more) t ≡ Some y
name_before [] more t y e = absurd (cc)
name_before (d ∷ ds) more t y e = before_by (same_tree d.0 t) d.1 y (name_of ds t) (name_of (ds ++ more) t) (name_before ds more t y) e

pub found_nothing : (x : ℕ) (named : List (Tree × ℕ)) (t : Tree) → t ≡ Empty → first_unnamed named (cells_in x t) ≡ None
found_nothing x named t e = ap (λ u. first_unnamed named (cells_in x u)) e

looked_cells : (trees : List KindTree) (ls : List Looked) → cells_named (looked_in trees ls) ≡ cells_looked_for trees ls
looked_cells trees [] = refl
looked_cells trees (l ∷ ls) = ap (λ ts. tree_at trees l.cell ∷ ts) (looked_cells trees ls)

-- what the code finds
pub other_found : (trees : List KindTree) (ls : List Looked) (cs : List Tree) (r o : Option (Option NodeId)) → option_map (tree_at trees) r ≡ first_unnamed (looked_in trees ls) cs → r ≡ o → first_other (cells_looked_for trees ls) cs ≡ option_map (tree_at trees) o
other_found trees ls cs r o e f = sym (ap (λ q. option_map (tree_at trees) q) (sym f) ∙ (e ∙ (first_named (looked_in trees ls) cs ∙ ap (λ ts. first_other ts cs) (looked_cells trees ls))))
