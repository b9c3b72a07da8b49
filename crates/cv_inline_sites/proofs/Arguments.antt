-- A call that has an argument without a term.
use Rattle.std.proofs.Common.{◌≡◌, ℕ, None, ap, sym, ◌∙◌}
use Rattle.cv_syntax_trees.specs.declared.head.Head.{Head}
use Rattle.cv_syntax_trees.specs.declared.head.Head.TheVariants.{Binder}
use Rattle.cv_syntax_trees.specs.Tree.{Tree, Empty, Node}
use Rattle.cv_inline_sites.specs.Calls.{first_argument}

pub no_terms : (t u a b : Tree) (h : Head) (x T : ℕ) → t ≡ Node h a b → h ≡ Binder x T → u ≡ Empty → None ≡ first_argument t u
no_terms t u a b h x T e f g = sym (λ i. first_argument ((e ∙ ap (λ k. Node k a b) f) i) (g i))
