-- Counting along lists.
use Rattle.std.proofs.Common.{◌≡◌, ℕ, [], ◌∷◌, refl, ap, ◌∙◌}
use Rattle.cv_syntax_trees.specs.declared.head.Head.{Head}
use Rattle.cv_syntax_trees.specs.declared.head.Head.TheVariants.{Name}
use Rattle.cv_syntax_trees.specs.Tree.{Tree, Empty, Node}
use Rattle.cv_scope_rules.specs.typing.Signature.{names_in}

pub names_step : (t : Tree) (h : Head) (a b : Tree) (x : ℕ) → t ≡ Node h a b → h ≡ Name x → names_in t ≡ x ∷ names_in b
unfolding names_in
names_step t h a b x e f = ap names_in e ∙ ap (λ k. names_in (Node k a b)) f

pub names_other : (t : Tree) (h : Head) (a b : Tree) → t ≡ Node h a b → ((x : ℕ) → h ≡ Name x → ⊥) → names_in t ≡ []
unfolding names_in
names_other t h a b e n = ap names_in e ∙ step h n
  where
    step : (h : Head) → ((x : ℕ) → h ≡ Name x → ⊥) → names_in (Node h a b) ≡ []
    step (Name x) n = absurd (n x refl)
    step h n = refl

pub names_end : (t : Tree) → t ≡ Empty → names_in t ≡ []
unfolding names_in
names_end t e = ap names_in e
