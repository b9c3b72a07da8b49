-- A part more, and what is made then.
use Rattle.std.proofs.Common.{◌≡◌, List, [], ◌∷◌, ◌++◌, refl, ap, sym, ◌∙◌}
use Rattle.cv_syntax_trees.specs.declared.head.Head.{Head}
use Rattle.cv_syntax.specs.declared.make.Make.{Make}
use Rattle.cv_syntax.specs.declared.make.Make.TheVariants as make
use Rattle.cv_syntax.specs.Postorder.{joined, made}
use Rattle.cv_syntax_trees.specs.Tree.{Tree, Empty, Node}

abbrev pub step : Make → List Tree → List Tree
step make.Nothing ts = Empty ∷ ts
step (make.Over h) ts = joined h ts

made_more : (m : Make) (ts : List Tree) (ms : List Make) → made ts (ms ++ m ∷ []) ≡ step m (made ts ms)
unfolding made
made_more make.Nothing ts [] = refl
made_more (make.Over h) ts [] = refl
made_more m ts (make.Nothing ∷ ms) = made_more m (Empty ∷ ts) ms
made_more m ts (make.Over k ∷ ms) = made_more m (joined k ts) ms

pub made_push : (m : Make) (ms : List Make) → made [] (ms ++ m ∷ []) ≡ step m (made [] ms)
made_push m ms = made_more m [] ms

-- a node over two trees
pub over_two : (h : Head) (S ts us : List Tree) (a b t : Tree) → ts ≡ a ∷ S → us ≡ b ∷ ts → t ≡ Node h a b → joined h us ≡ t ∷ S
over_two h S ts us a b t e f g = ap (joined h) (f ∙ ap (λ l. b ∷ l) e) ∙ ap (λ u. u ∷ S) (sym g)
