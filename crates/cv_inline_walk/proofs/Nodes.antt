-- The next game of a node, by its head.
use Rattle.std.proofs.Common.{◌≡◌, List, ◌∷◌, ◌∙◌, ap, refl, sym}
use Rattle.cv_syntax_trees.specs.declared.head.Head.{Head}
use Rattle.cv_syntax_trees.specs.declared.head.Head.TheVariants as head
use Rattle.cv_syntax.specs.Postorder.{joined}
use Rattle.cv_syntax_trees.specs.Tree.{Tree, Empty, Node}
use Rattle.cv_inline.specs.NextGame.{InlinedCalls, Results, next_in}
use Rattle.cv_inline.proofs.terms.Pushes.{over_two}
use Rattle.cv_inline_walk.specs.declared.forms.Form.{Form}
use Rattle.cv_inline_walk.specs.Forms.{form_of, head_in, node_in}

pub next_Empty : (i : InlinedCalls) (rs : Results) (t : Tree) → t ≡ Empty → next_in i rs t ≡ Empty
unfolding next_in
next_Empty i rs t e = ap (next_in i rs) e

by_head : (i : InlinedCalls) (rs : Results) (h : Head) (a b : Tree) → next_in i rs (Node h a b) ≡ node_in i rs (form_of h) h a b
unfolding next_in
by_head i rs (head.Call x l) a b = refl
by_head i rs (head.Leaf x) a b = refl
by_head i rs (head.Read x) a b = refl
by_head i rs (head.Key x) a b = refl
by_head i rs (head.Let x T) a b = refl
by_head i rs head.If a b = refl
by_head i rs (head.Event e) a b = refl
by_head i rs (head.Out c) a b = refl
by_head i rs (head.In c) a b = refl
by_head i rs head.Branch a b = refl
by_head i rs h a b = refl

pub next_by : (i : InlinedCalls) (rs : Results) (t : Tree) (h : Head) (a b : Tree) (f : Form) → t ≡ Node h a b → f ≡ form_of h → next_in i rs t ≡ node_in i rs f h a b
next_by i rs t h a b f e g = ap (next_in i rs) e ∙ (by_head i rs h a b ∙ ap (λ k. node_in i rs k h a b) (sym g))

-- a node over two trees
pub over_node : (i : InlinedCalls) (rs : Results) (t : Tree) (h k : Head) (a b x y : Tree) (f : Form) (S ts us : List Tree) → t ≡ Node h a b → f ≡ form_of h → k ≡ head_in i h → node_in i rs f h a b ≡ Node (head_in i h) x y → ts ≡ x ∷ S → us ≡ y ∷ ts →
    joined k us ≡ next_in i rs t ∷ S
over_node i rs t h k a b x y f S ts us e g m n p q = over_two k S ts us x y (next_in i rs t) p q (next_by i rs t h a b f e g ∙ (n ∙ ap (λ l. Node l x y) (sym m)))
