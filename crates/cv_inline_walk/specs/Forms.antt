-- What the next game has for a node, by the node's head. This profile's own.
use Rattle.std.specs.Prelude.{ℕ, [], ◌∷◌}
use Rattle.cv_syntax_trees.specs.declared.head.Head.{Head}
use Rattle.cv_syntax_trees.specs.declared.head.Head.TheVariants as head
use Rattle.cv_syntax_trees.specs.Tree.{Tree, Empty, Node, second}
use Rattle.cv_inline.specs.NextGame.{InlinedCalls, Results, call_in_game, game_name, next_in, numbered, with_results}
use Rattle.cv_inline_walk.specs.declared.forms.First.{First}
use Rattle.cv_inline_walk.specs.declared.forms.First.TheVariants as of_first
use Rattle.cv_inline_walk.specs.declared.forms.Form.{Form}
use Rattle.cv_inline_walk.specs.declared.forms.Form.TheVariants as form

abbrev pub form_of : Head → Form
form_of (head.Call x l) = form.Call x l
form_of (head.Leaf x) = form.Name
form_of (head.Read x) = form.Name
form_of (head.Key x) = form.Over of_first.Nothing
form_of (head.Let x T) = form.Over of_first.Results
form_of head.If = form.Over of_first.Results
form_of (head.Event e) = form.Over of_first.Results
form_of (head.Out c) = form.Over of_first.Results
form_of (head.In c) = form.Over of_first.Same
form_of head.Branch = form.Over of_first.Same
form_of h = form.Over of_first.Game

abbrev pub head_in : InlinedCalls → Head → Head
head_in i (head.Key x) = head.New i.drawn.key i.group.key.1
head_in i (head.Leaf x) = head.Leaf (game_name i x)
head_in i (head.Read x) = head.Read (game_name i x)
head_in i h = h

abbrev pub first_in : InlinedCalls → Results → First → Tree → Tree
first_in i rs of_first.Nothing a = Empty
first_in i rs of_first.Results a = with_results rs a
first_in i rs of_first.Same a = a
first_in i rs of_first.Game a = next_in i [] a

-- the statement behind a call, for its result
abbrev pub behind_call : InlinedCalls → Results → (answer : ℕ) → Tree → Tree → Tree
behind_call i rs x b m = next_in i ((x, m) ∷ rs) b

abbrev pub node_in : InlinedCalls → Results → Form → Head → Tree → Tree → Tree
node_in i rs (form.Call x l) h a b = call_in_game i (numbered l i.callings) (second a) (behind_call i rs x b)
node_in i rs form.Name h a b = Node (head_in i h) a b
node_in i rs (form.Over f) h a b = Node (head_in i h) (first_in i rs f a) (next_in i [] b)
