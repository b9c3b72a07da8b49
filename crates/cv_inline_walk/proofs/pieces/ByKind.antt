-- What one piece more does, by its kind.
use Rattle.std.proofs.Common.{◌≡◌, ℕ, suc, ◌<◌, List, [], ◌∷◌, ◌++◌, length, slice_get, Option, Some, ap, subst, sym, ◌∙◌}
use Rattle.cv_pool.specs.KindTree.{KindTree}
use Rattle.cv_pool.specs.Nodes.{ChildBelow}
use Rattle.cv_pool.specs.declared.node.NodeId.{NodeId}
use Rattle.cv_syntax_trees.specs.declared.head.Head.{Head}
use Rattle.cv_syntax_trees.specs.declared.head.Head.TheVariants as head
use Rattle.cv_syntax.specs.Postorder.{joined}
use Rattle.cv_syntax_trees.specs.Tree.{Tree, Empty}
use Rattle.cv_syntax.specs.PoolTrees.{tree_at}
use Rattle.cv_meaning.specs.contexts.Inlined.{Drawn, in_game}
use Rattle.cv_inline.specs.declared.terms.caller.Caller.{Caller}
use Rattle.cv_inline.specs.declared.terms.calling.Calling.{Calling}
use Rattle.cv_inline.specs.declared.terms.scope.Entry.{Entry}
use Rattle.cv_inline.specs.terms.Callers.{caller_in}
use Rattle.cv_inline_sites.specs.branches.Moves.{closed_branch, front}
use Rattle.cv_inline_walk.specs.declared.pieces.piece.Front.{Front}
use Rattle.cv_inline_walk.specs.declared.pieces.piece.Phrase.{Phrase}
use Rattle.cv_inline_walk.specs.declared.pieces.piece.Piece.{Piece}
use Rattle.cv_inline_walk.specs.declared.pieces.piece.Piece.TheVariants as pieces
use Rattle.cv_inline_sites.specs.pairs.Scopes.{scope_at}
use Rattle.cv_inline_walk.specs.pieces.Pieces.{Adds, AddsNodes, closed_if, front_over, listed}
use Rattle.cv_inline_walk.proofs.pieces.Adding.{both, pushed, same}

pub nothing_added : (old new : List Piece) → new ≡ old ++ pieces.Nothing ∷ [] → AddsNodes old new (λ ts. Empty ∷ ts)
nothing_added old new e = λ trees d cs c. pushed trees d cs c old new pieces.Nothing e tt

pub node_put : (old new : List Piece) (h : Head) → new ≡ old ++ pieces.Put h ∷ [] → AddsNodes old new (joined h)
node_put old new h e = λ trees d cs c. pushed trees d cs c old new (pieces.Put h) e tt

pub two_parts : (old mid new : List Piece) (f g : List Tree → List Tree) → AddsNodes old mid f → AddsNodes mid new g → AddsNodes old new (λ ts. g (f ts))
two_parts old mid new f g a b = λ trees d cs c. both trees d cs c old mid new (λ k ts. f ts) (λ k ts. g ts) (a trees d cs c) (b trees d cs c)

pub branch_ended : (old one two new : List Piece) → AddsNodes old one (joined head.Cons) → AddsNodes one two (joined head.Cons) → AddsNodes two new (joined head.Branch) → AddsNodes old new closed_branch
branch_ended old one two new a b e = two_parts old two new (λ ts. joined head.Cons (joined head.Cons ts)) (joined head.Branch) (two_parts old one two (joined head.Cons) (joined head.Cons) a b) e

pub if_ended : (old one two three new : List Piece) → AddsNodes old one (λ ts. Empty ∷ ts) → AddsNodes one two (joined head.Cons) → AddsNodes two three (joined head.Cons) → AddsNodes three new (joined head.If) → AddsNodes old new closed_if
if_ended old one two three new a b e f =
    two_parts old three new (λ ts. joined head.Cons (joined head.Cons (Empty ∷ ts))) (joined head.If) (two_parts old two three (λ ts. joined head.Cons (Empty ∷ ts)) (joined head.Cons) (two_parts old one two (λ ts. Empty ∷ ts) (joined head.Cons) a b) e) f

pub item_more : (old mid new : List Piece) (n m : ℕ) → m ≡ suc n → AddsNodes old mid (λ ts. listed n (Empty ∷ ts)) → AddsNodes mid new (joined head.Cons) → AddsNodes old new (λ ts. listed m (Empty ∷ ts))
item_more old mid new n m e a b = subst (λ l. AddsNodes old new (λ ts. listed l (Empty ∷ ts))) (sym e) (two_parts old mid new (λ ts. listed n (Empty ∷ ts)) (joined head.Cons) a b)

pub items_all : (old new : List Piece) (n m : ℕ) → n ≡ m → AddsNodes old new (λ ts. listed n (Empty ∷ ts)) → AddsNodes old new (λ ts. listed m (Empty ∷ ts))
items_all old new n m e a = subst (λ l. AddsNodes old new (λ ts. listed l (Empty ∷ ts))) e a

module _ (trees : List KindTree) (d : Drawn) (callings : List Calling) (c : Caller) (old new : List Piece) where
  pub term_added : (e : Phrase) (scope : List Entry) (term : Option NodeId) → new ≡ old ++ pieces.Term e ∷ [] → e.term ≡ term → scope_at c e.scope.items ≡ scope_at c scope → ChildBelow (length trees) term →
      Adds trees d callings c old new (λ k ts. in_game d (caller_in trees c) (scope_at c scope) (tree_at trees term) ∷ ts)
  term_added e scope term n t s l =
      same trees d callings c old new (λ k ts. in_game d (caller_in trees c) (scope_at c e.scope.items) (tree_at trees e.term) ∷ ts) (λ k ts. in_game d (caller_in trees c) (scope_at c scope) (tree_at trees term) ∷ ts)
      (λ k ts. λ i. in_game d (caller_in trees c) (s i) (tree_at trees (t i)) ∷ ts) (pushed trees d callings c old new (pieces.Term e) n (subst (ChildBelow (length trees)) (sym t) l))

  pub result_added : (e : Phrase) (scope : List Entry) (term : Option NodeId) → new ≡ old ++ pieces.Result e ∷ [] → e.term ≡ term → scope_at c e.scope.items ≡ scope_at c scope → ChildBelow (length trees) term →
      Adds trees d callings c old new (λ k ts. k (in_game d (caller_in trees c) (scope_at c scope) (tree_at trees term)) ∷ ts)
  result_added e scope term n t s l =
      same trees d callings c old new (λ k ts. k (in_game d (caller_in trees c) (scope_at c e.scope.items) (tree_at trees e.term)) ∷ ts) (λ k ts. k (in_game d (caller_in trees c) (scope_at c scope) (tree_at trees term)) ∷ ts)
      (λ k ts. λ i. k (in_game d (caller_in trees c) (s i) (tree_at trees (t i))) ∷ ts) (pushed trees d callings c old new (pieces.Result e) n (subst (ChildBelow (length trees)) (sym t) l))

  pub front_added : (f : Front) (scope : List Entry) (s : Calling) → new ≡ old ++ pieces.Front f ∷ [] → scope_at c f.scope.items ≡ scope_at c scope → f.other < length callings → slice_get callings f.other ≡ Some s → ChildBelow (length trees) f.cells → ChildBelow (length trees) f.condition →
      Adds trees d callings c old new (λ k ts. front d (caller_in trees c) (scope_at c scope) (d.index c.number f.place s.caller.number f.branch) (caller_in trees s.caller) (tree_at trees f.cells) (tree_at trees f.condition) ts)
  front_added f scope s n e l g cells condition =
      same trees d callings c old new (λ k ts. front_over trees d c f (slice_get callings f.other) ts) (λ k ts. front d (caller_in trees c) (scope_at c scope) (d.index c.number f.place s.caller.number f.branch) (caller_in trees s.caller) (tree_at trees f.cells) (tree_at trees f.condition) ts)
      (λ k ts. ap (λ o. front_over trees d c f o ts) g ∙ ap (λ Σ. front d (caller_in trees c) Σ (d.index c.number f.place s.caller.number f.branch) (caller_in trees s.caller) (tree_at trees f.cells) (tree_at trees f.condition) ts) e)
      (pushed trees d callings c old new (pieces.Front f) n (record { site = l; cells = cells; condition = condition }))
