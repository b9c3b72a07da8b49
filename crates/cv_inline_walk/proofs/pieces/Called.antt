-- Calls, argument by argument.
use Rattle.std.proofs.Common.{◌≡◌, ℕ, ◌≤◌, List, [], ◌∷◌, ◌++◌, length, None, Some, ap, ◌∙◌, arith}
use Rattle.cv_pool.specs.KindTree.{KindTree}
use Rattle.cv_pool.specs.Nodes.{ChildBelow}
use Rattle.cv_syntax_trees.specs.declared.head.Head.TheVariants as head
use Rattle.cv_syntax.specs.Postorder.{joined}
use Rattle.cv_syntax_trees.specs.Tree.{Tree, Empty, Node, first, second, size}
use Rattle.cv_syntax.specs.PoolTrees.{tree_at}
use Rattle.cv_meaning.specs.Correspondences.{typed_names}
use Rattle.cv_meaning.specs.contexts.Inlined.{Drawn, Own, Scope, inlined_body, inlined_call}
use Rattle.cv_inline.specs.declared.terms.caller.Caller.{Caller}
use Rattle.cv_inline.specs.declared.terms.calling.Calling.{Calling}
use Rattle.cv_inline.specs.terms.Callers.{caller_in}
use Rattle.cv_inline_sites.specs.listing.Callings.{callers_in}
use Rattle.cv_inline_sites.specs.Calls.{argument_in, first_argument}
use Rattle.cv_inline_sites.specs.declared.calls.Argument as code
use Rattle.cv_inline_sites.specs.declared.listing.subtree.Subtree.{Subtree}
use Rattle.cv_inline_walk.specs.declared.pieces.piece.Piece.{Piece}
use Rattle.cv_inline_walk.specs.declared.pieces.piece.Piece.TheVariants as pieces
use Rattle.cv_inline_walk.specs.pieces.Calls.{body_in}
use Rattle.cv_inline_walk.specs.pieces.Pieces.{Adds, AddsNodes, pieced}
use Rattle.cv_inline_walk.proofs.pieces.Adding.{both, pushed}
use Rattle.cv_inline_walk.proofs.pieces.Arguments.{with_argument, without_arguments}
use Rattle.cv_inline_walk.proofs.pieces.Whole.{same_tree}

pub second_small : (t : Tree) → size (second t) ≤ size t
unfolding size
second_small Empty = omega arith
second_small (Node h a b) = omega arith

module _ (trees : List KindTree) (d : Drawn) (callings : List Calling) (c : Caller) where
  abbrev call_in : Scope → Tree → Tree → Tree → (Tree → Tree) → Tree
  call_in Σ bs ms body k = inlined_call d (callers_in trees callings) (caller_in trees c) Σ (typed_names bs) ms body k

  pub call_body : (Σ : Scope) (bs ms : Tree) (root : Subtree) (old new : List Piece) → None ≡ first_argument bs ms → root.place ≡ 0 → Adds trees d callings c old new (λ k ts. body_in trees d callings c Σ root k ∷ ts) → Adds trees d callings c old new (λ k ts. call_in Σ bs ms (tree_at trees root.root) k ∷ ts)
  call_body Σ bs ms root old new e z a =
      same_tree trees d callings c old new (body_in trees d callings c Σ root) (call_in Σ bs ms (tree_at trees root.root))
      (λ k. ap (λ p. inlined_body d (callers_in trees callings) (caller_in trees c) Σ p (tree_at trees root.root) k) z ∙ without_arguments d (callers_in trees callings) (caller_in trees c) Σ (tree_at trees root.root) k bs ms e) a

  pub call_argument : (Σ Τ : Scope) (bs ms body : Tree) (f : code.Argument) (v : ℕ) (old one two new : List Piece) → Some (argument_in trees f) ≡ first_argument bs ms → Τ ≡ (f.name, Own) ∷ Σ → v ≡ d.variable c.number f.name → ChildBelow (length trees) f.term →
      one ≡ old ++ pieces.Copy f.term ∷ [] → Adds trees d callings c one two (λ k ts. call_in Τ (tree_at trees f.binders) (tree_at trees f.terms) body k ∷ ts) → AddsNodes two new (joined (head.Let v f.of)) → Adds trees d callings c old new (λ k ts. call_in Σ bs ms body k ∷ ts)
  call_argument Σ Τ bs ms body f v old one two new e τ w l o a b =
      let m : Tree = tree_at trees f.term in
      let rest : Scope → (Tree → Tree) → Tree = λ Υ k. call_in Υ (tree_at trees f.binders) (tree_at trees f.terms) body k in
      same_tree trees d callings c old new (λ k. Node (head.Let v f.of) m (rest Τ k)) (call_in Σ bs ms body)
      (λ k. (λ i. Node (head.Let (w i) f.of) m (rest (τ i) k)) ∙ with_argument d (callers_in trees callings) (caller_in trees c) Σ body k bs ms (argument_in trees f) e)
      (both trees d callings c old two new (λ k ts. rest Τ k ∷ (m ∷ ts)) (λ k ts. joined (head.Let v f.of) ts)
      (both trees d callings c old one two (λ k ts. m ∷ ts) (λ k ts. rest Τ k ∷ ts) (pushed trees d callings c old one (pieces.Copy f.term) o l) a) (b trees d callings c))

  pub from_nothing : (t : (Tree → Tree) → Tree) (old new : List Piece) → old ≡ [] → Adds trees d callings c old new (λ k ts. t k ∷ ts) → (k : Tree → Tree) (ts : List Tree) → pieced trees d callings c k ts new ≡ t k ∷ ts
  unfolding pieced
  from_nothing t old new e a k ts = a.by k ts ∙ ap (λ l. t k ∷ pieced trees d callings c k ts l) e

  -- the function of a site, by its node
  pub whole_call : (Σ Τ : Scope) (f g bs body ms : Tree) (k : Tree → Tree) → Τ ≡ Σ → g ≡ first f → bs ≡ second g → body ≡ second f → call_in Τ bs ms body k ≡ inlined_call d (callers_in trees callings) (caller_in trees c) Σ (typed_names (second (first f))) ms (second f) k
  whole_call Σ Τ f g bs body ms k e a b o = λ i. call_in (e i) ((b ∙ ap second a) i) ms (o i) k
