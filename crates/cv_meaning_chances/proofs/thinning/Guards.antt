-- Branches with the same lists and conditions offer the same candidates, whatever their bodies are.
use Rattle.std.proofs.Common.{◌≡◌, ℕ, Bool, not, refl}
use Rattle.cv_syntax_trees.specs.declared.head.Head.TheVariants.{Branch, Cons}
use Rattle.cv_syntax_trees.specs.Tree.{Tree, Node}
use Rattle.cv_meaning.specs.Interpretation.{Setting}
use Rattle.cv_meaning.specs.Memory.{Indices, Store}
use Rattle.cv_meaning.specs.Candidates.{candidates}
use Rattle.cv_meaning_laws.specs.Agreement.{AgreeOn}
use Rattle.cv_meaning_runs.specs.Replacement.{Branches}
use Rattle.cv_meaning_chances.proofs.unread.Unread.{SameBranches, candidate_same, more_branches, one_branch, same_branches, same_candidates}
use Rattle.cv_meaning_chances.specs.thinning.Thinning.{IsThinned, same, in_branch, in_later_branch}

module _ (g : Setting) (at : Indices) (xs : ℕ → Bool) (m o : Store) (r : AgreeOn (λ x. not (xs x)) m o) where
  branches_same : (a c : Tree) → IsThinned xs Branches a c → SameBranches g at xs m o a c
  branches_same a c (same e) = same_branches g at xs m o r a e
  branches_same a c (in_branch {binders = bs} {defined = d} {condition = n} {b = b} {c = x} {more = more} {rest = rest} e f h y z) =
      let left : Tree = Node Branch bs (Node Cons d (Node Cons n b)) in
      let right : Tree = Node Branch bs (Node Cons d (Node Cons n x)) in
      more_branches g at xs m o Cons left right more rest refl (λ u k. candidate_same g at xs m o r u k left right refl refl refl f h) (branches_same more rest z)
  branches_same a c (in_later_branch {a = b} {b = x} {c = y} e z) = more_branches g at xs m o Cons b b x y refl (one_branch g at xs m o r b e) (branches_same x y z)

  pub candidates_thinned : (a c : Tree) → IsThinned xs Branches a c → candidates g at m a ≡ candidates g at o c
  candidates_thinned a c x = same_candidates g at xs m o a c (branches_same a c x)
