-- What is cited is found at a line that is kept, or behind it.
use Rattle.std.proofs.Common.{◌≡◌, ℕ, ◌+◌, ◌≤◌, List, Some, Option, sym, ap, ◌∙◌, eq-eqb, ne_eqb}
use Rattle.std.specs.Prelude.{if◌then◌else◌}
use Rattle.cv_pool.specs.declared.node.NodeId.{NodeId}
use Rattle.cv_pool.specs.KindTree.{KindTree}
use Rattle.cv_syntax.specs.PoolTrees.{tree_at}
use Rattle.cv_scene.specs.lines.Lines.{Lines, lines_of}
use Rattle.cv_derive_lines.specs.declared.lines.Claim.{Claim}
use Rattle.cv_derive_lines.specs.Views.{statement_of}
use Rattle.cv_derive_lines.specs.citing.Bookmarks.{IsLine}
use Rattle.cv_derive_lines.specs.citing.Citing.{cited_from}

module _ (trees : List KindTree) (all : Lines) (n number : ℕ) (claim : Claim) (behind : Option NodeId) (k : IsLine trees all n number claim behind) (l : ℕ) (le : number ≤ l) where
  pub found_at : number ≡ l → Some (statement_of trees claim) ≡ cited_from all 1 n l
  found_at e = sym (ap (λ b. if b then Some (statement_of trees claim) else cited_from (lines_of (tree_at trees behind)) (number + 1) n l) (eq-eqb number l e)) ∙ k.cited l le

  pub found_behind : (number ≡ l → ⊥) → cited_from (lines_of (tree_at trees behind)) (number + 1) n l ≡ cited_from all 1 n l
  found_behind e = sym (ap (λ b. if b then Some (statement_of trees claim) else cited_from (lines_of (tree_at trees behind)) (number + 1) n l) (ne_eqb number l e)) ∙ k.cited l le
