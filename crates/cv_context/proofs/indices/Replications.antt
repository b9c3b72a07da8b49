-- In array scope each replication binds a new index.
use Rattle.std.proofs.Common.{◌≡◌, ℕ, Bool, true, ◌&&◌, not, List, refl, ap₂, subst}
use Rattle.std.proofs.lemmas.Bool.{and_from}
use Rattle.cv_syntax_trees.specs.declared.head.Head.{Head}
use Rattle.cv_syntax_trees.specs.declared.head.Head.TheVariants.{Repl}
use Rattle.cv_syntax_trees.specs.Tree.{Tree, Empty, Node}
use Rattle.cv_syntax.specs.faults.Walk.{IsObeyed}
use Rattle.cv_scope_rules.specs.declared.fault.Fault.TheVariants.{Replications}
use Rattle.cv_scope_rules.specs.Context.{replications_below}
use Rattle.cv_scope_rules.specs.Rules.{BindsNewIndex, Names}
use Rattle.cv_scope_rules.specs.Scope.{IsScopedAt}
use Rattle.cv_scope_rules.specs.Standing.{Standing, first_standing, second_standing}
use Rattle.cv_scope_rules.proofs.Apart.{first_replications, second_replications}
use Rattle.cv_context.specs.indices.Indices.{binds_new_index, indices_are_new}

module _ (names : Names) where
  new_index : (rs : List (ℕ × ℕ)) (h : Head) → BindsNewIndex names rs h → binds_new_index names.variable rs h ≡ true
  new_index rs (Repl i n) e = ap₂ (λ a b. not a && not b) e.0 e.1
  new_index rs h e = refl

  pub all_new : (s : Standing) (t : Tree) → IsScopedAt names s t → indices_are_new names.variable s.known.replications t ≡ true
  unfolding IsObeyed indices_are_new
  all_new s Empty o = refl
  all_new s (Node h a b) o =
      let A : Bool = indices_are_new names.variable s.known.replications a in
      let B : Bool = indices_are_new names.variable (replications_below h s.known.replications) b in
      and_from (binds_new_index names.variable s.known.replications h) (A && B) (new_index s.known.replications h (o.0 Replications).2)
      (and_from A B
      (subst (λ rs. indices_are_new names.variable rs a ≡ true) (first_replications s.position h s.known) (all_new (first_standing s h a) a o.1))
      (subst (λ rs. indices_are_new names.variable rs b ≡ true) (second_replications s.position h a s.known) (all_new (second_standing s h a) b o.2)))
