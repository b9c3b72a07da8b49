use Rattle.std.proofs.Common.{◌≡◌, ℕ, Bool, ◌||◌, ap, ◌∙◌}
use Rattle.cv_syntax.specs.PoolTrees.{tree_at}
use Rattle.cv_syntax_trees.specs.Tree.{bound_names, first}
use Rattle.cv_syntax.specs.NameSets.{is_in, is_one_of}
use Rattle.std.proofs.Math.Path.{fun_ext}
use Rattle.cv_meaning.specs.contexts.Groups.{bound_of}
use Rattle.cv_group.specs.bodies.Levels.{is_paired}
use Rattle.cv_group_rules.specs.Rules as rule
use Rattle.cv_group.proofs.sides.enter_function.Goals as goal

pub returns-clause-around : goal.returns-clause-around
returns-clause-around c =
    let trees = c.args.pool.now.trees in
    let key = tree_at trees c.args.key in
    let f = tree_at trees c.args.function in
    let constants = is_in c.args.around.now.symbols.constants in
    let names = is_paired c.args.around.now.names in
    let outside : (x : ℕ) → (constants x || is_in c.in_ok-around.field-0 x) ≡ (constants x || (is_one_of (bound_names key) x || rule.takes (first f) x)) =
    λ x. ap (λ b. constants x || b) (c.in_ok-around.ensures x ∙ ap (λ t. is_one_of (bound_names key) x || rule.takes t x) c.first_of-taken.ensures.tree) in
    let bound : c.bound_at-around.result ≡ bound_of (first f) = c.bound_at-around.ensures ∙ ap bound_of c.first_of-taken.ensures.tree in
    let made : (ℕ → Bool) → ℕ → rule.Around = λ o b. record { outside = o; callable = is_in c.args.around.now.symbols.functions; bound = b; names = names } in
    ap (λ o. made o c.bound_at-around.result) (fun_ext (λ x. outside x)) ∙ ap (λ b. made (λ x. constants x || (is_one_of (bound_names key) x || rule.takes (first f) x)) b) bound
