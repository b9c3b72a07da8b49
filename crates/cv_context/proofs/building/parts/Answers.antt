use Rattle.std.proofs.Common.{◌≡◌, [], length, ap, arith, rules, subst, sym, Some, false, ◌∙◌}
use Rattle.std.specs.List.{All}
use Rattle.cv_syntax.specs.Postorder.{postorder}
use Rattle.cv_syntax.specs.PoolTrees.{tree_at}
use Rattle.cv_scope_rules.specs.declared.position.Position.TheVariants.{Anywhere}
use Rattle.cv_context.specs.Written.{part_unless}
use Rattle.cv_context.specs.nodes.Calls.{IsLive}
use Rattle.cv_context.proofs.Aligned.{context_made}
use Rattle.cv_context.proofs.Called.{as_many}
use Rattle.cv_context.proofs.building.parts.Goals as goal

pub put-requires-clause-calls : goal.put-requires-clause-calls
put-requires-clause-calls c =
    let n = length c.args.pool.now.trees in
    subst (All (IsLive n)) (sym c.as_slice.ensures.value) (c.in_ok-calls.ensures.live n c.requires.calls)

pub put-requires-clause-many : goal.put-requires-clause-many
put-requires-clause-many c =
    let same = as_many c.args.pool.now.trees c.in_ok-calls.calls.items c.args.sites.now (c.in_ok-calls.ensures.same c.args.pool.now.trees) in
    let there = ap length c.as_slice.ensures.value in
    omega (arith, same, there, c.requires.many)

pub returns : goal.returns
returns c = λ s e a.
    let trees = c.args.pool.now.trees in
    let roles = c.in_ok-roles.roles in
    let calls = c.in_ok-calls.calls.items in
    let made : c.put.new.makes.items ≡ postorder (part_unless false trees roles calls Anywhere [] 0 0 (tree_at trees (Some c.args.game))).tree = search rules in
    made ∙ ap postorder (context_made trees roles calls c.args.sites.now s e c.args.key (Some c.args.game) c.args.answers.now a (c.in_ok-calls.ensures.same trees) c.in_ok-roles.ensures.key c.in_ok-roles.ensures.coins c.in_ok-roles.ensures.answers)
