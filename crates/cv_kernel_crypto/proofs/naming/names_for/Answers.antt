use Rattle.std.proofs.Common.{arith, length, subst, Some, ◌<◌, All, ap, ◌∙◌}
use Rattle.cv_syntax.specs.PoolTrees.{tree_at}
use Rattle.cv_inline_draws.specs.taken_names.Taken.{taken_names}
use Rattle.cv_kernel_crypto.proofs.Named.{named_below}
use Rattle.cv_kernel_crypto.proofs.naming.names_for.Goals as goal

pub returns : goal.returns
returns c =
    let w = c.args.work.now in
    let game = tree_at w.pool.trees (Some c.args.game) in
    let count = c.len-count.ensures.len in
    let below = subst (λ n. All (λ x. x < n) c.in_ok-taken.taken.items) count (subst (All (λ x. x < c.len-count.result)) c.as_slice.ensures.value (c.are_below.ensures.0 c.if-not-are_below.false)) in
    let all = c.in_ok-taken.ensures ∙ ap (λ n. taken_names n game) c.own-own.ensures in
    record {
      all = all;
      below = below;
      named = named_below (length w.names) w.decls.own game c.in_ok-taken.taken.items (c.taken_names_are_of_file_and_game.ensures.listed w.decls.own game) all below;
      owned = omega (arith, c.if-own-count.false, c.own-own.ensures, count);
      few = omega (arith, c.if-count-gt-FIRST_ANSWER.false, count);
      counted = omega (arith, c.as_slice.type_inv.0, ap length c.as_slice.ensures.value);
    }
