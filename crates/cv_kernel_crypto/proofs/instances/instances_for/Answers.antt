use Rattle.std.proofs.Common.{ap, arith, length, option_map, subst, sym, ◌∙◌}
use Rattle.cv_pool.specs.Nodes.{ChildBelow}
use Rattle.cv_syntax_trees.specs.Tree.{size}
use Rattle.cv_syntax.specs.PoolTrees.{tree_at}
use Rattle.cv_scene_view.specs.Kept.{scene_of}
use Rattle.cv_scene.specs.Refusals.{first_refusal}
use Rattle.cv_match.proofs.Fitting.{equiv_live}
use Rattle.cv_match.specs.Matched.{matching_of}
use Rattle.cv_steps_laws.specs.crypto.Conditions.{failure_by, failure_of}
use Rattle.cv_kernel_crypto.specs.Faults.{IsRefused, fault_of}
use Rattle.cv_kernel_crypto.proofs.Failing.{node_named, refused_by, refused_through, with_both, without_equivalence, without_variable}
use Rattle.cv_kernel_crypto.proofs.Found.{calls_found, right_found, sites_found}
use Rattle.cv_kernel_crypto.proofs.instances.instances_for.Goals as goal

pub returns-in_default-clause-fault : goal.returns-in_default-clause-fault
returns-in_default-clause-fault c =
    let w = c.args.work.now in
    subst (IsRefused (failure_of (scene_of w.pool w.decls c.args.game) c.args.equivalence c.args.key)) (sym c.refused.ensures)
    (without_equivalence w.pool w.decls c.args.game c.args.equivalence c.args.key (sym c.equiv.ensures ∙ c.in_default.is))

pub room_left-requires : goal.room_left-requires
room_left-requires c =
    let w = c.args.work.now in
    subst (ChildBelow (length w.pool.trees)) (sym c.equiv.ensures ∙ c.in-Some.is) (equiv_live (length w.pool.trees) w.decls.list c.args.equivalence c.requires.declared)

pub returns-then-not-is_known-clause-fault : goal.returns-then-not-is_known-clause-fault
returns-then-not-is_known-clause-fault c =
    let w = c.args.work.now in
    subst (IsRefused (failure_of (scene_of w.pool w.decls c.args.game) c.args.equivalence c.args.key)) (sym c.refused-then-not-is_known.ensures)
    (without_variable w.pool w.decls c.args.game c.args.equivalence c.args.key c.in-Some.tree (sym c.equiv.ensures ∙ c.in-Some.is) (sym c.is_known.ensures ∙ c.if-not-is_known.true))

pub matches-requires-clause-short : goal.matches-requires-clause-short
matches-requires-clause-short c =
    let e = ap (λ o. size (tree_at c.args.work.now.pool.trees o)) (sym c.equiv.ensures ∙ c.in-Some.is) in
    omega (arith, c.in-Some-room_left.ensures.left, e)

pub returns-in_err-found-clause-fault : goal.returns-in_err-found-clause-fault
returns-in_err-found-clause-fault c =
    let w = c.args.work.now in
    let M = matching_of w.pool w.decls c.args.game c.args.equivalence c.args.key in
    let fault = c.in_err-found.field-0.0 in
    refused_through _ (fault_of fault) (failure_of (scene_of w.pool w.decls c.args.game) c.args.equivalence c.args.key) c.from_residual.ensures.1
    (subst (λ o. IsRefused o (fault_of fault)) (sym (with_both w.pool w.decls c.args.game c.args.equivalence c.args.key c.in-Some.tree (sym c.equiv.ensures ∙ c.in-Some.is) (sym c.is_known.ensures ∙ c.if-not-is_known.false)))
    (refused_by (first_refusal M) fault c.in_err-found.ensures.fault))

pub returns-clause-found : goal.returns-clause-found
returns-clause-found c =
    let w = c.args.work.now in
    let i = sym c.equiv.ensures ∙ c.in-Some.is in
    let f = c.in_ok-found.ensures in
    let sites = c.in_ok-found.found.sites.items in
    record {
      live = subst (ChildBelow (length w.pool.trees)) i (equiv_live (length w.pool.trees) w.decls.list c.args.equivalence c.requires.declared);
      short = omega (arith, c.in-Some-room_left.ensures.left);
      right = right_found w.pool w.decls c.args.game c.args.equivalence c.args.key c.in-Some.tree i c.requires.equivalences;
      sites = sites_found w.pool w.decls c.args.game c.args.equivalence c.args.key c.in-Some.tree i sites c.requires.equivalences f.sites f.instances;
      calls = calls_found w.pool w.decls c.args.game c.args.equivalence c.args.key c.in-Some.tree i sites f.instances;
      few = omega (arith, c.if-len.false, c.len.ensures);
    }

pub returns-clause-met : goal.returns-clause-met
returns-clause-met c =
    let w = c.args.work.now in
    let i = sym c.equiv.ensures ∙ c.in-Some.is in
    record {
      named = node_named w.pool w.decls c.args.game c.args.equivalence c.in-Some.tree i;
      met = with_both w.pool w.decls c.args.game c.args.equivalence c.args.key c.in-Some.tree i (sym c.is_known.ensures ∙ c.if-not-is_known.false) ∙ ap (option_map failure_by) c.in_ok-found.ensures.none;
    }
