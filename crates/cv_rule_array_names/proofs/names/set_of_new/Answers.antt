use Rattle.std.proofs.Common.{◌≡◌, ◌+◌, ◌-◌, ◌<◌, ◌≤◌, ◌&&◌, ℕ, Bool, true, false, List, ◌∷◌, drop, drop-cons, get_or, length, suc, zero, refl, sym, ap, ◌∙◌, arith}
use Rattle.std.proofs.Math.Path.{fun_ext}
use Rattle.cv_pool.specs.declared.node.NodeId.{NodeId}
use Rattle.cv_syntax.specs.NameSets.{is_in, is_one_of}
use Rattle.cv_scene_view.specs.Kept.{scene_of}
use Rattle.cv_rule_array_names.specs.Sites.{are_apart, are_unknown}
use Rattle.cv_rule_array_names.proofs.NewNames.{good_more, not_inside, not_outside, one_before, twice_fails, unknown_from}
use Rattle.cv_rule_array_names.proofs.names.set_of_new.Goals as goal

pub returns-then-not-branch-clause-new : goal.returns-then-not-branch-clause-new
returns-then-not-branch-clause-new c = λ game.
    let ys = c.args.names.now in
    let k = c.names.k - 1 in
    let y = get_or ys k 0 in
    let s = scene_of c.args.work.now.pool c.args.work.now.decls game in
    let same : suc k ≡ c.names.k = omega (arith, c.names-test.true) in
    let e : drop k ys ≡ y ∷ drop c.names.k ys = drop-cons ys k 0 (omega (arith, c.names-test.true, c.names.invariant.within)) ∙ ap (λ n. y ∷ drop n ys) same in
    sym (twice_fails s ys k y (drop c.names.k ys) e (sym (c.names.invariant.set y) ∙ not_outside (is_in c.names.set y) (sym c.in_ok-insert.ensures.added ∙ c.if-not-branch.true)))

pub names-preserved : goal.names-preserved
names-preserved c =
    let ys = c.args.names.now in
    let k = c.names.k - 1 in
    let y = get_or ys k 0 in
    let more = drop c.names.k ys in
    let own = c.args.work.now.decls.own in
    let same : suc k ≡ c.names.k = omega (arith, c.names-test.true) in
    let e : drop k ys ≡ y ∷ more = drop-cons ys k 0 (omega (arith, c.names-test.true, c.names.invariant.within)) ∙ ap (λ n. y ∷ drop n ys) same in
    let later : own ≤ y = omega (arith, c.if-y-own.false, c.own.ensures) in
    record {
      within = omega (arith, c.names.invariant.within);
      set = λ x. one_before c.names.set c.insert.new.self y more c.in_ok-insert.ensures.updates c.names.invariant.set x ∙ ap (λ l. is_one_of l x) (sym e);
      new = λ game.
          good_more (scene_of c.args.work.now.pool c.args.work.now.decls game) ys k y more e (c.names.invariant.new game) (unknown_from y own later)
          (sym (c.names.invariant.set y) ∙ not_inside (is_in c.names.set y) (sym c.in_ok-insert.ensures.added ∙ c.if-not-branch.false));
    }

pub returns : goal.returns
returns c =
    let ys = c.args.names.now in
    let none : c.names.k ≡ zero = omega (arith, c.names-test.false) in
    record {
      set = fun_ext (λ x. c.names.invariant.set x ∙ ap (λ n. is_one_of (drop n ys) x) none);
      new = λ game.
          let s = scene_of c.args.work.now.pool c.args.work.now.decls game in
          sym (c.names.invariant.new game) ∙ ap (λ n. are_unknown s (drop n ys) && are_apart (drop n ys)) none;
    }
