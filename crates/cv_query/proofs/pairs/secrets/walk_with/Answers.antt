use Rattle.std.proofs.Common.{None, [], get_or, map, sym, ap, ◌∙◌}
use Rattle.std.proofs.lemmas.List.{drop_all}
use Rattle.std.specs.Prelude.{flat_map}
use Rattle.cv_scene_view.specs.Kept.{scene_of}
use Rattle.cv_query_certificates.specs.SecretPairs.{secret_pair}
use Rattle.cv_query_offences.specs.declared.cells.CellCopy.{CellCopy}
use Rattle.cv_query_offences.specs.Copies.{copy_seen}
use Rattle.cv_query.proofs.pairs.Copying.{ends, goes_on, passes, stops}
use Rattle.cv_query.proofs.pairs.Following.{goes_before, left_before, pairs_more}
use Rattle.cv_query.proofs.pairs.Growing.{as_before}
use Rattle.cv_query.proofs.pairs.secrets.walk_with.Goals as goal

abbrev nothing : CellCopy
nothing = record { place = 0; source = 0; terms = None }

pub returns-then-is_some-clause-goes : goal.returns-then-is_some-clause-goes
returns-then-is_some-clause-goes c =
    let old = c.args.work.now in
    let s = scene_of old.pool old.decls c.args.game in
    let trees = old.pool.trees in
    let f = copy_seen trees in
    let one = f c.args.one in
    let xs = c.args.others.now in
    let k = c.others.k in
    let this = secret_pair s c.args.raise one (f (get_or xs k nothing)) in
    stops s c.args.raise trees c.args.left.now.parts c.walk_both.new.left.parts c.in_ok-stopped.stopped _ _ (sym c.is_some.ensures ∙ c.if-is_some.true)
    (goes_on s c.args.raise trees c.args.left.now.parts c.others.left.parts c.walk_both.new.left.parts c.in_ok-stopped.stopped _ _ this _ c.others.invariant.goes (pairs_more s c.args.raise f xs k nothing c.others-test.true one)
    (goes_before old c.others.work c.others.invariant.before c.args.game c.args.raise c.others.left.parts c.walk_both.new.left.parts c.in_ok-stopped.stopped (λ r ts. secret_pair r c.args.raise (copy_seen ts c.args.one) (copy_seen ts (get_or xs k nothing))) c.in_ok-stopped.ensures.goes))

pub others-preserved : goal.others-preserved
others-preserved c =
    let old = c.args.work.now in
    let s = scene_of old.pool old.decls c.args.game in
    let trees = old.pool.trees in
    let f = copy_seen trees in
    let one = f c.args.one in
    let xs = c.args.others.now in
    let k = c.others.k in
    let this = secret_pair s c.args.raise one (f (get_or xs k nothing)) in
    record {
      before = as_before old c.others.work c.others.invariant.before c.walk_both.new.work c.in_ok-stopped.ensures.before;
      left = left_before old c.others.work c.others.invariant.before c.walk_both.new.left.parts c.in_ok-stopped.ensures.left;
      goes =
          goes_on s c.args.raise trees c.args.left.now.parts c.others.left.parts c.walk_both.new.left.parts None _ _ this _ c.others.invariant.goes (pairs_more s c.args.raise f xs k nothing c.others-test.true one)
          (passes s c.args.raise trees c.others.left.parts c.walk_both.new.left.parts c.in_ok-stopped.stopped this [] (sym c.is_some.ensures ∙ c.if-is_some.false)
          (goes_before old c.others.work c.others.invariant.before c.args.game c.args.raise c.others.left.parts c.walk_both.new.left.parts c.in_ok-stopped.stopped (λ r ts. secret_pair r c.args.raise (copy_seen ts c.args.one) (copy_seen ts (get_or xs k nothing))) c.in_ok-stopped.ensures.goes));
    }

pub returns-clause-goes : goal.returns-clause-goes
returns-clause-goes c =
    let old = c.args.work.now in
    let s = scene_of old.pool old.decls c.args.game in
    let f = copy_seen old.pool.trees in
    ends s c.args.raise old.pool.trees c.args.left.now.parts c.others.left.parts _ _ (ap (λ ys. flat_map (secret_pair s c.args.raise (f c.args.one)) (map f ys)) (drop_all c.others.k c.args.others.now c.others-test.false)) c.others.invariant.goes
