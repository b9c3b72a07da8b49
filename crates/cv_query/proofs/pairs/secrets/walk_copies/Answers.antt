use Rattle.std.proofs.Common.{None, [], ◌-◌, drop, get_or, length, map, take, sym, ap, ◌∙◌}
use Rattle.std.proofs.lemmas.List.{drop_all}
use Rattle.std.specs.Prelude.{flat_map}
use Rattle.cv_scene_view.specs.Kept.{scene_of}
use Rattle.cv_query_certificates.specs.SecretPairs.{secret_pair, secret_pairs_among}
use Rattle.cv_query_offences.specs.declared.cells.CellCopy.{CellCopy}
use Rattle.cv_query_offences.specs.Copies.{copy_seen}
use Rattle.cv_query.proofs.pairs.Copying.{ends, goes_on, passes, stops}
use Rattle.cv_query.proofs.pairs.Following.{goes_before, left_before, copies_among}
use Rattle.cv_query.proofs.pairs.Growing.{as_before}
use Rattle.cv_query.proofs.pairs.secrets.walk_copies.Goals as goal

abbrev nothing : CellCopy
nothing = record { place = 0; source = 0; terms = None }

pub returns-then-is_some-clause-goes : goal.returns-then-is_some-clause-goes
returns-then-is_some-clause-goes c =
    let old = c.args.work.now in
    let s = scene_of old.pool old.decls c.args.game in
    let trees = old.pool.trees in
    let f = copy_seen trees in
    let xs = c.args.copies.now in
    let k = c.copies.k in
    let this = flat_map (secret_pair s c.args.raise (f (get_or xs k nothing))) (map f (take (length xs - k) (drop k xs))) in
    stops s c.args.raise trees c.args.left.now.parts c.walk_with.new.left.parts c.in_ok-stopped.stopped _ _ (sym c.is_some.ensures ∙ c.if-is_some.true)
    (goes_on s c.args.raise trees c.args.left.now.parts c.copies.left.parts c.walk_with.new.left.parts c.in_ok-stopped.stopped _ _ this _ c.copies.invariant.goes (copies_among s c.args.raise f xs k nothing c.copies-test.true)
    (goes_before old c.copies.work c.copies.invariant.before c.args.game c.args.raise c.copies.left.parts c.walk_with.new.left.parts c.in_ok-stopped.stopped (λ r ts. flat_map (secret_pair r c.args.raise (copy_seen ts (get_or xs k nothing))) (map (copy_seen ts) (take (length xs - k) (drop k xs)))) c.in_ok-stopped.ensures.goes))

pub copies-preserved : goal.copies-preserved
copies-preserved c =
    let old = c.args.work.now in
    let s = scene_of old.pool old.decls c.args.game in
    let trees = old.pool.trees in
    let f = copy_seen trees in
    let xs = c.args.copies.now in
    let k = c.copies.k in
    let this = flat_map (secret_pair s c.args.raise (f (get_or xs k nothing))) (map f (take (length xs - k) (drop k xs))) in
    record {
      before = as_before old c.copies.work c.copies.invariant.before c.walk_with.new.work c.in_ok-stopped.ensures.before;
      left = left_before old c.copies.work c.copies.invariant.before c.walk_with.new.left.parts c.in_ok-stopped.ensures.left;
      goes =
          goes_on s c.args.raise trees c.args.left.now.parts c.copies.left.parts c.walk_with.new.left.parts None _ _ this _ c.copies.invariant.goes (copies_among s c.args.raise f xs k nothing c.copies-test.true)
          (passes s c.args.raise trees c.copies.left.parts c.walk_with.new.left.parts c.in_ok-stopped.stopped this [] (sym c.is_some.ensures ∙ c.if-is_some.false)
          (goes_before old c.copies.work c.copies.invariant.before c.args.game c.args.raise c.copies.left.parts c.walk_with.new.left.parts c.in_ok-stopped.stopped (λ r ts. flat_map (secret_pair r c.args.raise (copy_seen ts (get_or xs k nothing))) (map (copy_seen ts) (take (length xs - k) (drop k xs)))) c.in_ok-stopped.ensures.goes));
    }

pub returns-clause-goes : goal.returns-clause-goes
returns-clause-goes c =
    let old = c.args.work.now in
    let s = scene_of old.pool old.decls c.args.game in
    let f = copy_seen old.pool.trees in
    ends s c.args.raise old.pool.trees c.args.left.now.parts c.copies.left.parts _ _ (ap (λ ys. secret_pairs_among s c.args.raise (map f ys)) (drop_all c.copies.k c.args.copies.now c.copies-test.false)) c.copies.invariant.goes
