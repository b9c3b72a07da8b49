use Rattle.std.proofs.Common.{◌+◌, Option, Some, None, drop, map, subst, arith, option_map}
use Rattle.std.specs.Prelude.{slice_index_or}
use Rattle.cv_syntax.specs.PoolTrees.{tree_at}
use Rattle.cv_settling_overview.specs.declared.walk.Placed.{Placed}
use Rattle.cv_settling_rules.specs.Candidates.{Rewrite}
use Rattle.cv_settling.specs.Picking.{IsPicked}
use Rattle.cv_settling.specs.Rewritings.{candidate_of, lower_sides}
use Rattle.cv_settling.specs.declared.rewrite.Rewriting.{Rewriting}
use Rattle.cv_settling.proofs.Picked.{found_at, from_next, measurable_at, no_term_left, none_at}
use Rattle.cv_settling.proofs.rewrite.find.Goals as goal

abbrev nowhere : Placed
nowhere = record { place = 0; node = record { 0 = 0 } }

pub returns-in-Some : goal.returns-in-Some
returns-in-Some c =
    let trees = c.args.table.now.pool.now.trees in
    let terms = c.args.terms.now in
    let k = c.loop-at.at-index in
    let here = slice_index_or terms k nowhere in
    let next = from_next terms k nowhere (omega arith) in
    let found = candidate_of trees c.in-Some.rewriting in
    λ s i e m.
    let so_far = c.loop-at.invariant s i e m c.find_at.new.left (Some found) in
    let fits = measurable_at s trees here (drop (k + 1) terms) (drop k terms) next so_far.0 in
    let all = map (Rewrite here.place) (lower_sides s (tree_at trees (Some here.node))) in
    so_far.1
    (found_at s trees here (drop (k + 1) terms) (drop k terms) next c.loop-at.left c.find_at.new.left found
    (subst (λ (f : Option Rewriting). IsPicked all c.loop-at.left c.find_at.new.left (option_map (candidate_of trees) f)) c.in-Some.is (c.in_ok-found.ensures s i e fits.0)))

pub loop-at-preserved : goal.loop-at-preserved
loop-at-preserved c =
    let trees = c.args.table.now.pool.now.trees in
    let terms = c.args.terms.now in
    let k = c.loop-at.at-index in
    let here = slice_index_or terms k nowhere in
    let next = from_next terms k nowhere (omega arith) in
    λ s i e m new o.
    let so_far = c.loop-at.invariant s i e m new o in
    let fits = measurable_at s trees here (drop (k + 1) terms) (drop k terms) next so_far.0 in
    let all = map (Rewrite here.place) (lower_sides s (tree_at trees (Some here.node))) in (
      fits.1,
      λ p.
          so_far.1
          (none_at s trees here (drop (k + 1) terms) (drop k terms) next c.loop-at.left c.find_at.new.left new o
          (subst (λ (f : Option Rewriting). IsPicked all c.loop-at.left c.find_at.new.left (option_map (candidate_of trees) f)) c.in_default.is (c.in_ok-found.ensures s i e fits.0)) p),
    )

pub returns : goal.returns
returns c =
    let trees = c.args.table.now.pool.now.trees in
    λ s i e m. (c.loop-at.invariant s i e m c.loop-at.left None).1 (no_term_left s trees c.args.terms.now c.loop-at.at-index c.loop-at.left (omega arith))
