use Rattle.std.proofs.Common.{◌∷◌, All, length, map, subst, sym, ap, ◌∙◌, arith}
use Rattle.cv_pool.specs.Nodes.{ChildBelow}
use Rattle.cv_syntax.specs.PoolTrees.{tree_at}
use Rattle.cv_parse_grammar.specs.Identities.{AreDistinct}
use Rattle.std.specs.Prelude.{flat_map}
use Rattle.std.specs.List.{AllByRecursion}
use Rattle.cv_parse.specs.Declaring.{IsNameable, names_by}
use Rattle.cv_parse.proofs.Builds.{all_trees, decls_below, decls_same, distinct, few_read, last_game, last_live, nameable, parts_are, roots_length}
use Rattle.cv_parse.proofs.building.build.Goals as goal

pub bounds : goal.bounds
bounds c =
    let b = c.requires.builds in
    let r = c.args.reading.now in
    let m = c.args.makes.now in
    let e = ap (map (tree_at c.planted.new.pool.trees)) c.deref-roots.ensures.value ∙ c.in_ok-made.ensures.back (all_trees b.file) (parts_are r m b) in
    let l = roots_length r m b _ _ e in
    let h = ap length c.deref-heard.ensures.value in
    omega arith

pub declare-requires-clause-few : goal.declare-requires-clause-few
declare-requires-clause-few c =
    let l = few_read c.args.reading.now c.args.makes.now c.requires.builds 4294967294 c.in_ok-made.ensures.few in
    let h = ap length c.deref-heard.ensures.value in
    omega arith

pub declare-requires-clause-rooted : goal.declare-requires-clause-rooted
declare-requires-clause-rooted c =
    let b = c.requires.builds in
    let r = c.args.reading.now in
    let m = c.args.makes.now in
    let e = ap (map (tree_at c.planted.new.pool.trees)) c.deref-roots.ensures.value ∙ c.in_ok-made.ensures.back (all_trees b.file) (parts_are r m b) in
    let l = roots_length r m b _ _ e in
    let h = ap length c.deref-heard.ensures.value in
    omega arith

pub declare-requires-clause-named : goal.declare-requires-clause-named
declare-requires-clause-named c = subst (AllByRecursion IsNameable) (sym c.deref-heard.ensures.value) (nameable c.args.reading.now c.args.makes.now c.requires.builds)

pub declare-requires-clause-distinct : goal.declare-requires-clause-distinct
declare-requires-clause-distinct c = subst (λ l. AreDistinct (0 ∷ flat_map names_by l)) (sym c.deref-heard.ensures.value) (distinct c.args.reading.now c.args.makes.now c.requires.builds)

pub returns-clause-built : goal.returns-clause-built
returns-clause-built c = λ b.
    let r = c.args.reading.now in
    let m = c.args.makes.now in
    let e = ap (map (tree_at c.planted.new.pool.trees)) c.deref-roots.ensures.value ∙ c.in_ok-made.ensures.back (all_trees b.file) (parts_are r m b) in
    record {
      declared = decls_same r m b c.planted.new.pool.trees c.deref-heard.result.now c.deref-roots.result.now _ c.deref-heard.ensures.value e c.in_ok-declare.ensures.list;
      game = last_game r m b c.planted.new.pool.trees c.deref-roots.result.now _ _ _ e (ap length c.deref-heard.ensures.value) c.in-Some.is;
    }

pub returns-clause-live : goal.returns-clause-live
returns-clause-live c =
    let b = c.requires.builds in
    let r = c.args.reading.now in
    let m = c.args.makes.now in
    let e = ap (map (tree_at c.planted.new.pool.trees)) c.deref-roots.ensures.value ∙ c.in_ok-made.ensures.back (all_trees b.file) (parts_are r m b) in
    let l = roots_length r m b _ _ e in
    let h = ap length c.deref-heard.ensures.value in
    let a : All (ChildBelow (length c.planted.new.pool.trees)) c.deref-roots.result.now = subst (All (ChildBelow (length c.planted.new.pool.trees))) (sym c.deref-roots.ensures.value) c.in_ok-made.ensures.live in
    last_live (length c.planted.new.pool.trees) c.deref-roots.result.now _ _ _ a (omega arith) c.in-Some.is

pub returns-clause-below : goal.returns-clause-below
returns-clause-below c =
    let b = c.requires.builds in
    let r = c.args.reading.now in
    let m = c.args.makes.now in
    let e = ap (map (tree_at c.planted.new.pool.trees)) c.deref-roots.ensures.value ∙ c.in_ok-made.ensures.back (all_trees b.file) (parts_are r m b) in
    let a : All (ChildBelow (length c.planted.new.pool.trees)) c.deref-roots.result.now = subst (All (ChildBelow (length c.planted.new.pool.trees))) (sym c.deref-roots.ensures.value) c.in_ok-made.ensures.live in
    decls_below r m b c.planted.new.pool.trees (length c.planted.new.pool.trees) c.deref-heard.result.now c.deref-roots.result.now _ c.deref-heard.ensures.value e a c.in_ok-declare.ensures.list
