use Rattle.std.proofs.Common.{◌<◌, ◌≤◌, ◌+◌, length, drop, Some, ap, sym, ◌∙◌, arith}
use Rattle.cv_syntax.specs.Declarations.{declarations}
use Rattle.cv_syntax.specs.PoolTrees.{tree_at}
use Rattle.cv_meaning.specs.Queries.{queries_in}
use Rattle.cv_query_form.proofs.Parts.{queries_past, queries_skip, queries_take, query_below}
use Rattle.cv_steps_laws.specs.crypto.Secrets.{asks_without_values, some_asks_without_values}
use Rattle.cv_kernel_crypto.proofs.Kept.{some_here, some_later}
use Rattle.cv_kernel_crypto.proofs.testing.some_asks_without_values.Goals as goal

pub decls-preserved-in_default : goal.decls-preserved-in_default
decls-preserved-in_default c =
    let trees = c.args.work.now.pool.trees in
    let list = c.args.work.now.decls.list in
    let game = tree_at trees (Some c.args.game) in
    let here : c.decls.k < length list = omega arith in
    record { same = ap (some_asks_without_values game) (sym (queries_skip trees list c.decls.k here (sym c.query_at.ensures ∙ c.in_default.is))) ∙ c.decls.invariant.same }

pub asks_without_values-requires : goal.asks_without_values-requires
asks_without_values-requires c = record { live = c.requires.live; sites = c.requires.sites; query = query_below (length c.args.work.now.pool.trees) c.args.work.now.decls.list c.decls.k c.in-Some.query c.requires.declared (sym c.query_at.ensures ∙ c.in-Some.is) }

pub returns-then-asks_without_values : goal.returns-then-asks_without_values
returns-then-asks_without_values c =
    let trees = c.args.work.now.pool.trees in
    let list = c.args.work.now.decls.list in
    let game = tree_at trees (Some c.args.game) in
    sym (some_here (asks_without_values game) (tree_at trees (Some c.in-Some.query)) (queries_in (declarations trees (drop (c.decls.k + 1) list))) (queries_in (declarations trees (drop c.decls.k list))) c.asks_without_values.result (queries_take trees list c.decls.k c.in-Some.query (sym c.query_at.ensures ∙ c.in-Some.is)) c.asks_without_values.ensures c.if-asks_without_values.true) ∙ c.decls.invariant.same

pub decls-preserved : goal.decls-preserved
decls-preserved c =
    let trees = c.args.work.now.pool.trees in
    let list = c.args.work.now.decls.list in
    let game = tree_at trees (Some c.args.game) in
    record { same = sym (some_later (asks_without_values game) (tree_at trees (Some c.in-Some.query)) (queries_in (declarations trees (drop (c.decls.k + 1) list))) (queries_in (declarations trees (drop c.decls.k list))) c.asks_without_values.result (queries_take trees list c.decls.k c.in-Some.query (sym c.query_at.ensures ∙ c.in-Some.is)) c.asks_without_values.ensures c.if-asks_without_values.false) ∙ c.decls.invariant.same }

pub returns : goal.returns
returns c =
    let trees = c.args.work.now.pool.trees in
    let list = c.args.work.now.decls.list in
    let game = tree_at trees (Some c.args.game) in
    let past : length list ≤ c.decls.k = omega arith in
    sym (ap (some_asks_without_values game) (queries_past trees list c.decls.k past)) ∙ c.decls.invariant.same
