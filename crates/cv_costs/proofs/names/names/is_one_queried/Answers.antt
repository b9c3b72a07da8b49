use Rattle.std.proofs.Common.{◌<◌, ◌≤◌, ◌+◌, length, drop, Some, ap, sym, ◌∙◌, arith}
use Rattle.std.specs.List.{list_any}
use Rattle.cv_syntax.specs.Declarations.{declarations}
use Rattle.cv_syntax.specs.NameSets.{is_in}
use Rattle.cv_syntax.specs.PoolTrees.{tree_at}
use Rattle.cv_meaning.specs.Queries.{queries_in}
use Rattle.cv_query_form.proofs.Parts.{queries_past, queries_skip, queries_take, query_below}
use Rattle.cv_costs.specs.names.Naming.{asks_for_one}
use Rattle.cv_costs.proofs.names.Looks.{asked_here, asked_later}
use Rattle.cv_costs.proofs.names.names.is_one_queried.Goals as goal

pub decls-preserved-in_default : goal.decls-preserved-in_default
decls-preserved-in_default c =
    let trees = c.args.work.now.pool.trees in
    let list = c.args.work.now.decls.list in
    let here : c.decls.k < length list = omega arith in
    record { same = ap (list_any (asks_for_one (is_in c.args.names.now))) (sym (queries_skip trees list c.decls.k here (sym c.query_at.ensures ∙ c.in_default.is))) ∙ c.decls.invariant.same }

pub asks_for_one-requires : goal.asks_for_one-requires
asks_for_one-requires c = query_below (length c.args.work.now.pool.trees) c.args.work.now.decls.list c.decls.k c.in-Some.query c.requires (sym c.query_at.ensures ∙ c.in-Some.is)

pub returns-then-asks_for_one : goal.returns-then-asks_for_one
returns-then-asks_for_one c =
    let trees = c.args.work.now.pool.trees in
    let list = c.args.work.now.decls.list in
    sym (asked_here (asks_for_one (is_in c.args.names.now)) (tree_at trees (Some c.in-Some.query)) (queries_in (declarations trees (drop (c.decls.k + 1) list))) (queries_in (declarations trees (drop c.decls.k list))) c.asks_for_one.result (queries_take trees list c.decls.k c.in-Some.query (sym c.query_at.ensures ∙ c.in-Some.is)) c.asks_for_one.ensures c.if-asks_for_one.true) ∙ c.decls.invariant.same

pub decls-preserved : goal.decls-preserved
decls-preserved c =
    let trees = c.args.work.now.pool.trees in
    let list = c.args.work.now.decls.list in
    record { same = sym (asked_later (asks_for_one (is_in c.args.names.now)) (tree_at trees (Some c.in-Some.query)) (queries_in (declarations trees (drop (c.decls.k + 1) list))) (queries_in (declarations trees (drop c.decls.k list))) c.asks_for_one.result (queries_take trees list c.decls.k c.in-Some.query (sym c.query_at.ensures ∙ c.in-Some.is)) c.asks_for_one.ensures c.if-asks_for_one.false) ∙ c.decls.invariant.same }

pub returns : goal.returns
returns c =
    let trees = c.args.work.now.pool.trees in
    let list = c.args.work.now.decls.list in
    let past : length list ≤ c.decls.k = omega arith in
    sym (ap (list_any (asks_for_one (is_in c.args.names.now))) (queries_past trees list c.decls.k past)) ∙ c.decls.invariant.same
