use Rattle.std.proofs.Common.{sym, ◌∙◌}
use Rattle.cv_syntax.specs.PoolTrees.{tree_at}
use Rattle.cv_syntax.specs.NameSets.{is_in}
use Rattle.cv_syntax.proofs.Trees.{node_at}
use Rattle.cv_query_form.proofs.Parts.{events_end, events_accepted, events_refused}
use Rattle.cv_query_form.proofs.query.correspondence_may_be_asked.Goals as goal
use Rattle.cv_query_form.proofs.query.correspondence_may_be_asked.Goals.{in-Cons, in_default-matches}

pub returns-in_default : goal.returns-in_default
returns-in_default c = events_end (tree_at c.args.pool.now.trees c.args.binders) c.args.pool.now.trees c.args.events c.in_default.is

pub returns-then-not-is_left_event : goal.returns-then-not-is_left_event
returns-then-not-is_left_event c =
    let trees = c.args.pool.now.trees in
    let cell = c.read_node-cell.result in
    events_refused (tree_at trees c.args.binders) (tree_at trees c.args.events) cell.head (tree_at trees cell.first) (tree_at trees cell.second) (is_in c.in_ok-variables.variables) c.is_left_event.result (node_at trees c.args.events c.in-Some.k cell c.in-Some.is c.read_node-cell.ensures.tree)
    (elim c.match-matches.branch [ in-Cons w ↦ w.in-Cons.is | in_default-matches w ↦ absurd (let f = sym w.matches-is ∙ c.if-not-matches.false in absurd (cc)) ])
    c.in_ok-variables.ensures c.is_left_event.ensures c.if-not-is_left_event.true

pub returns : goal.returns
returns c =
    let trees = c.args.pool.now.trees in
    let cell = c.read_node-cell.result in
    c.sides_may_be_asked.ensures
    ∙ events_accepted (tree_at trees c.args.binders) (tree_at trees c.args.events) cell.head (tree_at trees cell.first) (tree_at trees cell.second) (is_in c.in_ok-variables.variables) c.is_left_event.result (node_at trees c.args.events c.in-Some.k cell c.in-Some.is c.read_node-cell.ensures.tree)
    (elim c.match-matches.branch [ in-Cons w ↦ w.in-Cons.is | in_default-matches w ↦ absurd (let f = sym w.matches-is ∙ c.if-not-matches.false in absurd (cc)) ])
    c.in_ok-variables.ensures c.is_left_event.ensures c.if-not-is_left_event.false
