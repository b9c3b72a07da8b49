use Rattle.std.proofs.Common.{ap, sym, ◌∙◌}
use Rattle.cv_syntax.specs.PoolTrees.{tree_at}
use Rattle.cv_match_terms.specs.uses.Tallies.{plus, tally_at}
use Rattle.cv_match_terms.proofs.uses.Joining.{defined_branch, defined_call, defined_input, defined_key, defined_let, defined_new, defined_nothing, plus_nothing}
use Rattle.cv_match_terms.proofs.uses.table.note_definitions.Goals as goal
use Rattle.cv_directory.proofs.Noting.{on_ok}

pub returns-in-New : goal.returns-in-New
returns-in-New c =
    let a = tree_at c.args.pool.now.trees c.args.node.first in
    on_ok c.note_new.result (λ o y. o y ∙ ap (plus (tally_at c.args.entries.now.items y)) (defined_new c.args.passed.now y c.args.node.head a c.in-New.x c.in-New.t c.in-New.is)) c.note_new.ensures

pub returns-in-Let : goal.returns-in-Let
returns-in-Let c =
    let a = tree_at c.args.pool.now.trees c.args.node.first in
    on_ok c.note_other.result (λ o y. o y ∙ ap (plus (tally_at c.args.entries.now.items y)) (defined_let c.args.passed.now y c.args.node.head a c.in-Let.x c.in-Let.field-1 c.in-Let.is)) c.note_other.ensures

pub returns-in-Key : goal.returns-in-Key
returns-in-Key c =
    let a = tree_at c.args.pool.now.trees c.args.node.first in
    on_ok c.note_other-in-Key.result (λ o y. o y ∙ ap (plus (tally_at c.args.entries.now.items y)) (defined_key c.args.passed.now y c.args.node.head a c.in-Key.x c.in-Key.is)) c.note_other-in-Key.ensures

pub returns-in-Call : goal.returns-in-Call
returns-in-Call c =
    let a = tree_at c.args.pool.now.trees c.args.node.first in
    on_ok c.note_other-in-Call.result (λ o y. o y ∙ ap (plus (tally_at c.args.entries.now.items y)) (defined_call c.args.passed.now y c.args.node.head a c.in-Call.x c.in-Call.field-1 c.in-Call.is)) c.note_other-in-Call.ensures

pub returns-in-In : goal.returns-in-In
returns-in-In c =
    let a = tree_at c.args.pool.now.trees c.args.node.first in
    on_ok c.note_binders.result (λ o y. o y ∙ ap (plus (tally_at c.args.entries.now.items y)) (defined_input c.args.passed.now y c.args.node.head a c.in-In.field-0 (tree_at c.args.pool.now.trees c.second_of.result) c.in-In.is c.second_of.ensures.tree)) c.note_binders.ensures

pub returns-in-Branch : goal.returns-in-Branch
returns-in-Branch c =
    let a = tree_at c.args.pool.now.trees c.args.node.first in
    on_ok c.note_binders-in-Branch.result (λ o y. o y ∙ ap (plus (tally_at c.args.entries.now.items y)) (defined_branch c.args.passed.now y c.args.node.head a c.in-Branch.is)) c.note_binders-in-Branch.ensures

pub returns-in_default : goal.returns-in_default
returns-in_default c = λ y. sym (plus_nothing (tally_at c.args.entries.now.items y)) ∙ ap (plus (tally_at c.args.entries.now.items y)) (defined_nothing c.args.passed.now y c.args.node.head (tree_at c.args.pool.now.trees c.args.node.first) c.in_default.not-New c.in_default.not-Let c.in_default.not-Key c.in_default.not-Call c.in_default.not-In c.in_default.not-Branch)
