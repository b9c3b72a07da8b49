use Rattle.std.proofs.Common.{Some, ap, sym, ◌∙◌}
use Rattle.cv_syntax.specs.PoolTrees.{tree_at}
use Rattle.cv_directory.specs.Definitions.{is_other, large_in}
use Rattle.cv_directory.specs.Tables.{entries_in}
use Rattle.cv_directory.proofs.Entries.{branch_more, branch_other, index_more, input_more, input_other, let_more, new_more, nothing_here}
use Rattle.cv_directory.proofs.Noting.{on_ok}
use Rattle.cv_directory.proofs.directory.Directory.note_node.Goals as goal

pub returns-in-Repl-clause-entries : goal.returns-in-Repl-clause-entries
returns-in-Repl-clause-entries c =
    let trees = c.args.pool.now.trees in
    let e = entries_in trees c.args.self.now in
    on_ok c.note_index.result (λ o. o
    ∙ index_more (large_in c.args.decls.now.list) e c.args.path.now c.args.place (tree_at trees (Some c.args.node)) (tree_at trees c.args.opened.first) c.args.opened.head c.in-Repl.i c.in-Repl.n c.in-Repl.is) (c.note_index.ensures.entries trees)

pub returns-in-New-clause-entries : goal.returns-in-New-clause-entries
returns-in-New-clause-entries c =
    let trees = c.args.pool.now.trees in
    let large = large_in c.args.decls.now.list in
    let other = c.is_other_node-is_other_here.ensures (tree_at trees c.args.opened.first) (tree_at trees c.args.opened.second) ∙ sym (ap (is_other large) c.requires.tree) in
    on_ok c.note.result (λ o. o ∙ new_more large (entries_in trees c.args.self.now) c.args.path.now c.args.place (tree_at trees (Some c.args.node)) (tree_at trees c.args.opened.first) c.args.opened.head c.in-New.x c.in-New.t c.in-New.is) (c.note.ensures.entries trees large other)

pub returns-in-Let-clause-entries : goal.returns-in-Let-clause-entries
returns-in-Let-clause-entries c =
    let trees = c.args.pool.now.trees in
    let large = large_in c.args.decls.now.list in
    let other = c.is_other_node-is_other_here.ensures (tree_at trees c.args.opened.first) (tree_at trees c.args.opened.second) ∙ sym (ap (is_other large) c.requires.tree) in
    on_ok c.note-in-Let.result (λ o. o ∙ let_more large (entries_in trees c.args.self.now) c.args.path.now c.args.place (tree_at trees (Some c.args.node)) (tree_at trees c.args.opened.first) c.args.opened.head c.in-Let.x c.in-Let.t c.in-Let.is) (c.note-in-Let.ensures.entries trees large other)

pub returns-in-In-clause-entries : goal.returns-in-In-clause-entries
returns-in-In-clause-entries c =
    let trees = c.args.pool.now.trees in
    let large = large_in c.args.decls.now.list in
    let other = input_other large (tree_at trees (Some c.args.node)) (tree_at trees c.args.opened.first) (tree_at trees c.args.opened.second) c.args.opened.head c.in-In.field-0 c.requires.tree c.in-In.is in
    on_ok c.note_binders.result (λ o. o ∙ input_more large (entries_in trees c.args.self.now) c.args.path.now c.args.place (tree_at trees (Some c.args.node)) (tree_at trees c.args.opened.first) c.args.opened.head c.in-In.field-0 (tree_at trees c.second_of.result) c.in-In.is c.second_of.ensures.tree) (c.note_binders.ensures.entries large other)

pub returns-in-Branch-clause-entries : goal.returns-in-Branch-clause-entries
returns-in-Branch-clause-entries c =
    let trees = c.args.pool.now.trees in
    let large = large_in c.args.decls.now.list in
    let other = branch_other large (tree_at trees (Some c.args.node)) (tree_at trees c.args.opened.first) (tree_at trees c.args.opened.second) c.args.opened.head c.requires.tree c.in-Branch.is in
    on_ok c.note_binders-in-Branch.result (λ o. o ∙ branch_more large (entries_in trees c.args.self.now) c.args.path.now c.args.place (tree_at trees (Some c.args.node)) (tree_at trees c.args.opened.first) c.args.opened.head c.in-Branch.is) (c.note_binders-in-Branch.ensures.entries large other)

pub returns-in_default-clause-entries : goal.returns-in_default-clause-entries
returns-in_default-clause-entries c = nothing_here (large_in c.args.decls.now.list) (entries_in c.args.pool.now.trees c.args.self.now) c.args.path.now c.args.place (tree_at c.args.pool.now.trees (Some c.args.node)) c.args.opened.head (tree_at c.args.pool.now.trees c.args.opened.first) c.in_default.not-Repl c.in_default.not-In c.in_default.not-New c.in_default.not-Let c.in_default.not-Branch
