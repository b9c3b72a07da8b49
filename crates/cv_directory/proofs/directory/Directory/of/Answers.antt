use Rattle.std.proofs.Common.{Some, ap, is_some, nat_eq, ◌||◌, ◌∙◌}
use Rattle.cv_syntax.specs.PoolTrees.{tree_at}
use Rattle.cv_directory.specs.Definitions.{large_in}
use Rattle.cv_syntax_trees.specs.sites.Sites.{is_untyped_in}
use Rattle.cv_directory.specs.Tables.{entries_in}
use Rattle.cv_directory.proofs.Entries.{from_nothing}
use Rattle.cv_directory.proofs.Noting.{nothing_yet, seen_sites}
use Rattle.cv_directory.proofs.directory.Directory.of.Goals as goal

pub returns-clause-entries : goal.returns-clause-entries
returns-clause-entries c =
    (c.in_ok-gather.ensures.entries
    ∙ from_nothing (large_in c.args.decls.now.list) (entries_in c.args.pool.now.trees (record { entries = c.new.result; untyped = c.new-2.result })) c.new-path.result.items (tree_at c.args.pool.now.trees (Some c.args.root)) (nothing_yet c.args.pool.now.trees (record { entries = c.new.result; untyped = c.new-2.result }) c.new.ensures.items) c.new-path.ensures.items)

pub returns-clause-sites : goal.returns-clause-sites
returns-clause-sites c = seen_sites c.args.pool.now.trees c.gather.new.self (large_in c.args.decls.now.list) (tree_at c.args.pool.now.trees (Some c.args.root))
    (c.in_ok-gather.ensures.entries
    ∙ from_nothing (large_in c.args.decls.now.list) (entries_in c.args.pool.now.trees (record { entries = c.new.result; untyped = c.new-2.result })) c.new-path.result.items (tree_at c.args.pool.now.trees (Some c.args.root)) (nothing_yet c.args.pool.now.trees (record { entries = c.new.result; untyped = c.new-2.result }) c.new.ensures.items) c.new-path.ensures.items)
    (λ x. c.in_ok-gather.ensures.untyped x ∙ ap (λ es. is_some (Rattle.std.specs.Map.lookup (nat_eq x) es) || is_untyped_in x (tree_at c.args.pool.now.trees (Some c.args.root))) c.new-2.ensures.empty)
