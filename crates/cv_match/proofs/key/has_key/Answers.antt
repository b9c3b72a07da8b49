use Rattle.std.proofs.Common.{ℕ, ap}
use Rattle.cv_match.specs.instances.Matchings.{matching_by}
use Rattle.cv_match.proofs.Serving.{key_drawn, key_elsewhere}
use Rattle.cv_match.proofs.key.has_key.Goals as goal

pub returns-then-is_drawn_of : goal.returns-then-is_drawn_of
returns-then-is_drawn_of c =
    key_drawn (matching_by c.args.work.now.pool c.args.work.now.decls c.args.search.now) c.key_of-key.result.1 _ c.is_drawn_of.result (ap (λ (k : ℕ × ℕ). k.1) c.key_of-key.ensures) c.is_drawn_of.ensures (c.requires.table.news c.args.search.now.key) c.if-is_drawn_of.true _ c.is_queried.ensures

pub returns-else-is_drawn_of : goal.returns-else-is_drawn_of
returns-else-is_drawn_of c =
    key_elsewhere (matching_by c.args.work.now.pool c.args.work.now.decls c.args.search.now) c.key_of-key.result.1 _ c.is_drawn_of.result (ap (λ (k : ℕ × ℕ). k.1) c.key_of-key.ensures) c.is_drawn_of.ensures (c.requires.table.news c.args.search.now.key) c.if-is_drawn_of.false
