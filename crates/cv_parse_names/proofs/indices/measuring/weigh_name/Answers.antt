use Rattle.std.proofs.Common.{◌-◌, ◌^◌, min, ap, sym, ◌∙◌, arith}
use Rattle.cv_parse_names.proofs.indices.Weighing.{name_size, name_depth_one, name_depth_two}
use Rattle.cv_parse_names.proofs.indices.measuring.weigh_name.Goals as goal

pub returns-then-count-eq0-clause-nodes : goal.returns-then-count-eq0-clause-nodes
returns-then-count-eq0-clause-nodes c = c.saturating_add.ensures ∙ ap (λ n. min n (2 ^ 64 - 1)) (sym (name_size _ c.args.name c.index_count-count.result c.args.current.now c.index_count-count.ensures.read (omega (arith, c.index_count-count.ensures.within, c.requires))))

pub returns-then-count-eq0-clause-depth : goal.returns-then-count-eq0-clause-depth
returns-then-count-eq0-clause-depth c = sym (name_depth_one _ c.args.name c.index_count-count.result c.args.current.now c.index_count-count.ensures.read (omega (arith, c.index_count-count.ensures.within, c.requires)) c.if-count-eq0.true)

pub returns-else-count-eq0-clause-nodes : goal.returns-else-count-eq0-clause-nodes
returns-else-count-eq0-clause-nodes c = c.saturating_add.ensures ∙ ap (λ n. min n (2 ^ 64 - 1)) (sym (name_size _ c.args.name c.index_count-count.result c.args.current.now c.index_count-count.ensures.read (omega (arith, c.index_count-count.ensures.within, c.requires))))

pub returns-else-count-eq0-clause-depth : goal.returns-else-count-eq0-clause-depth
returns-else-count-eq0-clause-depth c = sym (name_depth_two _ c.args.name c.index_count-count.result c.args.current.now c.index_count-count.ensures.read (omega (arith, c.index_count-count.ensures.within, c.requires)) (omega (arith, c.if-count-eq0.false)))
