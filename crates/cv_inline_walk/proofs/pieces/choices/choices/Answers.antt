use Rattle.std.proofs.Common.{◌<◌, ◌∙◌, ap, arith, length}
use Rattle.std.proofs.lemmas.List.{take_all}
use Rattle.cv_syntax.specs.PoolTrees.{tree_at}
use Rattle.cv_inline_sites.specs.listing.Callings.{callers_in}
use Rattle.cv_inline_walk.specs.pieces.Choices.{choices_over}
use Rattle.cv_inline_walk.proofs.pieces.Choosing.{choices_more, each_more}
use Rattle.cv_inline_walk.proofs.pieces.choices.choices.Goals as goal

pub sites-preserved : goal.sites-preserved
sites-preserved c =
    let trees = c.args.pool.now.trees in
    let callings = c.args.callings.now in
    let there : c.sites.other < length callings = omega arith in
    record {
      choices = choices_more trees callings c.args.place (tree_at trees c.args.list) c.sites.other c.index-callings-other.result c.index-callings-other.result c.sites.found.items c.add_choices.new.found.items c.as_slice.result.now c.in_ok-pairs.pairs.items there c.index-callings-other.is c.as_slice.ensures.value c.in_ok-pairs.ensures.pairs c.in_ok-add_choices.ensures c.sites.invariant.choices;
      each = each_more trees callings c.args.place c.args.list c.sites.other c.sites.found.items c.add_choices.new.found.items c.as_slice.result.now c.in_ok-pairs.pairs.items there c.as_slice.ensures.value c.in_ok-pairs.ensures.over c.in_ok-add_choices.ensures c.sites.invariant.each;
    }

pub returns-clause-choices : goal.returns-clause-choices
returns-clause-choices c =
    let trees = c.args.pool.now.trees in
    c.sites.invariant.choices ∙ ap (λ cs. choices_over (callers_in trees cs) c.args.place (tree_at trees c.args.list)) (take_all c.sites.other c.args.callings.now (omega arith))
