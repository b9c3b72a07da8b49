use Rattle.std.proofs.Common.{◌+◌, ◌++◌, ◌∙◌, ap}
use Rattle.cv_outside.specs.words.sample.Samples.{numbered}
use Rattle.cv_outside.proofs.words.sample.Pieces.{barred_goes, barred_none}
use Rattle.cv_outside.proofs.words.sample.samples.push_barred.Goals as goal

pub pairs-init : goal.pairs-init
pairs-init c = barred_none c.args.out.now.items

pub pairs-preserved : goal.pairs-preserved
pairs-preserved c =
    barred_goes c.pairs.k c.args.out.now.items c.pairs.out.items c.push_numbered.new.out.items c.extend_from_slice.new.self.items c.pairs.invariant
    (c.in_ok-push_numbered.ensures ∙ ap (λ t. c.pairs.out.items ++ numbered t (c.pairs.k + 1)) c.pair.ensures) c.in_ok-extend_from_slice.ensures.items
