use Rattle.cv_outside.proofs.words.sample.Pieces.{each_goes, each_none}
use Rattle.cv_outside.proofs.words.sample.samples.push_each.Goals as goal

pub numbers-init : goal.numbers-init
numbers-init c = each_none c.args.text.now c.args.out.now.items

pub numbers-preserved : goal.numbers-preserved
numbers-preserved c = each_goes c.args.text.now c.numbers.k c.args.out.now.items c.numbers.out.items c.push_numbered.new.out.items c.numbers.invariant c.in_ok-push_numbered.ensures
