use Rattle.cv_kernel.proofs.Settled.{found_prepared}
use Rattle.cv_kernel.proofs.applying.game_at.Goals as goal

pub returns-in-Some-clause-prepared : goal.returns-in-Some-clause-prepared
returns-in-Some-clause-prepared c =
    found_prepared c.args.work.now.pool.trees c.args.work.now.decls c.args.root c.in_ok-next.field-0 c.in-Some.next c.in-Some.is c.requires.live c.requires.fits c.in_ok-next.ensures.game c.in_ok-next.ensures.arrays c.in_ok-next.ensures.entries
