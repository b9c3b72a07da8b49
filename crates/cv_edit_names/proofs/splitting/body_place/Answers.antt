use Rattle.std.proofs.Common.{arith}
use Rattle.cv_edit_names.proofs.BranchSizes.{size_branches_of}
use Rattle.cv_edit_names.proofs.splitting.body_place.Goals as goal

pub overflow_add-behind : goal.overflow_add-behind
overflow_add-behind c = omega (arith, c.requires.fits, c.weight.ensures.one, size_branches_of c.args.pool.now.trees c.args.branch.now)

pub size_below-requires-clause-fits : goal.size_below-requires-clause-fits
size_below-requires-clause-fits c = omega (arith, c.requires.fits, size_branches_of c.args.pool.now.trees c.args.branch.now)

pub overflow_add-behind-2 : goal.overflow_add-behind-2
overflow_add-behind-2 c = omega (arith, c.requires.fits, c.weight.ensures.one, c.size_below.ensures, size_branches_of c.args.pool.now.trees c.args.branch.now)

pub size_below-requires-2-clause-fits : goal.size_below-requires-2-clause-fits
size_below-requires-2-clause-fits c = omega (arith, c.requires.fits, size_branches_of c.args.pool.now.trees c.args.branch.now)

pub overflow_add-result : goal.overflow_add-result
overflow_add-result c = omega (arith, c.requires.fits, c.weight.ensures.one, c.size_below.ensures, c.size_below-2.ensures, size_branches_of c.args.pool.now.trees c.args.branch.now)

pub size_below-requires-3-clause-fits : goal.size_below-requires-3-clause-fits
size_below-requires-3-clause-fits c = omega (arith, c.requires.fits, size_branches_of c.args.pool.now.trees c.args.branch.now)

pub overflow_add-result-2 : goal.overflow_add-result-2
overflow_add-result-2 c = omega (arith, c.requires.fits, c.weight.ensures.one, c.size_below.ensures, c.size_below-2.ensures, c.size_below-3.ensures, size_branches_of c.args.pool.now.trees c.args.branch.now)
