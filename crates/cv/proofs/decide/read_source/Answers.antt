use Rattle.std.proofs.Common.{ap₂, subst}
use Rattle.cv_accept.specs.Works.{Reads}
use Rattle.cv_library.specs.Givens.{Given, given_by}
use Rattle.cv.proofs.decide.read_source.Goals as goal

pub returns-clause-reads : goal.returns-clause-reads
returns-clause-reads c = subst (λ (g : Given). Reads c.args.work.now.pool.limit g c.read.new.work c.read.result) (ap₂ given_by c.deref.ensures.value c.library_of.ensures.same) c.read.ensures.reads
