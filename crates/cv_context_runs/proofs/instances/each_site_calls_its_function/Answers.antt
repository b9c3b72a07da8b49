use Rattle.cv_context_runs.proofs.instances.Terms.{only_terms}
use Rattle.cv_context_runs.proofs.instances.Numbers.{called}
use Rattle.cv_scene.specs.Reductions.{matching}
use Rattle.cv_context_runs.proofs.instances.each_site_calls_its_function.Goals as goal

pub returns : goal.returns
returns c r i s number n left e at f z = called r (λ t k. only_terms r.scene.declarations (matching r) t left k) e i s number n at f z
