use Rattle.std.proofs.Common.{sym, ◌∙◌}
use Rattle.cv_directory.specs.Tables.{seen}
use Rattle.cv_context.proofs.products.News.{none_left, one_more, only_new_law}
use Rattle.cv_context.proofs.products.keys.keys_of.Goals as goal

pub parameters-preserved : goal.parameters-preserved
parameters-preserved c =
    one_more ((seen c.args.directory.now).variable c.args.key) c.parameters.k c.in-Some.n c.parameters.parameters.items c.push.new.self.items c.in-Some.ensures.parameter c.parameters.invariant c.in_ok-push.ensures.items

pub returns-clause-first : goal.returns-clause-first
returns-clause-first c =
    none_left ((seen c.args.directory.now).variable c.args.key) c.parameters.k c.parameters.parameters.items (sym c.in_default.is ∙ c.parameter.ensures.parameter) c.parameters.invariant

pub returns-clause-only : goal.returns-clause-only
returns-clause-only c = λ game d p e f.
    none_left ((seen c.args.directory.now).variable c.args.key) c.parameters.k c.parameters.parameters.items (sym c.in_default.is ∙ c.parameter.ensures.parameter) c.parameters.invariant
    ∙ only_new_law game c.args.key d (seen c.args.directory.now) p e f
