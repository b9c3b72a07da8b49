use Rattle.std.proofs.Common.{sym, ◌∙◌, arith}
use Rattle.cv_library.proofs.Tabling.{one_longer, parameter_more, parameter_twice, parameters_all}
use Rattle.cv_library.proofs.names.parameters.Goals as goal

pub returns-then-not-branch : goal.returns-then-not-branch
returns-then-not-branch c =
    parameter_twice c.args.tokens.now c.args.place c.list.names c.list.i _ c.list.invariant.read c.list-test.true c.text_at.result.now c.text_at.ensures.value (sym c.if-not-branch.true ∙ c.in_ok-declared.ensures.new)

pub list-preserved : goal.list-preserved
list-preserved c =
    record {
      read = parameter_more c.args.tokens.now c.args.place c.list.names c.list.i _ c.list.invariant.read c.list-test.true c.text_at.result.now c.declared.new.names c.text_at.ensures.value (sym c.if-not-branch.false ∙ c.in_ok-declared.ensures.new) c.in_ok-declared.ensures.names;
      few = omega (arith, c.list.invariant.few, one_longer c.list.names c.declared.new.names c.text_at.result.now c.in_ok-declared.ensures.names);
    }

pub returns : goal.returns
returns c = parameters_all c.args.tokens.now c.args.place c.list.names c.list.i _ c.list.invariant.read (omega arith)
