use Rattle.cv_inline_laws.proofs.draws.Texts.{as_many_texts, drawn_fit, texts_differ, texts_free}
use Rattle.std.proofs.Common.{suc}
use Rattle.cv_inline.specs.Draws.{greatest_end}
use Rattle.cv_inline_laws.proofs.draws.drawn_texts_are_new.Goals as goal

pub returns-clause-many : goal.returns-clause-many
returns-clause-many c = as_many_texts

pub returns-clause-free : goal.returns-clause-free
returns-clause-free c = texts_free

pub returns-clause-differ : goal.returns-clause-differ
returns-clause-differ c = texts_differ

pub returns-clause-drawn : goal.returns-clause-drawn
returns-clause-drawn c taken bases h =
    let f = drawn_fit taken bases h in
    let n = suc (greatest_end taken) in (as_many_texts taken n bases, texts_free taken n bases f, texts_differ taken n bases f)
