use Rattle.std.proofs.Common.{◌∙◌, ap, arith}
use Rattle.std.proofs.lemmas.List.{take_all}
use Rattle.cv_inline.specs.terms.Scopes.{entry_in, scope_in}
use Rattle.cv_inline_sites.proofs.pairs.Copies.{copy_more}
use Rattle.cv_inline_sites.proofs.pairs.scopes.copy_of.Goals as goal

pub entries-preserved : goal.entries-preserved
entries-preserved c = λ here.
    let x = c.index-scope-k.result in
    copy_more here c.entries.copy.items c.push.new.self.items c.args.scope.now c.entries.k _ x c.in_ok-push.ensures.items (omega arith) ((λ i. (x.name, c.in_ok-standing.ensures here i)) ∙ ap (entry_in here) c.index-scope-k.is) (c.entries.invariant here)

pub returns : goal.returns
returns c = λ here. c.entries.invariant here ∙ ap (scope_in here) (take_all c.entries.k c.args.scope.now (omega arith))
