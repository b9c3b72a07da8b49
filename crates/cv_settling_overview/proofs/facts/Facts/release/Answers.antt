use Rattle.std.proofs.Common.{ap}
use Rattle.cv_settling_overview.specs.declared.facts.Mark.{Mark}
use Rattle.cv_settling_overview.proofs.Keeping.{cut_back}
use Rattle.cv_settling_overview.proofs.facts.Facts.release.Goals as goal

pub returns : goal.returns
returns c = λ before m e. record {
  facts = cut_back before.facts.items c.args.self.now.facts.items _ c.args.mark.facts (ap (λ (n : Mark). n.facts) m) e.facts c.truncate.ensures.items;
  parts = cut_back before.parts.items c.args.self.now.parts.items _ c.args.mark.parts (ap (λ (n : Mark). n.parts) m) e.parts c.truncate-2.ensures.items;
  conjuncts = cut_back before.conjuncts c.args.self.now.conjuncts _ c.args.mark.conjuncts (ap (λ (n : Mark). n.conjuncts) m) e.conjuncts c.keep.ensures;
  indices = cut_back before.indices.items c.args.self.now.indices.items _ c.args.mark.indices (ap (λ (n : Mark). n.indices) m) e.indices c.truncate-3.ensures.items;
}
