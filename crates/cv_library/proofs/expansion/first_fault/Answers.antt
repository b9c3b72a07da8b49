use Rattle.std.proofs.Common.{arith}
use Rattle.std.proofs.lemmas.List.{drop_all, drop_more}
use Rattle.cv_library.specs.Views.{definitions}
use Rattle.cv_library.proofs.Expanding.{fault_first, faults_more, faults_none, use_at}
use Rattle.cv_library.proofs.expansion.first_fault.Goals as goal

pub fault_of-requires : goal.fault_of-requires
fault_of-requires c = use_at c.args.tokens.now 0 c.args.uses.now c.uses.it-index (record { word = 0; dot = 0 }) c.requires c.uses-test.true

pub returns-in-Some : goal.returns-in-Some
returns-in-Some c =
    fault_first (definitions c.args.library.now) c.args.tokens.now c.args.uses.now _ _ c.uses.it-index (drop_more c.args.uses.now c.uses.it-index (record { word = 0; dot = 0 }) c.uses-test.true) c.in-Some.fault c.in-Some.ensures c.uses.invariant

pub uses-preserved : goal.uses-preserved
uses-preserved c =
    faults_more (definitions c.args.library.now) c.args.tokens.now c.args.uses.now _ _ c.uses.it-index (drop_more c.args.uses.now c.uses.it-index (record { word = 0; dot = 0 }) c.uses-test.true) c.in_default.ensures c.uses.invariant

pub returns : goal.returns
returns c = faults_none (definitions c.args.library.now) c.args.tokens.now c.args.uses.now c.uses.it-index (drop_all c.uses.it-index c.args.uses.now (omega arith)) c.uses.invariant
