-- Bodies that are candidates for a `prune` go, if the next game is one.
use Rattle.std.proofs.Common.{◌≤◌}
use Rattle.std.specs.List.{AllByRecursion}
use Rattle.cv_syntax_trees.specs.Tree.{depth, size}
use Rattle.cv_syntax_trees.proofs.lists.Each.{AllByRecursion_weaker}
use Rattle.cv_scene.specs.Scenes.{Scene}
use Rattle.cv_settling_rules.specs.Bodies.{prunings}
use Rattle.cv_settling_rules.specs.Candidates.{Candidate, Prune}
use Rattle.cv_settling_candidates.specs.Pruning.{Goes, HasReason}
use Rattle.cv_settling_laws.specs.Games.{IsTypedScene}
use Rattle.cv_settling_rules.specs.Reasons.{Unreached, derivation_of}
use Rattle.cv_settling_candidates.proofs.Few.{reason_is_short}
use Rattle.cv_settling_laws.proofs.Judged.{prune_leads}
use Rattle.cv_settling_candidates.proofs.Reasoned.{prunings_reasoned}

one_goes : (s : Scene) → IsTypedScene s → size s.game ≤ 50000 → depth s.game ≤ 200 → (c : Candidate) → HasReason s c → Goes s c
one_goes s g l d (Prune p part) (gone, e, c, n, why, r) =
    let u : Unreached = record { part = part; condition = c; fact = n; why = why } in
    (derivation_of u, gone, e, prune_leads s g p u gone e (reason_is_short s l d gone.body u r))
one_goes s g l d c r = tt

pub prunings_go : (s : Scene) → IsTypedScene s → size s.game ≤ 50000 → depth s.game ≤ 200 → AllByRecursion (Goes s) (prunings s.game)
prunings_go s g l d = AllByRecursion_weaker (HasReason s) (Goes s) (one_goes s g l d) (prunings s.game) (prunings_reasoned s g.formed.phrase)
