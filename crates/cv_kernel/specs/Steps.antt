-- What is said of the tree of a step in a game. This profile's own.
use Rattle.std.specs.Prelude.{◌<◌, ◌^◌, Option, Some, None}
use Rattle.cv_syntax_trees.specs.Tree.{Tree}
use Rattle.cv_syntax.specs.limits.Limits.{nodes_of}
use Rattle.cv_scene.specs.Scenes.{Scene}
use Rattle.cv_script.specs.Views.{StepItems}
use Rattle.cv_script.specs.Views as items
use Rattle.cv_steps.specs.Judgements.{Judgement, Refused, judgement_of}
use Rattle.cv_kernel.specs.Rules.{Rule, rule_in}

-- a step without a rule speaks of nothing that is there
abbrev pub judgement_by : Scene → Option Rule → Judgement
judgement_by s None = Refused 0 0
judgement_by s (Some r) = judgement_of s r.step

abbrev pub judgement_at : Scene → Tree → Judgement
judgement_at s t = judgement_by s (rule_in t)

-- A tree isn't so large that a game with it couldn't be measured, nor has it more lines than can be counted.
abbrev pub IsShort : Tree → Type 0
IsShort t = nodes_of t < 2 ^ 31

-- nor has a tree of the items, whatever step it is
abbrev pub AreShort : StepItems → Type 0
AreShort (items.Rewrite p m by) = IsShort m × IsShort by
AreShort (items.Prune p part by) = IsShort by
AreShort (items.Pick p ms d e) = IsShort ms × IsShort d × IsShort e
AreShort (items.Split p m) = IsShort m
AreShort (items.Let p x T m) = IsShort m
AreShort (items.ArrayRename x xs) = IsShort xs
AreShort (items.Codef p add y x above) = IsShort y × IsShort x
AreShort (items.Birthday x ps) = IsShort ps
AreShort (items.Guess x ps) = IsShort ps
AreShort (items.Success k by) = IsShort by
AreShort i = Unit {0}
