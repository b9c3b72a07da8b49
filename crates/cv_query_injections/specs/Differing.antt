-- Tapes on which the values differ that a certificate takes to differ. This profile's own.
use Rattle.std.specs.Prelude.{◌≡◌, ℕ, false, List, [], Option, Some, None}
use Rattle.std.specs.List.{AllByRecursion}
use Rattle.cv_syntax_trees.specs.declared.head.Head.TheVariants.{EventsCertificate}
use Rattle.cv_syntax_trees.specs.Tree.{Tree, Node}
use Rattle.cv_syntax_trees.specs.sites.Sites.{Variable, first_site}
use Rattle.cv_meaning.specs.Interpretation.{Interpretation, Setting, setting_of}
use Rattle.cv_meaning.specs.Tapes.{Tape}
use Rattle.cv_meaning_chances.specs.Tests.{some_equal}
use Rattle.cv_costs.specs.Certificates.{distinct_among}
use Rattle.cv_scene.specs.Scenes.{Scene}
use Rattle.cv_rule_birthday_laws.specs.chosen.Drawn.{choices_of}

-- no two cells of the variable's choices, below the replications above its first definition, hold one value
abbrev pub DifferBy : Setting → (x : ℕ) → Option Variable → Tape → Type 0
DifferBy g x None t = Unit {0}
DifferBy g x (Some v) t = some_equal (choices_of g x v.parameters) t ≡ false

abbrev pub Differ : Scene → Interpretation → Tape → (x : ℕ) → Type 0
Differ s i t x = DifferBy (setting_of s.declarations i) x (first_site x [] s.game) t

abbrev pub distinct_of : (certificate : Tree) → List ℕ
distinct_of (Node EventsCertificate parts e) = distinct_among parts
distinct_of certificate = []

-- so it is with each variable of the certificate's list
abbrev pub AllDiffer : Scene → Interpretation → (certificate : Tree) → Tape → Type 0
AllDiffer s i certificate t = AllByRecursion (Differ s i t) (distinct_of certificate)
