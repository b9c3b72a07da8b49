-- Bodies that no copy reaches: those at which `false` is derived. This profile's own.
use Rattle.std.specs.Prelude.{◌≡◌, ℕ, ◌+◌, true, false, List}
use Rattle.cv_syntax_trees.specs.declared.head.Head.TheVariants.{Branch, Cons, Find}
use Rattle.cv_syntax.specs.Layouts.{IsSyntax}
use Rattle.cv_syntax_trees.specs.Tree.{Tree, Node, first, first_place, second, second_place, size}
use Rattle.cv_meaning.specs.Interpretation.{Interpretation, setting_of}
use Rattle.cv_meaning.specs.Binders.{bound_to, fits}
use Rattle.cv_meaning.specs.Candidates.{is_candidate}
use Rattle.cv_meaning.specs.Memory.{Indices, Local, Memory, tuple}
use Rattle.cv_meaning.specs.Serving.{Visit}
use Rattle.cv_scene.specs.Scenes.{Scene}
use Rattle.cv_scene.specs.Derivations.{Derives}
use Rattle.cv_scene.specs.Sights.{sight_at}
use Rattle.cv_scene.specs.lines.Targets.{falsity}

abbrev pub DerivesFalse : Scene → ℕ → Tree → Type 0
DerivesFalse s q by = Derives (sight_at s q) by falsity

-- no construct is visited at the place
abbrev pub IsElsewhere : ℕ → Visit → Type 0
IsElsewhere q v = IsSyntax v.tree → v.place ≡ q → ⊥

-- of a list of branches that stands at a place, one whose body stands at q is a candidate with no tuple
abbrev pub HasNoCandidate : Scene → Interpretation → (q p : ℕ) → Indices → Memory → Tree → Type 0
HasNoCandidate s i q p at x (Node Cons (Node Branch us rest) more) =
    (second_place (first_place p Cons) Branch us + size (first rest) + size (first (second rest)) ≡ q → (u : List ℕ) → fits i.parameter_value us u ≡ true →
    is_candidate (setting_of s.declarations i) at x.store (bound_to x.store (tuple at) us u) rest ≡ false)
    × HasNoCandidate s i q (second_place p Cons (Node Branch us rest)) at x more
HasNoCandidate s i q p at x t = Unit {0}

abbrev pub FindHasNone : Scene → Interpretation → (q p : ℕ) → Tree → Local → Type 0
FindHasNone s i q p (Node (Find l) a b) k = HasNoCandidate s i q (first_place p (Find l)) k.indices k.memory a
FindHasNone s i q p t k = Unit {0}

-- at a visited `find`
abbrev pub HasNoneAt : Scene → Interpretation → ℕ → Visit → Type 0
HasNoneAt s i q v = FindHasNone s i q v.place v.tree v.before
