-- Where derivations hold: at each visited place of a run. This profile's own.
use Rattle.std.specs.Prelude.{◌≡◌, ℕ, ◌+◌, ◌<◌, true, List, None}
use Rattle.std.specs.List.{AllByRecursion}
use Rattle.cv_syntax_trees.specs.declared.head.Head.TheVariants.{Branch, Cons, Find}
use Rattle.cv_syntax_trees.specs.Declarations.{Declaration}
use Rattle.cv_syntax.specs.Layouts.{IsSyntax}
use Rattle.cv_syntax_trees.specs.Tree.{Tree, Node, first, first_place, second, second_place, size}
use Rattle.cv_meaning.specs.Interpretation.{Interpretation, setting_of}
use Rattle.cv_meaning.specs.Binders.{bound_to, fits}
use Rattle.cv_meaning.specs.Candidates.{are_assigned, is_candidate}
use Rattle.cv_meaning.specs.Memory.{Indices, Local, Memory, Store, tuple}
use Rattle.cv_meaning.specs.Serving.{Visit}
use Rattle.cv_scope_rules.specs.Phrases.{IsWellFormed}
use Rattle.cv_scope_rules.specs.typing.Parts.{IsTypedGame}
use Rattle.cv_typing_runs.specs.Games.{HasArguments, HasDeclaredSorts, HasKnownNames, HasNamedFunctionsAndCells}
use Rattle.cv_derive_facts.specs.Promises.{IsOwnTerm}
use Rattle.cv_scene.specs.Scenes.{Scene}
use Rattle.cv_scene.specs.Derivations.{first_bad_line}
use Rattle.cv_scene.specs.lines.Lines.{lines_of, statements}
use Rattle.cv_scene.specs.Sights.{sight_at}
use Rattle.cv_derive_laws.specs.stores.Truth.{HasClosedEquations, IsTrue}

-- what is asked of a game, and of the declarations of its file
pub record IsReady (ds : List Declaration) (game : Tree) : Type 0 where
  pub arguments : HasArguments ds
  pub equations : HasClosedEquations ds
  pub formed : IsWellFormed ds game
  pub typed : IsTypedGame ds game
  pub names : HasKnownNames ds game
  pub cells : HasNamedFunctionsAndCells ds game
  pub sorts : HasDeclaredSorts ds game

-- of each derivation at the place whose lines are right, the lines outside blocks are true
abbrev pub HoldAt : Scene → Interpretation → ℕ → Indices → (m n : Store) → Type 0
HoldAt s i p at m n =
    (by : Tree) → first_bad_line (sight_at s p) by ≡ None → AllByRecursion (IsTrue (setting_of s.declarations i) at m n) (statements (lines_of by))

-- at a place in a state
abbrev pub HoldIn : Scene → Interpretation → ℕ → Local → Type 0
HoldIn s i p l = HoldAt s i p l.indices l.memory.store l.memory.store

-- at a visited place, and at those of the construct's own terms
abbrev pub HoldAtVisit : Scene → Interpretation → Visit → Type 0
HoldAtVisit s i v = IsSyntax v.tree → HoldIn s i v.place v.before × ((q : ℕ) → IsOwnTerm v.place v.tree q → HoldIn s i q v.before)

-- in the body of each branch of a list that stands at a place, at each tuple with which the branch is a candidate, taken or not
abbrev pub HoldInBodies : Scene → Interpretation → ℕ → Indices → Memory → Tree → Type 0
HoldInBodies s i p at x (Node Cons (Node Branch us rest) more) =
    ((u : List ℕ) → fits i.parameter_value us u ≡ true → is_candidate (setting_of s.declarations i) at x.store (bound_to x.store (tuple at) us u) rest ≡ true →
    HoldAt s i (second_place (first_place p Cons) Branch us + size (first rest) + size (first (second rest))) at (bound_to x.store (tuple at) us u) (bound_to x.store (tuple at) us u))
    × HoldInBodies s i (second_place p Cons (Node Branch us rest)) at x more
HoldInBodies s i p at x t = Unit {0}

-- of a visited `find`
abbrev pub HoldAtCandidates : Scene → Interpretation → ℕ → Tree → Local → Type 0
HoldAtCandidates s i p (Node (Find l) a b) k = HoldInBodies s i (first_place p (Find l)) k.indices k.memory a
HoldAtCandidates s i p t k = Unit {0}

abbrev pub HoldAtFind : Scene → Interpretation → Visit → Type 0
HoldAtFind s i v = HoldAtCandidates s i v.place v.tree v.before

-- in the condition of each branch of such a list, at each tuple with which the cells of its list are assigned: cells are looked up
-- before the visit, and terms read with the tuple's values
abbrev pub HoldInConditions : Scene → Interpretation → ℕ → Indices → Memory → Tree → Type 0
HoldInConditions s i p at x (Node Cons (Node Branch us rest) more) =
    ((u : List ℕ) → fits i.parameter_value us u ≡ true → are_assigned (setting_of s.declarations i) at x.store (bound_to x.store (tuple at) us u) (first rest) ≡ true →
    (k : ℕ) → k < size (first (second rest)) → HoldAt s i (second_place (first_place p Cons) Branch us + size (first rest) + k) at x.store (bound_to x.store (tuple at) us u))
    × HoldInConditions s i (second_place p Cons (Node Branch us rest)) at x more
HoldInConditions s i p at x t = Unit {0}

abbrev pub HoldAtTests : Scene → Interpretation → ℕ → Tree → Local → Type 0
HoldAtTests s i p (Node (Find l) a b) k = HoldInConditions s i (first_place p (Find l)) k.indices k.memory a
HoldAtTests s i p t k = Unit {0}

-- of a visited `find`
abbrev pub HoldAtConditions : Scene → Interpretation → Visit → Type 0
HoldAtConditions s i v = HoldAtTests s i v.place v.tree v.before
