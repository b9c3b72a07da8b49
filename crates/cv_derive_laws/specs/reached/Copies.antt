-- Two copies that were reached in one run, as a derivation at two places speaks of them. This profile's own.
use Rattle.std.specs.Prelude.{◌≡◌, ℕ, ◌<◌, true, List, ◌++◌, map, Some}
use Rattle.std.specs.List.{AllByRecursion}
use Rattle.cv_syntax.specs.Layouts.{IsSyntax}
use Rattle.cv_syntax_trees.specs.Tree.{Tree}
use Rattle.cv_meaning.specs.Interpretation.{Interpretation, is_constant_of, setting_of}
use Rattle.cv_meaning.specs.Memory.{Indices, Memory}
use Rattle.cv_meaning.specs.Serving.{Visit}
use Rattle.cv_meaning.specs.Terms.{found_in}
use Rattle.cv_meaning_laws.specs.adequacy.Broken.{StandsAt}
use Rattle.cv_meaning_laws.specs.adequacy.Typed.{IsTypedStore}
use Rattle.cv_scope_rules.specs.Above.{stands_at}
use Rattle.cv_scope_rules.specs.Context.{Context}
use Rattle.cv_scope_rules.specs.Rules.{is_index}
use Rattle.cv_scope_rules.specs.Scope.{is_variable}
use Rattle.cv_typing_runs.specs.Games.{context_of}
use Rattle.cv_derive_facts.specs.Promises.{StandsIn}
use Rattle.cv_scene.specs.Derivations.{Derives}
use Rattle.cv_scene.specs.Pairs.{pair_at, second_index}
use Rattle.cv_scene.specs.Scenes.{Scene}
use Rattle.cv_scene.specs.Terms.{replications_at}
use Rattle.cv_scene.specs.lines.Lines.{lines_of, statements}
use Rattle.cv_derive_laws.specs.stores.Reached.{SitesStandNow}
use Rattle.cv_derive_laws.specs.stores.Truth.{AreApart, AreTrue, IsTrue}

-- A copy of a place in some memory: what stands at the place holds, and behind the definitions of the cells that are assigned;
-- and variables have values of their types. So it is at a visit of the copy, and later.
pub record WasVisited (s : Scene) (i : Interpretation) (place : ℕ) (at : Indices) (x : Memory) : Type 0 where
  pub context : Context
  pub known : stands_at s.game place ≡ Some context
  pub stands : StandsIn (setting_of s.declarations i) context at x
  pub sites : SitesStandNow (setting_of s.declarations i) s.game x
  pub types : IsTypedStore (context_of s.declarations s.game) i x.store

-- the current indices of the second copy under their other names, behind those of the first
abbrev pub both_copies : ℕ → (at other : Indices) → Indices
both_copies k at other = at ++ map (second_index k) other

-- no constant, no variable and no index at the place has a name from the number on
pub record IsAbove (s : Scene) (place k : ℕ) : Type 0 where
  pub constants : (x : ℕ) → is_constant_of s.declarations x ≡ true → x < k
  pub variables : (x : ℕ) → is_variable s.game x ≡ true → x < k
  pub indices : (x : ℕ) → is_index (replications_at s place) x ≡ true → x < k

-- a copy of each place was visited, in some memory, and each current index of the second is found by its name
pub record AreReached (s : Scene) (i : Interpretation) (p q k : ℕ) (at other : Indices) (x : Memory) : Type 0 where
  pub first : WasVisited s i p at x
  pub second : WasVisited s i q other x
  pub found : AllByRecursion (λ (r : ℕ × ℕ). found_in other r.0 ≡ Some r.1) other
  pub above : IsAbove s p k

-- The copies of each two visits are reached in this memory.
abbrev pub AreReachedInPairs : Scene → Interpretation → Memory → List Visit → Type 0
AreReachedInPairs s i x vs =
    (m n : ℕ) (v w : Visit) → StandsAt vs m v → StandsAt vs n w → IsSyntax v.tree → IsSyntax w.tree → (k : ℕ) → IsAbove s v.place k →
    AreReached s i v.place w.place k v.before.indices w.before.indices x

-- In this memory, what a right derivation at both places ends with is true of the two copies, where the given equations are and the values
-- that are taken to differ do.
abbrev pub HoldOfBoth : Scene → Interpretation → (p q k : ℕ) → (at other : Indices) → Memory → Type 0
HoldOfBoth s i p q k at other x =
    (given : List Tree) (distinct : List ℕ) → AreTrue (setting_of s.declarations i) (both_copies k at other) x.store x.store given →
    AreApart distinct x.store x.store → (by targets : Tree) → Derives (pair_at s p q k given distinct) by targets →
    AllByRecursion (IsTrue (setting_of s.declarations i) (both_copies k at other) x.store x.store) (statements (lines_of targets))

-- so it is of the copies of each two visits
abbrev pub HoldInPairs : Scene → Interpretation → Memory → List Visit → Type 0
HoldInPairs s i x vs =
    (m n : ℕ) (v w : Visit) → StandsAt vs m v → StandsAt vs n w → IsSyntax v.tree → IsSyntax w.tree → (k : ℕ) → IsAbove s v.place k →
    HoldOfBoth s i v.place w.place k v.before.indices w.before.indices x
