-- Where the terms of an instance have the values of a call: that of the key, those that are drawn for the coins, and the
-- arguments. This profile's own.
use Rattle.std.specs.Prelude.{◌≡◌, ℕ, true, List, [], ◌∷◌, None}
use Rattle.cv_syntax_trees.specs.Tree.{Tree, chain}
use Rattle.cv_meaning.specs.Interpretation.{Setting}
use Rattle.cv_meaning.specs.Memory.{Indices, Store}
use Rattle.cv_meaning.specs.Side.{CallNumber, OracleCall}
use Rattle.cv_meaning.specs.Tapes.{Key_at, Made_at, Tape}
use Rattle.cv_meaning.specs.Terms.{found_in, value, values}
use Rattle.cv_meaning.specs.contexts.Groups.{Function}
use Rattle.cv_scene.specs.Instances.{Instance}

-- each coin's term has the value that is drawn for the coin at the call
abbrev pub AreDrawn : Setting → Indices → Store → Tape → CallNumber → List (ℕ × ℕ) → List Tree → Type 0
AreDrawn g at m t n [] [] = Unit {0}
AreDrawn g at m t n (x ∷ xs) (c ∷ cs) = (value g at m c ≡ t (Made_at x.0 n.tuple n.site)) × AreDrawn g at m t n xs cs
AreDrawn g at m t n xs cs = ⊥

-- as many names as terms
abbrev pub AreAsMany : List (ℕ × ℕ) → List Tree → Type 0
AreAsMany [] [] = Unit {0}
AreAsMany (x ∷ xs) (m ∷ ms) = AreAsMany xs ms
AreAsMany xs ms = ⊥

pub record HasValuesOf (g : Setting) (at : Indices) (m : Store) (t : Tape) (f : Function) (I : Instance) (call : OracleCall) : Type 0 where
  pub key : value g at m I.key ≡ t (Key_at call.key)
  pub coins : AreDrawn g at m t call.number f.coins I.coins
  pub many : AreAsMany f.arguments I.arguments
  pub arguments : values g at m (chain I.arguments) ≡ call.arguments

-- no current index is a constant
abbrev pub HasNoConstant : Setting → Indices → Type 0
HasNoConstant g at = (x : ℕ) → g.is_constant x ≡ true → found_in at x ≡ None
