-- Facts of the values of an array, and terms that keep their values where such a fact holds. This profile's own.
use Rattle.std.specs.Prelude.{◌≡◌, ℕ, Bool, true, List, Some, None}
use Rattle.cv_syntax_trees.specs.Tree.{Tree}
use Rattle.cv_meaning.specs.Interpretation.{Setting}
use Rattle.cv_meaning.specs.Memory.{Indices, Store}
use Rattle.cv_meaning.specs.Serving.{Visit}
use Rattle.cv_meaning.specs.Terms.{found_in, value}
use Rattle.cv_scope_rules.specs.Context.{Context, known_at}
use Rattle.cv_scope_rules.specs.Scope.{is_variable}
use Rattle.cv_scope_runs.specs.Promises.{AreIndicesOf}
use Rattle.cv_scope_runs.specs.Reads.{TermAssigned}
use Rattle.cv_scene.specs.Scenes.{part_at}

-- the fact holds before the visit
abbrev pub HoldsIn : (Store → Type 0) → Visit → Type 0
HoldsIn P v = P v.before.memory.store

-- the fact is one of the values of the variable alone
abbrev pub IsOfArray : ℕ → (Store → Type 0) → Type 0
IsOfArray y P = (m n : Store) → ((w : List ℕ) → n y w ≡ m y w) → P m → P n

-- At each of the places a term has its value with what is put there, at current indices, in a store where each value that it reads is
-- assigned and the fact holds; no variable of the game is an index there.
abbrev pub KeepsValues : Setting → (game : Tree) → (places : ℕ → Bool) → (Tree → Tree) → (Store → Type 0) → Type 0
KeepsValues g game places change P =
    (p : ℕ) → places p ≡ true → (Γ : Context) → known_at game p ≡ Some Γ → (at : Indices) (m : Store) → AreIndicesOf g at Γ.replications →
    ((y : ℕ) → is_variable game y ≡ true → found_in at y ≡ None) → TermAssigned g at m (part_at game p) → P m →
    value g at m (part_at game p) ≡ value g at m (change (part_at game p))
