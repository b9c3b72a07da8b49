-- The names that a game reads, one by one.
use Rattle.std.proofs.Common.{◌≡◌, ℕ, Bool, true, ◌||◌, ◌⊎◌, inl, inr, is_some}
use Rattle.std.proofs.lemmas.Bool.{and_parts}
use Rattle.cv_syntax_trees.specs.declared.head.Head.{Head}
use Rattle.cv_syntax_trees.specs.declared.head.Head.TheVariants.{Apply, Leaf, Read}
use Rattle.cv_syntax_trees.specs.Declarations.{Declaration}
use Rattle.cv_syntax_trees.specs.Tree.{Tree, Empty, Node}
use Rattle.std.specs.Prelude.{List}
use Rattle.cv_meaning_laws.specs.adequacy.Typed.{Scope}
use Rattle.cv_scope_rules.specs.Context.{replications_below}
use Rattle.cv_scope_rules.specs.Rules.{is_index}
use Rattle.cv_scope_rules.specs.typing.Signature.{function_in}
use Rattle.cv_typing_runs.specs.Games.{are_known, is_known}
use Rattle.cv_syntax_trees.proofs.lists.Tests.{or_cases}

abbrev pub IsKnown : List Declaration → (variable : ℕ → Bool) → Scope → Head → Type 0
IsKnown ds variable rs (Leaf x) = (is_index rs x ≡ true) ⊎ ((is_some (function_in ds x) ≡ true) ⊎ (variable x ≡ true))
IsKnown ds variable rs (Read x) = variable x ≡ true
IsKnown ds variable rs (Apply f) = is_some (function_in ds f) ≡ true
IsKnown ds variable rs h = Unit {0}

unfoldable pub AreKnown : List Declaration → (variable : ℕ → Bool) → Scope → Tree → Type 0
AreKnown ds variable rs Empty = Unit {0}
AreKnown ds variable rs (Node h a b) = IsKnown ds variable rs h × AreKnown ds variable rs a × AreKnown ds variable (replications_below h rs) b

head_known : (ds : List Declaration) (variable : ℕ → Bool) (rs : Scope) (h : Head) → is_known ds variable rs h ≡ true → IsKnown ds variable rs h
head_known ds variable rs (Leaf x) e = go (or_cases (is_index rs x) _ e)
  where
    go : (is_index rs x ≡ true) ⊎ ((is_some (function_in ds x) || variable x) ≡ true) → IsKnown ds variable rs (Leaf x)
    go (inl i) = inl i
    go (inr i) = inr (or_cases (is_some (function_in ds x)) (variable x) i)
head_known ds variable rs (Read x) e = e
head_known ds variable rs (Apply f) e = e
head_known ds variable rs h e = tt

pub names_known : (ds : List Declaration) (variable : ℕ → Bool) (rs : Scope) (t : Tree) → are_known ds variable rs t ≡ true → AreKnown ds variable rs t
unfolding are_known AreKnown
names_known ds variable rs Empty e = tt
names_known ds variable rs (Node h a b) e =
    let p = and_parts (is_known ds variable rs h) _ e in
    let q = and_parts (are_known ds variable rs a) _ p.1 in
    (head_known ds variable rs h p.0, names_known ds variable rs a q.0, names_known ds variable (replications_below h rs) b q.1)
