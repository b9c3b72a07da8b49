-- What a query asks for has values of a type, so it is a variable, and no index.
use Rattle.std.proofs.Common.{◌≡◌, ℕ, Bool, true, false, List, [], ◌∷◌, inl, inr, is_some, refl, ap, subst, eqb-true}
use Rattle.std.proofs.lemmas.Bool.{both_ways, or_cases, or_left}
use Rattle.std.specs.List.{list_any}
use Rattle.cv_syntax_trees.specs.declared.head.Head.TheVariants.{Secret, SecretOnce}
use Rattle.cv_syntax_trees.specs.Declarations.{Declaration}
use Rattle.cv_syntax_trees.specs.Tree.{Tree, Empty, Node}
use Rattle.cv_syntax_trees.specs.sites.Sites.{first_site, is_untyped_in}
use Rattle.cv_meaning.specs.Queries.{queries_in}
use Rattle.cv_query_form.specs.Rules.{AreAsked, HasValues, MayBeAsked}
use Rattle.cv_scope_rules.specs.Scope.{IsScoped, is_variable, names_of}
use Rattle.cv_scope_rules.specs.Standing.{at_root}
use Rattle.cv_scene.specs.Scenes.{Scene, asks_for}
use Rattle.cv_scene.specs.Terms.{has_index}
use Rattle.cv_context.proofs.indices.Replications.{all_new}
use Rattle.cv_context_right_side.proofs.texts.Names.{index_no_variable}
use Rattle.cv_steps.specs.Asked.{AskForNoIndex}

secret_valued : (game : Tree) (x : ℕ) (q : Tree) → asks_for x q ≡ true → MayBeAsked game q → HasValues game x
unfolding MayBeAsked
secret_valued game x (Node (Secret y) Empty Empty) e m = subst (HasValues game) (eqb-true y x e) m
secret_valued game x (Node (SecretOnce y) Empty Empty) e m = subst (HasValues game) (eqb-true y x e) m
secret_valued game x (Node (Secret y) a b) e m = absurd m
secret_valued game x (Node (SecretOnce y) a b) e m = absurd m
secret_valued game x q e m = absurd (both_ways false refl e)

queried_valued : (game : Tree) (x : ℕ) (queries : List Tree) → AreAsked game queries → list_any (asks_for x) queries ≡ true → HasValues game x
queried_valued game x [] m e = absurd (both_ways false refl e)
queried_valued game x (q ∷ queries) m e = elim (or_cases (asks_for x q) (list_any (asks_for x) queries) e) as (λ _. HasValues game x) [
  | inl i ↦ secret_valued game x q i m.0
  | inr i ↦ queried_valued game x queries m.1 i
]

valued_variable : (game : Tree) (x : ℕ) → HasValues game x → is_variable game x ≡ true
valued_variable game x v = or_left (is_some (first_site x [] game)) (is_untyped_in x game) (ap is_some v.site)

-- a variable is no index
pub variable_no_index : (ds : List Declaration) (game : Tree) (x : ℕ) → IsScoped ds game → is_variable game x ≡ true → has_index game x ≡ false
variable_no_index ds game x scoped variable = go (has_index game x) refl
  where
    go : (b : Bool) → has_index game x ≡ b → b ≡ false
    go false i = refl
    go true i = absurd (both_ways (is_variable game x) (index_no_variable (is_variable game) x game (all_new (names_of ds game) at_root game scoped) i) variable)

pub asked_no_index : (s : Scene) → IsScoped s.declarations s.game → AreAsked s.game (queries_in s.declarations) → AskForNoIndex s
asked_no_index s scoped asked x e = variable_no_index s.declarations s.game x scoped (valued_variable s.game x (queried_valued s.game x (queries_in s.declarations) asked e))
