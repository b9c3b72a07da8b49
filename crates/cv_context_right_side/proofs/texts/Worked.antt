-- The names of the small protocol are those of its game.
use Rattle.std.proofs.Common.{◌≡◌, ℕ, Bool, true, false, cond, ◌==◌, [], refl, ap, ◌∙◌, eqb-true}
use Rattle.std.proofs.lemmas.Bool.{both_ways}
use Rattle.cv_syntax.specs.faults.Walk.{first_fault}
use Rattle.cv_syntax_trees.specs.Tree.{same_tree, size}
use Rattle.cv_syntax_trees.specs.sites.Sites.{bound_sort, first_site, is_untyped_in}
use Rattle.cv_meaning.specs.Interpretation.{Interpretation}
use Rattle.cv_syntax_trees.specs.sites.Counting.{count}
use Rattle.cv_scope_rules.specs.Made.{is_bound}
use Rattle.cv_scope_rules.specs.Phrases.{IsWellFormed, binds_none, is_phrase}
use Rattle.cv_scope_rules.specs.Scope.{names_of}
use Rattle.cv_scope_rules.specs.Sites.{sites_from}
use Rattle.cv_scope_rules.specs.Standing.{at_root}
use Rattle.cv_scope_rules.proofs.First.{scoped_where_none}
use Rattle.cv_scene.specs.Scenes.{names}
use Rattle.cv_scene.specs.Refusals.{definitions_in, new_of}
use Rattle.cv_match_laws.specs.Worked.{game}
use Rattle.cv_meaning.specs.contexts.Roles.{Gone, TheKeyName}
use Rattle.cv_context_right_side.specs.texts.SiteTexts.{IsTextOfGame, indices_of, role_in_game}
use Rattle.cv_context_right_side.specs.texts.Tagging.{declarations, tagging}
use Rattle.cv_context_right_side.specs.texts.Worked.{tagged_role, tagged_text}
use Rattle.cv_context_right_side.proofs.texts.Roles.{roles_of_indices, roles_of_names}

formed : IsWellFormed declarations (game [])
unfolding first_fault sites_from same_tree size first_site bound_sort count is_untyped_in is_phrase binds_none
formed = record { scoped = scoped_where_none (names_of declarations (game [])) at_root (game []) refl; phrase = refl; constants = refl }

unnamed : (names 90 (game []) ≡ false) × (names 80 (game []) ≡ false)
unfolding names
unnamed = (refl, refl)

no_indices : 0 ≡ indices_of (new_of (game []) 40)
unfolding definitions_in is_bound
no_indices = refl

is_drawn : (y : ℕ) → (y == 90) ≡ true → names y (game []) ≡ false
is_drawn y e = ap (λ x. names x (game [])) (eqb-true y 90 e) ∙ unnamed.0

is_answer : (y : ℕ) → (y == 80) ≡ true → names y (game []) ≡ false
is_answer y e = ap (λ x. names x (game [])) (eqb-true y 80 e) ∙ unnamed.1

named : (x : ℕ) → names x (game []) ≡ true → tagged_role x ≡ role_in_game tagging x
named x n = go (x == 90) refl (x == 80) refl
  where
    go : (b : Bool) → (x == 90) ≡ b → (c : Bool) → (x == 80) ≡ c → cond b TheKeyName (cond c Gone (role_in_game tagging x)) ≡ role_in_game tagging x
    go true e c f = absurd (both_ways (names x (game [])) (is_drawn x e) n)
    go false e true f = absurd (both_ways (names x (game [])) (is_answer x f) n)
    go false e false f = refl

pub tagged : (i : Interpretation) → IsTextOfGame (tagged_text i) tagging
tagged i = record {
  constants = refl;
  drawn = is_drawn;
  roles = roles_of_names tagging formed (tagged_text i) named (λ l e w. refl);
  indices = roles_of_indices tagging formed (tagged_text i) named;
  key_length = no_indices;
}
