-- What the grammar gives of the left side of an equivalence: one key, and bodies that are terms as soon as they begin as terms.
-- This profile's own.
use Rattle.std.specs.Prelude.{◌≡◌, Bool, true, not, ◌||◌}
use Rattle.cv_syntax_trees.specs.Tree.{Tree, second}
use Rattle.cv_meaning.specs.contexts.Groups.{Left}
use Rattle.cv_scope_rules.specs.Phrases.{Term, is_phrase}
use Rattle.cv_group_rules.specs.Rules.{each_function, functions_in, is_one_binder, is_term, key_in}

abbrev pub is_whole : Tree → Bool
is_whole body = not (is_term body) || is_phrase Term body

pub record HasLeftForm (equivalence : Tree) : Type 0 where
  pub key : is_one_binder (key_in Left equivalence) ≡ true
  pub bodies : each_function (λ f. is_whole (second f)) (functions_in Left equivalence) ≡ true
