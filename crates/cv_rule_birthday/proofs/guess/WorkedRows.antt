-- The rows in small games are those that are said.
use Rattle.std.proofs.Common.{◌≡◌, refl}
use Rattle.std.specs.List.{AllByRecursion}
use Rattle.cv_syntax_trees.specs.Tree.{size, subtree}
use Rattle.cv_syntax_trees.specs.sites.Sites.{bound_sort, first_site}
use Rattle.cv_path.specs.Copies.{copies_at, parameters}
use Rattle.cv_scope_rules.specs.Made.{is_bound}
use Rattle.cv_scene.specs.Scenes.{names}
use Rattle.cv_meaning.specs.Queries.{queries_in}
use Rattle.cv_steps.specs.Rewriting.{has_term_at}
use Rattle.cv_scene.specs.Large.{first_other_site}
use Rattle.cv_rule_birthday.specs.guess.Guessing.{falsified, first_read}
use Rattle.cv_rule_birthday.specs.guess.Worked.{accepted, judged, refused}

pub of_accepted : AllByRecursion (λ c. judged c.0 c.1 c.2 ≡ c.3) accepted
unfolding size subtree bound_sort first_site copies_at parameters is_bound names queries_in has_term_at falsified first_other_site first_read
of_accepted = (refl, (refl, (refl, (refl, (refl, (refl, (refl, (refl, (refl, tt)))))))))

pub of_refused : AllByRecursion (λ c. judged c.0 c.1 c.2 ≡ c.3) refused
unfolding size subtree bound_sort first_site copies_at parameters is_bound names queries_in has_term_at falsified first_other_site first_read
of_refused = (refl, (refl, (refl, (refl, (refl, (refl, (refl, (refl, (refl, (refl, (refl, (refl, (refl, (refl, (refl, (refl, (refl, (refl, tt))))))))))))))))))
