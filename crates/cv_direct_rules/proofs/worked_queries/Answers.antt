use Rattle.std.proofs.Common.{◌≡◌, inl, inr, ℕ, true, false, List, [], ◌∷◌, refl, arith}
use Rattle.cv_syntax_trees.specs.declared.head.Head.TheVariants.{Eq}
use Rattle.cv_syntax_trees.specs.Tree.{Node, chain, size, subtree, same_tree, reads_only}
use Rattle.cv_syntax_trees.specs.Builders.{leaf}
use Rattle.cv_meaning.specs.Correspondences.{Atom, RightEvent, RightTerm}
use Rattle.cv_scope_rules.specs.Above.{standing_at}
use Rattle.cv_scope_rules.specs.Behind.{sites_in}
use Rattle.cv_scope_rules.specs.Context.{context_at}
use Rattle.cv_scope_rules.specs.Made.{is_bound}
use Rattle.cv_scene.specs.Scenes.{has_some_new}
use Rattle.cv_scene.specs.lines.Given.{with_given}
use Rattle.cv_meaning.specs.Queries.{queries_in}
use Rattle.cv_query_certificates.specs.EventNodes.{event_places}
use Rattle.cv_query_certificates.specs.Secrets.{first_definition_but, first_other_read, sources}
use Rattle.cv_query_certificates.specs.Worked.{x, xu, au, b}
use Rattle.cv_settling_rules.specs.Conjuncts.{parts_of}
use Rattle.cv_direct_rules.specs.Linked.{alike, back, forth}
use Rattle.cv_direct_rules.proofs.worked_queries.Goals as goal

some_none : (x : ℕ × ℕ) (xs : List (ℕ × ℕ)) → ◌≡◌ {A = List (ℕ × ℕ)} (x ∷ xs) [] → ⊥
some_none x xs e = cc

abbrev begins : List (ℕ × Atom)
begins = (1, RightEvent false 11 (chain (leaf 21 ∷ []))) ∷ []

pub returns-clause-above : goal.returns-clause-above
unfolding size subtree same_tree reads_only event_places standing_at sites_in context_at is_bound with_given parts_of first_definition_but first_other_read has_some_new sources queries_in
returns-clause-above c = record {
  known = refl;
  places = inr (refl, begins, record { there = (0, omega arith, refl); met = (inl (record { node = 2; above = refl; equal = (alike x, tt); copies = λ e. refl }), tt); apart = refl }, tt);
}

abbrev begins_once : List (ℕ × Atom)
begins_once = (1, RightEvent true 11 (chain (leaf 21 ∷ []))) ∷ []

pub returns-clause-once : goal.returns-clause-once
unfolding size subtree same_tree reads_only event_places standing_at sites_in context_at is_bound with_given parts_of first_definition_but first_other_read has_some_new sources queries_in
returns-clause-once c = record {
  known = refl;
  places = inr (refl, begins_once, record { there = (0, omega arith, refl); met = (inl (record { node = 2; above = refl; equal = (alike x, tt); copies = λ e. refl }), tt); apart = refl }, tt);
}

pub returns-clause-joined : goal.returns-clause-joined
unfolding size subtree same_tree reads_only event_places standing_at sites_in context_at is_bound with_given parts_of first_definition_but first_other_read has_some_new sources queries_in
returns-clause-joined c = record {
  known = refl;
  places = inr (refl, begins, record { there = (0, omega arith, refl); met = (inl (record { node = 2; above = refl; equal = (back (leaf 9) (leaf 4) (leaf 4) refl (alike (leaf 4)), tt); copies = λ e. refl }), tt); apart = refl }, tt);
}

pub returns-clause-cell : goal.returns-clause-cell
unfolding size subtree same_tree reads_only event_places standing_at sites_in context_at is_bound with_given parts_of first_definition_but first_other_read has_some_new sources queries_in
returns-clause-cell c = record {
  known = refl;
  places = inr (refl, begins, record { there = (0, omega arith, refl); met = (inr (record { cell = xu; here = refl; site = _; only = refl; node = 3; above = refl; equal = (back au xu b refl (forth xu b b refl (alike b)), tt); plain = refl }), tt); apart = refl }, tt);
}

pub returns-clause-term : goal.returns-clause-term
unfolding size subtree same_tree reads_only event_places standing_at sites_in context_at is_bound with_given parts_of first_definition_but first_other_read has_some_new sources queries_in
returns-clause-term c = record {
  known = refl;
  places = inr (refl, ((1, RightTerm (Node Eq (leaf 21) (leaf 21))) ∷ []), record { there = (0, omega arith, refl); met = (alike x, tt); apart = refl }, tt);
}

pub returns-clause-never : goal.returns-clause-never
unfolding size subtree same_tree reads_only event_places standing_at sites_in context_at is_bound with_given parts_of first_definition_but first_other_read has_some_new sources queries_in
returns-clause-never c = record { known = refl; places = inl (refl, tt) }

pub returns-clause-opposed : goal.returns-clause-opposed
unfolding size subtree same_tree reads_only event_places standing_at sites_in context_at is_bound with_given parts_of first_definition_but first_other_read has_some_new sources queries_in
returns-clause-opposed c = record { known = refl; places = inl (refl, tt) }

pub returns-clause-chosen : goal.returns-clause-chosen
unfolding size subtree same_tree reads_only event_places standing_at sites_in context_at is_bound with_given parts_of first_definition_but first_other_read has_some_new sources queries_in
returns-clause-chosen c = record { chosen = refl; unread = refl }

pub returns-clause-copied : goal.returns-clause-copied
unfolding size subtree same_tree reads_only event_places standing_at sites_in context_at is_bound with_given parts_of first_definition_but first_other_read has_some_new sources queries_in
returns-clause-copied c = inr (record { copies = refl; unread = refl })

pub returns-clause-alone : goal.returns-clause-alone
unfolding size subtree same_tree reads_only event_places standing_at sites_in context_at is_bound with_given parts_of first_definition_but first_other_read has_some_new sources queries_in
returns-clause-alone c = λ d. some_none _ _ d.known
