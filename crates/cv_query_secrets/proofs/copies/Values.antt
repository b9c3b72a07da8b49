-- The values of terms where the indices of two copies are current.
use Rattle.std.proofs.Common.{◌≡◌, ℕ, true, false, ◌&&◌, List, [], ◌∷◌, ◌++◌, map, Some, refl, sym, ap, ap₂, subst, ◌∙◌}
use Rattle.std.proofs.lemmas.Bool.{and_parts, both_ways}
use Rattle.std.specs.List.{AllByRecursion}
use Rattle.cv_syntax_trees.specs.declared.head.Head.TheVariants.{Cons, Leaf, Read}
use Rattle.cv_syntax_trees.specs.Tree.{Tree, Empty, Node, chain, first}
use Rattle.cv_meaning.specs.Interpretation.{Interpretation, Setting, setting_of}
use Rattle.cv_meaning.specs.Memory.{Indices, Memory, tuple}
use Rattle.cv_meaning.specs.Satisfies.{Satisfies}
use Rattle.cv_meaning.specs.Terms.{found_in, leaf_value_from, value, values}
use Rattle.cv_scope_rules.specs.Behind.{sites_of}
use Rattle.cv_scope_rules.specs.Context.{items}
use Rattle.cv_scope_rules.specs.Phrases.{Nil, Term, is_phrase}
use Rattle.cv_scope_runs.specs.Promises.{AreIndicesOf}
use Rattle.cv_typing_runs.proofs.Terms.{nil_empty}
use Rattle.cv_derive_facts.specs.Definitions.{IsBehind}
use Rattle.cv_scene.specs.Late.{index_term}
use Rattle.cv_scene.specs.Pairs.{of_second, second_index, second_indices}
use Rattle.cv_scene.specs.Scenes.{Scene}
use Rattle.cv_scene.specs.Sights.{is_cell_at}
use Rattle.cv_scene.specs.Terms.{is_term_at, is_there, replications_at}
use Rattle.cv_derive_laws.specs.reached.Copies.{AreReached, both_copies}
use Rattle.cv_derive_laws.specs.reached.Fine.{IsFineTerm, IsNamed}
use Rattle.cv_derive_laws.specs.stores.Holding.{IsReady}
use Rattle.cv_derive_laws.specs.stores.Truth.{AreOver, IsOver}
use Rattle.cv_derive_laws.proofs.reached.Copies as copies
use Rattle.cv_derive_laws.proofs.reached.Copies.{found_first, value_same}
use Rattle.cv_derive_laws.proofs.reached.Leaves.{sorted_fine}
use Rattle.cv_derive_laws.proofs.reached.Reached as reached
use Rattle.cv_derive_laws.proofs.stores.Terms.{term_sorted}

-- what terms at places name

pub term_fine : (s : Scene) → IsReady s.declarations s.game → (place : ℕ) (term : Tree) → is_term_at s place term ≡ true → IsFineTerm s.declarations s.game (replications_at s place) term
term_fine s ready place t e =
    let r = term_sorted s (replications_at s place) t ready.arguments ready.formed e in
    sorted_fine s.declarations s.game (replications_at s place) t _ (and_parts (is_phrase Term t) _ e).0 r.2

each_fine : (L : ℕ → Type 0) (R : Type 0) (t : Tree) → AreOver L R t → AllByRecursion (IsOver L R) (items t)
each_fine L R Empty o = tt
each_fine L R (Node Cons a b) o = (o.0, each_fine L R b o.1)
each_fine L R (Node h a b) o = absurd o

pub cell_fine : (s : Scene) → IsReady s.declarations s.game → (place : ℕ) (cell : Tree) → is_cell_at s place cell ≡ true → AllByRecursion (IsFineTerm s.declarations s.game (replications_at s place)) (items (first cell))
unfolding is_phrase is_there
cell_fine s ready place Empty e = tt
cell_fine s ready place (Node (Leaf x) a b) e =
    subst (λ t. AllByRecursion (IsFineTerm s.declarations s.game (replications_at s place)) (items t)) (sym (nil_empty a (and_parts (is_phrase Nil a) (is_phrase Nil b) (and_parts (is_phrase Nil a && is_phrase Nil b) _ e).0).0)) tt
cell_fine s ready place (Node (Read x) a b) e = each_fine (IsNamed s.declarations s.game (replications_at s place)) (Unit {0}) a (term_fine s ready place (Node (Read x) a b) e).1
cell_fine s ready place (Node h a b) e = absurd (both_ways false refl e)

-- their values at both copies

module _ (s : Scene) (i : Interpretation) (ready : IsReady s.declarations s.game) (model : Satisfies s.declarations i) (behind : (y : ℕ) → AllByRecursion (IsBehind s.game) (sites_of s.game y)) (p q k : ℕ) (at other : Indices) (x : Memory) (r : AreReached s i p q k at other x) where
  abbrev g : Setting
  g = setting_of s.declarations i

  abbrev both : Indices
  both = both_copies k at other

  pub first_value : (t : Tree) → IsFineTerm s.declarations s.game (replications_at s p) t → value g both x.store t ≡ value g at x.store t
  first_value t f =
      value_same g both at x.store (IsNamed s.declarations s.game r.first.context.replications) (Unit {0}) (copies.leaf s i ready model behind p q k at other x r) t
      (subst (λ rs. IsFineTerm s.declarations s.game rs t) (sym (copies.first_known s i ready model behind p q k at other x r)) f)

  pub second_value : (t : Tree) → IsFineTerm s.declarations s.game (replications_at s q) t → value g both x.store (of_second k (replications_at s q) t) ≡ value g other x.store t
  second_value t f =
      let known = copies.second_known s i ready model behind p q k at other x r in
      let Δ = r.second.context in
      subst (λ rs. value g both x.store (of_second k rs t) ≡ value g other x.store t) known
      (reached.term_value s i ready model behind both (replications_at s p ++ second_indices k (replications_at s q)) x.store x.store (copies.indices s i ready model behind p q k at other x r) (copies.constant_none s i ready model behind p q k at other x r)
      (copies.variable_none s i ready model behind p q k at other x r) r.first.types q Δ (copies.fine s i ready model behind p q k at other x r q Δ r.second.known) r.second.known other (copies.second_stands s i ready model behind p q k at other x r)
      (copies.terms s i ready model behind p q k at other x r) (copies.same s i ready model behind p q k at other x r) t (subst (λ rs. IsFineTerm s.declarations s.game rs t) (sym known) f))

  index_value : (c d : ℕ × ℕ) → c.0 ≡ d.0 → found_in at c.0 ≡ Some c.1 → value g both x.store (index_term d) ≡ c.1
  unfolding value
  index_value c d e f = ap (leaf_value_from g x.store d.0) (found_first at (map (second_index k) other) d.0 c.1 (ap (found_in at) (sym e) ∙ f))

  index_values : (a : Indices) (rs : List (ℕ × ℕ)) → AreIndicesOf g a rs → AllByRecursion (λ (c : ℕ × ℕ). found_in at c.0 ≡ Some c.1) a → values g both x.store (chain (map index_term rs)) ≡ tuple a
  unfolding values
  index_values [] [] h f = refl
  index_values [] (d ∷ rs) h f = absurd h
  index_values (c ∷ a) [] h f = absurd h
  index_values (c ∷ a) (d ∷ rs) h f = ap₂ ◌∷◌ (index_value c d h.0 f.0) (index_values a rs h.2 f.1)

  pub first_indices_values : AllByRecursion (λ (c : ℕ × ℕ). found_in at c.0 ≡ Some c.1) at → values g both x.store (chain (map index_term (replications_at s p))) ≡ tuple at
  first_indices_values f = index_values at (replications_at s p) (subst (AreIndicesOf g at) (copies.first_known s i ready model behind p q k at other x r) (copies.first_stands s i ready model behind p q k at other x r).indices) f

  pub second_indices_values : values g both x.store (chain (map index_term (second_indices k (replications_at s q)))) ≡ tuple other
  second_indices_values =
      subst (λ rs. values g both x.store (chain (map index_term (second_indices k rs))) ≡ tuple other) (copies.second_known s i ready model behind p q k at other x r) (copies.same s i ready model behind p q k at other x r)
