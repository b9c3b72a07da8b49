-- What a derivation at two places says is true of two copies that were reached.
use Rattle.std.proofs.Common.{◌≡◌, ℕ, ◌+◌, ◌<◌, Bool, true, false, cond, ◌&&◌, ◌||◌, ◌==◌, not, List, [], ◌∷◌, ◌++◌, map, inl, inr, Option, Some, None, is_some, refl, sym, ap, ap₂, subst, ◌∙◌, arith, eqb-true, eq-eqb, ne_eqb}
use Rattle.std.proofs.lemmas.Bool.{both_ways}
use Rattle.std.specs.List.{AllByRecursion}
use Rattle.cv_syntax_trees.specs.declared.head.Head.TheVariants.{Leaf, Read, Apply, Eq, And, Or, Not, Yes, No, Cons}
use Rattle.cv_syntax_trees.specs.Tree.{Tree, Empty, Node, chain}
use Rattle.cv_meaning.specs.Interpretation.{Interpretation, Setting, is_constant_of, setting_of}
use Rattle.cv_meaning.specs.Memory.{Indices, Memory, Store, tuple}
use Rattle.cv_meaning.specs.Terms.{bit, found_in, is_one, leaf_value_from, or_zero, value, values}
use Rattle.cv_meaning.specs.Candidates.{is_assigned}
use Rattle.cv_meaning.specs.Satisfies.{Satisfies}
use Rattle.cv_scope_rules.specs.Above.{stands_at}
use Rattle.cv_scope_rules.specs.Behind.{sites_of}
use Rattle.cv_scope_rules.specs.Context.{Context}
use Rattle.cv_scope_rules.specs.Rules.{is_index}
use Rattle.cv_scope_rules.specs.Scope.{is_variable}
use Rattle.cv_scope_runs.specs.Promises.{AreIndicesOf}
use Rattle.cv_scope_runs.proofs.Contexts.{index_none}
use Rattle.cv_typing_runs.proofs.Games.{typed}
use Rattle.cv_derive_facts.specs.Definitions.{IsBehind}
use Rattle.cv_scene.specs.lines.Lines.{lines_of, statements}
use Rattle.cv_scene.specs.Derivations.{Derives}
use Rattle.cv_scene.specs.Late.{index_term}
use Rattle.cv_scene.specs.Pairs.{all_of_second, pair_at, second_index, second_indices}
use Rattle.cv_scene.specs.Scenes.{Scene}
use Rattle.cv_scene.specs.Sights.{cells_by, facts_by}
use Rattle.cv_scene.specs.Terms.{replications_at}
use Rattle.cv_derive_laws.specs.reached.Copies.{AreReached, both_copies}
use Rattle.cv_derive_laws.specs.reached.Fine.{IsFine, IsFineCell, IsFineTerm, IsNamed}
use Rattle.cv_derive_laws.specs.stores.Holding.{IsReady}
use Rattle.cv_derive_laws.specs.stores.Truth.{AreApart, AreAssigned, AreOver, AreTrue, IsOver, IsTrue, WasReached}
use Rattle.cv_derive_laws.proofs.Blocks.{derivation_holds}
use Rattle.cv_derive_laws.proofs.reached.Reached as reached
use Rattle.cv_derive_laws.proofs.reached.Reached.{index_value}
use Rattle.cv_derive_laws.proofs.reached.Walks.{places_fine}
use Rattle.cv_derive_laws.proofs.reached.Targets.{ends_hold}

-- names in two lists of indices

pub found_first : (a b : Indices) (x v : ℕ) → found_in a x ≡ Some v → found_in (a ++ b) x ≡ Some v
found_first [] b x v e = absurd (cc)
found_first (c ∷ a) b x v e = go (c.0 == x) e (found_first a b x v)
  where
    go : (t : Bool) → cond t (Some c.1) (found_in a x) ≡ Some v → (found_in a x ≡ Some v → found_in (a ++ b) x ≡ Some v) → cond t (Some c.1) (found_in (a ++ b) x) ≡ Some v
    go true e f = e
    go false e f = f e

found_behind : (a b : Indices) (x : ℕ) → found_in a x ≡ None → found_in (a ++ b) x ≡ found_in b x
found_behind [] b x e = refl
found_behind (c ∷ a) b x e = go (c.0 == x) e (found_behind a b x)
  where
    go : (t : Bool) → cond t (Some c.1) (found_in a x) ≡ None → (found_in a x ≡ None → found_in (a ++ b) x ≡ found_in b x) → cond t (Some c.1) (found_in (a ++ b) x) ≡ found_in b x
    go true e f = absurd (cc)
    go false e f = f e

indices_append : (g : Setting) (a b : Indices) (rs qs : List (ℕ × ℕ)) → AreIndicesOf g a rs → AreIndicesOf g b qs → AreIndicesOf g (a ++ b) (rs ++ qs)
indices_append g [] b [] qs h k = k
indices_append g [] b (r ∷ rs) qs h k = absurd h
indices_append g (c ∷ a) b [] qs h k = absurd h
indices_append g (c ∷ a) b (r ∷ rs) qs h k = (h.0, h.1, indices_append g a b rs qs h.2 k)

-- the names of the second copy

module _ (k : ℕ) where
  second_indices_are : (g : Setting) (a : Indices) (rs : List (ℕ × ℕ)) → AreIndicesOf g a rs → AreIndicesOf g (map (second_index k) a) (second_indices k rs)
  second_indices_are g [] [] h = tt
  second_indices_are g [] (r ∷ rs) h = absurd h
  second_indices_are g (c ∷ a) [] h = absurd h
  second_indices_are g (c ∷ a) (r ∷ rs) h = (ap (λ x. x + k) h.0, h.1, second_indices_are g a rs h.2)

  second_none : (a : Indices) (x : ℕ) → x < k → found_in (map (second_index k) a) x ≡ None
  second_none [] x l = refl
  second_none (c ∷ a) x l = ap (λ t. cond t (Some c.1) (found_in (map (second_index k) a) x)) (ne_eqb (c.0 + k) x (λ e. omega arith)) ∙ second_none a x l

  same_test : (x y : ℕ) → (x + k == y + k) ≡ (x == y)
  same_test x y = go (x == y) refl
    where
      go : (t : Bool) → (x == y) ≡ t → (x + k == y + k) ≡ (x == y)
      go true e = ap (λ z. z + k == y + k) (eqb-true x y e) ∙ (eq-eqb (y + k) (y + k) refl ∙ sym e)
      go false e = ne_eqb (x + k) (y + k) (λ f. let same : x ≡ y = omega arith in both_ways false refl (sym e ∙ eq-eqb x y same)) ∙ sym e

  second_found : (a : Indices) (x : ℕ) → found_in (map (second_index k) a) (x + k) ≡ found_in a x
  second_found [] x = refl
  second_found (c ∷ a) x = ap₂ (λ t o. cond t (Some c.1) o) (same_test c.0 x) (second_found a x)

-- a term has one value where its names have one

module _ (g : Setting) (a b : Indices) (n : Store) (L : ℕ → Type 0) (R : Type 0) (leaves : (x : ℕ) → L x → leaf_value_from g n x (found_in a x) ≡ leaf_value_from g n x (found_in b x)) where
  mutual
    unfolding value

    pub value_same : (t : Tree) → IsOver L R t → value g a n t ≡ value g b n t
    value_same Empty o = absurd o
    value_same (Node (Leaf x) c d) o = leaves x o
    value_same (Node (Read x) c d) o = ap (λ u. or_zero (n x u)) (values_same c o.1)
    value_same (Node (Apply f) c d) o = ap (g.interpretation.table f) (values_same c o)
    value_same (Node Eq c d) o = ap₂ (λ x y. bit (x == y)) (value_same c o.0) (value_same d o.1)
    value_same (Node And c d) o = ap₂ (λ x y. bit (is_one x && is_one y)) (value_same c o.0) (value_same d o.1)
    value_same (Node Or c d) o = ap₂ (λ x y. bit (is_one x || is_one y)) (value_same c o.0) (value_same d o.1)
    value_same (Node Not c d) o = ap (λ x. bit (not (is_one x))) (value_same c o)
    value_same (Node Yes c d) o = refl
    value_same (Node No c d) o = refl
    value_same (Node h c d) o = absurd o

    pub values_same : (t : Tree) → AreOver L R t → values g a n t ≡ values g b n t
    values_same Empty o = refl
    values_same (Node Cons c d) o = ap₂ ◌∷◌ (value_same c o.0) (values_same d o.1)
    values_same (Node h c d) o = absurd o

module _ (s : Scene) (i : Interpretation) (ready : IsReady s.declarations s.game) (model : Satisfies s.declarations i) (behind : (y : ℕ) → AllByRecursion (IsBehind s.game) (sites_of s.game y)) (p q k : ℕ) (at other : Indices) (x : Memory) (r : AreReached s i p q k at other x) where
  abbrev pub g : Setting
  g = setting_of s.declarations i

  abbrev pub m : Store
  m = x.store

  abbrev pub both : Indices
  both = both_copies k at other

  abbrev pub Γ : Context
  Γ = r.first.context

  abbrev pub Δ : Context
  Δ = r.second.context

  pub first_stands : reached.IsBetween s i ready model behind Γ at m m
  first_stands = reached.one_stands s i ready model behind Γ at x r.first.stands

  pub second_stands : reached.IsBetween s i ready model behind Δ other m m
  second_stands = reached.one_stands s i ready model behind Δ other x r.second.stands

  sites : reached.SitesBetween s i ready model behind m m
  sites = reached.one_sites s i ready model behind x r.first.sites

  pub first_known : Γ.replications ≡ replications_at s p
  first_known = reached.known_there s i ready model behind p Γ at m m r.first.known first_stands sites r.first.types

  pub second_known : Δ.replications ≡ replications_at s q
  second_known = reached.known_there s i ready model behind q Δ other m m r.second.known second_stands sites r.first.types

  pub fine : (p : ℕ) (Γ : Context) → stands_at s.game p ≡ Some Γ → IsFine s.declarations s.game Γ
  fine = places_fine s.declarations s.game ready.formed.phrase (typed s.declarations s.game ready.arguments ready.formed ready.typed ready.names) ready.cells

  pub indices : AreIndicesOf g both (replications_at s p ++ second_indices k (replications_at s q))
  indices =
      indices_append g at (map (second_index k) other) (replications_at s p) (second_indices k (replications_at s q)) (subst (AreIndicesOf g at) first_known first_stands.indices)
      (second_indices_are k g other (replications_at s q) (subst (AreIndicesOf g other) second_known second_stands.indices))

  -- constants and variables are no indices

  first_constant : (y : ℕ) → is_constant_of s.declarations y ≡ true → found_in at y ≡ None
  first_constant = reached.constant_none s i ready model behind p Γ at m m r.first.known first_stands sites r.first.types

  first_variable : (y : ℕ) → is_variable s.game y ≡ true → found_in at y ≡ None
  first_variable = reached.variable_none s i ready model behind p Γ at m m r.first.known first_stands sites r.first.types

  none_of_both : (y : ℕ) → y < k → found_in at y ≡ None → found_in both y ≡ None
  none_of_both y l e = found_behind at (map (second_index k) other) y e ∙ second_none k other y l

  pub constant_none : (y : ℕ) → is_constant_of s.declarations y ≡ true → found_in both y ≡ None
  constant_none y e = none_of_both y (r.above.constants y e) (first_constant y e)

  pub variable_none : (y : ℕ) → is_variable s.game y ≡ true → found_in both y ≡ None
  variable_none y e = none_of_both y (r.above.variables y e) (first_variable y e)

  -- what stands at the first place

  pub leaf : (y : ℕ) → IsNamed s.declarations s.game Γ.replications y → leaf_value_from g m y (found_in both y) ≡ leaf_value_from g m y (found_in at y)
  leaf y (inl e) = go (found_in at y) refl
    where
      go : (o : Option ℕ) → found_in at y ≡ o → leaf_value_from g m y (found_in both y) ≡ leaf_value_from g m y (found_in at y)
      go None f = absurd (index_value g at Γ.replications y first_stands.indices e f)
      go (Some v) f = ap (leaf_value_from g m y) (found_first at (map (second_index k) other) y v f ∙ sym f)
  leaf y (inr (inl e)) = ap (leaf_value_from g m y) (constant_none y e ∙ sym (first_constant y e))
  leaf y (inr (inr e)) = ap (leaf_value_from g m y) (variable_none y e ∙ sym (first_variable y e))

  first_facts : (ts : List Tree) → AllByRecursion (IsFineTerm s.declarations s.game Γ.replications) ts → AreTrue g at m m ts → AreTrue g both m m ts
  first_facts [] f e = tt
  first_facts (t ∷ ts) f e = (value_same g both at m (IsNamed s.declarations s.game Γ.replications) (Unit {0}) leaf t f.0 ∙ e.0, first_facts ts f.1 e.1)

  first_cell : (t : Tree) → IsFineCell s.declarations s.game Γ.replications t → is_assigned g at m m t ≡ true → is_assigned g both m m t ≡ true
  first_cell Empty f e = absurd f
  first_cell (Node (Leaf y) a b) f e = e
  first_cell (Node (Read y) a b) f e = ap (λ u. is_some (m y u)) (values_same g both at m (IsNamed s.declarations s.game Γ.replications) (Unit {0}) leaf a f) ∙ e
  first_cell (Node h a b) f e = absurd f

  first_cells : (ts : List Tree) → AllByRecursion (IsFineCell s.declarations s.game Γ.replications) ts → AreAssigned g at m m ts → AreAssigned g both m m ts
  first_cells [] f e = tt
  first_cells (t ∷ ts) f e = (first_cell t f.0 e.0, first_cells ts f.1 e.1)

  -- and at the second one

  high_none : (y : ℕ) → found_in at (y + k) ≡ None
  high_none y = index_none g at Γ.replications (y + k) first_stands.indices (go (is_index Γ.replications (y + k)) refl)
    where
      go : (t : Bool) → is_index Γ.replications (y + k) ≡ t → is_index Γ.replications (y + k) ≡ false
      go false e = e
      go true e = let l : y + k < k = r.above.indices (y + k) (ap (λ rs. is_index rs (y + k)) (sym first_known) ∙ e) in absurd (omega arith)

  second_leaf : (c d : ℕ × ℕ) → c.0 ≡ d.0 → found_in other c.0 ≡ Some c.1 → value g both m (index_term (second_index k d)) ≡ c.1
  unfolding value
  second_leaf c d e f = ap (leaf_value_from g m (d.0 + k)) (found_behind at (map (second_index k) other) (d.0 + k) (high_none d.0) ∙ (second_found k other d.0 ∙ (ap (found_in other) (sym e) ∙ f)))

  second_terms : (a : Indices) (rs : List (ℕ × ℕ)) → AreIndicesOf g a rs → AllByRecursion (λ (c : ℕ × ℕ). found_in other c.0 ≡ Some c.1) a → values g both m (chain (map index_term (second_indices k rs))) ≡ tuple a
  unfolding values
  second_terms [] [] h f = refl
  second_terms [] (d ∷ rs) h f = absurd h
  second_terms (c ∷ a) [] h f = absurd h
  second_terms (c ∷ a) (d ∷ rs) h f = ap₂ ◌∷◌ (second_leaf c d h.0 f.0) (second_terms a rs h.2 f.1)

  abbrev pub terms : Tree
  terms = chain (map index_term (second_indices k Δ.replications))

  pub same : values g both m terms ≡ tuple other
  same = second_terms other Δ.replications second_stands.indices r.found

  second_facts : AreTrue g both m m (all_of_second k Δ.replications Δ.facts)
  second_facts =
      reached.facts_hold s i ready model behind both (replications_at s p ++ second_indices k (replications_at s q)) m m indices constant_none variable_none r.first.types q Δ (fine q Δ r.second.known) r.second.known other second_stands terms same
      Δ.facts (fine q Δ r.second.known).facts second_stands.facts

  second_cells : AreAssigned g both m m (all_of_second k Δ.replications Δ.cells)
  second_cells =
      reached.cells_hold s i ready model behind both (replications_at s p ++ second_indices k (replications_at s q)) m m indices constant_none variable_none r.first.types q Δ (fine q Δ r.second.known) r.second.known other second_stands terms same
      Δ.cells (fine q Δ r.second.known).cells second_stands.cells

  module _ (given : List Tree) (distinct : List ℕ) (hold : AreTrue g both m m given) (apart : AreApart distinct m m) where
    was_reached : WasReached (pair_at s p q k given distinct) i both m m
    was_reached =
        reached.seen s i ready model behind both (replications_at s p ++ second_indices k (replications_at s q)) m m indices constant_none variable_none r.first.types sites p (facts_by (stands_at s.game p)) (cells_by (stands_at s.game p))
        (Some (record {
          facts = all_of_second k (replications_at s q) (facts_by (stands_at s.game q));
          cells = all_of_second k (replications_at s q) (cells_by (stands_at s.game q));
          given = given;
          distinct = distinct;
        }))
        (subst (λ o. AreTrue g both m m (facts_by o)) (sym r.first.known) (first_facts Γ.facts (fine p Γ r.first.known).facts first_stands.facts))
        (subst (λ o. AreAssigned g both m m (cells_by o)) (sym r.first.known) (first_cells Γ.cells (fine p Γ r.first.known).cells first_stands.cells))
        (record {
          facts = subst (λ o. AreTrue g both m m (all_of_second k (replications_at s q) (facts_by o))) (sym r.second.known) (subst (λ rs. AreTrue g both m m (all_of_second k rs Δ.facts)) second_known second_facts);
          cells = subst (λ o. AreAssigned g both m m (all_of_second k (replications_at s q) (cells_by o))) (sym r.second.known) (subst (λ rs. AreAssigned g both m m (all_of_second k rs Δ.cells)) second_known second_cells);
          given = hold;
          distinct = apart;
        })

    pub pair_holds : (by targets : Tree) → Derives (pair_at s p q k given distinct) by targets → AllByRecursion (IsTrue g both m m) (statements (lines_of targets))
    pair_holds by targets d =
        ends_hold (IsTrue g both m m) (statements (lines_of by)) (statements (lines_of targets)) d.end
        (derivation_holds (pair_at s p q k given distinct) i both m m was_reached ready.arguments ready.formed model ready.equations by (inr refl) d.right)
