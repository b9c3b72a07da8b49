-- The indices of a place below another one are first those of that place, so what was assigned there keeps its value.
use Rattle.std.proofs.Common.{◌≡◌, ℕ, ◌==◌, Bool, true, false, cond, List, [], ◌∷◌, ◌++◌, Some, is_some, refl, sym, ap, ap₂, subst, ◌∙◌}
use Rattle.std.specs.List.{AllByRecursion}
use Rattle.cv_meaning.specs.Interpretation.{Setting}
use Rattle.cv_meaning.specs.Memory.{Indices, Store, tuple}
use Rattle.cv_meaning.specs.Terms.{found_in, leaf_value, leaf_value_from, value, values}
use Rattle.cv_meaning.specs.Candidates.{is_assigned}
use Rattle.cv_scope_rules.specs.Context.{cell_of, index_terms}
use Rattle.cv_scope_runs.specs.Promises.{AreIndicesOf}
use Rattle.cv_scope_runs.specs.Reads.{IsKept}
use Rattle.cv_scope_runs.proofs.Contexts.{IsFound, Matches, constant_none, variable_none}
use Rattle.cv_scope_runs.proofs.TermsLater.{Extends}
use Rattle.cv_derive_laws.proofs.reached.Copies.{found_first}
use Rattle.cv_syntax_trees.proofs.lists.Each.{AllByRecursion_left}

-- copies of one place with one tuple
pub same_copies : (g : Setting) (a b : Indices) (rs : List (ℕ × ℕ)) → AreIndicesOf g a rs → AreIndicesOf g b rs → tuple a ≡ tuple b → a ≡ b
same_copies g [] [] rs h k e = refl
same_copies g [] (q ∷ b) [] h k e = absurd k
same_copies g [] (q ∷ b) (r ∷ rs) h k e = absurd h
same_copies g (p ∷ a) b [] h k e = absurd h
same_copies g (p ∷ a) [] (r ∷ rs) h k e = absurd k
same_copies g (p ∷ a) (q ∷ b) (r ∷ rs) h k e =
    let f = apart p.1 q.1 (tuple a) (tuple b) e in
    let x : p.0 ≡ q.0 = h.0 ∙ sym k.0 in
    λ i. (x i, f.0 i) ∷ same_copies g a b rs h.2 k.2 f.1 i
  where
    apart : (x y : ℕ) (xs ys : List ℕ) → x ∷ xs ≡ y ∷ ys → (x ≡ y) × (xs ≡ ys)
    apart x y xs ys e = (cc, cc)

-- the indices of these replications, with those of more of them behind
pub record Split (g : Setting) (at : Indices) (rs : List (ℕ × ℕ)) : Type 0 where
  pub first : Indices
  pub rest : Indices
  pub whole : at ≡ first ++ rest
  pub named : AreIndicesOf g first rs

pub split : (g : Setting) (at : Indices) (rs more : List (ℕ × ℕ)) → AreIndicesOf g at (rs ++ more) → Split g at rs
split g at [] more n = record { first = []; rest = at; whole = refl; named = tt }
split g [] (r ∷ rs) more n = absurd n
split g (p ∷ at) (r ∷ rs) more n =
    let z = split g at rs more n.2 in
    record { first = p ∷ z.first; rest = z.rest; whole = ap (λ q. p ∷ q) z.whole; named = (n.0, n.1, z.named) }

terms_values : (g : Setting) (at : Indices) (m : Store) (ps : Indices) (rs : List (ℕ × ℕ)) → AreIndicesOf g ps rs → AllByRecursion (IsFound at) ps → values g at m (index_terms rs) ≡ tuple ps
unfolding value
terms_values g at m [] [] n f = refl
terms_values g at m [] (r ∷ rs) n f = absurd n
terms_values g at m (p ∷ ps) [] n f = absurd n
terms_values g at m (p ∷ ps) (r ∷ rs) n f = ap₂ ◌∷◌ (ap (leaf_value g at m) (sym n.0) ∙ ap (leaf_value_from g m p.0) f.0) (terms_values g at m ps rs n.2 f.1)

module _ (g : Setting) (variable : ℕ → Bool) (at : Indices) (rs Rs : List (ℕ × ℕ)) (matches : Matches g variable Rs at) (z : Split g at rs) where
  found_there : AllByRecursion (IsFound at) z.first
  found_there = AllByRecursion_left (IsFound at) z.first z.rest (subst (λ q. AllByRecursion (IsFound at) q) z.whole matches.found)

  -- the cell of a variable at the indices of the place above
  pub assigned_there : (m : Store) (x : ℕ) → is_assigned g at m m (cell_of rs x) ≡ true → is_some (m x (tuple z.first)) ≡ true
  assigned_there m x e = go rs z.first z.named found_there e
    where
      go : (qs : List (ℕ × ℕ)) (ps : Indices) → AreIndicesOf g ps qs → AllByRecursion (IsFound at) ps → is_assigned g at m m (cell_of qs x) ≡ true → is_some (m x (tuple ps)) ≡ true
      go [] [] n f e = e
      go [] (p ∷ ps) n f e = absurd n
      go (q ∷ qs) ps n f e = ap (λ u. is_some (m x u)) (sym (terms_values g at m ps (q ∷ qs) n f)) ∙ e

  pub extends_there : (m n : Store) → IsKept m n → Extends g variable z.first m at n
  extends_there m n k = record {
    found = λ x v e. ap (λ q. found_in q x) z.whole ∙ found_first z.first z.rest x v e;
    constants = λ x c e. constant_none g variable Rs at matches x c;
    variables = λ x c e. variable_none g variable Rs at matches x c;
    store = k;
  }
