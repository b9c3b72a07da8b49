-- A visited `find` and the one with copies of its branches: their candidates go with each other in order.
use Rattle.std.proofs.Common.{◌≡◌, ℕ, ◌==◌, Bool, true, false, cond, List, Option, None, is_some, refl, sym, ap, subst, ◌∙◌, eqb-true}
use Rattle.std.proofs.lemmas.Bool.{both_ways}
use Rattle.cv_syntax_trees.specs.Tree.{Tree}
use Rattle.cv_meaning.specs.Memory.{Store}
use Rattle.cv_meaning.specs.Tapes.{same_tuple}
use Rattle.cv_meaning.specs.Binders.{bound_to}
use Rattle.cv_meaning_laws.proofs.Counts.{same_tuple_exact, same_tuple_refl}
use Rattle.cv_scope_rules.specs.Made.{is_bound}
use Rattle.cv_steps.specs.Renaming.{renamed}
use Rattle.cv_rule_array_names.proofs.Stores.{AreSplit, Free, bound_split, is_name}

-- the branch's own index is assigned at its copy in neither store, so a tuple may be tried with another owner there
pub record Tried (x : ℕ) (ys : List ℕ) (o : List ℕ → ℕ) (us : Tree) (here : List ℕ) (y : ℕ) (m k l : Store) : Type 0 where
  pub owner : List ℕ → ℕ
  pub owns : (w : List ℕ) → is_name ys (owner w) ≡ true
  pub split : AreSplit x ys owner k l
  pub agrees : (w : List ℕ) → is_some (m x w) ≡ true → owner w ≡ o w
  pub own : is_bound us x ≡ true → owner here ≡ y

none_some : (q : Option ℕ) → q ≡ None → is_some q ≡ true → ⊥
none_some q e f = both_ways (is_some q) (ap is_some e) f

pub branch_tried : (x : ℕ) (ys : List ℕ) (o : List ℕ → ℕ) → ((w : List ℕ) → is_name ys (o w) ≡ true) → (m n : Store) → AreSplit x ys o m n → (us : Tree) (vs u : List ℕ) (y : ℕ) → is_name ys y ≡ true → Free ys us → (is_bound us x ≡ true → m x u ≡ None)
    → Tried x ys o us u y m (bound_to m u us vs) (bound_to n u (renamed x y us) vs)
branch_tried x ys o owns m n s us vs u y named f free = go (is_bound us x) refl
  where
    other : List ℕ → ℕ
    other w = cond (same_tuple w u) y (o w)

    other_owns : (w : List ℕ) → is_name ys (other w) ≡ true
    other_owns w = split (same_tuple w u)
      where
        split : (b : Bool) → is_name ys (cond b y (o w)) ≡ true
        split true = named
        split false = owns w

    -- no name has the cell
    nothing : m x u ≡ None → (z : ℕ) → is_name ys z ≡ true → n z u ≡ None
    nothing e z h = split (z == o u) refl
      where
        split : (b : Bool) → (z == o u) ≡ b → n z u ≡ None
        split true i = ap (λ q. n q u) (eqb-true z (o u) i) ∙ sym (s.owned u) ∙ e
        split false i = s.others z h u i

    other_split : m x u ≡ None → AreSplit x ys other m n
    other_split e = record {
      same = s.same;
      owned = λ w. at w (same_tuple w u) refl;
      others = λ z h w i. apart z h w (same_tuple w u) refl i;
    }
      where
        at : (w : List ℕ) (b : Bool) → same_tuple w u ≡ b → m x w ≡ n (cond b y (o w)) w
        at w true i = let j : w ≡ u = same_tuple_exact w u i in subst (λ q. m x q ≡ n y q) (sym j) (e ∙ sym (nothing e y named))
        at w false i = s.owned w

        apart : (z : ℕ) → is_name ys z ≡ true → (w : List ℕ) (b : Bool) → same_tuple w u ≡ b → (z == cond b y (o w)) ≡ false → n z w ≡ None
        apart z h w true i j = let k : w ≡ u = same_tuple_exact w u i in subst (λ q. n z q ≡ None) (sym k) (nothing e z h)
        apart z h w false i j = s.others z h w j

    go : (b : Bool) → is_bound us x ≡ b → Tried x ys o us u y m (bound_to m u us vs) (bound_to n u (renamed x y us) vs)
    go true e = record {
      owner = other;
      owns = other_owns;
      split = bound_split x ys other other_owns us vs m n (other_split (free e)) u y (λ i. ap (λ b. cond b y (o u)) (same_tuple_refl u)) f;
      agrees = λ w h. at w (same_tuple w u) refl h;
      own = λ i. ap (λ b. cond b y (o u)) (same_tuple_refl u);
    }
      where
        at : (w : List ℕ) (b : Bool) → same_tuple w u ≡ b → is_some (m x w) ≡ true → cond b y (o w) ≡ o w
        at w true i h = absurd (none_some (m x w) (ap (m x) (same_tuple_exact w u i) ∙ free e) h)
        at w false i h = refl
    go false e = record {
      owner = o;
      owns = owns;
      split = bound_split x ys o owns us vs m n s u y (λ i. absurd (both_ways (is_bound us x) e i)) f;
      agrees = λ w h. refl;
      own = λ i. absurd (both_ways (is_bound us x) e i);
    }
