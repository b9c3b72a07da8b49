-- The values of typed terms.
use Rattle.std.proofs.Common.{◌≡◌, ℕ, ◌<◌, ◌≤◌, Bool, true, false, cond, ◌==◌, nat_lt, List, [], ◌∷◌, map, inl, inr, Option, Some, None, refl, sym, ap, subst, ◌∙◌, arith, lt-ltb}
use Rattle.std.proofs.lemmas.Bool.{and_from}
use Rattle.std.specs.Prelude.{MatchBool, MatchOption}
use Rattle.std.specs.List.{AllByRecursion}
use Rattle.cv_syntax_trees.specs.declared.class.Class.TheVariants as class
use Rattle.cv_syntax_trees.specs.declared.head.Head.TheVariants.{Leaf, Read, Apply, Eq, And, Or, Not, Yes, No}
use Rattle.cv_syntax_trees.specs.Declarations.{Declaration, Named}
use Rattle.cv_syntax_trees.specs.Tree.{Tree, Empty, Node, names}
use Rattle.cv_meaning.specs.Side.{Side}
use Rattle.cv_meaning.specs.Interpretation.{Interpretation, Setting, setting_of, setting_with, is_constant_of}
use Rattle.cv_meaning.specs.Memory.{Store, Indices}
use Rattle.cv_meaning.specs.Terms.{or_zero, found_in, bit, leaf_value_from, value, values}
use Rattle.cv_meaning.specs.Binders.{fits_types}
use Rattle.cv_meaning.specs.Satisfies.{Satisfies, DeclarationHolds, IsTotal}
use Rattle.cv_meaning_laws.proofs.Listed.{Has}
use Rattle.cv_meaning_laws.specs.adequacy.Typed.{Sort, OfType, BelowParameter, boolean, size_of, Variable, Context, Scope, parameter_in, IsFunction, NameHasSort, HasSort, HaveSorts, IsModel, IsDeclared, AreIndicesOf, IsTypedStore, AreOf}
use Rattle.cv_meaning_laws.proofs.adequacy.Lists.{contains_has}

-- what the interpretation satisfies

pub all_has : {A : Type 0} (P : A → Type 0) (xs : List A) → AllByRecursion P xs → (x : A) → Has xs x → P x
all_has P [] h x i = absurd i
all_has P (y ∷ xs) h x (inl e) = subst P (sym e) h.0
all_has P (y ∷ xs) h x (inr i) = all_has P xs h.1 x i

holds_in : (ds : List Declaration) (i : Interpretation) → Satisfies ds i → (d : Declaration) → Has ds d → DeclarationHolds (setting_of ds i) d
holds_in ds i s d h = all_has (DeclarationHolds (setting_of ds i)) ds s.each d h

pub some_value : (c : Context) (i : Interpretation) → Satisfies c.declarations i → (S : Sort) → IsDeclared c.declarations S → 1 ≤ size_of i S
some_value c i s (OfType T) (inl e) = let two : i.type_size T ≡ 2 = ap i.type_size e ∙ s.bool in omega arith
some_value c i s (OfType T) (inr d) = holds_in c.declarations i s (Named T (class.TypeName d.0 d.1) d.2 d.3) (contains_has _ _ d.4)
some_value c i s (BelowParameter n) d = holds_in c.declarations i s (Named n class.Param d.0 d.1) (contains_has _ _ d.2)

function_total : (c : Context) (i : Interpretation) → Satisfies c.declarations i → (f : ℕ) (Ts : List ℕ) (T : ℕ) → IsFunction c f Ts T → IsTotal i f (names Ts) (Some T)
function_total c i s f Ts T d = (holds_in c.declarations i s (Named f (class.Fun d.0) (names Ts) (Some T)) (contains_has _ _ d.1)).0

-- lists of values

arguments_fit : (i : Interpretation) (Ts vs : List ℕ) → AreOf i (map OfType Ts) vs → fits_types i.type_size (names Ts) vs ≡ true
arguments_fit i [] [] h = refl
arguments_fit i (T ∷ Ts) (v ∷ vs) h = and_from (nat_lt v _) _ (lt-ltb v _ h.0) (arguments_fit i Ts vs h.1)
arguments_fit i [] (v ∷ vs) h = absurd h
arguments_fit i (T ∷ Ts) [] h = absurd h

-- reads

read_below : (n : ℕ) (o : Option ℕ) → 1 ≤ n → ((v : ℕ) → o ≡ Some v → v < n) → or_zero o < n
read_below n None h k = h
read_below n (Some v) h k = k v refl

read_typed : (c : Context) (i : Interpretation) → IsModel c i → (m : Store) → IsTypedStore c i m → (x : ℕ) (V : Variable) (u : List ℕ) → c.variables x ≡ Some V → or_zero (m x u) < size_of i V.sort
read_typed c i w m h x V u e = read_below (size_of i V.sort) (m x u) (some_value c i w.satisfies V.sort (w.variables x V e)) (λ v k. (h x V u v e k).1)

-- an index of the scope has a value below its parameter
index_typed : (i : Interpretation) (ps : Scope) (at : Indices) → AreIndicesOf i ps at → (x : ℕ) → MatchOption (parameter_in ps x) (found_in at x ≡ None) (λ n. (v : ℕ) × (found_in at x ≡ Some v) × (v < i.parameter_value n))
index_typed i [] [] h x = refl
index_typed i (p ∷ ps) (v ∷ at) h x =
    subst (λ k. MatchOption (cond (k == x) (Some p.1) (parameter_in ps x)) (cond (v.0 == x) (Some v.1) (found_in at x) ≡ None) (λ n. (w : ℕ) × (cond (v.0 == x) (Some v.1) (found_in at x) ≡ Some w) × (w < i.parameter_value n))) h.0
    (go (v.0 == x) (index_typed i ps at h.2 x))
  where
    go : (b : Bool) → MatchOption (parameter_in ps x) (found_in at x ≡ None) (λ n. (w : ℕ) × (found_in at x ≡ Some w) × (w < i.parameter_value n))
        → MatchOption (cond b (Some p.1) (parameter_in ps x)) (cond b (Some v.1) (found_in at x) ≡ None) (λ n. (w : ℕ) × (cond b (Some v.1) (found_in at x) ≡ Some w) × (w < i.parameter_value n))
    go true r = (v.1, refl, h.1)
    go false r = r
index_typed i [] (v ∷ at) h x = absurd h
index_typed i (p ∷ ps) [] h x = absurd h

of_sort : (i : Interpretation) (S R : Sort) (v : ℕ) → S ≡ R → v < size_of i R → v < size_of i S
of_sort i S R v e h = subst (λ z. v < size_of i z) (sym e) h

module _ (c : Context) (i : Interpretation) (side : Side) (w : IsModel c i) where
  abbrev g : Setting
  g = setting_with c.declarations i side

  name_typed : (m : Store) → IsTypedStore c i m → (x : ℕ) (S : Sort) → NameHasSort c x S → leaf_value_from g m x None < size_of i S
  name_typed m h x S k = go (is_constant_of c.declarations x) k
    where
      go : (b : Bool) → MatchBool b ((T : ℕ) × IsFunction c x [] T × (S ≡ OfType T)) (c.variables x ≡ Some (record { indices = []; sort = S })) → cond b (i.table x []) (or_zero (m x [])) < size_of i S
      go true d = of_sort i S (OfType d.0) _ d.2 (function_total c i w.satisfies x [] d.0 d.1 [] refl)
      go false e = read_typed c i w m h x _ [] e

  leaf_typed : (ps : Scope) (at : Indices) (m : Store) → AreIndicesOf i ps at → IsTypedStore c i m → (x : ℕ) (S : Sort) → MatchOption (parameter_in ps x) (NameHasSort c x S) (λ n. S ≡ BelowParameter n) → leaf_value_from g m x (found_in at x) < size_of i S
  leaf_typed ps at m a h x S k = go (parameter_in ps x) k (index_typed i ps at a x)
    where
      go : (o : Option ℕ) → MatchOption o (NameHasSort c x S) (λ n. S ≡ BelowParameter n) → MatchOption o (found_in at x ≡ None) (λ n. (v : ℕ) × (found_in at x ≡ Some v) × (v < i.parameter_value n)) → leaf_value_from g m x (found_in at x) < size_of i S
      go None k r = subst (λ z. leaf_value_from g m x z < size_of i S) (sym r) (name_typed m h x S k)
      go (Some n) k r = subst (λ z. leaf_value_from g m x z < size_of i S) (sym r.1) (of_sort i S (BelowParameter n) r.0 k r.2)

  bit_typed : (S : Sort) (b : Bool) → S ≡ boolean → bit b < size_of i S
  bit_typed S b e = of_sort i S boolean (bit b) e (subst (λ n. bit b < n) (sym w.satisfies.bool) (small b))
    where
      small : (b : Bool) → bit b < 2
      small true = omega arith
      small false = omega arith

  module _ (ps : Scope) (at : Indices) (m : Store) (a_at : AreIndicesOf i ps at) (h : IsTypedStore c i m) where
    mutual
      unfolding value values HasSort HaveSorts

      pub typed_value : (a : Tree) (S : Sort) → HasSort c ps a S → value g at m a < size_of i S
      typed_value Empty S k = absurd k
      typed_value (Node (Leaf x) a b) S k = leaf_typed ps at m a_at h x S k
      typed_value (Node (Read x) a b) S k = of_sort i S k.0.sort _ k.2 (read_typed c i w m h x k.0 _ k.1)
      typed_value (Node (Apply f) a b) S k =
          of_sort i S (OfType k.1) _ k.3 (function_total c i w.satisfies f k.0 k.1 k.2 _ (arguments_fit i k.0 _ (typed_values a (map OfType k.0) k.4)))
      typed_value (Node Eq a b) S k = bit_typed S _ k.0
      typed_value (Node And a b) S k = bit_typed S _ k.0
      typed_value (Node Or a b) S k = bit_typed S _ k.0
      typed_value (Node Not a b) S k = bit_typed S _ k.0
      typed_value (Node Yes a b) S k = bit_typed S true k
      typed_value (Node No a b) S k = bit_typed S false k
      typed_value (Node _ a b) S k = absurd k

      pub typed_values : (a : Tree) (Ss : List Sort) → HaveSorts c ps a Ss → AreOf i Ss (values g at m a)
      typed_values Empty [] k = tt
      typed_values (Node x a b) (S ∷ Ss) k = (typed_value a S k.0, typed_values b Ss k.1)
      typed_values Empty (S ∷ Ss) k = absurd k
      typed_values (Node x a b) [] k = absurd k
