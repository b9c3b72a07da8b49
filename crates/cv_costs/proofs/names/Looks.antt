-- What the code finds at binders, branches, nodes and queries.
use Rattle.std.proofs.Common.{◌≡◌, ℕ, ◌==◌, ◌&&◌, ◌||◌, Bool, true, false, cond, not, List, ◌∷◌, Option, Some, None, nat_eq, refl, sym, ap, ◌∙◌}
use Rattle.std.proofs.lemmas.Bool.{both_ways}
use Rattle.std.proofs.Math.Path.{fun_ext}
use Rattle.std.specs.HashSet.{IsEmpty, Updates}
use Rattle.std.specs.List.{list_any}
use Rattle.cv_syntax_trees.specs.declared.head.Head.{Head}
use Rattle.cv_syntax_trees.specs.declared.head.Head.TheVariants.{Binder, Branch, Find}
use Rattle.cv_syntax_trees.specs.Tree.{Tree, Empty, Node, first_place, second_place}
use Rattle.cv_syntax.specs.NameSets.{NameSet, is_in}
use Rattle.cv_syntax_trees.specs.sites.Sites.{first_of}
use Rattle.cv_scope_rules.specs.Made.{is_bound, is_own_at, is_own_of}
use Rattle.cv_costs.specs.names.Naming.{first_naming, names_one}
use Rattle.cv_syntax_trees.proofs.lists.Tests.{equals_comm}

-- names in a set

cond_or : (b c : Bool) → cond b true c ≡ (b || c)
cond_or true c = refl
cond_or false c = refl

exchange : (a b c : Bool) → (b || (a || c)) ≡ ((a || b) || c)
exchange true true c = refl
exchange true false c = refl
exchange false true c = refl
exchange false false c = refl

pub bound_Binder : (t : Tree) (h : Head) (a b : Tree) (x T y : ℕ) → t ≡ Node h a b → h ≡ Binder x T → is_bound t y ≡ ((y == x) || is_bound b y)
unfolding is_bound
bound_Binder t h a b x T y e f = ap (λ s. is_bound s y) e ∙ ap (λ k. is_bound (Node k a b) y) f

pub bound_other : (t : Tree) (h : Head) (a b : Tree) (y : ℕ) → t ≡ Node h a b → ((x T : ℕ) → h ≡ Binder x T → ⊥) → is_bound t y ≡ false
unfolding is_bound
bound_other t h a b y e n = ap (λ s. is_bound s y) e ∙ step h n
  where
    step : (h : Head) → ((x T : ℕ) → h ≡ Binder x T → ⊥) → is_bound (Node h a b) y ≡ false
    step (Binder x T) n = absurd (n x T refl)
    step h n = refl

pub bound_end : (t : Tree) (y : ℕ) → t ≡ Empty → is_bound t y ≡ false
unfolding is_bound
bound_end t y e = ap (λ s. is_bound s y) e

pub bound_more : (t : Tree) (h : Head) (a b : Tree) (m n : NameSet) (x T : ℕ) → t ≡ Node h a b → h ≡ Binder x T → Updates nat_eq m n x true → (y : ℕ) → (is_bound b y || is_in n y) ≡ (is_bound t y || is_in m y)
bound_more t h a b m n x T e f u y =
    ap (λ c. is_bound b y || c) (u.0 y ∙ cond_or (x == y) (is_in m y))
    ∙ (exchange (x == y) (is_bound b y) (is_in m y)
    ∙ ap (λ v. v || is_in m y) (ap (λ v. v || is_bound b y) (equals_comm x y) ∙ sym (bound_Binder t h a b x T y e f)))

-- index variables of branches

pub own_other : (t : Tree) (h : Head) (a b : Tree) (k : Head) (us rest : Tree) (y : ℕ) → t ≡ Node h a b → a ≡ Node k us rest → (k ≡ Branch → ⊥) → is_own_of t y ≡ false
own_other t h a b k us rest y e f n = ap (λ s. is_own_of s y) e ∙ (ap (λ s. is_own_of (Node h s b) y) f ∙ step k n)
  where
    step : (k : Head) → (k ≡ Branch → ⊥) → is_own_of (Node h (Node k us rest) b) y ≡ false
    step Branch n = absurd (n refl)
    step k n = refl

pub own_end : (t : Tree) (y : ℕ) → t ≡ Empty → is_own_of t y ≡ false
own_end t y e = ap (λ s. is_own_of s y) e

pub own_more : (t more us : Tree) (m n : NameSet) → ((y : ℕ) → is_own_of t y ≡ (is_bound us y || is_own_of more y)) → ((y : ℕ) → is_in n y ≡ (is_bound us y || is_in m y)) → (y : ℕ) → (is_own_of more y || is_in n y) ≡ (is_own_of t y || is_in m y)
own_more t more us m n e f y = ap (λ c. is_own_of more y || c) (f y) ∙ (exchange (is_bound us y) (is_own_of more y) (is_in m y) ∙ ap (λ v. v || is_in m y) (sym (e y)))

-- nothing is added
pub none_more : (u v w z : Bool) → u ≡ false → (u || v) ≡ (w || z) → v ≡ (w || z)
none_more true v w z e f = absurd (both_ways true e refl)
none_more false v w z e f = f

-- the empty set
in_empty : (m : NameSet) → IsEmpty m → (y : ℕ) → is_in m y ≡ false
in_empty m e y = ap (list_any (nat_eq y)) e

pub own_names_law : (m n : NameSet) (h : Head) (a b : Tree) (l : ℕ) → h ≡ Find l → ((y : ℕ) → is_in n y ≡ (is_own_of a y || is_in m y)) → IsEmpty m → is_in n ≡ is_own_at (Node h a b)
own_names_law m n h a b l e f k = fun_ext (λ y. f y ∙ (ap (λ v. is_own_of a y || v) (in_empty m k y) ∙ (drop (is_own_of a y) ∙ sym (ap (λ j. is_own_at (Node j a b) y) e))))
  where
    drop : (v : Bool) → (v || false) ≡ v
    drop true = refl
    drop false = refl

pub no_names : (m : NameSet) (h : Head) (a b : Tree) → ((l : ℕ) → h ≡ Find l → ⊥) → IsEmpty m → is_in m ≡ is_own_at (Node h a b)
no_names m h a b n k = fun_ext (λ y. in_empty m k y ∙ sym (step h n y))
  where
    step : (h : Head) → ((l : ℕ) → h ≡ Find l → ⊥) → (y : ℕ) → is_own_at (Node h a b) y ≡ false
    step (Find l) n y = absurd (n l refl)
    step h n y = refl

-- places of names

pub naming_node : (xs skip : ℕ → Bool) (p : ℕ) (t : Tree) (h : Head) (a b : Tree) → t ≡ Node h a b
    → first_naming xs skip p t ≡ cond (names_one xs h a && not (skip p)) (Some p) (first_of (first_naming xs skip (first_place p h) a) (first_naming xs skip (second_place p h a) b))
unfolding first_naming
naming_node xs skip p t h a b e = ap (first_naming xs skip p) e

pub naming_end : (xs skip : ℕ → Bool) (p : ℕ) (t : Tree) → t ≡ Empty → first_naming xs skip p t ≡ None
unfolding first_naming
naming_end xs skip p t e = ap (first_naming xs skip p) e

-- queries

pub asked_here : (f : Tree → Bool) (q : Tree) (qs all : List Tree) (d : Bool) → all ≡ q ∷ qs → d ≡ f q → d ≡ true → list_any f all ≡ true
asked_here f q qs all d e g k = ap (list_any f) e ∙ ap (λ b. b || list_any f qs) (sym g ∙ k)

pub asked_later : (f : Tree → Bool) (q : Tree) (qs all : List Tree) (d : Bool) → all ≡ q ∷ qs → d ≡ f q → d ≡ false → list_any f all ≡ list_any f qs
asked_later f q qs all d e g k = ap (list_any f) e ∙ ap (λ b. b || list_any f qs) (sym g ∙ k)
