-- The entries of a directory, as they are gathered.
use Rattle.std.proofs.Common.{◌≡◌, ℕ, zero, suc, ◌+◌, ◌≤◌, min, Bool, true, false, cond, List, [], ◌∷◌, ◌++◌, length, map, length-append, refl, ap, ap₂, sym, ◌∙◌, arith, Option, Some, None}
use Rattle.std.specs.Prelude.{◌==◌, option_map}
use Rattle.std.proofs.Math.Path.{fun_ext}
use Rattle.std.proofs.lemmas.List.{map-append}
use Rattle.cv_syntax_trees.specs.declared.head.Head.{Head}
use Rattle.cv_syntax_trees.specs.declared.head.Head.TheVariants.{Binder, Branch, In, Let, New, Repl}
use Rattle.cv_syntax_trees.specs.Head.{weight}
use Rattle.cv_syntax_trees.specs.Tree.{Tree, Empty, Node, second, size}
use Rattle.cv_syntax_trees.specs.declared.sites.sort.Sort.{Sort}
use Rattle.cv_syntax_trees.specs.declared.sites.sort.Sort.TheVariants.{OfType, BelowParameter}
use Rattle.cv_directory.specs.Definitions.{Definition, Entries, bound_definitions, definition_at, definitions_at, definitions_from, entries_of, first_in, first_other, is_other, most, replications_below, variable_by}
use Rattle.cv_syntax_trees.specs.sites.Sites.{at_parameters, bound_sort, first_index, first_of, first_site, index_here, parameters_below, site_here}
use Rattle.cv_directory.specs.Tables.{counted, grown, no_entries, no_index, noted, only, with_entries}

pub same_entries : (d e : Entries) → ((x : ℕ) → d.first x ≡ e.first x) → ((x : ℕ) → d.count x ≡ e.count x) → ((x : ℕ) → d.other x ≡ e.other x) → ((i : ℕ) → d.index i ≡ e.index i) → d ≡ e
same_entries d e f c o j = λ i. record { first = fun_ext f i; count = fun_ext c i; other = fun_ext o i; index = fun_ext j i }

pub first_nothing : {A : Type 0} (a : Option A) → first_of a None ≡ a
first_nothing None = refl
first_nothing (Some x) = refl

pub first_assoc : {A : Type 0} (a b c : Option A) → first_of (first_of a b) c ≡ first_of a (first_of b c)
first_assoc None b c = refl
first_assoc (Some x) b c = refl

pub first_append : (xs ys : List Definition) → first_in (xs ++ ys) ≡ first_of (first_in xs) (first_in ys)
first_append [] ys = refl
first_append (x ∷ xs) ys = refl

other_append : (large : ℕ → Bool) (xs ys : List Definition) → first_other large (xs ++ ys) ≡ first_of (first_other large xs) (first_other large ys)
other_append large [] ys = refl
other_append large (x ∷ xs) ys = go (is_other large x.tree) (other_append large xs ys)
  where
    go : (b : Bool) → first_other large (xs ++ ys) ≡ first_of (first_other large xs) (first_other large ys) → cond b (Some x.place) (first_other large (xs ++ ys)) ≡ first_of (cond b (Some x.place) (first_other large xs)) (first_other large ys)
    go true e = refl
    go false e = e

grown_append : (c m n : ℕ) → grown (grown c m) n ≡ grown c (m + n)
grown_append c zero n = let e : n ≡ 0 + n = omega arith in ap (grown c) e
grown_append c (suc m) n = let e : suc (m + n) ≡ suc m + n = omega arith in grown_append (min (c + 1) most) m n ∙ ap (grown c) e

grown_most : (c n : ℕ) → c ≤ most → grown c n ≡ min (c + n) most
grown_most c zero l = omega arith
grown_most c (suc n) l = let e = grown_most (min (c + 1) most) n (omega arith) in omega arith

-- definitions behind others
pub twice : (large : ℕ → Bool) (e : Entries) (D E : ℕ → List Definition) (I J : ℕ → Option ℕ) → with_entries large (with_entries large e D I) E J ≡ with_entries large e (λ x. D x ++ E x) (λ i. first_of (I i) (J i))
twice large e D E I J = same_entries _ _
    (λ x. first_assoc (e.first x) (first_in (D x)) (first_in (E x)) ∙ ap (first_of (e.first x)) (sym (first_append (D x) (E x))))
    (λ x. grown_append (e.count x) (length (D x)) (length (E x)) ∙ ap (grown (e.count x)) (sym (length-append (D x) (E x))))
    (λ x. first_assoc (e.other x) (first_other large (D x)) (first_other large (E x)) ∙ ap (first_of (e.other x)) (sym (other_append large (D x) (E x))))
    (λ i. first_assoc (e.index i) (I i) (J i))

pub alike : (large : ℕ → Bool) (e : Entries) (D E : ℕ → List Definition) (I J : ℕ → Option ℕ) → ((x : ℕ) → D x ≡ E x) → ((i : ℕ) → I i ≡ J i) → with_entries large e D I ≡ with_entries large e E J
alike large e D E I J f g = ap₂ (with_entries large e) (fun_ext f) (fun_ext g)

pub nothing_more : (large : ℕ → Bool) (e : Entries) → with_entries large e (λ x. []) no_index ≡ e
nothing_more large e = same_entries _ _ (λ x. first_nothing (e.first x)) (λ x. refl) (λ x. first_nothing (e.other x)) (λ i. first_nothing (e.index i))

-- one definition more
pub one_more : (large : ℕ → Bool) (e : Entries) (x : ℕ) (d : Definition) (b : Bool) → b ≡ is_other large d.tree → (let r : Entries = record { first = noted e.first x d; count = counted e.count x; other = cond b (noted e.other x d.place) e.other; index = e.index } in r) ≡ with_entries large e (only x d) no_index
one_more large e x d b h = same_entries _ _ (λ y. first y (x == y)) (λ y. count y (x == y)) (λ y. other y b h) (λ i. sym (first_nothing (e.index i)))
  where
    first : (y : ℕ) (c : Bool) → first_of (e.first y) (cond c (Some d) None) ≡ first_of (e.first y) (first_in (cond c (d ∷ []) []))
    first y true = refl
    first y false = refl

    count : (y : ℕ) (c : Bool) → cond c (min (e.count y + 1) most) (e.count y) ≡ grown (e.count y) (length (cond c (d ∷ []) []))
    count y true = refl
    count y false = refl

    other : (y : ℕ) (b : Bool) → b ≡ is_other large d.tree → cond b (noted e.other x d.place) e.other y ≡ first_of (e.other y) (first_other large (only x d y))
    other y true h = go (x == y)
      where
        go : (c : Bool) → first_of (e.other y) (cond c (Some d.place) None) ≡ first_of (e.other y) (first_other large (cond c (d ∷ []) []))
        go true = ap (λ b. first_of (e.other y) (cond b (Some d.place) None)) h
        go false = refl
    other y false h = go (x == y)
      where
        go : (c : Bool) → e.other y ≡ first_of (e.other y) (first_other large (cond c (d ∷ []) []))
        go true = sym (first_nothing (e.other y)) ∙ ap (λ b. first_of (e.other y) (cond b (Some d.place) None)) h
        go false = sym (first_nothing (e.other y))

-- what a node itself defines
module _ (large : ℕ → Bool) (e : Entries) (rs : List (ℕ × ℕ)) (p : ℕ) (at : Tree) (a : Tree) where
  abbrev here : Head → Entries
  here h = with_entries large e (λ y. definitions_at rs p at y h a) (λ j. index_here j h)

  pub index_more : (h : Head) (i n : ℕ) → h ≡ Repl i n → (let r : Entries = record e { index = noted e.index i n } in r) ≡ with_entries large e (λ y. definitions_at rs p at y h a) (λ j. index_here j h)
  index_more h i n eh = same_entries _ _ (λ x. sym (first_nothing (e.first x))) (λ x. refl) (λ x. sym (first_nothing (e.other x))) (λ j. refl) ∙ ap here (sym eh)

  pub new_more : (h : Head) (x T : ℕ) → h ≡ New x T → with_entries large e (only x (definition_at rs p at (OfType T))) no_index ≡ with_entries large e (λ y. definitions_at rs p at y h a) (λ j. index_here j h)
  new_more h x T eh = ap here (sym eh)

  pub let_more : (h : Head) (x T : ℕ) → h ≡ Let x T → with_entries large e (only x (definition_at rs p at (OfType T))) no_index ≡ with_entries large e (λ y. definitions_at rs p at y h a) (λ j. index_here j h)
  let_more h x T eh = ap here (sym eh)

  pub input_more : (h : Head) (c : ℕ) (u : Tree) → h ≡ In c → u ≡ second a → with_entries large e (λ y. bound_definitions rs p at OfType y u) no_index ≡ with_entries large e (λ y. definitions_at rs p at y h a) (λ j. index_here j h)
  input_more h c u eh eu = ap (λ v. with_entries large e (λ y. bound_definitions rs p at OfType y v) no_index) eu ∙ ap here (sym eh)

  pub branch_more : (h : Head) → h ≡ Branch → with_entries large e (λ y. bound_definitions rs p at BelowParameter y a) no_index ≡ with_entries large e (λ y. definitions_at rs p at y h a) (λ j. index_here j h)
  branch_more h eh = ap here (sym eh)

-- such a node is no `new`
pub input_other : (large : ℕ → Bool) (t a b : Tree) (h : Head) (c : ℕ) → t ≡ Node h a b → h ≡ In c → true ≡ is_other large t
input_other large t a b h c e f = sym (ap (is_other large) (e ∙ ap (λ k. Node k a b) f))

pub branch_other : (large : ℕ → Bool) (t a b : Tree) (h : Head) → t ≡ Node h a b → h ≡ Branch → true ≡ is_other large t
branch_other large t a b h e f = sym (ap (is_other large) (e ∙ ap (λ k. Node k a b) f))

-- lists of binders
module _ (large : ℕ → Bool) (e : Entries) (rs : List (ℕ × ℕ)) (p : ℕ) (at : Tree) (sort : ℕ → Sort) (t : Tree) where
  pub binders_step : (h : Head) (a b : Tree) (x T : ℕ) (S : Sort) → t ≡ Node h a b → h ≡ Binder x T → S ≡ sort T → with_entries large (with_entries large e (only x (definition_at rs p at S)) no_index) (λ y. bound_definitions rs p at sort y b) no_index ≡ with_entries large e (λ y. bound_definitions rs p at sort y t) no_index
  unfolding bound_definitions
  binders_step h a b x T S e1 e2 e3 =
      twice large e _ _ no_index no_index
      ∙ alike large e _ _ _ _ (λ y. ap (λ R. only x (definition_at rs p at R) y ++ bound_definitions rs p at sort y b) e3 ∙ sym (ap (bound_definitions rs p at sort y) e1 ∙ ap (λ k. bound_definitions rs p at sort y (Node k a b)) e2)) (λ i. refl)

  pub binders_skip : (h : Head) (a b : Tree) → t ≡ Node h a b → ((x T : ℕ) → h ≡ Binder x T → ⊥) → with_entries large e (λ y. bound_definitions rs p at sort y b) no_index ≡ with_entries large e (λ y. bound_definitions rs p at sort y t) no_index
  unfolding bound_definitions
  binders_skip h a b e1 n = alike large e _ _ _ _ (λ y. sym (ap (bound_definitions rs p at sort y) e1 ∙ step y h n)) (λ i. refl)
    where
      step : (y : ℕ) (h : Head) → ((x T : ℕ) → h ≡ Binder x T → ⊥) → bound_definitions rs p at sort y (Node h a b) ≡ bound_definitions rs p at sort y b
      step y (Binder x T) n = absurd (n x T refl)
      step y h n = refl

  pub binders_end : t ≡ Empty → with_entries large e (λ y. bound_definitions rs p at sort y t) no_index ≡ e
  unfolding bound_definitions
  binders_end e1 = alike large e _ (λ y. []) _ no_index (λ y. ap (bound_definitions rs p at sort y) e1) (λ i. refl) ∙ nothing_more large e

-- trees
module _ (large : ℕ → Bool) (e : Entries) (rs : List (ℕ × ℕ)) (p : ℕ) (t : Tree) where
  pub tree_step : (h : Head) (a b : Tree) (p1 p2 : ℕ) (below : List (ℕ × ℕ)) → t ≡ Node h a b → p1 ≡ p + weight h → p2 ≡ p1 + size a → below ≡ replications_below h rs →
      with_entries large (with_entries large (with_entries large e (λ x. definitions_at rs p t x h a) (λ i. index_here i h)) (λ x. definitions_from rs p1 x a) (λ i. first_index i a)) (λ x. definitions_from below p2 x b) (λ i. first_index i b)
      ≡ with_entries large e (λ x. definitions_from rs p x t) (λ i. first_index i t)
  unfolding definitions_from first_index
  tree_step h a b p1 p2 below e1 q1 q2 eb =
      twice large (with_entries large e (λ x. definitions_at rs p t x h a) (λ i. index_here i h)) _ _ _ _
      ∙ (twice large e _ _ _ _
      ∙ alike large e _ _ _ _ (λ x. same x) (λ i. sym (ap (first_index i) e1)))
    where
      place : p2 ≡ p + weight h + size a
      place = q2 ∙ ap (λ n. n + size a) q1

      same : (x : ℕ) → definitions_at rs p t x h a ++ (definitions_from rs p1 x a ++ definitions_from below p2 x b) ≡ definitions_from rs p x t
      same x = (λ i. definitions_at rs p (e1 i) x h a ++ (definitions_from rs (q1 i) x a ++ definitions_from (eb i) (place i) x b)) ∙ sym (ap (definitions_from rs p x) e1)

  pub tree_end : t ≡ Empty → with_entries large e (λ x. definitions_from rs p x t) (λ i. first_index i t) ≡ e
  unfolding definitions_from first_index
  tree_end e1 = alike large e _ (λ x. []) _ no_index (λ x. ap (definitions_from rs p x) e1) (λ i. ap (first_index i) e1) ∙ nothing_more large e

all_counted : (n : ℕ) → grown 0 n ≡ min n most
all_counted n = let e : 0 + n ≡ n = omega arith in grown_most 0 n (omega arith) ∙ ap (λ k. min k most) e

-- one node further, with what is known of it and its parts
pub gather_step : (large : ℕ → Bool) (E0 E1 E2 total : Entries) (qs rs below : List (ℕ × ℕ)) (p p1 p2 : ℕ) (u t : Tree) (h : Head) (a b : Tree) → u ≡ t → t ≡ Node h a b → qs ≡ rs →
    E1 ≡ with_entries large E0 (λ y. definitions_at qs p t y h a) (λ i. index_here i h) → p1 ≡ p + weight h →
    E2 ≡ with_entries large E1 (λ x. definitions_from rs p1 x a) (λ i. first_index i a) → p2 ≡ p1 + size a → below ≡ replications_below h rs →
    with_entries large E0 (λ x. definitions_from rs p x u) (λ i. first_index i u) ≡ total →
    with_entries large E2 (λ x. definitions_from below p2 x b) (λ i. first_index i b) ≡ total
gather_step large E0 E1 E2 total qs rs below p p1 p2 u t h a b eu et eq e1 q1 e2 q2 eb m =
    ap (λ e. with_entries large e (λ x. definitions_from below p2 x b) (λ i. first_index i b)) (e2 ∙ ap (λ e. with_entries large e (λ x. definitions_from rs p1 x a) (λ i. first_index i a)) (e1 ∙ ap (λ l. with_entries large E0 (λ y. definitions_at l p t y h a) (λ i. index_here i h)) eq))
    ∙ (tree_step large E0 rs p t h a b p1 p2 below et q1 q2 eb
    ∙ (ap (λ v. with_entries large E0 (λ x. definitions_from rs p x v) (λ i. first_index i v)) (sym eu) ∙ m))

-- from nothing
pub from_nothing : (large : ℕ → Bool) (e : Entries) (rs : List (ℕ × ℕ)) (game : Tree) → e ≡ no_entries → rs ≡ [] → with_entries large e (λ x. definitions_from rs 0 x game) (λ i. first_index i game) ≡ entries_of large game
from_nothing large e rs game h r =
    ap₂ (λ (d : Entries) qs. with_entries large d (λ x. definitions_from qs 0 x game) (λ i. first_index i game)) h r
    ∙ same_entries _ _ (λ x. refl) (λ x. all_counted (length (definitions_from [] 0 x game))) (λ x. refl) (λ i. refl)

-- the first definition is the first site
module _ (x : ℕ) where
  map_first : (a b : Option Definition) → option_map variable_by (first_of a b) ≡ first_of (option_map variable_by a) (option_map variable_by b)
  map_first None b = refl
  map_first (Some d) b = refl

  abbrev pub parameters : List (ℕ × ℕ) → List ℕ
  parameters rs = map (λ (r : ℕ × ℕ). r.1) rs

  bound_site : (rs : List (ℕ × ℕ)) (p : ℕ) (at : Tree) (sort : ℕ → Sort) (t : Tree) → option_map variable_by (first_in (bound_definitions rs p at sort x t)) ≡ at_parameters (parameters rs) (bound_sort sort x t)
  unfolding bound_definitions bound_sort
  bound_site rs p at sort Empty = refl
  bound_site rs p at sort (Node (Binder y T) a b) = go (y == x) (bound_site rs p at sort b)
    where
      go : (c : Bool) → option_map variable_by (first_in (bound_definitions rs p at sort x b)) ≡ at_parameters (parameters rs) (bound_sort sort x b) → option_map variable_by (first_in (cond c (definition_at rs p at (sort T) ∷ []) [] ++ bound_definitions rs p at sort x b)) ≡ at_parameters (parameters rs) (cond c (Some (sort T)) (bound_sort sort x b))
      go true e = refl
      go false e = e
  bound_site rs p at sort (Node h a b) = bound_site rs p at sort b

  here_site : (rs : List (ℕ × ℕ)) (p : ℕ) (at : Tree) (h : Head) (a : Tree) → option_map variable_by (first_in (definitions_at rs p at x h a)) ≡ at_parameters (parameters rs) (site_here x h a)
  here_site rs p at (New y T) a = go (y == x)
    where
      go : (c : Bool) → option_map variable_by (first_in (cond c (definition_at rs p at (OfType T) ∷ []) [])) ≡ at_parameters (parameters rs) (cond c (Some (OfType T)) None)
      go true = refl
      go false = refl
  here_site rs p at (Let y T) a = go (y == x)
    where
      go : (c : Bool) → option_map variable_by (first_in (cond c (definition_at rs p at (OfType T) ∷ []) [])) ≡ at_parameters (parameters rs) (cond c (Some (OfType T)) None)
      go true = refl
      go false = refl
  here_site rs p at (In c) a = bound_site rs p at OfType (second a)
  here_site rs p at Branch a = bound_site rs p at BelowParameter a
  here_site rs p at h a = refl

  below_map : (h : Head) (rs : List (ℕ × ℕ)) → parameters (replications_below h rs) ≡ parameters_below h (parameters rs)
  below_map (Repl i n) rs = map-append (λ (r : ℕ × ℕ). r.1) rs ((i, n) ∷ [])
  below_map h rs = refl

  pub first_site_law : (rs : List (ℕ × ℕ)) (p : ℕ) (t : Tree) → option_map variable_by (first_in (definitions_from rs p x t)) ≡ first_site x (parameters rs) t
  unfolding definitions_from first_site
  first_site_law rs p Empty = refl
  first_site_law rs p (Node h a b) =
      let D = definitions_at rs p (Node h a b) x h a in
      let E = definitions_from rs (p + weight h) x a in
      let F = definitions_from (replications_below h rs) (p + weight h + size a) x b in
      ap (option_map variable_by) (first_append D (E ++ F) ∙ ap (first_of (first_in D)) (first_append E F))
      ∙ (map_first (first_in D) (first_of (first_in E) (first_in F))
      ∙ (ap (first_of (option_map variable_by (first_in D))) (map_first (first_in E) (first_in F))
      ∙ λ i. first_of (here_site rs p (Node h a b) h a i) (first_of (first_site_law rs (p + weight h) a i) ((first_site_law (replications_below h rs) (p + weight h + size a) b ∙ ap (λ ps. first_site x ps b) (below_map h rs)) i))))

pub below_other : (h : Head) (rs : List (ℕ × ℕ)) → ((i n : ℕ) → h ≡ Repl i n → ⊥) → replications_below h rs ≡ rs
below_other (Repl i n) rs m = absurd (m i n refl)
below_other h rs m = refl

-- a node that defines nothing
pub nothing_here : (large : ℕ → Bool) (e : Entries) (rs : List (ℕ × ℕ)) (p : ℕ) (at : Tree) (h : Head) (a : Tree) → ((i n : ℕ) → h ≡ Repl i n → ⊥) → ((c : ℕ) → h ≡ In c → ⊥) → ((x T : ℕ) → h ≡ New x T → ⊥) → ((x T : ℕ) → h ≡ Let x T → ⊥) → (h ≡ Branch → ⊥) → e ≡ with_entries large e (λ y. definitions_at rs p at y h a) (λ i. index_here i h)
nothing_here large e rs p at (Repl i n) a r c m l b = absurd (r i n refl)
nothing_here large e rs p at (In i) a r c m l b = absurd (c i refl)
nothing_here large e rs p at (New x T) a r c m l b = absurd (m x T refl)
nothing_here large e rs p at (Let x T) a r c m l b = absurd (l x T refl)
nothing_here large e rs p at Branch a r c m l b = absurd (b refl)
nothing_here large e rs p at h a r c m l b = sym (nothing_more large e)
