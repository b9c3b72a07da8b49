-- An index of declarations by their names.
use Rattle.std.proofs.Common.{◌≡◌, ◌≢◌, ℕ, zero, suc, ◌-◌, ◌<◌, ◌⊎◌, inl, inr, List, [], ◌∷◌, ◌++◌, length, take, get_or, ◌↔◌, refl, ap, sym, ◌∙◌, arith, subst, Option, Some, None, Bool, true, false, cond}
use Rattle.std.specs.Prelude.{All, slice_get, option_and_then, ◌==◌}
use Rattle.std.proofs.lemmas.Bool.{eqb-true, eq-eqb}
use Rattle.std.proofs.lemmas.List.{length-take, get_or-take}
use Rattle.std.proofs.lemmas.List.Elements.{All-append}
use Rattle.cv_syntax_trees.specs.declared.class.Class.{Class}
use Rattle.cv_syntax_trees.specs.declared.class.Class.TheVariants as class
use Rattle.cv_syntax.specs.declared.decls.Decl.{Decl}
use Rattle.cv_syntax.specs.declared.decls.Decl.TheVariants as decl
use Rattle.cv_pool.specs.declared.node.NodeId.{NodeId}
use Rattle.cv_syntax_trees.specs.Tree.{name_at, name_in, Tree, Node}
use Rattle.cv_syntax.specs.Classes.{IsIndexed, IsNamed, IsNew, class_by, class_in, id_at, id_of, is_number, declaration_in, from_one}
use Rattle.cv_pool.specs.KindTree.{KindTree}
use Rattle.cv_syntax.specs.PoolTrees.{tree_of, tree_at}
use Rattle.cv_syntax_trees.specs.declared.head.Head.{Head}
use Rattle.cv_syntax_trees.specs.declared.head.Head.TheVariants.{Name}
use Rattle.cv_syntax.specs.declared.open.Opened.{Opened}
use Rattle.cv_syntax_trees.proofs.lists.Tests.{equals_refl}

eq_true : (x y : ℕ) → (x == y) ≡ true → x ≡ y
eq_true x y e = eqb-true x y e

if_none : (b : Bool) (d : Decl) (r : Option Decl) → cond b (Some d) r ≡ None → (b ≡ false) × (r ≡ None)
if_none true d r e = absurd (cc)
if_none false d r e = (refl, e)

-- no declaration has a name that is not found
absent : (ds : List Decl) (x : ℕ) → declaration_in ds x ≡ None → (k y : ℕ) → id_at ds k ≡ Some y → y ≢ x
absent [] x n k y e = absurd (cc)
absent (d ∷ ds) x n zero y e = λ s. let t : is_number x (id_of d) ≡ true = ap (is_number x) e ∙ eq-eqb x y (sym s) in absurd (let f = (if_none (is_number x (id_of d)) d (declaration_in ds x) n).0 in cc)
absent (d ∷ ds) x n (suc k) y e = absent ds x (if_none (is_number x (id_of d)) d (declaration_in ds x) n).1 k y e

before_or_last : (ds : List Decl) (d : Decl) (k x : ℕ) → id_at (ds ++ d ∷ []) k ≡ Some x → (id_at ds k ≡ Some x) ⊎ ((k ≡ length ds) × (id_of d ≡ Some x))
before_or_last [] d zero x e = inr (refl, e)
before_or_last [] d (suc k) x e = absurd (cc)
before_or_last (c ∷ ds) d zero x e = inl e
before_or_last (c ∷ ds) d (suc k) x e = elim (before_or_last ds d k x e) [ inl a ↦ inl a | inr b ↦ inr (ap suc b.0, b.1) ]

pub IsIndexed_push : (ds : List Decl) (m : List ℕ) (d : Decl) (place : ℕ) → IsIndexed ds m → place ≡ length ds → ((x : ℕ) → id_of d ≡ Some x → slice_get m x ≡ Some place) → IsIndexed (ds ++ d ∷ []) m
IsIndexed_push ds m d place i l h = λ k x e. elim (before_or_last ds d k x e) [ inl a ↦ i k x a | inr b ↦ h x b.1 ∙ ap (λ j. Some j) (l ∙ sym b.0) ]

number_other : (x : ℕ) (o : Option ℕ) → o ≢ Some x → is_number x o ≡ false
number_other x None h = refl
number_other x (Some y) h = not_true (x == y) (λ t. h (ap (λ z. Some z) (sym (eq_true x y t))))
  where
    not_true : (b : Bool) → (b ≡ true → ⊥) → b ≡ false
    not_true true h = absurd (h refl)
    not_true false h = refl

pub declared_none : (ds : List Decl) (x : ℕ) → ((k : ℕ) → id_at ds k ≢ Some x) → declaration_in ds x ≡ None
declared_none [] x h = refl
declared_none (d ∷ ds) x h = ap (λ b. cond b (Some d) (declaration_in ds x)) (number_other x (id_of d) (h zero)) ∙ declared_none ds x (λ k. h (suc k))

pub declared_unique : (ds : List Decl) (x k : ℕ) (d : Decl) → ((j : ℕ) → id_at ds j ≡ Some x → j ≡ k) → slice_get ds k ≡ Some d → id_of d ≡ Some x → declaration_in ds x ≡ Some d
declared_unique [] x k d u g e = absurd (cc)
declared_unique (c ∷ ds) x zero d u g e =
    let same : c ≡ d = cc in
    ap (λ b. cond b (Some c) (declaration_in ds x)) (ap (λ a. is_number x (id_of a)) same ∙ (ap (is_number x) e ∙ equals_refl x)) ∙ g
declared_unique (c ∷ ds) x (suc k) d u g e =
    ap (λ b. cond b (Some c) (declaration_in ds x)) (number_other x (id_of c) (λ s. absurd (let z : zero ≡ suc k = u zero s in omega arith))) ∙ declared_unique ds x k d (λ j s. let z : suc j ≡ suc k = u (suc j) s in omega arith) g e

-- what the index answers
pub found_none : (ds : List Decl) (m : List ℕ) (x : ℕ) → IsIndexed ds m → slice_get m x ≡ None → declaration_in ds x ≡ None
found_none ds m x i g = declared_none ds x (λ k e. let f : slice_get m x ≡ Some k = i k x e in absurd (cc))

pub found_other : (ds : List Decl) (m : List ℕ) (x k : ℕ) → IsIndexed ds m → slice_get m x ≡ Some k → id_at ds k ≢ Some x → declaration_in ds x ≡ None
found_other ds m x k i g n = declared_none ds x (λ j e. let f : slice_get m x ≡ Some j = i j x e in let s : j ≡ k = cc in n (subst (λ a. id_at ds a ≡ Some x) s e))

pub found_here : (ds : List Decl) (m : List ℕ) (x k : ℕ) (d : Decl) → IsIndexed ds m → slice_get m x ≡ Some k → slice_get ds k ≡ Some d → id_of d ≡ Some x → declaration_in ds x ≡ Some d
found_here ds m x k d i g s e = declared_unique ds x k d (λ j f. let h : slice_get m x ≡ Some j = i j x f in cc) s e

pub found_past : (ds : List Decl) (m : List ℕ) (x k : ℕ) → IsIndexed ds m → slice_get m x ≡ Some k → slice_get ds k ≡ None → declaration_in ds x ≡ None
found_past ds m x k i g s = found_other ds m x k i g (λ e. let f : option_and_then id_of (slice_get ds k) ≡ None = ap (option_and_then id_of) s in let h : Some x ≡ None = sym e ∙ f in absurd (cc))

pub found_skip : (ds : List Decl) (m : List ℕ) (x k : ℕ) (d : Decl) → IsIndexed ds m → slice_get m x ≡ Some k → slice_get ds k ≡ Some d → id_of d ≢ Some x → declaration_in ds x ≡ None
found_skip ds m x k d i g s n = found_other ds m x k i g (λ e. let f : option_and_then id_of (slice_get ds k) ≡ id_of d = ap (option_and_then id_of) s in n (sym f ∙ e))

new_absent : (ds : List Decl) (d : Decl) (x : ℕ) → id_of d ≡ Some x → IsNew ds d → declaration_in ds x ≡ None
new_absent ds (decl.Name id class args result) x e n = let f : id.0 ≡ x = cc in subst (λ y. declaration_in ds y ≡ None) f n
new_absent ds (decl.Equation t) x e n = absurd (cc)
new_absent ds (decl.Equiv id t) x e n = let f : id.0 ≡ x = cc in subst (λ y. declaration_in ds y ≡ None) f n
new_absent ds (decl.Query t) x e n = absurd (cc)

-- an index in which the place of one declaration more is noted
pub IsIndexed_note : (ds now : List Decl) (m n : List ℕ) (d : Decl) → ds ≡ now → IsIndexed ds m → IsNew now d → ((x k : ℕ) → id_of d ≢ Some x → slice_get m x ≡ Some k → slice_get n x ≡ Some k) → IsIndexed ds n
IsIndexed_note ds now m n d v i new others = λ k x e. others x k (λ f. absent ds x (subst (λ ts. declaration_in ts x ≡ None) (sym v) (new_absent now d x f new)) k x e refl) (i k x e)

-- the names of a list
pub name_here : (trees : List KindTree) (at : Option NodeId) (n : NodeId) (o : Opened) (k : ℕ) → at ≡ Some n → tree_at trees (Some n) ≡ Node o.head (tree_at trees o.first) (tree_at trees o.second) → k ≡ 0 → name_at (tree_at trees at) k ≡ name_in o.head
unfolding name_at
name_here trees at n o k e f z = ap (λ a. name_at (tree_at trees a) k) e ∙ (ap (λ t. name_at t k) f ∙ ap (name_at (Node o.head (tree_at trees o.first) (tree_at trees o.second))) z)

past : (h : Head) (a b : Tree) (k : ℕ) → (k ≡ 0 → ⊥) → name_at (Node h a b) k ≡ name_at b (k - 1)
unfolding name_at
past h a b zero n = absurd (n refl)
past h a b (suc k) n = let e : k ≡ suc k - 1 = omega arith in ap (name_at b) e

pub name_next : (trees : List KindTree) (at : Option NodeId) (n : NodeId) (o : Opened) (k : ℕ) → at ≡ Some n → tree_at trees (Some n) ≡ Node o.head (tree_at trees o.first) (tree_at trees o.second) → (k ≡ 0 → ⊥) → name_at (tree_at trees at) k ≡ name_at (tree_at trees o.second) (k - 1)
name_next trees at n o k e f z = ap (λ a. name_at (tree_at trees a) k) e ∙ (ap (λ t. name_at t k) f ∙ past o.head (tree_at trees o.first) (tree_at trees o.second) k z)

pub name_end : (trees : List KindTree) (at : Option NodeId) (k : ℕ) → at ≡ None → name_at (tree_at trees at) k ≡ None
unfolding name_at tree_of
name_end trees at k e = ap (λ a. name_at (tree_at trees a) k) e

pub name_other : (h : Head) → ((x : ℕ) → h ≡ Name x → ⊥) → name_in h ≡ None
name_other (Name x) n = absurd (n x refl)
name_other h n = refl

-- what is found is in the list, and has the name
found_named : (ds : List Decl) (x : ℕ) (d : Decl) → All IsNamed ds → declaration_in ds x ≡ Some d → IsNamed d × (is_number x (id_of d) ≡ true)
found_named [] x d a e = absurd (cc)
found_named (c ∷ ds) x d a e = by_test (is_number x (id_of c)) refl e (λ f. found_named ds x d (λ k b l. a (suc k) b (omega arith)) f)
  where
    by_test : (b : Bool) → is_number x (id_of c) ≡ b → cond b (Some c) (declaration_in ds x) ≡ Some d → (declaration_in ds x ≡ Some d → IsNamed d × (is_number x (id_of d) ≡ true)) → IsNamed d × (is_number x (id_of d) ≡ true)
    by_test true t f rest = let same : c ≡ d = cc in (subst IsNamed same (a zero c (omega arith)), subst (λ (m : Decl). is_number x (id_of m) ≡ true) same t)
    by_test false t f rest = rest f

not_free : (d : Decl) (x : ℕ) → IsNamed d → is_number x (id_of d) ≡ true → class_by (Some d) ≡ class.Free → ⊥
not_free (decl.Name id class.Free args result) x n t e = n
not_free (decl.Name id class.Equiv args result) x n t e = n
not_free (decl.Name id c args result) x n t e = cc
not_free (decl.Equation a) x n t e = absurd (cc)
not_free (decl.Equiv id a) x n t e = absurd (cc)
not_free (decl.Query a) x n t e = absurd (cc)

-- a name is free exactly where nothing declares it
pub free_only : (ds : List Decl) (x : ℕ) → All IsNamed ds → (class_in ds x ≡ class.Free) ↔ (declaration_in ds x ≡ None)
free_only ds x a = by_found (declaration_in ds x) refl
  where
    by_found : (o : Option Decl) → declaration_in ds x ≡ o → (class_in ds x ≡ class.Free) ↔ (declaration_in ds x ≡ None)
    by_found None e = (λ _. e, λ _. ap class_by e)
    by_found (Some d) e = (
      λ f. let n = found_named ds x d a e in absurd (not_free d x n.0 n.1 (sym (ap class_by e) ∙ f)),
      λ f. absurd (let g : Some d ≡ None = sym e ∙ f in cc),
    )

pub free_by : (ds : List Decl) (x : ℕ) (c : Class) → All IsNamed ds → c ≡ class_in ds x → (c ≡ class.Free) ↔ (declaration_in ds x ≡ None)
free_by ds x c a e = (λ f. (free_only ds x a).0 (sym e ∙ f), λ n. e ∙ (free_only ds x a).1 n)

pub IsNamed_push : (ds es : List Decl) (d : Decl) → es ≡ ds ++ d ∷ [] → All IsNamed ds → IsNamed d → All IsNamed es
IsNamed_push ds es d e a n = subst (All IsNamed) (sym e) (All-append IsNamed ds (d ∷ []) a (λ k c l. one k c l))
  where
    one : (k : ℕ) (c : Decl) → k < length (d ∷ []) → IsNamed (get_or (d ∷ []) k c)
    one zero c l = n
    one (suc k) c l = absurd (omega arith)
