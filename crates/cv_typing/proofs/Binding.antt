-- The tables of the names of functions, as they are made.
use Rattle.std.proofs.Common.{◌≡◌, ℕ, Bool, true, false, cond, List, [], ◌∷◌, ◌++◌, refl, ap, ap₂, sym, ◌∙◌, eqb-true, Option, Some, None}
use Rattle.std.specs.Prelude.{◌==◌}
use Rattle.std.proofs.Math.Path.{fun_ext}
use Rattle.cv_syntax_trees.specs.declared.head.Head.{Head}
use Rattle.cv_syntax_trees.specs.declared.head.Head.TheVariants.{Let, New}
use Rattle.cv_syntax_trees.specs.Tree.{Tree, Empty, Node, first, second}
use Rattle.cv_typing.specs.declared.locals.Own.{Own}
use Rattle.cv_scope_rules.specs.declared.typing.precedence.Precedence.TheVariants.{First}
use Rattle.cv_syntax_trees.specs.declared.sites.sort.Sort.{Sort}
use Rattle.cv_syntax_trees.specs.declared.sites.sort.Sort.TheVariants.{OfType}
use Rattle.cv_scope_rules.specs.typing.Parts.{bound_at, local_here, local_in, nothing_above, own_sort, sort_by_bound, with_taken}
use Rattle.cv_scope_rules.specs.typing.Signature.{Above}
use Rattle.cv_syntax_trees.specs.sites.Sites.{first_of}
use Rattle.cv_typing.specs.Tables.{ByBound, above_of, and_else, by_bound_in, with_body, with_function, with_functions, with_here}
use Rattle.cv_scope_rules.specs.typing.Wants.{bound}
use Rattle.cv_directory.proofs.Entries.{first_nothing, first_assoc}

pub same_table : (l k : ByBound) → ((n y : ℕ) → l n y ≡ k n y) → l ≡ k
same_table l k f = fun_ext (λ n. fun_ext (λ y. f n y))

-- bodies

here_bound : (above : Above) (x T : ℕ) (h : Head) → ((y : ℕ) → local_here y h ≡ cond (x == y) (Some (OfType T)) None) → bound First above x (OfType T) ≡ with_here above h
here_bound above x T h e = fun_ext (λ y. cases y (x == y) refl ∙ ap (first_of (above y)) (sym (e y)))
  where
    cases : (y : ℕ) (b : Bool) → (x == y) ≡ b → cond b (first_of (above x) (Some (OfType T))) (above y) ≡ first_of (above y) (cond b (Some (OfType T)) None)
    cases y true d = ap (λ z. first_of (above z) (Some (OfType T))) (eqb-true x y d)
    cases y false d = sym (first_nothing (above y))

pub new_here : (above : Above) (h : Head) (x T : ℕ) → h ≡ New x T → bound First above x (OfType T) ≡ with_here above h
new_here above h x T e = here_bound above x T (New x T) (λ y. refl) ∙ sym (ap (with_here above) e)

pub none_here : (above : Above) (h : Head) → ((x T : ℕ) → h ≡ New x T → ⊥) → ((x T : ℕ) → h ≡ Let x T → ⊥) → above ≡ with_here above h
none_here above h n k = fun_ext (λ y. sym (first_nothing (above y)) ∙ ap (first_of (above y)) (sym (step h n k y)))
  where
    step : (h : Head) → ((x T : ℕ) → h ≡ New x T → ⊥) → ((x T : ℕ) → h ≡ Let x T → ⊥) → (y : ℕ) → local_here y h ≡ None
    step (New x T) n k y = absurd (n x T refl)
    step (Let x T) n k y = absurd (k x T refl)
    step h n k y = refl

pub body_step : (above : Above) (t : Tree) (h : Head) (a b : Tree) → t ≡ Node h a b → with_body above t ≡ with_body (with_body (with_here above h) a) b
unfolding local_in
body_step above t h a b e = ap (with_body above) e ∙ fun_ext (λ y. sym (ap (λ o. first_of o (local_in y b)) (first_assoc (above y) (local_here y h) (local_in y a)) ∙ (first_assoc (above y) (first_of (local_here y h) (local_in y a)) (local_in y b) ∙ ap (first_of (above y)) (first_assoc (local_here y h) (local_in y a) (local_in y b)))))

pub body_end : (above : Above) (t : Tree) → t ≡ Empty → with_body above t ≡ above
unfolding local_in
body_end above t e = ap (with_body above) e ∙ fun_ext (λ y. first_nothing (above y))

-- what a function binds, by the names that it takes and its body
pub own_all : (taken named empty : Above) (f a b : Tree) → named ≡ with_body taken b → taken ≡ with_taken empty a → empty ≡ nothing_above → a ≡ first f → b ≡ second f → named ≡ (λ x. own_sort x (first f) (second f))
own_all taken named empty f a b en et ee ea eb = en ∙ (ap₂ with_body (et ∙ ap₂ with_taken ee ea) eb ∙ fun_ext (λ x. refl))

-- one more function
pub own_last : (fs : List Own) (o : Own) → by_bound_in (fs ++ o ∷ []) ≡ and_else (by_bound_in fs) o.bound (above_of o.sorts)
own_last fs o = same_table _ _ (go fs)
  where
    last : (b : Bool) (p : Option Sort) → cond b (first_of p None) None ≡ cond b p None
    last true p = first_nothing p
    last false p = refl

    more : (b : Bool) (p q r : Option Sort) → cond b (first_of p (first_of q r)) (first_of q r) ≡ first_of (cond b (first_of p q) q) r
    more true p q r = sym (first_assoc p q r)
    more false p q r = refl

    go : (fs : List Own) (m x : ℕ) → by_bound_in (fs ++ o ∷ []) m x ≡ and_else (by_bound_in fs) o.bound (above_of o.sorts) m x
    go [] m x = last (o.bound == m) (above_of o.sorts x)
    go (f ∷ fs) m x = ap (λ r. cond (f.bound == m) (first_of (above_of f.sorts x) r) r) (go fs m x) ∙ more (f.bound == m) (above_of f.sorts x) (by_bound_in fs m x) (cond (o.bound == m) (above_of o.sorts x) None)

-- functions
pub functions_step : (l : ByBound) (t : Tree) (h : Head) (f more : Tree) → t ≡ Node h f more → with_functions l t ≡ with_functions (with_function l f) more
unfolding sort_by_bound
functions_step l t h f more e = ap (with_functions l) e ∙ same_table _ _ (λ n y. cases (l n y) (bound_at (first f) == n) (own_sort y (first f) (second f)) (sort_by_bound more n y))
  where
    cases : (o : Option Sort) (b : Bool) (p q : Option Sort) → first_of o (cond b (first_of p q) q) ≡ first_of (first_of o (cond b p None)) q
    cases (Some S) b p q = refl
    cases None true p q = refl
    cases None false p q = refl

pub functions_end : (l : ByBound) (t : Tree) → t ≡ Empty → with_functions l t ≡ l
unfolding sort_by_bound
functions_end l t e = ap (with_functions l) e ∙ same_table _ _ (λ n y. first_nothing (l n y))

pub from_no_locals : (fs : List Own) (t : Tree) → fs ≡ [] → with_functions (by_bound_in fs) t ≡ sort_by_bound t
from_no_locals fs t e = ap (λ l. with_functions (by_bound_in l) t) e ∙ same_table _ _ (λ n y. refl)
