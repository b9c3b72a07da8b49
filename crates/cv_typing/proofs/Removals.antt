-- Names above, as they come and go.
use Rattle.std.proofs.Common.{◌≡◌, ℕ, Bool, true, false, cond, List, [], ◌∷◌, ◌++◌, length, refl, ap, ap₂, sym, ◌∙◌, nat_eq, eqb-true, arith, Option, Some, None, is_some}
use Rattle.std.specs.Prelude.{◌==◌}
use Rattle.std.proofs.Math.Path.{fun_ext}
use Rattle.std.specs.HashMap.{Updates, UpdatesBy}
use Rattle.cv_syntax_trees.specs.declared.head.Head.{Head}
use Rattle.cv_syntax_trees.specs.declared.head.Head.TheVariants.{Binder, Branch, Let, New, Repl}
use Rattle.cv_syntax_trees.specs.Tree.{Tree, Empty, Node}
use Rattle.cv_scope_rules.specs.declared.typing.precedence.Precedence.{Precedence}
use Rattle.cv_scope_rules.specs.declared.typing.precedence.Precedence.TheVariants.{First, Newest}
use Rattle.cv_syntax_trees.specs.declared.sites.sort.Sort.{Sort}
use Rattle.cv_syntax_trees.specs.sites.Sites.{first_of}
use Rattle.cv_scope_rules.specs.typing.Signature.{Above}
use Rattle.cv_typing.specs.Tables.{Map, above_of, restored}
use Rattle.cv_scope_rules.specs.typing.Wants.{all_bound, bound, with_names}

-- the function with another value at one name
abbrev updated : Above → ℕ → Option Sort → Above
updated f x o y = cond (x == y) o (f y)

-- a value and then the value of before
updated_back : (f : Above) (x : ℕ) (o : Option Sort) → updated (updated f x o) x (f x) ≡ f
updated_back f x o = fun_ext (λ y. cases y (x == y) refl)
  where
    cases : (y : ℕ) (b : Bool) → (x == y) ≡ b → cond b (f x) (cond b o (f y)) ≡ f y
    cases y true e = ap f (eqb-true x y e)
    cases y false e = refl

pub restored_none : (f : Above) → restored f [] ≡ f
restored_none f = fun_ext (λ y. refl)

-- the last entry is brought back first
pub restored_last : (f : Above) (ps : List (ℕ × Option Sort)) (x : ℕ) (o : Option Sort) → restored f (ps ++ (x, o) ∷ []) ≡ restored (updated f x o) ps
restored_last f ps x o = fun_ext (λ y. go ps y)
  where
    go : (ps : List (ℕ × Option Sort)) (y : ℕ) → restored f (ps ++ (x, o) ∷ []) y ≡ restored (updated f x o) ps y
    go [] y = refl
    go (p ∷ ps) y = ap (λ r. cond (p.0 == y) p.1 r) (go ps y)

-- a name is bound anew, and what stood there before is noted
pub bound_back : (f g : Above) (ps qs : List (ℕ × Option Sort)) (x : ℕ) (S : Sort) (o : Option Sort) → g ≡ updated f x (Some S) → o ≡ f x → qs ≡ ps ++ (x, o) ∷ [] → restored g qs ≡ restored f ps
bound_back f g ps qs x S o e d q =
    ap₂ restored e q
    ∙ (restored_last (updated f x (Some S)) ps x o
    ∙ ap (λ h. restored h ps) (ap (updated (updated f x (Some S)) x) d ∙ updated_back f x (Some S)))

-- the last entry is taken away and brought back
pub restored_step : (f g total : Above) (ps qs : List (ℕ × Option Sort)) (x : ℕ) (o : Option Sort) → restored f ps ≡ total → ps ≡ qs ++ (x, o) ∷ [] → g ≡ updated f x o → restored g qs ≡ total
restored_step f g total ps qs x o h e u = ap (λ k. restored k qs) u ∙ (sym (restored_last f qs x o) ∙ (ap (restored f) (sym e) ∙ h))

-- nothing is left to bring back
pub restored_end : (f total : Above) (ps : List (ℕ × Option Sort)) → length ps ≡ 0 → restored f ps ≡ total → f ≡ total
restored_end f total [] e h = sym (restored_none f) ∙ h
restored_end f total (p ∷ ps) e h = absurd (omega arith)

pub removed : (x : ℕ) (m n : Map Sort) → UpdatesBy nat_eq (nat_eq x) m n None → above_of n ≡ updated (above_of m) x None
removed x m n u = fun_ext (λ y. u.0 y)

pub inserted : (x : ℕ) (S : Sort) (m n : Map Sort) → Updates nat_eq m n x (Some S) → above_of n ≡ updated (above_of m) x (Some S)
inserted x S m n u = fun_ext (λ y. u.0 y)

-- a name that is new
pub bound_new : (f : Above) (x : ℕ) (S : Sort) → f x ≡ None → bound Newest f x S ≡ bound First f x S
bound_new f x S n = fun_ext (λ y. ap (λ o. cond (x == y) o (f y)) (sym (ap (λ o. first_of o (Some S)) n)))

-- a name that is bound already
pub bound_old : (f : Above) (x : ℕ) (S : Sort) → is_some (f x) ≡ true → f ≡ bound First f x S
bound_old f x S n = fun_ext (λ y. cases y (x == y) refl)
  where
    keeps : (o : Option Sort) → is_some o ≡ true → o ≡ first_of o (Some S)
    keeps None e = absurd (cc)
    keeps (Some R) e = refl

    cases : (y : ℕ) (b : Bool) → (x == y) ≡ b → f y ≡ cond b (first_of (f x) (Some S)) (f y)
    cases y true e = sym (ap f (eqb-true x y e)) ∙ keeps (f x) n
    cases y false e = refl

pub not_bound : (o : Option Sort) → is_some o ≡ false → o ≡ None
not_bound None e = refl
not_bound (Some S) e = absurd (cc)

-- lists of binders
pub bound_step : (r : Precedence) (f : Above) (sort : ℕ → Sort) (t : Tree) (h : Head) (a b : Tree) (x T : ℕ) → t ≡ Node h a b → h ≡ Binder x T → all_bound r f sort t ≡ all_bound r (bound r f x (sort T)) sort b
unfolding all_bound
bound_step r f sort t h a b x T e g = ap (all_bound r f sort) e ∙ ap (λ k. all_bound r f sort (Node k a b)) g

pub bound_skip : (r : Precedence) (f : Above) (sort : ℕ → Sort) (t : Tree) (h : Head) (a b : Tree) → t ≡ Node h a b → ((x T : ℕ) → h ≡ Binder x T → ⊥) → all_bound r f sort t ≡ all_bound r f sort b
unfolding all_bound
bound_skip r f sort t h a b e n = ap (all_bound r f sort) e ∙ step h n
  where
    step : (h : Head) → ((x T : ℕ) → h ≡ Binder x T → ⊥) → all_bound r f sort (Node h a b) ≡ all_bound r f sort b
    step (Binder x T) n = absurd (n x T refl)
    step h n = refl

pub bound_end : (r : Precedence) (f : Above) (sort : ℕ → Sort) (t : Tree) → t ≡ Empty → all_bound r f sort t ≡ f
unfolding all_bound
bound_end r f sort t e = ap (all_bound r f sort) e

-- a node that binds nothing
pub names_other : (f : Above) (h : Head) (a : Tree) → ((i n : ℕ) → h ≡ Repl i n → ⊥) → ((x T : ℕ) → h ≡ New x T → ⊥) → ((x T : ℕ) → h ≡ Let x T → ⊥) → (h ≡ Branch → ⊥) → f ≡ with_names h a f
names_other f (Repl i n) a r m l b = absurd (r i n refl)
names_other f (New x T) a r m l b = absurd (m x T refl)
names_other f (Let x T) a r m l b = absurd (l x T refl)
names_other f Branch a r m l b = absurd (b refl)
names_other f h a r m l b = refl

pub ruleset removals = (restored_none, restored_last)
