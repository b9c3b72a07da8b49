-- What is known of the names of cells around a place of the game, where the run has come to it.
use Rattle.std.proofs.Common.{◌≡◌, ℕ, ◌==◌, Bool, true, false, cond, List, [], ◌∷◌, ◌++◌, inl, inr, Option, Some, None, is_some, refl, sym, ap, subst, ◌∙◌, eqb-true}
use Rattle.std.proofs.lemmas.Bool.{both_ways}
use Rattle.std.specs.List.{AllByRecursion}
use Rattle.cv_syntax_trees.specs.declared.head.Head.{Head}
use Rattle.cv_syntax_trees.specs.declared.head.Head.TheVariants.{Branch, Leaf, Read}
use Rattle.cv_syntax_trees.specs.Tree.{Tree, Empty, Node, first, first_place, second_place}
use Rattle.cv_syntax_trees.specs.sites.Sites.{first_of}
use Rattle.cv_meaning.specs.Interpretation.{Setting}
use Rattle.cv_meaning.specs.Memory.{Happened, Indices, Store, tuple}
use Rattle.cv_meaning.specs.Terms.{leaf_value, leaf_value_from, value, values}
use Rattle.cv_meaning.specs.Candidates.{is_assigned}
use Rattle.cv_scope_rules.specs.Context.{Context, cell_of, index_terms, items}
use Rattle.cv_scope_rules.specs.Rules.{IsAmong}
use Rattle.cv_scope_runs.specs.Promises.{AreIndicesOf}
use Rattle.cv_scope_runs.specs.Reads.{IsKept}
use Rattle.cv_scope_runs.proofs.Contexts.{CellHolds, Holds, IsFound, Matches}
use Rattle.cv_scope_runs.proofs.Standing.{Stands, in_first, in_second, root}
use Rattle.cv_scope_runs.proofs.TermsLater.{store_extends, values_kept}
use Rattle.cv_edit_names.specs.Cells.{are_mixed, cells_in, first_mixed, first_unnamed, is_cell_of}
use Rattle.cv_edit_names.specs.Splitting.{Around}
use Rattle.cv_rule_array_names.proofs.Lists.{unnamed_is}
use Rattle.cv_rule_array_names.proofs.Stores.{Free, free_first, free_second}
use Rattle.cv_rule_array_names.proofs.Values.{tuple_in}

-- what stands in lists

pub among_left : (t : Tree) (cs ds : List Tree) → IsAmong t cs → IsAmong t (cs ++ ds)
among_left t [] ds h = absurd h
among_left t (c ∷ cs) ds (inl e) = inl e
among_left t (c ∷ cs) ds (inr h) = inr (among_left t cs ds h)

pub among_right : (t : Tree) (cs ds : List Tree) → IsAmong t ds → IsAmong t (cs ++ ds)
among_right t [] ds h = h
among_right t (c ∷ cs) ds h = inr (among_right t cs ds h)

pub among_holds : (P : Tree → Type 0) (t : Tree) (cs : List Tree) → IsAmong t cs → AllByRecursion P cs → P t
among_holds P t [] l h = absurd l
among_holds P t (c ∷ cs) (inl e) h = subst P (sym e) h.0
among_holds P t (c ∷ cs) (inr l) h = among_holds P t cs l h.1

cells_among : (x : ℕ) (cells : Tree) (P : Tree → Type 0) → ((c : Tree) → IsAmong c (items cells) → P c) → AllByRecursion P (cells_in x cells)
cells_among x Empty P h = tt
cells_among x (Node k c more) P h = go (is_cell_of x c) (cells_among x more P (λ d i. h d (inr i)))
  where
    go : (b : Bool) → AllByRecursion P (cells_in x more) → AllByRecursion P (cond b (c ∷ cells_in x more) (cells_in x more))
    go true ih = (h c (inl refl), ih)
    go false ih = ih

-- an unnamed cell of a list is an item of it
pub unnamed_among : (x : ℕ) (A : List (Tree × ℕ)) (cells d : Tree) → first_unnamed A (cells_in x cells) ≡ Some d → IsAmong d (items cells)
unnamed_among x A cells d e = unnamed_is (λ c. IsAmong c (items cells)) A (cells_in x cells) d e (cells_among x cells (λ c. IsAmong c (items cells)) (λ c h. h))

-- what the whole game has, each part of it has

first_none : {A : Type 0} (o q : Option A) → first_of o q ≡ None → (o ≡ None) × (q ≡ None)
first_none None q e = (refl, e)
first_none (Some a) q e = absurd (cc)

pub record NoneMixed (x p : ℕ) (h : Head) (a b : Tree) : Type 0 where
  pub first : first_mixed x (first_place p h) a ≡ None
  pub second : first_mixed x (second_place p h a) b ≡ None

pub list_unmixed : (x p : ℕ) (us rest : Tree) → first_mixed x p (Node Branch us rest) ≡ None → are_mixed (cells_in x (first rest)) ≡ false
unfolding first_mixed
list_unmixed x p us rest e = go (are_mixed (cells_in x (first rest))) e
  where
    go : (b : Bool) → cond b (Some p) (first_of (first_mixed x (first_place p Branch) us) (first_mixed x (second_place p Branch us) rest)) ≡ None → b ≡ false
    go true e = absurd (cc)
    go false e = refl

pub none_mixed : (x p : ℕ) (h : Head) (a b : Tree) → first_mixed x p (Node h a b) ≡ None → NoneMixed x p h a b
unfolding first_mixed
none_mixed x p Branch us rest e = go (are_mixed (cells_in x (first rest))) e
  where
    go : (b : Bool) → cond b (Some p) (first_of (first_mixed x (first_place p Branch) us) (first_mixed x (second_place p Branch us) rest)) ≡ None → NoneMixed x p Branch us rest
    go true e = absurd (cc)
    go false e = let r = first_none (first_mixed x (first_place p Branch) us) _ e in record { first = r.0; second = r.1 }
none_mixed x p h a b e = let r = first_none (first_mixed x (first_place p h) a) _ e in record { first = r.0; second = r.1 }

pub stands_unmixed : (x : ℕ) (game : Tree) → first_mixed x 0 game ≡ None → {p : ℕ} {σ : _} {Γ : Context} {b : Tree} → Stands game p σ Γ b → first_mixed x p b ≡ None
stands_unmixed x game e root = e
stands_unmixed x game e (in_first {p = p} {h = h} {a = a} {b = b} q st) = (none_mixed x p h a b (stands_unmixed x game e st)).first
stands_unmixed x game e (in_second {p = p} {h = h} {a = a} {b = b} q st) = (none_mixed x p h a b (stands_unmixed x game e st)).second

pub stands_free : (ys : List ℕ) (game : Tree) → Free ys game → {p : ℕ} {σ : _} {Γ : Context} {b : Tree} → Stands game p σ Γ b → Free ys b
stands_free ys game f root = f
stands_free ys game f (in_first {h = h} {a = a} {b = b} q st) = free_first ys h a b (stands_free ys game f st)
stands_free ys game f (in_second {h = h} {a = a} {b = b} q st) = free_second ys h a b (stands_free ys game f st)

-- the tuple of a variable's own cell

terms_values : (g : Setting) (at : Indices) (m : Store) (ps rs : List (ℕ × ℕ)) → AreIndicesOf g ps rs → AllByRecursion (IsFound at) ps → values g at m (index_terms rs) ≡ tuple ps
unfolding value
terms_values g at m [] [] n f = refl
terms_values g at m [] (r ∷ rs) n f = absurd n
terms_values g at m (p ∷ ps) [] n f = absurd n
terms_values g at m (p ∷ ps) (r ∷ rs) n f =
    let this : leaf_value g at m r.0 ≡ p.1 = ap (leaf_value g at m) (sym n.0) ∙ ap (leaf_value_from g m p.0) f.0 in
    λ i. this i ∷ terms_values g at m ps rs n.2 f.1 i

pub own_tuple : (g : Setting) (variable : ℕ → Bool) (x : ℕ) (rs : List (ℕ × ℕ)) (at : Indices) (m : Store) → Matches g variable rs at → tuple_in g at m (cell_of rs x) ≡ tuple at
own_tuple g variable x [] [] m k = refl
own_tuple g variable x [] (p ∷ ps) m k = absurd k.named
own_tuple g variable x (r ∷ rs) at m k = terms_values g at m at (r ∷ rs) k.named k.found

pub own_cell : (x : ℕ) (rs : List (ℕ × ℕ)) → is_cell_of x (cell_of rs x) ≡ (x == x)
own_cell x [] = refl
own_cell x (r ∷ rs) = refl

-- names of cells that are known at a place, by the owners of copies and what the whole run has assigned
module _ (g : Setting) (variable : ℕ → Bool) (x : ℕ) (o : List ℕ → ℕ) (end : Store) where
  pub record IsTold (Γ : Context) (at : Indices) (d : Tree × ℕ) : Type 0 where
    pub cell : is_cell_of x d.0 ≡ true
    pub among : IsAmong d.0 Γ.cells
    pub owner : o (tuple_in g at end d.0) ≡ d.1

  pub record IsAround (e : Around) (Γ : Context) (at : Indices) : Type 0 where
    pub replications : e.replications ≡ Γ.replications
    pub looked_for : AllByRecursion (IsTold Γ at) e.looked_for
    pub defined : AllByRecursion (IsTold Γ at) e.defined

  -- a cell that holds has one tuple in all later stores
  pub tuple_kept : (at : Indices) (m k : Store) → IsKept m k → (c : Tree) → CellHolds g variable at m c → tuple_in g at k c ≡ tuple_in g at m c
  tuple_kept at m k l Empty h = refl
  tuple_kept at m k l (Node (Read z) a b) h = values_kept g variable at m at k (store_extends g variable at m k l) a h.readable.1
  tuple_kept at m k l (Node h a b) q = refl

  cell_there : (at : Indices) (m : Store) (c : Tree) → is_cell_of x c ≡ true → is_assigned g at m m c ≡ true → is_some (m x (tuple_in g at m c)) ≡ true
  cell_there at m Empty e a = absurd (both_ways _ refl e)
  cell_there at m (Node (Read z) a b) e h = ap (λ q. is_some (m q (values g at m a))) (sym (eqb-true z x e)) ∙ h
  cell_there at m (Node (Leaf z) a b) e h = ap (λ q. is_some (m q [])) (sym (eqb-true z x e)) ∙ h
  cell_there at m (Node h a b) e q = absurd (both_ways _ refl e)

  module _ (Γ : Context) (at : Indices) (m : Store) (es : List Happened) (holds : Holds g variable Γ at m es) (kept : IsKept m end) (d : Tree × ℕ) (told : IsTold Γ at d) where
    told_holds : CellHolds g variable at m d.0
    told_holds = among_holds (CellHolds g variable at m) d.0 Γ.cells told.among holds.cells

    pub told_tuple : (k : Store) → IsKept m k → tuple_in g at k d.0 ≡ tuple_in g at end d.0
    told_tuple k l = tuple_kept at m k l d.0 told_holds ∙ sym (tuple_kept at m end kept d.0 told_holds)

    pub told_owner : (k : Store) → IsKept m k → o (tuple_in g at k d.0) ≡ d.1
    told_owner k l = ap o (told_tuple k l) ∙ told.owner

    pub told_there : (k : Store) → IsKept m k → is_some (m x (tuple_in g at k d.0)) ≡ true
    told_there k l = ap (λ w. is_some (m x w)) (tuple_kept at m k l d.0 told_holds) ∙ cell_there at m d.0 told.cell told_holds.assigned
