-- Constants, functions and equivalences of a list of declarations, from a place on.
use Rattle.std.proofs.Common.{◌≡◌, ℕ, zero, suc, ◌+◌, ◌<◌, ◌≤◌, Bool, true, false, ◌||◌, List, [], ◌∷◌, length, drop, refl, ap, sym, ◌∙◌, arith, subst, All, Option, Some, None, IfSome, option_and_then}
use Rattle.std.specs.Prelude.{◌==◌, slice_get, if◌then◌else◌}
use Rattle.std.proofs.lemmas.List.Elements.{All-head, All-tail}
use Rattle.cv_pool.specs.declared.node.NodeId.{NodeId}
use Rattle.cv_pool.specs.KindTree.{KindTree}
use Rattle.cv_pool.specs.Nodes.{ChildBelow}
use Rattle.cv_syntax_trees.specs.declared.class.Class.TheVariants as class
use Rattle.cv_syntax.specs.declared.decls.Decl.{Decl}
use Rattle.cv_syntax.specs.declared.decls.Decl.TheVariants as decl
use Rattle.cv_syntax_trees.specs.Children.{is_empty}
use Rattle.cv_syntax.specs.Classes.{id_of, equiv_by, equiv_in, declaration_in}
use Rattle.cv_syntax.specs.Classes as classes
use Rattle.cv_syntax_trees.specs.Declarations.{Declaration, Named}
use Rattle.cv_syntax.specs.Declarations.{declarations, declared, number}
use Rattle.cv_syntax_trees.specs.Tree.{Tree, Empty, Node}
use Rattle.cv_syntax.specs.PoolTrees.{tree_at}
use Rattle.cv_meaning.specs.Interpretation.{is_constant_of}
use Rattle.cv_directory.specs.Live.{IsLive}
use Rattle.cv_group.specs.Tables.{constant_in, equiv_of, function_in}
use Rattle.cv_group.specs.Refusals.{IsRefusalOf, IsRefusalAt}
use Rattle.cv_group.specs.declared.fault.GroupFault.{GroupFault}
use Rattle.cv_group.specs.declared.fault.GroupFault.TheVariants.{LeftNotTerm, TwoIndices, ShapeDiffers, FreeName, Unread, OutOfMemory}
use Rattle.cv_group_rules.specs.Symbols.{Symbols, is_function_of}
use Rattle.cv_group_rules.specs.Faults.{GroupRule, LeftIsTerm, OneIndex, SameShape, BoundNames, ReadNames, equivalences_in, first_group_fault, group_fault, later, refused_or}
use Rattle.cv_syntax_trees.proofs.lists.Numbers.{suc_is_plus_one}

abbrev pub is_number : Option ℕ → ℕ → Bool
is_number None x = false
is_number (Some y) x = y == x

named_here : (y : ℕ) (d : Bool) (a : Tree) (r : Option ℕ) (ds : List Declaration) (x : ℕ) → is_constant_of (Named y (class.Fun d) a r ∷ ds) x ≡ (is_number (if is_empty a then Some y else None) x || is_constant_of ds x)
named_here y d Empty r ds x = refl
named_here y d (Node h a b) r ds x = refl

-- one declaration
constant_here : (trees : List KindTree) (d : Decl) (ds : List Declaration) (x : ℕ) → is_constant_of (declared trees d ∷ ds) x ≡ (is_number (constant_in trees (Some d)) x || is_constant_of ds x)
constant_here trees (decl.Name id (class.Fun d) a r) ds x = named_here id.0 d (tree_at trees a) (number r) ds x
constant_here trees d ds x = refl

constants_from : (trees : List KindTree) (ds : List Decl) (k x : ℕ) → k < length ds → is_constant_of (declarations trees (drop k ds)) x ≡ (is_number (constant_in trees (slice_get ds k)) x || is_constant_of (declarations trees (drop (suc k) ds)) x)
constants_from trees [] k x l = absurd (omega arith)
constants_from trees (d ∷ ds) zero x l = constant_here trees d (declarations trees ds) x
constants_from trees (d ∷ ds) (suc k) x l = constants_from trees ds k x (omega arith)

pub constants_step : (trees : List KindTree) (ds : List Decl) (k : ℕ) (o : Option ℕ) → k < length ds → o ≡ constant_in trees (slice_get ds k) → (x : ℕ) → is_constant_of (declarations trees (drop k ds)) x ≡ (is_number o x || is_constant_of (declarations trees (drop (k + 1) ds)) x)
constants_step trees ds k o l e x =
    constants_from trees ds k x l
    ∙ (ap (λ q. is_number q x || is_constant_of (declarations trees (drop (suc k) ds)) x) (sym e)
    ∙ ap (λ j. is_number o x || is_constant_of (declarations trees (drop j ds)) x) (suc_is_plus_one k))

pub constants_past : (trees : List KindTree) (ds : List Decl) (k x : ℕ) → length ds ≤ k → is_constant_of (declarations trees (drop k ds)) x ≡ false
constants_past trees [] zero x l = refl
constants_past trees [] (suc k) x l = refl
constants_past trees (d ∷ ds) zero x l = absurd (omega arith)
constants_past trees (d ∷ ds) (suc k) x l = constants_past trees ds k x (omega arith)

-- the same of functions

function_here : (trees : List KindTree) (d : Decl) (ds : List Declaration) (x : ℕ) → is_function_of (declared trees d ∷ ds) x ≡ (is_number (function_in (Some d)) x || is_function_of ds x)
function_here trees (decl.Name id (class.Fun d) a r) ds x = refl
function_here trees d ds x = refl

functions_from : (trees : List KindTree) (ds : List Decl) (k x : ℕ) → k < length ds → is_function_of (declarations trees (drop k ds)) x ≡ (is_number (function_in (slice_get ds k)) x || is_function_of (declarations trees (drop (suc k) ds)) x)
functions_from trees [] k x l = absurd (omega arith)
functions_from trees (d ∷ ds) zero x l = function_here trees d (declarations trees ds) x
functions_from trees (d ∷ ds) (suc k) x l = functions_from trees ds k x (omega arith)

pub functions_step : (trees : List KindTree) (ds : List Decl) (k : ℕ) (o : Option ℕ) → k < length ds → o ≡ function_in (slice_get ds k) → (x : ℕ) → is_function_of (declarations trees (drop k ds)) x ≡ (is_number o x || is_function_of (declarations trees (drop (k + 1) ds)) x)
functions_step trees ds k o l e x =
    functions_from trees ds k x l
    ∙ (ap (λ q. is_number q x || is_function_of (declarations trees (drop (suc k) ds)) x) (sym e)
    ∙ ap (λ j. is_number o x || is_function_of (declarations trees (drop j ds)) x) (suc_is_plus_one k))

pub functions_past : (trees : List KindTree) (ds : List Decl) (k x : ℕ) → length ds ≤ k → is_function_of (declarations trees (drop k ds)) x ≡ false
functions_past trees [] zero x l = refl
functions_past trees [] (suc k) x l = refl
functions_past trees (d ∷ ds) zero x l = absurd (omega arith)
functions_past trees (d ∷ ds) (suc k) x l = functions_past trees ds k x (omega arith)

-- of a list all are live, so what stands at a place is
pub live_at : (n : ℕ) (ds : List Decl) (k : ℕ) (o : Option Decl) → All (IsLive n) ds → o ≡ slice_get ds k → IfSome o (IsLive n)
live_at n ds k o p e = subst (λ q. IfSome q (IsLive n)) (sym e) (go ds k p)
  where
    go : (ds : List Decl) (k : ℕ) → All (IsLive n) ds → IfSome (slice_get ds k) (IsLive n)
    go [] k p = tt
    go (d ∷ ds) zero p = All-head (IsLive n) d ds p
    go (d ∷ ds) (suc k) p = go ds k (All-tail (IsLive n) d ds p)

-- equivalences

pub equivs_skip : (trees : List KindTree) (ds : List Decl) (k : ℕ) → k < length ds → option_and_then equiv_of (slice_get ds k) ≡ None → equivalences_in (declarations trees (drop k ds)) ≡ equivalences_in (declarations trees (drop (k + 1) ds))
unfolding equivalences_in
equivs_skip trees [] k l e = absurd (omega arith)
equivs_skip trees (decl.Name id c args result ∷ ds) zero l e = refl
equivs_skip trees (decl.Equation n ∷ ds) zero l e = refl
equivs_skip trees (decl.Equiv id n ∷ ds) zero l e = absurd (cc)
equivs_skip trees (decl.Query n ∷ ds) zero l e = refl
equivs_skip trees (x ∷ ds) (suc k) l e =
    let n : suc k + 1 ≡ suc (k + 1) = omega arith in equivs_skip trees ds k (omega arith) e ∙ ap (λ j. equivalences_in (declarations trees (drop j (x ∷ ds)))) (sym n)

pub equivs_take : (trees : List KindTree) (ds : List Decl) (k : ℕ) (q : NodeId) → option_and_then equiv_of (slice_get ds k) ≡ Some q → equivalences_in (declarations trees (drop k ds)) ≡ tree_at trees (Some q) ∷ equivalences_in (declarations trees (drop (k + 1) ds))
unfolding equivalences_in
equivs_take trees [] k q e = absurd (cc)
equivs_take trees (decl.Name id c args result ∷ ds) zero q e = absurd (cc)
equivs_take trees (decl.Equation n ∷ ds) zero q e = absurd (cc)
equivs_take trees (decl.Equiv id n ∷ ds) zero q e = let h : n ≡ q = cc in ap (λ m. tree_at trees (Some m) ∷ equivalences_in (declarations trees ds)) h
equivs_take trees (decl.Query n ∷ ds) zero q e = absurd (cc)
equivs_take trees (x ∷ ds) (suc k) q e =
    let n : suc k + 1 ≡ suc (k + 1) = omega arith in equivs_take trees ds k q e ∙ ap (λ j. tree_at trees (Some q) ∷ equivalences_in (declarations trees (drop j (x ∷ ds)))) (sym n)

pub equivs_past : (trees : List KindTree) (ds : List Decl) (k : ℕ) → length ds ≤ k → equivalences_in (declarations trees (drop k ds)) ≡ []
unfolding equivalences_in
equivs_past trees [] zero l = refl
equivs_past trees [] (suc k) l = refl
equivs_past trees (x ∷ ds) zero l = absurd (omega arith)
equivs_past trees (x ∷ ds) (suc k) l = equivs_past trees ds k (omega arith)

pub equiv_below : (bound : ℕ) (ds : List Decl) (k : ℕ) (q : NodeId) → All (IsLive bound) ds → option_and_then equiv_of (slice_get ds k) ≡ Some q → q.0 < bound
equiv_below bound [] k q p e = absurd (cc)
equiv_below bound (decl.Name id c args result ∷ ds) zero q p e = absurd (cc)
equiv_below bound (decl.Equation n ∷ ds) zero q p e = absurd (cc)
equiv_below bound (decl.Equiv id n ∷ ds) zero q p e = let h : n ≡ q = cc in subst (λ (m : NodeId). m.0 < bound) h (All-head (IsLive bound) (decl.Equiv id n) ds p)
equiv_below bound (decl.Query n ∷ ds) zero q p e = absurd (cc)
equiv_below bound (d ∷ ds) (suc k) q p e = equiv_below bound ds k q (All-tail (IsLive bound) d ds p) e

pub equiv_named : (bound : ℕ) (ds : List Decl) (x : ℕ) → All (IsLive bound) ds → ChildBelow bound (equiv_in ds x)
equiv_named bound [] x p = tt
equiv_named bound (d ∷ ds) x p = go (classes.is_number x (id_of d)) (equiv_named bound ds x (All-tail (IsLive bound) d ds p))
  where
    here : (d : Decl) → IsLive bound d → ChildBelow bound (equiv_by (Some d))
    here (decl.Name id c args result) l = tt
    here (decl.Equation n) l = tt
    here (decl.Equiv id n) l = l
    here (decl.Query n) l = tt

    go : (b : Bool) → ChildBelow bound (equiv_in ds x) → ChildBelow bound (equiv_by (if b then Some d else declaration_in ds x))
    go true l = here d (All-head (IsLive bound) d ds p)
    go false l = l

-- faults behind so many equivalences

abbrev pub behind : ℕ → Option (ℕ × GroupRule) → Option (ℕ × GroupRule)
behind n None = None
behind n (Some (k, r)) = Some (k + n, r)

pub none_before : (o : Option (ℕ × GroupRule)) → behind 0 o ≡ o
none_before None = refl
none_before (Some (k, r)) = let n : k + 0 ≡ k = omega arith in ap (λ j. Some (j, r)) n

module _ (symbols : Symbols) (t : Tree) (ts rest : List Tree) (n : ℕ) (total : Option (ℕ × GroupRule)) where
  -- one that is accepted
  pub refused_later : rest ≡ t ∷ ts → group_fault symbols t ≡ None → behind n (first_group_fault symbols rest) ≡ total → behind (n + 1) (first_group_fault symbols ts) ≡ total
  unfolding first_group_fault
  refused_later e f h =
      one_later (first_group_fault symbols ts)
      ∙ (ap (λ o. behind n (refused_or o (first_group_fault symbols ts))) (sym f)
      ∙ (ap (λ l. behind n (first_group_fault symbols l)) (sym e) ∙ h))
    where
      one_later : (o : Option (ℕ × GroupRule)) → behind (n + 1) o ≡ behind n (later o)
      one_later None = refl
      one_later (Some (k, r)) = let m : k + (n + 1) ≡ suc k + n = omega arith in ap (λ j. Some (j, r)) m

  refused_here : (r : GroupRule) → rest ≡ t ∷ ts → group_fault symbols t ≡ Some r → behind n (first_group_fault symbols rest) ≡ total → total ≡ Some (n + 1, r)
  unfolding first_group_fault
  refused_here r e f h =
      let m : 1 + n ≡ n + 1 = omega arith in
      sym h ∙ (ap (λ l. behind n (first_group_fault symbols l)) e ∙ (ap (λ o. behind n (refused_or o (first_group_fault symbols ts))) f ∙ ap (λ j. Some (j, r)) m))

  -- one that is not
  pub refusal_at : (x : GroupFault) → rest ≡ t ∷ ts → behind n (first_group_fault symbols rest) ≡ total → IsRefusalOf (group_fault symbols t) x → IsRefusalAt total (n + 1) x
  refusal_at LeftNotTerm e h f = refused_here LeftIsTerm e f h
  refusal_at TwoIndices e h f = refused_here OneIndex e f h
  refusal_at ShapeDiffers e h f = refused_here SameShape e f h
  refusal_at FreeName e h f = refused_here BoundNames e f h
  refusal_at Unread e h f = refused_here ReadNames e f h
  refusal_at OutOfMemory e h f = tt

pub refused_none : (symbols : Symbols) (rest : List Tree) (n : ℕ) (total : Option (ℕ × GroupRule)) → rest ≡ [] → behind n (first_group_fault symbols rest) ≡ total → total ≡ None
unfolding first_group_fault
refused_none symbols rest n total e h = sym (ap (λ l. behind n (first_group_fault symbols l)) (sym e) ∙ h)
